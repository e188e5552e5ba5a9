use Rattle.std.proofs.Common.{◌≡◌, ◌≤◌, take}
use Rattle.wide_editable.specs.Edited.{HasRun}
use Rattle.wide_editable.proofs.lockstep.make_all.Given as goal

-- The loop invariant: as many edits were made as were iterated over.
abbrev pub invariant-loop-edit : goal.invariant-loop-edit
invariant-loop-edit g l =
    let text = g.T.TextEdit.text in
    record {
      count : l.done ≡ l.edit-index;
      made : HasRun (text l.fn.text) (take l.edit-index l.edits) (text l.text) l.fn.replies.items l.replies.items;
      capacity : g.T.TextEdit.capacity l.fn.text ≤ g.T.TextEdit.capacity l.text;
    }

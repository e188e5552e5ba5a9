use Rattle.std.proofs.Common.{◌≡◌, ◌≤◌, take}
use Rattle.wide_editable.specs.Edited.{HasRun}
use Rattle.wide_editable.proofs.lockstep.make_all_both.Given as goal

-- The loop invariant: as many edits were made in both texts as were iterated over.
abbrev pub invariant-loop-edit : goal.invariant-loop-edit
invariant-loop-edit g l =
    let first_text = g.T.TextEdit.text in
    let second_text = g.U.TextEdit.text in
    record {
      count : l.done ≡ l.edit-index;
      made_first : HasRun (first_text l.fn.first) (take l.edit-index l.edits) (first_text l.first) l.fn.first_replies.items l.first_replies.items;
      made_second : HasRun (second_text l.fn.second) (take l.edit-index l.edits) (second_text l.second) l.fn.second_replies.items l.second_replies.items;
      capacity_first : g.T.TextEdit.capacity l.fn.first ≤ g.T.TextEdit.capacity l.first;
      capacity_second : g.U.TextEdit.capacity l.fn.second ≤ g.U.TextEdit.capacity l.second;
    }

-- A run extended by one step, and texts with the same characters, which have the same characters after a run.
use Rattle.std.proofs.Common.{◌≡◌, ℕ, ◌+◌, ◌<◌, List, [], ◌∷◌, ◌++◌, refl, sym, ◌∙◌, ap, append_assoc, map, take, drop, length, subst, get_or}
use Rattle.std.proofs.lemmas.List.{map-append, take_more, take-append-drop}
use Rattle.std.proofs.Math.Seq.{take-append_seam, drop-append_seam}
use Rattle.wide_edit.specs.declared.edits.Edit.{Edit}
use Rattle.wide_edit.specs.declared.edits.Reply.{Reply}
use Rattle.wide_edit.specs.Step.{reply_data, step, meaning}
use Rattle.wide_editable.specs.Edited.{HasStepped, HasRun}

text_last : (l : List ℕ) (edits : List Edit) (edit : Edit) → (meaning l (edits ++ edit ∷ [])).0 ≡ (step (meaning l edits).0 edit).0
text_last l [] edit = refl
text_last l (first ∷ edits) edit = text_last (step l first).0 edits edit

replies_last : (l : List ℕ) (edits : List Edit) (edit : Edit) → (meaning l (edits ++ edit ∷ [])).1 ≡ (meaning l edits).1 ++ (step (meaning l edits).0 edit).1 ∷ []
replies_last l [] edit = refl
replies_last l (first ∷ edits) edit = ap (λ more. (step l first).1 ∷ more) (replies_last (step l first).0 edits edit)

module _ (l : List ℕ) (edits : List Edit) (edit : Edit) (mid new : List ℕ) (before between after : List Reply) (run : HasRun l edits mid before between) (stepped : HasStepped mid edit new between after) where
  -- The replies of the run.
  abbrev more : List Reply
  more = drop (length before) between

  abbrev reply : Reply
  reply = stepped.replied.0

  after-parts : after ≡ before ++ (more ++ reply ∷ [])
  after-parts =
      stepped.replied.1 ∙ ap (λ rs. rs ++ reply ∷ []) (sym (take-append-drop (length before) between) ∙ ap (λ rs. rs ++ more) run.unchanged)
      ∙ append_assoc before more (reply ∷ [])

  replies-more : map reply_data (more ++ reply ∷ []) ≡ (meaning l (edits ++ edit ∷ [])).1
  replies-more =
      map-append reply_data more (reply ∷ []) ∙ ap (λ replies. replies ++ reply_data reply ∷ []) run.replies
      ∙ ap (λ a. (meaning l edits).1 ++ a ∷ []) (stepped.replied.2 ∙ ap (λ t. (step t edit).1) run.text) ∙ sym (replies_last l edits edit)

  run_more : HasRun l (edits ++ edit ∷ []) new before after
  run_more = record {
    text = stepped.text ∙ ap (λ t. (step t edit).0) run.text ∙ sym (text_last l edits edit);
    unchanged = ap (take (length before)) after-parts ∙ take-append_seam before (more ++ reply ∷ []);
    replies = ap (λ rs. map reply_data (drop (length before) rs)) after-parts ∙ ap (map reply_data) (drop-append_seam before (more ++ reply ∷ [])) ∙ replies-more;
  }

-- A run of the first edits of a list, extended by the next edit.
pub run_on : (l : List ℕ) (edits : List Edit) (i : ℕ) (default : Edit) (mid new : List ℕ) (before between after : List Reply) → i < length edits
    → HasRun l (take i edits) mid before between → HasStepped mid (get_or edits i default) new between after → HasRun l (take (i + 1) edits) new before after
run_on l edits i default mid new before between after below run stepped =
    subst (λ es. HasRun l es new before after) (sym (take_more edits i default below)) (run_more l (take i edits) (get_or edits i default) mid new before between after run stepped)

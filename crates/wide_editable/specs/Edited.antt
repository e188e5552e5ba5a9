-- What edits need, and how they change a text and a list of replies.
use Rattle.std.specs.Prelude.{◌≡◌, ℕ, ◌≤◌, List, [], ◌∷◌, ◌++◌, map, length, take, drop, vec_capacity}
use Rattle.std.specs.declared.alloc.Global.{Global}
use Rattle.std.specs.declared.vec.Vec.{Vec}
use Rattle.wide_forms.specs.EncodingForm.{EncodingForm, encode}
use Rattle.wide_ustring.specs.Units.{Units}
use Rattle.wide_edit.specs.Step.{reply_data, step, meaning, chars_in}
use Rattle.wide_edit.specs.declared.edits.Edit.{Edit}
use Rattle.wide_edit.specs.declared.edits.Reply.{Reply}

-- The encoding of these characters fits in the string without allocating.
abbrev pub CanHold : {C : Type 0} → EncodingForm → Units C → List ℕ → Type 0
CanHold form s cs = length (encode form cs) ≤ s.capacity

-- The vector is empty, and the characters of the edit's reply fit.
pub record HasReplySpace (l : List ℕ) (edit : Edit) (space : Vec ℕ Global) : Type 0 where
  pub empty : space.items ≡ []
  pub fits : chars_in (step l edit).1 ≤ vec_capacity space

-- One edit was made: the characters and the reply are those of the step.
pub record IsMade (l : List ℕ) (edit : Edit) (new : List ℕ) (reply : Reply) : Type 0 where
  pub text : new ≡ (step l edit).0
  pub replied : reply_data reply ≡ (step l edit).1

-- One edit was made: the characters are those of the step, and its reply was appended to the replies before it.
pub record HasStepped (l : List ℕ) (edit : Edit) (new : List ℕ) (before after : List Reply) : Type 0 where
  pub text : new ≡ (step l edit).0
  pub replied : (reply : Reply) × (after ≡ before ++ reply ∷ []) × (reply_data reply ≡ (step l edit).1)

-- A list of edits was made: the characters are those of its meaning, the earlier replies are unchanged, and the replies
-- after them are those of the meaning.
pub record HasRun (l : List ℕ) (edits : List Edit) (new : List ℕ) (before after : List Reply) : Type 0 where
  pub text : new ≡ (meaning l edits).0
  pub unchanged : take (length before) after ≡ before
  pub replies : map reply_data (drop (length before) after) ≡ (meaning l edits).1

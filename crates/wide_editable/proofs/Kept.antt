-- The characters before the first one that an edit can change.
use Rattle.std.proofs.Common.{◌≡◌, ℕ, ◌+◌, ◌-◌, ◌≤◌, suc, inl, inr, List, [], ◌∷◌, ◌++◌, refl, ◌∙◌, arith, length, take, drop, length-take}
use Rattle.std.specs.Prelude.{min}
use Rattle.std.specs.List.{splice}
use Rattle.std.specs.Str.{chars as str_chars}
use Rattle.std.proofs.lemmas.Bool.Decides.{leb_tells}
use Rattle.std.proofs.lemmas.List.{take-take, take-append-le}
use Rattle.wide_edit.specs.Step.{step}
use Rattle.wide_edit.specs.declared.edits.Edit.{Edit}
use Rattle.wide_edit.specs.declared.edits.Edit.TheVariants.{Push, PushStr, Pop, Truncate, Insert, InsertStr, Remove, Retain, Drain, Replace, SplitOff, Clear}
use Rattle.wide_editable.specs.Marked.{first_changed}

-- The index of the first character that an edit can change is at most the number of characters.
pub offset-within : (n : ℕ) (e : Edit) → first_changed n e ≤ n
offset-within n (Push c) = omega arith
offset-within n (PushStr t) = omega arith
offset-within n Pop = omega arith
offset-within n (Truncate m) = omega arith
offset-within n (Insert i c) = omega arith
offset-within n (InsertStr i t) = omega arith
offset-within n (Remove i) = omega arith
offset-within n (Retain keep) = omega arith
offset-within n (Drain a b) = omega arith
offset-within n (Replace a b t) = omega arith
offset-within n (SplitOff i) = omega arith
offset-within n Clear = omega arith

module _ (l : List ℕ) where
  -- A splice changes no element before the spliced range.
  pub take-splice : (p i j : ℕ) (m : List ℕ) → p ≤ i → p ≤ length l → take p (splice l i j m) ≡ take p l
  take-splice p i j m le within = take-append-le p (take i l) (m ++ drop j l) (omega (arith, length-take i l)) ∙ take-take p i l le

  -- An edit changes no character before the first one that it can change.
  pub step-keeps : (e : Edit) → take (first_changed (length l) e) (step l e).0 ≡ take (first_changed (length l) e) l
  step-keeps (Push c) = take-splice (length l) (length l) (length l) (c ∷ []) (omega arith) (omega arith)
  step-keeps (PushStr t) = take-splice (length l) (length l) (length l) (str_chars t.now) (omega arith) (omega arith)
  step-keeps Pop = take-splice (length l - 1) (length l - 1) (length l) [] (omega arith) (omega arith)
  step-keeps (Truncate m) = take-take (min m (length l)) m l (omega arith)
  step-keeps (Insert i c) = elim (leb_tells i (length l)) [
    | inl t ↦ rw (t.0) (take-splice (min i (length l)) i i (c ∷ []) (omega arith) (omega arith))
    | inr t ↦ rw (t.0) refl
  ]
  step-keeps (InsertStr i s) = elim (leb_tells i (length l)) [
    | inl t ↦ rw (t.0) (take-splice (min i (length l)) i i (str_chars s.now) (omega arith) (omega arith))
    | inr t ↦ rw (t.0) refl
  ]
  step-keeps (Remove i) = elim (leb_tells (suc i) (length l)) [
    | inl t ↦ rw (t.0) (take-splice (min i (length l)) i (i + 1) [] (omega arith) (omega arith))
    | inr t ↦ rw (t.0) refl
  ]
  step-keeps (Retain keep) = refl
  step-keeps (Drain a b) = elim (leb_tells a b) [
    | inl t ↦ elim (leb_tells b (length l)) [
      | inl u ↦ rw (t.0, u.0) (take-splice (min a (length l)) a b [] (omega arith) (omega arith))
      | inr u ↦ rw (t.0, u.0) refl
    ]
    | inr t ↦ rw (t.0) refl
  ]
  step-keeps (Replace a b s) = elim (leb_tells a b) [
    | inl t ↦ elim (leb_tells b (length l)) [
      | inl u ↦ rw (t.0, u.0) (take-splice (min a (length l)) a b (str_chars s.now) (omega arith) (omega arith))
      | inr u ↦ rw (t.0, u.0) refl
    ]
    | inr t ↦ rw (t.0) refl
  ]
  step-keeps (SplitOff i) = elim (leb_tells i (length l)) [
    | inl t ↦ rw (t.0) (take-take (min i (length l)) i l (omega arith))
    | inr t ↦ rw (t.0) refl
  ]
  step-keeps Clear = refl

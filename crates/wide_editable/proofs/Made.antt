-- When an edit of a list was made, and when it was rejected.
use Rattle.std.proofs.Common.{◌≡◌, ℕ, ◌+◌, ◌-◌, ◌≤◌, ◌<◌, suc, List, [], ◌∷◌, ◌++◌, refl, sym, ◌∙◌, ap, arith, length, take, drop, length-append, length-drop}
use Rattle.std.specs.Prelude.{true, false, nat_le, nat_lt, slice_range}
use Rattle.std.specs.List.{splice}
use Rattle.std.specs.Borrow.{Bor}
use Rattle.std.specs.Str.{chars}
use Rattle.std.proofs.lemmas.Bool.{le-leb, lt-leb}
use Rattle.std.proofs.lemmas.List.{append-nil, take_all, drop_all}
use Rattle.std.proofs.Math.Seq.{take-append_seam, drop-append_seam}
use Rattle.wide_edit.specs.Step.{step, is_range, Chars, first_char}
use Rattle.wide_editable.specs.Edited.{IsMade}
use Rattle.wide_edit.specs.declared.edits.Edit.TheVariants.{Push, PushStr, Pop, Truncate, Insert, InsertStr, Remove, Drain, Replace, SplitOff}
use Rattle.wide_edit.specs.declared.edits.Reply.TheVariants as reply

module _ (l : List ℕ) where
  pub splice-end : (m : List ℕ) → splice l (length l) (length l) m ≡ l ++ m
  splice-end m = ap (λ xs. xs ++ (m ++ drop (length l) l)) (take_all (length l) l (omega arith)) ∙ ap (λ xs. l ++ (m ++ xs)) (drop_all (length l) l (omega arith)) ∙ ap (λ xs. l ++ xs) (append-nil m)

  pub splice-last : (init : List ℕ) (c : ℕ) → l ≡ init ++ c ∷ [] → splice l (length l - 1) (length l) [] ≡ init
  splice-last init c e =
      let long : length l ≡ length init + 1 = ap length e ∙ length-append init (c ∷ []) in
      let at : length l - 1 ≡ length init = omega (arith, long) in
      ap (λ xs. take (length l - 1) l ++ xs) (drop_all (length l) l (omega arith)) ∙ append-nil (take (length l - 1) l) ∙ ap (λ n. take n l) at ∙ ap (take (length init)) e ∙ take-append_seam init (c ∷ [])

  pub drop-last : (init : List ℕ) (c : ℕ) → l ≡ init ++ c ∷ [] → drop (length l - 1) l ≡ c ∷ []
  drop-last init c e =
      let long : length l ≡ length init + 1 = ap length e ∙ length-append init (c ∷ []) in
      let at : length l - 1 ≡ length init = omega (arith, long) in
      ap (λ n. drop n l) at ∙ ap (drop (length init)) e ∙ drop-append_seam init (c ∷ [])

pub in_place : (i n : ℕ) → i ≤ n → nat_le i n ≡ true
in_place i n le = le-leb i n le

pub past : (i n : ℕ) → (i ≤ n → ⊥) → nat_le i n ≡ false
past i n never = lt-leb i n (omega (arith, never))

pub below : (i n : ℕ) → i < n → nat_lt i n ≡ true
below i n lt = le-leb (suc i) n (omega arith)

pub not_below : (i n : ℕ) → n ≤ i → nat_lt i n ≡ false
not_below i n le = lt-leb (suc i) n (omega arith)

pub in_range : (a b n : ℕ) → a ≤ b → b ≤ n → is_range a b n ≡ true
in_range a b n first second = rw (le-leb a b first, le-leb b n second) refl

module _ (l new : List ℕ) where
  pub made-push : (c : ℕ) → new ≡ l ++ c ∷ [] → IsMade l (Push c) new reply.Done
  made-push c e = record { text = e ∙ sym (splice-end l (c ∷ [])); replied = refl }

  pub made-pop : (c : ℕ) → l ≡ new ++ c ∷ [] → IsMade l Pop new (reply.Char c)
  made-pop c e = record { text = sym (splice-last l new c e); replied = sym (ap first_char (drop-last l new c e)) }

  pub made-pop_none : l ≡ [] → new ≡ [] → IsMade l Pop new reply.NoChar
  made-pop_none e f = record { text = rw (e, f) refl; replied = rw e refl }

  pub made-truncate : (m : ℕ) → new ≡ take m l → IsMade l (Truncate m) new reply.Done
  made-truncate m e = record { text = e; replied = refl }

  pub made-insert : (i c : ℕ) → i ≤ length l → new ≡ splice l i i (c ∷ []) → IsMade l (Insert i c) new reply.Done
  made-insert i c le e = record { text = rw (in_place i (length l) le) e; replied = rw (in_place i (length l) le) refl }

  pub made-remove : (i c : ℕ) → i ≤ length l → drop i l ≡ c ∷ drop (i + 1) l → new ≡ splice l i (i + 1) [] → IsMade l (Remove i) new (reply.Char c)
  made-remove i c le first e =
      let lt : i < length l = omega (arith, le, ap length first, length-drop i l, length-drop (i + 1) l) in
      record { text = rw (below i (length l) lt) e; replied = rw (below i (length l) lt) (sym (ap first_char first)) }

  pub made-split : (i : ℕ) (taken : List ℕ) → i ≤ length l → new ≡ take i l → taken ≡ drop i l → (new ≡ (step l (SplitOff i)).0) × (Chars taken ≡ (step l (SplitOff i)).1)
  made-split i taken le e f = (rw (in_place i (length l) le) e, rw (in_place i (length l) le) (ap Chars f))

  pub made-drain : (a b : ℕ) (taken : List ℕ) → a ≤ b → b ≤ length l → new ≡ splice l a b [] → taken ≡ slice_range l a b → (new ≡ (step l (Drain a b)).0) × (Chars taken ≡ (step l (Drain a b)).1)
  made-drain a b taken le within e f = (rw (in_range a b (length l) le within) e, rw (in_range a b (length l) le within) (ap Chars f))

-- An edit that is rejected.
module _ (l : List ℕ) where
  pub rejected-insert : (i c : ℕ) → (i ≤ length l → ⊥) → IsMade l (Insert i c) l reply.BadPlace
  rejected-insert i c never = record { text = rw (past i (length l) never) refl; replied = rw (past i (length l) never) refl }

  pub rejected-remove : (i : ℕ) → length l ≤ i → IsMade l (Remove i) l reply.BadPlace
  rejected-remove i le = record { text = rw (not_below i (length l) le) refl; replied = rw (not_below i (length l) le) refl }

  pub rejected-split : (i : ℕ) → (i ≤ length l → ⊥) → IsMade l (SplitOff i) l reply.BadPlace
  rejected-split i never = record { text = rw (past i (length l) never) refl; replied = rw (past i (length l) never) refl }

  pub rejected-drain : (a b : ℕ) → is_range a b (length l) ≡ false → IsMade l (Drain a b) l reply.BadRange
  rejected-drain a b e = record { text = rw e refl; replied = rw e refl }

module _ (l new : List ℕ) (t : Bor (List ℕ)) where
  -- A text was appended.
  pub made-push_str : new ≡ l ++ chars t.now → IsMade l (PushStr t) new reply.Done
  made-push_str e = record { text = e ∙ sym (splice-end l (chars t.now)); replied = refl }

  -- A text was inserted.
  pub made-insert_str : (i : ℕ) → i ≤ length l → new ≡ splice l i i (chars t.now) → IsMade l (InsertStr i t) new reply.Done
  made-insert_str i le e = record { text = rw (in_place i (length l) le) e; replied = rw (in_place i (length l) le) refl }

  -- A range of characters was replaced by a text.
  pub made-replace : (a b : ℕ) → a ≤ b → b ≤ length l → new ≡ splice l a b (chars t.now) → IsMade l (Replace a b t) new reply.Done
  made-replace a b le within e = record { text = rw (in_range a b (length l) le within) e; replied = rw (in_range a b (length l) le within) refl }

  pub rejected-insert_str : (i : ℕ) → (i ≤ length l → ⊥) → IsMade l (InsertStr i t) l reply.BadPlace
  rejected-insert_str i never = record { text = rw (past i (length l) never) refl; replied = rw (past i (length l) never) refl }

  pub rejected-replace : (a b : ℕ) → is_range a b (length l) ≡ false → IsMade l (Replace a b t) l reply.BadRange
  rejected-replace a b e = record { text = rw e refl; replied = rw e refl }

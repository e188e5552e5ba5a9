-- An edit that adds no text leaves no more units than there were.
use Rattle.std.proofs.Common.{refl, ◌-◌, ◌≡◌, ℕ, ◌+◌, ◌≤◌, suc, List, arith, length, inl, inr}
use Rattle.std.specs.Borrow.{Bor}
use Rattle.std.proofs.lemmas.Bool.Decides.{leb_tells}
use Rattle.wide_forms.specs.EncodingForm.{EncodingForm}
use Rattle.wide_edit.specs.Step.{changed, occurs}
use Rattle.wide_edit.specs.declared.edits.Edit.{Edit}
use Rattle.wide_edit.specs.declared.edits.Edit.TheVariants.{Push, PushStr, Pop, Truncate, Insert, InsertStr, Remove, Retain, Drain, Replace, SplitOff, Clear}
use Rattle.wide_offset_index.proofs.Lengths.{size, size-take, size-without, size-filter}

-- An edit that only removes characters leaves no more units, whether it is made or rejected.
module _ (form : EncodingForm) (l : List ℕ) where
  pub size-remove : (i : ℕ) → size form (changed l (Remove i)) ≤ size form l
  size-remove i = elim (leb_tells (suc i) (length l)) [
    | inl t ↦ rw (t.0) (size-without form l i (i + 1) (omega arith))
    | inr t ↦ rw (t.0) (omega arith)
  ]

  pub size-split : (i : ℕ) → size form (changed l (SplitOff i)) ≤ size form l
  size-split i = elim (leb_tells i (length l)) [
    | inl t ↦ rw (t.0) (size-take form l i)
    | inr t ↦ rw (t.0) (omega arith)
  ]

  pub size-drain : (i j : ℕ) → size form (changed l (Drain i j)) ≤ size form l
  size-drain i j = elim (leb_tells i j) [
    | inl t ↦ elim (leb_tells j (length l)) [
      | inl u ↦ rw (t.0, u.0) (size-without form l i j t.1)
      | inr u ↦ rw (t.0, u.0) (omega arith)
    ]
    | inr t ↦ rw (t.0) (omega arith)
  ]

  pub size-fewer : (e : Edit) → ((c : ℕ) → e ≡ Push c → ⊥) → ((t : Bor (List ℕ)) → e ≡ PushStr t → ⊥) → ((i c : ℕ) → e ≡ Insert i c → ⊥) → ((i : ℕ) (t : Bor (List ℕ)) → e ≡ InsertStr i t → ⊥)
      → ((a b : ℕ) (t : Bor (List ℕ)) → e ≡ Replace a b t → ⊥) → size form (changed l e) ≤ size form l
  size-fewer (Push c) push push_str insert insert_str replace = absurd (push c refl)
  size-fewer (PushStr t) push push_str insert insert_str replace = absurd (push_str t refl)
  size-fewer Pop push push_str insert insert_str replace = size-without form l (length l - 1) (length l) (omega arith)
  size-fewer (Truncate m) push push_str insert insert_str replace = size-take form l m
  size-fewer (Insert i c) push push_str insert insert_str replace = absurd (insert i c refl)
  size-fewer (InsertStr i t) push push_str insert insert_str replace = absurd (insert_str i t refl)
  size-fewer (Remove i) push push_str insert insert_str replace = size-remove i
  size-fewer (Retain keep) push push_str insert insert_str replace = size-filter form (occurs keep.now) l
  size-fewer (Drain a b) push push_str insert insert_str replace = size-drain a b
  size-fewer (Replace a b t) push push_str insert insert_str replace = absurd (replace a b t refl)
  size-fewer (SplitOff i) push push_str insert insert_str replace = size-split i
  size-fewer Clear push push_str insert insert_str replace = omega arith

-- Edits that keep text well formed.
use Rattle.std.proofs.Common.{◌≡◌, ℕ, zero, suc, ◌≤◌, List, ◌++◌, length, map, take, drop, inl, inr, ap, sym, subst, ◌∙◌, arith, Result, Ok, Err}
use Rattle.std.specs.Prelude.{OnOk, OnErr, ◌⊎◌}
use Rattle.std.specs.List.{repeat}
use Rattle.std.proofs.lemmas.List.{map-append, take_all, take-map, drop-map, length-map}
use Rattle.wide_forms.specs.EncodingForm.{EncodingForm}
use Rattle.wide_forms.specs.Items.{chars, IsBoundary, IsWellFormed}
use Rattle.wide_forms.specs.Offsets.{chars_before}
use Rattle.wide_forms.specs.Laws.Offsets.{IsOffsetOf-boundary}
use Rattle.wide_forms.specs.Laws.Splices.{IsWellFormed-nil, IsWellFormed-append, IsWellFormed-map_take}
use Rattle.wide_ustring.specs.Units.{Units}

pub on_ok : {A E P Q : Type 0} (r : Result A E) → (P → Q) → OnOk r P → OnOk r Q
on_ok (Ok x) f p = f p
on_ok (Err e) f p = tt

module _ {X : Type 0} (form : EncodingForm) (number : X → ℕ) where
  -- If a failed call left the string unchanged, and a successful one left it well formed, it is well formed after the
  -- call.
  pub kept : {A E : Type 0} (r : Result A E) (old new : Units X) → IsWellFormed form (map number old.units) → OnOk r (IsWellFormed form (map number new.units)) → OnErr r (new ≡ old) → IsWellFormed form (map number new.units)
  kept (Ok x) old new well ok err = ok
  kept (Err e) old new well ok err = subst (λ s. IsWellFormed form (map number s.units)) (sym err) well

  pub joined : (xs ys : List X) → IsWellFormed form (map number xs) → IsWellFormed form (map number ys) → IsWellFormed form (map number (xs ++ ys))
  joined xs ys left right = subst (IsWellFormed form) (sym (map-append number xs ys)) (IsWellFormed-append form (map number xs) (map number ys) left right)

  pub repeated : (count : ℕ) (xs : List X) → IsWellFormed form (map number xs) → IsWellFormed form (map number (repeat count xs))
  repeated zero xs well = IsWellFormed-nil form
  repeated (suc n) xs well = joined xs (repeat n xs) well (repeated n xs well)

  -- A prefix that ends at a boundary, or past the end, is well formed.
  pub prefix_of : (xs : List X) (len : ℕ) → IsWellFormed form (map number xs) → (length xs ≤ len) ⊎ IsBoundary form (map number xs) len → IsWellFormed form (map number (take len xs))
  prefix_of xs len well (inl past) = subst (λ ys. IsWellFormed form (map number ys)) (sym (take_all len xs past)) well
  prefix_of xs len well (inr at) = IsWellFormed-map_take form number xs well len at

  -- The characters of a prefix that ends at a boundary, or past the end.
  pub prefix_text : (xs : List X) (len : ℕ) → IsWellFormed form (map number xs) → (length xs ≤ len) ⊎ IsBoundary form (map number xs) len
      → chars form (map number (take len xs)) ≡ take (chars_before form (map number xs) len) (chars form (map number xs))
  prefix_text xs len well (inl past) =
      let us = map number xs in
      let whole : take len us ≡ us = take_all len us (omega (arith, past, length-map xs number)) in
      ap (chars form) (ap (map number) (take_all len xs past)) ∙ sym (ap (λ vs. take (length (chars form vs)) (chars form us)) whole ∙ take_all (length (chars form us)) (chars form us) (omega arith))
  prefix_text xs len well (inr at) = ap (chars form) (sym (take-map number len xs)) ∙ (IsOffsetOf-boundary form (map number xs) well len at).prefix

  -- The characters after a boundary.
  pub rest_text : (xs : List X) (offset : ℕ) → IsWellFormed form (map number xs) → IsBoundary form (map number xs) offset
      → chars form (map number (drop offset xs)) ≡ drop (chars_before form (map number xs) offset) (chars form (map number xs))
  rest_text xs offset well at = ap (chars form) (sym (drop-map number offset xs)) ∙ (IsOffsetOf-boundary form (map number xs) well offset at).rest

-- On lists of code units, `IsSegmentation` is what the Standard says of each form.
use Rattle.std.proofs.Common.{◌≡◌, ℕ, suc, zero, ◌<◌, List, [], ◌∷◌, ◌++◌, refl, sym, arith, length, get_or, subst}
use Rattle.std.specs.Char.{IsScalar}
use Rattle.std.specs.List.{All, Contains}
use Rattle.wide_forms.specs.EncodingForm.{EncodingForm, Utf16, Utf32, IsFault, IsCodeUnit}
use Rattle.wide_forms.specs.Segmentation.{Item, Char, Fault, item_units, units_of, IsItem, IsSegmentation, IsSegmentation16, IsSegmentation32}
use Rattle.wide_forms.specs.Laws.Forms.{IsPair-from, IsPair-parts, IsFault-surrogate, surrogate-of_fault, IsFault-no_scalar, no_scalar-of_fault, no_pair32}

-- A fault among the items is one of the units.
get-append_right : (xs ys : List ℕ) (P : ℕ → Type 0) → All P (xs ++ ys) → All P ys
get-append_right [] ys P all = all
get-append_right (x ∷ xs) ys P all = get-append_right xs ys P (λ k d within. all (suc k) d (omega arith))

fault-is_unit : (form : EncodingForm) (items : List Item) (P : ℕ → Type 0) → All P (units_of form items) → (u k : ℕ) (d : Item) → k < length items → get_or items k d ≡ Fault u → P u
fault-is_unit form [] P all u k d within e = absurd (omega arith)
fault-is_unit form (Char c ∷ items) P all u zero d within e = absurd cc
fault-is_unit form (Fault v ∷ items) P all u zero d within e = let same : v ≡ u = cc in subst P same (all 0 v (omega arith))
fault-is_unit form (i ∷ items) P all u (suc k) d within e = fault-is_unit form items P (get-append_right (item_units form i) (units_of form items) P all) u k d (omega arith) e

-- The items by their kind.
item-by_kind : (form : EncodingForm) (items : List Item) (i : Item) → All (IsItem form) items → Contains items i → IsItem form i
item-by_kind form items i proper at = subst (λ j. IsItem form j) at.2 (proper at.0 i at.1)

proper-by_kind : (form : EncodingForm) (items : List Item) → ((c : ℕ) → Contains items (Char c) → IsScalar c) → ((u : ℕ) → Contains items (Fault u) → IsFault form u) → All (IsItem form) items
proper-by_kind form [] chars faults k d within = absurd (omega arith)
proper-by_kind form (Char c ∷ items) chars faults zero d within = chars c (0, omega arith, refl)
proper-by_kind form (Fault u ∷ items) chars faults zero d within = faults u (0, omega arith, refl)
proper-by_kind form (i ∷ items) chars faults (suc k) d within =
    proper-by_kind form items (λ c at. chars c (suc at.0, omega (arith, at.1), at.2)) (λ u at. faults u (suc at.0, omega (arith, at.1), at.2)) k d (omega arith)

pub IsSegmentation16-from : (items : List Item) (units : List ℕ) → All (IsCodeUnit Utf16) units → IsSegmentation Utf16 items units → IsSegmentation16 items units
IsSegmentation16-from items units in_range seg = record {
  joined = seg.joined;
  characters = λ c at. item-by_kind Utf16 items (Char c) seg.proper at;
  faults = λ u at. surrogate-of_fault u (fault-is_unit Utf16 items (IsCodeUnit Utf16) (subst (λ us. All (IsCodeUnit Utf16) us) (sym seg.joined) in_range) u at.0 (Fault u) at.1 at.2) (item-by_kind Utf16 items (Fault u) seg.proper at);
  unpaired = λ prefix back h l e high low. seg.unpaired prefix back h l e (IsPair-from Utf16 h l high low);
}

pub IsSegmentation-from_16 : (items : List Item) (units : List ℕ) → IsSegmentation16 items units → IsSegmentation Utf16 items units
IsSegmentation-from_16 items units seg = record {
  joined = seg.joined;
  proper = proper-by_kind Utf16 items seg.characters (λ u at. IsFault-surrogate u (seg.faults u at).0 (seg.faults u at).1);
  unpaired = λ prefix back h l e pair. seg.unpaired prefix back h l e (IsPair-parts Utf16 h l pair).0 (IsPair-parts Utf16 h l pair).1;
}

pub IsSegmentation32-from : (items : List Item) (units : List ℕ) → IsSegmentation Utf32 items units → IsSegmentation32 items units
IsSegmentation32-from items units seg = record {
  joined = seg.joined;
  characters = λ c at. item-by_kind Utf32 items (Char c) seg.proper at;
  faults = λ u at. no_scalar-of_fault u (item-by_kind Utf32 items (Fault u) seg.proper at);
}

pub IsSegmentation-from_32 : (items : List Item) (units : List ℕ) → IsSegmentation32 items units → IsSegmentation Utf32 items units
IsSegmentation-from_32 items units seg = record {
  joined = seg.joined;
  proper = proper-by_kind Utf32 items seg.characters (λ u at. IsFault-no_scalar u (seg.faults u at));
  unpaired = λ prefix back h l e. no_pair32 h l;
}

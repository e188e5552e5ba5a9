-- Well-formed units that are split at a boundary: both slices are well formed, and their characters are those before it
-- and after it.
use Rattle.std.proofs.Common.{◌≡◌, ℕ, ◌≤◌, List, [], ◌∷◌, ◌++◌, refl, sym, ◌∙◌, ap, subst, arith, length, length-append, length-take, take, drop}
use Rattle.std.specs.Prelude.{map}
use Rattle.std.specs.Char.{IsScalar}
use Rattle.std.specs.List.{All}
use Rattle.std.proofs.lemmas.List.{take-append-drop, take-map, length-map, length-take-le, map-append}
use Rattle.std.proofs.lemmas.List.Concat.{flat_map-append}
use Rattle.std.proofs.lemmas.List.Elements.{All-take, All-drop}
use Rattle.std.proofs.Math.Seq.{take-append_seam, drop-append_seam}
use Rattle.wide_forms.specs.EncodingForm.{EncodingForm, code_units, encode}
use Rattle.wide_forms.specs.Segmentation.{Item, Char, units_of}
use Rattle.wide_forms.specs.Items.{items, characters, chars, IsWellFormed, IsBoundary}
use Rattle.wide_forms.specs.Offsets.{IsOffsetOf, chars_before}
use Rattle.wide_forms.specs.Laws.Items.{units_of-items, units_of-chars, encode-of_items, scalars-of_items, items-encode, chars-of_well_formed, IsWellFormed-of_chars}
use Rattle.wide_forms.specs.Laws.Boundaries.{units_of-append}

-- A list of items that are all characters has these characters.
pub characters-chars : (cs : List ℕ) → characters (map Char cs) ≡ cs
characters-chars [] = refl
characters-chars (c ∷ cs) = ap (λ ds. c ∷ ds) (characters-chars cs)

-- The encoding of scalar values has these as its characters.
pub chars-encode : (form : EncodingForm) (cs : List ℕ) → All IsScalar cs → chars form (encode form cs) ≡ cs
chars-encode form cs scalars = ap characters (items-encode form cs scalars) ∙ characters-chars cs

-- The encoding of scalar values is well formed.
pub IsWellFormed-encode : (form : EncodingForm) (cs : List ℕ) → All IsScalar cs → IsWellFormed form (encode form cs)
IsWellFormed-encode form cs scalars = IsWellFormed-of_chars form (encode form cs) cs (items-encode form cs scalars)

-- A boundary is at most the length of the units.
pub IsBoundary-within : (form : EncodingForm) (us : List ℕ) (offset : ℕ) → IsBoundary form us offset → offset ≤ length us
IsBoundary-within form us offset at =
    let joined : us ≡ units_of form at.0 ++ units_of form at.1 = sym (units_of-items form us) ∙ ap (units_of form) at.2 ∙ units_of-append form at.0 at.1 in
    omega (arith, ap length joined, length-append (units_of form at.0) (units_of form at.1), at.3)

-- The beginning is a boundary.
pub IsBoundary-start : (form : EncodingForm) (us : List ℕ) → IsBoundary form us 0
IsBoundary-start form us = ([], items form us, refl, refl)

module _ (form : EncodingForm) (us : List ℕ) (well : IsWellFormed form us) where
  -- The units of the first characters.
  abbrev prefix_of : ℕ → List ℕ
  prefix_of index = encode form (take index (chars form us))

  -- The units of the characters after the first ones.
  abbrev rest_of : ℕ → List ℕ
  rest_of index = encode form (drop index (chars form us))

  -- The characters are scalar values.
  pub scalars-chars : All IsScalar (chars form us)
  scalars-chars = scalars-of_items form (chars form us) us (chars-of_well_formed form us well)

  -- The encoding of the characters is the units.
  pub encode-chars : encode form (chars form us) ≡ us
  encode-chars = encode-of_items form (chars form us) us (chars-of_well_formed form us well)

  prefix_and_rest : (index : ℕ) → us ≡ prefix_of index ++ rest_of index
  prefix_and_rest index =
      sym encode-chars ∙ ap (encode form) (sym (take-append-drop index (chars form us))) ∙ flat_map-append (code_units form) (take index (chars form us)) (drop index (chars form us))

  take-prefix : (index : ℕ) → take (length (prefix_of index)) us ≡ prefix_of index
  take-prefix index = ap (take (length (prefix_of index))) (prefix_and_rest index) ∙ take-append_seam (prefix_of index) (rest_of index)

  drop-prefix : (index : ℕ) → drop (length (prefix_of index)) us ≡ rest_of index
  drop-prefix index = ap (drop (length (prefix_of index))) (prefix_and_rest index) ∙ drop-append_seam (prefix_of index) (rest_of index)

  prefix_scalars : (index : ℕ) → All IsScalar (take index (chars form us))
  prefix_scalars index = All-take IsScalar index (chars form us) scalars-chars

  rest_scalars : (index : ℕ) → All IsScalar (drop index (chars form us))
  rest_scalars index = All-drop IsScalar index (chars form us) scalars-chars

  boundary-prefix : (index : ℕ) → IsBoundary form us (length (prefix_of index))
  boundary-prefix index =
      let cs = chars form us in (
        map Char (take index cs),
        map Char (drop index cs),
        chars-of_well_formed form us well ∙ ap (map Char) (sym (take-append-drop index cs)) ∙ map-append Char (take index cs) (drop index cs),
        ap length (units_of-chars form (take index cs)),
      )

  -- Each character has an offset.
  pub IsOffsetOf-prefix : (index : ℕ) → IsOffsetOf form us index (length (encode form (take index (chars form us))))
  IsOffsetOf-prefix index = record {
    boundary = boundary-prefix index;
    prefix = ap (chars form) (take-prefix index) ∙ chars-encode form (take index (chars form us)) (prefix_scalars index);
    rest = ap (chars form) (drop-prefix index) ∙ chars-encode form (drop index (chars form us)) (rest_scalars index);
    encoded = take-prefix index;
  }

  -- A character has no other offset.
  pub offset-IsOffsetOf : (index offset : ℕ) → IsOffsetOf form us index offset → offset ≡ length (encode form (take index (chars form us)))
  offset-IsOffsetOf index offset at = sym (length-take-le offset us (IsBoundary-within form us offset at.boundary)) ∙ ap length at.encoded

  module _ (offset : ℕ) (at : IsBoundary form us offset) where
    -- The items before the boundary.
    abbrev items_before : List Item
    items_before = at.0

    items_before-chars : items_before ≡ map Char (take (length items_before) (chars form us))
    items_before-chars =
        sym (take-append_seam items_before at.1) ∙ ap (take (length items_before)) (sym at.2 ∙ chars-of_well_formed form us well) ∙ take-map Char (length items_before) (chars form us)

    offset-prefix : offset ≡ length (prefix_of (length items_before))
    offset-prefix = sym at.3 ∙ ap (λ is. length (units_of form is)) items_before-chars ∙ ap length (units_of-chars form (take (length items_before) (chars form us)))

    offset-items_before : IsOffsetOf form us (length items_before) offset
    offset-items_before = subst (λ n. IsOffsetOf form us (length items_before) n) (sym offset-prefix) (IsOffsetOf-prefix (length items_before))

    count-items_before : chars_before form us offset ≡ length items_before
    count-items_before =
        ap length offset-items_before.prefix ∙ sym (length-map (take (length items_before) (chars form us)) Char) ∙ ap length (sym items_before-chars)

    -- The boundary is the offset of a character, or the end.
    pub IsOffsetOf-boundary : IsOffsetOf form us (chars_before form us offset) offset
    IsOffsetOf-boundary = subst (λ n. IsOffsetOf form us n offset) (sym count-items_before) offset-items_before

    -- At most all characters precede the boundary.
    pub chars_before-within : chars_before form us offset ≤ length (chars form us)
    chars_before-within = omega (arith, ap length offset-items_before.prefix, length-take (length items_before) (chars form us))

    -- The slice before a boundary is well formed.
    pub IsWellFormed-take : IsWellFormed form (take offset us)
    IsWellFormed-take = subst (λ vs. IsWellFormed form vs) (sym offset-items_before.encoded) (IsWellFormed-encode form (take (length items_before) (chars form us)) (prefix_scalars (length items_before)))

    -- The slice after a boundary is well formed.
    pub IsWellFormed-drop : IsWellFormed form (drop offset us)
    IsWellFormed-drop =
        subst (λ vs. IsWellFormed form vs) (sym (ap (λ n. drop n us) offset-prefix ∙ drop-prefix (length items_before)))
        (IsWellFormed-encode form (drop (length items_before) (chars form us)) (rest_scalars (length items_before)))

-- Well-formed units that are concatenated, sliced and spliced: the result is well formed, and its characters are
-- concatenated, sliced and spliced correspondingly.
use Rattle.std.proofs.Common.{◌≡◌, ℕ, suc, zero, ◌-◌, ◌≤◌, List, [], ◌∷◌, ◌++◌, refl, sym, ◌∙◌, ap, subst, arith, length, length-append, length-drop, take, drop}
use Rattle.std.specs.Prelude.{map, slice_range}
use Rattle.std.specs.Char.{IsScalar}
use Rattle.std.specs.List.{Contains, splice}
use Rattle.std.proofs.lemmas.List.{take-map, drop-map, map-append}
use Rattle.std.proofs.lemmas.List.Folds.{drop_split}
use Rattle.std.proofs.Math.Seq.{take-append_seam}
use Rattle.wide_forms.specs.EncodingForm.{EncodingForm, code_units}
use Rattle.wide_forms.specs.Segmentation.{Item, Char, Fault}
use Rattle.wide_forms.specs.Items.{items, characters, chars, IsWellFormed, IsBoundary}
use Rattle.wide_forms.specs.Offsets.{chars_before}
use Rattle.wide_forms.specs.Laws.Items.{items-nil, items-code_units, chars-of_well_formed, IsWellFormed-of_chars}
use Rattle.wide_forms.specs.Laws.Ends.{items-append_left, items-append_right}
use Rattle.wide_forms.specs.Laws.Offsets.{IsOffsetOf-boundary, chars_before-within, IsWellFormed-take, IsWellFormed-drop}

characters-append : (is js : List Item) → characters (is ++ js) ≡ characters is ++ characters js
characters-append [] js = refl
characters-append (Char c ∷ is) js = ap (λ cs. c ∷ cs) (characters-append is js)
characters-append (Fault u ∷ is) js = characters-append is js

contains-append : (is js : List Item) (i : Item) → Contains is i → Contains (is ++ js) i
contains-append [] js i at = absurd (omega (arith, at.1))
contains-append (j ∷ is) js i (zero, within, e) = (0, omega arith, e)
contains-append (j ∷ is) js i (suc k, within, e) = let rest = contains-append is js i (k, omega arith, e) in (suc rest.0, omega (arith, rest.1), rest.2)

-- The empty list of units is well formed.
pub IsWellFormed-nil : (form : EncodingForm) → IsWellFormed form []
IsWellFormed-nil form = IsWellFormed-of_chars form [] [] (items-nil form)

-- The empty list of units has no characters.
pub chars-nil : (form : EncodingForm) → chars form [] ≡ []
chars-nil form = ap characters (items-nil form)

-- The units of a character have this character only.
pub chars-code_units : (form : EncodingForm) (c : ℕ) → IsScalar c → chars form (code_units form c) ≡ c ∷ []
chars-code_units form c hc = ap characters (items-code_units form c hc)

module _ (form : EncodingForm) (us vs : List ℕ) where
  -- If the first of two lists is well formed, the characters of the concatenated lists are the concatenated characters.
  pub chars-append : IsWellFormed form us → chars form (us ++ vs) ≡ chars form us ++ chars form vs
  chars-append well = ap characters (items-append_left form us vs well) ∙ characters-append (items form us) (items form vs)

  -- Concatenated well-formed lists are well formed.
  pub IsWellFormed-append : IsWellFormed form us → IsWellFormed form vs → IsWellFormed form (us ++ vs)
  IsWellFormed-append left right =
      IsWellFormed-of_chars form (us ++ vs) (chars form us ++ chars form vs)
      (items-append_left form us vs left ∙ ap (λ is. is ++ items form vs) (chars-of_well_formed form us left) ∙ ap (λ is. map Char (chars form us) ++ is) (chars-of_well_formed form vs right)
      ∙ sym (map-append Char (chars form us) (chars form vs)))

  -- If a list of units and a suffix of it are well formed, so are the units before the suffix.
  pub IsWellFormed-before : IsWellFormed form (us ++ vs) → IsWellFormed form vs → IsWellFormed form us
  IsWellFormed-before whole right = record {
    no_fault = λ u at. whole.no_fault u (subst (λ is. Contains is (Fault u)) (sym (items-append_right form us vs right)) (contains-append (items form us) (items form vs) (Fault u) at));
  }

module _ (form : EncodingForm) (us : List ℕ) (from to : ℕ) (well : IsWellFormed form us) (at_from : IsBoundary form us from) (at_to : IsBoundary form us to) where
  -- The slice between two boundaries is well formed.
  pub IsWellFormed-part : from ≤ to → IsWellFormed form (slice_range us from to)
  IsWellFormed-part forward =
      IsWellFormed-before form (slice_range us from to) (drop to us)
      (subst (λ xs. IsWellFormed form xs) (drop_split us from to forward) (IsWellFormed-drop form us well from at_from)) (IsWellFormed-drop form us well to at_to)

  -- The characters of the slice between two boundaries are those between them.
  pub chars-part : from ≤ to → chars form (slice_range us from to) ≡ slice_range (chars form us) (chars_before form us from) (chars_before form us to)
  chars-part forward =
      let i = chars_before form us from in
      let j = chars_before form us to in
      let part = chars form (slice_range us from to) in
      let rest_from = (IsOffsetOf-boundary form us well from at_from).rest in
      let rest_to = (IsOffsetOf-boundary form us well to at_to).rest in
      let joined : drop i (chars form us) ≡ part ++ drop j (chars form us) =
      sym rest_from ∙ ap (chars form) (drop_split us from to forward) ∙ chars-append form (slice_range us from to) (drop to us) (IsWellFormed-part forward) ∙ ap (λ cs. part ++ cs) rest_to
      in
      let long : length part ≡ j - i =
      omega (arith, ap length joined, length-append part (drop j (chars form us)), length-drop i (chars form us), length-drop j (chars form us), chars_before-within form us well from at_from, chars_before-within form us well to at_to)
      in
      sym (ap (take (j - i)) joined ∙ ap (λ n. take n (part ++ drop j (chars form us))) (sym long) ∙ take-append_seam part (drop j (chars form us)))

  -- If well-formed units replace those between two boundaries, the result is well formed.
  module _ (new : List ℕ) (inserted : IsWellFormed form new) where
    back-well_formed : IsWellFormed form (new ++ drop to us)
    back-well_formed = IsWellFormed-append form new (drop to us) inserted (IsWellFormed-drop form us well to at_to)

    -- If well-formed units replace those between two boundaries, the result is well formed.
    pub IsWellFormed-splice : IsWellFormed form (splice us from to new)
    IsWellFormed-splice = IsWellFormed-append form (take from us) (new ++ drop to us) (IsWellFormed-take form us well from at_from) back-well_formed

    -- If well-formed units replace those between two boundaries, their characters replace those between the boundaries.
    pub chars-splice : chars form (splice us from to new) ≡ splice (chars form us) (chars_before form us from) (chars_before form us to) (chars form new)
    chars-splice =
        let prefix = (IsOffsetOf-boundary form us well from at_from).prefix in
        let rest = (IsOffsetOf-boundary form us well to at_to).rest in
        chars-append form (take from us) (new ++ drop to us) (IsWellFormed-take form us well from at_from) ∙ ap (λ cs. cs ++ chars form (new ++ drop to us)) prefix
        ∙ ap (λ cs. take (chars_before form us from) (chars form us) ++ cs) (chars-append form new (drop to us) inserted ∙ ap (λ cs. chars form new ++ cs) rest)

-- Mapping a slice, or a list in which a slice was replaced, maps each element.
module _ {X Y : Type 0} (f : X → Y) (xs : List X) (from to : ℕ) where
  map-slice_range : slice_range (map f xs) from to ≡ map f (slice_range xs from to)
  map-slice_range = ap (take (to - from)) (drop-map f from xs) ∙ take-map f (to - from) (drop from xs)

  -- Mapping a list in which a slice was replaced maps each element.
  pub map-splice : (ys : List X) → splice (map f xs) from to (map f ys) ≡ map f (splice xs from to ys)
  map-splice ys =
      ap (λ us. take from (map f xs) ++ (map f ys ++ us)) (drop-map f to xs) ∙ ap (λ us. us ++ (map f ys ++ map f (drop to xs))) (take-map f from xs)
      ∙ ap (λ us. map f (take from xs) ++ us) (sym (map-append f ys (drop to xs))) ∙ sym (map-append f (take from xs) (ys ++ drop to xs))

-- Slices and splices of units of any type, by their numbers.
module _ {X : Type 0} (form : EncodingForm) (number : X → ℕ) (xs : List X) where
  module _ (well : IsWellFormed form (map number xs)) where
    pub IsWellFormed-map_take : (offset : ℕ) → IsBoundary form (map number xs) offset → IsWellFormed form (map number (take offset xs))
    IsWellFormed-map_take offset at = subst (λ us. IsWellFormed form us) (take-map number offset xs) (IsWellFormed-take form (map number xs) well offset at)

    pub IsWellFormed-map_drop : (offset : ℕ) → IsBoundary form (map number xs) offset → IsWellFormed form (map number (drop offset xs))
    IsWellFormed-map_drop offset at = subst (λ us. IsWellFormed form us) (drop-map number offset xs) (IsWellFormed-drop form (map number xs) well offset at)

    module _ (from to : ℕ) (at_from : IsBoundary form (map number xs) from) (at_to : IsBoundary form (map number xs) to) where
      pub IsWellFormed-map_part : from ≤ to → IsWellFormed form (map number (slice_range xs from to))
      IsWellFormed-map_part forward = subst (λ us. IsWellFormed form us) (map-slice_range number xs from to) (IsWellFormed-part form (map number xs) from to well at_from at_to forward)

      pub IsWellFormed-map_splice : (ys : List X) → IsWellFormed form (map number ys) → IsWellFormed form (map number (splice xs from to ys))
      IsWellFormed-map_splice ys inserted = subst (λ us. IsWellFormed form us) (map-splice number xs from to ys) (IsWellFormed-splice form (map number xs) from to well at_from at_to (map number ys) inserted)

      pub chars-map_splice : (ys : List X) → IsWellFormed form (map number ys)
          → chars form (map number (splice xs from to ys)) ≡ splice (chars form (map number xs)) (chars_before form (map number xs) from) (chars_before form (map number xs) to) (chars form (map number ys))
      chars-map_splice ys inserted = ap (chars form) (sym (map-splice number xs from to ys)) ∙ chars-splice form (map number xs) from to well at_from at_to (map number ys) inserted

-- How many units characters take.
use Rattle.std.proofs.Common.{◌≡◌, ℕ, ◌+◌, ◌≤◌, List, [], ◌∷◌, ◌++◌, sym, ◌∙◌, ap, arith, length, take, drop, length-append}
use Rattle.std.specs.Prelude.{Bool, true, false, cond, filter}
use Rattle.std.specs.List.{splice}
use Rattle.std.proofs.lemmas.List.{append-nil, take-append-drop}
use Rattle.std.proofs.lemmas.List.Concat.{flat_map-append}
use Rattle.wide_forms.specs.EncodingForm.{EncodingForm, code_units, encode}
use Rattle.wide_forms.specs.Laws.Encodings.{offsets-grow}

module _ (form : EncodingForm) where
  -- The length in units of characters.
  abbrev pub size : List ℕ → ℕ
  size l = length (encode form l)

  abbrev pub offset : List ℕ → ℕ → ℕ
  offset l i = size (take i l)

  -- The length of concatenated characters is the sum of both lengths.
  pub size-append : (l m : List ℕ) → size (l ++ m) ≡ size l + size m
  size-append l m = ap length (flat_map-append (code_units form) l m) ∙ length-append (encode form l) (encode form m)

  -- The length of characters is the offset of one of them, and the length from it on.
  pub size-cut : (l : List ℕ) (i : ℕ) → size l ≡ offset l i + size (drop i l)
  size-cut l i = ap size (sym (take-append-drop i l)) ∙ size-append (take i l) (drop i l)

  pub size-one : (c : ℕ) → size (c ∷ []) ≡ length (code_units form c)
  size-one c = ap length (append-nil (code_units form c))

  -- The length of characters of which a range was replaced. The other lengths of an edited text follow from it by
  -- arithmetic.
  pub size-splice : (l m : List ℕ) (i j : ℕ) → size (splice l i j m) + offset l j ≡ offset l i + size m + size l
  size-splice l m i j = omega (arith, size-append (take i l) (m ++ drop j l), size-append m (drop j l), size-cut l j)

  -- No offset exceeds the length.
  pub size-take : (l : List ℕ) (i : ℕ) → offset l i ≤ size l
  size-take l i = omega (arith, size-cut l i)

  -- Removing a range adds no units.
  pub size-without : (l : List ℕ) (i j : ℕ) → i ≤ j → size (splice l i j []) ≤ size l
  size-without l i j forward = omega (arith, size-splice l [] i j, offsets-grow form l i j forward)

  kept_or_not : (c : ℕ) (unchanged cs : List ℕ) → size unchanged ≤ size cs → (keeps : Bool) → size (cond keeps (c ∷ unchanged) unchanged) ≤ size (c ∷ cs)
  kept_or_not c unchanged cs less true = omega (arith, less, length-append (code_units form c) (encode form unchanged), length-append (code_units form c) (encode form cs))
  kept_or_not c unchanged cs less false = omega (arith, less, length-append (code_units form c) (encode form cs))

  -- Selecting characters adds no units.
  pub size-filter : (test : ℕ → Bool) (l : List ℕ) → size (filter test l) ≤ size l
  size-filter test [] = omega arith
  size-filter test (c ∷ cs) = kept_or_not c (filter test cs) cs (size-filter test cs) (test c)

-- What the iterators under a policy over the units of a view will yield.
use Rattle.std.specs.Prelude.{◌≡◌, ℕ, ◌⊎◌, List, [], ◌∷◌, ◌++◌, map, Option}
use Rattle.wide_forms.specs.EncodingForm.{EncodingForm}
use Rattle.wide_forms.specs.Segmentation.{Item, Char, Fault}
use Rattle.wide_forms.specs.Items.{items, chars}
use Rattle.wide_forms.specs.Lossy.{lossy_by}
use Rattle.wide_forms.specs.Texts.{quoted_output}
use Rattle.wide_forms.specs.declared.policy.Policy.{Policy}
use Rattle.wide_ustr.specs.declared.lossy_with.CharsLossyWith.{CharsLossyWith}

-- The items are a run of faults, and then those of `rest`, which is empty or begins with a character.
pub record BeginsPastFaults (is rest : List Item) : Type 0 where
  pub run : List ℕ
  pub joined : is ≡ map Fault run ++ rest
  pub past : (rest ≡ []) ⊎ ((c : ℕ) × (tail : List Item) × (rest ≡ Char c ∷ tail))

-- The items are those of `rest`, which is empty or ends with a character, and then a run of faults.
pub record EndsBeforeFaults (is rest : List Item) : Type 0 where
  pub run : List ℕ
  pub joined : is ≡ rest ++ map Fault run
  pub before : (rest ≡ []) ⊎ ((c : ℕ) × (prefix : List Item) × (rest ≡ prefix ++ Char c ∷ []))

module _ {C : Type 0} where
  -- The units that were not read yet.
  abbrev pub lossy_with_rest : CharsLossyWith C → List C
  lossy_with_rest s = s.rest.now

  -- The characters that will be yielded.
  abbrev pub lossy_with_left : EncodingForm → (C → ℕ) → CharsLossyWith C → List ℕ
  lossy_with_left form number s = lossy_by s.policy (items form (map number (lossy_with_rest s)))

  -- The policy that says what replaces faults.
  abbrev pub policy_of : CharsLossyWith C → Policy
  policy_of s = s.policy

  -- The characters among the items that were not read yet.
  abbrev pub characters_left : EncodingForm → (C → ℕ) → CharsLossyWith C → List ℕ
  characters_left form number s = chars form (map number (lossy_with_rest s))

  -- What `{:?}` prints of the characters that will be yielded, if they are ASCII.
  abbrev pub lossy_with_debug_output : EncodingForm → (C → ℕ) → CharsLossyWith C → Option (List ℕ)
  lossy_with_debug_output form number s = quoted_output (map Char (lossy_with_left form number s))

-- The lossy UTF-8 of a prefix of some bytes, under a policy.
use Rattle.std.specs.Prelude.{◌≡◌, ℕ, ◌%◌, Bool, List, [], ◌∷◌, ◌++◌, length, map, nat_eq, false}
use Rattle.std.specs.List.{ends_with}
use Rattle.wide_forms.specs.EncodingForm.{Utf16}
use Rattle.wide_forms.specs.Segmentation.{Char}
use Rattle.wide_forms.specs.Items.{items}
use Rattle.wide_forms.specs.Lossy.{lossy_after, ends_in_fault}
use Rattle.wide_forms.specs.Utf8.{utf8}
use Rattle.wide_forms.specs.Laws.Items.{IsCut}
use Rattle.wide_forms.specs.declared.policy.Policy.{Policy}
use Rattle.wide_bytes.specs.Bytes.{units_in}
use Rattle.wide_bytes.specs.declared.order.BoM.{BoM}

-- The lossy UTF-8 of units, where `after_fault` says whether a fault directly precedes them.
abbrev pub lossy_text : Policy → Bool → List ℕ → List ℕ
lossy_text policy after_fault us = utf8 (lossy_after policy after_fault (items Utf16 us))

-- Whether a fault was read last: by the units, or by `after_fault` if there are none.
abbrev pub units_end_in_fault : Bool → List ℕ → Bool
units_end_in_fault after_fault us = ends_in_fault after_fault (items Utf16 us)

-- The units have no fault, and are the text of so many characters.
abbrev pub IsText : List ℕ → ℕ → Type 0
IsText us count = (cs : List ℕ) × (items Utf16 us ≡ map Char cs) × (count ≡ length cs)

-- The bytes `passed` are whole units, and `after` is `before` with their lossy text appended. A fault was read last, by
-- `after_fault` before these bytes, and by `after_fault'` after them. The bytes `rest` and others follow. No pair is
-- split between `passed` and those, and if `rest` is empty, the last unit of `passed` is not zero.
pub record Lossied (order : BoM) (policy : Policy) (passed rest : List ℕ) (after_fault : Bool) (before : List ℕ) (after_fault' : Bool) (after : List ℕ) : Type 0 where
  pub even : length passed % 2 ≡ 0
  pub text : after ≡ before ++ lossy_text policy after_fault (units_in order passed)
  pub flag : after_fault' ≡ units_end_in_fault after_fault (units_in order passed)
  pub cut : (more : List ℕ) → IsCut Utf16 (units_in order passed) (units_in order (rest ++ more))
  pub no_zero : rest ≡ [] → ends_with nat_eq (units_in order passed) (0 ∷ []) ≡ false

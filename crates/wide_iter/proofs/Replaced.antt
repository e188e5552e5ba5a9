-- A lossy decoder's result is the character of the strict one.
use Rattle.std.proofs.Common.{◌≡◌, ℕ, List, [], ◌∷◌, ◌++◌, Option, Some, None, Result, Ok, Err, ap, ◌∙◌}
use Rattle.std.specs.Prelude.{MatchOption}
use Rattle.std.specs.Option.{option_map}
use Rattle.std.proofs.lemmas.List.{map-append}
use Rattle.wide_forms.specs.Segmentation.{Item, Char, Fault}
use Rattle.wide_unit.specs.Unit.{reported_item}
use Rattle.wide_forms.specs.Lossy.{lossy, lossy_char, or_replacement}

module _ (s t : List Item) where
  pub lossy_first : (r : Option (Result ℕ ℕ)) → MatchOption r ((s ≡ []) × (t ≡ [])) (λ x. s ≡ reported_item x ∷ t) → MatchOption (option_map or_replacement r) ((lossy s ≡ []) × (lossy t ≡ [])) (λ c. lossy s ≡ c ∷ lossy t)
  lossy_first None h = (ap lossy h.0, ap lossy h.1)
  lossy_first (Some (Ok c)) h = ap lossy h
  lossy_first (Some (Err u)) h = ap lossy h

  pub lossy_last : (r : Option (Result ℕ ℕ)) → MatchOption r ((s ≡ []) × (t ≡ [])) (λ x. s ≡ t ++ reported_item x ∷ []) → MatchOption (option_map or_replacement r) ((lossy s ≡ []) × (lossy t ≡ [])) (λ c. lossy s ≡ lossy t ++ c ∷ [])
  lossy_last None h = (ap lossy h.0, ap lossy h.1)
  lossy_last (Some (Ok c)) h = ap lossy h ∙ map-append lossy_char t (Char c ∷ [])
  lossy_last (Some (Err u)) h = ap lossy h ∙ map-append lossy_char t (Fault u ∷ [])

-- Well-formed text remains well formed if well-formed text is put in place of a well-formed needle.
use Rattle.std.proofs.Common.{◌≡◌, ℕ, ◌+◌, ◌<◌, List, [], ◌∷◌, ◌++◌, refl, sym, ap, ◌∙◌, subst, arith, length, take, drop}
use Rattle.wide_forms.specs.EncodingForm.{EncodingForm}
use Rattle.wide_forms.specs.Items.{IsWellFormed}
use Rattle.wide_forms.specs.Laws.Offsets.{IsWellFormed-take, IsWellFormed-drop}
use Rattle.wide_forms.specs.Laws.Splices.{IsWellFormed-append}
use Rattle.wide_search.specs.Cut.{substrings, substrings-are, substrings-whole}
use Rattle.wide_search.specs.Substrings.{AreSubstrings, joined_with}
use Rattle.wide_search.specs.Laws.Ends.{IsBoundary-needle, IsBoundary-after_needle}

module _ (form : EncodingForm) (needle with : List ℕ) (well_needle : IsWellFormed form needle) (well_with : IsWellFormed form with) where
  well-parts : (whole : List ℕ) (parts : List (List ℕ)) → 0 < length needle → IsWellFormed form whole → AreSubstrings needle whole parts → IsWellFormed form (joined_with with parts)
  well-parts whole [] some well are = absurd are
  well-parts whole (part ∷ []) some well are = subst (λ us. IsWellFormed form us) (sym are.0) well
  well-parts whole (part ∷ next ∷ more) some well are =
      let occurs = are.0.here in
      let before = IsWellFormed-take form whole well (length part) (IsBoundary-needle form needle whole (length part) well_needle some occurs) in
      let after = IsWellFormed-drop form whole well (length part + length needle) (IsBoundary-after_needle form needle whole (length part) well_needle some occurs) in
      let rest = well-parts (drop (length part + length needle) whole) (next ∷ more) some after are.2 in
      IsWellFormed-append form part (with ++ joined_with with (next ∷ more)) (subst (λ us. IsWellFormed form us) (sym are.1) before) (IsWellFormed-append form with (joined_with with (next ∷ more)) well_with rest)

  well-joined : (whole : List ℕ) (p : List ℕ) → p ≡ needle → IsWellFormed form whole → IsWellFormed form (joined_with with (substrings needle whole))
  well-joined whole [] e well = subst (λ parts. IsWellFormed form (joined_with with parts)) (sym (ap (λ xs. substrings xs whole) (sym e) ∙ substrings-whole whole)) well
  well-joined whole (u ∷ us) e well =
      let some : 0 < length needle = omega (arith, ap length e) in
      well-parts whole (substrings needle whole) some well (substrings-are needle whole some)

  pub IsWellFormed-overwritten : (whole : List ℕ) → IsWellFormed form whole → IsWellFormed form (joined_with with (substrings needle whole))
  IsWellFormed-overwritten whole well = well-joined whole needle refl well

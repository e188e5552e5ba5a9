-- Well-formed units by their first and their last character.
use Rattle.std.proofs.Common.{◌≡◌, ℕ, suc, zero, List, [], ◌∷◌, ◌++◌, refl, sym, ap, subst, arith}
use Rattle.std.specs.List.{Contains}
use Rattle.wide_forms.specs.EncodingForm.{EncodingForm}
use Rattle.wide_forms.specs.Segmentation.{Item, Char, Fault}
use Rattle.wide_forms.specs.Items.{items, characters, IsWellFormed}

module _ (form : EncodingForm) (us vs : List ℕ) (well : IsWellFormed form us) where
  -- The first item of well-formed units is no fault.
  pub no_first_fault : (u : ℕ) → items form us ≡ Fault u ∷ items form vs → ⊥
  no_first_fault u e = well.no_fault u (subst (λ is. Contains is (Fault u)) (sym e) (0, omega arith, refl))

  -- The units after the first character are well formed.
  pub well_formed-rest : (c : ℕ) → items form us ≡ Char c ∷ items form vs → IsWellFormed form vs
  well_formed-rest c e = record { no_fault = λ u at. well.no_fault u (subst (λ is. Contains is (Fault u)) (sym e) (suc at.0, omega (arith, at.1), at.2)) }

  -- The last item of well-formed units is no fault.
  pub no_last_fault : (u : ℕ) → items form us ≡ items form vs ++ Fault u ∷ [] → ⊥
  no_last_fault u e = well.no_fault u (subst (λ is. Contains is (Fault u)) (sym e) (contains-push (items form vs) (Fault u)))
    where
      contains-push : (is : List Item) (i : Item) → Contains (is ++ i ∷ []) i
      contains-push [] i = (0, omega arith, refl)
      contains-push (j ∷ is) i = let at = contains-push is i in (suc at.0, omega (arith, at.1), at.2)

  -- The units before the last character are well formed.
  pub well_formed-prefix : (c : ℕ) → items form us ≡ items form vs ++ Char c ∷ [] → IsWellFormed form vs
  well_formed-prefix c e = record { no_fault = λ u at. well.no_fault u (subst (λ is. Contains is (Fault u)) (sym e) (contains-left (items form vs) (Char c ∷ []) (Fault u) at)) }
    where
      contains-left : (is js : List Item) (i : Item) → Contains is i → Contains (is ++ js) i
      contains-left [] js i at = absurd (omega (arith, at.1))
      contains-left (j ∷ is) js i (zero, within, e) = (0, omega arith, e)
      contains-left (j ∷ is) js i (suc k, within, e) = let rest = contains-left is js i (k, omega arith, e) in (suc rest.0, omega (arith, rest.1), rest.2)

-- The characters of items and of one more character are those of the items, and that one.
pub characters-push : (is : List Item) (c : ℕ) → characters (is ++ Char c ∷ []) ≡ characters is ++ c ∷ []
characters-push [] c = refl
characters-push (Char d ∷ is) c = ap (λ cs. d ∷ cs) (characters-push is c)
characters-push (Fault u ∷ is) c = characters-push is c

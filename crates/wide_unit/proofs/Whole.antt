-- Characters before an offset, where the units end or a fault follows.
use Rattle.std.proofs.Common.{◌≡◌, ℕ, ◌+◌, ◌-◌, List, [], ◌∷◌, ◌++◌, refl, sym, ◌∙◌, ap, subst, arith, length, length-append}
use Rattle.std.specs.Prelude.{map}
use Rattle.std.proofs.lemmas.List.{append-nil}
use Rattle.wide_forms.specs.EncodingForm.{EncodingForm, encode}
use Rattle.wide_forms.specs.Segmentation.{Item, Char, Fault, units_of}
use Rattle.wide_forms.specs.Items.{items, IsWellFormed, IsFirstFault, BeginsWithChars}
use Rattle.wide_forms.specs.Laws.Items.{IsWellFormed-of_chars, units_of-items, units_of-chars}
use Rattle.wide_forms.specs.Laws.Boundaries.{units_of-append}
use Rattle.wide_forms.specs.Offsets.{chars_before}
use Rattle.wide_unit.proofs.Faults.{IsFirstFault-of, first_fault-item}

pub chars-end : (form : EncodingForm) (us rest : List ℕ) → BeginsWithChars form us rest → items form rest ≡ [] → IsWellFormed form us
chars-end form us rest so_far e = IsWellFormed-of_chars form us so_far.0 (so_far.1 ∙ ap (λ is. map Char so_far.0 ++ is) e ∙ append-nil (map Char so_far.0))

pub chars-fault : (form : EncodingForm) (us rest : List ℕ) (u : ℕ) (after : List Item) → BeginsWithChars form us rest → items form rest ≡ Fault u ∷ after
    → IsFirstFault form us (length us - length rest) (chars_before form us (length us - length rest)) u
chars-fault form us rest u after so_far e =
    let joined : us ≡ encode form so_far.0 ++ rest = sym (units_of-items form us) ∙ ap (λ is. units_of form is) so_far.1 ∙ units_of-append form (map Char so_far.0) (items form rest) ∙ ap (λ xs. xs ++ units_of form (items form rest)) (units_of-chars form so_far.0) ∙ ap (λ xs. encode form so_far.0 ++ xs) (units_of-items form rest) in
    let long : length us ≡ length (encode form so_far.0) + length rest = ap length joined ∙ length-append (encode form so_far.0) rest in
    let index = length us - length rest in
    let fault : IsFirstFault form us index (length so_far.0) u = IsFirstFault-of form us so_far.0 after index (length so_far.0) u (so_far.1 ∙ ap (λ is. map Char so_far.0 ++ is) e) (omega arith) refl in
    subst (λ n. IsFirstFault form us index n u) (first_fault-item form us index (length so_far.0) u fault) fault

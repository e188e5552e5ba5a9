-- Units that equal their numbers, as those of a copy of `u16` or `u32` do.
use Rattle.std.proofs.Common.{◌≡◌, ℕ, List, subst, ◌∙◌}
use Rattle.std.specs.Prelude.{Vec, vec_capacity}
use Rattle.std.proofs.lemmas.List.{map-id}
use Rattle.wide_forms.specs.EncodingForm.{EncodingForm}
use Rattle.wide_forms.specs.Items.{IsFirstFault}
use Rattle.wide_utferror.specs.UtfError.{index_of, item_of, unit_of}
use Rattle.wide_utferror.specs.declared.error.UtfError.{UtfError}
use Rattle.wide_utfstring.specs.Faults.{IsFaultOf, IsFaultOfCopy}

module _ (form : EncodingForm) (copy units : List ℕ) (same : copy ≡ units) where
  pub fault-of_copy : {A : Type 0} (space : ℕ) (e : UtfError ℕ A)
      → ((vec : Vec ℕ A) × (vec.items ≡ copy) × (vec_capacity vec ≡ space) × IsFaultOf form (λ u. u) vec e) → IsFaultOfCopy form units e
  fault-of_copy space e reported =
      let (vec, items, capacity, fault) = reported in
      (subst (λ us. IsFirstFault form us (index_of e) (item_of e) (unit_of e)) (map-id vec.items ∙ items ∙ same) fault.0, vec, items ∙ same, fault.1)

use Rattle.std.proofs.Common.{◌≡◌, ℕ, List, Option, Some, None, map, refl, subst}
use Rattle.std.specs.Prelude.{IfSome}
use Rattle.std.proofs.lemmas.List.{map-id}
use Rattle.wide_forms.specs.EncodingForm.{Utf16}
use Rattle.wide_forms.specs.Items.{IsFirstFault}
use Rattle.wide_forms.specs.Offsets.{text_before}
use Rattle.wide_schemes.proofs.utf16.fault_in.Goals as goal

numbered : (number : ℕ → ℕ) (r : Option (ℕ × ℕ)) (us : List ℕ) → map number us ≡ us → ((u : ℕ) → number u ≡ u) → IfSome r (λ fault. IsFirstFault Utf16 (map number us) fault.0 (text_before Utf16 number us fault.0) (number fault.1))
    → IfSome r (λ fault. (item : ℕ) × IsFirstFault Utf16 us fault.0 item fault.1)
numbered number None us same each e = tt
numbered number (Some fault) us same each e = (text_before Utf16 number us fault.0, subst (λ xs. IsFirstFault Utf16 xs fault.0 (text_before Utf16 number us fault.0) fault.1) same (subst (λ u. IsFirstFault Utf16 (map number us) fault.0 (text_before Utf16 number us fault.0) u) (each fault.1) e))

pub returns-else-keeps-clause-some : goal.returns-else-keeps-clause-some
returns-else-keeps-clause-some c = numbered (λ u. u) c.find_fault.result c.args.units.now (map-id c.args.units.now) (λ u. refl) c.find_fault.ensures.some

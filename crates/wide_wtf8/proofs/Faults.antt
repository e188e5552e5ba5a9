-- What a count of units says of bytes.
use Rattle.std.proofs.Common.{◌≡◌, ℕ, List, ◌↔◌, IsOk, IfOk, IfErr, false, length, refl}
use Rattle.std.specs.Prelude.{Result, Ok, Err}
use Rattle.wide_schemes.specs.Wtf8.{IsWtf8}
use Rattle.wide_wtf8.specs.Faults.{AreUnitsAfter, IsFirstFaultAfter, IsWtf8Of}
use Rattle.wide_wtf8.specs.Laws.{fault-no_text, is-text, text-of_units}
use Rattle.wide_wtf8.specs.declared.fault.Wtf8Fault.{Wtf8Fault}

pub valid-len : (bs : List ℕ) (result : Result ℕ Wtf8Fault) → IfOk result (λ len. (us : List ℕ) × AreUnitsAfter false bs us × (len ≡ length us)) → IfErr result (λ fault. IsFirstFaultAfter false bs fault.index fault.len) → IsOk result ↔ IsWtf8 bs
valid-len bs (Ok len) counted fault = (λ ok. is-text bs counted.0 (text-of_units bs counted.0 counted.1), λ text. refl)
valid-len bs (Err f) counted fault = (λ ok. absurd (cc ok), λ text. absurd (fault-no_text bs f.index f.len fault text))

pub len-of_text : (bs : List ℕ) (result : Result ℕ Wtf8Fault) → IfOk result (λ len. (us : List ℕ) × AreUnitsAfter false bs us × (len ≡ length us)) → IfOk result (λ len. (us : List ℕ) × IsWtf8Of us bs × (len ≡ length us))
len-of_text bs (Ok len) counted = (counted.0, text-of_units bs counted.0 counted.1, counted.2)
len-of_text bs (Err f) counted = tt

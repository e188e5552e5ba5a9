-- Lengths of WTF-8, and the units of which it is made.
use Rattle.std.proofs.Common.{Fits, w16, ◌≡◌, ℕ, ◌*◌, ◌<◌, ◌≤◌, ◌++◌, List, Some, None, sym, ap, ◌∙◌, arith, length, length-take-le, get_or, take}
use Rattle.std.specs.Prelude.{Option, IfErr, IfNone, IfOk, IfSome, Result, Ok, Err}
use Rattle.std.proofs.Math.Seq.{take-append_seam}
use Rattle.std.proofs.lemmas.List.{take_all}
use Rattle.wide_forms.specs.EncodingForm.{Utf16}
use Rattle.wide_unit.specs.CodePoints.{code_points}
use Rattle.wide_schemes.specs.Wtf8.{wtf8}
use Rattle.wide_schemes.specs.Wtf8Laws.{encode-code_points, wtf8-unique}
use Rattle.wide_wtf8.specs.Faults.{IsFirstWtf8Fault, IsWtf8Of}
use Rattle.wide_wtf8.specs.Laws.{fault-no_text, is-text}
use Rattle.wide_wtf8.specs.declared.fault.Wtf8Fault.{Wtf8Fault}
use Rattle.wide_wtf8.proofs.Lengths.{all-units}
use Rattle.widestring_c.proofs.Windows.{bytes_of}

-- A unit has at most four bytes.
pub few-bytes : (us : List ℕ) → ((i : ℕ) → Fits w16 (get_or us i 0)) → length (wtf8 us) ≤ 4 * length us
few-bytes us fits = omega (arith, bytes_of Utf16 (code_points Utf16 us), ap length (encode-code_points us (all-units us fits)))

-- Bytes are made of one list of units.
pub one-list : (us vs bs : List ℕ) → IsWtf8Of us bs → IsWtf8Of vs bs → us ≡ vs
one-list us vs bs a b = wtf8-unique us vs a.sixteen_bits b.sixteen_bits (sym a.text ∙ b.text)

-- What was written of a text whose space is as long as it.
pub written-text : (r : Option ℕ) (us old new : List ℕ) → IfSome r (λ n. take n new ≡ wtf8 us) → IfSome r (λ n. n ≡ length (wtf8 us)) → IfNone r (length old < length (wtf8 us)) → length old ≡ length (wtf8 us) → length new ≡ length old → new ≡ wtf8 us
written-text None us old new text len none exact same = absurd (omega (arith, none, exact))
written-text (Some n) us old new text len none exact same = sym (take_all n new (omega (arith, len, exact, same))) ∙ text

-- A text at the beginning of a buffer.
pub front-is : (len : ℕ) (front back : List ℕ) (us : List ℕ) → length front ≡ len → front ≡ us → take len (front ++ back) ≡ us
front-is len front back us long is = ap (λ n. take n (front ++ back)) (sym long) ∙ take-append_seam front back ∙ is

-- The units that were written of bytes whose space is as long as they are.
pub written-units : (r : Result (Option ℕ) Wtf8Fault) (us bytes old new : List ℕ) → IfOk r (λ written. IfSome written (λ n. IsWtf8Of (take n new) bytes)) → IfOk r (λ written. IfSome written (λ n. n ≤ length new))
    → IfOk r (λ written. IfNone written ((vs : List ℕ) × IsWtf8Of vs bytes × (length old < length vs))) → IfErr r (λ fault. IsFirstWtf8Fault bytes fault.index fault.len) → IsWtf8Of us bytes → length old ≡ length us → length new ≡ length old → new ≡ us
written-units (Ok (Some n)) us bytes old new text len none fault is exact same =
    let units : take n new ≡ us = one-list (take n new) us bytes text is in
    let all : n ≡ length new = omega (arith, ap length units, length-take-le n new len, exact, same) in
    sym (take_all n new (omega (arith, all))) ∙ units
written-units (Ok None) us bytes old new text len none fault is exact same = absurd (omega (arith, none.2, ap length (one-list none.0 us bytes none.1 is), exact))
written-units (Err f) us bytes old new text len none fault is exact same = absurd (fault-no_text bytes f.index f.len fault (is-text bytes us is))

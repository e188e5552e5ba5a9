-- How a run that reads chunk by chunk ends, by what has been transcoded so far.
use Rattle.std.proofs.Common.{◌≡◌, ℕ, ◌+◌, ◌%◌, ◌^◌, ◌<◌, inl, inr, Bool, true, false, eqb, List, [], ◌∷◌, ◌++◌, Option, Some, None, length, take, refl, sym, ap, ◌∙◌, subst, arith, append_assoc, length-append}
use Rattle.std.proofs.lemmas.List.{append-nil}
use Rattle.std.specs.Prelude.{Result, Ok, Err}
use Rattle.std.specs.Io.KnownBytes.{Consumes, Appends, Keeps}
use Rattle.std.proofs.KnownBytes.{Consumes-nil, Appends-nil, Appends-trans, Consumes-trans, Consumes-kept}
use Rattle.wide_forms.specs.EncodingForm.{Utf16, IsHighSurrogate}
use Rattle.wide_forms.specs.declared.policy.Policy.{Policy}
use Rattle.wide_bytes.specs.Bytes.{unit_in, units_in, is_odd}
use Rattle.wide_utf16_to_utf8.specs.Encoded.{IsUnpaired}
use Rattle.wide_transcode.specs.Encoded.{IsCertainFault, IsPending}
use Rattle.wide_transcode.specs.Lossied.{lossy_text}
use Rattle.wide_transcode.specs.Transcoded.{Ending, Clean, HalfUnit, Unpaired, ending_of}
use Rattle.wide_bytes.specs.Put.{IsBeginningOf, PutEnds}
use Rattle.wide_transcode.specs.Run.{IsAllButReplacement, MayBePaired, Moves, Ends}
use Rattle.wide_transcode.specs.Chunks.{units_after, transcoded_after, ReportsAfter, WantsSpace, Finishes, FinishesLossy, FinishesUnder, IsFaultAt}
use Rattle.wide_bytes.specs.declared.order.BoM.{BoM}
use Rattle.wide_error.specs.declared.error.TranscodeError.{TranscodeError}
use Rattle.wide_error.specs.declared.error.TranscodeError.TheVariants.{Utf16 as Utf16Fault, OutOfMemory, OddLength, Read, Write}
use Rattle.wide_bytes.proofs.Pairs.{length-units_in}
use Rattle.wide_transcode.proofs.Zeros.{short-left, zero-left}
use Rattle.wide_transcode.proofs.LossyEnds.{left-text}
use Rattle.wide_transcode.proofs.Sofar.{Sofar, becomes, beginning, given-more, lossy-all, odd-all, many, whole, at_fault, many_at_fault}

-- ---- what moved

pub no_moves : (left pending : Option (List ℕ)) → Moves left left pending pending [] []
no_moves left pending = record { given = Consumes-nil left; put = Appends-nil pending }

pub putting : (left left' pending pending' pending'' : Option (List ℕ)) (bytes written more : List ℕ) → Moves left left' pending pending' bytes written → Appends pending' pending'' more → Moves left left' pending pending'' bytes (written ++ more)
putting left left' pending pending' pending'' bytes written more m k = record { given = m.given; put = Appends-trans pending pending' pending'' written more m.put k }

pub taking : (left left' left'' pending pending' : Option (List ℕ)) (bytes written more : List ℕ) → Moves left left' pending pending' bytes written → Consumes left' left'' more → Moves left left'' pending pending' (bytes ++ more) written
taking left left' left'' pending pending' bytes written more m k = record { given = Consumes-trans left left' left'' bytes more m.given k; put = m.put }

pub keeping : (left left' left'' pending pending' : Option (List ℕ)) (bytes written : List ℕ) → Moves left left' pending pending' bytes written → Keeps left' left'' → Moves left left'' pending pending' bytes written
keeping left left' left'' pending pending' bytes written m k = record { given = Consumes-kept left left' left'' bytes m.given k; put = m.put }

pub taking-none : (left left' left'' pending pending' : Option (List ℕ)) (bytes written xs : List ℕ) (n : ℕ) → n ≡ 0 → Moves left left' pending pending' bytes written → Consumes left' left'' (take n xs) → Moves left left'' pending pending' bytes written
taking-none left left' left'' pending pending' bytes written xs n none m k =
    let nothing : Consumes left' left'' [] = subst (λ j. Consumes left' left'' (take j xs)) none k in
    subst (λ bs. Moves left left'' pending pending' bs written) (append-nil bytes) (taking left left' left'' pending pending' bytes written [] m nothing)

-- ---- putting returns no other error than Write
pub put_error : (T : Type 0) (e : TranscodeError) (failed : Bool) (prefix text : List ℕ) → PutEnds {T = T} (Err e) failed prefix text → (e ≡ Write) × IsBeginningOf prefix text
put_error T OutOfMemory failed prefix text h = absurd h
put_error T OddLength failed prefix text h = absurd h
put_error T Read failed prefix text h = absurd h
put_error T (Utf16Fault index item unit) failed prefix text h = absurd h
put_error T Write failed prefix text h = (refl, h.1)

-- ---- the run so far

-- How the run ended.
abbrev pub EndsAfter : {T : Type 0} → Result T TranscodeError → Bool → BoM → Option Policy → List ℕ → List ℕ → List ℕ → Type 0
EndsAfter r ended order policy first bytes written =
    Ends r ended (λ more. transcoded_after order policy (first ++ more)) bytes written × WantsSpace r (units_after order (first ++ bytes)) × ReportsAfter r ended order policy (first ++ bytes)

module _ {order : BoM} {policy : Option Policy} {after_fault : Bool} (first bytes : List ℕ) {rest written : List ℕ} {offset item : ℕ} (s : Sofar order policy (first ++ bytes) rest after_fault written offset item) where
  -- A prefix of what was encoded last was put.
  pub write-ends : {T : Type 0} (r : Result T TranscodeError) (y : TranscodeError) (ended : Bool) (before prefix text : List ℕ) → r ≡ Err y → y ≡ Write → written ≡ before ++ text → IsBeginningOf prefix text → EndsAfter r ended order policy first bytes (before ++ prefix)
  write-ends r y ended before prefix text is e same f =
      let b = beginning policy s in
      let put : IsBeginningOf (before ++ prefix) (transcoded_after order policy (first ++ bytes)).text =
      (f.0 ++ b.0, b.1 ∙ ap (λ t. t ++ b.0) same ∙ ap (λ t. (before ++ t) ++ b.0) f.1 ∙ ap (λ t. t ++ b.0) (sym (append_assoc before prefix f.0)) ∙ append_assoc (before ++ prefix) f.0 b.0) in
      rw (is, e) (put, tt, tt)

  pub space-ends : (T : Type 0) (ended : Bool) → 2 ^ 64 < offset → EndsAfter {T = T} (Err OutOfMemory) ended order policy first bytes written
  space-ends T ended over = (beginning policy s, omega (arith, many s), tt)

  certain : (more : List ℕ) → IsBeginningOf written (transcoded_after order policy (first ++ (bytes ++ more))).text
  certain more =
      let b = beginning policy (given-more more s) in
      (b.0, ap (λ bs. (transcoded_after order policy bs).text) (sym (append_assoc first bytes more)) ∙ b.1)

-- How a run without a policy ends.
module _ {order : BoM} {after_fault : Bool} (first bytes : List ℕ) {rest written : List ℕ} {offset item : ℕ} (s : Sofar order None (first ++ bytes) rest after_fault written offset item) where
  abbrev EndsStrict : {T : Type 0} → Result T TranscodeError → Bool → Type 0
  EndsStrict r ended = EndsAfter r ended order None first bytes written

  -- If one unit is left, it is the last one of the input.
  last-unit : (u : ℕ) → units_in order rest ≡ u ∷ [] → offset + 1 ≡ length (units_in order (first ++ bytes))
  last-unit u one = omega (arith, length-units_in order (first ++ bytes), ap length s.split, length-append s.passed rest, s.counted, length-units_in order rest, ap length one)

  fault-strict : (T : Type 0) (e : TranscodeError) (u : ℕ) (ended : Bool) → ended ≡ false → IsFaultAt e offset item u → IsCertainFault order rest u
      → EndsStrict {T = T} (Err e) ended
  fault-strict T OutOfMemory u ended going at fault =
      let none = fault.with [] in
      let first_unit : units_in order rest ≡ u ∷ none.0 = ap (λ bs. units_in order bs) (sym (append-nil rest)) ∙ none.1 in
      (beginning None s, omega (arith, many_at_fault s u none.0 first_unit none.2, at), tt)
  fault-strict T (Utf16Fault index number unit) u ended going at fault =
      let none = fault.with [] in
      let first_unit : units_in order rest ≡ u ∷ none.0 = ap (λ bs. units_in order bs) (sym (append-nil rest)) ∙ none.1 in
      let reported = at_fault s u none.0 first_unit none.2 ∙ ap (λ n. record { text = written; ending = Unpaired n item u }) (sym at.0) ∙ ap (λ n. record { text = written; ending = Unpaired index n u }) (sym at.1) ∙ ap (λ v. record { text = written; ending = Unpaired index number v }) (sym at.2) in (
        (
          reported,
          inr (λ more. let more_of = fault.with more in let s_more = given-more more s in
              ap (λ bs. transcoded_after order None bs) (sym (append_assoc first bytes more)) ∙ at_fault s_more u more_of.0 more_of.1 more_of.2 ∙ sym (at_fault s u none.0 first_unit none.2)),
        ),
        tt,
        λ over. absurd cc,
      )
  fault-strict T OddLength u ended going at fault = absurd at
  fault-strict T Read u ended going at fault = absurd at
  fault-strict T Write u ended going at fault = absurd at

  -- A high surrogate at the end of the input is unpaired.
  unpaired-last : (u : ℕ) → IsHighSurrogate Utf16 u → IsUnpaired u []
  unpaired-last u high = inr (high, λ l back e. absurd cc)

  finish-strict : {T : Type 0} (r : Result T TranscodeError) (ended : Bool) → ended ≡ true → Finishes r order rest offset item
      → EndsStrict r ended
  finish-strict (Ok u) ended over (inl none) = ((over, whole s 0 (ap length none) (short-left order rest (omega (arith, ap length none)))), tt, tt)
  finish-strict (Ok u) ended over (inr zero_left) = ((over, whole s 2 zero_left.0 (zero-left order rest zero_left.0 zero_left.1)), tt, tt)
  finish-strict (Err OddLength) ended over one = ((over, whole s 1 one (short-left order rest (omega arith))), tt, tt)
  finish-strict (Err (Utf16Fault index number unit)) ended over at =
      let is = at_fault s unit [] at.2 (unpaired-last unit at.3) ∙ ap (λ n. record { text = written; ending = Unpaired n item unit }) (sym at.0) ∙ ap (λ n. record { text = written; ending = Unpaired index n unit }) (sym at.1) in
      let last : MayBePaired (Unpaired index number unit) (units_in order (first ++ bytes)) = (ap (λ n. n + 1) at.0 ∙ last-unit unit at.2, at.3) in
      ((is, inl over), tt, λ e. subst (λ t. MayBePaired t.ending (units_in order (first ++ bytes))) (sym is) last)
  finish-strict (Err OutOfMemory) ended over at = (beginning None s, omega (arith, many_at_fault s at.1 [] at.2 (unpaired-last at.1 at.3), at.0), tt)
  finish-strict (Err Read) ended over at = absurd at
  finish-strict (Err Write) ended over at = absurd at

  -- What was not encoded yet has no text.
  record WrittenSoFar : Type 0 where
    ending : Ending
    is : transcoded_after order None (first ++ bytes) ≡ becomes written ending
    may : MayBePaired ending (units_in order (first ++ bytes))

  fault-left : (u : ℕ) → units_in order rest ≡ u ∷ [] → IsHighSurrogate Utf16 u → WrittenSoFar
  fault-left u one high = record { ending = Unpaired offset item u; is = at_fault s u [] one (unpaired-last u high); may = (last-unit u one, high) }

  written-so-far : IsPending order rest → WrittenSoFar
  unfolding units_in
  written-so-far pending = by_rest rest refl pending
    where
      by_rest : (bs : List ℕ) → rest ≡ bs → IsPending order bs → WrittenSoFar
      by_rest [] e pending = record { ending = Clean; is = whole s 0 (ap length e) (short-left order rest (omega (arith, ap length e))); may = tt }
      by_rest (a ∷ []) e pending = record { ending = HalfUnit; is = whole s 1 (ap length e) (short-left order rest (omega (arith, ap length e))); may = tt }
      by_rest (a ∷ b ∷ []) e (inl high) = fault-left (unit_in order a b) (ap (λ bs. units_in order bs) e) high
      by_rest (a ∷ b ∷ []) e (inr zero) = record { ending = Clean; is = whole s 2 (ap length e) (zero-left order rest (ap length e) (ap (λ bs. units_in order bs) e ∙ ap (λ u. u ∷ []) zero)); may = tt }
      by_rest (a ∷ b ∷ c ∷ []) e high = fault-left (unit_in order a b) (ap (λ bs. units_in order bs) e) high
      by_rest (a ∷ b ∷ c ∷ d ∷ bs) e pending = absurd pending

-- How a run under a policy ends.
module _ {order : BoM} {policy : Policy} {after_fault : Bool} (first bytes : List ℕ) {rest written : List ℕ} {offset item : ℕ} (s : Sofar order (Some policy) (first ++ bytes) rest after_fault written offset item) where
  -- No fault is reported.
  no-fault : (odd : Bool) (units : List ℕ) → MayBePaired (ending_of None odd) units
  no-fault true units = tt
  no-fault false units = tt

  lossy-whole : (last : List ℕ) (m : ℕ) → last ≡ lossy_text policy after_fault (units_after order rest) → length rest % 2 ≡ m → transcoded_after order (Some policy) (first ++ bytes) ≡ becomes (written ++ last) (ending_of None (eqb m 1))
  lossy-whole last m is parity =
      ap (λ t. becomes t (ending_of None (is_odd (first ++ bytes)))) (lossy-all s policy refl ∙ ap (λ t. written ++ t) (sym is))
      ∙ ap (λ t. becomes (written ++ last) (ending_of None t)) (odd-all s (length rest) refl ∙ ap (λ n. eqb n 1) parity)

  finish-lossy : {T : Type 0} (r : Result T TranscodeError) (ended : Bool) (last : List ℕ) → ended ≡ true → FinishesLossy r last (lossy_text policy after_fault (units_after order rest)) (length rest) → EndsAfter r ended order (Some policy) first bytes (written ++ last)
  finish-lossy (Ok u) ended last over at = ((over, lossy-whole last 0 at.0 at.1), tt, tt)
  finish-lossy (Err OddLength) ended last over at = ((over, lossy-whole last 1 at.0 at.1), tt, tt)
  finish-lossy (Err Write) ended last over at = ((at.0, lossy-all s policy refl ∙ ap (λ t. written ++ t) at.1 ∙ sym (append_assoc written last at.0)), tt, tt)
  finish-lossy (Err Read) ended last over at = absurd at
  finish-lossy (Err OutOfMemory) ended last over at = absurd at
  finish-lossy (Err (Utf16Fault index number unit)) ended last over at = absurd at

  all_but : IsPending order rest → IsAllButReplacement written (transcoded_after order (Some policy) (first ++ bytes)).text
  all_but pending = elim (left-text order policy after_fault rest pending) [
    | inl nothing ↦ inl (lossy-all s policy refl ∙ ap (λ t. written ++ t) nothing ∙ append-nil written)
    | inr one ↦ inr (lossy-all s policy refl ∙ ap (λ t. written ++ t) one)
  ]

-- ---- under a policy or not

pub fault-ends : {order : BoM} (policy : Option Policy) {after_fault : Bool} (first bytes : List ℕ) {rest written : List ℕ} {offset item : ℕ} → Sofar order policy (first ++ bytes) rest after_fault written offset item → policy ≡ None
    → (T : Type 0) (e : TranscodeError) (u : ℕ) (ended : Bool) → ended ≡ false → IsFaultAt e offset item u → IsCertainFault order rest u → EndsAfter {T = T} (Err e) ended order policy first bytes written
fault-ends None first bytes s none T e u ended going at fault = fault-strict first bytes s T e u ended going at fault
fault-ends (Some policy) first bytes s none T e u ended going at fault = absurd cc

pub finish-ends : {order : BoM} (policy : Option Policy) {after_fault : Bool} (first bytes : List ℕ) {rest written : List ℕ} {offset item : ℕ} → Sofar order policy (first ++ bytes) rest after_fault written offset item
    → {T : Type 0} (r : Result T TranscodeError) (ended : Bool) (last : List ℕ) → ended ≡ true → FinishesUnder r order policy after_fault rest offset item last → EndsAfter r ended order policy first bytes (written ++ last)
finish-ends {order} None first bytes {rest} {written} s r ended last over at =
    subst (λ text. EndsAfter r ended order None first bytes text) (sym (append-nil written) ∙ ap (λ l. written ++ l) (sym at.0)) (finish-strict first bytes s r ended over at.1)
finish-ends (Some policy) first bytes s r ended last over at = finish-lossy first bytes s r ended last over at

-- How a run ends in which a read failed.
pub read-ends : {order : BoM} (policy : Option Policy) {after_fault : Bool} (first bytes : List ℕ) {rest written : List ℕ} {offset item : ℕ} → Sofar order policy (first ++ bytes) rest after_fault written offset item
    → (T : Type 0) (ended : Bool) → IsPending order rest → EndsAfter {T = T} (Err Read) ended order policy first bytes written
read-ends {order} None first bytes s T ended pending =
    let w = written-so-far first bytes s pending in
    ((certain first bytes s, inl (ap (λ t. t.text) w.is)), tt, subst (λ t. MayBePaired t.ending (units_in order (first ++ bytes))) (sym w.is) w.may)
read-ends {order} (Some policy) first bytes s T ended pending = ((certain first bytes s, all_but first bytes s pending), tt, no-fault first bytes s (is_odd (first ++ bytes)) (units_in order (first ++ bytes)))

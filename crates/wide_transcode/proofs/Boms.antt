-- Bytes that begin with two known ones, by what follows the BOM.
use Rattle.std.proofs.Common.{◌≡◌, ℕ, ◌-◌, ◌%◌, ◌<◌, ◌≤◌, ◌⊎◌, Bool, true, false, eqb, cond, inl, inr, List, [], ◌∷◌, ◌++◌, Option, Some, None, length, take, drop, refl, sym, ap, ◌∙◌, subst, arith, length-append, length-drop, append_assoc}
use Rattle.std.specs.Prelude.{Result, Ok, Err, is_some, unwrap_or}
use Rattle.wide_forms.specs.EncodingForm.{Utf16}
use Rattle.wide_forms.specs.Items.{items, leading_characters, first_fault}
use Rattle.wide_forms.specs.Lossy.{lossy_by}
use Rattle.wide_forms.specs.Utf8.{utf8}
use Rattle.wide_forms.specs.Laws.Items.{items-nil}
use Rattle.wide_forms.specs.Laws.Policies.{lossy_after-none, lossy_after-none_left}
use Rattle.wide_bytes.specs.Bytes.{bom_of, order_of, without_bom, without_last_zero, units_in, units_of_bytes, whole_units, is_odd}
use Rattle.wide_transcode.specs.Transcoded.{Transcoded, Clean, HalfUnit, transcoded_under, ending_of}
use Rattle.wide_transcode.specs.Run.{Ends, IsAllButReplacement, MayBePaired, ReportsAtOnce, ReportsFault}
use Rattle.wide_transcode.specs.Chunks.{units_after, transcoded_after, ReportsAfter, WantsSpace, Starts}
use Rattle.wide_bytes.specs.declared.order.BoM.{BoM}
use Rattle.wide_bytes.specs.declared.order.BoM.TheVariants.{Little}
use Rattle.wide_forms.specs.declared.policy.Policy.{Policy}
use Rattle.wide_bytes.proofs.Pairs.{units_in-short}
use Rattle.wide_error.specs.declared.error.TranscodeError.{TranscodeError}
use Rattle.wide_error.specs.declared.error.TranscodeError.TheVariants.{Utf16 as Utf16Fault, OutOfMemory, OddLength, Read, Write}

-- The bytes after the BOM are at most as many as all bytes.
pub bom-shorter : (bytes : List ℕ) → length (without_bom bytes) ≤ length bytes
bom-shorter bytes = elim (is_some (bom_of bytes)) as (λ t. length (cond t (drop 2 bytes) bytes) ≤ length bytes) [ true ↦ omega (arith, length-drop 2 bytes) | false ↦ omega arith ]

same-bom : (first more : List ℕ) → 2 ≤ length first → bom_of (first ++ more) ≡ bom_of first
same-bom [] more long = absurd (omega arith)
same-bom (a ∷ []) more long = absurd (omega arith)
same-bom (a ∷ b ∷ first) more long = refl

same-rest : (first more : List ℕ) → 2 ≤ length first → without_bom (first ++ more) ≡ without_bom first ++ more
same-rest [] more long = absurd (omega arith)
same-rest (a ∷ []) more long = absurd (omega arith)
same-rest (a ∷ b ∷ first) more long =
    elim (is_some (bom_of (a ∷ b ∷ first))) as (λ t. cond t (first ++ more) (a ∷ b ∷ first ++ more) ≡ cond t first (a ∷ b ∷ first) ++ more) [ true ↦ refl | false ↦ refl ]

same-parity : (bytes : List ℕ) → 2 ≤ length bytes → is_odd (without_bom bytes) ≡ is_odd bytes
same-parity [] long = absurd (omega arith)
same-parity (a ∷ []) long = absurd (omega arith)
same-parity (a ∷ b ∷ bytes) long =
    elim (is_some (bom_of (a ∷ b ∷ bytes))) as (λ t. eqb (length (cond t bytes (a ∷ b ∷ bytes)) % 2) 1 ≡ eqb (length (a ∷ b ∷ bytes) % 2) 1) [ true ↦ (let e : length bytes % 2 ≡ length (a ∷ b ∷ bytes) % 2 = omega arith in ap (λ n. eqb n 1) e) | false ↦ refl ]

units-beyond : (bytes : List ℕ) → 2 ≤ length bytes → units_of_bytes bytes ≡ units_after (order_of bytes) (without_bom bytes)
unfolding units_of_bytes
units-beyond bytes long =
    let units = units_in (order_of bytes) (without_bom bytes) in
    ap (λ t. cond t units (without_last_zero units)) (sym (same-parity bytes long))

abbrev reported : List ℕ → Bool → Transcoded
reported us t = record { text = utf8 (leading_characters (items Utf16 us)); ending = ending_of (first_fault Utf16 (items Utf16 us)) t }

abbrev pub reported_lossy : Policy → List ℕ → Bool → Transcoded
reported_lossy policy us t = record { text = utf8 (lossy_by policy (items Utf16 us)); ending = ending_of None t }

beyond-bom : (policy : Option Policy) (bytes : List ℕ) → 2 ≤ length bytes → transcoded_under policy bytes ≡ transcoded_after (order_of bytes) policy (without_bom bytes)
beyond-bom None bytes long =
    ap (λ us. reported us (is_odd bytes)) (units-beyond bytes long) ∙ ap (λ t. reported (units_after (order_of bytes) (without_bom bytes)) t) (sym (same-parity bytes long))
beyond-bom (Some policy) bytes long =
    ap (λ us. reported_lossy policy us (is_odd bytes)) (units-beyond bytes long) ∙ ap (λ t. reported_lossy policy (units_after (order_of bytes) (without_bom bytes)) t) (sym (same-parity bytes long))

module _ (first : List ℕ) (long : 2 ≤ length first) (order : BoM) (in_order : order ≡ order_of first) (rest : List ℕ) (is_rest : rest ≡ without_bom first) where
  order-of : (more : List ℕ) → order_of (first ++ more) ≡ order
  order-of more = ap (λ m. unwrap_or m Little) (same-bom first more long) ∙ sym in_order

  rest-of : (more : List ℕ) → without_bom (first ++ more) ≡ rest ++ more
  rest-of more = same-rest first more long ∙ ap (λ bs. bs ++ more) (sym is_rest)

  longer : (more : List ℕ) → 2 ≤ length (first ++ more)
  longer more = omega (arith, length-append first more)

  pub by-rest : (policy : Option Policy) (more : List ℕ) → transcoded_after order policy (rest ++ more) ≡ transcoded_under policy (first ++ more)
  by-rest policy more = sym (beyond-bom policy (first ++ more) (longer more) ∙ ap (λ o. transcoded_after o policy (without_bom (first ++ more))) (order-of more) ∙ ap (λ bs. transcoded_after order policy bs) (rest-of more))

  units-by-rest : (more : List ℕ) → units_after order (rest ++ more) ≡ units_of_bytes (first ++ more)
  units-by-rest more = sym (units-beyond (first ++ more) (longer more) ∙ ap (λ o. units_after o (without_bom (first ++ more))) (order-of more) ∙ ap (λ bs. units_after order bs) (rest-of more))

  pub ends-by-rest : {T : Type 0} (r : Result T TranscodeError) (ended : Bool) (policy : Option Policy) (bytes written : List ℕ) → Ends r ended (λ more. transcoded_after order policy (rest ++ more)) bytes written → Ends r ended (transcoded_under policy) (first ++ bytes) written
  ends-by-rest (Ok u) ended policy bytes written e = (e.0, sym (by-rest policy bytes) ∙ e.1)
  ends-by-rest (Err OddLength) ended policy bytes written e = (e.0, sym (by-rest policy bytes) ∙ e.1)
  ends-by-rest (Err (Utf16Fault index item unit)) ended policy bytes written (e, inl over) = (sym (by-rest policy bytes) ∙ e, inl over)
  ends-by-rest (Err (Utf16Fault index item unit)) ended policy bytes written (e, inr same) =
      (sym (by-rest policy bytes) ∙ e, inr (λ more. ap (λ bs. transcoded_under policy bs) (append_assoc first bytes more) ∙ sym (by-rest policy (bytes ++ more)) ∙ same more ∙ by-rest policy bytes))
  ends-by-rest (Err OutOfMemory) ended policy bytes written e = (e.0, ap (λ t. t.text) (sym (by-rest policy bytes)) ∙ e.1)
  ends-by-rest (Err Read) ended policy bytes written e = (
    λ more. (let b = e.0 more in (b.0, ap (λ bs. (transcoded_under policy bs).text) (append_assoc first bytes more) ∙ ap (λ t. t.text) (sym (by-rest policy (bytes ++ more))) ∙ b.1)),
    subst (λ t. IsAllButReplacement written t.text) (by-rest policy bytes) e.1,
  )
  ends-by-rest (Err Write) ended policy bytes written e = (e.0, ap (λ t. t.text) (sym (by-rest policy bytes)) ∙ e.1)

  pub space-by-rest : {T : Type 0} (r : Result T TranscodeError) (bytes : List ℕ) → WantsSpace r (units_after order (rest ++ bytes)) → WantsSpace r (units_of_bytes (first ++ bytes))
  space-by-rest r bytes h = subst (λ us. WantsSpace r us) (units-by-rest bytes) h

  whole-by-rest : (more : List ℕ) → units_in order (rest ++ more) ≡ whole_units (first ++ more)
  whole-by-rest more = sym (ap (λ o. units_in o (without_bom (first ++ more))) (order-of more) ∙ ap (λ bs. units_in order bs) (rest-of more))

  pub reports-by-rest : {T : Type 0} (r : Result T TranscodeError) (ended : Bool) (policy : Option Policy) (bytes : List ℕ) → ReportsAfter r ended order policy (rest ++ bytes)
      → ReportsAtOnce r ended (transcoded_under policy) (first ++ bytes)
  reports-by-rest r ended policy bytes h = subst (λ t. ReportsFault r ended t.ending (whole_units (first ++ bytes))) (by-rest policy bytes) (subst (λ us. ReportsFault r ended (transcoded_after order policy (rest ++ bytes)).ending us) (whole-by-rest bytes) h)

-- ---- the bytes after a BOM

pub order-found : (first : List ℕ) (found : Option BoM) (order : BoM) → found ≡ bom_of first → order ≡ unwrap_or found Little → order ≡ order_of first
order-found first found order e f = f ∙ ap (λ m. unwrap_or m Little) e

-- ---- fewer than two bytes

none-units : units_of_bytes [] ≡ []
unfolding units_of_bytes units_in
none-units = refl

half-units : (a : ℕ) → units_of_bytes (a ∷ []) ≡ []
unfolding units_of_bytes
half-units a = units_in-short (order_of (a ∷ [])) (without_bom (a ∷ [])) (omega (arith, bom-shorter (a ∷ [])))

no-units : (us : List ℕ) (t : Bool) → us ≡ [] → items Utf16 us ≡ []
no-units us t e = ap (λ xs. items Utf16 xs) e ∙ items-nil Utf16

none-by : (policy : Policy) → lossy_by policy [] ≡ []
none-by policy = sym (lossy_after-none policy []) ∙ lossy_after-none_left policy false

no-text : (policy : Policy) (us : List ℕ) (t : Bool) → us ≡ [] → reported_lossy policy us t ≡ record { text = []; ending = ending_of None t }
no-text policy us t e = ap (λ is. record { text = utf8 (lossy_by policy is); ending = ending_of None t }) (no-units us t e) ∙ ap (λ cs. record { text = utf8 cs; ending = ending_of None t }) (none-by policy)

pub nothing : (policy : Option Policy) (bytes : List ℕ) → length bytes ≡ 0 → transcoded_under policy bytes ≡ record { text = []; ending = Clean }
nothing None [] none = ap (λ is. record { text = utf8 (leading_characters is); ending = ending_of (first_fault Utf16 is) false }) (no-units (units_of_bytes []) false none-units)
nothing None (a ∷ bytes) none = absurd (omega arith)
nothing (Some policy) [] none = no-text policy (units_of_bytes []) false none-units
nothing (Some policy) (a ∷ bytes) none = absurd (omega arith)

pub one-byte : (policy : Option Policy) (bytes : List ℕ) → length bytes ≡ 1 → transcoded_under policy bytes ≡ record { text = []; ending = HalfUnit }
one-byte None [] one = absurd (omega arith)
one-byte None (a ∷ []) one = ap (λ is. record { text = utf8 (leading_characters is); ending = ending_of (first_fault Utf16 is) true }) (no-units (units_of_bytes (a ∷ [])) true (half-units a))
one-byte None (a ∷ b ∷ bytes) one = absurd (omega arith)
one-byte (Some policy) [] one = absurd (omega arith)
one-byte (Some policy) (a ∷ []) one = no-text policy (units_of_bytes (a ∷ [])) true (half-units a)
one-byte (Some policy) (a ∷ b ∷ bytes) one = absurd (omega arith)

-- ---- the first takes

pub start-error : (e : TranscodeError) (bytes chunk : List ℕ) (left : Option (List ℕ)) (failed ended : Bool) → Starts (Err e) bytes chunk left failed ended → (e ≡ Read) × (length bytes < 2)
start-error Read bytes chunk left failed ended h = (refl, h.0)
start-error OutOfMemory bytes chunk left failed ended h = absurd h
start-error (Utf16Fault index item unit) bytes chunk left failed ended h = absurd h
start-error OddLength bytes chunk left failed ended h = absurd h
start-error Write bytes chunk left failed ended h = absurd h

short-text : (policy : Option Policy) (bytes : List ℕ) → length bytes < 2 → (transcoded_under policy bytes ≡ record { text = []; ending = Clean }) ⊎ (transcoded_under policy bytes ≡ record { text = []; ending = HalfUnit })
short-text policy [] short = inl (nothing policy [] refl)
short-text policy (a ∷ []) short = inr (one-byte policy (a ∷ []) refl)
short-text policy (a ∷ b ∷ bytes) short = absurd (omega arith)

no-text-yet : (t : Transcoded) → (t ≡ record { text = []; ending = Clean }) ⊎ (t ≡ record { text = []; ending = HalfUnit }) → t.text ≡ []
no-text-yet t (inl clean) = ap (λ x. x.text) clean
no-text-yet t (inr half) = ap (λ x. x.text) half

no-fault-yet : (t : Transcoded) (units : List ℕ) → (t ≡ record { text = []; ending = Clean }) ⊎ (t ≡ record { text = []; ending = HalfUnit }) → MayBePaired t.ending units
no-fault-yet t units (inl clean) = subst (λ x. MayBePaired x.ending units) (sym clean) tt
no-fault-yet t units (inr half) = subst (λ x. MayBePaired x.ending units) (sym half) tt

pub read-ends : {T : Type 0} (r : Result T TranscodeError) (y : TranscodeError) (ended : Bool) (policy : Option Policy) (bytes : List ℕ) → r ≡ Err y → y ≡ Read → length bytes < 2
    → Ends r ended (transcoded_under policy) bytes [] × WantsSpace r (units_of_bytes bytes) × ReportsAtOnce r ended (transcoded_under policy) bytes
read-ends r y ended policy bytes is e short =
    let t = short-text policy bytes short in
    rw (is, e) ((λ more. ((transcoded_under policy (bytes ++ more)).text, refl), inl (no-text-yet (transcoded_under policy bytes) t)), tt, no-fault-yet (transcoded_under policy bytes) (whole_units bytes) t)

pub bom-dropped : (bytes : List ℕ) → 2 ≤ length bytes → drop (length bytes - length (without_bom bytes)) bytes ≡ without_bom bytes
bom-dropped [] long = absurd (omega arith)
bom-dropped (a ∷ []) long = absurd (omega arith)
bom-dropped (a ∷ b ∷ bytes) long =
    elim (is_some (bom_of (a ∷ b ∷ bytes))) as (λ t. drop (length (a ∷ b ∷ bytes) - length (cond t bytes (a ∷ b ∷ bytes))) (a ∷ b ∷ bytes) ≡ cond t bytes (a ∷ b ∷ bytes)) [
      | true ↦ (let two : length (a ∷ b ∷ bytes) - length bytes ≡ 2 = omega arith in ap (λ n. drop n (a ∷ b ∷ bytes)) two)
      | false ↦ (let none : length (a ∷ b ∷ bytes) - length (a ∷ b ∷ bytes) ≡ 0 = omega arith in ap (λ n. drop n (a ∷ b ∷ bytes)) none)
    ]

-- The bytes after the BOM, moved to the beginning of a chunk.
pub rest-moved : (first chunk : List ℕ) (pending len : ℕ) → 2 ≤ length first → length first ≡ pending → len ≡ length (without_bom first) → take (pending - (pending - len)) chunk ≡ drop (pending - len) first → take len chunk ≡ without_bom first
rest-moved first chunk pending len some long same moved =
    let shorter = bom-shorter first in
    let back : pending - (pending - len) ≡ len = omega arith in
    let cut : pending - len ≡ length first - length (without_bom first) = omega arith in
    let found : take len chunk ≡ drop (pending - len) first = ap (λ n. take n chunk) (sym back) ∙ moved in
    let left : drop (pending - len) first ≡ without_bom first = ap (λ n. drop n first) cut ∙ bom-dropped first some in
    found ∙ left

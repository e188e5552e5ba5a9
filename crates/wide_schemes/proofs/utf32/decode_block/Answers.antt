use Rattle.std.proofs.Common.{◌≡◌, ℕ, ◌*◌, ◌/◌, ◌≤◌, ◌<◌, ◌∙◌, [], inl, inr, true≢false, length, length-drop, length-take, length-take-le, take, drop, get_or, ap, sym, subst, arith}
use Rattle.std.proofs.lemmas.Bool.{cases_lt}
use Rattle.std.specs.Prelude.{IfSome, IsNone}
use Rattle.std.specs.Char.{IsScalar}
use Rattle.std.specs.List.{All}
use Rattle.std.proofs.lemmas.List.{length-map, map-id, take-take}
use Rattle.std.proofs.lemmas.List.Elements.{All-take}
use Rattle.wide_forms.specs.EncodingForm.{Utf16, Utf32, IsFault, encode}
use Rattle.wide_forms.specs.Searches.{IsFirstOffset}
use Rattle.wide_schemes.specs.Decoded.{BeginsWithNoScalar}
use Rattle.wide_schemes.specs.Layouts.{units32_in}
use Rattle.wide_schemes.proofs.Parts32.{part-of_block}
use Rattle.wide_schemes.proofs.Scalars32.{no_scalar-at, scalars-before}
use Rattle.wide_schemes.proofs.Units32.{block-filled, units32_in-at}
use Rattle.wide_schemes.proofs.utf32.decode_block.Goals.{then-step-valid+then-valid-count, else-step-valid}
use Rattle.wide_schemes.proofs.utf32.decode_block.Goals as goal

pub put_scalars-step-requires : goal.put_scalars-step-requires
put_scalars-step-requires c =
    let codes = take c.min-count.result c.fill_units_32.new.units in
    scalars-before codes c.leading_scalars-valid.result (subst (λ xs. IsFirstOffset (IsFault Utf32) xs c.leading_scalars-valid.result) (map-id codes) c.leading_scalars-valid.ensures)

pub returns-clause-part : goal.returns-clause-part
returns-clause-part c =
    let bytes = c.args.bytes.now in
    let count = c.min-count.result in
    let valid = c.leading_scalars-valid.result in
    let codes = take count c.fill_units_32.new.units in
    let found = subst (λ xs. IsFirstOffset (IsFault Utf32) xs valid) (map-id codes) c.leading_scalars-valid.ensures in
    let few : count ≤ length bytes / 4 = omega (arith, c.min.ensures, c.min-count.ensures) in
    let within : 4 * count ≤ length bytes = omega (arith, few) in
    let filled : codes ≡ units32_in c.args.order (take (4 * count) bytes) = block-filled c.args.order bytes c.fill_units_32.new.units count within c.fill_units_32.ensures.units in
    let read = c.put_scalars-step.result.read in
    let below : read ≤ valid = omega (arith, c.put_scalars-step.ensures.read, length-take-le valid codes found.within) in
    let same : take read (take valid codes) ≡ take read codes = take-take read valid codes below in
    part-of_block c.args.order bytes codes _ count read within (omega (arith, below, found.within, length-take count c.fill_units_32.new.units)) filled
    (subst (All IsScalar) same (All-take IsScalar read (take valid codes) (scalars-before codes valid found))) (c.put_scalars-step.ensures.text ∙ ap (encode Utf16) same)

pub returns-clause-some : goal.returns-clause-some
returns-clause-some c = elim c.if-step-valid.branch [
  | then-step-valid+then-valid-count w ↦ (λ none. absurd (true≢false (subst IsNone w.fault-is none)))
  | else-step-valid w ↦ (λ none. elim (cases_lt 0 c.put_scalars-step.result.read) [
    | inl some ↦ omega (arith, some)
    | inr most ↦
        (let step = c.put_scalars-step in
        let codes = take c.min-count.result c.fill_units_32.new.units in
        let zero : step.result.read ≡ 0 = omega (arith, most) in
        let empty : take step.result.written step.new.units ≡ [] = step.ensures.text ∙ ap (λ n. encode Utf16 (take n (take c.leading_scalars-valid.result codes))) zero in
        let unwritten : step.result.written ≡ 0 = omega (arith, ap length empty, length-take-le step.result.written step.new.units step.ensures.written) in
        let units : 0 < c.min-count.result = omega (arith, c.min.ensures, c.min-count.ensures, c.requires.block, c.requires.some, c.requires.space) in
        let found : c.leading_scalars-valid.result ≤ length codes = omega (arith, c.leading_scalars-valid.ensures.within, length-map codes (λ (u : ℕ). u)) in
        let whole : length (take c.leading_scalars-valid.result codes) ≡ c.leading_scalars-valid.result = length-take-le c.leading_scalars-valid.result codes found in
        let end : c.leading_scalars-valid.result ≡ 0 = elim (cases_lt 0 c.leading_scalars-valid.result) [
          | inl more ↦ absurd (omega (arith, step.ensures.space (omega (arith, more, whole, zero)), unwritten, c.requires.space, step.auto.units))
          | inr few ↦ omega (arith, few)
        ] in
        elim w.else-step-valid.either [
          | inl both ↦ absurd (omega (arith, both.1, end, units))
          | inr other ↦ absurd (other (omega (arith, zero, end)))
        ])
  ])
]

pub returns-clause-fault : goal.returns-clause-fault
returns-clause-fault c = elim c.if-step-valid.branch [
  | then-step-valid+then-valid-count w ↦
      (let bytes = c.args.bytes.now in
      let count = c.min-count.result in
      let valid = c.leading_scalars-valid.result in
      let codes = take count c.fill_units_32.new.units in
      let found = subst (λ xs. IsFirstOffset (IsFault Utf32) xs valid) (map-id codes) c.leading_scalars-valid.ensures in
      let few : count ≤ length bytes / 4 = omega (arith, c.min.ensures, c.min-count.ensures) in
      let within : 4 * count ≤ length bytes = omega (arith, few) in
      let filled : codes ≡ units32_in c.args.order (take (4 * count) bytes) = block-filled c.args.order bytes c.fill_units_32.new.units count within c.fill_units_32.ensures.units in
      let begins : BeginsWithNoScalar c.args.order (drop (4 * valid) bytes) (get_or codes valid 0) = record {
        within = omega (arith, length-drop (4 * valid) bytes, within, w.if-valid-count.true);
        is = ap (λ xs. get_or xs valid 0) filled ∙ units32_in-at c.args.order bytes count valid within w.if-valid-count.true;
        no_scalar = no_scalar-at codes valid found (omega (arith, w.if-valid-count.true, length-take-le count c.fill_units_32.new.units (omega (arith, c.min.ensures, c.min-count.ensures, c.fill_units_32.ensures.long))));
      } in
      subst (λ f. IfSome f (λ u. BeginsWithNoScalar c.args.order (drop (4 * c.put_scalars-step.result.read) bytes) u)) (sym w.fault-is)
      (subst (λ n. BeginsWithNoScalar c.args.order (drop (4 * n) bytes) (get_or codes valid 0)) (sym w.if-step-valid.true) begins))
  | else-step-valid w ↦ subst (λ f. IfSome f (λ u. BeginsWithNoScalar c.args.order (drop (4 * c.put_scalars-step.result.read) c.args.bytes.now) u)) (sym w.fault-is) tt
]

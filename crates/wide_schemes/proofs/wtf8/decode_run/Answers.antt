use Rattle.std.proofs.Common.{◌≡◌, ℕ, ◌+◌, ◌-◌, ◌<◌, ◌≤◌, List, [], ◌∷◌, ◌++◌, Bool, false, length, length-drop, length-take, length-take-le, take, drop, refl, sym, ap, ◌∙◌, subst, arith}
use Rattle.std.specs.Prelude.{slice_set}
use Rattle.std.specs.Str.{IsUtf8}
use Rattle.std.proofs.lemmas.Grind.{take-set_at}
use Rattle.wide_forms.specs.Searches.{is_high}
use Rattle.wide_schemes.specs.Decoded.{IsTextPrefix}
use Rattle.wide_schemes.specs.Layouts.{StopsBefore}
use Rattle.wide_schemes.specs.PointRuns.{BeginsWithHalf, IsAfterText, IsPointRun}
use Rattle.wide_schemes.specs.declared.layout.Layout.TheVariants.{Wtf8}
use Rattle.wide_schemes.proofs.PointRuns.{run-half, run-text, run-then}
use Rattle.wide_schemes.proofs.TextPrefixes.{text-part}
use Rattle.wide_schemes.proofs.wtf8.decode_run.Goals as goal

-- The run of UTF-8.
first-run : (keeps h h' : Bool) (bs units : List ℕ) (valid read written : ℕ) → IsUtf8 (take valid bs) → read ≤ length (take valid bs) → written ≤ length units → IsTextPrefix (take valid bs) read (take written units)
    → (written ≡ 0 → h' ≡ h) → (0 < written → h' ≡ false) → IsPointRun keeps h bs read (take written units) h'
first-run keeps h h' bs units valid read written text within fits prefix same other =
    let long : length (take written units) ≡ written = length-take-le written units fits in
    run-text keeps h h' bs read (take written units) (text-part bs valid read (take written units) text within prefix) (λ e. same (sym long ∙ e)) (λ e. other (subst (λ k. 0 < k) long e))

pub returns-then-step-chunk-clause-run : goal.returns-then-step-chunk-clause-run
returns-then-step-chunk-clause-run c = (let e = c.decode_text-step.ensures in first-run c.args.keeps c.args.after_high c.is_after_high.result c.args.bytes.now c.decode_text-step.new.units c.first_utf8_chunk-chunk.result.valid _ _ c.first_utf8_chunk-chunk.ensures.prefix e.read e.written e.text c.is_after_high.ensures.same c.is_after_high.ensures.other)

pub returns-then-units-step-lt2-clause-run : goal.returns-then-units-step-lt2-clause-run
returns-then-units-step-lt2-clause-run c = (let e = c.decode_text-step.ensures in first-run c.args.keeps c.args.after_high c.is_after_high.result c.args.bytes.now c.decode_text-step.new.units c.first_utf8_chunk-chunk.result.valid _ _ c.first_utf8_chunk-chunk.ensures.prefix e.read e.written e.text c.is_after_high.ensures.same c.is_after_high.ensures.other)

pub returns-in-Stop-clause-run : goal.returns-in-Stop-clause-run
returns-in-Stop-clause-run c = (let e = c.decode_text-step.ensures in first-run c.args.keeps c.args.after_high c.is_after_high.result c.args.bytes.now c.decode_text-step.new.units c.first_utf8_chunk-chunk.result.valid _ _ c.first_utf8_chunk-chunk.ensures.prefix e.read e.written e.text c.is_after_high.ensures.same c.is_after_high.ensures.other)

-- The whole text was read.
all-read : (bs : List ℕ) (valid read : ℕ) → valid ≤ read → read ≤ length (take valid bs) → valid ≡ read
all-read bs valid read least most = omega (arith, least, most, length-take valid bs)

pub returns-then-units-step-lt2-clause-stop : goal.returns-then-units-step-lt2-clause-stop
returns-then-units-step-lt2-clause-stop c =
    let bs = c.args.bytes.now in
    let same : c.first_utf8_chunk-chunk.result.valid ≡ c.decode_text-step.result.read = all-read bs _ _ c.if-step-chunk.false c.decode_text-step.ensures.read in
    let found = subst (IsAfterText c.args.keeps c.is_after_high.result (drop c.first_utf8_chunk-chunk.result.valid bs) c.args.is_last 0) c.in-Half.is (c.after_text.ensures 0) in
    (omega (arith, found.2.within, ap (λ n. length (drop n bs)) same), c.if-units-step-lt2.true)

pub returns-in-Stop-clause-stop : goal.returns-in-Stop-clause-stop
returns-in-Stop-clause-stop c =
    let bs = c.args.bytes.now in
    let room = length c.decode_text-step.new.units - c.decode_text-step.result.written in
    let same : c.first_utf8_chunk-chunk.result.valid ≡ c.decode_text-step.result.read = all-read bs _ _ c.if-step-chunk.false c.decode_text-step.ensures.read in
    let found = subst (IsAfterText c.args.keeps c.is_after_high.result (drop c.first_utf8_chunk-chunk.result.valid bs) c.args.is_last room) c.in-Stop.is (c.after_text.ensures room) in
    subst (λ n. StopsBefore Wtf8 c.args.keeps c.is_after_high.result (drop n bs) c.args.is_last room c.in-Stop.stop) same found

pub returns-else-units-step-lt2-clause-read : goal.returns-else-units-step-lt2-clause-read
returns-else-units-step-lt2-clause-read c =
    let bs = c.args.bytes.now in
    let same : c.first_utf8_chunk-chunk.result.valid ≡ c.decode_text-step.result.read = all-read bs _ _ c.if-step-chunk.false c.decode_text-step.ensures.read in
    let found = subst (IsAfterText c.args.keeps c.is_after_high.result (drop c.first_utf8_chunk-chunk.result.valid bs) c.args.is_last 0) c.in-Half.is (c.after_text.ensures 0) in
    omega (arith, found.2.within, length-drop c.first_utf8_chunk-chunk.result.valid bs, same)

pub returns-else-units-step-lt2-clause-run : goal.returns-else-units-step-lt2-clause-run
returns-else-units-step-lt2-clause-run c =
    let bs = c.args.bytes.now in
    let e = c.decode_text-step.ensures in
    let units = c.decode_text-step.new.units in
    let read = c.decode_text-step.result.read in
    let written = c.decode_text-step.result.written in
    let h = c.is_after_high.result in
    let u = c.in-Half.half in
    let same : c.first_utf8_chunk-chunk.result.valid ≡ read = all-read bs _ _ c.if-step-chunk.false e.read in
    let found = subst (IsAfterText c.args.keeps h (drop c.first_utf8_chunk-chunk.result.valid bs) c.args.is_last 0) c.in-Half.is (c.after_text.ensures 0) in
    let half : BeginsWithHalf (drop read bs) u = subst (λ n. BeginsWithHalf (drop n bs) u) same found.2 in
    let one = first-run c.args.keeps c.args.after_high h bs units c.first_utf8_chunk-chunk.result.valid read written c.first_utf8_chunk-chunk.ensures.prefix e.read e.written e.text c.is_after_high.ensures.same c.is_after_high.ensures.other in
    let other : IsPointRun c.args.keeps h (drop read bs) 3 (u ∷ []) (is_high u) = subst (λ k. IsPointRun k h (drop read bs) 3 (u ∷ []) (is_high u)) (sym found.0) (run-half h (drop read bs) u half found.1) in
    let stored : take written units ++ u ∷ [] ≡ take (written + 1) (slice_set units written u) = sym (take-set_at units written (written + 1) u refl (omega (arith, e.written, c.if-units-step-lt2.false))) in
    subst (IsPointRun c.args.keeps c.args.after_high bs (read + 3) (take (written + 1) (slice_set units written u))) (sym c.is_high_surrogate.ensures)
    (subst (λ us. IsPointRun c.args.keeps c.args.after_high bs (read + 3) us (is_high u)) stored (run-then c.args.keeps c.args.after_high h (is_high u) bs (take written units) (u ∷ []) read 3 one other))

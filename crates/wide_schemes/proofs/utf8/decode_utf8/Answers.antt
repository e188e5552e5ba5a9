use Rattle.std.proofs.Common.{◌≡◌, ◌-◌, length, length-take, drop, subst, arith}
use Rattle.wide_schemes.specs.Layouts.{StopsBefore}
use Rattle.wide_schemes.specs.declared.layout.Layout.TheVariants.{Utf8}
use Rattle.wide_schemes.proofs.ReadBytes.{part-bytes}
use Rattle.wide_schemes.proofs.TextPrefixes.{text-part}
use Rattle.wide_schemes.proofs.Utf8Chunks.{part-decodes, part-well_formed, text-stops}
use Rattle.wide_schemes.proofs.utf8.decode_utf8.Goals as goal

pub returns-then-step-chunk-clause-items : goal.returns-then-step-chunk-clause-items
returns-then-step-chunk-clause-items c = (let bs = c.args.bytes.now in let e = c.decode_text-step.ensures in part-decodes bs _ _ c.args.is_last (text-part bs c.first_utf8_chunk-chunk.result.valid _ _ c.first_utf8_chunk-chunk.ensures.prefix e.read e.text))

pub returns-then-step-chunk-clause-well_formed : goal.returns-then-step-chunk-clause-well_formed
returns-then-step-chunk-clause-well_formed c = (let bs = c.args.bytes.now in let e = c.decode_text-step.ensures in part-well_formed bs _ _ (text-part bs c.first_utf8_chunk-chunk.result.valid _ _ c.first_utf8_chunk-chunk.ensures.prefix e.read e.text))

pub returns-else-step-chunk-clause-items : goal.returns-else-step-chunk-clause-items
returns-else-step-chunk-clause-items c = (let bs = c.args.bytes.now in let e = c.decode_text-step.ensures in part-decodes bs _ _ c.args.is_last (text-part bs c.first_utf8_chunk-chunk.result.valid _ _ c.first_utf8_chunk-chunk.ensures.prefix e.read e.text))

pub returns-else-step-chunk-clause-well_formed : goal.returns-else-step-chunk-clause-well_formed
returns-else-step-chunk-clause-well_formed c = (let bs = c.args.bytes.now in let e = c.decode_text-step.ensures in part-well_formed bs _ _ (text-part bs c.first_utf8_chunk-chunk.result.valid _ _ c.first_utf8_chunk-chunk.ensures.prefix e.read e.text))

pub returns-else-step-chunk-clause-stop : goal.returns-else-step-chunk-clause-stop
returns-else-step-chunk-clause-stop c =
    let bs = c.args.bytes.now in
    let room = length c.decode_text-step.new.units - c.decode_text-step.result.written in
    let same : c.first_utf8_chunk-chunk.result.valid ≡ c.decode_text-step.result.read = omega (arith, c.if-step-chunk.false, c.decode_text-step.ensures.read, length-take c.first_utf8_chunk-chunk.result.valid bs) in
    subst (λ n. StopsBefore Utf8 _ _ (drop n bs) c.args.is_last room c.stop_after-stop.result) same (text-stops (drop c.first_utf8_chunk-chunk.result.valid bs) c.args.is_last room c.stop_after-stop.result c.stop_after-stop.ensures)

pub returns-then-step-chunk-clause-bytes : goal.returns-then-step-chunk-clause-bytes
returns-then-step-chunk-clause-bytes c = (let bs = c.args.bytes.now in let e = c.decode_text-step.ensures in part-bytes bs _ _ (text-part bs c.first_utf8_chunk-chunk.result.valid _ _ c.first_utf8_chunk-chunk.ensures.prefix e.read e.text))

pub returns-else-step-chunk-clause-bytes : goal.returns-else-step-chunk-clause-bytes
returns-else-step-chunk-clause-bytes c = (let bs = c.args.bytes.now in let e = c.decode_text-step.ensures in part-bytes bs _ _ (text-part bs c.first_utf8_chunk-chunk.result.valid _ _ c.first_utf8_chunk-chunk.ensures.prefix e.read e.text))

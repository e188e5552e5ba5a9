use Rattle.std.proofs.Common.{◌≡◌, ◌+◌, ◌-◌, ◌^◌, length, map, drop}
use Rattle.std.specs.Prelude.{min}
use Rattle.std.specs.Str.{IsUtf8, chars}
use Rattle.wide_forms.specs.EncodingForm.{encode}
use Rattle.widestring_c.proofs.Buffers.{Puts}
use Rattle.widestring_c.proofs.from_utf8.put_text.Given as goal

abbrev pub invariant-windows : goal.invariant-windows
invariant-windows g l =
    let end = min (l.fn.at + length (encode g.C.Unit.form (chars l.text))) (2 ^ 64 - 1) in
    record {
      text : IsUtf8 l.rest;
      so_far : Puts (map g.C.Unit.number l.fn.units) l.fn.at (encode g.C.Unit.form (chars l.text)) l.at (map g.C.Unit.number l.units) (encode g.C.Unit.form (chars l.rest));
      space : length l.units ≡ length l.fn.units;
      beyond : drop end l.units ≡ drop end l.fn.units;
    }

abbrev pub decreases-windows : goal.decreases-windows
decreases-windows g l = length l.rest

abbrev pub invariant-chunks : goal.invariant-chunks
invariant-chunks g l =
    let end = min (l.fn.at + length (encode g.C.Unit.form (chars l.text))) (2 ^ 64 - 1) in
    record {
      text : IsUtf8 l.rest;
      so_far : Puts (map g.C.Unit.number l.fn.units) l.fn.at (encode g.C.Unit.form (chars l.text)) l.at (map g.C.Unit.number l.units) (encode g.C.Unit.form (chars l.rest));
      space : length l.units ≡ length l.fn.units;
      beyond : drop end l.units ≡ drop end l.fn.units;
    }

abbrev pub decreases-chunks : goal.decreases-chunks
decreases-chunks g l = length l.rest

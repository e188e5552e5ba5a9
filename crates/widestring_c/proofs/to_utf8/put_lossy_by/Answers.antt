use Rattle.std.proofs.Common.{ap, ◌∙◌, arith, length, map}
use Rattle.std.proofs.lemmas.List.{length-map}
use Rattle.wide_forms.specs.Items.{items}
use Rattle.wide_forms.specs.Utf8.{utf8}
use Rattle.wide_forms.specs.Laws.Policies.{lossy_after-none}
use Rattle.widestring_c.proofs.Fits.{bytes-lossy_by}
use Rattle.widestring_c.proofs.to_utf8.put_lossy_by.Goals as goal

pub returns : goal.returns
returns g c =
    let e = c.put_lossy_after.ensures in
    let same = lossy_after-none c.args.policy (items g.C.Unit.form (map g.C.Unit.number c.args.units.now)) in
    let most = bytes-lossy_by g.C.Unit.form c.args.policy (map g.C.Unit.number c.args.units.now) in
    record {
      len = omega (arith, c.requires, e.offset, ap (λ cs. length (utf8 cs)) same, most, length-map c.args.units.now g.C.Unit.number);
      fits = omega (arith, c.requires, e.offset, ap (λ cs. length (utf8 cs)) same, most, length-map c.args.units.now g.C.Unit.number);
      text = λ fits. e.text fits ∙ ap utf8 same;
      beyond = e.beyond;
    }

use Rattle.std.proofs.Common.{◌≡◌, ◌+◌, [], ◌∷◌, ◌++◌, take, ap, sym, ◌∙◌, arith}
use Rattle.std.proofs.lemmas.List.{map-id, take_all, take_more}
use Rattle.wide_forms.specs.EncodingForm.{Utf32}
use Rattle.wide_forms.specs.Items.{chars}
use Rattle.wide_forms.specs.Laws.Splices.{chars-nil}
use Rattle.wide_utfstring.proofs.utfstring.UtfString+u32+A.from_chars.Goals as goal

pub loop-c-init : goal.loop-c-init
loop-c-init g c = record { units = c.in_ok-string.ensures.units; text = ap (chars Utf32) c.in_ok-string.ensures.units ∙ chars-nil Utf32 }

pub loop-c-preserved : goal.loop-c-preserved
loop-c-preserved g c =
    let cs = c.args.text.now in
    let i = c.loop-c.c-index in
    let old = c.loop-c.string.units in
    let one : take (i + 1) cs ≡ take i cs ++ c.c-item.result ∷ [] = take_more cs i c.c-item.result c.loop-c-test.true ∙ ap (λ d. take i cs ++ d ∷ []) (sym c.c-item.is) in
    record {
      units = sym (map-id c.push.new.self.units) ∙ c.in_ok-push.ensures.units ∙ ap (λ us. us ++ c.c-item.result ∷ []) (map-id old ∙ c.loop-c.invariant.units) ∙ sym one;
      text =
          ap (chars Utf32) (sym (map-id c.push.new.self.units)) ∙ c.in_ok-push.ensures.text
          ∙ ap (λ us. us ++ c.c-item.result ∷ []) (ap (chars Utf32) (map-id old) ∙ c.loop-c.invariant.text) ∙ sym one;
    }

pub returns-clause-units : goal.returns-clause-units
returns-clause-units g c = c.loop-c.invariant.units ∙ take_all c.loop-c.c-index c.args.text.now (omega (arith, c.loop-c-test.false))

pub returns-clause-text : goal.returns-clause-text
returns-clause-text g c = c.loop-c.invariant.text ∙ take_all c.loop-c.c-index c.args.text.now (omega (arith, c.loop-c-test.false))

use Rattle.std.proofs.Common.{◌∷◌, [], encode_utf8, refl, true, sym, subst}
use Rattle.std.proofs.lemmas.List.{append-nil}
use Rattle.std.specs.Fmt.{HasWrittenStyled}
use Rattle.wide_ustr.proofs.escaped.write_debug_char.Goals as goal

pub returns-then-is_unescaped : goal.returns-then-is_unescaped
returns-then-is_unescaped g c = (
  c.args.c ∷ [],
  c.if-is_unescaped.ensures (refl {a = true}),
  λ flush fine. subst (λ bs. HasWrittenStyled g.W.Write.write_str_gives c.args.f.now bs c.write_char.new.f) (sym (append-nil (encode_utf8 c.args.c))) (c.write_char.ensures flush fine),
)

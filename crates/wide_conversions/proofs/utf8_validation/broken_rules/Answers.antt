use Rattle.std.proofs.Common.{inl, inr, arith}
use Rattle.std.proofs.lemmas.Grind.{common_steps}
use Rattle.std.proofs.lemmas.Bool.{cases_lt}
use Rattle.wide_conversions.proofs.utf8_validation.broken_rules.Goals as goal

pub returns : goal.returns
returns c = λ none. record {
  begins = λ whole. elim (cases_lt c.args.byte 0x80) [ inl low ↦ inl low | inr from ↦ inr (grind (arith, common_steps), grind (arith, common_steps)) ];
  trails = λ due. (grind (arith, common_steps), grind (arith, common_steps));
  three = (λ is. grind (arith, common_steps), λ is. grind (arith, common_steps));
  four = (λ is. grind (arith, common_steps), λ is. grind (arith, common_steps));
}

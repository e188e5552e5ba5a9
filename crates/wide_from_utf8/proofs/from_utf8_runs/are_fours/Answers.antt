use Rattle.std.proofs.Common.{◌≡◌, ◌*◌, ◌<◌, ℕ, zero, suc, eqb-true, get_or, refl, arith}
use Rattle.wide_from_utf8.specs.declared.from_utf8_runs.TheConstants.{FOUR_BITS}
use Rattle.wide_from_utf8.proofs.FirstBits.{leads-four}
use Rattle.wide_from_utf8.proofs.from_utf8_runs.are_fours.Goals as goal

bits-are : (k : ℕ) → k < 4 → get_or FOUR_BITS (4 * k) 0 ≡ 0xF0
bits-are zero within = refl
bits-are (suc zero) within = refl
bits-are (suc (suc zero)) within = refl
bits-are (suc (suc (suc zero))) within = refl
bits-are (suc (suc (suc (suc k)))) within = absurd (omega arith)

pub returns : goal.returns
returns c all k before =
    let bits = bits-are k before in
    let whole : c.alike_len.result ≡ 16 = eqb-true _ _ all in
    leads-four _ _ _ (c.type_inv.text (4 * k)).fits bits bits (c.alike_len.ensures.alike (4 * k) (omega (arith, whole, before)))

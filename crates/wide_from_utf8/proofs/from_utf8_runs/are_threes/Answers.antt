use Rattle.std.proofs.Common.{◌≡◌, ◌*◌, ◌<◌, ℕ, zero, suc, eqb-true, get_or, refl, arith}
use Rattle.wide_from_utf8.specs.declared.from_utf8_runs.TheConstants.{THREE_BITS, THREE_MASKS}
use Rattle.wide_from_utf8.proofs.FirstBits.{leads-three}
use Rattle.wide_from_utf8.proofs.from_utf8_runs.are_threes.Goals as goal

masks-are : (k : ℕ) → k < 5 → (get_or THREE_MASKS (3 * k) 0 ≡ 0xF0) × (get_or THREE_BITS (3 * k) 0 ≡ 0xE0)
masks-are zero within = (refl, refl)
masks-are (suc zero) within = (refl, refl)
masks-are (suc (suc zero)) within = (refl, refl)
masks-are (suc (suc (suc zero))) within = (refl, refl)
masks-are (suc (suc (suc (suc zero)))) within = (refl, refl)
masks-are (suc (suc (suc (suc (suc k))))) within = absurd (omega arith)

pub returns : goal.returns
returns c all k before =
    let masks = masks-are k before in
    let whole : c.alike_len.result ≡ 16 = eqb-true _ _ all in
    leads-three _ _ _ (c.type_inv.text (3 * k)).fits masks.0 masks.1 (c.alike_len.ensures.alike (3 * k) (omega (arith, whole, before)))

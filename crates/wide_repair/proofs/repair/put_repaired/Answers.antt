use Rattle.std.proofs.Common.{◌≡◌, ℕ, ◌+◌, ◌-◌, ◌<◌, ◌∷◌, get_or, take, drop, sym, ap, ◌∙◌, arith, rules, get_or-take, get_or-drop, length-take-le}
use Rattle.std.proofs.lemmas.List.{get_or-append_right}
use Rattle.wide_forms.proofs.Stored.{stored-block}
use Rattle.wide_repair.specs.Repaired.{repaired_unit}
use Rattle.wide_repair.proofs.Repairs.{unit_after_first}
use Rattle.wide_repair.proofs.repair.put_repaired.Goals as goal

pub returns-clause-each : goal.returns-clause-each
returns-clause-each c k low high =
    let us = c.args.units.now in
    let old = c.args.repaired.now in
    let at = c.args.at in
    let n = at + 17 - (at - 1) in
    let window = take n (drop (at - 1) us) in
    let lanes = c.repaired_lanes.new.repaired in
    let j : ℕ = k - at in
    let stored = stored-block 16 old lanes at (search rules) (omega (arith, c.requires.more, c.requires.space)) in
    let unit_at : (i m : ℕ) → i < 18 → at - 1 + i ≡ m → get_or window i 0 ≡ get_or us m 0 =
    (λ i m within same. get_or-take n (drop (at - 1) us) i 0 (omega (arith, c.requires.some, within)) ∙ get_or-drop (at - 1) us i 0 ∙ ap (λ q. get_or us q 0) same) in
    let before = unit_at j (k - 1) (omega arith) (omega (arith, c.requires.some)) ∙ sym (unit_after_first 0 us k (omega (arith, c.requires.some))) in
    let here = unit_at (j + 1) k (omega arith) (omega (arith, c.requires.some)) in
    let after = unit_at (j + 2) (k + 1) (omega arith) (omega (arith, c.requires.some)) in
    sym (get_or-take (at + 16) _ k 0 high) ∙ ap (λ xs. get_or xs k 0) stored ∙ get_or-append_right (take at old) lanes at k 0 (length-take-le at old (omega (arith, c.requires.more, c.requires.space))) low
    ∙ c.repaired_lanes.ensures j (omega arith) ∙ ap (λ b. repaired_unit b (get_or window (j + 1) 0) (get_or window (j + 2) 0)) before
    ∙ ap (λ u. repaired_unit (get_or (0 ∷ us) k 0) u (get_or window (j + 2) 0)) here ∙ ap (λ v. repaired_unit (get_or (0 ∷ us) k 0) (get_or us k 0) v) after

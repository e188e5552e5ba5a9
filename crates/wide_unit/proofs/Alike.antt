-- Two lists of units that a function makes alike, up to an index.
use Rattle.std.proofs.Common.{◌≡◌, ℕ, suc, ◌+◌, ◌<◌, List, [], ◌∷◌, ◌++◌, map, get_or, take, length, arith, sym, ap, ◌∙◌}
use Rattle.std.proofs.lemmas.List.{get_or-take, get_or-map, length-map}
use Rattle.std.proofs.Math.Seq.{take-suc}

-- What a function makes of the number of the unit at an index.
pub made-at : {X : Type 0} (number : X → ℕ) (f : ℕ → ℕ) (units : List X) (k : ℕ) (u : X) → k < length units → u ≡ get_or units k u → get_or (map f (map number units)) k 0 ≡ f (number u)
made-at number f units k u within is =
    get_or-map f (map number units) k 0 0 (omega (arith, within, length-map units number)) ∙ ap f (get_or-map number units k u 0 within ∙ ap number (sym is))

-- If the first `k` numbers of two lists are the same, and the next ones are, so are the first `k + 1`.
pub same-one_more : (ls rs : List ℕ) (k : ℕ) → k < length ls → k < length rs → take k ls ≡ take k rs → get_or ls k 0 ≡ get_or rs k 0 → take (k + 1) ls ≡ take (k + 1) rs
same-one_more ls rs k within within2 so_far alike =
    let on : k + 1 ≡ suc k = omega arith in
    ap (λ n. take n ls) on ∙ take-suc ls k 0 within ∙ ap (λ xs. xs ++ get_or ls k 0 ∷ []) so_far ∙ ap (λ x. take k rs ++ x ∷ []) alike
    ∙ sym (take-suc rs k 0 within2) ∙ ap (λ n. take n rs) (sym on)

-- The last ones of the same first `k + 1` numbers are the same.
pub alike-at : (ls rs : List ℕ) (k : ℕ) → take (k + 1) ls ≡ take (k + 1) rs → get_or ls k 0 ≡ get_or rs k 0
alike-at ls rs k same = sym (get_or-take (k + 1) ls k 0 (omega arith)) ∙ ap (λ xs. get_or xs k 0) same ∙ get_or-take (k + 1) rs k 0 (omega arith)

-- What units begin with, at an offset.
use Rattle.std.proofs.Common.{◌≡◌, ◌+◌, ◌<◌, ℕ, Bool, true, false, cond, List, [], ◌∷◌, ◌++◌, Some, length, drop, refl, sym, ap, ◌∙◌, inl, inr, arith, add-zero, get_or, get_or-take, get_or-drop, drop-drop, drop_at, take_at, take-append-drop, length-drop}
use Rattle.std.proofs.lemmas.Bool.{cases_lt}
use Rattle.std.proofs.lemmas.List.{append_cancel_left, drop_all, drop_more}
use Rattle.std.proofs.lemmas.List.Sums.{prefix_len_passes, prefix_len_stops}
use Rattle.std.proofs.lemmas.List.Elements.{All-head, All-tail}
use Rattle.std.proofs.lemmas.List.Folds.{length-prefix_len}
use Rattle.std.proofs.lemmas.Option.{get_or_from_slice_get, slice_get-get_or, slice_get_within}
use Rattle.std.specs.List.{AllPass, prefix_len, slice_get, take_while}
use Rattle.wide_subtitles.specs.Times.{begins_with}

-- The units that pass, up to one that does not, are the longest front that passes.
pub len_of : (test : ℕ → Bool) (front rest : List ℕ) → AllPass test front → begins_with test rest ≡ false → prefix_len test (front ++ rest) ≡ length front
len_of test [] [] pass stop = refl
len_of test [] (unit ∷ rest) pass stop = ap (λ b. cond b (1 + prefix_len test rest) 0) stop
len_of test (unit ∷ front) rest pass stop =
    let here : test unit ≡ true = All-head (λ x. test x ≡ true) unit front pass in
    let more : prefix_len test (front ++ rest) ≡ length front = len_of test front rest (All-tail (λ x. test x ≡ true) unit front pass) stop in
    ap (λ b. cond b (1 + prefix_len test (front ++ rest)) 0) here ∙ omega arith

pub front_of : (test : ℕ → Bool) (front rest : List ℕ) → AllPass test front → begins_with test rest ≡ false → take_while test (front ++ rest) ≡ front
front_of test front rest pass stop =
    take_at front rest (prefix_len test (front ++ rest)) (sym (len_of test front rest pass stop))

-- The longest front passes, and what follows does not begin with a unit that passes.
pub front_passes : (test : ℕ → Bool) (units : List ℕ) → AllPass test (take_while test units)
front_passes test units = λ k d h.
    let lt : k < prefix_len test units = omega (arith, length-prefix_len test units) in
    rw (get_or-take (prefix_len test units) units k d lt) (prefix_len_passes test units k d lt)

pub front_stops : (test : ℕ → Bool) (units : List ℕ) → begins_with test (drop (length (take_while test units)) units) ≡ false
front_stops test units =
    let n = prefix_len test units in
    let at : begins_with test (drop n units) ≡ false = elim (cases_lt n (length units)) [
      | inl lt ↦ rw (drop_more units n 0 lt) (prefix_len_stops test units 0 lt)
      | inr ge ↦ rw (drop_all n units ge) refl
    ] in
    rw (length-prefix_len test units) at

-- Units are their longest front that passes, and the rest.
pub front_parts : (test : ℕ → Bool) (units : List ℕ) → units ≡ take_while test units ++ drop (length (take_while test units)) units
front_parts test units =
    rw (length-prefix_len test units) (sym (take-append-drop (prefix_len test units) units))

-- Two ways to split units into a front that passes and a rest that does not begin so are one.
pub same_front : (test : ℕ → Bool) (a b c d : List ℕ) → AllPass test a → begins_with test b ≡ false → AllPass test c → begins_with test d ≡ false → a ++ b ≡ c ++ d → (a ≡ c) × (b ≡ d)
same_front test a b c d pass_a stop_b pass_c stop_d e =
    let fronts : a ≡ c = sym (front_of test a b pass_a stop_b) ∙ ap (take_while test) e ∙ front_of test c d pass_c stop_d in
    (fronts, append_cancel_left c b d (rw fronts at e))

-- What stands behind a front at an offset.
pub behind : (units : List ℕ) (at : ℕ) (front rest : List ℕ) → drop at units ≡ front ++ rest → drop (at + length front) units ≡ rest
behind units at front rest e =
    sym (drop-drop (length front) at units) ∙ ap (drop (length front)) e ∙ drop_at front rest (length front) refl

pub behind_unit : (units : List ℕ) (at unit : ℕ) (rest : List ℕ) → drop at units ≡ unit ∷ rest → drop (at + 1) units ≡ rest
behind_unit units at unit rest e = behind units at (unit ∷ []) rest e

-- The unit at an offset is the first of those from there on.
pub unit_of : (units : List ℕ) (at unit : ℕ) (rest : List ℕ) → drop at units ≡ unit ∷ rest → slice_get units at ≡ Some unit
unit_of units at unit rest e =
    let lt : at < length units = omega (arith, length-drop at units, ap length e) in
    let first : get_or units at 0 ≡ unit = sym (rw add-zero at (get_or-drop at units 0 0)) ∙ ap (λ xs. get_or xs 0 0) e in
    slice_get-get_or units at 0 lt ∙ ap Some first

pub unit_at : (units : List ℕ) (at unit : ℕ) → slice_get units at ≡ Some unit → drop at units ≡ unit ∷ drop (at + 1) units
unit_at units at unit e =
    drop_more units at 0 (slice_get_within units at unit e) ∙ ap (λ x. x ∷ drop (at + 1) units) (get_or_from_slice_get units at unit 0 e)

-- Which method follows a try that failed, and what tries cost.
use Rattle.std.specs.Prelude.{◌+◌, ◌-◌, ◌*◌, ℕ, Bool, true, false, List, length}
use Rattle.wide_search.specs.declared.costs.Turn.{Turn}
use Rattle.wide_search.specs.declared.costs.Turn.TheVariants.{Pairs, Each, TwoWay, Plain}

-- Whether the two-way search follows.
abbrev pub is_two_way : Turn → Bool
is_two_way Pairs = false
is_two_way Each = false
is_two_way TwoWay = true
is_two_way Plain = false

-- Whether the plain loop follows.
abbrev pub is_plain : Turn → Bool
is_plain Pairs = false
is_plain Each = false
is_plain TwoWay = false
is_plain Plain = true

-- How many units are compared if the whole needle is compared at each offset from `at` on at which it fits.
abbrev pub whole_tries : {A : Type 0} → List A → List A → ℕ → ℕ
whole_tries needle units at = length needle * (length units + 1 - length needle - at)

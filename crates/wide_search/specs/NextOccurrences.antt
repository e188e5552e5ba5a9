-- Occurrences of a needle from an offset on, where units are counted from the beginning or from the end.
use Rattle.std.specs.Prelude.{◌<◌, ◌≤◌, ℕ, Bool, List, IsTrue, length, map}
use Rattle.std.specs.Str.TwoWay.{item_from, OccursIn}
use Rattle.wide_search.specs.declared.two_way.Stop.{Stop}

-- The number of a unit as a search reads it.
abbrev pub number_read : {C : Type 0} → (ℕ → ℕ) → (C → ℕ) → C → ℕ
number_read read number unit = read (number unit)

module _ {C : Type 0} (back : Bool) (number : C → ℕ) where
  -- The number of the unit at an index, counted from the end of the list if `back` is true.
  abbrev pub number_from : List C → ℕ → ℕ
  number_from units = item_from back (length units) (map number units)

  -- The units from an offset on are those of the needle.
  abbrev pub OccursFrom : List C → List C → ℕ → Type 0
  OccursFrom needle units at = OccursIn (number_from needle) (length needle) (number_from units) (length units) at

  -- A search from `from` on stopped at `stop.at`: the needle occurs there if it was found, and at no offset before it
  -- from `from` on.
  pub record IsStop (needle units : List C) (from : ℕ) (stop : Stop) : Type 0 where
    pub after : from ≤ stop.at
    pub within : stop.at ≤ length units
    pub here : IsTrue stop.is_found → OccursFrom needle units stop.at
    pub before : (k : ℕ) → from ≤ k → k < stop.at → ¬ (OccursFrom needle units k)

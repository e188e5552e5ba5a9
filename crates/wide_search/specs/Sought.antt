-- The units of a needle.
use Rattle.std.specs.Prelude.{List, [], ◌∷◌, Option, Some, None}
use Rattle.wide_search.specs.declared.needle.Few.{Few}

-- A unit, and a second one if there is one.
abbrev pub first_and : {C : Type 0} → C → Option C → List C
first_and u None = u ∷ []
first_and u (Some v) = u ∷ v ∷ []

-- The units of a needle of one or two units.
abbrev pub units_of_few : {C : Type 0} → Few C → List C
units_of_few few = first_and few.first few.second

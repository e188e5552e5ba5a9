-- What the iterators over matches will yield.
use Rattle.std.specs.Prelude.{ℕ, ◌-◌, List, [], length, map, Option, Some, None}
use Rattle.wide_search.specs.Cut.{substrings}
use Rattle.wide_ustr.specs.Matched.{matches_between}
use Rattle.wide_ustr.specs.declared.split.SplitView.{Ghosts as Seen}
use Rattle.wide_ustr.specs.declared.split.NeedleView.{Ghosts as Sought}
use Rattle.wide_ustr.specs.declared.matches.MatchIndices.{MatchIndices}
use Rattle.wide_ustr.specs.declared.matches.Matches.{Matches}

-- An offset and the numbers of the units of a view.
abbrev pub placed_match : {V : Type 0} → (V → List ℕ) → ℕ × V → ℕ × List ℕ
placed_match seen r = (r.0, seen r.1)

-- The matches in the view that is left, which ends at `end`, or none if no view is left.
abbrev pub matches_of_rest : {V : Type 0} → (V → List ℕ) → List ℕ → ℕ → Option V → List (ℕ × List ℕ)
matches_of_rest seen needle end None = []
matches_of_rest seen needle end (Some view) = matches_between needle (end - length (seen view)) (substrings needle (seen view))

-- The offset and the numbers of the units of each match that will be yielded.
abbrev pub matches_left : {V P : Type 0} {g : Sought V P} {h : Seen V P} → MatchIndices V P g h → List (ℕ × List ℕ)
matches_left {g = g} {h = h} s = matches_of_rest h.numbers_seen (g.needle_numbers s.needle) s.len s.rest

-- The numbers of the units of each match that will be yielded.
abbrev pub found_left : {V P : Type 0} {g : Sought V P} {h : Seen V P} → Matches V P g h → List (List ℕ)
found_left s = map (λ m. m.1) (matches_left s.indices)

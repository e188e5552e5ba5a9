use Rattle.std.proofs.Common.{◌≡◌, ◌≤◌, ◌-◌, length, map}
use Rattle.wide_search.specs.Cut.{substrings}
use Rattle.wide_search.specs.Substrings.{joined_with}
use Rattle.wide_ustring.proofs.Overwritten.{overwritten}
use Rattle.wide_ustring.proofs.overwriting.overwrite.Given as goal

abbrev pub invariant-loop-found : goal.invariant-loop-found
invariant-loop-found g l =
    let number = g.C.Unit.number in record {
      within : l.at ≤ length l.units;
      len : length l.units ≡ length l.fn.units;
      units : joined_with (map number l.with) (substrings (map number l.needle) (map number l.fn.units)) ≡ overwritten number g.met.C.Unit.same l.needle l.with l.units l.at;
    }

abbrev pub decreases-loop-found : goal.decreases-loop-found
decreases-loop-found g l = length l.units - l.at

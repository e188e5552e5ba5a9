use Rattle.std.proofs.Common.{◌≡◌, ◌≤◌, ◌-◌, map, take}
use Rattle.std.specs.Char.{to_ascii_lowercase}
use Rattle.wide_unit.proofs.case.common_prefix_ignore_ascii_case.Given as goal

-- The units before `shared` are the same in lower case.
abbrev pub invariant-loop-shared : goal.invariant-loop-shared
invariant-loop-shared g l = (l.shared ≤ l.len) × (take l.shared (map to_ascii_lowercase (map g.C.Unit.number l.left)) ≡ take l.shared (map to_ascii_lowercase (map g.C.Unit.number l.right)))

abbrev pub decreases-loop-shared : goal.decreases-loop-shared
decreases-loop-shared g l = l.len - l.shared

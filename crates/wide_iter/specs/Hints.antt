-- Upper bounds that may overflow.
use Rattle.std.specs.Prelude.{ℕ, ◌+◌, ◌*◌, ◌^◌, nat_lt, Option, Some, None, if◌then◌else◌}

-- The product of an upper bound and `times`, plus `more`, if it fits into a `usize`.
abbrev pub upper_times : Option ℕ → ℕ → ℕ → Option ℕ
upper_times None times more = None
upper_times (Some upper) times more = if nat_lt (upper * times + more) (2 ^ 64) then Some (upper * times + more) else None

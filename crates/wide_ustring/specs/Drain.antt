-- What contracts say about a `Drain`.
use Rattle.std.specs.Prelude.{◌≡◌, ℕ, List, [], slice_range, Option}
use Rattle.std.specs.Borrow.{GName}
use Rattle.std.specs.Iterator.{Yields, YieldsFirst, YieldsLast}
use Rattle.std.specs.List.{splice}
use Rattle.wide_ustring.specs.declared.iter.Drain.{Drain}

module _ {C A : Type 0} where
  -- The units that were not read yet.
  abbrev pub drain_rest : Drain C A → List C
  drain_rest d = slice_range d.string.now.units d.front d.back

  -- The units that the string has once the drain is dropped.
  abbrev pub drain_leaves : Drain C A → List C
  drain_leaves d = splice d.string.now.units d.start d.end []

  -- The capacity of the string that is drained.
  abbrev pub drain_capacity : Drain C A → ℕ
  drain_capacity d = d.string.now.capacity

  -- The reference to the string that is drained.
  abbrev pub drain_lender : Drain C A → GName
  drain_lender d = d.string.ghost_name

  -- Two drains are of one string, and leave it with the same units and capacity.
  pub record DrainKeeps (old new : Drain C A) : Type 0 where
    pub lender : drain_lender new ≡ drain_lender old
    pub leaves : drain_leaves new ≡ drain_leaves old
    pub capacity : drain_capacity new ≡ drain_capacity old

  -- A call returned the first unit, and did not change what the string will have once the drain is dropped.
  abbrev pub DrainGives : Drain C A → Option C → Drain C A → Type 0
  DrainGives old unit new = YieldsFirst drain_rest old unit new × DrainKeeps old new

  -- A call returned the last unit, and did not change what the string will have once the drain is dropped.
  abbrev pub DrainGivesBack : Drain C A → Option C → Drain C A → Type 0
  DrainGivesBack old unit new = YieldsLast drain_rest old unit new × DrainKeeps old new

  -- Calls of `next` do not change what the string will have once the drain is dropped.
  abbrev pub DrainStays : Drain C A → Type 0
  DrainStays first = (units : List C) (later : Drain C A) → Yields DrainGives first units later → DrainKeeps first later

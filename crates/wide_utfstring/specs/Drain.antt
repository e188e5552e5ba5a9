-- What contracts say about a `DrainUtf`.
use Rattle.std.specs.Prelude.{◌≡◌, ℕ, List, [], map, length, slice_range, nat_eq, if◌then◌else◌, Option}
use Rattle.std.specs.Borrow.{GName}
use Rattle.std.specs.Iterator.{Yields, YieldsFirst, YieldsLast}
use Rattle.std.specs.Iterator.Runs.{YieldsInOrder, YieldsInReverse}
use Rattle.std.specs.List.{splice}
use Rattle.wide_utferror.specs.declared.error.FaultUnit.{Ghosts as Faults}
use Rattle.wide_unit.specs.declared.unit.Unit.{Ghosts}
use Rattle.wide_forms.specs.Items.{chars}
use Rattle.wide_utfstring.specs.declared.iter.DrainUtf.{DrainUtf}

module _ {C A F : Type 0} {f : Faults C F} {g : Ghosts C} where
  -- The units of the characters that were not read yet. There are none once the range is removed from the string, which
  -- happens when the drain is dropped.
  abbrev pub drain_units : DrainUtf C A F f g → List C
  drain_units d = if nat_eq (length d.string.now.units) d.total then slice_range d.string.now.units d.front d.back else []

  -- The characters that were not read yet.
  abbrev pub drain_rest : DrainUtf C A F f g → List ℕ
  drain_rest d = chars g.form (map g.number (drain_units d))

  -- The units that the string has once the drain is dropped.
  abbrev pub drain_leaves : DrainUtf C A F f g → List C
  drain_leaves d = if nat_eq (length d.string.now.units) d.total then splice d.string.now.units d.start d.end [] else d.string.now.units

  -- The capacity of the string that is drained.
  abbrev pub drain_capacity : DrainUtf C A F f g → ℕ
  drain_capacity d = d.string.now.capacity

  -- The reference to the string that is drained.
  abbrev pub drain_lender : DrainUtf C A F f g → GName
  drain_lender d = d.string.ghost_name

  -- Two drains are of one string, and leave it with the same units and capacity.
  pub record DrainKeeps (old new : DrainUtf C A F f g) : Type 0 where
    pub lender : drain_lender new ≡ drain_lender old
    pub leaves : drain_leaves new ≡ drain_leaves old
    pub capacity : drain_capacity new ≡ drain_capacity old

  -- A call returned the first character, and did not change what the string will have once the drain is dropped.
  abbrev pub DrainGives : DrainUtf C A F f g → Option ℕ → DrainUtf C A F f g → Type 0
  DrainGives old c new = YieldsFirst drain_rest old c new × DrainKeeps old new

  -- A call returned the last character, and did not change what the string will have once the drain is dropped.
  abbrev pub DrainGivesBack : DrainUtf C A F f g → Option ℕ → DrainUtf C A F f g → Type 0
  DrainGivesBack old c new = YieldsLast drain_rest old c new × DrainKeeps old new

  -- Calls of `next` do not change what the string will have once the drain is dropped.
  abbrev pub DrainStays : DrainUtf C A F f g → Type 0
  DrainStays first = (cs : List ℕ) (later : DrainUtf C A F f g) → Yields DrainGives first cs later → DrainKeeps first later

  -- Successive calls from the front return the characters that were not read yet.
  abbrev pub DrainRuns : DrainUtf C A F f g → Type 0
  DrainRuns _ = YieldsInOrder DrainGives drain_rest

  -- Successive calls from the back return the characters that were not read yet, the last one first.
  abbrev pub DrainRunsBack : DrainUtf C A F f g → Type 0
  DrainRunsBack _ = YieldsInReverse DrainGivesBack drain_rest

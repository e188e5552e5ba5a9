-- The units that are counted where an edit finds its range and moves the entries of an offset index.
use Rattle.std.specs.Prelude.{◌≡◌, ℕ, ◌+◌, ◌-◌, ◌*◌, ◌/◌, ◌<◌, ◌≤◌, List, length, min}
use Rattle.wide_forms.specs.EncodingForm.{Utf16}
use Rattle.wide_forms.specs.Items.{chars}
use Rattle.wide_steps.specs.Counted.{counted}
use Rattle.wide_offset_index.specs.Marks.{offset}
use Rattle.wide_steps.specs.declared.counting.Steps.{Steps}
use Rattle.wide_offset_index.specs.declared.shifting.Range16.{Range16}

-- How many units an edit put in place of those of a range, if the text had `units` units before and has `us` now.
abbrev pub units_put : List ℕ → ℕ → Range16 → ℕ
units_put us units range = length us + range.end - units - range.start

-- An edit replaced at most 31 characters by at most 62 units, which are read to count their characters.
pub record IsShort (us : List ℕ) (units : ℕ) (range : Range16) : Type 0 where
  pub removed : range.to ≤ range.from + 31
  pub put : units_put us units range ≤ 62

-- An edit replaced at most 31 characters by at most 31, which have at most 62 units, in a text that had `count`
-- characters before.
pub record IsFew (us : List ℕ) (count units : ℕ) (range : Range16) : Type 0 where
  pub short : IsShort us units range
  pub added : length (chars Utf16 us) + range.to ≤ count + range.from + 31

-- How many entries the offset index has both before and after an edit of `count` characters that leaves `total`.
abbrev pub entries_left : ℕ → ℕ → ℕ
entries_left count total = min (count / 64) (total / 64)

module _ (cs : List ℕ) (before after : Steps) where
  -- The steps of a search for character number `to` between those number `low` and `high`: none if the characters
  -- between these have one unit each, or else the units from the nearer of the two to `to`.
  pub record AddsPassed (low high to : ℕ) : Type 0 where
    pub none : offset cs high + low ≡ offset cs low + high → counted after ≡ counted before
    pub on : offset cs low + high < offset cs high + low → to - low ≤ high - to → counted after + offset cs low ≡ counted before + offset cs to
    pub back : offset cs low + high < offset cs high + low → high - to < to - low → counted after + offset cs to ≡ counted before + offset cs high

  -- The steps of entry number `number + 1` of `entries`, after an edit of a text of `count` characters that has `total`
  -- now. The characters to which the old entries belong have moved by the difference of the two. If there are at least
  -- as many characters as before, the new entry is between the new entry before it and the offset to which the old
  -- entry moved. If there are fewer, it is between the offsets to which this old entry and the next one moved, or up to
  -- the end.
  pub record AddsMoved (entries number count total : ℕ) : Type 0 where
    pub more : count ≤ total → AddsPassed (64 * number) (total + 64 * (number + 1) - count) (64 * (number + 1))
    pub fewer : total < count → number + 1 < entries → AddsPassed (total + 64 * (number + 1) - count) (total + 64 * (number + 2) - count) (64 * (number + 1))
    pub last : total < count → entries ≤ number + 1 → AddsPassed (total + 64 * (number + 1) - count) total (64 * (number + 1))

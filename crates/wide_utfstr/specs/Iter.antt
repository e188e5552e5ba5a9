-- What the iterators over a well-formed view will yield.
use Rattle.std.specs.Prelude.{◌≡◌, ◌+◌, ℕ, List, map, Option}
use Rattle.std.specs.Iterator.{YieldsFirst, YieldsLast}
use Rattle.std.specs.Iterator.Runs.{YieldsInOrder, YieldsInReverse}
use Rattle.wide_ustr.specs.Iter.{given_length}
use Rattle.wide_forms.specs.EncodingForm.{EncodingForm}
use Rattle.wide_forms.specs.Items.{chars}
use Rattle.wide_unit.specs.declared.unit.Unit.{Ghosts}
use Rattle.wide_utfstr.specs.View.{units_seen}
use Rattle.wide_utfstr.specs.Indexed.{indexed_chars}
use Rattle.wide_utfstr.specs.declared.iter.Chars.{Chars}
use Rattle.wide_utfstr.specs.declared.iter.CharIndices.{CharIndices}
use Rattle.wide_utfstr.specs.declared.iter.CodeUnits.{CodeUnits}

-- The units of a view that were not read yet.
abbrev pub code_units_rest : CodeUnits → List ℕ
code_units_rest s = s.rest.now

module _ {C : Type 0} {g : Ghosts C} where
  -- The units that a `Chars` has not read yet.
  abbrev pub chars_rest : Chars C g → List C
  chars_rest s = units_seen s.text

  -- The units that a `CharIndices` has not read yet.
  abbrev pub indices_rest : CharIndices C g → List C
  indices_rest s = units_seen s.text

  -- The length in units of what was read from the front.
  abbrev pub offset_of : CharIndices C g → ℕ
  offset_of s = s.offset

  module _ (form : EncodingForm) (number : C → ℕ) where
    -- The characters that a `Chars` will yield.
    abbrev pub chars_left : Chars C g → List ℕ
    chars_left s = chars form (map number (chars_rest s))

    -- The characters that a `CharIndices` will yield, each with its offset in units.
    abbrev pub indices_left : CharIndices C g → List (ℕ × ℕ)
    indices_left s = indexed_chars form (offset_of s) (chars form (map number (indices_rest s)))

  -- A call from the front returned the first character that was left, with its offset.
  abbrev pub IndicesGive : CharIndices C g → Option (ℕ × ℕ) → CharIndices C g → Type 0
  IndicesGive s r t = YieldsFirst (indices_left g.form g.number) s r t × (offset_of t ≡ offset_of s + given_length g.form r)

  -- Successive calls from the front return the characters that were not read yet.
  abbrev pub IndicesRun : CharIndices C g → Type 0
  IndicesRun _ = YieldsInOrder IndicesGive (indices_left g.form g.number)

  -- A call from the back returned the last character that was left, with its offset, and did not change the offset of
  -- the next one from the front.
  abbrev pub IndicesGiveBack : CharIndices C g → Option (ℕ × ℕ) → CharIndices C g → Type 0
  IndicesGiveBack s r t = YieldsLast (indices_left g.form g.number) s r t × (offset_of t ≡ offset_of s)

  -- Successive calls from the back return the characters that were not read yet, the last one first.
  abbrev pub IndicesRunBack : CharIndices C g → Type 0
  IndicesRunBack _ = YieldsInReverse IndicesGiveBack (indices_left g.form g.number)

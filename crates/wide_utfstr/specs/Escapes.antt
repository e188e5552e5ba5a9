-- What the iterators over the escapes of a well-formed view will yield.
use Rattle.std.specs.Prelude.{◌≡◌, ℕ, ◌+◌, ◌*◌, length, true, if◌then◌else◌, List, [], ◌∷◌, ◌++◌, Option, Some, None, IfNone}
use Rattle.std.specs.Char.{is_ascii}
use Rattle.std.specs.Char.Escape.{escape_unicode, escape_default}
use Rattle.std.specs.Char.Iter.{escape_rest, escape_left}
use Rattle.std.specs.Iterator.{YieldsFirst}
use Rattle.std.specs.List.{flat_map, list_all}
use Rattle.wide_forms.specs.Texts.{escape_debug}
use Rattle.wide_forms.specs.Utf8.{utf8}
use Rattle.wide_unit.specs.declared.unit.Unit.{Ghosts}
use Rattle.wide_utfstr.specs.Pending.{pending_rest, pending_left}
use Rattle.wide_utfstr.specs.View.{text_seen}
use Rattle.wide_utfstr.specs.declared.escapes.Escapes.{Escapes}
use Rattle.wide_utfstr.specs.declared.escapes.EscapeUnicode.{EscapeUnicode}
use Rattle.wide_utfstr.specs.declared.escapes.EscapeDefault.{EscapeDefault}
use Rattle.wide_utfstr.specs.declared.escapes.EscapeDebug.{EscapeDebug}

-- The bytes, between quotes.
abbrev pub in_quotes : List ℕ → List ℕ
in_quotes bs = 34 ∷ (bs ++ 34 ∷ [])

module _ {C : Type 0} {g : Ghosts C} where
  -- The characters whose escapes were not begun.
  abbrev pub escapes_rest : Escapes C g → List ℕ
  escapes_rest s = text_seen s.rest

  -- What is left of the escape that was partly read, and the escapes of the characters after it, where `escaped` gives
  -- the escape of each character.
  abbrev pub escapes_left : (ℕ → List ℕ) → Escapes C g → List ℕ
  escapes_left escaped s = pending_rest escape_rest s.current ++ flat_map escaped (escapes_rest s)

  -- A bound on the number of characters to be yielded: ten for each escape.
  abbrev pub escapes_most : Escapes C g → ℕ
  escapes_most s = pending_left escape_left s.current + 10 * length (escapes_rest s)

  -- What an `EscapeUnicode` will yield.
  abbrev pub unicode_left : EscapeUnicode C g → List ℕ
  unicode_left s = escapes_left escape_unicode s.escapes

  -- What an `EscapeDefault` will yield.
  abbrev pub default_left : EscapeDefault C g → List ℕ
  default_left s = escapes_left escape_default s.escapes

  -- What an `EscapeDebug` will yield, which is specified if the characters whose escapes were not begun are ASCII.
  abbrev pub debug_left : EscapeDebug C g → List ℕ
  debug_left s = escapes_left escape_debug s.escapes

  -- The characters whose escapes were not begun are ASCII.
  abbrev pub HasAsciiLeft : EscapeDebug C g → Type 0
  HasAsciiLeft s = list_all is_ascii (escapes_rest s.escapes) ≡ true

  -- A bound on the number of characters that an `EscapeDebug` will yield.
  abbrev pub debug_most : EscapeDebug C g → ℕ
  debug_most s = escapes_most s.escapes

  -- A call returned the first of the characters to be yielded, if they are specified. It returned `None` only if none
  -- were left.
  abbrev pub DebugGives : EscapeDebug C g → Option ℕ → EscapeDebug C g → Type 0
  DebugGives s r t = (HasAsciiLeft s → YieldsFirst debug_left s r t × HasAsciiLeft t) × IfNone r ((debug_most s ≡ 0) × (debug_most t ≡ 0))

  -- What `{}` prints of an `EscapeDebug`. Beyond ASCII nothing is specified.
  abbrev pub debug_left_output : EscapeDebug C g → Option (List ℕ)
  debug_left_output s = if list_all is_ascii (escapes_rest s.escapes) then Some (utf8 (debug_left s)) else None

  -- What `{:?}` prints of an `EscapeDebug`: the escapes between quotes. Beyond ASCII nothing is specified.
  abbrev pub debug_left_quoted : EscapeDebug C g → Option (List ℕ)
  debug_left_quoted s = if list_all is_ascii (escapes_rest s.escapes) then Some (in_quotes (utf8 (debug_left s))) else None

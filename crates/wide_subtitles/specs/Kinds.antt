-- What a line is.
use Rattle.std.specs.Prelude.{◌≡◌, ◌<◌, ◌⊎◌, ◌&&◌, ◌||◌, ◌==◌, nat_le, nat_lt, not, ℕ, Bool, true, false, List, [], ◌∷◌, ◌++◌, Option, Some, None, drop, length, reverse}
use Rattle.std.specs.List.{AllPass, before_first, find, take_while}
use Rattle.std.specs.Option.{option_map_or}
use Rattle.wide_subtitles.specs.Times.{BeginsTime, begins_with, is_digit}
use Rattle.wide_subtitles.specs.declared.kinds.Kind.{Kind}
use Rattle.wide_subtitles.specs.declared.kinds.Kind.TheVariants.{Blank, Number, Times as TimesKind, Broken, Text}
use Rattle.wide_subtitles.specs.declared.times.Times.{Times}

-- The times of a line that has some.
abbrev pub times_in : Kind → Option Times
times_in Blank = None
times_in Number = None
times_in (TimesKind times) = Some times
times_in (Broken unit) = None
times_in Text = None

-- Whether a unit is a space, a tab, or another control that nothing shows.
abbrev pub is_white : ℕ → Bool
is_white unit = unit == 9 || unit == 0xb || unit == 0xc || unit == 0x20

-- Whether a unit is a wide blank, or a mark of direction or of order.
abbrev pub is_hidden : ℕ → Bool
is_hidden unit =
    unit == 0xa0 || unit == 0x200e || unit == 0x200f || (nat_le 0x202a unit && nat_le unit 0x202e) || unit == 0x3000 || unit == 0xfeff

-- Whether a unit is white space, or one of a wide or hidden kind.
abbrev pub is_padding : ℕ → Bool
is_padding unit = is_white unit || is_hidden unit

-- A line with a number: at least one digit, with padding before and behind them.
pub record IsNumberLine (units : List ℕ) : Type 0 where
  pub before : List ℕ
  pub digits : List ℕ
  pub behind : List ℕ
  pub parts : units ≡ before ++ (digits ++ behind)
  pub is_padded : AllPass is_padding before
  pub are_digits : AllPass is_digit digits
  pub is_some : 0 < length digits
  pub is_padded_behind : AllPass is_padding behind

-- Whether units from some offset on pass a test.
abbrev pub has_part : (List ℕ → Bool) → List ℕ → Bool
has_part test [] = false
has_part test (unit ∷ rest) = test (unit ∷ rest) || has_part test rest

-- Whether units begin with `-->`.
abbrev pub begins_arrow : List ℕ → Bool
begins_arrow (first ∷ second ∷ third ∷ rest) = first == 0x2d && second == 0x2d && third == 0x3e
begins_arrow units = false

-- Whether a unit is a colon.
abbrev pub is_colon : ℕ → Bool
is_colon unit = unit == 0x3a

-- Whether units begin with two digits around a colon or more.
abbrev pub begins_clock : List ℕ → Bool
begins_clock [] = false
begins_clock (unit ∷ rest) =
    let colons = length (take_while is_colon rest) in is_digit unit && nat_lt 0 colons && begins_with is_digit (drop colons rest)

-- Whether a unit is a hyphen or a dash.
abbrev pub is_dash : ℕ → Bool
is_dash unit = unit == 0x2d || (nat_le 0x2010 unit && nat_le unit 0x2015) || unit == 0x2212

-- Whether units end in a dash, but for padding.
abbrev pub ends_in_dash : List ℕ → Bool
ends_in_dash units = option_map_or is_dash (find (λ unit. not (is_padding unit)) (reverse units)) false

-- Whether a unit is `>`, the head of an arrow.
abbrev pub is_head : ℕ → Bool
is_head unit = unit == 0x3e

-- Whether units seem to be two times: a dash and then `>`, and two digits around a colon on both sides.
abbrev pub seems_times : List ℕ → Bool
seems_times units =
    let before = before_first is_head units in
    let behind = drop (length before) units in
    ends_in_dash before && has_part begins_clock before && has_part begins_clock behind

-- The units were meant for times: a time stands at their beginning and they have an arrow, or they seem to be two times.
abbrev pub IsDamaged : List ℕ → Type 0
IsDamaged units = (BeginsTime units × (has_part begins_arrow units ≡ true)) ⊎ (seems_times units ≡ true)

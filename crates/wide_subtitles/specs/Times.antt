-- Times, and lines of times.
use Rattle.std.specs.Prelude.{◌≡◌, ℕ, ◌+◌, ◌-◌, ◌*◌, ◌^◌, ◌<◌, ◌≤◌, ◌⊎◌, Bool, true, false, not, ◌&&◌, ◌||◌, nat_le, ◌==◌, List, [], ◌∷◌, ◌++◌, codes, drop, fold, length}
use Rattle.std.specs.List.{AllPass, take_while}
use Rattle.wide_subtitles.specs.declared.time.Time.{Time}
use Rattle.wide_subtitles.specs.declared.times.Times.{Times}

-- Whether a unit is a space or a tab.
abbrev pub is_blank : ℕ → Bool
is_blank unit = unit == 32 || unit == 9

-- Whether a unit is a decimal digit.
abbrev pub is_digit : ℕ → Bool
is_digit unit = nat_le 48 unit && nat_le unit 57

-- Whether units begin with one that passes a test.
abbrev pub begins_with : (ℕ → Bool) → List ℕ → Bool
begins_with test [] = false
begins_with test (unit ∷ rest) = test unit

-- The blanks that units begin with, as far as they go.
abbrev pub blanks_of : List ℕ → List ℕ
blanks_of units = take_while is_blank units

-- The digits that units begin with, as far as they go.
abbrev pub digits_of : List ℕ → List ℕ
digits_of units = take_while is_digit units

-- The number that decimal digits are.
abbrev pub number : List ℕ → ℕ
number digits = fold (λ value digit. value * 10 + (digit - 48)) 0 digits

-- The milliseconds of one to three digits behind a comma or a point.
abbrev pub milliseconds : List ℕ → ℕ
milliseconds digits = number digits * 10 ^ (3 - length digits)

-- At least one digit and at most so many, and their number is below a limit.
pub record IsNumber (digits : List ℕ) (most limit : ℕ) : Type 0 where
  pub are_digits : AllPass is_digit digits
  pub is_some : 0 < length digits
  pub is_short : length digits ≤ most
  pub is_below : number digits < limit

-- The sign of a time: a minus, or nothing.
abbrev pub sign_of : Bool → List ℕ
sign_of true = codes "-"
sign_of false = []

-- Whether a time is written as in `00:00:01,000`: no minus, at least two digits of hours, two of minutes and of seconds,
-- a comma, and three more digits.
abbrev pub is_usual : Bool → ℕ → ℕ → ℕ → ℕ → ℕ → Bool
is_usual is_negative hours minutes seconds point rest =
    not is_negative && nat_le 2 hours && minutes == 2 && seconds == 2 && point == 44 && rest == 3

-- The units are a time: hours, minutes, seconds and up to three digits of a second, with a minus before them or none.
pub record IsTime (units : List ℕ) (time : Time) : Type 0 where
  pub hours : List ℕ
  pub minutes : List ℕ
  pub seconds : List ℕ
  pub point : ℕ
  pub rest : List ℕ
  pub parts : units ≡ sign_of time.is_negative ++ (hours ++ 58 ∷ (minutes ++ 58 ∷ (seconds ++ point ∷ rest)))
  pub are_hours : IsNumber hours (length hours) (2 ^ 32 - 1)
  pub are_minutes : IsNumber minutes 2 60
  pub are_seconds : IsNumber seconds 2 60
  pub is_point : (point ≡ 44) ⊎ (point ≡ 46)
  pub is_rest : IsNumber rest 3 1000
  pub size : time.size ≡ number hours * 3600000 + number minutes * 60000 + number seconds * 1000 + milliseconds rest
  pub usual : time.is_usual ≡ is_usual time.is_negative (length hours) (length minutes) (length seconds) point (length rest)

-- A time stands in the units from an offset to another, and its digits end there.
pub record HasTime (units : List ℕ) (at end : ℕ) (time : Time) : Type 0 where
  pub first : List ℕ
  pub rest : List ℕ
  pub parts : drop at units ≡ first ++ rest
  pub ends : end ≡ at + length first
  pub is_time : IsTime first time
  pub stops : begins_with is_digit rest ≡ false

-- A time stands at the beginning, but for blanks.
pub record BeginsTime (units : List ℕ) : Type 0 where
  pub end : ℕ
  pub time : Time
  pub is_time : HasTime units (length (blanks_of units)) end time

-- An arrow stands in the units from an offset to another, with the blanks before and behind it.
pub record HasArrow (units : List ℕ) (at end : ℕ) : Type 0 where
  pub gap : List ℕ
  pub gap_behind : List ℕ
  pub rest : List ℕ
  pub parts : drop at units ≡ gap ++ (codes "-->" ++ (gap_behind ++ rest))
  pub ends : end ≡ at + length gap + 3 + length gap_behind
  pub are_blanks : AllPass is_blank gap
  pub are_blanks_behind : AllPass is_blank gap_behind
  pub stops : begins_with is_blank rest ≡ false

-- What stands behind a time may: nothing, or what begins with a blank.
abbrev pub IsLineEnd : List ℕ → Type 0
IsLineEnd units = (units ≡ []) ⊎ (begins_with is_blank units ≡ true)

-- The first time ends at an offset.
pub record FirstEnds (units : List ℕ) (end : ℕ) : Type 0 where
  pub time : Time
  pub is_time : HasTime units (length (blanks_of units)) end time

-- An arrow behind it, and the blanks behind the arrow.
pub record ArrowEnds (units : List ℕ) (end : ℕ) : Type 0 where
  pub first_end : ℕ
  pub is_first : FirstEnds units first_end
  pub is_arrow : HasArrow units first_end end

-- The second time.
pub record SecondEnds (units : List ℕ) (end : ℕ) : Type 0 where
  pub second : ℕ
  pub time : Time
  pub is_arrow : ArrowEnds units second
  pub is_second : HasTime units second end time

-- Where units stop being a line of times: where the first time should begin, an arrow behind it, the second time, or where
-- something stands behind that which may not.
abbrev pub IsFault : List ℕ → ℕ → Type 0
IsFault units unit =
    ((unit ≡ length (blanks_of units)) × ((end : ℕ) → ¬ (FirstEnds units end))) ⊎
    ((FirstEnds units unit × ((end : ℕ) → ¬ (HasArrow units unit end))) ⊎
    ((ArrowEnds units unit × ((end : ℕ) (time : Time) → ¬ (HasTime units unit end time))) ⊎
    (SecondEnds units unit × ¬ (IsLineEnd (drop unit units)))))

-- A line of times: two with an arrow between them, blanks before each and around the arrow, and what stands behind a
-- blank after them. The offsets are those at which the two begin and end.
pub record IsTimesLine (units : List ℕ) (times : Times) : Type 0 where
  pub before : List ℕ
  pub first : List ℕ
  pub gap : List ℕ
  pub gap_behind : List ℕ
  pub second : List ℕ
  pub behind : List ℕ
  pub parts : units ≡ before ++ (first ++ (gap ++ (codes "-->" ++ (gap_behind ++ (second ++ behind)))))
  pub are_blanks_before : AllPass is_blank before
  pub are_blanks : AllPass is_blank gap
  pub are_blanks_behind : AllPass is_blank gap_behind
  pub is_first : IsTime first times.begin
  pub is_second : IsTime second times.end
  pub is_end : IsLineEnd behind
  pub at_first : times.first ≡ length before
  pub at_first_end : times.first_end ≡ times.first + length first
  pub at_second : times.second ≡ times.first_end + length gap + 3 + length gap_behind
  pub at_second_end : times.second_end ≡ times.second + length second

-- A time, an arrow and a line of times, by the offsets of their parts.
use Rattle.std.proofs.Common.{◌≡◌, ◌↔◌, ◌⊎◌, ◌+◌, ◌-◌, ◌*◌, ◌^◌, ◌≤◌, ℕ, Bool, true, false, eqb, List, [], ◌∷◌, ◌++◌, Some, length, drop, refl, sym, ap, ◌∙◌, subst, inl, inr, arith, add-zero, append_assoc, codes, length-append, length-drop, drop-drop, drop_at}
use Rattle.std.specs.List.{AllPass, slice_get}
use Rattle.std.proofs.lemmas.Bool.{eqb-true, false_from_ne_true, false≢true, or_cases}
use Rattle.std.proofs.lemmas.List.Elements.{All-head}
use Rattle.std.proofs.lemmas.Option.{same_Some}
use Rattle.wide_subtitles.specs.contracts.time.Time.{bounded-found}
use Rattle.wide_subtitles.specs.declared.time.Time.{bounded-type}
use Rattle.wide_subtitles.specs.Times.{HasArrow, HasTime, IsLineEnd, IsNumber, IsTime, IsTimesLine, begins_with, blanks_of, digits_of, is_blank, is_digit, is_usual, milliseconds, number, sign_of}
use Rattle.wide_subtitles.specs.declared.time.Time.{Time}
use Rattle.wide_subtitles.specs.declared.times.Times.{Times}
use Rattle.wide_subtitles.proofs.Fronts.{behind, behind_unit, front_of, front_parts, front_passes, front_stops, unit_at, unit_of}

-- The digits at an offset, and the blanks.
abbrev pub digits_at : List ℕ → ℕ → List ℕ
digits_at units at = digits_of (drop at units)

abbrev pub blanks_at : List ℕ → ℕ → List ℕ
blanks_at units at = blanks_of (drop at units)

-- The parts of a time from an offset to another: where its hours, its two colons and its comma or point are.
pub record TimeAt (units : List ℕ) (at end : ℕ) (time : Time) : Type 0 where
  pub start : ℕ
  pub colon : ℕ
  pub next : ℕ
  pub dot : ℕ
  pub point : ℕ
  pub sign : (slice_get units at ≡ Some 45) ↔ (time.is_negative ≡ true)
  pub is_start : start ≡ at + length (sign_of time.is_negative)
  pub hours : IsNumber (digits_at units start) (length units) (2 ^ 32 - 1)
  pub is_colon : colon ≡ start + length (digits_at units start)
  pub has_colon : slice_get units colon ≡ Some 58
  pub minutes : IsNumber (digits_at units (colon + 1)) 2 60
  pub is_next : next ≡ colon + 1 + length (digits_at units (colon + 1))
  pub has_next : slice_get units next ≡ Some 58
  pub seconds : IsNumber (digits_at units (next + 1)) 2 60
  pub is_dot : dot ≡ next + 1 + length (digits_at units (next + 1))
  pub has_dot : slice_get units dot ≡ Some point
  pub is_point : (point ≡ 44) ⊎ (point ≡ 46)
  pub rest : IsNumber (digits_at units (dot + 1)) 3 1000
  pub is_end : end ≡ dot + 1 + length (digits_at units (dot + 1))
  pub size : time.size ≡ number (digits_at units start) * 3600000 + number (digits_at units (colon + 1)) * 60000 + number (digits_at units (next + 1)) * 1000 + milliseconds (digits_at units (dot + 1))
  pub usual : time.is_usual ≡ is_usual time.is_negative (length (digits_at units start)) (length (digits_at units (colon + 1))) (length (digits_at units (next + 1))) point (length (digits_at units (dot + 1)))

-- A number and what is behind it.
split_at : (units : List ℕ) (at : ℕ) → drop at units ≡ digits_at units at ++ drop (at + length (digits_at units at)) units
split_at units at =
    let e = front_parts is_digit (drop at units) in
    e ∙ ap (λ rest. digits_at units at ++ rest) (sym (behind units at (digits_at units at) _ e))

-- The sign and what is behind it.
split_sign : (units : List ℕ) (at : ℕ) (b : Bool) → ((slice_get units at ≡ Some 45) ↔ (b ≡ true)) → drop at units ≡ sign_of b ++ drop (at + length (sign_of b)) units
split_sign units at true h = unit_at units at 45 (h.1 refl)
split_sign units at false h = rw add-zero refl

-- The parts of a time joined.
joined : (sign hours minutes seconds rest u0 u1 u2 u3 u4 u5 u6 u7 u8 : List ℕ) (point : ℕ) → u0 ≡ sign ++ u1 → u1 ≡ hours ++ u2 → u2 ≡ 58 ∷ u3 → u3 ≡ minutes ++ u4 → u4 ≡ 58 ∷ u5 → u5 ≡ seconds ++ u6 → u6 ≡ point ∷ u7 → u7 ≡ rest ++ u8 → u0 ≡ (sign ++ (hours ++ 58 ∷ (minutes ++ 58 ∷ (seconds ++ point ∷ rest)))) ++ u8
joined sign hours minutes seconds rest u0 u1 u2 u3 u4 u5 u6 u7 u8 point e0 e1 e2 e3 e4 e5 e6 e7 =
    rw (e0, e1, e2, e3, e4, e5, e6, e7) (simp append_assoc)

-- How long it is.
len : (sign hours minutes seconds rest : List ℕ) (point : ℕ) → length (sign ++ (hours ++ 58 ∷ (minutes ++ 58 ∷ (seconds ++ point ∷ rest)))) ≡ length sign + length hours + 1 + length minutes + 1 + length seconds + 1 + length rest
len sign hours minutes seconds rest point =
    omega (arith, length-append sign (hours ++ 58 ∷ (minutes ++ 58 ∷ (seconds ++ point ∷ rest))), length-append hours (58 ∷ (minutes ++ 58 ∷ (seconds ++ point ∷ rest))), length-append minutes (58 ∷ (seconds ++ point ∷ rest)), length-append seconds (point ∷ rest))

-- Numbers of at most so many digits are numbers of any length.
any_length : (digits : List ℕ) (most limit : ℕ) → IsNumber digits most limit → IsNumber digits (length digits) limit
any_length digits most limit h = record { are_digits = h.are_digits; is_some = h.is_some; is_short = omega arith; is_below = h.is_below }

pub time_from_parts : (units : List ℕ) (at end : ℕ) (time : Time) → TimeAt units at end time → HasTime units at end time
time_from_parts units at end time t =
    let sign = sign_of time.is_negative in
    let hours = digits_at units t.start in
    let minutes = digits_at units (t.colon + 1) in
    let seconds = digits_at units (t.next + 1) in
    let rest = digits_at units (t.dot + 1) in
    let e0 : drop at units ≡ sign ++ drop t.start units = rw t.is_start (split_sign units at time.is_negative t.sign) in
    let e1 : drop t.start units ≡ hours ++ drop t.colon units = rw t.is_colon (split_at units t.start) in
    let e2 = unit_at units t.colon 58 t.has_colon in
    let e3 : drop (t.colon + 1) units ≡ minutes ++ drop t.next units = rw t.is_next (split_at units (t.colon + 1)) in
    let e4 = unit_at units t.next 58 t.has_next in
    let e5 : drop (t.next + 1) units ≡ seconds ++ drop t.dot units = rw t.is_dot (split_at units (t.next + 1)) in
    let e6 = unit_at units t.dot t.point t.has_dot in
    let e7 : drop (t.dot + 1) units ≡ rest ++ drop end units = rw t.is_end (split_at units (t.dot + 1)) in
    record {
      first = sign ++ (hours ++ 58 ∷ (minutes ++ 58 ∷ (seconds ++ t.point ∷ rest)));
      rest = drop end units;
      parts = joined sign hours minutes seconds rest _ _ _ _ _ _ _ _ _ t.point e0 e1 e2 e3 e4 e5 e6 e7;
      ends = let l = len sign hours minutes seconds rest t.point in omega arith;
      is_time = record {
        hours = hours;
        minutes = minutes;
        seconds = seconds;
        point = t.point;
        rest = rest;
        parts = refl;
        are_hours = any_length hours (length units) (2 ^ 32 - 1) t.hours;
        are_minutes = t.minutes;
        are_seconds = t.seconds;
        is_point = t.is_point;
        is_rest = t.rest;
        size = t.size;
        usual = t.usual;
      };
      stops = rw t.is_end (rw (drop-drop (length rest) (t.dot + 1) units) at (front_stops is_digit (drop (t.dot + 1) units)));
    }

-- What begins with a digit, and what with none.
begins_number : (digits rest : List ℕ) (most limit : ℕ) → IsNumber digits most limit → begins_with is_digit (digits ++ rest) ≡ true
begins_number [] rest most limit h = let some = h.is_some in absurd (omega arith)
begins_number (digit ∷ digits) rest most limit h = All-head (λ x. is_digit x ≡ true) digit digits h.are_digits

no_digit_point : (point : ℕ) (rest : List ℕ) → (point ≡ 44) ⊎ (point ≡ 46) → begins_with is_digit (point ∷ rest) ≡ false
no_digit_point point rest (inl e) = rw e refl
no_digit_point point rest (inr e) = rw e refl

blank_is : (unit : ℕ) → is_blank unit ≡ true → (unit ≡ 32) ⊎ (unit ≡ 9)
blank_is unit h = elim (or_cases (eqb unit 32) (eqb unit 9) h) [
  | inl e ↦ inl (eqb-true unit 32 e)
  | inr e ↦ inr (eqb-true unit 9 e)
]

no_digit_blank : (unit : ℕ) → is_blank unit ≡ true → is_digit unit ≡ false
no_digit_blank unit h = elim (blank_is unit h) [ inl e ↦ rw e refl | inr e ↦ rw e refl ]

no_blank_digit : (unit : ℕ) → is_digit unit ≡ true → is_blank unit ≡ false
no_blank_digit unit h =
    false_from_ne_true (is_blank unit) (λ b. false≢true (sym (no_digit_blank unit b) ∙ h))

no_blank_number : (units : List ℕ) → begins_with is_digit units ≡ true → begins_with is_blank units ≡ false
no_blank_number [] h = refl
no_blank_number (unit ∷ rest) h = no_blank_digit unit h

no_digit_end : (units : List ℕ) → IsLineEnd units → begins_with is_digit units ≡ false
no_digit_end units (inl e) = rw e refl
no_digit_end [] (inr h) = refl
no_digit_end (unit ∷ rest) (inr h) = no_digit_blank unit h

no_digit_gap : (gap rest : List ℕ) → AllPass is_blank gap → begins_with is_digit (gap ++ 45 ∷ rest) ≡ false
no_digit_gap [] rest h = refl
no_digit_gap (unit ∷ gap) rest h = no_digit_blank unit (All-head (λ x. is_blank x ≡ true) unit gap h)

-- A time begins with no blank.
no_blank_time : (first rest : List ℕ) (time : Time) → IsTime first time → begins_with is_blank (first ++ rest) ≡ false
no_blank_time first rest time t =
    let more = 58 ∷ (t.minutes ++ 58 ∷ (t.seconds ++ t.point ∷ t.rest)) in
    let by_sign : (b : Bool) → begins_with is_blank ((sign_of b ++ (t.hours ++ more)) ++ rest) ≡ false = λ (b : Bool).
    elim b as (λ v. begins_with is_blank ((sign_of v ++ (t.hours ++ more)) ++ rest) ≡ false) [
      | true ↦ refl
      | false ↦ rw (append_assoc t.hours more rest) (no_blank_number (t.hours ++ (more ++ rest)) (begins_number t.hours (more ++ rest) (length t.hours) (2 ^ 32 - 1) t.are_hours))
    ] in
    rw t.parts (by_sign time.is_negative)

-- A minus at an offset, before what begins with a digit.
sign_here : (units : List ℕ) (at : ℕ) (b : Bool) (front : List ℕ) → drop at units ≡ sign_of b ++ front → begins_with is_digit front ≡ true → (slice_get units at ≡ Some 45) ↔ (b ≡ true)
sign_here units at true front e digit = (λ g. refl, λ h. unit_of units at 45 front e)
sign_here units at false front e digit = (
  λ g. absurd (false≢true (sym (ap (begins_with is_digit) (unit_at units at 45 g)) ∙ ap (begins_with is_digit) e ∙ digit)),
  λ h. absurd (false≢true h),
)

-- The parts of a time apart.
apart : (sign hours minutes seconds rest tail first : List ℕ) (point : ℕ) → first ≡ sign ++ (hours ++ 58 ∷ (minutes ++ 58 ∷ (seconds ++ point ∷ rest))) → first ++ tail ≡ sign ++ (hours ++ 58 ∷ (minutes ++ 58 ∷ (seconds ++ point ∷ (rest ++ tail))))
apart sign hours minutes seconds rest tail first point e = rw e (simp append_assoc)

-- A number in the units is no longer than they are.
within_units : (units : List ℕ) (at : ℕ) (digits rest : List ℕ) → drop at units ≡ digits ++ rest → length digits ≤ length units
within_units units at digits rest e = omega (arith, length-drop at units, length-append digits rest, ap length e)

pub parts_from_time : (units : List ℕ) (at end : ℕ) (time : Time) → HasTime units at end time → TimeAt units at end time
parts_from_time units at end time h =
    let t = h.is_time in
    let sign = sign_of time.is_negative in
    let whole = h.parts ∙ apart sign t.hours t.minutes t.seconds t.rest h.rest h.first t.point t.parts in
    let start = at + length sign in
    let d0 = behind units at sign _ whole in
    let f0 : digits_at units start ≡ t.hours = ap digits_of d0 ∙ front_of is_digit t.hours _ t.are_hours.are_digits refl in
    let colon = start + length t.hours in
    let d1 = behind units start t.hours _ d0 in
    let d2 = behind_unit units colon 58 _ d1 in
    let f2 : digits_at units (colon + 1) ≡ t.minutes = ap digits_of d2 ∙ front_of is_digit t.minutes _ t.are_minutes.are_digits refl in
    let next = colon + 1 + length t.minutes in
    let d3 = behind units (colon + 1) t.minutes _ d2 in
    let d4 = behind_unit units next 58 _ d3 in
    let f4 : digits_at units (next + 1) ≡ t.seconds =
    ap digits_of d4 ∙ front_of is_digit t.seconds _ t.are_seconds.are_digits (no_digit_point t.point (t.rest ++ h.rest) t.is_point) in
    let dot = next + 1 + length t.seconds in
    let d5 = behind units (next + 1) t.seconds _ d4 in
    let d6 = behind_unit units dot t.point _ d5 in
    let f6 : digits_at units (dot + 1) ≡ t.rest = ap digits_of d6 ∙ front_of is_digit t.rest h.rest t.is_rest.are_digits h.stops in
    record {
      start = start;
      colon = colon;
      next = next;
      dot = dot;
      point = t.point;
      sign = sign_here units at time.is_negative _ whole (begins_number t.hours _ (length t.hours) (2 ^ 32 - 1) t.are_hours);
      is_start = refl;
      hours = rw f0 (record { are_digits = t.are_hours.are_digits; is_some = t.are_hours.is_some; is_short = within_units units start t.hours _ d0; is_below = t.are_hours.is_below });
      is_colon = rw f0 refl;
      has_colon = unit_of units colon 58 _ d1;
      minutes = rw f2 t.are_minutes;
      is_next = rw f2 refl;
      has_next = unit_of units next 58 _ d3;
      seconds = rw f4 t.are_seconds;
      is_dot = rw f4 refl;
      has_dot = unit_of units dot t.point _ d5;
      is_point = t.is_point;
      rest = rw f6 t.is_rest;
      is_end = rw f6 (omega (arith, h.ends, ap length t.parts, len sign t.hours t.minutes t.seconds t.rest t.point));
      size = rw (f0, f2, f4, f6) t.size;
      usual = rw (f0, f2, f4, f6) t.usual;
    }

-- The parts of an arrow from an offset to another: where its first unit is.
pub record ArrowAt (units : List ℕ) (at end : ℕ) : Type 0 where
  pub dash : ℕ
  pub is_dash : dash ≡ at + length (blanks_at units at)
  pub first : slice_get units dash ≡ Some 45
  pub second : slice_get units (dash + 1) ≡ Some 45
  pub head : slice_get units (dash + 1 + 1) ≡ Some 62
  pub is_end : end ≡ dash + 1 + 1 + 1 + length (blanks_at units (dash + 1 + 1 + 1))

-- Blanks and what is behind them.
split_blanks : (units : List ℕ) (at : ℕ) → drop at units ≡ blanks_at units at ++ drop (at + length (blanks_at units at)) units
split_blanks units at =
    let e = front_parts is_blank (drop at units) in
    e ∙ ap (λ rest. blanks_at units at ++ rest) (sym (behind units at (blanks_at units at) _ e))

-- What stands behind blanks begins with none.
pub blanks_stop : (units : List ℕ) (at : ℕ) → begins_with is_blank (drop (at + length (blanks_at units at)) units) ≡ false
blanks_stop units at =
    rw (drop-drop (length (blanks_at units at)) at units) at (front_stops is_blank (drop at units))

-- The parts of an arrow joined.
arrow_joined : (gap gap_behind u0 u1 u2 u3 u4 u5 : List ℕ) → u0 ≡ gap ++ u1 → u1 ≡ 45 ∷ u2 → u2 ≡ 45 ∷ u3 → u3 ≡ 62 ∷ u4 → u4 ≡ gap_behind ++ u5 → u0 ≡ gap ++ (codes "-->" ++ (gap_behind ++ u5))
arrow_joined gap gap_behind u0 u1 u2 u3 u4 u5 e0 e1 e2 e3 e4 = rw (e0, e1, e2, e3, e4) refl

pub arrow_from_parts : (units : List ℕ) (at end : ℕ) → ArrowAt units at end → HasArrow units at end
arrow_from_parts units at end a =
    let gap = blanks_at units at in
    let gap_behind = blanks_at units (a.dash + 1 + 1 + 1) in
    let e0 : drop at units ≡ gap ++ drop a.dash units = rw a.is_dash (split_blanks units at) in
    let e4 : drop (a.dash + 1 + 1 + 1) units ≡ gap_behind ++ drop end units = rw a.is_end (split_blanks units (a.dash + 1 + 1 + 1)) in
    record {
      gap = gap;
      gap_behind = gap_behind;
      rest = drop end units;
      parts = arrow_joined gap gap_behind _ _ _ _ _ _ e0 (unit_at units a.dash 45 a.first) (unit_at units (a.dash + 1) 45 a.second) (unit_at units (a.dash + 1 + 1) 62 a.head) e4;
      ends = omega arith;
      are_blanks = front_passes is_blank (drop at units);
      are_blanks_behind = front_passes is_blank (drop (a.dash + 1 + 1 + 1) units);
      stops = rw a.is_end (blanks_stop units (a.dash + 1 + 1 + 1));
    }

pub parts_from_arrow : (units : List ℕ) (at end : ℕ) → HasArrow units at end → ArrowAt units at end
parts_from_arrow units at end h =
    let f0 : blanks_at units at ≡ h.gap = ap blanks_of h.parts ∙ front_of is_blank h.gap _ h.are_blanks refl in
    let dash = at + length h.gap in
    let d0 = behind units at h.gap _ h.parts in
    let d1 = behind_unit units dash 45 _ d0 in
    let d2 = behind_unit units (dash + 1) 45 _ d1 in
    let d3 = behind_unit units (dash + 1 + 1) 62 _ d2 in
    let f3 : blanks_at units (dash + 1 + 1 + 1) ≡ h.gap_behind = ap blanks_of d3 ∙ front_of is_blank h.gap_behind h.rest h.are_blanks_behind h.stops in
    record {
      dash = dash;
      is_dash = rw f0 refl;
      first = unit_of units dash 45 _ d0;
      second = unit_of units (dash + 1) 45 _ d1;
      head = unit_of units (dash + 1 + 1) 62 _ d2;
      is_end = rw f3 (omega (arith, h.ends));
    }

-- A time of its parts.
abbrev time_of : (size : ℕ) (negative usual : Bool) → bounded-type size negative usual → Time
time_of size negative usual bound = record { size = size; is_negative = negative; is_usual = usual; bounded = bound }

-- Two times with the same size, sign and form are one.
same_usual : (size : ℕ) (negative usual other : Bool) (x : bounded-type size negative usual) (y : bounded-type size negative other) → usual ≡ other → time_of size negative usual x ≡ time_of size negative other y
same_usual size negative usual other x y e =
    let P : Bool → Type 0 = λ w. (z : bounded-type size negative w) → time_of size negative usual x ≡ time_of size negative w z in
    subst P e (λ z. ap (time_of size negative usual) (bounded-found size negative usual x z)) y

same_sign : (size : ℕ) (negative usual other_negative other : Bool) (x : bounded-type size negative usual) (y : bounded-type size other_negative other) → negative ≡ other_negative → usual ≡ other → time_of size negative usual x ≡ time_of size other_negative other y
same_sign size negative usual other_negative other x y e f =
    let P : Bool → Type 0 = λ w. (z : bounded-type size w other) → time_of size negative usual x ≡ time_of size w other z in
    subst P e (λ z. same_usual size negative usual other x z f) y

same_size : (size : ℕ) (negative usual : Bool) (other_size : ℕ) (other_negative other : Bool) (x : bounded-type size negative usual) (y : bounded-type other_size other_negative other) → size ≡ other_size → negative ≡ other_negative → usual ≡ other → time_of size negative usual x ≡ time_of other_size other_negative other y
same_size size negative usual other_size other_negative other x y e f g =
    let P : ℕ → Type 0 = λ w. (z : bounded-type w other_negative other) → time_of size negative usual x ≡ time_of w other_negative other z in
    subst P e (λ z. same_sign size negative usual other_negative other x z f g) y

same_time : (a b : Time) → a.size ≡ b.size → a.is_negative ≡ b.is_negative → a.is_usual ≡ b.is_usual → a ≡ b
same_time a b e f g = same_size a.size a.is_negative a.is_usual b.size b.is_negative b.is_usual a.bounded b.bounded e f g

-- Times with the same parts are one.
abbrev times_of : (begin end : Time) (first first_end second second_end : ℕ) → Times
times_of begin end first first_end second second_end = record { begin = begin; end = end; first = first; first_end = first_end; second = second; second_end = second_end }

same_times : (a b : Times) → a.begin ≡ b.begin → a.end ≡ b.end → a.first ≡ b.first → a.first_end ≡ b.first_end → a.second ≡ b.second → a.second_end ≡ b.second_end → a ≡ b
same_times a b e0 e1 e2 e3 e4 e5 =
    let e : times_of a.begin a.end a.first a.first_end a.second a.second_end ≡ times_of b.begin b.end b.first b.first_end b.second b.second_end = rw (e0, e1, e2, e3, e4, e5) refl in e

-- Of two tests that say the same.
pub same_test : (a b : Bool) (P : Type 0) → (P ↔ (a ≡ true)) → (P ↔ (b ≡ true)) → a ≡ b
same_test true true P h k = refl
same_test false false P h k = refl
same_test true false P h k = sym (k.0 (h.1 refl))
same_test false true P h k = h.0 (k.1 refl)

-- At the same offsets there is the same form.
same_form : (units : List ℕ) {negative other : Bool} {a b c d e f g h i j : ℕ} → negative ≡ other → a ≡ b → c ≡ d → e ≡ f → g ≡ h → i ≡ j → is_usual negative (length (digits_at units a)) (length (digits_at units (c + 1))) (length (digits_at units (e + 1))) i (length (digits_at units (g + 1))) ≡ is_usual other (length (digits_at units b)) (length (digits_at units (d + 1))) (length (digits_at units (f + 1))) j (length (digits_at units (h + 1)))
same_form units e0 e1 e2 e3 e4 e5 = rw (e0, e1, e2, e3, e4, e5) refl

-- A time at an offset, and its end, are the only ones.
pub one_time : (units : List ℕ) (at end other_end : ℕ) (time other : Time) → HasTime units at end time → HasTime units at other_end other → (end ≡ other_end) × (time ≡ other)
one_time units at end other_end time other h k =
    let a = parts_from_time units at end time h in
    let b = parts_from_time units at other_end other k in
    let signs : time.is_negative ≡ other.is_negative = same_test _ _ _ a.sign b.sign in
    let starts : a.start ≡ b.start = a.is_start ∙ ap (λ s. at + length (sign_of s)) signs ∙ sym b.is_start in
    let colons : a.colon ≡ b.colon = a.is_colon ∙ ap (λ s. s + length (digits_at units s)) starts ∙ sym b.is_colon in
    let nexts : a.next ≡ b.next = a.is_next ∙ ap (λ s. s + 1 + length (digits_at units (s + 1))) colons ∙ sym b.is_next in
    let dots : a.dot ≡ b.dot = a.is_dot ∙ ap (λ s. s + 1 + length (digits_at units (s + 1))) nexts ∙ sym b.is_dot in
    let points : a.point ≡ b.point = same_Some a.point b.point (sym a.has_dot ∙ ap (slice_get units) dots ∙ b.has_dot) in
    let ends : end ≡ other_end = a.is_end ∙ ap (λ s. s + 1 + length (digits_at units (s + 1))) dots ∙ sym b.is_end in
    let sizes : time.size ≡ other.size = rw (starts, colons, nexts, dots) at a.size ∙ sym b.size in
    let forms : time.is_usual ≡ other.is_usual = a.usual ∙ same_form units signs starts colons nexts dots points ∙ sym b.usual in
    (ends, same_time time other sizes signs forms)

-- And so is an arrow.
pub one_arrow : (units : List ℕ) (at end other_end : ℕ) → HasArrow units at end → HasArrow units at other_end → end ≡ other_end
one_arrow units at end other_end h k =
    let a = parts_from_arrow units at end h in
    let b = parts_from_arrow units at other_end k in
    let dashes : a.dash ≡ b.dash = a.is_dash ∙ sym b.is_dash in
    a.is_end ∙ ap (λ s. s + 1 + 1 + 1 + length (blanks_at units (s + 1 + 1 + 1))) dashes ∙ sym b.is_end

-- What stands behind a time.
behind_time : (units : List ℕ) (at end : ℕ) (time : Time) (h : HasTime units at end time) → drop at units ≡ h.first ++ drop end units
behind_time units at end time h =
    h.parts ∙ ap (λ rest. h.first ++ rest) (sym (rw h.ends (behind units at h.first h.rest h.parts)))

-- The parts of a line of times: what of it stands at which offset.
pub record LineAt (units : List ℕ) (times : Times) : Type 0 where
  pub is_first : times.first ≡ length (blanks_of units)
  pub is_begin : HasTime units times.first times.first_end times.begin
  pub has_arrow : HasArrow units times.first_end times.second
  pub is_end : HasTime units times.second times.second_end times.end
  pub ends : IsLineEnd (drop times.second_end units)

-- The parts of a line joined.
line_joined : (before first gap gap_behind second u0 u1 u2 u3 u4 : List ℕ) → u0 ≡ before ++ u1 → u1 ≡ first ++ u2 → u2 ≡ gap ++ (codes "-->" ++ (gap_behind ++ u3)) → u3 ≡ second ++ u4 → u0 ≡ before ++ (first ++ (gap ++ (codes "-->" ++ (gap_behind ++ (second ++ u4)))))
line_joined before first gap gap_behind second u0 u1 u2 u3 u4 e0 e1 e2 e3 = rw (e0, e1, e2, e3) refl

-- What stands behind an arrow.
behind_arrow : (units : List ℕ) (at end : ℕ) (h : HasArrow units at end) → drop end units ≡ h.rest
behind_arrow units at end h =
    let d0 = behind units at h.gap _ h.parts in
    let d1 = behind units (at + length h.gap) (codes "-->") (h.gap_behind ++ h.rest) d0 in
    rw h.ends (behind units (at + length h.gap + 3) h.gap_behind h.rest d1)

pub line_from_parts : (units : List ℕ) (times : Times) → LineAt units times → IsTimesLine units times
line_from_parts units times l =
    let h = l.has_arrow in
    let e0 : units ≡ blanks_of units ++ drop times.first units = rw l.is_first (front_parts is_blank units) in
    let e2 : drop times.first_end units ≡ h.gap ++ (codes "-->" ++ (h.gap_behind ++ drop times.second units)) = rw (behind_arrow units times.first_end times.second h) h.parts in
    record {
      before = blanks_of units;
      first = l.is_begin.first;
      gap = h.gap;
      gap_behind = h.gap_behind;
      second = l.is_end.first;
      behind = drop times.second_end units;
      parts = line_joined (blanks_of units) l.is_begin.first h.gap h.gap_behind l.is_end.first _ _ _ _ _ e0 (behind_time units times.first times.first_end times.begin l.is_begin) e2 (behind_time units times.second times.second_end times.end l.is_end);
      are_blanks_before = front_passes is_blank units;
      are_blanks = h.are_blanks;
      are_blanks_behind = h.are_blanks_behind;
      is_first = l.is_begin.is_time;
      is_second = l.is_end.is_time;
      is_end = l.ends;
      at_first = l.is_first;
      at_first_end = l.is_begin.ends;
      at_second = h.ends;
      at_second_end = l.is_end.ends;
    }

pub parts_from_line : (units : List ℕ) (times : Times) → IsTimesLine units times → LineAt units times
parts_from_line units times l =
    let rest2 = codes "-->" ++ (l.gap_behind ++ (l.second ++ l.behind)) in
    let blank1 = no_blank_time l.first (l.gap ++ rest2) times.begin l.is_first in
    let f0 : blanks_of units ≡ l.before = ap blanks_of l.parts ∙ front_of is_blank l.before (l.first ++ (l.gap ++ rest2)) l.are_blanks_before blank1 in
    let d1 : drop times.first units ≡ l.first ++ (l.gap ++ rest2) = ap (drop times.first) l.parts ∙ drop_at l.before (l.first ++ (l.gap ++ rest2)) times.first (sym l.at_first) in
    let d2 : drop times.first_end units ≡ l.gap ++ rest2 = rw l.at_first_end (behind units times.first l.first (l.gap ++ rest2) d1) in
    let has_arrow : HasArrow units times.first_end times.second = record {
      gap = l.gap;
      gap_behind = l.gap_behind;
      rest = l.second ++ l.behind;
      parts = d2;
      ends = l.at_second;
      are_blanks = l.are_blanks;
      are_blanks_behind = l.are_blanks_behind;
      stops = no_blank_time l.second l.behind times.end l.is_second;
    } in
    let d3 : drop times.second units ≡ l.second ++ l.behind = behind_arrow units times.first_end times.second has_arrow in
    record {
      is_first = rw f0 l.at_first;
      is_begin = record {
        first = l.first;
        rest = l.gap ++ rest2;
        parts = d1;
        ends = l.at_first_end;
        is_time = l.is_first;
        stops = no_digit_gap l.gap _ l.are_blanks;
      };
      has_arrow = has_arrow;
      is_end = record {
        first = l.second;
        rest = l.behind;
        parts = d3;
        ends = l.at_second_end;
        is_time = l.is_second;
        stops = no_digit_end l.behind l.is_end;
      };
      ends = let d4 : drop times.second_end units ≡ l.behind = rw l.at_second_end (behind units times.second l.second l.behind d3) in rw d4 l.is_end;
    }

-- A line has the times that it has, and no others.
pub one_line : (units : List ℕ) (times other : Times) → IsTimesLine units times → IsTimesLine units other → times ≡ other
one_line units times other l m =
    let a = parts_from_line units times l in
    let b = parts_from_line units other m in
    let firsts : times.first ≡ other.first = a.is_first ∙ sym b.is_first in
    let begins = one_time units other.first times.first_end other.first_end times.begin other.begin (rw firsts at a.is_begin) b.is_begin in
    let first_ends : times.first_end ≡ other.first_end = begins.0 in
    let seconds : times.second ≡ other.second = one_arrow units other.first_end times.second other.second (rw first_ends at a.has_arrow) b.has_arrow in
    let ends = one_time units other.second times.second_end other.second_end times.end other.end (rw seconds at a.is_end) b.is_end in
    same_times times other begins.1 ends.1 firsts first_ends seconds ends.0

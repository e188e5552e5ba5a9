-- Lines with a number, and which lines are of no two kinds.
use Rattle.std.proofs.Common.{◌≡◌, ◌↔◌, ◌+◌, ◌-◌, ◌<◌, ◌≤◌, ℕ, Bool, true, false, ◌&&◌, ◌||◌, leb, List, [], ◌∷◌, ◌++◌, Some, None, length, take, drop, refl, sym, ap, ◌∙◌, subst, arith, drop_at}
use Rattle.std.specs.List.{AllPass, slice_get, take_while}
use Rattle.std.proofs.lemmas.Bool.{agree_below_at, and_parts, false_from_ne_true, false≢true, leb-true, or_left, or_right}
use Rattle.std.proofs.lemmas.List.Elements.{All-append, All-drop, All-head, All-nil, All-weaker}
use Rattle.std.proofs.lemmas.List.{take_rest}
use Rattle.std.proofs.lemmas.Option.{none-some, same_Some}
use Rattle.wide_subtitles.specs.Kinds.{IsNumberLine, is_padding, is_white}
use Rattle.wide_subtitles.specs.Times.{IsFault, IsTimesLine, begins_with, digits_of, is_digit}
use Rattle.wide_subtitles.specs.declared.kinds.Kind.TheVariants.{Broken}
use Rattle.wide_subtitles.specs.declared.times.Times.{Times}
use Rattle.wide_subtitles.proofs.Fronts.{front_of, front_parts, front_passes, unit_at}
use Rattle.wide_subtitles.proofs.Parts.{one_line, parts_from_line, parts_from_time}

-- A digit is neither padding nor white.
below : (unit : ℕ) → is_digit unit ≡ true → unit < 58
below unit h = let most = leb-true unit 57 (and_parts (leb 48 unit) (leb unit 57) h).1 in omega arith

and_both : (a b : Bool) → a ≡ true → b ≡ true → (a && b) ≡ true
and_both a b e f = rw (e, f) refl

no_padding : (unit : ℕ) → is_digit unit ≡ true → is_padding unit ≡ false
no_padding unit h =
    false_from_ne_true (is_padding unit) (λ p. false≢true (sym (agree_below_at (λ u. is_digit u && is_padding u) (λ u. false) 58 unit refl (below unit h)) ∙ and_both (is_digit unit) (is_padding unit) h p))

no_digit : (unit : ℕ) → is_padding unit ≡ true → is_digit unit ≡ false
no_digit unit h = false_from_ne_true (is_digit unit) (λ d. false≢true (sym (no_padding unit d) ∙ h))

padding_stops : (digits rest : List ℕ) → AllPass is_digit digits → 0 < length digits → begins_with is_padding (digits ++ rest) ≡ false
padding_stops [] rest h some = absurd (omega arith)
padding_stops (digit ∷ digits) rest h some = no_padding digit (All-head (λ x. is_digit x ≡ true) digit digits h)

digits_stop : (behind : List ℕ) → AllPass is_padding behind → begins_with is_digit behind ≡ false
digits_stop [] h = refl
digits_stop (unit ∷ rest) h = no_digit unit (All-head (λ x. is_padding x ≡ true) unit rest h)

-- What stands behind the padding at the beginning.
abbrev pub unpadded : List ℕ → List ℕ
unpadded units = drop (length (take_while is_padding units)) units

-- A number is what has digits behind its padding, and then only padding.
pub number_line : (units : List ℕ) → 0 < length (digits_of (unpadded units)) → AllPass is_padding (drop (length (digits_of (unpadded units))) (unpadded units)) → IsNumberLine units
number_line units some padded = record {
  before = take_while is_padding units;
  digits = digits_of (unpadded units);
  behind = drop (length (digits_of (unpadded units))) (unpadded units);
  parts = front_parts is_padding units ∙ ap (λ rest. take_while is_padding units ++ rest) (front_parts is_digit (unpadded units));
  is_padded = front_passes is_padding units;
  are_digits = front_passes is_digit (unpadded units);
  is_some = some;
  is_padded_behind = padded;
}

number_rest : (units : List ℕ) (h : IsNumberLine units) → unpadded units ≡ h.digits ++ h.behind
number_rest units h =
    let front : take_while is_padding units ≡ h.before = ap (take_while is_padding) h.parts ∙ front_of is_padding h.before (h.digits ++ h.behind) h.is_padded (padding_stops h.digits h.behind h.are_digits h.is_some) in
    rw front (ap (drop (length h.before)) h.parts ∙ drop_at h.before (h.digits ++ h.behind) (length h.before) refl)

number_digits : (units : List ℕ) (h : IsNumberLine units) → digits_of (unpadded units) ≡ h.digits
number_digits units h =
    ap digits_of (number_rest units h) ∙ front_of is_digit h.digits h.behind h.are_digits (digits_stop h.behind h.is_padded_behind)

pub number_some : (units : List ℕ) → IsNumberLine units → 0 < length (digits_of (unpadded units))
number_some units h = rw (number_digits units h) h.is_some

pub number_behind : (units : List ℕ) → IsNumberLine units → AllPass is_padding (drop (length (digits_of (unpadded units))) (unpadded units))
number_behind units h =
    let rest : drop (length h.digits) (unpadded units) ≡ h.behind = ap (drop (length h.digits)) (number_rest units h) ∙ drop_at h.digits h.behind (length h.digits) refl in
    rw (number_digits units h) (rw rest h.is_padded_behind)

-- What holds of all units holds of the one at an offset.
at_unit : (test : ℕ → Bool) (units : List ℕ) (at unit : ℕ) → AllPass test units → slice_get units at ≡ Some unit → test unit ≡ true
at_unit test units at unit all e =
    let P : ℕ → Type 0 = λ x. test x ≡ true in
    All-head P unit (drop (at + 1) units) (subst (λ rest. AllPass test rest) (unit_at units at unit e) (All-drop P at units all))

-- A line of times has a colon.
no_line : (test : ℕ → Bool) (units : List ℕ) → test 58 ≡ false → AllPass test units → (times : Times) → ¬ (IsTimesLine units times)
no_line test units colon all times l =
    let p = parts_from_line units times l in
    let t = parts_from_time units times.first times.first_end times.begin p.is_begin in
    false≢true (sym colon ∙ at_unit test units t.colon 58 all t.has_colon)

-- So a line of white space is none, and neither is a number.
pub blank_no_line : (units : List ℕ) → AllPass is_white units → (times : Times) → ¬ (IsTimesLine units times)
blank_no_line units all times l = no_line is_white units refl all times l

pub number_no_line : (units : List ℕ) → IsNumberLine units → (times : Times) → ¬ (IsTimesLine units times)
number_no_line units h times l =
    let test : ℕ → Bool = λ unit. is_padding unit || is_digit unit in
    let P : ℕ → Type 0 = λ unit. test unit ≡ true in
    let padding : (unit : ℕ) → is_padding unit ≡ true → P unit = λ unit p. or_left (is_padding unit) (is_digit unit) p in
    let digit : (unit : ℕ) → is_digit unit ≡ true → P unit = λ unit d. or_right (is_padding unit) (is_digit unit) d in
    let all = All-append P h.before (h.digits ++ h.behind) (All-weaker (λ x. is_padding x ≡ true) P padding h.before h.is_padded) (All-append P h.digits h.behind (All-weaker (λ x. is_digit x ≡ true) P digit h.digits h.are_digits) (All-weaker (λ x. is_padding x ≡ true) P padding h.behind h.is_padded_behind)) in
    no_line test units refl (subst (AllPass test) (sym h.parts) all) times l

-- White space is padding, so a line of it is no number.
white_padding : (unit : ℕ) → is_white unit ≡ true → is_padding unit ≡ true
white_padding unit h = rw h refl

pub blank_no_number : (units : List ℕ) → AllPass is_white units → ¬ (IsNumberLine units)
blank_no_number units all h =
    let padded : AllPass is_padding units = All-weaker (λ x. is_white x ≡ true) (λ x. is_padding x ≡ true) white_padding units all in
    let stops = digits_stop (unpadded units) (All-drop (λ x. is_padding x ≡ true) (length (take_while is_padding units)) units padded) in
    let none : digits_of (unpadded units) ≡ [] = front_of is_digit [] (unpadded units) (All-nil (λ x. is_digit x ≡ true)) stops in
    let some = number_some units h in
    absurd (omega (arith, ap length none))

-- What was read of a line with a number, and of one with none.
pub number_read : (units rest behind : List ℕ) (digits : ℕ) {padded : Bool} → rest ≡ unpadded units → digits ≡ length (digits_of rest) → behind ≡ drop digits rest → 0 < digits → ((padded ≡ true) ↔ AllPass is_padding behind) → (padded ≡ true) ↔ IsNumberLine units
number_read units rest behind digits e f g some padded =
    let digits_are : digits ≡ length (digits_of (unpadded units)) = rw e at f in
    let behind_is : behind ≡ drop (length (digits_of (unpadded units))) (unpadded units) = rw (e, digits_are) at g in (
      λ p. number_line units (omega arith) (rw behind_is at (padded.0 p)),
      λ h. padded.1 (rw behind_is (number_behind units h)),
    )

pub no_number_read : (units rest : List ℕ) (digits : ℕ) → rest ≡ unpadded units → digits ≡ length (digits_of rest) → digits ≤ 0 → ¬ (IsNumberLine units)
no_number_read units rest digits e f none h =
    let digits_are : digits ≡ length (digits_of (unpadded units)) = rw e at f in
    let some = number_some units h in omega arith

-- Units without a front.
pub rest_read : (units : List ℕ) (n : ℕ) → n ≡ length (take_while is_padding units) → take (length units - n) (drop n units) ≡ unpadded units
rest_read units n e = take_rest units n ∙ ap (λ k. drop k units) e

-- The times of a line that has some, and of one that has none.
pub has_times : (units : List ℕ) (found times : Times) → IsTimesLine units found → (Some found ≡ Some times) ↔ IsTimesLine units times
has_times units found times l =
    (λ e. subst (IsTimesLine units) (same_Some found times e) l, λ m. ap Some (one_line units found times l m))

pub has_none : (units : List ℕ) → ((times : Times) → ¬ (IsTimesLine units times)) → (times : Times) → (None ≡ Some times) ↔ IsTimesLine units times
has_none units none times = (λ e. absurd (none-some times e), λ l. absurd (none times l))

-- Broken times are at fault where they say so.
pub fault_of : (units : List ℕ) (found unit : ℕ) → IsFault units found → Broken found ≡ Broken unit → IsFault units unit
fault_of units found unit fault e = let same : found ≡ unit = cc in subst (IsFault units) same fault

-- What the steps of reading a time, an arrow or a line have shown, and what follows where one fails.
use Rattle.std.proofs.Common.{◌≡◌, ◌↔◌, ◌⊎◌, ◌+◌, ◌-◌, ◌*◌, ◌^◌, ℕ, Bool, true, false, List, Option, Some, None, length, drop, sym, ap, ◌∙◌, inl, inr, arith, add-zero, zero-add, get_or}
use Rattle.std.specs.List.{slice_get}
use Rattle.std.specs.Prelude.{IfNone, IfSome, IsSome, is_some, unwrap_or}
use Rattle.std.proofs.lemmas.Bool.{false≢true}
use Rattle.std.proofs.lemmas.Option.{get_or_from_slice_get}
use Rattle.wide_subtitles.specs.Times.{ArrowEnds, BeginsTime, FirstEnds, HasArrow, HasTime, IsFault, IsLineEnd, IsNumber, IsTimesLine, blanks_of, is_usual, sign_of}
use Rattle.wide_subtitles.specs.declared.time.Time.{Time}
use Rattle.wide_subtitles.specs.declared.times.Times.{Times}
use Rattle.wide_subtitles.proofs.Parts.{LineAt, TimeAt, arrow_from_parts, blanks_at, digits_at, line_from_parts, one_arrow, one_time, parts_from_arrow, parts_from_line, parts_from_time, same_test}

-- What holds of nothing.
pub if_none : {A P : Type 0} (o : Option A) → P → IfNone o P
if_none None p = p
if_none (Some x) p = tt

-- What would make a test pass that failed does not hold.
pub not_so : {P : Type 0} → ((false ≡ true) ↔ P) → ¬ P
not_so h p = false≢true (h.1 p)

-- The hours begin behind a minus, if there is one.
pub start_of : (at start : ℕ) (negative : Option ℕ) → IfSome negative (λ e. e ≡ at + 1) → start ≡ unwrap_or negative at → start ≡ at + length (sign_of (is_some negative))
start_of at start None h e = e ∙ sym (add-zero at)
start_of at start (Some end) h e = e ∙ h

-- A sign was read, and hours begin there.
pub record Begun (units : List ℕ) (at start : ℕ) : Type 0 where
  pub is_negative : Bool
  pub sign : (is_negative ≡ true) ↔ (slice_get units at ≡ Some 45)
  pub is_start : start ≡ at + length (sign_of is_negative)

pub begun : (units : List ℕ) (at start : ℕ) (negative : Option ℕ) → (IsSome negative ↔ (slice_get units at ≡ Some 45)) → IfSome negative (λ e. e ≡ at + 1) → start ≡ unwrap_or negative at → Begun units at start
begun units at start negative some end e = record { is_negative = is_some negative; sign = some; is_start = start_of at start negative end e }

-- A time has its hours where they were read.
starts : (units : List ℕ) (at start end : ℕ) (time : Time) → Begun units at start → (t : TimeAt units at end time) → t.start ≡ start
starts units at start end time b t =
    let signs : time.is_negative ≡ b.is_negative = same_test time.is_negative b.is_negative (slice_get units at ≡ Some 45) t.sign (b.sign.1, b.sign.0) in
    t.is_start ∙ ap (λ s. at + length (sign_of s)) signs ∙ sym b.is_start

-- And each further part where it was read.
colons : (units : List ℕ) (at start colon end : ℕ) (time : Time) → Begun units at start → colon ≡ start + length (digits_at units start) → (t : TimeAt units at end time) → t.colon ≡ colon
colons units at start colon end time b e t =
    t.is_colon ∙ ap (λ s. s + length (digits_at units s)) (starts units at start end time b t) ∙ sym e

nexts : (units : List ℕ) (at start colon next end : ℕ) (time : Time) → Begun units at start → colon ≡ start + length (digits_at units start) → next ≡ colon + 1 + length (digits_at units (colon + 1)) → (t : TimeAt units at end time) → t.next ≡ next
nexts units at start colon next end time b e f t =
    t.is_next ∙ ap (λ s. s + 1 + length (digits_at units (s + 1))) (colons units at start colon end time b e t) ∙ sym f

dots : (units : List ℕ) (at start colon next dot end : ℕ) (time : Time) → Begun units at start → colon ≡ start + length (digits_at units start) → next ≡ colon + 1 + length (digits_at units (colon + 1)) → dot ≡ next + 1 + length (digits_at units (next + 1)) → (t : TimeAt units at end time) → t.dot ≡ dot
dots units at start colon next dot end time b e f g t =
    t.is_dot ∙ ap (λ s. s + 1 + length (digits_at units (s + 1))) (nexts units at start colon next end time b e f t) ∙ sym g

-- Where a part is missing, there is no time.
pub no_hours : (units : List ℕ) (at start : ℕ) → Begun units at start → ((false ≡ true) ↔ IsNumber (digits_at units start) (length units) (2 ^ 32 - 1)) → (end : ℕ) (time : Time) → ¬ (HasTime units at end time)
no_hours units at start b none end time h =
    let t = parts_from_time units at end time h in
    not_so none (rw (starts units at start end time b t) at t.hours)

pub no_minutes : (units : List ℕ) (at start colon : ℕ) → Begun units at start → colon ≡ start + length (digits_at units start) → ((false ≡ true) ↔ ((slice_get units colon ≡ Some 58) × IsNumber (digits_at units (colon + 1)) 2 60)) → (end : ℕ) (time : Time) → ¬ (HasTime units at end time)
no_minutes units at start colon b e none end time h =
    let t = parts_from_time units at end time h in
    let colon_is = colons units at start colon end time b e t in
    not_so none (rw colon_is at t.has_colon, rw colon_is at t.minutes)

pub no_seconds : (units : List ℕ) (at start colon next : ℕ) → Begun units at start → colon ≡ start + length (digits_at units start) → next ≡ colon + 1 + length (digits_at units (colon + 1)) → ((false ≡ true) ↔ ((slice_get units next ≡ Some 58) × IsNumber (digits_at units (next + 1)) 2 60)) → (end : ℕ) (time : Time) → ¬ (HasTime units at end time)
no_seconds units at start colon next b e f none end time h =
    let t = parts_from_time units at end time h in
    let next_is = nexts units at start colon next end time b e f t in
    not_so none (rw next_is at t.has_next, rw next_is at t.seconds)

pub no_point : (units : List ℕ) (at start colon next dot : ℕ) → Begun units at start → colon ≡ start + length (digits_at units start) → next ≡ colon + 1 + length (digits_at units (colon + 1)) → dot ≡ next + 1 + length (digits_at units (next + 1)) → ((false ≡ true) ↔ ((slice_get units dot ≡ Some 44) ⊎ (slice_get units dot ≡ Some 46))) → (end : ℕ) (time : Time) → ¬ (HasTime units at end time)
no_point units at start colon next dot b e f g none end time h =
    let t = parts_from_time units at end time h in
    let has : slice_get units dot ≡ Some t.point = rw (dots units at start colon next dot end time b e f g t) at t.has_dot in
    not_so none (elim t.is_point [ inl k ↦ inl (rw k at has) | inr k ↦ inr (rw k at has) ])

pub no_rest : (units : List ℕ) (at start colon next dot begin : ℕ) → Begun units at start → colon ≡ start + length (digits_at units start) → next ≡ colon + 1 + length (digits_at units (colon + 1)) → dot ≡ next + 1 + length (digits_at units (next + 1)) → begin ≡ dot + 1 → ((false ≡ true) ↔ IsNumber (digits_at units begin) 3 1000) → (end : ℕ) (time : Time) → ¬ (HasTime units at end time)
no_rest units at start colon next dot begin b e f g i none end time h =
    let t = parts_from_time units at end time h in
    not_so none (rw i (rw (dots units at start colon next dot end time b e f g t) at t.rest))

-- Where a part of an arrow is missing, there is none.
pub no_first : (units : List ℕ) (at dash : ℕ) → dash ≡ at + length (blanks_at units at) → ((false ≡ true) ↔ (slice_get units dash ≡ Some 45)) → (end : ℕ) → ¬ (HasArrow units at end)
no_first units at dash e none end h =
    let a = parts_from_arrow units at end h in
    let here : a.dash ≡ dash = a.is_dash ∙ sym e in
    not_so none (rw here at a.first)

pub no_second : (units : List ℕ) (at dash second : ℕ) → dash ≡ at + length (blanks_at units at) → second ≡ dash + 1 → ((false ≡ true) ↔ (slice_get units second ≡ Some 45)) → (end : ℕ) → ¬ (HasArrow units at end)
no_second units at dash second e f none end h =
    let a = parts_from_arrow units at end h in
    let here : a.dash ≡ dash = a.is_dash ∙ sym e in
    not_so none (rw f (rw here at a.second))

pub no_head : (units : List ℕ) (at dash second head : ℕ) → dash ≡ at + length (blanks_at units at) → second ≡ dash + 1 → head ≡ second + 1 → ((false ≡ true) ↔ (slice_get units head ≡ Some 62)) → (end : ℕ) → ¬ (HasArrow units at end)
no_head units at dash second head e f g none end h =
    let a = parts_from_arrow units at end h in
    let here : a.dash ≡ dash = a.is_dash ∙ sym e in
    not_so none (rw (g, f) (rw here at a.head))

-- An arrow whose parts were read.
pub arrow_read : (units : List ℕ) (at dash second head behind end : ℕ) → dash ≡ at + length (blanks_at units at) → slice_get units dash ≡ Some 45 → second ≡ dash + 1 → slice_get units second ≡ Some 45 → head ≡ second + 1 → slice_get units head ≡ Some 62 → behind ≡ head + 1 → end ≡ behind + length (blanks_at units behind) → HasArrow units at end
arrow_read units at dash second head behind end e0 u0 e1 u1 e2 u2 e3 e4 =
    let second_is : slice_get units (dash + 1) ≡ Some 45 = rw e1 at u1 in
    let head_at : head ≡ dash + 1 + 1 = e2 ∙ ap (λ n. n + 1) e1 in
    let head_is : slice_get units (dash + 1 + 1) ≡ Some 62 = rw head_at at u2 in
    let behind_at : behind ≡ dash + 1 + 1 + 1 = e3 ∙ ap (λ n. n + 1) head_at in
    let end_is : end ≡ dash + 1 + 1 + 1 + length (blanks_at units (dash + 1 + 1 + 1)) = rw behind_at at e4 in
    arrow_from_parts units at end (record { dash = dash; is_dash = e0; first = u0; second = second_is; head = head_is; is_end = end_is })

-- Where a part of a line of times is missing, it is none.
pub no_begin : (units : List ℕ) (first : ℕ) → first ≡ 0 + length (blanks_at units 0) → ((end : ℕ) (time : Time) → ¬ (HasTime units first end time)) → (times : Times) → ¬ (IsTimesLine units times)
no_begin units first e none times l =
    let p = parts_from_line units times l in
    let at : times.first ≡ first = p.is_first ∙ sym (e ∙ zero-add (length (blanks_at units 0))) in
    none times.first_end times.begin (rw at at p.is_begin)

first_ends : (units : List ℕ) (first first_end : ℕ) (begin : Time) → first ≡ 0 + length (blanks_at units 0) → HasTime units first first_end begin → (times : Times) → LineAt units times → times.first_end ≡ first_end
first_ends units first first_end begin e t times p =
    let at : times.first ≡ first = p.is_first ∙ sym (e ∙ zero-add (length (blanks_at units 0))) in
    (one_time units first times.first_end first_end times.begin begin (rw at at p.is_begin) t).0

pub no_arrow : (units : List ℕ) (first first_end : ℕ) (begin : Time) → first ≡ 0 + length (blanks_at units 0) → HasTime units first first_end begin → ((end : ℕ) → ¬ (HasArrow units first_end end)) → (times : Times) → ¬ (IsTimesLine units times)
no_arrow units first first_end begin e t none times l =
    let p = parts_from_line units times l in
    let at : times.first_end ≡ first_end = first_ends units first first_end begin e t times p in
    none times.second (rw at at p.has_arrow)

seconds : (units : List ℕ) (first first_end second : ℕ) (begin : Time) → first ≡ 0 + length (blanks_at units 0) → HasTime units first first_end begin → HasArrow units first_end second → (times : Times) → LineAt units times → times.second ≡ second
seconds units first first_end second begin e t a times p =
    let at : times.first_end ≡ first_end = first_ends units first first_end begin e t times p in
    one_arrow units first_end times.second second (rw at at p.has_arrow) a

pub no_end : (units : List ℕ) (first first_end second : ℕ) (begin : Time) → first ≡ 0 + length (blanks_at units 0) → HasTime units first first_end begin → HasArrow units first_end second → ((end : ℕ) (time : Time) → ¬ (HasTime units second end time)) → (times : Times) → ¬ (IsTimesLine units times)
no_end units first first_end second begin e t a none times l =
    let p = parts_from_line units times l in
    let at : times.second ≡ second = seconds units first first_end second begin e t a times p in
    none times.second_end times.end (rw at at p.is_end)

pub no_line_end : (units : List ℕ) (first first_end second second_end : ℕ) (begin end : Time) → first ≡ 0 + length (blanks_at units 0) → HasTime units first first_end begin → HasArrow units first_end second → HasTime units second second_end end → ¬ (IsLineEnd (drop second_end units)) → (times : Times) → ¬ (IsTimesLine units times)
no_line_end units first first_end second second_end begin end e t a u none times l =
    let p = parts_from_line units times l in
    let at : times.second ≡ second = seconds units first first_end second begin e t a times p in
    let ends : times.second_end ≡ second_end = (one_time units second times.second_end second_end times.end end (rw at at p.is_end) u).0 in
    none (rw ends at p.ends)

-- A line whose parts were read.
pub line_read : (units : List ℕ) (times : Times) → times.first ≡ 0 + length (blanks_at units 0) → HasTime units times.first times.first_end times.begin → HasArrow units times.first_end times.second → HasTime units times.second times.second_end times.end → IsLineEnd (drop times.second_end units) → IsTimesLine units times
line_read units times e t a u end =
    line_from_parts units times (record { is_first = e ∙ zero-add (length (blanks_at units 0)); is_begin = t; has_arrow = a; is_end = u; ends = end })

-- The point that was read.
pub point_read : (units : List ℕ) (dot : ℕ) → ((slice_get units dot ≡ Some 44) ⊎ (slice_get units dot ≡ Some 46)) → (slice_get units dot ≡ Some (get_or units dot 0)) × ((get_or units dot 0 ≡ 44) ⊎ (get_or units dot 0 ≡ 46))
point_read units dot (inl e) = let point = get_or_from_slice_get units dot 44 0 e in (e ∙ ap Some (sym point), inl point)
point_read units dot (inr e) = let point = get_or_from_slice_get units dot 46 0 e in (e ∙ ap Some (sym point), inr point)

-- The milliseconds of parts.
pub size_read : {a b c d hours minutes seconds rest : ℕ} → a ≡ hours → b ≡ minutes → c ≡ seconds → d ≡ rest → a * 3600000 + b * 60000 + c * 1000 + d ≡ hours * 3600000 + minutes * 60000 + seconds * 1000 + rest
size_read e f g h = omega arith

pub rest_read : {d value len number digits : ℕ} → d ≡ value * 10 ^ (3 - len) → value ≡ number → len ≡ digits → d ≡ number * 10 ^ (3 - digits)
rest_read e f g = rw (f, g) at e

-- The form of parts.
pub form_read : (negative : Bool) (point : ℕ) {form : Bool} {a b c d hours minutes seconds rest : ℕ} → form ≡ is_usual negative a b c point d → a ≡ hours → b ≡ minutes → c ≡ seconds → d ≡ rest → form ≡ is_usual negative hours minutes seconds point rest
form_read negative point e f g h i = rw (f, g, h, i) at e

-- Whether a time was read at the beginning.
pub begins_read : {A : Type 0} (units : List ℕ) (first : ℕ) (end_of : A → ℕ) (time_of : A → Time) (r : Option A) (b : Bool) → first ≡ 0 + length (blanks_at units 0) → b ≡ is_some r → IfSome r (λ read. HasTime units first (end_of read) (time_of read)) → IfNone r ((end : ℕ) (time : Time) → ¬ (HasTime units first end time)) → (b ≡ true) ↔ BeginsTime units
begins_read units first end_of time_of (Some read) b e f some none =
    let at : first ≡ length (blanks_of units) = e ∙ zero-add (length (blanks_at units 0)) in
    (λ h. record { end = end_of read; time = time_of read; is_time = rw at at some }, λ h. f)
begins_read units first end_of time_of None b e f some none =
    let at : first ≡ length (blanks_of units) = e ∙ zero-add (length (blanks_at units 0)) in
    (λ h. absurd (false≢true (sym f ∙ h)), λ h. absurd (none h.end h.time (rw at h.is_time)))

-- Where a part of a line of times is missing, it is at fault.
first_ends_read : (units : List ℕ) (first first_end : ℕ) (begin : Time) → first ≡ 0 + length (blanks_at units 0) → HasTime units first first_end begin → FirstEnds units first_end
first_ends_read units first first_end begin e t =
    let at : first ≡ length (blanks_of units) = e ∙ zero-add (length (blanks_at units 0)) in
    record { time = begin; is_time = rw at at t }

pub fault_begin : (units : List ℕ) (first : ℕ) → first ≡ 0 + length (blanks_at units 0) → ((end : ℕ) (time : Time) → ¬ (HasTime units first end time)) → IsFault units first
fault_begin units first e none =
    let at : first ≡ length (blanks_of units) = e ∙ zero-add (length (blanks_at units 0)) in
    inl (at, λ end h. none end h.time (rw at h.is_time))

pub fault_arrow : (units : List ℕ) (first first_end : ℕ) (begin : Time) → first ≡ 0 + length (blanks_at units 0) → HasTime units first first_end begin → ((end : ℕ) → ¬ (HasArrow units first_end end)) → IsFault units first_end
fault_arrow units first first_end begin e t none = inr (inl (first_ends_read units first first_end begin e t, none))

arrow_ends_read : (units : List ℕ) (first first_end second : ℕ) (begin : Time) → first ≡ 0 + length (blanks_at units 0) → HasTime units first first_end begin → HasArrow units first_end second → ArrowEnds units second
arrow_ends_read units first first_end second begin e t a =
    record { first_end = first_end; is_first = first_ends_read units first first_end begin e t; is_arrow = a }

pub fault_second : (units : List ℕ) (first first_end second : ℕ) (begin : Time) → first ≡ 0 + length (blanks_at units 0) → HasTime units first first_end begin → HasArrow units first_end second → ((end : ℕ) (time : Time) → ¬ (HasTime units second end time)) → IsFault units second
fault_second units first first_end second begin e t a none =
    inr (inr (inl (arrow_ends_read units first first_end second begin e t a, none)))

pub fault_end : (units : List ℕ) (first first_end second second_end : ℕ) (begin end : Time) → first ≡ 0 + length (blanks_at units 0) → HasTime units first first_end begin → HasArrow units first_end second → HasTime units second second_end end → ¬ (IsLineEnd (drop second_end units)) → IsFault units second_end
fault_end units first first_end second second_end begin end e t a u none =
    inr (inr (inr (record { second = second; time = end; is_arrow = arrow_ends_read units first first_end second begin e t a; is_second = u }, none)))

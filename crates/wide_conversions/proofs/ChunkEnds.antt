-- A fault is the same whatever follows the bytes, or the bytes end within a character that others complete.
use Rattle.std.proofs.Common.{◌≡◌, inl, inr, ℕ, ◌+◌, ◌-◌, ◌*◌, ◌/◌, ◌%◌, ◌<◌, ◌≤◌, List, [], ◌∷◌, ◌++◌, Bool, true, Option, Some, None, length, get_or, take, drop, refl, sym, ap, ◌∙◌, subst, arith, length-append, length-drop}
use Rattle.std.specs.Prelude.{nat_lt, ◌==◌, if◌then◌else◌}
use Rattle.std.specs.Char.{IsScalar}
use Rattle.std.specs.Int.{is_in_range}
use Rattle.std.specs.Option.{unwrap_or}
use Rattle.std.specs.Str.{IsUtf8, IsValidUpTo, StartsWithNoChar}
use Rattle.std.specs.Str.Lossy.{second_byte_min, utf8_error_len, utf8_invalid_len}
use Rattle.std.proofs.lemmas.Bool.{cases_Bool, cases_lt}
use Rattle.std.proofs.lemmas.Bool.Decides.{nat_tests}
use Rattle.std.proofs.lemmas.List.{drop-append-le, get_or_append_left, take-append-le}
use Rattle.std.proofs.str.Faults.{Ranged, no_char, not_text, valid_to}
use Rattle.wide_forms.specs.Segmentation.{Char, Fault}
use Rattle.wide_forms.specs.Utf8.{utf8_bytes}
use Rattle.wide_conversions.specs.ChunkEnds.{BeginsCharacter, EndsAs, HasFaultAt}
use Rattle.wide_conversions.specs.Utf8Items.{BeginsWith, utf8_items}
use Rattle.wide_conversions.specs.declared.utf8_validation.Utf8End.{Utf8End}
use Rattle.wide_conversions.specs.declared.utf8_validation.Utf8End.TheVariants.{Complete, IllFormed, Incomplete}
use Rattle.wide_conversions.specs.Laws.Utf8Items.{no_char-beyond, part-some}
use Rattle.wide_conversions.proofs.FirstItems.{Follows, begins-ascii, begins-four, begins-part, begins-three, begins-two, follows, may_follow, unranged-one}
use Rattle.wide_conversions.proofs.PrefixTexts.{utf8_items-text, utf8_items-valid_up_to}
use Rattle.wide_conversions.proofs.ValidPrefixes.{bytes-four, bytes-three, bytes-two}

-- The items of bytes that begin with no character do not begin with one.
unlike : (bs : List ℕ) → 0 < length bs → StartsWithNoChar bs → (c n : ℕ) → BeginsWith bs (Char c) n → ⊥
unlike bs some none c n begins = (let same : Fault (get_or bs 0 0) ∷ utf8_items (drop (utf8_invalid_len bs) bs) ≡ Char c ∷ utf8_items (drop n bs) = sym (begins-part bs (utf8_invalid_len bs) some none refl) ∙ begins in cc)

-- If bytes begin a character and are fewer than it has, std reports no length of a fault.
few-one : (bs : List ℕ) (y : ℕ) → length bs ≡ 1 → may_follow (get_or bs 0 0) y ≡ true → utf8_error_len bs ≡ None
unfolding utf8_error_len
few-one bs y long may = grind (arith, nat_tests)

few-two : (bs : List ℕ) → length bs ≡ 2 → may_follow (get_or bs 0 0) (get_or bs 1 0) ≡ true → utf8_error_len bs ≡ None
unfolding utf8_error_len
few-two bs long may = grind (arith, nat_tests)

few-three : (bs : List ℕ) → length bs ≡ 3 → may_follow (get_or bs 0 0) (get_or bs 1 0) ≡ true → get_or bs 2 0 / 0x40 ≡ 2 → utf8_error_len bs ≡ None
unfolding utf8_error_len
few-three bs long may trails = grind (arith, nat_tests)

-- If std reports no length of a fault, the bytes begin a character and are fewer than it has.
cut-one : (x : ℕ) → utf8_error_len (x ∷ []) ≡ None → may_follow x (second_byte_min x) ≡ true
unfolding utf8_error_len
cut-one x cut = grind (arith, nat_tests)

cut-two : (x y : ℕ) → utf8_error_len (x ∷ y ∷ []) ≡ None → may_follow x y ≡ true
unfolding utf8_error_len
cut-two x y cut = grind (arith, nat_tests)

cut-three : (x y z : ℕ) → utf8_error_len (x ∷ y ∷ z ∷ []) ≡ None → (may_follow x y ≡ true) × (z / 0x40 ≡ 2)
unfolding utf8_error_len
cut-three x y z cut = (grind (arith, nat_tests), grind (arith, nat_tests))

cut-short : (bs : List ℕ) → 4 ≤ length bs → utf8_error_len bs ≡ None → ⊥
unfolding utf8_error_len
cut-short bs long cut = grind (arith, nat_tests)

-- The list `cs` is `bs` with more bytes after it.
record IsLonger (bs cs : List ℕ) : Type 0 where
  long : length bs ≤ length cs
  same : (k : ℕ) → k < length bs → get_or cs k 0 ≡ get_or bs k 0

longer-than : (bs more : List ℕ) → IsLonger bs (bs ++ more)
longer-than bs more = record { long = omega (arith, length-append bs more); same = λ k within. get_or_append_left bs more 0 k within }

-- std's length of a fault, by how many bytes there are and by whether the first three may be those of one character.
abbrev error_by : ℕ → Bool → Bool → Bool → Option ℕ
error_by n first second third =
    if n == 0 then None
    else (if first then (if nat_lt n 2 then None else (if second then (if nat_lt n 3 then None else (if third then (if nat_lt n 4 then None else Some 3) else Some 2)) else Some 1)) else Some 1)

longer-by : (n m : ℕ) (a b c x y z : Bool) (len : ℕ) → n ≤ m → (0 < n → x ≡ a) → (1 < n → y ≡ b) → (2 < n → z ≡ c) → error_by n a b c ≡ Some len → error_by m x y z ≡ Some len
longer-by n m a b c x y z len long first second third e = grind (arith, nat_tests)

same-len : (bs cs : List ℕ) (len : ℕ) → IsLonger bs cs → utf8_error_len bs ≡ Some len → utf8_error_len cs ≡ Some len
unfolding utf8_error_len
same-len bs cs len longer e = longer-by (length bs) (length cs) _ _ _ _ _ _ len longer.long (λ some. ap (is_in_range 0xC2 0xF4) (longer.same 0 some)) (λ some. (let x = longer.same 0 (omega arith) in let y = longer.same 1 some in cc)) (λ some. ap (is_in_range 0x80 0xBF) (longer.same 2 some)) e

-- A fault is the same whatever follows the bytes.
module _ (bs cs : List ℕ) (more : IsLonger bs cs) (some : 0 < length bs) (none : StartsWithNoChar bs) (len : ℕ) (error : utf8_error_len bs ≡ Some len) where
  not-cut : utf8_error_len bs ≡ None → ⊥
  not-cut e = (let same : Some len ≡ None = sym error ∙ e in cc)

  same-length : utf8_error_len cs ≡ Some len
  same-length = same-len bs cs len more error

  ranged-first : Ranged (length cs) (get_or cs 0 0) (get_or cs 1 0) (get_or cs 2 0) (get_or cs 3 0) → (0x80 ≤ get_or cs 0 0) × (may_follow (get_or cs 0 0) (get_or cs 1 0) ≡ true)
  ranged-first ranged = elim (cases_lt (get_or cs 0 0) 0x80) [
    | inl low ↦ absurd (unlike bs some none _ 1 (begins-ascii bs some (omega (arith, low, more.same 0 some))))
    | inr high ↦ (
      high,
      elim (cases_Bool (may_follow (get_or cs 0 0) (get_or cs 1 0))) [
        | inl may ↦ may
        | inr other ↦ absurd (unranged-one cs (omega (arith, some, more.long)) high other ranged)
      ],
    )
  ]

  second-of : may_follow (get_or cs 0 0) (get_or cs 1 0) ≡ true → (1 < length bs) × (may_follow (get_or bs 0 0) (get_or bs 1 0) ≡ true)
  second-of may =
      let first : may_follow (get_or bs 0 0) (get_or cs 1 0) ≡ true = ap (λ x. may_follow x (get_or cs 1 0)) (sym (more.same 0 some)) ∙ may in
      elim (cases_lt 1 (length bs)) [
        | inl long ↦ (long, ap (may_follow (get_or bs 0 0)) (sym (more.same 1 long)) ∙ first)
        | inr short ↦ absurd (not-cut (few-one bs (get_or cs 1 0) (omega arith) first))
      ]

  module _ (may : may_follow (get_or bs 0 0) (get_or bs 1 0) ≡ true) where
    third-of : 1 < length bs → get_or cs 2 0 / 0x40 ≡ 2 → (2 < length bs) × (get_or bs 2 0 / 0x40 ≡ 2)
    third-of long trails = elim (cases_lt 2 (length bs)) [
      | inl longer ↦ (longer, ap (λ z. z / 0x40) (sym (more.same 2 longer)) ∙ trails)
      | inr short ↦ absurd (not-cut (few-two bs (omega arith) may))
    ]

    fourth-of : 2 < length bs → get_or bs 2 0 / 0x40 ≡ 2 → get_or cs 3 0 / 0x40 ≡ 2 → get_or bs 3 0 / 0x40 ≡ 2
    fourth-of long third trails = elim (cases_lt 3 (length bs)) [
      | inl longer ↦ ap (λ z. z / 0x40) (sym (more.same 3 longer)) ∙ trails
      | inr short ↦ absurd (not-cut (few-three bs (omega arith) may third))
    ]

  unranged : Ranged (length cs) (get_or cs 0 0) (get_or cs 1 0) (get_or cs 2 0) (get_or cs 3 0) → ⊥
  unranged ranged =
      let start = ranged-first ranged in
      let second = second-of start.1 in
      let first = more.same 0 some in
      elim (cases_lt (get_or bs 0 0) 0xE0) [
        | inl low ↦ unlike bs some none _ 2 (begins-two bs some second.1 low)
        | inr from ↦ (
            let z = (ranged.third (omega (arith, from, first))).1 in
            let third = third-of second.1 second.0 (omega (arith, z.0, z.1)) in
            elim (cases_lt (get_or bs 0 0) 0xF0) [
              | inl low ↦ unlike bs some none _ 3 (begins-three bs some second.1 third.1 from low)
              | inr high ↦ (let w = (ranged.fourth (omega (arith, high, first))).1 in unlike bs some none _ 4 (begins-four bs some second.1 third.1 high (fourth-of second.1 third.0 third.1 (omega (arith, w.0, w.1)))))
            ]
            )
      ]

  still-none : StartsWithNoChar cs
  still-none = no_char cs 0 (λ ranged. unranged (subst (λ n. Ranged n (get_or cs 0 0) (get_or cs 1 0) (get_or cs 2 0) (get_or cs 3 0)) {x = length cs - 0} {y = length cs} (omega arith) ranged))

-- The character of a first byte, a byte that may follow it, and trailing bytes (Table 3-6).
made-two : (x y : ℕ) → Follows x y → x < 0xE0 → (c : ℕ) × (IsScalar c × (x ∷ y ∷ [] ≡ utf8_bytes c))
made-two x y f low = (x % 0x20 * 0x40 + y % 0x40, (grind (arith, nat_tests, f.first, f.second), sym (bytes-two x y f.first.0 low f.second.0 f.second.1)))

made-three : (x y z : ℕ) → Follows x y → 0xE0 ≤ x → x < 0xF0 → 0x80 ≤ z → z < 0xC0 → (c : ℕ) × (IsScalar c × (x ∷ y ∷ z ∷ [] ≡ utf8_bytes c))
made-three x y z f from low from_z to_z =
    (x % 0x10 * 0x1000 + y % 0x40 * 0x40 + z % 0x40, (grind (arith, nat_tests, f.second, f.three), sym (bytes-three x y z from low f.second.0 f.second.1 from_z to_z f.three.0)))

made-four : (x y z w : ℕ) → Follows x y → 0xF0 ≤ x → 0x80 ≤ z → z < 0xC0 → 0x80 ≤ w → w < 0xC0 → (c : ℕ) × (IsScalar c × (x ∷ y ∷ z ∷ w ∷ [] ≡ utf8_bytes c))
made-four x y z w f from from_z to_z from_w to_w =
    (x % 8 * 0x4_0000 + y % 0x40 * 0x1000 + z % 0x40 * 0x40 + w % 0x40, (grind (arith, nat_tests, f.first, f.second, f.four), sym (bytes-four x y z w from f.first.1 f.second.0 f.second.1 from_z to_z from_w to_w f.four.0)))

completed : (bs more : List ℕ) → 0 < length more → (c : ℕ) × (IsScalar c × (bs ++ more ≡ utf8_bytes c)) → BeginsCharacter bs
completed bs more some made = record { character = made.0; scalar = made.1.0; more = more; some = some; whole = made.1.1 }

-- Bytes that end within a character, with bytes that complete it.
begins-character : (bs : List ℕ) → 0 < length bs → StartsWithNoChar bs → utf8_error_len bs ≡ None → BeginsCharacter bs
begins-character [] some none cut = absurd (omega arith)
begins-character (x ∷ []) some none cut =
    let y = second_byte_min x in
    let f = follows x y (cut-one x cut) in
    elim (cases_lt x 0xE0) [
      | inl two ↦ completed (x ∷ []) (y ∷ []) (omega arith) (made-two x y f two)
      | inr from ↦ elim (cases_lt x 0xF0) [
        | inl three ↦ completed (x ∷ []) (y ∷ 0x80 ∷ []) (omega arith) (made-three x y 0x80 f from three (omega arith) (omega arith))
        | inr four ↦ completed (x ∷ []) (y ∷ 0x80 ∷ 0x80 ∷ []) (omega arith) (made-four x y 0x80 0x80 f four (omega arith) (omega arith) (omega arith) (omega arith))
      ]
    ]
begins-character (x ∷ y ∷ []) some none cut =
    let may = cut-two x y cut in
    let f = follows x y may in
    elim (cases_lt x 0xE0) [
      | inl two ↦ absurd (unlike (x ∷ y ∷ []) some none _ 2 (begins-two (x ∷ y ∷ []) some may two))
      | inr from ↦ elim (cases_lt x 0xF0) [
        | inl three ↦ completed (x ∷ y ∷ []) (0x80 ∷ []) (omega arith) (made-three x y 0x80 f from three (omega arith) (omega arith))
        | inr four ↦ completed (x ∷ y ∷ []) (0x80 ∷ 0x80 ∷ []) (omega arith) (made-four x y 0x80 0x80 f four (omega arith) (omega arith) (omega arith) (omega arith))
      ]
    ]
begins-character (x ∷ y ∷ z ∷ []) some none cut =
    let bs = x ∷ y ∷ z ∷ [] in
    let (may, trails) = cut-three x y z cut in
    let f = follows x y may in
    elim (cases_lt x 0xE0) [
      | inl two ↦ absurd (unlike bs some none _ 2 (begins-two bs some may two))
      | inr from ↦ elim (cases_lt x 0xF0) [
        | inl three ↦ absurd (unlike bs some none _ 3 (begins-three bs some may trails from three))
        | inr four ↦ completed bs (0x80 ∷ []) (omega arith) (made-four x y z 0x80 f four (omega arith) (omega arith) (omega arith) (omega arith))
      ]
    ]
begins-character (x ∷ y ∷ z ∷ w ∷ bs) some none cut = absurd (cut-short (x ∷ y ∷ z ∷ w ∷ bs) (omega arith) cut)

-- The prefix that is UTF-8, and what follows it.
part-within : (bs : List ℕ) → 0 < length bs → utf8_invalid_len bs ≤ length bs
unfolding utf8_error_len
part-within bs some = grind (arith, nat_tests)

has_fault : (bs : List ℕ) (n len : ℕ) → IsValidUpTo bs n → len ≡ utf8_invalid_len (drop n bs) → HasFaultAt bs n len
has_fault bs n len valid is =
    let rest = drop n bs in
    let some : 0 < length rest = omega (arith, valid.short, length-drop n bs) in
    record {
      within = omega (arith, is, part-within rest some, length-drop n bs, valid.short);
      some = omega (arith, is, part-some rest some);
      valid = valid;
      part = is;
      items = utf8_items-valid_up_to bs n len valid is;
    }

-- Nothing follows the longest prefix of bytes that are UTF-8.
pub ends-complete : (bs : List ℕ) → IsUtf8 bs → EndsAs bs (length bs) Complete
ends-complete bs text = (refl, (text, utf8_items-text bs text))

-- If bytes are UTF-8, they are said to be complete.
pub complete-text : (bs : List ℕ) (n : ℕ) (end : Utf8End) → EndsAs bs n end → IsUtf8 bs → end ≡ Complete
complete-text bs n Complete ends text = refl
complete-text bs n (IllFormed len) ends text = absurd (not_text bs n ends.0.valid text)
complete-text bs n (Incomplete len) ends text = absurd (not_text bs n ends.0.valid text)

module _ (bs : List ℕ) (n len : ℕ) (valid : IsValidUpTo bs n) where
  abbrev rest : List ℕ
  rest = drop n bs

  rest-some : 0 < length rest
  rest-some = omega (arith, valid.short, length-drop n bs)

  rest-none : StartsWithNoChar rest
  rest-none = no_char-beyond bs n valid.front (λ k more within. valid.longest k more)

  pub ends-ill_formed : utf8_error_len rest ≡ Some len → EndsAs bs n (IllFormed len)
  ends-ill_formed error = (has_fault bs n len valid (sym (ap (λ o. unwrap_or o (length rest)) error)), still)
    where
      still : (more : List ℕ) → HasFaultAt (bs ++ more) n len
      still more =
          let all = bs ++ more in
          let longer = longer-than rest more in
          let beyond : drop n all ≡ rest ++ more = drop-append-le n bs more (omega (arith, valid.short)) in
          let prefix : take n all ≡ take n bs = take-append-le n bs more (omega (arith, valid.short)) in
          let none : StartsWithNoChar (drop n all) = subst (λ xs. StartsWithNoChar xs) (sym beyond) (still-none rest (rest ++ more) longer rest-some rest-none len error) in
          let valid_all = valid_to all n (omega (arith, valid.short, length-append bs more)) (subst (λ xs. IsUtf8 xs) (sym prefix) valid.front) none in
          let same : utf8_error_len (drop n all) ≡ Some len = ap utf8_error_len beyond ∙ same-length rest (rest ++ more) longer rest-some rest-none len error in
          has_fault all n len valid_all (sym (ap (λ o. unwrap_or o (length (drop n all))) same))

  pub ends-incomplete : utf8_error_len rest ≡ None → len ≡ length bs - n → EndsAs bs n (Incomplete len)
  ends-incomplete error long = (
    has_fault bs n len valid (omega (arith, long, length-drop n bs, ap (λ o. unwrap_or o (length rest)) error)),
    (omega (arith, long, valid.short), begins-character rest rest-some rest-none error),
  )

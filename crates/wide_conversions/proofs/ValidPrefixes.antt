-- Bytes each of which may follow the three before it are well-formed UTF-8, up to the last complete character: the
-- Standard's Table 3-7.
use Rattle.std.proofs.Common.{◌≡◌, inl, inr, ℕ, zero, suc, ◌+◌, ◌-◌, ◌*◌, ◌/◌, ◌%◌, ◌^◌, ◌<◌, ◌≤◌, List, [], ◌∷◌, ◌++◌, length, get_or, take, drop, refl, sym, ap, ◌∙◌, subst, arith, append_assoc, length-drop, Option}
use Rattle.std.specs.Char.{encode_utf8}
use Rattle.std.specs.Str.{IsUtf8, IsValidUpTo, encode_utf8_all}
use Rattle.std.specs.Str.Lossy.{utf8_error_len}
use Rattle.std.proofs.lemmas.Bool.{cases_lt}
use Rattle.std.proofs.lemmas.List.{drop-drop, get_or-drop, get_or-take, take-append-drop, take_all, take_rest}
use Rattle.std.proofs.Math.Seq.{take-add}
use Rattle.std.proofs.lemmas.Str.{IsUtf8-append, IsUtf8-encode, IsUtf8-nil, IsUtf8-past_char}
use Rattle.wide_forms.specs.Utf8.{utf8_bytes, trailing_byte}
use Rattle.wide_forms.specs.Laws.Forms.{scalar_from}
use Rattle.wide_forms.specs.Laws.Utf8.{one_byte, two_bytes, three_bytes, four_bytes, utf8_bytes-encode_utf8}
use Rattle.wide_conversions.specs.Following.{CanFollow, IsWholeAfter, IsWholeUpTo}

-- Each of the first bytes may follow the three before it, of which a, b and c precede all.
abbrev pub Followed : ℕ → ℕ → ℕ → List ℕ → ℕ → Type 0
Followed a b c bs n = (k : ℕ) → k < n → CanFollow (get_or (a ∷ b ∷ c ∷ bs) k 0) (get_or (a ∷ b ∷ c ∷ bs) (suc k) 0) (get_or (a ∷ b ∷ c ∷ bs) (suc (suc k)) 0) (get_or (a ∷ b ∷ c ∷ bs) (suc (suc (suc k))) 0)

-- No character is incomplete after the first bytes.
abbrev Ends : ℕ → ℕ → ℕ → List ℕ → ℕ → Type 0
Ends a b c bs n = IsWholeAfter (get_or (a ∷ b ∷ c ∷ bs) n 0) (get_or (a ∷ b ∷ c ∷ bs) (suc n) 0) (get_or (a ∷ b ∷ c ∷ bs) (suc (suc n)) 0)

-- The bytes of one character.
is_text : (c : ℕ) (bs : List ℕ) → c < 0x11_0000 → (0xD800 ≤ c → 0xE000 ≤ c) → utf8_bytes c ≡ bs → IsUtf8 bs
is_text c bs below no_surrogate is = subst (λ xs. IsUtf8 xs) (sym (utf8_bytes-encode_utf8 c) ∙ is) (IsUtf8-encode c (scalar_from c (record { below = below; no_surrogate = no_surrogate })))

one : (d : ℕ) → d < 0x80 → IsUtf8 (d ∷ [])
one d low = is_text d (d ∷ []) (omega arith) (λ from. omega arith) (one_byte d low)

-- The UTF-8 of a scalar value that was computed from two bytes is these bytes (Table 3-6).
pub bytes-two : (d e : ℕ) → 0xC2 ≤ d → d < 0xE0 → 0x80 ≤ e → e < 0xC0 → utf8_bytes (d % 0x20 * 0x40 + e % 0x40) ≡ d ∷ e ∷ []
bytes-two d e from to from_e to_e =
    let v = d % 0x20 * 0x40 + e % 0x40 in
    let first : 0b1100_0000 + v / 2 ^ 6 ≡ d = omega arith in
    let second : trailing_byte v ≡ e = omega arith in
    two_bytes v (omega arith) (omega arith) ∙ ap (λ x. x ∷ trailing_byte v ∷ []) first ∙ ap (λ x. d ∷ x ∷ []) second

two : (d e : ℕ) → 0xC2 ≤ d → d < 0xE0 → 0x80 ≤ e → e < 0xC0 → IsUtf8 (d ∷ e ∷ [])
two d e from to from_e to_e = is_text (d % 0x20 * 0x40 + e % 0x40) (d ∷ e ∷ []) (omega arith) (λ high. omega arith) (bytes-two d e from to from_e to_e)

-- The UTF-8 of a scalar value that was computed from three bytes is these bytes (Table 3-6).
pub bytes-three : (d e f : ℕ) → 0xE0 ≤ d → d < 0xF0 → 0x80 ≤ e → e < 0xC0 → 0x80 ≤ f → f < 0xC0 → (d ≡ 0xE0 → 0xA0 ≤ e) → utf8_bytes (d % 0x10 * 0x1000 + e % 0x40 * 0x40 + f % 0x40) ≡ d ∷ e ∷ f ∷ []
bytes-three d e f from to from_e to_e from_f to_f low =
    let v = d % 0x10 * 0x1000 + e % 0x40 * 0x40 + f % 0x40 in
    let first : 0b1110_0000 + v / 2 ^ 12 ≡ d = omega arith in
    let second : trailing_byte (v / 2 ^ 6) ≡ e = omega arith in
    let third : trailing_byte v ≡ f = omega arith in
    three_bytes v (grind (arith, low)) (omega arith) ∙ ap (λ x. x ∷ trailing_byte (v / 2 ^ 6) ∷ trailing_byte v ∷ []) first ∙ ap (λ x. d ∷ x ∷ trailing_byte v ∷ []) second ∙ ap (λ x. d ∷ e ∷ x ∷ []) third

three : (d e f : ℕ) → 0xE0 ≤ d → d < 0xF0 → 0x80 ≤ e → e < 0xC0 → 0x80 ≤ f → f < 0xC0 → (d ≡ 0xE0 → 0xA0 ≤ e) → (d ≡ 0xED → e < 0xA0) → IsUtf8 (d ∷ e ∷ f ∷ [])
three d e f from to from_e to_e from_f to_f low high =
    is_text (d % 0x10 * 0x1000 + e % 0x40 * 0x40 + f % 0x40) (d ∷ e ∷ f ∷ []) (omega arith) (λ surrogate. grind (arith, high)) (bytes-three d e f from to from_e to_e from_f to_f low)

-- The UTF-8 of a scalar value that was computed from four bytes is these bytes (Table 3-6).
pub bytes-four : (d e f g : ℕ) → 0xF0 ≤ d → d < 0xF5 → 0x80 ≤ e → e < 0xC0 → 0x80 ≤ f → f < 0xC0 → 0x80 ≤ g → g < 0xC0 → (d ≡ 0xF0 → 0x90 ≤ e)
    → utf8_bytes (d % 8 * 0x4_0000 + e % 0x40 * 0x1000 + f % 0x40 * 0x40 + g % 0x40) ≡ d ∷ e ∷ f ∷ g ∷ []
bytes-four d e f g from to from_e to_e from_f to_f from_g to_g low =
    let v = d % 8 * 0x4_0000 + e % 0x40 * 0x1000 + f % 0x40 * 0x40 + g % 0x40 in
    let first : 0b1111_0000 + v / 2 ^ 18 ≡ d = omega arith in
    let second : trailing_byte (v / 2 ^ 12) ≡ e = omega arith in
    let third : trailing_byte (v / 2 ^ 6) ≡ f = omega arith in
    let fourth : trailing_byte v ≡ g = omega arith in
    four_bytes v (grind (arith, low)) ∙ ap (λ x. x ∷ trailing_byte (v / 2 ^ 12) ∷ trailing_byte (v / 2 ^ 6) ∷ trailing_byte v ∷ []) first ∙ ap (λ x. d ∷ x ∷ trailing_byte (v / 2 ^ 6) ∷ trailing_byte v ∷ []) second ∙ ap (λ x. d ∷ e ∷ x ∷ trailing_byte v ∷ []) third ∙ ap (λ x. d ∷ e ∷ f ∷ x ∷ []) fourth

four : (d e f g : ℕ) → 0xF0 ≤ d → d < 0xF5 → 0x80 ≤ e → e < 0xC0 → 0x80 ≤ f → f < 0xC0 → 0x80 ≤ g → g < 0xC0 → (d ≡ 0xF0 → 0x90 ≤ e) → (d ≡ 0xF4 → e < 0x90) → IsUtf8 (d ∷ e ∷ f ∷ g ∷ [])
four d e f g from to from_e to_e from_f to_f from_g to_g low high =
    is_text (d % 8 * 0x4_0000 + e % 0x40 * 0x1000 + f % 0x40 * 0x40 + g % 0x40) (d ∷ e ∷ f ∷ g ∷ []) (grind (arith, high)) (λ surrogate. grind (arith, low)) (bytes-four d e f g from to from_e to_e from_f to_f from_g to_g low)

-- A prefix is UTF-8, by induction on a bound of its length.
abbrev Fronts : ℕ → Type 0
Fronts steps = (n a b c : ℕ) (bs : List ℕ) → n ≤ steps → IsWholeAfter a b c → n ≤ length bs → Followed a b c bs n → Ends a b c bs n → IsUtf8 (take n bs)

of_two : (steps a b c d : ℕ) → Fronts steps → IsWholeAfter a b c → (n : ℕ) (bs : List ℕ) → n ≤ steps → n ≤ length bs → Followed a b c (d ∷ bs) (suc n) → Ends a b c (d ∷ bs) (suc n) → 0xC2 ≤ d → d < 0xE0 → IsUtf8 (d ∷ take n bs)
of_two steps a b c d more whole zero bs fits within ok ends from to = absurd (omega (arith, ends.2))
of_two steps a b c d more whole (suc n) [] fits within ok ends from to = absurd (omega arith)
of_two steps a b c d more whole (suc n) (e ∷ bs) fits within ok ends from to =
    let trail = (ok 1 (omega arith)).trails (inr (inr (omega arith))) in
    IsUtf8-append (d ∷ e ∷ []) (take n bs) (two d e from to trail.0 trail.1) (more n c d e bs (omega arith) (omega (arith, whole.2), to, trail.1) (omega arith) (λ k before. ok (suc (suc k)) (omega arith)) ends)

of_three : (steps a b c d : ℕ) → Fronts steps → IsWholeAfter a b c → (n : ℕ) (bs : List ℕ) → n ≤ steps → n ≤ length bs → Followed a b c (d ∷ bs) (suc n) → Ends a b c (d ∷ bs) (suc n) → 0xE0 ≤ d → d < 0xF0 → IsUtf8 (d ∷ take n bs)
of_three steps a b c d more whole zero bs fits within ok ends from to = absurd (omega (arith, ends.2))
of_three steps a b c d more whole (suc zero) bs fits within ok ends from to = absurd (omega (arith, ends.1))
of_three steps a b c d more whole (suc (suc n)) [] fits within ok ends from to = absurd (omega arith)
of_three steps a b c d more whole (suc (suc n)) (e ∷ []) fits within ok ends from to = absurd (omega arith)
of_three steps a b c d more whole (suc (suc n)) (e ∷ f ∷ bs) fits within ok ends from to =
    let second = ok 1 (omega arith) in
    let trail = second.trails (inr (inr (omega arith))) in
    let third = (ok 2 (omega arith)).trails (inr (inl from)) in
    IsUtf8-append (d ∷ e ∷ f ∷ []) (take n bs) (three d e f from to trail.0 trail.1 third.0 third.1 second.three.0 second.three.1) (more n d e f bs (omega arith) (to, omega (arith, trail.1), third.1) (omega arith) (λ k before. ok (suc (suc (suc k))) (omega arith)) ends)

of_four : (steps a b c d : ℕ) → Fronts steps → IsWholeAfter a b c → (n : ℕ) (bs : List ℕ) → n ≤ steps → n ≤ length bs → Followed a b c (d ∷ bs) (suc n) → Ends a b c (d ∷ bs) (suc n) → 0xF0 ≤ d → d < 0xF5 → IsUtf8 (d ∷ take n bs)
of_four steps a b c d more whole zero bs fits within ok ends from to = absurd (omega (arith, ends.2))
of_four steps a b c d more whole (suc zero) bs fits within ok ends from to = absurd (omega (arith, ends.1))
of_four steps a b c d more whole (suc (suc zero)) bs fits within ok ends from to = absurd (omega (arith, ends.0))
of_four steps a b c d more whole (suc (suc (suc n))) [] fits within ok ends from to = absurd (omega arith)
of_four steps a b c d more whole (suc (suc (suc n))) (e ∷ []) fits within ok ends from to = absurd (omega arith)
of_four steps a b c d more whole (suc (suc (suc n))) (e ∷ f ∷ []) fits within ok ends from to = absurd (omega arith)
of_four steps a b c d more whole (suc (suc (suc n))) (e ∷ f ∷ g ∷ bs) fits within ok ends from to =
    let second = ok 1 (omega arith) in
    let trail = second.trails (inr (inr (omega arith))) in
    let third = (ok 2 (omega arith)).trails (inr (inl (omega arith))) in
    let fourth = (ok 3 (omega arith)).trails (inl from) in
    IsUtf8-append (d ∷ e ∷ f ∷ g ∷ []) (take n bs) (four d e f g from to trail.0 trail.1 third.0 third.1 fourth.0 fourth.1 second.four.0 second.four.1) (more n e f g bs (omega arith) (omega (arith, trail.1), omega (arith, third.1), fourth.1) (omega arith) (λ k before. ok (suc (suc (suc (suc k)))) (omega arith)) ends)

prefix_by : (steps : ℕ) → Fronts steps
prefix_by steps zero a b c bs fits whole within ok ends = IsUtf8-nil
prefix_by zero (suc n) a b c bs fits whole within ok ends = absurd (omega arith)
prefix_by (suc steps) (suc n) a b c [] fits whole within ok ends = absurd (omega arith)
prefix_by (suc steps) (suc n) a b c (d ∷ bs) fits whole within ok ends =
    elim ((ok 0 (omega arith)).begins whole) [
      | inl low ↦ IsUtf8-append (d ∷ []) (take n bs) (one d low) (prefix_by steps n b c d bs (omega arith) (omega (arith, whole.1), omega (arith, whole.2), omega arith) (omega arith) (λ k before. ok (suc k) (omega arith)) ends)
      | inr high ↦ elim (cases_lt d 0xE0) [
        | inl low ↦ of_two steps a b c d (prefix_by steps) whole n bs (omega arith) (omega arith) (λ k before. ok k before) ends high.0 low
        | inr from ↦ elim (cases_lt d 0xF0) [
          | inl low ↦ of_three steps a b c d (prefix_by steps) whole n bs (omega arith) (omega arith) (λ k before. ok k before) ends from low
          | inr from_four ↦ of_four steps a b c d (prefix_by steps) whole n bs (omega arith) (omega arith) (λ k before. ok k before) ends from_four high.1
        ]
      ]
    ]

-- Each of the first bytes may follow the three before it, with zeros before the beginning.
abbrev pub AllFollow : List ℕ → ℕ → Type 0
AllFollow bs n = Followed 0 0 0 bs n

-- What the check of a block says about its bytes.
abbrev pub BlockFollows : List ℕ → Type 0
BlockFollows block = (k : ℕ) → k < 64 → CanFollow (get_or block k 0) (get_or block (k + 1) 0) (get_or block (k + 2) 0) (get_or block (k + 3) 0)

-- Each byte after the first three, up to a number, may follow the three before it.
abbrev pub Following : ℕ → List ℕ → Type 0
Following n bs = (k : ℕ) → k < n → CanFollow (get_or bs k 0) (get_or bs (k + 1) 0) (get_or bs (k + 2) 0) (get_or bs (k + 3) 0)

-- `CanFollow` holds for equal bytes.
follow_as : (a b c d x y z w : ℕ) → a ≡ x → b ≡ y → c ≡ z → d ≡ w → CanFollow a b c d → CanFollow x y z w
follow_as a b c d x y z w ax by cz dw ok = subst (λ p. CanFollow p y z w) ax (subst (λ p. CanFollow a p z w) by (subst (λ p. CanFollow a b p w) cz (subst (λ p. CanFollow a b c p) dw ok)))

-- An index after three zeros is an index in the bytes after them.
past_three : (bs : List ℕ) (m j : ℕ) → m ≡ suc (suc (suc j)) → get_or (0 ∷ 0 ∷ 0 ∷ bs) m 0 ≡ get_or bs j 0
past_three bs m j is = ap (λ k. get_or (0 ∷ 0 ∷ 0 ∷ bs) k 0) is

-- What the check says of the first block, which is read after three zeros.
pub first_follow : (bs xs : List ℕ) → xs ≡ take 64 bs → BlockFollows (0 ∷ 0 ∷ 0 ∷ xs) → AllFollow bs 64
first_follow bs xs is ok k before = follow_as _ _ _ _ _ _ _ _ (byte k k (omega arith) refl) (byte (k + 1) (suc k) (omega arith) (omega arith)) (byte (k + 2) (suc (suc k)) (omega arith) (omega arith)) (byte (k + 3) (suc (suc (suc k))) (omega arith) (omega arith)) (ok k before)
  where
    same : (m : ℕ) → m < 67 → get_or (0 ∷ 0 ∷ 0 ∷ xs) m 0 ≡ get_or (0 ∷ 0 ∷ 0 ∷ bs) m 0
    same zero few = refl
    same (suc zero) few = refl
    same (suc (suc zero)) few = refl
    same (suc (suc (suc m))) few = ap (λ ys. get_or ys m 0) is ∙ get_or-take 64 bs m 0 (omega arith)

    byte : (i m : ℕ) → i < 67 → m ≡ i → get_or (0 ∷ 0 ∷ 0 ∷ xs) i 0 ≡ get_or (0 ∷ 0 ∷ 0 ∷ bs) m 0
    byte i m few at = same i few ∙ ap (λ j. get_or (0 ∷ 0 ∷ 0 ∷ bs) j 0) (sym at)

-- If one more block is read with the three bytes before it, its bytes may follow too.
pub more_follow : (bs : List ℕ) (end n more : ℕ) → more + 3 ≤ n → 3 ≤ end → AllFollow bs end → Following more (take n (drop (end - 3) bs)) → AllFollow bs (end + more)
more_follow bs end n more whole some before ok k within = elim (cases_lt k end) [ inl early ↦ before k early | inr late ↦ at late ]
  where
    byte : (i m : ℕ) → i < more + 3 → m ≡ end + i → get_or (take n (drop (end - 3) bs)) i 0 ≡ get_or (0 ∷ 0 ∷ 0 ∷ bs) m 0
    byte i m few is = get_or-take n (drop (end - 3) bs) i 0 (omega (arith, whole, few)) ∙ get_or-drop (end - 3) bs i 0 ∙ sym (past_three bs m (end - 3 + i) (omega arith))

    at : end ≤ k → CanFollow (get_or (0 ∷ 0 ∷ 0 ∷ bs) k 0) (get_or (0 ∷ 0 ∷ 0 ∷ bs) (suc k) 0) (get_or (0 ∷ 0 ∷ 0 ∷ bs) (suc (suc k)) 0) (get_or (0 ∷ 0 ∷ 0 ∷ bs) (suc (suc (suc k))) 0)
    at late =
        let j = k - end in
        follow_as _ _ _ _ _ _ _ _ (byte j k (omega arith) (omega arith)) (byte (j + 1) (suc k) (omega arith) (omega arith)) (byte (j + 2) (suc (suc k)) (omega arith) (omega arith)) (byte (j + 3) (suc (suc (suc k))) (omega arith) (omega arith)) (ok j (omega arith))

-- The complete characters of a prefix are well formed.
pub whole_prefix : (bs : List ℕ) (end offset : ℕ) → 3 ≤ end → end ≤ length bs → AllFollow bs end → IsWholeUpTo bs end offset → IsUtf8 (take offset bs)
whole_prefix bs end offset some within ok (inl whole) =
    let ends : Ends 0 0 0 bs end = (
      omega (arith, whole.1.0, past_three bs end (end - 3) (omega arith)),
      omega (arith, whole.1.1, past_three bs (suc end) (end - 2) (omega arith)),
      omega (arith, whole.1.2, past_three bs (suc (suc end)) (end - 1) (omega arith)),
    ) in
    subst (λ n. IsUtf8 (take n bs)) (sym whole.0) (prefix_by end end 0 0 0 bs (omega arith) (omega arith, omega arith, omega arith) within ok ends)
whole_prefix bs end offset some within ok (inr cut) =
    let here = ok offset cut.0 in
    let zs = 0 ∷ 0 ∷ 0 ∷ bs in
    let third : get_or zs offset 0 < 0xF0 = elim (cases_lt (get_or zs offset 0) 0xF0) [ inl low ↦ low | inr high ↦ absurd (omega (arith, cut.1, (here.trails (inl high)).1)) ] in
    let second : get_or zs (suc offset) 0 < 0xE0 = elim (cases_lt (get_or zs (suc offset) 0) 0xE0) [ inl low ↦ low | inr high ↦ absurd (omega (arith, cut.1, (here.trails (inr (inl high))).1)) ] in
    let first : get_or zs (suc (suc offset)) 0 < 0xC0 = elim (cases_lt (get_or zs (suc (suc offset)) 0) 0xC0) [ inl low ↦ low | inr high ↦ absurd (omega (arith, cut.1, (here.trails (inr (inr high))).1)) ] in
    prefix_by offset offset 0 0 0 bs (omega arith) (omega arith, omega arith, omega arith) (omega (arith, cut.0, within)) (λ k before. ok k (omega (arith, cut.0))) (third, second, first)

-- ASCII may follow ASCII.
ascii_follows : (a b c d : ℕ) → a < 0x80 → b < 0x80 → c < 0x80 → d < 0x80 → CanFollow a b c d
ascii_follows a b c d la lb lc ld = record {
  begins = λ whole. inl ld;
  trails = λ lead. elim lead [ inl third ↦ absurd (omega arith) | inr more ↦ elim more [ inl second ↦ absurd (omega arith) | inr first ↦ absurd (omega arith) ] ];
  three = (λ is. absurd (omega arith), λ is. absurd (omega arith));
  four = (λ is. absurd (omega arith), λ is. absurd (omega arith));
}

-- If 128 more bytes are ASCII, all bytes up to there are.
pub more_ascii : (bs : List ℕ) (len n : ℕ) → n ≡ 128 → ((k : ℕ) → k < len → get_or bs k 0 < 0x80) → ((k : ℕ) → k < 128 → get_or (take n (drop len bs)) k 0 < 0x80) → (k : ℕ) → k < len + 128 → get_or bs k 0 < 0x80
more_ascii bs len n long before here k within = elim (cases_lt k len) [
  | inl early ↦ before k early
  | inr late ↦ (
      let i = k - len in
      let same : len + i ≡ k = omega arith in
      subst (λ b. b < 0x80) (get_or-take n (drop len bs) i 0 (omega arith) ∙ get_or-drop len bs i 0 ∙ ap (λ p. get_or bs p 0) same) (here i (omega arith))
      )
]

-- ASCII bytes after a block of ASCII may follow the bytes before them.
pub ascii_following : (bs : List ℕ) (n m : ℕ) → ((k : ℕ) → k < 67 → get_or (take 67 bs) k 0 < 0x80) → ((k : ℕ) → k < n → get_or (take m (drop 67 bs)) k 0 < 0x80) → n ≤ m → Following (64 + n) bs
ascii_following bs n m prefix back short k within = ascii_follows _ _ _ _ (low k (omega arith)) (low (k + 1) (omega arith)) (low (k + 2) (omega arith)) (low (k + 3) (omega arith))
  where
    low : (j : ℕ) → j < 67 + n → get_or bs j 0 < 0x80
    low j inside = elim (cases_lt j 67) [
      | inl early ↦ subst (λ b. b < 0x80) (get_or-take 67 bs j 0 early) (prefix j early)
      | inr late ↦ (
          let i = j - 67 in
          let same : 67 + i ≡ j = omega arith in
          subst (λ b. b < 0x80) (get_or-take m (drop 67 bs) i 0 (omega arith) ∙ get_or-drop 67 bs i 0 ∙ ap (λ p. get_or bs p 0) same) (back i (omega arith))
          )
    ]

-- If a block passes the check, its last 64 bytes may follow the bytes before them.
pub block_following : (bs : List ℕ) → BlockFollows (take 67 bs) → Following 64 bs
block_following bs ok k within =
    follow_as _ _ _ _ _ _ _ _ (get_or-take 67 bs k 0 (omega arith)) (get_or-take 67 bs (k + 1) 0 (omega arith)) (get_or-take 67 bs (k + 2) 0 (omega arith)) (get_or-take 67 bs (k + 3) 0 (omega arith)) (ok k within)

-- If UTF-8 begins with characters, the rest is UTF-8.
text_after : (cs bs rest : List ℕ) → IsUtf8 bs → bs ≡ encode_utf8_all cs ++ rest → IsUtf8 rest
text_after [] bs rest text is = subst (λ xs. IsUtf8 xs) is text
text_after (c ∷ cs) bs rest text is = text_after cs (encode_utf8_all cs ++ rest) rest (IsUtf8-past_char bs (encode_utf8_all cs ++ rest) c text (is ∙ append_assoc (encode_utf8 c) (encode_utf8_all cs) rest)) refl

after_prefix : (bs : List ℕ) (n m : ℕ) → IsUtf8 (take n bs) → IsUtf8 (take (n + m) bs) → IsUtf8 (take m (drop n bs))
after_prefix bs n m prefix text =
    text_after prefix.0 (take (n + m) bs) (take m (drop n bs)) text (take-add n m bs ∙ ap (λ xs. xs ++ take m (drop n bs)) (sym prefix.1.1))

-- What is after a prefix, as a slice of the whole.
abbrev Behind : List ℕ → ℕ → List ℕ
Behind bs n = take (length bs - n) (drop n bs)

-- After a prefix that is UTF-8, the bytes stop being UTF-8 at the offset at which the rest does.
pub valid-beyond : (bs : List ℕ) (n v m : ℕ) → v ≡ m → n ≤ length bs → IsUtf8 (take n bs) → IsValidUpTo (Behind bs n) m → IsValidUpTo bs (n + v)
valid-beyond bs n v m is within prefix back =
    let valid : IsValidUpTo (drop n bs) v = subst (λ xs. IsValidUpTo xs v) (take_rest bs n) (subst (λ k. IsValidUpTo (Behind bs n) k) (sym is) back) in
    record {
      short = omega (arith, valid.short, length-drop n bs);
      front = subst (λ xs. IsUtf8 xs) (sym (take-add n v bs)) (IsUtf8-append (take n bs) (take v (drop n bs)) prefix valid.front);
      longest = λ k longer text. (let sum : n + (k - n) ≡ k = omega arith in valid.longest (k - n) (omega arith) (after_prefix bs n (k - n) prefix (subst (λ j. IsUtf8 (take j bs)) (sym sum) text)));
    }

-- Bytes are UTF-8 if a prefix of them and the rest are.
pub text-beyond : (bs : List ℕ) (n : ℕ) → IsUtf8 (take n bs) → IsUtf8 (Behind bs n) → IsUtf8 bs
text-beyond bs n prefix back = subst (λ xs. IsUtf8 xs) (take-append-drop n bs) (IsUtf8-append (take n bs) (drop n bs) prefix (subst (λ xs. IsUtf8 xs) (take_rest bs n) back))

pub text-all : (bs : List ℕ) → IsUtf8 bs → IsUtf8 (take (length bs) bs)
text-all bs text = subst (λ xs. IsUtf8 xs) (sym (take_all (length bs) bs (omega arith))) text

-- What std returns as the length of the fault in the bytes after the prefix.
pub error_len-beyond : (bs : List ℕ) (n v m : ℕ) (e f : Option ℕ) → v ≡ m → e ≡ f → f ≡ utf8_error_len (drop m (Behind bs n)) → e ≡ utf8_error_len (drop (n + v) bs)
error_len-beyond bs n v m e f is e_is f_is = e_is ∙ f_is ∙ ap (λ k. utf8_error_len (drop k (Behind bs n))) (sym is) ∙ ap utf8_error_len (ap (drop v) (take_rest bs n) ∙ drop-drop v n bs)

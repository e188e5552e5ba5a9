-- Offsets of characters near each other.
use Rattle.std.proofs.Common.{◌≡◌, ℕ, ◌+◌, ◌*◌, ◌-◌, ◌≤◌, ◌<◌, inl, inr, List, [], ◌∷◌, ap, arith, length, take, drop, subst, length-append, length-drop}
use Rattle.std.proofs.lemmas.Bool.{cases_lt}
use Rattle.std.proofs.lemmas.List.{length-take-le, take-take}
use Rattle.wide_forms.specs.EncodingForm.{Utf16, code_units, encode}
use Rattle.wide_forms.specs.Items.{chars, IsWellFormed}
use Rattle.wide_forms.specs.Offsets.{IsCharBoundary, chars_before}
use Rattle.wide_forms.specs.Laws.Forms.{one_unit, two_units}
use Rattle.wide_forms.specs.Laws.Offsets.{IsOffsetOf-boundary, chars_before-within, offset-IsOffsetOf}
use Rattle.wide_unit.proofs.CharBoundaries.{IsBoundary-of_char}
use Rattle.wide_offset_index.specs.Marks.{offset}
use Rattle.wide_offset_index.proofs.Lengths.{size, size-cut}
use Rattle.wide_offset_index.proofs.Marking.{few-characters, char-boundary}

at-most-two : (c : ℕ) → length (code_units Utf16 c) ≤ 2
at-most-two c = elim (cases_lt c 0x1_0000) [
  | inl below ↦ omega (arith, ap length (one_unit c below))
  | inr from ↦ omega (arith, ap length (two_units c from))
]

pub few-units : (l : List ℕ) → size Utf16 l ≤ 2 * length l
few-units [] = omega arith
few-units (c ∷ l) = omega (arith, length-append (code_units Utf16 c) (encode Utf16 l), at-most-two c, few-units l)

-- Between two characters there are at least as many units as characters, and at most twice as many.
pub record AreApart (cs : List ℕ) (a b : ℕ) : Type 0 where
  pub least : offset cs a + b ≤ offset cs b + a
  pub most : offset cs b + 2 * a ≤ offset cs a + 2 * b

pub apart : (cs : List ℕ) (a b : ℕ) → a ≤ b → b ≤ length cs → AreApart cs a b
apart cs a b forward within =
    let first = take b cs in
    let cut = size-cut Utf16 first a in
    let same : size Utf16 (take a first) ≡ offset cs a = ap (size Utf16) (take-take a b cs forward) in
    let long : length (drop a first) + a ≡ b = omega (arith, length-drop a first, length-take-le b cs within) in
    record {
      least = omega (arith, cut, same, long, few-characters Utf16 (drop a first));
      most = omega (arith, cut, same, long, few-units (drop a first));
    }

-- The characters between two offsets that are no further apart than they are have one unit each.
pub single-units : (cs : List ℕ) (a t b : ℕ) → a ≤ t → t ≤ b → b ≤ length cs → offset cs b + a ≡ offset cs a + b → offset cs t + a ≡ offset cs a + t
single-units cs a t b first second within same =
    let low = apart cs a t first (omega (arith, second, within)) in
    let high = apart cs t b second within in
    omega (arith, low.least, high.least, same)

module _ (us : List ℕ) (well : IsWellFormed Utf16 us) where
  abbrev cs : List ℕ
  cs = chars Utf16 us

  -- A boundary is the offset of a character.
  index-at : (at : ℕ) → IsCharBoundary Utf16 us at → (q : ℕ) × (q ≤ length cs) × (at ≡ offset cs q)
  index-at at here =
      let boundary = IsBoundary-of_char Utf16 us at here in
      let found = IsOffsetOf-boundary Utf16 us well at boundary in
      (chars_before Utf16 us at, chars_before-within Utf16 us well at boundary, offset-IsOffsetOf Utf16 us well (chars_before Utf16 us at) at found)

  module _ (p : ℕ) (within : p < length cs) where
    abbrev two : AreApart cs p (p + 1)
    two = apart cs p (p + 1) (omega arith) (omega (arith, within))

    -- The next character begins one unit further on if that is a boundary.
    pub next-near : (at : ℕ) → at ≡ offset cs p → IsCharBoundary Utf16 us (at + 1) → offset cs (p + 1) ≡ at + 1
    next-near at here next =
        let q = index-at (at + 1) next in
        elim (cases_lt p (q.0)) [
          | inl after ↦ omega (arith, two.least, two.most, here, q.2, (apart cs (p + 1) (q.0) (omega (arith, after)) (q.1)).least)
          | inr before ↦ absurd (omega (arith, here, q.2, (apart cs (q.0) p before (omega (arith, within))).least))
        ]

    -- The next character begins two units further on if one unit further on is no boundary.
    pub next-far : (at : ℕ) → at ≡ offset cs p → (IsCharBoundary Utf16 us (at + 1) → ⊥) → offset cs (p + 1) ≡ at + 2
    next-far at here never = elim (cases_lt (at + 1) (offset cs (p + 1))) [
      | inl far ↦ omega (arith, two.most, here, far)
      | inr near ↦ let same : offset cs (p + 1) ≡ at + 1 = omega (arith, two.least, here, near) in absurd (never (subst (IsCharBoundary Utf16 us) same (char-boundary us well (p + 1))))
    ]

    -- The character before begins one unit before if that is a boundary.
    pub previous-near : (at : ℕ) → at ≡ offset cs (p + 1) → IsCharBoundary Utf16 us (at - 1) → offset cs p + 1 ≡ at
    previous-near at here before =
        let q = index-at (at - 1) before in
        elim (cases_lt p (q.0)) [
          | inl after ↦ absurd (omega (arith, two.least, here, q.2, (apart cs (p + 1) (q.0) (omega (arith, after)) (q.1)).least))
          | inr back ↦ omega (arith, two.least, here, q.2, (apart cs (q.0) p back (omega (arith, within))).least)
        ]

    -- The character before begins two units before if one unit before is no boundary.
    pub previous-far : (at : ℕ) → at ≡ offset cs (p + 1) → (IsCharBoundary Utf16 us (at - 1) → ⊥) → offset cs p + 2 ≡ at
    previous-far at here never = elim (cases_lt (offset cs p + 1) at) [
      | inl far ↦ omega (arith, two.most, here, far)
      | inr near ↦ let same : offset cs p ≡ at - 1 = omega (arith, two.least, here, near) in absurd (never (subst (IsCharBoundary Utf16 us) same (char-boundary us well p)))
    ]

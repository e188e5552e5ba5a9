-- What the laws of segmentation depend on, for each encoding form.
use Rattle.std.proofs.Common.{◌≡◌, ◌≢◌, ℕ, ◌+◌, ◌-◌, ◌*◌, ◌/◌, ◌%◌, ◌<◌, ◌≤◌, ◌^◌, true, List, [], ◌∷◌, ◌++◌, ◌⊎◌, inl, inr, refl, ◌∙◌, ap, arith, length, lit≤}
use Rattle.std.specs.Char.{IsScalar}
use Rattle.std.proofs.Math.Utf8.{scalar, scalar_cases, low_scalar}
use Rattle.std.proofs.lemmas.Bool.{cases_lt, cases_Bool, lt-ltb, le-ltb, le-leb}
use Rattle.std.proofs.lemmas.List.{append-nil}
use Rattle.wide_forms.specs.EncodingForm.{EncodingForm, Utf16, Utf32, code_units, IsFault, IsPair, IsHighSurrogate, IsLowSurrogate}

-- A scalar value is below 11_0000, and no surrogate.
pub record Ranges (c : ℕ) : Type 0 where
  pub below : c < 0x11_0000
  pub no_surrogate : 0xD800 ≤ c → 0xE000 ≤ c

pub ranges : (c : ℕ) → IsScalar c → Ranges c
ranges c h = elim (scalar_cases c h) [ inl low ↦ record { below = omega arith; no_surrogate = λ from. omega arith } | inr high ↦ record { below = omega arith; no_surrogate = λ from. omega arith } ]

pub scalar_from : (c : ℕ) → Ranges c → IsScalar c
scalar_from c h =
    elim (cases_lt c 0xD800) [ inl low ↦ low_scalar c low | inr from ↦ rw (le-ltb c 0xD800 from, le-leb 0xE000 c (h.no_surrogate from), lt-ltb c 0x11_0000 h.below) refl ]

-- The first unit of a character that is a pair in UTF-16.
abbrev pub high_of : ℕ → ℕ
high_of c = 0xD800 + (c - 0x1_0000) / 0x400

-- The second unit of a character that is a pair in UTF-16.
abbrev pub low_of : ℕ → ℕ
low_of c = 0xDC00 + (c - 0x1_0000) % 0x400

-- A character below 1_0000 has one unit in UTF-16.
pub one_unit : (c : ℕ) → c < 0x1_0000 → code_units Utf16 c ≡ c ∷ []
one_unit c h = rw (lt-ltb c 0x1_0000 h)

-- A character from 1_0000 on has two units in UTF-16.
pub two_units : (c : ℕ) → 0x1_0000 ≤ c → code_units Utf16 c ≡ high_of c ∷ low_of c ∷ []
two_units c h = rw (le-ltb c 0x1_0000 h)

-- A character has one unit or two.
pub code_units-cases : (form : EncodingForm) (c : ℕ) → ((u : ℕ) × (code_units form c ≡ u ∷ [])) ⊎ ((h : ℕ) × (l : ℕ) × (code_units form c ≡ h ∷ l ∷ []))
code_units-cases Utf16 c = elim (cases_lt c 0x1_0000) [ inl below ↦ inl (c, one_unit c below) | inr from ↦ inr (high_of c, low_of c, two_units c from) ]
code_units-cases Utf32 c = inl (c, refl)

-- A character has at least one unit.
pub some_units : (form : EncodingForm) (c : ℕ) → 1 ≤ length (code_units form c)
some_units form c = elim (code_units-cases form c) [
  | inl one ↦ rw one.1 (omega arith)
  | inr two ↦ rw two.2 (omega arith)
]

-- Characters with the same surrogate pair are equal.
same_pair : (c d : ℕ) → 0x1_0000 ≤ c → 0x1_0000 ≤ d → high_of c ≡ high_of d → low_of c ≡ low_of d → c ≡ d
same_pair c d from_c from_d high low = omega arith

-- No code unit sequence is a prefix of another.
pub code_units-prefix : (form : EncodingForm) (c d : ℕ) (xs ys : List ℕ) → IsScalar c → IsScalar d → code_units form c ++ xs ≡ code_units form d ++ ys → c ≡ d
code_units-prefix Utf16 c d xs ys hc hd e =
    let rc = ranges c hc in
    let rd = ranges d hd in
    elim (cases_lt c 0x1_0000) [
      | inl below_c ↦ elim (cases_lt d 0x1_0000) [
        | inl below_d ↦ (let f : c ∷ xs ≡ d ∷ ys = rw (one_unit c below_c, one_unit d below_d) at e in cc)
        | inr from_d ↦ (let f : c ∷ xs ≡ high_of d ∷ low_of d ∷ ys = rw (one_unit c below_c, two_units d from_d) at e in let g : c ≡ high_of d = cc in absurd (omega arith))
      ]
      | inr from_c ↦ elim (cases_lt d 0x1_0000) [
        | inl below_d ↦ (let f : high_of c ∷ low_of c ∷ xs ≡ d ∷ ys = rw (two_units c from_c, one_unit d below_d) at e in let g : high_of c ≡ d = cc in absurd (omega arith))
        | inr from_d ↦ (let f : high_of c ∷ low_of c ∷ xs ≡ high_of d ∷ low_of d ∷ ys = rw (two_units c from_c, two_units d from_d) at e in let high : high_of c ≡ high_of d = cc in let low : low_of c ≡ low_of d = cc in same_pair c d from_c from_d high low)
      ]
    ]
code_units-prefix Utf32 c d xs ys hc hd e = cc

-- The second unit of a pair begins no code unit sequence.
pub low-begins_nothing : (form : EncodingForm) (h l d : ℕ) (xs ys : List ℕ) → IsPair form h l → IsScalar d → code_units form d ++ ys ≡ l ∷ xs → ⊥
low-begins_nothing Utf16 h l d xs ys pair hd e =
    let rc = ranges pair.0 pair.1 in
    let rd = ranges d hd in
    elim (cases_lt pair.0 0x1_0000) [
      | inl below ↦ (let f : pair.0 ∷ [] ≡ h ∷ l ∷ [] = rw (one_unit pair.0 below) at pair.2 in cc)
      | inr from ↦
          (let f : high_of pair.0 ∷ low_of pair.0 ∷ [] ≡ h ∷ l ∷ [] = rw (two_units pair.0 from) at pair.2 in
          let low : low_of pair.0 ≡ l = cc in
          elim (cases_lt d 0x1_0000) [
            | inl below_d ↦ (let k : d ∷ ys ≡ l ∷ xs = rw (one_unit d below_d) at e in let g : d ≡ l = cc in omega arith)
            | inr from_d ↦ (let k : high_of d ∷ low_of d ∷ ys ≡ l ∷ xs = rw (two_units d from_d) at e in let g : high_of d ≡ l = cc in omega arith)
          ])
    ]
low-begins_nothing Utf32 h l d xs ys pair hd e = cc

-- A number is a high surrogate: D800 to DBFF.
pub record IsHigh (u : ℕ) : Type 0 where
  pub from : 0xD800 ≤ u
  pub to : u < 0xDC00

-- A number is a low surrogate: DC00 to DFFF.
pub record IsLow (u : ℕ) : Type 0 where
  pub from : 0xDC00 ≤ u
  pub to : u < 0xE000

-- In UTF-16, a high surrogate and a low one are a pair.
pub pair16 : (h l : ℕ) → IsHigh h → IsLow l → IsPair Utf16 h l
pair16 h l high low =
    let c : ℕ = 0x1_0000 + ((h - 0xD800) * 0x400 + (l - 0xDC00)) in
    let e : high_of c ≡ h = omega arith in
    let f : low_of c ≡ l = omega arith in
    (c, scalar_from c (record { below = omega arith; no_surrogate = λ from. omega arith }), two_units c (omega arith) ∙ ap (λ x. x ∷ low_of c ∷ []) e ∙ ap (λ x. h ∷ x ∷ []) f)

-- In UTF-16, a pair is a high surrogate and a low one.
pub pair16-parts : (h l : ℕ) → IsPair Utf16 h l → IsHigh h × IsLow l
pair16-parts h l pair =
    let rc = ranges pair.0 pair.1 in
    elim (cases_lt pair.0 0x1_0000) [
      | inl below ↦ (let f : pair.0 ∷ [] ≡ h ∷ l ∷ [] = rw (one_unit pair.0 below) at pair.2 in cc)
      | inr from ↦
          (let f : high_of pair.0 ∷ low_of pair.0 ∷ [] ≡ h ∷ l ∷ [] = rw (two_units pair.0 from) at pair.2 in
          let high : high_of pair.0 ≡ h = cc in
          let low : low_of pair.0 ≡ l = cc in
          (record { from = omega arith; to = omega arith }, record { from = omega arith; to = omega arith }))
    ]

-- In UTF-32, no two units are a pair.
pub no_pair32 : (h l : ℕ) → ¬ (IsPair Utf32 h l)
no_pair32 h l pair = cc

-- A unit of UTF-16 that encodes a character by itself is that character, below 1_0000.
pub one_unit-is : (c u : ℕ) → code_units Utf16 c ≡ u ∷ [] → (c ≡ u) × (u < 0x1_0000)
one_unit-is c u e =
    elim (cases_lt c 0x1_0000) [
      | inl below ↦ (let f : c ∷ [] ≡ u ∷ [] = rw (one_unit c below) at e in let g : c ≡ u = cc in (g, omega arith))
      | inr from ↦ (let f : high_of c ∷ low_of c ∷ [] ≡ u ∷ [] = rw (two_units c from) at e in cc)
    ]

pub fault16 : (u : ℕ) → (Ranges u → 0x1_0000 ≤ u) → IsFault Utf16 u
fault16 u none c hc e =
    let at : (c ≡ u) × (u < 0x1_0000) = one_unit-is c u e in
    let rc = ranges c hc in
    let ru : Ranges u = record { below = omega arith; no_surrogate = λ from. omega arith } in
    omega (arith, none ru)

-- A unit encodes a character or is a fault.
pub unit-cases : (form : EncodingForm) (u : ℕ) → ((c : ℕ) × IsScalar c × (code_units form c ≡ u ∷ [])) ⊎ IsFault form u
unit-cases Utf16 u =
    elim (cases_lt u 0x1_0000) [
      | inl below ↦ elim (cases_lt u 0xD800) [
        | inl low ↦ inl (u, scalar_from u (record { below = omega arith; no_surrogate = λ from. omega arith }), one_unit u below)
        | inr from ↦ elim (cases_lt u 0xE000) [
          | inl surrogate ↦ inr (fault16 u (λ r. omega (arith, r.no_surrogate from)))
          | inr past ↦ inl (u, scalar_from u (record { below = omega arith; no_surrogate = λ from. omega arith }), one_unit u below)
        ]
      ]
      | inr over ↦ inr (fault16 u (λ r. over))
    ]
unit-cases Utf32 u =
    elim (cases_Bool (scalar u)) [
      | inl is ↦ inl (u, is, refl)
      | inr isnt ↦ inr (λ c hc e. let f : c ≡ u = cc in let g : scalar u ≡ true = rw f at hc in cc)
    ]

-- Two units are a pair or not.
pub pair-cases : (form : EncodingForm) (h l : ℕ) → IsPair form h l ⊎ (¬ (IsPair form h l))
pair-cases Utf16 h l =
    elim (cases_lt h 0xD800) [
      | inl below ↦ inr (λ p. omega (arith, (pair16-parts h l p).0.from))
      | inr high_from ↦ elim (cases_lt h 0xDC00) [
        | inr past ↦ inr (λ p. omega (arith, (pair16-parts h l p).0.to))
        | inl high_to ↦ elim (cases_lt l 0xDC00) [
          | inl below ↦ inr (λ p. omega (arith, (pair16-parts h l p).1.from))
          | inr low_from ↦ elim (cases_lt l 0xE000) [
            | inr past ↦ inr (λ p. omega (arith, (pair16-parts h l p).1.to))
            | inl low_to ↦ inl (pair16 h l (record { from = high_from; to = high_to }) (record { from = low_from; to = low_to }))
          ]
        ]
      ]
    ]
pair-cases Utf32 h l = inr (no_pair32 h l)

-- A high surrogate and a low one are a pair.
pub IsPair-from : (form : EncodingForm) (h l : ℕ) → IsHighSurrogate form h → IsLowSurrogate form l → IsPair form h l
IsPair-from Utf16 h l high low = pair16 h l (record { from = high.0; to = omega arith }) (record { from = low.0; to = omega arith })
IsPair-from Utf32 h l high low = absurd high

-- A pair is a high surrogate and a low one.
pub IsPair-parts : (form : EncodingForm) (h l : ℕ) → IsPair form h l → IsHighSurrogate form h × IsLowSurrogate form l
IsPair-parts Utf16 h l pair =
    let parts = pair16-parts h l pair in
    ((parts.0.from, omega (arith, parts.0.to)), (parts.1.from, omega (arith, parts.1.to)))
IsPair-parts Utf32 h l pair = absurd (no_pair32 h l pair)

-- In UTF-16, a surrogate is a fault.
pub IsFault-surrogate : (u : ℕ) → 0xD800 ≤ u → u ≤ 0xDFFF → IsFault Utf16 u
IsFault-surrogate u from to = fault16 u (λ r. omega (arith, r.no_surrogate from))

-- In UTF-16, a unit that is a fault is a surrogate.
pub surrogate-of_fault : (u : ℕ) → u < 2 ^ 16 → IsFault Utf16 u → (0xD800 ≤ u) × (u ≤ 0xDFFF)
surrogate-of_fault u below fault =
    elim (cases_lt u 0xD800) [
      | inl low ↦ absurd (fault u (scalar_from u (record { below = omega arith; no_surrogate = λ from. omega arith })) (one_unit u (omega arith)))
      | inr from ↦ elim (cases_lt u 0xE000) [
        | inl surrogate ↦ (from, omega arith)
        | inr past ↦ absurd (fault u (scalar_from u (record { below = omega arith; no_surrogate = λ from. omega arith })) (one_unit u (omega arith)))
      ]
    ]

-- In UTF-32, a number that is no scalar value is a fault.
pub IsFault-no_scalar : (u : ℕ) → ¬ (IsScalar u) → IsFault Utf32 u
IsFault-no_scalar u none c hc e = let same : c ≡ u = cc in none (rw same at hc)

-- In UTF-32, a fault is no scalar value.
pub no_scalar-of_fault : (u : ℕ) → IsFault Utf32 u → ¬ (IsScalar u)
no_scalar-of_fault u fault hu = fault u hu refl

-- A high surrogate is a fault by itself.
pub IsFault-high : (form : EncodingForm) (u : ℕ) → IsHighSurrogate form u → IsFault form u
IsFault-high Utf16 u high = IsFault-surrogate u high.0 (omega arith)
IsFault-high Utf32 u high = absurd high

-- A low surrogate is a fault by itself.
pub IsFault-low : (form : EncodingForm) (u : ℕ) → IsLowSurrogate form u → IsFault form u
IsFault-low Utf16 u low = IsFault-surrogate u (omega arith) low.1
IsFault-low Utf32 u low = absurd low

-- A low surrogate is the second unit of some pair.
pub IsTrailing-from : (form : EncodingForm) (l : ℕ) → IsLowSurrogate form l → (h : ℕ) × IsPair form h l
IsTrailing-from Utf16 l low = (0xD800, IsPair-from Utf16 0xD800 l (lit≤ tt, lit≤ tt) low)
IsTrailing-from Utf32 l low = absurd low

-- No unit is both a high surrogate and a low one.
pub high-no_low : (form : EncodingForm) (u : ℕ) → IsHighSurrogate form u → IsLowSurrogate form u → ⊥
high-no_low Utf16 u high low = omega arith
high-no_low Utf32 u high low = high

-- No character begins with a low surrogate.
pub code_units-no_low_first : (form : EncodingForm) (c l : ℕ) (rest : List ℕ) → IsScalar c → IsLowSurrogate form l → code_units form c ≢ l ∷ rest
code_units-no_low_first form c l rest hc low e =
    let t = IsTrailing-from form l low in
    low-begins_nothing form t.0 l c rest [] t.1 hc (append-nil (code_units form c) ∙ e)

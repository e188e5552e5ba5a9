-- Text of characters of one to three bytes, from the scalar values at all bytes.
use Rattle.std.proofs.Common.{◌≡◌, ℕ, zero, suc, ◌+◌, ◌-◌, ◌*◌, ◌/◌, ◌%◌, ◌^◌, ◌<◌, ◌≤◌, true, false, cond, ltb, inl, inr, List, [], ◌∷◌, ◌++◌, length, get_or, take, drop, refl, sym, ap, ◌∙◌, subst, arith, length-drop}
use Rattle.std.specs.Char.{IsScalar}
use Rattle.std.specs.Str.{IsUtf8}
use Rattle.std.specs.Str.Pattern.{StartsWithChar}
use Rattle.std.proofs.lemmas.Bool.{cases_lt, cases_Bool, lt-ltb, le-ltb}
use Rattle.std.proofs.lemmas.List.{drop-drop, get_or-drop}
use Rattle.std.proofs.lemmas.Nat.{mod-pow-add}
use Rattle.std.proofs.lemmas.Str.{IsUtf8-drop}
use Rattle.std.proofs.Math.Pow.{pow_mono}
use Rattle.std.proofs.Math.Nat.{div-div-eq-div-mul, mod-le}
use Rattle.wide_forms.specs.EncodingForm.{EncodingForm, code_units}
use Rattle.wide_forms.specs.Laws.Forms.{scalar_from}
use Rattle.wide_from_utf8.specs.Decoded.{code_of_three, code_of_two}
use Rattle.wide_repair.specs.Compressed.{compressed_lanes}
use Rattle.wide_from_utf8.specs.Mixed.{begins, code_of, codes_at, lead_bits, trailing_len}
use Rattle.wide_from_utf8.proofs.FirstCharacters.{Trails, in_one, in_two, in_three, parts, wide}
use Rattle.wide_from_utf8.proofs.PrefixUnits.{IsPrefixUnits, beyond-is, prefix_units-char, prefix_units-none, prefix_units-then}
use Rattle.wide_utf16_to_utf8.proofs.Shuffles.{bit-small}
use Rattle.wide_utf16_to_utf8.proofs.UnitEncodings.{one_unit-plain}

-- ---- which bytes begin a character

pub begins-low : (b : ℕ) → b < 0x80 → begins b ≡ true
begins-low b low = rw (lt-ltb b 0x80 low) refl

pub begins-lead : (b : ℕ) → 0xC0 ≤ b → begins b ≡ true
begins-lead b high = rw (le-ltb b 0x80 (omega arith), lt-ltb 0xBF b (omega arith)) refl

pub begins-trails : (b : ℕ) → Trails b → begins b ≡ false
begins-trails b trails = (let from = trails.0 in let below = trails.1 in rw (le-ltb b 0x80 from, le-ltb 0xBF b (omega (arith, below))) refl)

begins-text : (bs : List ℕ) → IsUtf8 bs → begins (get_or bs 0 0) ≡ true
begins-text [] text = refl
begins-text (b ∷ bs) text = elim (cases_lt b 0x80) [ inl low ↦ begins-low b low | inr from ↦ begins-lead b ((parts (b ∷ bs) text (omega arith)).leads from) ]

-- How many continuation bytes follow: none if the text begins with a character, and otherwise those of a character that
-- began before.
trailing-none : (bs : List ℕ) → IsUtf8 bs → trailing_len bs ≡ 0
trailing-none bs text = ap (λ x. cond {A = ℕ} x 0 (cond (begins (get_or bs 1 0)) 1 2)) (begins-text bs text)

trailing-one : (b : ℕ) (bs : List ℕ) → Trails b → IsUtf8 bs → trailing_len (b ∷ bs) ≡ 1
trailing-one b bs trails text = ap (λ x. cond {A = ℕ} x 0 (cond (begins (get_or bs 0 0)) 1 2)) (begins-trails b trails) ∙ ap (λ x. cond {A = ℕ} x 1 2) (begins-text bs text)

trailing-two : (b c : ℕ) (bs : List ℕ) → Trails b → Trails c → trailing_len (b ∷ c ∷ bs) ≡ 2
trailing-two b c bs first second = ap (λ x. cond {A = ℕ} x 0 (cond (begins c) 1 2)) (begins-trails b first) ∙ ap (λ x. cond {A = ℕ} x 1 2) (begins-trails c second)

-- ---- their scalar values

code-one : (a b c : ℕ) → a < 0x80 → code_of a b c ≡ a
code-one a b c low = rw (lt-ltb a 0x80 low) refl

code-two : (a b c : ℕ) → 0x80 ≤ a → a < 0xE0 → code_of a b c ≡ code_of_two a b
code-two a b c from low = rw (le-ltb a 0x80 from, lt-ltb a 0xE0 low) refl

code-three : (a b c : ℕ) → 0xE0 ≤ a → code_of a b c ≡ code_of_three a b c
code-three a b c from = rw (le-ltb a 0x80 (omega arith), le-ltb a 0xE0 from) refl

-- The scalar values of the characters that begin at the first bytes.
abbrev pub begun : ℕ → List ℕ → List ℕ
begun zero bs = []
begun (suc n) [] = []
begun (suc n) (b ∷ bs) = cond (begins b) (code_of b (get_or bs 0 0) (get_or bs 1 0) ∷ begun n bs) (begun n bs)

begun-char : (n b v : ℕ) (bs : List ℕ) → begins b ≡ true → code_of b (get_or bs 0 0) (get_or bs 1 0) ≡ v → begun (suc n) (b ∷ bs) ≡ v ∷ begun n bs
begun-char n b v bs starts is = ap (λ x. cond x (code_of b (get_or bs 0 0) (get_or bs 1 0) ∷ begun n bs) (begun n bs)) starts ∙ ap (λ w. w ∷ begun n bs) is

begun-skip : (n b : ℕ) (bs : List ℕ) → begins b ≡ false → begun (suc n) (b ∷ bs) ≡ begun n bs
begun-skip n b bs goes_on = ap (λ x. cond x (code_of b (get_or bs 0 0) (get_or bs 1 0) ∷ begun n bs) (begun n bs)) goes_on

pub length-begun : (n : ℕ) (bs : List ℕ) → length (begun n bs) ≤ n
length-begun zero bs = omega arith
length-begun (suc n) [] = omega arith
length-begun (suc n) (b ∷ bs) = elim (cases_Bool (begins b)) [
  | inl starts ↦ omega (arith, ap length (begun-char n b _ bs starts refl), length-begun n bs)
  | inr goes_on ↦ omega (arith, ap length (begun-skip n b bs goes_on), length-begun n bs)
]

-- ---- their units

module _ (form : EncodingForm) where
  abbrev Front : ℕ → List ℕ → Type 0
  Front n bs = IsPrefixUnits form bs (n + trailing_len (drop n bs)) (begun n bs)

  -- No character of four bytes begins at the first bytes.
  abbrev Shorts : ℕ → List ℕ → Type 0
  Shorts n bs = (k : ℕ) → k < n → get_or bs k 0 < 0xF0

  moved : (bs us vs : List ℕ) (m n : ℕ) → m ≡ n → vs ≡ us → IsPrefixUnits form bs m us → IsPrefixUnits form bs n vs
  moved bs us vs m n offset same prefix = subst (λ k. IsPrefixUnits form bs k vs) offset (subst (λ ws. IsPrefixUnits form bs m ws) (sym same) prefix)

  char-then : (bs us : List ℕ) (v s m : ℕ) → IsUtf8 bs → StartsWithChar bs v s → v < 0x1_0000 → (IsUtf8 (drop s bs) → IsPrefixUnits form (drop s bs) m us) → IsPrefixUnits form bs (s + m) (v ∷ us)
  char-then bs us v s m text first below more =
      let prefix = prefix_units-char form bs v s text first in
      prefix_units-then form bs (code_units form v) us (v ∷ us) s m prefix (more prefix.rest) (ap (λ vs. vs ++ us) (sym (one_unit-plain form v below)))

  abbrev More : ℕ → Type 0
  More n = (m : ℕ) (bs : List ℕ) → m ≤ n → IsUtf8 bs → m ≤ length bs → Shorts m bs → Front m bs

  one : (n b : ℕ) (bs : List ℕ) → IsUtf8 (b ∷ bs) → suc n ≤ length (b ∷ bs) → Shorts (suc n) (b ∷ bs) → b < 0x80 → More n → Front (suc n) (b ∷ bs)
  one n b bs text within short low more =
      let prefix = char-then (b ∷ bs) (begun n bs) b 1 (n + trailing_len (drop n bs)) text (in_one (b ∷ bs) text (omega arith) low).1 (omega arith) (λ rest. more n bs (omega arith) rest (omega arith) (λ k before. short (suc k) (omega arith))) in
      moved (b ∷ bs) _ _ _ (suc n + trailing_len (drop n bs)) (omega arith) (begun-char n b b bs (begins-low b low) (code-one b _ _ low)) prefix

  two : (n b : ℕ) (bs : List ℕ) → IsUtf8 (b ∷ bs) → suc n ≤ length (b ∷ bs) → Shorts (suc n) (b ∷ bs) → 0x80 ≤ b → b < 0xE0 → More n → Front (suc n) (b ∷ bs)
  two n b [] text within short from below more = absurd (omega (arith, (wide (b ∷ []) text (omega arith)).0 from))
  two zero b (c ∷ cs) text within short from below more =
      let all = b ∷ c ∷ cs in
      let v = code_of_two b c in
      let bytes = parts all text (omega arith) in
      let first : StartsWithChar all v 2 = (in_two all text (omega arith) from below).1 in
      let prefix = char-then all [] v 2 0 text first (omega arith) (λ rest. prefix_units-none form cs rest) in
      let left = trailing-one c cs (bytes.second from) first.4 in
      moved all _ _ _ (1 + trailing_len (c ∷ cs)) (omega (arith, left)) (begun-char 0 b v (c ∷ cs) (begins-lead b (bytes.leads from)) (code-two b c _ from below)) prefix
  two (suc n) b (c ∷ cs) text within short from below more =
      let all = b ∷ c ∷ cs in
      let v = code_of_two b c in
      let bytes = parts all text (omega arith) in
      let first : StartsWithChar all v 2 = (in_two all text (omega arith) from below).1 in
      let prefix = char-then all (begun n cs) v 2 (n + trailing_len (drop n cs)) text first (omega arith) (λ rest. more n cs (omega arith) rest (omega arith) (λ k before. short (suc (suc k)) (omega arith))) in
      let units = begun-char (suc n) b v (c ∷ cs) (begins-lead b (bytes.leads from)) (code-two b c _ from below) ∙ ap (λ us. v ∷ us) (begun-skip n c cs (begins-trails c (bytes.second from))) in
      moved all _ _ _ (suc (suc n) + trailing_len (drop n cs)) (omega arith) units prefix

  three : (n b : ℕ) (bs : List ℕ) → IsUtf8 (b ∷ bs) → suc n ≤ length (b ∷ bs) → Shorts (suc n) (b ∷ bs) → 0xE0 ≤ b → b < 0xF0 → More n → Front (suc n) (b ∷ bs)
  three n b [] text within short from below more = absurd (omega (arith, (wide (b ∷ []) text (omega arith)).1 from))
  three n b (c ∷ []) text within short from below more = absurd (omega (arith, (wide (b ∷ c ∷ []) text (omega arith)).1 from))
  three zero b (c ∷ d ∷ ds) text within short from below more =
      let all = b ∷ c ∷ d ∷ ds in
      let v = code_of_three b c d in
      let bytes = parts all text (omega arith) in
      let first : StartsWithChar all v 3 = (in_three all text (omega arith) from below).1 in
      let prefix = char-then all [] v 3 0 text first (omega arith) (λ rest. prefix_units-none form ds rest) in
      let left = trailing-two c d ds (bytes.second (omega arith)) (bytes.third from) in
      moved all _ _ _ (1 + trailing_len (c ∷ d ∷ ds)) (omega (arith, left)) (begun-char 0 b v (c ∷ d ∷ ds) (begins-lead b (omega arith)) (code-three b c d from)) prefix
  three (suc zero) b (c ∷ d ∷ ds) text within short from below more =
      let all = b ∷ c ∷ d ∷ ds in
      let v = code_of_three b c d in
      let bytes = parts all text (omega arith) in
      let first : StartsWithChar all v 3 = (in_three all text (omega arith) from below).1 in
      let prefix = char-then all [] v 3 0 text first (omega arith) (λ rest. prefix_units-none form ds rest) in
      let left = trailing-one d ds (bytes.third from) first.4 in
      let units = begun-char 1 b v (c ∷ d ∷ ds) (begins-lead b (omega arith)) (code-three b c d from) ∙ ap (λ us. v ∷ us) (begun-skip 0 c (d ∷ ds) (begins-trails c (bytes.second (omega arith)))) in
      moved all _ _ _ (2 + trailing_len (d ∷ ds)) (omega (arith, left)) units prefix
  three (suc (suc n)) b (c ∷ d ∷ ds) text within short from below more =
      let all = b ∷ c ∷ d ∷ ds in
      let v = code_of_three b c d in
      let bytes = parts all text (omega arith) in
      let first : StartsWithChar all v 3 = (in_three all text (omega arith) from below).1 in
      let prefix = char-then all (begun n ds) v 3 (n + trailing_len (drop n ds)) text first (omega arith) (λ rest. more n ds (omega arith) rest (omega arith) (λ k before. short (suc (suc (suc k))) (omega arith))) in
      let units = begun-char (suc (suc n)) b v (c ∷ d ∷ ds) (begins-lead b (omega arith)) (code-three b c d from)
      ∙ ap (λ us. v ∷ us) (begun-skip (suc n) c (d ∷ ds) (begins-trails c (bytes.second (omega arith))) ∙ begun-skip n d ds (begins-trails d (bytes.third from))) in
      moved all _ _ _ (suc (suc (suc n)) + trailing_len (drop n ds)) (omega arith) units prefix

  -- The units of the characters that begin at the first bytes, by recursion over the characters. `fuel` bounds the
  -- number of bytes that are left.
  prefixes : (fuel n : ℕ) (bs : List ℕ) → n ≤ fuel → IsUtf8 bs → n ≤ length bs → Shorts n bs → Front n bs
  prefixes fuel zero bs few text within short = moved bs _ _ 0 (0 + trailing_len bs) (omega (arith, trailing-none bs text)) refl (prefix_units-none form bs text)
  prefixes zero (suc n) bs few text within short = absurd (omega arith)
  prefixes (suc fuel) (suc n) [] few text within short = absurd (omega arith)
  prefixes (suc fuel) (suc n) (b ∷ bs) few text within short = elim (cases_lt b 0x80) [
    | inl low ↦ one n b bs text within short low (λ m cs less rest inside before. prefixes fuel m cs (omega arith) rest inside before)
    | inr from ↦ elim (cases_lt b 0xE0) [
      | inl low ↦ two n b bs text within short from low (λ m cs less rest inside before. prefixes fuel m cs (omega arith) rest inside before)
      | inr from_e0 ↦ three n b bs text within short from_e0 (short 0 (omega arith)) (λ m cs less rest inside before. prefixes fuel m cs (omega arith) rest inside before)
    ]
  ]

  pub prefix_units-begun : (n : ℕ) (bs : List ℕ) → IsUtf8 bs → n ≤ length bs → ((k : ℕ) → k < n → get_or bs k 0 < 0xF0) → IsPrefixUnits form bs (n + trailing_len (drop n bs)) (begun n bs)
  prefix_units-begun n bs text within short = prefixes n n bs (omega arith) text within short

-- ---- the scalar values at all bytes

abbrev code-first : List ℕ → ℕ
code-first bs = code_of (get_or bs 0 0) (get_or bs 1 0) (get_or bs 2 0)

codes-at : (n k : ℕ) (bs : List ℕ) → k < n → k < length bs → get_or (codes_at n bs) k 0 ≡ code-first (drop k bs)
codes-at zero k bs within inside = absurd (omega arith)
codes-at (suc n) k [] within inside = absurd (omega arith)
codes-at (suc n) zero (b ∷ bs) within inside = refl
codes-at (suc n) (suc k) (b ∷ bs) within inside = codes-at n k bs (omega arith) (omega arith)

low-scalar : (c : ℕ) → c < 0xD800 → IsScalar c
low-scalar c low = scalar_from c (record { below = omega arith; no_surrogate = λ from. omega arith })

-- The value that is computed at a byte is a scalar value, even if no character begins there.
first-scalar : (bs : List ℕ) → (0xC0 ≤ get_or bs 0 0 → IsUtf8 bs × (0 < length bs)) → IsScalar (code-first bs)
first-scalar bs text =
    let a : ℕ = get_or bs 0 0 in
    let b : ℕ = get_or bs 1 0 in
    let c : ℕ = get_or bs 2 0 in
    elim (cases_lt a 0x80) [
      | inl low ↦ subst (λ v. IsScalar v) (sym (code-one a b c low)) (low-scalar a (omega arith))
      | inr from ↦ elim (cases_lt a 0xE0) [
        | inl low ↦ subst (λ v. IsScalar v) (sym (code-two a b c from low)) (low-scalar (code_of_two a b) (omega arith))
        | inr from_e0 ↦ (let whole = text (omega arith) in subst (λ v. IsScalar v) (sym (code-three a b c from_e0)) (elim (cases_lt a 0xF0) [
          | inl low ↦ (in_three bs whole.0 whole.1 from_e0 low).0
          | inr from_f0 ↦ low-scalar (code_of_three a b c) (omega (arith, (parts bs whole.0 whole.1).low))
        ]))
      ]
    ]

pub codes-scalar : (m n k : ℕ) (bs : List ℕ) → IsUtf8 bs → k < n → m + k < length bs → IsScalar (get_or (codes_at n (drop m bs)) k 0)
codes-scalar m n k bs text within inside =
    let offset : ℕ = m + k in
    let byte : get_or (drop offset bs) 0 0 ≡ get_or bs (offset + 0) 0 = get_or-drop offset bs 0 0 in
    let here : offset + 0 ≡ offset = omega arith in
    let same : get_or (drop offset bs) 0 0 ≡ get_or bs offset 0 = byte ∙ ap (λ j. get_or bs j 0) here in
    let is : get_or (codes_at n (drop m bs)) k 0 ≡ code-first (drop offset bs) = codes-at n k (drop m bs) within (omega (arith, length-drop m bs)) ∙ ap code-first (drop-drop k m bs) in
    subst (λ v. IsScalar v) (sym is) (first-scalar (drop offset bs) (λ high. (IsUtf8-drop bs offset text (omega arith, λ less from. omega (arith, same, high)), omega (arith, length-drop offset bs))))

codes-drop : (m n : ℕ) (bs : List ℕ) → codes_at (m + n) bs ≡ codes_at m bs ++ codes_at n (drop m bs)
codes-drop zero n bs = (let none : 0 + n ≡ n = omega arith in ap (λ k. codes_at k bs) none)
codes-drop (suc m) n [] = (let next : suc m + n ≡ suc (m + n) = omega arith in ap (λ k. codes_at k []) next ∙ sym (nothing n))
  where
    nothing : (n : ℕ) → codes_at n [] ≡ []
    nothing zero = refl
    nothing (suc n) = refl
codes-drop (suc m) n (b ∷ bs) = (let next : suc m + n ≡ suc (m + n) = omega arith in ap (λ k. codes_at k (b ∷ bs)) next ∙ ap (λ vs. code_of b (get_or bs 0 0) (get_or bs 1 0) ∷ vs) (codes-drop m n bs))

length-codes_at : (n : ℕ) (bs : List ℕ) → n ≤ length bs → length (codes_at n bs) ≡ n
length-codes_at zero bs within = refl
length-codes_at (suc n) [] within = absurd (omega arith)
length-codes_at (suc n) (b ∷ bs) within = omega (arith, length-codes_at n bs (omega arith))

-- ---- lanes that bits select

compressed-set : (z y x : ℕ) (xs : List ℕ) → z % 2 ≡ 1 → z / 2 ≡ y → compressed_lanes z (x ∷ xs) ≡ x ∷ compressed_lanes y xs
compressed-set z y x xs odd half = ap (λ b. cond (ltb 0 b) (x ∷ compressed_lanes (z / 2) xs) (compressed_lanes (z / 2) xs)) odd ∙ ap (λ n. x ∷ compressed_lanes n xs) half

compressed-clear : (z y x : ℕ) (xs : List ℕ) → z % 2 ≡ 0 → z / 2 ≡ y → compressed_lanes z (x ∷ xs) ≡ compressed_lanes y xs
compressed-clear z y x xs even half = ap (λ b. cond (ltb 0 b) (x ∷ compressed_lanes (z / 2) xs) (compressed_lanes (z / 2) xs)) even ∙ ap (λ n. compressed_lanes n xs) half

compressed-none : (xs : List ℕ) → compressed_lanes 0 xs ≡ []
compressed-none [] = refl
compressed-none (x ∷ xs) = compressed-none xs

-- The lowest bits, and those above them.
low-bit : (z n : ℕ) → (z % 2 ^ (n + 1) % 2 ≡ z % 2) × (z % 2 ^ (n + 1) / 2 ≡ z / 2 % 2 ^ n)
low-bit z n =
    let split : z % 2 ^ (n + 1) ≡ (z / 2 ^ 1 % 2 ^ n) * 2 ^ 1 + z % 2 ^ 1 = mod-pow-add z n 1 in
    let q : ℕ = z / 2 % 2 ^ n in
    let same : z % 2 ^ (n + 1) ≡ q * 2 + z % 2 = split in
    (ap (λ m. m % 2) same ∙ omega arith, ap (λ m. m / 2) same ∙ omega arith)

parity : (z : ℕ) → 0 < z % 2 → z % 2 ≡ 1
parity z some = omega (arith, some)

compressed-low : (xs : List ℕ) (z : ℕ) → compressed_lanes (z % 2 ^ length xs) xs ≡ compressed_lanes z xs
compressed-low [] z = refl
compressed-low (x ∷ xs) z =
    let n = length xs in
    let bit = low-bit z n in
    let next : suc n ≡ n + 1 = omega arith in
    ap (λ m. compressed_lanes (z % 2 ^ m) (x ∷ xs)) next ∙ elim (cases_lt 0 (z % 2)) [
      | inl some ↦ (let one = parity z some in compressed-set (z % 2 ^ (n + 1)) (z / 2 % 2 ^ n) x xs (bit.0 ∙ one) bit.1 ∙ ap (λ ys. x ∷ ys) (compressed-low xs (z / 2)) ∙ sym (compressed-set z (z / 2) x xs one refl))
      | inr none ↦ (let even : z % 2 ≡ 0 = omega arith in compressed-clear (z % 2 ^ (n + 1)) (z / 2 % 2 ^ n) x xs (bit.0 ∙ even) bit.1 ∙ compressed-low xs (z / 2) ∙ sym (compressed-clear z (z / 2) x xs even refl))
    ]

compressed-append : (xs ys : List ℕ) (z : ℕ) → compressed_lanes z (xs ++ ys) ≡ compressed_lanes z xs ++ compressed_lanes (z / 2 ^ length xs) ys
compressed-append [] ys z = (let whole : z ≡ z / 2 ^ 0 = omega arith in ap (λ n. compressed_lanes n ys) whole)
compressed-append (x ∷ xs) ys z =
    let n = length xs in
    let power : 2 * 2 ^ n ≡ 2 ^ suc n = omega arith in
    let beyond : z / 2 / 2 ^ n ≡ z / 2 ^ suc n = div-div-eq-div-mul z 2 (2 ^ n) ∙ ap (λ m. z / m) power in
    let rest = compressed-append xs ys (z / 2) ∙ ap (λ m. compressed_lanes (z / 2) xs ++ compressed_lanes m ys) beyond in
    elim (cases_lt 0 (z % 2)) [
      | inl some ↦ (let one = parity z some in compressed-set z (z / 2) x (xs ++ ys) one refl ∙ ap (λ zs. x ∷ zs) rest ∙ ap (λ zs. zs ++ compressed_lanes (z / 2 ^ suc n) ys) (sym (compressed-set z (z / 2) x xs one refl)))
      | inr none ↦ (let even : z % 2 ≡ 0 = omega arith in compressed-clear z (z / 2) x (xs ++ ys) even refl ∙ rest ∙ ap (λ zs. zs ++ compressed_lanes (z / 2 ^ suc n) ys) (sym (compressed-clear z (z / 2) x xs even refl)))
    ]

-- Compressing sixteen lanes is compressing the first eight, and then the last eight.
compressed-halves : (z : ℕ) (bs : List ℕ) → 16 ≤ length bs → compressed_lanes (z % 256) (codes_at 8 bs) ++ compressed_lanes (z / 256) (codes_at 8 (drop 8 bs)) ≡ compressed_lanes z (codes_at 16 bs)
compressed-halves z bs long =
    let prefix = codes_at 8 bs in
    let back = codes_at 8 (drop 8 bs) in
    let eight : length prefix ≡ 8 = length-codes_at 8 bs (omega arith) in
    let low : compressed_lanes (z % 256) prefix ≡ compressed_lanes z prefix = ap (λ n. compressed_lanes (z % 2 ^ n) prefix) (sym eight) ∙ compressed-low prefix z in
    let both : compressed_lanes z (prefix ++ back) ≡ compressed_lanes z prefix ++ compressed_lanes (z / 256) back = compressed-append prefix back z ∙ ap (λ n. compressed_lanes z prefix ++ compressed_lanes (z / 2 ^ n) back) eight in
    ap (λ vs. vs ++ compressed_lanes (z / 256) back) low ∙ sym both ∙ ap (compressed_lanes z) (sym (codes-drop 8 8 bs))

-- The lanes of the characters that begin before an offset.
compressed-begun : (m n : ℕ) (bs : List ℕ) → n ≤ m → compressed_lanes (lead_bits m bs % 2 ^ n) (codes_at m bs) ≡ begun n bs
compressed-begun m zero bs less = (let none : lead_bits m bs % 2 ^ 0 ≡ 0 = omega arith in ap (λ z. compressed_lanes z (codes_at m bs)) none ∙ compressed-none (codes_at m bs))
compressed-begun zero (suc n) bs less = absurd (omega arith)
compressed-begun (suc m) (suc n) [] less = refl
compressed-begun (suc m) (suc n) (b ∷ bs) less =
    let z = lead_bits (suc m) (b ∷ bs) in
    let y = lead_bits m bs in
    let v = code_of b (get_or bs 0 0) (get_or bs 1 0) in
    let bit = low-bit z n in
    let next : suc n ≡ n + 1 = omega arith in
    let rest = compressed-begun m n bs (omega arith) in
    ap (λ k. compressed_lanes (z % 2 ^ k) (v ∷ codes_at m bs)) next ∙ elim (cases_Bool (begins b)) [
      | inl starts ↦
          (let is : z ≡ 1 + 2 * y = ap (λ x. cond {A = ℕ} x 1 0 + 2 * y) starts in
          let half : z / 2 ≡ y = omega (arith, is) in
          compressed-set (z % 2 ^ (n + 1)) (y % 2 ^ n) v (codes_at m bs) (bit.0 ∙ omega (arith, is)) (bit.1 ∙ ap (λ x. x % 2 ^ n) half) ∙ ap (λ vs. v ∷ vs) rest ∙ sym (begun-char n b v bs starts refl))
      | inr goes_on ↦
          (let is : z ≡ 0 + 2 * y = ap (λ x. cond {A = ℕ} x 1 0 + 2 * y) goes_on in
          let half : z / 2 ≡ y = omega (arith, is) in
          compressed-clear (z % 2 ^ (n + 1)) (y % 2 ^ n) v (codes_at m bs) (bit.0 ∙ omega (arith, is)) (bit.1 ∙ ap (λ x. x % 2 ^ n) half) ∙ rest ∙ sym (begun-skip n b bs goes_on))
    ]

-- ---- sixteen bytes

lead_bits-low : (n : ℕ) (bs : List ℕ) → lead_bits n bs < 2 ^ n
lead_bits-low zero bs = omega arith
lead_bits-low (suc n) [] = (let power : 2 * 2 ^ n ≡ 2 ^ suc n = omega arith in omega (arith, power, lead_bits-low n []))
lead_bits-low (suc n) (b ∷ bs) =
    let power : 2 * 2 ^ n ≡ 2 ^ suc n = omega arith in
    omega (arith, power, lead_bits-low n bs, bit-small (begins b))

pub leads-low : (bs : List ℕ) (leads m : ℕ) → leads ≡ lead_bits 16 bs → leads % m / 256 < 256
leads-low bs leads m is = omega (arith, is, lead_bits-low 16 bs, mod-le leads m)

pub compressed-both : (bs prefix back : List ℕ) (end leads : ℕ) → 16 ≤ length bs → end ≤ 16 → leads ≡ lead_bits 16 bs → prefix ≡ codes_at 8 bs → back ≡ codes_at 8 (take (length bs - 8) (drop 8 bs))
    → compressed_lanes (leads % (1 * 2 ^ end % 2 ^ 64) % 256) prefix ++ compressed_lanes (leads % (1 * 2 ^ end % 2 ^ 64) / 256) back ≡ begun end bs
compressed-both bs prefix back end leads long short are is is_back =
    let few : 2 ^ end ≤ 2 ^ 16 = pow_mono short in
    let power : 1 * 2 ^ end % 2 ^ 64 ≡ 2 ^ end = omega (arith, few) in
    let bits : leads % (1 * 2 ^ end % 2 ^ 64) ≡ lead_bits 16 bs % 2 ^ end = ap (λ m. leads % m) power ∙ ap (λ z. z % 2 ^ end) are in
    ap (λ z. compressed_lanes (z % 256) prefix ++ compressed_lanes (z / 256) back) bits
    ∙ ap (λ vs. compressed_lanes (lead_bits 16 bs % 2 ^ end % 256) vs ++ compressed_lanes (lead_bits 16 bs % 2 ^ end / 256) back) is
    ∙ ap (λ vs. compressed_lanes (lead_bits 16 bs % 2 ^ end % 256) (codes_at 8 bs) ++ compressed_lanes (lead_bits 16 bs % 2 ^ end / 256) vs) (is_back ∙ ap (codes_at 8) (beyond-is bs 8))
    ∙ compressed-halves (lead_bits 16 bs % 2 ^ end) bs long ∙ compressed-begun 16 end bs short

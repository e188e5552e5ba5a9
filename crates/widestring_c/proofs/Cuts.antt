-- Offsets in bytes that do not split a surrogate pair.
use Rattle.std.proofs.Common.{◌≡◌, ℕ, true, false, zero, suc, ◌+◌, ◌-◌, ◌*◌, ◌/◌, ◌%◌, ◌<◌, ◌≤◌, List, [], ◌∷◌, ◌++◌, length, get_or, take, drop, refl, sym, ap, ◌∙◌, subst, arith, length-append, length-drop, length-take-le}
use Rattle.std.proofs.lemmas.List.{get_or-append-add, get_or-drop, get_or-take}
use Rattle.wide_forms.specs.EncodingForm.{Utf16, IsHighSurrogate}
use Rattle.wide_forms.specs.Searches.{is_high}
use Rattle.wide_forms.specs.Laws.Forms.{IsPair-parts}
use Rattle.wide_forms.specs.Laws.Items.{IsCut}
use Rattle.wide_bytes.specs.Bytes.{unit_in, units_in}
use Rattle.wide_transcode.specs.Encoded.{IsIncompleteTail}
use Rattle.wide_bytes.specs.declared.order.BoM.{BoM}
use Rattle.wide_transcode.proofs.Certain.{high-cut, top-of_high}
use Rattle.wide_bytes.proofs.Pairs.{length-units_in}
use Rattle.wide_bytes.proofs.UnitLists.{units_in-take}

-- A unit and its two bytes.
unit-at : (order : BoM) (q : ℕ) (bytes : List ℕ) → 2 * q + 2 ≤ length bytes → get_or (units_in order bytes) q 0 ≡ unit_in order (get_or bytes (2 * q) 0) (get_or bytes (2 * q + 1) 0)
unfolding units_in
unit-at order q [] long = absurd (omega arith)
unit-at order q (a ∷ []) long = absurd (omega arith)
unit-at order zero (a ∷ b ∷ bytes) long = refl
unit-at order (suc q) (a ∷ b ∷ bytes) long =
    let even : 2 * suc q ≡ suc (suc (2 * q)) = omega arith in
    let odd : 2 * suc q + 1 ≡ suc (suc (2 * q + 1)) = omega arith in
    rw (odd, even) (unit-at order q bytes (omega arith))

pub unit-of : (order : BoM) (n : ℕ) (bytes : List ℕ) → n % 2 ≡ 0 → n + 2 ≤ length bytes → get_or (units_in order bytes) (n / 2) 0 ≡ unit_in order (get_or bytes n 0) (get_or bytes (n + 1) 0)
unit-of order n bytes even long =
    let twice : 2 * (n / 2) ≡ n = omega (arith, even) in
    subst (λ m. get_or (units_in order bytes) (n / 2) 0 ≡ unit_in order (get_or bytes m 0) (get_or bytes (m + 1) 0)) twice (unit-at order (n / 2) bytes (omega (arith, twice, long)))

pub high-of : (u : ℕ) → is_high u ≡ true → IsHighSurrogate Utf16 u
high-of u e = (grind (arith, e), grind (arith, e))

-- No pair is split before a high surrogate, whatever follows.
pub cut-before_high : (order : BoM) (bytes : List ℕ) (n u : ℕ) → n % 2 ≡ 0 → n + 2 ≤ length bytes → u ≡ unit_in order (get_or bytes n 0) (get_or bytes (n + 1) 0) → is_high u ≡ true
    → (more : List ℕ) → IsCut Utf16 (units_in order (take n bytes)) (units_in order (drop n bytes ++ more))
cut-before_high order bytes n u even long is high more =
    let twice : 2 * (n / 2) ≡ n = omega (arith, even) in
    let first : get_or (units_in order bytes) (n / 2) 0 / 0x400 ≡ 54 = ap (λ v. v / 0x400) (unit-of order n bytes even long ∙ sym is) ∙ top-of_high u high in
    subst (λ m. IsCut Utf16 (units_in order (take m bytes)) (units_in order (drop m bytes ++ more))) twice (high-cut order bytes (units_in order bytes) (n / 2) refl (omega (arith, twice, long)) first more)

no_high : (u : ℕ) → is_high u ≡ false → 0xD800 ≤ u → u ≤ 0xDBFF → ⊥
no_high u e from to = grind (arith, e, from, to)

-- No pair is split after a unit that is not a high surrogate.
beyond-plain : (us vs : List ℕ) (q : ℕ) → length us ≡ suc q → is_high (get_or us q 0) ≡ false → IsCut Utf16 us vs
beyond-plain us vs q long plain prefix back h l ends begins pair =
    let at : length prefix ≡ q = omega (arith, long, ap length ends, length-append prefix (h ∷ [])) in
    let last : get_or us q 0 ≡ h = ap (λ xs. get_or xs q 0) ends ∙ ap (λ m. get_or (prefix ++ h ∷ []) m 0) (sym at ∙ omega arith) ∙ get_or-append-add prefix (h ∷ []) 0 0 in
    let is : IsHighSurrogate Utf16 h = (IsPair-parts Utf16 h l pair).0 in
    no_high (get_or us q 0) plain (omega (arith, last, is.0)) (omega (arith, last, is.1))

no-units : (vs : List ℕ) → IsCut Utf16 [] vs
no-units vs [] back h l ends begins pair = absurd cc
no-units vs (x ∷ prefix) back h l ends begins pair = absurd cc

pub cut-at_prefix : (order : BoM) (bytes vs : List ℕ) → IsCut Utf16 (units_in order (take 0 bytes)) vs
unfolding units_in
cut-at_prefix order bytes vs = no-units vs

pub cut-after_plain : (order : BoM) (bytes : List ℕ) (n u : ℕ) → n % 2 ≡ 0 → 2 ≤ n → n ≤ length bytes → u ≡ unit_in order (get_or bytes (n - 2) 0) (get_or bytes (n - 1) 0) → is_high u ≡ false
    → (vs : List ℕ) → IsCut Utf16 (units_in order (take n bytes)) vs
cut-after_plain order bytes n u even some within is plain vs =
    let q = n / 2 - 1 in
    let prefix = units_in order (take n bytes) in
    let long : length prefix ≡ suc q = omega (arith, length-units_in order (take n bytes), length-take-le n bytes within) in
    let halves : 2 * (n / 2) ≡ n = omega (arith, even) in
    let taken : prefix ≡ take (n / 2) (units_in order bytes) = ap (λ m. units_in order (take m bytes)) (sym halves) ∙ units_in-take order (n / 2) bytes in
    let at : (n - 2) / 2 ≡ q = omega (arith, even, some) in
    let next : n - 2 + 1 ≡ n - 1 = omega (arith, some) in
    let last : get_or prefix q 0 ≡ u =
    ap (λ xs. get_or xs q 0) taken ∙ get_or-take (n / 2) (units_in order bytes) q 0 (omega (arith, some, even)) ∙ ap (λ m. get_or (units_in order bytes) m 0) (sym at) ∙ unit-of order (n - 2) bytes (omega (arith, even, some)) (omega (arith, some, within))
    ∙ ap (λ m. unit_in order (get_or bytes (n - 2) 0) (get_or bytes m 0)) next ∙ sym is
    in
    beyond-plain prefix vs q long (ap is_high last ∙ plain)

-- ---- what is left after such an offset

cut-short : (order : BoM) (rest : List ℕ) → length rest < 4 → (2 ≤ length rest → IsHighSurrogate Utf16 (unit_in order (get_or rest 0 0) (get_or rest 1 0))) → IsIncompleteTail order rest
cut-short order [] short high = tt
cut-short order (a ∷ []) short high = tt
cut-short order (a ∷ b ∷ []) short high = high (omega arith)
cut-short order (a ∷ b ∷ c ∷ []) short high = high (omega arith)
cut-short order (a ∷ b ∷ c ∷ d ∷ rest) short high = absurd (omega arith)

pub cut-short_after : (order : BoM) (bytes : List ℕ) (n : ℕ) → n ≤ length bytes → length bytes < n + 4 → (n + 2 ≤ length bytes → IsHighSurrogate Utf16 (unit_in order (get_or bytes n 0) (get_or bytes (n + 1) 0)))
    → IsIncompleteTail order (drop n bytes)
cut-short_after order bytes n within short high =
    let long = length-drop n bytes in
    let first : get_or bytes n 0 ≡ get_or (drop n bytes) 0 0 = ap (λ m. get_or bytes m 0) (omega arith) ∙ sym (get_or-drop n bytes 0 0) in
    let second : get_or bytes (n + 1) 0 ≡ get_or (drop n bytes) 1 0 = sym (get_or-drop n bytes 1 0) in
    cut-short order (drop n bytes) (omega (arith, long, short, within)) (λ some. subst (λ b. IsHighSurrogate Utf16 (unit_in order (get_or (drop n bytes) 0 0) b)) second (subst (λ a. IsHighSurrogate Utf16 (unit_in order a (get_or bytes (n + 1) 0))) first (high (omega (arith, some, long)))))

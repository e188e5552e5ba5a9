-- Blocks of units in surrogate pairs.
use Rattle.std.proofs.Common.{◌≡◌, ℕ, suc, zero, ◌+◌, ◌^◌, ◌<◌, ◌≤◌, ◌⊎◌, Bool, true, false, List, ◌∷◌, inl, inr, refl, sym, ◌∙◌, ap, arith, length, get_or, take, drop, drop-cons, get_or-take, get_or-drop, length-drop, length-take, subst, w16, Fits}
use Rattle.std.specs.Simd.Lanes.{mask_l}
use Rattle.std.specs.Prelude.{map}
use Rattle.wide_forms.specs.EncodingForm.{Utf16, IsFault}
use Rattle.wide_forms.specs.Items.{BeginsWithChars}
use Rattle.wide_forms.specs.Searches.{is_high, is_low}
use Rattle.wide_forms.specs.Laws.Forms.{unit-cases, surrogate-of_fault, IsHigh, IsLow, pair16}
use Rattle.wide_forms.specs.Laws.Ends.{items-first_char, items-first_pair}
use Rattle.wide_unit.proofs.Prefixes.{chars-none, chars-more}
use Rattle.wide_unit.proofs.Masks.{same_lanes}

bool-cases : (b : Bool) → (b ≡ true) ⊎ (b ≡ false)
bool-cases true = inl refl
bool-cases false = inr refl

high-is : (u : ℕ) → is_high u ≡ true → IsHigh u
high-is u e = record { from = grind (arith, e); to = grind (arith, e) }

low-is : (u : ℕ) → is_low u ≡ true → IsLow u
low-is u e = record { from = grind (arith, e); to = grind (arith, e) }

high-not_low : (u : ℕ) → is_low u ≡ true → is_high u ≡ false
high-not_low u e = grind (arith, e)

neither : (u : ℕ) → 0xD800 ≤ u → u ≤ 0xDFFF → is_high u ≡ false → is_low u ≡ false → ⊥
neither u from to a b = grind (arith, from, to, a, b)

alone : (u : ℕ) → u < 2 ^ 16 → is_high u ≡ false → is_low u ≡ false → ¬ (IsFault Utf16 u)
alone u below a b fault = let at = surrogate-of_fault u below fault in neither u at.0 at.1 a b

-- The units before the index belong to characters.
abbrev pub TextTo : List ℕ → ℕ → Type 0
TextTo us n = BeginsWithChars Utf16 us (drop n us)

-- The units before the index belong to characters, or they do with the low surrogate at the index.
abbrev pub PairsTo : List ℕ → ℕ → Type 0
PairsTo us n = ((is_low (get_or us n 0) ≡ false) × TextTo us n) ⊎ ((is_low (get_or us n 0) ≡ true) × TextTo us (suc n))

pub pairs-none : (us : List ℕ) → is_low (get_or us 0 0) ≡ false → PairsTo us 0
pairs-none us first = inl (first, chars-none Utf16 us)

module _ (us : List ℕ) (fits : (k : ℕ) → Fits w16 (get_or us k 0)) where
  abbrev Text : ℕ → Type 0
  Text = TextTo us

  abbrev UpTo : ℕ → Type 0
  UpTo = PairsTo us

  text-one : (n : ℕ) → n < length us → Text n → is_high (get_or us n 0) ≡ false → is_low (get_or us n 0) ≡ false → Text (suc n)
  text-one n within so_far a b = elim (unit-cases Utf16 (get_or us n 0)) [
    | inl one ↦ chars-more Utf16 us (drop n us) (drop (suc n) us) one.0 so_far (items-first_char Utf16 (drop n us) (drop (suc n) us) (get_or us n 0) one.0 (drop-cons us n 0 within) one.1 one.2)
    | inr fault ↦ absurd (alone (get_or us n 0) ((fits n).fits) a b fault)
  ]

  text-two : (n : ℕ) → suc n < length us → Text n → is_high (get_or us n 0) ≡ true → is_low (get_or us (suc n) 0) ≡ true → Text (suc (suc n))
  text-two n within so_far a b =
      let pair = pair16 (get_or us n 0) (get_or us (suc n) 0) (high-is _ a) (low-is _ b) in
      chars-more Utf16 us (drop n us) (drop (suc (suc n)) us) pair.0 so_far
      (items-first_pair Utf16 (drop n us) (drop (suc (suc n)) us) (get_or us n 0) (get_or us (suc n) 0) pair.0 (drop-cons us n 0 (omega arith) ∙ ap (λ xs. get_or us n 0 ∷ xs) (drop-cons us (suc n) 0 within)) pair.1 pair.2)

  more : (n : ℕ) → suc n < length us → is_high (get_or us n 0) ≡ is_low (get_or us (suc n) 0) → UpTo n → UpTo (suc n)
  more n within same (inl at) = elim (bool-cases (is_high (get_or us n 0))) [
    | inl high ↦ inr (sym same ∙ high, text-two n within at.1 high (sym same ∙ high))
    | inr none ↦ inl (sym same ∙ none, text-one n (omega arith) at.1 none at.0)
  ]
  more n within same (inr at) = inl (sym same ∙ high-not_low (get_or us n 0) at.0, at.1)

  steps : (m j : ℕ) → m + j < length us → ((k : ℕ) → k < j → is_high (get_or us (m + k) 0) ≡ is_low (get_or us (suc (m + k)) 0)) → UpTo m → UpTo (m + j)
  steps m zero within same up = let e : m ≡ m + 0 = omega arith in subst UpTo e up
  steps m (suc j) within same up =
      let e : suc (m + j) ≡ m + suc j = omega arith in
      subst UpTo e (more (m + j) (omega arith) (same j (omega arith)) (steps m j (omega arith) (λ k l. same k (omega arith)) up))

  -- If the mask of the high surrogates of a block equals that of the low ones of the block one unit later, the
  -- surrogates are paired.
  pub paired : (m i j : ℕ) → i ≡ 16 → j ≡ 16 → m + 17 ≤ length us → mask_l (map is_high (take i (drop m us))) ≡ mask_l (map is_low (take j (drop (m + 1) us)))
      → (k : ℕ) → k < 16 → is_high (get_or us (m + k) 0) ≡ is_low (get_or us (suc (m + k)) 0)
  paired m i j ei ej space e k l =
      let a : length (take i (drop m us)) ≡ 16 = simp (length-take, length-drop) (omega arith) in
      let b : length (take j (drop (m + 1) us)) ≡ 16 = simp (length-take, length-drop) (omega arith) in
      let h = same_lanes is_high is_low (take i (drop m us)) (take j (drop (m + 1) us)) (a ∙ sym b) e k (omega (arith, a, l)) in
      let left : get_or (take i (drop m us)) k 0 ≡ get_or us (m + k) 0 = get_or-take i (drop m us) k 0 (omega arith) ∙ get_or-drop m us k 0 in
      let next : m + 1 + k ≡ suc (m + k) = omega arith in
      let right : get_or (take j (drop (m + 1) us)) k 0 ≡ get_or us (suc (m + k)) 0 = get_or-take j (drop (m + 1) us) k 0 (omega arith) ∙ get_or-drop (m + 1) us k 0 ∙ ap (λ n. get_or us n 0) next in
      sym (ap is_high left) ∙ h ∙ ap is_low right

  pub block : (m : ℕ) → m + 17 ≤ length us → ((k : ℕ) → k < 16 → is_high (get_or us (m + k) 0) ≡ is_low (get_or us (suc (m + k)) 0)) → UpTo m → UpTo (m + 16)
  block m space same so_far = steps m 16 (omega arith) same so_far

  pub even : (m : ℕ) → UpTo m → is_low (get_or us m 0) ≡ false → Text m
  even m (inl at) e = at.1
  even m (inr at) e = let f : true ≡ false = sym at.0 ∙ e in absurd cc

  pub odd : (m : ℕ) → UpTo m → is_low (get_or us m 0) ≡ true → Text (m + 1)
  odd m (inl at) e = let f : true ≡ false = sym e ∙ at.0 in absurd cc
  odd m (inr at) e = let n : suc m ≡ m + 1 = omega arith in subst Text n at.1

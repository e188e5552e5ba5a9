-- Units that encode a character each.
use Rattle.std.proofs.Common.{◌≡◌, ◌≢◌, ℕ, suc, zero, ◌^◌, ◌<◌, ◌≤◌, Bool, true, false, List, [], ◌∷◌, ◌++◌, inl, inr, refl, sym, ◌∙◌, ap, arith, ◌-◌, length, get_or, take, drop, length-drop, length-take, append_assoc, subst, w16, Fits}
use Rattle.std.specs.Prelude.{map, not}
use Rattle.std.specs.Char.{IsScalar}
use Rattle.std.specs.List.{All}
use Rattle.std.proofs.lemmas.List.{map-id, map-append, drop-map, take_all, length-map}
use Rattle.std.proofs.lemmas.List.Sums.{prefix_len_is}
use Rattle.wide_forms.specs.EncodingForm.{EncodingForm, Utf16, Utf32, IsFault}
use Rattle.wide_forms.specs.Segmentation.{Char}
use Rattle.wide_forms.specs.Items.{items, BeginsWithChars}
use Rattle.wide_forms.specs.Searches.{IsFirstOffset, first_offset, is_surrogate, is_no_scalar, is_unit}
use Rattle.wide_forms.specs.Laws.Forms.{unit-cases, IsFault-surrogate, surrogate-of_fault, IsFault-no_scalar, no_scalar-of_fault}
use Rattle.wide_forms.specs.Laws.Ends.{items-first_char}
use Rattle.wide_unit.proofs.Masks.{NoneBefore, none_to_offset, offset_here, offset_in}

-- ---- the index of the first unit of a kind

pub kind-offset : (p : ℕ → Bool) (Kind : ℕ → Type 0) (us : List ℕ) (r : ℕ)
    → ((u k : ℕ) → u ≡ get_or us k 0 → p u ≡ true → Kind u) → ((u k : ℕ) → u ≡ get_or us k 0 → p u ≡ false → ¬ (Kind u)) → r ≡ first_offset p us → IsFirstOffset Kind (map (λ (u : ℕ). u) us) r
kind-offset p Kind us r yes_kind no_kind e =
    subst (λ vs. IsFirstOffset Kind vs r) (sym (map-id us)) (subst (λ n. IsFirstOffset Kind us n) (sym e) (record {
      within = offset_in p us;
      before = λ k l. no_kind (get_or us k 0) k refl (none_to_offset p us k l);
      here = λ l. yes_kind (get_or us (first_offset p us) 0) (first_offset p us) refl (offset_here p us l);
    }))

surrogate-yes : (u : ℕ) → is_surrogate u ≡ true → IsFault Utf16 u
surrogate-yes u e = IsFault-surrogate u (grind (arith, e)) (grind (arith, e))

surrogate-not : (u : ℕ) → u < 2 ^ 16 → is_surrogate u ≡ false → ¬ (IsFault Utf16 u)
surrogate-not u l e fault = let at = surrogate-of_fault u l fault in grind (arith, e, at.0, at.1)

pub surrogate-offset : (us : List ℕ) (r : ℕ) → ((k : ℕ) → Fits w16 (get_or us k 0)) → r ≡ first_offset is_surrogate us → IsFirstOffset (IsFault Utf16) (map (λ (u : ℕ). u) us) r
surrogate-offset us r fits e = kind-offset is_surrogate (IsFault Utf16) us r (λ u k is t. surrogate-yes u t) (λ u k is t. surrogate-not u (rw is ((fits k).fits)) t) e

no_scalar-yes : (u : ℕ) → is_no_scalar u ≡ true → ¬ (IsScalar u)
no_scalar-yes u e scalar = grind (arith, e, scalar)

no_scalar-not : (u : ℕ) → is_no_scalar u ≡ false → IsScalar u
no_scalar-not u e = grind (arith, e)

pub no_scalar-offset : (us : List ℕ) (r : ℕ) → r ≡ first_offset is_no_scalar us → IsFirstOffset (IsFault Utf32) (map (λ (u : ℕ). u) us) r
no_scalar-offset us r e = kind-offset is_no_scalar (IsFault Utf32) us r (λ u k is t. IsFault-no_scalar u (no_scalar-yes u t)) (λ u k is t fault. no_scalar-of_fault u fault (no_scalar-not u t)) e

-- ---- the index of the first unit of a number

is_unit-not : (v u : ℕ) → is_unit v u ≡ false → ¬ (u ≡ v)
is_unit-not v u e same = grind (arith, e, same)

past-unit : (u code : ℕ) → u < code → not (is_unit code u) ≡ true
past-unit u code l = grind (arith, l)

module _ {X : Type 0} (number : X → ℕ) (v : ℕ) where
  none-at : (n : ℕ) (xs : List X) → NoneBefore (is_unit v) (map number xs) n → n ≤ length xs → (k : ℕ) (d : X) → k < n → number (get_or (take n xs) k d) ≢ v
  none-at zero xs none within k d l = absurd (omega arith)
  none-at (suc n) [] none within k d l = absurd (omega arith)
  none-at (suc n) (x ∷ xs) none within zero d l = is_unit-not v (number x) (none 0 (omega arith))
  none-at (suc n) (x ∷ xs) none within (suc k) d l = none-at n xs (λ j m. none (suc j) (omega arith)) (omega arith) k d (omega arith)

  none-prefix : (n : ℕ) (xs : List X) → NoneBefore (is_unit v) (map number xs) n → n ≤ length xs → All (λ x. number x ≢ v) (take n xs)
  none-prefix n xs none within = λ k d l. none-at n xs none within k d (omega (arith, l, length-take n xs))

  module _ (xs : List X) (offset : ℕ) (e : offset ≡ first_offset (is_unit v) (map number xs)) where
    within : offset ≤ length xs
    within = omega (arith, e, offset_in (is_unit v) (map number xs), length-map xs number)

    pub unit-not_before : All (λ x. number x ≢ v) (take offset xs)
    unit-not_before = none-prefix offset xs (λ k l. none_to_offset (is_unit v) (map number xs) k (omega (arith, e, l))) within

    pub unit-nowhere : length xs ≤ offset → All (λ x. number x ≢ v) xs
    unit-nowhere all = subst (All (λ x. number x ≢ v)) (take_all offset xs all) unit-not_before

    pub unit-here : offset < length xs → get_or (map number xs) offset 0 ≡ v
    unit-here below =
        let here : is_unit v (get_or (map number xs) (first_offset (is_unit v) (map number xs)) 0) ≡ true = offset_here (is_unit v) (map number xs) (omega (arith, e, below, length-map xs number)) in
        let same : get_or (map number xs) (first_offset (is_unit v) (map number xs)) 0 ≡ v = grind (arith, here) in
        subst (λ n. get_or (map number xs) n 0 ≡ v) (sym e) same

-- No 16-bit unit is greater than FFFF.
pub past_units : (us : List ℕ) (code : ℕ) → ((k : ℕ) → Fits w16 (get_or us k 0)) → 0xffff < code → length us ≡ first_offset (is_unit code) (map (λ (u : ℕ). u) us)
past_units us code fits above =
    let none : (k : ℕ) → k < length us → not (is_unit code (get_or us k 0)) ≡ true = λ k l. past-unit (get_or us k 0) code (omega (arith, (fits k).fits, above)) in
    sym (ap (λ xs. first_offset (is_unit code) xs) (map-id us) ∙ prefix_len_is (λ u. not (is_unit code u)) us (length us) 0 (omega arith) none (λ l. absurd (omega (arith, l))))

-- ---- the items of a list that begins with such units

pub chars-alone : (form : EncodingForm) (n : ℕ) (us : List ℕ) → n ≤ length us → ((k : ℕ) → k < n → ¬ (IsFault form (get_or us k 0))) → BeginsWithChars form us (drop n us)
chars-alone form zero us within none = ([], refl)
chars-alone form (suc n) [] within none = absurd (omega arith)
chars-alone form (suc n) (u ∷ us) within none = elim (unit-cases form u) [
  | inl one ↦ (let rest = chars-alone form n us (omega arith) (λ k l. none (suc k) (omega arith)) in
      (one.0 ∷ rest.0, items-first_char form (u ∷ us) us u one.0 refl one.1 one.2 ∙ ap (λ is. Char one.0 ∷ is) rest.1))
  | inr fault ↦ absurd (none 0 (omega arith) fault)
]

pub chars-then : (form : EncodingForm) (us rest tail : List ℕ) → BeginsWithChars form us rest → BeginsWithChars form rest tail → BeginsWithChars form us tail
chars-then form us rest tail a b =
    (a.0 ++ b.0, a.1 ∙ ap (λ is. map Char a.0 ++ is) b.1 ∙ sym (append_assoc (map Char a.0) (map Char b.0) (items form tail)) ∙ ap (λ is. is ++ items form tail) (sym (map-append Char a.0 b.0)))

-- What a slice from an index on leaves.
pub beyond-alone : {X : Type 0} (form : EncodingForm) (number : X → ℕ) (xs : List X) (r n : ℕ) → IsFirstOffset (IsFault form) (map number xs) r → n ≡ length xs - r → BeginsWithChars form (map number xs) (map number (take n (drop r xs)))
beyond-alone form number xs r n offset all =
    let whole : take n (drop r xs) ≡ drop r xs = take_all n (drop r xs) (omega (arith, length-drop r xs, all)) in
    subst (λ ys. BeginsWithChars form (map number xs) ys) (drop-map number r xs ∙ ap (λ ys. map number ys) (sym whole)) (chars-alone form r (map number xs) offset.within offset.before)

pub same-begin : (us vs : List ℕ) → BeginsWithChars Utf16 us vs → BeginsWithChars Utf16 (map (λ (u : ℕ). u) us) (map (λ (u : ℕ). u) vs)
same-begin us vs b = subst (λ xs. BeginsWithChars Utf16 xs (map (λ (u : ℕ). u) vs)) (sym (map-id us)) (subst (λ xs. BeginsWithChars Utf16 us xs) (sym (map-id vs)) b)

pub beyond : {X : Type 0} (form : EncodingForm) (number : X → ℕ) (xs : List X) (r n : ℕ) → n ≡ length xs - r → BeginsWithChars form (map number xs) (map number (drop r xs)) → BeginsWithChars form (map number xs) (map number (take n (drop r xs)))
beyond form number xs r n all b =
    let whole : take n (drop r xs) ≡ drop r xs = take_all n (drop r xs) (omega (arith, length-drop r xs, all)) in
    subst (λ ys. BeginsWithChars form (map number xs) (map number ys)) (sym whole) b

pub chars-then-two : (form : EncodingForm) (us a b c : List ℕ) → BeginsWithChars form us a → BeginsWithChars form a b → BeginsWithChars form b c → BeginsWithChars form us c
chars-then-two form us a b c p q r = chars-then form us b c (chars-then form us a b p q) r

-- Whether units of UTF-16 end in a fault, by the last unit and the one before it.
use Rattle.std.proofs.Common.{◌≡◌, ◌≢◌, ℕ, zero, suc, ◌-◌, ◌<◌, ◌≤◌, ◌⊎◌, ◌^◌, inl, inr, Bool, true, false, List, [], ◌∷◌, ◌++◌, length, get_or, take, refl, sym, ap, ◌∙◌, arith, append_assoc}
use Rattle.std.proofs.Math.Seq.{take-suc}
use Rattle.std.proofs.lemmas.Bool.{cases_lt, false≢true}
use Rattle.std.proofs.lemmas.List.{take_all}
use Rattle.wide_forms.specs.EncodingForm.{Utf16, IsHighSurrogate, IsLowSurrogate}
use Rattle.wide_forms.specs.Segmentation.{Item, Char, Fault}
use Rattle.wide_forms.specs.Items.{items}
use Rattle.wide_forms.specs.Lossy.{ends_in_fault}
use Rattle.wide_forms.specs.Searches.{is_high, is_low, is_surrogate}
use Rattle.wide_forms.specs.Laws.Forms.{pair16, unit-cases, surrogate-of_fault}
use Rattle.wide_forms.specs.Laws.Ends.{items-back_char, items-back_high, items-back_low}
use Rattle.wide_forms.specs.Laws.Items.{items-nil}
use Rattle.wide_forms.specs.Laws.Policies.{ends_in_fault-append}

-- ---- the last element of a list

last-of : (xs ys prefix : List ℕ) (h : ℕ) → ys ≢ [] → xs ++ ys ≡ prefix ++ h ∷ [] → (rest : List ℕ) × (ys ≡ rest ++ h ∷ [])
last-of [] ys prefix h some e = (prefix, e)
last-of (x ∷ xs) [] prefix h some e = absurd (some refl)
last-of (x ∷ []) (y ∷ ys) [] h some e = absurd cc
last-of (x ∷ z ∷ xs) (y ∷ ys) [] h some e = absurd cc
last-of (x ∷ xs) (y ∷ ys) (z ∷ prefix) h some e = let rest : xs ++ y ∷ ys ≡ prefix ++ h ∷ [] = cc in last-of xs (y ∷ ys) prefix h some rest

only : (u h : ℕ) (prefix : List ℕ) → u ∷ [] ≡ prefix ++ h ∷ [] → u ≡ h
only u h [] e = cc
only u h (x ∷ []) e = absurd cc
only u h (x ∷ y ∷ prefix) e = absurd cc

-- ---- the last item

last : (after : Bool) (us prefix : List ℕ) (i : Item) → items Utf16 us ≡ items Utf16 prefix ++ i ∷ [] → ends_in_fault after (items Utf16 us) ≡ ends_in_fault (ends_in_fault after (items Utf16 prefix)) (i ∷ [])
last after us prefix i e = ap (λ is. ends_in_fault after is) e ∙ ends_in_fault-append after (items Utf16 prefix) (i ∷ [])

-- A unit is a surrogate if its test says so, or by its upper bits.
is-high : (u : ℕ) → is_high u ≡ true → IsHighSurrogate Utf16 u
is-high u e = (grind (arith, e), grind (arith, e))

is-low : (u : ℕ) → is_low u ≡ true → IsLowSurrogate Utf16 u
is-low u e = (grind (arith, e), grind (arith, e))

last-ready : (us : List ℕ) (r : ℕ) → r ≤ length us → (prefix : List ℕ) (h : ℕ) → take r us ≡ prefix ++ h ∷ [] → (0 < r) × (get_or us (r - 1) 0 ≡ h)
last-ready us zero within [] h e = absurd cc
last-ready us zero within (x ∷ prefix) h e = absurd cc
last-ready us (suc q) within prefix h e =
    let rest = last-of (take q us) (get_or us q 0 ∷ []) prefix h (λ none. absurd cc) (sym (take-suc us q 0 (omega arith)) ∙ e) in
    let before : suc q - 1 ≡ q = omega arith in
    (omega arith, ap (λ m. get_or us m 0) before ∙ only (get_or us q 0) h rest.0 rest.1)

pub ends-empty : (after : Bool) (us : List ℕ) → length us ≡ 0 → after ≡ ends_in_fault after (items Utf16 us)
ends-empty after [] e = ap (λ is. ends_in_fault after is) (sym (items-nil Utf16))
ends-empty after (u ∷ us) e = absurd cc

module _ (after : Bool) (us : List ℕ) (q : ℕ) (long : length us ≡ suc q) where
  abbrev pub unit : ℕ
  unit = get_or us q 0

  split : us ≡ take q us ++ unit ∷ []
  split = sym (take_all (length us) us (omega arith)) ∙ ap (λ k. take k us) long ∙ take-suc us q 0 (omega arith)

  ends-in : (prefix : List ℕ) (i : Item) → items Utf16 (take q us ++ unit ∷ []) ≡ items Utf16 prefix ++ i ∷ [] → ends_in_fault after (items Utf16 us) ≡ ends_in_fault (ends_in_fault after (items Utf16 prefix)) (i ∷ [])
  ends-in prefix i e = last after us prefix i (ap (λ xs. items Utf16 xs) split ∙ e)

  ends-high : is_high unit ≡ true → true ≡ ends_in_fault after (items Utf16 us)
  ends-high high = sym (ends-in (take q us) (Fault unit) (items-back_high Utf16 (take q us) unit (is-high unit high)))

  ends-low : is_low unit ≡ true → (0 < q → is_high (get_or us (q - 1) 0) ≡ false) → true ≡ ends_in_fault after (items Utf16 us)
  ends-low low apart =
      sym (ends-in (take q us) (Fault unit) (items-back_low Utf16 (take q us) unit (is-low unit low) (λ prefix h ends high. (
      let at = last-ready us q (omega arith) prefix h ends in
      let none = apart at.0 in
      grind (arith, none, at.1, high.0, high.1)
      ))))

  ends-plain : unit < 2 ^ 16 → is_surrogate unit ≡ false → false ≡ ends_in_fault after (items Utf16 us)
  ends-plain below plain = elim (unit-cases Utf16 unit) [
    | inl one ↦ sym (ends-in (take q us) (Char one.0) (ap (λ xs. items Utf16 (take q us ++ xs)) (sym one.2) ∙ items-back_char Utf16 (take q us) one.0 one.1))
    | inr fault ↦ (let at = surrogate-of_fault unit below fault in absurd (grind (arith, plain, at.0, at.1)))
  ]

  kinds : (is_high unit ≡ true) ⊎ ((is_low unit ≡ true) ⊎ (is_surrogate unit ≡ false))
  kinds = elim (cases_lt unit 0xD800) [
    | inl below ↦ inr (inr (grind (arith, below)))
    | inr from ↦ elim (cases_lt unit 0xDC00) [
      | inl high ↦ inl (grind (arith, from, high))
      | inr low ↦ elim (cases_lt unit 0xE000) [ inl surrogate ↦ inr (inl (grind (arith, low, surrogate))) | inr past ↦ inr (inr (grind (arith, past))) ]
    ]
  ]

  -- The last unit is a fault exactly if it is a surrogate, provided that it is not the second of a pair.
  pub ends-alone : unit < 2 ^ 16 → (0 < q → (is_high (get_or us (q - 1) 0) ≡ false) ⊎ (is_low unit ≡ false)) → is_surrogate unit ≡ ends_in_fault after (items Utf16 us)
  ends-alone below apart = elim kinds [
    | inl high ↦ (let is : is_surrogate unit ≡ true = grind (arith, high) in is ∙ ends-high high)
    | inr (inl low) ↦ (let is : is_surrogate unit ≡ true = grind (arith, low) in is ∙ ends-low low (λ some. elim (apart some) [ inl none ↦ none | inr plain ↦ absurd (false≢true (sym plain ∙ low)) ]))
    | inr (inr plain) ↦ plain ∙ ends-plain below plain
  ]

  -- The last unit is no fault if it is the second of a pair.
  pub ends-pair : 0 < q → is_high (get_or us (q - 1) 0) ≡ true → is_low unit ≡ true → false ≡ ends_in_fault after (items Utf16 us)
  ends-pair some high low =
      let n : ℕ = q - 1 in
      let h : ℕ = get_or us n 0 in
      let next : q ≡ suc n = omega arith in
      let begin : take q us ≡ take n us ++ h ∷ [] = ap (λ k. take k us) next ∙ take-suc us n 0 (omega arith) in
      let first = is-high h high in
      let second = is-low unit low in
      let pair = pair16 h unit (record { from = first.0; to = omega (arith, first.1) }) (record { from = second.0; to = omega (arith, second.1) }) in
      let both : take q us ++ unit ∷ [] ≡ take n us ++ h ∷ unit ∷ [] = ap (λ xs. xs ++ unit ∷ []) begin ∙ append_assoc (take n us) (h ∷ []) (unit ∷ []) in
      sym (ends-in (take n us) (Char pair.0) (ap (λ xs. items Utf16 xs) (both ∙ ap (λ xs. take n us ++ xs) (sym pair.2)) ∙ items-back_char Utf16 (take n us) pair.0 pair.1))

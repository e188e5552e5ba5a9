-- The units of a chunk that can be encoded whatever follows, and their lossy text.
use Rattle.std.proofs.Common.{◌≡◌, ℕ, zero, suc, ◌+◌, ◌-◌, ◌*◌, ◌/◌, ◌%◌, ◌<◌, ◌≤◌, ◌⊎◌, inl, inr, Bool, true, false, List, [], ◌∷◌, ◌++◌, Option, Some, None, length, get_or, take, drop, refl, sym, ap, ◌∙◌, subst, arith, length-drop, length-take-le, drop-cons}
use Rattle.std.proofs.Math.Seq.{take-suc}
use Rattle.std.proofs.lemmas.List.Elements.{All-nil, All-cons}
use Rattle.std.specs.Prelude.{nat_eq, IfNone, IfSome, unwrap_or}
use Rattle.std.specs.List.{ends_with}
use Rattle.wide_forms.specs.EncodingForm.{Utf16, encode, IsHighSurrogate, IsLowSurrogate}
use Rattle.std.specs.Char.{IsScalar}
use Rattle.std.specs.List.{All}
use Rattle.wide_forms.specs.Segmentation.{Item, Char, Fault}
use Rattle.wide_forms.specs.Items.{items, chars, IsWellFormed}
use Rattle.wide_forms.specs.Lossy.{lossy_after, replacement}
use Rattle.wide_forms.specs.Searches.{is_high, is_low}
use Rattle.wide_forms.specs.Utf8.{utf8}
use Rattle.wide_forms.specs.Laws.Forms.{IsPair-parts, high-no_low}
use Rattle.wide_forms.specs.Laws.Chains.{Chain}
use Rattle.wide_forms.specs.Laws.Items.{IsCut, chars-of_well_formed, items-chain}
use Rattle.wide_forms.specs.Laws.Offsets.{IsWellFormed-encode, chars-encode}
use Rattle.wide_forms.specs.Laws.Policies.{lossy_after-char, lossy_after-chars, lossy_after-dropped, lossy_after-none_left, lossy_after-replaced, replacement-is}
use Rattle.wide_forms.specs.declared.policy.Policy.{Policy}
use Rattle.wide_bytes.specs.Bytes.{unit_in, units_in}
use Rattle.wide_transcode.specs.Encoded.{IsPending}
use Rattle.wide_transcode.specs.Lossied.{Lossied, units_end_in_fault, lossy_text}
use Rattle.wide_bytes.specs.declared.order.BoM.{BoM}
use Rattle.wide_transcode.proofs.Pending.{ZeroAfter, zero-unit}
use Rattle.wide_transcode.proofs.Lossied.{first-unit, last-of, only, block-no_zero}
use Rattle.wide_bytes.proofs.Pairs.{length-units_in}
use Rattle.wide_bytes.proofs.UnitLists.{units_in-take, units_in-drop}

-- A unit is a surrogate if its test says so, or by its upper bits.
is-high : (u : ℕ) → is_high u ≡ true → IsHighSurrogate Utf16 u
is-high u e = (grind (arith, e), grind (arith, e))

is-low : (u : ℕ) → is_low u ≡ true → IsLowSurrogate Utf16 u
is-low u e = (grind (arith, e), grind (arith, e))

high-by_top : (u : ℕ) → u / 0x400 ≡ 54 → IsHighSurrogate Utf16 u
high-by_top u e = (omega arith, omega arith)

pub top-of_high : (u : ℕ) → is_high u ≡ true → u / 0x400 ≡ 54
top-of_high u e = (let high = is-high u e in omega (arith, high.0, high.1))

last-ready : (us : List ℕ) (r : ℕ) → r ≤ length us → (prefix : List ℕ) (h : ℕ) → take r us ≡ prefix ++ h ∷ [] → (0 < r) × (get_or us (r - 1) 0 ≡ h)
last-ready us zero within [] h e = absurd cc
last-ready us zero within (x ∷ prefix) h e = absurd cc
last-ready us (suc q) within prefix h e =
    let rest = last-of (take q us) (get_or us q 0 ∷ []) prefix h (λ none. absurd cc) (sym (take-suc us q 0 (omega arith)) ∙ e) in
    let before : suc q - 1 ≡ q = omega arith in
    (omega arith, ap (λ m. get_or us m 0) before ∙ only (get_or us q 0) h rest.0 rest.1)

-- ---- a high surrogate is left

pending-high : (order : BoM) (rest tail : List ℕ) (u : ℕ) → length rest < 4 → units_in order rest ≡ u ∷ tail → IsHighSurrogate Utf16 u → IsPending order rest
pending-high order [] tail u short e high = tt
pending-high order (a ∷ []) tail u short e high = tt
pending-high order (a ∷ b ∷ []) tail u short e high = inl (subst (λ v. IsHighSurrogate Utf16 v) (sym (first-unit order a b u [] tail e).0) high)
pending-high order (a ∷ b ∷ c ∷ []) tail u short e high = subst (λ v. IsHighSurrogate Utf16 v) (sym (first-unit order a b u (c ∷ []) tail e).0) high
pending-high order (a ∷ b ∷ c ∷ d ∷ rest) tail u short e high = absurd (omega arith)

-- What follows some bytes does not change their first unit.
same-first : (order : BoM) (rest more tail back : List ℕ) (u l : ℕ) → 2 ≤ length rest → units_in order rest ≡ u ∷ tail → units_in order (rest ++ more) ≡ l ∷ back → u ≡ l
same-first order [] more tail back u l long e f = absurd (omega arith)
same-first order (a ∷ []) more tail back u l long e f = absurd (omega arith)
same-first order (a ∷ b ∷ rest) more tail back u l long e f = sym (first-unit order a b u rest tail e).0 ∙ (first-unit order a b l (rest ++ more) back f).0

-- No pair is split before a unit that is no low surrogate.
cut-before : (order : BoM) (passed rest more tail : List ℕ) (u : ℕ) → 2 ≤ length rest → units_in order rest ≡ u ∷ tail → ¬ (IsLowSurrogate Utf16 u) → IsCut Utf16 passed (units_in order (rest ++ more))
cut-before order passed rest more tail u long e not_low prefix back h l ends begins pair =
    not_low (subst (λ v. IsLowSurrogate Utf16 v) (sym (same-first order rest more tail back u l long e begins)) (IsPair-parts Utf16 h l pair).1)

module _ (order : BoM) (bytes us : List ℕ) (q : ℕ) (same : us ≡ units_in order bytes) (long : 2 * q + 2 ≤ length bytes) (high : get_or us q 0 / 0x400 ≡ 54) where
  first : units_in order (drop (2 * q) bytes) ≡ get_or us q 0 ∷ drop (suc q) us
  first = units_in-drop order q bytes ∙ ap (λ xs. drop q xs) (sym same) ∙ drop-cons us q 0 (omega (arith, ap length same, length-units_in order bytes))

  pub high-pending : length bytes < 2 * q + 4 → IsPending order (drop (2 * q) bytes)
  high-pending short = pending-high order (drop (2 * q) bytes) (drop (suc q) us) (get_or us q 0) (omega (arith, length-drop (2 * q) bytes)) first (high-by_top (get_or us q 0) high)

  pub high-cut : (more : List ℕ) → IsCut Utf16 (units_in order (take (2 * q) bytes)) (units_in order (drop (2 * q) bytes ++ more))
  high-cut more =
      cut-before order (units_in order (take (2 * q) bytes)) (drop (2 * q) bytes) more (drop (suc q) us) (get_or us q 0) (omega (arith, length-drop (2 * q) bytes)) first (λ low. high-no_low Utf16 (get_or us q 0) (high-by_top (get_or us q 0) high) low)

pub some-left : (bytes : List ℕ) (n : ℕ) → n < length bytes → drop n bytes ≡ [] → ⊥
some-left bytes n within none = omega (arith, ap length none, length-drop n bytes)

-- ---- all units can be encoded except a zero unit

pending-half : (order : BoM) (rest : List ℕ) → length rest < 2 → IsPending order rest
pending-half order [] short = tt
pending-half order (a ∷ []) short = tt
pending-half order (a ∷ b ∷ rest) short = absurd (omega arith)

pending-zero : (order : BoM) (rest : List ℕ) → rest ≡ 0 ∷ 0 ∷ [] → IsPending order rest
pending-zero order rest e = subst (λ bs. IsPending order bs) (sym e) (inr (zero-unit order))

one-zero : (order : BoM) → units_in order (0 ∷ 0 ∷ []) ≡ unit_in order 0 0 ∷ []
unfolding units_in
one-zero order = refl

module _ (order : BoM) (bytes us : List ℕ) (n : ℕ) (same : us ≡ units_in order bytes) (high : n ≤ length bytes) (zeros : ZeroAfter bytes n) where
  all-or : (n ≡ length bytes) ⊎ (n < length bytes)
  all-or = grind arith

  zero-left : n < length bytes → drop (2 * (n / 2)) bytes ≡ 0 ∷ 0 ∷ []
  zero-left some = let z = zeros some in let twice : 2 * (n / 2) ≡ n = omega (arith, z.1) in ap (λ m. drop m bytes) twice ∙ z.2

  pub ready-pending : IsPending order (drop (2 * (n / 2)) bytes)
  ready-pending = elim all-or [
    | inl all ↦ pending-half order (drop (2 * (n / 2)) bytes) (omega (arith, length-drop (2 * (n / 2)) bytes))
    | inr some ↦ pending-zero order (drop (2 * (n / 2)) bytes) (zero-left some)
  ]

  -- If at most half a unit is left, the last unit that can be encoded is no high surrogate.
  module _ (plain : 0 < n / 2 → length bytes - 2 * (n / 2) < 2 → is_high (get_or us (n / 2 - 1) 0) ≡ false) where
    whole-cut : n ≡ length bytes → (more : List ℕ) → IsCut Utf16 (units_in order (take (2 * (n / 2)) bytes)) (units_in order (drop (2 * (n / 2)) bytes ++ more))
    whole-cut all more prefix back h l ends begins pair =
        let r = n / 2 in
        let within : r ≤ length us = omega (arith, ap length same, length-units_in order bytes) in
        let at = last-ready us r within prefix h (ap (λ xs. take r xs) same ∙ sym (units_in-take order r bytes) ∙ ends) in
        let is : IsHighSurrogate Utf16 h = (IsPair-parts Utf16 h l pair).0 in
        let none = plain at.0 (omega arith) in
        absurd (grind (arith, none, at.1, is.0, is.1))

    pub ready-cut : (more : List ℕ) → IsCut Utf16 (units_in order (take (2 * (n / 2)) bytes)) (units_in order (drop (2 * (n / 2)) bytes ++ more))
    ready-cut more = elim all-or [
      | inl all ↦ whole-cut all more
      | inr some ↦ (
          let zero_unit = zero-left some in
          cut-before order (units_in order (take (2 * (n / 2)) bytes)) (drop (2 * (n / 2)) bytes) more [] (unit_in order 0 0) (omega (arith, ap length zero_unit)) (ap (λ bs. units_in order bs) zero_unit ∙ one-zero order) (λ low. (let none = zero-unit order in omega (arith, none, low.0)))
          )
    ]

  pub ready-no_zero : (n ≡ length bytes → length bytes % 2 ≡ 0 → ends_with nat_eq bytes (0 ∷ 0 ∷ []) ≡ false) → drop (2 * (n / 2)) bytes ≡ [] → ends_with nat_eq (units_in order (take (2 * (n / 2)) bytes)) (0 ∷ []) ≡ false
  ready-no_zero none left =
      let all : length bytes ≤ 2 * (n / 2) = omega (arith, ap length left, length-drop (2 * (n / 2)) bytes) in
      block-no_zero order bytes (2 * (n / 2)) (omega arith) (omega (arith, length-take-le (2 * (n / 2)) bytes (omega arith))) (λ e. none (omega arith) (omega arith)) left

-- ---- their text

pub valid-text : (policy : Policy) (after_fault : Bool) (us : List ℕ) → IsWellFormed Utf16 us → utf8 (chars Utf16 us) ≡ lossy_text policy after_fault us
valid-text policy after_fault us well = ap (λ cs. utf8 cs) (sym (ap (λ is. lossy_after policy after_fault is) (chars-of_well_formed Utf16 us well) ∙ lossy_after-chars policy after_fault (chars Utf16 us)))

-- Lossy text consists of scalar values, also after a fault.
scalars-at_fault : (policy : Policy) (after_fault : Bool) (u : ℕ) (is : List Item) → All IsScalar (lossy_after policy true is) → (r : Option ℕ) → replacement policy after_fault ≡ r → All IsScalar (lossy_after policy after_fault (Fault u ∷ is))
scalars-at_fault policy after_fault u is rest None e = subst (λ cs. All IsScalar cs) (sym (lossy_after-dropped policy after_fault u is e)) rest
scalars-at_fault policy after_fault u is rest (Some c) e =
    let scalar : IsScalar c = subst IsScalar (sym (replacement-is policy after_fault c e)) refl in
    subst (λ cs. All IsScalar cs) (sym (lossy_after-replaced policy after_fault u c is e)) (All-cons IsScalar c (lossy_after policy true is) scalar rest)

scalars-after : (policy : Policy) (after_fault : Bool) (is : List Item) → Chain Utf16 is → All IsScalar (lossy_after policy after_fault is)
scalars-after policy after_fault [] chain = subst (λ cs. All IsScalar cs) (sym (lossy_after-none_left policy after_fault)) (All-nil IsScalar)
scalars-after policy after_fault (Char c ∷ is) chain = subst (λ cs. All IsScalar cs) (sym (lossy_after-char policy after_fault c is)) (All-cons IsScalar c (lossy_after policy false is) chain.0 (scalars-after policy false is chain.2))
scalars-after policy after_fault (Fault u ∷ is) chain = scalars-at_fault policy after_fault u is (scalars-after policy true is chain.2) (replacement policy after_fault) refl

-- Lossy text is well formed, so all of it is written.
pub lossy-written : (policy : Policy) (after_fault : Bool) (us prefix text : List ℕ) (r : Option ℕ) (n : ℕ) → prefix ≡ encode Utf16 (lossy_after policy after_fault (items Utf16 us)) → IfNone r (IsWellFormed Utf16 prefix → ⊥) → IfSome r (λ len. take len text ≡ utf8 (chars Utf16 prefix)) → n ≡ unwrap_or r 0
    → take n text ≡ lossy_text policy after_fault us
lossy-written policy after_fault us prefix text None n e none some is =
    absurd (none (subst (λ xs. IsWellFormed Utf16 xs) (sym e) (IsWellFormed-encode Utf16 (lossy_after policy after_fault (items Utf16 us)) (scalars-after policy after_fault (items Utf16 us) (items-chain Utf16 us)))))
lossy-written policy after_fault us prefix text (Some len) n e none some is =
    ap (λ m. take m text) is ∙ some ∙ ap (λ xs. utf8 (chars Utf16 xs)) e ∙ ap (λ xs. utf8 xs) (chars-encode Utf16 (lossy_after policy after_fault (items Utf16 us)) (scalars-after policy after_fault (items Utf16 us) (items-chain Utf16 us)))

pub lossied-certain : {order : BoM} {policy : Policy} (after_fault after_fault' : Bool) (bytes us text : List ℕ) (k : ℕ) → us ≡ units_in order bytes → 2 * k ≤ length bytes → after_fault' ≡ units_end_in_fault after_fault (take k us) → text ≡ lossy_text policy after_fault (take k us)
    → ((more : List ℕ) → IsCut Utf16 (units_in order (take (2 * k) bytes)) (units_in order (drop (2 * k) bytes ++ more))) → (drop (2 * k) bytes ≡ [] → ends_with nat_eq (units_in order (take (2 * k) bytes)) (0 ∷ []) ≡ false)
    → Lossied order policy (take (2 * k) bytes) (drop (2 * k) bytes) after_fault [] after_fault' text
lossied-certain {order} {policy} after_fault after_fault' bytes us text k same within flagged written uncut none =
    let prefix : take k us ≡ units_in order (take (2 * k) bytes) = ap (λ xs. take k xs) same ∙ sym (units_in-take order k bytes) in
    record {
      even = omega (arith, length-take-le (2 * k) bytes within);
      text = written ∙ ap (λ xs. lossy_text policy after_fault xs) prefix;
      flag = flagged ∙ ap (λ xs. units_end_in_fault after_fault xs) prefix;
      cut = uncut;
      no_zero = none;
    }

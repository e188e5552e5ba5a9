-- The units of bytes without a zero unit at their end, prefix by prefix.
use Rattle.std.proofs.Common.{◌≡◌, ◌≢◌, ℕ, zero, suc, ◌-◌, ◌%◌, ◌<◌, ◌≤◌, ◌⊎◌, inl, inr, Bool, true, false, eqb, cond, List, [], ◌∷◌, ◌++◌, length, get_or, take, refl, sym, ap, ◌∙◌, arith, length-append, length-take-le, append_assoc, ne_eqb}
use Rattle.std.proofs.lemmas.List.{append-nil}
use Rattle.std.specs.Prelude.{nat_eq}
use Rattle.std.specs.List.{ends_with}
use Rattle.wide_bytes.specs.Bytes.{unit_in, units_in, is_odd, without_last_zero}
use Rattle.wide_bytes.specs.declared.order.BoM.{BoM}
use Rattle.wide_transcode.specs.Chunks.{units_after}
use Rattle.wide_bytes.proofs.Pairs.{units_in-append, units_in-short, length-units_in, ends_in_zero, ends_in_zeros, zero_unit, last_two, before_back, units_in-pair}

-- ---- the last unit

pub snoc : (us : List ℕ) → (us ≡ []) ⊎ ((init : List ℕ) × (l : ℕ) × (us ≡ init ++ l ∷ []))
snoc [] = inl refl
snoc (u ∷ us) = elim (snoc us) [
  | inl none ↦ inr ([], u, ap (λ xs. u ∷ xs) none)
  | inr some ↦ inr (u ∷ some.0, some.1, ap (λ xs. u ∷ xs) some.2)
]

pub dropped-zero : (init : List ℕ) (l : ℕ) → without_last_zero (init ++ l ∷ []) ≡ cond (eqb 0 l) init (init ++ l ∷ [])
dropped-zero init l =
    ap (λ xs. cond (ends_with nat_eq (init ++ l ∷ []) (0 ∷ [])) xs (init ++ l ∷ [])) (before_back init (l ∷ []) 1 refl) ∙ ap (λ t. cond t init (init ++ l ∷ [])) (ends_in_zero init l)

pub kept : (us : List ℕ) → ends_with nat_eq us (0 ∷ []) ≡ false → without_last_zero us ≡ us
kept us none = ap (λ t. cond t (take (length us - 1) us) us) none

is_zero : (l : ℕ) → eqb 0 l ≡ true → l ≡ 0
is_zero zero e = refl
is_zero (suc l) e = let other : eqb 0 (suc l) ≡ false = ne_eqb 0 (suc l) (λ (f : 0 ≡ suc l). omega arith) in absurd cc

pub nonzero : (u : ℕ) → u ≢ 0 → eqb 0 u ≡ false
nonzero zero some = absurd (some refl)
nonzero (suc u) some = ne_eqb 0 (suc u) (λ (f : 0 ≡ suc u). omega arith)

-- Units that do not end in two zero bytes do not end in a zero unit.
pub no-zero-units : (order : BoM) (passed bytes : List ℕ) → length passed % 2 ≡ 0 → length bytes % 2 ≡ 0 → 2 ≤ length bytes → ends_with nat_eq bytes (0 ∷ 0 ∷ []) ≡ false → ends_with nat_eq (units_in order (passed ++ bytes)) (0 ∷ []) ≡ false
no-zero-units order passed bytes even_p even some none =
    let n = length bytes - 2 in
    let a = get_or bytes n 0 in
    let b = get_or bytes (suc n) 0 in
    let prefix = take n bytes in
    let split : bytes ≡ prefix ++ a ∷ b ∷ [] = last_two bytes n (omega arith) in
    let long : length prefix ≡ n = length-take-le n bytes (omega arith) in
    let units : units_in order (passed ++ bytes) ≡ units_in order (passed ++ prefix) ++ unit_in order a b ∷ [] =
    ap (λ bs. units_in order (passed ++ bs)) split ∙ ap (λ bs. units_in order bs) (sym (append_assoc passed prefix (a ∷ b ∷ []))) ∙ units_in-append order (passed ++ prefix) (a ∷ b ∷ []) (omega (arith, length-append passed prefix, long)) ∙ ap (λ us. units_in order (passed ++ prefix) ++ us) (units_in-pair order a b) in
    ap (λ us. ends_with nat_eq us (0 ∷ [])) units ∙ ends_in_zero (units_in order (passed ++ prefix)) (unit_in order a b) ∙ zero_unit order a b ∙ sym (ends_in_zeros prefix a b) ∙ ap (λ bs. ends_with nat_eq bs (0 ∷ 0 ∷ [])) (sym split) ∙ none

pub nil-left : (xs ys : List ℕ) → xs ++ ys ≡ [] → xs ≡ []
nil-left [] ys e = refl
nil-left (x ∷ xs) ys e = absurd cc

-- ---- the units of all bytes

pub no-units : (order : BoM) (bytes : List ℕ) → length bytes % 2 ≡ 0 → units_in order bytes ≡ [] → bytes ≡ []
no-units order [] even e = refl
no-units order (a ∷ []) even e = absurd (omega arith)
no-units order (a ∷ b ∷ bytes) even e = let long = length-units_in order (a ∷ b ∷ bytes) in absurd (omega (arith, long, ap length e))

parity : (n : ℕ) → (eqb (n % 2) 1 ≡ true) ⊎ ((eqb (n % 2) 1 ≡ false) × (n % 2 ≡ 0))
parity n = by_rest (n % 2) (omega arith)
  where
    by_rest : (m : ℕ) → m < 2 → (eqb m 1 ≡ true) ⊎ ((eqb m 1 ≡ false) × (m ≡ 0))
    by_rest zero low = inr (refl, refl)
    by_rest (suc zero) low = inl refl
    by_rest (suc (suc m)) low = absurd (omega arith)

pub same-parity : (passed rest : List ℕ) → length passed % 2 ≡ 0 → is_odd (passed ++ rest) ≡ is_odd rest
same-parity passed rest even =
    let same : length (passed ++ rest) % 2 ≡ length rest % 2 = omega (arith, length-append passed rest, even) in
    ap (λ m. eqb m 1) same

-- A zero unit is dropped from the end.
zero-beyond : (prefix tail : List ℕ) → (tail ≡ [] → ends_with nat_eq prefix (0 ∷ []) ≡ false) → without_last_zero (prefix ++ tail) ≡ prefix ++ without_last_zero tail
zero-beyond prefix tail none = elim (snoc tail) [
  | inl empty ↦ (
      ap (λ us. without_last_zero us) (ap (λ us. prefix ++ us) empty ∙ append-nil prefix) ∙ kept prefix (none empty) ∙ sym (append-nil prefix) ∙ ap (λ us. prefix ++ without_last_zero us) (sym empty)
      )
  | inr some ↦ (
      let init = some.0 in
      let l = some.1 in
      let whole : prefix ++ tail ≡ (prefix ++ init) ++ l ∷ [] = ap (λ us. prefix ++ us) some.2 ∙ sym (append_assoc prefix init (l ∷ [])) in
      ap (λ us. without_last_zero us) whole ∙ dropped-zero (prefix ++ init) l ∙ by_last prefix init l (eqb 0 l) ∙ ap (λ us. prefix ++ us) (sym (dropped-zero init l)) ∙ ap (λ us. prefix ++ without_last_zero us) (sym some.2)
      )
]
  where
    by_last : (prefix init : List ℕ) (l : ℕ) (t : Bool) → cond t (prefix ++ init) ((prefix ++ init) ++ l ∷ []) ≡ prefix ++ cond t init (init ++ l ∷ [])
    by_last prefix init l true = refl
    by_last prefix init l false = append_assoc prefix init (l ∷ [])

pub split-units : (order : BoM) (passed rest : List ℕ) → length passed % 2 ≡ 0 → (rest ≡ [] → ends_with nat_eq (units_in order passed) (0 ∷ []) ≡ false)
    → units_after order (passed ++ rest) ≡ units_in order passed ++ units_after order rest
split-units order passed rest even none =
    let whole = units_in-append order passed rest even in
    let same = same-parity passed rest even in
    let units = units_in order passed ++ units_in order rest in
    ap (λ t. cond t (units_in order (passed ++ rest)) (without_last_zero (units_in order (passed ++ rest)))) same ∙ ap (λ us. cond (is_odd rest) us (without_last_zero us)) whole
    ∙ elim (parity (length rest)) [
      | inl odd ↦ ap (λ t. cond t units (without_last_zero units)) odd ∙ ap (λ t. units_in order passed ++ cond t (units_in order rest) (without_last_zero (units_in order rest))) (sym odd)
      | inr both ↦ (
          ap (λ t. cond t units (without_last_zero units)) both.0 ∙ zero-beyond (units_in order passed) (units_in order rest) (λ e. none (no-units order rest both.1 e))
          ∙ ap (λ t. units_in order passed ++ cond t (units_in order rest) (without_last_zero (units_in order rest))) (sym both.0)
          )
    ]

-- The units that the bytes mean are a prefix of the units of the bytes that are left, which leaves out at most a zero
-- unit.
pub left-prefix : (order : BoM) (rest : List ℕ) → (dropped : List ℕ) × (units_in order rest ≡ units_after order rest ++ dropped) × ((dropped ≡ []) ⊎ (dropped ≡ 0 ∷ []))
left-prefix order rest = by_odd (is_odd rest) (units_in order rest)
  where
    by_last : (init : List ℕ) (l : ℕ) (t : Bool) → (t ≡ true → l ≡ 0) → (dropped : List ℕ) × (init ++ l ∷ [] ≡ cond t init (init ++ l ∷ []) ++ dropped) × ((dropped ≡ []) ⊎ (dropped ≡ 0 ∷ []))
    by_last init l true zero_unit = (l ∷ [], refl, inr (ap (λ x. x ∷ []) (zero_unit refl)))
    by_last init l false zero_unit = ([], sym (append-nil (init ++ l ∷ [])), inl refl)

    by_odd : (t : Bool) (us : List ℕ) → (dropped : List ℕ) × (us ≡ cond t us (without_last_zero us) ++ dropped) × ((dropped ≡ []) ⊎ (dropped ≡ 0 ∷ []))
    by_odd true us = ([], sym (append-nil us), inl refl)
    by_odd false us = elim (snoc us) [
      | inl empty ↦ ([], empty ∙ ap (λ xs. without_last_zero xs ++ []) (sym empty), inl refl)
      | inr some ↦ (
          let last = by_last some.0 some.1 (eqb 0 some.1) (is_zero some.1) in
          (last.0, some.2 ∙ last.1 ∙ ap (λ xs. xs ++ last.0) (sym (dropped-zero some.0 some.1) ∙ ap (λ xs. without_last_zero xs) (sym some.2)), last.2)
          )
    ]

-- At most half a unit means no units.
pub short-left : (order : BoM) (rest : List ℕ) → length rest < 2 → units_after order rest ≡ []
short-left order rest short = ap (λ us. cond (is_odd rest) us (without_last_zero us)) (units_in-short order rest short) ∙ by_odd (is_odd rest)
  where
    by_odd : (t : Bool) → cond t [] (without_last_zero []) ≡ []
    by_odd true = refl
    by_odd false = refl

-- A zero unit at the end means no units.
pub zero-left : (order : BoM) (rest : List ℕ) → length rest ≡ 2 → units_in order rest ≡ 0 ∷ [] → units_after order rest ≡ []
zero-left order rest two one =
    ap (λ n. cond (eqb (n % 2) 1) (units_in order rest) (without_last_zero (units_in order rest))) two ∙ ap (λ us. without_last_zero us) one ∙ dropped-zero [] 0

-- Units of 32 bits of bytes: prefixes of them, and units that are stored.
use Rattle.std.proofs.Common.{◌≡◌, ℕ, zero, suc, ◌+◌, ◌-◌, ◌*◌, ◌/◌, ◌<◌, ◌≤◌, inl, inr, List, [], ◌∷◌, ◌++◌, add-zero, length, length-drop, get_or, take, drop, refl, sym, ap, ◌∙◌, arith, length-take-le}
use Rattle.std.proofs.lemmas.Bool.{cases_lt}
use Rattle.std.proofs.lemmas.List.{append-nil, get_or_append_left, get_or-append_right, get_or-drop, get_or-take}
use Rattle.wide_bytes.specs.declared.order.BoM.{BoM}
use Rattle.wide_bytes.specs.declared.order.BoM.TheVariants.{Big}
use Rattle.wide_schemes.specs.Layouts.{unit32_at, unit32_in, units32_in}

-- ---- prefixes of the units, and the rest

four-more : (n : ℕ) → 4 * suc n ≡ suc (suc (suc (suc (4 * n))))
four-more n = omega arith

pub units32_in-take : (order : BoM) (n : ℕ) (bytes : List ℕ) → units32_in order (take (4 * n) bytes) ≡ take n (units32_in order bytes)
unfolding units32_in
units32_in-take order zero bytes = refl
units32_in-take order (suc n) [] = ap (λ m. units32_in order (take m [])) (four-more n)
units32_in-take order (suc n) (a ∷ []) = ap (λ m. units32_in order (take m (a ∷ []))) (four-more n)
units32_in-take order (suc n) (a ∷ b ∷ []) = ap (λ m. units32_in order (take m (a ∷ b ∷ []))) (four-more n)
units32_in-take order (suc n) (a ∷ b ∷ c ∷ []) = ap (λ m. units32_in order (take m (a ∷ b ∷ c ∷ []))) (four-more n)
units32_in-take order (suc n) (a ∷ b ∷ c ∷ d ∷ bytes) =
    ap (λ m. units32_in order (take m (a ∷ b ∷ c ∷ d ∷ bytes))) (four-more n) ∙ ap (λ us. unit32_in order a b c d ∷ us) (units32_in-take order n bytes)

pub units32_in-drop : (order : BoM) (n : ℕ) (bytes : List ℕ) → units32_in order (drop (4 * n) bytes) ≡ drop n (units32_in order bytes)
unfolding units32_in
units32_in-drop order zero bytes = refl
units32_in-drop order (suc n) [] = ap (λ m. units32_in order (drop m [])) (four-more n)
units32_in-drop order (suc n) (a ∷ []) = ap (λ m. units32_in order (drop m (a ∷ []))) (four-more n)
units32_in-drop order (suc n) (a ∷ b ∷ []) = ap (λ m. units32_in order (drop m (a ∷ b ∷ []))) (four-more n)
units32_in-drop order (suc n) (a ∷ b ∷ c ∷ []) = ap (λ m. units32_in order (drop m (a ∷ b ∷ c ∷ []))) (four-more n)
units32_in-drop order (suc n) (a ∷ b ∷ c ∷ d ∷ bytes) =
    ap (λ m. units32_in order (drop m (a ∷ b ∷ c ∷ d ∷ bytes))) (four-more n) ∙ units32_in-drop order n bytes

-- Part of a unit is no unit.
pub units32_in-short : (order : BoM) (bytes : List ℕ) → length bytes < 4 → units32_in order bytes ≡ []
unfolding units32_in
units32_in-short order [] short = refl
units32_in-short order (a ∷ []) short = refl
units32_in-short order (a ∷ b ∷ []) short = refl
units32_in-short order (a ∷ b ∷ c ∷ []) short = refl
units32_in-short order (a ∷ b ∷ c ∷ d ∷ bytes) short = absurd (omega arith)

-- The units of whole units and other bytes.
pub units32_in-append : (order : BoM) (n : ℕ) (prefix back : List ℕ) → length prefix ≡ 4 * n → units32_in order (prefix ++ back) ≡ units32_in order prefix ++ units32_in order back
unfolding units32_in
units32_in-append order zero [] back long = refl
units32_in-append order zero (a ∷ prefix) back long = absurd (omega arith)
units32_in-append order (suc n) [] back long = absurd (omega arith)
units32_in-append order (suc n) (a ∷ []) back long = absurd (omega arith)
units32_in-append order (suc n) (a ∷ b ∷ []) back long = absurd (omega arith)
units32_in-append order (suc n) (a ∷ b ∷ c ∷ []) back long = absurd (omega arith)
units32_in-append order (suc n) (a ∷ b ∷ c ∷ d ∷ prefix) back long = ap (λ us. unit32_in order a b c d ∷ us) (units32_in-append order n prefix back (omega arith))

-- The first unit, whatever follows the bytes.
pub units32_in-first : (order : BoM) (bytes more : List ℕ) (u : ℕ) → 4 ≤ length bytes → u ≡ unit32_at order bytes 0 → units32_in order (bytes ++ more) ≡ u ∷ units32_in order (drop 4 bytes ++ more)
unfolding units32_in
units32_in-first order [] more u long is = absurd (omega arith)
units32_in-first order (a ∷ []) more u long is = absurd (omega arith)
units32_in-first order (a ∷ b ∷ []) more u long is = absurd (omega arith)
units32_in-first order (a ∷ b ∷ c ∷ []) more u long is = absurd (omega arith)
units32_in-first order (a ∷ b ∷ c ∷ d ∷ bytes) more u long is = ap (λ v. v ∷ units32_in order (bytes ++ more)) (sym is)

-- The unit at an index of the first units is the first one from its bytes on.
pub units32_in-at : (order : BoM) (bytes : List ℕ) (count k : ℕ) → 4 * count ≤ length bytes → k < count → get_or (units32_in order (take (4 * count) bytes)) k 0 ≡ unit32_at order (drop (4 * k) bytes) 0
units32_in-at order bytes count k within few =
    let rest = drop (4 * k) bytes in
    let us = units32_in order bytes in
    let first : units32_in order (rest ++ []) ≡ unit32_at order rest 0 ∷ units32_in order (drop 4 rest ++ []) = units32_in-first order rest [] (unit32_at order rest 0) (omega (arith, length-drop (4 * k) bytes, within, few)) refl in
    ap (λ xs. get_or xs k 0) (units32_in-take order count bytes) ∙ get_or-take count us k 0 few ∙ ap (λ n. get_or us n 0) (sym (add-zero k)) ∙ sym (get_or-drop k us 0 0)
    ∙ ap (λ xs. get_or xs 0 0) (sym (units32_in-drop order k bytes) ∙ ap (units32_in order) (sym (append-nil rest)) ∙ first)

-- ---- units that are stored

abbrev pub AreUnits32Of : BoM → List ℕ → List ℕ → ℕ → Type 0
AreUnits32Of order bytes us n = (j : ℕ) → j < n → get_or us j 0 ≡ unit32_at order bytes j

-- The unit at an index, where four bytes precede the others.
at-next : (order : BoM) (a b c d : ℕ) (bytes : List ℕ) (j : ℕ) → unit32_at order (a ∷ b ∷ c ∷ d ∷ bytes) (suc j) ≡ unit32_at order bytes j
at-next order a b c d bytes j =
    let second : 4 * suc j + 1 ≡ suc (suc (suc (suc (4 * j + 1)))) = omega arith in
    let third : 4 * suc j + 2 ≡ suc (suc (suc (suc (4 * j + 2)))) = omega arith in
    let fourth : 4 * suc j + 3 ≡ suc (suc (suc (suc (4 * j + 3)))) = omega arith in
    rw (second, third, fourth, four-more j) refl

filled : (order : BoM) (n : ℕ) (bytes us : List ℕ) → length bytes / 4 ≡ n → n ≤ length us → AreUnits32Of order bytes us n → take n us ≡ units32_in order bytes
unfolding units32_in
filled order zero bytes us fourth space same = sym (units32_in-short order bytes (omega arith))
filled order (suc n) [] us fourth space same = absurd (omega arith)
filled order (suc n) (a ∷ []) us fourth space same = absurd (omega arith)
filled order (suc n) (a ∷ b ∷ []) us fourth space same = absurd (omega arith)
filled order (suc n) (a ∷ b ∷ c ∷ []) us fourth space same = absurd (omega arith)
filled order (suc n) (a ∷ b ∷ c ∷ d ∷ bytes) [] fourth space same = absurd (omega arith)
filled order (suc n) (a ∷ b ∷ c ∷ d ∷ bytes) (u ∷ us) fourth space same =
    let first : u ≡ unit32_in order a b c d = same 0 (omega arith) in
    let rest : AreUnits32Of order bytes us n = λ j within. same (suc j) (omega arith) ∙ at-next order a b c d bytes j in
    ap (λ x. x ∷ take n us) first ∙ ap (λ vs. unit32_in order a b c d ∷ vs) (filled order n bytes us (omega arith) (omega arith) rest)

pub units32-filled : (order : BoM) (bytes us : List ℕ) → length bytes / 4 ≤ length us → AreUnits32Of order bytes us (length bytes / 4) → take (length bytes / 4) us ≡ units32_in order bytes
units32-filled order bytes us space same = filled order (length bytes / 4) bytes us refl space same

-- A block of units that was filled from the bytes of as many units.
pub block-filled : (order : BoM) (bytes units : List ℕ) (count : ℕ) → 4 * count ≤ length bytes → take (length (take (4 * count) bytes) / 4) units ≡ units32_in order (take (4 * count) bytes) → take count units ≡ units32_in order (take (4 * count) bytes)
block-filled order bytes units count within is =
    let long : length (take (4 * count) bytes) / 4 ≡ count = omega (arith, length-take-le (4 * count) bytes within) in
    ap (λ n. take n units) (sym long) ∙ is

-- If four more units are those of the bytes after the ones that were read, all units are those of the bytes.
pub lanes-more : (bytes us vs ys : List ℕ) (done left : ℕ) → 16 ≤ left → done + 4 ≤ length us → length ys ≡ 4 → take (done + 4) vs ≡ take done us ++ ys → AreUnits32Of Big bytes us done
    → ((k : ℕ) → k < 4 → get_or ys k 0 ≡ unit32_at Big (take left (drop (4 * done) bytes)) k) → AreUnits32Of Big bytes vs (done + 4)
lanes-more bytes us vs ys done left enough space long stored before units j below =
    let prefix : length (take done us) ≡ done = length-take-le done us (omega (arith, space)) in
    let reported : get_or vs j 0 ≡ get_or (take done us ++ ys) j 0 = sym (get_or-take (done + 4) vs j 0 below) ∙ ap (λ xs. get_or xs j 0) stored in
    elim (cases_lt j done) [
      | inl here ↦ reported ∙ get_or_append_left (take done us) ys 0 j (omega (arith, here, prefix)) ∙ get_or-take done us j 0 here ∙ before j here
      | inr from ↦
          (let k : ℕ = j - done in
          let byte : (i : ℕ) → i < 4 → get_or (take left (drop (4 * done) bytes)) (4 * k + i) 0 ≡ get_or bytes (4 * j + i) 0 = λ i few. (
          let same : 4 * done + (4 * k + i) ≡ 4 * j + i = omega (arith, from) in
          get_or-take left (drop (4 * done) bytes) (4 * k + i) 0 (omega (arith, enough, from, below, few)) ∙ get_or-drop (4 * done) bytes (4 * k + i) 0 ∙ ap (λ m. get_or bytes m 0) same
          ) in
          let none : 4 * done + 4 * k ≡ 4 * j = omega (arith, from) in
          let first : get_or (take left (drop (4 * done) bytes)) (4 * k) 0 ≡ get_or bytes (4 * j) 0 =
          get_or-take left (drop (4 * done) bytes) (4 * k) 0 (omega (arith, enough, from, below)) ∙ get_or-drop (4 * done) bytes (4 * k) 0 ∙ ap (λ m. get_or bytes m 0) none in
          omega (arith, reported ∙ get_or-append_right (take done us) ys done j 0 prefix from, units k (omega (arith, from, below)), first, byte 1 (omega arith), byte 2 (omega arith), byte 3 (omega arith)))
    ]

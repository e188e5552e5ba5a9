-- Units of bytes: prefixes of them, and units that are stored.
use Rattle.std.proofs.Common.{◌≡◌, ℕ, zero, suc, ◌+◌, ◌-◌, ◌*◌, ◌/◌, ◌<◌, ◌≤◌, ◌⊎◌, inl, inr, List, [], ◌∷◌, ◌++◌, length, get_or, take, drop, refl, sym, ap, ◌∙◌, arith, length-take-le}
use Rattle.std.proofs.lemmas.Bool.{cases_lt}
use Rattle.std.proofs.lemmas.List.{get_or_append_left, get_or-append_right, get_or-drop, get_or-take}
use Rattle.wide_bytes.specs.Bytes.{unit_in, units_in}
use Rattle.wide_bytes.specs.declared.order.BoM.{BoM}
use Rattle.wide_bytes.specs.declared.order.BoM.TheVariants.{Big}

-- ---- prefixes of the units, and the rest

pub units_in-take : (order : BoM) (n : ℕ) (bytes : List ℕ) → units_in order (take (2 * n) bytes) ≡ take n (units_in order bytes)
unfolding units_in
units_in-take order zero bytes = refl
units_in-take order (suc n) [] = let next : 2 * suc n ≡ suc (suc (2 * n)) = omega arith in ap (λ m. units_in order (take m [])) next
units_in-take order (suc n) (a ∷ []) = let next : 2 * suc n ≡ suc (suc (2 * n)) = omega arith in ap (λ m. units_in order (take m (a ∷ []))) next
units_in-take order (suc n) (a ∷ b ∷ bytes) =
    let next : 2 * suc n ≡ suc (suc (2 * n)) = omega arith in
    ap (λ m. units_in order (take m (a ∷ b ∷ bytes))) next ∙ ap (λ us. unit_in order a b ∷ us) (units_in-take order n bytes)

pub units_in-drop : (order : BoM) (n : ℕ) (bytes : List ℕ) → units_in order (drop (2 * n) bytes) ≡ drop n (units_in order bytes)
unfolding units_in
units_in-drop order zero bytes = refl
units_in-drop order (suc n) [] = let next : 2 * suc n ≡ suc (suc (2 * n)) = omega arith in ap (λ m. units_in order (drop m [])) next
units_in-drop order (suc n) (a ∷ []) = let next : 2 * suc n ≡ suc (suc (2 * n)) = omega arith in ap (λ m. units_in order (drop m (a ∷ []))) next
units_in-drop order (suc n) (a ∷ b ∷ bytes) =
    let next : 2 * suc n ≡ suc (suc (2 * n)) = omega arith in
    ap (λ m. units_in order (drop m (a ∷ b ∷ bytes))) next ∙ units_in-drop order n bytes

-- Half a unit at the end changes no unit.
pub units_in-half : (order : BoM) (n : ℕ) (bytes : List ℕ) → take (n / 2) (units_in order bytes) ≡ units_in order (take n bytes)
unfolding units_in
units_in-half order n bytes = halves (n / 2) n bytes (grind arith)
  where
    halves : (h n : ℕ) (bytes : List ℕ) → (n ≡ 2 * h) ⊎ (n ≡ 2 * h + 1) → take h (units_in order bytes) ≡ units_in order (take n bytes)
    halves zero zero bytes e = refl
    halves zero (suc zero) [] e = refl
    halves zero (suc zero) (a ∷ bytes) e = refl
    halves zero (suc (suc n)) bytes (inl e) = absurd (omega arith)
    halves zero (suc (suc n)) bytes (inr e) = absurd (omega arith)
    halves (suc h) zero bytes (inl e) = absurd (omega arith)
    halves (suc h) zero bytes (inr e) = absurd (omega arith)
    halves (suc h) (suc zero) bytes (inl e) = absurd (omega arith)
    halves (suc h) (suc zero) bytes (inr e) = absurd (omega arith)
    halves (suc h) (suc (suc n)) [] e = refl
    halves (suc h) (suc (suc n)) (a ∷ []) e = refl
    halves (suc h) (suc (suc n)) (a ∷ b ∷ bytes) (inl e) = ap (λ us. unit_in order a b ∷ us) (halves h n bytes (inl (omega arith)))
    halves (suc h) (suc (suc n)) (a ∷ b ∷ bytes) (inr e) = ap (λ us. unit_in order a b ∷ us) (halves h n bytes (inr (omega arith)))

-- ---- units that are stored

abbrev pub AreUnitsOf : BoM → List ℕ → List ℕ → ℕ → Type 0
AreUnitsOf order bytes us n = (j : ℕ) → j < n → get_or us j 0 ≡ unit_in order (get_or bytes (2 * j) 0) (get_or bytes (2 * j + 1) 0)

filled : (order : BoM) (n : ℕ) (bytes us : List ℕ) → length bytes / 2 ≡ n → n ≤ length us → AreUnitsOf order bytes us n → take n us ≡ units_in order bytes
unfolding units_in
filled order zero [] us half space same = refl
filled order zero (a ∷ []) us half space same = refl
filled order zero (a ∷ b ∷ bytes) us half space same = absurd (omega arith)
filled order (suc n) [] us half space same = absurd (omega arith)
filled order (suc n) (a ∷ []) us half space same = absurd (omega arith)
filled order (suc n) (a ∷ b ∷ bytes) [] half space same = absurd (omega arith)
filled order (suc n) (a ∷ b ∷ bytes) (u ∷ us) half space same =
    let first : u ≡ unit_in order a b = same 0 (omega arith) in
    let rest : AreUnitsOf order bytes us n = λ j within. (
    let even : 2 * suc j ≡ suc (suc (2 * j)) = omega arith in
    let odd : 2 * suc j + 1 ≡ suc (suc (2 * j + 1)) = omega arith in
    same (suc j) (omega arith) ∙ ap (λ m. unit_in order (get_or (a ∷ b ∷ bytes) m 0) (get_or (a ∷ b ∷ bytes) (2 * suc j + 1) 0)) even ∙ ap (λ m. unit_in order (get_or bytes (2 * j) 0) (get_or (a ∷ b ∷ bytes) m 0)) odd
    ) in
    ap (λ x. x ∷ take n us) first ∙ ap (λ vs. unit_in order a b ∷ vs) (filled order n bytes us (omega arith) (omega arith) rest)

pub units-filled : (order : BoM) (bytes us : List ℕ) (n : ℕ) → length bytes / 2 ≤ n → length bytes / 2 ≤ length us → AreUnitsOf order bytes us n → take (length bytes / 2) us ≡ units_in order bytes
units-filled order bytes us n over space same = filled order (length bytes / 2) bytes us refl space (λ j within. same j (omega arith))

-- If eight more units are those of the bytes after the ones that were read, all units are those of the bytes.
pub eight-more : (bytes us vs ys : List ℕ) (done left : ℕ) → 16 ≤ left → done + 8 ≤ length us → length ys ≡ 8 → take (done + 8) vs ≡ take done us ++ ys → AreUnitsOf Big bytes us done
    → ((k : ℕ) → k < 8 → get_or ys k 0 ≡ unit_in Big (get_or (take left (drop (2 * done) bytes)) (2 * k) 0) (get_or (take left (drop (2 * done) bytes)) (2 * k + 1) 0)) → AreUnitsOf Big bytes vs (done + 8)
eight-more bytes us vs ys done left enough space long stored before units j below =
    let prefix : length (take done us) ≡ done = length-take-le done us (omega arith) in
    let reported : get_or vs j 0 ≡ get_or (take done us ++ ys) j 0 = sym (get_or-take (done + 8) vs j 0 below) ∙ ap (λ xs. get_or xs j 0) stored in
    elim (cases_lt j done) [
      | inl here ↦ reported ∙ get_or_append_left (take done us) ys 0 j (omega (arith, here, prefix)) ∙ get_or-take done us j 0 here ∙ before j here
      | inr from ↦
          (let k : ℕ = j - done in
          let same : 2 * done + 2 * k ≡ 2 * j = omega (arith, from) in
          let next : 2 * done + (2 * k + 1) ≡ 2 * j + 1 = omega (arith, from) in
          let first : get_or (take left (drop (2 * done) bytes)) (2 * k) 0 ≡ get_or bytes (2 * j) 0 = get_or-take left (drop (2 * done) bytes) (2 * k) 0 (omega (arith, enough, from, below)) ∙ get_or-drop (2 * done) bytes (2 * k) 0 ∙ ap (λ i. get_or bytes i 0) same in
          let second : get_or (take left (drop (2 * done) bytes)) (2 * k + 1) 0 ≡ get_or bytes (2 * j + 1) 0 = get_or-take left (drop (2 * done) bytes) (2 * k + 1) 0 (omega (arith, enough, from, below)) ∙ get_or-drop (2 * done) bytes (2 * k + 1) 0 ∙ ap (λ i. get_or bytes i 0) next in
          omega (arith, reported ∙ get_or-append_right (take done us) ys done j 0 prefix from, units k (omega (arith, from, below)), first, second))
    ]

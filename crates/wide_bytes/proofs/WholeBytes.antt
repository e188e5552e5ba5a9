-- Bytes, their code units, and the byte after these.
use Rattle.std.proofs.Common.{◌≡◌, ◌↔◌, ◌⊎◌, inl, inr, ℕ, suc, ◌+◌, ◌-◌, ◌*◌, ◌/◌, ◌%◌, ◌<◌, Bool, true, false, eqb, cond, List, [], ◌∷◌, ◌++◌, Option, None, Some, length, get_or, drop, refl, sym, ap, ◌∙◌, subst, arith, append_assoc, w8, Fits}
use Rattle.std.specs.Prelude.{◌&&◌, IsSome, IsTrue, is_some, option_to_list, unwrap_or}
use Rattle.std.proofs.lemmas.Bool.{eqb-true}
use Rattle.std.proofs.lemmas.Bool.Decides.{eqb_tells}
use Rattle.std.proofs.lemmas.List.{get_or-drop}
use Rattle.wide_forms.specs.UnitBytes.{byte_order_mark}
use Rattle.wide_bytes.specs.Bytes.{bytes_in, half_of, is_odd, bom_of, order_of, unit_in, units_in, without_bom}
use Rattle.wide_bytes.specs.UnitsOfBytes.{units_left}
use Rattle.wide_bytes.specs.Utf16OfBytes.{bom_bytes, whole_bytes}
use Rattle.wide_bytes.specs.declared.whole.Utf16OfBytes.{Utf16OfBytes}
use Rattle.wide_bytes.specs.declared.order.BoM.{BoM}
use Rattle.wide_bytes.specs.declared.order.BoM.TheVariants.{Little, Big}

-- Each element is a byte.
abbrev pub AreBytes : List ℕ → Type 0
AreBytes bytes = (i : ℕ) → Fits w8 (get_or bytes i 0)

pair : (order : BoM) (a b : ℕ) (units : List ℕ) → a < 0x100 → b < 0x100 → bytes_in order (unit_in order a b ∷ units) ≡ a ∷ b ∷ bytes_in order units
pair Little a b units low high =
    let first : (a + 0x100 * b) % 0x100 ≡ a = omega arith in
    let second : (a + 0x100 * b) / 0x100 ≡ b = omega arith in
    ap (λ x. x ∷ ((a + 0x100 * b) / 0x100) ∷ bytes_in Little units) first ∙ ap (λ x. a ∷ x ∷ bytes_in Little units) second
pair Big a b units low high =
    let first : (0x100 * a + b) / 0x100 ≡ a = omega arith in
    let second : (0x100 * a + b) % 0x100 ≡ b = omega arith in
    ap (λ x. x ∷ ((0x100 * a + b) % 0x100) ∷ bytes_in Big units) first ∙ ap (λ x. a ∷ x ∷ bytes_in Big units) second

none-of : (order : BoM) → bytes_in order [] ≡ []
none-of Little = refl
none-of Big = refl

-- Bytes are those of their units, and the byte that is left.
pub whole-bytes : (order : BoM) (bytes : List ℕ) → AreBytes bytes → bytes_in order (units_in order bytes) ++ half_of bytes ≡ bytes
unfolding units_in half_of
whole-bytes order [] fits = ap (λ bs. bs ++ []) (none-of order)
whole-bytes order (a ∷ []) fits = ap (λ bs. bs ++ a ∷ []) (none-of order)
whole-bytes order (a ∷ b ∷ bytes) fits =
    ap (λ bs. bs ++ half_of bytes) (pair order a b (units_in order bytes) (fits 0).fits (fits 1).fits) ∙ ap (λ bs. a ∷ b ∷ bs) (whole-bytes order bytes (λ i. fits (suc (suc i))))

-- Units are those of their bytes.
pub whole-units : (order : BoM) (units : List ℕ) → units_in order (bytes_in order units) ≡ units
unfolding units_in
whole-units Little [] = refl
whole-units Little (u ∷ units) = let same : u % 0x100 + 0x100 * (u / 0x100) ≡ u = omega arith in ap (λ x. x ∷ units_in Little (bytes_in Little units)) same ∙ ap (λ us. u ∷ us) (whole-units Little units)
whole-units Big [] = refl
whole-units Big (u ∷ units) = let same : 0x100 * (u / 0x100) + u % 0x100 ≡ u = omega arith in ap (λ x. x ∷ units_in Big (bytes_in Big units)) same ∙ ap (λ us. u ∷ us) (whole-units Big units)

-- The bytes of units leave no half unit.
pub none-left : (order : BoM) (units : List ℕ) → half_of (bytes_in order units) ≡ []
unfolding half_of
none-left Little [] = refl
none-left Little (u ∷ units) = none-left Little units
none-left Big [] = refl
none-left Big (u ∷ units) = none-left Big units

-- ---- the byte that is left

pub half-even : (bytes : List ℕ) → length bytes % 2 ≡ 0 → half_of bytes ≡ []
unfolding half_of
half-even [] even = refl
half-even (a ∷ []) even = cc
half-even (a ∷ b ∷ bytes) even = half-even bytes (omega arith)

pub half-odd : (bytes : List ℕ) → length bytes % 2 ≡ 1 → half_of bytes ≡ get_or bytes (length bytes - 1) 0 ∷ []
unfolding half_of
half-odd [] odd = absurd (omega arith)
half-odd (a ∷ []) odd = refl
half-odd (a ∷ b ∷ bytes) odd =
    let last : length (a ∷ b ∷ bytes) - 1 ≡ suc (suc (length bytes - 1)) = omega arith in
    half-odd bytes (omega arith) ∙ ap (λ n. get_or (a ∷ b ∷ bytes) n 0 ∷ []) (sym last)

parity : (n : ℕ) → (n % 2 ≡ 0) ⊎ (n % 2 ≡ 1)
parity n = grind arith

pub half-some : (bytes : List ℕ) (half : Option ℕ) → option_to_list half ≡ half_of bytes → IsSome half ↔ IsTrue (is_odd bytes)
half-some bytes None is = (λ some. (let no : false ≡ true = some in cc), λ odd. absurd (apart (half-odd bytes (eqb-true (length bytes % 2) 1 odd))))
  where
    apart : half_of bytes ≡ get_or bytes (length bytes - 1) 0 ∷ [] → ⊥
    apart e = let no : [] ≡ get_or bytes (length bytes - 1) 0 ∷ [] = is ∙ e in cc
half-some bytes (Some x) is = (λ some. elim (parity (length bytes)) [ inl even ↦ absurd (apart (half-even bytes even)) | inr odd ↦ ap (λ n. eqb n 1) odd ], λ odd. refl)
  where
    apart : half_of bytes ≡ [] → ⊥
    apart e = let no : x ∷ [] ≡ [] = is ∙ e in cc

-- ---- the BOM

both : (x y a b : ℕ) → (eqb x a && (eqb y b && true)) ≡ true → (x ≡ a) × (y ≡ b)
both x y a b is = elim (eqb_tells x a) [
  | inl first ↦ elim (eqb_tells y b) [
    | inl second ↦ (first.1, second.1)
    | inr other ↦ (let no : (true && (false && true)) ≡ true = sym (ap (λ t. t && (eqb y b && true)) first.0 ∙ ap (λ t. true && (t && true)) other.0) ∙ is in cc)
  ]
  | inr other ↦ (let no : (false && (eqb y b && true)) ≡ true = sym (ap (λ t. t && (eqb y b && true)) other.0) ∙ is in cc)
]

no-bom : (a : ℕ) → bom_of (a ∷ []) ≡ None
no-bom a = elim (eqb 0xfe a) as (λ t. cond (t && false) (Some Big) (cond (eqb 0xff a && false) (Some Little) None) ≡ None) [
  | true ↦ elim (eqb 0xff a) as (λ t. cond (t && false) (Some Little) None ≡ None) [ true ↦ refl | false ↦ refl ]
  | false ↦ elim (eqb 0xff a) as (λ t. cond (t && false) (Some Little) None ≡ None) [ true ↦ refl | false ↦ refl ]
]

-- The bytes of the BOM and those after it are all the bytes.
abbrev WithBom : Option BoM → List ℕ → List ℕ → Type 0
WithBom bom beyond bytes = cond (is_some bom) (bytes_in (unwrap_or bom Little) (byte_order_mark ∷ [])) [] ++ cond (is_some bom) beyond bytes ≡ bytes

has_bom : (a b : ℕ) (bytes : List ℕ) (t u : Bool) → (eqb 0xfe a && (eqb 0xff b && true)) ≡ t → (eqb 0xff a && (eqb 0xfe b && true)) ≡ u → WithBom (cond t (Some Big) (cond u (Some Little) None)) bytes (a ∷ b ∷ bytes)
has_bom a b bytes true u is_big is_little = let e = both 0xfe 0xff a b is_big in ap (λ x. x ∷ 0xff ∷ bytes) e.0 ∙ ap (λ y. a ∷ y ∷ bytes) e.1
has_bom a b bytes false true is_big is_little = let e = both 0xff 0xfe a b is_little in ap (λ x. x ∷ 0xfe ∷ bytes) e.0 ∙ ap (λ y. a ∷ y ∷ bytes) e.1
has_bom a b bytes false false is_big is_little = refl

whole-bom : (bytes : List ℕ) → WithBom (bom_of bytes) (drop 2 bytes) bytes
whole-bom [] = refl
whole-bom (a ∷ []) = subst (λ m. WithBom m [] (a ∷ [])) (sym (no-bom a)) refl
whole-bom (a ∷ b ∷ bytes) = has_bom a b bytes (eqb 0xfe a && (eqb 0xff b && true)) (eqb 0xff a && (eqb 0xfe b && true)) refl refl

half-beyond : (bytes : List ℕ) → half_of (without_bom bytes) ≡ half_of bytes
unfolding half_of
half-beyond [] = refl
half-beyond (a ∷ []) = ap (λ m. half_of (cond (is_some m) [] (a ∷ []))) (no-bom a)
half-beyond (a ∷ b ∷ bytes) = elim (is_some (bom_of (a ∷ b ∷ bytes))) as (λ t. half_of (cond t bytes (a ∷ b ∷ bytes)) ≡ half_of bytes) [ true ↦ refl | false ↦ refl ]

-- ---- the fields

bytes-beyond : (bytes : List ℕ) → AreBytes bytes → AreBytes (without_bom bytes)
bytes-beyond bytes fits = elim (is_some (bom_of bytes)) as (λ t. AreBytes (cond t (drop 2 bytes) bytes)) [ true ↦ (λ i. subst (λ x. Fits w8 x) (sym (get_or-drop 2 bytes i 0)) (fits (2 + i))) | false ↦ fits ]

module _ (parts : Utf16OfBytes) (bytes : List ℕ) (fits : AreBytes bytes) where
  pub parts-whole : parts.order ≡ order_of bytes → parts.has_bom ≡ is_some (bom_of bytes) → units_left parts.units ≡ units_in parts.order (without_bom bytes) → option_to_list parts.half ≡ half_of (without_bom bytes) → whole_bytes parts ≡ bytes
  parts-whole order has_bom units half =
      let pairs = without_bom bytes in
      let rest : bytes_in parts.order (units_left parts.units) ++ option_to_list parts.half ≡ pairs = rw (units, half) (whole-bytes parts.order pairs (bytes-beyond bytes fits)) in
      let bom : bom_bytes parts ≡ cond (is_some (bom_of bytes)) (bytes_in (order_of bytes) (byte_order_mark ∷ [])) [] = rw (has_bom, order) refl in
      append_assoc (bom_bytes parts) (bytes_in parts.order (units_left parts.units)) (option_to_list parts.half) ∙ ap (λ bs. bom_bytes parts ++ bs) rest ∙ ap (λ bs. bs ++ pairs) bom ∙ whole-bom bytes

  pub parts-half : option_to_list parts.half ≡ half_of (without_bom bytes) → IsSome parts.half ↔ IsTrue (is_odd bytes)
  parts-half half = half-some bytes parts.half (half ∙ half-beyond bytes)

-- Substrings that are joined again, one by one.
use Rattle.std.proofs.Common.{◌≡◌, ℕ, zero, suc, ◌+◌, ◌-◌, ◌*◌, ◌<◌, ◌≤◌, List, [], ◌∷◌, ◌++◌, arith, refl, sym, ap, ◌∙◌, length, length-append}
use Rattle.std.specs.Prelude.{Result, Ok, Err, OnOk, OnErr, IfOk, min}
use native.Mathlib.Numerals.{unary_clauses}
use Rattle.std.proofs.lemmas.List.{append_assoc}
use Rattle.wide_search.specs.Cut.{substrings}
use Rattle.wide_search.specs.Substrings.{joined_with}
use Rattle.wide_search.specs.Laws.Cuts.{substrings-at_most}
use Rattle.wide_search.specs.Laws.Cuts.{some-substrings}
use Rattle.wide_ustr.specs.KeptLaws.{whole-joined}
use Rattle.wide_replace.specs.Replaced.{joined_first}

joined_alone : (left : ℕ) (with needle rest : List ℕ) → joined_first left with needle (rest ∷ []) ≡ rest
joined_alone zero with needle rest = refl
joined_alone (suc left) with needle rest = refl

pub joined_next : (left : ℕ) (with needle part : List ℕ) (parts : List (List ℕ)) → 0 < length parts → joined_first (suc left) with needle (part ∷ parts) ≡ part ++ (with ++ joined_first left with needle parts)
joined_next left with needle part [] some = absurd (omega (arith, some))
joined_next left with needle part (next ∷ more) some = refl

module _ (with needle rest : List ℕ) where
  -- If one occurrence more is replaced, the substring before it and the replacement are appended.
  pub joined-one_more : (before after done so_far new : List ℕ) → substrings needle rest ≡ before ∷ substrings needle after → so_far ≡ done ++ before → new ≡ so_far ++ with → (left : ℕ) → 0 < left
      → done ++ joined_first left with needle (substrings needle rest) ≡ new ++ joined_first (left - 1) with needle (substrings needle after)
  joined-one_more before after done so_far new cut one two zero some = absurd (omega (arith, some))
  joined-one_more before after done so_far new cut one two (suc left) some =
      simp unary_clauses (let more = joined_first left with needle (substrings needle after) in
      ap (λ us. done ++ us) (ap (joined_first (suc left) with needle) cut ∙ joined_next left with needle before (substrings needle after) (some-substrings needle after))
      ∙ sym (append_assoc done before (with ++ more)) ∙ ap (λ us. us ++ (with ++ more)) (sym one) ∙ sym (append_assoc so_far with more) ∙ ap (λ us. us ++ more) (sym two))

  -- An occurrence is replaced, and what comes before it is copied.
  joined-cut : (before after : List ℕ) → substrings needle rest ≡ before ∷ substrings needle after → (left : ℕ) → 0 < left
      → joined_first left with needle (substrings needle rest) ≡ before ++ (with ++ joined_first (left - 1) with needle (substrings needle after))
  joined-cut before after cut zero some = absurd (omega (arith, some))
  joined-cut before after cut (suc left) some = simp unary_clauses (ap (joined_first (suc left) with needle) cut ∙ joined_next left with needle before (substrings needle after) (some-substrings needle after))

  -- A string that cannot hold a part cannot hold all.
  pub full-before : (before after text done : List ℕ) → substrings needle rest ≡ before ∷ substrings needle after → before ≡ text → (left capacity now : ℕ) → 0 < left → now < length done + length text → capacity ≤ now
      → capacity < length done + length (joined_first left with needle (substrings needle rest))
  full-before before after text done cut seen left capacity now some full grown =
      let more = joined_first (left - 1) with needle (substrings needle after) in
      omega (arith, full, grown, ap length seen, ap length (joined-cut before after cut left some), length-append before (with ++ more))

  pub full-with : (before after text done so_far : List ℕ) → substrings needle rest ≡ before ∷ substrings needle after → with ≡ text → so_far ≡ done ++ before → (left capacity now : ℕ) → 0 < left → now < length so_far + length text → capacity ≤ now
      → capacity < length done + length (joined_first left with needle (substrings needle rest))
  full-with before after text done so_far cut seen one left capacity now some full grown =
      let more = joined_first (left - 1) with needle (substrings needle after) in
      omega (arith, full, grown, ap length seen, ap length one, length-append done before, ap length (joined-cut before after cut left some), length-append before (with ++ more), length-append with more)

  pub joined-rest : (left : ℕ) → left ≡ 0 → joined_first left with needle (substrings needle rest) ≡ rest
  joined-rest zero none = whole-joined needle rest
  joined-rest (suc left) none = absurd (omega (arith, none))

  pub joined-only : substrings needle rest ≡ rest ∷ [] → (left : ℕ) → joined_first left with needle (substrings needle rest) ≡ rest
  joined-only last left = ap (joined_first left with needle) last ∙ joined_alone left with needle rest

pub on_ok : {T E P Q : Type 0} (result : Result T E) → (P → Q) → OnOk result P → OnOk result Q
on_ok (Ok x) f p = f p
on_ok (Err e) f p = p

pub on_err : {T E P Q : Type 0} (result : Result T E) → (P → Q) → OnErr result P → OnErr result Q
on_err (Ok x) f p = p
on_err (Err e) f p = f p

pub on_err-of : {T E P : Type 0} (result : Result T E) → P → OnErr result P
on_err-of (Ok x) p = tt
on_err-of (Err e) p = p

-- If at least as many occurrences are replaced as there are, all are.
pub joined-all : (count : ℕ) (with needle : List ℕ) (parts : List (List ℕ)) → length parts ≤ count + 1 → joined_first count with needle parts ≡ joined_with with parts
joined-all zero with needle [] few = refl
joined-all zero with needle (part ∷ []) few = refl
joined-all zero with needle (part ∷ next ∷ more) few = absurd (omega (arith, few))
joined-all (suc count) with needle [] few = refl
joined-all (suc count) with needle (part ∷ []) few = refl
joined-all (suc count) with needle (part ∷ next ∷ more) few = ap (λ us. part ++ (with ++ us)) (joined-all count with needle (next ∷ more) (omega (arith, few)))

-- If as many occurrences are replaced as there are elements, all are.
pub all_replaced : (with needle whole : List ℕ) (count : ℕ) → length whole ≤ count → joined_first count with needle (substrings needle whole) ≡ joined_with with (substrings needle whole)
all_replaced with needle whole count enough = joined-all count with needle (substrings needle whole) (omega (arith, enough, substrings-at_most needle whole))

-- How long the joined substrings are, by how many occurrences are replaced.
length-joined : (count found : ℕ) (with needle : List ℕ) (parts : List (List ℕ)) → found ≡ min count (length parts - 1)
    → length (joined_first count with needle parts) + found * length needle ≡ length (joined_with needle parts) + found * length with
length-joined zero zero with needle parts is = omega arith
length-joined zero (suc found) with needle parts is = absurd (omega (arith, is))
length-joined (suc count) zero with needle [] is = omega arith
length-joined (suc count) (suc found) with needle [] is = absurd (omega (arith, is))
length-joined (suc count) zero with needle (part ∷ []) is = omega arith
length-joined (suc count) (suc found) with needle (part ∷ []) is = absurd (omega (arith, is))
length-joined (suc count) zero with needle (part ∷ next ∷ more) is = absurd (omega (arith, is))
length-joined (suc count) (suc found) with needle (part ∷ next ∷ more) is =
    let fewer : found ≡ min count (length (next ∷ more) - 1) = omega (arith, is) in
    let replaced = joined_first count with needle (next ∷ more) in
    let whole = joined_with needle (next ∷ more) in
    omega (arith, length-joined count found with needle (next ∷ more) fewer, length-append part (with ++ replaced), length-append with replaced, length-append part (needle ++ whole), length-append needle whole)

pub length-replaced : (count found : ℕ) (with needle whole : List ℕ) → found ≡ min count (length (substrings needle whole) - 1)
    → length (joined_first count with needle (substrings needle whole)) + found * length needle ≡ length whole + found * length with
length-replaced count found with needle whole is = omega (arith, length-joined count found with needle (substrings needle whole) is, ap length (whole-joined needle whole))

module _ (count found : ℕ) (needle whole : List ℕ) (is : found ≡ min count (length (substrings needle whole) - 1)) (n len : ℕ) (long : n ≡ length needle) (all : len ≡ length whole) where
  -- What is replaced fits into the whole.
  pub replaced-within : found * n ≤ len
  replaced-within = omega (arith, length-replaced count found [] needle whole is, ap (λ k. found * k) long, all)

  -- If the result is empty, no unit is left but those that are replaced.
  pub replaced-empty : (with : List ℕ) (w : ℕ) → w ≡ length with → joined_first count with needle (substrings needle whole) ≡ [] → found * n ≡ len + found * w
  replaced-empty with w new empty = omega (arith, length-replaced count found with needle whole is, ap (λ k. found * k) long, ap (λ k. found * k) new, all, ap length empty)

pub if_ok : {T E : Type 0} {P Q : T → Type 0} (result : Result T E) → ((x : T) → P x → Q x) → IfOk result P → IfOk result Q
if_ok (Ok x) f p = f x p
if_ok (Err e) f p = p

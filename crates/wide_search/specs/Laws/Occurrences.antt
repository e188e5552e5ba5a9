-- Occurrences of needles: the first one, and the substrings into which a list is split.
use Rattle.std.proofs.Common.{◌≡◌, ◌⊎◌, ℕ, zero, suc, ◌+◌, ◌-◌, ◌<◌, ◌≤◌, List, [], ◌∷◌, ◌++◌, inl, inr, refl, sym, ◌∙◌, ap, subst, arith, length, take, drop, length-drop}
use Rattle.std.proofs.lemmas.List.{take-append-drop, length-take-le, drop-drop}
use Rattle.std.proofs.lemmas.Bool.{cases_eq, cases_lt}
use Rattle.wide_search.specs.Occurrences.{OccursAt, OccursNowhere, OccursNowhereFrom, IsFirstAt, IsFirstFrom, IsLastAt}
use Rattle.wide_search.specs.Substrings.{AreSubstrings, joined_with}

module _ {A : Type 0} where
  -- At most one occurrence is the first.
  pub first-unique : (needle whole : List A) (one other : ℕ) → IsFirstAt needle whole one → IsFirstAt needle whole other → one ≡ other
  first-unique needle whole one other a b = elim (cases_lt one other) [
    | inl below ↦ absurd (b.before one below a.here)
    | inr rest ↦ elim (cases_lt other one) [
      | inl below ↦ absurd (a.before other below b.here)
      | inr other_rest ↦ omega (arith, rest, other_rest)
    ]
  ]

  -- At most one occurrence is the last.
  pub last-unique : (needle whole : List A) (one other : ℕ) → IsLastAt needle whole one → IsLastAt needle whole other → one ≡ other
  last-unique needle whole one other a b = elim (cases_lt one other) [
    | inl below ↦ absurd (a.beyond other below b.here)
    | inr rest ↦ elim (cases_lt other one) [
      | inl below ↦ absurd (b.beyond one below a.here)
      | inr other_rest ↦ omega (arith, rest, other_rest)
    ]
  ]

  -- An element before a list moves each occurrence one index further.
  pub occurs-on : (needle : List A) (x : A) (xs : List A) (at : ℕ) → OccursAt needle xs at → OccursAt needle (x ∷ xs) (suc at)
  occurs-on needle x xs at occurs = record { within = omega (arith, occurs.within); same = occurs.same }

  -- An occurrence after the first element is one in the rest of the list, one index earlier.
  pub occurs-back : (needle : List A) (x : A) (xs : List A) (at : ℕ) → OccursAt needle (x ∷ xs) (suc at) → OccursAt needle xs at
  occurs-back needle x xs at occurs = record { within = omega (arith, occurs.within); same = occurs.same }

  -- An occurrence in a list without its first `n` elements is one in the list, `n` indices later.
  pub occurs-beyond : (needle whole : List A) (n at : ℕ) → n ≤ length whole → OccursAt needle (drop n whole) at → OccursAt needle whole (n + at)
  occurs-beyond needle whole zero at within occurs = let e : at ≡ 0 + at = omega arith in subst (λ k. OccursAt needle whole k) e occurs
  occurs-beyond needle [] (suc n) at within occurs = absurd (omega (arith, within))
  occurs-beyond needle (x ∷ xs) (suc n) at within occurs =
      let e : suc (n + at) ≡ suc n + at = omega arith in
      subst (λ k. OccursAt needle (x ∷ xs) k) e (occurs-on needle x xs (n + at) (occurs-beyond needle xs n at (omega (arith, within)) occurs))

  -- An occurrence after the first `n` elements is one in the rest of the list, `n` indices earlier.
  pub occurs-left : (needle whole : List A) (n at : ℕ) → OccursAt needle whole (n + at) → OccursAt needle (drop n whole) at
  occurs-left needle whole zero at occurs = let e : 0 + at ≡ at = omega arith in subst (λ k. OccursAt needle whole k) e occurs
  occurs-left needle [] (suc n) at occurs = absurd (omega (arith, occurs.within))
  occurs-left needle (x ∷ xs) (suc n) at occurs =
      let e : suc n + at ≡ suc (n + at) = omega arith in
      occurs-left needle xs n at (occurs-back needle x xs (n + at) (subst (λ k. OccursAt needle (x ∷ xs) k) e occurs))

  -- The first occurrence in a list without its first `from` elements is the first one in the list from there on.
  pub first-from : (needle whole : List A) (from at : ℕ) → from ≤ length whole → IsFirstAt needle (drop from whole) at → IsFirstFrom needle whole from (from + at)
  first-from needle whole from at within first = record {
    here = occurs-beyond needle whole from at within first.here;
    after = omega arith;
    before = λ earlier l below occurs.
        let same : earlier ≡ from + (earlier - from) = omega (arith, l) in
        first.before (earlier - from) (omega (arith, l, below)) (occurs-left needle whole from (earlier - from) (subst (λ k. OccursAt needle whole k) same occurs));
  }

  -- A needle that does not occur in a list without its first `from` elements occurs at no index of the list from there on.
  pub nowhere-from : (needle whole : List A) (from : ℕ) → OccursNowhere needle (drop from whole) → OccursNowhereFrom needle whole from
  nowhere-from needle whole from nowhere at l occurs =
      let same : at ≡ from + (at - from) = omega (arith, l) in
      nowhere (at - from) (occurs-left needle whole from (at - from) (subst (λ k. OccursAt needle whole k) same occurs))

  -- A needle occurs at no index beyond the end of a list.
  pub nowhere-beyond : (needle whole : List A) (from : ℕ) → length whole < from → OccursNowhereFrom needle whole from
  nowhere-beyond needle whole from long at l occurs = omega (arith, long, l, occurs.within)

  -- A list is what is before an occurrence, the needle, and what follows it.
  pub parted : (needle whole : List A) (at : ℕ) → OccursAt needle whole at → whole ≡ take at whole ++ (needle ++ drop (at + length needle) whole)
  parted needle whole at occurs =
      let rest : drop at whole ≡ needle ++ drop (length needle) (drop at whole) =
      sym (take-append-drop (length needle) (drop at whole)) ∙ ap (λ xs. xs ++ drop (length needle) (drop at whole)) occurs.same in
      sym (take-append-drop at whole) ∙ ap (λ xs. take at whole ++ xs) (rest ∙ ap (λ xs. needle ++ xs) (drop-drop (length needle) at whole))

  -- The substrings, joined with the needle, are the list that was split.
  pub substrings-joined : (needle : List A) (substrings : List (List A)) (whole : List A) → AreSubstrings needle whole substrings → joined_with needle substrings ≡ whole
  substrings-joined needle [] whole are = absurd are
  substrings-joined needle (substring ∷ []) whole are = are.0
  substrings-joined needle (substring ∷ next ∷ more) whole are =
      ap (λ xs. substring ++ (needle ++ xs)) (substrings-joined needle (next ∷ more) (drop (length substring + length needle) whole) are.2)
      ∙ ap (λ xs. xs ++ (needle ++ drop (length substring + length needle) whole)) are.1 ∙ sym (parted needle whole (length substring) are.0.here)

  -- Only one list of substrings is that of a needle and a list.
  pub substrings-unique : (needle : List A) (some others : List (List A)) (whole : List A) → AreSubstrings needle whole some → AreSubstrings needle whole others → some ≡ others
  substrings-unique needle [] others whole a b = absurd a
  substrings-unique needle (p ∷ ps) [] whole a b = absurd b
  substrings-unique needle (p ∷ []) (q ∷ []) whole a b = ap (λ x. x ∷ []) (a.0 ∙ sym b.0)
  substrings-unique needle (p ∷ []) (q ∷ r ∷ qs) whole a b = absurd (a.1 (length q) b.0.here)
  substrings-unique needle (p ∷ s ∷ ps) (q ∷ []) whole a b = absurd (b.1 (length p) a.0.here)
  substrings-unique needle (p ∷ s ∷ ps) (q ∷ r ∷ qs) whole a b =
      let long : length p ≡ length q = first-unique needle whole (length p) (length q) a.0 b.0 in
      let same : p ≡ q = a.1 ∙ ap (λ n. take n whole) long ∙ sym b.1 in
      let rest : s ∷ ps ≡ r ∷ qs = substrings-unique needle (s ∷ ps) (r ∷ qs) (drop (length q + length needle) whole) (subst (λ n. AreSubstrings needle (drop (n + length needle) whole) (s ∷ ps)) long a.2) b.2 in
      ap (λ x. x ∷ s ∷ ps) same ∙ ap (λ xs. q ∷ xs) rest

-- ---- numbers: whether a needle is at the beginning, and its first occurrence

starts : (needle whole : List ℕ) → OccursAt needle whole 0 ⊎ (OccursAt needle whole 0 → ⊥)
starts [] whole = inl (record { within = omega arith; same = refl })
starts (p ∷ needle) [] = inr (λ occurs. omega (arith, occurs.within))
starts (p ∷ needle) (x ∷ xs) = elim (cases_eq x p) [
  | inl same ↦ elim (starts needle xs) [
    | inl rest ↦ inl (record { within = omega (arith, rest.within); same = ap (λ n. n ∷ take (length needle) xs) same ∙ ap (λ ys. p ∷ ys) rest.same })
    | inr none ↦ inr (λ occurs. none (record { within = omega (arith, occurs.within); same = cc (occurs.same) }))
  ]
  | inr other ↦ inr (λ occurs. other (cc (occurs.same)))
]

nothing-left : (needle : List ℕ) (at : ℕ) → OccursAt needle [] at → take (length needle) [] ≡ needle
nothing-left needle zero occurs = occurs.same
nothing-left needle (suc n) occurs = absurd (omega (arith, occurs.within))

none-before : (needle : List ℕ) (x : ℕ) (xs : List ℕ) (at : ℕ) → (OccursAt needle (x ∷ xs) 0 → ⊥) → ((earlier : ℕ) → earlier < at → ¬ (OccursAt needle xs earlier)) → (earlier : ℕ) → earlier < suc at → ¬ (OccursAt needle (x ∷ xs) earlier)
none-before needle x xs at none before zero l occurs = none occurs
none-before needle x xs at none before (suc n) l occurs = before n (omega (arith, l)) (occurs-back needle x xs n occurs)

none-on : (needle : List ℕ) (x : ℕ) (xs : List ℕ) → (OccursAt needle (x ∷ xs) 0 → ⊥) → OccursNowhere needle xs → OccursNowhere needle (x ∷ xs)
none-on needle x xs none nowhere zero occurs = none occurs
none-on needle x xs none nowhere (suc n) occurs = nowhere n (occurs-back needle x xs n occurs)

first-or_none : (needle whole : List ℕ) → ((at : ℕ) × IsFirstAt needle whole at) ⊎ OccursNowhere needle whole
first-or_none needle [] = elim (starts needle []) [
  | inl here ↦ inl (0, record { here = here; before = λ earlier l. absurd (omega (arith, l)) })
  | inr none ↦ inr (λ at occurs. none (record { within = omega (arith, occurs.within); same = nothing-left needle at occurs }))
]
first-or_none needle (x ∷ xs) = elim (starts needle (x ∷ xs)) [
  | inl here ↦ inl (0, record { here = here; before = λ earlier l. absurd (omega (arith, l)) })
  | inr none ↦ elim (first-or_none needle xs) [
    | inl rest ↦ inl (suc rest.0, record { here = occurs-on needle x xs rest.0 rest.1.here; before = none-before needle x xs rest.0 none rest.1.before })
    | inr nowhere ↦ inr (none-on needle x xs none nowhere)
  ]
]

-- The substring before the first occurrence, and the substrings of what follows it, are those of the list.
substrings-before : (needle whole : List ℕ) (at : ℕ) (rest : List (List ℕ)) → IsFirstAt needle whole at → AreSubstrings needle (drop (at + length needle) whole) rest → AreSubstrings needle whole (take at whole ∷ rest)
substrings-before needle whole at [] first are = absurd are
substrings-before needle whole at (substring ∷ more) first are =
    let long : length (take at whole) ≡ at = length-take-le at whole (omega (arith, first.here.within)) in
    let here : IsFirstAt needle whole (length (take at whole)) = subst (λ n. IsFirstAt needle whole n) (sym long) first in
    (here, ap (λ n. take n whole) (sym long), subst (λ n. AreSubstrings needle (drop (n + length needle) whole) (substring ∷ more)) (sym long) are)

substrings-to : (p : ℕ) (needle : List ℕ) (n : ℕ) (whole : List ℕ) → length whole ≤ n → (ps : List (List ℕ)) × AreSubstrings (p ∷ needle) whole ps
substrings-to p needle zero whole l = (whole ∷ [], (refl, λ at occurs. omega (arith, l, occurs.within)))
substrings-to p needle (suc n) whole l = elim (first-or_none (p ∷ needle) whole) [
  | inl first ↦ (let rest = substrings-to p needle n (drop (first.0 + length (p ∷ needle)) whole) (omega (arith, l, length-drop (first.0 + length (p ∷ needle)) whole)) in
      (take first.0 whole ∷ rest.0, substrings-before (p ∷ needle) whole first.0 rest.0 first.1 rest.1))
  | inr nowhere ↦ (whole ∷ [], (refl, nowhere))
]

-- A list is split at a separator that is not empty into some list of substrings.
pub substrings-exist : (p : ℕ) (needle whole : List ℕ) → (ps : List (List ℕ)) × AreSubstrings (p ∷ needle) whole ps
substrings-exist p needle whole = substrings-to p needle (length whole) whole (omega arith)

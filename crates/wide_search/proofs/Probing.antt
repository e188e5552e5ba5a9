-- An occurrence has the two units of a probe.
use Rattle.std.proofs.Common.{◌≡◌, ℕ, ◌+◌, ◌-◌, ◌<◌, ◌≤◌, true, List, [], ◌∷◌, length, get_or, map, take, drop, refl, sym, ap, ◌∙◌, subst, arith, length-drop, length-take}
use Rattle.std.proofs.Common.{get_or-drop, get_or-take}
use Rattle.std.proofs.lemmas.List.{drop-map, take-map}
use Rattle.wide_search.specs.Occurrences.{OccursAt}
use Rattle.wide_search.specs.Probes.{are_units, BothMatchAt, IsProbe}
use Rattle.wide_search.specs.declared.needle.Probe.{Probe}
use Rattle.wide_search.proofs.Ranges.{number-at}

pub both-true : (m n u v : ℕ) → u ≡ m → v ≡ n → are_units m n u v ≡ true
both-true m n u v e e2 = grind (arith, e, e2)

plus-zero : (at : ℕ) → at ≡ at + 0
plus-zero at = omega arith

swap : (m n : ℕ) → m + n ≡ n + m
swap m n = omega arith

module _ {X : Type 0} (number : X → ℕ) where
  first-of : (xs : List X) (u : X) → take 1 xs ≡ u ∷ [] → get_or xs 0 u ≡ u
  first-of [] u e = refl
  first-of (x ∷ xs) u e = cc e

  head-of : (xs : List X) (u : X) → xs ≡ u ∷ [] → get_or xs 0 u ≡ u
  head-of [] u e = refl
  head-of (x ∷ xs) u e = cc e

  ends : (needle : List X) (probe : Probe X) → IsProbe needle probe → get_or needle probe.distance probe.last ≡ probe.last
  ends needle probe is =
      let e : get_or (drop probe.distance needle) 0 probe.last ≡ get_or needle (probe.distance + 0) probe.last = get_or-drop probe.distance needle 0 probe.last in
      let none : probe.distance + 0 ≡ probe.distance = omega arith in
      sym (ap (λ n. get_or needle n probe.last) none) ∙ sym e ∙ head-of (drop probe.distance needle) probe.last is.last

  -- The unit of an occurrence at a distance from its beginning.
  unit-in : (needle us : List X) (at j : ℕ) (d : X) → OccursAt needle us at → j < length needle → get_or us (at + j) d ≡ get_or needle j d
  unit-in needle us at j d occurs l =
      sym (get_or-drop at us j d) ∙ sym (get_or-take (length needle) (drop at us) j d l) ∙ ap (λ xs. get_or xs j d) occurs.same

  pub stands : (needle us : List X) (probe : Probe X) (at n : ℕ) → IsProbe needle probe → OccursAt needle us at → at < n
      → (front back : List X) → front ≡ take n us → back ≡ take n (drop probe.distance us)
      → BothMatchAt (number probe.first) (number probe.last) (map number front) (map number back) at
  stands needle us probe at n is occurs below front back front-is back-is =
      let long : length needle ≡ probe.distance + 1 = is.length in
      let within : at < length front = subst (λ xs. at < length xs) (sym front-is) (simp length-take (omega (arith, below, long, occurs.within))) in
      let within2 : at < length back = subst (λ xs. at < length xs) (sym back-is) (simp (length-take, length-drop) (omega (arith, below, long, occurs.within))) in
      let first : get_or front at probe.first ≡ probe.first =
      ap (λ xs. get_or xs at probe.first) front-is ∙ get_or-take n us at probe.first below
      ∙ ap (λ n. get_or us n probe.first) (plus-zero at) ∙ unit-in needle us at 0 probe.first occurs (omega (arith, long)) ∙ first-of needle probe.first is.first in
      let last : get_or back at probe.last ≡ probe.last =
      ap (λ xs. get_or xs at probe.last) back-is ∙ get_or-take n (drop probe.distance us) at probe.last below ∙ get_or-drop probe.distance us at probe.last
      ∙ ap (λ n. get_or us n probe.last) (swap probe.distance at) ∙ unit-in needle us at probe.distance probe.last occurs (omega (arith, long)) ∙ ends needle probe is in
      both-true (number probe.first) (number probe.last) (get_or (map number front) at 0) (get_or (map number back) at 0)
      (number-at number front at probe.first within ∙ ap number first) (number-at number back at probe.last within2 ∙ ap number last)

  -- What is at an index of units from an offset on.
  read-at : (us front : List X) (from i count j : ℕ) → j < count → front ≡ take count (drop (from + i) us) → get_or (map number front) j 0 ≡ get_or (map number us) (from + j + i) 0
  read-at us front from i count j below is =
      let index : from + i + j ≡ from + j + i = omega arith in
      ap (λ xs. get_or (map number xs) j 0) is ∙ ap (λ xs. get_or xs j 0) (sym (take-map number count (drop (from + i) us)) ∙ ap (take count) (sym (drop-map number (from + i) us)))
      ∙ get_or-take count (drop (from + i) (map number us)) j 0 below ∙ get_or-drop (from + i) (map number us) j 0 ∙ ap (λ n. get_or (map number us) n 0) index

  -- Where units at two indices are those of a needle, both match in lists that begin at these indices.
  pub both-read : (needle us front back : List X) (from one other count j : ℕ) (u v : X) → j < count → front ≡ take count (drop (from + one) us) → back ≡ take count (drop (from + other) us) → one < length needle → other < length needle
      → u ≡ get_or needle one u → v ≡ get_or needle other v → get_or (map number us) (from + j + one) 0 ≡ get_or (map number needle) one 0 → get_or (map number us) (from + j + other) 0 ≡ get_or (map number needle) other 0
      → BothMatchAt (number u) (number v) (map number front) (map number back) j
  both-read needle us front back from one other count j u v below front-is back-is l l2 first last same same2 =
      both-true (number u) (number v) (get_or (map number front) j 0) (get_or (map number back) j 0)
      (read-at us front from one count j below front-is ∙ same ∙ number-at number needle one u l ∙ ap number (sym first))
      (read-at us back from other count j below back-is ∙ same2 ∙ number-at number needle other v l2 ∙ ap number (sym last))

  -- Where units from an index on begin as those of a needle do, each of them is the needle's.
  pub same-read : (needle us rest here : List X) (at from count same k : ℕ) → from ≤ k → k < from + same → same ≤ count → rest ≡ take count (drop from needle) → here ≡ take count (drop (at + from) us) → take same rest ≡ take same here
      → get_or (map number us) (at + k) 0 ≡ get_or (map number needle) k 0
  same-read needle us rest here at from count same k le l within rest-is here-is alike =
      let j = k - from in
      let below : j < same = omega (arith, le, l) in
      let in_units : at + j + from ≡ at + k = omega (arith, le) in
      let in_needle : 0 + j + from ≡ k = omega (arith, le) in
      let zero_more : 0 + from ≡ from = omega arith in
      ap (λ n. get_or (map number us) n 0) (sym in_units) ∙ sym (read-at us here at from count j (omega (arith, below, within)) here-is)
      ∙ sym (get_or-take same (map number here) j 0 below) ∙ ap (λ xs. get_or xs j 0) (take-map number same here ∙ ap (map number) (sym alike) ∙ sym (take-map number same rest))
      ∙ get_or-take same (map number rest) j 0 below ∙ read-at needle rest 0 from count j (omega (arith, below, within)) (rest-is ∙ ap (λ n. take count (drop n needle)) (sym zero_more)) ∙ ap (λ n. get_or (map number needle) n 0) in_needle

use Rattle.std.proofs.Common.{◌≡◌, ℕ, zero, suc, ◌<◌, List, [], ◌∷◌, refl, arith}
use Rattle.wide_search.specs.Occurrences.{OccursAt, OccursNowhere, IsFirstAt}
use Rattle.wide_search.specs.Substrings.{AreSubstrings}
use Rattle.wide_search.specs.Cut.{substrings, substrings-are}
use Rattle.wide_search.specs.Laws.Occurrences.{substrings-unique}
use Rattle.wide_search.proofs.laws.worked_substrings.Goals as goal

-- A list of substrings is `substrings`.
cut-into : (p : ℕ) (needle whole : List ℕ) (parts : List (List ℕ)) → AreSubstrings (p ∷ needle) whole parts → substrings (p ∷ needle) whole ≡ parts
cut-into p needle whole parts are = substrings-unique (p ∷ needle) (substrings (p ∷ needle) whole) parts whole (substrings-are (p ∷ needle) whole (omega arith)) are

-- A needle at the beginning.
first-here : (needle whole : List ℕ) → OccursAt needle whole 0 → IsFirstAt needle whole 0
first-here needle whole here = record { here = here; before = λ earlier l. absurd (omega (arith, l)) }

-- A needle of one unit after another unit.
none-before : (p x : ℕ) (xs : List ℕ) → (x ≡ p → ⊥) → (earlier : ℕ) → earlier < 1 → OccursAt (p ∷ []) (x ∷ p ∷ xs) earlier → ⊥
none-before p x xs other zero l occurs = other (cc (occurs.same))
none-before p x xs other (suc n) l occurs = absurd (omega (arith, l))

first-second : (p x : ℕ) (xs : List ℕ) → (x ≡ p → ⊥) → IsFirstAt (p ∷ []) (x ∷ p ∷ xs) 1
first-second p x xs other = record { here = record { within = omega arith; same = refl }; before = none-before p x xs other }

none-left : (p : ℕ) → OccursNowhere (p ∷ []) []
none-left p at occurs = omega (arith, occurs.within)

pub returns-clause-overlapping : goal.returns-clause-overlapping
returns-clause-overlapping c =
    cut-into 0x61 (0x61 ∷ []) (0x61 ∷ 0x61 ∷ 0x61 ∷ []) ([] ∷ (0x61 ∷ []) ∷ []) (first-here _ _ (record { within = omega arith; same = refl }), refl, (refl, λ at occurs. omega (arith, occurs.within)))

pub returns-clause-half : goal.returns-clause-half
returns-clause-half c = cut-into 0xDE00 [] (0xD83D ∷ 0xDE00 ∷ []) ((0xD83D ∷ []) ∷ [] ∷ []) (first-second 0xDE00 0xD83D [] (λ e. omega (arith, e)), refl, (refl, none-left 0xDE00))

pub returns-clause-fields : goal.returns-clause-fields
returns-clause-fields c =
    cut-into 0x3B [] (0x61 ∷ 0x3B ∷ 0x62 ∷ 0x3B ∷ []) ((0x61 ∷ []) ∷ (0x62 ∷ []) ∷ [] ∷ [])
    (first-second 0x3B 0x61 _ (λ e. omega (arith, e)), refl, (first-second 0x3B 0x62 [] (λ e. omega (arith, e)), refl, (refl, none-left 0x3B)))

pub returns-clause-alone : goal.returns-clause-alone
returns-clause-alone c = cut-into 0x3B [] (0x3B ∷ []) ([] ∷ [] ∷ []) (first-here _ _ (record { within = omega arith; same = refl }), refl, (refl, none-left 0x3B))

-- Matches of a needle, by the substrings between them.
use Rattle.std.proofs.Common.{◌≡◌, ℕ, ◌+◌, ◌-◌, ◌<◌, ◌≤◌, List, [], ◌∷◌, ◌++◌, refl, sym, ◌∙◌, ap, subst, arith, length, length-drop, take, drop}
use Rattle.std.specs.Prelude.{map}
use Rattle.std.specs.List.{All}
use Rattle.std.proofs.lemmas.List.{length-map, length-take-le, take-map, drop-map, drop-drop}
use Rattle.std.proofs.lemmas.List.Elements.{All-nil, All-cons}
use Rattle.wide_search.specs.Cut.{substrings, substrings-are, substrings-whole}
use Rattle.wide_search.specs.Occurrences.{OccursAt, IsFirstAt, IsFirstSplit}
use Rattle.wide_search.specs.Substrings.{AreSubstrings}
use Rattle.wide_search.specs.Laws.Cuts.{substrings-first, some-substrings}
use Rattle.wide_search.specs.Laws.Occurrences.{first-from, nowhere-from, parted}
use Rattle.wide_ustr.specs.Matched.{AreMatches, matches_between, matches_in, IsFirstMatch}
use Rattle.wide_ustr.proofs.SubstringCounts.{substrings-most}

module _ {A : Type 0} (needle : List A) where
  between-next : (from : ℕ) (part : List A) (parts : List (List A)) → 0 < length parts
      → matches_between needle from (part ∷ parts) ≡ (from + length part, needle) ∷ matches_between needle (from + length part + length needle) parts
  between-next from part [] some = absurd (omega (arith, some))
  between-next from part (next ∷ more) some = refl

  -- There is one substring more than there are matches.
  between-count : (from : ℕ) (part : List A) (parts : List (List A)) → length (matches_between needle from (part ∷ parts)) + 1 ≡ length (part ∷ parts)
  between-count from part [] = omega arith
  between-count from part (next ∷ more) = omega (arith, between-count (from + length part + length needle) next more)

  -- What separates substrings is its matches.
  are-between : (whole : List A) (from : ℕ) (parts : List (List A)) → from ≤ length whole → AreSubstrings needle (drop from whole) parts → AreMatches needle whole from (matches_between needle from parts)
  are-between whole from [] within are = absurd are
  are-between whole from (part ∷ []) within are = nowhere-from needle whole from are.1
  are-between whole from (part ∷ next ∷ more) within are =
      let first = first-from needle whole from (length part) within are.0 in
      let rest : drop (length part + length needle) (drop from whole) ≡ drop (from + length part + length needle) whole =
      drop-drop (length part + length needle) from whole ∙ ap (λ n. drop n whole) {x = from + (length part + length needle)} {y = from + length part + length needle} (omega arith) in
      (first, refl, are-between whole (from + length part + length needle) (next ∷ more) first.here.within (subst (λ xs. AreSubstrings needle xs (next ∷ more)) rest are.2))

  -- What is true of each occurrence is true of each match.
  pub all-matches : (P : ℕ → Type 0) (whole : List A) (from : ℕ) (ms : List (ℕ × List A)) → ((at : ℕ) → OccursAt needle whole at → P at) → AreMatches needle whole from ms → All (λ m. P m.0) ms
  all-matches P whole from [] holds are = All-nil (λ m. P m.0)
  all-matches P whole from (m ∷ ms) holds are = All-cons (λ m. P m.0) m ms (holds m.0 are.0.here) (all-matches P whole (m.0 + length needle) ms holds are.2)

module _ (needle whole : List ℕ) where
  -- The matches of a needle that has units.
  pub are-matches : 0 < length needle → AreMatches needle whole 0 (matches_in needle whole)
  are-matches some = are-between needle whole 0 (substrings needle whole) (omega arith) (substrings-are needle whole some)

  -- An empty needle has no match.
  pub no-matches : needle ≡ [] → matches_in needle whole ≡ []
  no-matches e = ap (λ xs. matches_between needle 0 xs) (ap (λ xs. substrings xs whole) e ∙ substrings-whole whole)

  counted : (parts : List (List ℕ)) → 0 < length parts → length (matches_between needle 0 parts) + 1 ≡ length parts
  counted [] some = absurd (omega (arith, some))
  counted (part ∷ parts) some = between-count needle 0 part parts

  pub matches-count : length (matches_in needle whole) + 1 ≡ length (substrings needle whole)
  matches-count = counted (substrings needle whole) (some-substrings needle whole)

  -- A needle that does not occur has no match.
  pub matches-none : (from : ℕ) → substrings needle whole ≡ whole ∷ [] → matches_between needle from (substrings needle whole) ≡ []
  matches-none from none = ap (matches_between needle from) none

  -- The first match, and those in what follows it.
  pub matches-first : (at : ℕ) (found rest : List ℕ) (from next : ℕ) → IsFirstMatch needle whole at found rest → next ≡ from + at + length needle
      → matches_between needle from (substrings needle whole) ≡ (from + at, found) ∷ matches_between needle next (substrings needle rest)
  matches-first at found rest from next match e =
      let prefix = take at whole in
      let long : length prefix ≡ at = length-take-le at whole (omega (arith, match.first.here.within)) in
      let split : IsFirstSplit needle whole prefix rest = record {
        joined = parted needle whole at match.first.here ∙ ap (λ xs. prefix ++ (needle ++ xs)) (sym match.after);
        first = subst (λ n. IsFirstAt needle whole n) (sym long) match.first;
      } in
      ap (matches_between needle from) (substrings-first needle whole prefix rest match.some split)
      ∙ between-next needle from prefix (substrings needle rest) (some-substrings needle rest)
      ∙ ap (λ n. (from + n, needle) ∷ matches_between needle (from + n + length needle) (substrings needle rest)) long
      ∙ ap (λ xs. (from + at, xs) ∷ matches_between needle (from + at + length needle) (substrings needle rest)) (sym match.same)
      ∙ ap (λ n. (from + at, found) ∷ matches_between needle n (substrings needle rest)) (sym e)

  -- What follows a match is as much shorter as the match ends after the beginning.
  pub match-rest : (at : ℕ) (found rest : List ℕ) → IsFirstMatch needle whole at found rest → length rest + at + length needle ≡ length whole
  match-rest at found rest match = omega (arith, ap length match.after, length-drop (at + length needle) whole, match.first.here.within)

-- There are no more matches than units.
pub matches-most : {C : Type 0} (number : C → ℕ) (needle : List ℕ) (us : List C) → length (matches_in needle (map number us)) ≤ length us
matches-most number needle us = omega (arith, matches-count needle (map number us), substrings-most number needle us)

-- The first occurrence of a needle, given by its numbers, is cut from the units.
pub first-match : {X : Type 0} (number : X → ℕ) (needle : List ℕ) (us from found rest : List X) (at n : ℕ) → 0 < length needle → n ≡ length needle → IsFirstAt needle (map number us) at → from ≡ drop at us → found ≡ take n from → rest ≡ drop n from
    → IsFirstMatch needle (map number us) at (map number found) (map number rest)
first-match number needle us from found rest at n some count first is_from is_found is_rest = record {
  some = some;
  first = first;
  same = ap (map number) (is_found ∙ ap (take n) is_from) ∙ sym (take-map number n (drop at us)) ∙ ap (take n) (sym (drop-map number at us)) ∙ ap (λ k. take k (drop at (map number us))) count ∙ first.here.same;
  after = ap (map number) (is_rest ∙ ap (drop n) is_from ∙ drop-drop n at us) ∙ sym (drop-map number (at + n) us) ∙ ap (λ k. drop (at + k) (map number us)) count;
}

-- What is true of the offset of each occurrence is true of that of each match.
pub each-match : (P : ℕ → Type 0) (needle whole : List ℕ) → ((at : ℕ) → 0 < length needle → OccursAt needle whole at → P at) → All (λ m. P m.0) (matches_in needle whole)
each-match P [] whole holds = subst (λ ms. All (λ m. P m.0) ms) (sym (no-matches [] whole refl)) (All-nil (λ m. P m.0))
each-match P (p ∷ needle) whole holds = all-matches (p ∷ needle) P whole 0 (matches_in (p ∷ needle) whole) (λ at occurs. holds at (omega arith) occurs) (are-matches (p ∷ needle) whole (omega arith))

-- Each match ends within the units.
pub matches-within : {X : Type 0} (number : X → ℕ) (needle : List ℕ) (us : List X) (n : ℕ) → n ≡ length needle → All (λ m. m.0 + n ≤ length us) (matches_in needle (map number us))
matches-within number needle us n e = each-match (λ at. at + n ≤ length us) needle (map number us) (λ at some occurs. omega (arith, occurs.within, length-map us number, e))

-- As many matches are found as there are.
pub found-count : (found : List (List ℕ)) (needle whole : List ℕ) → found ≡ map (λ m. m.1) (matches_in needle whole) → length found + 1 ≡ length (substrings needle whole)
found-count found needle whole e = omega (arith, ap length e, length-map (matches_in needle whole) (λ m. m.1), matches-count needle whole)

pub found-most : {C : Type 0} (number : C → ℕ) (found : List (List ℕ)) (needle : List ℕ) (us : List C) → found ≡ map (λ m. m.1) (matches_in needle (map number us)) → length found ≤ length us
found-most number found needle us e = omega (arith, ap length e, length-map (matches_in needle (map number us)) (λ m. m.1), matches-most number needle us)

-- Matches of a needle, from the back.
use Rattle.std.proofs.Common.{◌≡◌, ℕ, ◌+◌, ◌<◌, List, [], ◌∷◌, ◌++◌, refl, sym, ◌∙◌, ap, arith, length, length-append, take, drop}
use Rattle.std.specs.Prelude.{map}
use Rattle.std.proofs.lemmas.List.{length-map, length-take-le, take-map, drop-map}
use Rattle.wide_search.specs.Cut.{substrings}
use Rattle.wide_search.specs.Occurrences.{IsLastAt}
use Rattle.wide_search.specs.Substrings.{joined_with}
use Rattle.wide_search.specs.Laws.Cuts.{some-substrings}
use Rattle.wide_ustr.specs.Matched.{matches_between, IsLastMatch}
use Rattle.wide_ustr.proofs.BothEnds.{NeverOverlaps, substrings-last}
use Rattle.wide_ustr.specs.KeptLaws.{whole-joined}
use Rattle.wide_ustr.proofs.Mirrored.{last-split}

module _ {A : Type 0} (needle : List A) where
  -- The last match is after all but the last substring.
  between-last : (from : ℕ) (parts : List (List A)) (rest : List A) → 0 < length parts
      → matches_between needle from (parts ++ rest ∷ []) ≡ matches_between needle from parts ++ (from + length (joined_with needle parts), needle) ∷ []
  between-last from [] rest some = absurd (omega (arith, some))
  between-last from (part ∷ []) rest some = refl
  between-last from (part ∷ next ∷ more) rest some =
      let others = joined_with needle (next ∷ more) in
      let long : from + length part + length needle + length others ≡ from + length (part ++ (needle ++ others)) = omega (arith, length-append part (needle ++ others), length-append needle others) in
      ap (λ ms. (from + length part, needle) ∷ ms) (between-last (from + length part + length needle) (next ∷ more) rest (omega arith))
      ∙ ap (λ n. (from + length part, needle) ∷ matches_between needle (from + length part + length needle) (next ∷ more) ++ (n, needle) ∷ []) long

-- The matches before the last one are those in what is before it.
pub matches-last : (needle whole before found : List ℕ) (from next : ℕ) → IsLastMatch needle whole before found → next ≡ from + length before
    → matches_between needle from (substrings needle whole) ≡ matches_between needle from (substrings needle before) ++ (next, found) ∷ []
matches-last needle whole before found from next match e =
    let ms = matches_between needle from (substrings needle before) in
    ap (matches_between needle from) match.cut ∙ between-last needle from (substrings needle before) match.rest (some-substrings needle before)
    ∙ ap (λ xs. ms ++ (from + length xs, needle) ∷ []) (whole-joined needle before)
    ∙ ap (λ n. ms ++ (n, needle) ∷ []) (sym e)
    ∙ ap (λ xs. ms ++ (next, xs) ∷ []) (sym match.same)

-- The last occurrence of a needle, given by its numbers, is cut from the units.
pub last-match : {X : Type 0} (number : X → ℕ) (needle : List ℕ) (us before from found : List X) (at n : ℕ) → NeverOverlaps needle → 0 < length needle → n ≡ length needle → IsLastAt needle (map number us) at → before ≡ take at us → from ≡ drop at us → found ≡ take n from
    → IsLastMatch needle (map number us) (map number before) (map number found)
last-match number needle us before from found at n apart some count last is_before is_from is_found =
    let rest = drop (at + n) us in
    let split = last-split number needle us before rest at n count last is_before refl in
    record {
      rest = map number rest;
      same = ap (map number) (is_found ∙ ap (take n) is_from) ∙ sym (take-map number n (drop at us)) ∙ ap (take n) (sym (drop-map number at us)) ∙ ap (λ k. take k (drop at (map number us))) count ∙ last.here.same;
      cut = substrings-last needle (map number us) (map number before) (map number rest) apart some split;
      within = omega (arith, length-map before number, ap length is_before, length-take-le at us (omega (arith, last.here.within, length-map us number)), last.here.within);
    }

-- A list that is reversed has the occurrences of the reversed needle, each where the other end of the needle was.
use Rattle.std.proofs.Common.{◌≡◌, ◌↔◌, ℕ, ◌+◌, ◌-◌, ◌<◌, ◌≤◌, List, [], ◌∷◌, ◌++◌, refl, sym, ◌∙◌, ap, subst, arith, length, length-append, take, drop, append_assoc}
use Rattle.std.specs.Prelude.{map, reverse}
use Rattle.std.proofs.lemmas.List.{drop-map, length-map, length-take-le, map-append, length-reverse, nil_from_length, reverse-append, reverse-reverse, take-map}
use Rattle.std.proofs.Math.Seq.{take-append_seam, drop-append_seam}
use Rattle.wide_search.specs.Occurrences.{OccursAt, OccursNowhere, IsFirstSplit, IsLastAt, IsLastSplit}
use Rattle.wide_search.specs.Cut.{substrings, substrings-whole}
use Rattle.wide_search.specs.Laws.Cuts.{substrings-none, substrings-first, substrings-at_most}
use Rattle.wide_search.specs.Laws.Numbers.{last-numbers, nowhere-numbers}
use Rattle.wide_search.specs.Laws.Occurrences.{parted}
use Rattle.wide_ustr.specs.SplitBack.{substrings_back, rsplitn}
use Rattle.wide_ustr.specs.SplitN.{splitn}
use Rattle.wide_ustr.proofs.Few.{splitn-whole, length-splitn}

-- Lists that are reversed twice are as they were.
pub reversed-twice : {A : Type 0} (lists : List (List A)) → map reverse (map reverse lists) ≡ lists
reversed-twice [] = refl
reversed-twice (l ∷ lists) = ap (λ x. x ∷ map reverse (map reverse lists)) (reverse-reverse l) ∙ ap (λ xs. l ∷ xs) (reversed-twice lists)

-- What lists are if they are reversed is what they are, reversed.
pub unreversed : {A : Type 0} (parts lists : List (List A)) → map reverse parts ≡ lists → parts ≡ map reverse lists
unreversed parts lists is = sym (reversed-twice parts) ∙ ap (map reverse) is

-- What the substrings from the back say of the reversed list.
pub back-cut-none : (needle whole : List ℕ) → substrings_back needle whole ≡ whole ∷ [] → substrings (reverse needle) (reverse whole) ≡ reverse whole ∷ []
back-cut-none needle whole is = unreversed (substrings (reverse needle) (reverse whole)) (whole ∷ []) is

pub back-cut-next : (needle whole prefix rest : List ℕ) → substrings_back needle whole ≡ rest ∷ substrings_back needle prefix → substrings (reverse needle) (reverse whole) ≡ reverse rest ∷ substrings (reverse needle) (reverse prefix)
back-cut-next needle whole prefix rest is =
    unreversed (substrings (reverse needle) (reverse whole)) (rest ∷ substrings_back needle prefix) is
    ∙ ap (λ parts. reverse rest ∷ parts) (reversed-twice (substrings (reverse needle) (reverse prefix)))

module _ {A : Type 0} where
  -- A needle between two lists occurs after the first one.
  pub occurs-between : (needle whole prefix rest : List A) → whole ≡ prefix ++ (needle ++ rest) → OccursAt needle whole (length prefix)
  occurs-between needle whole prefix rest joined = record {
    within = omega (arith, ap length joined, length-append prefix (needle ++ rest), length-append needle rest);
    same = ap (λ xs. take (length needle) (drop (length prefix) xs)) joined ∙ ap (take (length needle)) (drop-append_seam prefix (needle ++ rest)) ∙ take-append_seam needle rest;
  }

  -- What is around the needle in a list is around it in the reversed list, the other way round.
  joined-reversed : (needle whole prefix rest : List A) → whole ≡ prefix ++ (needle ++ rest) → reverse whole ≡ reverse rest ++ (reverse needle ++ reverse prefix)
  joined-reversed needle whole prefix rest joined =
      ap reverse joined ∙ reverse-append prefix (needle ++ rest) ∙ ap (λ xs. xs ++ reverse prefix) (reverse-append needle rest) ∙ append_assoc (reverse rest) (reverse needle) (reverse prefix)

  occurs-reversed : (needle whole : List A) (at : ℕ) → OccursAt needle whole at → OccursAt (reverse needle) (reverse whole) (length whole - (at + length needle))
  occurs-reversed needle whole at occurs =
      let rest = drop (at + length needle) whole in
      let there = joined-reversed needle whole (take at whole) rest (parted needle whole at occurs) in
      let all = ap length (parted needle whole at occurs) in
      let long : length (reverse rest) ≡ length whole - (at + length needle) =
      omega (arith, length-reverse rest, all, length-append (take at whole) (needle ++ rest), length-append needle rest, length-take-le at whole (omega (arith, occurs.within))) in
      subst (λ n. OccursAt (reverse needle) (reverse whole) n) long (occurs-between (reverse needle) (reverse whole) (reverse rest) (reverse (take at whole)) there)

  -- An occurrence in the reversed list is one in the list.
  occurs-forward : (needle whole : List A) (at : ℕ) → OccursAt (reverse needle) (reverse whole) at → OccursAt needle whole (length whole - (at + length needle))
  occurs-forward needle whole at occurs =
      let there = occurs-reversed (reverse needle) (reverse whole) at occurs in
      let same : length (reverse whole) - (at + length (reverse needle)) ≡ length whole - (at + length needle) = omega (arith, length-reverse whole, length-reverse needle) in
      subst (λ n. OccursAt needle whole n) same (subst (λ xs. OccursAt needle xs (length (reverse whole) - (at + length (reverse needle)))) (reverse-reverse whole) (subst (λ xs. OccursAt xs (reverse (reverse whole)) (length (reverse whole) - (at + length (reverse needle)))) (reverse-reverse needle) there))

  pub nowhere-reversed : (needle whole : List A) → OccursNowhere needle whole → OccursNowhere (reverse needle) (reverse whole)
  nowhere-reversed needle whole nowhere at occurs = nowhere (length whole - (at + length needle)) (occurs-forward needle whole at occurs)

  -- The last occurrence is the first one in the reversed list.
  pub split-reversed : (needle whole prefix rest : List A) → IsLastSplit needle whole prefix rest → IsFirstSplit (reverse needle) (reverse whole) (reverse rest) (reverse prefix)
  split-reversed needle whole prefix rest split =
      let there = joined-reversed needle whole prefix rest split.joined in
      record {
        joined = there;
        first = record {
          here = occurs-between (reverse needle) (reverse whole) (reverse rest) (reverse prefix) there;
          before = λ earlier below occurs.
              split.last.beyond (length whole - (earlier + length needle))
              (omega (arith, below, length-reverse rest, ap length split.joined, length-append prefix (needle ++ rest), length-append needle rest))
              (occurs-forward needle whole earlier occurs);
        };
      }

-- If the separator does not occur, the list is the only substring.
pub back-none : (needle whole : List ℕ) → OccursNowhere needle whole → substrings_back needle whole ≡ whole ∷ []
back-none needle whole nowhere =
    ap (map reverse) (substrings-none (reverse needle) (reverse whole) (nowhere-reversed needle whole nowhere)) ∙ ap (λ xs. xs ∷ []) (reverse-reverse whole)

-- The first substring from the back is what is after the last occurrence, and the others are those of what is before it.
pub back-last : (needle whole prefix rest : List ℕ) → 0 < length needle → IsLastSplit needle whole prefix rest → substrings_back needle whole ≡ rest ∷ substrings_back needle prefix
back-last needle whole prefix rest some split =
    ap (map reverse) (substrings-first (reverse needle) (reverse whole) (reverse rest) (reverse prefix) (omega (arith, some, length-reverse needle)) (split-reversed needle whole prefix rest split))
    ∙ ap (λ xs. xs ∷ substrings_back needle prefix) (reverse-reverse rest)

-- There is at most one substring more than there are units.
pub back-most : {C : Type 0} (number : C → ℕ) (needle : List ℕ) (us : List C) → length (substrings_back needle (map number us)) ≤ length us + 1
back-most number needle us =
    let all = substrings (reverse needle) (reverse (map number us)) in
    omega (arith, length-map all reverse, substrings-at_most (reverse needle) (reverse (map number us)), length-reverse (map number us), length-map us number)

-- A list is empty exactly if it is empty when reversed.
pub empty-reversed : {A : Type 0} (xs : List A) → (xs ≡ []) ↔ (reverse xs ≡ [])
empty-reversed xs = (λ e. ap reverse e, λ e. nil_from_length xs (omega (arith, length-reverse xs, ap length e)))

-- At an empty separator, the list is the only substring.
back-whole : (whole : List ℕ) → substrings_back [] whole ≡ whole ∷ []
back-whole whole = ap (map reverse) (substrings-whole (reverse whole)) ∙ ap (λ xs. xs ∷ []) (reverse-reverse whole)

-- The substrings of units of any type, by their numbers.
module _ {X : Type 0} (number : X → ℕ) (same : (x y : X) → number x ≡ number y → x ≡ y) (needle us : List X) where
  pub back-nowhere : OccursNowhere needle us → substrings_back (map number needle) (map number us) ≡ map number us ∷ []
  back-nowhere nowhere = back-none (map number needle) (map number us) (nowhere-numbers number same needle us nowhere)

  pub back-empty : needle ≡ [] → substrings_back (map number needle) (map number us) ≡ map number us ∷ []
  back-empty e = ap (λ xs. substrings_back (map number xs) (map number us)) e ∙ back-whole (map number us)

  -- The first substring from the back is what is after the last occurrence of the units.
  pub back-split : (prefix rest : List X) → 0 < length needle → IsLastSplit needle us prefix rest → substrings_back (map number needle) (map number us) ≡ map number rest ∷ substrings_back (map number needle) (map number prefix)
  back-split prefix rest some split =
      back-last (map number needle) (map number us) (map number prefix) (map number rest) (omega (arith, some, length-map needle number)) (record {
        joined = ap (map number) split.joined ∙ map-append number prefix (needle ++ rest) ∙ ap (λ xs. map number prefix ++ xs) (map-append number needle rest);
        last = subst (λ n. IsLastAt (map number needle) (map number us) n) (sym (length-map prefix number)) (last-numbers number same needle us (length prefix) split.last);
      })

-- The last occurrence of a separator, given by its numbers, splits the units into those before it and those after it.
pub last-split : {X : Type 0} (number : X → ℕ) (needle : List ℕ) (us prefix rest : List X) (at n : ℕ) → n ≡ length needle → IsLastAt needle (map number us) at → prefix ≡ take at us → rest ≡ drop (at + n) us
    → IsLastSplit needle (map number us) (map number prefix) (map number rest)
last-split number needle us prefix rest at n count last is_prefix is_rest =
    let before : take at (map number us) ≡ map number prefix = take-map number at us ∙ ap (map number) (sym is_prefix) in
    let beyond : drop (at + length needle) (map number us) ≡ map number rest =
    ap (λ k. drop (at + k) (map number us)) (sym count) ∙ drop-map number (at + n) us ∙ ap (map number) (sym is_rest) in
    let long : at ≡ length (map number prefix) = sym (length-take-le at (map number us) (omega (arith, last.here.within))) ∙ ap length before in
    record {
      joined = parted needle (map number us) at last.here ∙ ap (λ xs. xs ++ (needle ++ drop (at + length needle) (map number us))) before ∙ ap (λ xs. map number prefix ++ (needle ++ xs)) beyond;
      last = subst (λ k. IsLastAt needle (map number us) k) long last;
    }

-- If there is to be one, it is the whole list.
pub rsplitn-whole : (needle whole : List ℕ) (count : ℕ) → count ≡ 1 → rsplitn count needle whole ≡ whole ∷ []
rsplitn-whole needle whole count one = ap (map reverse) (splitn-whole (reverse needle) (reverse whole) count one) ∙ ap (λ xs. xs ∷ []) (reverse-reverse whole)

pub length-rsplitn : (count : ℕ) (needle whole : List ℕ) → length (rsplitn count needle whole) ≤ count
length-rsplitn count needle whole =
    let all = substrings (reverse needle) (reverse whole) in
    omega (arith, length-map (splitn count (reverse needle) all) reverse, length-splitn (reverse needle) count all)

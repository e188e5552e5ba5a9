-- The substrings, by the first occurrence of the separator.
use Rattle.std.proofs.Common.{◌≡◌, ℕ, ◌+◌, ◌<◌, ◌≤◌, List, [], ◌∷◌, ◌++◌, refl, sym, ◌∙◌, ap, subst, arith, length, length-append, length-drop, take, drop, append_assoc}
use Rattle.std.specs.Prelude.{map}
use Rattle.std.proofs.lemmas.List.{length-map, map-append, take-map, drop-map, length-take-le}
use Rattle.std.proofs.Math.Seq.{take-append_seam, drop-append_seam}
use Rattle.wide_search.specs.Occurrences.{OccursNowhere, IsFirstAt, IsFirstSplit}
use Rattle.wide_search.specs.Substrings.{AreSubstrings}
use Rattle.wide_search.specs.Cut.{substrings, substrings-are, substrings-whole}
use Rattle.wide_search.specs.Laws.Occurrences.{substrings-unique, parted}
use Rattle.wide_search.specs.Laws.Numbers.{first-numbers, nowhere-numbers}

-- If the separator does not occur, the list is the only substring.
pub substrings-none : (needle whole : List ℕ) → OccursNowhere needle whole → substrings needle whole ≡ whole ∷ []
substrings-none [] whole nowhere = substrings-whole whole
substrings-none (p ∷ needle) whole nowhere = substrings-unique (p ∷ needle) (substrings (p ∷ needle) whole) (whole ∷ []) whole (substrings-are (p ∷ needle) whole (omega arith)) (refl, nowhere)

-- The substring before the first occurrence, and substrings of what follows it, are substrings of the list.
are-before : (needle whole prefix rest : List ℕ) (ps : List (List ℕ)) → IsFirstSplit needle whole prefix rest → AreSubstrings needle rest ps → AreSubstrings needle whole (prefix ∷ ps)
are-before needle whole prefix rest [] split are = absurd are
are-before needle whole prefix rest (p ∷ ps) split are =
    let at : take (length prefix) whole ≡ prefix = ap (take (length prefix)) split.joined ∙ take-append_seam prefix (needle ++ rest) in
    let long : length prefix + length needle ≡ length (prefix ++ needle) = sym (length-append prefix needle) in
    let beyond : drop (length prefix + length needle) whole ≡ rest =
    ap (λ n. drop n whole) long ∙ ap (λ xs. drop (length (prefix ++ needle)) xs) (split.joined ∙ sym (append_assoc prefix needle rest)) ∙ drop-append_seam (prefix ++ needle) rest in
    (split.first, sym at, subst (λ xs. AreSubstrings needle xs (p ∷ ps)) (sym beyond) are)

-- The first substring is what is before the first occurrence, and the others are those of what follows it.
pub substrings-first : (needle whole prefix rest : List ℕ) → 0 < length needle → IsFirstSplit needle whole prefix rest → substrings needle whole ≡ prefix ∷ substrings needle rest
substrings-first needle whole prefix rest some split =
    substrings-unique needle (substrings needle whole) (prefix ∷ substrings needle rest) whole (substrings-are needle whole some) (are-before needle whole prefix rest (substrings needle rest) split (substrings-are needle rest some))

-- The substrings of units of any type, by their numbers.
module _ {X : Type 0} (number : X → ℕ) (same : (x y : X) → number x ≡ number y → x ≡ y) (needle us : List X) where
  -- If a separator of units does not occur, the numbers of the units are the only substring.
  pub substrings-nowhere : OccursNowhere needle us → substrings (map number needle) (map number us) ≡ map number us ∷ []
  substrings-nowhere nowhere = substrings-none (map number needle) (map number us) (nowhere-numbers number same needle us nowhere)

  -- At an empty separator of units, the numbers of the units are the only substring.
  pub substrings-empty : needle ≡ [] → substrings (map number needle) (map number us) ≡ map number us ∷ []
  substrings-empty e = ap (λ xs. substrings (map number xs) (map number us)) e ∙ substrings-whole (map number us)

  -- A first occurrence among units is one among their numbers.
  pub split-numbers : (prefix rest : List X) → IsFirstSplit needle us prefix rest → IsFirstSplit (map number needle) (map number us) (map number prefix) (map number rest)
  split-numbers prefix rest split = record {
    joined = ap (map number) split.joined ∙ map-append number prefix (needle ++ rest) ∙ ap (λ xs. map number prefix ++ xs) (map-append number needle rest);
    first = subst (λ n. IsFirstAt (map number needle) (map number us) n) (sym (length-map prefix number)) (first-numbers number same needle us (length prefix) split.first);
  }

  -- The first substring is what is before the first occurrence of the units, and the others are those of what follows
  -- it.
  pub substrings-split : (prefix rest : List X) → 0 < length needle → IsFirstSplit needle us prefix rest → substrings (map number needle) (map number us) ≡ map number prefix ∷ substrings (map number needle) (map number rest)
  substrings-split prefix rest some split = substrings-first (map number needle) (map number us) (map number prefix) (map number rest) (omega (arith, some, length-map needle number)) (split-numbers prefix rest split)

-- The numbers of units are split at a separator that is not empty into `substrings`.
pub substrings-cut : {X : Type 0} (number : X → ℕ) (needle us : List X) → 0 < length needle → AreSubstrings (map number needle) (map number us) (substrings (map number needle) (map number us))
substrings-cut number needle us some = substrings-are (map number needle) (map number us) (omega (arith, some, length-map needle number))

-- The first occurrence of a separator, given by its numbers, splits the units into those before it and those after it.
pub split-at : {X : Type 0} (number : X → ℕ) (needle : List ℕ) (us prefix rest : List X) (at n : ℕ) → n ≡ length needle → IsFirstAt needle (map number us) at → prefix ≡ take at us → rest ≡ drop (at + n) us
    → IsFirstSplit needle (map number us) (map number prefix) (map number rest)
split-at number needle us prefix rest at n count first is_prefix is_rest =
    let before : take at (map number us) ≡ map number prefix = take-map number at us ∙ ap (map number) (sym is_prefix) in
    let beyond : drop (at + length needle) (map number us) ≡ map number rest =
    ap (λ k. drop (at + k) (map number us)) (sym count) ∙ drop-map number (at + n) us ∙ ap (map number) (sym is_rest) in
    let long : at ≡ length (map number prefix) = sym (length-take-le at (map number us) (omega (arith, first.here.within))) ∙ ap length before in
    record {
      joined = parted needle (map number us) at first.here ∙ ap (λ xs. xs ++ (needle ++ drop (at + length needle) (map number us))) before ∙ ap (λ xs. map number prefix ++ (needle ++ xs)) beyond;
      first = subst (λ k. IsFirstAt needle (map number us) k) long first;
    }

-- Substrings at a separator that is not empty are at most one more than there are units.
are-at_most : (needle whole : List ℕ) (ps : List (List ℕ)) → 0 < length needle → AreSubstrings needle whole ps → length ps ≤ length whole + 1
are-at_most needle whole [] some are = absurd are
are-at_most needle whole (p ∷ []) some are = omega arith
are-at_most needle whole (p ∷ q ∷ ps) some are =
    let n = length p + length needle in
    omega (arith, some, are.0.here.within, length-drop n whole, are-at_most needle (drop n whole) (q ∷ ps) some are.2)

-- There is at most one substring more than there are units.
pub substrings-at_most : (needle whole : List ℕ) → length (substrings needle whole) ≤ length whole + 1
substrings-at_most [] whole = omega (arith, ap length (substrings-whole whole))
substrings-at_most (p ∷ needle) whole = are-at_most (p ∷ needle) whole (substrings (p ∷ needle) whole) (omega arith) (substrings-are (p ∷ needle) whole (omega arith))

-- A list is split into at least one substring.
some_in : (needle whole : List ℕ) (parts : List (List ℕ)) → AreSubstrings needle whole parts → 0 < length parts
some_in needle whole [] are = absurd are
some_in needle whole (part ∷ parts) are = omega arith

pub some-substrings : (needle whole : List ℕ) → 0 < length (substrings needle whole)
some-substrings [] whole = rw (substrings-whole whole) (omega arith)
some-substrings (p ∷ needle) whole = some_in (p ∷ needle) whole (substrings (p ∷ needle) whole) (substrings-are (p ∷ needle) whole (omega arith))

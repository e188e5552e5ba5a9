-- Substrings with the separators after them, from the back.
use Rattle.std.proofs.Common.{◌≡◌, ℕ, ◌+◌, ◌-◌, ◌<◌, List, [], ◌∷◌, ◌++◌, inl, inr, refl, sym, ◌∙◌, ap, subst, arith, length, length-append, length-drop, take, drop, append_assoc}
use Rattle.std.specs.Prelude.{map}
use Rattle.std.proofs.lemmas.Bool.{cases_lt}
use Rattle.std.proofs.lemmas.List.{append-nil, length-map, length-take-le, nil_from_length, take-append-drop, take-map, drop-map}
use Rattle.std.proofs.Math.Seq.{take-append_seam}
use Rattle.wide_search.specs.Cut.{substrings, substrings-are}
use Rattle.wide_search.specs.Occurrences.{OccursAt, OccursNowhere, IsLastAt}
use Rattle.wide_search.specs.Substrings.{AreSubstrings}
use Rattle.wide_search.specs.Laws.Cuts.{some-substrings}
use Rattle.wide_search.specs.Laws.Occurrences.{occurs-beyond, parted}
use Rattle.wide_ustr.specs.SplitInclusive.{inclusive}
use Rattle.wide_ustr.proofs.BothEnds.{NeverOverlaps, occurs-within, occurs-further, substrings-around}

module _ {A : Type 0} (needle : List A) where
  -- Substrings that others follow have the separator after them.
  inclusive-append : (parts others : List (List A)) → 0 < length others → inclusive needle (parts ++ others) ≡ map (λ part. part ++ needle) parts ++ inclusive needle others
  inclusive-append [] others some = refl
  inclusive-append (part ∷ []) [] some = absurd (omega (arith, some))
  inclusive-append (part ∷ []) (other ∷ others) some = refl
  inclusive-append (part ∷ next ∷ more) others some = ap (λ ls. (part ++ needle) ∷ ls) (inclusive-append (next ∷ more) others some)

  inclusive-some : (xs : List A) → 0 < length xs → inclusive needle (xs ∷ []) ≡ xs ∷ []
  inclusive-some [] some = absurd (omega (arith, some))
  inclusive-some (x ∷ xs) some = refl

  are-of_nothing : (parts : List (List A)) → 0 < length needle → AreSubstrings needle [] parts → parts ≡ [] ∷ []
  are-of_nothing [] some are = absurd are
  are-of_nothing (part ∷ []) some are = ap (λ x. x ∷ []) are.0
  are-of_nothing (part ∷ next ∷ more) some are = absurd (omega (arith, some, are.0.here.within))

  -- The list is the only one if the separator occurs nowhere but at its end.
  are-one : (whole : List A) (parts : List (List A)) → 0 < length needle → OccursNowhere needle (take (length whole - 1) whole) → AreSubstrings needle whole parts → inclusive needle parts ≡ inclusive needle (whole ∷ [])
  are-one whole [] some none are = absurd are
  are-one whole (part ∷ []) some none are = ap (λ x. inclusive needle (x ∷ [])) are.0
  are-one whole (part ∷ next ∷ more) some none are =
      let n = length part + length needle in
      let body = take (length whole - 1) whole in
      elim (cases_lt n (length whole)) [
        | inl below ↦
            (let short : length body ≡ length whole - 1 = length-take-le (length whole - 1) whole (omega arith) in
            absurd (none (length part) (occurs-within needle whole body (drop (length whole - 1) whole) (length part) (sym (take-append-drop (length whole - 1) whole)) (omega (arith, below, short)) are.0.here)))
        | inr end ↦
            (let nil : drop n whole ≡ [] = nil_from_length (drop n whole) (omega (arith, end, length-drop n whole)) in
            let last : next ∷ more ≡ [] ∷ [] = are-of_nothing (next ∷ more) some (subst (λ xs. AreSubstrings needle xs (next ∷ more)) nil are.2) in
            let all : whole ≡ part ++ needle =
            parted needle whole (length part) are.0.here ∙ ap (λ xs. take (length part) whole ++ (needle ++ xs)) nil ∙ ap (λ xs. take (length part) whole ++ xs) (append-nil needle) ∙ ap (λ xs. xs ++ needle) (sym are.1) in
            ap (λ ls. inclusive needle (part ∷ ls)) last ∙ ap (λ xs. xs ∷ []) (sym all) ∙ sym (inclusive-some whole (omega (arith, some, are.0.here.within))))
      ]

inclusive-one : (needle whole : List ℕ) → 0 < length needle → OccursNowhere needle (take (length whole - 1) whole) → inclusive needle (substrings needle whole) ≡ inclusive needle (whole ∷ [])
inclusive-one needle whole some none = are-one needle whole (substrings needle whole) some none (substrings-are needle whole some)

-- What follows the last separator that something follows is the last one.
module _ (needle whole kept rest : List ℕ) (at : ℕ) (apart : NeverOverlaps needle) (some : 0 < length needle) (last : IsLastAt needle (take (length whole - 1) whole) at) (is_kept : kept ≡ take (at + length needle) whole) (is_rest : rest ≡ drop (at + length needle) whole) where
  abbrev body : List ℕ
  body = take (length whole - 1) whole

  abbrev prefix : List ℕ
  prefix = take at whole

  all : whole ≡ body ++ drop (length whole - 1) whole
  all = sym (take-append-drop (length whole - 1) whole)

  short : length body ≡ length whole - 1
  short = length-take-le (length whole - 1) whole (omega arith)

  occurs : OccursAt needle whole at
  occurs = occurs-further needle whole body (drop (length whole - 1) whole) at all last.here

  joined : whole ≡ prefix ++ (needle ++ rest)
  joined = parted needle whole at occurs ∙ ap (λ xs. prefix ++ (needle ++ xs)) (sym is_rest)

  kept-joined : kept ≡ prefix ++ (needle ++ [])
  kept-joined =
      let long : length (prefix ++ needle) ≡ at + length needle = omega (arith, length-append prefix needle, length-take-le at whole (omega (arith, occurs.within))) in
      is_kept ∙ ap (take (at + length needle)) (joined ∙ sym (append_assoc prefix needle rest)) ∙ ap (λ k. take k ((prefix ++ needle) ++ rest)) (sym long) ∙ take-append_seam (prefix ++ needle) rest ∙ ap (λ xs. prefix ++ xs) (sym (append-nil needle))

  long-rest : length rest + (at + length needle) ≡ length whole
  long-rest = omega (arith, ap length is_rest, length-drop (at + length needle) whole, occurs.within)

  none-in_rest : OccursNowhere needle (take (length rest - 1) rest)
  none-in_rest k there =
      let n = at + length needle in
      let front : length (take (length rest - 1) rest) ≡ length rest - 1 = length-take-le (length rest - 1) rest (omega arith) in
      let in_rest = occurs-further needle rest (take (length rest - 1) rest) (drop (length rest - 1) rest) k (sym (take-append-drop (length rest - 1) rest)) there in
      let in_whole = occurs-beyond needle whole n k occurs.within (subst (λ xs. OccursAt needle xs k) is_rest in_rest) in
      last.beyond (n + k) (omega (arith, some)) (occurs-within needle whole body (drop (length whole - 1) whole) (n + k) all (omega (arith, there.within, front, short, long-rest)) in_whole)

  pub inclusive-last : inclusive needle (substrings needle whole) ≡ inclusive needle (substrings needle kept) ++ rest ∷ []
  inclusive-last =
      let before = substrings needle prefix in
      let some_rest : 0 < length rest = omega (arith, last.here.within, short, some, long-rest) in
      let of_rest : inclusive needle (substrings needle rest) ≡ rest ∷ [] = inclusive-one needle rest some none-in_rest ∙ inclusive-some needle rest some_rest in
      let of_whole : inclusive needle (substrings needle whole) ≡ map (λ part. part ++ needle) before ++ rest ∷ [] =
      ap (inclusive needle) (substrings-around needle whole prefix rest apart some joined) ∙ inclusive-append needle before (substrings needle rest) (some-substrings needle rest) ∙ ap (λ ls. map (λ part. part ++ needle) before ++ ls) of_rest in
      let of_kept : inclusive needle (substrings needle kept) ≡ map (λ part. part ++ needle) before =
      ap (inclusive needle) (substrings-around needle kept prefix [] apart some kept-joined ∙ ap (λ ls. before ++ ls) (are-of_nothing needle (substrings needle []) some (substrings-are needle [] some)))
      ∙ inclusive-append needle before ([] ∷ []) (omega arith) ∙ append-nil (map (λ part. part ++ needle) before) in
      of_whole ∙ ap (λ ls. ls ++ rest ∷ []) (sym of_kept)

-- The same of units of any type, by their numbers.
module _ {X : Type 0} (number : X → ℕ) (needle : List ℕ) (us body : List X) (k : ℕ) (some : 0 < length needle) (is_body : body ≡ take k us) (short : k ≡ length us - 1) where
  body-is : map number body ≡ take (length (map number us) - 1) (map number us)
  body-is = ap (map number) is_body ∙ sym (take-map number k us) ∙ ap (λ n. take n (map number us)) {x = k} {y = length (map number us) - 1} (omega (arith, short, length-map us number))

  pub inclusive-only : OccursNowhere needle (map number body) → inclusive needle (substrings needle (map number us)) ≡ inclusive needle (map number us ∷ [])
  inclusive-only none = inclusive-one needle (map number us) some (subst (OccursNowhere needle) body-is none)

  pub inclusive-rest : (kept rest : List X) (at n : ℕ) → NeverOverlaps needle → n ≡ length needle → IsLastAt needle (map number body) at → kept ≡ take (at + n) us → rest ≡ drop (at + n) us
      → inclusive needle (substrings needle (map number us)) ≡ inclusive needle (substrings needle (map number kept)) ++ map number rest ∷ []
  inclusive-rest kept rest at n apart count last is_kept is_rest =
      inclusive-last needle (map number us) (map number kept) (map number rest) at apart some (subst (λ xs. IsLastAt needle xs at) body-is last)
      (ap (map number) is_kept ∙ sym (take-map number (at + n) us) ∙ ap (λ k. take (at + k) (map number us)) count)
      (ap (map number) is_rest ∙ sym (drop-map number (at + n) us) ∙ ap (λ k. drop (at + k) (map number us)) count)

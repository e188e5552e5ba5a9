-- Substrings with the separators after them.
use Rattle.std.proofs.Common.{◌≡◌, ℕ, ◌+◌, ◌<◌, ◌≤◌, List, [], ◌∷◌, ◌++◌, refl, sym, ◌∙◌, ap, arith, length, length-append, take, drop, append_assoc}
use Rattle.std.specs.Prelude.{map}
use Rattle.std.proofs.lemmas.List.{append-nil, length-map, length-take-le, take-map}
use Rattle.std.proofs.Math.Seq.{take-append_seam}
use Rattle.wide_search.specs.Cut.{substrings}
use Rattle.wide_search.specs.Occurrences.{IsFirstAt}
use Rattle.wide_search.specs.Substrings.{joined_with}
use Rattle.wide_search.specs.Laws.Cuts.{substrings-first, split-at}
use Rattle.wide_ustr.specs.Kept.{joined, followed_by, substrings_kept}
use Rattle.wide_ustr.specs.SplitInclusive.{inclusive}
use Rattle.wide_ustr.specs.SplitMore.{terminated}
use Rattle.wide_ustr.proofs.KeptCuts.{kept-cut}
use Rattle.wide_ustr.specs.KeptLaws.{whole-joined}

module _ {A : Type 0} (needle : List A) where
  -- They are what joins the substrings with the separator.
  joined-inclusive : (parts : List (List A)) → joined (inclusive needle parts) ≡ joined_with needle parts
  joined-inclusive [] = refl
  joined-inclusive ([] ∷ []) = refl
  joined-inclusive ((x ∷ xs) ∷ []) = append-nil (x ∷ xs)
  joined-inclusive (part ∷ next ∷ more) = append_assoc part needle (joined (inclusive needle (next ∷ more))) ∙ ap (λ xs. part ++ (needle ++ xs)) (joined-inclusive (next ∷ more))

  pub length-inclusive : (parts : List (List A)) → length (inclusive needle parts) ≤ length parts
  length-inclusive [] = omega arith
  length-inclusive ([] ∷ []) = omega arith
  length-inclusive ((x ∷ xs) ∷ []) = omega arith
  length-inclusive (part ∷ next ∷ more) = omega (arith, length-inclusive (next ∷ more))

  -- A substring that others follow has the separator after it.
  pub inclusive-next : (part : List A) (parts : List (List A)) → 0 < length parts → inclusive needle (part ∷ parts) ≡ (part ++ needle) ∷ inclusive needle parts
  inclusive-next part [] some = absurd (omega (arith, some))
  inclusive-next part (next ∷ more) some = refl

-- Nothing is lost.
pub inclusive-whole : (needle whole : List ℕ) → joined (inclusive needle (substrings needle whole)) ≡ whole
inclusive-whole needle whole = joined-inclusive needle (substrings needle whole) ∙ whole-joined needle whole

-- What keeps the separators, without an empty last one.
pub terminated-followed : {A : Type 0} (needle : List A) (parts : List (List A)) → terminated (followed_by needle parts) ≡ inclusive needle parts
terminated-followed needle [] = refl
terminated-followed needle ([] ∷ []) = refl
terminated-followed needle ((x ∷ xs) ∷ []) = refl
terminated-followed needle (part ∷ [] ∷ []) = refl
terminated-followed needle (part ∷ (x ∷ xs) ∷ []) = refl
terminated-followed needle (part ∷ next ∷ third ∷ more) = ap (λ ls. (part ++ needle) ∷ ls) (terminated-followed needle (next ∷ third ∷ more))

pub inclusive-kept : (needle whole : List ℕ) → terminated (substrings_kept needle whole) ≡ inclusive needle (substrings needle whole)
inclusive-kept needle whole = terminated-followed needle (substrings needle whole)

-- A substring that others follow is the first one.
pub terminated-next : {A : Type 0} (first : List A) (rest : List (List A)) → 0 < length rest → terminated (first ∷ rest) ≡ first ∷ terminated rest
terminated-next first [] some = absurd (omega (arith, some))
terminated-next [] (next ∷ more) some = refl
terminated-next (x ∷ xs) (next ∷ more) some = refl

-- From the back, what is known of the substrings with their separators is known of those that keep them.
pub inclusive-only-kept : (needle whole : List ℕ) → inclusive needle (substrings needle whole) ≡ inclusive needle (whole ∷ []) → terminated (substrings_kept needle whole) ≡ terminated (whole ∷ [])
inclusive-only-kept needle whole is = inclusive-kept needle whole ∙ is ∙ sym (terminated-followed needle (whole ∷ []))

pub inclusive-rest-kept : (needle whole kept rest : List ℕ) → inclusive needle (substrings needle whole) ≡ inclusive needle (substrings needle kept) ++ rest ∷ []
    → terminated (substrings_kept needle whole) ≡ terminated (substrings_kept needle kept) ++ rest ∷ []
inclusive-rest-kept needle whole kept rest is = inclusive-kept needle whole ∙ is ∙ ap (λ ps. ps ++ rest ∷ []) (sym (inclusive-kept needle kept))

-- Units are split after the first occurrence of a separator, given by its numbers.
pub cut-after : {X : Type 0} (number : X → ℕ) (needle : List ℕ) (us first rest : List X) (at n : ℕ) → 0 < length needle → n ≡ length needle → IsFirstAt needle (map number us) at → first ≡ take (at + n) us → rest ≡ drop (at + n) us
    → substrings_kept needle (map number us) ≡ map number first ∷ substrings_kept needle (map number rest)
cut-after number needle us first rest at n some count is is_first is_rest =
    let prefix = map number (take at us) in
    let others = map number rest in
    let split = split-at number needle us (take at us) rest at n count is refl is_rest in
    let long : length (prefix ++ needle) ≡ at + n = omega (arith, length-append prefix needle, length-map (take at us) number, length-take-le at us (omega (arith, is.here.within, length-map us number)), count) in
    let ends : map number first ≡ prefix ++ needle =
    ap (map number) is_first ∙ sym (take-map number (at + n) us) ∙ ap (take (at + n)) split.joined ∙ ap (λ k. take k (prefix ++ (needle ++ others))) (sym long)
    ∙ ap (take (length (prefix ++ needle))) (sym (append_assoc prefix needle others)) ∙ take-append_seam (prefix ++ needle) others in
    kept-cut needle (map number us) prefix others (substrings-first needle (map number us) prefix others some split) ∙ ap (λ vs. vs ∷ substrings_kept needle others) (sym ends)

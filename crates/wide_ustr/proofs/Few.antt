-- At most a number of substrings, one by one.
use Rattle.std.proofs.Common.{◌≡◌, ℕ, zero, suc, ◌-◌, ◌<◌, ◌≤◌, List, [], ◌∷◌, ◌++◌, arith, refl, sym, ap, ◌∙◌, length, length-append, length-take, take, drop}
use Rattle.std.proofs.lemmas.List.{append-nil}
use Rattle.wide_search.specs.Cut.{substrings}
use Rattle.wide_search.specs.Substrings.{joined_with}
use Rattle.wide_search.specs.Laws.Cuts.{some-substrings}
use Rattle.wide_ustr.specs.Kept.{joined, followed_by, in_one, limited, substrings_kept}
use Rattle.wide_ustr.specs.KeptLaws.{joined-followed, whole-joined}
use Rattle.wide_ustr.specs.SplitN.{all_in_one, splitn}

module _ {A : Type 0} (needle : List A) where
  abbrev nothing : List (List A)
  nothing = []

  take-nothing : (n : ℕ) → take n nothing ≡ nothing
  take-nothing zero = refl
  take-nothing (suc n) = refl

  drop-nothing : (n : ℕ) → drop n nothing ≡ nothing
  drop-nothing zero = refl
  drop-nothing (suc n) = refl

  all_in_one-some : (parts : List (List A)) → 0 < length parts → all_in_one needle parts ≡ joined_with needle parts ∷ []
  all_in_one-some [] some = absurd (omega (arith, some))
  all_in_one-some (part ∷ more) some = refl

  -- If there is one substring, it is the only one of any number.
  pub splitn-only : (cuts : ℕ) (part : List A) → splitn (suc cuts) needle (part ∷ []) ≡ part ∷ []
  splitn-only zero part = refl
  splitn-only (suc n) part = ap (λ ps. part ∷ ps) (ap (λ ps. ps ++ all_in_one needle (drop n nothing)) (take-nothing n) ∙ ap (all_in_one needle) (drop-nothing n))

  -- If there is to be one, it is all substrings joined.
  pub splitn-one : (count : ℕ) (parts : List (List A)) → count ≡ 1 → 0 < length parts → splitn count needle parts ≡ joined_with needle parts ∷ []
  splitn-one zero parts one some = absurd (omega (arith, one))
  splitn-one (suc zero) parts one some = all_in_one-some parts some
  splitn-one (suc (suc n)) parts one some = absurd (omega (arith, one))

  -- If what is left may be cut, the first one is the first substring.
  pub splitn-next : (cuts : ℕ) (part : List A) (parts : List (List A)) → 0 < cuts → splitn (suc cuts) needle (part ∷ parts) ≡ part ∷ splitn (suc (cuts - 1)) needle parts
  splitn-next zero part parts some = absurd (omega (arith, some))
  splitn-next (suc n) part parts some = let e : suc n - 1 ≡ n = omega arith in rw e refl

  all_in_one-one : (parts : List (List A)) → length (all_in_one needle parts) ≤ 1
  all_in_one-one [] = omega arith
  all_in_one-one (part ∷ more) = omega arith

  pub length-splitn : (count : ℕ) (parts : List (List A)) → length (splitn count needle parts) ≤ count
  length-splitn zero parts = omega arith
  length-splitn (suc n) parts = omega (arith, length-append (take n parts) (all_in_one needle (drop n parts)), length-take n parts, all_in_one-one (drop n parts))

  -- Nothing is lost.
  joined-next : (part : List A) (one others : List (List A)) → 0 < length one → 0 < length others → joined_with needle one ≡ joined_with needle others → joined_with needle (part ∷ one) ≡ joined_with needle (part ∷ others)
  joined-next part [] others a b e = absurd (omega (arith, a))
  joined-next part (p ∷ ps) [] a b e = absurd (omega (arith, b))
  joined-next part (p ∷ ps) (q ∷ qs) a b e = ap (λ us. part ++ (needle ++ us)) e

  some-splitn : (n : ℕ) (parts : List (List A)) → 0 < length parts → 0 < length (splitn (suc n) needle parts)
  some-splitn zero parts some = omega (arith, ap length (all_in_one-some parts some))
  some-splitn (suc n) [] some = absurd (omega (arith, some))
  some-splitn (suc n) (part ∷ parts) some = omega arith

  joined-splitn_of : (n : ℕ) (parts : List (List A)) → joined_with needle (splitn (suc n) needle parts) ≡ joined_with needle parts
  joined-splitn_of zero [] = refl
  joined-splitn_of zero (part ∷ parts) = refl
  joined-splitn_of (suc n) [] = refl
  joined-splitn_of (suc n) (part ∷ []) = ap (joined_with needle) (splitn-only (suc n) part)
  joined-splitn_of (suc n) (part ∷ next ∷ more) = joined-next part (splitn (suc n) needle (next ∷ more)) (next ∷ more) (some-splitn n (next ∷ more) (omega arith)) (omega arith) (joined-splitn_of n (next ∷ more))

  pub joined-splitn : (count : ℕ) (parts : List (List A)) → 0 < count → joined_with needle (splitn count needle parts) ≡ joined_with needle parts
  joined-splitn zero parts some = absurd (omega (arith, some))
  joined-splitn (suc n) parts some = joined-splitn_of n parts

-- If there is to be one, it is the whole view.
pub splitn-whole : (needle whole : List ℕ) (count : ℕ) → count ≡ 1 → splitn count needle (substrings needle whole) ≡ whole ∷ []
splitn-whole needle whole count one = splitn-one needle count (substrings needle whole) one (some-substrings needle whole) ∙ ap (λ us. us ∷ []) (whole-joined needle whole)

-- Joined with the separator, they are the whole view.
pub joined-substrings : (needle whole : List ℕ) (count : ℕ) → 0 < count → joined_with needle (splitn count needle (substrings needle whole)) ≡ whole
joined-substrings needle whole count some = joined-splitn needle count (substrings needle whole) some ∙ whole-joined needle whole

-- At most a number of the substrings with the separators that end them.
module _ {A : Type 0} (needle : List A) where
  in_one-followed : (n : ℕ) (parts : List (List A)) → in_one (drop n (followed_by needle parts)) ≡ all_in_one needle (drop n parts)
  in_one-followed n [] = ap in_one (drop-nothing needle n) ∙ sym (ap (all_in_one needle) (drop-nothing needle n))
  in_one-followed zero (part ∷ []) = ap (λ xs. xs ∷ []) (append-nil part)
  in_one-followed (suc n) (part ∷ []) = ap in_one (drop-nothing needle n) ∙ sym (ap (all_in_one needle) (drop-nothing needle n))
  in_one-followed zero (part ∷ next ∷ more) = ap (λ xs. xs ∷ []) (joined-followed needle (part ∷ next ∷ more))
  in_one-followed (suc n) (part ∷ next ∷ more) = in_one-followed n (next ∷ more)

  -- If all have the same separator, they are what is joined with it.
  pub limited-followed : (count : ℕ) (parts : List (List A)) → limited count parts (followed_by needle parts) ≡ splitn count needle parts
  limited-followed zero parts = refl
  limited-followed (suc n) parts = ap (λ ps. take n parts ++ ps) (in_one-followed n parts)

pub limited-kept : (count : ℕ) (needle whole : List ℕ) → limited count (substrings needle whole) (substrings_kept needle whole) ≡ splitn count needle (substrings needle whole)
limited-kept count needle whole = limited-followed needle count (substrings needle whole)

module _ {A : Type 0} where
  one-of_all : (kept : List (List A)) → 0 < length kept → in_one kept ≡ joined kept ∷ []
  one-of_all [] some = absurd (omega (arith, some))
  one-of_all (part ∷ more) some = refl

  -- If there is to be one, it is all that there is.
  pub limited-one : (count : ℕ) (whole : List A) (parts kept : List (List A)) → count ≡ 1 → joined kept ≡ whole → 0 < length kept → limited count parts kept ≡ whole ∷ []
  limited-one zero whole parts kept one all some = absurd (omega (arith, one))
  limited-one (suc zero) whole parts kept one all some = one-of_all kept some ∙ ap (λ xs. xs ∷ []) all
  limited-one (suc (suc n)) whole parts kept one all some = absurd (omega (arith, one))

  -- If nothing may be cut, all that is left is the only one.
  pub limited-last : (cuts : ℕ) (whole : List A) (parts kept : List (List A)) → cuts ≡ 0 → joined kept ≡ whole → 0 < length kept → limited (suc cuts) parts kept ≡ whole ∷ []
  limited-last zero whole parts kept none all some = one-of_all kept some ∙ ap (λ xs. xs ∷ []) all
  limited-last (suc n) whole parts kept none all some = absurd (omega (arith, none))

  -- If there is one substring, it is the only one of any number.
  pub limited-only : (cuts : ℕ) (part : List A) → limited (suc cuts) (part ∷ []) (part ∷ []) ≡ part ∷ []
  limited-only zero part = ap (λ xs. xs ∷ []) (append-nil part)
  limited-only (suc n) part = ap (λ ps. part ∷ ps) (ap (λ ps. ps ++ in_one (drop n (nothing part))) (take-nothing part n) ∙ ap in_one (drop-nothing part n))

  -- If what is left may be cut, the first one is the first substring.
  pub limited-next : (cuts : ℕ) (part first : List A) (parts kept : List (List A)) → 0 < cuts → limited (suc cuts) (part ∷ parts) (first ∷ kept) ≡ part ∷ limited (suc (cuts - 1)) parts kept
  limited-next zero part first parts kept some = absurd (omega (arith, some))
  limited-next (suc n) part first parts kept some = let e : suc n - 1 ≡ n = omega arith in rw e refl

-- What a separator is known to cut, by its units.
pub cut-by_needle : (cut : List ℕ → List (List ℕ)) (needle : List ℕ) → ((us : List ℕ) → cut us ≡ substrings needle us) → (whole part rest : List ℕ) → cut whole ≡ part ∷ cut rest → substrings needle whole ≡ part ∷ substrings needle rest
cut-by_needle cut needle law whole part rest is = sym (law whole) ∙ is ∙ ap (λ parts. part ∷ parts) (law rest)

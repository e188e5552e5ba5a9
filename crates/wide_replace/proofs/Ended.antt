-- A NUL after the last substring stays at the end, whatever takes the place of the needle.
use Rattle.std.proofs.Common.{◌≡◌, ℕ, zero, suc, ◌<◌, List, [], ◌∷◌, ◌++◌, inl, inr, refl, sym, ◌∙◌, ap, arith, length, append_assoc}
use Rattle.std.specs.Prelude.{map}
use Rattle.std.specs.List.{All}
use Rattle.std.proofs.lemmas.List.Elements.{All-head, All-tail}
use Rattle.wide_unit.specs.Nul.{HasNoNul}
use Rattle.wide_search.specs.Cut.{substrings}
use Rattle.wide_search.specs.Laws.Cuts.{some-substrings}
use Rattle.wide_ucstr.specs.CString.{IsCString, contents}
use Rattle.wide_ucstring.specs.Made.{EndsAsGiven}
use Rattle.wide_ucstring.proofs.Replaced.{with_nul, some_ended, none-append, joined-ended, joined-none, substrings-none, contents-none, EndsAlike}
use Rattle.wide_replace.specs.Replaced.{joined_first}
use Rattle.wide_replace.proofs.Joined.{joined_next}

module _ (with needle : List ℕ) where
  first-ended : (count : ℕ) (parts : List (List ℕ)) → 0 < length parts → joined_first count with needle (with_nul parts) ≡ joined_first count with needle parts ++ 0 ∷ []
  first-ended zero parts some = joined-ended needle parts some
  first-ended (suc count) [] some = absurd (omega (arith, some))
  first-ended (suc count) (last ∷ []) some = refl
  first-ended (suc count) (part ∷ next ∷ more) some =
      let joined = joined_first count with needle (next ∷ more) in
      joined_next count with needle part (with_nul (next ∷ more)) (some_ended with next more) ∙ ap (λ us. part ++ (with ++ us)) (first-ended count (next ∷ more) (omega arith))
      ∙ ap (λ us. part ++ us) (sym (append_assoc with joined (0 ∷ []))) ∙ sym (append_assoc part (with ++ joined) (0 ∷ []))

  first-none : (count : ℕ) (parts : List (List ℕ)) → HasNoNul with → HasNoNul needle → All HasNoNul parts → HasNoNul (joined_first count with needle parts)
  first-none zero parts none_with none all = joined-none needle parts none all
  first-none (suc count) [] none_with none all = λ i lt nul. absurd (omega (arith, lt))
  first-none (suc count) (last ∷ []) none_with none all = All-head HasNoNul last [] all
  first-none (suc count) (part ∷ next ∷ more) none_with none all =
      none-append part (with ++ joined_first count with needle (next ∷ more)) (All-head HasNoNul part (next ∷ more) all)
      (none-append with (joined_first count with needle (next ∷ more)) none_with (first-none count (next ∷ more) none_with none (All-tail HasNoNul part (next ∷ more) all)))

-- The first occurrences of a needle in a C string, with other units in their place.
pub first-alike : {X : Type 0} (number : X → ℕ) (count : ℕ) (with needle : List ℕ) (old : List X) → HasNoNul with → HasNoNul needle → IsCString (map number old) → EndsAlike number (joined_first count with needle) needle old
first-alike number count with needle old none_with none is =
    let us = map number (contents old) in
    record {
      ended = first-ended with needle count (substrings needle us) (some-substrings needle us);
      none = first-none with needle count (substrings needle us) none_with none (substrings-none needle us none (contents-none number old is));
    }

-- Units that are a C string end in a NUL, so none is added.
pub made-same : (us made : List ℕ) → IsCString us → EndsAsGiven us made → made ≡ us
made-same us made is (inl given) = given.1
made-same us made is (inr ended) = absurd (ended.0 is.at)

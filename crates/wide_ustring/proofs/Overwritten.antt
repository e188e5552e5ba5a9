-- Occurrences of a needle that are overwritten one by one.
use Rattle.std.proofs.Common.{◌≡◌, ℕ, ◌+◌, ◌-◌, ◌<◌, ◌≤◌, List, [], ◌∷◌, ◌++◌, refl, sym, ◌∙◌, ap, subst, arith, length, length-drop, take, drop, append_assoc, take-add}
use Rattle.std.specs.Prelude.{map}
use Rattle.std.proofs.lemmas.List.{map-append, length-take-le, take-append-drop, drop-drop}
use Rattle.wide_search.specs.Cut.{substrings}
use Rattle.wide_search.specs.Occurrences.{OccursAt, OccursNowhereFrom, IsFirstAt, IsFirstFrom, IsFirstSplit}
use Rattle.wide_search.specs.Substrings.{joined_with}
use Rattle.wide_search.specs.Laws.Cuts.{substrings-nowhere, substrings-split, substrings-empty, some-substrings}
use Rattle.wide_search.specs.Laws.Occurrences.{occurs-left, occurs-beyond, parted}

joined-next : (with part : List ℕ) (parts : List (List ℕ)) → 0 < length parts → joined_with with (part ∷ parts) ≡ part ++ (with ++ joined_with with parts)
joined-next with part [] some = absurd (omega (arith, some))
joined-next with part (next ∷ more) some = refl

module _ {X : Type 0} (needle whole : List X) (from at : ℕ) (within : from ≤ length whole) where
  -- The first occurrence from an offset on is the first one in what is left.
  first-left : IsFirstFrom needle whole from at → IsFirstAt needle (drop from whole) (at - from)
  first-left first =
      let same : at ≡ from + (at - from) = omega (arith, first.after) in
      record {
        here = occurs-left needle whole from (at - from) (subst (λ k. OccursAt needle whole k) same first.here);
        before = λ earlier l occurs. first.before (from + earlier) (omega arith) (omega (arith, l, same)) (occurs-beyond needle whole from earlier within occurs);
      }

module _ {X : Type 0} (number : X → ℕ) (same : (x y : X) → number x ≡ number y → x ≡ y) (needle with : List X) where
  -- The numbers of units after all occurrences from an offset on are overwritten.
  abbrev pub overwritten : List X → ℕ → List ℕ
  overwritten us at = map number (take at us) ++ joined_with (map number with) (substrings (map number needle) (map number (drop at us)))

  -- One more occurrence was overwritten.
  pub overwritten-one : (us new : List X) (at found n : ℕ) → at ≤ length us → 0 < length needle → n ≡ length needle → IsFirstFrom needle us at found → take (found + n) new ≡ take found us ++ with → drop (found + n) new ≡ drop (found + n) us
      → overwritten us at ≡ overwritten new (found + n)
  overwritten-one us new at found n within some count first is_prefix is_rest =
      let left = drop at us in
      let k = found - at in
      let prefix = take k left in
      let rest = drop (k + length needle) left in
      let here = first-left needle us at found within first in
      let long : length prefix ≡ k = length-take-le k left (omega (arith, here.here.within)) in
      let split : IsFirstSplit needle left prefix rest = record {
        joined = parted needle left k here.here;
        first = subst (λ j. IsFirstAt needle left j) (sym long) here;
      } in
      let more = joined_with (map number with) (substrings (map number needle) (map number rest)) in
      let cut = ap (joined_with (map number with)) (substrings-split number same needle left prefix rest some split) ∙ joined-next (map number with) (map number prefix) (substrings (map number needle) (map number rest)) (some-substrings (map number needle) (map number rest)) in
      let before : take found us ≡ take at us ++ prefix = ap (λ j. take j us) {x = found} {y = at + k} (omega (arith, first.after)) ∙ take-add at k us in
      let beyond : rest ≡ drop (found + n) new =
      drop-drop (k + length needle) at us ∙ ap (λ j. drop j us) {x = at + (k + length needle)} {y = found + n} (omega (arith, first.after, count)) ∙ sym is_rest in
      let done : map number (take at us) ++ (map number prefix ++ (map number with ++ more)) ≡ map number (take (found + n) new) ++ more =
      sym (append_assoc (map number (take at us)) (map number prefix) (map number with ++ more))
      ∙ sym (append_assoc (map number (take at us) ++ map number prefix) (map number with) more)
      ∙ ap (λ xs. (xs ++ map number with) ++ more) (sym (map-append number (take at us) prefix) ∙ ap (map number) (sym before))
      ∙ ap (λ xs. xs ++ more) (sym (map-append number (take found us) with) ∙ ap (map number) (sym is_prefix))
      in
      ap (λ xs. map number (take at us) ++ xs) cut ∙ done ∙ ap (λ xs. map number (take (found + n) new) ++ joined_with (map number with) (substrings (map number needle) (map number xs))) beyond

  -- No occurrence is left.
  pub overwritten-none : (us : List X) (at : ℕ) → at ≤ length us → OccursNowhereFrom needle us at → overwritten us at ≡ map number us
  overwritten-none us at within none =
      let left = drop at us in
      let nowhere : (k : ℕ) → ¬ (OccursAt needle left k) = λ k occurs. none (at + k) (omega arith) (occurs-beyond needle us at k within occurs) in
      ap (λ parts. map number (take at us) ++ joined_with (map number with) parts) (substrings-nowhere number same needle left nowhere)
      ∙ sym (map-append number (take at us) left) ∙ ap (map number) (take-append-drop at us)

  -- An empty needle overwrites nothing.
  pub overwritten-empty : (us : List X) → needle ≡ [] → map number us ≡ joined_with (map number with) (substrings (map number needle) (map number us))
  overwritten-empty us e = sym (ap (joined_with (map number with)) (substrings-empty number same needle us e))

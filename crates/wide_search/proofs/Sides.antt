-- Occurrences by the numbers of the units counted from either side, and as slices of the units.
use Rattle.std.proofs.Common.{◌≡◌, ℕ, ◌+◌, ◌-◌, ◌<◌, ◌≤◌, true, false, List, length, get_or, map, take, drop, inl, inr, sym, ap, ◌∙◌, arith, length-drop, length-take}
use Rattle.std.proofs.Common.{get_or-drop, get_or-take}
use Rattle.std.proofs.lemmas.Bool.{cases_lt}
use Rattle.std.proofs.lemmas.List.{length-map, ext_get_or}
use Rattle.std.proofs.lemmas.Simd.{map-map}
use Rattle.wide_search.specs.Laws.Numbers.{occurs-numbers, occurs-units}
use Rattle.wide_search.specs.NextOccurrences.{number_read, OccursFrom}
use Rattle.wide_search.specs.Occurrences.{OccursAt}

-- The numbers at the indices of an occurrence are those of the needle.
pub reads-of : (needle us : List ℕ) (at : ℕ) → OccursAt needle us at → (j : ℕ) → j < length needle → get_or us (at + j) 0 ≡ get_or needle j 0
reads-of needle us at occurs j l = sym (get_or-drop at us j 0) ∙ sym (get_or-take (length needle) (drop at us) j 0 l) ∙ ap (λ xs. get_or xs j 0) occurs.same

occurs-of : (needle us : List ℕ) (at : ℕ) → at + length needle ≤ length us → ((j : ℕ) → j < length needle → get_or us (at + j) 0 ≡ get_or needle j 0) → OccursAt needle us at
occurs-of needle us at within reads =
    let long : length (take (length needle) (drop at us)) ≡ length needle = simp (length-take, length-drop) (omega (arith, within)) in
    record {
      within = within;
      same = ext_get_or 0 (take (length needle) (drop at us)) needle long (λ j l.
          let l2 : j < length needle = omega (arith, l, long) in
          get_or-take (length needle) (drop at us) j 0 l2 ∙ get_or-drop at us j 0 ∙ reads j l2);
    }

-- An occurrence by the numbers that are read of the units, and one in the list of these numbers.
module _ {X : Type 0} (read : ℕ → ℕ) (number : X → ℕ) (needle us : List X) where
  read-all : (xs : List X) → map (number_read read number) xs ≡ map read (map number xs)
  read-all xs = sym (map-map read number xs)

  length-read : (xs : List X) → length (map read (map number xs)) ≡ length xs
  length-read xs = length-map (map number xs) read ∙ length-map xs number

  -- An occurrence counted from the beginning is one in the list.
  pub occurs-as_read : (at : ℕ) → OccursFrom false (number_read read number) needle us at → OccursAt (map read (map number needle)) (map read (map number us)) at
  occurs-as_read at occurs = occurs-of (map read (map number needle)) (map read (map number us)) at (omega (arith, occurs.fits, length-read needle, length-read us)) (λ j l.
      sym (ap (λ xs. get_or xs (at + j) 0) (read-all us)) ∙ occurs.reads j (omega (arith, l, length-read needle)) ∙ ap (λ xs. get_or xs j 0) (read-all needle))

  -- An occurrence in the list is one counted from the beginning.
  as_read-occurs : (at : ℕ) → OccursAt (map read (map number needle)) (map read (map number us)) at → OccursFrom false (number_read read number) needle us at
  as_read-occurs at occurs = record {
    fits = omega (arith, occurs.within, length-read needle, length-read us);
    reads = λ j l. ap (λ xs. get_or xs (at + j) 0) (read-all us) ∙ reads-of (map read (map number needle)) (map read (map number us)) at occurs j (omega (arith, l, length-read needle)) ∙ sym (ap (λ xs. get_or xs j 0) (read-all needle));
  }

  -- If there is no occurrence before an offset, there is none before where a search from that offset on stopped.
  pub none-to_stop_as_read : (from at : ℕ) → ((k : ℕ) → k < from → ¬ (OccursAt (map read (map number needle)) (map read (map number us)) k)) → ((k : ℕ) → from ≤ k → k < at → ¬ (OccursFrom false (number_read read number) needle us k))
      → (k : ℕ) → k < at → ¬ (OccursAt (map read (map number needle)) (map read (map number us)) k)
  none-to_stop_as_read from at none passed k l occurs = elim (cases_lt k from) [
    | inl earlier ↦ none k earlier occurs
    | inr later ↦ passed k later l (as_read-occurs k occurs)
  ]

module _ {X : Type 0} (number : X → ℕ) (same : (x y : X) → number x ≡ number y → x ≡ y) (needle us : List X) where
  reads-units : (at : ℕ) → OccursAt needle us at → (j : ℕ) → j < length needle → get_or (map number us) (at + j) 0 ≡ get_or (map number needle) j 0
  reads-units at occurs j l = reads-of (map number needle) (map number us) at (occurs-numbers number needle us at occurs) j (omega (arith, l, length-map needle number))

  occurs-read : (at : ℕ) → at + length needle ≤ length us → ((j : ℕ) → j < length needle → get_or (map number us) (at + j) 0 ≡ get_or (map number needle) j 0) → OccursAt needle us at
  occurs-read at within reads =
      occurs-units number same needle us at (occurs-of (map number needle) (map number us) at (omega (arith, within, length-map needle number, length-map us number)) (λ j l. reads j (omega (arith, l, length-map needle number))))

  -- An occurrence counted from the beginning is one of the slice.
  pub occurs-front : (at : ℕ) → OccursFrom false number needle us at → OccursAt needle us at
  occurs-front at occurs = occurs-read at occurs.fits occurs.reads

  -- An occurrence of the slice is one counted from the beginning.
  pub front-occurs : (at : ℕ) → OccursAt needle us at → OccursFrom false number needle us at
  front-occurs at occurs = record { fits = occurs.within; reads = reads-units at occurs }

  -- An occurrence counted from the end is one of the slice, at the offset counted from the beginning.
  pub occurs-back : (at : ℕ) → OccursFrom true number needle us at → OccursAt needle us (length us - length needle - at)
  occurs-back at occurs = occurs-read (length us - length needle - at) (omega (arith, occurs.fits)) (λ j l.
      let e : length us - 1 - (at + (length needle - 1 - j)) ≡ length us - length needle - at + j = omega (arith, l, occurs.fits) in
      let e2 : length needle - 1 - (length needle - 1 - j) ≡ j = omega (arith, l) in
      sym (ap (λ k. get_or (map number us) k 0) e) ∙ occurs.reads (length needle - 1 - j) (omega (arith, l)) ∙ ap (λ k. get_or (map number needle) k 0) e2)

  -- An occurrence of the slice is one counted from the end.
  pub back-occurs : (at : ℕ) → OccursAt needle us at → OccursFrom true number needle us (length us - length needle - at)
  back-occurs at occurs = record {
    fits = omega (arith, occurs.within);
    reads = λ j l.
        let e : length us - 1 - (length us - length needle - at + j) ≡ at + (length needle - 1 - j) = omega (arith, l, occurs.within) in
        ap (λ k. get_or (map number us) k 0) e ∙ reads-units at occurs (length needle - 1 - j) (omega (arith, l));
  }

  -- If there is no occurrence before an offset, there is none before where a search from that offset on stopped.
  pub none-to_stop : (from at : ℕ) → ((k : ℕ) → k < from → ¬ (OccursAt needle us k)) → ((k : ℕ) → from ≤ k → k < at → ¬ (OccursFrom false number needle us k)) → (k : ℕ) → k < at → ¬ (OccursAt needle us k)
  none-to_stop from at none passed k l occurs = elim (cases_lt k from) [
    | inl earlier ↦ none k earlier occurs
    | inr later ↦ passed k later l (front-occurs k occurs)
  ]

  -- If there is no occurrence from `end` on, there is none from where a search from the end before it stopped.
  pub none-from_stop : (end from at : ℕ) → from + end + length needle ≡ length us + 1 → ((k : ℕ) → end ≤ k → ¬ (OccursAt needle us k)) → ((k : ℕ) → from ≤ k → k < at → ¬ (OccursFrom true number needle us k))
      → (k : ℕ) → from + end ≤ at + k → ¬ (OccursAt needle us k)
  none-from_stop end from at counted none passed k le occurs = elim (cases_lt k end) [
    | inl earlier ↦ passed (length us - length needle - k) (omega (arith, earlier, counted, occurs.within)) (omega (arith, le, counted, occurs.within)) (back-occurs k occurs)
    | inr later ↦ none k later occurs
  ]

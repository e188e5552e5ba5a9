-- Units without regard to the case of ASCII letters.
use Rattle.std.proofs.Common.{◌≡◌, ◌⊎◌, ℕ, ◌+◌, ◌-◌, ◌<◌, ◌≤◌, true, eqb, List, get_or, length, map, take, drop, inl, inr, refl, sym, ap, ◌∙◌, arith, length-take, length-drop, get_or-take, get_or-drop}
use Rattle.std.specs.Prelude.{◌↔◌, IsTrue}
use Rattle.std.specs.Char.{to_ascii_lowercase, to_ascii_uppercase}
use Rattle.std.proofs.lemmas.Bool.{cases_lt, eq-eqb, eqb-true}
use Rattle.std.proofs.lemmas.List.{length-map, drop-map, take-map, take_all}
use Rattle.std.proofs.lemmas.Str.Ascii.{lowercase_is, uppercase_is}
use Rattle.std.proofs.Math.ListN.{get_or-map}
use Rattle.wide_unit.specs.CommonPrefix.{IsCommonPrefix}
use Rattle.wide_unit.proofs.Alike.{made-at}
use Rattle.wide_search.specs.Lowercased.{lowercased}
use Rattle.wide_search.specs.Occurrences.{OccursAt, BeginsWith, EndsWith}
use Rattle.wide_search.specs.Probes.{are_units, is_either, are_either, BothMatchAt, EitherMatchesAt}
use Rattle.wide_search.specs.declared.either.Either.{Either}
use Rattle.wide_search.proofs.Offsets.{begins-reported, ends-reported}
use Rattle.wide_search.proofs.Prefixes.{occurs-if_shared}
use Rattle.wide_search.proofs.Probing.{both-true}
use Rattle.wide_search.proofs.Sides.{reads-of}

-- A number that is the same as another in lower case is that number in lower case or in upper case.
in-either_case : (u v : ℕ) → to_ascii_lowercase u ≡ to_ascii_lowercase v → (u ≡ to_ascii_lowercase v) ⊎ (u ≡ to_ascii_uppercase v)
in-either_case u v same = elim (cases_lt u 65) [
  | inl below ↦ inl (sym ((lowercase_is u).1 below) ∙ same)
  | inr from ↦ elim (cases_lt 90 u) [
    | inl past ↦ inl (sym ((lowercase_is u).2 past) ∙ same)
    | inr to ↦ (
        let letter = (lowercase_is u).0 (from, to) in
        elim (cases_lt v 65) [
          | inl below ↦ absurd (omega (arith, letter, same, (lowercase_is v).1 below))
          | inr from2 ↦ elim (cases_lt 90 v) [
            | inl past ↦ (
                let itself = (lowercase_is v).2 past in
                let lower = (uppercase_is v).0 (omega (arith, letter, same, itself), omega (arith, letter, same, itself)) in
                inr (omega (arith, letter, same, itself, lower)))
            | inr to2 ↦ inr (omega (arith, letter, same, (lowercase_is v).0 (from2, to2), (uppercase_is v).1 (omega (arith, to2))))
          ]
        ])
  ]
]

is-either : (either : Either ℕ) (u v : ℕ) → either.one ≡ to_ascii_lowercase v → either.other ≡ to_ascii_uppercase v → to_ascii_lowercase u ≡ to_ascii_lowercase v → is_either (λ n. n) either u ≡ true
is-either either u v one other same = elim (in-either_case u v same) [
  | inl lower ↦ (let e : u ≡ either.one = lower ∙ sym one in grind (arith, e))
  | inr upper ↦ (let e : u ≡ either.other = upper ∙ sym other in grind (arith, e))
]

either-true : (first last : Either ℕ) (u v : ℕ) → is_either (λ n. n) first u ≡ true → is_either (λ n. n) last v ≡ true → are_either (λ n. n) first last u v ≡ true
either-true first last u v e e2 = grind (arith, e, e2)

parts : (u v m n : ℕ) → are_units m n u v ≡ true → (u ≡ m) × (v ≡ n)
parts u v m n both = (grind (arith, both), grind (arith, both))

-- Where two units match in lower case, each is one of its two cases.
pub either-of_lowercase : (first last : Either ℕ) (v w : ℕ) (front back : List ℕ) (k : ℕ) → first.one ≡ to_ascii_lowercase v → first.other ≡ to_ascii_uppercase v → last.one ≡ to_ascii_lowercase w → last.other ≡ to_ascii_uppercase w
    → BothMatchAt (to_ascii_lowercase v) (to_ascii_lowercase w) (lowercased front) (lowercased back) k → EitherMatchesAt (λ n. n) first last front back k
either-of_lowercase first last v w front back k one other one2 other2 holds =
    let f : get_or (lowercased front) k 0 ≡ to_ascii_lowercase (get_or front k 0) = get_or-map to_ascii_lowercase front k 0 in
    let b : get_or (lowercased back) k 0 ≡ to_ascii_lowercase (get_or back k 0) = get_or-map to_ascii_lowercase back k 0 in
    let both = parts (get_or (lowercased front) k 0) (get_or (lowercased back) k 0) (to_ascii_lowercase v) (to_ascii_lowercase w) holds in
    either-true first last (get_or front k 0) (get_or back k 0) (is-either first (get_or front k 0) v one other (sym f ∙ both.0)) (is-either last (get_or back k 0) w one2 other2 (sym b ∙ both.1))

-- ---- the numbers of units in lower case

module _ {X : Type 0} (number : X → ℕ) where
  pub length-lowercased : (xs : List X) → length (lowercased (map number xs)) ≡ length xs
  length-lowercased xs = length-map (map number xs) to_ascii_lowercase ∙ length-map xs number

  pub lowercased-drop : (n : ℕ) (xs rest : List X) → rest ≡ drop n xs → lowercased (map number rest) ≡ drop n (lowercased (map number xs))
  lowercased-drop n xs rest is = ap (λ ys. lowercased (map number ys)) is ∙ sym (drop-map to_ascii_lowercase n (map number xs) ∙ ap lowercased (drop-map number n xs))

  lowercased-take : (n : ℕ) (xs front : List X) → front ≡ take n xs → lowercased (map number front) ≡ take n (lowercased (map number xs))
  lowercased-take n xs front is = ap (λ ys. lowercased (map number ys)) is ∙ sym (take-map to_ascii_lowercase n (map number xs) ∙ ap lowercased (take-map number n xs))

  -- Where a needle occurs, its first and its last unit match.
  pub ends-match : (needle us rest firsts lasts : List X) (first last : X) (distance count k : ℕ) → length needle ≡ distance + 1 → first ≡ get_or needle 0 first → last ≡ get_or needle distance last
      → firsts ≡ take count us → rest ≡ drop distance us → lasts ≡ take count rest → k < count → OccursAt (lowercased (map number needle)) (lowercased (map number us)) k
      → BothMatchAt (to_ascii_lowercase (number first)) (to_ascii_lowercase (number last)) (lowercased (map number firsts)) (lowercased (map number lasts)) k
  ends-match needle us rest firsts lasts first last distance count k long is_first is_last front left back l occurs =
      let low = lowercased (map number us) in
      let reads = reads-of (lowercased (map number needle)) low k occurs in
      let none : k ≡ k + 0 = omega arith in
      let swap : distance + k ≡ k + distance = omega arith in
      both-true (to_ascii_lowercase (number first)) (to_ascii_lowercase (number last)) (get_or (lowercased (map number firsts)) k 0) (get_or (lowercased (map number lasts)) k 0)
      (ap (λ xs. get_or xs k 0) (lowercased-take count us firsts front) ∙ get_or-take count low k 0 l ∙ ap (λ j. get_or low j 0) none ∙ reads 0 (omega (arith, long, length-lowercased needle)) ∙ made-at number to_ascii_lowercase needle 0 first (omega (arith, long)) is_first)
      (ap (λ xs. get_or xs k 0) (lowercased-take count rest lasts back) ∙ get_or-take count (lowercased (map number rest)) k 0 l ∙ ap (λ xs. get_or xs k 0) (lowercased-drop distance us rest left) ∙ get_or-drop distance low k 0
      ∙ ap (λ j. get_or low j 0) swap ∙ reads distance (omega (arith, long, length-lowercased needle)) ∙ made-at number to_ascii_lowercase needle distance last (omega (arith, long)) is_last)

-- ---- whether the prefix that a needle and units share is the needle

shared-whole : (needle us : List ℕ) (n m : ℕ) → IsCommonPrefix needle us n → m ≡ length needle → IsTrue (eqb n m) ↔ (take (length needle) us ≡ needle)
shared-whole needle us n m shared long = (
  λ whole. ((occurs-if_shared needle us n shared).1 (eqb-true n m whole ∙ long)).same,
  λ same. eq-eqb n m ((occurs-if_shared needle us n shared).0 (record { within = omega (arith, ap length same, length-take (length needle) us); same = same }) ∙ sym long),
)

module _ {X : Type 0} (number : X → ℕ) (needle us : List X) where
  pub begins-shared : (n : ℕ) → IsCommonPrefix (lowercased (map number needle)) (lowercased (map number us)) n → IsTrue (eqb n (length needle)) ↔ BeginsWith (lowercased (map number needle)) (lowercased (map number us))
  begins-shared n shared =
      let low = lowercased (map number needle) in
      let lows = lowercased (map number us) in
      begins-reported low lows (take (length low) lows) refl (shared-whole low lows n (length needle) shared (sym (length-lowercased number needle)))

  pub ends-shared : (n : ℕ) (end : List X) → length needle ≤ length us → end ≡ drop (length us - length needle) us → IsCommonPrefix (lowercased (map number needle)) (lowercased (map number end)) n
      → IsTrue (eqb n (length needle)) ↔ EndsWith (lowercased (map number needle)) (lowercased (map number us))
  ends-shared n end fits is shared =
      let low = lowercased (map number needle) in
      let lows = lowercased (map number us) in
      let last = lowercased (map number end) in
      let at : length us - length needle ≡ length lows - length low = omega (arith, length-lowercased number needle, length-lowercased number us) in
      let whole = shared-whole low last n (length needle) shared (sym (length-lowercased number needle)) in
      let all : take (length low) last ≡ last = take_all (length low) last (omega (arith, fits, ap length is, length-drop (length us - length needle) us, length-lowercased number needle, length-lowercased number end)) in
      ends-reported low lows last (lowercased-drop number (length us - length needle) us end is ∙ ap (λ k. drop k lows) at) (λ t. sym all ∙ whole.0 t, λ same. whole.1 (all ∙ same))

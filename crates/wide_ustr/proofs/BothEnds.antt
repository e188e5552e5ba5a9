-- A separator that cannot overlap itself splits a list into the same substrings from both ends, and so does a set of
-- characters.
use Rattle.std.proofs.Common.{◌≡◌, ℕ, ◌+◌, ◌-◌, ◌<◌, ◌≤◌, Bool, true, false, List, [], ◌∷◌, ◌++◌, inl, inr, refl, sym, ◌∙◌, ap, subst, arith, length, length-append, length-drop, take, drop, append_assoc}
use Rattle.std.specs.Char.{IsScalar}
use Rattle.std.specs.List.{All}
use Rattle.std.specs.Prelude.{◌↔◌, ◌||◌, not, if◌then◌else◌, map, IsTrue, MatchOption, Option, Some, None, ⊤}
use Rattle.std.specs.Iterator.{YieldsLastBy, MakesProgress, at_most}
use Rattle.std.proofs.lemmas.Bool.{cases_eq, cases_lt}
use Rattle.std.proofs.lemmas.List.{append-nil, drop-append-le, drop-drop, drop-map, map-append, take-append-le, take-map}
use Rattle.std.proofs.lemmas.List.Elements.{All-same, filter-append}
use Rattle.std.proofs.Math.Seq.{take-append_seam, drop-append_seam, drop-append-add}
use Rattle.wide_forms.specs.EncodingForm.{EncodingForm, Utf16, Utf32, code_units}
use Rattle.wide_forms.specs.Segmentation.{Item, Char, Fault, units_of}
use Rattle.wide_forms.specs.Items.{items}
use Rattle.wide_forms.specs.Laws.Chains.{Chain, MayPrecede}
use Rattle.wide_forms.specs.Laws.Forms.{ranges, one_unit, two_units, high_of, low_of}
use Rattle.wide_forms.specs.Laws.Items.{items-chain, items-nil, items-of_chain}
use Rattle.wide_search.specs.Occurrences.{OccursAt, OccursNowhere, IsFirstAt, IsLastSplit}
use Rattle.wide_search.specs.Substrings.{AreSubstrings}
use Rattle.wide_search.specs.Cut.{substrings, substrings-are}
use Rattle.wide_search.specs.Sets.{is_member, onto_first, between, substrings_between, IsLongestSuffix}
use Rattle.wide_search.specs.Laws.Cuts.{substrings-none}
use Rattle.wide_search.specs.Laws.Occurrences.{occurs-beyond, substrings-unique}
use Rattle.wide_search.proofs.Members.{between-none, between-whole, units-before, units-from}
use Rattle.wide_ustr.specs.SplitMore.{filled, terminated}
use Rattle.wide_ustr.proofs.Mirrored.{occurs-between}

module _ {A : Type 0} where
  -- Of two occurrences of the needle in a list, one ends before the other begins.
  abbrev pub NeverOverlaps : List A → Type 0
  NeverOverlaps needle = (whole : List A) (one other : ℕ) → OccursAt needle whole one → OccursAt needle whole other → one < other → one + length needle ≤ other

  -- A needle of one element never overlaps itself.
  pub one-apart : (x : A) → NeverOverlaps (x ∷ [])
  one-apart x whole one other here there below = omega (arith, below)

  second-is_first : (x y : A) (xs : List A) → take 2 xs ≡ x ∷ y ∷ [] → take 2 (drop 1 xs) ≡ x ∷ y ∷ [] → y ≡ x
  second-is_first x y [] here there = cc
  second-is_first x y (a ∷ []) here there = cc
  second-is_first x y (a ∷ b ∷ xs) here there = cc

  -- A needle of two different elements never overlaps itself.
  pub two-apart : (x y : A) → ¬ (y ≡ x) → NeverOverlaps (x ∷ y ∷ [])
  two-apart x y differ whole one other here there below = elim (cases_eq other (one + 1)) [
    | inl next ↦
        (let shifted : take 2 (drop 1 (drop one whole)) ≡ x ∷ y ∷ [] = ap (take 2) (drop-drop 1 one whole ∙ ap (λ n. drop n whole) (sym next)) ∙ there.same in
        absurd (differ (second-is_first x y (drop one whole) here.same shifted)))
    | inr beyond ↦ grind (arith, below, beyond)
  ]

  -- What occurs in a list within a prefix occurs in the prefix, and the other way round.
  pub occurs-within : (needle whole prefix more : List A) (at : ℕ) → whole ≡ prefix ++ more → at + length needle ≤ length prefix → OccursAt needle whole at → OccursAt needle prefix at
  occurs-within needle whole prefix more at joined within occurs = record {
    within = within;
    same = sym (take-append-le (length needle) (drop at prefix) more (omega (arith, within, length-drop at prefix))) ∙ ap (take (length needle)) (sym (drop-append-le at prefix more (omega (arith, within)))) ∙ ap (λ xs. take (length needle) (drop at xs)) (sym joined) ∙ occurs.same;
  }

  pub occurs-further : (needle whole prefix more : List A) (at : ℕ) → whole ≡ prefix ++ more → OccursAt needle prefix at → OccursAt needle whole at
  occurs-further needle whole prefix more at joined occurs = record {
    within = omega (arith, occurs.within, ap length joined, length-append prefix more);
    same = ap (λ xs. take (length needle) (drop at xs)) joined ∙ ap (take (length needle)) (drop-append-le at prefix more (omega (arith, occurs.within)))
        ∙ take-append-le (length needle) (drop at prefix) more (omega (arith, occurs.within, length-drop at prefix)) ∙ occurs.same;
  }

  -- The substrings of what is before an occurrence, and those of what follows it, are the substrings of the list.
  are-around : (needle whole prefix rest : List A) (parts others : List (List A)) → NeverOverlaps needle → whole ≡ prefix ++ (needle ++ rest) → AreSubstrings needle prefix parts → AreSubstrings needle rest others → AreSubstrings needle whole (parts ++ others)
  are-around needle whole prefix rest [] others apart joined are are_rest = absurd are
  are-around needle whole prefix rest (part ∷ []) [] apart joined are are_rest = absurd are_rest
  are-around needle whole prefix rest (part ∷ []) (other ∷ others) apart joined are are_rest =
      let same : length part ≡ length prefix = ap length are.0 in
      let here : OccursAt needle whole (length part) = subst (λ n. OccursAt needle whole n) (sym same) (occurs-between needle whole prefix rest joined) in
      let first : IsFirstAt needle whole (length part) = record {
        here = here;
        before = λ earlier below occurs. are.1 earlier (occurs-within needle whole prefix (needle ++ rest) earlier joined (omega (arith, same, apart whole earlier (length part) occurs here below)) occurs);
      } in
      let front : part ≡ take (length part) whole = are.0 ∙ sym (take-append_seam prefix (needle ++ rest)) ∙ ap (take (length prefix)) (sym joined) ∙ ap (λ n. take n whole) (sym same) in
      let beyond : drop (length part + length needle) whole ≡ rest =
      ap (λ n. drop (n + length needle) whole) same ∙ ap (drop (length prefix + length needle)) joined ∙ drop-append-add prefix (needle ++ rest) (length needle) ∙ drop-append_seam needle rest in
      (first, front, subst (λ xs. AreSubstrings needle xs (other ∷ others)) (sym beyond) are_rest)
  are-around needle whole prefix rest (part ∷ next ∷ more) others apart joined are are_rest =
      let n = length part + length needle in
      let first : IsFirstAt needle whole (length part) = record {
        here = occurs-further needle whole prefix (needle ++ rest) (length part) joined are.0.here;
        before = λ earlier below occurs. are.0.before earlier below (occurs-within needle whole prefix (needle ++ rest) earlier joined (omega (arith, below, are.0.here.within)) occurs);
      } in
      let front : part ≡ take (length part) whole =
      are.1 ∙ sym (take-append-le (length part) prefix (needle ++ rest) (omega (arith, are.0.here.within))) ∙ ap (take (length part)) (sym joined) in
      let shorter : drop n whole ≡ drop n prefix ++ (needle ++ rest) = ap (drop n) joined ∙ drop-append-le n prefix (needle ++ rest) are.0.here.within in
      (first, front, are-around needle (drop n whole) (drop n prefix) rest (next ∷ more) others apart shorter are.2 are_rest)

-- The substrings of what is before an occurrence, and those of what follows it, are the substrings of the list.
pub substrings-around : (needle whole prefix rest : List ℕ) → NeverOverlaps needle → 0 < length needle → whole ≡ prefix ++ (needle ++ rest) → substrings needle whole ≡ substrings needle prefix ++ substrings needle rest
substrings-around needle whole prefix rest apart some joined =
    substrings-unique needle (substrings needle whole) (substrings needle prefix ++ substrings needle rest) whole (substrings-are needle whole some)
    (are-around needle whole prefix rest (substrings needle prefix) (substrings needle rest) apart joined (substrings-are needle prefix some) (substrings-are needle rest some))

-- The needle does not occur after its last occurrence.
nowhere-beyond : (needle whole prefix rest : List ℕ) → 0 < length needle → IsLastSplit needle whole prefix rest → OccursNowhere needle rest
nowhere-beyond needle whole prefix rest some split at occurs =
    let n = length prefix + length needle in
    let long : n ≤ length whole = omega (arith, split.last.here.within) in
    let beyond : drop n whole ≡ rest = ap (drop n) split.joined ∙ drop-append-add prefix (needle ++ rest) (length needle) ∙ drop-append_seam needle rest in
    split.last.beyond (n + at) (omega (arith, some)) (occurs-beyond needle whole n at long (subst (λ xs. OccursAt needle xs at) (sym beyond) occurs))

-- The last substring is what follows the last occurrence, and the others are those of what is before it.
pub substrings-last : (needle whole prefix rest : List ℕ) → NeverOverlaps needle → 0 < length needle → IsLastSplit needle whole prefix rest → substrings needle whole ≡ substrings needle prefix ++ rest ∷ []
substrings-last needle whole prefix rest apart some split =
    substrings-around needle whole prefix rest apart some split.joined ∙ ap (λ parts. substrings needle prefix ++ parts) (substrings-none needle rest (nowhere-beyond needle whole prefix rest some split))

-- A character never overlaps itself: the halves of a pair differ.
pub char-apart : (form : EncodingForm) (c : ℕ) → IsScalar c → NeverOverlaps (code_units form c)
char-apart Utf16 c scalar = elim (cases_lt c 0x1_0000) [
  | inl below ↦ subst NeverOverlaps (sym (one_unit c below)) (one-apart c)
  | inr from ↦
      (let bound = (ranges c scalar).below in
      subst NeverOverlaps (sym (two_units c from)) (two-apart (high_of c) (low_of c) (λ same. omega (arith, same, bound, from))))
]
char-apart Utf32 c scalar = one-apart c

-- The list after the last element that separates is the last one, and the others are those of what is before it.
module _ {A : Type 0} (separates : A → Bool) where
  -- There is a first list, and those of a list that goes on after a separator begin with it too.
  pub record GoesOn (lists whole : List (List A)) (last : List A) : Type 0 where
    pub first : List A
    pub more : List (List A)
    pub is : lists ≡ first ∷ more
    pub joined : whole ≡ (first ∷ more) ++ last ∷ []

  one_more : (b : Bool) (x : A) (lists whole : List (List A)) (last : List A) → GoesOn lists whole last → GoesOn (if b then [] ∷ lists else onto_first x lists) (if b then [] ∷ whole else onto_first x whole) last
  one_more true x lists whole last on = record { first = []; more = on.first ∷ on.more; is = ap (λ ls. [] ∷ ls) on.is; joined = ap (λ ls. [] ∷ ls) on.joined }
  one_more false x lists whole last on = record { first = x ∷ on.first; more = on.more; is = ap (onto_first x) on.is; joined = ap (onto_first x) on.joined }

  goes-on : (others suffix : List A) (x : A) → separates x ≡ true → All (λ y. separates y ≡ false) suffix → GoesOn (between separates others) (between separates (others ++ x ∷ suffix)) suffix
  goes-on [] suffix x some none = record { first = []; more = []; is = refl; joined = rw some (ap (λ ls. [] ∷ ls) (between-none separates suffix none)) }
  goes-on (y ∷ others) suffix x some none = one_more (separates y) y (between separates others) (between separates (others ++ x ∷ suffix)) suffix (goes-on others suffix x some none)

  between-last : (others suffix : List A) (x : A) → separates x ≡ true → All (λ y. separates y ≡ false) suffix → between separates (others ++ x ∷ suffix) ≡ between separates others ++ suffix ∷ []
  between-last others suffix x some none = let on = goes-on others suffix x some none in on.joined ∙ ap (λ ls. ls ++ suffix ∷ []) (sym on.is)

-- A segmentation's items up to any of them are those of their units.
precede-front : (form : EncodingForm) (i : Item) (is js : List Item) → MayPrecede form i (is ++ js) → MayPrecede form i is
precede-front form (Char c) is js may = tt
precede-front form (Fault h) [] js may = tt
precede-front form (Fault h) (Char c ∷ is) js may = tt
precede-front form (Fault h) (Fault l ∷ is) js may = may

pub chain-front : (form : EncodingForm) (is js : List Item) → Chain form (is ++ js) → Chain form is
chain-front form [] js chain = tt
chain-front form (i ∷ is) js chain = (chain.0, precede-front form i is js chain.1, chain-front form is js chain.2)

pub true_unless : (b : Bool) → ¬ (b ≡ false) → b ≡ true
true_unless true other = refl
true_unless false other = absurd (other refl)

-- Units whose longest suffix without a character of a set is known.
module _ {C : Type 0} (form : EncodingForm) (number : C → ℕ) (has : ℕ → Bool) (us : List C) (at : ℕ) (longest : IsLongestSuffix form has false (map number us) at) where
  abbrev whole : List ℕ
  whole = map number us

  pub front-items : (before : List C) → before ≡ take at us → items form (map number before) ≡ longest.rest
  front-items before is =
      ap (items form) (ap (map number) is ∙ sym (take-map number at us) ∙ ap (λ n. take n whole) (sym longest.length) ∙ units-before form whole longest.rest longest.suffix longest.joined)
      ∙ items-of_chain form longest.rest (chain-front form longest.rest longest.suffix (subst (Chain form) longest.joined (items-chain form whole)))

  -- If nothing is before the suffix, the units are the only substring.
  pub between-only : (before : List C) → before ≡ take at us → before ≡ [] → substrings_between form has whole ≡ whole ∷ []
  between-only before is empty =
      let none : longest.rest ≡ [] = sym (front-items before is) ∙ ap (λ vs. items form (map number vs)) empty ∙ items-nil form in
      between-whole form number has us (All-same (λ i. is_member has i ≡ false) (items form whole) longest.suffix (longest.joined ∙ ap (λ is. is ++ longest.suffix) none) longest.all)

  -- The suffix is the last substring, and the others are those of what is before the character before it.
  pub between-rest : (before rest substring : List C) (i : Item) → before ≡ take at us → substring ≡ drop at us → items form (map number before) ≡ items form (map number rest) ++ i ∷ []
      → substrings_between form has whole ≡ substrings_between form has (map number rest) ++ map number substring ∷ []
  between-rest before rest substring i is_before is_after next =
      let others = items form (map number rest) in
      let split : longest.rest ≡ others ++ i ∷ [] = sym (front-items before is_before) ∙ next in
      let member : is_member has i ≡ true = true_unless (is_member has i) (longest.begins others i split) in
      let joined : items form whole ≡ others ++ i ∷ longest.suffix = longest.joined ∙ ap (λ is. is ++ longest.suffix) split ∙ append_assoc others (i ∷ []) longest.suffix in
      let after : units_of form longest.suffix ≡ map number substring =
      sym (units-from form whole longest.rest longest.suffix longest.joined) ∙ ap (λ n. drop n whole) longest.length ∙ drop-map number at us ∙ ap (map number) (sym is_after) in
      ap (map (units_of form)) (ap (between (is_member has)) joined ∙ between-last (is_member has) others longest.suffix i member longest.all)
      ∙ map-append (units_of form) (between (is_member has) others) (longest.suffix ∷ [])
      ∙ ap (λ vs. substrings_between form has (map number rest) ++ vs ∷ []) after

-- What is left of substrings if one is taken from the back.
module _ {A : Type 0} where
  -- An empty last one is none of those that are not empty.
  pub filled-empty : (lists others : List (List A)) (last : List A) → lists ≡ others ++ last ∷ [] → last ≡ [] → filled lists ≡ filled others
  filled-empty lists others last is empty = ap filled is ∙ filter-append _ others (last ∷ []) ∙ ap (λ l. filled others ++ filled (l ∷ [])) empty ∙ append-nil (filled others)

  pub filled-last : (lists others : List (List A)) (last : List A) → lists ≡ others ++ last ∷ [] → ¬ (last ≡ []) → filled lists ≡ filled others ++ last ∷ []
  filled-last lists others [] is some = absurd (some refl)
  filled-last lists others (x ∷ last) is some = ap filled is ∙ filter-append _ others ((x ∷ last) ∷ [])

  pub terminated-push : (others : List (List A)) (x : A) (last : List A) → terminated (others ++ (x ∷ last) ∷ []) ≡ others ++ (x ∷ last) ∷ []
  terminated-push [] x last = refl
  terminated-push (a ∷ []) x last = refl
  terminated-push (a ∷ b ∷ others) x last = ap (λ ls. a ∷ ls) (terminated-push (b ∷ others) x last)

  pub terminated-drop : (others : List (List A)) → terminated (others ++ [] ∷ []) ≡ others
  terminated-drop [] = refl
  terminated-drop (a ∷ []) = refl
  terminated-drop (a ∷ b ∷ others) = ap (λ ls. a ∷ ls) (terminated-drop (b ∷ others))

  -- An empty last one is not counted.
  pub terminated-empty : (lists others : List (List A)) (last : List A) → lists ≡ others ++ last ∷ [] → last ≡ [] → terminated lists ≡ others
  terminated-empty lists others last is empty = ap terminated (is ∙ ap (λ l. others ++ l ∷ []) empty) ∙ terminated-drop others

  pub terminated-last : (lists others : List (List A)) (last : List A) → lists ≡ others ++ last ∷ [] → ¬ (last ≡ []) → terminated lists ≡ others ++ last ∷ []
  terminated-last lists others [] is some = absurd (some refl)
  terminated-last lists others (x ∷ last) is some = ap terminated is ∙ terminated-push others x last

  -- Without regard to whether one was taken before, an empty last one counts.
  pub terminated-taken : (taken none : Bool) (lists others : List (List A)) (last : List A) → lists ≡ others ++ last ∷ [] → IsTrue none ↔ (last ≡ []) → (taken || not none) ≡ true → (if taken then lists else terminated lists) ≡ others ++ last ∷ []
  terminated-taken true none lists others last is empty holds = is
  terminated-taken false true lists others last is empty holds = absurd (let no : false ≡ true = holds in cc)
  terminated-taken false false lists others last is empty holds = terminated-last lists others last is (λ e. let no : false ≡ true = empty.1 e in cc)

  pub terminated-skipped : (taken none : Bool) (lists others : List (List A)) (last : List A) → lists ≡ others ++ last ∷ [] → IsTrue none ↔ (last ≡ []) → (taken || not none) ≡ false → (if taken then lists else terminated lists) ≡ others
  terminated-skipped true none lists others last is empty holds = absurd (let no : true ≡ false = holds in cc)
  terminated-skipped false true lists others last is empty holds = terminated-empty lists others last is (empty.0 refl)
  terminated-skipped false false lists others last is empty holds = absurd (let no : true ≡ false = holds in cc)

-- A call that returns the last one of a list leaves fewer.
module _ {V X : Type 0} (seen : V → X) where
  pub progress-last : {S : Type 0} (left : S → List X) (s t : S) (r : Option V) → YieldsLastBy seen left s r t → MakesProgress (λ _. ⊤) (λ u. at_most (length (left u))) s r t
  progress-last left s t None gave = record { on = λ _. tt; keeps = tt; rests = λ finite. finite }
  progress-last left s t (Some x) gave = record { on = λ finite. (tt, finite, omega (arith, ap length gave, length-append (left t) (seen x ∷ []))); keeps = tt; rests = λ _. tt }

  -- What is the last one of a list is that of an equal list.
  pub last-of_same : (r : Option V) (now lists rest : List X) → now ≡ lists → MatchOption r ((lists ≡ []) × (rest ≡ [])) (λ x. lists ≡ rest ++ seen x ∷ []) → MatchOption r ((now ≡ []) × (rest ≡ [])) (λ x. now ≡ rest ++ seen x ∷ [])
  last-of_same None now lists rest e gave = (e ∙ gave.0, gave.1)
  last-of_same (Some x) now lists rest e gave = e ∙ gave

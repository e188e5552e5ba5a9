-- Units are cut at a separator, whose substrings keep it, and at the characters of a set, from both ends.
use Rattle.std.proofs.Common.{◌≡◌, ℕ, ◌+◌, ◌<◌, ◌≤◌, Bool, true, false, List, [], ◌∷◌, ◌++◌, refl, sym, ◌∙◌, ap, subst, arith, length, length-append, take, drop, append_assoc}
use Rattle.std.specs.List.{All}
use Rattle.std.specs.Prelude.{if◌then◌else◌, map, reverse}
use Rattle.std.proofs.lemmas.List.{drop-map, length-map, length-reverse, map-append, nil_from_length, reverse-append, reverse-reverse, take-map}
use Rattle.std.proofs.lemmas.List.Elements.{All-head, All-tail, All-nil, All-push, All-same}
use Rattle.wide_forms.specs.EncodingForm.{EncodingForm, code_units}
use Rattle.wide_forms.specs.Segmentation.{Item, Char, Fault, units_of}
use Rattle.wide_forms.specs.Items.{items}
use Rattle.wide_forms.specs.Laws.Boundaries.{units_of-append}
use Rattle.wide_forms.specs.Laws.Chains.{Chain}
use Rattle.wide_forms.specs.Laws.Forms.{some_units}
use Rattle.wide_forms.specs.Laws.Items.{units_of-items, items-nil, items-chain, items-of_chain}
use Rattle.wide_search.specs.Cut.{substrings}
use Rattle.wide_search.specs.Sets.{is_member, onto_first, between, IsFirstMember, IsLongestSuffix}
use Rattle.wide_search.specs.Laws.Cuts.{some-substrings}
use Rattle.wide_search.proofs.Members.{between-none, between-first, between-length, items-from, units-before, units-from}
use Rattle.wide_ustr.specs.Kept.{joined, followed_by, between_kept, substrings_kept, substrings_ended, units_back, substrings_between_back, substrings_ended_back, IsFirstKept}
use Rattle.wide_ustr.specs.SplitMore.{terminated}
use Rattle.wide_ustr.proofs.BothEnds.{chain-front, front-items, true_unless, terminated-drop, terminated-last}

-- At a separator of units.
followed-next : {A : Type 0} (separator part : List A) (parts : List (List A)) → 0 < length parts → followed_by separator (part ∷ parts) ≡ (part ++ separator) ∷ followed_by separator parts
followed-next separator part [] some = absurd (omega (arith, some))
followed-next separator part (next ∷ more) some = refl

module _ (needle whole : List ℕ) where
  pub kept-none : (only : List ℕ) → substrings needle whole ≡ only ∷ [] → substrings_kept needle whole ≡ only ∷ []
  kept-none only is = ap (followed_by needle) is

  pub kept-cut : (first rest : List ℕ) → substrings needle whole ≡ first ∷ substrings needle rest → substrings_kept needle whole ≡ (first ++ needle) ∷ substrings_kept needle rest
  kept-cut first rest is = ap (followed_by needle) is ∙ followed-next needle first (substrings needle rest) (some-substrings needle rest)

  pub kept-next : (first rest : List ℕ) → substrings needle whole ≡ first ∷ substrings needle rest → IsFirstKept (substrings_kept needle) whole first rest
  kept-next first rest is = record { separator = needle; cut = kept-cut first rest is }

-- The lists between elements that separate, each with the one that ends it.
module _ {A : Type 0} (separates : A → Bool) where
  pub ended-none : (xs : List A) → All (λ x. separates x ≡ false) xs → between_kept separates xs ≡ xs ∷ []
  ended-none [] none = refl
  ended-none (x ∷ xs) none =
      rw (All-head (λ x. separates x ≡ false) x xs none) (ap (onto_first x) (ended-none xs (All-tail (λ x. separates x ≡ false) x xs none)))

  pub ended-first : (prefix rest : List A) (x : A) → All (λ y. separates y ≡ false) prefix → separates x ≡ true → between_kept separates (prefix ++ x ∷ rest) ≡ (prefix ++ x ∷ []) ∷ between_kept separates rest
  ended-first [] rest x none some = rw some refl
  ended-first (y ∷ prefix) rest x none some =
      rw (All-head (λ y. separates y ≡ false) y prefix none) (ap (onto_first y) (ended-first prefix rest x (All-tail (λ y. separates y ≡ false) y prefix none) some))

  -- Lists that end with an element that separates come first, whatever follows.
  pub record ComeFirst (xs : List A) (x : A) : Type 0 where
    pub first : List A
    pub more : List (List A)
    pub joined : (rest : List A) → between_kept separates (xs ++ x ∷ rest) ≡ (first ∷ more) ++ between_kept separates rest

  abbrev first_of : (b : Bool) → A → List A → List A
  first_of true y first = y ∷ []
  first_of false y first = y ∷ first

  abbrev more_of : (b : Bool) → List A → List (List A) → List (List A)
  more_of true first more = first ∷ more
  more_of false first more = more

  one_of : (b : Bool) (y : A) (first : List A) (more lists : List (List A)) → (if b then (y ∷ []) ∷ ((first ∷ more) ++ lists) else onto_first y ((first ∷ more) ++ lists)) ≡ (first_of b y first ∷ more_of b first more) ++ lists
  one_of true y first more lists = refl
  one_of false y first more lists = refl

  pub come-first : (xs : List A) (x : A) → separates x ≡ true → ComeFirst xs x
  come-first [] x some = record { first = x ∷ []; more = []; joined = λ rest. rw some refl }
  come-first (y ∷ xs) x some =
      let others = come-first xs x some in
      record {
        first = first_of (separates y) y others.first;
        more = more_of (separates y) others.first others.more;
        joined = λ rest. ap (λ lists. if separates y then (y ∷ []) ∷ lists else onto_first y lists) (others.joined rest) ∙ one_of (separates y) y others.first others.more (between_kept separates rest);
      }

-- Units whose first character of a set is known.
module _ {C : Type 0} (form : EncodingForm) (number : C → ℕ) (has : ℕ → Bool) (us : List C) where
  abbrev whole : List ℕ
  whole = map number us

  pub ended-whole : All (λ i. is_member has i ≡ false) (items form whole) → substrings_ended form has whole ≡ whole ∷ []
  ended-whole none = ap (map (units_of form)) (ended-none (is_member has) (items form whole) none) ∙ ap (λ vs. vs ∷ []) (units_of-items form whole)

  module _ (start end : ℕ) (first : IsFirstMember form has whole start end) (rest : List C) (is_rest : rest ≡ drop end us) where
    abbrev ended : List Item
    ended = first.prefix ++ Char first.c ∷ []

    split : items form whole ≡ ended ++ first.rest
    split = first.joined ∙ sym (append_assoc first.prefix (Char first.c ∷ []) first.rest)

    after : items form (map number rest) ≡ first.rest
    after = ap (λ vs. items form (map number vs)) is_rest ∙ ap (items form) (sym (drop-map number end us)) ∙ ap (λ n. items form (drop n whole)) (sym first.ends) ∙ items-from form whole ended first.rest split

    upto : map number (take end us) ≡ units_of form ended
    upto = sym (take-map number end us) ∙ ap (λ n. take n whole) (sym first.ends) ∙ units-before form whole ended first.rest split

    before : map number (take start us) ≡ units_of form first.prefix
    before = sym (take-map number start us) ∙ ap (λ n. take n whole) (sym first.begins) ∙ units-before form whole first.prefix (Char first.c ∷ first.rest) first.joined

    cut : substrings_ended form has whole ≡ units_of form ended ∷ substrings_ended form has (map number rest)
    cut =
        ap (map (units_of form)) (ap (between_kept (is_member has)) first.joined ∙ ended-first (is_member has) first.prefix first.rest (Char first.c) first.none_before first.member)
        ∙ ap (λ is. units_of form ended ∷ map (units_of form) (between_kept (is_member has) is)) (sym after)

    -- What ends with it is the first substring.
    pub ended-after : (kept : List C) → kept ≡ take end us → substrings_ended form has whole ≡ map number kept ∷ substrings_ended form has (map number rest)
    ended-after kept is_kept = cut ∙ ap (λ vs. vs ∷ substrings_ended form has (map number rest)) (sym (ap (map number) is_kept ∙ upto))

    pub ended-split : (prefix : List C) → prefix ≡ take start us → IsFirstKept (substrings_ended form has) whole (map number prefix) (map number rest)
    ended-split prefix is_prefix = record {
      separator = units_of form (Char first.c ∷ []);
      cut = cut ∙ ap (λ vs. vs ∷ substrings_ended form has (map number rest)) (units_of-append form first.prefix (Char first.c ∷ []) ∙ ap (λ vs. vs ++ units_of form (Char first.c ∷ [])) (sym (ap (map number) is_prefix ∙ before)));
    }

all-reversed : {A : Type 0} (P : A → Type 0) (xs : List A) → All P xs → All P (reverse xs)
all-reversed P [] all = All-nil P
all-reversed P (x ∷ xs) all =
    All-same P (reverse (x ∷ xs)) (reverse xs ++ x ∷ []) (reverse-append (x ∷ []) xs)
    (All-push P (reverse xs) x (all-reversed P xs (All-tail P x xs all)) (All-head P x xs all))

-- Units whose longest suffix without a character of a set is known, read from their end.
module _ {C : Type 0} (form : EncodingForm) (number : C → ℕ) (has : ℕ → Bool) (us : List C) (at : ℕ) (longest : IsLongestSuffix form has false (map number us) at) (front : List C) (is_front : front ≡ take at us) where
  abbrev all_units : List ℕ
  all_units = map number us

  abbrev separates : Item → Bool
  separates = is_member has

  abbrev others_none : List Item → Type 0
  others_none is = All (λ i. separates i ≡ false) is

  read-back : items form (reverse (reverse all_units)) ≡ items form all_units
  read-back = ap (items form) (reverse-reverse all_units)

  units-all : units_back form (reverse (items form all_units)) ≡ reverse all_units
  units-all = ap (λ is. reverse (units_of form is)) (reverse-reverse (items form all_units)) ∙ ap reverse (units_of-items form all_units)

  module _ (empty : front ≡ []) where
    none : others_none (items form all_units)
    none =
        let nothing : longest.rest ≡ [] = sym (front-items form number has us at longest front is_front) ∙ ap (λ vs. items form (map number vs)) empty ∙ items-nil form in
        All-same (λ i. separates i ≡ false) (items form all_units) longest.suffix (longest.joined ∙ ap (λ is. is ++ longest.suffix) nothing) longest.all

    pub back-only : substrings_between_back form has (reverse all_units) ≡ reverse all_units ∷ []
    back-only =
        ap (λ is. map (units_back form) (between separates (reverse is))) read-back
        ∙ ap (map (units_back form)) (between-none separates (reverse (items form all_units)) (all-reversed (λ i. separates i ≡ false) (items form all_units) none))
        ∙ ap (λ vs. vs ∷ []) units-all

    pub back-only-kept : substrings_ended_back form has (reverse all_units) ≡ reverse all_units ∷ []
    back-only-kept =
        ap (λ is. map (units_back form) (between_kept separates (reverse is))) read-back
        ∙ ap (map (units_back form)) (ended-none separates (reverse (items form all_units)) (all-reversed (λ i. separates i ≡ false) (items form all_units) none))
        ∙ ap (λ vs. vs ∷ []) units-all

  module _ (rest substring : List C) (i : Item) (is_after : substring ≡ drop at us) (next : items form (map number front) ≡ items form (map number rest) ++ i ∷ []) where
    abbrev others : List Item
    others = items form (map number rest)

    split-rest : longest.rest ≡ others ++ i ∷ []
    split-rest = sym (front-items form number has us at longest front is_front) ∙ next

    member : separates i ≡ true
    member = true_unless (separates i) (longest.begins others i split-rest)

    reversed-items : reverse (items form (reverse (reverse all_units))) ≡ reverse longest.suffix ++ i ∷ reverse others
    reversed-items =
        ap reverse (read-back ∙ longest.joined ∙ ap (λ is. is ++ longest.suffix) split-rest) ∙ reverse-append (others ++ i ∷ []) longest.suffix
        ∙ ap (λ is. reverse longest.suffix ++ is) (reverse-append others (i ∷ []))

    after-units : units_of form longest.suffix ≡ map number substring
    after-units = sym (units-from form all_units longest.rest longest.suffix longest.joined) ∙ ap (λ n. drop n all_units) longest.length ∙ drop-map number at us ∙ ap (map number) (sym is_after)

    suffix-back : units_back form (reverse longest.suffix) ≡ reverse (map number substring)
    suffix-back = ap (λ is. reverse (units_of form is)) (reverse-reverse longest.suffix) ∙ ap reverse after-units

    none-after : others_none (reverse longest.suffix)
    none-after = all-reversed (λ j. separates j ≡ false) longest.suffix longest.all

    read-rest : reverse others ≡ reverse (items form (reverse (reverse (map number rest))))
    read-rest = ap (λ vs. reverse (items form vs)) (sym (reverse-reverse (map number rest)))

    pub back-rest : substrings_between_back form has (reverse all_units) ≡ reverse (map number substring) ∷ substrings_between_back form has (reverse (map number rest))
    back-rest =
        ap (λ is. map (units_back form) (between separates is)) reversed-items
        ∙ ap (map (units_back form)) (between-first separates (reverse longest.suffix) (reverse others) i none-after member)
        ∙ ap (λ vs. vs ∷ map (units_back form) (between separates (reverse others))) suffix-back
        ∙ ap (λ is. reverse (map number substring) ∷ map (units_back form) (between separates is)) read-rest

    ended-back : units_back form (reverse longest.suffix ++ i ∷ []) ≡ reverse (map number substring) ++ reverse (units_of form (i ∷ []))
    ended-back =
        ap (λ is. reverse (units_of form is)) (reverse-append (reverse longest.suffix) (i ∷ []) ∙ ap (λ is. i ∷ is) (reverse-reverse longest.suffix))
        ∙ ap reverse (units_of-append form (i ∷ []) longest.suffix) ∙ reverse-append (units_of form (i ∷ [])) (units_of form longest.suffix)
        ∙ ap (λ vs. reverse vs ++ reverse (units_of form (i ∷ []))) after-units

    pub back-rest-kept : IsFirstKept (substrings_ended_back form has) (reverse all_units) (reverse (map number substring)) (reverse (map number rest))
    back-rest-kept = record {
      separator = reverse (units_of form (i ∷ []));
      cut = ap (λ is. map (units_back form) (between_kept separates is)) reversed-items
          ∙ ap (map (units_back form)) (ended-first separates (reverse longest.suffix) (reverse others) i none-after member)
          ∙ ap (λ vs. vs ∷ map (units_back form) (between_kept separates (reverse others))) ended-back
          ∙ ap (λ is. (reverse (map number substring) ++ reverse (units_of form (i ∷ []))) ∷ map (units_back form) (between_kept separates is)) read-rest;
    }

-- There are few substrings.
few-items : (form : EncodingForm) (is : List Item) → length is ≤ length (units_of form is)
few-items form [] = omega arith
few-items form (Char c ∷ is) = omega (arith, few-items form is, some_units form c, length-append (code_units form c) (units_of form is))
few-items form (Fault u ∷ is) = omega (arith, few-items form is)

module _ {A : Type 0} (separates : A → Bool) where
  onto-length : (x : A) (lists : List (List A)) → length (onto_first x lists) ≤ length lists + 1
  onto-length x [] = omega arith
  onto-length x (first ∷ more) = omega arith

  one_longer : (b : Bool) (x : A) (lists : List (List A)) (n : ℕ) → length lists ≤ n + 1 → length (if b then (x ∷ []) ∷ lists else onto_first x lists) ≤ n + 1 + 1
  one_longer true x lists n most = omega (arith, most)
  one_longer false x lists n most = omega (arith, most, onto-length x lists)

  ended-length : (xs : List A) → length (between_kept separates xs) ≤ length xs + 1
  ended-length [] = omega arith
  ended-length (x ∷ xs) = omega (arith, one_longer (separates x) x (between_kept separates xs) (length xs) (ended-length xs))

module _ {C : Type 0} (form : EncodingForm) (number : C → ℕ) (has : ℕ → Bool) (us : List C) where
  items-most : length (items form (map number us)) ≤ length us
  items-most = omega (arith, few-items form (items form (map number us)), ap length (units_of-items form (map number us)), length-map us number)

  pub ended-most : length (substrings_ended form has (map number us)) ≤ length us + 1
  ended-most = omega (arith, length-map (between_kept (is_member has) (items form (map number us))) (units_of form), ended-length (is_member has) (items form (map number us)), items-most)

  pub between_back-most : length (map reverse (substrings_between_back form has (reverse (map number us)))) ≤ length us + 1
  between_back-most =
      let is = reverse (items form (reverse (reverse (map number us)))) in
      omega (
        arith,
        length-map (map (units_back form) (between (is_member has) is)) reverse,
        length-map (between (is_member has) is) (units_back form),
        between-length (is_member has) is,
        length-reverse (items form (reverse (reverse (map number us)))),
        ap (λ vs. length (items form vs)) (reverse-reverse (map number us)),
        items-most,
      )

-- An empty last one adds nothing.
pub joined-terminated : {A : Type 0} (lists : List (List A)) → joined (terminated lists) ≡ joined lists
joined-terminated [] = refl
joined-terminated ([] ∷ []) = refl
joined-terminated ((x ∷ xs) ∷ []) = refl
joined-terminated ([] ∷ next ∷ more) = joined-terminated (next ∷ more)
joined-terminated ((x ∷ xs) ∷ next ∷ more) = ap (λ ys. (x ∷ xs) ++ ys) (joined-terminated (next ∷ more))

push-some : {A : Type 0} (xs : List A) (y : A) → xs ++ y ∷ [] ≡ [] → ⊥
push-some [] y e = cc
push-some (x ∷ xs) y e = cc

last-of : {A : Type 0} (xs : List A) → ¬ (xs ≡ []) → (ys : List A) × (y : A) × (xs ≡ ys ++ y ∷ [])
last-of [] some = absurd (some refl)
last-of (x ∷ []) some = ([], x, refl)
last-of (x ∷ y ∷ more) some = let last = last-of (y ∷ more) (λ e. cc) in (x ∷ last.0, last.1, ap (λ zs. x ∷ zs) last.2)

-- Items without units are none.
no-items : (form : EncodingForm) (is : List Item) → length (units_of form is) ≡ 0 → is ≡ []
no-items form is e = nil_from_length is (omega (arith, e, few-items form is))

terminated-one : (xs : List ℕ) → ¬ (xs ≡ []) → terminated (xs ∷ []) ≡ xs ∷ []
terminated-one [] some = absurd (some refl)
terminated-one (x ∷ xs) some = refl

-- No units are one substring.
pub inclusive-empty : {C : Type 0} (form : EncodingForm) (number : C → ℕ) (has : ℕ → Bool) (us : List C) → us ≡ [] → terminated (substrings_ended form has (map number us)) ≡ terminated (map number us ∷ [])
inclusive-empty form number has us empty =
    let nothing : items form (map number us) ≡ [] = ap (λ vs. items form (map number vs)) empty ∙ items-nil form in
    ap terminated (ended-whole form number has us (All-same (λ i. is_member has i ≡ false) (items form (map number us)) [] nothing (All-nil (λ i. is_member has i ≡ false))))

-- Units that are cut after the characters of a set, from the back: what is before the last item is searched.
module _ {C : Type 0} (form : EncodingForm) (number : C → ℕ) (has : ℕ → Bool) (us front : List C) (i : Item) (cut_off : items form (map number us) ≡ items form (map number front) ++ i ∷ []) where
  abbrev every : List ℕ
  every = map number us

  abbrev splits : Item → Bool
  splits = is_member has

  abbrev ends : List Item → List ℕ
  ends is = units_of form (is ++ i ∷ [])

  some-ends : (is : List Item) → ¬ (ends is ≡ [])
  some-ends is e = push-some is i (no-items form (is ++ i ∷ []) (ap length e))

  -- Items of which at most the last one is a character of the set are one list, or one that an empty one follows.
  last-one : (b : Bool) → splits i ≡ b → (is : List Item) → All (λ j. splits j ≡ false) is → (parts : List (List ℕ)) → terminated (parts ++ map (units_of form) (between_kept splits (is ++ i ∷ []))) ≡ parts ++ ends is ∷ []
  last-one true member is none parts =
      ap (λ ls. terminated (parts ++ map (units_of form) ls)) (ended-first splits is [] i none member)
      ∙ ap terminated (sym (append_assoc parts (ends is ∷ []) ([] ∷ []))) ∙ terminated-drop (parts ++ ends is ∷ [])
  last-one false member is none parts =
      ap (λ ls. terminated (parts ++ map (units_of form) ls)) (ended-none splits (is ++ i ∷ []) (All-push (λ j. splits j ≡ false) is i none member))
      ∙ terminated-last (parts ++ ends is ∷ []) parts (ends is) refl (some-ends is)

  module _ (at : ℕ) (longest : IsLongestSuffix form has false (map number front) at) where
    pub all-items : items form every ≡ longest.rest ++ (longest.suffix ++ i ∷ [])
    all-items = cut_off ∙ ap (λ is. is ++ i ∷ []) longest.joined ∙ append_assoc longest.rest longest.suffix (i ∷ [])

    -- If no separator is before the last item, the units are the only substring.
    pub inclusive-only : at ≡ 0 → terminated (substrings_ended form has every) ≡ terminated (every ∷ [])
    inclusive-only zero =
        let nothing : longest.rest ≡ [] = no-items form longest.rest (longest.length ∙ zero) in
        let alone : items form every ≡ longest.suffix ++ i ∷ [] = all-items ∙ ap (λ is. is ++ (longest.suffix ++ i ∷ [])) nothing in
        let units : ends longest.suffix ≡ every = ap (units_of form) (sym alone) ∙ units_of-items form every in
        ap (λ is. terminated (map (units_of form) (between_kept splits is))) alone
        ∙ last-one (splits i) refl longest.suffix longest.all []
        ∙ sym (terminated-one (ends longest.suffix) (some-ends longest.suffix)) ∙ ap (λ vs. terminated (vs ∷ [])) units

    module _ (kept rest : List C) (is_kept : kept ≡ take at us) (is_rest : rest ≡ drop at us) (some : 0 < at) where
      last-rest : (others : List Item) × (m : Item) × (longest.rest ≡ others ++ m ∷ [])
      last-rest = last-of longest.rest (λ e. absurd (omega (arith, some, longest.length, ap (λ is. length (units_of form is)) e)))

      kept-items : items form (map number kept) ≡ longest.rest
      kept-items =
          ap (λ vs. items form (map number vs)) is_kept ∙ ap (items form) (sym (take-map number at us)) ∙ ap (λ n. items form (take n every)) (sym longest.length)
          ∙ ap (items form) (units-before form every longest.rest (longest.suffix ++ i ∷ []) all-items)
          ∙ items-of_chain form longest.rest (chain-front form longest.rest (longest.suffix ++ i ∷ []) (subst (Chain form) all-items (items-chain form every)))

      rest-units : ends longest.suffix ≡ map number rest
      rest-units = sym (units-from form every longest.rest (longest.suffix ++ i ∷ []) all-items) ∙ ap (λ n. drop n every) longest.length ∙ drop-map number at us ∙ ap (map number) (sym is_rest)

      -- What follows the last separator that something follows is the last substring.
      pub inclusive-rest : terminated (substrings_ended form has every) ≡ terminated (substrings_ended form has (map number kept)) ++ map number rest ∷ []
      inclusive-rest =
          let others = last-rest.0 in
          let m = last-rest.1 in
          let split : longest.rest ≡ others ++ m ∷ [] = last-rest.2 in
          let member : splits m ≡ true = true_unless (splits m) (longest.begins others m split) in
          let front = come-first splits others m member in
          let parts = map (units_of form) (front.first ∷ front.more) in
          let of_every : items form every ≡ others ++ m ∷ (longest.suffix ++ i ∷ []) = all-items ∙ ap (λ is. is ++ (longest.suffix ++ i ∷ [])) split ∙ append_assoc others (m ∷ []) (longest.suffix ++ i ∷ []) in
          let left : terminated (substrings_ended form has every) ≡ parts ++ ends longest.suffix ∷ [] =
          ap (λ is. terminated (map (units_of form) (between_kept splits is))) of_every
          ∙ ap (λ ls. terminated (map (units_of form) ls)) (front.joined (longest.suffix ++ i ∷ []))
          ∙ ap terminated (map-append (units_of form) (front.first ∷ front.more) (between_kept splits (longest.suffix ++ i ∷ [])))
          ∙ last-one (splits i) refl longest.suffix longest.all parts in
          let right : terminated (substrings_ended form has (map number kept)) ≡ parts =
          ap (λ is. terminated (map (units_of form) (between_kept splits is))) (kept-items ∙ split)
          ∙ ap (λ ls. terminated (map (units_of form) ls)) (front.joined [])
          ∙ ap terminated (map-append (units_of form) (front.first ∷ front.more) ([] ∷ []))
          ∙ terminated-drop parts in
          left ∙ ap (λ vs. parts ++ vs ∷ []) rest-units ∙ ap (λ ps. ps ++ map number rest ∷ []) (sym right)

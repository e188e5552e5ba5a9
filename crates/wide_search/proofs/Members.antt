-- Items that are read one by one as long as they are characters of a set, or are none.
use Rattle.std.proofs.Common.{◌≡◌, ℕ, ◌+◌, ◌-◌, ◌≤◌, Bool, true, false, List, [], ◌∷◌, ◌++◌, length, map, take, drop, arith, refl, sym, ap, subst, ◌∙◌, append_assoc}
use Rattle.std.proofs.lemmas.List.{append-nil, length-append, length-map, drop-map, take-map, reverse-append, reverse-reverse}
use Rattle.std.proofs.lemmas.List.Elements.{All-nil, All-cons, All-push, All-same, All-head, All-tail}
use Rattle.std.proofs.Math.Seq.{drop-append_seam, take-append_seam}
use Rattle.std.specs.Char.{IsScalar}
use Rattle.std.specs.List.{All}
use Rattle.std.specs.Prelude.{if◌then◌else◌, reverse}
use Rattle.wide_forms.specs.EncodingForm.{EncodingForm, code_units}
use Rattle.wide_forms.specs.Segmentation.{Item, Char, Fault, item_units, units_of}
use Rattle.wide_forms.specs.Items.{items, chars, IsWellFormed}
use Rattle.wide_forms.specs.Offsets.{IsCharBoundary}
use Rattle.wide_forms.specs.Laws.Boundaries.{units_of-append, chain-back}
use Rattle.wide_forms.specs.Laws.Chains.{Chain}
use Rattle.wide_forms.specs.Laws.Forms.{some_units}
use Rattle.wide_forms.specs.Laws.Items.{units_of-items, items-chain, items-of_chain, units_of-chars, chars-of_well_formed}
use Rattle.wide_forms.specs.Laws.Offsets.{chars-encode, scalars-chars}
use Rattle.wide_unit.proofs.CharBoundaries.{IsCharBoundary-of}
use Rattle.wide_search.specs.Sets.{is_member, onto_first, between, skip_while, without_prefix, without_suffix, without_ends, substrings_between, IsLongestPrefix, IsLongestSuffix, IsFirstMember}

units_of-one : (form : EncodingForm) (i : Item) → units_of form (i ∷ []) ≡ item_units form i
units_of-one form i = append-nil (item_units form i)

length-units_of-append : (form : EncodingForm) (is js : List Item) → length (units_of form (is ++ js)) ≡ length (units_of form is) + length (units_of form js)
length-units_of-append form is js = ap length (units_of-append form is js) ∙ length-append (units_of form is) (units_of form js)

push-not_nil : (xs : List Item) (y : Item) → xs ++ y ∷ [] ≡ [] → ⊥
push-not_nil [] y e = cc
push-not_nil (x ∷ xs) y e = cc

head-same : (i j : Item) (is js : List Item) → i ∷ is ≡ j ∷ js → i ≡ j
head-same i j is js e = cc

last-same : (is js : List Item) (i j : Item) → is ++ i ∷ [] ≡ js ++ j ∷ [] → i ≡ j
last-same [] [] i j e = cc
last-same [] (b ∷ js) i j e = absurd (let no : js ++ j ∷ [] ≡ [] = cc in push-not_nil js j no)
last-same (a ∷ is) [] i j e = absurd (let no : is ++ i ∷ [] ≡ [] = cc in push-not_nil is i no)
last-same (a ∷ is) (b ∷ js) i j e = let f : is ++ i ∷ [] ≡ js ++ j ∷ [] = cc in last-same is js i j f

-- Items that are a suffix of those of units are the items of the units from their offset on.
module _ (form : EncodingForm) (us : List ℕ) (is js : List Item) (joined : items form us ≡ is ++ js) where
  all-units : us ≡ units_of form is ++ units_of form js
  all-units = sym (units_of-items form us) ∙ ap (units_of form) joined ∙ units_of-append form is js

  pub units-before : take (length (units_of form is)) us ≡ units_of form is
  units-before = ap (take (length (units_of form is))) all-units ∙ take-append_seam (units_of form is) (units_of form js)

  pub units-from : drop (length (units_of form is)) us ≡ units_of form js
  units-from = ap (drop (length (units_of form is))) all-units ∙ drop-append_seam (units_of form is) (units_of form js)

  pub items-from : items form (drop (length (units_of form is)) us) ≡ js
  items-from =
      ap (λ vs. items form (drop (length (units_of form is)) vs)) all-units ∙ ap (items form) (drop-append_seam (units_of form is) (units_of form js))
      ∙ items-of_chain form js (chain-back form is js (subst (Chain form) joined (items-chain form us)))

module _ {C : Type 0} (form : EncodingForm) (number : C → ℕ) (has : ℕ → Bool) (members : Bool) where
  abbrev IsKind : Item → Type 0
  IsKind i = is_member has i ≡ members

  abbrev items_in : List C → List Item
  items_in us = items form (map number us)

  -- All items before `rest` are of the kind.
  pub record IsPast (us rest : List C) : Type 0 where
    pub prefix : List Item
    pub joined : items_in us ≡ prefix ++ items_in rest
    pub length : length (units_of form prefix) + length rest ≡ length us
    pub all : All IsKind prefix

  pub past-none : (us : List C) → IsPast us us
  past-none us = record { prefix = []; joined = refl; length = omega arith; all = All-nil IsKind }

  pub past-more : (us rest others : List C) (i : Item) → IsPast us rest → items_in rest ≡ i ∷ items_in others → length others + length (item_units form i) ≡ length rest → is_member has i ≡ members → IsPast us others
  past-more us rest others i past next long kind = record {
    prefix = past.prefix ++ i ∷ [];
    joined = past.joined ∙ ap (λ is. past.prefix ++ is) next ∙ sym (append_assoc past.prefix (i ∷ []) (items_in others));
    length = omega (arith, length-units_of-append form past.prefix (i ∷ []), ap length (units_of-one form i), long, past.length);
    all = All-push IsKind past.prefix i past.all kind;
  }

  pub past-end : (us rest others : List C) (i : Item) → IsPast us rest → items_in rest ≡ i ∷ items_in others → ¬ (is_member has i ≡ members) → IsLongestPrefix form has members (map number us) (length us - length rest)
  past-end us rest others i past next other = record {
    prefix = past.prefix;
    rest = items_in rest;
    joined = past.joined;
    length = omega (arith, past.length);
    all = past.all;
    ends = λ j more e kind. other (ap (is_member has) (head-same i j (items_in others) more (sym next ∙ e)) ∙ kind);
  }

  pub past-all : (us rest : List C) → IsPast us rest → items_in rest ≡ [] → rest ≡ [] → IsLongestPrefix form has members (map number us) (length us)
  past-all us rest past none empty = record {
    prefix = past.prefix;
    rest = items_in rest;
    joined = past.joined;
    length = omega (arith, past.length, ap length empty);
    all = past.all;
    ends = λ j more e. absurd (let no : j ∷ more ≡ [] = sym e ∙ none in cc);
  }

  -- All items after `rest` are of the kind.
  pub record IsBefore (us rest : List C) : Type 0 where
    pub suffix : List Item
    pub joined : items_in us ≡ items_in rest ++ suffix
    pub all : All IsKind suffix
    pub within : length rest ≤ length us

  pub before-none : (us : List C) → IsBefore us us
  before-none us = record { suffix = []; joined = sym (append-nil (items_in us)); all = All-nil IsKind; within = omega arith }

  pub before-more : (us rest others : List C) (i : Item) → IsBefore us rest → items_in rest ≡ items_in others ++ i ∷ [] → length others ≤ length rest → is_member has i ≡ members → IsBefore us others
  before-more us rest others i before next shorter kind = record {
    suffix = i ∷ before.suffix;
    joined = before.joined ∙ ap (λ is. is ++ before.suffix) next ∙ append_assoc (items_in others) (i ∷ []) before.suffix;
    all = All-cons IsKind i before.suffix kind before.all;
    within = omega (arith, shorter, before.within);
  }

  pub before-end : (us rest others : List C) (i : Item) → IsBefore us rest → items_in rest ≡ items_in others ++ i ∷ [] → ¬ (is_member has i ≡ members) → IsLongestSuffix form has members (map number us) (length rest)
  before-end us rest others i before next other = record {
    rest = items_in rest;
    suffix = before.suffix;
    joined = before.joined;
    length = ap length (units_of-items form (map number rest)) ∙ length-map rest number;
    all = before.all;
    begins = λ some j e kind. other (ap (is_member has) (last-same (items_in others) some i j (sym next ∙ e)) ∙ kind);
  }

  pub before-all : (us rest : List C) → IsBefore us rest → items_in rest ≡ [] → IsLongestSuffix form has members (map number us) 0
  before-all us rest before none = record {
    rest = items_in rest;
    suffix = before.suffix;
    joined = before.joined;
    length = ap (λ is. length (units_of form is)) none;
    all = before.all;
    begins = λ some j e. absurd (push-not_nil some j (sym e ∙ none));
  }

member_of : (b : Bool) → ¬ (b ≡ false) → b ≡ true
member_of true other = refl
member_of false other = absurd (other refl)

-- The first character of a set, after a prefix without one.
module _ {C : Type 0} (form : EncodingForm) (number : C → ℕ) (has : ℕ → Bool) (us : List C) (start : ℕ) (longest : IsLongestPrefix form has false (map number us) start) where
  rest_items : items form (map number (drop start us)) ≡ longest.rest
  rest_items =
      ap (items form) (sym (drop-map number start us)) ∙ ap (λ n. items form (drop n (map number us))) (sym longest.length)
      ∙ items-from form (map number us) longest.prefix longest.rest longest.joined

  pub none-left : items form (map number (drop start us)) ≡ [] → All (λ i. is_member has i ≡ false) (items form (map number us))
  none-left none =
      All-same (λ i. is_member has i ≡ false) (items form (map number us)) longest.prefix
      (longest.joined ∙ ap (λ is. longest.prefix ++ is) (sym rest_items ∙ none) ∙ append-nil longest.prefix) longest.all

  module _ (others : List C) where
    pub first-left : (i : Item) → items form (map number (drop start us)) ≡ i ∷ items form (map number others) → length others + length (item_units form i) ≡ length us - start → start ≤ length us → IsFirstMember form has (map number us) start (length us - length others)
    first-left (Fault u) next long within = absurd (longest.ends (Fault u) (items form (map number others)) (sym rest_items ∙ next) refl)
    first-left (Char c) next long within = record {
      prefix = longest.prefix;
      c = c;
      rest = items form (map number others);
      joined = longest.joined ∙ ap (λ is. longest.prefix ++ is) (sym rest_items ∙ next);
      member = member_of (has c) (longest.ends (Char c) (items form (map number others)) (sym rest_items ∙ next));
      none_before = longest.all;
      begins = longest.length;
      ends = omega (arith, length-units_of-append form longest.prefix (Char c ∷ []), ap length (units_of-one form (Char c)), long, longest.length, within);
    }

other_of : (b : Bool) → ¬ (b ≡ true) → b ≡ false
other_of true other = absurd (other refl)
other_of false other = refl

-- What is left when the elements that satisfy a predicate are skipped.
module _ {A : Type 0} (passes : A → Bool) where
  abbrev Passes : A → Type 0
  Passes x = passes x ≡ true

  pub skip-prefix : (prefix rest : List A) → All Passes prefix → ((x : A) (more : List A) → rest ≡ x ∷ more → ¬ (Passes x)) → skip_while passes (prefix ++ rest) ≡ rest
  skip-prefix [] [] all ends = refl
  skip-prefix [] (x ∷ rest) all ends = rw (other_of (passes x) (ends x rest refl)) refl
  skip-prefix (y ∷ prefix) rest all ends = rw (All-head Passes y prefix all) (skip-prefix prefix rest (All-tail Passes y prefix all) ends)

  all-reverse : (xs : List A) → All Passes xs → All Passes (reverse xs)
  all-reverse [] all = All-nil Passes
  all-reverse (x ∷ xs) all =
      All-same Passes (reverse (x ∷ xs)) (reverse xs ++ x ∷ []) (reverse-append (x ∷ []) xs)
      (All-push Passes (reverse xs) x (all-reverse xs (All-tail Passes x xs all)) (All-head Passes x xs all))

  pub skip-suffix : (rest suffix : List A) → All Passes suffix → ((others : List A) (x : A) → rest ≡ others ++ x ∷ [] → ¬ (Passes x)) → reverse (skip_while passes (reverse (rest ++ suffix))) ≡ rest
  skip-suffix rest suffix all begins =
      ap (λ xs. reverse (skip_while passes xs)) (reverse-append rest suffix)
      ∙ ap reverse (skip-prefix (reverse suffix) (reverse rest) (all-reverse suffix all) (λ x more e. begins (reverse more) x (sym (reverse-reverse rest) ∙ ap reverse e ∙ reverse-append (x ∷ []) more)))
      ∙ reverse-reverse rest

  skipped : (xs : List A) → (prefix : List A) × (xs ≡ prefix ++ skip_while passes xs)
  skipped [] = ([], refl)
  skipped (x ∷ xs) = one_more (passes x) x xs (skipped xs)
    where
      one_more : (b : Bool) (x : A) (xs : List A) → (prefix : List A) × (xs ≡ prefix ++ skip_while passes xs) → (prefix : List A) × (x ∷ xs ≡ prefix ++ (if b then skip_while passes xs else x ∷ xs))
      one_more true x xs so_far = (x ∷ so_far.0, ap (λ ys. x ∷ ys) so_far.1)
      one_more false x xs so_far = ([], refl)

-- What is left without a prefix has the items that are left.
module _ (form : EncodingForm) (has : ℕ → Bool) (us : List ℕ) where
  items-skipped : items form (without_prefix form has us) ≡ skip_while (is_member has) (items form us)
  items-skipped =
      let left = skip_while (is_member has) (items form us) in
      let some = skipped (is_member has) (items form us) in
      items-of_chain form left (chain-back form some.0 left (subst (Chain form) some.1 (items-chain form us)))

  pub ends-removed : without_suffix form has (without_prefix form has us) ≡ without_ends form has us
  ends-removed = ap (λ is. units_of form (reverse (skip_while (is_member has) (reverse is)))) items-skipped

module _ {C : Type 0} (form : EncodingForm) (number : C → ℕ) (has : ℕ → Bool) (us : List C) (at : ℕ) where
  pub prefix-removed : IsLongestPrefix form has true (map number us) at → map number (drop at us) ≡ without_prefix form has (map number us)
  prefix-removed longest =
      sym (drop-map number at us) ∙ ap (λ n. drop n (map number us)) (sym longest.length) ∙ units-from form (map number us) longest.prefix longest.rest longest.joined
      ∙ ap (units_of form) (sym (ap (skip_while (is_member has)) longest.joined ∙ skip-prefix (is_member has) longest.prefix longest.rest longest.all longest.ends))

  pub suffix-removed : IsLongestSuffix form has true (map number us) at → map number (take at us) ≡ without_suffix form has (map number us)
  suffix-removed longest =
      sym (take-map number at us) ∙ ap (λ n. take n (map number us)) (sym longest.length) ∙ units-before form (map number us) longest.rest longest.suffix longest.joined
      ∙ ap (units_of form) (sym (ap (λ is. reverse (skip_while (is_member has) (reverse is))) longest.joined ∙ skip-suffix (is_member has) longest.rest longest.suffix longest.all longest.begins))

-- The lists between elements that separate.
module _ {A : Type 0} (separates : A → Bool) where
  pub between-none : (xs : List A) → All (λ x. separates x ≡ false) xs → between separates xs ≡ xs ∷ []
  between-none [] none = refl
  between-none (x ∷ xs) none =
      rw (All-head (λ x. separates x ≡ false) x xs none) (ap (onto_first x) (between-none xs (All-tail (λ x. separates x ≡ false) x xs none)))

  pub between-first : (prefix rest : List A) (x : A) → All (λ y. separates y ≡ false) prefix → separates x ≡ true → between separates (prefix ++ x ∷ rest) ≡ prefix ∷ between separates rest
  between-first [] rest x none some = rw some refl
  between-first (y ∷ prefix) rest x none some =
      rw (All-head (λ y. separates y ≡ false) y prefix none) (ap (onto_first y) (between-first prefix rest x (All-tail (λ y. separates y ≡ false) y prefix none) some))

  onto-length : (x : A) (lists : List (List A)) → length (onto_first x lists) ≤ length lists + 1
  onto-length x [] = omega arith
  onto-length x (first ∷ more) = omega arith

  one_more : (b : Bool) (x : A) (lists : List (List A)) (n : ℕ) → length lists ≤ n + 1 → length (if b then [] ∷ lists else onto_first x lists) ≤ n + 1 + 1
  one_more true x lists n most = omega (arith, most)
  one_more false x lists n most = omega (arith, most, onto-length x lists)

  pub between-length : (xs : List A) → length (between separates xs) ≤ length xs + 1
  between-length [] = omega arith
  between-length (x ∷ xs) = omega (arith, one_more (separates x) x (between separates xs) (length xs) (between-length xs))

items-length : (form : EncodingForm) (is : List Item) → length is ≤ length (units_of form is)
items-length form [] = omega arith
items-length form (Char c ∷ is) = omega (arith, items-length form is, some_units form c, length-append (code_units form c) (units_of form is))
items-length form (Fault u ∷ is) = omega (arith, items-length form is)

-- The substrings of units between the characters of a set.
module _ {C : Type 0} (form : EncodingForm) (number : C → ℕ) (has : ℕ → Bool) (us : List C) where
  pub between-whole : All (λ i. is_member has i ≡ false) (items form (map number us)) → substrings_between form has (map number us) ≡ map number us ∷ []
  between-whole none = ap (map (units_of form)) (between-none (is_member has) (items form (map number us)) none) ∙ ap (λ vs. vs ∷ []) (units_of-items form (map number us))

  pub between-cut : (start end : ℕ) → IsFirstMember form has (map number us) start end → substrings_between form has (map number us) ≡ map number (take start us) ∷ substrings_between form has (map number (drop end us))
  between-cut start end first =
      let whole = map number us in
      let split : items form whole ≡ (first.prefix ++ Char first.c ∷ []) ++ first.rest = first.joined ∙ sym (append_assoc first.prefix (Char first.c ∷ []) first.rest) in
      let before : map number (take start us) ≡ units_of form first.prefix = sym (take-map number start us) ∙ ap (λ n. take n whole) (sym first.begins) ∙ units-before form whole first.prefix (Char first.c ∷ first.rest) first.joined in
      let after : items form (map number (drop end us)) ≡ first.rest = ap (items form) (sym (drop-map number end us)) ∙ ap (λ n. items form (drop n whole)) (sym first.ends) ∙ items-from form whole (first.prefix ++ Char first.c ∷ []) first.rest split in
      ap (map (units_of form)) (ap (between (is_member has)) first.joined ∙ between-first (is_member has) first.prefix first.rest (Char first.c) first.none_before first.member)
      ∙ ap (λ vs. vs ∷ map (units_of form) (between (is_member has) first.rest)) (sym before)
      ∙ ap (λ is. map number (take start us) ∷ map (units_of form) (between (is_member has) is)) (sym after)

  pub between-split : (prefix rest : List C) (start end : ℕ) → IsFirstMember form has (map number us) start end → prefix ≡ take start us → rest ≡ drop end us → substrings_between form has (map number us) ≡ map number prefix ∷ substrings_between form has (map number rest)
  between-split prefix rest start end first before after = rw before (rw after (between-cut start end first))

  pub between-most : length (substrings_between form has (map number us)) ≤ length us + 1
  between-most =
      omega (arith, length-map (between (is_member has) (items form (map number us))) (units_of form), between-length (is_member has) (items form (map number us)), items-length form (items form (map number us)), ap length (units_of-items form (map number us)), length-map us number)

-- The characters of the substrings of well-formed text are what lies between its characters of the set.
module _ (form : EncodingForm) (has : ℕ → Bool) where
  kind-chars : (b : Bool) (c : ℕ) (parts : List (List ℕ)) → (if b then [] ∷ map (map Char) parts else onto_first (Char c) (map (map Char) parts)) ≡ map (map Char) (if b then [] ∷ parts else onto_first c parts)
  kind-chars true c parts = refl
  kind-chars false c [] = refl
  kind-chars false c (part ∷ parts) = refl

  between-map : (cs : List ℕ) → between (is_member has) (map Char cs) ≡ map (map Char) (between has cs)
  between-map [] = refl
  between-map (c ∷ cs) = ap (λ parts. if has c then [] ∷ parts else onto_first (Char c) parts) (between-map cs) ∙ kind-chars (has c) c (between has cs)

  abbrev IsScalars : List ℕ → Type 0
  IsScalars cs = All IsScalar cs

  kind-scalars : (b : Bool) (c : ℕ) (parts : List (List ℕ)) → IsScalar c → All IsScalars parts → All IsScalars (if b then [] ∷ parts else onto_first c parts)
  kind-scalars true c parts scalar all = All-cons IsScalars [] parts (All-nil IsScalar) all
  kind-scalars false c [] scalar all = All-cons IsScalars (c ∷ []) [] (All-cons IsScalar c [] scalar (All-nil IsScalar)) (All-nil IsScalars)
  kind-scalars false c (part ∷ parts) scalar all =
      All-cons IsScalars (c ∷ part) parts (All-cons IsScalar c part scalar (All-head IsScalars part parts all)) (All-tail IsScalars part parts all)

  between-scalars : (cs : List ℕ) → All IsScalar cs → All IsScalars (between has cs)
  between-scalars [] all = All-cons IsScalars [] [] (All-nil IsScalar) (All-nil IsScalars)
  between-scalars (c ∷ cs) all = kind-scalars (has c) c (between has cs) (All-head IsScalar c cs all) (between-scalars cs (All-tail IsScalar c cs all))

  read-back : (parts : List (List ℕ)) → All IsScalars parts → map (chars form) (map (units_of form) (map (map Char) parts)) ≡ parts
  read-back [] all = refl
  read-back (part ∷ parts) all =
      ap (λ cs. cs ∷ map (chars form) (map (units_of form) (map (map Char) parts))) (ap (chars form) (units_of-chars form part) ∙ chars-encode form part (All-head IsScalars part parts all))
      ∙ ap (λ css. part ∷ css) (read-back parts (All-tail IsScalars part parts all))

  pub between-characters : (us : List ℕ) → IsWellFormed form us → map (chars form) (substrings_between form has us) ≡ between has (chars form us)
  between-characters us well =
      ap (λ is. map (chars form) (map (units_of form) (between (is_member has) is))) (chars-of_well_formed form us well)
      ∙ ap (λ parts. map (chars form) (map (units_of form) parts)) (between-map (chars form us))
      ∙ read-back (between has (chars form us)) (between-scalars (chars form us) (scalars-chars form us well))

-- In well-formed text, a set is left and entered at boundaries.
module _ {C : Type 0} (form : EncodingForm) (number : C → ℕ) (us : List C) (well : IsWellFormed form (map number us)) (has : ℕ → Bool) where
  pub prefix-boundary : (members : Bool) (at : ℕ) → IsLongestPrefix form has members (map number us) at → IsCharBoundary form (map number us) at
  prefix-boundary members at longest = IsCharBoundary-of form (map number us) at well (longest.prefix, longest.rest, longest.joined, longest.length)

  pub suffix-boundary : (members : Bool) (at : ℕ) → IsLongestSuffix form has members (map number us) at → IsCharBoundary form (map number us) at
  suffix-boundary members at longest = IsCharBoundary-of form (map number us) at well (longest.rest, longest.suffix, longest.joined, longest.length)

  pub member-boundaries : (start end : ℕ) → IsFirstMember form has (map number us) start end → IsCharBoundary form (map number us) start × IsCharBoundary form (map number us) end
  member-boundaries start end first = (
    IsCharBoundary-of form (map number us) start well (first.prefix, Char first.c ∷ first.rest, first.joined, first.begins),
    IsCharBoundary-of form (map number us) end well (first.prefix ++ Char first.c ∷ [], first.rest, first.joined ∙ sym (append_assoc first.prefix (Char first.c ∷ []) first.rest), first.ends),
  )

-- The units of bytes that are read chunk by chunk.
use Rattle.std.proofs.Common.{◌≡◌, ℕ, ◌+◌, ◌%◌, ◌<◌, ◌≤◌, Bool, List, [], ◌∷◌, ◌++◌, length, map, take, drop, refl, sym, ap, ◌∙◌, subst, arith, append_assoc, append-nil, length-append, length-drop, length-take-le}
use Rattle.std.proofs.lemmas.List.{map-append, take-append-drop}
use Rattle.std.proofs.lemmas.List.Concat.{flat_map-append}
use Rattle.wide_forms.specs.EncodingForm.{Utf16, code_units, encode}
use Rattle.wide_forms.specs.Segmentation.{Item, Char, Fault}
use Rattle.wide_forms.specs.Items.{IsFirstFault, IsWellFormed, characters, chars, items}
use Rattle.wide_forms.specs.Lossy.{ends_in_fault, lossy_after}
use Rattle.wide_forms.specs.Utf8.{utf8, utf8_bytes}
use Rattle.wide_forms.specs.Laws.Items.{IsCut, IsWellFormed-of_chars, chars-of_well_formed, encode-of_items, items-append, items-nil, length-items16}
use Rattle.wide_forms.specs.Laws.Policies.{characters-append, ends_in_fault-append, lossy_after-append, lossy_after-none_left}
use Rattle.wide_forms.specs.declared.policy.Policy.{Policy}
use Rattle.wide_unit.proofs.Faults.{IsFirstFault-of, first_fault-split}
use Rattle.wide_bytes.specs.Bytes.{units_in}
use Rattle.wide_transcode.specs.Lossied.{units_end_in_fault, lossy_text}
use Rattle.wide_bytes.specs.declared.order.BoM.{BoM}
use Rattle.wide_bytes.proofs.Pairs.{length-units_in, units_in-append, units_in-short}
use Rattle.widestring_c.specs.Bytes.{IsWellFormedIn, text_in}

-- Half a unit has no units, so no pair is split before it.
pub cut-before_half : (order : BoM) (us bytes : List ℕ) → length bytes < 2 → IsCut Utf16 us (units_in order bytes)
cut-before_half order us bytes short prefix back h l ends begins pair = let none : [] ≡ l ∷ back = sym (units_in-short order bytes short) ∙ begins in absurd cc

pub cut-before_none : (order : BoM) (us bytes : List ℕ) → IsCut Utf16 us (units_in order (bytes ++ [])) → IsCut Utf16 us (units_in order bytes)
cut-before_none order us bytes cut = subst (λ bs. IsCut Utf16 us (units_in order bs)) (append-nil bytes) cut

-- The items of a chunk and of the bytes after it.
items-joined : (order : BoM) (prefix back : List ℕ) → length prefix % 2 ≡ 0 → IsCut Utf16 (units_in order prefix) (units_in order back)
    → items Utf16 (units_in order (prefix ++ back)) ≡ items Utf16 (units_in order prefix) ++ items Utf16 (units_in order back)
items-joined order prefix back even cut = ap (items Utf16) (units_in-append order prefix back even) ∙ items-append Utf16 (units_in order prefix) (units_in order back) cut

even-prefix : (bytes : List ℕ) (n : ℕ) → n % 2 ≡ 0 → n ≤ length bytes → length (take n bytes) % 2 ≡ 0
even-prefix bytes n even within = omega (arith, even, length-take-le n bytes within)

pub items-parted : (order : BoM) (bytes : List ℕ) (n : ℕ) → n % 2 ≡ 0 → n ≤ length bytes → IsCut Utf16 (units_in order (take n bytes)) (units_in order (drop n bytes))
    → items Utf16 (units_in order bytes) ≡ items Utf16 (units_in order (take n bytes)) ++ items Utf16 (units_in order (drop n bytes))
items-parted order bytes n even within cut =
    ap (λ bs. items Utf16 (units_in order bs)) (sym (take-append-drop n bytes)) ∙ items-joined order (take n bytes) (drop n bytes) (even-prefix bytes n even within) cut

-- ---- lossy text

module _ (policy : Policy) (after : Bool) where
  pub text-joined : (order : BoM) (prefix back : List ℕ) → length prefix % 2 ≡ 0 → IsCut Utf16 (units_in order prefix) (units_in order back)
      → lossy_text policy after (units_in order (prefix ++ back)) ≡ lossy_text policy after (units_in order prefix) ++ lossy_text policy (units_end_in_fault after (units_in order prefix)) (units_in order back)
  text-joined order prefix back even cut =
      let a = items Utf16 (units_in order prefix) in
      let b = items Utf16 (units_in order back) in
      ap (λ is. utf8 (lossy_after policy after is)) (items-joined order prefix back even cut) ∙ ap utf8 (lossy_after-append policy after a b)
      ∙ flat_map-append utf8_bytes (lossy_after policy after a) (lossy_after policy (ends_in_fault after a) b)

  pub text-parted : (order : BoM) (bytes : List ℕ) (n : ℕ) → n % 2 ≡ 0 → n ≤ length bytes → IsCut Utf16 (units_in order (take n bytes)) (units_in order (drop n bytes))
      → lossy_text policy after (units_in order bytes) ≡ lossy_text policy after (units_in order (take n bytes)) ++ lossy_text policy (units_end_in_fault after (units_in order (take n bytes))) (units_in order (drop n bytes))
  text-parted order bytes n even within cut =
      ap (λ bs. lossy_text policy after (units_in order bs)) (sym (take-append-drop n bytes)) ∙ text-joined order (take n bytes) (drop n bytes) (even-prefix bytes n even within) cut

  pub no_text-left : (order : BoM) (bytes : List ℕ) → length bytes < 2 → lossy_text policy after (units_in order bytes) ≡ []
  no_text-left order bytes short =
      ap (λ us. lossy_text policy after us) (units_in-short order bytes short) ∙ ap (λ is. utf8 (lossy_after policy after is)) (items-nil Utf16) ∙ ap utf8 (lossy_after-none_left policy after)

-- ---- whether the last unit is ill-formed

pub last-joined : (after : Bool) (order : BoM) (prefix back : List ℕ) → length prefix % 2 ≡ 0 → IsCut Utf16 (units_in order prefix) (units_in order back)
    → units_end_in_fault after (units_in order (prefix ++ back)) ≡ units_end_in_fault (units_end_in_fault after (units_in order prefix)) (units_in order back)
last-joined after order prefix back even cut =
    ap (λ is. ends_in_fault after is) (items-joined order prefix back even cut) ∙ ends_in_fault-append after (items Utf16 (units_in order prefix)) (items Utf16 (units_in order back))

ends-any : (a b : Bool) (is : List Item) → 1 ≤ length is → ends_in_fault a is ≡ ends_in_fault b is
ends-any a b [] some = absurd (omega arith)
ends-any a b (Char c ∷ is) some = refl
ends-any a b (Fault u ∷ is) some = refl

pub ends-beyond : (after : Bool) (order : BoM) (bytes : List ℕ) (n : ℕ) → n % 2 ≡ 0 → n + 2 ≤ length bytes → IsCut Utf16 (units_in order (take n bytes)) (units_in order (drop n bytes))
    → units_end_in_fault after (units_in order bytes) ≡ units_end_in_fault after (units_in order (drop n bytes))
ends-beyond after order bytes n even within cut =
    let a = items Utf16 (units_in order (take n bytes)) in
    let b = items Utf16 (units_in order (drop n bytes)) in
    let some : 1 ≤ length b = omega (arith, within, length-items16 (units_in order (drop n bytes)), length-units_in order (drop n bytes), length-drop n bytes) in
    ap (λ is. ends_in_fault after is) (items-parted order bytes n even (omega (arith, within)) cut) ∙ ends_in_fault-append after a b ∙ ends-any (ends_in_fault after a) after b some

pub none-last : (after : Bool) (order : BoM) (bytes : List ℕ) → length bytes < 2 → after ≡ units_end_in_fault after (units_in order bytes)
none-last after order bytes short = sym (ap (λ us. units_end_in_fault after us) (units_in-short order bytes short) ∙ ap (λ is. ends_in_fault after is) (items-nil Utf16))

-- ---- the first fault

-- The first `passed` units are well formed, and the remaining units are those of `left`.
pub record Passed (us : List ℕ) (passed : ℕ) (left : List ℕ) : Type 0 where
  pub cs : List ℕ
  pub parted : items Utf16 us ≡ map Char cs ++ items Utf16 left
  pub long : length (encode Utf16 cs) ≡ passed

pub none-passed : (us : List ℕ) → Passed us 0 us
none-passed us = record { cs = []; parted = refl; long = refl }

module _ (us : List ℕ) (passed : ℕ) (left : List ℕ) (p : Passed us passed left) (prefix back : List ℕ) (parts : items Utf16 left ≡ items Utf16 prefix ++ items Utf16 back) where
  pub more-passed : (n : ℕ) → IsWellFormed Utf16 prefix → length prefix ≡ n → Passed us (passed + n) back
  more-passed n well long =
      let ds = chars Utf16 prefix in
      let is : items Utf16 prefix ≡ map Char ds = chars-of_well_formed Utf16 prefix well in
      let joined : items Utf16 us ≡ map Char (p.cs ++ ds) ++ items Utf16 back =
      p.parted ∙ ap (λ is. map Char p.cs ++ is) (parts ∙ ap (λ is. is ++ items Utf16 back) is) ∙ sym (append_assoc (map Char p.cs) (map Char ds) (items Utf16 back))
      ∙ ap (λ is. is ++ items Utf16 back) (sym (map-append Char p.cs ds))
      in
      let counted : length (encode Utf16 (p.cs ++ ds)) ≡ passed + n =
      ap length (flat_map-append (code_units Utf16) p.cs ds) ∙ length-append (encode Utf16 p.cs) (encode Utf16 ds) ∙ ap (λ m. m + length (encode Utf16 ds)) p.long
      ∙ ap (λ vs. passed + length vs) (encode-of_items Utf16 ds prefix is) ∙ ap (λ m. passed + m) long
      in
      record { cs = p.cs ++ ds; parted = joined; long = counted }

  pub fault-beyond : (n item u : ℕ) → IsFirstFault Utf16 prefix n item u → IsFirstFault Utf16 us (passed + n) (length p.cs + item) u
  fault-beyond n item u fault =
      let (ds, rest, split, at, number) = first_fault-split Utf16 prefix n item u fault in
      let joined : items Utf16 us ≡ map Char (p.cs ++ ds) ++ Fault u ∷ (rest ++ items Utf16 back) =
      p.parted ∙ ap (λ is. map Char p.cs ++ is) (parts ∙ ap (λ is. is ++ items Utf16 back) split ∙ append_assoc (map Char ds) (Fault u ∷ rest) (items Utf16 back))
      ∙ sym (append_assoc (map Char p.cs) (map Char ds) (Fault u ∷ (rest ++ items Utf16 back))) ∙ ap (λ is. is ++ Fault u ∷ (rest ++ items Utf16 back)) (sym (map-append Char p.cs ds))
      in
      let counted : length (encode Utf16 (p.cs ++ ds)) ≡ passed + n =
      ap length (flat_map-append (code_units Utf16) p.cs ds) ∙ length-append (encode Utf16 p.cs) (encode Utf16 ds) ∙ ap (λ m. m + length (encode Utf16 ds)) p.long ∙ ap (λ m. passed + m) at
      in
      IsFirstFault-of Utf16 us (p.cs ++ ds) (rest ++ items Utf16 back) (passed + n) (length p.cs + item) u joined counted (length-append p.cs ds ∙ ap (λ m. length p.cs + m) number)

-- If no unit is left, all units are well formed.
pub all-passed : (order : BoM) (bytes us : List ℕ) (passed : ℕ) → length bytes < 2 → Passed us passed (units_in order bytes) → IsWellFormed Utf16 us
all-passed order bytes us passed short p =
    let none : items Utf16 (units_in order bytes) ≡ [] = ap (items Utf16) (units_in-short order bytes short) ∙ items-nil Utf16 in
    IsWellFormed-of_chars Utf16 us p.cs (p.parted ∙ ap (λ is. map Char p.cs ++ is) none ∙ append-nil (map Char p.cs))

-- ---- well-formed bytes, chunk by chunk

char-split : (a b : List Item) (cs : List ℕ) → map Char cs ≡ a ++ b → (ds es : List ℕ) × (a ≡ map Char ds) × (b ≡ map Char es)
char-split [] b cs e = ([], cs, refl, sym e)
char-split (i ∷ a) b [] e = absurd cc
char-split (i ∷ a) b (c ∷ cs) e =
    let same : i ≡ Char c = cc in
    let tail : map Char cs ≡ a ++ b = cc in
    let s = char-split a b cs tail in
    (c ∷ s.0, s.1, ap (λ j. j ∷ a) same ∙ ap (λ is. Char c ∷ is) s.2, s.3)

module _ (order : BoM) (prefix back : List ℕ) (even : length prefix % 2 ≡ 0) (cut : IsCut Utf16 (units_in order prefix) (units_in order back)) where
  pub well_formed-joined : IsWellFormedIn order prefix → IsWellFormedIn order back → IsWellFormedIn order (prefix ++ back)
  well_formed-joined a b =
      let us = units_in order prefix in
      let vs = units_in order back in
      let items_of : items Utf16 (units_in order (prefix ++ back)) ≡ map Char (chars Utf16 us ++ chars Utf16 vs) =
      items-joined order prefix back even cut ∙ ap (λ is. is ++ items Utf16 vs) (chars-of_well_formed Utf16 us a.1) ∙ ap (λ is. map Char (chars Utf16 us) ++ is) (chars-of_well_formed Utf16 vs b.1)
      ∙ sym (map-append Char (chars Utf16 us) (chars Utf16 vs))
      in
      (omega (arith, even, b.0, length-append prefix back), IsWellFormed-of_chars Utf16 (units_in order (prefix ++ back)) (chars Utf16 us ++ chars Utf16 vs) items_of)

  pub well_formed-parted : IsWellFormedIn order (prefix ++ back) → IsWellFormedIn order prefix × IsWellFormedIn order back
  well_formed-parted w =
      let both = units_in order (prefix ++ back) in
      let s = char-split (items Utf16 (units_in order prefix)) (items Utf16 (units_in order back)) (chars Utf16 both) (sym (chars-of_well_formed Utf16 both w.1) ∙ items-joined order prefix back even cut) in
      ((even, IsWellFormed-of_chars Utf16 (units_in order prefix) s.0 s.2), (omega (arith, even, w.0, length-append prefix back), IsWellFormed-of_chars Utf16 (units_in order back) s.1 s.3))

  pub strict-joined : text_in order (prefix ++ back) ≡ text_in order prefix ++ text_in order back
  strict-joined =
      let a = items Utf16 (units_in order prefix) in
      let b = items Utf16 (units_in order back) in
      ap (λ is. utf8 (characters is)) (items-joined order prefix back even cut) ∙ ap utf8 (characters-append a b) ∙ flat_map-append utf8_bytes (characters a) (characters b)

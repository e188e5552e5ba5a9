-- The beginning of a text: bytes that are kept, the layout that they determine, and a BOM.
use Rattle.wide_bytes.specs.Bytes.{bom_of}
use Rattle.std.proofs.Common.{◌%◌, ◌≡◌, ◌⊎◌, inl, inr, ℕ, ◌+◌, ◌-◌, ◌^◌, ◌<◌, ◌≤◌, List, [], ◌∷◌, ◌++◌, Bool, true, false, length, length-drop, take, drop, map, refl, sym, ap, ◌∙◌, subst, arith, append_assoc}
use Rattle.std.specs.Prelude.{Option, Some, None, min, if◌then◌else◌, is_some}
use Rattle.std.proofs.lemmas.Bool.{cases_Bool, cases_lt}
use Rattle.std.proofs.lemmas.Bool.Decides.{nat_tests}
use Rattle.std.proofs.lemmas.List.{append-nil, drop-append-le, nil_from_length, take-append-drop}
use Rattle.wide_forms.specs.EncodingForm.{Utf16 as Utf16Form}
use Rattle.wide_forms.specs.Segmentation.{Char}
use Rattle.wide_forms.specs.declared.policy.Policy.{Policy}
use Rattle.wide_forms.specs.declared.policy.Policy.TheVariants.{Each, Run, Skip}
use Rattle.wide_forms.specs.Laws.Items.{items-nil}
use Rattle.wide_unit.specs.CodePoints.{code_of, code_points}
use Rattle.wide_schemes.specs.Layouts.{MayFollow, encoded, items_in, unit_len}
use Rattle.wide_schemes.specs.Schemes.{bom_len, items_from, layout_from, start_len, bom32_of}
use Rattle.wide_schemes.specs.declared.scheme.Scheme.{Scheme}
use Rattle.wide_schemes.specs.declared.scheme.Scheme.TheVariants.{Utf8, Wtf8, Utf16Le, Utf16Be, Utf16, Utf32Le, Utf32Be, Utf32}
use Rattle.wide_convert.proofs.Encoded.{whole-none}
use Rattle.wide_convert.specs.Positions.{counted}
use Rattle.wide_convert.specs.Steps.{MayBe, IsReading, IsStart, IsWaiting, StartsStep, SameButUnread, Steps, items_after, items_left, left_by, much_left, unread_of}
use Rattle.wide_convert.specs.declared.steps.StepEnd.TheVariants.{More, NeedsInput}
use Rattle.wide_forms.specs.Laws.Splices.{IsWellFormed-nil}
use Rattle.wide_schemes.specs.declared.layout.Layout.{Layout}
use Rattle.wide_schemes.specs.declared.layout.Layout.TheVariants.{Utf8 as Utf8Layout, Wtf8 as Wtf8Layout, Utf16 as Utf16Layout, Utf32 as Utf32Layout}
use Rattle.wide_bytes.specs.declared.order.BoM.TheVariants.{Big, Little}
use Rattle.wide_convert.specs.Texts.{text_by}
use Rattle.wide_convert.specs.declared.reading.Reading.{Reading}

-- No items have no text.
pub no-text : (policy : Option Policy) (after_fault : Bool) → code_points Utf16Form [] ≡ text_by policy after_fault []
no-text None after_fault = ap (map code_of) (items-nil Utf16Form)
no-text (Some Each) after_fault = ap (map code_of) (items-nil Utf16Form)
no-text (Some Run) true = ap (map code_of) (items-nil Utf16Form)
no-text (Some Run) false = ap (map code_of) (items-nil Utf16Form)
no-text (Some Skip) after_fault = ap (map code_of) (items-nil Utf16Form)

pub no-codes : [] ≡ map Char (code_points Utf16Form []) ++ []
no-codes = sym (ap (λ is. map Char (map code_of is) ++ []) (items-nil Utf16Form))

-- Nothing more was counted.
pub counted-none : (n : ℕ) → n < 2 ^ 64 → n ≡ counted n 0
counted-none n fits = omega (arith, fits)

-- The layout is determined by as many bytes as it needs.
pub record IsKnown (scheme : Scheme) (bs more : List ℕ) : Type 0 where
  pub layout : layout_from scheme (bs ++ more) ≡ layout_from scheme bs
  pub bom : bom_len scheme (bs ++ more) ≡ bom_len scheme bs

known : (scheme : Scheme) (bs more : List ℕ) → start_len scheme ≤ length bs → IsKnown scheme bs more
known Utf8 bs more enough = record { layout = refl; bom = refl }
known Wtf8 bs more enough = record { layout = refl; bom = refl }
known Utf16Le bs more enough = record { layout = refl; bom = refl }
known Utf16Be bs more enough = record { layout = refl; bom = refl }
known Utf32Le bs more enough = record { layout = refl; bom = refl }
known Utf32Be bs more enough = record { layout = refl; bom = refl }
known Utf16 [] more enough = absurd (omega arith)
known Utf16 (a ∷ []) more enough = absurd (omega arith)
known Utf16 (a ∷ b ∷ bs) more enough = record { layout = refl; bom = refl }
known Utf32 [] more enough = absurd (omega arith)
known Utf32 (a ∷ []) more enough = absurd (omega arith)
known Utf32 (a ∷ b ∷ []) more enough = absurd (omega arith)
known Utf32 (a ∷ b ∷ c ∷ []) more enough = absurd (omega arith)
known Utf32 (a ∷ b ∷ c ∷ d ∷ bs) more enough = record { layout = refl; bom = refl }

-- The layout is determined by the bytes, or these are all.
known-or : (scheme : Scheme) (bs more : List ℕ) → (start_len scheme ≤ length bs) ⊎ (more ≡ []) → IsKnown scheme bs more
known-or scheme bs more (inl enough) = known scheme bs more enough
known-or scheme bs more (inr none) = (let all : bs ++ more ≡ bs = ap (λ xs. bs ++ xs) none ∙ append-nil bs in record { layout = ap (layout_from scheme) all; bom = ap (bom_len scheme) all })

-- A BOM is among the bytes.
pub bom-within : (scheme : Scheme) (bs : List ℕ) → bom_len scheme bs ≤ length bs
bom-within Utf8 bs = omega arith
bom-within Wtf8 bs = omega arith
bom-within Utf16Le bs = omega arith
bom-within Utf16Be bs = omega arith
bom-within Utf32Le bs = omega arith
bom-within Utf32Be bs = omega arith
bom-within Utf16 [] = omega arith
bom-within Utf16 (a ∷ []) = grind (arith, nat_tests)
bom-within Utf16 (a ∷ b ∷ bs) = grind (arith, nat_tests)
bom-within Utf32 [] = omega arith
bom-within Utf32 (a ∷ []) = grind (arith, nat_tests)
bom-within Utf32 (a ∷ b ∷ []) = grind (arith, nat_tests)
bom-within Utf32 (a ∷ b ∷ c ∷ []) = grind (arith, nat_tests)
bom-within Utf32 (a ∷ b ∷ c ∷ d ∷ bs) = grind (arith, nat_tests)

-- A BOM is a whole unit.
bom-whole : (scheme : Scheme) (bs : List ℕ) → bom_len scheme bs % unit_len (layout_from scheme bs) ≡ 0
bom-whole Utf8 bs = refl
bom-whole Wtf8 bs = refl
bom-whole Utf16Le bs = refl
bom-whole Utf16Be bs = refl
bom-whole Utf32Le bs = refl
bom-whole Utf32Be bs = refl
bom-whole Utf16 bs = by (is_some (bom_of bs))
  where
    by : (b : Bool) → (if b then 2 else 0) % 2 ≡ 0
    by true = refl
    by false = refl
bom-whole Utf32 bs = by (is_some (bom32_of bs))
  where
    by : (b : Bool) → (if b then 4 else 0) % 4 ≡ 0
    by true = refl
    by false = refl

-- The items of a text, where the beginning determines the layout, or is all of the text.
pub opened : (scheme : Scheme) (keeps : Bool) (bs more : List ℕ) → (start_len scheme ≤ length bs) ⊎ (more ≡ []) → items_from scheme keeps (bs ++ more) ≡ items_in (layout_from scheme bs) keeps false (drop (bom_len scheme bs) bs ++ more)
opened scheme keeps bs more (inl enough) =
    let k = known scheme bs more enough in
    ap (λ layout. items_in layout keeps false (drop (bom_len scheme (bs ++ more)) (bs ++ more))) k.layout ∙ ap (λ n. items_in (layout_from scheme bs) keeps false (drop n (bs ++ more))) k.bom
    ∙ ap (items_in (layout_from scheme bs) keeps false) (drop-append-le (bom_len scheme bs) bs more (bom-within scheme bs))
opened scheme keeps bs more (inr none) =
    ap (λ xs. items_from scheme keeps (bs ++ xs)) none ∙ ap (items_from scheme keeps) (append-nil bs) ∙ ap (items_in (layout_from scheme bs) keeps false) (sym (append-nil (drop (bom_len scheme bs) bs))) ∙ ap (λ xs. items_in (layout_from scheme bs) keeps false (drop (bom_len scheme bs) bs ++ xs)) (sym none)

-- Bytes that are kept are read.
pub kept-all : (kept input more : List ℕ) (n : ℕ) → kept ++ (input ++ more) ≡ (kept ++ take n input) ++ (drop n input ++ more)
kept-all kept input more n = ap (λ xs. kept ++ (xs ++ more)) (sym (take-append-drop n input)) ∙ ap (λ xs. kept ++ xs) (append_assoc (take n input) (drop n input) more) ∙ sym (append_assoc kept (take n input) (drop n input ++ more))

-- No units have no bytes.
no-bytes : (layout' : Layout) → length (encoded layout' (code_points Utf16Form [])) ≡ 0
no-bytes layout' = ap (λ is. length (encoded layout' (map code_of is))) (items-nil Utf16Form) ∙ none layout'
  where
    none : (l : Layout) → length (encoded l []) ≡ 0
    none Utf8Layout = refl
    none Wtf8Layout = refl
    none (Utf16Layout Big) = refl
    none (Utf16Layout Little) = refl
    none (Utf32Layout Big) = refl
    none (Utf32Layout Little) = refl

module _ (r s : Reading) (input : List ℕ) (last : Bool) (read : ℕ) (ready : IsReading r) (closed : r.layout ≡ None)
    (least : read ≡ min (start_len r.scheme - r.unread_len) (length input)) (kept : unread_of s ≡ unread_of r ++ take read input) (len : s.unread_len ≡ r.unread_len + read) (same : SameButUnread r s) where
  -- All input was read, and is not enough to determine the layout.
  pub waits : (room : ℕ) → s.unread_len < start_len r.scheme → last ≡ false → Steps r s input last read [] room NeedsInput
  waits room few not_last =
      let still : s.layout ≡ None = same.layout ∙ closed in
      record {
        passed = [];
        items = λ more may.
            ap (λ l. items_after l r (unread_of r ++ (input ++ more))) closed ∙ ap (items_from r.scheme r.keeps) (kept-all (unread_of r) input more read ∙ ap (λ xs. xs ++ (drop read input ++ more)) (sym kept))
            ∙ ap (λ scheme. items_from scheme r.keeps (unread_of s ++ (drop read input ++ more))) (sym same.scheme) ∙ ap (λ keeps. items_from s.scheme keeps (unread_of s ++ (drop read input ++ more))) (sym same.keeps)
            ∙ ap (λ l. items_after l s (unread_of s ++ (drop read input ++ more))) (sym still);
        text = no-text r.policy r.after_fault;
        fault = same.after_fault;
        moved = record {
          after_bytes = ap (λ p. p.bytes) same.position ∙ counted-none r.position.bytes ready.fits.bytes ∙ ap (counted r.position.bytes) (omega (arith, len));
          after_items = ap (λ p. p.items) same.position ∙ counted-none r.position.items ready.fits.items;
          after_faults = ap (λ p. p.faults) same.position ∙ counted-none r.position.faults ready.fits.faults;
        };
        well_formed = λ k. IsWellFormed-nil Utf16Form;
        whole = λ layout may. ap (λ n. n % unit_len layout) (omega (arith, len)) ∙ whole-none layout;
        strict = λ k. no-codes;
        kept = omega (arith, len);
        starts = subst (λ l. StartsStep l s.layout r s input last read) (sym closed) (subst (λ l. StartsStep None l r s input last read) (sym still)
            (record { no_bom = same.bom ∙ ready.no_bom closed; bytes = λ more. kept-all (unread_of r) input more read ∙ ap (λ xs. xs ++ (drop read input ++ more)) (sym kept) }));
        spans = λ k layout may. omega (arith, no-bytes layout, len, same.bom);
        ends = (omega (arith, least, few, len), ((λ l. absurd (let e = not_last in cc)), λ l. subst (λ x. IsWaiting x s) (sym still) (subst (λ scheme. s.unread_len < start_len scheme) (sym same.scheme) few)));
      }

  -- The layout was determined, and a BOM was passed.
  module _ (t : Reading) (layout : Layout) (bom : ℕ) (enough : last ≡ false → start_len r.scheme ≤ s.unread_len) (layout-is : layout ≡ layout_from s.scheme (unread_of s)) (bom-is : bom ≡ bom_len s.scheme (unread_of s))
      (open' : t.layout ≡ Some layout) (t-unread : unread_of t ≡ drop bom (unread_of s)) (t-len : t.unread_len ≡ s.unread_len - bom) (t-keeps : t.keeps ≡ s.keeps) (t-high : t.after_high ≡ s.after_high) (t-fault : t.after_fault ≡ s.after_fault) (t-bom : t.bom ≡ bom)
      (t-bytes : t.position.bytes ≡ counted s.position.bytes bom) (t-items : t.position.items ≡ counted s.position.items 0) (t-faults : t.position.faults ≡ counted s.position.faults 0) (known-len : length (unread_of s) ≡ s.unread_len) where
    rest-known : (more : List ℕ) → MayFollow last more → (start_len r.scheme ≤ length (unread_of s)) ⊎ (drop read input ++ more ≡ [])
    rest-known more may = elim (cases_Bool last) [
      | inr more_follow ↦ inl (subst (λ n. start_len r.scheme ≤ n) (sym known-len) (enough more_follow))
      | inl no_more ↦ elim (cases_lt s.unread_len (start_len r.scheme)) [
        | inr all ↦ inl (subst (λ n. start_len r.scheme ≤ n) (sym known-len) all)
        | inl few ↦ inr (ap (λ xs. drop read input ++ xs) (may no_more) ∙ append-nil (drop read input) ∙ nil_from_length (drop read input) (omega (arith, length-drop read input, least, few, len)))
      ]
    ]

    within : bom ≤ s.unread_len
    within = omega (arith, bom-is, bom-within s.scheme (unread_of s), known-len)

    items-open : (more : List ℕ) → MayFollow last more → items_left r (input ++ more) ≡ items_left t (drop read input ++ more)
    items-open more may =
        let rest = drop read input ++ more in
        let high : t.after_high ≡ false = t-high ∙ same.after_high ∙ (ready.start closed).0 in
        ap (λ l. items_after l r (unread_of r ++ (input ++ more))) closed ∙ ap (items_from r.scheme r.keeps) (kept-all (unread_of r) input more read ∙ ap (λ xs. xs ++ rest) (sym kept))
        ∙ opened r.scheme r.keeps (unread_of s) rest (rest-known more may)
        ∙ ap (λ scheme. items_in (layout_from scheme (unread_of s)) r.keeps false (drop (bom_len scheme (unread_of s)) (unread_of s) ++ rest)) (sym same.scheme)
        ∙ ap (λ l. items_in l r.keeps false (drop (bom_len s.scheme (unread_of s)) (unread_of s) ++ rest)) (sym layout-is) ∙ ap (λ n. items_in layout r.keeps false (drop n (unread_of s) ++ rest)) (sym bom-is)
        ∙ ap (λ xs. items_in layout r.keeps false (xs ++ rest)) (sym t-unread) ∙ ap (λ keeps. items_in layout keeps false (unread_of t ++ rest)) (sym (t-keeps ∙ same.keeps)) ∙ ap (λ h. items_in layout t.keeps h (unread_of t ++ rest)) (sym high)
        ∙ ap (λ l. items_after l t (unread_of t ++ rest)) (sym open')

    start-known : IsStart r t input last layout
    start-known = record {
      layout_is = λ more may.
          ap (layout_from r.scheme) (kept-all (unread_of r) input more read ∙ ap (λ xs. xs ++ (drop read input ++ more)) (sym kept)) ∙ (known-or r.scheme (unread_of s) (drop read input ++ more) (rest-known more may)).layout
          ∙ ap (λ scheme. layout_from scheme (unread_of s)) (sym same.scheme) ∙ sym layout-is;
      bom_is = λ more may.
          ap (bom_len r.scheme) (kept-all (unread_of r) input more read ∙ ap (λ xs. xs ++ (drop read input ++ more)) (sym kept)) ∙ (known-or r.scheme (unread_of s) (drop read input ++ more) (rest-known more may)).bom
          ∙ ap (λ scheme. bom_len scheme (unread_of s)) (sym same.scheme) ∙ sym (t-bom ∙ bom-is);
    }

    pub opens : (room : ℕ) → Steps r t input last read [] room More
    opens room = record {
      passed = [];
      items = items-open;
      text = no-text r.policy r.after_fault;
      fault = t-fault ∙ same.after_fault;
      moved = record {
        after_bytes = t-bytes ∙ ap (λ p. counted p.bytes bom) same.position ∙ ap (counted r.position.bytes) (omega (arith, len, t-len, within));
        after_items = t-items ∙ ap (λ p. counted p.items 0) same.position;
        after_faults = t-faults ∙ ap (λ p. counted p.faults 0) same.position;
      };
      well_formed = λ k. IsWellFormed-nil Utf16Form;
      whole = λ layout' may. subst (λ l. (r.unread_len + read - t.unread_len) % unit_len l ≡ 0) (subst (λ l. MayBe l layout') open' may) (ap (λ n. n % unit_len layout) (omega (arith, len, t-len, within)) ∙ subst (λ l. bom % unit_len l ≡ 0) (sym layout-is) (subst (λ n. n % unit_len (layout_from s.scheme (unread_of s)) ≡ 0) (sym bom-is) (bom-whole s.scheme (unread_of s))));
      strict = λ k. no-codes;
      kept = omega (arith, len, t-len);
      starts = subst (λ l. StartsStep l t.layout r t input last read) (sym closed) (subst (λ l. StartsStep None l r t input last read) (sym open') start-known);
      spans = λ k layout' e. omega (arith, no-bytes layout', ready.no_bom closed, t-bom, len, t-len, within);
      ends = subst (λ l. left_by l (t.unread_len + (length input - read)) < much_left r (length input)) (sym open') (subst (λ l. t.unread_len + (length input - read) < left_by l (r.unread_len + length input)) (sym closed) (omega (arith, t-len, len, least)));
    }

-- Items that were passed: characters and faults, their text, and what follows them.
use Rattle.std.proofs.Common.{◌≡◌, ◌⊎◌, inl, inr, ℕ, ◌+◌, ◌<◌, ◌≤◌, List, [], ◌∷◌, ◌++◌, Bool, true, false, length, length-append, drop, map, refl, sym, ap, ◌∙◌, subst, arith, append_assoc}
use Rattle.std.specs.Prelude.{Option, Some, None}
use Rattle.std.specs.Char.{IsScalar}
use Rattle.std.proofs.lemmas.List.{append-nil, drop-drop, length-map, map-append}
use Rattle.wide_forms.specs.EncodingForm.{Utf16}
use Rattle.wide_forms.specs.Items.{IsWellFormed, items}
use Rattle.wide_forms.specs.Lossy.{ends_in_fault}
use Rattle.wide_forms.specs.Segmentation.{Item, Char, Fault}
use Rattle.wide_forms.specs.declared.policy.Policy.{Policy}
use Rattle.wide_forms.specs.declared.policy.Policy.TheVariants.{Each, Run, Skip}
use Rattle.wide_forms.specs.Laws.Ends.{IsWellFormed-code_units, items-back_char}
use Rattle.wide_forms.specs.Laws.Forms.{scalar_from}
use Rattle.wide_forms.specs.Laws.Offsets.{characters-chars}
use Rattle.wide_forms.specs.Laws.Policies.{characters-append, ends_in_fault-append, lossy_after-append, lossy_after-chars}
use Rattle.wide_forms.specs.Laws.Splices.{IsWellFormed-append}
use Rattle.wide_unit.specs.CodePoints.{code_of, code_points}
use Rattle.wide_schemes.specs.Layouts.{BeginsWithFault, MayFollow, encoded, items_in}
use Rattle.wide_schemes.specs.declared.layout.Layout.{Layout}
use Rattle.wide_convert.proofs.Encoded.{whole-add}
use Rattle.wide_convert.specs.Positions.{IsAfter, counted}
use Rattle.wide_convert.specs.Readings.{EndsWindow, IsFaultPassed, Passes, PassesFault, PassesText, PassesWindow, SameText, end_after_fault, fault_of, len_of}
use Rattle.wide_convert.specs.Texts.{faults_in, text_by}
use Rattle.wide_convert.specs.declared.reading.Reading.{Reading}
use Rattle.wide_convert.specs.declared.window.WindowEnd.{WindowEnd}
use Rattle.wide_convert.specs.declared.window.WindowEnd.TheVariants.{More, AtEnd, NoSpace, Incomplete, Fault as AtFault}

-- Characters are their own text.
pub text-chars : (policy : Option Policy) (after_fault : Bool) (cs : List ℕ) → text_by policy after_fault (map Char cs) ≡ cs
text-chars None after_fault cs = characters-chars cs
text-chars (Some policy) after_fault cs = lossy_after-chars policy after_fault cs

-- After characters no fault is the last item.
pub fault-chars : (h h' : Bool) (cs : List ℕ) → (length cs ≡ 0 → h' ≡ h) → (0 < length cs → h' ≡ false) → h' ≡ ends_in_fault h (map Char cs)
fault-chars h h' [] same other = same refl
fault-chars h h' (c ∷ cs) same other = other (omega arith) ∙ sym (none cs)
  where
    none : (ds : List ℕ) → ends_in_fault false (map Char ds) ≡ false
    none [] = refl
    none (d ∷ ds) = none ds

pub no-faults : (cs : List ℕ) → faults_in (map Char cs) ≡ 0
no-faults [] = refl
no-faults (c ∷ cs) = no-faults cs

-- There are as many code points as items.
pub length-codes : (us : List ℕ) → length (map Char (code_points Utf16 us)) ≡ length (items Utf16 us)
length-codes us = length-map (code_points Utf16 us) (λ c. Char c) ∙ length-map (items Utf16 us) code_of

-- ---- a fault after characters

pub text-append : (policy : Option Policy) (after_fault : Bool) (is js : List Item) → text_by policy after_fault (is ++ js) ≡ text_by policy after_fault is ++ text_by policy (ends_in_fault after_fault is) js
text-append None after_fault is js = characters-append is js
text-append (Some policy) after_fault is js = lossy_after-append policy after_fault is js

pub faults-append : (is js : List Item) → faults_in (is ++ js) ≡ faults_in is + faults_in js
faults-append [] js = omega arith
faults-append (Char c ∷ is) js = faults-append is js
faults-append (Fault u ∷ is) js = (let rest = faults-append is js in omega (arith, rest))

-- The text of a fault is nothing, or U+FFFD.
fault-text : (policy : Option Policy) (after_fault : Bool) (u : ℕ) → (text_by policy after_fault (Fault u ∷ []) ≡ []) ⊎ (text_by policy after_fault (Fault u ∷ []) ≡ 0xFFFD ∷ [])
fault-text None after_fault u = inl refl
fault-text (Some Each) after_fault u = inr refl
fault-text (Some Run) true u = inl refl
fault-text (Some Run) false u = inr refl
fault-text (Some Skip) after_fault u = inl refl

replacement-scalar : IsScalar 0xFFFD
replacement-scalar = scalar_from 0xFFFD (record { below = omega arith; no_surrogate = λ from. omega arith })

codes-replaced : (us ts : List ℕ) → (ts ≡ []) ⊎ (ts ≡ 0xFFFD ∷ []) → code_points Utf16 (us ++ ts) ≡ code_points Utf16 us ++ ts
codes-replaced us ts (inl none) = ap (λ xs. code_points Utf16 (us ++ xs)) none ∙ ap (code_points Utf16) (append-nil us) ∙ sym (append-nil (code_points Utf16 us)) ∙ ap (λ xs. code_points Utf16 us ++ xs) (sym none)
codes-replaced us ts (inr one) =
    ap (λ xs. code_points Utf16 (us ++ xs)) one ∙ ap (map code_of) (items-back_char Utf16 us 0xFFFD replacement-scalar) ∙ map-append code_of (items Utf16 us) (Char 0xFFFD ∷ []) ∙ ap (λ xs. code_points Utf16 us ++ xs) (sym one)

well-replaced : (us ts : List ℕ) → (ts ≡ []) ⊎ (ts ≡ 0xFFFD ∷ []) → IsWellFormed Utf16 us → IsWellFormed Utf16 (us ++ ts)
well-replaced us ts (inl none) well = subst (IsWellFormed Utf16) (sym (ap (λ xs. us ++ xs) none ∙ append-nil us)) well
well-replaced us ts (inr one) well = subst (λ xs. IsWellFormed Utf16 (us ++ xs)) (sym one) (IsWellFormed-append Utf16 us (0xFFFD ∷ []) well (IsWellFormed-code_units Utf16 0xFFFD replacement-scalar))

pub counted-twice : (a b c n m : ℕ) → b ≡ counted a n → c ≡ counted b m → c ≡ counted a (n + m)
counted-twice a b c n m one other = omega (arith, one, other)

module _ (layout : Layout) (r s t : Reading) (bytes : List ℕ) (last : Bool) (n len unit : ℕ) (us vs : List ℕ)
    (passes : PassesText layout r s bytes last n us) (same : SameText r s) (high : t.after_high ≡ s.after_high) (within : n ≤ length bytes)
    (begins : BeginsWithFault layout r.keeps s.after_high (drop n bytes) last unit len) (fault : IsFaultPassed s t unit len us vs) where
  cs : List ℕ
  cs = code_points Utf16 us

  all : List Item
  all = map Char cs ++ Fault unit ∷ []

  -- The text of the fault, after the characters.
  text-is : text_by s.policy s.after_fault (Fault unit ∷ []) ≡ text_by r.policy (ends_in_fault r.after_fault (map Char cs)) (Fault unit ∷ [])
  unfolding cs
  text-is = ap (λ p. text_by p s.after_fault (Fault unit ∷ [])) same.policy ∙ ap (λ h. text_by r.policy h (Fault unit ∷ [])) passes.fault

  items-are : (more : List ℕ) → MayFollow last more → items_in layout r.keeps r.after_high (bytes ++ more) ≡ all ++ items_in layout r.keeps t.after_high (drop (n + len) bytes ++ more)
  unfolding all cs
  items-are more may =
      passes.items more may ∙ ap (λ is. map Char (code_points Utf16 us) ++ is) (begins.first more may)
      ∙ ap (λ xs. map Char (code_points Utf16 us) ++ Fault unit ∷ items_in layout r.keeps s.after_high (xs ++ more)) (drop-drop len n bytes)
      ∙ ap (λ h. map Char (code_points Utf16 us) ++ Fault unit ∷ items_in layout r.keeps h (drop (n + len) bytes ++ more)) (sym high)
      ∙ sym (append_assoc (map Char (code_points Utf16 us)) (Fault unit ∷ []) (items_in layout r.keeps t.after_high (drop (n + len) bytes ++ more)))

  codes-are : code_points Utf16 vs ≡ text_by r.policy r.after_fault all
  unfolding all cs
  codes-are =
      ap (code_points Utf16) fault.written ∙ codes-replaced us (text_by s.policy s.after_fault (Fault unit ∷ [])) (fault-text s.policy s.after_fault unit)
      ∙ ap (λ xs. code_points Utf16 us ++ xs) text-is ∙ ap (λ xs. xs ++ text_by r.policy (ends_in_fault r.after_fault (map Char (code_points Utf16 us))) (Fault unit ∷ [])) (sym (text-chars r.policy r.after_fault (code_points Utf16 us)))
      ∙ sym (text-append r.policy r.after_fault (map Char (code_points Utf16 us)) (Fault unit ∷ []))

  moved-is : IsAfter r.position t.position (n + len) all
  unfolding all cs
  moved-is =
      let cs' = map Char (code_points Utf16 us) in
      record {
        after_bytes = counted-twice r.position.bytes s.position.bytes t.position.bytes n len passes.moved.after_bytes fault.moved.after_bytes;
        after_items = counted-twice r.position.items s.position.items t.position.items (length cs') 1 passes.moved.after_items fault.moved.after_items ∙ ap (counted r.position.items) (sym (length-append cs' (Fault unit ∷ [])));
        after_faults = counted-twice r.position.faults s.position.faults t.position.faults (faults_in cs') 1 passes.moved.after_faults fault.moved.after_faults ∙ ap (counted r.position.faults) (sym (faults-append cs' (Fault unit ∷ [])));
      }

  -- Characters and a fault after them.
  pub passes-fault : Passes layout r t bytes last (n + len) vs (map Char (code_points Utf16 us) ++ Fault unit ∷ [])
  unfolding all cs
  passes-fault = record {
    items = items-are;
    text = codes-are;
    fault = fault.fault ∙ sym (ends_in_fault-append r.after_fault (map Char (code_points Utf16 us)) (Fault unit ∷ []));
    moved = moved-is;
    well_formed = λ keeps. subst (IsWellFormed Utf16) (sym fault.written) (well-replaced us (text_by s.policy s.after_fault (Fault unit ∷ [])) (fault-text s.policy s.after_fault unit) (passes.well_formed keeps));
    whole = whole-add layout n len passes.whole begins.whole;
  }

  -- Without a policy nothing is written for the fault.
  pub strict-fault : s.policy ≡ None → code_points Utf16 vs ≡ code_points Utf16 us
  strict-fault none =
      let nothing : text_by s.policy s.after_fault (Fault unit ∷ []) ≡ [] = ap (λ p. text_by p s.after_fault (Fault unit ∷ [])) none in
      ap (code_points Utf16) (fault.written ∙ ap (λ xs. us ++ xs) nothing ∙ append-nil us)

-- Where decoding ends because of a fault, there is no policy.
no-policy : (policy : Option Policy) (unit len unit' len' : ℕ) → end_after_fault policy unit len ≡ AtFault unit' len' → (policy ≡ None) × (unit ≡ unit') × (len ≡ len')
no-policy None unit len unit' len' e = (refl, cc, cc)
no-policy (Some policy) unit len unit' len' e = absurd cc

some-policy : (policy : Option Policy) (unit len : ℕ) → end_after_fault policy unit len ≡ More → ¬ (policy ≡ None)
some-policy None unit len e none = cc
some-policy (Some policy) unit len e none = cc

-- Characters that were passed, and what decoding ended at.
pub window-text : (layout : Layout) (r s : Reading) (bytes : List ℕ) (last : Bool) (n : ℕ) (us : List ℕ) (room : ℕ) (end : WindowEnd) → PassesText layout r s bytes last n us → n ≡ length (encoded layout (code_points Utf16 us)) → fault_of end ≡ [] → len_of end ≡ 0 → EndsWindow layout r s (drop n bytes) last n room end → PassesWindow layout r s bytes last n us room end
window-text layout r s bytes last n us room end passes spans none no_len ends = record {
  passed = map Char (code_points Utf16 us);
  passes = passes;
  strict = λ k. sym (append-nil (map Char (code_points Utf16 us))) ∙ ap (λ is. map Char (code_points Utf16 us) ++ is) (sym none);
  spans = λ k. omega (arith, spans, no_len);
  ends = ends;
}

module _ (layout : Layout) (r s t : Reading) (bytes : List ℕ) (last : Bool) (n len unit : ℕ) (us : List ℕ)
    (passes : PassesText layout r s bytes last n us) (spans : n ≡ length (encoded layout (code_points Utf16 us))) (same : SameText r s) (high : t.after_high ≡ s.after_high) (within : n ≤ length bytes)
    (begins : BeginsWithFault layout r.keeps s.after_high (drop n bytes) last unit len) where
  -- What decoding ended at, after characters and the fault that follows them.
  pub window-end : (read : ℕ) (vs : List ℕ) (room room' : ℕ) (end : WindowEnd) → (room ≡ 0 → length vs ≡ length us → room' < 2) → PassesFault s t unit len read us vs room end → PassesWindow layout r t bytes last (n + read) vs room' end
  window-end read vs room room' NoSpace full (still, none, unwritten, no_room) =
      let here : n ≡ n + read = omega (arith, none) in
      window-text layout r t bytes last (n + read) vs room' NoSpace (subst (λ x. PassesText layout r x bytes last (n + read) vs) (sym still) (subst (λ k. PassesText layout r s bytes last k vs) here (subst (PassesText layout r s bytes last n) (sym unwritten) passes))) (sym here ∙ spans ∙ ap (λ xs. length (encoded layout (code_points Utf16 xs))) (sym unwritten)) refl refl (full no_room (ap length unwritten))
  window-end read vs room room' More full (end, all, fault) = record {
    passed = map Char (code_points Utf16 us) ++ Fault unit ∷ [];
    passes = subst (λ k. Passes layout r t bytes last (n + k) vs (map Char (code_points Utf16 us) ++ Fault unit ∷ [])) (sym all) (passes-fault layout r s t bytes last n len unit us vs passes same high within begins fault);
    strict = λ none. absurd (some-policy s.policy unit len end (same.policy ∙ none));
    spans = λ none. absurd (some-policy s.policy unit len end (same.policy ∙ none));
    ends = omega (arith, all, begins.some);
  }
  window-end read vs room room' AtEnd full never = absurd never
  window-end read vs room room' Incomplete full never = absurd never
  window-end read vs room room' (AtFault unit' len') full (end, all, fault) =
      let none = no-policy s.policy unit len unit' len' end in
      let same-codes = strict-fault layout r s t bytes last n len unit us vs passes same high within begins fault none.0 in
      record {
        passed = map Char (code_points Utf16 us) ++ Fault unit ∷ [];
        passes = subst (λ k. Passes layout r t bytes last (n + k) vs (map Char (code_points Utf16 us) ++ Fault unit ∷ [])) (sym all) (passes-fault layout r s t bytes last n len unit us vs passes same high within begins fault);
        strict = λ k. ap (λ cs. map Char cs ++ Fault unit ∷ []) (sym same-codes) ∙ ap (λ u. map Char (code_points Utf16 vs) ++ Fault u ∷ []) none.1;
        spans = λ k. omega (arith, spans, ap (λ cs. length (encoded layout cs)) same-codes, all, none.2);
        ends = (sym same.policy ∙ none.0, omega (arith, all, begins.some));
      }

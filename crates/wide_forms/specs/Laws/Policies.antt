-- Lossy text under a policy: of concatenated lists, at both ends, and of well-formed text.
use Rattle.std.proofs.Common.{◌≡◌, ℕ, ◌<◌, ◌≤◌, suc, zero, length, length-append, List, [], ◌∷◌, ◌++◌, refl, sym, ◌∙◌, ap, arith}
use Rattle.std.specs.Prelude.{map, Bool, true, false, Option, Some, None, is_some, if◌then◌else◌}
use Rattle.std.specs.Char.{IsScalar}
use Rattle.std.specs.List.{All}
use Rattle.std.proofs.lemmas.List.{map-append}
use Rattle.std.proofs.lemmas.List.Concat.{flat_map-append}
use Rattle.wide_forms.specs.EncodingForm.{EncodingForm, Utf16, Utf32, code_units, encode}
use Rattle.wide_forms.specs.Segmentation.{Item, Char, Fault, units_of}
use Rattle.wide_forms.specs.Items.{items, IsWellFormed, characters, chars}
use Rattle.wide_forms.specs.Lossy.{lossy, lossy_char, lossy_runs, lossy_by, past_faults, ends_in_fault, lossy_after, replacement}
use Rattle.wide_forms.specs.Laws.Chains.{Chain}
use Rattle.wide_forms.specs.Laws.Items.{items-chain, chars-of_well_formed, encode-of_items, items-encode, units_of-items}
use Rattle.wide_forms.specs.Laws.Ends.{items-append_left}
use Rattle.wide_forms.specs.Laws.Offsets.{IsWellFormed-encode}
use Rattle.wide_forms.specs.Laws.Lossy.{lossy-chars, scalars-lossy}
use Rattle.wide_forms.specs.declared.policy.Policy.{Policy}
use Rattle.wide_forms.specs.declared.policy.Policy.TheVariants.{Each, Run, Skip}

-- The characters of concatenated lists of items.
pub characters-append : (a b : List Item) → characters (a ++ b) ≡ characters a ++ characters b
characters-append [] b = refl
characters-append (Char c ∷ a) b = ap (λ l. c ∷ l) (characters-append a b)
characters-append (Fault u ∷ a) b = characters-append a b

-- Under `Run`, a character separates the text, whatever is on both sides.
pub runs-at_char : (a b : List Item) (c : ℕ) → lossy_runs (a ++ Char c ∷ b) ≡ lossy_runs a ++ c ∷ lossy_runs b
runs-at_char [] b c = refl
runs-at_char (Char d ∷ a) b c = ap (λ l. d ∷ l) (runs-at_char a b c)
runs-at_char (Fault u ∷ []) b c = refl
runs-at_char (Fault u ∷ Char d ∷ a) b c = ap (λ l. 0xFFFD ∷ l) (runs-at_char (Char d ∷ a) b c)
runs-at_char (Fault u ∷ Fault v ∷ a) b c = runs-at_char (Fault v ∷ a) b c

-- A character separates the text, whatever is on both sides.
pub lossy_by-at_char : (policy : Policy) (a b : List Item) (c : ℕ) → lossy_by policy (a ++ Char c ∷ b) ≡ lossy_by policy a ++ c ∷ lossy_by policy b
lossy_by-at_char Each a b c = map-append lossy_char a (Char c ∷ b)
lossy_by-at_char Run a b c = runs-at_char a b c
lossy_by-at_char Skip a b c = characters-append a (Char c ∷ b)

-- Under `Run`, a fault and the faults that directly follow it yield one U+FFFD.
runs-from_fault : (b : List Item) (u : ℕ) → lossy_runs (Fault u ∷ b) ≡ 0xFFFD ∷ lossy_runs (past_faults b)
runs-from_fault [] u = refl
runs-from_fault (Char c ∷ b) u = refl
runs-from_fault (Fault v ∷ b) u = runs-from_fault b v

-- Under `Run`, the faults that directly follow a fault yield no further U+FFFD.
pub runs-at_fault : (a b : List Item) (u : ℕ) → lossy_runs (a ++ Fault u ∷ b) ≡ lossy_runs (a ++ Fault u ∷ []) ++ lossy_runs (past_faults b)
runs-at_fault [] b u = runs-from_fault b u
runs-at_fault (Char d ∷ a) b u = ap (λ l. d ∷ l) (runs-at_fault a b u)
runs-at_fault (Fault v ∷ []) b u = runs-from_fault b u
runs-at_fault (Fault v ∷ Char d ∷ a) b u = ap (λ l. 0xFFFD ∷ l) (runs-at_fault (Char d ∷ a) b u)
runs-at_fault (Fault v ∷ Fault w ∷ a) b u = runs-at_fault (Fault w ∷ a) b u

-- Lossy text after no fault is lossy text.
pub lossy_after-none : (policy : Policy) (is : List Item) → lossy_after policy false is ≡ lossy_by policy is
lossy_after-none Each is = refl
lossy_after-none Run is = refl
lossy_after-none Skip is = refl

runs-after : (after : Bool) (a b : List Item) → lossy_after Run after (a ++ b) ≡ lossy_after Run after a ++ lossy_after Run (ends_in_fault after a) b
runs-after true [] b = refl
runs-after false [] b = refl
runs-after true (Char c ∷ a) b = ap (λ l. c ∷ l) (runs-after false a b)
runs-after false (Char c ∷ a) b = ap (λ l. c ∷ l) (runs-after false a b)
runs-after true (Fault u ∷ a) b = runs-after true a b
runs-after false (Fault u ∷ a) b =
    let rest = lossy_after Run (ends_in_fault true a) b in
    runs-from_fault (a ++ b) u ∙ ap (λ l. 0xFFFD ∷ l) (runs-after true a b) ∙ ap (λ l. l ++ rest) (sym (runs-from_fault a u))

-- The lossy text of concatenated lists is that of the first, and that of the second after it.
pub lossy_after-append : (policy : Policy) (after : Bool) (a b : List Item) → lossy_after policy after (a ++ b) ≡ lossy_after policy after a ++ lossy_after policy (ends_in_fault after a) b
lossy_after-append Each after a b = map-append lossy_char a b
lossy_after-append Run after a b = runs-after after a b
lossy_after-append Skip after a b = characters-append a b

-- Whether concatenated lists end in a fault depends on the second list, or on the first if the second is empty.
pub ends_in_fault-append : (after : Bool) (a b : List Item) → ends_in_fault after (a ++ b) ≡ ends_in_fault (ends_in_fault after a) b
ends_in_fault-append after [] b = refl
ends_in_fault-append after (Char c ∷ a) b = ends_in_fault-append false a b
ends_in_fault-append after (Fault u ∷ a) b = ends_in_fault-append true a b

-- If a policy writes a character for a fault, it is U+FFFD.
pub replacement-is : (policy : Policy) (after : Bool) (c : ℕ) → replacement policy after ≡ Some c → c ≡ 0xFFFD
replacement-is Each after c e = cc
replacement-is Run true c e = absurd cc
replacement-is Run false c e = cc
replacement-is Skip after c e = absurd cc

-- The lossy text of no items is empty.
pub lossy_after-none_left : (policy : Policy) (after : Bool) → lossy_after policy after [] ≡ []
lossy_after-none_left Each after = refl
lossy_after-none_left Run true = refl
lossy_after-none_left Run false = refl
lossy_after-none_left Skip after = refl

-- A character is unchanged in lossy text.
pub lossy_after-char : (policy : Policy) (after : Bool) (c : ℕ) (is : List Item) → lossy_after policy after (Char c ∷ is) ≡ c ∷ lossy_after policy false is
lossy_after-char Each after c is = refl
lossy_after-char Run true c is = refl
lossy_after-char Run false c is = refl
lossy_after-char Skip after c is = refl

-- If the policy writes a character for a fault, lossy text has it in place of the fault.
pub lossy_after-replaced : (policy : Policy) (after : Bool) (u c : ℕ) (is : List Item) → replacement policy after ≡ Some c → lossy_after policy after (Fault u ∷ is) ≡ c ∷ lossy_after policy true is
lossy_after-replaced Each after u c is e = (let same : 0xFFFD ≡ c = cc in ap (λ d. d ∷ lossy is) same)
lossy_after-replaced Run true u c is e = absurd cc
lossy_after-replaced Run false u c is e = (let same : 0xFFFD ≡ c = cc in runs-from_fault is u ∙ ap (λ d. d ∷ lossy_runs (past_faults is)) same)
lossy_after-replaced Skip after u c is e = absurd cc

-- If the policy writes nothing for a fault, lossy text leaves the fault out.
pub lossy_after-dropped : (policy : Policy) (after : Bool) (u : ℕ) (is : List Item) → replacement policy after ≡ None → lossy_after policy after (Fault u ∷ is) ≡ lossy_after policy true is
lossy_after-dropped Each after u is e = absurd cc
lossy_after-dropped Run true u is e = refl
lossy_after-dropped Run false u is e = absurd cc
lossy_after-dropped Skip after u is e = refl

-- A fault becomes U+FFFD or nothing, as the policy says.
pub lossy_after-fault : (policy : Policy) (after : Bool) (u : ℕ) (is : List Item) → lossy_after policy after (Fault u ∷ is) ≡ (if is_some (replacement policy after) then 0xFFFD ∷ [] else []) ++ lossy_after policy true is
lossy_after-fault policy after u is = by_replacement (replacement policy after) refl
  where
    by_replacement : (r : Option ℕ) → replacement policy after ≡ r → lossy_after policy after (Fault u ∷ is) ≡ (if is_some r then 0xFFFD ∷ [] else []) ++ lossy_after policy true is
    by_replacement None e = lossy_after-dropped policy after u is e
    by_replacement (Some c) e = lossy_after-replaced policy after u c is e ∙ ap (λ d. d ∷ lossy_after policy true is) (replacement-is policy after c e)

-- If a policy replaces the first fault of a run and each later one, its lossy text has U+FFFD for each fault.
pub lossy_after-all_replaced : (policy : Policy) → is_some (replacement policy false) ≡ true → is_some (replacement policy true) ≡ true → (after : Bool) (is : List Item) → lossy_after policy after is ≡ lossy is
lossy_after-all_replaced policy first later after [] = lossy_after-none_left policy after
lossy_after-all_replaced policy first later after (Char c ∷ is) = lossy_after-char policy after c is ∙ ap (λ l. c ∷ l) (lossy_after-all_replaced policy first later false is)
lossy_after-all_replaced policy first later true (Fault u ∷ is) =
    lossy_after-fault policy true u is ∙ ap (λ b. (if b then 0xFFFD ∷ [] else []) ++ lossy_after policy true is) later ∙ ap (λ l. 0xFFFD ∷ l) (lossy_after-all_replaced policy first later true is)
lossy_after-all_replaced policy first later false (Fault u ∷ is) =
    lossy_after-fault policy false u is ∙ ap (λ b. (if b then 0xFFFD ∷ [] else []) ++ lossy_after policy true is) first ∙ ap (λ l. 0xFFFD ∷ l) (lossy_after-all_replaced policy first later true is)

-- A policy that has nothing for the first fault of a run has nothing for a later one.
pub replacement-drops_run : (policy : Policy) → replacement policy false ≡ None → is_some (replacement policy true) ≡ false
replacement-drops_run Each e = absurd cc
replacement-drops_run Run e = refl
replacement-drops_run Skip e = refl

-- Under a policy that has nothing for the first fault of a run, only the characters are left.
pub lossy_by-characters : (policy : Policy) (is : List Item) → replacement policy false ≡ None → lossy_by policy is ≡ characters is
lossy_by-characters Each is e = absurd cc
lossy_by-characters Run is e = absurd cc
lossy_by-characters Skip is e = refl

-- Under `Run`, a run of faults alone yields one U+FFFD.
pub runs-of_run : (u : ℕ) (us : List ℕ) → lossy_runs (map Fault (u ∷ us)) ≡ 0xFFFD ∷ []
runs-of_run u [] = refl
runs-of_run u (v ∷ us) = runs-of_run v us

-- A run of faults alone has no characters.
pub characters-of_run : (us : List ℕ) → characters (map Fault us) ≡ []
characters-of_run [] = refl
characters-of_run (u ∷ us) = characters-of_run us

-- Lossy text of characters alone is those characters.
pub lossy_by-chars : (policy : Policy) (cs : List ℕ) → lossy_by policy (map Char cs) ≡ cs
lossy_by-chars Each cs = lossy-chars cs
lossy_by-chars Run [] = refl
lossy_by-chars Run (c ∷ cs) = ap (λ l. c ∷ l) (lossy_by-chars Run cs)
lossy_by-chars Skip [] = refl
lossy_by-chars Skip (c ∷ cs) = ap (λ l. c ∷ l) (lossy_by-chars Skip cs)

runs-scalars : (form : EncodingForm) (is : List Item) → Chain form is → All IsScalar (lossy_runs is)
runs-scalars form [] chain k d within = absurd (omega arith)
runs-scalars form (Char c ∷ is) chain zero d within = chain.0
runs-scalars form (Char c ∷ is) chain (suc k) d within = runs-scalars form is chain.2 k d (omega arith)
runs-scalars form (Fault u ∷ []) chain zero d within = refl
runs-scalars form (Fault u ∷ []) chain (suc k) d within = absurd (omega arith)
runs-scalars form (Fault u ∷ Char c ∷ is) chain zero d within = refl
runs-scalars form (Fault u ∷ Char c ∷ is) chain (suc k) d within = runs-scalars form (Char c ∷ is) chain.2 k d (omega arith)
runs-scalars form (Fault u ∷ Fault v ∷ is) chain k d within = runs-scalars form (Fault v ∷ is) chain.2 k d within

characters-scalars : (form : EncodingForm) (is : List Item) → Chain form is → All IsScalar (characters is)
characters-scalars form [] chain k d within = absurd (omega arith)
characters-scalars form (Char c ∷ is) chain zero d within = chain.0
characters-scalars form (Char c ∷ is) chain (suc k) d within = characters-scalars form is chain.2 k d (omega arith)
characters-scalars form (Fault u ∷ is) chain k d within = characters-scalars form is chain.2 k d within

-- Lossy text under a policy consists of scalar values.
pub scalars-lossy_by : (policy : Policy) (form : EncodingForm) (us : List ℕ) → All IsScalar (lossy_by policy (items form us))
scalars-lossy_by Each form us = scalars-lossy form us
scalars-lossy_by Run form us = runs-scalars form (items form us) (items-chain form us)
scalars-lossy_by Skip form us = characters-scalars form (items form us) (items-chain form us)

past_faults-chain : (form : EncodingForm) (is : List Item) → Chain form is → Chain form (past_faults is)
past_faults-chain form [] chain = chain
past_faults-chain form (Char c ∷ is) chain = chain
past_faults-chain form (Fault u ∷ is) chain = past_faults-chain form is chain.2

-- Lossy text of items that follow others consists of scalar values.
pub scalars-lossy_after : (policy : Policy) (after : Bool) (form : EncodingForm) (us : List ℕ) → All IsScalar (lossy_after policy after (items form us))
scalars-lossy_after Each after form us = scalars-lossy form us
scalars-lossy_after Run true form us = runs-scalars form (past_faults (items form us)) (past_faults-chain form (items form us) (items-chain form us))
scalars-lossy_after Run false form us = runs-scalars form (items form us) (items-chain form us)
scalars-lossy_after Skip after form us = characters-scalars form (items form us) (items-chain form us)

-- Lossy text of well-formed units is their characters.
pub lossy_by-well_formed : (policy : Policy) (form : EncodingForm) (us : List ℕ) → IsWellFormed form us → lossy_by policy (items form us) ≡ chars form us
lossy_by-well_formed policy form us well = ap (lossy_by policy) (chars-of_well_formed form us well) ∙ lossy_by-chars policy (chars form us)

-- Lossy text of well-formed units encodes to the units.
pub encode-lossy_by : (policy : Policy) (form : EncodingForm) (us : List ℕ) → IsWellFormed form us → encode form (lossy_by policy (items form us)) ≡ us
encode-lossy_by policy form us well = ap (λ cs. encode form cs) (lossy_by-well_formed policy form us well) ∙ encode-of_items form (chars form us) us (chars-of_well_formed form us well)

-- The encoding of lossy text under a policy is well formed.
pub well_formed-lossy_by : (policy : Policy) (form : EncodingForm) (us : List ℕ) → IsWellFormed form (encode form (lossy_by policy (items form us)))
well_formed-lossy_by policy form us = IsWellFormed-encode form (lossy_by policy (items form us)) (scalars-lossy_by policy form us)

-- Lossy text begins with the characters at the beginning, unchanged.
pub beyond-chars : (policy : Policy) (cs : List ℕ) (is : List Item) → lossy_by policy (map Char cs ++ is) ≡ cs ++ lossy_by policy is
beyond-chars policy [] is = refl
beyond-chars Each (c ∷ cs) is = ap (λ l. c ∷ l) (beyond-chars Each cs is)
beyond-chars Run (c ∷ cs) is = ap (λ l. c ∷ l) (beyond-chars Run cs is)
beyond-chars Skip (c ∷ cs) is = ap (λ l. c ∷ l) (beyond-chars Skip cs is)

-- Characters do not end in a fault, if there are any.
pub ends_in_fault-chars : (after : Bool) (cs : List ℕ) → 0 < length cs → ends_in_fault after (map Char cs) ≡ false
ends_in_fault-chars after [] some = absurd (omega arith)
ends_in_fault-chars after (c ∷ []) some = refl
ends_in_fault-chars after (c ∷ d ∷ cs) some = ends_in_fault-chars false (d ∷ cs) (omega arith)

-- The lossy text of characters that follow others is these characters.
pub lossy_after-chars : (policy : Policy) (after : Bool) (cs : List ℕ) → lossy_after policy after (map Char cs) ≡ cs
lossy_after-chars Each after cs = lossy_by-chars Each cs
lossy_after-chars Run true [] = refl
lossy_after-chars Run true (c ∷ cs) = lossy_by-chars Run (c ∷ cs)
lossy_after-chars Run false cs = lossy_by-chars Run cs
lossy_after-chars Skip after cs = lossy_by-chars Skip cs

-- Lossy text of units, by their numbers, begins with the well-formed units at the beginning, unchanged.
pub lossy_by-split : {C : Type 0} (policy : Policy) (form : EncodingForm) (number : C → ℕ) (units prefix back : List C) → prefix ++ back ≡ units → IsWellFormed form (map number prefix)
    → map number prefix ++ encode form (lossy_by policy (items form (map number back))) ≡ encode form (lossy_by policy (items form (map number units)))
lossy_by-split policy form number units prefix back e well =
    let a = map number prefix in
    let b = map number back in
    let cs = chars form a in
    let left = lossy_by policy (items form b) in
    let joined : items form (map number units) ≡ map Char cs ++ items form b =
    ap (λ us. items form (map number us)) (sym e) ∙ ap (items form) (map-append number prefix back) ∙ items-append_left form a b well ∙ ap (λ is. is ++ items form b) (chars-of_well_formed form a well)
    in
    sym (ap (λ is. encode form (lossy_by policy is)) joined ∙ ap (encode form) (beyond-chars policy cs (items form b)) ∙ flat_map-append (code_units form) cs left
    ∙ ap (λ us. us ++ encode form left) (encode-of_items form cs a (chars-of_well_formed form a well)))

-- Lossy text of encoded lossy text, under the same policy, is the same.
pub lossy_by-twice : (policy : Policy) (form : EncodingForm) (us : List ℕ) → lossy_by policy (items form (encode form (lossy_by policy (items form us)))) ≡ lossy_by policy (items form us)
lossy_by-twice policy form us =
    let text = lossy_by policy (items form us) in
    ap (lossy_by policy) (items-encode form text (scalars-lossy_by policy form us)) ∙ lossy_by-chars policy text

-- U+FFFD has one unit.
one_unit : (form : EncodingForm) → length (code_units form 0xFFFD) ≡ 1
one_unit Utf16 = refl
one_unit Utf32 = refl

module _ (form : EncodingForm) where
  char_longer : (c : ℕ) (a : List ℕ) (is : List Item) → length (encode form a) ≤ length (units_of form is) → length (encode form (c ∷ a)) ≤ length (units_of form (Char c ∷ is))
  char_longer c a is h = omega (arith, h, length-append (code_units form c) (encode form a), length-append (code_units form c) (units_of form is))

  fault_longer : (u : ℕ) (a : List ℕ) (is : List Item) → length (encode form a) ≤ length (units_of form is) → length (encode form (0xFFFD ∷ a)) ≤ length (units_of form (Fault u ∷ is))
  fault_longer u a is h = omega (arith, h, one_unit form, length-append (code_units form 0xFFFD) (encode form a))

  -- Lossy text with U+FFFD for each fault is never longer in units than the original.
  pub length-each : (is : List Item) → length (encode form (lossy is)) ≤ length (units_of form is)
  length-each [] = omega arith
  length-each (Char c ∷ is) = char_longer c (lossy is) is (length-each is)
  length-each (Fault u ∷ is) = fault_longer u (lossy is) is (length-each is)

  length-runs : (is : List Item) → length (encode form (lossy_runs is)) ≤ length (units_of form is)
  length-runs [] = omega arith
  length-runs (Char c ∷ is) = char_longer c (lossy_runs is) is (length-runs is)
  length-runs (Fault u ∷ []) = fault_longer u [] [] (omega arith)
  length-runs (Fault u ∷ Char c ∷ is) = fault_longer u (lossy_runs (Char c ∷ is)) (Char c ∷ is) (length-runs (Char c ∷ is))
  length-runs (Fault u ∷ Fault v ∷ is) = omega (arith, length-runs (Fault v ∷ is))

  length-skip : (is : List Item) → length (encode form (characters is)) ≤ length (units_of form is)
  length-skip [] = omega arith
  length-skip (Char c ∷ is) = char_longer c (characters is) is (length-skip is)
  length-skip (Fault u ∷ is) = omega (arith, length-skip is)

-- Lossy text under a policy is never longer in units than the original.
pub length-lossy_by : (policy : Policy) (form : EncodingForm) (us : List ℕ) → length (encode form (lossy_by policy (items form us))) ≤ length us
length-lossy_by Each form us = rw (units_of-items form us) at (length-each form (items form us))
length-lossy_by Run form us = rw (units_of-items form us) at (length-runs form (items form us))
length-lossy_by Skip form us = rw (units_of-items form us) at (length-skip form (items form us))

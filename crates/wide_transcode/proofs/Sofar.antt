-- What has been transcoded so far, of the bytes after the BOM.
use Rattle.std.proofs.Common.{◌≡◌, ◌≢◌, ℕ, ◌+◌, ◌*◌, ◌/◌, ◌%◌, ◌<◌, ◌≤◌, ◌⊎◌, inl, inr, Bool, false, eqb, List, [], ◌∷◌, ◌++◌, Option, Some, None, length, take, drop, refl, sym, ap, ◌∙◌, subst, arith, length-append, length-take-le, append_assoc, take-add}
use Rattle.std.proofs.lemmas.List.{append-nil, take-append-drop}
use Rattle.std.proofs.lemmas.List.Concat.{flat_map-append}
use Rattle.std.specs.Prelude.{map, unwrap_or}
use Rattle.std.specs.Option.{option_map}
use Rattle.wide_forms.specs.EncodingForm.{Utf16, encode}
use Rattle.wide_forms.specs.Segmentation.{Item, Char, Fault}
use Rattle.wide_forms.specs.Items.{items, leading_characters, first_fault_unit}
use Rattle.wide_forms.specs.Lossy.{lossy_by}
use Rattle.wide_forms.specs.Utf8.{utf8, utf8_bytes}
use Rattle.wide_forms.specs.Laws.Items.{IsCut, encode-of_items, items-append, items-nil}
use Rattle.wide_forms.specs.Laws.Ends.{items-prefix_low, items-prefix_high}
use Rattle.wide_forms.specs.Laws.Policies.{lossy_after-none}
use Rattle.wide_forms.specs.declared.policy.Policy.{Policy}
use Rattle.wide_forms.specs.declared.policy.Policy.TheVariants.{Each}
use Rattle.wide_bytes.specs.Bytes.{units_in, is_odd}
use Rattle.wide_utf16_to_utf8.specs.Encoded.{IsUnpaired}
use Rattle.wide_transcode.specs.Lossied.{IsText, Lossied, units_end_in_fault, lossy_text}
use Rattle.wide_transcode.specs.Transcoded.{Transcoded, Ending, Unpaired, ending_of}
use Rattle.wide_bytes.specs.Put.{IsBeginningOf}
use Rattle.wide_transcode.specs.Chunks.{units_after, transcoded_after}
use Rattle.wide_bytes.specs.declared.order.BoM.{BoM}
use Rattle.wide_bytes.proofs.Pairs.{units_in-append, length-units_in}
use Rattle.wide_transcode.proofs.Zeros.{left-prefix, nil-left, same-parity, split-units}
use Rattle.wide_transcode.proofs.Lossied.{cut-shorter, joined, lossied-none, lossied-then, text-lossy, text-then}

-- Of all bytes, `rest` is left. `written` is the lossy text of those before it, `after_fault` says whether a fault was
-- read last, and `offset` is the number of their units. If there is no policy, they have no fault, and are the text of
-- `item` characters.
pub record Sofar (order : BoM) (policy : Option Policy) (all rest : List ℕ) (after_fault : Bool) (written : List ℕ) (offset item : ℕ) : Type 0 where
  pub passed : List ℕ
  pub split : all ≡ passed ++ rest
  pub lossied : Lossied order (unwrap_or policy Each) passed rest false [] after_fault written
  pub counted : 2 * offset ≡ length passed
  pub strict : policy ≡ None → IsText (units_in order passed) item

-- ---- characters, and what follows them

leading-chars : (cs : List ℕ) (is : List Item) → leading_characters (map Char cs ++ is) ≡ cs ++ leading_characters is
leading-chars [] is = refl
leading-chars (c ∷ cs) is = ap (λ xs. c ∷ xs) (leading-chars cs is)

first_fault-chars : (cs : List ℕ) (is : List Item) → first_fault_unit (map Char cs ++ is) ≡ first_fault_unit is
first_fault-chars [] is = refl
first_fault-chars (c ∷ cs) is = first_fault-chars cs is

surrogate : (u : ℕ) (tail : List ℕ) → IsUnpaired u tail → u ≢ 0
surrogate u tail (inl low) e = omega arith
surrogate u tail (inr high) e = omega (arith, high.0)

first_left : (u : ℕ) (tail left dropped : List ℕ) → u ≢ 0 → u ∷ tail ≡ left ++ dropped → (dropped ≡ []) ⊎ (dropped ≡ 0 ∷ []) → (more : List ℕ) × (left ≡ u ∷ more) × (tail ≡ more ++ dropped)
first_left u tail [] dropped some e (inl none) = absurd cc
first_left u tail [] dropped some e (inr only) = (let same : u ≡ 0 = cc in absurd (some same))
first_left u tail (l ∷ left) dropped some e h = (let same : l ≡ u = cc in let rest : tail ≡ left ++ dropped = cc in (left, ap (λ x. x ∷ left) same, rest))

unpaired-prefix : (u : ℕ) (tail more dropped : List ℕ) → tail ≡ more ++ dropped → IsUnpaired u tail → IsUnpaired u more
unpaired-prefix u tail more dropped e (inl low) = inl low
unpaired-prefix u tail more dropped e (inr high) = inr (high.0, λ l back f. high.1 l (back ++ dropped) (e ∙ ap (λ us. us ++ dropped) f))

items-unpaired : (u : ℕ) (tail : List ℕ) → IsUnpaired u tail → items Utf16 (u ∷ tail) ≡ Fault u ∷ items Utf16 tail
items-unpaired u tail (inl low) = items-prefix_low Utf16 u tail low
items-unpaired u tail (inr high) = items-prefix_high Utf16 u tail high.0 high.1

-- ---- what all bytes become, by what was written

abbrev pub becomes : List ℕ → Ending → Transcoded
becomes t e = record { text = t; ending = e }

module _ {order : BoM} {policy : Option Policy} {all rest : List ℕ} {after_fault : Bool} {written : List ℕ} {offset item : ℕ} (s : Sofar order policy all rest after_fault written offset item) where
  units-all : units_after order all ≡ units_in order s.passed ++ units_after order rest
  units-all = ap (λ bs. units_after order bs) s.split ∙ split-units order s.passed rest s.lossied.even s.lossied.no_zero

  cut-all : IsCut Utf16 (units_in order s.passed) (units_after order rest)
  cut-all =
      let prefix = left-prefix order rest in
      let first = units_in order s.passed in
      let others = units_after order rest in
      cut-shorter first others prefix.0 (subst (λ us. IsCut Utf16 first us) (ap (λ bs. units_in order bs) (append-nil rest) ∙ prefix.1) (s.lossied.cut []))

  pub odd-all : (n : ℕ) → length rest ≡ n → is_odd all ≡ eqb (n % 2) 1
  odd-all n long = ap is_odd s.split ∙ same-parity s.passed rest s.lossied.even ∙ ap (λ m. eqb (m % 2) 1) long

  pub lossy-all : (lossy : Policy) → unwrap_or policy Each ≡ lossy → utf8 (lossy_by lossy (items Utf16 (units_after order all))) ≡ written ++ lossy_text lossy after_fault (units_after order rest)
  lossy-all lossy e =
      let first = units_in order s.passed in
      let others = units_after order rest in
      let text : written ≡ lossy_text lossy false first = s.lossied.text ∙ ap (λ p. lossy_text p false first) e in
      ap (λ cs. utf8 cs) (sym (lossy_after-none lossy (items Utf16 (units_after order all)))) ∙ ap (λ us. lossy_text lossy false us) units-all ∙ joined lossy false first others cut-all
      ∙ ap (λ bs. bs ++ lossy_text lossy (units_end_in_fault false first) others) (sym text) ∙ ap (λ t. written ++ lossy_text lossy t others) (sym s.lossied.flag)

  pub many : offset ≤ length (units_after order all)
  many = omega (arith, ap length units-all, length-append (units_in order s.passed) (units_after order rest), length-units_in order s.passed, s.counted)

-- What all bytes become without a policy: the characters up to a fault.
module _ {order : BoM} {all rest : List ℕ} {after_fault : Bool} {written : List ℕ} {offset item : ℕ} (s : Sofar order None all rest after_fault written offset item) where
  abbrev characters : List ℕ
  characters = (s.strict refl).0

  items-all : items Utf16 (units_after order all) ≡ map Char characters ++ items Utf16 (units_after order rest)
  items-all = ap (λ us. items Utf16 us) (units-all s) ∙ items-append Utf16 (units_in order s.passed) (units_after order rest) (cut-all s) ∙ ap (λ is. is ++ items Utf16 (units_after order rest)) (s.strict refl).1

  count : length (encode Utf16 characters) ≡ offset
  count = omega (arith, ap length (encode-of_items Utf16 characters (units_in order s.passed) (s.strict refl).1), length-units_in order s.passed, s.counted)

  text_of : (is : List Item) → utf8 (leading_characters (map Char characters ++ is)) ≡ written ++ utf8 (leading_characters is)
  text_of is =
      ap (λ cs. utf8 cs) (leading-chars characters is) ∙ flat_map-append utf8_bytes characters (leading_characters is)
      ∙ ap (λ bs. bs ++ utf8 (leading_characters is)) (sym (s.lossied.text ∙ text-lossy Each (units_in order s.passed) item (s.strict refl)))

  strict-beginning : IsBeginningOf written (transcoded_after order None all).text
  strict-beginning = (utf8 (leading_characters (items Utf16 (units_after order rest))), ap (λ is. utf8 (leading_characters is)) items-all ∙ text_of (items Utf16 (units_after order rest)))

  reported : (is : List Item) (fault : Option ℕ) → items Utf16 (units_after order rest) ≡ is → leading_characters is ≡ [] → first_fault_unit is ≡ fault
      → transcoded_after order None all ≡ becomes written (ending_of (option_map (λ u. (offset, item, u)) fault) (is_odd all))
  reported is fault left no_chars at =
      let all_items : items Utf16 (units_after order all) ≡ map Char characters ++ is = items-all ∙ ap (λ js. map Char characters ++ js) left in
      let leading : leading_characters (map Char characters ++ is) ≡ characters = leading-chars characters is ∙ ap (λ cs. characters ++ cs) no_chars ∙ append-nil characters in
      let text : utf8 (leading_characters (map Char characters ++ is)) ≡ written = text_of is ∙ ap (λ cs. written ++ utf8 cs) no_chars ∙ append-nil written in
      ap (λ js. becomes (utf8 (leading_characters js)) (ending_of (option_map (λ u. (length (encode Utf16 (leading_characters js)), length (leading_characters js), u)) (first_fault_unit js)) (is_odd all))) all_items
      ∙ ap (λ t. becomes t (ending_of (option_map (λ u. (length (encode Utf16 (leading_characters (map Char characters ++ is))), length (leading_characters (map Char characters ++ is)), u)) (first_fault_unit (map Char characters ++ is))) (is_odd all))) text
      ∙ ap (λ cs. becomes written (ending_of (option_map (λ u. (length (encode Utf16 cs), length cs, u)) (first_fault_unit (map Char characters ++ is))) (is_odd all))) leading
      ∙ ap (λ f. becomes written (ending_of (option_map (λ u. (length (encode Utf16 characters), length characters, u)) f) (is_odd all))) (first_fault-chars characters is ∙ at)
      ∙ ap (λ n. becomes written (ending_of (option_map (λ u. (n, length characters, u)) fault) (is_odd all))) count ∙ ap (λ n. becomes written (ending_of (option_map (λ u. (offset, n, u)) fault) (is_odd all))) (sym (s.strict refl).2)

  -- If none of the units that bytes mean is left, the text is complete.
  pub whole : (n : ℕ) → length rest ≡ n → units_after order rest ≡ [] → transcoded_after order None all ≡ becomes written (ending_of None (eqb (n % 2) 1))
  whole n long none = reported [] None (ap (λ us. items Utf16 us) none ∙ items-nil Utf16) refl refl ∙ ap (λ t. becomes written (ending_of None t)) (odd-all s n long)

  module _ (u : ℕ) (tail : List ℕ) (first : units_in order rest ≡ u ∷ tail) (unpaired : IsUnpaired u tail) where
    split-at : (more : List ℕ) × (units_after order rest ≡ u ∷ more) × IsUnpaired u more
    split-at =
        let prefix = left-prefix order rest in
        let left = first_left u tail (units_after order rest) prefix.0 (surrogate u tail unpaired) (sym first ∙ prefix.1) prefix.2 in
        (left.0, left.1, unpaired-prefix u tail left.0 prefix.0 left.2 unpaired)

    pub at_fault : transcoded_after order None all ≡ becomes written (Unpaired offset item u)
    at_fault = (let at = split-at in reported (Fault u ∷ items Utf16 at.0) (Some u) (ap (λ us. items Utf16 us) at.1 ∙ items-unpaired u at.0 at.2) refl refl)

    pub many_at_fault : offset < length (units_after order all)
    many_at_fault = (let at = split-at in omega (arith, ap length (units-all s), ap length at.1, length-append (units_in order s.passed) (units_after order rest), length-units_in order s.passed, s.counted))

pub beginning : (policy : Option Policy) {order : BoM} {all rest : List ℕ} {after_fault : Bool} {written : List ℕ} {offset item : ℕ} → Sofar order policy all rest after_fault written offset item → IsBeginningOf written (transcoded_after order policy all).text
beginning None s = strict-beginning s
beginning (Some policy) {order} {all} {rest} {after_fault} s = (lossy_text policy after_fault (units_after order rest), lossy-all s policy refl)

-- ---- how far the run came

pub started : (order : BoM) (policy : Option Policy) (first : List ℕ) → Sofar order policy (first ++ []) first false [] 0 0
unfolding units_in
started order policy first = record { passed = []; split = append-nil first; lossied = lossied-none order (unwrap_or policy Each) false first []; counted = refl; strict = λ e. ([], items-nil Utf16, refl) }

pub given-more : {order : BoM} {policy : Option Policy} {after_fault : Bool} {all rest written : List ℕ} {offset item : ℕ} (more : List ℕ) → Sofar order policy all rest after_fault written offset item → Sofar order policy (all ++ more) (rest ++ more) after_fault written offset item
given-more {order} {policy} {after_fault} {all} {rest} {written} {offset} {item} more s = record {
  passed = s.passed;
  split = ap (λ bs. bs ++ more) s.split ∙ append_assoc s.passed rest more;
  counted = s.counted;
  strict = s.strict;
  lossied = record {
    even = s.lossied.even;
    text = s.lossied.text;
    flag = s.lossied.flag;
    cut = λ others. subst (λ bs. IsCut Utf16 (units_in order s.passed) (units_in order bs)) (sym (append_assoc rest more others)) (s.lossied.cut (more ++ others));
    no_zero = λ e. s.lossied.no_zero (nil-left rest more e);
  };
}

rebased : {order : BoM} {policy : Policy} {after_fault after_fault' : Bool} {bytes rest text : List ℕ} (before : List ℕ) → Lossied order policy bytes rest after_fault [] after_fault' text → Lossied order policy bytes rest after_fault before after_fault' (before ++ text)
rebased {order} {policy} {after_fault} {after_fault'} {bytes} {rest} {text} before e = record { even = e.even; text = ap (λ bs. before ++ bs) e.text; flag = e.flag; cut = e.cut; no_zero = e.no_zero }

-- What has been transcoded after one more chunk, the prefix of `r` bytes of which was encoded, where `put` is the text
-- that the sink took.
pub stepped : {order : BoM} {policy : Option Policy} {after_fault : Bool} {all rest written : List ℕ} {offset item : ℕ} (text put : List ℕ) (r n : ℕ) (after_fault' : Bool) → Sofar order policy all rest after_fault written offset item → r ≤ length rest
    → Lossied order (unwrap_or policy Each) (take r rest) (drop r rest) after_fault [] after_fault' text → (policy ≡ None → IsText (units_in order (take r rest)) n) → put ≡ text
    → Sofar order policy all (drop r rest) after_fault' (written ++ put) (offset + r / 2) (item + n)
stepped {order} {policy} {after_fault} {all} {rest} {written} {offset} {item} text put r n after_fault' s within e characters same =
    let long : length (take r rest) ≡ r = length-take-le r rest within in
    record {
      passed = s.passed ++ take r rest;
      split = s.split ∙ ap (λ bs. s.passed ++ bs) (sym (take-append-drop r rest)) ∙ sym (append_assoc s.passed (take r rest) (drop r rest));
      lossied = lossied-then (subst (λ bs. Lossied order (unwrap_or policy Each) s.passed bs false [] after_fault written) (sym (take-append-drop r rest)) s.lossied)
          (rebased written (subst (λ t. Lossied order (unwrap_or policy Each) (take r rest) (drop r rest) after_fault [] after_fault' t) (sym same) e));
      counted = omega (arith, s.counted, length-append s.passed (take r rest), long, e.even);
      strict = λ none. subst (λ us. IsText us (item + n)) (sym (units_in-append order s.passed (take r rest) s.lossied.even)) (text-then (units_in order s.passed) (units_in order (take r rest)) item n (s.strict none) (characters none));
    }

-- The bytes that were not encoded have been moved to the beginning of a chunk.
pub bytes-moved : {order : BoM} {policy : Option Policy} {after_fault : Bool} {all rest written : List ℕ} {offset item : ℕ} (left : List ℕ) → Sofar order policy all rest after_fault written offset item → left ≡ rest → Sofar order policy all left after_fault written offset item
bytes-moved {order} {policy} {after_fault} {all} {rest} {written} {offset} {item} left s e = subst (λ bs. Sofar order policy all bs after_fault written offset item) (sym e) s

pub taken-beyond : {order : BoM} {policy : Option Policy} {after_fault : Bool} (first bytes : List ℕ) {rest written : List ℕ} {offset item : ℕ} (chunk : List ℕ) (pending n : ℕ) → Sofar order policy (first ++ bytes) rest after_fault written offset item → take pending chunk ≡ rest
    → Sofar order policy (first ++ (bytes ++ take n (drop pending chunk))) (take (pending + n) chunk) after_fault written offset item
taken-beyond {order} {policy} {after_fault} first bytes {rest} {written} {offset} {item} chunk pending n s prefix =
    let more = take n (drop pending chunk) in
    let longer : rest ++ more ≡ take (pending + n) chunk = ap (λ bs. bs ++ more) (sym prefix) ∙ sym (take-add pending n chunk) in
    subst (λ bs. Sofar order policy (first ++ (bytes ++ more)) bs after_fault written offset item) longer (subst (λ bs. Sofar order policy bs (rest ++ more) after_fault written offset item) (append_assoc first bytes more) (given-more more s))

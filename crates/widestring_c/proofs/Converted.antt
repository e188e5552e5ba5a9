-- Parts of a text that were converted one after another.
use Rattle.std.proofs.Common.{◌≡◌, ℕ, ◌+◌, ◌-◌, ◌<◌, ◌≤◌, List, [], ◌∷◌, ◌++◌, Ok, refl, sym, ap, ◌∙◌, subst, arith, append-nil, append_assoc, length, length-append, length-drop, length-take-le, map, take, drop}
use Rattle.std.specs.Prelude.{Result}
use Rattle.std.specs.List.{flat_map}
use Rattle.std.specs.Str.{IsUtf8, chars as str_chars}
use Rattle.std.proofs.Math.Seq.{drop-append_seam, take-add, take-append_seam}
use Rattle.std.proofs.lemmas.List.{drop-drop, drop-map, length-map, length-take, map-append, take-append-drop, take-map, take-take}
use Rattle.std.proofs.lemmas.List.Concat.{flat_map-append}
use Rattle.std.proofs.lemmas.Str.{encodes-chars}
use Rattle.wide_forms.specs.EncodingForm.{EncodingForm, code_units}
use Rattle.wide_forms.specs.Segmentation.{Item, Char, Fault, item_units, units_of}
use Rattle.wide_forms.specs.Items.{IsWellFormed, chars, items}
use Rattle.wide_forms.specs.Utf8.{utf8_bytes}
use Rattle.wide_forms.specs.Laws.Ends.{items-append_left}
use Rattle.wide_forms.specs.Laws.Items.{chars-of_well_formed, units_of-items}
use Rattle.wide_forms.specs.Laws.Offsets.{encode-chars}
use Rattle.wide_forms.specs.Laws.Utf8.{utf8-encode_utf8_all}
use Rattle.wide_unit.specs.Unit.{item_of}
use Rattle.wide_conversions.specs.Utf8Items.{utf8_items}
use Rattle.wide_conversions.proofs.PrefixTexts.{utf8_items-prefix}
use Rattle.widestring_c.specs.Parts.{BeginWithNoChar, BeginsWithChar, Converts, IsPart, StopsBefore}

module _ (items : List ℕ → List Item) (from to : ℕ → List ℕ) (source : List ℕ) where
  pub nothing_converted : Converts items from to source 0 []
  nothing_converted = record { characters = []; within = omega arith; passed = refl; text = refl; rest = refl }

  -- More characters were converted after those before them.
  pub converts-more : (read n : ℕ) (written more : List ℕ) → Converts items from to source read written → Converts items from to (drop read source) n more → Converts items from to source (read + n) (written ++ more)
  converts-more read n written more w v = record {
    characters = w.characters ++ v.characters;
    within = omega (arith, w.within, v.within, length-drop read source);
    passed = take-add read n source ∙ ap (λ xs. xs ++ take n (drop read source)) w.passed ∙ ap (λ xs. flat_map from w.characters ++ xs) v.passed ∙ sym (flat_map-append from w.characters v.characters);
    text = ap (λ xs. xs ++ more) w.text ∙ ap (λ xs. flat_map to w.characters ++ xs) v.text ∙ sym (flat_map-append to w.characters v.characters);
    rest = w.rest ∙ ap (λ is. map Char w.characters ++ is) v.rest ∙ sym (append_assoc (map Char w.characters) (map Char v.characters) (items (drop n (drop read source))))
        ∙ ap (λ is. is ++ items (drop n (drop read source))) (sym (map-append Char w.characters v.characters)) ∙ ap (λ xs. map Char (w.characters ++ v.characters) ++ items xs) (drop-drop n read source);
  }

  -- As much as fits was converted after other characters.
  pub part-more : (read n room : ℕ) (written more : List ℕ) → Converts items from to source read written → IsPart items from to (drop read source) n more room → IsPart items from to source (read + n) (written ++ more) room
  part-more read n room written more w v = record {
    converts = converts-more read n written more w v.converts;
    stop = subst (λ xs. StopsBefore to room (items xs)) (drop-drop n read source) v.stop;
  }

  -- The buffer was divided where the first characters end, and the rest was put into its second part. `view` gives the
  -- numbers of what was written.
  module _ {Y : Type 0} (view : List Y → List ℕ) (join : (a b : List Y) → view (a ++ b) ≡ view a ++ view b) where
    pub part-joined : (read n w v : ℕ) (old front new : List Y) → front ≡ take w old → w ≤ length old → Converts items from to source read (view (take w old)) → IsPart items from to (drop read source) n (view (take v new)) (length new - v)
        → IsPart items from to source (read + n) (view (take (w + v) (front ++ new))) (length (front ++ new) - (w + v))
    part-joined read n w v old front new is within converts part =
        let len : length front ≡ w = ap length is ∙ length-take-le w old within in
        let head : take w (front ++ new) ≡ front = ap (λ k. take k (front ++ new)) (sym len) ∙ take-append_seam front new in
        let tail : drop w (front ++ new) ≡ new = ap (λ k. drop k (front ++ new)) (sym len) ∙ drop-append_seam front new in
        let taken : take (w + v) (front ++ new) ≡ front ++ take v new = take-add w v (front ++ new) ∙ ap (λ xs. xs ++ take v (drop w (front ++ new))) head ∙ ap (λ xs. front ++ take v xs) tail in
        let text : view (take (w + v) (front ++ new)) ≡ view (take w old) ++ view (take v new) = ap view taken ∙ join front (take v new) ∙ ap (λ xs. view xs ++ view (take v new)) is in
        let room : length (front ++ new) - (w + v) ≡ length new - v = omega (arith, length-append front new, len) in
        subst (λ xs. IsPart items from to source (read + n) xs (length (front ++ new) - (w + v))) (sym text)
        (subst (λ m. IsPart items from to source (read + n) (view (take w old) ++ view (take v new)) m) (sym room) (part-more read n (length new - v) (view (take w old)) (view (take v new)) converts part))

-- What is beyond both parts is unchanged.
pub joined-beyond : {Y : Type 0} (w v : ℕ) (old between front back new : List Y) → front ≡ take w between → w ≤ length between → back ≡ drop w between → drop w between ≡ drop w old → drop v new ≡ drop v back → drop (w + v) (front ++ new) ≡ drop (w + v) old
joined-beyond w v old between front back new is within rest first second =
    let len : length front ≡ w = ap length is ∙ length-take-le w between within in
    let tail : drop w (front ++ new) ≡ new = ap (λ k. drop k (front ++ new)) (sym len) ∙ drop-append_seam front new in
    sym (drop-drop v w (front ++ new)) ∙ ap (drop v) tail ∙ second ∙ ap (drop v) (rest ∙ first) ∙ drop-drop v w old

module _ (form : EncodingForm) (to : ℕ → List ℕ) where
  -- The first character of units was converted.
  converts-character : (us : List ℕ) (n c : ℕ) → n ≡ length (code_units form c) → items form us ≡ Char c ∷ items form (drop n us) → n ≤ length us → Converts (items form) (code_units form) to us n (to c)
  converts-character us n c is first within =
      let joined : us ≡ code_units form c ++ drop n us = sym (units_of-items form us) ∙ ap (units_of form) first ∙ ap (λ xs. code_units form c ++ xs) (units_of-items form (drop n us)) in
      let taken : take n us ≡ code_units form c = ap (take n) joined ∙ ap (λ m. take m (code_units form c ++ drop n us)) is ∙ take-append_seam (code_units form c) (drop n us) in
      record { characters = c ∷ []; within = within; passed = taken ∙ sym (append-nil (code_units form c)); text = sym (append-nil (to c)); rest = first }

  -- Well-formed units at the beginning were converted.
  converts-run : (us : List ℕ) (n : ℕ) → n ≤ length us → IsWellFormed form (take n us) → Converts (items form) (code_units form) to us n (flat_map to (chars form (take n us)))
  converts-run us n within well = record {
    characters = chars form (take n us);
    within = within;
    passed = sym (encode-chars form (take n us) well);
    text = refl;
    rest = ap (items form) (sym (take-append-drop n us)) ∙ items-append_left form (take n us) (drop n us) well ∙ ap (λ is. is ++ items form (drop n us)) (chars-of_well_formed form (take n us) well);
  }

  module _ {X : Type 0} (number : X → ℕ) (units : List X) (read n : ℕ) where
    -- The first character from an offset on was converted, as `split_first` reports it.
    pub character-of : (rest tail : List X) (c : ℕ) (item : Result ℕ X) → rest ≡ drop read units → item ≡ Ok c → n ≡ length (code_units form c) → items form (map number rest) ≡ item_of number item ∷ items form (map number tail)
        → tail ≡ drop (length (item_units form (item_of number item))) rest → length tail + length (item_units form (item_of number item)) ≡ length rest → Converts (items form) (code_units form) to (drop read (map number units)) n (to c)
    character-of rest tail c item at ok is first beyond long =
        let same : item_of number item ≡ Char c = ap (item_of number) ok in
        let len : length (item_units form (item_of number item)) ≡ n = ap (λ i. length (item_units form i)) same ∙ sym is in
        let us = map number rest in
        let after : map number tail ≡ drop n us = ap (map number) beyond ∙ ap (λ k. map number (drop k rest)) len ∙ sym (drop-map number n rest) in
        let split : items form us ≡ Char c ∷ items form (drop n us) = first ∙ ap (λ i. i ∷ items form (map number tail)) same ∙ ap (λ xs. Char c ∷ items form xs) after in
        let here : us ≡ drop read (map number units) = ap (map number) at ∙ sym (drop-map number read units) in
        subst (λ xs. Converts (items form) (code_units form) to xs n (to c)) here (converts-character us n c is split (omega (arith, long, len, length-map rest number)))

    -- The items from an offset on begin with this character.
    pub first-of : (rest tail : List X) (c : ℕ) (item : Result ℕ X) → rest ≡ drop read units → item ≡ Ok c → items form (map number rest) ≡ item_of number item ∷ items form (map number tail) → items form (drop read (map number units)) ≡ Char c ∷ items form (map number tail)
    first-of rest tail c item at ok first = ap (items form) (drop-map number read units ∙ sym (ap (map number) at)) ∙ first ∙ ap (λ i. i ∷ items form (map number tail)) (ap (item_of number) ok)

    -- A run of well-formed units from an offset on was converted.
    pub run-of : (rest window piece : List X) (m : ℕ) → rest ≡ drop read units → window ≡ take m rest → n ≤ length window → piece ≡ take n window → IsWellFormed form (map number piece)
        → Converts (items form) (code_units form) to (drop read (map number units)) n (flat_map to (chars form (map number piece)))
    run-of rest window piece m at cut fits is well =
        let short : length window ≡ length (take m rest) = ap length cut in
        let most : n ≤ m = omega (arith, fits, short, length-take m rest) in
        let all : piece ≡ take n (drop read units) = is ∙ ap (take n) cut ∙ take-take n m rest most ∙ ap (take n) at in
        let same : map number piece ≡ take n (drop read (map number units)) = ap (map number) all ∙ sym (take-map number n (drop read units)) ∙ ap (take n) (sym (drop-map number read units)) in
        let within : n ≤ length (drop read (map number units)) = omega (arith, fits, short, length-take m rest, ap length at, length-drop read units, length-drop read (map number units), length-map units number) in
        subst (λ us. Converts (items form) (code_units form) to (drop read (map number units)) n (flat_map to (chars form us))) (sym same)
        (converts-run (drop read (map number units)) n within (subst (IsWellFormed form) same well))

module _ (to : ℕ → List ℕ) where
  -- The first character of bytes was converted.
  pub char-of : (bs rest : List ℕ) (read n c : ℕ) → rest ≡ drop read bs → n ≡ length (utf8_bytes c) → BeginsWithChar rest c → Converts utf8_items utf8_bytes to (drop read bs) n (to c)
  char-of bs rest read n c at is first =
      let back : drop n rest ≡ first.rest = ap (drop n) first.whole ∙ ap (λ m. drop m (utf8_bytes c ++ first.rest)) is ∙ drop-append_seam (utf8_bytes c) first.rest in
      let taken : take n rest ≡ utf8_bytes c = ap (take n) first.whole ∙ ap (λ m. take m (utf8_bytes c ++ first.rest)) is ∙ take-append_seam (utf8_bytes c) first.rest in
      subst (λ xs. Converts utf8_items utf8_bytes to xs n (to c)) at (record {
        characters = c ∷ [];
        within = omega (arith, is, ap length first.whole, length-append (utf8_bytes c) first.rest);
        passed = taken ∙ sym (append-nil (utf8_bytes c));
        text = sym (append-nil (to c));
        rest = first.items ∙ ap (λ xs. Char c ∷ utf8_items xs) (sym back);
      })

  -- A run of UTF-8 from an offset on was converted.
  pub text-of : (bs rest window piece : List ℕ) (read n m : ℕ) → rest ≡ drop read bs → window ≡ take m rest → n ≤ length window → piece ≡ take n window → IsUtf8 piece → Converts utf8_items utf8_bytes to (drop read bs) n (flat_map to (str_chars piece))
  text-of bs rest window piece read n m at cut fits is text =
      let short : length window ≡ length (take m rest) = ap length cut in
      let most : n ≤ m = omega (arith, fits, short, length-take m rest) in
      let all : piece ≡ take n rest = is ∙ ap (take n) cut ∙ take-take n m rest most in
      subst (λ xs. Converts utf8_items utf8_bytes to xs n (flat_map to (str_chars piece))) at (record {
        characters = str_chars piece;
        within = omega (arith, fits, short, length-take m rest);
        passed = sym all ∙ sym (utf8-encode_utf8_all (str_chars piece) ∙ encodes-chars piece text);
        text = refl;
        rest = utf8_items-prefix rest n (subst IsUtf8 all text) ∙ ap (λ xs. map Char (str_chars xs) ++ utf8_items (drop n rest)) (sym all);
      })

  -- A conversion stops before what is no character.
  pub stops-no_char : (room : ℕ) (is : List Item) → BeginWithNoChar is → StopsBefore to room is
  stops-no_char room [] none = tt
  stops-no_char room (Fault u ∷ is) none = tt
  stops-no_char room (Char c ∷ is) none = absurd none

  -- A conversion stops before a character that does not fit.
  pub stops-character : (room c : ℕ) (is rest : List Item) → is ≡ Char c ∷ rest → room < length (to c) → StopsBefore to room is
  stops-character room c is rest first long = subst (λ js. StopsBefore to room js) (sym first) long

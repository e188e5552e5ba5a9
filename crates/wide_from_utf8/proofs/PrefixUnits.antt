-- Text that is split after a prefix of its characters: the units of the prefix, and those of the rest.
use Rattle.std.proofs.Common.{◌≡◌, ℕ, zero, suc, ◌+◌, ◌-◌, ◌*◌, ◌<◌, ◌≤◌, List, [], ◌∷◌, ◌++◌, length, get_or, take, drop, refl, sym, ap, ◌∙◌, subst, arith, append_assoc, get_or-take, length-append, length-drop, length-take}
use Rattle.std.specs.Char.{IsScalar}
use Rattle.std.specs.Str.{IsUtf8}
use Rattle.std.specs.Str.{chars as str_chars}
use Rattle.std.specs.Str.Pattern.{StartsWithChar}
use Rattle.std.proofs.lemmas.List.{drop-drop, get_or-drop, take_all}
use Rattle.std.proofs.lemmas.Str.{chars_past_char}
use Rattle.wide_from_utf8.proofs.FirstCharacters.{four-from, in_four, in_one, in_three, wide}
use Rattle.wide_from_utf8.specs.Decoded.{IsDecoded, LeadsThree, code_of_four, code_of_three, codes_of_three}
use Rattle.wide_utf16_to_utf8.proofs.UnitEncodings.{one_unit-plain}
use Rattle.wide_forms.specs.EncodingForm.{EncodingForm, code_units, encode}

-- The units of the text are `us` and the units of the text from `offset` on.
pub record IsPrefixUnits (form : EncodingForm) (bs : List ℕ) (offset : ℕ) (us : List ℕ) : Type 0 where
  pub units : encode form (str_chars bs) ≡ us ++ encode form (str_chars (drop offset bs))
  pub rest : IsUtf8 (drop offset bs)

-- What is after a prefix, as a slice of the whole.
pub beyond-is : {X : Type 0} (xs : List X) (n : ℕ) → take (length xs - n) (drop n xs) ≡ drop n xs
beyond-is xs n = take_all (length xs - n) (drop n xs) (omega (arith, length-drop n xs))

module _ (form : EncodingForm) where
  -- The empty prefix has no units.
  pub prefix_units-none : (bs : List ℕ) → IsUtf8 bs → IsPrefixUnits form bs 0 []
  prefix_units-none bs text = record { units = refl; rest = text }

  -- The units of a prefix, and those of a prefix of the rest, are the units of both.
  pub prefix_units-then : (bs us vs ws : List ℕ) (n m : ℕ) → IsPrefixUnits form bs n us → IsPrefixUnits form (drop n bs) m vs → ws ≡ us ++ vs → IsPrefixUnits form bs (n + m) ws
  prefix_units-then bs us vs ws n m prefix back joined =
      let beyond : drop m (drop n bs) ≡ drop (n + m) bs = drop-drop m n bs in
      record {
        units = prefix.units ∙ ap (λ xs. us ++ xs) (back.units ∙ ap (λ ds. vs ++ encode form (str_chars ds)) beyond) ∙ sym (append_assoc us vs (encode form (str_chars (drop (n + m) bs)))) ∙ ap (λ xs. xs ++ encode form (str_chars (drop (n + m) bs))) (sym joined);
        rest = subst (λ ds. IsUtf8 ds) beyond back.rest;
      }

  -- The units of the first character are those of a prefix.
  pub prefix_units-char : (bs : List ℕ) (c n : ℕ) → IsUtf8 bs → StartsWithChar bs c n → IsPrefixUnits form bs n (code_units form c)
  prefix_units-char bs c n text first = record { units = ap (λ cs. encode form cs) (chars_past_char bs (drop n bs) c text first.0); rest = first.4 }

  -- ASCII characters are their own units.
  pub prefix_units-ascii : (n : ℕ) (bs : List ℕ) → IsUtf8 bs → n ≤ length bs → ((k : ℕ) → k < n → get_or bs k 0 < 0x80) → IsPrefixUnits form bs n (take n bs)
  prefix_units-ascii zero bs text within ascii = prefix_units-none bs text
  prefix_units-ascii (suc n) [] text within ascii = absurd (omega arith)
  prefix_units-ascii (suc n) (b ∷ bs) text within ascii =
      let low : b < 0x80 = ascii 0 (omega arith) in
      let first : IsPrefixUnits form (b ∷ bs) 1 (code_units form b) = prefix_units-char (b ∷ bs) b 1 text (in_one (b ∷ bs) text (omega arith) low).1 in
      let more = prefix_units-ascii n bs first.rest (omega arith) (λ k before. ascii (suc k) (omega arith)) in
      record { units = first.units ∙ ap (λ us. us ++ encode form (str_chars bs)) (one_unit-plain form b (omega arith)) ∙ ap (λ us. b ∷ us) more.units; rest = more.rest }

  -- The units of characters of three bytes each, at the beginning of text.
  pub prefix_units-threes : (m n : ℕ) (bs : List ℕ) → IsUtf8 bs → n ≡ 3 * m → ((k : ℕ) → k < m → LeadsThree (get_or bs (3 * k) 0)) → IsPrefixUnits form bs n (take m (codes_of_three bs)) × ((k : ℕ) → k < m → IsScalar (get_or (codes_of_three bs) k 0))
  prefix_units-threes zero n bs text long leading = (subst (λ p. IsPrefixUnits form bs p []) {x = 0} {y = n} (omega arith) (prefix_units-none bs text), λ k before. absurd (omega arith))
  prefix_units-threes (suc m) n [] text long leading = (let lead = leading 0 (omega arith) in absurd (omega (arith, lead.0)))
  prefix_units-threes (suc m) n (a ∷ []) text long leading = (let lead = leading 0 (omega arith) in absurd (omega (arith, (wide (a ∷ []) text (omega arith)).1 lead.0)))
  prefix_units-threes (suc m) n (a ∷ b ∷ []) text long leading = (let lead = leading 0 (omega arith) in absurd (omega (arith, (wide (a ∷ b ∷ []) text (omega arith)).1 lead.0)))
  prefix_units-threes (suc m) n (a ∷ b ∷ c ∷ bs) text long leading =
      let all = a ∷ b ∷ c ∷ bs in
      let lead = leading 0 (omega arith) in
      let v = code_of_three a b c in
      let read = in_three all text (omega arith) lead.0 lead.1 in
      let first : IsPrefixUnits form all 3 (code_units form v) = prefix_units-char all v 3 text read.1 in
      let more = prefix_units-threes m (3 * m) bs first.rest refl (λ k before. (let next : 3 * suc k ≡ suc (suc (suc (3 * k))) = omega arith in subst (λ j. LeadsThree (get_or all j 0)) next (leading (suc k) (omega arith)))) in
      let joined = ap (λ us. us ++ take m (codes_of_three bs)) (sym (one_unit-plain form v (omega arith))) in (
        subst (λ p. IsPrefixUnits form all p (v ∷ take m (codes_of_three bs))) {x = 3 + 3 * m} {y = n} (omega arith) (prefix_units-then all (code_units form v) (take m (codes_of_three bs)) (v ∷ take m (codes_of_three bs)) 3 (3 * m) first more.0 joined),
        scalars v (codes_of_three bs) m read.0 more.1,
      )
    where
      scalars : (v : ℕ) (vs : List ℕ) (m : ℕ) → IsScalar v → ((k : ℕ) → k < m → IsScalar (get_or vs k 0)) → (k : ℕ) → k < suc m → IsScalar (get_or (v ∷ vs) k 0)
      scalars v vs m first more zero before = first
      scalars v vs m first more (suc k) before = more k (omega arith)

  -- What appending the units of a prefix does to the units before.
  pub joined : (bs before after us : List ℕ) (n : ℕ) → after ≡ before ++ us → IsPrefixUnits form bs n us → IsDecoded form bs n before after
  joined bs before after us n more prefix =
      let rest = encode form (str_chars (drop n bs)) in
      record { units = ap (λ vs. before ++ vs) prefix.units ∙ sym (append_assoc before us rest) ∙ ap (λ vs. vs ++ rest) (sym more); rest = prefix.rest }

  -- Decoding nothing appends nothing.
  pub decoded-none : (bs before : List ℕ) → IsUtf8 bs → IsDecoded form bs 0 before before
  decoded-none bs before text = record { units = refl; rest = text }

  -- The rest after a decoded prefix is UTF-8.
  pub decoded-beyond : (bs x y : List ℕ) (n : ℕ) → IsDecoded form bs n x y → IsUtf8 (take (length bs - n) (drop n bs))
  decoded-beyond bs x y n prefix = subst (λ ds. IsUtf8 ds) (sym (beyond-is bs n)) prefix.rest

  -- If a prefix is decoded, and then a prefix of the rest, both are decoded.
  pub decoded-then : (bs x y z : List ℕ) (n m : ℕ) → IsDecoded form bs n x y → IsDecoded form (take (length bs - n) (drop n bs)) m y z → IsDecoded form bs (n + m) x z
  decoded-then bs x y z n m prefix back =
      let beyond = beyond-is bs n in
      let rest : drop m (take (length bs - n) (drop n bs)) ≡ drop (n + m) bs = ap (drop m) beyond ∙ drop-drop m n bs in
      record {
        units = prefix.units ∙ ap (λ ds. y ++ encode form (str_chars ds)) (sym beyond) ∙ back.units ∙ ap (λ ds. z ++ encode form (str_chars ds)) rest;
        rest = subst (λ ds. IsUtf8 ds) rest back.rest;
      }

  -- The first character of text is decoded.
  pub decoded-char : (bs before after : List ℕ) (c n : ℕ) → IsUtf8 bs → StartsWithChar bs c n → after ≡ before ++ code_units form c → IsDecoded form bs n before after
  decoded-char bs before after c n text first more = joined bs before after (code_units form c) n more (prefix_units-char bs c n text first)

  -- Some ASCII characters at the beginning of text are decoded.
  pub decoded-ascii : (bs before after : List ℕ) (n : ℕ) → IsUtf8 bs → n ≤ length bs → ((k : ℕ) → k < n → get_or bs k 0 < 0x80) → after ≡ before ++ take n bs → IsDecoded form bs n before after
  decoded-ascii bs before after n text within ascii more = joined bs before after (take n bs) n more (prefix_units-ascii n bs text within ascii)

-- After the first characters of four bytes, the next one begins.
module _ (bs : List ℕ) (k : ℕ) (within : k < 4) (long : 16 ≤ length bs) where
  abbrev rest : List ℕ
  rest = take (length bs - 4 * k) (drop (4 * k) bs)

  byte-at : (i j : ℕ) → j ≡ 4 * k + i → i < 4 → get_or rest i 0 ≡ get_or (take 16 bs) j 0
  byte-at i j is few = ap (λ ds. get_or ds i 0) (beyond-is bs (4 * k)) ∙ get_or-drop (4 * k) bs i 0 ∙ ap (λ n. get_or bs n 0) (sym is) ∙ sym (get_or-take 16 bs j 0 (omega arith))

  pub four-read : IsUtf8 rest → 0xF0 ≤ get_or bs (4 * k) 0 → let v : ℕ = code_of_four (get_or (take 16 bs) (4 * k) 0) (get_or (take 16 bs) (4 * k + 1) 0) (get_or (take 16 bs) (4 * k + 2) 0) (get_or (take 16 bs) (4 * k + 3) 0) in IsScalar v × StartsWithChar rest v 4 × (0x1_0000 ≤ v)
  four-read text high =
      let first = byte-at 0 (4 * k) (omega arith) (omega arith) in
      let second = byte-at 1 (4 * k + 1) (omega arith) (omega arith) in
      let third = byte-at 2 (4 * k + 2) (omega arith) (omega arith) in
      let fourth = byte-at 3 (4 * k + 3) (omega arith) (omega arith) in
      let lead = get_or-take 16 bs (4 * k) 0 (omega arith) in
      let same : code_of_four (get_or rest 0 0) (get_or rest 1 0) (get_or rest 2 0) (get_or rest 3 0) ≡ code_of_four (get_or (take 16 bs) (4 * k) 0) (get_or (take 16 bs) (4 * k + 1) 0) (get_or (take 16 bs) (4 * k + 2) 0) (get_or (take 16 bs) (4 * k + 3) 0) = omega (arith, first, second, third, fourth) in
      let some : 0 < length rest = omega (arith, length-take (length bs - 4 * k) (drop (4 * k) bs), length-drop (4 * k) bs) in
      let led : 0xF0 ≤ get_or rest 0 0 = omega (arith, first, lead, high) in
      let read = in_four rest text some led in
      subst (λ v. IsScalar v × StartsWithChar rest v 4 × (0x1_0000 ≤ v)) same (read.0, read.1, four-from rest text some led)

-- After a prefix there is space for the next character, if there is space for all.
pub decoded-next : (form : EncodingForm) (bs us rest : List ℕ) (n c m : ℕ) → IsDecoded form bs n [] us → rest ≡ drop n bs → IsUtf8 rest → StartsWithChar rest c m → length us + length (code_units form c) ≤ length (encode form (str_chars bs))
decoded-next form bs us rest n c m prefix is text first =
    let beyond = encode form (str_chars (drop n bs)) in
    let first_units = prefix_units-char form rest c m text first in
    let all : length (encode form (str_chars bs)) ≡ length us + length beyond = ap length prefix.units ∙ length-append us beyond in
    let next : length (encode form (str_chars rest)) ≡ length (code_units form c) + length (encode form (str_chars (drop m rest))) = ap length first_units.units ∙ length-append (code_units form c) (encode form (str_chars (drop m rest))) in
    let same : length (encode form (str_chars rest)) ≡ length beyond = ap (λ ds. length (encode form (str_chars ds))) is in
    omega (arith, all, next, same)

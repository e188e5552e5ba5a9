-- The characters and faults of UTF-8, and of UTF-8 before a fault; and lossy text of both.
use Rattle.std.proofs.Common.{◌≡◌, ℕ, zero, suc, ◌+◌, ◌<◌, inl, inr, List, [], ◌∷◌, ◌++◌, true, false, add-zero, length, map, take, drop, refl, sym, ap, ◌∙◌, subst, arith, append_assoc, length-drop}
use Rattle.std.specs.Prelude.{slice_index}
use Rattle.std.specs.Char.{encode_utf8}
use Rattle.std.specs.Str.{IsUtf8, IsValidUpTo, StartsWithNoChar, all_scalars, chars, encode_utf8_all}
use Rattle.std.specs.Str.{chars as str_chars}
use Rattle.std.specs.Str.Lossy.{after_first_chunk, replacement_bytes, utf8_invalid_len, utf8_lossy, utf8_valid_len}
use Rattle.std.proofs.lemmas.Bool.{and_parts, cases_lt}
use Rattle.std.proofs.lemmas.List.{append-nil, drop-drop, get_or-drop, take-append-drop, take_all}
use Rattle.std.proofs.lemmas.Str.{chars-append, chars_from_encodes, utf8_lossy-IsUtf8, utf8_lossy_step}
use Rattle.wide_forms.specs.Segmentation.{Item, Char, Fault}
use Rattle.wide_forms.specs.Utf8.{utf8_bytes}
use Rattle.wide_forms.specs.Lossy.{lossy}
use Rattle.wide_forms.specs.Laws.Lossy.{lossy-chars}
use Rattle.wide_forms.specs.Laws.Policies.{lossy_after-append, lossy_after-chars}
use Rattle.wide_forms.specs.Laws.Utf8.{utf8_bytes-encode_utf8}
use Rattle.wide_forms.specs.declared.policy.Policy.TheVariants.{Each}
use Rattle.wide_conversions.specs.Utf8Items.{AreUtf8Items, character, none, part, utf8_items, utf8_items-divide, utf8_items-unique}
use Rattle.wide_conversions.specs.Laws.Utf8Items.{below_more, no_char-beyond, shorter-part, valid_len-prefix, valid_len-longest}

-- The items of characters and other bytes after them are the characters and the items of the other bytes.
after_chars : (cs bs : List ℕ) (is : List Item) → all_scalars cs ≡ true → AreUtf8Items bs is → AreUtf8Items (encode_utf8_all cs ++ bs) (map Char cs ++ is)
after_chars [] bs is scalars more = more
after_chars (c ∷ cs) bs is scalars more =
    let parts = and_parts _ _ scalars in
    let rest = encode_utf8_all cs ++ bs in
    let joined : utf8_bytes c ++ rest ≡ encode_utf8_all (c ∷ cs) ++ bs = ap (λ xs. xs ++ rest) (utf8_bytes-encode_utf8 c) ∙ sym (append_assoc (encode_utf8 c) (encode_utf8_all cs) bs) in
    subst (λ xs. AreUtf8Items xs (map Char (c ∷ cs) ++ is)) joined (character c rest (map Char cs ++ is) parts.0 (after_chars cs bs is parts.1 more))

after_text : (prefix bs : List ℕ) (is : List Item) → IsUtf8 prefix → AreUtf8Items bs is → AreUtf8Items (prefix ++ bs) (map Char (str_chars prefix) ++ is)
after_text prefix bs is text more =
    let same = chars_from_encodes text.0 prefix text text.1.1 in
    subst (λ xs. AreUtf8Items (xs ++ bs) (map Char (str_chars prefix) ++ is)) text.1.1 (subst (λ cs. AreUtf8Items (encode_utf8_all text.0 ++ bs) (map Char cs ++ is)) same (after_chars text.0 bs is text.1.0 more))

-- The items of bytes with a prefix that is UTF-8 are its characters and the items of the other bytes.
pub utf8_items-prefix : (bs : List ℕ) (n : ℕ) → IsUtf8 (take n bs) → utf8_items bs ≡ map Char (str_chars (take n bs)) ++ utf8_items (drop n bs)
utf8_items-prefix bs n text =
    let rest = drop n bs in
    let items = after_text (take n bs) rest (utf8_items rest) text (utf8_items-divide rest) in
    utf8_items-unique bs _ _ (utf8_items-divide bs) (subst (λ xs. AreUtf8Items xs (map Char (str_chars (take n bs)) ++ utf8_items rest)) (take-append-drop n bs) items)

-- The items of UTF-8 are its characters.
pub utf8_items-text : (bs : List ℕ) → IsUtf8 bs → utf8_items bs ≡ map Char (str_chars bs)
utf8_items-text bs text =
    let items = subst (λ xs. AreUtf8Items xs (map Char (str_chars bs))) (append-nil bs) (subst (λ is. AreUtf8Items (bs ++ []) is) (append-nil (map Char (str_chars bs))) (after_text bs [] [] text none)) in
    utf8_items-unique bs (utf8_items bs) (map Char (str_chars bs)) (utf8_items-divide bs) items

-- The items of bytes with a prefix that is UTF-8, and a fault after it, are the characters of the prefix, the fault and
-- the items of the other bytes.
pub utf8_items-chunk : (bs : List ℕ) (n m : ℕ) → IsUtf8 (take n bs) → StartsWithNoChar (drop n bs) → 0 < length (drop n bs) → m ≡ utf8_invalid_len (drop n bs)
    → utf8_items bs ≡ map Char (str_chars (take n bs)) ++ Fault (slice_index bs n) ∷ utf8_items (drop (n + m) bs)
utf8_items-chunk bs n m prefix unread some is =
    let rest = drop n bs in
    let prefix_items = map Char (str_chars (take n bs)) in
    let last = drop (utf8_invalid_len rest) rest in
    let items = after_text (take n bs) rest (Fault (slice_index rest 0) ∷ utf8_items last) prefix (part rest (utf8_items last) some unread (utf8_items-divide last)) in
    let whole = subst (λ xs. AreUtf8Items xs (prefix_items ++ Fault (slice_index rest 0) ∷ utf8_items last)) (take-append-drop n bs) items in
    let first : slice_index rest 0 ≡ slice_index bs n = get_or-drop n bs 0 0 ∙ ap (λ k. slice_index bs k) (add-zero n) in
    let beyond : last ≡ drop (n + m) bs = drop-drop (utf8_invalid_len rest) n bs ∙ ap (λ k. drop (n + k) bs) (sym is) in
    utf8_items-unique bs (utf8_items bs) _ (utf8_items-divide bs) whole ∙ ap (λ u. prefix_items ++ Fault u ∷ utf8_items last) first ∙ ap (λ xs. prefix_items ++ Fault (slice_index bs n) ∷ utf8_items xs) beyond

-- The items of bytes whose longest prefix of UTF-8 is followed by a fault.
pub utf8_items-valid_up_to : (bs : List ℕ) (n m : ℕ) → IsValidUpTo bs n → m ≡ utf8_invalid_len (drop n bs) → utf8_items bs ≡ map Char (str_chars (take n bs)) ++ Fault (slice_index bs n) ∷ utf8_items (drop (n + m) bs)
utf8_items-valid_up_to bs n m valid is = utf8_items-chunk bs n m valid.front (no_char-beyond bs n valid.front (λ k more within. valid.longest k more)) (omega (arith, valid.short, length-drop n bs)) is

pub utf8_items-valid_len : (bs : List ℕ) (n m : ℕ) → n ≡ utf8_valid_len bs → n < length bs → m ≡ utf8_invalid_len (drop n bs) → utf8_items bs ≡ map Char (str_chars (take n bs)) ++ Fault (slice_index bs n) ∷ utf8_items (drop (n + m) bs)
utf8_items-valid_len bs n m valid short is =
    let prefix : IsUtf8 (take n bs) = subst (λ k. IsUtf8 (take k bs)) (sym valid) (valid_len-prefix bs) in
    utf8_items-chunk bs n m prefix (no_char-beyond bs n prefix (λ k more within text. omega (arith, valid, more, valid_len-longest bs k within text))) (omega (arith, short, length-drop n bs)) is

-- Lossy text of characters and a fault after them.
after_characters : (cs : List ℕ) (u : ℕ) (is : List Item) → lossy (map Char cs ++ Fault u ∷ is) ≡ cs ++ 0xFFFD ∷ lossy is
after_characters cs u is = lossy_after-append Each false (map Char cs) (Fault u ∷ is) ∙ ap (λ ds. ds ++ 0xFFFD ∷ lossy is) (lossy_after-chars Each false cs)

-- The text of U+FFFD and other bytes is that character and the text of the others.
replacement : (bs : List ℕ) → str_chars (replacement_bytes ++ bs) ≡ 0xFFFD ∷ str_chars bs
unfolding chars
replacement [] = refl
replacement (b ∷ bs) = refl

-- The lossy text of bytes is that of std.
lossy-text : (bs : List ℕ) → IsUtf8 bs → lossy (utf8_items bs) ≡ str_chars (utf8_lossy bs)
lossy-text bs text = ap lossy (utf8_items-text bs text) ∙ lossy-chars (str_chars bs) ∙ ap str_chars (sym (utf8_lossy-IsUtf8 bs text))

lossy-chunk : (bs : List ℕ) → utf8_valid_len bs < length bs → lossy (utf8_items (after_first_chunk bs)) ≡ str_chars (utf8_lossy (after_first_chunk bs)) → lossy (utf8_items bs) ≡ str_chars (utf8_lossy bs)
lossy-chunk bs short more =
    let n = utf8_valid_len bs in
    let prefix = take n bs in
    let rest = after_first_chunk bs in
    let faulty : ¬ (n ≡ length bs) = λ whole. omega arith in
    let items = utf8_items-valid_len bs n (utf8_invalid_len (drop n bs)) refl short refl in
    ap lossy items ∙ after_characters (str_chars prefix) (slice_index bs n) (utf8_items rest) ∙ ap (λ cs. str_chars prefix ++ 0xFFFD ∷ cs) more
    ∙ ap (λ cs. str_chars prefix ++ cs) (sym (replacement (utf8_lossy rest))) ∙ sym (chars-append prefix (replacement_bytes ++ utf8_lossy rest) (valid_len-prefix bs)) ∙ ap str_chars (sym (utf8_lossy_step bs faulty))

shorter-chunk : (bs : List ℕ) → utf8_valid_len bs < length bs → length (after_first_chunk bs) < length bs
shorter-chunk bs short =
    let n = utf8_valid_len bs in
    let rest = drop n bs in
    omega (arith, short, length-drop n bs, shorter-part rest (omega (arith, short, length-drop n bs)), ap length (drop-drop (utf8_invalid_len rest) n bs))

lossy-by : (steps : ℕ) (bs : List ℕ) → length bs < steps → lossy (utf8_items bs) ≡ str_chars (utf8_lossy bs)
lossy-by zero bs within = absurd (omega arith)
lossy-by (suc steps) bs within = elim (cases_lt (utf8_valid_len bs) (length bs)) [
  | inl short ↦ lossy-chunk bs short (lossy-by steps (after_first_chunk bs) (below_more (length (after_first_chunk bs)) (length bs) steps (shorter-chunk bs short) within))
  | inr whole ↦ lossy-text bs (subst (λ xs. IsUtf8 xs) (take_all (utf8_valid_len bs) bs whole) (valid_len-prefix bs))
]

pub lossy-utf8 : (bs : List ℕ) → lossy (utf8_items bs) ≡ str_chars (utf8_lossy bs)
lossy-utf8 bs = lossy-by (suc (length bs)) bs (omega arith)

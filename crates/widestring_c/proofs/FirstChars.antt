-- The character at the beginning of bytes.
use Rattle.std.proofs.Common.{◌≡◌, ℕ, ◌<◌, ◌≤◌, List, [], ◌∷◌, ◌++◌, Some, None, true, sym, ap, ◌∙◌, subst, arith, append_assoc, length, length-append, length-take-le, min, take, drop}
use Rattle.std.specs.Char.{IsScalar}
use Rattle.std.specs.Str.{IsUtf8, all_scalars, encode_utf8_all}
use Rattle.std.specs.Str.Lossy.{utf8_invalid_len, utf8_valid_len}
use Rattle.std.specs.Prelude.{Option}
use Rattle.std.proofs.Math.Seq.{take-append_seam}
use Rattle.std.proofs.lemmas.Bool.{and_parts}
use Rattle.std.proofs.lemmas.List.{take-append-drop, take-take}
use Rattle.std.proofs.lemmas.Str.{IsUtf8-encode, len_utf8_bounds, length-encode}
use Rattle.wide_forms.specs.CodePoint.{code_point_at}
use Rattle.wide_forms.specs.Utf8.{utf8, utf8_bytes}
use Rattle.wide_forms.specs.Laws.Utf8.{code_point_at-text, utf8-encode_utf8_all, utf8_bytes-encode_utf8}
use Rattle.wide_conversions.specs.Laws.Utf8Items.{First, nothing, char, no_char, first, valid_len-longest}
use Rattle.wide_conversions.specs.Utf8Items.{character, none, part, utf8_items, utf8_items-divide, utf8_items-unique}
use Rattle.widestring_c.specs.Parts.{BeginWithNoChar, BeginsWithChar}

-- A text that is not empty has a first character.
pub record HasFirst (bs : List ℕ) : Type 0 where
  pub code : ℕ
  pub scalar : IsScalar code
  pub rest : List ℕ
  pub whole : bs ≡ utf8_bytes code ++ rest
  pub read : code_point_at bs ≡ Some (code, rest)

pub text-first : (bs : List ℕ) → IsUtf8 bs → 0 < length bs → HasFirst bs
text-first bs text some = by text.0 text.1.0 text.1.1
  where
    by : (cs : List ℕ) → all_scalars cs ≡ true → encode_utf8_all cs ≡ bs → HasFirst bs
    by [] scalars is = absurd (omega (arith, some, ap length is))
    by (c ∷ cs) scalars is =
        let scalar : IsScalar c = (and_parts _ _ scalars).0 in
        let whole : bs ≡ utf8 (c ∷ cs) = sym is ∙ sym (utf8-encode_utf8_all (c ∷ cs)) in
        record { code = c; scalar = scalar; rest = utf8 cs; whole = whole; read = ap code_point_at whole ∙ code_point_at-text c cs scalar }

pub begins-with : (bs rest : List ℕ) (c : ℕ) → IsScalar c → bs ≡ utf8_bytes c ++ rest → BeginsWithChar bs c
begins-with bs rest c scalar whole = record {
  rest = rest;
  whole = whole;
  items = ap utf8_items whole ∙ utf8_items-unique (utf8_bytes c ++ rest) _ _ (utf8_items-divide (utf8_bytes c ++ rest)) (character c rest (utf8_items rest) scalar (utf8_items-divide rest));
}

-- A character has at most four bytes.
few-bytes : (c : ℕ) → length (utf8_bytes c) ≤ 4
few-bytes c = omega (arith, ap length (utf8_bytes-encode_utf8 c), length-encode c, (len_utf8_bounds c).1)

some-bytes : (c : ℕ) → 0 < length (utf8_bytes c)
some-bytes c = omega (arith, ap length (utf8_bytes-encode_utf8 c), length-encode c, (len_utf8_bounds c).0)

-- If no prefix of the first four bytes is a text, the bytes begin with no character.
pub begin-with_none : (bs : List ℕ) (n : ℕ) → n ≡ min (length bs) 4 → utf8_valid_len (take n bs) ≡ 0 → BeginWithNoChar (utf8_items bs)
begin-with_none bs n is none_valid = by bs n is none_valid (first bs)
  where
    by : (bs : List ℕ) (n : ℕ) → n ≡ min (length bs) 4 → utf8_valid_len (take n bs) ≡ 0 → First bs → BeginWithNoChar (utf8_items bs)
    by _ n is none_valid nothing = subst BeginWithNoChar (sym (utf8_items-unique [] _ _ (utf8_items-divide []) none)) tt
    by _ n is none_valid (char c rest scalar) =
        let bytes = utf8_bytes c in
        let fits : length bytes ≤ n = omega (arith, is, few-bytes c, length-append bytes rest) in
        let within : length bytes ≤ length (take n (bytes ++ rest)) = omega (arith, fits, length-take-le n (bytes ++ rest) (omega (arith, is))) in
        let taken : take (length bytes) (take n (bytes ++ rest)) ≡ bytes = take-take (length bytes) n (bytes ++ rest) fits ∙ take-append_seam bytes rest in
        let text : IsUtf8 (take (length bytes) (take n (bytes ++ rest))) = subst IsUtf8 (sym (utf8_bytes-encode_utf8 c) ∙ sym taken) (IsUtf8-encode c scalar) in
        absurd (omega (arith, valid_len-longest (take n (bytes ++ rest)) (length bytes) within text, none_valid, some-bytes c))
    by _ n is none_valid (no_char bs some unread) =
        subst BeginWithNoChar (sym (utf8_items-unique bs _ _ (utf8_items-divide bs) (part bs (utf8_items (drop (utf8_invalid_len bs) bs)) some unread (utf8_items-divide (drop (utf8_invalid_len bs) bs))))) tt

-- The first character of bytes is that of a text at their beginning.
pub window-first : (text window piece : List ℕ) (n valid : ℕ) → window ≡ take n text → piece ≡ take valid window → valid ≤ length window → 0 < valid → IsUtf8 piece → (f : HasFirst piece) × BeginsWithChar text f.code
window-first text window piece n valid cut is within some utf8 =
    let few : length piece ≡ valid = ap length is ∙ length-take-le valid window within in
    let f = text-first piece utf8 (omega (arith, few, some)) in
    let window_whole : window ≡ piece ++ drop valid window = sym (take-append-drop valid window) ∙ ap (λ xs. xs ++ drop valid window) (sym is) in
    let text_whole : text ≡ window ++ drop n text = sym (take-append-drop n text) ∙ ap (λ xs. xs ++ drop n text) (sym cut) in
    let bytes = utf8_bytes f.code in
    let beyond = drop valid window ++ drop n text in
    let whole : text ≡ bytes ++ (f.rest ++ beyond) =
    text_whole ∙ ap (λ xs. xs ++ drop n text) window_whole ∙ append_assoc piece (drop valid window) (drop n text) ∙ ap (λ xs. xs ++ beyond) f.whole ∙ append_assoc bytes f.rest beyond
    in
    (f, begins-with text (f.rest ++ beyond) f.code f.scalar whole)

-- What a decoder reads at the beginning of the text is that character.
abbrev number_of : Option (ℕ × List ℕ) → ℕ
number_of None = 0
number_of (Some p) = p.0

code-read : (bs : List ℕ) (code : ℕ) (rest : List ℕ) (f : HasFirst bs) → Some (code, rest) ≡ code_point_at bs → code ≡ f.code
code-read bs code rest f e = ap number_of (e ∙ f.read)

pub window-read : (text window piece : List ℕ) (n valid code : ℕ) (rest : List ℕ) → window ≡ take n text → piece ≡ take valid window → valid ≤ length window → 0 < valid → IsUtf8 piece → Some (code, rest) ≡ code_point_at piece → IsScalar code × BeginsWithChar text code
window-read text window piece n valid code rest cut is within some utf8 read =
    let f = window-first text window piece n valid cut is within some utf8 in
    let same : code ≡ f.0.code = code-read piece code rest f.0 read in
    (subst IsScalar (sym same) f.0.scalar, subst (BeginsWithChar text) (sym same) f.1)

-- So it reads something.
pub window-read_some : (text window piece : List ℕ) (n valid : ℕ) → window ≡ take n text → piece ≡ take valid window → valid ≤ length window → 0 < valid → IsUtf8 piece → ¬ (None ≡ code_point_at piece)
window-read_some text window piece n valid cut is within some utf8 read =
    let f = window-first text window piece n valid cut is within some utf8 in
    let g = read ∙ f.0.read in
    absurd cc

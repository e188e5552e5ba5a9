-- Prefixes of text in UTF-8, and the characters of their units.
use Rattle.std.proofs.Common.{◌≡◌, ℕ, ◌+◌, ◌≤◌, List, [], ◌∷◌, ◌++◌, length, take, drop, map, refl, sym, ap, ◌∙◌, subst, append_assoc}
use Rattle.std.specs.Char.{IsScalar}
use Rattle.std.specs.List.{All}
use Rattle.std.specs.Str.{IsUtf8}
use Rattle.std.specs.Str.{chars as str_chars}
use Rattle.std.proofs.lemmas.List.{drop-append-le, drop-drop, take-append-drop}
use Rattle.std.proofs.lemmas.List.Concat.{flat_map-append}
use Rattle.std.proofs.lemmas.Str.{chars_from_encodes, encodes-chars, scalars-chars}
use Rattle.std.proofs.Math.Seq.{drop-append_seam, take-append_seam}
use Rattle.wide_forms.specs.EncodingForm.{Utf16, encode}
use Rattle.wide_forms.specs.Items.{items, characters}
use Rattle.wide_forms.specs.Segmentation.{Item, Char, Fault}
use Rattle.wide_forms.specs.Utf8.{utf8, utf8_bytes}
use Rattle.wide_forms.specs.Laws.Ends.{items-append_right}
use Rattle.wide_forms.specs.Laws.Items.{IsWellFormed-of_chars, items-encode, scalars-of_items}
use Rattle.wide_forms.specs.Laws.Offsets.{characters-chars}
use Rattle.wide_forms.specs.Laws.Policies.{characters-append}
use Rattle.wide_forms.specs.Laws.Texts.{All-of_all_scalars}
use Rattle.wide_forms.specs.Laws.Utf8.{utf8-encode_utf8_all}
use Rattle.wide_from_units.proofs.Utf8Texts.{IsUtf8-utf8}
use Rattle.wide_unit.specs.CodePoints.{code_of, code_points}
use Rattle.wide_conversions.specs.Utf8Items.{utf8_items}
use Rattle.wide_conversions.proofs.PrefixTexts.{utf8_items-prefix}
use Rattle.wide_schemes.specs.Decoded.{IsTextPrefix}

-- No bytes of a text have no units.
pub text_prefix-none : (bs : List ℕ) → IsUtf8 bs → IsTextPrefix bs 0 []
text_prefix-none bs text = record { units = refl; rest = text }

-- A prefix of what is left after a prefix, and both together.
pub text_prefix-then : (bs us vs : List ℕ) (n m : ℕ) → IsTextPrefix bs n us → IsTextPrefix (drop n bs) m vs → IsTextPrefix bs (n + m) (us ++ vs)
text_prefix-then bs us vs n m one other =
    let both : drop m (drop n bs) ≡ drop (n + m) bs = drop-drop m n bs in
    record {
      units = one.units ∙ ap (λ ws. us ++ ws) other.units ∙ sym (append_assoc us vs (encode Utf16 (str_chars (drop m (drop n bs))))) ∙ ap (λ xs. (us ++ vs) ++ encode Utf16 (str_chars xs)) both;
      rest = subst IsUtf8 both other.rest;
    }

-- Items of which some are before characters, and which are all characters.
split-items : (is : List Item) (ds xs : List ℕ) → map Char xs ≡ is ++ map Char ds → is ≡ map Char (characters is)
split-items [] ds xs e = refl
split-items (Char c ∷ is) ds [] e = absurd cc
split-items (Char c ∷ is) ds (x ∷ xs) e = (let rest : map Char xs ≡ is ++ map Char ds = cc in ap (λ js. Char c ∷ js) (split-items is ds xs rest))
split-items (Fault u ∷ is) ds [] e = absurd cc
split-items (Fault u ∷ is) ds (x ∷ xs) e = absurd (let head : Char x ≡ Fault u = cc in cc)

-- The scalar values of a text.
pub scalars-text : (bs : List ℕ) → IsUtf8 bs → All IsScalar (str_chars bs)
scalars-text bs text = All-of_all_scalars (str_chars bs) (scalars-chars bs text)

pub bytes-text : (bs : List ℕ) → IsUtf8 bs → utf8 (str_chars bs) ≡ bs
bytes-text bs text = utf8-encode_utf8_all (str_chars bs) ∙ encodes-chars bs text

-- Units that are those of the first characters of some bytes.
pub record TextPart (bs : List ℕ) (n : ℕ) (us : List ℕ) : Type 0 where
  pub chars : List ℕ
  pub scalars : All IsScalar chars
  pub items : items Utf16 us ≡ map Char chars
  pub whole : (more : List ℕ) → bs ++ more ≡ utf8 chars ++ (drop n bs ++ more)

module _ (bs : List ℕ) (valid n : ℕ) (us : List ℕ) (text : IsUtf8 (take valid bs)) (within : n ≤ length (take valid bs)) (prefix : IsTextPrefix (take valid bs) n us) where
  ds : List ℕ
  ds = str_chars (drop n (take valid bs))

  cs : List ℕ
  cs = characters (items Utf16 us)

  both-items : map Char (str_chars (take valid bs)) ≡ items Utf16 us ++ map Char ds
  unfolding ds
  both-items =
      let rest = items-encode Utf16 ds (scalars-text (drop n (take valid bs)) prefix.rest) in
      sym (items-encode Utf16 (str_chars (take valid bs)) (scalars-text (take valid bs) text)) ∙ ap (items Utf16) prefix.units ∙ items-append_right Utf16 us (encode Utf16 ds) (IsWellFormed-of_chars Utf16 (encode Utf16 ds) ds rest) ∙ ap (λ is. items Utf16 us ++ is) rest

  items-are : items Utf16 us ≡ map Char cs
  unfolding cs
  items-are = split-items (items Utf16 us) ds (str_chars (take valid bs)) both-items

  chars-are : str_chars (take valid bs) ≡ cs ++ ds
  unfolding cs
  chars-are = sym (characters-chars (str_chars (take valid bs))) ∙ ap characters both-items ∙ characters-append (items Utf16 us) (map Char ds) ∙ ap (λ xs. cs ++ xs) (characters-chars ds)

  text-bytes : take valid bs ≡ utf8 cs ++ drop n (take valid bs)
  unfolding ds
  text-bytes = sym (bytes-text (take valid bs) text) ∙ ap utf8 chars-are ∙ flat_map-append utf8_bytes cs ds ∙ ap (λ xs. utf8 cs ++ xs) (bytes-text (drop n (take valid bs)) prefix.rest)

  rest-bytes : drop n bs ≡ drop n (take valid bs) ++ drop valid bs
  rest-bytes = ap (drop n) (sym (take-append-drop valid bs)) ∙ drop-append-le n (take valid bs) (drop valid bs) within

  -- The units written for a prefix of a prefix that is UTF-8.
  pub text-part : TextPart bs n us
  text-part = record {
    chars = cs;
    scalars = scalars-of_items Utf16 cs us items-are;
    items = items-are;
    whole = λ more.
        ap (λ xs. xs ++ more) (sym (take-append-drop valid bs)) ∙ append_assoc (take valid bs) (drop valid bs) more ∙ ap (λ xs. xs ++ (drop valid bs ++ more)) text-bytes
        ∙ append_assoc (utf8 cs) (drop n (take valid bs)) (drop valid bs ++ more) ∙ ap (λ xs. utf8 cs ++ xs) (sym (append_assoc (drop n (take valid bs)) (drop valid bs) more) ∙ ap (λ xs. xs ++ more) (sym rest-bytes));
  }

-- The code points of units without a fault.
pub codes-of_chars : (us cs : List ℕ) → items Utf16 us ≡ map Char cs → code_points Utf16 us ≡ cs
codes-of_chars us cs e = ap (map code_of) e ∙ alone cs
  where
    alone : (ds : List ℕ) → map code_of (map Char ds) ≡ ds
    alone [] = refl
    alone (d ∷ ds) = ap (λ xs. d ∷ xs) (alone ds)

-- The items of scalar values and other bytes.
pub utf8_items-chars : (cs bs : List ℕ) → All IsScalar cs → utf8_items (utf8 cs ++ bs) ≡ map Char cs ++ utf8_items bs
utf8_items-chars cs bs all =
    let n = length (utf8 cs) in
    let text = IsUtf8-utf8 cs all in
    let front : take n (utf8 cs ++ bs) ≡ utf8 cs = take-append_seam (utf8 cs) bs in
    let beyond : drop n (utf8 cs ++ bs) ≡ bs = drop-append_seam (utf8 cs) bs in
    utf8_items-prefix (utf8 cs ++ bs) n (subst IsUtf8 (sym front) text) ∙ ap (λ xs. map Char (str_chars xs) ++ utf8_items (drop n (utf8 cs ++ bs))) front
    ∙ ap (λ xs. map Char xs ++ utf8_items (drop n (utf8 cs ++ bs))) (sym (chars_from_encodes cs (utf8 cs) text (sym (utf8-encode_utf8_all cs)))) ∙ ap (λ xs. map Char cs ++ utf8_items xs) beyond

-- How long the longest prefix of bytes is that is UTF-8, and that bytes begin with a character or a fault.
use Rattle.std.proofs.Common.{◌≡◌, ℕ, zero, suc, ◌+◌, ◌<◌, ◌≤◌, inl, inr, List, [], ◌∷◌, ◌++◌, true, length, take, drop, sym, ap, ◌∙◌, subst, arith, append_assoc, length-append, length-drop, length-take}
use Rattle.std.specs.Char.{IsScalar, encode_utf8}
use Rattle.std.specs.Str.{IsUtf8, StartsWithNoChar, all_scalars, encode_utf8_all, is_utf8}
use Rattle.std.specs.Str.Lossy.{utf8_error_len, utf8_invalid_len, utf8_valid_len, valid_len_up_to}
use Rattle.std.proofs.Math.Seq.{take-add, take-append_seam}
use Rattle.std.proofs.lemmas.Bool.{and_parts, cases_Bool, cases_lt}
use Rattle.std.proofs.lemmas.Bool.Decides.{nat_tests}
use Rattle.std.proofs.lemmas.List.{take-append-drop}
use Rattle.std.proofs.lemmas.Str.{IsUtf8-append, IsUtf8-encode, IsUtf8-from_is_utf8, IsUtf8-nil, is_utf8-from_IsUtf8, len_utf8_bounds, length-encode, utf8_valid_len_le}
use Rattle.wide_forms.specs.Utf8.{utf8_bytes}
use Rattle.wide_forms.specs.Laws.Utf8.{utf8_bytes-encode_utf8}

-- The first `valid_len_up_to bs n` bytes are UTF-8.
up_to-prefix : (bs : List ℕ) (n : ℕ) → IsUtf8 (take (valid_len_up_to bs n) bs)
up_to-prefix bs zero = IsUtf8-nil
up_to-prefix bs (suc n) = elim (cases_Bool (is_utf8 (take (suc n) bs))) [
  | inl text ↦ rw text (IsUtf8-from_is_utf8 (take (suc n) bs) text)
  | inr other ↦ rw other (up_to-prefix bs n)
]

-- A prefix of at most `n` bytes that is UTF-8 has at most `valid_len_up_to bs n` bytes.
up_to-longest : (bs : List ℕ) (n m : ℕ) → m ≤ n → IsUtf8 (take m bs) → m ≤ valid_len_up_to bs n
up_to-longest bs zero m within text = within
up_to-longest bs (suc n) m within text = elim (cases_Bool (is_utf8 (take (suc n) bs))) [
  | inl all ↦ rw all within
  | inr other ↦ rw other (elim (cases_lt n m) [
    | inl late ↦ (let last : m ≡ suc n = omega arith in let yes = is_utf8-from_IsUtf8 (take (suc n) bs) (subst (λ k. IsUtf8 (take k bs)) last text) in cc)
    | inr early ↦ up_to-longest bs n m early text
  ])
]

-- The first `utf8_valid_len bs` bytes are UTF-8.
pub valid_len-prefix : (bs : List ℕ) → IsUtf8 (take (utf8_valid_len bs) bs)
unfolding utf8_valid_len
valid_len-prefix bs = up_to-prefix bs (length bs)

-- A prefix that is UTF-8 has at most `utf8_valid_len bs` bytes.
pub valid_len-longest : (bs : List ℕ) (n : ℕ) → n ≤ length bs → IsUtf8 (take n bs) → n ≤ utf8_valid_len bs
unfolding utf8_valid_len
valid_len-longest bs n within text = up_to-longest bs (length bs) n within text

-- No character begins after the longest prefix that is UTF-8.
pub no_char-beyond : (bs : List ℕ) (n : ℕ) → IsUtf8 (take n bs) → ((m : ℕ) → n < m → m ≤ length bs → ¬ (IsUtf8 (take m bs))) → StartsWithNoChar (drop n bs)
no_char-beyond bs n prefix longest c rest scalar is =
    let char = encode_utf8 c in
    let some : 1 ≤ length char = omega (arith, length-encode c, (len_utf8_bounds c).0) in
    let joined : take n bs ++ char ≡ take (n + length char) bs = ap (λ xs. take n bs ++ xs) (sym (take-append_seam char rest) ∙ ap (take (length char)) (sym is)) ∙ sym (take-add n (length char) bs) in
    longest (n + length char) (omega arith) (omega (arith, some, ap length is, length-append char rest, length-drop n bs)) (subst (λ xs. IsUtf8 xs) joined (IsUtf8-append (take n bs) char prefix (IsUtf8-encode c scalar)))

-- What bytes begin with: nothing, a character, or a fault. Fewer bytes follow it.
pub data First : List ℕ → Type 0 where
  nothing : First []
  char : (c : ℕ) (rest : List ℕ) → IsScalar c → First (utf8_bytes c ++ rest)
  no_char : (bs : List ℕ) → 0 < length bs → StartsWithNoChar bs → First bs

-- The bytes after a character are fewer than all bytes.
pub shorter-char : (c : ℕ) (rest : List ℕ) → length rest < length (utf8_bytes c ++ rest)
shorter-char c rest = omega (arith, length-append (utf8_bytes c) rest, ap length (utf8_bytes-encode_utf8 c), length-encode c, (len_utf8_bounds c).0)

-- A fault has at least one byte.
pub part-some : (bs : List ℕ) → 0 < length bs → 0 < utf8_invalid_len bs
unfolding utf8_error_len
part-some bs some = grind (arith, nat_tests)

-- The bytes after a fault are fewer than all bytes.
pub shorter-part : (bs : List ℕ) → 0 < length bs → length (drop (utf8_invalid_len bs) bs) < length bs
shorter-part bs some = omega (arith, some, part-some bs some, length-drop (utf8_invalid_len bs) bs)

first-char : (bs : List ℕ) → 0 < utf8_valid_len bs → First bs
first-char bs some = by (valid_len-prefix bs).0 (valid_len-prefix bs).1.0 (valid_len-prefix bs).1.1
  where
    by : (cs : List ℕ) → all_scalars cs ≡ true → encode_utf8_all cs ≡ take (utf8_valid_len bs) bs → First bs
    by [] scalars is = absurd (omega (arith, some, ap length is, length-take (utf8_valid_len bs) bs, utf8_valid_len_le bs))
    by (c ∷ cs) scalars is =
        let beyond = drop (utf8_valid_len bs) bs in
        let rest = encode_utf8_all cs ++ beyond in
        let whole : utf8_bytes c ++ rest ≡ bs =
        ap (λ xs. xs ++ rest) (utf8_bytes-encode_utf8 c) ∙ sym (append_assoc (encode_utf8 c) (encode_utf8_all cs) beyond) ∙ ap (λ xs. xs ++ beyond) is ∙ take-append-drop (utf8_valid_len bs) bs
        in
        subst (λ xs. First xs) whole (char c rest (and_parts _ _ scalars).0)

-- Bytes are empty, or begin with a character or a fault.
pub first : (bs : List ℕ) → First bs
first [] = nothing
first (b ∷ bs) = elim (cases_lt 0 (utf8_valid_len (b ∷ bs))) [
  | inl more ↦ first-char (b ∷ bs) more
  | inr none ↦ no_char (b ∷ bs) (omega arith) (no_char-beyond (b ∷ bs) 0 IsUtf8-nil (λ m more within text. omega (arith, none, more, valid_len-longest (b ∷ bs) m within text)))
]

-- A number below one that is at most `steps` is below `steps`.
pub below_more : (m n steps : ℕ) → m < n → n < suc steps → m < steps
below_more m n steps less within = omega arith

-- A number is below the next one.
pub below_next : (n : ℕ) → n < suc n
below_next n = omega arith

-- No number is below 0.
pub below_none : (n : ℕ) → ¬ (n < 0)
below_none n less = omega arith

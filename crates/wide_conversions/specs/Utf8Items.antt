-- Bytes as characters and faults: the Standard's D93b and, in its section 3.9, "U+FFFD Substitution of Maximal
-- Subparts".
use Rattle.std.proofs.Common.{◌≡◌, ℕ, zero, suc, ◌+◌, ◌<◌, List, [], ◌∷◌, ◌++◌, length, map, take, drop, refl, sym, ap, ◌∙◌, arith}
use Rattle.std.specs.Prelude.{Bool, slice_index}
use Rattle.std.specs.Char.{IsScalar}
use Rattle.std.specs.Str.{StartsWithNoChar}
use Rattle.std.specs.Str.{chars as str_chars}
use Rattle.std.specs.Str.Lossy.{utf8_invalid_len}
use Rattle.std.proofs.lemmas.Str.{encode_same}
use Rattle.wide_forms.specs.EncodingForm.{EncodingForm, encode}
use Rattle.wide_forms.specs.Segmentation.{Item, Char, Fault}
use Rattle.wide_forms.specs.Lossy.{ends_in_fault, lossy_after}
use Rattle.wide_forms.specs.declared.policy.Policy.{Policy}
use Rattle.wide_forms.specs.Utf8.{utf8_bytes}
use Rattle.wide_forms.specs.Laws.Utf8.{utf8_bytes-encode_utf8}
use Rattle.wide_conversions.specs.Laws.Utf8Items.{First, nothing, char, no_char, first, shorter-char, shorter-part, below_more, below_next, below_none}

-- The items are the characters and the faults of the bytes, in order. A fault is an ill-formed sequence of bytes that
-- one U+FFFD replaces. Its item holds its first byte.
pub data AreUtf8Items : List ℕ → List Item → Type 0 where
  none : AreUtf8Items [] []
  character : (c : ℕ) (bs : List ℕ) (is : List Item) → IsScalar c → AreUtf8Items bs is → AreUtf8Items (utf8_bytes c ++ bs) (Char c ∷ is)
  part : (bs : List ℕ) (is : List Item) → 0 < length bs → StartsWithNoChar bs → AreUtf8Items (drop (utf8_invalid_len bs) bs) is → AreUtf8Items bs (Fault (slice_index bs 0) ∷ is)

-- The bytes have a list of characters and faults.
abbrev ItemsFor : List ℕ → Type 0
ItemsFor bs = (is : List Item) × AreUtf8Items bs is

with_first : (bs : List ℕ) → ((ds : List ℕ) → length ds < length bs → ItemsFor ds) → First bs → ItemsFor bs
with_first _ more nothing = ([], none)
with_first _ more (char c rest scalar) =
    let beyond = more rest (shorter-char c rest) in
    (Char c ∷ beyond.0, character c rest beyond.0 scalar beyond.1)
with_first _ more (no_char bs some unread) =
    let beyond = more (drop (utf8_invalid_len bs) bs) (shorter-part bs some) in
    (Fault (slice_index bs 0) ∷ beyond.0, part bs beyond.0 some unread beyond.1)

items_by : (steps : ℕ) (bs : List ℕ) → length bs < steps → ItemsFor bs
items_by zero bs within = absurd (below_none (length bs) within)
items_by (suc steps) bs within = with_first bs (λ ds less. items_by steps ds (below_more (length ds) (length bs) steps less within)) (first bs)

-- The only list of characters and faults of some bytes. It is opaque: all that is known about it is
-- `utf8_items-divide`, and that there is no other.
pub utf8_items : List ℕ → List Item
utf8_items bs = (items_by (suc (length bs)) bs (below_next (length bs))).0

pub utf8_items-divide : (bs : List ℕ) → AreUtf8Items bs (utf8_items bs)
unfolding utf8_items
utf8_items-divide bs = (items_by (suc (length bs)) bs (below_next (length bs))).1

-- Bytes have only one list of items.
same_items : (bs ds : List ℕ) (is js : List Item) → bs ≡ ds → AreUtf8Items bs is → AreUtf8Items ds js → is ≡ js
same_items bs ds is js e none none = refl
same_items bs ds is js e none (character d rest js' scalar more) = absurd (omega (arith, ap length e, shorter-char d rest))
same_items bs ds is js e none (part ds' js' some unread more) = absurd (omega (arith, ap length e, some))
same_items bs ds is js e (character c rest is' scalar more) none = absurd (omega (arith, ap length e, shorter-char c rest))
same_items bs ds is js e (part bs' is' some unread more) none = absurd (omega (arith, ap length e, some))
same_items bs ds is js e (character c rest is' scalar more) (character d rest' js' scalar' more') =
    let parts = encode_same c d rest rest' (ap (λ xs. xs ++ rest) (sym (utf8_bytes-encode_utf8 c)) ∙ e ∙ ap (λ xs. xs ++ rest') (utf8_bytes-encode_utf8 d)) in
    let beyond = same_items rest rest' is' js' parts.1 more more' in
    cc
same_items bs ds is js e (character c rest is' scalar more) (part ds' js' some unread more') = absurd (unread c rest scalar (sym e ∙ ap (λ xs. xs ++ rest) (utf8_bytes-encode_utf8 c)))
same_items bs ds is js e (part bs' is' some unread more) (character d rest js' scalar more') = absurd (unread d rest scalar (e ∙ ap (λ xs. xs ++ rest) (utf8_bytes-encode_utf8 d)))
same_items bs ds is js e (part bs' is' some unread more) (part ds' js' some' unread' more') =
    let beyond = same_items (drop (utf8_invalid_len bs') bs') (drop (utf8_invalid_len ds') ds') is' js' (ap (λ xs. drop (utf8_invalid_len xs) xs) e) more more' in
    ap (λ xs. Fault (slice_index xs 0) ∷ is') e ∙ ap (λ xs. Fault (slice_index ds' 0) ∷ xs) beyond

pub utf8_items-unique : (bs : List ℕ) (is js : List Item) → AreUtf8Items bs is → AreUtf8Items bs js → is ≡ js
utf8_items-unique bs is js a b = same_items bs bs is js refl a b

-- The first `offset` bytes are UTF-8, and the next `len` bytes are the first fault.
abbrev pub HasFirstPart : List ℕ → ℕ → ℕ → Type 0
HasFirstPart bs offset len = utf8_items bs ≡ map Char (str_chars (take offset bs)) ++ Fault (slice_index bs offset) ∷ utf8_items (drop (offset + len) bs)

-- The bytes begin with an item of `len` bytes.
abbrev pub BeginsWith : List ℕ → Item → ℕ → Type 0
BeginsWith bs item len = utf8_items bs ≡ item ∷ utf8_items (drop len bs)

-- The bytes before an offset are some of the items, and `new` is `old` with the units of their lossy text appended.
-- `before` says whether a fault directly precedes the bytes, and `after` whether a fault directly precedes the offset.
pub record IsLossyPrefix (form : EncodingForm) (policy : Policy) (bs : List ℕ) (offset : ℕ) (before after : Bool) (old new : List ℕ) : Type 0 where
  pub prefix : List Item
  pub items : utf8_items bs ≡ prefix ++ utf8_items (drop offset bs)
  pub units : new ≡ old ++ encode form (lossy_after policy before prefix)
  pub flag : after ≡ ends_in_fault before prefix

-- A slice has fewer than 2 ^ 63 bytes, so no text is as long as `usize::MAX`, which is returned for a fault.
use Rattle.std.proofs.Common.{◌≡◌, ℕ, ◌+◌, ◌*◌, ◌-◌, ◌^◌, ◌≤◌, ◌<◌, inl, inr, List, [], ◌∷◌, length, length-append, map, min, Bool, true, false, Option, Some, None, refl, sym, ap, ◌∙◌, arith}
use Rattle.std.specs.Str.{IsUtf8, chars as str_chars}
use Rattle.std.proofs.lemmas.List.{length-map}
use Rattle.std.proofs.lemmas.Bool.{cases_lt}
use Rattle.std.proofs.lemmas.Bool.Decides.{nat_tests}
use Rattle.std.proofs.lemmas.Str.{encodes-chars}
use Rattle.wide_forms.specs.EncodingForm.{EncodingForm, Utf16, Utf32, code_units, encode}
use Rattle.wide_forms.specs.Segmentation.{Item, Char, Fault}
use Rattle.wide_forms.specs.Items.{IsWellFormed, chars, items}
use Rattle.wide_forms.specs.Lossy.{lossy, lossy_after, lossy_by, replacement}
use Rattle.wide_forms.specs.Utf8.{utf8, utf8_bytes}
use Rattle.wide_forms.specs.declared.policy.Policy.{Policy}
use Rattle.wide_forms.specs.Laws.Forms.{one_unit, two_units}
use Rattle.wide_forms.specs.Laws.Lossy.{length-lossy}
use Rattle.wide_forms.specs.Laws.Offsets.{encode-chars}
use Rattle.wide_forms.specs.Laws.Policies.{lossy_after-char, lossy_after-dropped, lossy_after-none, lossy_after-none_left, lossy_after-replaced, replacement-is}
use Rattle.wide_forms.specs.Laws.Utf8.{utf8-encode_utf8_all}
use Rattle.wide_conversions.specs.Laws.Utf8Items.{shorter-part}
use Rattle.wide_conversions.specs.Utf8Items.{AreUtf8Items, none, character, part, utf8_items, utf8_items-divide}
use Rattle.widestring_c.proofs.Windows.{bytes_of}

-- What is counted up to `usize::MAX` is counted exactly, if there are at most four for each unit.
pub exact_count : {X : Type 0} (number : X → ℕ) (us : List X) (count all : ℕ) → 4 * length us < 2 ^ 64 - 1 → all ≤ 4 * length (map number us) → count ≡ min all (2 ^ 64 - 1) → (count ≡ all) × (count < 2 ^ 64 - 1)
exact_count number us count all few most is =
    let long : length (map number us) ≡ length us = length-map us number in
    (omega (arith, few, most, is, long), omega (arith, few, most, is, long))

pub exact_end : {X : Type 0} (number : X → ℕ) (us : List X) (end all : ℕ) → 4 * length us < 2 ^ 64 - 1 → all ≤ 4 * length (map number us) → end ≡ min (0 + all) (2 ^ 64 - 1) → (end ≡ all) × (end < 2 ^ 64 - 1)
exact_end number us end all few most is = exact_count number us end all few most (omega (arith, is))

-- A character has at least as many bytes in UTF-8 as units in the other forms.
units_of : (form : EncodingForm) (c : ℕ) → length (code_units form c) ≤ length (utf8_bytes c)
unfolding utf8_bytes
units_of Utf32 c = grind (arith, nat_tests)
units_of Utf16 c = elim (cases_lt c 0x1_0000) [
  | inl below ↦ rw (one_unit c below) (grind (arith, nat_tests))
  | inr from ↦ rw (two_units c from) (grind (arith, nat_tests))
]

units-of_text_in : (form : EncodingForm) (cs : List ℕ) → length (encode form cs) ≤ length (utf8 cs)
units-of_text_in form [] = omega arith
units-of_text_in form (c ∷ cs) = omega (arith, units_of form c, units-of_text_in form cs, length-append (utf8_bytes c) (utf8 cs), length-append (code_units form c) (encode form cs))

-- The replacement character is one unit.
one_replacement : (form : EncodingForm) → length (code_units form 0xFFFD) ≤ 1
one_replacement Utf16 = omega arith
one_replacement Utf32 = omega arith

module _ (form : EncodingForm) where
  -- No policy writes more than a replacement character for each fault.
  fault-short : (policy : Policy) (after : Bool) (u : ℕ) (is : List Item) → length (encode form (lossy_after policy true is)) ≤ length (encode form (lossy is)) → (r : Option ℕ) → replacement policy after ≡ r
      → length (encode form (lossy_after policy after (Fault u ∷ is))) ≤ length (encode form (lossy (Fault u ∷ is)))
  fault-short policy after u is rest None e = rw (lossy_after-dropped policy after u is e) (omega (arith, rest, length-append (code_units form 0xFFFD) (encode form (lossy is))))
  fault-short policy after u is rest (Some c) e =
      rw (lossy_after-replaced policy after u c is e, replacement-is policy after c e)
      (omega (arith, rest, length-append (code_units form 0xFFFD) (encode form (lossy_after policy true is)), length-append (code_units form 0xFFFD) (encode form (lossy is))))

  after-short : (policy : Policy) (after : Bool) (is : List Item) → length (encode form (lossy_after policy after is)) ≤ length (encode form (lossy is))
  after-short policy after [] = rw (lossy_after-none_left policy after) (omega arith)
  after-short policy after (Char c ∷ is) =
      rw (lossy_after-char policy after c is) (omega (arith, after-short policy false is, length-append (code_units form c) (encode form (lossy_after policy false is)), length-append (code_units form c) (encode form (lossy is))))
  after-short policy after (Fault u ∷ is) = fault-short policy after u is (after-short policy true is) (replacement policy after) refl

  by-short : (policy : Policy) (is : List Item) → length (encode form (lossy_by policy is)) ≤ length (encode form (lossy is))
  by-short policy is = rw (sym (lossy_after-none policy is)) (after-short policy false is)

  -- The UTF-8 of units has at most four bytes for each unit.
  pub bytes-well_formed : (us : List ℕ) → IsWellFormed form us → length (utf8 (chars form us)) ≤ 4 * length us
  bytes-well_formed us well = omega (arith, bytes_of form (chars form us), ap length (encode-chars form us well))

  pub bytes-lossy : (us : List ℕ) → length (utf8 (lossy (items form us))) ≤ 4 * length us
  bytes-lossy us = omega (arith, bytes_of form (lossy (items form us)), length-lossy form us)

  pub bytes-lossy_by : (policy : Policy) (us : List ℕ) → length (utf8 (lossy_by policy (items form us))) ≤ 4 * length us
  bytes-lossy_by policy us = omega (arith, bytes_of form (lossy_by policy (items form us)), by-short policy (items form us), length-lossy form us)

  pub bytes-lossy_after : (policy : Policy) (after : Bool) (us : List ℕ) → length (utf8 (lossy_after policy after (items form us))) ≤ 4 * length us
  bytes-lossy_after policy after us = omega (arith, bytes_of form (lossy_after policy after (items form us)), after-short policy after (items form us), length-lossy form us)

  -- The units of UTF-8 are at most one for each byte.
  pub units-text : (bs : List ℕ) → IsUtf8 bs → length (encode form (str_chars bs)) ≤ length bs
  units-text bs text = omega (arith, units-of_text_in form (str_chars bs), ap length (utf8-encode_utf8_all (str_chars bs) ∙ encodes-chars bs text))

  units-of_parts : (bs : List ℕ) (is : List Item) → AreUtf8Items bs is → length (encode form (lossy is)) ≤ length bs
  units-of_parts _ _ none = omega arith
  units-of_parts _ _ (character c bs is scalar more) =
      omega (arith, units_of form c, units-of_parts bs is more, length-append (utf8_bytes c) bs, length-append (code_units form c) (encode form (lossy is)))
  units-of_parts _ _ (part bs is some unread more) =
      omega (arith, one_replacement form, shorter-part bs some, units-of_parts _ is more, length-append (code_units form 0xFFFD) (encode form (lossy is)))

  pub units-lossy_by : (policy : Policy) (bs : List ℕ) → length (encode form (lossy_by policy (utf8_items bs))) ≤ length bs
  units-lossy_by policy bs = omega (arith, by-short policy (utf8_items bs), units-of_parts bs (utf8_items bs) (utf8_items-divide bs))

  -- Units converted to another width are at most four times as many.
  pub units-between : (other : EncodingForm) (us : List ℕ) → IsWellFormed form us → length (encode other (chars form us)) ≤ 4 * length us
  units-between other us well = omega (arith, units-of_text_in other (chars form us), bytes-well_formed us well)

  -- So are units whose faults are replaced.
  pub units-lossy_between : (other : EncodingForm) (policy : Policy) (us : List ℕ) → length (encode other (lossy_by policy (items form us))) ≤ 4 * length us
  units-lossy_between other policy us = omega (arith, units-of_text_in other (lossy_by policy (items form us)), bytes-lossy_by policy us)

-- A character has one or two units.
few_units : (form : EncodingForm) (c : ℕ) → (1 ≤ length (code_units form c)) × (length (code_units form c) ≤ 2)
few_units Utf32 c = (omega arith, omega arith)
few_units Utf16 c = elim (cases_lt c 0x1_0000) [
  | inl below ↦ rw (one_unit c below) (omega arith, omega arith)
  | inr from ↦ rw (two_units c from) (omega arith, omega arith)
]

-- Characters have at most twice as many units in one form as in another.
units-twice : (form other : EncodingForm) (cs : List ℕ) → length (encode other cs) ≤ 2 * length (encode form cs)
units-twice form other [] = omega arith
units-twice form other (c ∷ cs) = omega (arith, (few_units form c).0, (few_units other c).1, units-twice form other cs, length-append (code_units form c) (encode form cs), length-append (code_units other c) (encode other cs))

-- Well-formed units become at most two units of another width each.
pub units-between_two : (form other : EncodingForm) (us : List ℕ) → IsWellFormed form us → length (encode other (chars form us)) ≤ 2 * length us
units-between_two form other us well = omega (arith, units-twice form other (chars form us), ap length (encode-chars form us well))

-- The entries of an offset index, and characters that are read one by one.
use Rattle.std.proofs.Common.{◌≡◌, ℕ, ◌+◌, ◌*◌, ◌/◌, ◌-◌, ◌≤◌, ◌<◌, suc, zero, inl, inr, Some, None, List, [], ◌∷◌, ◌++◌, refl, sym, ◌∙◌, ap, arith, length, take, drop, map, subst, get_or, length-append, length-drop, length-take}
use Rattle.std.specs.Prelude.{Option}
use Rattle.std.specs.List.{range_with_len}
use Rattle.std.proofs.lemmas.List.{take_more, length-take-le, take-take, map-id, drop-drop, take_all}
use Rattle.std.proofs.lemmas.List.FromFn.{length-map-range_with_len, take-map-range_with_len, get_or-map-range_with_len}
use Rattle.std.proofs.Math.Seq.{drop-cons}
use Rattle.wide_forms.specs.EncodingForm.{EncodingForm, Utf16, code_units, encode}
use Rattle.wide_forms.specs.Items.{chars, IsWellFormed}
use Rattle.wide_forms.specs.Offsets.{IsOffsetOf, IsCharBoundary}
use Rattle.wide_forms.specs.Laws.Offsets.{encode-chars, IsOffsetOf-prefix}
use Rattle.wide_unit.proofs.CharBoundaries.{IsCharBoundary-of}
use Rattle.wide_offset_index.specs.Found.{IsFoundAt}
use Rattle.wide_forms.specs.Laws.Forms.{some_units}
use Rattle.wide_offset_index.specs.Marks.{index_entry, index_entries}
use Rattle.wide_offset_index.proofs.Lengths.{size, size-append, size-one, size-take}

-- One more character was read.
pub record GoesOn (cs : List ℕ) (read c : ℕ) (rest : List ℕ) : Type 0 where
  pub below : read < length cs
  pub left : rest ≡ drop (read + 1) cs
  pub at : size Utf16 (take (read + 1) cs) ≡ size Utf16 (take read cs) + length (code_units Utf16 c)

-- The first of the characters that are left is read.
pub next_char : (cs : List ℕ) (read c : ℕ) (rest : List ℕ) → drop read cs ≡ c ∷ rest → GoesOn cs read c rest
next_char cs read c rest e =
    let lt : read < length cs = omega (arith, ap length e, length-drop read cs) in
    let both : get_or cs read 0 ∷ drop (suc read) cs ≡ c ∷ rest = sym (drop-cons cs read 0 lt) ∙ e in
    let same : get_or cs read 0 ≡ c = cc in
    record {
      below = lt;
      left = sym (sym (drop-drop 1 read cs) ∙ ap (drop 1) e);
      at = ap (size Utf16) (take_more cs read 0 lt ∙ ap (λ d. take read cs ++ d ∷ []) same) ∙ size-append Utf16 (take read cs) (c ∷ []) ∙ ap (λ n. size Utf16 (take read cs) + n) (size-one Utf16 c);
    }

-- The entries of a prefix of the index are its first entries.
pub some-length : (cs : List ℕ) (ms : List ℕ) → ms ≡ take (length ms) (index_entries cs) → length ms ≤ length cs / 64
some-length cs ms e = omega (arith, ap length e, length-take (length ms) (index_entries cs), length-map-range_with_len (index_entry cs) 1 (length cs / 64))

-- The entries are those with the numbers 1, 2 and so on.
pub some-marks : (cs : List ℕ) (ms : List ℕ) → ms ≡ take (length ms) (index_entries cs) → ms ≡ map (index_entry cs) (range_with_len 1 (length ms))
some-marks cs ms e = e ∙ take-map-range_with_len (index_entry cs) 1 (length cs / 64) (length ms) (some-length cs ms e)

-- The entry at an index is the one with the next number.
pub index_entry-at : (cs : List ℕ) (ms : List ℕ) (k j d : ℕ) → ms ≡ take (length ms) (index_entries cs) → k < length ms → 1 + k ≡ j → get_or ms k d ≡ index_entry cs j
index_entry-at cs ms k j d e lt is = ap (λ xs. get_or xs k d) (some-marks cs ms e) ∙ get_or-map-range_with_len (index_entry cs) 1 (length ms) k j d lt is

-- All entries of the index are its first entries.
pub all-some : (cs ms : List ℕ) → ms ≡ index_entries cs → ms ≡ take (length ms) (index_entries cs)
all-some cs ms e = e ∙ sym (take_all (length ms) (index_entries cs) (omega (arith, ap length e)))

-- The units of a view are those of its characters.
pub well-formed : (us : List ℕ) → IsWellFormed Utf16 (map (λ u. u) us) → IsWellFormed Utf16 us
well-formed us well = subst (λ vs. IsWellFormed Utf16 vs) (map-id us) well

module _ (us : List ℕ) (well : IsWellFormed Utf16 us) where
  abbrev cs : List ℕ
  cs = chars Utf16 us

  pub whole-size : size Utf16 cs ≡ length us
  whole-size = ap length (encode-chars Utf16 us well)

  pub goes-within : (read c at len : ℕ) (rest : List ℕ) → GoesOn cs read c rest → at ≡ size Utf16 (take read cs) → len ≡ length (code_units Utf16 c) → at + len ≤ length us
  goes-within read c at len rest goes is long = omega (arith, goes.at, size-take Utf16 cs (read + 1), whole-size)

  -- The length in units of the first characters is a character boundary.
  pub char-boundary : (i : ℕ) → IsCharBoundary Utf16 us (size Utf16 (take i cs))
  char-boundary i = IsCharBoundary-of Utf16 us (size Utf16 (take i cs)) well (IsOffsetOf-prefix Utf16 us well i).boundary

  pub found-at : (i at : ℕ) → i ≤ length cs → at ≡ size Utf16 (take i cs) → IsFoundAt Utf16 us i (Some at)
  found-at i at within e = record {
    some = (λ _. within, λ _. refl);
    offset = subst (IsOffsetOf Utf16 us i) (sym e) (IsOffsetOf-prefix Utf16 us well i);
    boundary = subst (IsCharBoundary Utf16 us) (sym e) (char-boundary i);
  }

  pub none-left : (read : ℕ) → drop read cs ≡ [] → length cs ≤ read
  none-left read e = omega (arith, ap length e, length-drop read cs)

-- A search past the end finds none.
pub found-none : (us : List ℕ) (i : ℕ) (r : Option ℕ) → r ≡ None → length (chars Utf16 us) < i → IsFoundAt Utf16 us i r
found-none us i None e past = record { some = (λ some. absurd cc, λ le. absurd (omega (arith, le, past))); offset = tt; boundary = tt }
found-none us i (Some at) e past = absurd cc

-- No text has more characters than units.
pub few-characters : (form : EncodingForm) (l : List ℕ) → length l ≤ size form l
few-characters form [] = omega arith
few-characters form (c ∷ l) = omega (arith, length-append (code_units form c) (encode form l), some_units form c, few-characters form l)

-- The entries that are not past an offset before which nothing changes.
module _ (f g : ℕ → ℕ) where
  map-same : (a n : ℕ) → ((j : ℕ) → j < a + n → f j ≡ g j) → map f (range_with_len a n) ≡ map g (range_with_len a n)
  map-same a zero same = refl
  map-same a (suc n) same = ap (λ x. x ∷ map f (range_with_len (a + 1) n)) (same a (omega arith)) ∙ ap (λ xs. g a ∷ xs) (map-same (a + 1) n (λ j lt. same j (omega (arith, lt))))

module _ (old new : List ℕ) (p : ℕ) (within : p ≤ length old) (same : take p new ≡ take p old) where
  long : p ≤ length new
  long = omega (arith, ap length same, length-take p old, length-take p new)

  index_entry-same : (j : ℕ) → 64 * j ≤ p → index_entry old j ≡ index_entry new j
  index_entry-same j le = ap (size Utf16) (sym (take-take (64 * j) p old le) ∙ ap (take (64 * j)) (sym same) ∙ take-take (64 * j) p new le)

  pub same-marks : (k : ℕ) → k ≤ p / 64 → take k (index_entries old) ≡ take k (index_entries new)
  same-marks k le =
      take-map-range_with_len (index_entry old) 1 (length old / 64) k (omega (arith, within))
      ∙ map-same (index_entry old) (index_entry new) 1 k (λ j lt. index_entry-same j (omega (arith, lt)))
      ∙ sym (take-map-range_with_len (index_entry new) 1 (length new / 64) k (omega (arith, long)))

  module _ (k : ℕ) (before items : List ℕ) (le : k ≤ p / 64) (all : before ≡ index_entries old) (first : items ≡ take k before) where
    unchanged-new : items ≡ take k (index_entries new)
    unchanged-new = first ∙ ap (take k) all ∙ same-marks k le

    pub unchanged-count : length items ≡ k
    unchanged-count = ap length unchanged-new ∙ length-take-le k (index_entries new) (omega (arith, long, length-map-range_with_len (index_entry new) 1 (length new / 64)))

    -- The retained entries of the old index are the first entries of the new one.
    pub unchanged-marks : items ≡ take (length items) (index_entries new)
    unchanged-marks = unchanged-new ∙ ap (λ n. take n (index_entries new)) (sym unchanged-count)

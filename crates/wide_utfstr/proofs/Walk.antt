-- Characters read from the front, one after another.
use Rattle.std.proofs.Common.{◌≡◌, ℕ, ◌+◌, ◌≤◌, List, [], ◌∷◌, ◌++◌, sym, ◌∙◌, ap, subst, arith, length, length-append, length-drop, take, drop}
use Rattle.std.proofs.lemmas.List.{take-append-drop, drop-drop}
use Rattle.std.proofs.lemmas.List.Concat.{flat_map-append}
use Rattle.std.proofs.lemmas.List.Elements.{All-drop}
use Rattle.std.proofs.Math.Seq.{drop-append_seam}
use Rattle.std.specs.Char.{IsScalar}
use Rattle.wide_forms.specs.EncodingForm.{EncodingForm, code_units, encode}
use Rattle.wide_forms.specs.Items.{items, chars, characters, IsWellFormed}
use Rattle.wide_forms.specs.Offsets.{IsOffsetOf}
use Rattle.wide_forms.specs.Laws.Ends.{items-append_left}
use Rattle.wide_forms.specs.Laws.Offsets.{chars-encode, encode-chars, scalars-chars, IsOffsetOf-prefix}
use Rattle.wide_forms.specs.Laws.Policies.{characters-append}

-- The rest of the units is the encoding of their characters from number `index` on, and the text has at least that
-- many.
pub record IsLeftFrom (form : EncodingForm) (us rest : List ℕ) (index : ℕ) : Type 0 where
  pub characters : rest ≡ encode form (drop index (chars form us))
  pub within : index ≤ length (chars form us)

module _ (form : EncodingForm) (us : List ℕ) (well : IsWellFormed form us) where
  pub left-all : IsLeftFrom form us us 0
  left-all = record { characters = sym (encode-chars form us well); within = omega arith }

  module _ (rest : List ℕ) (index : ℕ) (left : IsLeftFrom form us rest index) where
    chars-left : chars form rest ≡ drop index (chars form us)
    chars-left = ap (chars form) left.characters ∙ chars-encode form (drop index (chars form us)) (All-drop IsScalar index (chars form us) (scalars-chars form us well))

    pub left-count : length (chars form rest) + index ≡ length (chars form us)
    left-count = omega (arith, left.within, ap length chars-left, length-drop index (chars form us))

    pub left-none : chars form rest ≡ [] → index ≡ length (chars form us)
    left-none e = omega (arith, left.within, ap length (sym chars-left ∙ e), length-drop index (chars form us))

    pub left-more : (others : List ℕ) (c : ℕ) → IsWellFormed form others → chars form rest ≡ c ∷ chars form others → IsLeftFrom form us others (index + 1)
    left-more others c after e =
        let split : drop index (chars form us) ≡ c ∷ chars form others = sym chars-left ∙ e in
        let later : drop (index + 1) (chars form us) ≡ chars form others = sym (drop-drop 1 index (chars form us)) ∙ ap (drop 1) split in
        record {
          characters = sym (encode-chars form others after) ∙ ap (encode form) (sym later);
          within = omega (arith, ap length split, length-drop index (chars form us));
        }

    left-length : length (encode form (take index (chars form us))) + length rest ≡ length us
    left-length =
        let cs = chars form us in
        let joined : us ≡ encode form (take index cs) ++ encode form (drop index cs) =
        sym (encode-chars form us well) ∙ ap (encode form) (sym (take-append-drop index cs)) ∙ flat_map-append (code_units form) (take index cs) (drop index cs)
        in
        omega (arith, ap length joined, length-append (encode form (take index cs)) (encode form (drop index cs)), ap length left.characters)

    pub left-shorter : length rest ≤ length us
    left-shorter = omega (arith, left-length)

    -- The offset that was reached is that of the character.
    pub left-offset : (offset : ℕ) → offset + length rest ≡ length us → IsOffsetOf form us index offset
    left-offset offset e =
        let long : length (encode form (take index (chars form us))) ≡ offset = omega (arith, left-length) in
        subst (λ n. IsOffsetOf form us index n) long (IsOffsetOf-prefix form us well index)

    -- What is left after a prefix of so many characters.
    pub left-prefix : (prefix others : List ℕ) (count : ℕ) → prefix ++ others ≡ rest → IsWellFormed form prefix → IsWellFormed form others → count ≡ length (chars form prefix) → count + index ≤ length (chars form us) × IsLeftFrom form us others (index + count)
    left-prefix prefix others count joined before after counted =
        let split : drop index (chars form us) ≡ chars form prefix ++ chars form others =
        sym chars-left ∙ ap (chars form) (sym joined) ∙ ap characters (items-append_left form prefix others before) ∙ characters-append (items form prefix) (items form others)
        in
        let later : drop (index + count) (chars form us) ≡ chars form others = sym (drop-drop count index (chars form us)) ∙ ap (drop count) split ∙ ap (λ n. drop n (chars form prefix ++ chars form others)) counted ∙ drop-append_seam (chars form prefix) (chars form others) in
        let within : count + index ≤ length (chars form us) = omega (arith, left.within, counted, ap length split, length-append (chars form prefix) (chars form others), length-drop index (chars form us)) in (
          within,
          record {
            characters = sym (encode-chars form others after) ∙ ap (encode form) (sym later);
            within = omega (arith, within);
          },
        )

-- Scalar values, which are units of 32 bits, as units of 16 bits.
use Rattle.std.proofs.Common.{◌≡◌, ℕ, ◌+◌, ◌<◌, inl, inr, List, ◌++◌, length, get_or, take, drop, sym, ap, ◌∙◌, subst, arith, length-take-le}
use Rattle.std.specs.Char.{IsScalar}
use Rattle.std.specs.List.{All}
use Rattle.std.proofs.Math.Seq.{take-add}
use Rattle.std.proofs.lemmas.Grind.{get_or_default_zero}
use Rattle.std.proofs.lemmas.List.{append_cancel_right, get_or-take, take-append-drop}
use Rattle.std.proofs.lemmas.List.Concat.{flat_map-append}
use Rattle.std.proofs.lemmas.List.Elements.{All-drop}
use Rattle.wide_forms.specs.EncodingForm.{Utf16, Utf32, IsFault, code_units, encode}
use Rattle.wide_forms.specs.Items.{IsWellFormed, chars}
use Rattle.wide_forms.specs.Searches.{IsFirstOffset}
use Rattle.wide_forms.specs.Laws.Forms.{no_scalar-of_fault, unit-cases}
use Rattle.wide_forms.specs.Laws.Offsets.{IsWellFormed-encode, scalars-chars}
use Rattle.wide_forms.specs.Laws.Utf32.{chars32-well_formed, encode32}

-- Units are well formed in UTF-32 exactly if they are scalar values, and these are their characters.
pub well_formed32 : (cs : List ℕ) → All IsScalar cs → IsWellFormed Utf32 cs
well_formed32 cs scalars = subst (IsWellFormed Utf32) (encode32 cs) (IsWellFormed-encode Utf32 cs scalars)

pub scalars32 : (us : List ℕ) → IsWellFormed Utf32 us → All IsScalar us
scalars32 us well = subst (All IsScalar) (chars32-well_formed us well) (scalars-chars Utf32 us well)

-- The encoding of scalar values, part by part.
pub encode-then : (cs us vs : List ℕ) (n m : ℕ) → us ≡ encode Utf16 (take n cs) → vs ≡ encode Utf16 (take m (drop n cs)) → us ++ vs ≡ encode Utf16 (take (n + m) cs)
encode-then cs us vs n m one other =
    ap (λ xs. xs ++ vs) one ∙ ap (λ xs. encode Utf16 (take n cs) ++ xs) other
    ∙ sym (ap (encode Utf16) (take-add n m cs) ∙ flat_map-append (code_units Utf16) (take n cs) (take m (drop n cs)))

-- What was converted of a prefix of scalar values is their encoding.
pub encode-prefix : (cs us : List ℕ) (m : ℕ) → All IsScalar cs → encode Utf16 (chars Utf32 cs) ≡ us ++ encode Utf16 (chars Utf32 (drop m cs)) → us ≡ encode Utf16 (take m cs)
encode-prefix cs us m scalars made =
    let same : (ds : List ℕ) → All IsScalar ds → chars Utf32 ds ≡ ds = λ ds each. chars32-well_formed ds (well_formed32 ds each) in
    let whole : encode Utf16 (take m cs) ++ encode Utf16 (drop m cs) ≡ us ++ encode Utf16 (drop m cs) =
    sym (ap (encode Utf16) (sym (take-append-drop m cs)) ∙ flat_map-append (code_units Utf16) (take m cs) (drop m cs))
    ∙ ap (encode Utf16) (sym (same cs scalars)) ∙ made ∙ ap (λ ds. us ++ encode Utf16 ds) (same (drop m cs) (All-drop IsScalar m cs scalars)) in
    sym (append_cancel_right (encode Utf16 (take m cs)) us (encode Utf16 (drop m cs)) whole)

-- Units up to the first one that is no scalar value.
module _ (us : List ℕ) (r : ℕ) (found : IsFirstOffset (IsFault Utf32) us r) where
  pub scalars-before : All IsScalar (take r us)
  scalars-before k d within =
      let long : length (take r us) ≡ r = length-take-le r us found.within in
      let read : get_or (take r us) k d ≡ get_or us k 0 = get_or_default_zero (take r us) k d within ∙ get_or-take r us k 0 (omega (arith, within, long)) in
      subst IsScalar (sym read) (scalar-unit (get_or us k 0) (found.before k (omega (arith, within, long))))
    where
      scalar-unit : (u : ℕ) → ¬ (IsFault Utf32 u) → IsScalar u
      scalar-unit u none = elim (unit-cases Utf32 u) [
        | inl one ↦ (let same : one.0 ≡ u = cc (one.2) in subst IsScalar same one.1)
        | inr fault ↦ absurd (none fault)
      ]

  pub no_scalar-at : r < length us → ¬ (IsScalar (get_or us r 0))
  no_scalar-at within = no_scalar-of_fault (get_or us r 0) (found.here within)

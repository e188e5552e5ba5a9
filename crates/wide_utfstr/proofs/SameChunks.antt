-- Text compared with the bytes of a text, or with its scalar values, chunk by chunk.
use Rattle.std.proofs.Common.{◌≡◌, ℕ, List, [], ◌∷◌, ◌++◌, Bool, true, false, nat_eq, IsTrue, ◌↔◌, refl, sym, ◌∙◌, ap, arith, length, map, take, drop, subst}
use Rattle.std.proofs.lemmas.List.{append_cancel_left, map-id, take-append-drop}
use Rattle.std.proofs.lemmas.Bool.Decides.{Decides-eqb}
use Rattle.std.proofs.lemmas.Slice.Eq.{slice_eq-Decides}
use Rattle.std.proofs.lemmas.Str.{chars-encodes, encodes-chars}
use Rattle.std.proofs.Math.Seq.{take-append_seam}
use Rattle.std.specs.Char.{IsScalar}
use Rattle.std.specs.List.{All}
use Rattle.std.specs.Cmp.Lexicographic.{pointwise}
use Rattle.std.specs.Str.{IsUtf8}
use Rattle.std.specs.Str.{chars as str_chars}
use Rattle.wide_forms.specs.EncodingForm.{Utf16, Utf32, encode}
use Rattle.wide_forms.specs.Items.{IsWellFormed, characters, chars}
use Rattle.wide_forms.specs.Utf8.{utf8}
use Rattle.wide_forms.specs.Laws.Items.{items-nil}
use Rattle.wide_forms.specs.Laws.Utf32.{chars32-well_formed, encode32}
use Rattle.wide_forms.specs.Laws.Utf8.{utf8-encode_utf8_all}
use Rattle.wide_from_units.proofs.Utf8Texts.{all_scalars-of_All}

-- Characters equal those of a text if and only if the bytes are equal.
pub same_bytes : (cs bs : List ℕ) → All IsScalar cs → IsUtf8 bs → (cs ≡ str_chars bs) ↔ (utf8 cs ≡ bs)
same_bytes cs bs scalars text = (
  λ e. ap utf8 e ∙ utf8-encode_utf8_all (str_chars bs) ∙ encodes-chars bs text,
  λ e. sym (chars-encodes cs (all_scalars-of_All cs scalars)) ∙ ap str_chars (sym (utf8-encode_utf8_all cs) ∙ e),
)

-- The characters of UTF-16 equal those of UTF-32 if and only if they are its units.
pub same_scalars : (us vs narrow wide : List ℕ) → narrow ≡ us → wide ≡ vs → IsWellFormed Utf32 (map (λ (u : ℕ). u) wide) → (chars Utf16 (map (λ (u : ℕ). u) us) ≡ chars Utf32 (map (λ (u : ℕ). u) vs)) ↔ (chars Utf16 narrow ≡ wide)
same_scalars us vs narrow wide is_narrow is_wide well =
    let left : chars Utf16 (map (λ (u : ℕ). u) us) ≡ chars Utf16 narrow = ap (chars Utf16) (map-id us ∙ sym is_narrow) in
    let scalars : chars Utf32 wide ≡ wide = chars32-well_formed wide (subst (λ ws. IsWellFormed Utf32 ws) (map-id wide) well) in
    let right : chars Utf32 (map (λ (u : ℕ). u) vs) ≡ wide = ap (chars Utf32) (map-id vs ∙ sym is_wide) ∙ scalars in
    (λ e. sym left ∙ e ∙ right, λ e. left ∙ e ∙ sym right)

-- The scalar values of a prefix of UTF-16, as units of UTF-32.
pub scalars_chunk : (us rest cs : List ℕ) → encode Utf32 (chars Utf16 (map (λ (u : ℕ). u) us)) ≡ map (λ (u : ℕ). u) cs ++ encode Utf32 (chars Utf16 (map (λ (u : ℕ). u) rest)) → chars Utf16 us ≡ cs ++ chars Utf16 rest
scalars_chunk us rest cs units =
    let left = map (λ (u : ℕ). u) rest in
    ap (chars Utf16) (sym (map-id us)) ∙ sym (encode32 (chars Utf16 (map (λ (u : ℕ). u) us))) ∙ units ∙ ap (λ ds. ds ++ encode Utf32 (chars Utf16 left)) (map-id cs) ∙ ap (λ ds. cs ++ ds) (encode32 (chars Utf16 left) ∙ ap (chars Utf16) (map-id rest))

-- An empty list of units has no characters.
pub no_chars : (us : List ℕ) → length us ≡ 0 → chars Utf16 us ≡ []
no_chars [] none = ap characters (items-nil Utf16)
no_chars (u ∷ us) none = absurd (omega arith)

module _ {T : Type 0} (ours theirs : List ℕ) (so_far : T ↔ (ours ≡ theirs)) where
  -- After a chunk that both begin with, the rests are equal if and only if the whole texts are.
  pub same_after : (chunk left rest : List ℕ) → ours ≡ chunk ++ left → pointwise nat_eq (take (length chunk) theirs) chunk ≡ true → rest ≡ drop (length chunk) theirs → T ↔ (left ≡ rest)
  same_after chunk left rest e begins beyond =
      let f : theirs ≡ chunk ++ rest = sym (take-append-drop (length chunk) theirs) ∙ ap (λ xs. xs ++ drop (length chunk) theirs) ((slice_eq-Decides Decides-eqb (take (length chunk) theirs) chunk true (sym begins)).0 refl) ∙ ap (λ ys. chunk ++ ys) (sym beyond) in
      (λ t. append_cancel_left chunk left rest (sym e ∙ so_far.0 t ∙ f), λ g. so_far.1 (e ∙ ap (λ ys. chunk ++ ys) g ∙ sym f))

  -- If they do not both begin with a chunk, they differ.
  pub no_longer_same : (chunk left : List ℕ) → ours ≡ chunk ++ left → pointwise nat_eq (take (length chunk) theirs) chunk ≡ false → IsTrue false ↔ T
  no_longer_same chunk left e differs = (
    λ no. absurd cc,
    λ t. let begins : take (length chunk) theirs ≡ chunk = ap (take (length chunk)) (sym (so_far.0 t) ∙ e) ∙ take-append_seam chunk left in
        let yes : false ≡ true = (slice_eq-Decides Decides-eqb (take (length chunk) theirs) chunk false (sym differs)).1 begins in
        absurd cc,
  )

  -- If no units of the view are left, they are equal if and only if none of the other are left.
  pub same_at_end : (empty : Bool) → ours ≡ [] → empty ≡ nat_eq (length theirs) 0 → IsTrue empty ↔ T
  same_at_end empty e is = (
    λ yes. so_far.1 (e ∙ sym (nothing theirs ((Decides-eqb (length theirs) 0).0 (sym is ∙ yes)))),
    λ t. is ∙ (Decides-eqb (length theirs) 0).1 (ap length (sym (so_far.0 t) ∙ e)),
  )
    where
      nothing : (xs : List ℕ) → length xs ≡ 0 → xs ≡ []
      nothing [] none = refl
      nothing (x ∷ xs) none = absurd (omega arith)

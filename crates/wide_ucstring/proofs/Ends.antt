-- Units that are truncated after their first NUL, or get one, and texts that are read back from before the NUL.
use Rattle.std.proofs.Common.{◌≡◌, ℕ, ◌+◌, ◌-◌, List, [], ◌∷◌, ◌++◌, take, length, map, inl, inr, sym, ap, subst, ◌∙◌, arith, Result, Ok, Err}
use Rattle.std.specs.Prelude.{IfOk}
use Rattle.std.specs.List.{take-map}
use Rattle.std.specs.Str.{IsUtf8, chars as str_chars}
use Rattle.std.proofs.Math.Seq.{take-append_seam}
use Rattle.std.proofs.lemmas.List.{take_more, map-id, length-map, length-append}
use Rattle.wide_forms.specs.EncodingForm.{EncodingForm, encode}
use Rattle.wide_forms.specs.Items.{chars}
use Rattle.wide_unit.specs.Nul.{HasNoNul, IsFirstNul}
use Rattle.wide_forms.specs.Utf8.{utf8}
use Rattle.wide_forms.specs.Laws.Texts.{text-back}
use Rattle.wide_ucstr.specs.CString.{contents}
use Rattle.wide_ucstring.specs.Made.{EndsAsGiven, EndsAtFirst}

module _ {X : Type 0} (number : X → ℕ) (xs : List X) (offset : ℕ) (first : IsFirstNul (map number xs) offset) where
  pub cut_at_first : EndsAtFirst (map number xs) (map number (take (offset + 1) xs))
  cut_at_first = inl (offset, first, sym (take-map number (offset + 1) xs))

  pub ended_at_first : EndsAtFirst (map number xs) (map number (take offset xs) ++ 0 ∷ [])
  ended_at_first = inl (offset, first, sym (take_more (map number xs) offset 0 first.at.0 ∙ ap (λ u. take offset (map number xs) ++ u ∷ []) first.at.1 ∙ ap (λ us. us ++ 0 ∷ []) (take-map number offset xs)))

-- A relation between lists of numbers, after mapping each number to itself.
pub of_numbers : (R : List ℕ → List ℕ → Type 0) (us made : List ℕ) → R (map (λ u. u) us) (map (λ u. u) made) → R us made
of_numbers R us made h = subst (λ xs. R xs made) (map-id us) (subst (λ xs. R (map (λ u. u) us) xs) (map-id made) h)

pub ok_gives : {A E : Type 0} {P Q : A → Type 0} (r : Result A E) → ((x : A) → P x → Q x) → IfOk r P → IfOk r Q
ok_gives (Ok x) f p = f x p
ok_gives (Err e) f p = tt

-- If units without a NUL got one, they are the contents.
pub contents_as_given : {X : Type 0} (number : X → ℕ) (us : List ℕ) (xs : List X) → EndsAsGiven us (map number xs) → HasNoNul us → map number (contents xs) ≡ us
contents_as_given number us xs (inl given) none = absurd (none (length us - 1) given.0.0 given.0)
contents_as_given number us xs (inr ended) none =
    let before : length xs - 1 ≡ length us = omega (arith, length-map xs number, ap length ended.1, length-append us (0 ∷ [])) in
    sym (take-map number (length xs - 1) xs) ∙ ap (take (length xs - 1)) ended.1 ∙ ap (λ n. take n (us ++ 0 ∷ [])) before ∙ take-append_seam us (0 ∷ [])

pub text_read_back : (form : EncodingForm) (text us : List ℕ) → IsUtf8 text → us ≡ encode form (str_chars text) → utf8 (chars form us) ≡ text
text_read_back form text us is_text same = ap (λ vs. utf8 (chars form vs)) same ∙ text-back form text is_text

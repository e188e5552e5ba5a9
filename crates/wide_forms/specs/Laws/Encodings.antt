-- The units of characters that are split, and spliced with others.
use Rattle.std.proofs.Common.{◌≡◌, ℕ, ◌≤◌, List, ◌++◌, sym, ◌∙◌, ap, arith, length, length-append, take, drop}
use Rattle.std.specs.List.{splice}
use Rattle.std.proofs.lemmas.List.{take-append-drop, take-take}
use Rattle.std.proofs.lemmas.List.Concat.{flat_map-append}
use Rattle.std.proofs.Math.Seq.{take-append_seam, drop-append_seam}
use Rattle.wide_forms.specs.EncodingForm.{EncodingForm, code_units, encode}

module _ (form : EncodingForm) (cs : List ℕ) where
  -- The length in units of the first characters.
  abbrev offset : ℕ → ℕ
  offset i = length (encode form (take i cs))

  halves : (i : ℕ) → encode form cs ≡ encode form (take i cs) ++ encode form (drop i cs)
  halves i = ap (encode form) (sym (take-append-drop i cs)) ∙ flat_map-append (code_units form) (take i cs) (drop i cs)

  -- The encoding of the first characters is the units before their offset.
  pub encode-take : (i : ℕ) → encode form (take i cs) ≡ take (offset i) (encode form cs)
  encode-take i = sym (ap (take (offset i)) (halves i) ∙ take-append_seam (encode form (take i cs)) (encode form (drop i cs)))

  -- The encoding of the characters after the first ones is the units from the offset on.
  pub encode-drop : (i : ℕ) → encode form (drop i cs) ≡ drop (offset i) (encode form cs)
  encode-drop i = sym (ap (drop (offset i)) (halves i) ∙ drop-append_seam (encode form (take i cs)) (encode form (drop i cs)))

  -- Replacing characters replaces exactly their units.
  pub encode-splice : (new : List ℕ) (i j : ℕ) → encode form (splice cs i j new) ≡ splice (encode form cs) (offset i) (offset j) (encode form new)
  encode-splice new i j =
      flat_map-append (code_units form) (take i cs) (new ++ drop j cs) ∙ ap (λ us. encode form (take i cs) ++ us) (flat_map-append (code_units form) new (drop j cs))
      ∙ ap (λ us. us ++ (encode form new ++ encode form (drop j cs))) (encode-take i) ∙ ap (λ us. take (offset i) (encode form cs) ++ (encode form new ++ us)) (encode-drop j)

-- The first `j` characters have at least as many units as the first `i`, if `i` is at most `j`.
pub offsets-grow : (form : EncodingForm) (cs : List ℕ) (i j : ℕ) → i ≤ j → length (encode form (take i cs)) ≤ length (encode form (take j cs))
offsets-grow form cs i j less =
    let first = encode form (take i (take j cs)) in
    let same : take i (take j cs) ≡ take i cs = take-take i j cs less in
    omega (arith, ap length (halves form (take j cs) i), length-append first (encode form (drop i (take j cs))), ap (λ ds. length (encode form ds)) same)

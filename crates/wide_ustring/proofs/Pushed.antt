-- A list over which the units of a text are written, of the same length.
use Rattle.std.proofs.Common.{◌≡◌, ◌≤◌, ℕ, List, [], ◌∷◌, ◌++◌, length, map, take, drop, refl, sym, ap, ◌∙◌, arith, append-nil, length-drop}
use Rattle.std.proofs.lemmas.List.{length-map, length-take-le, take_all}
use Rattle.std.specs.Str.{chars}
use Rattle.wide_forms.specs.EncodingForm.{EncodingForm, encode}

none_left : (form : EncodingForm) (bs : List ℕ) → length bs ≡ 0 → encode form (chars bs) ≡ []
unfolding chars
none_left form [] none = refl
none_left form (b ∷ bs) none = absurd (omega arith)

-- A prefix of the list holds the units of a prefix of the text. If the text was read to its end, the list holds the
-- units of the whole text.
pub all_written : {X : Type 0} (form : EncodingForm) (number : X → ℕ) (text : List ℕ) (written : List X) (read count : ℕ) → length written ≡ length (encode form (chars text)) → read ≡ length text → count ≤ length written
    → encode form (chars text) ≡ map number (take count written) ++ encode form (chars (drop read text)) → map number written ≡ encode form (chars text)
all_written form number text written read count long all within units =
    let rest : encode form (chars (drop read text)) ≡ [] = none_left form (drop read text) (omega (arith, all, length-drop read text)) in
    let prefix : encode form (chars text) ≡ map number (take count written) = units ∙ ap (λ us. map number (take count written) ++ us) rest ∙ append-nil (map number (take count written)) in
    let counted : length (map number (take count written)) ≡ count = length-map (take count written) number ∙ length-take-le count written within in
    let whole : take count written ≡ written = take_all count written (omega (arith, long, ap length prefix, counted)) in
    ap (map number) (sym whole) ∙ sym prefix

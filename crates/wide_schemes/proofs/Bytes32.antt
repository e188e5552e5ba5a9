-- UTF-32 as bytes, part by part.
use Rattle.std.proofs.Common.{◌≡◌, ℕ, ◌+◌, ◌-◌, ◌≤◌, List, [], ◌∷◌, ◌++◌, length, length-append, length-drop, map, take, drop, refl, sym, ap, ◌∙◌, subst, arith}
use Rattle.std.proofs.lemmas.List.{drop-drop, map-id, take_rest}
use Rattle.std.proofs.lemmas.List.Concat.{flat_map-append}
use Rattle.wide_forms.specs.EncodingForm.{Utf16, Utf32, code_units, encode}
use Rattle.wide_forms.specs.Items.{IsWellFormed, chars}
use Rattle.wide_forms.specs.UnitBytes.{big_bytes, little_bytes}
use Rattle.wide_forms.specs.Laws.Forms.{some_units}
use Rattle.wide_forms.specs.Laws.Items.{chars-of_well_formed}
use Rattle.wide_forms.specs.Laws.Offsets.{encode-chars}
use Rattle.wide_forms.specs.Laws.Utf32.{encode32}
use Rattle.wide_unit.specs.CodePoints.{code_points}
use Rattle.wide_bytes.specs.declared.order.BoM.{BoM}
use Rattle.wide_bytes.specs.declared.order.BoM.TheVariants.{Big, Little}
use Rattle.wide_schemes.specs.Layouts.{bytes32_in}
use Rattle.wide_schemes.proofs.TextPrefixes.{codes-of_chars}

pub bytes32-nil : (order : BoM) → bytes32_in order [] ≡ []
bytes32-nil Big = refl
bytes32-nil Little = refl

pub bytes32-append : (order : BoM) (cs ds : List ℕ) → bytes32_in order (cs ++ ds) ≡ bytes32_in order cs ++ bytes32_in order ds
bytes32-append Big cs ds = flat_map-append (big_bytes Utf32) cs ds
bytes32-append Little cs ds = flat_map-append (little_bytes Utf32) cs ds

-- No character has fewer than one unit of 16 bits.
fewer-chars : (cs : List ℕ) → length cs ≤ length (encode Utf16 cs)
fewer-chars [] = omega arith
fewer-chars (c ∷ cs) = let rest = fewer-chars cs in omega (arith, some_units Utf16 c, rest, length-append (code_units Utf16 c) (encode Utf16 cs))

-- What was converted of the units after an offset.
pub record IsConverted (us made : List ℕ) (n m : ℕ) : Type 0 where
  pub text : chars Utf16 (drop n us) ≡ made ++ chars Utf16 (drop (n + m) us)
  pub few : length made ≤ m
  pub rest : IsWellFormed Utf16 (drop (n + m) us)

abbrev numbers : List ℕ → List ℕ
numbers us = map (λ (u : ℕ). u) us

module _ (us made : List ℕ) (n m : ℕ) (well : IsWellFormed Utf16 (drop n us)) where
  abbrev slice : List ℕ
  slice = take (length us - n) (drop n us)

  left : drop m slice ≡ drop (n + m) us
  left = ap (drop m) (take_rest us n) ∙ drop-drop m n us

  pub converted : m ≤ length slice → IsWellFormed Utf16 (numbers (drop m slice)) → encode Utf32 (chars Utf16 (numbers slice)) ≡ numbers made ++ encode Utf32 (chars Utf16 (numbers (drop m slice))) → IsConverted us made n m
  converted within rest is =
      let beyond : numbers (drop m slice) ≡ drop (n + m) us = map-id (drop m slice) ∙ left in
      let here : numbers slice ≡ drop n us = map-id slice ∙ take_rest us n in
      let well' : IsWellFormed Utf16 (drop (n + m) us) = subst (IsWellFormed Utf16) beyond rest in
      let text : chars Utf16 (drop n us) ≡ made ++ chars Utf16 (drop (n + m) us) =
      ap (chars Utf16) (sym here) ∙ sym (encode32 (chars Utf16 (numbers slice))) ∙ is ∙ ap (λ xs. xs ++ encode Utf32 (chars Utf16 (numbers (drop m slice)))) (map-id made)
      ∙ ap (λ xs. made ++ xs) (encode32 (chars Utf16 (numbers (drop m slice))) ∙ ap (chars Utf16) beyond) in
      let whole : drop n us ≡ encode Utf16 made ++ drop (n + m) us =
      sym (encode-chars Utf16 (drop n us) well) ∙ ap (encode Utf16) text ∙ flat_map-append (code_units Utf16) made (chars Utf16 (drop (n + m) us)) ∙ ap (λ xs. encode Utf16 made ++ xs) (encode-chars Utf16 (drop (n + m) us) well') in
      record {
        text = text;
        few = omega (arith, within, ap length (take_rest us n), ap length whole, length-append (encode Utf16 made) (drop (n + m) us), ap length left, length-drop m slice, fewer-chars made);
        rest = well';
      }

-- The code points of well-formed units are their characters.
pub codes-well_formed : (us : List ℕ) → IsWellFormed Utf16 us → code_points Utf16 us ≡ chars Utf16 us
codes-well_formed us well = codes-of_chars us (chars Utf16 us) (chars-of_well_formed Utf16 us well)

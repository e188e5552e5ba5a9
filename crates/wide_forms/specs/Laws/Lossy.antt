-- Lossy text is well formed, is as long as the units, and for well-formed units is the units themselves.
use Rattle.std.proofs.Common.{◌≡◌, ℕ, suc, zero, List, [], ◌∷◌, ◌++◌, refl, ◌∙◌, ap, arith, length, length-append}
use Rattle.std.specs.Prelude.{map}
use Rattle.std.specs.Char.{IsScalar}
use Rattle.std.specs.List.{All}
use Rattle.std.proofs.lemmas.List.{map-append}
use Rattle.std.proofs.lemmas.List.Concat.{flat_map-append}
use Rattle.wide_forms.specs.EncodingForm.{EncodingForm, Utf16, Utf32, code_units, encode}
use Rattle.wide_forms.specs.Segmentation.{Item, Char, Fault, units_of}
use Rattle.wide_forms.specs.Items.{items, IsWellFormed, chars}
use Rattle.wide_forms.specs.Lossy.{lossy, lossy_char}
use Rattle.wide_forms.specs.Laws.Chains.{Chain}
use Rattle.wide_forms.specs.Laws.Items.{items-chain, chars-of_well_formed, encode-of_items, units_of-items}
use Rattle.wide_forms.specs.Laws.Ends.{items-append_left}
use Rattle.wide_forms.specs.Laws.Offsets.{IsWellFormed-encode}

-- The lossy text of characters is these characters.
pub lossy-chars : (cs : List ℕ) → lossy (map Char cs) ≡ cs
lossy-chars [] = refl
lossy-chars (c ∷ cs) = ap (λ xs. c ∷ xs) (lossy-chars cs)

-- The lossy text of well-formed units is their characters.
pub lossy-well_formed : (form : EncodingForm) (us : List ℕ) → IsWellFormed form us → lossy (items form us) ≡ chars form us
lossy-well_formed form us well = ap lossy (chars-of_well_formed form us well) ∙ lossy-chars (chars form us)

-- The lossy text of well-formed units encodes to the units.
pub encode-lossy : (form : EncodingForm) (us : List ℕ) → IsWellFormed form us → encode form (lossy (items form us)) ≡ us
encode-lossy form us well = ap (λ cs. encode form cs) (lossy-well_formed form us well) ∙ encode-of_items form (chars form us) us (chars-of_well_formed form us well)

lossy-scalars : (form : EncodingForm) (is : List Item) → Chain form is → All IsScalar (lossy is)
lossy-scalars form [] chain k d within = absurd (omega arith)
lossy-scalars form (Char c ∷ is) chain zero d within = chain.0
lossy-scalars form (Fault u ∷ is) chain zero d within = refl
lossy-scalars form (Char c ∷ is) chain (suc k) d within = lossy-scalars form is chain.2 k d (omega arith)
lossy-scalars form (Fault u ∷ is) chain (suc k) d within = lossy-scalars form is chain.2 k d (omega arith)

-- Lossy text consists of scalar values.
pub scalars-lossy : (form : EncodingForm) (us : List ℕ) → All IsScalar (lossy (items form us))
scalars-lossy form us = lossy-scalars form (items form us) (items-chain form us)

-- The encoding of lossy text is well formed.
pub well_formed-lossy : (form : EncodingForm) (us : List ℕ) → IsWellFormed form (encode form (lossy (items form us)))
well_formed-lossy form us = IsWellFormed-encode form (lossy (items form us)) (scalars-lossy form us)

-- The encoding of lossy text is the encoding of its own lossy text.
pub lossy-twice : (form : EncodingForm) (us : List ℕ) → encode form (lossy (items form (encode form (lossy (items form us))))) ≡ encode form (lossy (items form us))
lossy-twice form us = encode-lossy form (encode form (lossy (items form us))) (well_formed-lossy form us)

-- U+FFFD has one unit.
one_replacement : (form : EncodingForm) → length (code_units form 0xFFFD) ≡ 1
one_replacement Utf16 = refl
one_replacement Utf32 = refl

lengths : (form : EncodingForm) (is : List Item) → length (encode form (lossy is)) ≡ length (units_of form is)
lengths form [] = refl
lengths form (Char c ∷ is) = omega (arith, length-append (code_units form c) (encode form (lossy is)), length-append (code_units form c) (units_of form is), lengths form is)
lengths form (Fault u ∷ is) = omega (arith, length-append (code_units form 0xFFFD) (encode form (lossy is)), one_replacement form, lengths form is)

-- The encoding of lossy text has as many units as the original, since a fault and U+FFFD have one unit each.
pub length-lossy : (form : EncodingForm) (us : List ℕ) → length (encode form (lossy (items form us))) ≡ length us
length-lossy form us = lengths form (items form us) ∙ ap length (units_of-items form us)

-- Lossy text begins with the well-formed units at the beginning, unchanged.
pub lossy-after : (form : EncodingForm) (a b : List ℕ) → IsWellFormed form a → encode form (lossy (items form (a ++ b))) ≡ a ++ encode form (lossy (items form b))
lossy-after form a b well =
    let xs = lossy (items form a) in
    let ys = lossy (items form b) in
    ap (λ is. encode form (lossy is)) (items-append_left form a b well) ∙ ap (λ cs. encode form cs) (map-append lossy_char (items form a) (items form b))
    ∙ flat_map-append (code_units form) xs ys ∙ ap (λ us. us ++ encode form ys) (encode-lossy form a well)

-- Lossy text of bytes: a well-formed prefix and the items after it at a time; and the lossy text of no bytes and no
-- units.
use Rattle.std.proofs.Common.{◌≡◌, ℕ, ◌≤◌, List, [], ◌∷◌, ◌++◌, Bool, true, false, IsTrue, ◌↔◌, length, take, drop, refl, ap, ◌∙◌, arith}
use Rattle.std.specs.Str.{IsUtf8, chars}
use Rattle.std.proofs.lemmas.List.Concat.{flat_map-append}
use Rattle.wide_forms.specs.EncodingForm.{EncodingForm, code_units, encode}
use Rattle.wide_forms.specs.Items.{items}
use Rattle.wide_forms.specs.Lossy.{lossy_after}
use Rattle.wide_forms.specs.Utf8.{utf8, utf8_bytes}
use Rattle.wide_forms.specs.Laws.Items.{items-nil}
use Rattle.wide_forms.specs.Laws.Policies.{lossy_after-none_left}
use Rattle.wide_forms.specs.declared.policy.Policy.{Policy}
use Rattle.wide_conversions.specs.Utf8Items.{IsLossyPrefix, none, utf8_items, utf8_items-divide, utf8_items-unique}
use Rattle.wide_conversions.proofs.LossyItems.{lossy-after_text, lossy-rest}

-- The text of the prefix, the units of some items after it, and the text of the rest.
pub lossy_prefix : (form : EncodingForm) (policy : Policy) (bs us : List ℕ) (n m : ℕ) (after between next : Bool) → n ≤ length bs → IsUtf8 (take n bs) → (n ≡ 0 → between ≡ after) → (1 ≤ n → between ≡ false)
    → IsLossyPrefix form policy (drop n bs) m between next [] us
    → encode form (lossy_after policy after (utf8_items bs)) ≡ encode form (chars (take n bs)) ++ (us ++ encode form (lossy_after policy next (utf8_items (drop m (drop n bs)))))
lossy_prefix form policy bs us n m after between next within text same other items =
    let cs = chars (take n bs) in
    let rest = lossy_after policy between (utf8_items (drop n bs)) in
    ap (encode form) (lossy-after_text policy bs n after between within text same other) ∙ flat_map-append (code_units form) cs rest ∙ ap (λ vs. encode form cs ++ vs) (lossy-rest form policy (drop n bs) [] us m between next items)

-- No bytes and no units have no lossy text.
pub lossy_end : (form : EncodingForm) (policy : Policy) (after : Bool) (bs : List ℕ) → length bs ≡ 0 → encode form (lossy_after policy after (utf8_items bs)) ≡ []
lossy_end form policy after [] empty = ap (λ is. encode form (lossy_after policy after is)) (utf8_items-unique [] _ _ (utf8_items-divide []) none) ∙ ap (encode form) (lossy_after-none_left policy after)
lossy_end form policy after (b ∷ bs) empty = absurd (omega arith)

-- No units have no lossy text.
pub lossy_units_end : (form : EncodingForm) (policy : Policy) (after : Bool) (us : List ℕ) → length us ≡ 0 → utf8 (lossy_after policy after (items form us)) ≡ []
lossy_units_end form policy after [] empty = ap (λ is. utf8 (lossy_after policy after is)) (items-nil form) ∙ ap utf8 (lossy_after-none_left policy after)
lossy_units_end form policy after (u ∷ us) empty = absurd (omega arith)

-- No units have no lossy text of another width.
pub lossy_between_end : (form out : EncodingForm) (policy : Policy) (after : Bool) (us : List ℕ) → length us ≡ 0 → encode out (lossy_after policy after (items form us)) ≡ []
lossy_between_end form out policy after [] empty = ap (λ is. encode out (lossy_after policy after is)) (items-nil form) ∙ ap (encode out) (lossy_after-none_left policy after)
lossy_between_end form out policy after (u ∷ us) empty = absurd (omega arith)

-- The UTF-8 of three texts.
pub three_texts : (a b c : List ℕ) → utf8 (a ++ (b ++ c)) ≡ utf8 a ++ (utf8 b ++ utf8 c)
three_texts a b c = flat_map-append utf8_bytes a (b ++ c) ∙ ap (λ bs. utf8 a ++ bs) (flat_map-append utf8_bytes b c)

pub replacement : utf8 (0xFFFD ∷ []) ≡ 0xEF ∷ 0xBF ∷ 0xBD ∷ []
unfolding utf8_bytes
replacement = refl

-- Bytes that are not UTF-8, by the result of a test.
pub faulty : (bs : List ℕ) (result : Bool) → IsTrue result ↔ IsUtf8 bs → result ≡ false → IsUtf8 bs → ⊥
faulty bs result test other text = (let yes : result ≡ true = test.1 text in absurd cc)

-- Decoding directly into a subslice of a buffer that the rest of the text will fill.
use Rattle.std.proofs.Common.{◌≡◌, ℕ, ◌+◌, ◌*◌, ◌-◌, ◌^◌, ◌≤◌, ◌<◌, List, [], ◌∷◌, ◌++◌, append_assoc, length, length-append, length-take, length-drop, map, take, drop, sym, ap, ◌∙◌, subst, arith}
use Rattle.std.specs.Str.{IsUtf8, chars}
use Rattle.std.proofs.lemmas.Bool.Decides.{nat_tests}
use Rattle.std.proofs.lemmas.List.{drop-drop, take-append-drop}
use Rattle.std.proofs.lemmas.Str.{encodes-chars}
use Rattle.std.proofs.Math.Seq.{take-append_seam}
use borrow.Rule.Slice.PartMut.{put_mid, post_of}
use Rattle.wide_forms.specs.EncodingForm.{EncodingForm, code_units, encode}
use Rattle.wide_forms.specs.Utf8.{utf8, utf8_bytes}
use Rattle.wide_forms.specs.Laws.Forms.{some_units}
use Rattle.wide_forms.specs.Laws.Utf8.{utf8-encode_utf8_all}
use Rattle.widestring_c.proofs.Buffers.{Puts, one_more_of}

-- A character has at most four bytes.
four_bytes : (c : ℕ) → length (utf8_bytes c) ≤ 4
unfolding utf8_bytes
four_bytes c = grind (arith, nat_tests)

pub bytes_of : (form : EncodingForm) (cs : List ℕ) → length (utf8 cs) ≤ 4 * length (encode form cs)
bytes_of form [] = omega arith
bytes_of form (c ∷ cs) =
    omega (arith, four_bytes c, some_units form c, bytes_of form cs, length-append (utf8_bytes c) (utf8 cs), length-append (code_units form c) (encode form cs))

pub few_bytes : (form : EncodingForm) (bs : List ℕ) → IsUtf8 bs → length bs ≤ 4 * length (encode form (chars bs))
few_bytes form bs text = omega (arith, bytes_of form (chars bs), ap length (utf8-encode_utf8_all (chars bs) ∙ encodes-chars bs text))

-- What is written at the start of a subslice is after what is before the subslice.
pub take-window : {X : Type 0} (xs ys : List X) (at len n : ℕ) → at ≤ length xs → n ≤ length ys → take (at + n) (put_mid at len xs ys) ≡ take at xs ++ take n ys
take-window xs ys at len n within short =
    let parts : put_mid at len xs ys ≡ (take at xs ++ take n ys) ++ (drop n ys ++ post_of at len xs) =
    ap (λ zs. take at xs ++ (zs ++ post_of at len xs)) (sym (take-append-drop n ys)) ∙ ap (λ zs. take at xs ++ zs) (append_assoc (take n ys) (drop n ys) (post_of at len xs)) ∙ sym (append_assoc (take at xs) (take n ys) (drop n ys ++ post_of at len xs)) in
    let long : length (take at xs ++ take n ys) ≡ at + n = omega (arith, length-append (take at xs) (take n ys), length-take at xs, length-take n ys) in
    rw parts (subst (λ k. take k ((take at xs ++ take n ys) ++ (drop n ys ++ post_of at len xs)) ≡ take at xs ++ take n ys) long (take-append_seam (take at xs ++ take n ys) (drop n ys ++ post_of at len xs)))

pub length-window : {X : Type 0} (xs ys : List X) (at len : ℕ) → at + len ≤ length xs → length ys ≡ len → length (put_mid at len xs ys) ≡ length xs
length-window xs ys at len within long = omega (arith, within, long, length-append (take at xs) (ys ++ post_of at len xs), length-append ys (post_of at len xs), length-take at xs, length-drop at xs, length-drop len (drop at xs))

-- The units that are written at the start of a subslice are the next ones of the result.
pub one_window : {X : Type 0} (number : X → ℕ) (first : List ℕ) (from : ℕ) (all : List ℕ) (old ys : List X) (rest : List ℕ) (at len n : ℕ) → Puts first from all at (map number old) (map number (take n ys) ++ rest)
    → at + len ≤ length old → length old < 2 ^ 64 - 1 → length ys ≡ len → n ≤ len → Puts first from all (at + n) (map number (put_mid at len old ys)) rest
one_window number first from all old ys rest at len n puts within space long short =
    one_more_of number first from all old (put_mid at len old ys) (take n ys) rest at (at + n) puts (omega (arith, within, space, long, short, length-take n ys)) (λ fits. take-window old ys at len n (omega arith) (omega (arith, long, short))) (length-window old ys at len within long)

-- Elements after `end` are unchanged if those after `at` are, and `at ≤ end`.
pub drop-later : {X : Type 0} (old new : List X) (at end : ℕ) → at ≤ end → drop at new ≡ drop at old → drop end new ≡ drop end old
drop-later old new at end later same =
    let sum : at + (end - at) ≡ end = omega (arith, later) in
    subst (λ e. drop e new ≡ drop e old) sum (sym (drop-drop (end - at) at new) ∙ ap (drop (end - at)) same ∙ drop-drop (end - at) at old)

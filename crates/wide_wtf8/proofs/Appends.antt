-- Texts that are appended, and the halves of a pair between them.
use Rattle.std.proofs.Common.{◌≡◌, ℕ, zero, suc, ◌+◌, ◌-◌, ◌<◌, ◌≤◌, List, [], ◌∷◌, ◌++◌, inl, inr, true, false, Some, get_or, length, length-append, length-take-le, take, drop, refl, sym, ap, ◌∙◌, subst, arith}
use Rattle.std.specs.Prelude.{◌&&◌, map}
use Rattle.std.specs.List.{All}
use Rattle.std.proofs.Math.Seq.{drop-append-add, drop-append_seam}
use Rattle.std.proofs.lemmas.Bool.{cases_lt}
use Rattle.std.proofs.lemmas.Bool.Decides.{nat_tests}
use Rattle.std.proofs.lemmas.List.{append-nil, append_cancel_left, append_cancel_right, drop-append-le, drop-drop, get_or-append-add, get_or_append_left, map-append, take-append-drop, take-append-le, take_all}
use Rattle.std.proofs.lemmas.List.Concat.{flat_map-append}
use Rattle.std.proofs.lemmas.List.Elements.{All-append, All-cons, All-nil, All-tail}
use Rattle.wide_forms.specs.CodePoint.{code_point_at}
use Rattle.wide_forms.specs.EncodingForm.{Utf16, IsCodeUnit, IsHighSurrogate, IsLowSurrogate, IsPair, code_units, encode}
use Rattle.wide_forms.specs.Items.{items}
use Rattle.wide_forms.specs.Searches.{is_high, is_low, is_surrogate}
use Rattle.wide_forms.specs.Segmentation.{Fault}
use Rattle.wide_forms.specs.Utf8.{utf8, utf8_bytes}
use Rattle.wide_forms.specs.Laws.Ends.{items-back_high, items-prefix_low}
use Rattle.wide_forms.specs.Laws.Forms.{IsPair-parts, one_unit}
use Rattle.wide_forms.specs.Laws.Utf8.{code_point_at-bytes}
use Rattle.wide_unit.specs.CodePoints.{code_of, code_points}
use Rattle.wide_schemes.specs.PointRuns.{BeginsWithHalf, StartsWithNoHalf}
use Rattle.wide_schemes.specs.Wtf8.{wtf8}
use Rattle.wide_schemes.specs.Wtf8Items.{IsCodePoint, number_read}
use Rattle.wide_schemes.specs.Wtf8Laws.{code_points-bound, encode-code_points, utf8-goes_on, wtf8-append}
use Rattle.wide_schemes.proofs.Halves.{half-bytes, half-range}
use Rattle.wide_schemes.proofs.Puts.{rest-slice}
use Rattle.wide_wtf8.specs.Faults.{IsWtf8Of}
use Rattle.wide_wtf8.specs.Halves.{AreApart, AreHalves}
use Rattle.wide_wtf8.specs.Joins.{character, pair-text, wtf8-pair}

-- ---- texts that end in a first half, and texts that begin with a second half

ends-text : (us : List ℕ) (h : ℕ) → IsHighSurrogate Utf16 h → wtf8 (us ++ h ∷ []) ≡ wtf8 us ++ utf8_bytes h
ends-text us h high =
    ap (λ is. utf8 (map code_of is)) (items-back_high Utf16 us h high) ∙ ap utf8 (map-append code_of (items Utf16 us) (Fault h ∷ []))
    ∙ flat_map-append utf8_bytes (code_points Utf16 us) (h ∷ []) ∙ ap (λ bs. wtf8 us ++ bs) (append-nil (utf8_bytes h))

starts-text : (l : ℕ) (vs : List ℕ) → IsLowSurrogate Utf16 l → wtf8 (l ∷ vs) ≡ utf8_bytes l ++ wtf8 vs
starts-text l vs low = ap (λ is. utf8 (map code_of is)) (items-prefix_low Utf16 l vs low)

high-half : (h : ℕ) → IsHighSurrogate Utf16 h → is_surrogate h ≡ true
high-half h high = (let a = high.0 in let b = high.1 in grind (arith, nat_tests))

low-half : (l : ℕ) → IsLowSurrogate Utf16 l → is_surrogate l ≡ true
low-half l low = (let a = low.0 in let b = low.1 in grind (arith, nat_tests))

half-length : (u : ℕ) → is_surrogate u ≡ true → length (utf8_bytes u) ≡ 3
half-length u half = ap length (half-bytes u half)

half-point : (u : ℕ) → is_surrogate u ≡ true → IsCodePoint u
half-point u half = (let r = half-range u half in omega (arith, r.to))

last-three : (xs ys : List ℕ) → length ys ≡ 3 → drop (length (xs ++ ys) - 3) (xs ++ ys) ≡ ys
last-three xs ys three =
    let at : length (xs ++ ys) - 3 ≡ length xs = omega (arith, three, length-append xs ys) in
    ap (λ k. drop k (xs ++ ys)) at ∙ drop-append_seam xs ys

same-half : (u v : ℕ) (xs ys : List ℕ) → is_surrogate u ≡ true → is_surrogate v ≡ true → utf8_bytes u ++ xs ≡ utf8_bytes v ++ ys → u ≡ v
same-half u v xs ys a b e =
    let read : Some (u, xs) ≡ Some (v, ys) = sym (code_point_at-bytes u xs (half-point u a)) ∙ ap code_point_at e ∙ code_point_at-bytes v ys (half-point v b) in
    ap number_read read

-- ---- no halves of a pair

module _ (text more us vs : List ℕ) (a : IsWtf8Of us text) (b : IsWtf8Of vs more) (prefix back : List ℕ) (h l : ℕ) (e : us ≡ prefix ++ h ∷ []) (f : vs ≡ l ∷ back) (pair : IsPair Utf16 h l) where
  high : IsHighSurrogate Utf16 h
  high = (IsPair-parts Utf16 h l pair).0

  low : IsLowSurrogate Utf16 l
  low = (IsPair-parts Utf16 h l pair).1

  text-ends : text ≡ wtf8 prefix ++ utf8_bytes h
  text-ends = a.text ∙ ap wtf8 e ∙ ends-text prefix h high

  more-starts : more ≡ utf8_bytes l ++ wtf8 back
  more-starts = b.text ∙ ap wtf8 f ∙ starts-text l back low

  long : 3 ≤ length text
  long = omega (arith, ap length text-ends, length-append (wtf8 prefix) (utf8_bytes h), half-length h (high-half h high))

  -- What the slice of the last three bytes is.
  last : take (length text - (length text - 3)) (drop (length text - 3) text) ≡ utf8_bytes h
  last = rest-slice text (length text - 3) ∙ ap (λ xs. drop (length xs - 3) xs) text-ends ∙ last-three (wtf8 prefix) (utf8_bytes h) (half-length h (high-half h high))

  pub not-short : ¬ (length text < 3)
  not-short short = omega (arith, short, long)

  pub not-last : ¬ (StartsWithNoHalf (take (length text - (length text - 3)) (drop (length text - 3) text)))
  not-last none = none h [] (high-half h high) (last ∙ sym (append-nil (utf8_bytes h)))

  pub not-first : ¬ (StartsWithNoHalf more)
  not-first none = none l (wtf8 back) (low-half l low) more-starts

  pub not-apart : (u v : ℕ) → BeginsWithHalf (take (length text - (length text - 3)) (drop (length text - 3) text)) u → BeginsWithHalf more v → ¬ ((is_high u && is_low v) ≡ false)
  not-apart u v first second apart =
      let same : u ≡ h = same-half u h _ [] first.half (high-half h high) (sym first.whole ∙ last ∙ sym (append-nil (utf8_bytes h))) in
      let other : v ≡ l = same-half v l _ (wtf8 back) second.half (low-half l low) (sym second.whole ∙ more-starts) in
      let from = high.0 in let to = high.1 in let from' = low.0 in let to' = low.1 in
      grind (arith, nat_tests)

-- ---- halves of a pair

-- The bytes of a code point after the first one are trailing bytes.
trailing-at : (c p : ℕ) → suc p < length (utf8_bytes c) → get_or (utf8_bytes c) (suc p) 0 < 0xC0
unfolding utf8_bytes
trailing-at c zero within = grind (arith, nat_tests)
trailing-at c (suc zero) within = grind (arith, nat_tests)
trailing-at c (suc (suc zero)) within = grind (arith, nat_tests)
trailing-at c (suc (suc (suc p))) within = grind (arith, nat_tests)

some-bytes : (c : ℕ) → 0 < length (utf8_bytes c)
unfolding utf8_bytes
some-bytes c = grind (arith, nat_tests)

none-left : (es : List ℕ) → [] ≡ utf8 es → es ≡ []
none-left [] e = refl
none-left (c ∷ es) e = absurd (omega (arith, some-bytes c, ap length e, length-append (utf8_bytes c) (utf8 es)))

-- The bytes before the last three end where a code point ends.
past-first : (c h : ℕ) (rest pre : List ℕ) → length (utf8_bytes c) ≤ length pre → utf8_bytes c ++ rest ≡ pre ++ utf8_bytes h → rest ≡ drop (length (utf8_bytes c)) pre ++ utf8_bytes h
past-first c h rest pre from e =
    sym (drop-append_seam (utf8_bytes c) rest) ∙ ap (drop (length (utf8_bytes c))) e ∙ drop-append-le (length (utf8_bytes c)) pre (utf8_bytes h) from

within-first : (c h b : ℕ) (rest pre : List ℕ) → is_surrogate h ≡ true → length (b ∷ pre) < length (utf8_bytes c) → ¬ (utf8_bytes c ++ rest ≡ (b ∷ pre) ++ utf8_bytes h)
within-first c h b rest pre half within e =
    let here : get_or (utf8_bytes c ++ rest) (suc (length pre)) 0 ≡ get_or (utf8_bytes c) (suc (length pre)) 0 = get_or_append_left (utf8_bytes c) rest 0 (suc (length pre)) within in
    let there : get_or ((b ∷ pre) ++ utf8_bytes h) (suc (length pre) + 0) 0 ≡ get_or (utf8_bytes h) 0 0 = get_or-append-add (b ∷ pre) (utf8_bytes h) 0 0 in
    let first = ap (λ xs. get_or xs 0 0) (half-bytes h half) in
    let at : suc (length pre) + 0 ≡ suc (length pre) = omega arith in
    let same : get_or ((b ∷ pre) ++ utf8_bytes h) (suc (length pre) + 0) 0 ≡ get_or (utf8_bytes c ++ rest) (suc (length pre)) 0 = ap (λ k. get_or ((b ∷ pre) ++ utf8_bytes h) k 0) at ∙ ap (λ xs. get_or xs (suc (length pre)) 0) (sym e) in
    omega (arith, here, there, first, same, trailing-at c (length pre) within)

ends-point : (cs pre : List ℕ) (h : ℕ) → All IsCodePoint cs → is_surrogate h ≡ true → utf8 cs ≡ pre ++ utf8_bytes h → (ds : List ℕ) × (cs ≡ ds ++ h ∷ [])
ends-point [] pre h all half e = absurd (omega (arith, half-length h half, ap length e, length-append pre (utf8_bytes h)))
ends-point (c ∷ cs) pre h all half e = elim (cases_lt (length pre) (length (utf8_bytes c))) [
  | inr from ↦ (let beyond = ends-point cs (drop (length (utf8_bytes c)) pre) h (All-tail IsCodePoint c cs all) half (past-first c h (utf8 cs) pre from e) in (c ∷ beyond.0, ap (λ xs. c ∷ xs) beyond.1))
  | inl within ↦ inside pre within e
]
  where
    inside : (xs : List ℕ) → length xs < length (utf8_bytes c) → utf8_bytes c ++ utf8 cs ≡ xs ++ utf8_bytes h → (ds : List ℕ) × (c ∷ cs ≡ ds ++ h ∷ [])
    inside [] within e =
        let on = utf8-goes_on (h ∷ []) (c ∷ cs) [] (All-cons IsCodePoint h [] (half-point h half) (All-nil IsCodePoint)) all (append-nil (utf8_bytes h ++ []) ∙ append-nil (utf8_bytes h) ∙ sym e) in
        ([], on.points ∙ ap (λ es. h ∷ es) (none-left on.others on.bytes))
    inside (b ∷ xs) within e = absurd (within-first c h b (utf8 cs) xs half within e)

-- The units before the first half, and those after the second one.
module _ (text more us vs : List ℕ) (h l : ℕ) (halves : AreHalves text more h l) (a : IsWtf8Of us text) (b : IsWtf8Of vs more) where
  abbrev pub pre : List ℕ
  pre = take (length text - 3) text

  pre-text : text ≡ pre ++ utf8_bytes h
  pre-text = sym (take-append-drop (length text - 3) text) ∙ ap (λ xs. pre ++ xs) halves.end

  before : (us' : List ℕ) × (us ≡ us' ++ h ∷ [])
  before =
      let half = high-half h halves.is_high in
      let below = half-point h half in
      let ends = ends-point (code_points Utf16 us) pre h (code_points-bound us a.sixteen_bits) half (sym a.text ∙ pre-text) in
      let one : code_units Utf16 h ≡ h ∷ [] = one_unit h (let r = half-range h half in omega (arith, r.to)) in
      (encode Utf16 ends.0, sym (encode-code_points us a.sixteen_bits) ∙ ap (encode Utf16) ends.1 ∙ flat_map-append (code_units Utf16) ends.0 (h ∷ []) ∙ ap (λ xs. encode Utf16 ends.0 ++ (xs ++ [])) one)

  before-bytes : pre ≡ wtf8 before.0
  before-bytes = append_cancel_right pre (wtf8 before.0) (utf8_bytes h) (sym pre-text ∙ a.text ∙ ap wtf8 before.1 ∙ ends-text before.0 h halves.is_high)

  behind : (vs' : List ℕ) × (vs ≡ l ∷ vs')
  behind =
      let half = low-half l halves.is_low in
      let on = utf8-goes_on (l ∷ []) (code_points Utf16 vs) (drop 3 more) (All-cons IsCodePoint l [] (half-point l half) (All-nil IsCodePoint)) (code_points-bound vs b.sixteen_bits) (ap (λ xs. xs ++ drop 3 more) (append-nil (utf8_bytes l)) ∙ sym halves.start ∙ b.text) in
      let one : code_units Utf16 l ≡ l ∷ [] = one_unit l (let r = half-range l half in omega (arith, r.to)) in
      (encode Utf16 on.others, sym (encode-code_points vs b.sixteen_bits) ∙ ap (encode Utf16) on.points ∙ ap (λ xs. xs ++ encode Utf16 on.others) one)

  behind-bytes : drop 3 more ≡ wtf8 behind.0
  behind-bytes = append_cancel_left (utf8_bytes l) (drop 3 more) (wtf8 behind.0) (sym halves.start ∙ b.text ∙ ap wtf8 behind.1 ∙ starts-text l behind.0 halves.is_low)

  pub joined-text : wtf8 (us ++ vs) ≡ pre ++ (wtf8 (h ∷ l ∷ []) ++ drop 3 more)
  joined-text =
      ap (λ xs. wtf8 (xs ++ vs)) before.1 ∙ ap (λ xs. wtf8 ((before.0 ++ h ∷ []) ++ xs)) behind.1 ∙ wtf8-pair h l halves.is_high halves.is_low before.0 behind.0
      ∙ ap (λ xs. xs ++ (utf8_bytes (character h l halves.is_high halves.is_low) ++ wtf8 behind.0)) (sym before-bytes)
      ∙ ap (λ xs. pre ++ (utf8_bytes (character h l halves.is_high halves.is_low) ++ xs)) (sym behind-bytes)
      ∙ ap (λ xs. pre ++ (xs ++ drop 3 more)) (sym (pair-text h l halves.is_high halves.is_low))

  -- What appending from the third byte on and overwriting four bytes makes.
  pub joined-bytes : (ext bytes : List ℕ) (at : ℕ) → at ≡ length text - 3 → ext ≡ text ++ drop 2 more → bytes ≡ take at ext ++ (wtf8 (h ∷ l ∷ []) ++ drop (at + 4) ext) → IsWtf8Of (us ++ vs) bytes
  joined-bytes ext bytes at is extended written =
      let first : take at ext ≡ pre = ap (λ k. take k ext) is ∙ ap (take (length text - 3)) extended ∙ take-append-le (length text - 3) text (drop 2 more) (omega arith) in
      let past : at + 4 ≡ length text + 1 = omega (arith, is, halves.before) in
      let rest : drop (at + 4) ext ≡ drop 3 more = ap (λ k. drop k ext) past ∙ ap (drop (length text + 1)) extended ∙ drop-append-add text (drop 2 more) 1 ∙ drop-drop 1 2 more in
      record {
        sixteen_bits = All-append (IsCodeUnit Utf16) us vs a.sixteen_bits b.sixteen_bits;
        text = written ∙ ap (λ xs. xs ++ (wtf8 (h ∷ l ∷ []) ++ drop (at + 4) ext)) first ∙ ap (λ xs. pre ++ (wtf8 (h ∷ l ∷ []) ++ xs)) rest ∙ sym joined-text;
      }

-- A pair has four bytes.
long-bytes : (c : ℕ) → 0x1_0000 ≤ c → length (utf8_bytes c) ≡ 4
unfolding utf8_bytes
long-bytes c from = grind (arith, nat_tests)

pub four-bytes : (h l : ℕ) (out : List ℕ) (n : ℕ) → IsHighSurrogate Utf16 h → IsLowSurrogate Utf16 l → n ≤ length out → take n out ≡ wtf8 (h ∷ l ∷ []) → take 4 out ≡ wtf8 (h ∷ l ∷ [])
four-bytes h l out n high low within same =
    let text = pair-text h l high low in
    let four : n ≡ 4 = omega (arith, length-take-le n out within, ap length same, ap length text, long-bytes (character h l high low) (omega arith)) in
    subst (λ k. take k out ≡ wtf8 (h ∷ l ∷ [])) four same

-- Texts between which no pair is split.
pub apart-text : (text more us vs bytes : List ℕ) → AreApart text more → bytes ≡ text ++ more → IsWtf8Of us text → IsWtf8Of vs more → IsWtf8Of (us ++ vs) bytes
apart-text text more us vs bytes apart appended a b = record {
  sixteen_bits = All-append (IsCodeUnit Utf16) us vs a.sixteen_bits b.sixteen_bits;
  text = appended ∙ ap (λ xs. xs ++ more) a.text ∙ ap (λ xs. wtf8 us ++ xs) b.text ∙ sym (wtf8-append us vs (apart us vs a b));
}

-- What was appended from the third element on.
pub from-third : (new text more : List ℕ) → new ≡ text ++ take (length more - 2) (drop 2 more) → new ≡ text ++ drop 2 more
from-third new text more e = e ∙ ap (λ xs. text ++ xs) (rest-slice more 2)

-- What was written back, where the length stays the same.
pub written-back : (xs ys : List ℕ) (n : ℕ) → n ≡ length xs → take n (xs ++ ys) ≡ xs
written-back xs ys n same = take-append-le n xs ys (omega (arith, same)) ∙ take_all n xs (omega (arith, same))

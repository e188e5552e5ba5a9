-- The UTF-8 of paired units is the bytes that each unit yields.
use Rattle.std.proofs.Common.{◌≡◌, ◌≢◌, ℕ, zero, suc, ◌+◌, ◌-◌, ◌*◌, ◌/◌, ◌%◌, ◌<◌, ◌≤◌, inl, inr, eqb, List, [], ◌∷◌, ◌++◌, length, length-append, length-drop, get_or, take, drop, refl, sym, ap, ◌∙◌, subst, arith, append_assoc}
use Rattle.std.proofs.lemmas.Bool.{cases_lt, lt-ltb, le-ltb}
use Rattle.std.proofs.lemmas.Bool.Decides.{eqb_tells}
use Rattle.std.proofs.lemmas.List.{append-nil, get_or-take, length-take-le, take_all}
use Rattle.std.proofs.lemmas.Simd.{get_or-chunk}
use Rattle.std.proofs.Math.ListN.{get_or-eq_default}
use mir.Val.{bool_byte}
use Rattle.std.proofs.Math.Seq.{take-append_seam}
use Rattle.wide_forms.specs.Utf8.{utf8_bytes}
use Rattle.wide_forms.specs.Laws.Utf8.{one_byte, two_bytes, three_bytes}
use Rattle.wide_utf16_to_utf8.specs.Encoded.{ArePaired, EncodedUnits, high_word, low_word}
use Rattle.wide_utf16_to_utf8.specs.PairedText.{IsPairedLead, paired_bytes, paired_key, paired_text}
use Rattle.wide_utf16_to_utf8.specs.ThreeBytes.{packed, packed_unit}
use Rattle.wide_utf16_to_utf8.proofs.Rows.{packed-unit}
use Rattle.wide_utf16_to_utf8.proofs.Stores.{list4, pair-word}
use Rattle.wide_forms.proofs.Stored.{compressed-lead}
use Rattle.wide_utf16_to_utf8.proofs.UnitEncodings.{units-none, units-one, units-pair, units-then}

-- ---- one unit

half-plain : (b u : ℕ) → (0xd800 ≤ u → 0xe000 ≤ u) → paired_bytes b u ≡ utf8_bytes u
half-plain b u plain = elim (cases_lt u 0xd800) [
  | inl low ↦ rw (lt-ltb u 0xd800 low) refl
  | inr from ↦ (let past = plain from in rw (le-ltb u 0xd800 from, le-ltb u 0xdc00 (omega (arith, past)), le-ltb u 0xe000 past) refl)
]

half-high : (b u : ℕ) → 0xd800 ≤ u → u < 0xdc00 → paired_bytes b u ≡ high_word u % 0x100 ∷ high_word u / 0x100 ∷ []
half-high b u from to = rw (le-ltb u 0xd800 from, lt-ltb u 0xdc00 to) refl

half-low : (b u : ℕ) → 0xdc00 ≤ u → u < 0xe000 → paired_bytes b u ≡ low_word b u % 0x100 ∷ low_word b u / 0x100 ∷ []
half-low b u from to = rw (le-ltb u 0xd800 (omega arith), le-ltb u 0xdc00 from, lt-ltb u 0xe000 to) refl

-- ---- all units of a paired list

-- What holds for units after one that is not a high surrogate: the first is no low surrogate, and all are paired, also
-- the last.
pub record IsPairedList (us : List ℕ) : Type 0 where
  pub fits : (k : ℕ) → get_or us k 0 < 0x10000
  pub first : 0xdc00 ≤ get_or us 0 0 → 0xe000 ≤ get_or us 0 0
  pub pairs : (k : ℕ) → k < length us → ArePaired (get_or us k 0) (get_or us (suc k) 0)

beyond-plain : (u : ℕ) (us : List ℕ) → (0xd800 ≤ u → 0xe000 ≤ u) → IsPairedList (u ∷ us) → IsPairedList us
beyond-plain u us plain p = record {
  fits = λ k. p.fits (suc k);
  first = λ from. elim (cases_lt (get_or us 0 0) 0xe000) [
    | inr past ↦ past
    | inl to ↦ (let high = (p.pairs 0 (omega arith)).high from to in absurd (omega (arith, plain high.0, high.1)))
  ];
  pairs = λ k within. p.pairs (suc k) (omega arith);
}

beyond-pair : (h l : ℕ) (us : List ℕ) → 0xdc00 ≤ l → l < 0xe000 → IsPairedList (h ∷ l ∷ us) → IsPairedList us
beyond-pair h l us from to p = record {
  fits = λ k. p.fits (suc (suc k));
  first = λ low. elim (cases_lt (get_or us 0 0) 0xe000) [
    | inr past ↦ past
    | inl below ↦ (let high = (p.pairs 1 (omega arith)).high low below in absurd (omega (arith, high.1)))
  ];
  pairs = λ k within. p.pairs (suc (suc k)) (omega arith);
}

two-paired_text-are : (h l : ℕ) → 0xd800 ≤ h → h < 0xdc00 → 0xdc00 ≤ l → l < 0xe000
    → high_word h % 0x100 ∷ high_word h / 0x100 ∷ low_word h l % 0x100 ∷ low_word h l / 0x100 ∷ [] ≡ utf8_bytes (0x10000 + ((h - 0xd800) * 0x400 + (l - 0xdc00)))
two-paired_text-are h l from to low high =
    let word : ℕ = high_word h + low_word h l * 0x10000 in
    list4 _ _ _ _ (word % 0x100) (word / 0x100 % 0x100) (word / 0x10000 % 0x100) (word / 0x1000000) (omega arith) (omega arith) (omega arith) (omega arith) ∙ pair-word h l word from to low high refl

plain-then : (b u : ℕ) (us s : List ℕ) → u < 0x10000 → (0xd800 ≤ u → 0xe000 ≤ u) → EncodedUnits us (s ++ paired_bytes b u) ((s ++ paired_bytes b u) ++ paired_text (u ∷ us)) → EncodedUnits (u ∷ us) s (s ++ paired_text (b ∷ u ∷ us))
plain-then b u us s below no_half rest =
    let one = units-one u s (s ++ paired_bytes b u) below no_half (ap (λ x. s ++ x) (half-plain b u no_half)) in
    subst (λ t. EncodedUnits (u ∷ us) s t) (append_assoc s (paired_bytes b u) (paired_text (u ∷ us))) (units-then one rest)

pair-then : (b h l : ℕ) (us s : List ℕ) → 0xd800 ≤ h → h < 0xdc00 → 0xdc00 ≤ l → l < 0xe000
    → EncodedUnits us (s ++ (paired_bytes b h ++ paired_bytes h l)) ((s ++ (paired_bytes b h ++ paired_bytes h l)) ++ paired_text (l ∷ us)) → EncodedUnits (h ∷ l ∷ us) s (s ++ paired_text (b ∷ h ∷ l ∷ us))
pair-then b h l us s from to low high rest =
    let both : paired_bytes b h ++ paired_bytes h l ≡ utf8_bytes (0x10000 + ((h - 0xd800) * 0x400 + (l - 0xdc00))) = rw (half-high b h from to, half-low h l low high) (two-paired_text-are h l from to low high) in
    let two = units-pair h l s (s ++ (paired_bytes b h ++ paired_bytes h l)) from to low high (ap (λ x. s ++ x) both) in
    let joined : (s ++ (paired_bytes b h ++ paired_bytes h l)) ++ paired_text (l ∷ us) ≡ s ++ (paired_bytes b h ++ (paired_bytes h l ++ paired_text (l ∷ us))) = append_assoc s (paired_bytes b h ++ paired_bytes h l) (paired_text (l ∷ us)) ∙ ap (λ x. s ++ x) (append_assoc (paired_bytes b h) (paired_bytes h l) (paired_text (l ∷ us))) in
    subst (λ t. EncodedUnits (h ∷ l ∷ us) s t) joined (units-then two rest)

pub paired-text : (b : ℕ) (us s : List ℕ) → IsPairedList us → EncodedUnits us s (s ++ paired_text (b ∷ us))
paired-text b [] s p = subst (λ t. EncodedUnits [] s t) (sym (append-nil s)) (units-none s)
paired-text b (u ∷ []) s p =
    let plain : 0xd800 ≤ u → 0xe000 ≤ u = λ from. elim (cases_lt u 0xdc00) [
      | inl to ↦ (let low = (p.pairs 0 (omega arith)).low from to in absurd (omega (arith, low.0)))
      | inr past ↦ p.first past
    ] in
    plain-then b u [] s (p.fits 0) plain (paired-text u [] (s ++ paired_bytes b u) (beyond-plain u [] plain p))
paired-text b (u ∷ v ∷ us) s p = elim (cases_lt u 0xd800) [
  | inl low ↦ plain-then b u (v ∷ us) s (p.fits 0) (λ from. absurd (omega arith)) (paired-text u (v ∷ us) (s ++ paired_bytes b u) (beyond-plain u (v ∷ us) (λ from. absurd (omega arith)) p))
  | inr from ↦ elim (cases_lt u 0xdc00) [
    | inl to ↦ (
        let low = (p.pairs 0 (omega arith)).low from to in
        pair-then b u v us s from to low.0 low.1 (paired-text v us (s ++ (paired_bytes b u ++ paired_bytes u v)) (beyond-pair u v us low.0 low.1 p))
        )
    | inr past ↦ plain-then b u (v ∷ us) s (p.fits 0) (λ f. p.first past) (paired-text u (v ∷ us) (s ++ paired_bytes b u) (beyond-plain u (v ∷ us) (λ f. p.first past) p))
  ]
]

-- ---- a window split in two

pub paired_text-split : (n : ℕ) (ws : List ℕ) → n < length ws → paired_text ws ≡ paired_text (take (n + 1) ws) ++ paired_text (drop n ws)
paired_text-split n [] within = absurd (omega arith)
paired_text-split zero (b ∷ []) within = refl
paired_text-split zero (b ∷ u ∷ us) within = refl
paired_text-split (suc n) (b ∷ []) within = absurd (omega arith)
paired_text-split (suc n) (b ∷ u ∷ us) within =
    let next : n + 1 ≡ suc n = omega arith in
    let next_two : suc n + 1 ≡ suc (suc n) = omega arith in
    let rest : paired_text (u ∷ us) ≡ paired_text (take (n + 1) (u ∷ us)) ++ paired_text (drop n (u ∷ us)) = paired_text-split n (u ∷ us) (omega arith) in
    let same : take (n + 1) (u ∷ us) ≡ u ∷ take n us = ap (λ k. take k (u ∷ us)) next in
    let longer : take (suc n + 1) (b ∷ u ∷ us) ≡ b ∷ u ∷ take n us = ap (λ k. take k (b ∷ u ∷ us)) next_two in
    ap (λ x. paired_bytes b u ++ x) (rest ∙ ap (λ x. paired_text x ++ paired_text (drop n (u ∷ us))) same) ∙ sym (append_assoc (paired_bytes b u) (paired_text (u ∷ take n us)) (paired_text (drop n (u ∷ us)))) ∙ ap (λ x. paired_text x ++ paired_text (drop n (u ∷ us))) (sym longer)

-- ---- a high surrogate at the end

few-bytes : (u : ℕ) → u < 0x10000 → length (utf8_bytes u) ≤ 3
few-bytes u below = elim (cases_lt u 0x80) [
  | inl low ↦ rw (one_byte u low) (omega arith)
  | inr from ↦ elim (cases_lt u 0x800) [ inl low ↦ rw (two_bytes u from low) (omega arith) | inr from_800 ↦ rw (three_bytes u from_800 below) (omega arith) ]
]

half-few : (b u : ℕ) → u < 0x10000 → length (paired_bytes b u) ≤ 3
half-few b u below = elim (cases_lt u 0xd800) [
  | inl low ↦ rw (half-plain b u (λ from. absurd (omega arith))) (few-bytes u below)
  | inr from ↦ elim (cases_lt u 0xdc00) [
    | inl to ↦ rw (half-high b u from to) (omega arith)
    | inr low ↦ elim (cases_lt u 0xe000) [ inl to ↦ rw (half-low b u low to) (omega arith) | inr past ↦ rw (half-plain b u (λ f. past)) (few-bytes u below) ]
  ]
]

paired_text-few : (ws : List ℕ) → ((k : ℕ) → get_or ws k 0 < 0x10000) → length (paired_text ws) ≤ 3 * (length ws - 1)
paired_text-few [] fits = omega arith
paired_text-few (b ∷ []) fits = omega arith
paired_text-few (b ∷ u ∷ us) fits = omega (arith, length-append (paired_bytes b u) (paired_text (u ∷ us)), half-few b u (fits 1), paired_text-few (u ∷ us) (λ k. fits (suc k)))

at-end : (ws : List ℕ) (n : ℕ) → length ws ≡ n + 2 → drop n ws ≡ get_or ws n 0 ∷ get_or ws (suc n) 0 ∷ []
at-end [] n long = absurd (omega arith)
at-end (w ∷ []) n long = absurd (omega arith)
at-end (w ∷ v ∷ []) zero long = refl
at-end (w ∷ v ∷ u ∷ ws) zero long = absurd (omega arith)
at-end (w ∷ v ∷ ws) (suc n) long = at-end (v ∷ ws) n (omega arith)

-- What holds for a window of seventeen units, of which the first is arbitrary.
pub record IsWindow (ws : List ℕ) : Type 0 where
  pub long : length ws ≡ 17
  pub fits : (k : ℕ) → get_or ws k 0 < 0x10000
  pub first : 0xdc00 ≤ get_or ws 1 0 → 0xe000 ≤ get_or ws 1 0
  pub pairs : (k : ℕ) → k < 15 → ArePaired (get_or ws (k + 1) 0) (get_or ws (k + 2) 0)

no-pair-beyond : (u : ℕ) → ¬ ((0xd800 ≤ u) × (u < 0xdc00)) → ArePaired u 0
no-pair-beyond u plain = record { low = λ from to. absurd (plain (from, to)); high = λ from to. absurd (omega arith) }

paired-lead : (b : ℕ) (us : List ℕ) (n : ℕ) → IsWindow (b ∷ us) → 0 < n → n ≤ 16 → ¬ ((0xd800 ≤ get_or us (n - 1) 0) × (get_or us (n - 1) 0 < 0xdc00)) → IsPairedList (take n us)
paired-lead b us n w some most plain = record {
  fits = λ k. elim (cases_lt k n) [ inl below ↦ rw (same k below) (w.fits (suc k)) | inr from ↦ rw (none k from) (omega arith) ];
  first = rw (same 0 some) w.first;
  pairs = λ k within. elim (cases_lt (suc k) n) [
    | inl below ↦ rw (same k (omega arith), same (suc k) below) (subst (λ i. ArePaired (get_or (b ∷ us) i 0) (get_or us (suc k) 0)) (next k) (subst (λ i. ArePaired (get_or (b ∷ us) (k + 1) 0) (get_or (b ∷ us) i 0)) (next_two k) (w.pairs k (omega arith))))
    | inr from ↦ (let last : n - 1 ≡ k = omega (arith, within, long) in rw (same k (omega (arith, within, long)), none (suc k) from) (no-pair-beyond (get_or us k 0) (subst (λ i. ¬ ((0xd800 ≤ get_or us i 0) × (get_or us i 0 < 0xdc00))) last plain)))
  ];
}
  where
    long : length (take n us) ≡ n
    long = length-take-le n us (omega (arith, w.long))

    same : (k : ℕ) → k < n → get_or (take n us) k 0 ≡ get_or us k 0
    same k below = get_or-take n us k 0 below

    none : (k : ℕ) → n ≤ k → get_or (take n us) k 0 ≡ 0
    none k from = get_or-eq_default (take n us) 0 (omega (arith, long))

    next : (k : ℕ) → k + 1 ≡ suc k
    next k = omega arith

    next_two : (k : ℕ) → k + 2 ≡ suc (suc k)
    next_two k = omega arith

-- How many units at the end of a window are not counted: one if the last is a high surrogate, and otherwise none.
pub record IsCutWindow (ws : List ℕ) (cut : ℕ) : Type 0 where
  pub high : (0xd800 ≤ get_or ws 16 0) → (get_or ws 16 0 < 0xdc00) → cut ≡ 1
  pub other : ((0xd800 ≤ get_or ws 16 0) × (get_or ws 16 0 < 0xdc00) → ⊥) → cut ≡ 0

pub cut-window : (ws : List ℕ) (cut : ℕ) → cut ≡ bool_byte (eqb (get_or ws 16 0 / 0x400) 54) → IsCutWindow ws cut
cut-window ws cut is = elim (eqb_tells (get_or ws 16 0 / 0x400) 54) [
  | inl reported ↦ (
      let one : cut ≡ 1 = is ∙ rw reported.0 refl in
      let high = reported.1 in
      record { high = λ from to. one; other = λ plain. absurd (plain (omega (arith, high), omega (arith, high))) }
      )
  | inr reported ↦ (
      let none : cut ≡ 0 = is ∙ rw reported.0 refl in
      let apart = reported.1 in
      record { high = λ from to. absurd (apart (omega arith)); other = λ plain. none }
      )
]

none-beyond : (ws : List ℕ) (k : ℕ) → length ws ≤ k → get_or ws k 0 ≡ 0
none-beyond ws k over = get_or-eq_default ws 0 over

window-len : (ws xs zs : List ℕ) (at end : ℕ) → at ≤ length xs → end ≤ length zs → take end zs ≡ take at xs ++ paired_text ws → end ≡ at + length (paired_text ws)
window-len ws xs zs at end space within stored =
    sym (length-take-le end zs within) ∙ ap length stored ∙ length-append (take at xs) (paired_text ws) ∙ ap (λ n. n + length (paired_text ws)) (length-take-le at xs space)

pub record IsWindowText (ws xs zs : List ℕ) (at end cut : ℕ) : Type 0 where
  pub text : EncodedUnits (take (16 - cut) (drop 1 ws)) (take at xs) (take (end - 2 * cut) zs)
  pub most : end - 2 * cut ≤ at + 3 * (16 - cut)
  pub least : 2 * cut ≤ end

pub window-text : (ws xs zs : List ℕ) (at end cut : ℕ) → IsWindow ws → IsCutWindow ws cut → at ≤ length xs → end ≤ length zs → take end zs ≡ take at xs ++ paired_text ws → IsWindowText ws xs zs at end cut
window-text [] xs zs at end cut w is space within stored = absurd (omega (arith, w.long))
window-text (b ∷ us) xs zs at end cut w is space within stored = elim (cases_lt (get_or us 15 0) 0xd800) [
  | inl low ↦ whole (λ h. omega (arith, h.0))
  | inr from ↦ elim (cases_lt (get_or us 15 0) 0xdc00) [ inl to ↦ half from to | inr past ↦ whole (λ h. omega (arith, h.1)) ]
]
  where
    count : length (paired_text (b ∷ us)) ≤ 48
    count = omega (arith, paired_text-few (b ∷ us) w.fits, w.long)

    len : end ≡ at + length (paired_text (b ∷ us))
    len = window-len (b ∷ us) xs zs at end space within stored

    whole : ((0xd800 ≤ get_or us 15 0) × (get_or us 15 0 < 0xdc00) → ⊥) → IsWindowText (b ∷ us) xs zs at end cut
    whole plain =
        let none = is.other plain in
        let all : take 16 us ≡ us = take_all 16 us (omega (arith, w.long)) in
        let paired : IsPairedList us = subst (λ vs. IsPairedList vs) all (paired-lead b us 16 w (omega arith) (omega arith) plain) in
        let text : EncodedUnits us (take at xs) (take end zs) = subst (λ t. EncodedUnits us (take at xs) t) (sym stored) (paired-text b us (take at xs) paired) in
        let same : end - 2 * 0 ≡ end = omega arith in
        rw none (record { text = subst (λ n. EncodedUnits (take 16 us) (take at xs) (take n zs)) (sym same) (subst (λ vs. EncodedUnits vs (take at xs) (take end zs)) (sym all) text); most = omega (arith, len, count); least = omega arith })

    half : 0xd800 ≤ get_or us 15 0 → get_or us 15 0 < 0xdc00 → IsWindowText (b ∷ us) xs zs at end cut
    half from to =
        let one = is.high from to in
        let lead = paired_text (take 16 (b ∷ us)) in
        let back : paired_text (drop 15 (b ∷ us)) ≡ high_word (get_or us 15 0) % 0x100 ∷ high_word (get_or us 15 0) / 0x100 ∷ [] = ap paired_text (at-end (b ∷ us) 15 w.long) ∙ append-nil (paired_bytes (get_or us 14 0) (get_or us 15 0)) ∙ half-high (get_or us 14 0) (get_or us 15 0) from to in
        let split : paired_text (b ∷ us) ≡ lead ++ paired_text (drop 15 (b ∷ us)) = paired_text-split 15 (b ∷ us) (omega (arith, w.long)) in
        let two : length (paired_text (drop 15 (b ∷ us))) ≡ 2 = ap length back in
        let both : length (paired_text (b ∷ us)) ≡ length lead + 2 = ap length split ∙ length-append lead (paired_text (drop 15 (b ∷ us))) ∙ ap (λ n. length lead + n) two in
        let e : end ≡ at + length (paired_text (b ∷ us)) = len in
        let less : end - 2 ≡ at + length lead = omega (arith, len, both) in
        let cut_text : take (at + length lead) zs ≡ take at xs ++ take (length lead) (paired_text (b ∷ us)) = compressed-lead xs zs (paired_text (b ∷ us)) at (length (paired_text (b ∷ us))) (length lead) space (omega (arith, both)) (ap (λ n. take n zs) (sym e) ∙ stored) in
        let compressed : take (length lead) (paired_text (b ∷ us)) ≡ lead = ap (take (length lead)) split ∙ take-append_seam lead (paired_text (drop 15 (b ∷ us))) in
        let now : take (end - 2) zs ≡ take at xs ++ lead = ap (λ n. take n zs) less ∙ cut_text ∙ ap (λ x. take at xs ++ x) compressed in
        let not_high : ¬ ((0xd800 ≤ get_or us 14 0) × (get_or us 14 0 < 0xdc00)) = λ h. (let low = (w.pairs 14 (omega arith)).low h.0 h.1 in omega (arith, low.0, to)) in
        let paired : IsPairedList (take 15 us) = paired-lead b us 15 w (omega arith) (omega arith) not_high in
        let text : EncodedUnits (take 15 us) (take at xs) (take (end - 2) zs) = subst (λ t. EncodedUnits (take 15 us) (take at xs) t) (sym now) (paired-text b (take 15 us) (take at xs) paired) in
        let few : length lead ≤ 45 = omega (
          arith,
          paired_text-few (take 16 (b ∷ us)) (λ k. elim (cases_lt k 16) [
            | inl below ↦ rw (get_or-take 16 (b ∷ us) k 0 below) (w.fits k)
            | inr past ↦ rw (none-beyond (take 16 (b ∷ us)) k (omega (arith, past, length-take-le 16 (b ∷ us) (omega (arith, w.long))))) (omega arith)
          ]),
          length-take-le 16 (b ∷ us) (omega (arith, w.long)),
        ) in
        rw one (record { text = text; most = omega (arith, less, few); least = omega (arith, len, both) })

-- The two steps of eight units together.
pub window-paired_text : (ws s t v : List ℕ) → length ws ≡ 17 → t ≡ s ++ paired_text (take 9 ws) → v ≡ t ++ paired_text (take 9 (drop 8 ws)) → v ≡ s ++ paired_text ws
window-paired_text ws s t v long first second =
    let lead = paired_text (take 9 ws) in
    let rest : take 9 (drop 8 ws) ≡ drop 8 ws = take_all 9 (drop 8 ws) (omega (arith, length-drop 8 ws)) in
    let split : paired_text ws ≡ lead ++ paired_text (drop 8 ws) = paired_text-split 8 ws (omega arith) in
    second ∙ ap (λ x. t ++ paired_text x) rest ∙ ap (λ x. x ++ paired_text (drop 8 ws)) first ∙ append_assoc s lead (paired_text (drop 8 ws)) ∙ ap (λ x. s ++ x) (sym split)

-- ---- in SIMD lanes

pub half-packed : (b u f back : ℕ) → IsPairedLead b u f → back ≡ 0x80 + u % 0x40 → u < 0x10000 → packed_unit (paired_key u) f back ≡ paired_bytes b u
half-packed b u f back is is_back below = elim (cases_lt u 0xd800) [
  | inl low ↦ plain (λ from. absurd (omega arith)) (omega arith)
  | inr from ↦ elim (cases_lt u 0xdc00) [
    | inl to ↦ half (high_word u) (is.high from to) (omega arith) ∙ sym (half-high b u from to)
    | inr low ↦ elim (cases_lt u 0xe000) [
      | inl to ↦ half (low_word b u) (is.low low to) (omega arith) ∙ sym (half-low b u low to)
      | inr past ↦ plain (λ h. past) (omega arith)
    ]
  ]
]
  where
    half : (w : ℕ) → f ≡ w → u / 0x800 ≡ 27 → packed_unit (paired_key u) f back ≡ w % 0x100 ∷ w / 0x100 ∷ []
    half w e top = rw (top, e) refl

    plain : (0xd800 ≤ u → 0xe000 ≤ u) → u / 0x800 ≢ 27 → packed_unit (paired_key u) f back ≡ paired_bytes b u
    plain no_half apart =
        let key : paired_key u ≡ u = elim (eqb_tells (u / 0x800) 27) [ inl reported ↦ absurd (apart reported.1) | inr reported ↦ rw reported.0 refl ] in
        ap (λ k. packed_unit k f back) key ∙ packed-unit u f back (record { one = is.one; two = is.two; three = λ h. is.three h no_half }) is_back below ∙ sym (half-plain b u no_half)

packed-all : (ks fs bs ws : List ℕ) → length ws ≡ length ks + 1 → length fs ≡ length ks → length bs ≡ length ks → ((k : ℕ) → k < length ks → packed_unit (get_or ks k 0) (get_or fs k 0) (get_or bs k 0) ≡ paired_bytes (get_or ws k 0) (get_or ws (suc k) 0)) → packed ks fs bs ≡ paired_text ws
packed-all [] fs bs [] w f b all = absurd (omega arith)
packed-all [] fs bs (v ∷ []) w f b all = refl
packed-all [] fs bs (v ∷ u ∷ ws) w f b all = absurd (omega arith)
packed-all (k ∷ ks) [] bs ws w f b all = absurd (omega arith)
packed-all (k ∷ ks) (x ∷ fs) [] ws w f b all = absurd (omega arith)
packed-all (k ∷ ks) (x ∷ fs) (y ∷ bs) [] w f b all = absurd (omega arith)
packed-all (k ∷ ks) (x ∷ fs) (y ∷ bs) (v ∷ []) w f b all = absurd (omega arith)
packed-all (k ∷ ks) (x ∷ fs) (y ∷ bs) (v ∷ u ∷ ws) w f b all =
    let rest = packed-all ks fs bs (u ∷ ws) (omega arith) (omega arith) (omega arith) (λ i within. all (suc i) (omega arith)) in
    ap (λ z. z ++ packed ks fs bs) (all 0 (omega arith)) ∙ ap (λ z. paired_bytes v u ++ z) rest

pub packed-paired_text : (ws ks fs bs : List ℕ) → length ws ≡ 9 → length ks ≡ 8 → length fs ≡ 8 → length bs ≡ 8 → ((k : ℕ) → get_or ws k 0 < 0x10000) → ((k : ℕ) → k < 8 → get_or ks k 0 ≡ paired_key (get_or (take 8 (drop 1 ws)) k 0))
    → ((k : ℕ) → k < 8 → IsPairedLead (get_or (take 8 ws) k 0) (get_or (take 8 (drop 1 ws)) k 0) (get_or fs k 0)) → ((k : ℕ) → k < 8 → get_or bs k 0 ≡ 0x80 + get_or (take 8 (drop 1 ws)) k 0 % 0x40) → packed ks fs bs ≡ paired_text ws
packed-paired_text ws ks fs bs long long_keys long_prefixes long_backs fits keys leads backs = packed-all ks fs bs ws (omega arith) (omega arith) (omega arith) (λ k within. each k (omega arith))
  where
    each : (k : ℕ) → k < 8 → packed_unit (get_or ks k 0) (get_or fs k 0) (get_or bs k 0) ≡ paired_bytes (get_or ws k 0) (get_or ws (suc k) 0)
    each k within =
        let before : get_or (take 8 ws) k 0 ≡ get_or ws k 0 = get_or-take 8 ws k 0 within in
        let next : 1 + k ≡ suc k = omega arith in
        let here : get_or (take 8 (drop 1 ws)) k 0 ≡ get_or ws (suc k) 0 = get_or-chunk 1 8 ws k 0 within ∙ ap (λ i. get_or ws i 0) next in
        let key : get_or ks k 0 ≡ paired_key (get_or ws (suc k) 0) = keys k within ∙ ap paired_key here in
        let lead : IsPairedLead (get_or ws k 0) (get_or ws (suc k) 0) (get_or fs k 0) = subst (λ x. IsPairedLead (get_or ws k 0) x (get_or fs k 0)) here (subst (λ x. IsPairedLead x (get_or (take 8 (drop 1 ws)) k 0) (get_or fs k 0)) before (leads k within)) in
        let back : get_or bs k 0 ≡ 0x80 + get_or ws (suc k) 0 % 0x40 = backs k within ∙ ap (λ x. 0x80 + x % 0x40) here in
        ap (λ x. packed_unit x (get_or fs k 0) (get_or bs k 0)) key ∙ half-packed (get_or ws k 0) (get_or ws (suc k) 0) (get_or fs k 0) (get_or bs k 0) lead back (fits (suc k))

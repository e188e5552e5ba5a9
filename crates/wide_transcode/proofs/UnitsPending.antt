-- From units back to bytes: their text, and what stops it.
use Rattle.std.proofs.Common.{◌≡◌, ℕ, zero, suc, ◌*◌, ◌/◌, ◌%◌, ◌≤◌, false, inl, inr, List, [], ◌∷◌, ◌++◌, Option, Some, None, length, take, drop, refl, sym, ap, ◌∙◌, subst, arith, length-take, length-take-le}
use Rattle.wide_forms.specs.EncodingForm.{Utf16, IsLowSurrogate}
use Rattle.wide_bytes.specs.Bytes.{unit_in, units_in}
use Rattle.wide_bytes.specs.declared.order.BoM.{BoM}
use Rattle.wide_bytes.proofs.UnitLists.{units_in-take, units_in-drop, units_in-half}
use Rattle.wide_utf16_to_utf8.specs.Encoded.{BeginsWithFault, AreCutShort, EncodedUnits, StopsBefore}
use Rattle.wide_transcode.specs.Encoded.{IsCertainFault, IsIncompleteTail, StopsAt}
use Rattle.wide_transcode.specs.Lossied.{IsText, Lossied}
use Rattle.wide_transcode.proofs.Pending.{certain-low, certain-high}
use Rattle.wide_transcode.proofs.Lossied.{block-no_zero, text-flag, text-well}
use Rattle.wide_transcode.proofs.Certain.{valid-text}
use Rattle.wide_forms.specs.Items.{chars}
use Rattle.wide_forms.specs.Utf8.{utf8}
use Rattle.wide_transcode.proofs.Characters.{encoded-characters, few-encoded, text-of_encoded}
use Rattle.wide_forms.specs.Laws.Ends.{IsCut-after}
use Rattle.wide_forms.specs.declared.policy.Policy.TheVariants.{Each}
use Rattle.std.specs.Prelude.{nat_eq}
use Rattle.std.specs.List.{ends_with}

-- ---- text

pub shorter : (i j : ℕ) (us : List ℕ) → i ≤ j → take i (take j us) ≡ take i us
shorter zero j us h = refl
shorter (suc i) zero us h = absurd (omega arith)
shorter (suc i) (suc j) [] h = refl
shorter (suc i) (suc j) (u ∷ us) h = ap (λ vs. u ∷ vs) (shorter i j us (omega arith))

-- Characters are lossy text in which nothing is replaced.
pub encoded-bytes : (order : BoM) (bytes us text : List ℕ) (r n : ℕ) → us ≡ units_in order bytes → 2 * r ≤ length bytes → EncodedUnits (take r us) [] text → n ≡ length (chars Utf16 (take r us)) → (2 * r ≡ length bytes → ends_with nat_eq bytes (0 ∷ 0 ∷ []) ≡ false)
    → Lossied order Each (take (2 * r) bytes) (drop (2 * r) bytes) false [] false text × IsText (units_in order (take (2 * r) bytes)) n × (n ≤ r)
encoded-bytes order bytes us text r n same within e count none =
    let vs = units_in order (take (2 * r) bytes) in
    let prefix : take r us ≡ vs = ap (λ xs. take r xs) same ∙ sym (units_in-take order r bytes) in
    let is_text : IsText vs n = subst (λ xs. IsText xs n) prefix (subst (λ m. IsText (take r us) m) (sym count) (text-of_encoded (take r us) text e)) in
    let even : length (take (2 * r) bytes) % 2 ≡ 0 = omega (arith, length-take-le (2 * r) bytes within) in (
      record {
        even = even;
        text = e.text ∙ ap (λ cs. utf8 cs) (sym (encoded-characters (take r us) text e)) ∙ ap (λ xs. utf8 (chars Utf16 xs)) prefix ∙ valid-text Each false vs (text-well vs n is_text);
        flag = text-flag vs n is_text;
        cut = λ more. IsCut-after Utf16 vs (units_in order (drop (2 * r) bytes ++ more)) (text-well vs n is_text);
        no_zero = λ left. block-no_zero order bytes (2 * r) within even none left;
      },
      is_text,
      omega (arith, few-encoded (take r us) text e, count, length-take r us),
    )

-- ---- where encoding stops

cut-bytes : (order : BoM) (bytes : List ℕ) → AreCutShort (units_in order bytes) → IsIncompleteTail order bytes
unfolding units_in
cut-bytes order [] cut = tt
cut-bytes order (a ∷ []) cut = tt
cut-bytes order (a ∷ b ∷ []) cut = cut
cut-bytes order (a ∷ b ∷ c ∷ []) cut = cut
cut-bytes order (a ∷ b ∷ c ∷ d ∷ rest) cut = absurd cut

fault-bytes : (order : BoM) (bytes : List ℕ) (u : ℕ) → BeginsWithFault (units_in order bytes) u → IsCertainFault order bytes u
unfolding units_in
fault-bytes order [] u fault = let e : [] ≡ u ∷ fault.0 = fault.1 in absurd cc
fault-bytes order (a ∷ []) u fault = let e : [] ≡ u ∷ fault.0 = fault.1 in absurd cc
fault-bytes order (a ∷ b ∷ bytes) u (tail, same, inl low) = let is : unit_in order a b ≡ u = cc in certain-low order a b u bytes (sym is) low.0 (omega (arith, low.1))
fault-bytes order (a ∷ b ∷ []) u (tail, same, inr (high, l, back, is_tail, not_low)) = let e : [] ≡ l ∷ back = cc in absurd cc
fault-bytes order (a ∷ b ∷ c ∷ []) u (tail, same, inr (high, l, back, is_tail, not_low)) = let e : [] ≡ l ∷ back = cc in absurd cc
fault-bytes order (a ∷ b ∷ c ∷ d ∷ bytes) u (tail, same, inr (high, l, back, is_tail, not_low)) =
    let is : unit_in order a b ≡ u = cc in
    let is_l : unit_in order c d ≡ l = cc in
    certain-high order a b c d u l bytes (sym is) (sym is_l) high.0 (omega (arith, high.1)) (λ from. apart l not_low from)
  where
    apart : (l : ℕ) → ¬ (IsLowSurrogate Utf16 l) → 0xdc00 ≤ l → 0xe000 ≤ l
    apart l not_low from = grind (arith, not_low)

pub stops-bytes : (order : BoM) (bytes : List ℕ) (r n : ℕ) (fault : Option ℕ) → StopsBefore (drop r (take (n / 2) (units_in order bytes))) fault → StopsAt order (drop (2 * r) (take n bytes)) fault
stops-bytes order bytes r n None stop = cut-bytes order _ (subst AreCutShort (ap (drop r) (units_in-half order n bytes) ∙ sym (units_in-drop order r (take n bytes))) stop)
stops-bytes order bytes r n (Some u) stop = fault-bytes order _ u (subst (λ us. BeginsWithFault us u) (ap (drop r) (units_in-half order n bytes) ∙ sym (units_in-drop order r (take n bytes))) stop)

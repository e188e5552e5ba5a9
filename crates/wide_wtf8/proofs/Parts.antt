-- Units that are split into parts, so that no part ends within a surrogate pair.
use Rattle.std.proofs.Common.{◌≡◌, ℕ, suc, ◌+◌, ◌-◌, ◌<◌, ◌≤◌, List, [], ◌∷◌, ◌++◌, true, false, length, length-append, length-take-le, take, drop, refl, sym, ap, ◌∙◌, arith, append_assoc, get_or}
use Rattle.std.specs.Prelude.{◌&&◌}
use Rattle.std.proofs.lemmas.Bool.Decides.{nat_tests}
use Rattle.std.proofs.lemmas.List.{append-nil, drop_all, drop-drop, take_all, take-append-drop}
use Rattle.wide_forms.specs.EncodingForm.{Utf16, IsPair}
use Rattle.wide_forms.specs.Searches.{is_high, is_low}
use Rattle.wide_forms.specs.Laws.Forms.{pair16-parts}
use Rattle.wide_forms.specs.Laws.Items.{IsCut}
use Rattle.wide_schemes.specs.Wtf8.{wtf8}
use Rattle.wide_schemes.specs.Wtf8Laws.{wtf8-append, wtf8-nil}

-- The element after others.
after : (xs ys : List ℕ) (h : ℕ) → get_or (xs ++ h ∷ ys) (length xs) 0 ≡ h
after [] ys h = refl
after (x ∷ xs) ys h = after xs ys h

next : (xs ys : List ℕ) (h l : ℕ) → get_or (xs ++ h ∷ l ∷ ys) (suc (length xs)) 0 ≡ l
next [] ys h l = refl
next (x ∷ xs) ys h l = next xs ys h l

module _ (us : List ℕ) (n : ℕ) (within : n < length us) where
  -- No pair is split at an index if the units around it are no pair.
  cut-at : ¬ (IsPair Utf16 (get_or us (n - 1) 0) (get_or us n 0)) → IsCut Utf16 (take n us) (drop n us)
  cut-at apart prefix back h l e f pair =
      let long : length (take n us) ≡ n = length-take-le n us (omega (arith, within)) in
      let end : suc (length prefix) ≡ n = omega (arith, long, ap length e, length-append prefix (h ∷ [])) in
      let whole : us ≡ prefix ++ h ∷ l ∷ back = sym (take-append-drop n us) ∙ ap (λ xs. xs ++ drop n us) e ∙ append_assoc prefix (h ∷ []) (drop n us) ∙ ap (λ xs. prefix ++ h ∷ xs) f in
      let before : n - 1 ≡ length prefix = omega (arith, end) in
      let first : get_or us (n - 1) 0 ≡ h = ap (λ k. get_or us k 0) before ∙ ap (λ xs. get_or xs (length prefix) 0) whole ∙ after prefix (l ∷ back) h in
      let second : get_or us n 0 ≡ l = ap (λ k. get_or us k 0) (sym end) ∙ ap (λ xs. get_or xs (suc (length prefix)) 0) whole ∙ next prefix back h l in
      apart (rw (first, second) pair)

  pub part-whole : ¬ (IsPair Utf16 (get_or us (n - 1) 0) (get_or us n 0)) → wtf8 us ≡ wtf8 (take n us) ++ wtf8 (drop n us)
  part-whole apart = ap wtf8 (sym (take-append-drop n us)) ∙ wtf8-append (take n us) (drop n us) (cut-at apart)

-- The last unit of a part would be the first half of a pair, so the part ends before it.
pub part-before : (us : List ℕ) (most : ℕ) → most < length us → (is_high (get_or us (most - 1) 0) && is_low (get_or us most 0)) ≡ true → wtf8 us ≡ wtf8 (take (most - 1) us) ++ wtf8 (drop (most - 1) us)
part-before us most within split = part-whole us (most - 1) (omega (arith, within)) (λ pair. let low = (pair16-parts _ _ pair).1 in let a = low.from in let b = low.to in grind (arith, nat_tests))

pub part-at : (us : List ℕ) (most : ℕ) → most < length us → (is_high (get_or us (most - 1) 0) && is_low (get_or us most 0)) ≡ false → wtf8 us ≡ wtf8 (take most us) ++ wtf8 (drop most us)
part-at us most within apart =
    part-whole us most within (λ pair. let parts = pair16-parts _ _ pair in let a = parts.0.from in let b = parts.0.to in let c = parts.1.from in let d = parts.1.to in grind (arith, nat_tests))

pub part-all : (us : List ℕ) → wtf8 us ≡ wtf8 (take (length us) us) ++ wtf8 (drop (length us) us)
part-all us =
    let all : take (length us) us ≡ us = take_all (length us) us (omega arith) in
    let none : drop (length us) us ≡ [] = drop_all (length us) us (omega arith) in
    sym (ap (λ xs. wtf8 xs ++ wtf8 (drop (length us) us)) all ∙ ap (λ xs. wtf8 us ++ wtf8 xs) none ∙ ap (λ bs. wtf8 us ++ bs) wtf8-nil ∙ append-nil (wtf8 us))

-- No units are left.
pub all-written : (us : List ℕ) (read : ℕ) (whole before : List ℕ) → length us ≤ read → whole ≡ before ++ wtf8 (drop read us) → before ≡ whole
all-written us read whole before end so_far =
    sym (so_far ∙ ap (λ xs. before ++ wtf8 xs) (drop_all read us end) ∙ ap (λ bs. before ++ bs) wtf8-nil ∙ append-nil before)

pub none-left : (rest before whole : List ℕ) → length rest ≡ 0 → before ++ wtf8 rest ≡ whole → before ≡ whole
none-left [] before whole none so_far = sym (append-nil before) ∙ ap (λ bs. before ++ bs) (sym wtf8-nil) ∙ so_far
none-left (u ∷ rest) before whole none so_far = absurd (omega (arith, none))

-- A part of what is left, and the parts before it.
pub next-part : (whole before part : List ℕ) (us : List ℕ) (read step : ℕ) → whole ≡ before ++ wtf8 (drop read us) → wtf8 (drop read us) ≡ part ++ wtf8 (drop step (drop read us)) → whole ≡ (before ++ part) ++ wtf8 (drop (read + step) us)
next-part whole before part us read step so_far here =
    so_far ∙ ap (λ bs. before ++ bs) here ∙ sym (append_assoc before part (wtf8 (drop step (drop read us)))) ∙ ap (λ xs. (before ++ part) ++ wtf8 xs) (drop-drop step read us)

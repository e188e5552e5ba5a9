-- The number of characters in well-formed units.
use Rattle.std.proofs.Common.{◌≡◌, ℕ, zero, suc, ◌+◌, ◌-◌, ◌*◌, ◌/◌, ◌<◌, Bool, List, refl, ◌∙◌, ap, subst, arith, cond, get_or, take, drop, length, count_by, zero-mul}
use Rattle.std.proofs.lemmas.List.Sums.{sum_by-append, sum_by-take-drop}
use Rattle.std.proofs.Math.Seq.{take-add}
use Rattle.std.proofs.lemmas.Grind.{common_steps}
use Rattle.std.specs.Simd.{first_chunks}
use Rattle.wide_forms.specs.EncodingForm.{Utf16, encode}
use Rattle.wide_forms.specs.Items.{chars, IsWellFormed}
use Rattle.wide_forms.specs.Searches.{is_low}
use Rattle.wide_forms.specs.Laws.Offsets.{scalars-chars, encode-chars}
use Rattle.wide_forms.specs.Laws.LowSurrogates.{low-encode}

pub length-chars16 : (us : List ℕ) → IsWellFormed Utf16 us → length us - count_by is_low us ≡ length (chars Utf16 us)
length-chars16 us well =
    let cs = chars Utf16 us in
    let counted : count_by is_low (encode Utf16 cs) + length cs ≡ length (encode Utf16 cs) = low-encode cs (scalars-chars Utf16 us well) in
    let here : count_by is_low us + length cs ≡ length us = subst (λ vs. count_by is_low vs + length cs ≡ length vs) (encode-chars Utf16 us well) counted in
    omega (arith, here)

-- ---- counted block by block

-- Block i of the first n blocks is a slice of the list.
pub block_at : {X : Type 0} (n : ℕ) (k i : ℕ) (xs : List X) (d : List X) → i < k → get_or (first_chunks n k xs) i d ≡ take n (drop (i * n) xs)
block_at n zero i xs d l = absurd (omega arith)
block_at n (suc k) zero xs d l = rw zero-mul refl
block_at n (suc k) (suc i) xs d l =
    let h = block_at n k i (drop n xs) d (omega arith) in
    let e : drop (i * n) (drop n xs) ≡ drop (suc i * n) xs = grind (arith, common_steps) in
    h ∙ ap (take n) e

module _ (p : ℕ → Bool) (n : ℕ) (us : List ℕ) (blocks : List (List ℕ)) (prefix : blocks ≡ first_chunks n (length us / n) us) (count : length blocks ≡ length us / n) where
  -- What is counted up to the end of a block is what is counted before it and in it.
  pub count-block : (i : ℕ) (d : List ℕ) (so_far found : ℕ) → i < length blocks → so_far ≡ count_by p (take (i * n) us) → found ≡ count_by p (get_or blocks i d) → so_far + found ≡ count_by p (take ((i + 1) * n) us)
  count-block i d so_far found l before here =
      let block : get_or blocks i d ≡ take n (drop (i * n) us) = ap (λ bs. get_or bs i d) prefix ∙ block_at n (length us / n) i us d (omega (arith, count, l)) in
      let next : (i + 1) * n ≡ i * n + n = grind arith in
      omega (
        arith,
        before,
        here,
        ap (count_by p) block,
        sum_by-append (λ u. cond (p u) 1 0) (take (i * n) us) (take n (drop (i * n) us)),
        ap (count_by p) (take-add (i * n) n us),
        ap (λ m. count_by p (take m us)) next,
      )

  -- What is counted in a list is what is counted in a prefix and in the rest.
  pub count-all : (m : ℕ) (back : List ℕ) → back ≡ drop m us → count_by p (take m us) + count_by p back ≡ count_by p us
  count-all m back e = ap (λ vs. count_by p (take m us) + count_by p vs) e ∙ sum_by-take-drop (λ u. cond (p u) 1 0) us m

-- Writing a list into a buffer, chunk by chunk. Elements are counted whether they fit or not.
use Rattle.std.proofs.Common.{◌≡◌, ◌==◌, Bool, true, ◌≤◌, ◌+◌, ◌-◌, ◌^◌, ◌++◌, ℕ, List, [], refl, ap, arith, sym, ◌∙◌, length, map, take, drop, subst, length-append, append-nil, append_assoc}
use Rattle.std.proofs.lemmas.List.{drop-drop, length-map, map-append, take-map}
use Rattle.std.proofs.lemmas.Bool.Decides.{nat_tests}
use Rattle.std.specs.Prelude.{min}

-- State while `all` is put after the first `from` elements of `first`: `at` is the offset reached, `left` is the rest
-- of `all`, and what was counted is written as long as it fits.
pub record Puts (first : List ℕ) (from : ℕ) (all : List ℕ) (at : ℕ) (out left : List ℕ) : Type 0 where
  pub most : at ≤ 2 ^ 64 - 1
  pub counted : min (at + length left) (2 ^ 64 - 1) ≡ min (from + length all) (2 ^ 64 - 1)
  pub written : at ≤ length out → take at out ++ left ≡ take from first ++ all

-- State while a list is put at the start of a buffer.
abbrev pub Writing : List ℕ → ℕ → List ℕ → List ℕ → Type 0
Writing all at out left = Puts [] 0 all at out left

module _ (first : List ℕ) (from : ℕ) (all : List ℕ) where
  pub nothing_yet : from ≤ 2 ^ 64 - 1 → Puts first from all from first all
  nothing_yet fits = record { most = fits; counted = refl; written = λ fits. refl }

  module _ (old new bs rest : List ℕ) (at end : ℕ) where
    pub one_more : Puts first from all at old (bs ++ rest) → end ≡ min (at + length bs) (2 ^ 64 - 1) → (end ≤ length old → take end new ≡ take at old ++ bs) → length new ≡ length old → Puts first from all end new rest
    one_more w offset text space =
        let longer : length (bs ++ rest) ≡ length bs + length rest = length-append bs rest in
        record {
          most = omega (arith, offset);
          counted = omega (arith, w.most, w.counted, offset, longer);
          written = λ fits.
              ap (λ xs. xs ++ rest) (text (omega (arith, fits, space))) ∙ append_assoc (take at old) bs rest ∙ w.written (omega (arith, fits, space, offset, w.most));
        }

    -- One more chunk was put, where the chunk and the rest are given as a division of what was left.
    pub next_part : (left : List ℕ) → left ≡ bs ++ rest → Puts first from all at old left → end ≡ min (at + length bs) (2 ^ 64 - 1) → (end ≤ length old → take end new ≡ take at old ++ bs) → length new ≡ length old → Puts first from all end new rest
    next_part left parts w offset text space = one_more (subst (λ (us : List ℕ). Puts first from all at old us) parts w) offset text space

  pub counted_all : (out : List ℕ) (at : ℕ) → Puts first from all at out [] → at ≡ min (from + length all) (2 ^ 64 - 1)
  counted_all out at w = omega (arith, w.most, w.counted)

  pub written_all : (out : List ℕ) (at : ℕ) → Puts first from all at out [] → at ≤ length out → take at out ≡ take from first ++ all
  written_all out at w fits = sym (append-nil (take at out)) ∙ w.written fits

  pub counted_end : (out left : List ℕ) (at : ℕ) → left ≡ [] → Puts first from all at out left → at ≡ min (from + length all) (2 ^ 64 - 1)
  counted_end out left at none w = counted_all out at (subst (λ (us : List ℕ). Puts first from all at out us) none w)

  pub written_end : (out left : List ℕ) (at : ℕ) → left ≡ [] → Puts first from all at out left → at ≤ length out → take at out ≡ take from first ++ all
  written_end out left at none w fits = written_all out at (subst (λ (us : List ℕ). Puts first from all at out us) none w) fits

-- A slice that `is_empty` calls empty has no elements.
pub is_none : (n : ℕ) (empty : Bool) → empty ≡ (n == 0) → empty ≡ true → n ≡ 0
is_none n empty is holds = grind (arith, nat_tests)

pub shorter : {X Y : Type 0} (old : List X) (new : List Y) (n : ℕ) → n ≤ length old → length new ≡ length old → n ≤ length new
shorter old new n fits same = omega (arith, fits, same)

-- One more chunk of elements that stand for numbers.
module _ {X : Type 0} (number : X → ℕ) where
  pub one_more_by : (first : List ℕ) (from : ℕ) (all : List ℕ) (old new : List X) (bs rest : List ℕ) (at end : ℕ) → Puts first from all at (map number old) (bs ++ rest) → end ≡ min (at + length bs) (2 ^ 64 - 1) → (end ≤ length old → map number (take end new) ≡ map number (take at old) ++ bs) → length new ≡ length old → Puts first from all end (map number new) rest
  one_more_by first from all old new bs rest at end w offset text space =
      one_more first from all (map number old) (map number new) bs rest at end w offset
      (λ fits. take-map number end new ∙ text (omega (arith, fits, length-map old number)) ∙ ap (λ xs. xs ++ bs) (sym (take-map number at old)))
      (omega (arith, space, length-map new number, length-map old number))

  pub one_more_of : (first : List ℕ) (from : ℕ) (all : List ℕ) (old new bs : List X) (rest : List ℕ) (at end : ℕ) → Puts first from all at (map number old) (map number bs ++ rest) → end ≡ min (at + length bs) (2 ^ 64 - 1) → (end ≤ length old → take end new ≡ take at old ++ bs) → length new ≡ length old → Puts first from all end (map number new) rest
  one_more_of first from all old new bs rest at end w offset text space =
      one_more_by first from all old new (map number bs) rest at end w (omega (arith, offset, length-map bs number)) (λ fits. ap (map number) (text fits) ∙ map-append number (take at old) bs) space

  pub written_all_of : (first : List X) (from : ℕ) (all : List ℕ) (out : List X) (at : ℕ) → Puts (map number first) from all at (map number out) [] → at ≤ length out → map number (take at out) ≡ map number (take from first) ++ all
  written_all_of first from all out at w fits =
      sym (take-map number at out) ∙ written_all (map number first) from all (map number out) at w (omega (arith, fits, length-map out number)) ∙ ap (λ xs. xs ++ all) (take-map number from first)

pub nothing_written : (all out : List ℕ) → Writing all 0 out all
nothing_written all out = record { most = omega arith; counted = omega arith; written = λ fits. refl }

pub counted_prefix : (all out : List ℕ) (at : ℕ) → Writing all at out [] → at ≡ min (length all) (2 ^ 64 - 1)
counted_prefix all out at w = omega (arith, counted_all [] 0 all out at w)

-- The elements after the offset are unchanged after one more chunk.
pub after_more : {X : Type 0} (first old new : List X) (more at end : ℕ) → at ≤ 2 ^ 64 - 1 → end ≡ min (at + more) (2 ^ 64 - 1) → drop at old ≡ drop at first → drop end new ≡ drop end old → drop end new ≡ drop end first
after_more first old new more at end most offset before put =
    let sum : at + (end - at) ≡ end = omega (arith, offset, most) in
    put ∙ subst (λ e. drop e old ≡ drop e first) sum (sym (drop-drop (end - at) at old) ∙ ap (drop (end - at)) before ∙ drop-drop (end - at) at first)

-- The new text after an edit that replaced few characters by few.
use Rattle.std.proofs.Common.{◌≡◌, ℕ, ◌+◌, ◌-◌, ◌≤◌, ◌<◌, List, ap, ◌∙◌, arith, length, map}
use Rattle.std.specs.Prelude.{slice_range}
use Rattle.wide_forms.specs.EncodingForm.{Utf16}
use Rattle.wide_forms.specs.Items.{chars, IsWellFormed}
use Rattle.wide_forms.specs.Offsets.{IsCharRange}
use Rattle.wide_forms.specs.Laws.Encodings.{offsets-grow}
use Rattle.wide_offset_index.specs.Marks.{offset, IsEdited}
use Rattle.wide_offset_index.specs.Passed.{units_put, IsFew}
use Rattle.wide_offset_index.specs.declared.shifting.Range16.{Range16}
use Rattle.wide_offset_index.proofs.Lengths.{size-take}
use Rattle.wide_offset_index.proofs.Marking.{well-formed, whole-size, few-characters}
use Rattle.wide_offset_index.proofs.Passes.{put-units}
use Rattle.wide_offset_index.proofs.Substrings.{part-range, part-count}

module _ (us : List ℕ) (shown : IsWellFormed Utf16 (map (λ u. u) us)) (count units len : ℕ) (range : Range16) (edited : IsEdited (chars Utf16 us) count units range.from range.to range.start range.end) (long : len ≡ length us) where
  abbrev cs : List ℕ
  cs = chars Utf16 us

  abbrev last : ℕ
  last = length cs + range.to - count

  abbrev stop : ℕ
  stop = len - (units - range.end)

  well : IsWellFormed Utf16 us
  well = well-formed us shown

  stops : stop ≡ offset cs last
  stops = omega (arith, edited.ends, long, whole-size us well, size-take Utf16 cs last)

  in-order : range.from ≤ last
  in-order = omega (arith, edited.fits)

  pub end-within : range.end ≤ units
  end-within = omega (arith, edited.ends, size-take Utf16 cs last)

  pub stop-within : units - range.end ≤ len
  stop-within = omega (arith, edited.ends, long, whole-size us well)

  pub start-within : range.start ≤ stop
  start-within = omega (arith, stops, edited.starts, offsets-grow Utf16 cs range.from last in-order)

  pub new-part : IsCharRange Utf16 (map (λ u. u) us) range.start stop
  new-part = part-range us well range.from last range.start stop in-order edited.starts stops

  pub put-is : stop - range.start ≡ units_put us units range
  put-is = ap (λ n. n - (units - range.end) - range.start) long ∙ put-units us well count units range edited

  pub all-read : (before after : ℕ) → after ≡ before + (stop - range.start) → after ≡ before + units_put us units range
  all-read before after e = e ∙ ap (λ n. before + n) put-is

  pub not-many : stop - range.start ≤ 62 → 62 < units_put us units range → ⊥
  not-many few many = omega (arith, few, many, put-is)

  module _ (view : List ℕ) (cut : view ≡ slice_range us range.start stop) (added : ℕ) (counts : added ≡ length (chars Utf16 (map (λ u. u) view))) where
    added-is : added ≡ last - range.from
    added-is = counts ∙ ap (λ vs. length (chars Utf16 (map (λ u. u) vs))) cut ∙ part-count us well range.from last range.start stop in-order edited.starts stops (omega (arith, edited.within))

    pub total-is : count - (range.to - range.from) + added ≡ length cs
    total-is = omega (arith, added-is, edited.forward, edited.within, edited.fits)

    pub total-within : count - (range.to - range.from) + added ≤ len
    total-within = omega (arith, total-is, few-characters Utf16 cs, whole-size us well, long)

    pub not-few : 31 < added → IsFew us count units range → ⊥
    not-few many few = omega (arith, few.added, many, added-is, edited.forward, edited.within, edited.fits)

    pub are-few : range.to - range.from ≤ 31 → stop - range.start ≤ 62 → added ≤ 31 → IsFew us count units range
    are-few gone put new = record {
      short = record { removed = omega (arith, gone); put = omega (arith, put, put-is) };
      added = omega (arith, added-is, new, edited.forward, edited.within, edited.fits);
    }

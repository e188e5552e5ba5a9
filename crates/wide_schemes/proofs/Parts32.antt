-- Parts of UTF-32 that are decoded: scalar values, and what follows them.
use Rattle.std.proofs.Common.{◌≡◌, ℕ, ◌+◌, ◌-◌, ◌*◌, ◌<◌, ◌≤◌, List, [], ◌++◌, Bool, false, length, length-drop, length-take-le, map, take, drop, refl, sym, ap, ◌∙◌, subst, arith, append_assoc}
use borrow.Rule.Slice.PartMut.{put_mid}
use Rattle.std.specs.Char.{IsScalar}
use Rattle.std.specs.List.{All}
use Rattle.std.proofs.Math.Seq.{take-add}
use Rattle.std.proofs.lemmas.List.{take-append-drop, take-take, take_rest}
use Rattle.std.proofs.lemmas.List.Concat.{flat_map-append}
use Rattle.std.proofs.lemmas.List.Elements.{All-nil}
use Rattle.wide_forms.specs.EncodingForm.{Utf16, Utf32 as Utf32Form, code_units, encode}
use Rattle.wide_forms.specs.Items.{IsWellFormed, items}
use Rattle.wide_forms.specs.Segmentation.{Char}
use Rattle.wide_forms.specs.Laws.Items.{items-encode, items-nil}
use Rattle.wide_forms.specs.Laws.Offsets.{IsWellFormed-encode}
use Rattle.wide_forms.specs.Laws.Utf32.{encode32, items32-append, items32-fault}
use Rattle.wide_unit.specs.CodePoints.{code_points}
use Rattle.wide_utf16_to_utf8.proofs.UnitEncodings.{all-append}
use Rattle.wide_bytes.specs.declared.order.BoM.{BoM}
use Rattle.wide_schemes.specs.Decoded.{BeginsWithNoScalar, IsScalarPart}
use Rattle.wide_schemes.specs.Layouts.{BeginsWithFault, Decodes, IsIncomplete, units32_in}
use Rattle.wide_schemes.specs.declared.layout.Layout.TheVariants.{Utf32}
use Rattle.wide_schemes.proofs.Puts.{put-at}
use Rattle.wide_schemes.proofs.TextPrefixes.{codes-of_chars}
use Rattle.wide_schemes.proofs.Units32.{units32_in-append, units32_in-first, units32_in-short, units32_in-take}

module _ (order : BoM) (bytes : List ℕ) where
  -- No bytes have no units.
  pub part-none : IsScalarPart order bytes 0 []
  part-none =
      let none : [] ≡ units32_in order (take 0 bytes) = sym (units32_in-short order (take 0 bytes) (omega arith)) in
      record {
        count = 0;
        whole = refl;
        within = omega arith;
        scalars = subst (All IsScalar) none (All-nil IsScalar);
        units = ap (encode Utf16) none;
      }

  -- A part, and a part of what is left after it.
  pub part-then : (n m : ℕ) (us vs : List ℕ) → IsScalarPart order bytes n us → IsScalarPart order (drop n bytes) m vs → IsScalarPart order bytes (n + m) (us ++ vs)
  part-then n m us vs one other =
      let cs = units32_in order (take n bytes) in
      let ds = units32_in order (take m (drop n bytes)) in
      let both : units32_in order (take (n + m) bytes) ≡ cs ++ ds =
      ap (units32_in order) (take-add n m bytes) ∙ units32_in-append order one.count (take n bytes) (take m (drop n bytes)) (length-take-le n bytes one.within ∙ one.whole) in
      record {
        count = one.count + other.count;
        whole = omega (arith, one.whole, other.whole);
        within = omega (arith, one.within, other.within, length-drop n bytes);
        scalars = subst (All IsScalar) (sym both) (all-append IsScalar cs ds one.scalars other.scalars);
        units = ap (λ xs. xs ++ vs) one.units ∙ ap (λ xs. encode Utf16 cs ++ xs) other.units ∙ sym (ap (encode Utf16) both ∙ flat_map-append (code_units Utf16) cs ds);
      }

  -- A part that was decoded after another one.
  pub part-put : (n w m v : ℕ) (units new : List ℕ) → w ≤ length units → v ≤ length new → IsScalarPart order bytes n (take w units) → IsScalarPart order (take (length bytes - n) (drop n bytes)) m (take v new)
      → IsScalarPart order bytes (n + m) (take (w + v) (put_mid w (length units - w) units new))
  part-put n w m v units new within few one other =
      let both = part-then n m (take w units) (take v new) one (subst (λ xs. IsScalarPart order xs m (take v new)) (take_rest bytes n) other) in
      subst (IsScalarPart order bytes (n + m)) (put-at units new w v (length units - w) within few) both

  -- The first units of a block of units.
  pub part-of_block : (codes us : List ℕ) (count r : ℕ) → 4 * count ≤ length bytes → r ≤ count → codes ≡ units32_in order (take (4 * count) bytes) → All IsScalar (take r codes) → us ≡ encode Utf16 (take r codes) → IsScalarPart order bytes (4 * r) us
  part-of_block codes us count r within some filled scalars made =
      let same : take r codes ≡ units32_in order (take (4 * r) bytes) =
      ap (take r) filled ∙ sym (units32_in-take order r (take (4 * count) bytes)) ∙ ap (units32_in order) (take-take (4 * r) (4 * count) bytes (omega arith)) in
      record {
        count = r;
        whole = refl;
        within = omega arith;
        scalars = subst (All IsScalar) same scalars;
        units = made ∙ ap (encode Utf16) same;
      }

  module _ (n : ℕ) (us : List ℕ) (part : IsScalarPart order bytes n us) where
    cs : List ℕ
    cs = units32_in order (take n bytes)

    characters : items Utf32Form cs ≡ map Char cs
    unfolding cs
    characters = ap (items Utf32Form) (sym (encode32 cs)) ∙ items-encode Utf32Form cs part.scalars

    decoded : code_points Utf16 us ≡ cs
    unfolding cs
    decoded = codes-of_chars us cs (ap (items Utf16) part.units ∙ items-encode Utf16 cs part.scalars)

    -- The units are those of the bytes that were read.
    pub part-decodes : (last : Bool) → Decodes (Utf32 order) false false bytes last n us false
    unfolding cs
    part-decodes last more may =
        let cut : bytes ++ more ≡ take n bytes ++ (drop n bytes ++ more) = ap (λ xs. xs ++ more) (sym (take-append-drop n bytes)) ∙ append_assoc (take n bytes) (drop n bytes) more in
        let rest = units32_in order (drop n bytes ++ more) in
        ap (λ xs. items Utf32Form (units32_in order xs)) cut ∙ ap (items Utf32Form) (units32_in-append order part.count (take n bytes) (drop n bytes ++ more) (length-take-le n bytes part.within ∙ part.whole))
        ∙ items32-append cs rest ∙ ap (λ is. is ++ items Utf32Form rest) (characters ∙ ap (map Char) (sym decoded))

    pub part-well_formed : IsWellFormed Utf16 us
    unfolding cs
    part-well_formed = subst (IsWellFormed Utf16) (sym part.units) (IsWellFormed-encode Utf16 cs part.scalars)

  -- A unit that is no scalar value is a fault.
  pub no_scalar-begins : (last : Bool) (u : ℕ) → BeginsWithNoScalar order bytes u → BeginsWithFault (Utf32 order) false false bytes last u 4
  no_scalar-begins last u begins = record {
    some = omega arith;
    within = begins.within;
    whole = omega arith;
    first = λ more may. ap (items Utf32Form) (units32_in-first order bytes more u begins.within begins.is) ∙ items32-fault u (units32_in order (drop 4 bytes ++ more)) begins.no_scalar;
  }

  -- Part of a unit is incomplete.
  pub part-incomplete : (last : Bool) → 0 < length bytes → length bytes < 4 → IsIncomplete (Utf32 order) false false bytes last
  part-incomplete last some few = record {
    some = some;
    few = few;
    beginning = few;
    no_item = λ end. ap (items Utf32Form) (units32_in-short order bytes few) ∙ items-nil Utf32Form;
    part = λ end. few;
  }

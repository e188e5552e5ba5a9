use Rattle.std.proofs.Common.{◌≡◌, ◌++◌, ap, sym, ◌∙◌, length, take, drop, subst, arith}
use Rattle.std.proofs.lemmas.List.{map-id}
use Rattle.wide_forms.specs.EncodingForm.{Utf16}
use Rattle.wide_forms.specs.Items.{IsWellFormed, chars}
use Rattle.wide_utfstr.proofs.SameChunks.{same_scalars, same_after, scalars_chunk, no_chars, no_longer_same, same_at_end}
use Rattle.wide_utfstr.proofs.compare.same_text.Goals as goal

pub chunks-init : goal.chunks-init
chunks-init c = record {
  well_formed = subst (λ us. IsWellFormed Utf16 us) (map-id c.as_slice-units.result.now) c.as_slice-units.ensures.well_formed;
  same = same_scalars _ _ c.as_slice-units.result.now c.as_slice-scalars.result.now c.as_slice-units.ensures.units c.as_slice-scalars.ensures.units c.as_slice-scalars.ensures.well_formed;
}

pub between_forms_prefix-read-requires-clause-well_formed : goal.between_forms_prefix-read-requires-clause-well_formed
between_forms_prefix-read-requires-clause-well_formed c = subst (λ us. IsWellFormed Utf16 us) (sym (map-id c.chunks.units.now)) c.chunks.invariant.well_formed

pub returns-in_default : goal.returns-in_default
returns-in_default c =
    let more = c.between_forms_prefix-read in
    let chunk = take more.result.written more.new.out in
    let left = drop more.result.read c.chunks.units.now in
    no_longer_same (chars Utf16 c.chunks.units.now) c.chunks.scalars.now c.chunks.invariant.same chunk (chars Utf16 left) (scalars_chunk c.chunks.units.now left chunk more.ensures.units) c.in_default.ensures.cases

pub chunks-preserved : goal.chunks-preserved
chunks-preserved c =
    let more = c.between_forms_prefix-read in
    let chunk = take more.result.written more.new.out in
    let left = c.split_at.ensures.back in
    let text = scalars_chunk c.chunks.units.now (drop more.result.read c.chunks.units.now) chunk more.ensures.units in
    record {
      well_formed = rw left (subst (λ us. IsWellFormed Utf16 us) (map-id (drop more.result.read c.chunks.units.now)) more.ensures.rest);
      same = same_after (chars Utf16 c.chunks.units.now) c.chunks.scalars.now c.chunks.invariant.same chunk (chars Utf16 c.split_at.result.1.now) c.in-Some.rest.now
          (text ∙ ap (λ us. chunk ++ chars Utf16 us) (sym left)) c.in-Some.ensures.cases.0 c.in-Some.ensures.cases.1;
    }

pub returns : goal.returns
returns c =
    let none : length c.chunks.units.now ≡ 0 = grind (arith, c.is_empty.ensures, c.chunks-test.false) in
    same_at_end (chars Utf16 c.chunks.units.now) c.chunks.scalars.now c.chunks.invariant.same c.is_empty-2.result (no_chars c.chunks.units.now none) c.is_empty-2.ensures

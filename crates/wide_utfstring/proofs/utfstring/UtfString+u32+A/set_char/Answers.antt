use Rattle.std.proofs.Common.{◌≡◌, ◌<◌, length, length-set, map, set, ap, sym, subst, ◌∙◌}
use Rattle.std.proofs.lemmas.List.{map-id}
use Rattle.wide_forms.specs.EncodingForm.{Utf32}
use Rattle.wide_forms.specs.Items.{chars, IsWellFormed}
use Rattle.wide_utfstring.proofs.Units32.{well32, set-well_formed, set-chars, refill_all}
use Rattle.wide_utfstring.proofs.utfstring.UtfString+u32+A.set_char.Goals as goal

pub invariant_of-self : goal.invariant_of-self
invariant_of-self g c =
    let xs = c.self.inside.string.units in
    let well = well32 xs c.self.invariant in
    let written : set c.as_mut_slice.result.now c.args.index c.from.result ≡ set xs c.args.index c.args.c = ap (λ us. set us c.args.index c.from.result) c.as_mut_slice.ensures.value ∙ ap (set xs c.args.index) c.from.ensures in
    let long : length (set c.as_mut_slice.result.now c.args.index c.from.result) ≡ length xs = ap length written ∙ length-set xs c.args.index c.args.c in
    let new = refill_all xs (set c.as_mut_slice.result.now c.args.index c.from.result) long ∙ written in
    let within : c.args.index < length xs = rw (← c.self.view_is) at c.requires in
    subst (λ us. IsWellFormed Utf32 us) (sym (ap (map (λ u. u)) new ∙ map-id (set xs c.args.index c.args.c))) (set-well_formed xs well c.args.index c.args.c within c.ranges.c.0)

pub returns-clause-text : goal.returns-clause-text
returns-clause-text g c =
    let xs = c.self.inside.string.units in
    let well = well32 xs c.self.invariant in
    let written : set c.as_mut_slice.result.now c.args.index c.from.result ≡ set xs c.args.index c.args.c = ap (λ us. set us c.args.index c.from.result) c.as_mut_slice.ensures.value ∙ ap (set xs c.args.index) c.from.ensures in
    let long : length (set c.as_mut_slice.result.now c.args.index c.from.result) ≡ length xs = ap length written ∙ length-set xs c.args.index c.args.c in
    let new = refill_all xs (set c.as_mut_slice.result.now c.args.index c.from.result) long ∙ written in
    let within : c.args.index < length xs = rw (← c.self.view_is) at c.requires in
    rw (← c.self.view_is) (ap (chars Utf32) new ∙ set-chars xs well c.args.index c.args.c within c.ranges.c.0)

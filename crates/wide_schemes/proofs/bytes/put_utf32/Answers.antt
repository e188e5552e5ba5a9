use Rattle.std.proofs.Common.{◌≡◌, ◌+◌, ◌-◌, ◌*◌, ◌≤◌, ◌++◌, ◌∙◌, [], length, length-drop, length-take, take, drop, ap, sym, arith, append_assoc}
use borrow.Rule.Slice.PartMut.{put_mid}
use Rattle.std.proofs.lemmas.List.{append-nil, drop_all}
use Rattle.wide_forms.specs.EncodingForm.{Utf16}
use Rattle.wide_forms.specs.Items.{chars}
use Rattle.wide_forms.specs.Laws.Splices.{chars-nil}
use Rattle.wide_schemes.specs.Layouts.{bytes32_in}
use Rattle.wide_schemes.proofs.Bytes32.{IsConverted, bytes32-append, bytes32-nil, converted}
use Rattle.wide_schemes.proofs.Puts.{put-at, put-length}
use Rattle.wide_schemes.proofs.bytes.put_utf32.Goals as goal

pub put_block_32-written-requires : goal.put_block_32-written-requires
put_block_32-written-requires c =
    let us = c.args.units.now in
    let n = c.loop-read.read in
    let w = c.loop-read.written in
    let out = c.loop-read.out in
    let step = c.between_forms_prefix-step in
    let made = take step.result.written step.new.out in
    let part : IsConverted us made n step.result.read = converted us made n step.result.read c.loop-read.invariant.rest step.ensures.read step.ensures.rest step.ensures.units in
    omega (arith, part.few, step.ensures.read, c.requires.space, c.loop-read.invariant.room, c.loop-read.invariant.long, c.loop-read.invariant.within, length-take (length us - n) (drop n us), length-drop n us, length-take (length out - w) (drop w out), length-drop w out)

pub loop-read-preserved : goal.loop-read-preserved
loop-read-preserved c =
    let us = c.args.units.now in
    let order = c.args.order in
    let n = c.loop-read.read in
    let w = c.loop-read.written in
    let out = c.loop-read.out in
    let step = c.between_forms_prefix-step in
    let put = c.put_block_32-written in
    let made = take step.result.written step.new.out in
    let left = chars Utf16 (drop (n + step.result.read) us) in
    let part : IsConverted us made n step.result.read = converted us made n step.result.read c.loop-read.invariant.rest step.ensures.read step.ensures.rest step.ensures.units in
    let here : length put.new.out ≡ length out - w = omega (arith, put.auto.out, length-take (length out - w) (drop w out), length-drop w out) in
    let made_long : put.result ≡ 4 * length made = put.ensures.written in
    let fits : length us - n + n ≡ length us = omega (arith, c.loop-read.invariant.within) in
    let within : n + step.result.read ≤ length us = omega (arith, step.ensures.read, fits, length-take (length us - n) (drop n us), length-drop n us) in
    let space : w ≤ length out = omega (arith, c.loop-read.invariant.room, c.loop-read.invariant.long, c.requires.space, within) in
    let few : put.result ≤ length put.new.out = omega (arith, made_long, part.few, here, c.loop-read.invariant.room, c.loop-read.invariant.long, c.requires.space, within) in
    let same : take w out ++ take put.result put.new.out ≡ take (w + put.result) (put_mid w (length out - w) out put.new.out) = put-at out put.new.out w put.result (length out - w) space few in
    let long : length (put_mid w (length out - w) out put.new.out) ≡ length out = put-length out put.new.out w (length out - w) (omega (arith, space)) here in
    record {
      within = within;
      block = omega (arith, c.loop-read.invariant.block, step.auto.out);
      room = omega (arith, made_long, part.few, c.loop-read.invariant.room);
      long = omega (arith, long, c.loop-read.invariant.long);
      text = c.loop-read.invariant.text ∙ ap (λ cs. take w out ++ bytes32_in order cs) part.text ∙ ap (λ bs. take w out ++ bs) (bytes32-append order made left)
          ∙ sym (append_assoc (take w out) (bytes32_in order made) (bytes32_in order left)) ∙ ap (λ bs. (take w out ++ bs) ++ bytes32_in order left) (sym put.ensures.text) ∙ ap (λ bs. bs ++ bytes32_in order left) same;
      rest = part.rest;
    }

pub returns-clause-text : goal.returns-clause-text
returns-clause-text c =
    let us = c.args.units.now in
    let order = c.args.order in
    let before = take c.loop-read.written c.loop-read.out in
    let none : chars Utf16 (drop c.loop-read.read us) ≡ [] = ap (chars Utf16) (drop_all c.loop-read.read us (omega (arith, c.loop-read-test.false))) ∙ chars-nil Utf16 in
    sym (c.loop-read.invariant.text ∙ ap (λ bs. before ++ bs) (ap (bytes32_in order) none ∙ bytes32-nil order) ∙ append-nil before)

use Rattle.std.proofs.Common.{◌++◌, ◌∙◌, ap, arith, take}
use Rattle.wide_utf16_to_utf8.proofs.PairedTexts.{packed-paired_text}
use Rattle.wide_utf16_to_utf8.proofs.paired_text.put_eight_paired.Goals as goal

pub returns-clause-text : goal.returns-clause-text
returns-clause-text c =
    let packed = packed-paired_text c.args.window.now c.paired_keys_of.result c.paired_leads_of.result c.last_lanes.result c.requires.whole (omega arith) (omega arith) (omega arith) (λ k. (c.type_inv.window k).fits) c.paired_keys_of.ensures c.paired_leads_of.ensures c.last_lanes.ensures in
    c.put_packed.ensures.text ∙ ap (λ x. take c.args.at c.args.out.now ++ x) packed

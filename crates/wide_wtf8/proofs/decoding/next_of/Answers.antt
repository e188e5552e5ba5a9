use Rattle.std.proofs.Common.{[], ◌∷◌, ◌∙◌, true, refl, sym, ap, subst, arith, length, drop}
use Rattle.std.proofs.lemmas.List.{append-nil}
use Rattle.wide_forms.specs.Segmentation.{Fault}
use Rattle.wide_schemes.specs.Layouts.{StopsBefore, BeginsWithFault, IsIncomplete}
use Rattle.wide_schemes.specs.Wtf8Items.{wtf8_items}
use Rattle.wide_schemes.specs.declared.layout.Layout.TheVariants.{Wtf8}
use Rattle.wide_wtf8.specs.Laws.{none-of_items}
use Rattle.wide_wtf8.proofs.decoding.next_of.Goals as goal

pub unreachable-requires : goal.unreachable-requires
unreachable-requires c =
    let stop : IsIncomplete Wtf8 true c.args.after_high c.args.rest.now true = subst (StopsBefore Wtf8 true c.args.after_high c.args.rest.now true c.args.room) c.in-Incomplete.is c.requires in
    let none = none-of_items c.args.after_high c.args.rest.now (stop.no_item refl) in
    omega (arith, stop.some, ap length none)

pub returns-in-Fault : goal.returns-in-Fault
returns-in-Fault c =
    let h = c.args.after_high in
    let rest = c.args.rest.now in
    let len = c.in-Fault.len in
    let fault : BeginsWithFault Wtf8 true h rest true c.in-Fault.unit len = subst (StopsBefore Wtf8 true h rest true c.args.room) c.in-Fault.is c.requires in
    record {
      unit = c.in-Fault.unit;
      some = fault.some;
      within = fault.within;
      items = ap (wtf8_items h) (sym (append-nil rest)) ∙ fault.first [] (λ l. refl) ∙ ap (λ xs. Fault c.in-Fault.unit ∷ wtf8_items h xs) (append-nil (drop len rest));
    }

use Rattle.std.proofs.Common.{◌≡◌, ◌++◌, ◌-◌, ◌∙◌, sym, ap, subst, length, length-drop, length-take, drop, take, arith, map}
use Rattle.std.proofs.lemmas.List.{take-append-drop}
use Rattle.wide_forms.specs.EncodingForm.{encode}
use Rattle.wide_forms.specs.Items.{items, IsWellFormed}
use Rattle.wide_forms.specs.Lossy.{lossy_by}
use Rattle.wide_forms.specs.Laws.Policies.{well_formed-lossy_by}
use Rattle.wide_utfstring.proofs.Lossies.{copied_text}
use Rattle.wide_utfstring.proofs.utfstring.UtfString.lossy_copy.Given.{Over}
use Rattle.wide_utfstring.proofs.utfstring.UtfString.lossy_copy.Goals as goal

text : (g : Over) (c : goal.After-from_vec g) → map g.C.Unit.number c.from_vec.result.units ≡ encode g.C.Unit.form (lossy_by c.args.policy (items g.C.Unit.form (map g.C.Unit.number c.args.units.now)))
text g c =
    let units = c.args.units.now in
    let index = c.args.index in
    let prefix = c.split_at.result.0.now in
    let rest = c.split_at.result.1.now in
    let put = c.lossy_prefix-progress in
    let ys = put.new.text in
    let now = c.deref_mut.result.now in
    let first : take index now ≡ prefix = ap (take index) c.deref_mut.ensures.value ∙ ap (λ n. take n c.fill.new.text.items) (sym c.split_at.ensures.front_len) ∙ c.in_ok-fill.ensures.prefix in
    let whole : length now ≡ length units = ap length c.deref_mut.ensures.value ∙ c.in_ok-fill.ensures.length in
    let joined : prefix ++ rest ≡ units = rw (c.split_at.ensures.front, c.split_at.ensures.back) (take-append-drop index units) in
    ap (map g.C.Unit.number) (c.from_vec.ensures.units ∙ c.truncate.ensures.items)
    ∙ copied_text c.args.policy g.C.Unit.form g.C.Unit.number units prefix rest now ys _ index (length now - index) put.result.written put.result.read c.fill.new.text.len joined (rw c.split_at.ensures.front c.requires.prefix) first
    (omega (arith, whole, c.requires.within)) put.ensures.space (omega (arith, c.in_ok-fill.ensures.len, put.ensures.written, put.ensures.read, c.split_at.ensures.back_len, c.requires.within)) (put.ensures.all (omega (arith, whole, c.split_at.ensures.back_len, length-take (length now - index) (drop index now), length-drop index now))) put.ensures.text

pub invariant_of-result : goal.invariant_of-result
invariant_of-result g c = subst (IsWellFormed g.C.Unit.form) (sym (text g c)) (well_formed-lossy_by c.args.policy g.C.Unit.form (map g.C.Unit.number c.args.units.now))

pub returns-clause-made : goal.returns-clause-made
returns-clause-made g c = text g c

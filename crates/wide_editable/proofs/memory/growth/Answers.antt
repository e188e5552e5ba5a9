use Rattle.std.proofs.Common.{◌≤◌, arith, subst, map, length, ◌∷◌, []}
use Rattle.std.specs.Str.{chars}
use Rattle.wide_forms.specs.Laws.Offsets.{offset-IsOffsetOf}
use Rattle.wide_editable.specs.Indices.{first_index}
use Rattle.wide_forms.specs.Offsets.{text_of}
use Rattle.wide_editable.proofs.Made.{in_place, past, in_range}
use Rattle.wide_offset_index.proofs.Lengths.{size-splice, size-one}
use Rattle.wide_editable.proofs.Shorter.{size-fewer}
use Rattle.wide_offset_index.proofs.Offsets.{found_some, found_none, range-forward}
use Rattle.wide_editable.proofs.memory.growth.Goals as goal

pub overflow_sub-range : goal.overflow_sub-range
overflow_sub-range g c =
    let r = c.in-Some-range_at.ensures.some in
    range-forward g.C.Unit.form g.C.Unit.number c.args.s.now.units c.string_facts.ensures.well_formed c.in-Replace.from c.in-Replace.to _ _ r.forward r.starts r.ends

pub returns-in-Push : goal.returns-in-Push
returns-in-Push g c =
    let form = g.C.Unit.form in
    let number = g.C.Unit.number in
    let l = text_of form number c.args.s.now.units in
    rw c.in-Push.is (omega (arith, size-splice form l (c.in-Push.c ∷ []) (length l) (length l), size-one form c.in-Push.c, c.string_facts.ensures.count, c.char_len.ensures.value))

pub returns-in-PushStr : goal.returns-in-PushStr
returns-in-PushStr g c =
    let form = g.C.Unit.form in
    let number = g.C.Unit.number in
    let l = text_of form number c.args.s.now.units in
    rw c.in-PushStr.is (omega (arith, size-splice form l (chars c.in-PushStr.text.now) (length l) (length l), c.string_facts.ensures.count, c.text_len.ensures))

pub returns-in-Some : goal.returns-in-Some
returns-in-Some g c =
    let form = g.C.Unit.form in
    let number = g.C.Unit.number in
    let l = text_of form number c.args.s.now.units in
    let i = c.in-Insert.field-0 in
    let found = found_some form (map number c.args.s.now.units) (first_index c.args.edit) c.args.start c.in-Some._at c.requires.start c.in-Some.is in
    let le = subst (λ e. first_index e ≤ length l) c.in-Insert.is found.within in
    rw (c.in-Insert.is, in_place i (length l) le) (omega (arith, size-splice form l (c.in-Insert.c ∷ []) i i, size-one form c.in-Insert.c, c.string_facts.ensures.count, c.char_len-in-Some.ensures.value))

pub returns-in-None : goal.returns-in-None
returns-in-None g c =
    let form = g.C.Unit.form in
    let number = g.C.Unit.number in
    let l = text_of form number c.args.s.now.units in
    let i = c.in-Insert.field-0 in
    let never = subst (λ e. first_index e ≤ length l → ⊥) c.in-Insert.is (found_none form (map number c.args.s.now.units) (first_index c.args.edit) c.args.start c.requires.start c.in-None.is) in
    rw (c.in-Insert.is, past i (length l) never) (omega (arith, c.string_facts.ensures.count))

pub returns-in-Some-start : goal.returns-in-Some-start
returns-in-Some-start g c =
    let form = g.C.Unit.form in
    let number = g.C.Unit.number in
    let l = text_of form number c.args.s.now.units in
    let i = c.in-InsertStr.field-0 in
    let found = found_some form (map number c.args.s.now.units) (first_index c.args.edit) c.args.start c.in-Some-start._at c.requires.start c.in-Some-start.is in
    let le = subst (λ e. first_index e ≤ length l) c.in-InsertStr.is found.within in
    rw (c.in-InsertStr.is, in_place i (length l) le) (omega (arith, size-splice form l (chars c.in-InsertStr.text.now) i i, c.string_facts.ensures.count, c.text_len-in-Some-start.ensures))

pub returns-in-None-start : goal.returns-in-None-start
returns-in-None-start g c =
    let form = g.C.Unit.form in
    let number = g.C.Unit.number in
    let l = text_of form number c.args.s.now.units in
    let i = c.in-InsertStr.field-0 in
    let never = subst (λ e. first_index e ≤ length l → ⊥) c.in-InsertStr.is (found_none form (map number c.args.s.now.units) (first_index c.args.edit) c.args.start c.requires.start c.in-None-start.is) in
    rw (c.in-InsertStr.is, past i (length l) never) (omega (arith, c.string_facts.ensures.count))

pub returns-in-Some-range_at : goal.returns-in-Some-range_at
returns-in-Some-range_at g c =
    let form = g.C.Unit.form in
    let number = g.C.Unit.number in
    let s = c.args.s.now in
    let us = map number s.units in
    let l = text_of form number s.units in
    let r = c.in-Some-range_at.ensures.some in
    let i = c.in-Replace.from in
    let j = c.in-Replace.to in
    let well = c.string_facts.ensures.well_formed in
    rw (c.in-Replace.is, in_range i j (length l) r.forward r.within)
    (omega (arith, size-splice form l (chars c.in-Replace.text.now) i j, c.string_facts.ensures.count, offset-IsOffsetOf form us well i _ r.starts, offset-IsOffsetOf form us well j _ r.ends, range-forward form number s.units well i j _ _ r.forward r.starts r.ends, c.text_len-in-Some-range_at.ensures, c.saturating_sub.ensures))

pub returns-in-None-range_at : goal.returns-in-None-range_at
returns-in-None-range_at g c =
    rw (c.in-Replace.is, c.in-None-range_at.ensures.none) (omega (arith, c.string_facts.ensures.count))

pub returns-in_default : goal.returns-in_default
returns-in_default g c =
    let d = c.in_default in
    let fewer = size-fewer g.C.Unit.form (text_of g.C.Unit.form g.C.Unit.number c.args.s.now.units) c.args.edit d.not-Push d.not-PushStr d.not-Insert d.not-InsertStr d.not-Replace in
    omega (arith, fewer, c.string_facts.ensures.count)

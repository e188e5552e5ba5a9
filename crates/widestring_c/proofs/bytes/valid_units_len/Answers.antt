use Rattle.std.proofs.Common.{◌≡◌, ◌+◌, ◌/◌, ◌<◌, ℕ, List, ap, sym, ◌∙◌, subst, arith, length, map, take, drop, length-take-le, length-drop}
use Rattle.std.proofs.lemmas.List.{map-id, take_all}
use Rattle.wide_forms.specs.EncodingForm.{Utf16}
use Rattle.wide_forms.specs.Items.{IsFirstFault, IsWellFormed}
use Rattle.wide_unit.proofs.Faults.{first_fault-below, first_fault-not_well_formed}
use Rattle.wide_bytes.specs.Bytes.{units_in}
use Rattle.wide_bytes.proofs.Pairs.{length-units_in}
use Rattle.widestring_c.proofs.ChunkUnits.{Passed, all-passed, fault-beyond, items-parted, more-passed, none-passed}
use Rattle.widestring_c.proofs.bytes.valid_units_len.Goals as goal

pub chunks-init : goal.chunks-init
chunks-init c = record { so_far = none-passed (units_in c.args.order c.args.bytes.now); offset = omega arith }

pub chunks-preserved : goal.chunks-preserved
chunks-preserved c =
    let o = c.args.order in
    let us = units_in o c.args.bytes.now in
    let rest = c.chunks.rest.now in
    let n = c.chunk_len.result in
    let e = c.chunk_len.ensures in
    let len = c.valid_len-len.result in
    let prefix = units_in o (take n rest) in
    let read : List ℕ = take (length c.split_at.result.0.now / 2) c.fill_units.new.units in
    let is : read ≡ prefix = c.fill_units.ensures ∙ ap (λ bs. units_in o bs) c.split_at.ensures.front in
    let all : length read ≡ len = omega (arith, c.if-len-read.false, c.valid_len-len.ensures.within) in
    let same : map (λ (u : ℕ). u) (take len read) ≡ prefix = map-id (take len read) ∙ take_all len read (omega (arith, all)) ∙ is in
    let well : IsWellFormed Utf16 prefix = subst (IsWellFormed Utf16) same c.valid_len-len.ensures.valid in
    let long : length prefix ≡ len = ap length (sym is) ∙ all in
    let passed = more-passed us c.chunks.passed (units_in o rest) c.chunks.invariant.so_far prefix (units_in o (drop n rest)) (items-parted o rest n e.even e.within e.cut) len well long in
    record {
      so_far = subst (λ bs. Passed us (c.chunks.passed + len) (units_in o bs)) (sym c.split_at.ensures.back) passed;
      offset = omega (arith, c.chunks.invariant.offset, e.even, e.within, long, length-units_in o (take n rest), length-take-le n rest e.within, ap length c.split_at.ensures.back, length-drop n rest);
    }

faulty-now : (c : goal.Then-len-read) → (item u : ℕ) × IsFirstFault Utf16 (units_in c.args.order c.args.bytes.now) (c.chunks.passed + c.valid_len-len.result) item u
faulty-now c =
    let o = c.args.order in
    let us = units_in o c.args.bytes.now in
    let rest = c.chunks.rest.now in
    let n = c.chunk_len.result in
    let e = c.chunk_len.ensures in
    let len = c.valid_len-len.result in
    let prefix = units_in o (take n rest) in
    let read : List ℕ = take (length c.split_at.result.0.now / 2) c.fill_units.new.units in
    let is : map (λ (u : ℕ). u) read ≡ prefix = map-id read ∙ c.fill_units.ensures ∙ ap (λ bs. units_in o bs) c.split_at.ensures.front in
    let (item, u, fault) = c.valid_len-len.ensures.fault c.if-len-read.true in
    let first : IsFirstFault Utf16 prefix len item u = subst (λ vs. IsFirstFault Utf16 vs len item u) is fault in
    let p = c.chunks.invariant.so_far in
    (length p.cs + item, u, fault-beyond us c.chunks.passed (units_in o rest) p prefix (units_in o (drop n rest)) (items-parted o rest n e.even e.within e.cut) len item u first)

pub returns-then-len-read-clause-fault : goal.returns-then-len-read-clause-fault
returns-then-len-read-clause-fault c = λ below. faulty-now c

pub returns-then-len-read-clause-well_formed : goal.returns-then-len-read-clause-well_formed
returns-then-len-read-clause-well_formed c =
    let us = units_in c.args.order c.args.bytes.now in
    let (item, u, fault) = faulty-now c in
    let at = c.chunks.passed + c.valid_len-len.result in
    let below : at < length us = first_fault-below Utf16 us at item u fault in
    (λ end. absurd (omega (arith, end, below, length-units_in c.args.order c.args.bytes.now)), λ well. absurd (first_fault-not_well_formed Utf16 us at item u fault well))

pub returns-clause-well_formed : goal.returns-clause-well_formed
returns-clause-well_formed c =
    let short : length c.chunks.rest.now < 2 = omega (arith, c.chunks-test.false) in
    (λ end. all-passed c.args.order c.chunks.rest.now (units_in c.args.order c.args.bytes.now) c.chunks.passed short c.chunks.invariant.so_far, λ well. omega (arith, c.chunks.invariant.offset, short))

use Rattle.std.proofs.Common.{◌≡◌, ◌+◌, ◌-◌, ℕ, List, length, length-take, length-take-le, take, refl, ap, ◌∙◌, arith}
use Rattle.std.specs.Prelude.{min}
use Rattle.wide_schemes.specs.Schemes.{start_len}
use Rattle.wide_convert.specs.Positions.{counted}
use Rattle.wide_convert.proofs.Starting.{opens, waits}
use Rattle.wide_convert.proofs.steps.open.Goals as goal

-- How many bytes were kept.
kept-len : (input : List ℕ) (kept len read known : ℕ) → read ≡ min (len - kept) (length input) → known ≡ kept + length (take read input) → known ≡ kept + read
kept-len input kept len read known least all = omega (arith, least, all, length-take read input)

pub returns-then-needs_more-clause-steps : goal.returns-then-needs_more-clause-steps
returns-then-needs_more-clause-steps c room =
    let r = c.args.reading.now in
    let s = c.append_unread.new.reading in
    let e = c.append_unread.ensures in
    let input = c.args.input.now in
    let n = c.min-read.result in
    let more = c.needs_more.ensures.more c.if-needs_more.true in
    let least : n ≡ min (start_len r.scheme - r.unread_len) (length input) = c.min-read.ensures ∙ ap (λ k. min (k - r.unread_len) (length input)) c.start_len-len.ensures.len in
    let len : s.unread_len ≡ r.unread_len + n = kept-len input r.unread_len (start_len r.scheme) n s.unread_len least e.len in
    waits r s input c.args.is_last n c.requires.ready c.requires.closed least e.unread len e.same room (omega (arith, more.0, c.start_len-len.ensures.len)) more.1

pub returns-clause-steps : goal.returns-clause-steps
returns-clause-steps c room =
    let r = c.args.reading.now in
    let s = c.append_unread.new.reading in
    let t = c.drop_unread.new.reading in
    let e = c.append_unread.ensures in
    let d = c.drop_unread.ensures in
    let p = c.after-reading.ensures in
    let input = c.args.input.now in
    let n = c.min-read.result in
    let least : n ≡ min (start_len r.scheme - r.unread_len) (length input) = c.min-read.ensures ∙ ap (λ k. min (k - r.unread_len) (length input)) c.start_len-len.ensures.len in
    let len : s.unread_len ≡ r.unread_len + n = kept-len input r.unread_len (start_len r.scheme) n s.unread_len least e.len in
    opens r s input c.args.is_last n c.requires.ready c.requires.closed least e.unread len e.same _ c.layout_from-layout.result.0 c.layout_from-layout.result.1
    (λ more. omega (arith, c.needs_more.ensures.enough c.if-needs_more.false more, c.start_len-len.ensures.len)) c.layout_from-layout.ensures.layout c.layout_from-layout.ensures.bom
    refl d.unread d.len d.same.keeps d.same.after_high d.same.after_fault refl (p.bytes ∙ ap (λ q. counted q.bytes c.layout_from-layout.result.1) d.same.position) (p.items ∙ ap (λ q. counted q.items 0) d.same.position) (p.faults ∙ ap (λ q. counted q.faults 0) d.same.position)
    (length-take-le s.unread_len s.unread (omega (arith, len, least, c.requires.ready.space, e.same.space, c.start_len-len.ensures.few, c.start_len-len.ensures.len, (c.requires.ready.start c.requires.closed).1))) room

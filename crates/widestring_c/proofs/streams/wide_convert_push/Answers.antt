use Rattle.std.proofs.Common.{◌-◌, ◌≤◌, length, subst, sym, take}
use Rattle.wide_convert.specs.Converting.{Pushes}
use Rattle.widestring_c.specs.Bytes.{is_set}
use Rattle.widestring_c.proofs.Held.{Holds-unique}
use Rattle.widestring_c.proofs.streams.wide_convert_push.Goals as goal

pub returns-clause-pushed : goal.returns-clause-pushed
returns-clause-pushed c = λ old held.
    let same = Holds-unique c.args.state.now c.in-Some.converter old c.in-Some.ensures.some held in
    let put = c.push-progress in
    let e = c.state_of.ensures in
    let input = c.args.input.now in
    let output = take put.result.written put.new.output in
    let room = length put.new.output - put.result.written in
    let pushes = subst (λ k. Pushes k put.new.converter input (is_set c.args.is_last) put.result.read output room put.result.end) same (subst (λ last. Pushes c.in-Some.converter put.new.converter input last put.result.read output room put.result.end) c.is_set.ensures put.ensures.pushes) in
    record {
      converter = put.new.converter;
      holds = e.holds;
      end = put.result.end;
      says = e.end;
      read = subst (λ n. n ≤ length input) (sym e.read) put.ensures.read;
      fits = put.ensures.written;
      pushes = subst (λ n. Pushes old put.new.converter input (is_set c.args.is_last) n output room put.result.end) (sym e.read) pushes;
    }

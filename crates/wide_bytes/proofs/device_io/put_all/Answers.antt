use Rattle.std.proofs.Common.{take, rules}
use Rattle.wide_bytes.proofs.Joins.{appends_after, appends_keeps, appends_none, fails_at_none, prefix_is_beginning}
use Rattle.wide_bytes.proofs.device_io.put_all.Goals as goal

pub returns-in-Ok-eq0 : goal.returns-in-Ok-eq0
returns-in-Ok-eq0 g c = (
  take c.puts.done c.args.text.now,
  appends_none _ _ _ _ _ _ c.in-Ok-eq0.field-0-test c.puts.invariant.put c.in-Ok-eq0.ensures.bytes,
  (fails_at_none _ _ c.put.result c.args.text.now c.puts.done _ c.in-Ok-eq0.is c.in-Ok-eq0.field-0-test c.puts-test.true c.put.ensures.failed, prefix_is_beginning _ _),
)

pub puts-preserved : goal.puts-preserved
puts-preserved g c = record {
  within = search rules;
  put = appends_after _ _ _ _ _ _ c.puts.invariant.put c.in-Ok.ensures.bytes;
  valid = search rules;
}

pub returns-in-Err : goal.returns-in-Err
returns-in-Err g c = (
  take c.puts.done c.args.text.now,
  appends_keeps _ _ _ _ c.puts.invariant.put c.in-Err.ensures.bytes,
  (search rules, prefix_is_beginning _ _),
)

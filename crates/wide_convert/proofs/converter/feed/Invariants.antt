use Rattle.std.proofs.Common.{◌≡◌, ◌+◌, ◌-◌, ◌≤◌, [], true, false, length, take}
use Rattle.wide_schemes.specs.Layouts.{needs_text}
use Rattle.wide_convert.specs.Steps.{IsReading, much_left}
use Rattle.wide_convert.specs.Streams.{SoFar}
use Rattle.wide_convert.proofs.converter.feed.Given as goal

-- The text of what was read so far was written.
abbrev pub invariant-loop-out : goal.invariant-loop-out
invariant-loop-out l = record {
  pivot : length l.pivot ≡ 1024;
  within : l.read ≤ length l.input;
  space : l.written ≤ length l.out;
  ready : IsReading l.reading;
  text : needs_text l.to ≡ true → l.reading.keeps ≡ false;
  so_far : SoFar l.fn.reading l.reading l.to l.input l.is_last l.read (take l.written l.out) [] 0;
}

-- Each step leaves less to read, or less space.
abbrev pub decreases-loop-out : goal.decreases-loop-out
decreases-loop-out l = much_left l.reading (length l.input - l.read) + (length l.out - l.written)

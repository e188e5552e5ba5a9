use Rattle.wide_error.proofs.error.TranscodeErrorDisplay.fmt.Goals as goal

pub returns-in-Utf16-clause-writes : goal.returns-in-Utf16-clause-writes
returns-in-Utf16-clause-writes g c = rw c.in-Utf16.is (rw c.in_radix.ensures at c.write.ensures.writes)

use Rattle.wide_schemes.specs.Wtf8Laws.{wtf8-append}
use Rattle.wide_wtf8.specs.Joins.{wtf8-pair}
use Rattle.wide_wtf8.proofs.laws.joined_texts.Goals as goal

pub returns-clause-apart : goal.returns-clause-apart
returns-clause-apart c = wtf8-append

pub returns-clause-halves : goal.returns-clause-halves
returns-clause-halves c = λ us vs h l high low. wtf8-pair h l high low us vs

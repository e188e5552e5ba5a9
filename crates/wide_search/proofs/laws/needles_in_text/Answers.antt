use Rattle.wide_search.specs.Laws.Ends.{IsBoundary-needle, IsBoundary-after_needle}
use Rattle.wide_search.specs.Laws.Characters.{occurs-chars, occurs-units, first-chars, last-chars}
use Rattle.wide_search.proofs.laws.needles_in_text.Goals as goal

pub returns-clause-between : goal.returns-clause-between
returns-clause-between c = λ form needle us at well some occurs. (IsBoundary-needle form needle us at well some occurs, IsBoundary-after_needle form needle us at well some occurs)

pub returns-clause-characters : goal.returns-clause-characters
returns-clause-characters c = λ form needle us at well_needle well boundary. (occurs-chars form needle us well_needle well at boundary, occurs-units form needle us well_needle well at boundary)

pub returns-clause-first : goal.returns-clause-first
returns-clause-first c = λ form needle us at well_needle well some first. first-chars form needle us well_needle well at (IsBoundary-needle form needle us at well_needle some first.here) some first

pub returns-clause-last : goal.returns-clause-last
returns-clause-last c = λ form needle us at well_needle well some last. last-chars form needle us well_needle well at (IsBoundary-needle form needle us at well_needle some last.here) last

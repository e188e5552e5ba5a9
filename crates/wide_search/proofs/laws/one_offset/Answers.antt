use Rattle.wide_search.specs.Laws.Occurrences.{first-unique, last-unique}
use Rattle.wide_search.proofs.laws.one_offset.Goals as goal

pub returns-clause-first : goal.returns-clause-first
returns-clause-first g c = λ needle whole. first-unique needle whole

pub returns-clause-last : goal.returns-clause-last
returns-clause-last g c = λ needle whole. last-unique needle whole

use Rattle.wide_search.specs.Cut.{substrings, substrings-are, substrings-whole}
use Rattle.wide_search.specs.Laws.Occurrences.{substrings-unique, substrings-joined}
use Rattle.wide_search.proofs.laws.one_list_of_substrings.Goals as goal

pub returns-clause-some : goal.returns-clause-some
returns-clause-some c = λ needle whole some. substrings-are needle whole some

pub returns-clause-unique : goal.returns-clause-unique
returns-clause-unique c = λ needle whole others some are. substrings-unique needle others (substrings needle whole) whole are (substrings-are needle whole some)

pub returns-clause-joined : goal.returns-clause-joined
returns-clause-joined c = λ needle whole some are. substrings-joined needle some whole are

pub returns-clause-empty : goal.returns-clause-empty
returns-clause-empty c = λ whole. substrings-whole whole

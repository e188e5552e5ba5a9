use Rattle.wide_schemes.specs.Wtf8Laws.{encode-code_points}
use Rattle.wide_wtf8.specs.Laws.{items-of_text}
use Rattle.wide_wtf8.specs.Prefixes.{text-of_items}
use Rattle.wide_wtf8.proofs.laws.round_trips.Goals as goal

pub returns-clause-items : goal.returns-clause-items
returns-clause-items c = items-of_text

pub returns-clause-units : goal.returns-clause-units
returns-clause-units c = encode-code_points

pub returns-clause-bytes : goal.returns-clause-bytes
returns-clause-bytes c = text-of_items

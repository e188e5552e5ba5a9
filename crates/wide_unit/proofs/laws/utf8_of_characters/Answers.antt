use Rattle.wide_forms.specs.Laws.Utf8.{utf8_bytes-encode_utf8}
use Rattle.wide_unit.proofs.laws.utf8_of_characters.Goals as goal

pub returns : goal.returns
returns c = utf8_bytes-encode_utf8

-- The units that the manually written source has left.
use Rattle.std.specs.Prelude.{ℕ, List}
use Rattle.widestring_tests.specs.declared.front.Front.{Front}

abbrev pub prefix_rest : Front → List ℕ
prefix_rest s = s.rest.now

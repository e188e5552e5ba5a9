-- What sources of std will yield.
use Rattle.std.specs.Prelude.{ℕ, List}
use Rattle.std.specs.Str.{chars}
use Rattle.std.specs.Str.Iter.{chars_rest}
use Rattle.std.specs.Iterator.Adapters.{copied_source}
use Rattle.std.specs.Slice.Iter.{iter_rest}
use Rattle.std.specs.declared.iter.Copied.{Copied}
use Rattle.std.specs.declared.slice.Iter.{Iter}
use Rattle.std.specs.declared.str.Chars.{Chars}

-- The `iter().copied()` of a slice.
abbrev pub copied_rest : {A : Type 0} → Copied (Iter A) → List A
copied_rest s = iter_rest (copied_source s)

-- The `chars()` of a text.
abbrev pub text_rest : Chars → List ℕ
text_rest s = chars (chars_rest s)

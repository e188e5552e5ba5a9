use Rattle.std.proofs.Common.{◌≡◌, ◌++◌, encode_utf8_all}
use Rattle.std.specs.Str.Iter.{chars_rest}
use Rattle.widetext_requests.proofs.edit_arguments.parse_edit_argument.Given as goal

abbrev pub invariant-loop-c : goal.invariant-loop-c
invariant-loop-c l = encode_utf8_all l.keep.items ++ chars_rest l.c-iterator ≡ chars_rest l.initial.c-iterator

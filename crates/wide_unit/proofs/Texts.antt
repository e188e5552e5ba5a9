-- The characters that the iterator of a text will yield.
use Rattle.std.proofs.Common.{ℕ, [], ◌∷◌, ◌++◌, Option, Some, None, sym, ap, ◌∙◌}
use Rattle.std.specs.Prelude.{IfSome}
use Rattle.std.specs.Char.{IsScalar, encode_utf8}
use Rattle.std.specs.Iterator.{YieldsFirst}
use Rattle.std.specs.Str.{chars}
use Rattle.std.specs.Str.Iter.{chars_rest, chars_steps}
use Rattle.std.specs.declared.str.Chars.{Chars}
use Rattle.std.proofs.lemmas.List.{append-nil, nil_from_length}
use Rattle.std.proofs.lemmas.Str.{chars-nil}
use Rattle.std.proofs.str.Decodes.{decodes_before}

pub text_first : (s t : Chars) (r : Option ℕ) → IfSome r IsScalar → chars_steps s r t → YieldsFirst (λ u. chars (chars_rest u)) s r t
text_first s t None f h = let none = nil_from_length (chars_rest s) h.0.0 in (ap chars none ∙ chars-nil, ap (λ u. chars (chars_rest u)) h.0.1 ∙ ap chars none ∙ chars-nil)
text_first s t (Some c) f h = ap chars h.0 ∙ ap (λ l. chars (l ++ chars_rest t)) (sym (append-nil (encode_utf8 c))) ∙ decodes_before (c ∷ []) (chars_rest t) (rw f)

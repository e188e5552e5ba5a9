-- Sources for which a function returns the list that is left.
use Rattle.std.proofs.Common.{List, Option, Some, None, sym, ap, subst, ◌∙◌, Bor, arith}
use Rattle.std.proofs.lemmas.List.{nil_from_length}
use Rattle.std.specs.Option.{option_copied}
use Rattle.std.specs.Iterator.{YieldsFirst, YieldsLast}
use Rattle.std.specs.Iterator.Adapters.{copied_source, copied_steps}
use Rattle.std.specs.Slice.Iter.{iter_rest, iter_steps, iter_steps_back}
use Rattle.std.specs.declared.iter.Copied.{Copied}
use Rattle.std.specs.declared.slice.Iter.{Iter}
use Rattle.std.specs.declared.vec.IntoIter.{IntoIter}
use Rattle.std.specs.Vec.Iter.{into_iter_steps, into_iter_steps_back, into_iter_items}
use Rattle.std.specs.Char.{IsScalar}
use Rattle.std.specs.Str.Iter.{chars_steps}
use Rattle.wide_unit.proofs.Texts.{text_first}
use Rattle.wide_iter.specs.Over.{GivesFirst, GivesLast}
use Rattle.wide_iter.specs.Sources.{copied_rest, text_rest}

module _ {A : Type 0} where
  copied_first : (s t : Copied (Iter A)) (o : Option (Bor A)) → iter_steps (copied_source s) o (copied_source t) → YieldsFirst copied_rest s (option_copied o) t
  copied_first s t None (e, f) = let none = nil_from_length (copied_rest s) e in (none, ap iter_rest f ∙ none)
  copied_first s t (Some x) e = e

  copied_last : (s t : Copied (Iter A)) (o : Option (Bor A)) → iter_steps_back (copied_source s) o (copied_source t) → YieldsLast copied_rest s (option_copied o) t
  copied_last s t None (e, f) = let none = nil_from_length (copied_rest s) e in (none, ap iter_rest f ∙ none)
  copied_last s t (Some x) e = e

  pub copied_gives_first : {Fits : A → Type 0} → GivesFirst Fits (copied_steps (iter_steps {A = A})) copied_rest
  copied_gives_first = record { at = λ s r t f h. subst (λ v. YieldsFirst copied_rest s v t) (sym h.2) (copied_first s t h.0 h.1) }

  pub copied_gives_last : {Fits : A → Type 0} → GivesLast Fits (copied_steps (iter_steps_back {A = A})) copied_rest
  copied_gives_last = record { at = λ s r t f h. subst (λ v. YieldsLast copied_rest s v t) (sym h.2) (copied_last s t h.0 h.1) }

module _ {S A : Type 0} (rest : S → List A) where
  -- An iterator whose contract says what is left is a source of that list, from the front.
  pub itself_first : {Fits : A → Type 0} → GivesFirst Fits (YieldsFirst rest) rest
  itself_first = record { at = λ s r t f h. h }

  -- An iterator whose contract says what is left is a source of that list, from the back.
  pub itself_last : {Fits : A → Type 0} → GivesLast Fits (YieldsLast rest) rest
  itself_last = record { at = λ s r t f h. h }

module _ {A Z : Type 0} where
  -- A `Vec` by value is a source of its elements.
  vec_first : (s t : IntoIter A Z) (r : Option A) → into_iter_steps s r t → YieldsFirst into_iter_items s r t
  vec_first s t None h = (nil_from_length (into_iter_items s) (omega arith), nil_from_length (into_iter_items t) (omega arith))
  vec_first s t (Some x) h = h.0

  vec_last : (s t : IntoIter A Z) (r : Option A) → into_iter_steps_back s r t → YieldsLast into_iter_items s r t
  vec_last s t None h = (nil_from_length (into_iter_items s) (omega arith), nil_from_length (into_iter_items t) (omega arith))
  vec_last s t (Some x) h = h

  -- A `Vec` by value is a source of its elements, from the front.
  pub vec_gives_first : {Fits : A → Type 0} → GivesFirst Fits (into_iter_steps {X = A} {Z = Z}) into_iter_items
  vec_gives_first = record { at = λ s r t f h. vec_first s t r h }

  -- A `Vec` by value is a source of its elements, from the back.
  pub vec_gives_last : {Fits : A → Type 0} → GivesLast Fits (into_iter_steps_back {X = A} {Z = Z}) into_iter_items
  vec_gives_last = record { at = λ s r t f h. vec_last s t r h }

-- `chars()` of a text is a source of its characters.
pub text_gives_first : GivesFirst IsScalar chars_steps text_rest
text_gives_first = record { at = λ s r t f h. text_first s t r f h }

-- What a fused source will yield.
use Rattle.std.specs.Prelude.{◌≡◌, false, Bool, List, [], Option, None, is_none, if◌then◌else◌}
use Rattle.std.specs.Bool.{MatchBool}
use Rattle.std.specs.Iterator.{Count, count_unless}
use Rattle.wide_iter.specs.declared.source.Source.{Source}

module _ {I : Type 0} where
  -- The source itself, which may not be fused.
  abbrev pub inner_of : Source I → I
  inner_of s = s.inner

  -- Whether the source has returned `None`.
  abbrev pub has_ended : Source I → Bool
  has_ended s = s.ended

  -- What is left, for a function that returns what the source itself has left.
  abbrev pub left_in_source : {A : Type 0} → (I → List A) → Source I → List A
  left_in_source rest s = if has_ended s then [] else rest (inner_of s)

  -- The source may be called, unless it has ended.
  abbrev pub CanAsk : (I → Type 0) → Source I → Type 0
  CanAsk can s = has_ended s ≡ false → can (inner_of s)

  -- How many items are left: none after the source has ended, and otherwise as many as the source itself has left.
  abbrev pub source_count : (I → Count) → Source I → Count
  source_count count s = count_unless (has_ended s) (count (inner_of s))

  -- A call returns `None` after the source has ended, and otherwise what the source itself returns.
  abbrev pub source_steps : {A : Type 0} → (I → Option A → I → Type 0) → Source I → Option A → Source I → Type 0
  source_steps steps s r t = MatchBool (has_ended s) ((r ≡ None) × (t ≡ s)) (steps (inner_of s) r (inner_of t) × (has_ended t ≡ is_none r))

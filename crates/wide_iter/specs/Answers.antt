-- The results of calls from both ends of a list.
use Rattle.std.specs.Prelude.{ℕ, ◌+◌, ◌-◌, nat_lt, List, [], ◌∷◌, length, slice_get, Option, None, if◌then◌else◌}
use Rattle.wide_iter.specs.declared.ends.End.{End}
use Rattle.wide_iter.specs.declared.ends.End.TheVariants.{Front, Back}

-- The results of the calls at `ends`, after `f` calls from the front and `k` from the back: a call returns `None` if at
-- least as many calls precede it as the list is long.
abbrev pub answers_after : {A : Type 0} → List A → ℕ → ℕ → List End → List (Option A)
answers_after l f k [] = []
answers_after l f k (Front ∷ ends) = (if nat_lt (f + k) (length l) then slice_get l f else None) ∷ answers_after l (f + 1) k ends
answers_after l f k (Back ∷ ends) = (if nat_lt (f + k) (length l) then slice_get l (length l - 1 - k) else None) ∷ answers_after l f (k + 1) ends

-- The results of the calls at `ends`, from the first one on.
abbrev pub answers : {A : Type 0} → List A → List End → List (Option A)
answers l ends = answers_after l 0 0 ends

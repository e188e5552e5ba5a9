-- A loop that replaces the number of each unit.
use Rattle.std.proofs.Common.{◌≡◌, ℕ, ◌+◌, ◌<◌, List, map, ◌++◌, get_or, set, take, drop, length, arith, sym, ap, ◌∙◌}
use Rattle.std.proofs.lemmas.List.{map-set, get_or-map, length-map}
use Rattle.std.proofs.lemmas.List.Edits.{map_over_more}

module _ {X : Type 0} (number : X → ℕ) (f : ℕ → ℕ) where
  -- The numbers of the first `k` units of `old` are replaced in `units`.
  abbrev pub IsReplacedTo : List X → List X → ℕ → Type 0
  IsReplacedTo old units k = map number units ≡ map f (take k (map number old)) ++ drop k (map number old)

  pub replaced-one : (old units : List X) (k : ℕ) (u v : X) → k < length units → length units ≡ length old → u ≡ get_or units k u → number v ≡ f (number u) → IsReplacedTo old units k → IsReplacedTo old (set units k v) (k + 1)
  replaced-one old units k u v within long is made so_far =
      map-set number units k v ∙ ap (set (map number units) k) made
      ∙ map_over_more f (map number old) (map number units) k (number u) (omega (arith, within, long, length-map old number)) so_far (ap number is ∙ sym (get_or-map number units k u (number u) within))

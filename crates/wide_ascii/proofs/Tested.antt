-- A loop that tests whether all units are ASCII.
use Rattle.std.proofs.Common.{ℕ, ◌+◌, ◌<◌, List, Bool, true, false, ◌&&◌, ◌↔◌, IsTrue, IsAscii, nat_lt, get_or, take, drop, length, arith, refl, subst}
use Rattle.std.proofs.lemmas.Bool.{ltb-true, lt-ltb}
use Rattle.std.proofs.lemmas.List.{take-take, get_or-take, take-append-drop}
use Rattle.std.proofs.lemmas.Str.{IsAscii-take, IsAscii-drop, IsAscii-append}
use Rattle.std.proofs.lemmas.Str.Ascii.{IsAscii-more}

pub ascii-one_more : (us : List ℕ) (k : ℕ) (is_ascii : Bool) → k < length us → (IsTrue is_ascii ↔ IsAscii (take k us)) → IsTrue (is_ascii && nat_lt (get_or us k 0) 128) ↔ IsAscii (take (k + 1) us)
ascii-one_more us k false within so_far = (
  λ e. absurd cc,
  λ all. absurd (let no = so_far.1 (subst IsAscii (take-take k (k + 1) us (omega arith)) (IsAscii-take (take (k + 1) us) k all)) in cc),
)
ascii-one_more us k true within so_far = (
  λ e. IsAscii-more us k within (so_far.0 refl) (ltb-true _ _ e),
  λ all. lt-ltb _ _ (subst (λ n. n < 128) (get_or-take (k + 1) us k 0 (omega arith)) (all k)),
)

-- The first units are ASCII, and so all are if the others are.
pub ascii-rest : (us : List ℕ) (k : ℕ) → IsAscii (take k us) → IsAscii us ↔ IsAscii (drop k us)
ascii-rest us k first = (
  λ all. IsAscii-drop us k all,
  λ rest. subst IsAscii (take-append-drop k us) (IsAscii-append (take k us) (drop k us) first rest),
)

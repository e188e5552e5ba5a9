-- The steps of searches between two characters, and of edits of few characters.
use Rattle.std.proofs.Common.{◌≡◌, ℕ, ◌+◌, ◌-◌, List, Some, None, refl, subst, arith, length}
use Rattle.std.specs.Prelude.{Option, IsSome}
use Rattle.wide_forms.specs.EncodingForm.{Utf16}
use Rattle.wide_forms.specs.Items.{chars, IsWellFormed}
use Rattle.wide_offset_index.specs.Marks.{IsEdited}
use Rattle.wide_offset_index.specs.Passed.{units_put, AddsPassed}
use Rattle.wide_steps.specs.declared.counting.Steps.{Steps}
use Rattle.wide_offset_index.specs.declared.shifting.Range16.{Range16}
use Rattle.wide_offset_index.proofs.Lengths.{size-take}
use Rattle.wide_offset_index.proofs.Marking.{whole-size}

-- The numbers of the two characters are written in another way.
pub passed-between : (cs : List ℕ) (before after : Steps) (low low' high high' to : ℕ) → low ≡ low' → high ≡ high' → AddsPassed cs before after low high to → AddsPassed cs before after low' high' to
passed-between cs before after low low' high high' to e f passed = subst (λ n. AddsPassed cs before after n high' to) e (subst (λ n. AddsPassed cs before after low n to) f passed)

pub is-some : {T : Type 0} (r : Option T) (x : T) → r ≡ Some x → IsSome r
is-some (Some y) x e = refl
is-some None x e = absurd cc

pub is-none : {T : Type 0} (r : Option T) → r ≡ None → IsSome r → ⊥
is-none (Some y) e some = absurd cc
is-none None e some = absurd cc

-- The units between the range and those after it, in a text whose number of units is its length.
pub put-units : (us : List ℕ) → IsWellFormed Utf16 us → (count units : ℕ) (range : Range16) → IsEdited (chars Utf16 us) count units range.from range.to range.start range.end → length us - (units - range.end) - range.start ≡ units_put us units range
put-units us well count units range edited = omega (arith, edited.ends, whole-size us well, size-take Utf16 (chars Utf16 us) (length (chars Utf16 us) + range.to - count))

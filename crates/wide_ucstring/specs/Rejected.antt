-- The errors of constructors of C strings, and the vectors that the errors hold.
use Rattle.std.specs.Prelude.{◌≡◌, ℕ, ◌+◌, ◌<◌, ◌≤◌, List, length, map, Option, Some, None, vec_capacity}
use Rattle.std.specs.declared.vec.Vec.{Vec}
use Rattle.wide_unit.specs.Nul.{HasNoNul, IsFirstNul}
use Rattle.wide_utferror.specs.Nul.{position_of, vec_of}
use Rattle.wide_utferror.specs.declared.nul.UCStringError.{UCStringError}
use Rattle.wide_utferror.specs.declared.nul.UCStringError.TheVariants.{ContainsNul, OutOfMemory}

-- The first NUL is at this offset, before the last unit.
abbrev pub IsInnerNul : List ℕ → ℕ → Type 0
IsInnerNul us offset = IsFirstNul us offset × (offset + 1 < length us)

-- The error holds a vector with the units and the capacity of the one that was passed.
abbrev pub HandsBack : {C A : Type 0} → Vec C A → Option (Vec C A) → Type 0
HandsBack units None = ⊥
HandsBack units (Some vec) = (vec.items ≡ units.items) × (vec_capacity vec ≡ vec_capacity units)

-- The vector has no NUL and no spare capacity for one.
abbrev pub LacksSpace : {C A : Type 0} → (C → ℕ) → Vec C A → Type 0
LacksSpace number units = HasNoNul (map number units.items) × (vec_capacity units ≤ length units.items)

module _ {C A : Type 0} (number : C → ℕ) where
  module _ (units : Vec C A) where
    -- The error of a constructor that takes a vector and rejects a NUL before the last unit. It holds the vector.
    abbrev pub RejectsInnerNul : UCStringError C A → Type 0
    RejectsInnerNul (ContainsNul e) = IsInnerNul (map number units.items) (position_of e) × HandsBack units (vec_of e)
    RejectsInnerNul (OutOfMemory vec) = LacksSpace number units × HandsBack units vec

    -- The error of a constructor that takes a vector and rejects no NUL. It holds the vector.
    abbrev pub IsOutOfSpace : UCStringError C A → Type 0
    IsOutOfSpace (ContainsNul e) = ⊥
    IsOutOfSpace (OutOfMemory vec) = LacksSpace number units × HandsBack units vec

  module _ (us : List ℕ) where
    -- The error holds the copy that was made.
    abbrev pub IsCopy : Option (Vec C A) → Type 0
    IsCopy None = ⊥
    IsCopy (Some vec) = map number vec.items ≡ us

    -- The error of a constructor that copies units and rejects a NUL before the last unit. It holds the copy, or no
    -- vector if the allocation for the copy failed.
    abbrev pub RejectsInnerNulOfCopy : UCStringError C A → Type 0
    RejectsInnerNulOfCopy (ContainsNul e) = IsInnerNul us (position_of e) × IsCopy (vec_of e)
    RejectsInnerNulOfCopy (OutOfMemory vec) = vec ≡ None

    -- The error of a constructor that copies units and rejects any NUL. It holds the copy, or no vector if the
    -- allocation for the copy failed.
    abbrev pub RejectsNulOfCopy : UCStringError C A → Type 0
    RejectsNulOfCopy (ContainsNul e) = IsFirstNul us (position_of e) × IsCopy (vec_of e)
    RejectsNulOfCopy (OutOfMemory vec) = vec ≡ None

-- The error of a constructor that takes no vector and rejects no NUL: an allocation failed. It holds no vector.
abbrev pub IsAllocationFailure : {C A : Type 0} → UCStringError C A → Type 0
IsAllocationFailure (ContainsNul e) = ⊥
IsAllocationFailure (OutOfMemory vec) = vec ≡ None

-- What an extension appends to a string.
use Rattle.std.specs.Prelude.{◌≡◌, ◌<◌, ◌+◌, ℕ, List, [], ◌∷◌, ◌++◌, Option, Result, Ok, Err, length, map}
use Rattle.std.specs.Iterator.{Drains, Yields}
use Rattle.std.specs.List.{flat_map}
use Rattle.wide_ustring.specs.Units.{Units}

-- A string with its units mapped to their numbers.
abbrev pub numbered : {C : Type 0} → (C → ℕ) → Units C → Units ℕ
numbered number string = record { units = map number string.units; capacity = string.capacity }

-- A source becomes an iterator, whose steps yield items, and each item has a text in numbers of units.
module _ {U S I : Type 0} (becomes : U → S → Type 0) (steps : S → Option I → S → Type 0) (text : I → List ℕ) where
  -- The texts of all the source's items, in order, follow the old units.
  pub record AddsAll (source : U) (old new : List ℕ) : Type 0 where
    pub iterator : S
    pub items : List I
    pub from : becomes source iterator
    pub given : Drains steps iterator items
    pub units : new ≡ old ++ flat_map text items

  -- The texts of the items before the one whose allocation failed follow the old units. The capacity does not suffice
  -- for that item.
  pub record AddsUpTo (source : U) (old new : List ℕ) (capacity : ℕ) : Type 0 where
    pub iterator : S
    pub items : List I
    pub failed : I
    pub later : S
    pub from : becomes source iterator
    pub given : Yields steps iterator (items ++ failed ∷ []) later
    pub units : new ≡ old ++ flat_map text items
    pub full : capacity < length new + length (text failed)

-- A call extended a string, given by the numbers of its units and its capacity: by all items if it succeeded, and
-- otherwise by those before the one whose allocation failed.
abbrev pub Adds : {A E T U S I : Type 0} → Result A E → (U → S → Type 0) → (S → Option I → S → Type 0) → (I → List ℕ) → U → (T → Units ℕ) → T → T → Type 0
Adds (Ok _) becomes steps text source seen old new = AddsAll becomes steps text source (seen old).units (seen new).units
Adds (Err _) becomes steps text source seen old new = AddsUpTo becomes steps text source (seen old).units (seen new).units (seen new).capacity

-- A call made a string: of all items if it succeeded, and otherwise of those before the one whose allocation failed.
abbrev pub Collects : {T U S I : Type 0} → Result T T → (U → S → Type 0) → (S → Option I → S → Type 0) → (I → List ℕ) → U → (T → Units ℕ) → Type 0
Collects (Ok string) becomes steps text source seen = AddsAll becomes steps text source [] (seen string).units
Collects (Err string) becomes steps text source seen = AddsUpTo becomes steps text source [] (seen string).units (seen string).capacity

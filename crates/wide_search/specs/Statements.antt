-- The laws of the definitions. Each is the contract of a function of the crate.
use Rattle.std.specs.Prelude.{◌≡◌, ℕ, ◌+◌, ◌<◌, ◌↔◌, List, [], ◌∷◌, length}
use Rattle.wide_forms.specs.EncodingForm.{EncodingForm}
use Rattle.wide_forms.specs.Items.{chars, IsWellFormed, IsBoundary}
use Rattle.wide_forms.specs.Offsets.{chars_before}
use Rattle.wide_search.specs.Occurrences.{OccursAt, IsFirstAt, IsLastAt}
use Rattle.wide_search.specs.Substrings.{AreSubstrings, joined_with}
use Rattle.wide_search.specs.Cut.{substrings}

-- A needle has at most one first occurrence.
abbrev pub FirstIsUnique : Type 0 → Type 0
FirstIsUnique A = (needle whole : List A) (one other : ℕ) → IsFirstAt needle whole one → IsFirstAt needle whole other → one ≡ other

-- A needle has at most one last occurrence.
abbrev pub LastIsUnique : Type 0 → Type 0
LastIsUnique A = (needle whole : List A) (one other : ℕ) → IsLastAt needle whole one → IsLastAt needle whole other → one ≡ other

-- A list is split at a needle that is not empty into `substrings`.
abbrev pub SubstringsExist : Type 0
SubstringsExist = (needle whole : List ℕ) → 0 < length needle → AreSubstrings needle whole (substrings needle whole)

-- A list is split at a needle that is not empty into no other substrings than `substrings`.
abbrev pub SubstringsAreUnique : Type 0
SubstringsAreUnique = (needle whole : List ℕ) (others : List (List ℕ)) → 0 < length needle → AreSubstrings needle whole others → others ≡ substrings needle whole

-- For an empty needle, the list is the only substring.
abbrev pub WholeAtNoNeedle : Type 0
WholeAtNoNeedle = (whole : List ℕ) → substrings [] whole ≡ whole ∷ []

-- Substrings, joined with the needle, are the list.
abbrev pub SubstringsJoin : Type 0
SubstringsJoin = (needle whole : List ℕ) (some : List (List ℕ)) → AreSubstrings needle whole some → joined_with needle some ≡ whole

-- A well-formed needle that is not empty occurs in any units only between their items: both its ends are boundaries.
abbrev pub NeedlesAreBetweenCharacters : Type 0
NeedlesAreBetweenCharacters = (form : EncodingForm) (needle us : List ℕ) (at : ℕ) → IsWellFormed form needle → 0 < length needle → OccursAt needle us at → IsBoundary form us at × IsBoundary form us (at + length needle)

-- In well-formed units, a well-formed needle occurs at a boundary exactly if the needle's characters occur after the
-- characters before this boundary.
abbrev pub NeedlesAreOfCharacters : Type 0
NeedlesAreOfCharacters = (form : EncodingForm) (needle us : List ℕ) (at : ℕ) → IsWellFormed form needle → IsWellFormed form us → IsBoundary form us at
    → OccursAt needle us at ↔ OccursAt (chars form needle) (chars form us) (chars_before form us at)

-- The first occurrence of a well-formed needle in well-formed units is the first one among the characters.
abbrev pub FirstIsOfCharacters : Type 0
FirstIsOfCharacters = (form : EncodingForm) (needle us : List ℕ) (at : ℕ) → IsWellFormed form needle → IsWellFormed form us → 0 < length needle → IsFirstAt needle us at
    → IsFirstAt (chars form needle) (chars form us) (chars_before form us at)

-- The last occurrence of a well-formed needle in well-formed units is the last one among the characters.
abbrev pub LastIsOfCharacters : Type 0
LastIsOfCharacters = (form : EncodingForm) (needle us : List ℕ) (at : ℕ) → IsWellFormed form needle → IsWellFormed form us → 0 < length needle → IsLastAt needle us at
    → IsLastAt (chars form needle) (chars form us) (chars_before form us at)

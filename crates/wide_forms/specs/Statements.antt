-- The laws of the definitions. Each is the contract of a function of `wide_unit`.
use Rattle.std.specs.Prelude.{◌≡◌, ◌≢◌, ℕ, ◌*◌, ◌≤◌, ◌↔◌, List, [], ◌∷◌, ◌++◌, map, length, take, drop, slice_range, Some, None, Bool, false}
use Rattle.std.specs.Char.{IsScalar, encode_utf8}
use Rattle.std.specs.List.{All, Contains, splice}
use Rattle.std.specs.declared.cmp.Ordering.TheVariants.{Equal}
use Rattle.std.specs.Ordering.{nat_cmp}
use Rattle.std.specs.Cmp.Lexicographic.{slice_cmp}
use Rattle.wide_forms.specs.EncodingForm.{EncodingForm, Utf16, Utf32, encode, IsCodeUnit}
use Rattle.wide_forms.specs.Segmentation.{Item, Char, Fault, IsSegmentation, IsSegmentation16, IsSegmentation32, IsLooseSegmentation}
use Rattle.wide_forms.specs.Items.{items, chars, IsWellFormed, IsBoundary, first_fault, IsFirstFault}
use Rattle.wide_forms.specs.Offsets.{IsOffsetOf, IsCharBoundary, chars_before}
use Rattle.wide_forms.specs.Lossy.{lossy, lossy_by, past_faults, ends_in_fault, lossy_after}
use Rattle.wide_forms.specs.declared.policy.Policy.{Policy}
use Rattle.wide_forms.specs.declared.policy.Policy.TheVariants.{Each, Run, Skip}
use Rattle.wide_forms.specs.Lines.{line_feed, without_return, lines_of}
use Rattle.wide_forms.specs.Utf8.{utf8_bytes, utf8}
use Rattle.wide_forms.specs.CodePoint.{code_point_at}

-- Each list of units has a segmentation, which is `items`.
abbrev pub SegmentationExists : Type 0
SegmentationExists = (form : EncodingForm) (units : List ℕ) → IsSegmentation form (items form units) units

-- No list of units has another segmentation.
abbrev pub SegmentationIsUnique : Type 0
SegmentationIsUnique = (form : EncodingForm) (units : List ℕ) (other : List Item) → IsSegmentation form other units → other ≡ items form units

-- For code units of UTF-16, `IsSegmentation` is the definition of the Standard.
abbrev pub SegmentationIsLiteral16 : Type 0
SegmentationIsLiteral16 = (is : List Item) (units : List ℕ) → All (IsCodeUnit Utf16) units → IsSegmentation Utf16 is units ↔ IsSegmentation16 is units

-- For any numbers, `IsSegmentation` in UTF-32 is the definition of the Standard.
abbrev pub SegmentationIsLiteral32 : Type 0
SegmentationIsLiteral32 = (is : List Item) (units : List ℕ) → IsSegmentation Utf32 is units ↔ IsSegmentation32 is units

-- Without the clause on adjacent faults, one surrogate pair has two segmentations.
abbrev pub LooseSegmentationsDiffer : Type 0
LooseSegmentationsDiffer =
    (one other : List Item) × IsLooseSegmentation Utf16 one (0xD83D ∷ 0xDE00 ∷ []) × IsLooseSegmentation Utf16 other (0xD83D ∷ 0xDE00 ∷ []) × (one ≢ other)

-- After well-formed units, the items of concatenated lists are the concatenated items.
abbrev pub ItemsJoinAfter : Type 0
ItemsJoinAfter = (form : EncodingForm) (a b : List ℕ) → IsWellFormed form a → items form (a ++ b) ≡ items form a ++ items form b

-- Before well-formed units, the items of concatenated lists are the concatenated items.
abbrev pub ItemsJoinBefore : Type 0
ItemsJoinBefore = (form : EncodingForm) (a b : List ℕ) → IsWellFormed form b → items form (a ++ b) ≡ items form a ++ items form b

-- In UTF-32 a unit is a character exactly if it is a scalar value, whatever follows it.
abbrev pub Units32AreItems : Type 0
Units32AreItems = (u : ℕ) (us : List ℕ) → (IsScalar u → items Utf32 (u ∷ us) ≡ Char u ∷ items Utf32 us) × (¬ (IsScalar u) → items Utf32 (u ∷ us) ≡ Fault u ∷ items Utf32 us)

-- In UTF-32, the items of concatenated lists are the concatenated items.
abbrev pub Items32Join : Type 0
Items32Join = (a b : List ℕ) → items Utf32 (a ++ b) ≡ items Utf32 a ++ items Utf32 b

-- In UTF-32, there are as many items as units.
abbrev pub Items32Count : Type 0
Items32Count = (us : List ℕ) → length (items Utf32 us) ≡ length us

-- In UTF-16 there are at least half as many items as units, rounded up, well formed or not.
abbrev pub Items16Count : Type 0
Items16Count = (us : List ℕ) → length us ≤ 2 * length (items Utf16 us)

-- Lossy text consists of scalar values.
abbrev pub LossyIsScalars : Type 0
LossyIsScalars = (form : EncodingForm) (us : List ℕ) → All IsScalar (lossy (items form us))

-- The encoding of the lossy text of well-formed units is these units.
abbrev pub LossyKeepsWellFormed : Type 0
LossyKeepsWellFormed = (form : EncodingForm) (us : List ℕ) → IsWellFormed form us → encode form (lossy (items form us)) ≡ us

-- The encoding of lossy text is well formed.
abbrev pub LossyIsWellFormed : Type 0
LossyIsWellFormed = (form : EncodingForm) (us : List ℕ) → IsWellFormed form (encode form (lossy (items form us)))

-- The encoding of lossy text is the encoding of its own lossy text.
abbrev pub LossyOnceIsEnough : Type 0
LossyOnceIsEnough = (form : EncodingForm) (us : List ℕ) → encode form (lossy (items form (encode form (lossy (items form us))))) ≡ encode form (lossy (items form us))

-- The encoding of lossy text has as many units as the original.
abbrev pub LossyKeepsLength : Type 0
LossyKeepsLength = (form : EncodingForm) (us : List ℕ) → length (encode form (lossy (items form us))) ≡ length us

-- The units before the first fault are well formed, and lossy text begins with them unchanged.
abbrev pub LossyKeepsPrefix : Type 0
LossyKeepsPrefix = (form : EncodingForm) (us : List ℕ) (index item u : ℕ) → IsFirstFault form us index item u
    → IsWellFormed form (take index us) × (encode form (lossy (items form us)) ≡ take index us ++ encode form (lossy (items form (drop index us))))

-- The encoding of scalar values is well formed.
abbrev pub EncodingIsWellFormed : Type 0
EncodingIsWellFormed = (form : EncodingForm) (cs : List ℕ) → All IsScalar cs → IsWellFormed form (encode form cs)

-- The encoding of scalar values decodes to them.
abbrev pub EncodingDecodes : Type 0
EncodingDecodes = (form : EncodingForm) (cs : List ℕ) → All IsScalar cs → items form (encode form cs) ≡ map Char cs

-- Well-formed units are the encoding of their characters, which are scalar values.
abbrev pub WellFormedIsEncoded : Type 0
WellFormedIsEncoded = (form : EncodingForm) (us : List ℕ) → IsWellFormed form us → All IsScalar (chars form us) × (encode form (chars form us) ≡ us)

-- In well-formed units, an offset is a boundary exactly if it is the beginning or the end, or if the unit at it is no
-- low surrogate.
abbrev pub BoundariesAreSeen : Type 0
BoundariesAreSeen = (form : EncodingForm) (us : List ℕ) (offset : ℕ) → IsWellFormed form us → IsBoundary form us offset ↔ IsCharBoundary form us offset

-- Only characters precede the first fault. Its index is their length in units, and its item number is their number.
abbrev pub FirstFaultsAreAfterText : Type 0
FirstFaultsAreAfterText = (form : EncodingForm) (us : List ℕ) (index item u : ℕ)
    → IsFirstFault form us index item u ↔ ((prefix : List ℕ) × (rest : List Item) × (items form us ≡ map Char prefix ++ Fault u ∷ rest) × (length (encode form prefix) ≡ index) × (length prefix ≡ item))

-- The item number of the first fault is the number of characters before its index.
abbrev pub FirstFaultsAreCounted : Type 0
FirstFaultsAreCounted = (form : EncodingForm) (us : List ℕ) (index item u : ℕ) → IsFirstFault form us index item u → item ≡ chars_before form us index

-- Units are well formed exactly if they have no first fault.
abbrev pub WellFormedOrFaulty : Type 0
WellFormedOrFaulty = (form : EncodingForm) (us : List ℕ) → IsWellFormed form us ↔ (first_fault form (items form us) ≡ None)

-- In well-formed units, each character begins at one offset: the length in units of those before it.
abbrev pub OffsetsAreLengths : Type 0
OffsetsAreLengths = (form : EncodingForm) (us : List ℕ) (index offset : ℕ) → IsWellFormed form us → IsOffsetOf form us index offset ↔ (offset ≡ length (encode form (take index (chars form us))))

-- In well-formed units, each boundary is the offset of the character whose index is the number of characters before it.
abbrev pub BoundariesAreOffsets : Type 0
BoundariesAreOffsets = (form : EncodingForm) (us : List ℕ) (offset : ℕ) → IsWellFormed form us → IsBoundary form us offset → IsOffsetOf form us (chars_before form us offset) offset

-- Well-formed units that are split at a boundary are well formed.
abbrev pub CutsAreWellFormed : Type 0
CutsAreWellFormed = (form : EncodingForm) (us : List ℕ) (offset : ℕ) → IsWellFormed form us → IsBoundary form us offset → IsWellFormed form (take offset us) × IsWellFormed form (drop offset us)

-- The slice of well-formed units between two boundaries is well formed, and its characters are those between them.
abbrev pub PartsAreWellFormed : Type 0
PartsAreWellFormed = (form : EncodingForm) (us : List ℕ) (from to : ℕ) → IsWellFormed form us → IsBoundary form us from → IsBoundary form us to → from ≤ to
    → IsWellFormed form (slice_range us from to) × (chars form (slice_range us from to) ≡ slice_range (chars form us) (chars_before form us from) (chars_before form us to))

-- If well-formed units replace those between two boundaries, the result is well formed, and the new characters replace
-- those between the boundaries.
abbrev pub SplicesAreWellFormed : Type 0
SplicesAreWellFormed = (form : EncodingForm) (us new : List ℕ) (from to : ℕ) → IsWellFormed form us → IsWellFormed form new → IsBoundary form us from → IsBoundary form us to
    → IsWellFormed form (splice us from to new) × (chars form (splice us from to new) ≡ splice (chars form us) (chars_before form us from) (chars_before form us to) (chars form new))

-- An encoding, split after the units of its first `i` characters, gives the encodings of those characters and of the
-- rest.
abbrev pub EncodingsAreCut : Type 0
EncodingsAreCut = (form : EncodingForm) (cs : List ℕ) (i : ℕ)
    → (encode form (take i cs) ≡ take (length (encode form (take i cs))) (encode form cs)) × (encode form (drop i cs) ≡ drop (length (encode form (take i cs))) (encode form cs))

-- If `i` is at most `j`, the first `j` characters have at least as many units as the first `i`.
abbrev pub OffsetsGrow : Type 0
OffsetsGrow = (form : EncodingForm) (cs : List ℕ) (i j : ℕ) → i ≤ j → length (encode form (take i cs)) ≤ length (encode form (take j cs))

-- Replacing characters `i` to `j` of a text replaces exactly their units in its encoding.
abbrev pub EncodingsAreSpliced : Type 0
EncodingsAreSpliced = (form : EncodingForm) (cs new : List ℕ) (i j : ℕ)
    → encode form (splice cs i j new) ≡ splice (encode form cs) (length (encode form (take i cs))) (length (encode form (take j cs))) (encode form new)

-- Characters that are selected from those of well-formed units, as by a filter, have well-formed units, which decode to
-- them.
abbrev pub FiltersAreWellFormed : Type 0
FiltersAreWellFormed = (form : EncodingForm) (us picked : List ℕ) → IsWellFormed form us → ((c : ℕ) → Contains picked c → Contains (chars form us) c)
    → IsWellFormed form (encode form picked) × (chars form (encode form picked) ≡ picked)

-- Well-formed units are equal exactly if their characters are.
abbrev pub EqualCharacters : Type 0
EqualCharacters = (form : EncodingForm) (us vs : List ℕ) → IsWellFormed form us → IsWellFormed form vs → (us ≡ vs) ↔ (chars form us ≡ chars form vs)

-- The bytes of Table 3-6 are those that std writes.
abbrev pub Utf8IsStds : Type 0
Utf8IsStds = (c : ℕ) → utf8_bytes c ≡ encode_utf8 c

-- The code point at the beginning of UTF-8 is the first character, and the bytes of the others follow it.
abbrev pub CodePointOfText : Type 0
CodePointOfText = (c : ℕ) (cs : List ℕ) → IsScalar c → code_point_at (utf8 (c ∷ cs)) ≡ Some (c, utf8 cs)

-- Empty text has no code point.
abbrev pub CodePointOfNone : Type 0
CodePointOfNone = code_point_at (utf8 []) ≡ None

-- Lists of numbers compare as equal exactly if they are equal.
abbrev pub OrderAgreesWithEquality : Type 0
OrderAgreesWithEquality = (us vs : List ℕ) → (slice_cmp nat_cmp us vs ≡ Equal) ↔ (us ≡ vs)

-- No units have no lines.
abbrev pub NoUnitsNoLines : Type 0
NoUnitsNoLines = (form : EncodingForm) → lines_of (items form []) ≡ []

-- Units without a line feed are one line, if there are any.
abbrev pub UnendedIsOneLine : Type 0
UnendedIsOneLine = (form : EncodingForm) (us : List ℕ) → us ≢ [] → All (λ u. u ≢ line_feed) us → lines_of (items form us) ≡ items form us ∷ []

-- The first line feed among the units ends the first line, which loses a carriage return at its end. The other lines
-- are those of the units after the line feed.
abbrev pub FeedEndsLine : Type 0
FeedEndsLine = (form : EncodingForm) (prefix suffix : List ℕ) → All (λ u. u ≢ line_feed) prefix
    → lines_of (items form (prefix ++ line_feed ∷ suffix)) ≡ without_return (items form prefix) ∷ lines_of (items form suffix)

-- Lossy text under the policy that yields U+FFFD for each fault is lossy text without a policy.
abbrev pub EachIsLossy : Type 0
EachIsLossy = (is : List Item) → lossy_by Each is ≡ lossy is

-- A character separates lossy text, whatever is on both sides.
abbrev pub CharactersPartLossy : Type 0
CharactersPartLossy = (policy : Policy) (a b : List Item) (c : ℕ) → lossy_by policy (a ++ Char c ∷ b) ≡ lossy_by policy a ++ c ∷ lossy_by policy b

-- Under `Run`, faults alone yield one U+FFFD.
abbrev pub RunsGiveOne : Type 0
RunsGiveOne = (u : ℕ) (us : List ℕ) → lossy_by Run (map Fault (u ∷ us)) ≡ 0xFFFD ∷ []

-- Under `Skip`, faults alone yield nothing.
abbrev pub SkipGivesNone : Type 0
SkipGivesNone = (us : List ℕ) → lossy_by Skip (map Fault us) ≡ []

-- Under `Run`, the faults that directly follow a fault yield nothing.
abbrev pub RunsGoOn : Type 0
RunsGoOn = (a b : List Item) (u : ℕ) → lossy_by Run (a ++ Fault u ∷ b) ≡ lossy_by Run (a ++ Fault u ∷ []) ++ lossy_by Run (past_faults b)

-- If no fault precedes the items, `lossy_after` gives their lossy text under the policy.
abbrev pub LossyAfterNone : Type 0
LossyAfterNone = (policy : Policy) (is : List Item) → lossy_after policy false is ≡ lossy_by policy is

-- The lossy text of concatenated lists is that of the first, and that of the second after it, which depends only on
-- whether the first ends in a fault.
abbrev pub LossyGoesOn : Type 0
LossyGoesOn = (policy : Policy) (after : Bool) (a b : List Item) → lossy_after policy after (a ++ b) ≡ lossy_after policy after a ++ lossy_after policy (ends_in_fault after a) b

-- Lossy text under a policy consists of scalar values.
abbrev pub PoliciesGiveScalars : Type 0
PoliciesGiveScalars = (policy : Policy) (form : EncodingForm) (us : List ℕ) → All IsScalar (lossy_by policy (items form us))

-- The encoding of the lossy text of well-formed units under a policy is these units.
abbrev pub PoliciesKeepWellFormed : Type 0
PoliciesKeepWellFormed = (policy : Policy) (form : EncodingForm) (us : List ℕ) → IsWellFormed form us → encode form (lossy_by policy (items form us)) ≡ us

-- Lossy text of encoded lossy text, under the same policy, is the same.
abbrev pub PoliciesTwice : Type 0
PoliciesTwice =
    (policy : Policy) (form : EncodingForm) (us : List ℕ) → lossy_by policy (items form (encode form (lossy_by policy (items form us)))) ≡ lossy_by policy (items form us)

-- The encoding of lossy text under a policy has at most as many units as the original.
abbrev pub PoliciesNeverLengthen : Type 0
PoliciesNeverLengthen = (policy : Policy) (form : EncodingForm) (us : List ℕ) → length (encode form (lossy_by policy (items form us))) ≤ length us

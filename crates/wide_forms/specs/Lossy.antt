-- Lossy text: the Standard's D93b and, in its section 3.9, "U+FFFD Substitution of Maximal Subparts".
use Rattle.std.specs.Prelude.{ℕ, List, [], ◌∷◌, map, Bool, true, false, if◌then◌else◌, Option, Some, None, Result, Ok, Err}
use Rattle.wide_forms.specs.Segmentation.{Item, Char, Fault}
use Rattle.wide_forms.specs.Items.{characters}
use Rattle.wide_forms.specs.declared.policy.Policy.{Policy}
use Rattle.wide_forms.specs.declared.policy.Policy.TheVariants.{Each, Run, Skip}

-- The character, or U+FFFD in place of a fault.
abbrev pub lossy_char : Item → ℕ
lossy_char (Char c) = c
lossy_char (Fault u) = 0xFFFD

-- One character for each item: a run of faults yields a U+FFFD for each.
abbrev pub lossy : List Item → List ℕ
lossy is = map lossy_char is

-- The first item is a fault.
abbrev pub begins_with_fault : List Item → Bool
begins_with_fault [] = false
begins_with_fault (Char c ∷ is) = false
begins_with_fault (Fault u ∷ is) = true

-- The characters, and one U+FFFD for each longest run of adjacent faults: a fault directly before another yields none.
abbrev pub lossy_runs : List Item → List ℕ
lossy_runs [] = []
lossy_runs (Char c ∷ is) = c ∷ lossy_runs is
lossy_runs (Fault u ∷ is) = if begins_with_fault is then lossy_runs is else 0xFFFD ∷ lossy_runs is

-- Lossy text under a policy.
abbrev pub lossy_by : Policy → List Item → List ℕ
lossy_by Each is = lossy is
lossy_by Run is = lossy_runs is
lossy_by Skip is = characters is

-- The items after the longest run of faults at the beginning.
abbrev pub past_faults : List Item → List Item
past_faults [] = []
past_faults (Char c ∷ is) = Char c ∷ is
past_faults (Fault u ∷ is) = past_faults is

-- Whether the last item is a fault, where `after_fault` says whether a fault precedes the items.
abbrev pub ends_in_fault : Bool → List Item → Bool
ends_in_fault after_fault [] = after_fault
ends_in_fault after_fault (Char c ∷ is) = ends_in_fault false is
ends_in_fault after_fault (Fault u ∷ is) = ends_in_fault true is

-- Lossy text of items that follow others. `after_fault` says whether a fault directly precedes them; under `Run` its
-- run then continues without another U+FFFD.
abbrev pub lossy_after : Policy → Bool → List Item → List ℕ
lossy_after Each after_fault is = lossy is
lossy_after Run true is = lossy_runs (past_faults is)
lossy_after Run false is = lossy_runs is
lossy_after Skip after_fault is = characters is

-- What a policy yields for a fault, where `after_fault` says whether another fault directly precedes it.
abbrev pub replacement : Policy → Bool → Option ℕ
replacement Each after_fault = Some 0xFFFD
replacement Run true = None
replacement Run false = Some 0xFFFD
replacement Skip after_fault = None

-- The character, or U+FFFD in place of an error.
abbrev pub or_replacement : {E : Type 0} → Result ℕ E → ℕ
or_replacement (Ok c) = c
or_replacement (Err e) = 0xFFFD

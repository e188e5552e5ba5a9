-- The text of items that were read: under a policy, or strictly if there is none.
use Rattle.std.specs.Prelude.{ℕ, suc, Bool, List, [], ◌∷◌, Option, Some, None}
use Rattle.wide_forms.specs.Items.{characters}
use Rattle.wide_forms.specs.Lossy.{lossy_after}
use Rattle.wide_forms.specs.Segmentation.{Item, Char, Fault}
use Rattle.wide_forms.specs.declared.policy.Policy.{Policy}

-- The characters of the items, and what the policy yields for faults, where `after_fault` says whether a fault directly
-- precedes the items. Without a policy faults yield nothing.
abbrev pub text_by : Option Policy → Bool → List Item → List ℕ
text_by None after_fault is = characters is
text_by (Some policy) after_fault is = lossy_after policy after_fault is

-- How many of the items are faults.
abbrev pub faults_in : List Item → ℕ
faults_in [] = 0
faults_in (Char c ∷ is) = faults_in is
faults_in (Fault u ∷ is) = suc (faults_in is)

-- Definitions for UTF-16 in bytes: the numbers that C programs pass for byte orders and flags, and the text of bytes.
use Rattle.std.specs.Prelude.{◌≡◌, ◌%◌, ℕ, Bool, true, false, List, Option, Some, None, ◌==◌, if◌then◌else◌, length}
use Rattle.wide_forms.specs.EncodingForm.{Utf16}
use Rattle.wide_forms.specs.Items.{IsWellFormed, chars}
use Rattle.wide_forms.specs.Utf8.{utf8}
use Rattle.wide_forms.specs.declared.policy.Policy.{Policy}
use Rattle.wide_bytes.specs.Bytes.{units_in}
use Rattle.wide_transcode.specs.Lossied.{units_end_in_fault, lossy_text}
use Rattle.wide_bytes.specs.declared.order.BoM.{BoM}
use Rattle.wide_bytes.specs.declared.order.BoM.TheVariants.{Little, Big}
use Rattle.widestring_c.specs.Policies.{policy_of}

-- The byte order with a number.
abbrev pub order_named : ℕ → Option BoM
order_named n = if n == 0 then Some Little else if n == 1 then Some Big else None

-- The number of the byte order of a BOM, or 2 for no BOM.
abbrev pub number_of_bom : Option BoM → ℕ
number_of_bom (Some Little) = 0
number_of_bom (Some Big) = 1
number_of_bom None = 2

-- Both values, if there are two.
abbrev pub both : {A B : Type 0} → Option A → Option B → Option (A × B)
both (Some a) (Some b) = Some (a, b)
both (Some a) None = None
both None b = None

-- The flag that a number stands for.
abbrev pub is_set : ℕ → Bool
is_set n = if n == 0 then false else true

-- The number for a flag.
abbrev pub number_of_flag : Bool → ℕ
number_of_flag true = 1
number_of_flag false = 0

-- The lossy text of the units in bytes; `after` says whether the unit before the bytes is ill-formed.
abbrev pub bytes_text : BoM → Policy → Bool → List ℕ → List ℕ
bytes_text order policy after bytes = lossy_text policy after (units_in order bytes)

-- Whether the last unit in bytes is ill-formed; `after` says whether the unit before the bytes is ill-formed.
abbrev pub bytes_end_in_fault : BoM → Bool → List ℕ → Bool
bytes_end_in_fault order after bytes = units_end_in_fault after (units_in order bytes)

-- Bytes in an order are well-formed UTF-16: whole units, and all of them well formed (the Standard's D91, D96 and D97).
abbrev pub IsWellFormedIn : BoM → List ℕ → Type 0
IsWellFormedIn order bytes = (length bytes % 2 ≡ 0) × IsWellFormed Utf16 (units_in order bytes)

-- Bytes are well-formed UTF-16 in the order with a number.
abbrev pub IsWellFormedBy : ℕ → List ℕ → Type 0
IsWellFormedBy number bytes = (order : BoM) × (order_named number ≡ Some order) × IsWellFormedIn order bytes

-- The UTF-8 of bytes of well-formed UTF-16.
abbrev pub text_in : BoM → List ℕ → List ℕ
text_in order bytes = utf8 (chars Utf16 (units_in order bytes))

-- The order and the policy with two numbers.
abbrev pub order_and_policy : ℕ → ℕ → Option (BoM × Policy)
order_and_policy order policy = both (order_named order) (policy_of policy)

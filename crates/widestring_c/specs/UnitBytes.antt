-- Units as bytes in either order, and units with their bytes swapped.
use Rattle.std.specs.Prelude.{◌≡◌, ◌+◌, ◌*◌, ◌/◌, ◌%◌, ◌-◌, ◌^◌, ◌<◌, ◌≤◌, ◌==◌, if◌then◌else◌, ℕ, List, Option, None, length, take, drop}
use Rattle.wide_forms.specs.EncodingForm.{EncodingForm}
use Rattle.wide_forms.specs.UnitBytes.{big_bytes_of, little_bytes_of, unit_width}
use Rattle.wide_bytes.specs.declared.order.BoM.{BoM}
use Rattle.wide_bytes.specs.declared.order.BoM.TheVariants.{Little, Big}
use Rattle.widestring_c.specs.Bytes.{order_named}

-- The order with a number, if the bytes are whole units of this width.
abbrev pub whole_order : ℕ → ℕ → List ℕ → Option BoM
whole_order width order bytes = if length bytes % width == 0 then order_named order else None

-- The bytes of units of either width in an order.
abbrev pub bytes_by : EncodingForm → BoM → List ℕ → List ℕ
bytes_by form Little units = little_bytes_of form units
bytes_by form Big units = big_bytes_of form units

-- The bytes of the units are `count`. If they fit, they are at the start of the buffer. The bytes after them are
-- unchanged.
pub record WroteBytes (form : EncodingForm) (order : BoM) (units before : List ℕ) (count : ℕ) (after : List ℕ) : Type 0 where
  pub len : count ≡ unit_width form * length units
  pub fits : count < 2 ^ 64 - 1
  pub bytes : count ≤ length before → take count after ≡ bytes_by form order units
  pub beyond : drop count after ≡ drop count before

-- The unit of 16 bits with its two bytes swapped.
abbrev pub swapped_16 : ℕ → ℕ
swapped_16 u = u % 0x100 * 0x100 + u / 0x100

-- The unit of 32 bits with its four bytes in reverse order.
abbrev pub swapped_32 : ℕ → ℕ
swapped_32 u = u % 0x100 * 0x100_0000 + u / 0x100 % 0x100 * 0x1_0000 + u / 0x1_0000 % 0x100 * 0x100 + u / 0x100_0000

-- The UTF-8 of a scalar value as one number, low byte first, and its length in bytes.
use Rattle.std.specs.Prelude.{◌≡◌, ℕ, ◌+◌, ◌*◌, ◌/◌, ◌%◌, ◌<◌, ◌≤◌}

-- The UTF-8 of a scalar value as one number, low byte first.
pub record IsScalarWord (c word : ℕ) : Type 0 where
  pub one : c < 0x80 → word ≡ c
  pub two : 0x80 ≤ c → c < 0x800 → word ≡ 0x80c0 + c / 0x40 + c % 0x40 * 0x100
  pub three : 0x800 ≤ c → c < 0x1_0000 → word ≡ 0x80_80e0 + c / 0x1000 + c / 0x40 % 0x40 * 0x100 + c % 0x40 * 0x1_0000
  pub four : 0x1_0000 ≤ c → word ≡ 0x8080_80f0 + c / 0x4_0000 + c / 0x1000 % 0x40 * 0x100 + c / 0x40 % 0x40 * 0x1_0000 + c % 0x40 * 0x100_0000

-- The length of a scalar value in UTF-8 bytes.
pub record IsScalarLen (c len : ℕ) : Type 0 where
  pub one : c < 0x80 → len ≡ 1
  pub two : 0x80 ≤ c → c < 0x800 → len ≡ 2
  pub three : 0x800 ≤ c → c < 0x1_0000 → len ≡ 3
  pub four : 0x1_0000 ≤ c → len ≡ 4

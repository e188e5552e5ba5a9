-- What a format argument for a hexadecimal number writes.
use Rattle.std.proofs.Common.{◌≡◌, ℕ, ◌-◌, ◌^◌, false, true, [], length, arith}
use Rattle.std.specs.Fmt.{digits, padded_integral, format_spec, char_count}
use Rattle.std.proofs.lemmas.List.{append-nil}
use Rattle.widetext_requests.specs.Lines.{padded_hex}

pub hex_hole : (width n : ℕ) → padded_integral (format_spec 32 0 4 width (2 ^ 64 - 1)) false [] (digits 16 true n) ≡ padded_hex width n
unfolding padded_integral char_count
hex_hole width n =
    let unsigned : width - length (digits 16 true n) - 0 - 0 ≡ width - length (digits 16 true n) = omega arith in
    simp (append-nil, unsigned)

-- A pair as one character, and as two faults.
use Rattle.std.proofs.Common.{suc, zero, [], ◌∷◌, refl, arith, lit≤}
use Rattle.std.specs.List.{All}
use Rattle.wide_forms.specs.EncodingForm.{Utf16}
use Rattle.wide_forms.specs.Segmentation.{Char, Fault, IsItem}
use Rattle.wide_forms.specs.Laws.Forms.{IsFault-surrogate}
use Rattle.wide_unit.proofs.laws.neighbours_matter.Goals as goal

one_proper : All (IsItem Utf16) (Char 0x1_F600 ∷ [])
one_proper zero d within = refl
one_proper (suc k) d within = absurd (omega arith)

two_proper : All (IsItem Utf16) (Fault 0xD83D ∷ Fault 0xDE00 ∷ [])
two_proper zero d within = IsFault-surrogate 0xD83D (lit≤ tt) (lit≤ tt)
two_proper (suc zero) d within = IsFault-surrogate 0xDE00 (lit≤ tt) (lit≤ tt)
two_proper (suc (suc k)) d within = absurd (omega arith)

pub returns : goal.returns
returns c = (Char 0x1_F600 ∷ [], Fault 0xD83D ∷ Fault 0xDE00 ∷ [], record { joined = refl; proper = one_proper }, record { joined = refl; proper = two_proper }, λ e. cc)

-- The results at the end of the input.
use Rattle.std.proofs.Common.{◌≡◌, ◌≢◌, ℕ, ◌≤◌, ◌⊎◌, inl, inr, List, [], ◌∷◌, length, get_or, refl, sym, ap, ◌∙◌, arith, subst}
use Rattle.std.specs.Prelude.{Err}
use Rattle.wide_forms.specs.EncodingForm.{Utf16, IsHighSurrogate}
use Rattle.wide_bytes.specs.Bytes.{unit_in, units_in}
use Rattle.wide_transcode.specs.Encoded.{IsPending}
use Rattle.wide_transcode.specs.Chunks.{Finishes, IsFaultAt}
use Rattle.wide_bytes.specs.declared.order.BoM.{BoM}
use Rattle.wide_error.specs.declared.error.TranscodeError.{TranscodeError}
use Rattle.wide_error.specs.declared.error.TranscodeError.TheVariants.{Utf16 as Utf16Fault, OutOfMemory, OddLength, Read, Write}

fault-answer : (T : Type 0) (order : BoM) (rest : List ℕ) (offset number u : ℕ) (e : TranscodeError) → units_in order rest ≡ u ∷ [] → IsHighSurrogate Utf16 u → IsFaultAt e offset number u → Finishes {T = T} (Err e) order rest offset number
fault-answer T order rest offset number u (Utf16Fault index item unit) one high at = (at.0, at.1, one ∙ ap (λ v. v ∷ []) (sym at.2), subst (λ v. IsHighSurrogate Utf16 v) (sym at.2) high)
fault-answer T order rest offset number u OutOfMemory one high at = (at, u, one, high)
fault-answer T order rest offset number u OddLength one high at = absurd at
fault-answer T order rest offset number u Read one high at = absurd at
fault-answer T order rest offset number u Write one high at = absurd at

pub finished-fault : (T : Type 0) (order : BoM) (rest : List ℕ) (offset number u : ℕ) (e : TranscodeError) → IsPending order rest → 2 ≤ length rest → u ≡ unit_in order (get_or rest 0 0) (get_or rest 1 0) → u ≢ 0 → IsFaultAt e offset number u → Finishes {T = T} (Err e) order rest offset number
unfolding units_in
finished-fault T order [] offset number u e pending long is some at = absurd (omega arith)
finished-fault T order (a ∷ []) offset number u e pending long is some at = absurd (omega arith)
finished-fault T order (a ∷ b ∷ []) offset number u e (inl high) long is some at = fault-answer T order (a ∷ b ∷ []) offset number u e (ap (λ v. v ∷ []) (sym is)) (subst (λ v. IsHighSurrogate Utf16 v) (sym is) high) at
finished-fault T order (a ∷ b ∷ []) offset number u e (inr none) long is some at = absurd (some (is ∙ none))
finished-fault T order (a ∷ b ∷ c ∷ []) offset number u e pending long is some at = fault-answer T order (a ∷ b ∷ c ∷ []) offset number u e (ap (λ v. v ∷ []) (sym is)) (subst (λ v. IsHighSurrogate Utf16 v) (sym is) pending) at
finished-fault T order (a ∷ b ∷ c ∷ d ∷ rest) offset number u e pending long is some at = absurd pending

pub finished-ok : (order : BoM) (rest : List ℕ) (u : ℕ) → IsPending order rest → 2 ≤ length rest → u ≡ unit_in order (get_or rest 0 0) (get_or rest 1 0) → u ≡ 0 → (rest ≡ []) ⊎ ((length rest ≡ 2) × (units_in order rest ≡ 0 ∷ []))
unfolding units_in
finished-ok order [] u pending long is none = absurd (omega arith)
finished-ok order (a ∷ []) u pending long is none = absurd (omega arith)
finished-ok order (a ∷ b ∷ []) u pending long is none = inr (refl, ap (λ v. v ∷ []) (sym is ∙ none))
finished-ok order (a ∷ b ∷ c ∷ []) u pending long is none = absurd (omega (arith, pending.0, is, none))
finished-ok order (a ∷ b ∷ c ∷ d ∷ rest) u pending long is none = absurd pending

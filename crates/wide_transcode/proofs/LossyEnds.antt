-- The lossy text of what is left at the end of the input.
use Rattle.std.proofs.Common.{◌≡◌, ◌≢◌, ℕ, zero, suc, ◌<◌, ◌≤◌, ◌⊎◌, inl, inr, Bool, cond, List, [], ◌∷◌, Some, None, length, get_or, refl, sym, ap, ◌∙◌, arith}
use Rattle.std.specs.Prelude.{Option}
use Rattle.wide_forms.specs.EncodingForm.{Utf16, IsHighSurrogate}
use Rattle.wide_forms.specs.Lossy.{replacement}
use Rattle.wide_forms.specs.Utf8.{utf8}
use Rattle.wide_forms.specs.Laws.Policies.{replacement-is}
use Rattle.wide_forms.specs.declared.policy.Policy.{Policy}
use Rattle.wide_bytes.specs.Bytes.{unit_in, units_in, without_last_zero}
use Rattle.wide_transcode.specs.Encoded.{IsPending}
use Rattle.wide_transcode.specs.Lossied.{lossy_text}
use Rattle.wide_transcode.specs.Chunks.{units_after}
use Rattle.wide_bytes.specs.declared.order.BoM.{BoM}
use Rattle.wide_transcode.proofs.Zeros.{dropped-zero, nonzero, short-left}
use Rattle.wide_transcode.proofs.Lossied.{fault_text, fault_text-text, nothing-text}

one-text : (policy : Policy) (after_fault : Bool) (us : List ℕ) (u : ℕ) → us ≡ u ∷ [] → IsHighSurrogate Utf16 u → lossy_text policy after_fault us ≡ fault_text (replacement policy after_fault)
one-text policy after_fault us u e high = ap (λ xs. lossy_text policy after_fault xs) e ∙ fault_text-text policy after_fault u [] (inr (high, λ l back f. absurd cc))

not-zero : (u : ℕ) → u ≢ 0 → without_last_zero (u ∷ []) ≡ u ∷ []
not-zero u some = dropped-zero [] u ∙ ap (λ t. cond t [] (u ∷ [])) (nonzero u some)

pub end-fault_text : (order : BoM) (policy : Policy) (after_fault : Bool) (rest : List ℕ) (u : ℕ) → IsPending order rest → 2 ≤ length rest → u ≡ unit_in order (get_or rest 0 0) (get_or rest 1 0) → u ≢ 0 → lossy_text policy after_fault (units_after order rest) ≡ fault_text (replacement policy after_fault)
unfolding units_in
end-fault_text order policy after_fault [] u pending long is some = absurd (omega arith)
end-fault_text order policy after_fault (a ∷ []) u pending long is some = absurd (omega arith)
end-fault_text order policy after_fault (a ∷ b ∷ []) u (inl high) long is some = one-text policy after_fault (units_after order (a ∷ b ∷ [])) (unit_in order a b) (not-zero (unit_in order a b) (λ e. some (is ∙ e))) high
end-fault_text order policy after_fault (a ∷ b ∷ []) u (inr none) long is some = absurd (some (is ∙ none))
end-fault_text order policy after_fault (a ∷ b ∷ c ∷ []) u pending long is some = one-text policy after_fault (units_after order (a ∷ b ∷ c ∷ [])) (unit_in order a b) refl pending
end-fault_text order policy after_fault (a ∷ b ∷ c ∷ d ∷ rest) u pending long is some = absurd pending

pub end-zero : (order : BoM) (policy : Policy) (after_fault : Bool) (rest : List ℕ) (u : ℕ) → IsPending order rest → 2 ≤ length rest → u ≡ unit_in order (get_or rest 0 0) (get_or rest 1 0) → u ≡ 0 → [] ≡ lossy_text policy after_fault (units_after order rest)
unfolding units_in
end-zero order policy after_fault [] u pending long is none = absurd (omega arith)
end-zero order policy after_fault (a ∷ []) u pending long is none = absurd (omega arith)
end-zero order policy after_fault (a ∷ b ∷ []) u pending long is none =
    let zero_unit : unit_in order a b ≡ 0 = sym is ∙ none in
    sym (nothing-text policy after_fault (units_after order (a ∷ b ∷ [])) (ap (λ v. without_last_zero (v ∷ [])) zero_unit ∙ dropped-zero [] 0))
end-zero order policy after_fault (a ∷ b ∷ c ∷ []) u pending long is none = absurd (omega (arith, pending.0, is, none))
end-zero order policy after_fault (a ∷ b ∷ c ∷ d ∷ rest) u pending long is none = absurd pending

pub end-short : (order : BoM) (policy : Policy) (after_fault : Bool) (rest : List ℕ) → length rest < 2 → [] ≡ lossy_text policy after_fault (units_after order rest)
end-short order policy after_fault rest short = sym (nothing-text policy after_fault (units_after order rest) (short-left order rest short))

fault_text-or : (policy : Policy) (after_fault : Bool) → (fault_text (replacement policy after_fault) ≡ []) ⊎ (fault_text (replacement policy after_fault) ≡ utf8 (0xFFFD ∷ []))
fault_text-or policy after_fault = by_replacement (replacement policy after_fault) refl
  where
    by_replacement : (r : Option ℕ) → replacement policy after_fault ≡ r → (fault_text r ≡ []) ⊎ (fault_text r ≡ utf8 (0xFFFD ∷ []))
    by_replacement None e = inl refl
    by_replacement (Some c) e = inr (ap (λ d. utf8 (d ∷ [])) (replacement-is policy after_fault c e))

pub left-text : (order : BoM) (policy : Policy) (after_fault : Bool) (rest : List ℕ) → IsPending order rest
    → (lossy_text policy after_fault (units_after order rest) ≡ []) ⊎ (lossy_text policy after_fault (units_after order rest) ≡ utf8 (0xFFFD ∷ []))
left-text order policy after_fault rest pending = elim (short-or (length rest)) [
  | inl short ↦ inl (sym (end-short order policy after_fault rest short))
  | inr long ↦ (
      let u = unit_in order (get_or rest 0 0) (get_or rest 1 0) in
      elim (zero-or u) [
        | inl none ↦ inl (sym (end-zero order policy after_fault rest u pending long refl none))
        | inr some ↦ (
            let is = end-fault_text order policy after_fault rest u pending long refl some in
            elim (fault_text-or policy after_fault) [
              | inl nothing ↦ inl (is ∙ nothing)
              | inr one ↦ inr (is ∙ one)
            ]
            )
      ]
      )
]
  where
    short-or : (n : ℕ) → (n < 2) ⊎ (2 ≤ n)
    short-or n = grind arith

    zero-or : (n : ℕ) → (n ≡ 0) ⊎ (n ≢ 0)
    zero-or zero = inl refl
    zero-or (suc n) = inr (λ e. absurd cc)

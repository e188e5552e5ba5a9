-- The lossy text of UTF-16, chunk by chunk.
use Rattle.std.proofs.Common.{◌≡◌, ℕ, ◌+◌, ◌-◌, ◌≤◌, Bool, List, [], ◌∷◌, ◌++◌, append_assoc, length, length-append, length-drop, length-take, length-take-le, take, drop, sym, ap, ◌∙◌, subst, arith}
use Rattle.std.proofs.Math.Seq.{take-append-add}
use Rattle.std.proofs.lemmas.List.{append-nil, take-append-drop, take-append-le}
use borrow.Rule.Slice.PartMut.{post_of, put_mid}
use Rattle.std.proofs.lemmas.List.Concat.{flat_map-append}
use Rattle.wide_forms.specs.EncodingForm.{Utf16, code_units, encode}
use Rattle.wide_forms.specs.Items.{IsWellFormed, chars, items}
use Rattle.wide_forms.specs.Lossy.{ends_in_fault, lossy, lossy_after}
use Rattle.wide_forms.specs.Laws.Items.{IsCut, chars-of_well_formed, encode-of_items, items-append, items-nil}
use Rattle.wide_forms.specs.Laws.Lossy.{well_formed-lossy}
use Rattle.wide_forms.specs.Laws.Policies.{lossy_after-append, lossy_after-chars, lossy_after-none_left}
use Rattle.wide_forms.specs.declared.policy.Policy.{Policy}

-- The units of lossy text.
abbrev pub lossy_units : Policy → Bool → List ℕ → List ℕ
lossy_units policy after us = encode Utf16 (lossy_after policy after (items Utf16 us))

-- What is written at an index comes after what is before it.
pub put-beyond : (xs ys : List ℕ) (at n k : ℕ) → at ≤ length xs → n ≤ length ys → take (at + n) (put_mid at k xs ys) ≡ take at xs ++ take n ys
put-beyond xs ys at n k within few =
    let first : length (take at xs) ≡ at = length-take-le at xs within in
    ap (λ m. take (m + n) (put_mid at k xs ys)) (sym first) ∙ take-append-add (take at xs) (ys ++ post_of at k xs) n ∙ ap (λ zs. take at xs ++ zs) (take-append-le n ys (post_of at k xs) few)

-- Writing into a list leaves its length unchanged.
pub put-length : (xs ys : List ℕ) (at k : ℕ) → at + k ≡ length xs → length ys ≡ k → length (put_mid at k xs ys) ≡ length xs
put-length xs ys at k within long =
    let beyond : length (post_of at k xs) ≡ length (drop at xs) - k = length-drop k (drop at xs) in
    omega (arith, length-append (take at xs) (ys ++ post_of at k xs), length-append ys (post_of at k xs), length-take at xs, length-drop at xs, beyond, long)

module _ (policy : Policy) where
  joined : (after : Bool) (a b : List ℕ) → IsCut Utf16 a b → lossy_units policy after (a ++ b) ≡ lossy_units policy after a ++ lossy_units policy (ends_in_fault after (items Utf16 a)) b
  joined after a b cut =
      let left = items Utf16 a in
      let right = items Utf16 b in
      ap (λ is. encode Utf16 (lossy_after policy after is)) (items-append Utf16 a b cut) ∙ ap (encode Utf16) (lossy_after-append policy after left right)
      ∙ flat_map-append (code_units Utf16) (lossy_after policy after left) (lossy_after policy (ends_in_fault after left) right)

  -- The lossy text of one more chunk was written.
  pub chunk-passed : (all before now : List ℕ) (after next : Bool) (rest chunk back : List ℕ) (n : ℕ) → all ≡ before ++ lossy_units policy after rest → chunk ≡ take n rest → back ≡ drop n rest → IsCut Utf16 (take n rest) (drop n rest)
      → next ≡ ends_in_fault after (items Utf16 chunk) → now ≡ before ++ lossy_units policy after chunk → all ≡ now ++ lossy_units policy next back
  chunk-passed all before now after next rest chunk back n so_far first second cut flag put =
      let parts : lossy_units policy after rest ≡ lossy_units policy after chunk ++ lossy_units policy next back =
      ap (lossy_units policy after) (sym (take-append-drop n rest)) ∙ joined after (take n rest) (drop n rest) cut
      ∙ ap (λ us. lossy_units policy after us ++ lossy_units policy (ends_in_fault after (items Utf16 us)) (drop n rest)) (sym first) ∙ ap (λ t. lossy_units policy after chunk ++ lossy_units policy t (drop n rest)) (sym flag)
      ∙ ap (λ us. lossy_units policy after chunk ++ lossy_units policy next us) (sym second)
      in
      so_far ∙ ap (λ us. before ++ us) parts ∙ sym (append_assoc before (lossy_units policy after chunk) (lossy_units policy next back)) ∙ ap (λ us. us ++ lossy_units policy next back) (sym put)

  -- When no units are left, all lossy text was written.
  pub all-chunks : (all now : List ℕ) (after : Bool) (us : List ℕ) → length us ≡ 0 → all ≡ now ++ lossy_units policy after us → now ≡ all
  all-chunks all now after [] none so_far = sym (so_far ∙ ap (λ us. now ++ us) (ap (encode Utf16) (ap (lossy_after policy after) (items-nil Utf16) ∙ lossy_after-none_left policy after)) ∙ append-nil now)
  all-chunks all now after (u ∷ us) none so_far = absurd (omega arith)

  -- Units that repairing does not change are their own lossy text.
  pub unchanged : (after : Bool) (us : List ℕ) → encode Utf16 (lossy (items Utf16 us)) ≡ us → us ≡ lossy_units policy after us
  unchanged after us same =
      let well : IsWellFormed Utf16 us = subst (IsWellFormed Utf16) same (well_formed-lossy Utf16 us) in
      let is = chars-of_well_formed Utf16 us well in
      sym (ap (λ is. encode Utf16 (lossy_after policy after is)) is ∙ ap (encode Utf16) (lossy_after-chars policy after (chars Utf16 us)) ∙ encode-of_items Utf16 (chars Utf16 us) us is)

-- Lossy text of units under a policy, of which a prefix is read.
use Rattle.std.proofs.Common.{◌≡◌, ℕ, ◌<◌, ◌≤◌, List, [], ◌∷◌, ◌++◌, Bool, false, refl, sym, ◌∙◌, ap, arith, length, map, take, drop}
use Rattle.std.proofs.lemmas.List.{append-nil, map-append, take-append-drop}
use Rattle.wide_forms.specs.EncodingForm.{EncodingForm, encode}
use Rattle.wide_forms.specs.Segmentation.{Char}
use Rattle.wide_forms.specs.Items.{IsWellFormed, chars, items}
use Rattle.wide_forms.specs.Lossy.{ends_in_fault, lossy_after}
use Rattle.wide_forms.specs.Utf8.{utf8}
use Rattle.wide_forms.specs.Laws.Ends.{items-append_left}
use Rattle.wide_forms.specs.Laws.Items.{IsCut, chars-of_well_formed, items-append, items-nil}
use Rattle.wide_forms.specs.Laws.Offsets.{IsWellFormed-encode, chars-encode, encode-chars}
use Rattle.wide_forms.specs.Laws.Policies.{ends_in_fault-append, ends_in_fault-chars, lossy_after-append, lossy_after-chars, lossy_after-none_left, scalars-lossy_after}
use Rattle.wide_forms.specs.declared.policy.Policy.{Policy}

pub halves : {C : Type 0} (n : ℕ) (units prefix back : List C) → prefix ≡ take n units → back ≡ drop n units → prefix ++ back ≡ units
halves n units prefix back e f = ap (λ xs. xs ++ back) e ∙ ap (λ ys. take n units ++ ys) f ∙ take-append-drop n units

module _ {C : Type 0} (form : EncodingForm) (number : C → ℕ) where
  -- Well-formed units have at least one character.
  some_text : (us : List C) → IsWellFormed form (map number us) → 0 < length us → 0 < length (chars form (map number us))
  some_text [] well some = absurd (omega arith)
  some_text (u ∷ us) well some = some_of (chars form (map number (u ∷ us))) (encode-chars form (map number (u ∷ us)) well)
    where
      some_of : (cs : List ℕ) → encode form cs ≡ number u ∷ map number us → 0 < length cs
      some_of [] e = absurd cc
      some_of (c ∷ cs) e = omega arith

  -- Well-formed units do not end in a fault, unless there are none and a fault precedes them.
  after_valid : (after now : Bool) (us : List C) → IsWellFormed form (map number us) → (length us ≡ 0 → now ≡ after) → (1 ≤ length us → now ≡ false) → ends_in_fault after (map Char (chars form (map number us))) ≡ now
  after_valid after now [] well same other = ap (ends_in_fault after) (sym (chars-of_well_formed form [] well) ∙ items-nil form) ∙ sym (same refl)
  after_valid after now (u ∷ us) well same other = ends_in_fault-chars after (chars form (map number (u ∷ us))) (some_text (u ∷ us) well (omega arith)) ∙ sym (other (omega arith))

  module _ (policy : Policy) (after now : Bool) (units prefix back : List C) (joined : prefix ++ back ≡ units) where
    parts : map number units ≡ map number prefix ++ map number back
    parts = ap (map number) (sym joined) ∙ map-append number prefix back

    -- A well-formed prefix is unchanged.
    module _ (well : IsWellFormed form (map number prefix)) (same : length prefix ≡ 0 → now ≡ after) (other : 1 ≤ length prefix → now ≡ false) where
      cs : List ℕ
      cs = chars form (map number prefix)

      valid-items : items form (map number units) ≡ map Char (chars form (map number prefix)) ++ items form (map number back)
      valid-items = ap (items form) parts ∙ items-append_left form (map number prefix) (map number back) well ∙ ap (λ is. is ++ items form (map number back)) (chars-of_well_formed form (map number prefix) well)

      -- The lossy text of units is the characters of their well-formed prefix, and the lossy text of the rest.
      pub valid-text : lossy_after policy after (items form (map number units)) ≡ chars form (map number prefix) ++ lossy_after policy now (items form (map number back))
      valid-text =
          let is = map Char (chars form (map number prefix)) in
          let rest = items form (map number back) in
          ap (lossy_after policy after) valid-items ∙ lossy_after-append policy after is rest ∙ ap (λ t. t ++ lossy_after policy (ends_in_fault after is) rest) (lossy_after-chars policy after (chars form (map number prefix)))
          ∙ ap (λ b. chars form (map number prefix) ++ lossy_after policy b rest) (after_valid after now prefix well same other)

      -- After a well-formed prefix, units end in a fault exactly if the rest does.
      pub valid-state : ends_in_fault after (items form (map number units)) ≡ ends_in_fault now (items form (map number back))
      valid-state =
          let rest = items form (map number back) in
          ap (ends_in_fault after) valid-items ∙ ends_in_fault-append after (map Char (chars form (map number prefix))) rest ∙ ap (λ b. ends_in_fault b rest) (after_valid after now prefix well same other)

    -- A prefix that splits no pair can be repaired separately.
    module _ (cut : IsCut form (map number prefix) (map number back)) (is : now ≡ ends_in_fault after (items form (map number prefix))) where
      -- The lossy text of units is that of a prefix that splits no pair, and that of the rest after it.
      pub repaired-text : (text : List ℕ) → text ≡ encode form (lossy_after policy after (items form (map number prefix))) → lossy_after policy after (items form (map number units)) ≡ chars form text ++ lossy_after policy now (items form (map number back))
      repaired-text text made =
          let first = items form (map number prefix) in
          let rest = items form (map number back) in
          ap (λ us. lossy_after policy after (items form us)) parts ∙ ap (lossy_after policy after) (items-append form (map number prefix) (map number back) cut) ∙ lossy_after-append policy after first rest
          ∙ ap (λ b. lossy_after policy after first ++ lossy_after policy b rest) (sym is)
          ∙ ap (λ t. t ++ lossy_after policy now rest) (sym (chars-encode form (lossy_after policy after first) (scalars-lossy_after policy after form (map number prefix))) ∙ ap (chars form) (sym made))

      -- Units end in a fault exactly if the rest after a prefix does, given whether the prefix ends in one.
      pub repaired-state : ends_in_fault after (items form (map number units)) ≡ ends_in_fault now (items form (map number back))
      repaired-state =
          let first = items form (map number prefix) in
          let rest = items form (map number back) in
          ap (λ us. ends_in_fault after (items form us)) parts ∙ ap (ends_in_fault after) (items-append form (map number prefix) (map number back) cut) ∙ ends_in_fault-append after first rest ∙ ap (λ b. ends_in_fault b rest) (sym is)

  -- The encoding of lossy text is well formed.
  pub repaired-well_formed : (policy : Policy) (after : Bool) (us text : List ℕ) → text ≡ encode form (lossy_after policy after (items form us)) → IsWellFormed form text
  repaired-well_formed policy after us text made = rw made (IsWellFormed-encode form (lossy_after policy after (items form us)) (scalars-lossy_after policy after form us))

  -- No units have no text.
  none-left : (policy : Policy) (after : Bool) (us : List C) → length us ≡ 0 → lossy_after policy after (items form (map number us)) ≡ []
  none-left policy after [] none = ap (lossy_after policy after) (items-nil form) ∙ lossy_after-none_left policy after
  none-left policy after (u ∷ us) none = absurd (omega arith)

  -- When no units are left, all text was written.
  pub all-written : (policy : Policy) (after : Bool) (us : List C) (now all : List ℕ) → length us ≡ 0 → now ++ utf8 (lossy_after policy after (items form (map number us))) ≡ all → now ≡ all
  all-written policy after us now all none so_far = sym (append-nil now) ∙ ap (λ cs. now ++ utf8 cs) (sym (none-left policy after us none)) ∙ so_far

  -- When no units are left, no text is left to count.
  pub all-counted : (policy : Policy) (after : Bool) (us : List C) → length us ≡ 0 → length (utf8 (lossy_after policy after (items form (map number us)))) ≡ 0
  all-counted policy after us none = ap (λ cs. length (utf8 cs)) (none-left policy after us none)

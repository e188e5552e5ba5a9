-- The units of a character at the beginning and at the end of units.
use Rattle.std.proofs.Common.{◌≡◌, ℕ, ◌+◌, ◌-◌, ◌≤◌, List, ◌++◌, refl, sym, ◌∙◌, ap, subst, arith, length, length-append, length-drop, take, drop}
use Rattle.std.specs.Prelude.{◌↔◌, map}
use Rattle.std.specs.Char.{IsScalar}
use Rattle.std.proofs.lemmas.List.{length-map, take-map, drop-map, take-append-drop, take_all}
use Rattle.std.proofs.Math.Seq.{take-append_seam, drop-append_seam}
use Rattle.wide_forms.specs.EncodingForm.{EncodingForm, code_units}
use Rattle.wide_forms.specs.Items.{IsWellFormed}
use Rattle.wide_forms.specs.Offsets.{IsCharBoundary}
use Rattle.wide_search.specs.Occurrences.{OccursAt, BeginsWith, EndsWith}
use Rattle.wide_search.specs.Laws.Numbers.{occurs-numbers, occurs-units}
use Rattle.wide_search.specs.Laws.Occurrences.{occurs-beyond}
use Rattle.wide_search.proofs.Texts.{char-ends}

module _ {A : Type 0} where
  -- A list begins with a needle that occurs at its beginning.
  starts-begins : (needle whole : List A) → OccursAt needle whole 0 → BeginsWith needle whole
  starts-begins needle whole occurs = (drop (length needle) whole, sym (take-append-drop (length needle) whole) ∙ ap (λ xs. xs ++ drop (length needle) whole) occurs.same)

  -- A needle with which a list begins occurs at its beginning.
  begins-starts : (needle whole : List A) → BeginsWith needle whole → OccursAt needle whole 0
  begins-starts needle whole begins = record {
    within = omega (arith, ap length begins.1, length-append needle begins.0);
    same = ap (take (length needle)) begins.1 ∙ take-append_seam needle begins.0;
  }

  module _ (needle whole end : List A) (n : ℕ) (long : n ≡ length needle) (is : end ≡ drop (length whole - n) whole) where
    -- A list ends with a needle that occurs at the beginning of as many elements at its end.
    starts-ends : n ≤ length whole → OccursAt needle end 0 → EndsWith needle whole
    starts-ends within occurs =
        let all : length end ≤ length needle = omega (arith, ap length is, length-drop (length whole - n) whole, long, within) in
        let same : end ≡ needle = sym (take_all (length needle) end all) ∙ occurs.same in
        (take (length whole - n) whole, sym (take-append-drop (length whole - n) whole) ∙ ap (λ xs. take (length whole - n) whole ++ xs) (sym is ∙ same))

    -- A needle with which a list ends occurs at the beginning of as many elements at its end.
    ends-starts : EndsWith needle whole → OccursAt needle end 0
    ends-starts ends =
        let at : length whole - n ≡ length ends.0 = omega (arith, ap length ends.1, length-append ends.0 needle, long) in
        let same : end ≡ needle = is ∙ ap (λ k. drop k whole) at ∙ ap (drop (length ends.0)) ends.1 ∙ drop-append_seam ends.0 needle in
        record { within = omega (arith, ap length same); same = ap (take (length needle)) same ∙ take_all (length needle) needle (omega arith) }

module _ {X : Type 0} (number : X → ℕ) (same : (x y : X) → number x ≡ number y → x ≡ y) (needle us : List X) (cs : List ℕ) (e : map number needle ≡ cs) {T : Type 0} where
  -- Units that begin with those of a needle begin with its numbers.
  pub begins-numbers : T ↔ OccursAt needle us 0 → T ↔ BeginsWith cs (map number us)
  begins-numbers reported = (
    λ t. subst (λ xs. BeginsWith xs (map number us)) e (starts-begins (map number needle) (map number us) (occurs-numbers number needle us 0 (reported.0 t))),
    λ begins. reported.1 (occurs-units number same needle us 0 (begins-starts (map number needle) (map number us) (subst (λ xs. BeginsWith xs (map number us)) (sym e) begins))),
  )

  -- Units that end with those of a needle end with its numbers.
  pub ends-numbers : (end : List X) (n : ℕ) → n ≡ length needle → end ≡ drop (length us - n) us → n ≤ length us → T ↔ OccursAt needle end 0 → T ↔ EndsWith cs (map number us)
  ends-numbers end n long is within reported =
      let many : n ≡ length (map number needle) = long ∙ sym (length-map needle number) in
      let at : length us - n ≡ length (map number us) - n = ap (λ k. k - n) (sym (length-map us number)) in
      let cut : map number end ≡ drop (length (map number us) - n) (map number us) =
      ap (map number) is ∙ sym (drop-map number (length us - n) us) ∙ ap (λ k. drop k (map number us)) at in (
        λ t. subst (λ xs. EndsWith xs (map number us)) e (starts-ends (map number needle) (map number us) (map number end) n many cut (omega (arith, within, length-map us number)) (occurs-numbers number needle end 0 (reported.0 t))),
        λ ends. reported.1 (occurs-units number same needle end 0 (ends-starts (map number needle) (map number us) (map number end) n many cut (subst (λ xs. EndsWith xs (map number us)) (sym e) ends))),
      )

module _ {X : Type 0} (number : X → ℕ) (cs : List ℕ) (us : List X) where
  -- Units are at least as many as those that they begin with.
  pub begins-within : BeginsWith cs (map number us) → length cs ≤ length us
  begins-within begins = omega (arith, ap length begins.1, length-append cs begins.0, length-map us number)

  -- Units are at least as many as those that they end with.
  pub ends-within : EndsWith cs (map number us) → length cs ≤ length us
  ends-within ends = omega (arith, ap length ends.1, length-append ends.0 cs, length-map us number)

  -- What is left of units after those that they begin with.
  pub rest-of_begins : (rest : List X) (n : ℕ) → n ≡ length cs → rest ≡ drop n us → BeginsWith cs (map number us) → map number us ≡ cs ++ map number rest
  rest-of_begins rest n long is begins =
      let left : map number rest ≡ begins.0 =
      ap (map number) is ∙ sym (drop-map number n us) ∙ ap (λ k. drop k (map number us)) long ∙ ap (drop (length cs)) begins.1 ∙ drop-append_seam cs begins.0 in
      begins.1 ∙ ap (λ xs. cs ++ xs) (sym left)

  -- What is left of units before those that they end with.
  pub prefix-of_ends : (prefix : List X) (n : ℕ) → n ≡ length us - length cs → prefix ≡ take n us → EndsWith cs (map number us) → map number us ≡ map number prefix ++ cs
  prefix-of_ends prefix n long is ends =
      let at : n ≡ length ends.0 = omega (arith, long, ap length ends.1, length-append ends.0 cs, length-map us number) in
      let left : map number prefix ≡ ends.0 =
      ap (map number) is ∙ sym (take-map number n us) ∙ ap (λ k. take k (map number us)) at ∙ ap (take (length ends.0)) ends.1 ∙ take-append_seam ends.0 cs in
      ends.1 ∙ ap (λ xs. xs ++ cs) (sym left)

module _ {X : Type 0} (form : EncodingForm) (number : X → ℕ) (us : List X) (well : IsWellFormed form (map number us)) (c : ℕ) (scalar : IsScalar c) where
  -- The end of a character with which well-formed units begin is a boundary.
  pub char-begins_end : (n : ℕ) → n ≡ length (code_units form c) → BeginsWith (code_units form c) (map number us) → IsCharBoundary form (map number us) n
  char-begins_end n long begins =
      let ends = char-ends form number us well c 0 scalar (begins-starts (code_units form c) (map number us) begins) in
      let same : 0 + length (code_units form c) ≡ n = omega (arith, long) in
      subst (λ k. IsCharBoundary form (map number us) k) same ends.1

  -- The start of a character with which well-formed units end is a boundary.
  pub char-ends_start : (n : ℕ) → n ≡ length us - length (code_units form c) → EndsWith (code_units form c) (map number us) → IsCharBoundary form (map number us) n
  char-ends_start n is ends =
      let cs = code_units form c in
      let ws = map number us in
      let at : n ≡ length ws - length cs = is ∙ ap (λ k. k - length cs) (sym (length-map us number)) in
      let there : OccursAt cs (drop (length ws - length cs) ws) 0 = ends-starts cs ws (drop (length ws - length cs) ws) (length cs) refl refl ends in
      let within : length ws - length cs ≤ length ws = omega arith in
      let occurs : OccursAt cs ws (length ws - length cs + 0) = occurs-beyond cs ws (length ws - length cs) 0 within there in
      let same : length ws - length cs + 0 ≡ n = omega (arith, at) in
      (char-ends form number us well c n scalar (subst (λ k. OccursAt cs ws k) same occurs)).0

-- A step of reading a text, by what decoding a window did.
use Rattle.std.proofs.Common.{◌%◌, inl, inr, ◌≡◌, ℕ, ◌+◌, ◌-◌, ◌<◌, ◌≤◌, List, [], ◌++◌, Bool, true, length, length-append, length-drop, length-take, take, drop, map, refl, sym, ap, ◌∙◌, subst, arith, append_assoc, false}
use Rattle.std.specs.Prelude.{Some, IsTrue}
use Rattle.std.proofs.lemmas.List.{drop-append-le, nil_from_length, take-append-drop, append-nil}
use Rattle.std.proofs.Math.Seq.{drop-append-add}
use Rattle.wide_forms.specs.EncodingForm.{Utf16}
use Rattle.wide_forms.specs.Segmentation.{Char}
use Rattle.wide_unit.specs.CodePoints.{code_points}
use Rattle.wide_schemes.specs.Layouts.{MayFollow, encoded, items_in, unit_len, IsBeginning}
use Rattle.std.proofs.lemmas.Bool.{cases_lt, cases_Bool}
use Rattle.wide_schemes.proofs.NoItems.{items-none}
use Rattle.wide_schemes.specs.declared.layout.Layout.{Layout}
use Rattle.wide_convert.specs.declared.steps.StepEnd.TheVariants.{NeedsInput}
use Rattle.wide_convert.specs.Steps.{IsWaiting, IsEnded}
use Rattle.wide_convert.proofs.Encoded.{unit-some}
use Rattle.wide_convert.specs.Positions.{IsAfter}
use Rattle.wide_convert.specs.Readings.{EndsWindow, PassesWindow, SameText, fault_of, len_of}
use Rattle.wide_convert.specs.Steps.{EndsStep, MayBe, SameButUnread, StartsStep, Steps, end_within, fault_at, len_at, items_after, much_left, left_by, unread_of}
use Rattle.wide_convert.specs.declared.reading.Reading.{Reading}
use Rattle.wide_convert.specs.declared.steps.StepEnd.{StepEnd}
use Rattle.wide_convert.specs.declared.window.WindowEnd.{WindowEnd}
use Rattle.wide_convert.specs.declared.window.WindowEnd.TheVariants.{More, AtEnd, NoSpace, Incomplete, Fault as AtFault}

-- A window `window` of a text was decoded, and the bytes `beyond` of the input follow it. `t` keeps other bytes than `s`.
module _ (layout : Layout) (r s t : Reading) (input window beyond : List ℕ) (last last_window : Bool) (n read : ℕ) (us : List ℕ) (room : ℕ) (end : WindowEnd) (end' : StepEnd)
    (known : r.layout ≡ Some layout) (passes : PassesWindow layout r s window last_window n us room end) (same : SameText r s) (kept : SameButUnread s t)
    (whole : (more : List ℕ) → unread_of r ++ (input ++ more) ≡ window ++ (beyond ++ more)) (rest : (more : List ℕ) → unread_of t ++ (drop read input ++ more) ≡ drop n window ++ (beyond ++ more))
    (follow : (more : List ℕ) → MayFollow last more → MayFollow last_window (beyond ++ more)) (passed : r.unread_len + read ≡ n + t.unread_len) (fault-is : fault_at end' ≡ fault_of end) (len-is : len_at end' ≡ len_of end)
    (ends : EndsStep r t input last read room end') where
  still : t.layout ≡ Some layout
  still = kept.layout ∙ same.layout ∙ known

  consumed : n ≡ r.unread_len + read - t.unread_len
  consumed = omega (arith, passed)

  pub window-steps : Steps r t input last read us room end'
  window-steps = record {
    passed = passes.passed;
    items = λ more may.
        ap (λ l. items_after l r (unread_of r ++ (input ++ more))) known ∙ ap (items_in layout r.keeps r.after_high) (whole more) ∙ passes.passes.items (beyond ++ more) (follow more may)
        ∙ ap (λ xs. passes.passed ++ items_in layout r.keeps s.after_high xs) (sym (rest more)) ∙ ap (λ h. passes.passed ++ items_in layout r.keeps h (unread_of t ++ (drop read input ++ more))) (sym kept.after_high)
        ∙ ap (λ k. passes.passed ++ items_in layout k t.after_high (unread_of t ++ (drop read input ++ more))) (sym (kept.keeps ∙ same.keeps)) ∙ ap (λ l. passes.passed ++ items_after l t (unread_of t ++ (drop read input ++ more))) (sym still);
    text = passes.passes.text;
    fault = kept.after_fault ∙ passes.passes.fault;
    moved = subst (λ k. IsAfter r.position t.position k passes.passed) consumed (subst (λ p. IsAfter r.position p n passes.passed) (sym kept.position) passes.passes.moved);
    well_formed = passes.passes.well_formed;
    whole = λ layout' may. subst (λ l. (r.unread_len + read - t.unread_len) % unit_len l ≡ 0) (subst (λ l. MayBe l layout') still may) (subst (λ k. k % unit_len layout ≡ 0) consumed passes.passes.whole);
    strict = λ none. passes.strict none ∙ ap (λ is. map Char (code_points Utf16 us) ++ is) (sym fault-is);
    kept = omega (arith, passed);
    starts = subst (λ l. StartsStep l t.layout r t input last read) (sym known) (record { known = still; bom = kept.bom ∙ same.bom });
    spans = λ none layout' may.
        let e : layout ≡ layout' = subst (λ l. MayBe l layout') still may in
        subst (λ l. r.bom + (r.unread_len + read - t.unread_len) ≡ t.bom + (length (encoded l (code_points Utf16 us)) + len_at end')) e (omega (arith, passes.spans none, passed, kept.bom, same.bom, len-is));
    ends = ends;
  }

-- What a step ends at does not change the fault.
pub fault-within : (end : WindowEnd) → fault_at (end_within end) ≡ fault_of end
fault-within More = refl
fault-within AtEnd = refl
fault-within NoSpace = refl
fault-within Incomplete = refl
fault-within (AtFault unit len) = refl

pub len-within : (end : WindowEnd) → len_at (end_within end) ≡ len_of end
len-within More = refl
len-within AtEnd = refl
len-within NoSpace = refl
len-within Incomplete = refl
len-within (AtFault unit len) = refl

-- A step that ends where a window did, before the input did.
module _ (layout : Layout) (r s t : Reading) (input window : List ℕ) (last last_window : Bool) (n read room : ℕ)
    (known : r.layout ≡ Some layout) (still : t.layout ≡ Some layout) (passed : r.unread_len + read ≡ n + t.unread_len) (within : read ≤ length input) where
  less : 0 < n → much_left t (length input - read) < much_left r (length input)
  less positive = subst (λ l. left_by l (t.unread_len + (length input - read)) < much_left r (length input)) (sym still) (subst (λ l. t.unread_len + (length input - read) < left_by l (r.unread_len + length input)) (sym known) (omega (arith, positive, passed, within)))

  no_more : much_left t (length input - read) ≤ much_left r (length input)
  no_more = subst (λ l. left_by l (t.unread_len + (length input - read)) ≤ much_left r (length input)) (sym still) (subst (λ l. t.unread_len + (length input - read) ≤ left_by l (r.unread_len + length input)) (sym known) (omega (arith, passed, within)))

  pub within-ends : (end : WindowEnd) → (end ≡ AtEnd → 0 < length window) → (end ≡ Incomplete → 0 < n) → EndsWindow layout r s (drop n window) last_window n room end → EndsStep r t input last read room (end_within end)
  within-ends More filled some ends = less ends
  within-ends AtEnd filled some ends = less (omega (arith, filled refl, ap length ends, length-drop n window))
  within-ends NoSpace filled some ends = (ends, no_more)
  within-ends Incomplete filled some ends = less (some refl)
  within-ends (AtFault unit len) filled some ends = (ends.0, (layout, still))

-- Bytes that are kept, and the first `m` of the input.
kept-whole : (kept window input more : List ℕ) (m : ℕ) → window ≡ kept ++ take m input → kept ++ (input ++ more) ≡ window ++ (drop m input ++ more)
kept-whole kept window input more m is =
    ap (λ xs. kept ++ (xs ++ more)) (sym (take-append-drop m input)) ∙ ap (λ xs. kept ++ xs) (append_assoc (take m input) (drop m input) more) ∙ sym (append_assoc kept (take m input) (drop m input ++ more)) ∙ ap (λ xs. xs ++ (drop m input ++ more)) (sym is)

-- What follows `n` of them, of which some are kept.
kept-rest : (kept window input more : List ℕ) (m n : ℕ) → window ≡ kept ++ take m input → n ≤ length kept → drop n kept ++ (input ++ more) ≡ drop n window ++ (drop m input ++ more)
kept-rest kept window input more m n is few = kept-whole (drop n kept) (drop n window) input more m (ap (drop n) is ∙ drop-append-le n kept (take m input) few)

-- What follows `n` of them, of which none is kept.
read-rest : (kept window input more : List ℕ) (m n : ℕ) → window ≡ kept ++ take m input → m ≤ length input → length kept ≤ n → n ≤ length window → drop (n - length kept) input ++ more ≡ drop n window ++ (drop m input ++ more)
read-rest kept window input more m n is few all within =
    let k = n - length kept in
    let front : drop n window ≡ drop k (take m input) = ap (drop n) is ∙ ap (λ j. drop j (kept ++ take m input)) (omega (arith, all)) ∙ drop-append-add kept (take m input) k in
    let long : k ≤ length (take m input) = omega (arith, ap length is, length-append kept (take m input), within, all) in
    ap (λ xs. drop k xs ++ more) (sym (take-append-drop m input)) ∙ ap (λ xs. xs ++ more) (drop-append-le k (take m input) (drop m input) long) ∙ append_assoc (drop k (take m input)) (drop m input) more ∙ ap (λ xs. xs ++ (drop m input ++ more)) (sym front)

-- Nothing follows the last window of a text.
pub none-may : (input more : List ℕ) (n : ℕ) (last last_window : Bool) → (IsTrue last_window → (last ≡ true) × (length input - n ≡ 0)) → MayFollow last more → MayFollow last_window (drop n input ++ more)
none-may input more n last last_window given may is_last =
    let e = given is_last in
    ap (λ xs. xs ++ more) (nil_from_length (drop n input) (length-drop n input ∙ e.1)) ∙ may e.0

-- A step over a window of bytes that are kept, and the first `m` of the input.
module _ (layout : Layout) (r s t : Reading) (input window : List ℕ) (last last_window : Bool) (m n : ℕ) (us : List ℕ) (room : ℕ) (end : WindowEnd)
    (known : r.layout ≡ Some layout) (passes : PassesWindow layout r s window last_window n us room end) (same : SameText r s) (kept : SameButUnread s t)
    (window-is : window ≡ unread_of r ++ take m input) (few : m ≤ length input) (kept-len : length (unread_of r) ≡ r.unread_len) (some : 0 < r.unread_len) (given : IsTrue last_window → (last ≡ true) × (length input - m ≡ 0)) (within : n ≤ length window) where
  same-unread : unread_of s ≡ unread_of r
  same-unread = ap (λ k. take k s.unread) same.unread_len ∙ ap (take r.unread_len) same.unread

  t-known : t.layout ≡ Some layout
  t-known = kept.layout ∙ same.layout ∙ known

  filled : 0 < length window
  filled = omega (arith, ap length window-is, length-append (unread_of r) (take m input), kept-len, some)

  -- Some of the bytes that were kept are left, and are no beginning of an item.
  pub keeps-some : n < r.unread_len → ¬ (end ≡ Incomplete) → unread_of t ≡ drop n (unread_of s) → t.unread_len ≡ s.unread_len - n → Steps r t input last 0 us room (end_within end)
  keeps-some fewer other t-unread t-len =
      let s-len = same.unread_len in
      window-steps layout r s t input window (drop m input) last last_window n 0 us room end (end_within end) known passes same kept
      (λ more. kept-whole (unread_of r) window input more m window-is)
      (λ more. ap (λ xs. xs ++ (input ++ more)) (t-unread ∙ ap (drop n) same-unread) ∙ kept-rest (unread_of r) window input more m n window-is (omega (arith, fewer, kept-len)))
      (λ more may. none-may input more m last last_window given may) (omega (arith, t-len, s-len, fewer)) (fault-within end) (len-within end)
      (within-ends layout r s t input window last last_window n 0 room known t-known (omega (arith, t-len, s-len, fewer)) (omega arith) end (λ e. filled) (λ e. absurd (other e)) passes.ends)

  -- All bytes that were kept were read.
  pub keeps-none : r.unread_len ≤ n → unread_of t ≡ drop r.unread_len (unread_of s) → t.unread_len ≡ s.unread_len - r.unread_len → Steps r t input last (n - r.unread_len) us room (end_within end)
  keeps-none all t-unread t-len =
      let s-len = same.unread_len in
      let none : unread_of t ≡ [] = t-unread ∙ ap (drop r.unread_len) same-unread ∙ nil_from_length (drop r.unread_len (unread_of r)) (omega (arith, length-drop r.unread_len (unread_of r), kept-len)) in
      let long : length window ≡ r.unread_len + m = omega (arith, ap length window-is, length-append (unread_of r) (take m input), kept-len, length-take m input, few) in
      window-steps layout r s t input window (drop m input) last last_window n (n - r.unread_len) us room end (end_within end) known passes same kept
      (λ more. kept-whole (unread_of r) window input more m window-is)
      (λ more. ap (λ xs. xs ++ (drop (n - r.unread_len) input ++ more)) none ∙ ap (λ k. drop (n - k) input ++ more) (sym kept-len) ∙ read-rest (unread_of r) window input more m n window-is few (omega (arith, all, kept-len)) within)
      (λ more may. none-may input more m last last_window given may) (omega (arith, t-len, s-len, all)) (fault-within end) (len-within end)
      (within-ends layout r s t input window last last_window n (n - r.unread_len) room known t-known (omega (arith, t-len, s-len, all)) (omega (arith, within, long, few)) end (λ e. filled) (λ e. omega (arith, all, some)) passes.ends)

-- A step over the first bytes of the input, where none are kept.
module _ (layout : Layout) (r s : Reading) (input : List ℕ) (last last_window : Bool) (m n : ℕ) (us : List ℕ) (room : ℕ) (end : WindowEnd) (end' : StepEnd)
    (known : r.layout ≡ Some layout) (passes : PassesWindow layout r s (take m input) last_window n us room end) (same : SameText r s)
    (few : m ≤ length input) (empty : r.unread_len ≡ 0) (given : IsTrue last_window → (last ≡ true) × (length input - m ≡ 0)) (within : n ≤ length (take m input)) (least : m < length input → 8 ≤ m)
    (whole-end : length input - m ≡ 0 → end ≡ AtEnd → end' ≡ NeedsInput) (other-end : (length input - m ≡ 0 → end ≡ AtEnd → ⊥) → end' ≡ end_within end) (not-kept : length input - m ≡ 0 → ¬ (end ≡ Incomplete)) where
  kept-none : SameButUnread s s
  kept-none = record { scheme = refl; keeps = refl; policy = refl; layout = refl; after_high = refl; after_fault = refl; bom = refl; position = refl; space = refl }

  s-empty : s.unread_len ≡ 0
  s-empty = same.unread_len ∙ empty

  none-of : (t : Reading) → t.unread_len ≡ 0 → unread_of t ≡ []
  none-of t e = ap (λ k. take k t.unread) e

  s-known : s.layout ≡ Some layout
  s-known = same.layout ∙ known

  steps-by : (end'' : StepEnd) → fault_at end'' ≡ fault_of end → len_at end'' ≡ len_of end → EndsStep r s input last n room end'' → Steps r s input last n us room end''
  steps-by end'' fault-is len-is ends =
      window-steps layout r s s input (take m input) (drop m input) last last_window n n us room end end'' known passes same kept-none
      (λ more. ap (λ xs. xs ++ (input ++ more)) (none-of r empty) ∙ kept-whole [] (take m input) input more m refl)
      (λ more. ap (λ xs. xs ++ (drop n input ++ more)) (none-of s s-empty) ∙ ap (λ k. drop k input ++ more) (omega arith) ∙ read-rest [] (take m input) input more m n refl few (omega arith) within)
      (λ more may. none-may input more m last last_window given may) (omega (arith, empty, s-empty)) fault-is len-is ends

  incomplete-some : end ≡ Incomplete → 0 < n
  incomplete-some e = elim (cases_lt m (length input)) [
    | inl cut ↦ (let part = subst (EndsWindow layout r s (drop n (take m input)) last_window n room) e passes.ends in omega (arith, part.few, length-drop n (take m input), length-take m input, few, least cut))
    | inr all ↦ absurd (not-kept (omega (arith, all)) e)
  ]

  other-steps : (length input - m ≡ 0 → end ≡ AtEnd → ⊥) → Steps r s input last n us room (end_within end)
  other-steps other =
      steps-by (end_within end) (fault-within end) (len-within end)
      (within-ends layout r s s input (take m input) last last_window n n room known s-known (omega (arith, empty, s-empty)) (omega (arith, within, length-take m input)) end
      (λ e. elim (cases_lt m (length input)) [ inl cut ↦ omega (arith, least cut, length-take m input, few) | inr all ↦ absurd (other (omega (arith, all)) e) ]) incomplete-some passes.ends)

  done-steps : length input - m ≡ 0 → end ≡ AtEnd → Steps r s input last n us room NeedsInput
  done-steps all e =
      let rest = subst (EndsWindow layout r s (drop n (take m input)) last_window n room) e passes.ends in
      steps-by NeedsInput (ap fault_of (sym e)) (ap len_of (sym e)) (
        omega (arith, ap length rest, length-drop n (take m input), length-take m input, all, few, within),
        (
          (λ l. record { layout = layout; known = s-known; part = subst (λ k. k < unit_len layout) (sym s-empty) (unit-some layout); no_item = ap (λ x. items_after x s (unread_of s ++ [])) s-known ∙ ap (λ xs. items_in layout s.keeps s.after_high (xs ++ [])) (none-of s s-empty) ∙ items-none layout s.keeps s.after_high }),
          (λ l. subst (λ x. IsWaiting x s) (sym s-known) (λ some. absurd (omega (arith, some, s-empty)))),
        ),
      )

  pub input-steps : Steps r s input last n us room end'
  input-steps = elim (cases_lt m (length input)) [
    | inl cut ↦ (let other : length input - m ≡ 0 → end ≡ AtEnd → ⊥ = λ all e. omega (arith, cut, all) in subst (Steps r s input last n us room) (sym (other-end other)) (other-steps other))
    | inr all ↦ by end refl (omega (arith, all))
  ]
    where
      by : (x : WindowEnd) → end ≡ x → length input - m ≡ 0 → Steps r s input last n us room end'
      by AtEnd e whole = subst (Steps r s input last n us room) (sym (whole-end whole e)) (done-steps whole e)
      by More e whole = (let other : length input - m ≡ 0 → end ≡ AtEnd → ⊥ = λ k f. (let g = sym e ∙ f in cc) in subst (Steps r s input last n us room) (sym (other-end other)) (other-steps other))
      by NoSpace e whole = (let other : length input - m ≡ 0 → end ≡ AtEnd → ⊥ = λ k f. (let g = sym e ∙ f in cc) in subst (Steps r s input last n us room) (sym (other-end other)) (other-steps other))
      by Incomplete e whole = (let other : length input - m ≡ 0 → end ≡ AtEnd → ⊥ = λ k f. (let g = sym e ∙ f in cc) in subst (Steps r s input last n us room) (sym (other-end other)) (other-steps other))
      by (AtFault unit len) e whole = (let other : length input - m ≡ 0 → end ≡ AtEnd → ⊥ = λ k f. (let g = sym e ∙ f in cc) in subst (Steps r s input last n us room) (sym (other-end other)) (other-steps other))

-- A step after which the last bytes are kept, since they are the beginning of a unit or of a character.
module _ (layout : Layout) (r s t : Reading) (input window : List ℕ) (last last_window : Bool) (m n : ℕ) (us : List ℕ) (room : ℕ)
    (known : r.layout ≡ Some layout) (passes : PassesWindow layout r s window last_window n us room Incomplete) (same : SameText r s) (kept : SameButUnread s t)
    (window-is : window ≡ unread_of r ++ take m input) (all : m ≡ length input) (given : IsTrue last_window → (last ≡ true) × (length input - m ≡ 0)) (other : last_window ≡ false → last ≡ true → 0 < length input - m)
    (t-unread : unread_of t ≡ drop n window) (t-len : r.unread_len + length input ≡ n + t.unread_len) (t-whole : length (unread_of t) ≡ t.unread_len) where
  kept-known : t.layout ≡ Some layout
  kept-known = kept.layout ∙ same.layout ∙ known

  is-last : last ≡ true → last_window ≡ true
  is-last e = elim (cases_Bool last_window) [
    | inl yes' ↦ yes'
    | inr no' ↦ absurd (omega (arith, other no' e, all))
  ]

  ended : last ≡ true → IsEnded t
  ended e = record {
    layout = layout;
    known = kept-known;
    part = omega (arith, passes.ends.part (is-last e), ap length t-unread, t-whole);
    no_item =
        ap (λ l. items_after l t (unread_of t ++ [])) kept-known ∙ ap (λ k. items_in layout k t.after_high (unread_of t ++ [])) (kept.keeps ∙ same.keeps) ∙ ap (λ h. items_in layout r.keeps h (unread_of t ++ [])) kept.after_high
        ∙ ap (items_in layout r.keeps s.after_high) (append-nil (unread_of t) ∙ t-unread) ∙ passes.ends.no_item (is-last e);
  }

  pub kept-steps : Steps r t input last (length input) us room NeedsInput
  kept-steps =
      window-steps layout r s t input window (drop m input) last last_window n (length input) us room Incomplete NeedsInput known passes same kept
      (λ more. kept-whole (unread_of r) window input more m window-is)
      (λ more. ap (λ xs. xs ++ (drop (length input) input ++ more)) t-unread ∙ ap (λ k. drop n window ++ (drop k input ++ more)) (sym all))
      (λ more may. none-may input more m last last_window given may) t-len refl refl
      (refl, (ended, λ l. subst (λ x. IsWaiting x t) (sym kept-known) (λ some. subst (IsBeginning layout) (sym t-unread) passes.ends.beginning)))

-- What changes nothing but the bytes that are kept, twice.
pub kept-then : (r s t : Reading) → SameButUnread r s → SameButUnread s t → SameButUnread r t
kept-then r s t one other = record {
  scheme = other.scheme ∙ one.scheme;
  keeps = other.keeps ∙ one.keeps;
  policy = other.policy ∙ one.policy;
  layout = other.layout ∙ one.layout;
  after_high = other.after_high ∙ one.after_high;
  after_fault = other.after_fault ∙ one.after_fault;
  bom = other.bom ∙ one.bom;
  position = other.position ∙ one.position;
  space = other.space ∙ one.space;
}

-- Bytes that were kept before a window are kept after it.
pub same-kept : (r s : Reading) → SameText r s → unread_of s ≡ unread_of r
same-kept r s same = ap (λ k. take k s.unread) same.unread_len ∙ ap (take r.unread_len) same.unread

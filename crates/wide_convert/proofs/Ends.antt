-- How a run ends, by what it passed of a text.
use Rattle.std.proofs.Common.{◌%◌, ◌≡◌, ℕ, ◌+◌, ◌-◌, ◌^◌, ◌<◌, ◌≤◌, inl, inr, List, [], ◌∷◌, ◌++◌, Bool, true, false, length, length-append, append_assoc, drop, take, map, refl, sym, ap, ◌∙◌, subst, arith, suc, zero, true≢false}
use Rattle.std.specs.Prelude.{◌⊎◌, if◌then◌else◌, Option, Some, None, Result, Ok, Err}
use Rattle.std.specs.Io.KnownBytes.{Appends}
use Rattle.std.proofs.KnownBytes.{Appends-trans, Consumes-nil}
use Rattle.std.proofs.Math.Dec.{eqb-suc-zero}
use Rattle.std.proofs.lemmas.List.{append-nil, drop_all, length-drop, length-map, length-take}
use Rattle.wide_bytes.specs.Put.{IsBeginningOf}
use Rattle.wide_forms.specs.Items.{characters, first_fault_unit, leading_characters}
use Rattle.wide_forms.specs.Lossy.{ends_in_fault, lossy_after}
use Rattle.wide_forms.specs.Segmentation.{Item, Char, Fault}
use Rattle.wide_forms.specs.declared.policy.Policy.{Policy}
use Rattle.wide_forms.specs.Laws.Policies.{lossy_after-append, lossy_after-none}
use Rattle.wide_schemes.specs.Layouts.{IsBeginning, MayFollow, encoded, items_in, unit_len}
use Rattle.wide_schemes.specs.Schemes.{bom_len, items_from, keeps_halves, layout_from, layout_to, start_len}
use Rattle.wide_schemes.specs.declared.layout.Layout.{Layout}
use Rattle.wide_schemes.specs.declared.layout.Layout.TheVariants.{Utf8, Wtf8, Utf16, Utf32}
use Rattle.wide_schemes.specs.declared.scheme.Scheme.{Scheme}
use Rattle.wide_convert.specs.Converted.{Converted, Clean, Faulty, Part, EndsConverted, IsAllButKept, IsFaultReported, characters_by, converted, ending_at, ending_of_part, fault_by, items_read, text_in}
use Rattle.wide_convert.specs.Converting.{IsFaultHere, bom_bytes, fault_before}
use Rattle.wide_convert.specs.Positions.{counted}
use Rattle.wide_convert.specs.Steps.{IsReading, IsStart, IsUnopened, IsUnread, IsWaiting, MayBe, StartsStep, items_after, items_left, unread_of}
use Rattle.wide_convert.specs.Streams.{EndsStream, IsAtFault, IsCut, IsDone, PutsText, SoFar}
use Rattle.wide_convert.specs.Texts.{faults_in, text_by}
use Rattle.wide_convert.specs.declared.converter.TextFault.{TextFault}
use Rattle.wide_convert.specs.declared.error.ConvertError.{ConvertError}
use Rattle.wide_convert.specs.declared.error.ConvertError.TheVariants.{Fault as AtFault, PartOfUnit, TooLong, Read, Write}
use Rattle.wide_convert.specs.declared.reading.Reading.{Reading}
use Rattle.wide_transcode.specs.Run.{Moves}
use Rattle.wide_convert.proofs.Encoded.{encoded-append, encoded-long}
use Rattle.wide_convert.proofs.Streaming.{put-error}

-- Nothing was read of a text that is converted.
abbrev pub IsUnreadText : Scheme → Scheme → Option Policy → Reading → Type 0
IsUnreadText from to policy r = IsUnread from (keeps_halves from to) policy r

-- ---- characters, and what follows them

pub leading-chars : (cs : List ℕ) (is : List Item) → leading_characters (map Char cs ++ is) ≡ cs ++ leading_characters is
leading-chars [] is = refl
leading-chars (c ∷ cs) is = ap (λ ds. c ∷ ds) (leading-chars cs is)

pub fault-past : (cs : List ℕ) (is : List Item) → first_fault_unit (map Char cs ++ is) ≡ first_fault_unit is
fault-past [] is = refl
fault-past (c ∷ cs) is = fault-past cs is

-- The text of items begins with that of the first ones.
begins-with : (policy : Option Policy) (passed left faults : List Item) → (policy ≡ None → passed ≡ map Char (characters passed) ++ faults) → IsBeginningOf (text_by policy false passed) (characters_by policy (passed ++ left))
begins-with None passed left faults strict =
    (leading_characters (faults ++ left), ap (λ is. leading_characters (is ++ left)) (strict refl) ∙ ap leading_characters (append_assoc (map Char (characters passed)) faults left) ∙ leading-chars (characters passed) (faults ++ left))
begins-with (Some policy) passed left faults strict =
    (lossy_after policy (ends_in_fault false passed) left, sym (lossy_after-none policy (passed ++ left)) ∙ lossy_after-append policy false passed left)

-- The text of all items, if there is no fault but by a policy.
text-whole : (policy : Option Policy) (passed : List Item) → (policy ≡ None → passed ≡ map Char (characters passed) ++ []) → characters_by policy passed ≡ text_by policy false passed
text-whole None passed strict = ap leading_characters (strict refl) ∙ leading-chars (characters passed) [] ∙ append-nil (characters passed)
text-whole (Some policy) passed strict = sym (lossy_after-none policy passed)

no-fault : (policy : Option Policy) (passed : List Item) → (policy ≡ None → passed ≡ map Char (characters passed) ++ []) → fault_by policy passed ≡ None
no-fault None passed strict = ap first_fault_unit (strict refl) ∙ fault-past (characters passed) []
no-fault (Some policy) passed strict = refl

-- What is left of a text after whole units is less than a unit.
part-of : (layout : Layout) (n left : ℕ) → left ≤ n → (n - left) % unit_len layout ≡ 0 → left < unit_len layout → n % unit_len layout ≡ left
part-of Utf8 n left within whole few = omega (arith, few)
part-of Wtf8 n left within whole few = omega (arith, few)
part-of (Utf16 order) n left within whole few = omega (arith, whole, few, within)
part-of (Utf32 order) n left within whole few = omega (arith, whole, few, within)

some-part : (n : ℕ) → 0 < n → ending_of_part n ≡ Part
some-part zero some = absurd (omega arith)
some-part (suc n) some = ap (λ b. if b then Clean else Part) (eqb-suc-zero n)

-- ---- what was passed of a text

module _ (from to : Scheme) (policy : Option Policy) (bom : Bool) (r s : Reading) (new : IsUnreadText from to policy r) (bytes : List ℕ) (last : Bool) where
  -- What is known of the beginning of the text.
  opened : (read : ℕ) → StartsStep r.layout s.layout r s bytes last read → (layout : Layout) → s.layout ≡ Some layout → IsStart r s bytes last layout
  opened read starts layout known = subst (λ a. StartsStep None a r s bytes last read) known (subst (λ a. StartsStep a s.layout r s bytes last read) new.no_layout starts)

  nothing : unread_of r ≡ []
  nothing = ap (λ n. take n r.unread) new.none

  layout-is : (layout : Layout) → IsStart r s bytes last layout → (more : List ℕ) → MayFollow last more → layout_from from (bytes ++ more) ≡ layout
  layout-is layout start more may = ap (λ x. layout_from x (bytes ++ more)) (sym new.in_scheme) ∙ ap (λ xs. layout_from r.scheme (xs ++ (bytes ++ more))) (sym nothing) ∙ start.layout_is more may

  bom-is : (layout : Layout) → IsStart r s bytes last layout → (more : List ℕ) → MayFollow last more → bom_len from (bytes ++ more) ≡ s.bom
  bom-is layout start more may = ap (λ x. bom_len x (bytes ++ more)) (sym new.in_scheme) ∙ ap (λ xs. bom_len r.scheme (xs ++ (bytes ++ more))) (sym nothing) ∙ start.bom_is more may

  -- The items of the text, of which some were passed.
  module _ (read : ℕ) (written : List ℕ) (faults : List Item) (len : ℕ) (so_far : SoFar r s (layout_to to) bytes last read written faults len) where
    items-are : (more : List ℕ) → MayFollow last more → items_read from to (bytes ++ more) ≡ so_far.passed ++ items_left s (drop read bytes ++ more)
    items-are more may = sym (new.items (bytes ++ more)) ∙ so_far.items more may

    text-is : written ≡ encoded (layout_to to) (text_by policy false so_far.passed)
    text-is = so_far.text ∙ ap (λ p. encoded (layout_to to) (text_by p r.after_fault so_far.passed)) new.by_policy ∙ ap (λ h. encoded (layout_to to) (text_by policy h so_far.passed)) new.no_fault

    strict-is : policy ≡ None → so_far.passed ≡ map Char (characters so_far.passed) ++ faults
    strict-is none = so_far.strict (new.by_policy ∙ none)

    -- What was written is a prefix of the text, whatever follows.
    pub beginning-of : (more : List ℕ) → MayFollow last more → IsBeginningOf (bom_bytes (layout_to to) bom ++ written) (converted from to policy bom (bytes ++ more)).text
    beginning-of more may =
        let left = items_left s (drop read bytes ++ more) in
        let begins = begins-with policy so_far.passed left faults strict-is in (
          encoded (layout_to to) begins.0,
          ap (λ is. text_in to bom (characters_by policy is)) (items-are more may) ∙ ap (text_in to bom) begins.1 ∙ ap (λ xs. bom_bytes (layout_to to) bom ++ xs) (encoded-append (layout_to to) (text_by policy false so_far.passed) begins.0 ∙ ap (λ xs. xs ++ encoded (layout_to to) begins.0) (sym text-is))
              ∙ sym (append_assoc (bom_bytes (layout_to to) bom) written (encoded (layout_to to) begins.0)),
        )

    -- The offset at which the text that was passed ends, before a fault.
    offset-is : policy ≡ None → (layout : Layout) → s.layout ≡ Some layout → read - s.unread_len ≡ s.bom + (length (encoded layout (characters so_far.passed)) + len)
    offset-is none layout known =
        let spans = so_far.spans (new.by_policy ∙ none) layout (subst (λ l. MayBe l layout) (sym known) refl) in
        omega (arith, spans, new.no_bom, new.none, so_far.kept)

    -- A text that was passed up to a fault.
    module _ (unit : ℕ) (at : faults ≡ Fault unit ∷ []) (none : policy ≡ None) (layout : Layout) (known : s.layout ≡ Some layout) where
      abbrev cs : List ℕ
      cs = characters so_far.passed

      passed-is : so_far.passed ≡ map Char cs ++ Fault unit ∷ []
      passed-is = strict-is none ∙ ap (λ fs. map Char (characters so_far.passed) ++ fs) at

      items-at : (more : List ℕ) → MayFollow last more → items_read from to (bytes ++ more) ≡ map Char cs ++ Fault unit ∷ items_left s (drop read bytes ++ more)
      items-at more may = items-are more may ∙ ap (λ is. is ++ items_left s (drop read bytes ++ more)) passed-is ∙ append_assoc (map Char cs) (Fault unit ∷ []) (items_left s (drop read bytes ++ more))

      leading-at : (more : List ℕ) → MayFollow last more → leading_characters (items_read from to (bytes ++ more)) ≡ cs
      leading-at more may = ap leading_characters (items-at more may) ∙ leading-chars cs (Fault unit ∷ items_left s (drop read bytes ++ more)) ∙ append-nil cs

      unit-at : (more : List ℕ) → MayFollow last more → first_fault_unit (items_read from to (bytes ++ more)) ≡ Some unit
      unit-at more may = ap first_fault_unit (items-at more may) ∙ fault-past cs (Fault unit ∷ items_left s (drop read bytes ++ more))

      -- What the text becomes, whatever follows.
      abbrev becomes : Converted
      becomes = record { text = bom_bytes (layout_to to) bom ++ written; ending = Faulty (s.bom + length (encoded layout cs)) (length cs) unit }

      converted-at : (more : List ℕ) → MayFollow last more → converted from to policy bom (bytes ++ more) ≡ becomes
      converted-at more may =
          let start = opened read so_far.starts layout known in
          let is = items_read from to (bytes ++ more) in
          let by-policy : converted from to policy bom (bytes ++ more) ≡ record { text = text_in to bom (leading_characters is); ending = ending_at from (first_fault_unit is) is (bytes ++ more) } = ap (λ p. converted from to p bom (bytes ++ more)) none in
          let text-at : text_in to bom (leading_characters is) ≡ bom_bytes (layout_to to) bom ++ written = ap (text_in to bom) (leading-at more may) ∙ ap (λ xs. bom_bytes (layout_to to) bom ++ xs) (sym (text-is ∙ ap (λ p. encoded (layout_to to) (text_by p false so_far.passed)) none)) in
          let ending-at : ending_at from (first_fault_unit is) is (bytes ++ more) ≡ Faulty (s.bom + length (encoded layout cs)) (length cs) unit =
          ap (λ u. ending_at from u is (bytes ++ more)) (unit-at more may) ∙ ap (λ ds. Faulty (bom_len from (bytes ++ more) + length (encoded (layout_from from (bytes ++ more)) ds)) (length ds) unit) (leading-at more may)
          ∙ ap (λ n. Faulty (n + length (encoded (layout_from from (bytes ++ more)) cs)) (length cs) unit) (bom-is layout start more may) ∙ ap (λ l. Faulty (s.bom + length (encoded l cs)) (length cs) unit) (layout-is layout start more may) in
          by-policy ∙ ap (λ text. record { text = text; ending = ending_at from (first_fault_unit is) is (bytes ++ more) }) text-at ∙ ap (λ ending. record { text = bom_bytes (layout_to to) bom ++ written; ending = ending }) ending-at

      -- The fault is that of the text.
      fault-at : read ≤ length bytes → (fault : TextFault) → fault.unit ≡ unit → fault ≡ fault_before s.position fault.unit len → length bytes + 1 < 2 ^ 64 → Faulty (s.bom + length (encoded layout cs)) (length cs) unit ≡ Faulty fault.offset fault.item fault.unit
      fault-at within fault same is short =
          let moved-bytes = so_far.moved.after_bytes ∙ ap (λ p. counted p.bytes (r.unread_len + read - s.unread_len)) new.start in
          let moved-items = so_far.moved.after_items ∙ ap (λ p. counted p.items (length so_far.passed)) new.start in
          let long : length so_far.passed ≡ length (characters so_far.passed) + 1 = ap length passed-is ∙ length-append (map Char (characters so_far.passed)) (Fault unit ∷ []) ∙ ap (λ n. n + 1) (length-map (characters so_far.passed) Char) in
          let spans = offset-is none layout known in
          let few = encoded-long layout (characters so_far.passed) in
          let offset : fault.offset ≡ s.bom + length (encoded layout (characters so_far.passed)) = ap (λ f. f.offset) is ∙ omega (arith, moved-bytes, spans, new.none, within, short, so_far.kept) in
          let item : fault.item ≡ length (characters so_far.passed) = ap (λ f. f.item) is ∙ omega (arith, moved-items, long, few, spans, within, short) in
          ap (λ n. Faulty n (length (characters so_far.passed)) unit) (sym offset) ∙ ap (λ n. Faulty fault.offset n unit) (sym item) ∙ ap (λ u. Faulty fault.offset fault.item u) (sym same)

  -- A run that reported a fault.
  pub ends-fault : (written : List ℕ) (fault : TextFault) (len : ℕ) → IsAtFault r s (layout_to to) bytes last written fault.unit len → IsFaultHere s len fault → IsFaultReported (converted from to policy bom) last bytes (bom_bytes (layout_to to) bom ++ written) fault
  ends-fault written fault len at here =
      record {
        text = ap (λ c. c.text) now;
        ending = λ short. ap (λ c. c.ending) now ∙ fault-at at.read written faults len at.so_far fault.unit refl none here.layout here.known at.within fault refl here.fault_is short;
        certain = by last refl;
      }
    where
      faults : List Item
      faults = Fault fault.unit ∷ []

      none : policy ≡ None
      none = sym new.by_policy ∙ at.strict

      is : (more : List ℕ) → MayFollow last more → converted from to policy bom (bytes ++ more) ≡ becomes at.read written faults len at.so_far fault.unit refl none here.layout here.known
      is = converted-at at.read written faults len at.so_far fault.unit refl none here.layout here.known

      now : converted from to policy bom bytes ≡ becomes at.read written faults len at.so_far fault.unit refl none here.layout here.known
      now = ap (converted from to policy bom) (sym (append-nil bytes)) ∙ is [] (λ e. refl)

      by : (l : Bool) → last ≡ l → (last ≡ true) ⊎ ((more : List ℕ) → converted from to policy bom (bytes ++ more) ≡ converted from to policy bom bytes)
      by true e = inl e
      by false e = inr (λ more. is more (λ t. absurd (true≢false (sym t ∙ e))) ∙ sym now)

  -- A run that read all of the text.
  module _ (written : List ℕ) (done : IsDone r s (layout_to to) bytes last written) (over : last ≡ true) where
    all-items : items_read from to bytes ≡ done.so_far.passed
    all-items =
        ap (items_read from to) (sym (append-nil bytes)) ∙ items-are (length bytes) written [] 0 done.so_far [] (λ e. refl) ∙ ap (λ xs. done.so_far.passed ++ items_left s (xs ++ [])) (drop_all (length bytes) bytes (omega arith))
        ∙ ap (λ is. done.so_far.passed ++ is) (done.ended over).no_item ∙ append-nil done.so_far.passed

    all-left : length bytes % unit_len (layout_from from bytes) ≡ s.unread_len
    all-left =
        let end = done.ended over in
        let start = opened (length bytes) done.so_far.starts end.layout end.known in
        let whole = done.so_far.whole end.layout (subst (λ l. MayBe l end.layout) (sym end.known) refl) in
        ap (λ xs. length bytes % unit_len (layout_from from xs)) (sym (append-nil bytes)) ∙ ap (λ l. length bytes % unit_len l) (layout-is end.layout start [] (λ e. refl))
        ∙ part-of end.layout (length bytes) s.unread_len (omega (arith, done.so_far.kept, new.none)) (ap (λ n. n % unit_len end.layout) (omega (arith, new.none)) ∙ whole) end.part

    pub all-converted : converted from to policy bom bytes ≡ record { text = bom_bytes (layout_to to) bom ++ written; ending = ending_of_part s.unread_len }
    all-converted =
        let strict = strict-is (length bytes) written [] 0 done.so_far in
        let text-at : text_in to bom (characters_by policy (items_read from to bytes)) ≡ bom_bytes (layout_to to) bom ++ written =
        ap (λ is. text_in to bom (characters_by policy is)) all-items ∙ ap (text_in to bom) (text-whole policy done.so_far.passed strict) ∙ ap (λ xs. bom_bytes (layout_to to) bom ++ xs) (sym (text-is (length bytes) written [] 0 done.so_far)) in
        let ending-at : ending_at from (fault_by policy (items_read from to bytes)) (items_read from to bytes) bytes ≡ ending_of_part s.unread_len =
        ap (λ u. ending_at from u (items_read from to bytes) bytes) (ap (fault_by policy) all-items ∙ no-fault policy done.so_far.passed strict) ∙ ap ending_of_part all-left in
        ap (λ text. record { text = text; ending = ending_at from (fault_by policy (items_read from to bytes)) (items_read from to bytes) bytes }) text-at ∙ ap (λ ending. record { text = bom_bytes (layout_to to) bom ++ written; ending = ending }) ending-at

    pub ends-clean : s.unread_len ≡ 0 → converted from to policy bom bytes ≡ record { text = bom_bytes (layout_to to) bom ++ written; ending = Clean }
    ends-clean none = all-converted ∙ ap (λ n. record { text = bom_bytes (layout_to to) bom ++ written; ending = ending_of_part n }) none

    pub ends-part : 0 < s.unread_len → converted from to policy bom bytes ≡ record { text = bom_bytes (layout_to to) bom ++ written; ending = Part }
    ends-part some = all-converted ∙ ap (λ e. record { text = bom_bytes (layout_to to) bom ++ written; ending = e }) (some-part s.unread_len some)

    pub ends-counted : s.position.faults ≡ counted 0 (faults_in (items_read from to bytes))
    ends-counted = done.so_far.moved.after_faults ∙ ap (λ p. counted p.faults (faults_in done.so_far.passed)) new.start ∙ ap (λ is. counted 0 (faults_in is)) (sym all-items)

-- A run that could not read on.
module _ (from to : Scheme) (policy : Option Policy) (bom : Bool) (r s : Reading) (new : IsUnreadText from to policy r) (bytes written : List ℕ) (done : IsDone r s (layout_to to) bytes false written) (ready : IsReading s) where
  items-left : items_read from to bytes ≡ done.so_far.passed ++ items_left s []
  items-left =
      ap (items_read from to) (sym (append-nil bytes)) ∙ items-are from to policy bom r s new bytes false (length bytes) written [] 0 done.so_far [] (λ e. refl)
      ∙ ap (λ xs. done.so_far.passed ++ items_left s (xs ++ [])) (drop_all (length bytes) bytes (omega arith))

  kept-few : length (unread_of s) ≤ 4
  kept-few = omega (arith, length-take s.unread_len s.unread, ready.few)

  same-keeps : s.keeps ≡ keeps_halves from to
  same-keeps = done.so_far.same.keeps ∙ new.halves

  written-is : bom_bytes (layout_to to) bom ++ written ≡ text_in to bom (text_by policy false done.so_far.passed)
  written-is = ap (λ xs. bom_bytes (layout_to to) bom ++ xs) (text-is from to policy bom r s new bytes false (length bytes) written [] 0 done.so_far)

  strict-passed : policy ≡ None → done.so_far.passed ≡ map Char (characters done.so_far.passed)
  strict-passed none = strict-is from to policy bom r s new bytes false (length bytes) written [] 0 done.so_far none ∙ append-nil (map Char (characters done.so_far.passed))

  -- The layout is not known, so nothing was passed.
  left-closed : s.layout ≡ None → IsAllButKept from to policy bom bytes (bom_bytes (layout_to to) bom ++ written)
  left-closed known =
      let kept = unread_of s in
      let unopened : IsUnopened r s bytes (length bytes) = subst (λ a. StartsStep None a r s bytes false (length bytes)) known (subst (λ a. StartsStep a s.layout r s bytes false (length bytes)) new.no_layout done.so_far.starts) in
      let all : bytes ≡ kept =
      sym (append-nil bytes) ∙ ap (λ xs. xs ++ (bytes ++ [])) (sym (nothing from to policy bom r s new bytes false)) ∙ unopened.bytes [] ∙ ap (λ xs. kept ++ (xs ++ [])) (drop_all (length bytes) bytes (omega arith)) ∙ append-nil kept in
      let waits : s.unread_len < start_len s.scheme = subst (λ a. IsWaiting a s) known (done.waits refl) in
      let len : length kept ≤ s.unread_len = omega (arith, length-take s.unread_len s.unread) in
      record {
        passed = done.so_far.passed;
        kept = drop (bom_len s.scheme kept) kept;
        few = omega (arith, kept-few, length-drop (bom_len s.scheme kept) kept);
        layout = layout_from s.scheme kept;
        after_high = false;
        items =
            items-left ∙ ap (λ a. done.so_far.passed ++ items_after a s (kept ++ [])) known ∙ ap (λ xs. done.so_far.passed ++ items_from s.scheme s.keeps xs) (append-nil kept)
            ∙ ap (λ k. done.so_far.passed ++ items_in (layout_from s.scheme kept) k false (drop (bom_len s.scheme kept) kept)) same-keeps;
        text = written-is;
        begins = λ some. inl (omega (arith, ap length all, len, waits, ap start_len (done.so_far.same.scheme ∙ new.in_scheme)));
        no_fault = strict-passed;
      }

  left-open : (layout : Layout) → s.layout ≡ Some layout → IsAllButKept from to policy bom bytes (bom_bytes (layout_to to) bom ++ written)
  left-open layout known =
      let kept = unread_of s in
      let waits : 0 < s.unread_len → IsBeginning layout kept = subst (λ a. IsWaiting a s) known (done.waits refl) in
      record {
        passed = done.so_far.passed;
        kept = kept;
        few = kept-few;
        layout = layout;
        after_high = s.after_high;
        items =
            items-left ∙ ap (λ a. done.so_far.passed ++ items_after a s (kept ++ [])) known ∙ ap (λ xs. done.so_far.passed ++ items_in layout s.keeps s.after_high xs) (append-nil kept)
            ∙ ap (λ k. done.so_far.passed ++ items_in layout k s.after_high kept) same-keeps;
        text = written-is;
        begins = λ some. inr (waits (omega (arith, some, length-take s.unread_len s.unread)));
        no_fault = strict-passed;
      }

  left-by : (layout : Option Layout) → s.layout ≡ layout → IsAllButKept from to policy bom bytes (bom_bytes (layout_to to) bom ++ written)
  left-by None known = left-closed known
  left-by (Some layout) known = left-open layout known

  pub ends-read : IsAllButKept from to policy bom bytes (bom_bytes (layout_to to) bom ++ written)
  ends-read = left-by s.layout refl

-- How a run ended, by how it ended after the BOM was put.
module _ (from to : Scheme) (policy : Option Policy) (bom : Bool) (r s : Reading) (new : IsUnreadText from to policy r) (ready : IsReading s) (ended : Bool) (bytes written : List ℕ) where
  pub ends-ok : {T : Type 0} (u : T) → EndsStream r s (layout_to to) (Ok u) ended bytes written → EndsConverted from to policy bom (Ok s.position.faults) ended bytes (bom_bytes (layout_to to) bom ++ written)
  ends-ok u ends =
      (ends.0, (ends-clean from to policy bom r s new bytes true written ends.1.0 refl ends.1.1, ends-counted from to policy bom r s new bytes true written ends.1.0 refl))

  ends-cut : IsCut r s (layout_to to) bytes ended written → IsBeginningOf (bom_bytes (layout_to to) bom ++ written) (converted from to policy bom bytes).text
  ends-cut cut =
      let begins = beginning-of from to policy bom r s new bytes ended cut.read cut.text cut.faults cut.len cut.so_far [] (λ e. refl) in (
        cut.beginning.0 ++ begins.0,
        ap (λ bs. (converted from to policy bom bs).text) (sym (append-nil bytes)) ∙ begins.1 ∙ ap (λ t. (bom_bytes (layout_to to) bom ++ t) ++ begins.0) cut.beginning.1
            ∙ ap (λ xs. xs ++ begins.0) (sym (append_assoc (bom_bytes (layout_to to) bom) written cut.beginning.0)) ∙ append_assoc (bom_bytes (layout_to to) bom ++ written) cut.beginning.0 begins.0,
      )

  pub ends-error : (T : Type 0) (e : ConvertError) → EndsStream {T = T} r s (layout_to to) (Err e) ended bytes written → EndsConverted from to policy bom (Err e) ended bytes (bom_bytes (layout_to to) bom ++ written)
  ends-error T PartOfUnit ends = (ends.0, ends-part from to policy bom r s new bytes true written ends.1.0 refl ends.1.1)
  ends-error T (AtFault fault) ends = ends-fault from to policy bom r s new bytes ended written fault ends.0 ends.1.0 ends.1.1
  ends-error T TooLong ends = (omega (arith, ends.0, length-append (bom_bytes (layout_to to) bom) written), ends-cut ends.1)
  ends-error T Read ends =
      (λ more. beginning-of from to policy bom r s new bytes false (length bytes) written [] 0 ends.so_far more (λ e. absurd (true≢false (sym e))), ends-read from to policy bom r s new bytes written ends ready)
  ends-error T Write ends = ends-cut ends

-- A run that put no more than a prefix of the BOM.
pub run-bom : (from to : Scheme) (policy : Option Policy) (bom : Bool) (T : Type 0) (result : Result ℕ ConvertError) (e : ConvertError) (failed ended : Bool) (left held held' : Option (List ℕ)) (put text : List ℕ) → result ≡ Err e → PutsText {T = T} (Err e) failed put text → text ≡ bom_bytes (layout_to to) bom → Appends held held' put
    → (bytes written : List ℕ) × Moves left left held held' bytes written × EndsConverted from to policy bom result ended bytes written
run-bom from to policy bom T result e failed ended left held held' put text is puts text-is appended =
    let cut = put-error T e failed put text puts in
    let rest = encoded (layout_to to) (characters_by policy (items_read from to [])) in
    ([], put, record { given = Consumes-nil left; put = appended }, subst (λ x. EndsConverted from to policy bom x ended [] put) (sym (is ∙ ap (λ x. Err x) cut.0)) (cut.1.1.0 ++ rest, ap (λ xs. xs ++ rest) (sym text-is ∙ cut.1.1.1) ∙ append_assoc put cut.1.1.0 rest))

-- A run that put the BOM, and went on.
module _ (from to : Scheme) (policy : Option Policy) (bom : Bool) (r s : Reading) (new : IsUnreadText from to policy r) (ready : IsReading s) (ended : Bool) (layout : Layout) (is : layout ≡ layout_to to) (left left' held held' held'' : Option (List ℕ)) (put : List ℕ) (mark : put ≡ bom_bytes layout bom) (appended : Appends held held' put) where
  all-moves : (bytes written : List ℕ) → Moves left left' held' held'' bytes written → Moves left left' held held'' bytes (bom_bytes (layout_to to) bom ++ written)
  all-moves bytes written moves = record { given = moves.given; put = subst (λ xs. Appends held held'' (xs ++ written)) (mark ∙ ap (λ l. bom_bytes l bom) is) (Appends-trans held held' held'' put written appended moves.put) }

  pub run-ok : (T : Type 0) (u : T) → ((bytes written : List ℕ) × Moves left left' held' held'' bytes written × EndsStream r s layout (Ok u) ended bytes written)
      → (bytes written : List ℕ) × Moves left left' held held'' bytes written × EndsConverted from to policy bom (Ok s.position.faults) ended bytes written
  run-ok T u run = (run.0, bom_bytes (layout_to to) bom ++ run.1, all-moves run.0 run.1 run.2, ends-ok from to policy bom r s new ready ended run.0 run.1 u (subst (λ l. EndsStream r s l (Ok u) ended run.0 run.1) is run.3))

  pub run-error : (T : Type 0) (e : ConvertError) (result : Result ℕ ConvertError) → result ≡ Err e → ((bytes written : List ℕ) × Moves left left' held' held'' bytes written × EndsStream {T = T} r s layout (Err e) ended bytes written)
      → (bytes written : List ℕ) × Moves left left' held held'' bytes written × EndsConverted from to policy bom result ended bytes written
  run-error T e result error run = (
    run.0,
    bom_bytes (layout_to to) bom ++ run.1,
    all-moves run.0 run.1 run.2,
    subst (λ x. EndsConverted from to policy bom x ended run.0 (bom_bytes (layout_to to) bom ++ run.1)) (sym error) (ends-error from to policy bom r s new ready ended run.0 run.1 T e (subst (λ l. EndsStream {T = T} r s l (Err e) ended run.0 run.1) is run.3)),
  )

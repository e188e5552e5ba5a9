-- A text that is read step by step, and the bytes that are written of it.
use Rattle.wide_convert.specs.Streams.{SoFar}
use Rattle.std.proofs.Common.{◌%◌, ◌≡◌, ℕ, ◌+◌, ◌-◌, ◌<◌, ◌≤◌, List, [], ◌∷◌, ◌++◌, Bool, true, false, length, length-append, drop, map, refl, sym, ap, ◌∙◌, subst, arith, append_assoc, true≢false}
use Rattle.std.specs.Prelude.{Option, Some, None}
use Rattle.std.proofs.lemmas.List.{append-nil, drop-drop, map-append, drop-append-le}
use Rattle.wide_forms.specs.EncodingForm.{Utf16}
use Rattle.std.specs.Char.{IsScalar}
use Rattle.wide_forms.specs.Items.{IsWellFormed, characters}
use Rattle.wide_forms.specs.Laws.Ends.{IsWellFormed-code_units}
use Rattle.wide_forms.specs.Laws.Forms.{scalar_from}
use Rattle.wide_forms.specs.Laws.Items.{items-code_units}
use Rattle.wide_forms.specs.Lossy.{ends_in_fault}
use Rattle.wide_forms.specs.Segmentation.{Item, Char, Fault}
use Rattle.wide_forms.specs.declared.policy.Policy.{Policy}
use Rattle.wide_forms.specs.declared.policy.Policy.TheVariants.{Each, Run, Skip}
use Rattle.wide_forms.specs.Laws.Offsets.{characters-chars}
use Rattle.wide_forms.specs.Laws.Policies.{characters-append, ends_in_fault-append}
use Rattle.wide_unit.specs.CodePoints.{code_of, code_points}
use Rattle.wide_schemes.specs.Layouts.{MayFollow, encoded, unit_len}
use Rattle.wide_schemes.specs.Schemes.{bom_len, layout_from}
use Rattle.wide_schemes.specs.declared.layout.Layout.{Layout}
use Rattle.wide_convert.specs.Positions.{IsAfter, IsPosition, counted}
use Rattle.wide_convert.specs.Steps.{IsReading, IsWaiting, MayBe, SameKind, StartsStep, Steps, fault_at, items_left, len_at, unread_of, IsEnded}
use Rattle.wide_convert.specs.Texts.{faults_in, text_by}
use Rattle.wide_convert.specs.declared.reading.Reading.{Reading}
use Rattle.wide_convert.specs.declared.steps.StepEnd.{StepEnd}
use Rattle.wide_convert.specs.declared.steps.StepEnd.TheVariants.{More, NeedsInput, NoSpace, Fault as AtFault}
use Rattle.wide_convert.specs.Converting.{EndsFeed, Feeds, Pushes, bom_bytes, fault_before, fault_in}
use Rattle.wide_convert.specs.declared.converter.TextFault.{TextFault}
use Rattle.wide_convert.specs.declared.converter.ProgressEnd.{ProgressEnd}
use Rattle.wide_convert.specs.declared.converter.ProgressEnd.TheVariants.{NeedsInput as FeedNeedsInput, NoSpace as FeedNoSpace, Fault as FeedFault}
use Rattle.wide_convert.proofs.Encoded.{encoded-append, encoded-nil, whole-add, whole-none}
use Rattle.wide_convert.proofs.Passing.{counted-twice, faults-append, text-append}
use Rattle.wide_convert.proofs.Starting.{counted-none}

text-none : (policy : Option Policy) (after_fault : Bool) → text_by policy after_fault [] ≡ []
text-none None after_fault = refl
text-none (Some Each) after_fault = refl
text-none (Some Run) true = refl
text-none (Some Run) false = refl
text-none (Some Skip) after_fault = refl

starts-none : (r : Reading) (input : List ℕ) (last : Bool) (layout : Option Layout) → r.layout ≡ layout → (layout ≡ None → r.bom ≡ 0) → StartsStep layout layout r r input last 0
starts-none r input last None e no_bom = record { no_bom = no_bom refl; bytes = λ more. refl }
starts-none r input last (Some layout) e no_bom = record { known = e; bom = refl }

-- Nothing was read so far.
pub so_far-nothing : (r : Reading) (to : Layout) (input : List ℕ) (last : Bool) → IsPosition r.position → (r.layout ≡ None → r.bom ≡ 0) → SoFar r r to input last 0 [] [] 0
so_far-nothing r to input last fits no_bom = record {
  passed = [];
  items = λ more may. refl;
  text = sym (ap (encoded to) (text-none r.policy r.after_fault) ∙ encoded-nil to);
  fault = refl;
  moved = record {
    after_bytes = counted-none r.position.bytes fits.bytes ∙ ap (counted r.position.bytes) (omega arith);
    after_items = counted-none r.position.items fits.items;
    after_faults = counted-none r.position.faults fits.faults;
  };
  strict = λ none. refl;
  same = record { scheme = refl; keeps = refl; policy = refl };
  kept = omega arith;
  starts = starts-none r input last r.layout refl no_bom;
  whole = λ layout may. ap (λ n. n % unit_len layout) (omega arith) ∙ whole-none layout;
  spans = λ none layout may. omega (arith, ap length (encoded-nil layout));
}

pub so_far-none : (r : Reading) (to : Layout) (input : List ℕ) (last : Bool) → IsReading r → SoFar r r to input last 0 [] [] 0
so_far-none r to input last ready = so_far-nothing r to input last ready.fits ready.no_bom

-- The layout and the BOM, from step to step.
starts-then : (r s t : Reading) (input : List ℕ) (last : Bool) (n m : ℕ) (a b c : Option Layout) → s.layout ≡ b → t.layout ≡ c → s.scheme ≡ r.scheme → StartsStep a b r s input last n → StartsStep b c s t (drop n input) last m → StartsStep a c r t input last (n + m)
starts-then r s t input last n m None None None e f same one other = record {
  no_bom = other.no_bom;
  bytes = λ more. one.bytes more ∙ other.bytes more ∙ ap (λ xs. unread_of t ++ (xs ++ more)) (drop-drop m n input);
}
starts-then r s t input last n m None None (Some layout) e f same one other = record {
  layout_is = λ more may. ap (λ scheme. layout_from scheme (unread_of r ++ (input ++ more))) (sym same) ∙ ap (layout_from s.scheme) (one.bytes more) ∙ other.layout_is more may;
  bom_is = λ more may. ap (λ scheme. bom_len scheme (unread_of r ++ (input ++ more))) (sym same) ∙ ap (bom_len s.scheme) (one.bytes more) ∙ other.bom_is more may;
}
starts-then r s t input last n m None (Some layout) None e f same one other = absurd (let g = sym f ∙ other.known in cc)
starts-then r s t input last n m None (Some layout) (Some layout') e f same one other =
    let same-layout : layout ≡ layout' = (let g = sym other.known ∙ f in cc) in
    record {
      layout_is = λ more may. one.layout_is more may ∙ same-layout;
      bom_is = λ more may. one.bom_is more may ∙ sym other.bom;
    }
starts-then r s t input last n m (Some layout) None c e f same one other = absurd (let g = sym e ∙ one.known in cc)
starts-then r s t input last n m (Some layout) (Some layout') c e f same one other =
    let same-layout : layout' ≡ layout = (let g = sym e ∙ one.known in cc) in
    record { known = other.known ∙ ap (λ l. Some l) same-layout; bom = other.bom ∙ one.bom }

-- A layout that may be the one after a step may be the one before it.
may-before : (s t : Reading) (input : List ℕ) (last : Bool) (m : ℕ) (layout : Layout) (b c : Option Layout) → t.layout ≡ c → StartsStep b c s t input last m → MayBe c layout → MayBe b layout
may-before s t input last m layout None c f starts may = tt
may-before s t input last m layout (Some known) None f starts may = absurd (let g = sym f ∙ starts.known in cc)
may-before s t input last m layout (Some known) (Some known') f starts may = (let same : known ≡ known' = (let g = sym starts.known ∙ f in cc) in same ∙ may)

no-characters : (end : StepEnd) → characters (fault_at end) ≡ []
no-characters More = refl
no-characters NeedsInput = refl
no-characters NoSpace = refl
no-characters (AtFault unit len) = refl

-- What one step passed, where its text was written.
module _ (s t : Reading) (to : Layout) (input : List ℕ) (last : Bool) (m : ℕ) (us after : List ℕ) (room : ℕ) (end : StepEnd) (step : Steps s t input last m us room end) (same : SameKind s t) (written : after ≡ encoded to (code_points Utf16 us)) where
  -- The characters of a step without a policy.
  step-characters : s.policy ≡ None → characters step.passed ≡ code_points Utf16 us
  step-characters none =
      ap characters (step.strict none) ∙ characters-append (map Char (code_points Utf16 us)) (fault_at end) ∙ ap (λ cs. cs ++ characters (fault_at end)) (characters-chars (code_points Utf16 us))
      ∙ ap (λ cs. code_points Utf16 us ++ cs) (no-characters end) ∙ append-nil (code_points Utf16 us)

  so_far-step : SoFar s t to input last m after (fault_at end) (len_at end)
  so_far-step = record {
    passed = step.passed;
    items = step.items;
    text = written ∙ ap (encoded to) step.text;
    fault = step.fault;
    moved = step.moved;
    strict = λ none. step.strict none ∙ ap (λ cs. map Char cs ++ fault_at end) (sym (step-characters none));
    same = same;
    kept = step.kept;
    starts = step.starts;
    whole = step.whole;
    spans = λ none layout may. step.spans none layout may ∙ ap (λ cs. t.bom + (length (encoded layout cs) + len_at end)) (sym (step-characters none));
  }

-- What was passed so far, and what was passed after it.
module _ (r s t : Reading) (to : Layout) (input : List ℕ) (last : Bool) (n m : ℕ) (before after : List ℕ) (faults : List Item) (len : ℕ) (so_far : SoFar r s to input last n before [] 0) (more : SoFar s t to (drop n input) last m after faults len) where
  all : List Item
  all = so_far.passed ++ more.passed

  text-is : before ++ after ≡ encoded to (text_by r.policy r.after_fault all)
  unfolding all
  text-is =
      let policies : text_by s.policy s.after_fault more.passed ≡ text_by r.policy (ends_in_fault r.after_fault so_far.passed) more.passed = ap (λ p. text_by p s.after_fault more.passed) so_far.same.policy ∙ ap (λ h. text_by r.policy h more.passed) so_far.fault in
      ap (λ xs. xs ++ after) so_far.text ∙ ap (λ xs. encoded to (text_by r.policy r.after_fault so_far.passed) ++ xs) (more.text ∙ ap (encoded to) policies)
      ∙ sym (encoded-append to (text_by r.policy r.after_fault so_far.passed) (text_by r.policy (ends_in_fault r.after_fault so_far.passed) more.passed)) ∙ ap (encoded to) (sym (text-append r.policy r.after_fault so_far.passed more.passed))

  items-are : (beyond : List ℕ) → MayFollow last beyond → items_left r (input ++ beyond) ≡ all ++ items_left t (drop (n + m) input ++ beyond)
  unfolding all
  items-are beyond may =
      so_far.items beyond may ∙ ap (λ is. so_far.passed ++ is) (more.items beyond may) ∙ sym (append_assoc so_far.passed more.passed (items_left t (drop m (drop n input) ++ beyond))) ∙ ap (λ xs. (so_far.passed ++ more.passed) ++ items_left t (xs ++ beyond)) (drop-drop m n input)

  consumed : (r.unread_len + n - s.unread_len) + (s.unread_len + m - t.unread_len) ≡ r.unread_len + (n + m) - t.unread_len
  consumed = omega (arith, so_far.kept, more.kept)

  moved-is : IsAfter r.position t.position (r.unread_len + (n + m) - t.unread_len) all
  unfolding all
  moved-is = record {
    after_bytes = counted-twice r.position.bytes s.position.bytes t.position.bytes (r.unread_len + n - s.unread_len) (s.unread_len + m - t.unread_len) so_far.moved.after_bytes more.moved.after_bytes ∙ ap (counted r.position.bytes) consumed;
    after_items = counted-twice r.position.items s.position.items t.position.items (length so_far.passed) (length more.passed) so_far.moved.after_items more.moved.after_items ∙ ap (counted r.position.items) (sym (length-append so_far.passed more.passed));
    after_faults = counted-twice r.position.faults s.position.faults t.position.faults (faults_in so_far.passed) (faults_in more.passed) so_far.moved.after_faults more.moved.after_faults ∙ ap (counted r.position.faults) (sym (faults-append so_far.passed more.passed));
  }

  all-characters : characters all ≡ characters so_far.passed ++ characters more.passed
  unfolding all
  all-characters = characters-append so_far.passed more.passed

  all-is : r.policy ≡ None → all ≡ map Char (characters so_far.passed) ++ (map Char (characters more.passed) ++ faults)
  unfolding all
  all-is k = ap (λ is. is ++ more.passed) (so_far.strict k ∙ append-nil (map Char (characters so_far.passed))) ∙ ap (λ is. map Char (characters so_far.passed) ++ is) (more.strict (so_far.same.policy ∙ k))

  strict-is : r.policy ≡ None → all ≡ map Char (characters all) ++ faults
  strict-is none =
      all-is none ∙ sym (append_assoc (map Char (characters so_far.passed)) (map Char (characters more.passed)) faults) ∙ ap (λ is. is ++ faults) (sym (map-append Char (characters so_far.passed) (characters more.passed))) ∙ ap (λ ds. map Char ds ++ faults) (sym all-characters)

  spans-are : r.policy ≡ None → (layout : Layout) → MayBe t.layout layout → r.bom + (r.unread_len + (n + m) - t.unread_len) ≡ t.bom + (length (encoded layout (characters all)) + len)
  spans-are none layout may =
      let one = so_far.spans none layout (may-before s t (drop n input) last m layout s.layout t.layout refl more.starts may) in
      let other = more.spans (so_far.same.policy ∙ none) layout may in
      let long : length (encoded layout (characters all)) ≡ length (encoded layout (characters so_far.passed)) + length (encoded layout (characters more.passed)) =
      ap (λ cs. length (encoded layout cs)) all-characters ∙ ap length (encoded-append layout (characters so_far.passed) (characters more.passed)) ∙ length-append (encoded layout (characters so_far.passed)) (encoded layout (characters more.passed)) in
      omega (arith, one, other, long, consumed, so_far.kept, more.kept)

  pub so_far-join : SoFar r t to input last (n + m) (before ++ after) faults len
  unfolding all
  so_far-join = record {
    passed = so_far.passed ++ more.passed;
    items = items-are;
    text = text-is;
    fault = more.fault ∙ ap (λ h. ends_in_fault h more.passed) so_far.fault ∙ sym (ends_in_fault-append r.after_fault so_far.passed more.passed);
    moved = moved-is;
    strict = strict-is;
    same = record { scheme = more.same.scheme ∙ so_far.same.scheme; keeps = more.same.keeps ∙ so_far.same.keeps; policy = more.same.policy ∙ so_far.same.policy };
    kept = omega (arith, so_far.kept, more.kept);
    starts = starts-then r s t input last n m r.layout s.layout t.layout refl refl so_far.same.scheme so_far.starts more.starts;
    whole = λ layout may. subst (λ k. k % unit_len layout ≡ 0) consumed (whole-add layout (r.unread_len + n - s.unread_len) (s.unread_len + m - t.unread_len) (so_far.whole layout (may-before s t (drop n input) last m layout s.layout t.layout refl more.starts may)) (more.whole layout may));
    spans = spans-are;
  }

-- What was passed so far, after one more step.
pub so_far-then : (r s t : Reading) (to : Layout) (input : List ℕ) (last : Bool) (n m : ℕ) (before us after : List ℕ) (room : ℕ) (end : StepEnd) → SoFar r s to input last n before [] 0 → Steps s t (drop n input) last m us room end → SameKind s t → after ≡ encoded to (code_points Utf16 us)
    → SoFar r t to input last (n + m) (before ++ after) (fault_at end) (len_at end)
so_far-then r s t to input last n m before us after room end so_far step same written = so_far-join r s t to input last n m before after (fault_at end) (len_at end) so_far (so_far-step s t to (drop n input) last m us after room end step same written)

-- What was passed so far, at the end of the input, at a fault, or where there is no space left.
feeds-by : (r t : Reading) (to : Layout) (input : List ℕ) (last : Bool) (read : ℕ) (written : List ℕ) (room : ℕ) (faults : List Item) (len : ℕ) (end : ProgressEnd) (so_far : SoFar r t to input last read written faults len) → faults ≡ fault_in end → EndsFeed r t input last read len room end
    → Feeds r t to input last read written room end
feeds-by r t to input last read written room faults len end so_far is ends = record {
  passed = so_far.passed;
  items = so_far.items;
  text = so_far.text;
  fault = so_far.fault;
  moved = so_far.moved;
  strict = λ none. so_far.strict none ∙ ap (λ fs. map Char (characters so_far.passed) ++ fs) is;
  starts = so_far.starts;
  whole = so_far.whole;
  kept = so_far.kept;
  len = len;
  spans = so_far.spans;
  ends = ends;
}

pub feeds-space : (r t : Reading) (to : Layout) (input : List ℕ) (last : Bool) (read : ℕ) (written : List ℕ) (room : ℕ) → SoFar r t to input last read written [] 0 → room < 8 → Feeds r t to input last read written room FeedNoSpace
feeds-space r t to input last read written room so_far full = feeds-by r t to input last read written room [] 0 FeedNoSpace so_far refl (refl, full)

pub feeds-input : (r t : Reading) (to : Layout) (input : List ℕ) (last : Bool) (read : ℕ) (written : List ℕ) (room : ℕ) → SoFar r t to input last read written [] 0 → read ≡ length input → (last ≡ true → IsEnded t) → (last ≡ false → IsWaiting t.layout t) → Feeds r t to input last read written room FeedNeedsInput
feeds-input r t to input last read written room so_far all done waits = feeds-by r t to input last read written room [] 0 FeedNeedsInput so_far refl (refl, (all, (done, waits)))

pub feeds-fault : (r t : Reading) (to : Layout) (input : List ℕ) (last : Bool) (read : ℕ) (written : List ℕ) (room unit len : ℕ) → SoFar r t to input last read written (Fault unit ∷ []) len → r.policy ≡ None → (layout : Layout) → t.layout ≡ Some layout → (fault : TextFault) → fault ≡ fault_before t.position unit len
    → Feeds r t to input last read written room (FeedFault fault)
feeds-fault r t to input last read written room unit len so_far none layout known fault is =
    let same-unit : fault.unit ≡ unit = ap (λ f. f.unit) is in
    feeds-by r t to input last read written room (Fault unit ∷ []) len (FeedFault fault) so_far (ap (λ u. Fault u ∷ []) (sym same-unit))
    (none, record { layout = layout; known = known; fault_is = is ∙ ap (λ u. fault_before t.position u len) (sym same-unit) })

-- ---- converters

-- A converter wrote its BOM, and the text of what it read.
pub pushes-of : (r t : Reading) (to : Layout) (bom : Bool) (input : List ℕ) (last : Bool) (read : ℕ) (written after : List ℕ) (room room' : ℕ) (end : ProgressEnd) → Feeds r t to input last read after room end → room ≡ room' → SameKind r t → bom_bytes to bom ++ after ≡ written
    → Pushes (record { reading = r; to = to; bom = bom }) (record { reading = t; to = to; bom = false }) input last read written room' end
pushes-of r t to bom input last read written after room room' end feeds same-room same joined = record {
  passed = feeds.passed;
  items = feeds.items;
  text = ap (λ xs. bom_bytes to bom ++ xs) (sym feeds.text) ∙ joined ∙ sym (append-nil written);
  fault = feeds.fault;
  moved = feeds.moved;
  strict = feeds.strict;
  starts = feeds.starts;
  whole = feeds.whole;
  same = same;
  to = refl;
  mark = λ some. refl;
  kept = feeds.kept;
  len = feeds.len;
  spans = feeds.spans;
  ends = subst (λ n. EndsFeed r t input last read feeds.len n end) same-room feeds.ends;
}

-- A converter did nothing for want of space.
pub pushes-none : (r : Reading) (to : Layout) (bom : Bool) (input : List ℕ) (last : Bool) (room : ℕ) → IsReading r → room < 8 → Pushes (record { reading = r; to = to; bom = bom }) (record { reading = r; to = to; bom = bom }) input last 0 [] room FeedNoSpace
pushes-none r to bom input last room ready full =
    let feeds = feeds-space r r to input last 0 [] room (so_far-none r to input last ready) full in
    record {
      passed = feeds.passed;
      items = feeds.items;
      text = ap (λ xs. bom_bytes to bom ++ xs) (sym feeds.text) ∙ append-nil (bom_bytes to bom);
      fault = feeds.fault;
      moved = feeds.moved;
      strict = feeds.strict;
      starts = feeds.starts;
      whole = feeds.whole;
      same = record { scheme = refl; keeps = refl; policy = refl };
      to = refl;
      mark = λ some. absurd (some refl);
      kept = feeds.kept;
      len = feeds.len;
      spans = feeds.spans;
      ends = feeds.ends;
    }

mark-scalar : IsScalar 0xFEFF
mark-scalar = scalar_from 0xFEFF (record { below = omega arith; no_surrogate = λ from. omega arith })

pub bom-well : IsWellFormed Utf16 (0xFEFF ∷ [])
bom-well = IsWellFormed-code_units Utf16 0xFEFF mark-scalar

pub bom-codes : code_points Utf16 (0xFEFF ∷ []) ≡ 0xFEFF ∷ []
bom-codes = ap (map code_of) (items-code_units Utf16 0xFEFF mark-scalar)

-- ---- a text that comes from a device

-- More bytes come.
pub so_far-more : (r s : Reading) (to : Layout) (input more : List ℕ) (last : Bool) (read : ℕ) (written : List ℕ) (faults : List Item) (len : ℕ) → read ≤ length input → SoFar r s to input false read written faults len → SoFar r s to (input ++ more) last read written faults len
so_far-more r s to input more last read written faults len within so_far = record {
  passed = so_far.passed;
  items = λ beyond may.
      ap (items_left r) (append_assoc input more beyond) ∙ so_far.items (more ++ beyond) (λ e. absurd (true≢false (sym e))) ∙ ap (λ xs. so_far.passed ++ items_left s xs) (sym (append_assoc (drop read input) more beyond) ∙ ap (λ xs. xs ++ beyond) (sym (drop-append-le read input more within)));
  text = so_far.text;
  fault = so_far.fault;
  moved = so_far.moved;
  strict = so_far.strict;
  same = so_far.same;
  kept = so_far.kept;
  starts = starts-more r.layout s.layout so_far.starts;
  whole = so_far.whole;
  spans = so_far.spans;
}
  where
    starts-more : (a b : Option Layout) → StartsStep a b r s input false read → StartsStep a b r s (input ++ more) last read
    starts-more None None starts = record {
      no_bom = starts.no_bom;
      bytes = λ beyond. ap (λ xs. unread_of r ++ xs) (append_assoc input more beyond) ∙ starts.bytes (more ++ beyond) ∙ ap (λ xs. unread_of s ++ xs) (sym (append_assoc (drop read input) more beyond) ∙ ap (λ xs. xs ++ beyond) (sym (drop-append-le read input more within)));
    }
    starts-more None (Some layout) starts = record {
      layout_is = λ beyond may. ap (λ xs. layout_from r.scheme (unread_of r ++ xs)) (append_assoc input more beyond) ∙ starts.layout_is (more ++ beyond) (λ e. absurd (true≢false (sym e)));
      bom_is = λ beyond may. ap (λ xs. bom_len r.scheme (unread_of r ++ xs)) (append_assoc input more beyond) ∙ starts.bom_is (more ++ beyond) (λ e. absurd (true≢false (sym e)));
    }
    starts-more (Some layout) b starts = starts

-- What was passed by a call that reads and writes, after what was passed so far.
pub so_far-feed : (r s t : Reading) (to : Layout) (input rest : List ℕ) (last : Bool) (n m : ℕ) (before after : List ℕ) (room : ℕ) (end : ProgressEnd) → SoFar r s to input last n before [] 0 → drop n input ≡ rest → (feeds : Feeds s t to rest last m after room end) → SameKind s t
    → SoFar r t to input last (n + m) (before ++ after) (fault_in end) feeds.len
so_far-feed r s t to input rest last n m before after room end so_far is feeds same =
    so_far-join r s t to input last n m before after (fault_in end) feeds.len so_far
    (subst (λ xs. SoFar s t to xs last m after (fault_in end) feeds.len) (sym is) (record {
      passed = feeds.passed;
      items = feeds.items;
      text = feeds.text;
      fault = feeds.fault;
      moved = feeds.moved;
      strict = feeds.strict;
      same = same;
      kept = feeds.kept;
      starts = feeds.starts;
      whole = feeds.whole;
      spans = feeds.spans;
    }))

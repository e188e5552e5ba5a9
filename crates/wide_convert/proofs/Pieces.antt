-- A text that is converted piece by piece.
use Rattle.std.proofs.Common.{◌≡◌, ℕ, ◌+◌, ◌≤◌, List, [], ◌∷◌, ◌++◌, Bool, true, false, length, length-append, append_assoc, drop, refl, sym, ap, ◌∙◌, subst, arith, true≢false}
use Rattle.std.specs.Prelude.{Option, None}
use Rattle.std.proofs.lemmas.List.{append-nil, length-drop}
use Rattle.wide_forms.specs.Segmentation.{Item, Fault}
use Rattle.wide_forms.specs.declared.policy.Policy.{Policy}
use Rattle.wide_schemes.specs.Schemes.{layout_to}
use Rattle.wide_schemes.specs.declared.scheme.Scheme.{Scheme}
use Rattle.wide_convert.specs.Converted.{IsFaultReported, converted, ending_of_part}
use Rattle.wide_convert.specs.Converting.{Converting, EndsFeed, Pushes, bom_bytes, bom_left, fault_in, kept_len, text_of}
use Rattle.wide_convert.specs.Positions.{IsPosition}
use Rattle.wide_convert.specs.Statements.{FaultIsOfWhole, IsNew, IsPiece, Passes, PiecesAreWhole, nothing, then}
use Rattle.wide_convert.specs.Streams.{IsAtFault, IsDone, SoFar}
use Rattle.wide_convert.specs.declared.converter.ProgressEnd.{ProgressEnd}
use Rattle.wide_convert.specs.declared.converter.ProgressEnd.TheVariants.{NeedsInput, NoSpace, Fault as AtFault}
use Rattle.wide_convert.specs.declared.reading.Reading.{Reading}
use Rattle.wide_convert.proofs.Ends.{all-converted, ends-counted, ends-fault}
use Rattle.wide_convert.proofs.Feeding.{so_far-join, so_far-more, so_far-nothing}

-- What a push passed of its input.
pushed : (d e : Converting) (input : List ℕ) (last : Bool) (m room : ℕ) (after : List ℕ) (end : ProgressEnd) (push : Pushes d e input last m after room end) → SoFar d.reading e.reading d.to input last m (text_of d push.passed) (fault_in end) push.len
pushed d e input last m room after end push = record {
  passed = push.passed;
  items = push.items;
  text = refl;
  fault = push.fault;
  moved = push.moved;
  strict = push.strict;
  same = push.same;
  kept = push.kept;
  starts = push.starts;
  whole = push.whole;
  spans = push.spans;
}

-- The same of what is left of the text.
pushed-left : (d e : Converting) (input : List ℕ) (last : Bool) (m room : ℕ) (after : List ℕ) (end : ProgressEnd) (push : Pushes d e input last m after room end) (left : List ℕ) → IsPiece input last left → m ≤ length input → SoFar d.reading e.reading d.to left true m (text_of d push.passed) (fault_in end) push.len
pushed-left d e input last m room after end push left piece within = by last refl
  where
    by : (l : Bool) → last ≡ l → SoFar d.reading e.reading d.to left true m (text_of d push.passed) (fault_in end) push.len
    by true is =
        let all : left ≡ input = piece.begins ∙ ap (λ xs. input ++ xs) (piece.all is) ∙ append-nil input in
        subst (λ xs. SoFar d.reading e.reading d.to xs true m (text_of d push.passed) (fault_in end) push.len) (sym all) (subst (λ l. SoFar d.reading e.reading d.to input l m (text_of d push.passed) (fault_in end) push.len) is (pushed d e input last m room after end push))
    by false is =
        subst (λ xs. SoFar d.reading e.reading d.to xs true m (text_of d push.passed) (fault_in end) push.len) (sym piece.begins)
        (so_far-more d.reading e.reading d.to input piece.more true m (text_of d push.passed) (fault_in end) push.len within (subst (λ l. SoFar d.reading e.reading d.to input l m (text_of d push.passed) (fault_in end) push.len) is (pushed d e input last m room after end push)))

-- What was passed of a text, in pieces.
record Passed (c d : Converting) (text : List ℕ) (read : ℕ) (written : List ℕ) (faults : List Item) (len : ℕ) : Type 0 where
  body : List ℕ
  within : read ≤ length text
  so_far : SoFar c.reading d.reading c.to text true read body faults len
  to : d.to ≡ c.to
  all : bom_left c ++ body ≡ written ++ bom_left d

passed-then : (c d e : Converting) (text : List ℕ) (read m room : ℕ) (written input after : List ℕ) (last : Bool) (end : ProgressEnd) → Passed c d text read written [] 0 → IsPiece input last (drop read text) → m ≤ length input → (push : Pushes d e input last m after room end) → Passed c e text (read + m) (written ++ after) (fault_in end) push.len
passed-then c d e text read m room written input after last end before piece within push =
    let body' = text_of d push.passed in
    record {
      body = before.body ++ body';
      within = omega (arith, within, ap length piece.begins, length-append input piece.more, length-drop read text, before.within);
      so_far =
          so_far-join c.reading d.reading e.reading c.to text true read m before.body body' (fault_in end) push.len before.so_far
          (subst (λ l. SoFar d.reading e.reading l (drop read text) true m body' (fault_in end) push.len) before.to (pushed-left d e input last m room after end push (drop read text) piece within));
      to = push.to ∙ before.to;
      all =
          sym (append_assoc (bom_left c) before.body body') ∙ ap (λ xs. xs ++ body') before.all ∙ append_assoc written (bom_left d) body' ∙ ap (λ xs. written ++ xs) push.text ∙ sym (append_assoc written after (bom_left e));
    }

-- A push that stopped at no fault passed none that it reports.
no-len : (d e : Reading) (input : List ℕ) (last : Bool) (read len room : ℕ) (end : ProgressEnd) → fault_in end ≡ [] → EndsFeed d e input last read len room end → len ≡ 0
no-len d e input last read len room NeedsInput calm ends = ends.0
no-len d e input last read len room NoSpace calm ends = ends.0
no-len d e input last read len room (AtFault fault) calm ends = absurd cc

passed-of : (from to : Scheme) (policy : Option Policy) (bom : Bool) (c : Converting) (text : List ℕ) (d : Converting) (read : ℕ) (written : List ℕ) → IsNew from to policy bom c → Passes c text d read written → Passed c d text read written [] 0
passed-of from to policy bom c text d read written new nothing = record {
  body = [];
  within = omega arith;
  so_far = so_far-nothing c.reading c.to text true (subst IsPosition (sym new.reading.start) (record { bytes = omega arith; items = omega arith; faults = omega arith })) (λ none. new.reading.no_bom);
  to = refl;
  all = append-nil (bom_left c);
}
passed-of from to policy bom c text d read written new (then d' e read' m room written' input after last end before piece within push calm) =
    let passed = passed-then c d' d text read' m room written' input after last end (passed-of from to policy bom c text d' read' written' new before) piece within push in
    subst (λ fs. Passed c d text read written fs 0) calm (subst (λ len. Passed c d text read written (fault_in end) len) (no-len d'.reading d.reading input last m push.len room end calm push.ends) passed)

-- The text that was written is a BOM and the body, if no BOM is left to write.
written-is : (from to : Scheme) (policy : Option Policy) (bom : Bool) (c e : Converting) (text : List ℕ) (read : ℕ) (written : List ℕ) (faults : List Item) (len : ℕ) → IsNew from to policy bom c → (passed : Passed c e text read written faults len) → e.bom ≡ false → bom_bytes (layout_to to) bom ++ passed.body ≡ written
written-is from to policy bom c e text read written faults len new passed none =
    ap (λ l. bom_bytes l bom ++ passed.body) (sym new.layout) ∙ ap (λ b. bom_bytes c.to b ++ passed.body) (sym new.mark) ∙ passed.all ∙ ap (λ b. written ++ bom_bytes e.to b) none ∙ append-nil written

pub pieces-whole : PiecesAreWhole
pieces-whole from to policy bom c d e text written input after read room new passes left push =
    let before = passed-of from to policy bom c text d read written new passes in
    let piece : IsPiece input true (drop read text) = record { more = []; begins = left ∙ sym (append-nil input); all = λ e. refl } in
    let passed = passed-then c d e text read (length input) room written input after true NeedsInput before piece (omega arith) push in
    let all : read + length input ≡ length text = omega (arith, before.within, sym (ap length left), length-drop read text) in
    let none : push.len ≡ 0 = push.ends.0 in
    let in-text : SoFar c.reading e.reading (layout_to to) text true (length text) passed.body [] 0 = subst (λ l. SoFar c.reading e.reading l text true (length text) passed.body [] 0) new.layout (subst (λ n. SoFar c.reading e.reading c.to text true n passed.body [] 0) all (subst (λ len. SoFar c.reading e.reading c.to text true (read + length input) passed.body [] len) none passed.so_far)) in
    let done : IsDone c.reading e.reading (layout_to to) text true passed.body = record { so_far = in-text; ended = λ t. push.ends.1.1.0 refl; waits = λ f. absurd (true≢false f) } in (
      all-converted from to policy bom c.reading e.reading new.reading text true passed.body done refl ∙ ap (λ t. record { text = t; ending = ending_of_part (kept_len e) }) (written-is from to policy bom c e text (read + length input) (written ++ after) [] push.len new passed (push.mark (λ full. absurd cc))),
      ends-counted from to policy bom c.reading e.reading new.reading text true passed.body done refl,
    )

pub fault-whole : FaultIsOfWhole
fault-whole from to bom c d e text written input after read m room last fault new passes piece within push =
    let before = passed-of from to None bom c text d read written new passes in
    let passed = passed-then c d e text read m room written input after last (AtFault fault) before piece within push in
    let at : IsAtFault c.reading e.reading (layout_to to) text true passed.body fault.unit push.len = record {
      read = read + m;
      within = passed.within;
      strict = new.reading.by_policy;
      so_far = subst (λ l. SoFar c.reading e.reading l text true (read + m) passed.body (Fault fault.unit ∷ []) push.len) new.layout passed.so_far;
    } in
    subst (λ t. IsFaultReported (converted from to None bom) true text t fault) (written-is from to None bom c e text (read + m) (written ++ after) (Fault fault.unit ∷ []) push.len new passed (push.mark (λ full. absurd cc)))
    (ends-fault from to None bom c.reading e.reading new.reading text true passed.body fault push.len at push.ends.1)

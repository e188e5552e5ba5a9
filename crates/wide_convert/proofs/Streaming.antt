-- A text that comes from a source, piece by piece, and the bytes of it that went into a sink.
use Rattle.std.proofs.Common.{◌≡◌, ℕ, ◌+◌, ◌-◌, ◌^◌, ◌<◌, ◌≤◌, List, [], ◌++◌, Bool, true, false, length, length-append, append_assoc, drop, take, refl, sym, ap, ◌∙◌, subst, arith, suc, zero, nat_eq}
use Rattle.std.specs.Prelude.{Option, Result, Ok, Err}
use Rattle.std.specs.Io.KnownBytes.{Consumes, Appends, IsAtEnd, Keeps}
use Rattle.std.proofs.lemmas.List.{append-nil, drop-drop, drop-take, drop_at, length-drop, length-take}
use Rattle.wide_bytes.specs.Put.{IsBeginningOf}
use Rattle.wide_schemes.specs.declared.layout.Layout.{Layout}
use Rattle.wide_transcode.specs.Run.{Moves}
use Rattle.wide_transcode.proofs.ChunkEnds.{no_moves, putting, taking, keeping}
use Rattle.wide_convert.specs.Converting.{EndsFeed, Feeds, IsFaultHere, fault_in}
use Rattle.wide_convert.specs.Steps.{IsReading, SameKind}
use Rattle.wide_convert.specs.Streams.{EndsStream, Flows, IsAtFault, IsCut, IsDone, IsEndOfText, IsReadUp, PutsText, SoFar, fails_to_read, fails_to_write}
use Rattle.wide_convert.specs.declared.converter.ProgressEnd.{ProgressEnd}
use Rattle.wide_convert.specs.declared.converter.ProgressEnd.TheVariants.{NeedsInput, NoSpace, Fault as AtFault}
use Rattle.wide_convert.specs.declared.converter.TextFault.{TextFault}
use Rattle.wide_convert.specs.declared.error.ConvertError.{ConvertError}
use Rattle.wide_convert.specs.declared.error.ConvertError.TheVariants.{Fault, PartOfUnit, TooLong, Read, Write}
use Rattle.wide_convert.specs.declared.reading.Reading.{Reading}
use Rattle.wide_convert.proofs.Feeding.{so_far-feed, so_far-more, so_far-none}

-- How many rounds neither took a byte nor put one: the one that found the end of the source.
abbrev pub idle : Bool → ℕ
idle true = 1
idle false = 0

idle-few : (last : Bool) → idle last ≤ 1
idle-few true = omega arith
idle-few false = omega arith

-- What `rounds` rounds did.
pub record Streaming (r s : Reading) (to : Layout) (last : Bool) (rest : List ℕ) (rounds : ℕ) (left left' held held' : Option (List ℕ)) : Type 0 where
  pub bytes : List ℕ
  pub written : List ℕ
  pub moves : Moves left left' held held' bytes written
  pub flows : Flows r s to bytes last rest written
  pub long : rounds ≤ length bytes + length written + idle last

pub streaming-none : (r : Reading) (to : Layout) (left held : Option (List ℕ)) → IsReading r → Streaming r r to false [] 0 left left held held
streaming-none r to left held ready = record {
  bytes = [];
  written = [];
  moves = no_moves left held;
  flows = record { read = 0; within = omega arith; left = refl; so_far = so_far-none r to [] false ready };
  long = omega arith;
}

-- A call that reads and writes, after what was passed so far.
module _ (r s t : Reading) (to : Layout) (bytes : List ℕ) (last : Bool) (rest before after : List ℕ) (m room : ℕ) (end : ProgressEnd) (flows : Flows r s to bytes last rest before) (fed : Feeds s t to rest last m after room end) (same : SameKind s t) (within : m ≤ length rest) where
  fed-within : flows.read + m ≤ length bytes
  fed-within = omega (arith, within, ap length flows.left, length-drop flows.read bytes, flows.within)

  fed-left : drop (flows.read + m) bytes ≡ drop m rest
  fed-left = sym (drop-drop m flows.read bytes) ∙ ap (drop m) flows.left

  fed-so_far : SoFar r t to bytes last (flows.read + m) (before ++ after) (fault_in end) fed.len
  fed-so_far = so_far-feed r s t to bytes rest last flows.read m before after room end flows.so_far flows.left fed same

  -- A prefix of the text was put.
  pub fed-cut : (put : List ℕ) → IsBeginningOf put after → IsCut r t to bytes last (before ++ put)
  fed-cut put is = record {
    read = flows.read + m;
    within = fed-within;
    text = before ++ after;
    faults = fault_in end;
    len = fed.len;
    so_far = fed-so_far;
    beginning = (is.0, ap (λ xs. before ++ xs) is.1 ∙ sym (append_assoc before put is.0));
  }

  -- The text of all bytes was put.
  pub fed-done : end ≡ NeedsInput → IsDone r t to bytes last (before ++ after)
  fed-done input =
      let ends = subst (λ e. EndsFeed s t rest last m fed.len room e) input fed.ends in
      let all : flows.read + m ≡ length bytes = omega (arith, ends.1.0, ap length flows.left, length-drop flows.read bytes, flows.within) in
      let clean = subst (λ e. SoFar r t to bytes last (flows.read + m) (before ++ after) (fault_in e) fed.len) input fed-so_far in
      record {
        so_far = subst (λ n. SoFar r t to bytes last n (before ++ after) [] 0) all (subst (λ len. SoFar r t to bytes last (flows.read + m) (before ++ after) [] len) ends.0 clean);
        ended = ends.1.1.0;
        waits = ends.1.1.1;
      }

  -- The text before a fault was put.
  pub fed-fault : (fault : TextFault) → end ≡ AtFault fault → (len : ℕ) × (IsAtFault r t to bytes last (before ++ after) fault.unit len × IsFaultHere t len fault)
  fed-fault fault at =
      let ends = subst (λ e. EndsFeed s t rest last m fed.len room e) at fed.ends in (
        fed.len,
        (
          record {
            read = flows.read + m;
            within = fed-within;
            strict = sym flows.so_far.same.policy ∙ ends.0;
            so_far = subst (λ e. SoFar r t to bytes last (flows.read + m) (before ++ after) (fault_in e) fed.len) at fed-so_far;
          },
          ends.1,
        ),
      )

  -- There is no space left, so a text was written.
  pub fed-space : end ≡ NoSpace → Flows r t to bytes last (drop m rest) (before ++ after) × (room < 8)
  fed-space full =
      let ends = subst (λ e. EndsFeed s t rest last m fed.len room e) full fed.ends in
      let clean = subst (λ e. SoFar r t to bytes last (flows.read + m) (before ++ after) (fault_in e) fed.len) full fed-so_far in
      (record { read = flows.read + m; within = fed-within; left = fed-left; so_far = subst (λ len. SoFar r t to bytes last (flows.read + m) (before ++ after) [] len) ends.0 clean }, ends.1)

-- More bytes come, or none, after all of the text before them was put.
pub taken : (r t : Reading) (to : Layout) (bytes xs : List ℕ) (last : Bool) (written : List ℕ) → IsDone r t to bytes false written → Flows r t to (bytes ++ xs) last xs written
taken r t to bytes xs last written done = record {
  read = length bytes;
  within = omega (arith, length-append bytes xs);
  left = drop_at bytes xs (length bytes) refl;
  so_far = so_far-more r t to bytes xs last (length bytes) written [] 0 (omega arith) done.so_far;
}

-- The bytes of a chunk that are left after the first `m` of those from `from` on.
pub left-in : (chunk : List ℕ) (from end m : ℕ) → m ≤ end - from → drop m (take (end - from) (drop from chunk)) ≡ take (end - (from + m)) (drop (from + m) chunk)
left-in chunk from end m within =
    ap (λ n. drop m (take n (drop from chunk))) (omega (arith, within)) ∙ drop-take m (end - (from + m)) (drop from chunk) ∙ ap (take (end - (from + m))) (drop-drop m from chunk)

-- A round of a run: a call that reads and writes, and what was put of its text.
module _ (r s t : Reading) (to : Layout) (last : Bool) (rest : List ℕ) (rounds : ℕ) (left left' held held' held'' : Option (List ℕ)) (run : Streaming r s to last rest rounds left left' held held') (after : List ℕ) (m room : ℕ) (end : ProgressEnd) (fed : Feeds s t to rest last m after room end) (same : SameKind s t) (within : m ≤ length rest) (put : List ℕ) (puts : Appends held' held'' put) where
  pub run-moves : Moves left left' held held'' run.bytes (run.written ++ put)
  run-moves = putting left left' held held' held'' run.bytes run.written put run.moves puts

  -- The sink failed.
  pub run-cut : IsBeginningOf put after → (T : Type 0) (result : Result T ConvertError) (e : ConvertError) (ended : Bool) → result ≡ Err e → e ≡ Write → ended ≡ last → (bytes written : List ℕ) × Moves left left' held held'' bytes written × EndsStream r t to result ended bytes written
  run-cut is T result e ended failed write same-end =
      let cut = fed-cut r s t to run.bytes last rest run.written after m room end run.flows fed same within put is in
      (run.bytes, run.written ++ put, run-moves, subst (λ x. EndsStream r t to x ended run.bytes (run.written ++ put)) (sym (failed ∙ ap (λ x. Err x) write)) (subst (λ x. IsCut r t to run.bytes x (run.written ++ put)) (sym same-end) cut))

  -- There was a fault.
  pub run-fault : put ≡ after → (fault : TextFault) → end ≡ AtFault fault → (ended : Bool) → ended ≡ last → (bytes written : List ℕ) × Moves left left' held held'' bytes written × ((len : ℕ) × (IsAtFault r t to bytes ended written fault.unit len × IsFaultHere t len fault))
  run-fault all fault at ended same-end = (
    run.bytes,
    run.written ++ put,
    run-moves,
    subst (λ x. (len : ℕ) × (IsAtFault r t to run.bytes x (run.written ++ put) fault.unit len × IsFaultHere t len fault)) (sym same-end)
        (subst (λ xs. (len : ℕ) × (IsAtFault r t to run.bytes last (run.written ++ xs) fault.unit len × IsFaultHere t len fault)) (sym all) (fed-fault r s t to run.bytes last rest run.written after m room end run.flows fed same within fault at)),
  )

  -- There was no space left.
  pub run-space : put ≡ after → end ≡ NoSpace → 8 ≤ room + length after → Streaming r t to last (drop m rest) (rounds + 1) left left' held held''
  run-space all full space =
      let flows = fed-space r s t to run.bytes last rest run.written after m room end run.flows fed same within full in
      record {
        bytes = run.bytes;
        written = run.written ++ put;
        moves = run-moves;
        flows = subst (λ xs. Flows r t to run.bytes last (drop m rest) (run.written ++ xs)) (sym all) flows.0;
        long = omega (arith, run.long, length-append run.written put, ap length all, flows.1, space);
      }

  -- All of the chunk was read.
  pub run-done : put ≡ after → end ≡ NeedsInput → (bytes written : List ℕ) × Moves left left' held held'' bytes written × IsDone r t to bytes last written × (rounds ≤ length bytes + length written + idle last)
  run-done all input =
      (run.bytes, run.written ++ put, run-moves, subst (λ xs. IsDone r t to run.bytes last (run.written ++ xs)) (sym all) (fed-done r s t to run.bytes last rest run.written after m room end run.flows fed same within input), omega (arith, run.long, length-append run.written put))

-- A take that found the end, and one that did not.
some-taken : (n len : ℕ) → len ≡ n → 1 ≤ len + idle (nat_eq n 0)
some-taken zero len e = omega arith
some-taken (suc n) len e = omega (arith, e)

-- The first `n` bytes of the buffer were taken from the source, or none at its end.
pub run-taken : (r t : Reading) (to : Layout) (old : Bool) (rounds : ℕ) (left left' left'' held held' : Option (List ℕ)) → ((bytes written : List ℕ) × Moves left left' held held' bytes written × IsDone r t to bytes old written × (rounds ≤ length bytes + length written + idle old)) → old ≡ false
    → (buf : List ℕ) (n : ℕ) → n ≤ length buf → Consumes left' left'' (take n buf) → Streaming r t to (nat_eq n 0) (take (n - 0) buf) (rounds + 1) left left'' held held'
run-taken r t to old rounds left left' left'' held held' run is buf n within given = subst (λ k. Streaming r t to (nat_eq n 0) (take k buf) (rounds + 1) left left'' held held') (omega arith) (record {
  bytes = run.0 ++ take n buf;
  written = run.1;
  moves = taking left left' left'' held held' run.0 run.1 (take n buf) run.2 given;
  flows = taken r t to run.0 (take n buf) (nat_eq n 0) run.1 (subst (λ x. IsDone r t to run.0 x run.1) is run.3);
  long = omega (arith, run.4, ap idle is, length-append run.0 (take n buf), length-take n buf, some-taken n (length (take n buf)) (omega (arith, length-take n buf, within)));
})

-- The source ended, so all of the text was put.
pub run-ended : (r t : Reading) (to : Layout) (last : Bool) (rounds : ℕ) (left left' held held' : Option (List ℕ)) → ((bytes written : List ℕ) × Moves left left' held held' bytes written × IsDone r t to bytes last written × (rounds ≤ length bytes + length written + idle last)) → last ≡ true
    → (T : Type 0) (result : Result T ConvertError) (ended : Bool) → ended ≡ last → IsEndOfText result t.unread_len → IsAtEnd left'
    → ((bytes written : List ℕ) × Moves left left' held held' bytes written × EndsStream r t to result ended bytes written) × (IsReadUp result left' × ((false ≡ fails_to_read result) × (false ≡ fails_to_write result)))
run-ended r t to last rounds left left' held held' run is T (Ok u) ended over end at_end =
    ((run.0, run.1, run.2, (over ∙ is, (subst (λ x. IsDone r t to run.0 x run.1) is run.3, end))), (at_end, (refl, refl)))
run-ended r t to last rounds left left' held held' run is T (Err PartOfUnit) ended over end at_end =
    ((run.0, run.1, run.2, (over ∙ is, (subst (λ x. IsDone r t to run.0 x run.1) is run.3, end))), (at_end, (refl, refl)))
run-ended r t to last rounds left left' held held' run is T (Err (Fault fault)) ended over end at_end = absurd end
run-ended r t to last rounds left left' held held' run is T (Err TooLong) ended over end at_end = absurd end
run-ended r t to last rounds left left' held held' run is T (Err Read) ended over end at_end = absurd end
run-ended r t to last rounds left left' held held' run is T (Err Write) ended over end at_end = absurd end

-- A read failed after all of the text before it was put.
pub run-error : (r t : Reading) (to : Layout) (last : Bool) (rounds : ℕ) (left left' left'' held held' : Option (List ℕ)) → ((bytes written : List ℕ) × Moves left left' held held' bytes written × IsDone r t to bytes last written × (rounds ≤ length bytes + length written + idle last)) → last ≡ false → Keeps left' left''
    → (bytes written : List ℕ) × Moves left left'' held held' bytes written × IsDone r t to bytes false written
run-error r t to last rounds left left' left'' held held' run is keeps = (run.0, run.1, keeping left left' left'' held held' run.0 run.1 run.2 keeps, subst (λ x. IsDone r t to run.0 x run.1) is run.3)

-- A text is cut where a run has had all its rounds.
pub run-long : (r t : Reading) (to : Layout) (last : Bool) (rest : List ℕ) (rounds : ℕ) (left left' held held' : Option (List ℕ)) → Streaming r t to last rest rounds left left' held held' → 2 ^ 64 + 1 ≤ rounds → (ended : Bool) → ended ≡ last
    → (bytes written : List ℕ) × Moves left left' held held' bytes written × ((2 ^ 64 ≤ length bytes + length written) × IsCut r t to bytes ended written)
run-long r t to last rest rounds left left' held held' run many ended same-end = (
  run.bytes,
  run.written,
  run.moves,
  (
    omega (arith, run.long, many, idle-few last),
    subst (λ x. IsCut r t to run.bytes x run.written) (sym same-end) (record {
      read = run.flows.read;
      within = run.flows.within;
      text = run.written;
      faults = [];
      len = 0;
      so_far = run.flows.so_far;
      beginning = ([], sym (append-nil run.written));
    }),
  ),
)

-- Putting a text fails with no other error than `Write`.
pub put-error : (T : Type 0) (e : ConvertError) (failed : Bool) (prefix text : List ℕ) → PutsText {T = T} (Err e) failed prefix text → (e ≡ Write) × ((failed ≡ true) × IsBeginningOf prefix text)
put-error T PartOfUnit failed prefix text h = absurd h
put-error T TooLong failed prefix text h = absurd h
put-error T Read failed prefix text h = absurd h
put-error T (Fault fault) failed prefix text h = absurd h
put-error T Write failed prefix text h = (refl, h)

-- A call that stopped neither at a fault nor for want of space has read its input.
pub input-read : (end : ProgressEnd) → ((fault : TextFault) → end ≡ AtFault fault → ⊥) → (end ≡ NoSpace → ⊥) → end ≡ NeedsInput
input-read NeedsInput calm more = refl
input-read NoSpace calm more = absurd (more refl)
input-read (AtFault fault) calm more = absurd (calm fault refl)

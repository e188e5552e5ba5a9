-- Runs of code points in WTF-8, and what follows a run of UTF-8.
use Rattle.std.proofs.Common.{◌≡◌, ℕ, ◌+◌, ◌<◌, inl, inr, List, [], ◌∷◌, ◌++◌, Bool, true, false, length, length-append, drop, map, refl, sym, ap, ◌∙◌, subst, arith, append_assoc}
use Rattle.std.specs.Prelude.{slice_index}
use Rattle.std.specs.Char.{IsScalar}
use Rattle.std.specs.List.{All}
use Rattle.std.specs.Str.{StartsWithNoChar}
use Rattle.std.specs.Str.Lossy.{utf8_invalid_len}
use Rattle.std.proofs.lemmas.Bool.{cases_Bool}
use Rattle.std.proofs.lemmas.Bool.Decides.{nat_tests}
use Rattle.std.proofs.lemmas.List.{append-nil, drop-append-le, drop-drop, get_or_append_left, map-append}
use Rattle.std.proofs.lemmas.List.Concat.{flat_map-append}
use Rattle.std.proofs.lemmas.List.Elements.{All-append, All-cons, All-head, All-nil, All-tail}
use Rattle.wide_forms.specs.EncodingForm.{Utf16, code_units, encode}
use Rattle.wide_forms.specs.Items.{IsWellFormed}
use Rattle.wide_forms.specs.Searches.{is_high, is_low, is_surrogate}
use Rattle.wide_forms.specs.Segmentation.{Char, Fault}
use Rattle.wide_forms.specs.Utf8.{utf8, utf8_bytes}
use Rattle.wide_forms.specs.Laws.Forms.{one_unit, ranges, scalar_from, some_units}
use Rattle.wide_forms.specs.Laws.Items.{encode-of_items}
use Rattle.wide_forms.specs.Laws.Offsets.{IsWellFormed-encode}
use Rattle.wide_forms.specs.Laws.Utf8.{utf8_bytes-encode_utf8}
use Rattle.wide_unit.specs.CodePoints.{code_points}
use Rattle.wide_conversions.specs.ChunkEnds.{BeginsCharacter}
use Rattle.wide_schemes.specs.Decoded.{BeginsIllFormed, EndsText}
use Rattle.wide_schemes.specs.ItemLaws.{code_points-encode, ends-append, ends-scalars, high-scalar, items-part, items-points, point_items, point_items-scalars, points-append, points-of_scalars, scalar-chars, scalar_items-any}
use Rattle.wide_schemes.specs.Layouts.{BeginsPoint, BeginsWithFault, Decodes, MayFollow, StopsBefore, items_in, scalar_item}
use Rattle.wide_schemes.specs.PointRuns.{BeginsWithHalf, IsPointRun, StartsWithNoHalf}
use Rattle.wide_schemes.specs.Wtf8Items.{IsCodePoint, StartsWithNoPoint, ends_in_high, point_item, wtf8_items}
use Rattle.wide_schemes.specs.declared.layout.Layout.TheVariants.{Wtf8}
use Rattle.wide_schemes.specs.declared.progress.DecodeStop.{DecodeStop}
use Rattle.wide_schemes.specs.declared.progress.DecodeStop.TheVariants.{AtEnd, NoSpace, Incomplete, Fault as AtFault}
use Rattle.wide_schemes.proofs.Halves.{half-bytes, half-range}
use Rattle.wide_schemes.proofs.TextPrefixes.{TextPart}
use Rattle.wide_schemes.proofs.Utf8Chunks.{few-begin}

-- ---- runs

pub run-none : (keeps h : Bool) (bs : List ℕ) → IsPointRun keeps h bs 0 [] h
run-none keeps h bs = record {
  codes = [];
  bound = All-nil IsCodePoint;
  scalars = λ k. All-nil IsScalar;
  apart = refl;
  units = refl;
  state = refl;
  whole = λ more. refl;
}

-- The state after characters.
state-chars : (h h' : Bool) (cs : List ℕ) → All IsScalar cs → (length (encode Utf16 cs) ≡ 0 → h' ≡ h) → (0 < length (encode Utf16 cs) → h' ≡ false) → ends_in_high h (map Char cs) ≡ h'
state-chars h h' [] all same none = sym (same refl)
state-chars h h' (c ∷ cs) all same none =
    let some : 0 < length (encode Utf16 (c ∷ cs)) = omega (arith, some_units Utf16 c, length-append (code_units Utf16 c) (encode Utf16 cs)) in
    ap (λ t. ends_in_high t (map Char cs)) (high-scalar c (All-head IsScalar c cs all)) ∙ ends-scalars cs (All-tail IsScalar c cs all) ∙ sym (none some)

pub run-text : (keeps h h' : Bool) (bs : List ℕ) (n : ℕ) (us : List ℕ) → TextPart bs n us → (length us ≡ 0 → h' ≡ h) → (0 < length us → h' ≡ false) → IsPointRun keeps h bs n us h'
run-text keeps h h' bs n us part same none =
    let units : encode Utf16 part.chars ≡ us = encode-of_items Utf16 part.chars us part.items in
    record {
      codes = part.chars;
      bound = points-of_scalars part.chars part.scalars;
      scalars = λ k. part.scalars;
      apart = point_items-scalars h part.chars part.scalars;
      units = units;
      state = state-chars h h' part.chars part.scalars (λ e. same (sym (ap length units) ∙ e)) (λ e. none (subst (λ k. 0 < k) (ap length units) e));
      whole = part.whole;
    }

pub run-half : (h : Bool) (bs : List ℕ) (u : ℕ) → BeginsWithHalf bs u → point_item h u ≡ Char u → IsPointRun true h bs 3 (u ∷ []) (is_high u)
run-half h bs u half item =
    let r = half-range u half.half in
    record {
      codes = u ∷ [];
      bound = All-cons IsCodePoint u [] (omega (arith, r.to)) (All-nil IsCodePoint);
      scalars = λ k. absurd cc;
      apart = ap (λ i. i ∷ []) item;
      units = ap (λ us. us ++ []) (one_unit u (omega (arith, r.to)));
      state = refl;
      whole = λ more. ap (λ xs. xs ++ more) half.whole ∙ append_assoc (utf8_bytes u) (drop 3 bs) more ∙ ap (λ xs. xs ++ (drop 3 bs ++ more)) (sym (append-nil (utf8_bytes u)));
    }

pub run-then : (keeps h h' h'' : Bool) (bs us vs : List ℕ) (n m : ℕ) → IsPointRun keeps h bs n us h' → IsPointRun keeps h' (drop n bs) m vs h'' → IsPointRun keeps h bs (n + m) (us ++ vs) h''
run-then keeps h h' h'' bs us vs n m one other =
    let cs = one.codes in
    let ds = other.codes in
    let state : ends_in_high h (point_items h cs) ≡ h' = ap (ends_in_high h) one.apart ∙ one.state in
    record {
      codes = cs ++ ds;
      bound = All-append IsCodePoint cs ds one.bound other.bound;
      scalars = λ k. All-append IsScalar cs ds (one.scalars k) (other.scalars k);
      apart = points-append h cs ds ∙ ap (λ is. is ++ point_items (ends_in_high h (point_items h cs)) ds) one.apart ∙ ap (λ t. map Char cs ++ point_items t ds) state ∙ ap (λ is. map Char cs ++ is) other.apart ∙ sym (map-append Char cs ds);
      units = flat_map-append (code_units Utf16) cs ds ∙ ap (λ xs. xs ++ encode Utf16 ds) one.units ∙ ap (λ xs. us ++ xs) other.units;
      state = ap (ends_in_high h) (map-append Char cs ds) ∙ ends-append h (map Char cs) (map Char ds) ∙ ap (λ t. ends_in_high t (map Char ds)) one.state ∙ other.state;
      whole = λ more. one.whole more ∙ ap (λ xs. utf8 cs ++ xs) (other.whole more) ∙ sym (append_assoc (utf8 cs) (utf8 ds) (drop m (drop n bs) ++ more)) ∙ ap (λ xs. xs ++ (drop m (drop n bs) ++ more)) (sym (flat_map-append utf8_bytes cs ds)) ∙ ap (λ xs. utf8 (cs ++ ds) ++ (xs ++ more)) (drop-drop m n bs);
    }

-- A run is what decoding reads.
pub run-decodes : (keeps h h' : Bool) (bs us : List ℕ) (n : ℕ) (last : Bool) → IsPointRun keeps h bs n us h' → (keeps ≡ false → h ≡ false) → Decodes Wtf8 keeps h bs last n us h'
run-decodes true h h' bs us n last run start more may =
    let cs = run.codes in
    let codes : code_points Utf16 us ≡ cs = ap (code_points Utf16) (sym run.units) ∙ code_points-encode h cs run.bound run.apart in
    ap (wtf8_items h) (run.whole more) ∙ items-points h cs (drop n bs ++ more) run.bound ∙ ap (λ is. is ++ wtf8_items (ends_in_high h is) (drop n bs ++ more)) run.apart ∙ ap (λ t. map Char cs ++ wtf8_items t (drop n bs ++ more)) run.state ∙ ap (λ xs. map Char xs ++ wtf8_items h' (drop n bs ++ more)) (sym codes)
run-decodes false h h' bs us n last run start more may =
    let cs = run.codes in
    let scalars = run.scalars refl in
    let apart : point_items false cs ≡ map Char cs = point_items-scalars false cs scalars in
    let codes : code_points Utf16 us ≡ cs = ap (code_points Utf16) (sym run.units) ∙ code_points-encode false cs run.bound apart in
    let rest = drop n bs ++ more in
    ap (λ xs. map scalar_item (wtf8_items false xs)) (run.whole more) ∙ ap (map scalar_item) (items-points false cs rest run.bound ∙ ap (λ is. is ++ wtf8_items (ends_in_high false is) rest) apart)
    ∙ map-append scalar_item (map Char cs) (wtf8_items (ends_in_high false (map Char cs)) rest) ∙ ap (λ is. is ++ map scalar_item (wtf8_items (ends_in_high false (map Char cs)) rest)) (scalar-chars cs scalars)
    ∙ ap (λ is. map Char cs ++ is) (scalar_items-any (ends_in_high false (map Char cs)) false rest) ∙ ap (λ xs. map Char xs ++ map scalar_item (wtf8_items false rest)) (sym codes)

-- The state after a run outside of WTF-8.
pub run-state : (keeps h h' : Bool) (bs us : List ℕ) (n : ℕ) → IsPointRun keeps h bs n us h' → keeps ≡ false → h ≡ false → h' ≡ false
run-state keeps h h' bs us n run k start = sym run.state ∙ ap (λ t. ends_in_high t (map Char run.codes)) start ∙ ends-scalars run.codes (run.scalars k)

pub run-well_formed : (keeps h h' : Bool) (bs us : List ℕ) (n : ℕ) → IsPointRun keeps h bs n us h' → keeps ≡ false → IsWellFormed Utf16 us
run-well_formed keeps h h' bs us n run k = subst (IsWellFormed Utf16) run.units (IsWellFormed-encode Utf16 run.codes (run.scalars k))

-- ---- what follows a run of UTF-8

no-point : (bs : List ℕ) → StartsWithNoChar bs → StartsWithNoHalf bs → StartsWithNoPoint bs
no-point bs chars halves c rest bound e = elim (cases_Bool (is_surrogate c)) [
  | inl half ↦ halves c rest half e
  | inr other ↦ chars c rest (scalar_from c (record { below = bound; no_surrogate = λ from. grind (arith, nat_tests) })) (e ∙ ap (λ xs. xs ++ rest) (utf8_bytes-encode_utf8 c))
]

ill_formed-fault : (keeps h : Bool) (rest : List ℕ) (last : Bool) (unit len : ℕ) → BeginsIllFormed rest last unit len → ((more : List ℕ) → MayFollow last more → StartsWithNoHalf (rest ++ more)) → BeginsWithFault Wtf8 keeps h rest last unit len
ill_formed-fault keeps h rest last unit len ill halves = record { some = ill.some; within = ill.within; whole = omega arith; first = by keeps }
  where
    item : (t : Bool) (more : List ℕ) → MayFollow last more → wtf8_items t (rest ++ more) ≡ Fault unit ∷ wtf8_items t (drop len rest ++ more)
    item t more may =
        let first : slice_index (rest ++ more) 0 ≡ unit = get_or_append_left rest more 0 0 (omega (arith, ill.some, ill.within)) ∙ sym ill.first in
        items-part t (rest ++ more) (omega (arith, ill.some, ill.within, length-append rest more)) (no-point (rest ++ more) (ill.no_char more may) (halves more may))
        ∙ ap (λ u. Fault u ∷ wtf8_items t (drop (utf8_invalid_len (rest ++ more)) (rest ++ more))) first ∙ ap (λ n. Fault unit ∷ wtf8_items t (drop n (rest ++ more))) (ill.part more may) ∙ ap (λ xs. Fault unit ∷ wtf8_items t xs) (drop-append-le len rest more ill.within)

    by : (k : Bool) (more : List ℕ) → MayFollow last more → items_in Wtf8 k h (rest ++ more) ≡ Fault unit ∷ items_in Wtf8 k h (drop len rest ++ more)
    by true more may = item h more may
    by false more may = ap (map scalar_item) (item false more may)

point-of_character : (rest : List ℕ) → BeginsCharacter rest → BeginsPoint rest
point-of_character rest begins = record { code = begins.character; bound = (ranges begins.character begins.scalar).below; more = begins.more; some = begins.some; whole = begins.whole }

pub text-stops-points : (keeps h : Bool) (rest : List ℕ) (last : Bool) (room : ℕ) (stop : DecodeStop) → EndsText rest last stop → ((more : List ℕ) → MayFollow last more → StartsWithNoHalf (rest ++ more)) → StopsBefore Wtf8 keeps h rest last room stop
text-stops-points keeps h rest last room AtEnd ends halves = ends
text-stops-points keeps h rest last room NoSpace ends halves = absurd ends
text-stops-points keeps h rest last room Incomplete ends halves = record {
  some = ends.0;
  few = few-begin rest ends.2;
  beginning = point-of_character rest ends.2;
  no_item = λ l. (let e = ends.1 in absurd cc);
  part = λ l. (let e = ends.1 in absurd cc);
}
text-stops-points keeps h rest last room (AtFault unit len) ends halves = ill_formed-fault keeps h rest last unit len ends halves

-- Fewer than three bytes are no surrogate.
pub few-no_half : (rest : List ℕ) (last : Bool) → length rest < 3 → last ≡ true → (more : List ℕ) → MayFollow last more → StartsWithNoHalf (rest ++ more)
few-no_half rest last few l more may u xs half e =
    let none : more ≡ [] = may l in
    let long : length (utf8_bytes u) ≡ 3 = ap length (half-bytes u half) in
    omega (arith, few, ap length e, length-append rest more, ap length none, length-append (utf8_bytes u) xs, long)

-- A surrogate that is no item is a fault of three bytes.
pub half-fault : (keeps h : Bool) (rest : List ℕ) (last : Bool) (u : ℕ) → BeginsWithHalf rest u → (keeps ≡ true → (h ≡ true) × (is_low u ≡ true)) → BeginsWithFault Wtf8 keeps h rest last u 3
half-fault keeps h rest last u half second = record { some = omega arith; within = half.within; whole = omega arith; first = by keeps second }
  where
    bytes : (more : List ℕ) → rest ++ more ≡ utf8 (u ∷ []) ++ (drop 3 rest ++ more)
    bytes more = ap (λ xs. xs ++ more) half.whole ∙ append_assoc (utf8_bytes u) (drop 3 rest) more ∙ ap (λ xs. xs ++ (drop 3 rest ++ more)) (sym (append-nil (utf8_bytes u)))

    bound : All IsCodePoint (u ∷ [])
    bound = (let r = half-range u half.half in All-cons IsCodePoint u [] (omega (arith, r.to)) (All-nil IsCodePoint))

    by : (k : Bool) → (k ≡ true → (h ≡ true) × (is_low u ≡ true)) → (more : List ℕ) → MayFollow last more → items_in Wtf8 k h (rest ++ more) ≡ Fault u ∷ items_in Wtf8 k h (drop 3 rest ++ more)
    by true given more may =
        let high = (given refl).0 in
        let item : point_item h u ≡ Fault u = rw (high, (given refl).1) in
        ap (wtf8_items h) (bytes more) ∙ items-points h (u ∷ []) (drop 3 rest ++ more) bound ∙ ap (λ i. i ∷ wtf8_items (ends_in_high h (i ∷ [])) (drop 3 rest ++ more)) item
    by false given more may =
        let surrogate : scalar_item (Char u) ≡ Fault u = rw half.half in
        ap (λ xs. map scalar_item (wtf8_items false xs)) (bytes more) ∙ ap (map scalar_item) (items-points false (u ∷ []) (drop 3 rest ++ more) bound) ∙ ap (λ i. i ∷ map scalar_item (wtf8_items (is_high u) (drop 3 rest ++ more))) surrogate
        ∙ ap (λ is. Fault u ∷ is) (scalar_items-any (is_high u) false (drop 3 rest ++ more))

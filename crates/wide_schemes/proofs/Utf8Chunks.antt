-- A chunk of UTF-8: its characters, and the fault or the beginning of a character after them.
use Rattle.std.proofs.Common.{◌≡◌, ℕ, ◌+◌, ◌<◌, ◌≤◌, List, [], ◌∷◌, ◌++◌, Bool, false, add-zero, length, length-append, length-drop, drop, map, refl, sym, ap, ◌∙◌, arith, subst}
use Rattle.std.specs.Prelude.{slice_index}
use Rattle.std.specs.Str.{StartsWithNoChar}
use Rattle.std.proofs.lemmas.List.{drop-append-le, get_or-drop, get_or_append_left}
use Rattle.std.proofs.lemmas.Str.{len_utf8_bounds, length-encode}
use Rattle.wide_forms.specs.EncodingForm.{Utf16}
use Rattle.wide_forms.specs.Items.{IsWellFormed}
use Rattle.wide_forms.specs.Segmentation.{Char, Fault}
use Rattle.wide_forms.specs.Laws.Items.{IsWellFormed-of_chars}
use Rattle.wide_forms.specs.Laws.Utf8.{utf8_bytes-encode_utf8}
use Rattle.wide_conversions.specs.ChunkEnds.{BeginsCharacter, HasFaultAt}
use Rattle.wide_conversions.specs.Utf8Items.{utf8_items}
use Rattle.wide_conversions.specs.Laws.Utf8Items.{no_char-beyond}
use Rattle.wide_conversions.proofs.FirstItems.{begins-part}
use Rattle.wide_schemes.specs.Decoded.{BeginsIllFormed, EndsText}
use Rattle.wide_schemes.specs.declared.progress.DecodeStop.{DecodeStop}
use Rattle.wide_schemes.specs.declared.progress.DecodeStop.TheVariants.{AtEnd, NoSpace, Incomplete, Fault as AtFault}
use Rattle.std.specs.Str.Lossy.{utf8_invalid_len}
use Rattle.wide_schemes.specs.Layouts.{StopsBefore, BeginsWithFault, Decodes, MayFollow}
use Rattle.wide_schemes.specs.declared.layout.Layout.TheVariants.{Utf8}
use Rattle.wide_schemes.proofs.TextPrefixes.{TextPart, codes-of_chars, utf8_items-chars}

-- The units written for a prefix are its characters.
pub part-decodes : (bs : List ℕ) (n : ℕ) (us : List ℕ) (last : Bool) → TextPart bs n us → Decodes Utf8 false false bs last n us false
part-decodes bs n us last part more may =
    ap utf8_items (part.whole more) ∙ utf8_items-chars part.chars (drop n bs ++ more) part.scalars ∙ ap (λ cs. map Char cs ++ utf8_items (drop n bs ++ more)) (sym (codes-of_chars us part.chars part.items))

pub part-well_formed : (bs : List ℕ) (n : ℕ) (us : List ℕ) → TextPart bs n us → IsWellFormed Utf16 us
part-well_formed bs n us part = IsWellFormed-of_chars Utf16 us part.chars part.items

-- What follows a list that is cut at an offset.
pub rest-more : (bs more : List ℕ) (n : ℕ) → n ≤ length bs → drop n (bs ++ more) ≡ drop n bs ++ more
rest-more bs more n within = drop-append-le n bs more within

module _ (bs : List ℕ) (n len : ℕ) (last : Bool) (fault : (more : List ℕ) → MayFollow last more → HasFaultAt (bs ++ more) n len) (bound : n + len ≤ length bs) where
  rest-is : (more : List ℕ) → drop n (bs ++ more) ≡ drop n bs ++ more
  rest-is more = rest-more bs more n (omega (arith, bound))

  -- A fault after the longest prefix that is UTF-8.
  pub fault-ill_formed : BeginsIllFormed (drop n bs) last (slice_index bs n) len
  fault-ill_formed = record {
    some = (fault [] (λ l. refl)).some;
    within = omega (arith, length-drop n bs, bound);
    first = sym (get_or-drop n bs 0 0 ∙ ap (λ k. slice_index bs k) (add-zero n));
    no_char = λ more may. (let at = fault more may in subst StartsWithNoChar (rest-is more) (no_char-beyond (bs ++ more) n at.valid.front (λ k above within. at.valid.longest k above)));
    part = λ more may. (let at = fault more may in ap utf8_invalid_len (sym (rest-is more)) ∙ sym at.part);
  }

-- An ill-formed sequence is a fault of UTF-8.
pub ill_formed-begins : (rest : List ℕ) (last : Bool) (unit len : ℕ) → BeginsIllFormed rest last unit len → BeginsWithFault Utf8 false false rest last unit len
ill_formed-begins rest last unit len ill = record {
  some = ill.some;
  within = ill.within;
  whole = omega arith;
  first = λ more may.
      let item = begins-part (rest ++ more) len (omega (arith, ill.some, ill.within, length-append rest more)) (ill.no_char more may) (ill.part more may) in
      let first : slice_index (rest ++ more) 0 ≡ unit = get_or_append_left rest more 0 0 (omega (arith, ill.some, ill.within)) ∙ sym ill.first in
      item ∙ ap (λ u. Fault u ∷ utf8_items (drop len (rest ++ more))) first ∙ ap (λ xs. Fault unit ∷ utf8_items xs) (drop-append-le len rest more ill.within);
}

-- The beginning of a character has at most three bytes.
pub few-begin : (bs : List ℕ) → BeginsCharacter bs → length bs < 4
few-begin bs begins =
    let c = begins.character in
    omega (arith, begins.some, length-append bs begins.more, ap length begins.whole, ap length (utf8_bytes-encode_utf8 c), length-encode c, (len_utf8_bounds c).1)

-- What follows the longest prefix that is UTF-8 is where decoding stops.
pub text-stops : (rest : List ℕ) (last : Bool) (room : ℕ) (stop : DecodeStop) → EndsText rest last stop → StopsBefore Utf8 false false rest last room stop
text-stops rest last room AtEnd ends = ends
text-stops rest last room NoSpace ends = absurd ends
text-stops rest last room Incomplete ends = record {
  some = ends.0;
  few = few-begin rest ends.2;
  beginning = ends.2;
  no_item = λ l. (let e = ends.1 in absurd cc);
  part = λ l. (let e = ends.1 in absurd cc);
}
text-stops rest last room (AtFault unit len) ends = ill_formed-begins rest last unit len ends

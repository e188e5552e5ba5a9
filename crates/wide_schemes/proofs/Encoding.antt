-- The bytes of units, part by part: characters up to a fault, and then the fault.
use Rattle.std.proofs.Common.{◌≡◌, ℕ, ◌+◌, ◌<◌, List, [], ◌∷◌, ◌++◌, inl, inr, sym, ap, ◌∙◌, subst, Some, None, length, take, drop, append_assoc, get_or}
use Rattle.std.specs.Prelude.{map, Option, ◌⊎◌}
use Rattle.std.specs.Char.{IsScalar}
use Rattle.std.specs.List.{All}
use Rattle.std.proofs.lemmas.List.{append-nil, take-append-drop, drop-drop, drop_more}
use Rattle.wide_forms.specs.EncodingForm.{Utf16, encode, IsFault, IsHighSurrogate, IsLowSurrogate}
use Rattle.wide_forms.specs.Utf8.{utf8, utf8_bytes}
use Rattle.wide_forms.specs.Laws.Ends.{IsCut-after}
use Rattle.wide_forms.specs.Laws.Forms.{IsPair-parts, IsFault-high, IsFault-low, high-no_low}
use Rattle.wide_forms.specs.Laws.Items.{IsCut, items-fault}
use Rattle.wide_forms.specs.Laws.Offsets.{chars-encode, IsWellFormed-encode}
use Rattle.wide_utf16_to_utf8.specs.Encoded.{EncodedUnits, StopsBefore}
use Rattle.wide_unit.specs.CodePoints.{code_of}
use Rattle.wide_schemes.specs.Wtf8.{wtf8}
use Rattle.wide_schemes.specs.Wtf8Laws.{wtf8-append, wtf8-well_formed}

-- Characters, and then other units.
pub wtf8-encoded : (cs rest : List ℕ) → All IsScalar cs → wtf8 (encode Utf16 cs ++ rest) ≡ utf8 cs ++ wtf8 rest
wtf8-encoded cs rest scalars =
    let well = IsWellFormed-encode Utf16 cs scalars in
    wtf8-append (encode Utf16 cs) rest (IsCut-after Utf16 (encode Utf16 cs) rest well) ∙ ap (λ bs. bs ++ wtf8 rest) (wtf8-well_formed (encode Utf16 cs) well ∙ ap utf8 (chars-encode Utf16 cs scalars))

-- A surrogate that belongs to no pair, and then other units.
pub wtf8-fault : (u : ℕ) (rest : List ℕ) → IsFault Utf16 u → IsCut Utf16 (u ∷ []) rest → wtf8 (u ∷ rest) ≡ utf8_bytes u ++ wtf8 rest
wtf8-fault u rest fault cut =
    wtf8-append (u ∷ []) rest cut ∙ ap (λ bs. bs ++ wtf8 rest) (ap (λ is. utf8 (map code_of is)) (items-fault Utf16 u fault) ∙ append-nil (utf8_bytes u))

one-last : (u : ℕ) (prefix : List ℕ) (h : ℕ) → u ∷ [] ≡ prefix ++ h ∷ [] → u ≡ h
one-last u [] h e = cc e
one-last u (x ∷ []) h e = absurd (cc e)
one-last u (x ∷ y ∷ prefix) h e = absurd (cc e)

-- A unit that is a low surrogate, or a high one that no low one follows, belongs to no pair.
unpaired : (u : ℕ) (tail : List ℕ) → IsLowSurrogate Utf16 u ⊎ (IsHighSurrogate Utf16 u × ((l : ℕ) (back : List ℕ) → tail ≡ l ∷ back → ¬ (IsLowSurrogate Utf16 l))) → IsFault Utf16 u × IsCut Utf16 (u ∷ []) tail
unpaired u tail (inl low) =
    (IsFault-low Utf16 u low, λ prefix back h l e f pair. high-no_low Utf16 h (IsPair-parts Utf16 h l pair).0 (subst (IsLowSurrogate Utf16) (one-last u prefix h e) low))
unpaired u tail (inr high) = (IsFault-high Utf16 u high.0, λ prefix back h l e f pair. high.1 l back f (IsPair-parts Utf16 h l pair).1)

next-is : (tail : List ℕ) (l : ℕ) (back : List ℕ) → tail ≡ l ∷ back → ¬ (IsLowSurrogate Utf16 l) → (m : ℕ) (more : List ℕ) → tail ≡ m ∷ more → ¬ (IsLowSurrogate Utf16 m)
next-is tail l back e none m more f low = let same : m ≡ l = cc (e, f) in none (subst (IsLowSurrogate Utf16) same low)

kinds : (u : ℕ) (tail : List ℕ) (f : ℕ) (begun : List ℕ) → f ≡ u → begun ≡ tail → IsLowSurrogate Utf16 f ⊎ (IsHighSurrogate Utf16 f × (l : ℕ) × (back : List ℕ) × (begun ≡ l ∷ back) × ¬ (IsLowSurrogate Utf16 l)) → IsFault Utf16 u × IsCut Utf16 (u ∷ []) tail
kinds u tail f begun same rest (inl low) = unpaired u tail (inl (subst (IsLowSurrogate Utf16) same low))
kinds u tail f begun same rest (inr high) = unpaired u tail (inr (subst (IsHighSurrogate Utf16) same high.0, next-is tail high.1 high.2 (sym rest ∙ high.3) high.4))

-- The unit at which an encoder of characters stopped belongs to no pair.
pub stopped : (us : List ℕ) (fault : Option ℕ) (u : ℕ) (tail : List ℕ) → StopsBefore us fault → us ≡ u ∷ tail → IsFault Utf16 u × IsCut Utf16 (u ∷ []) tail
stopped [] None u tail stop is = absurd (cc is)
stopped (v ∷ []) None u tail stop is =
    let same : v ≡ u = cc is in
    let none : [] ≡ tail = cc is in
    unpaired u tail (inr (subst (IsHighSurrogate Utf16) same stop, λ l back e. absurd (cc (none, e))))
stopped (v ∷ w ∷ us) None u tail stop is = absurd stop
stopped us (Some f) u tail (begun, at, kind) is =
    let same : f ≡ u = cc (at, is) in
    let rest : begun ≡ tail = cc (at, is) in
    kinds u tail f begun same rest kind

-- What is written and what is left, after a part that was encoded.
module _ (us : List ℕ) (read step : ℕ) (before after : List ℕ) (whole : List ℕ) (so_far : whole ≡ before ++ wtf8 (drop read us)) (encoded : EncodedUnits (take step (drop read us)) before after) where
  left : drop step (drop read us) ≡ drop (read + step) us
  left = drop-drop step read us

  pub encoded-next : whole ≡ after ++ wtf8 (drop (read + step) us)
  encoded-next =
      let rest : drop read us ≡ encode Utf16 encoded.cs ++ drop (read + step) us =
      sym (take-append-drop step (drop read us)) ∙ ap (λ xs. xs ++ drop step (drop read us)) encoded.units ∙ ap (λ xs. encode Utf16 encoded.cs ++ xs) left in
      so_far ∙ ap (λ xs. before ++ wtf8 xs) rest ∙ ap (λ bs. before ++ bs) (wtf8-encoded encoded.cs (drop (read + step) us) encoded.scalars)
      ∙ sym (append_assoc before (utf8 encoded.cs) (wtf8 (drop (read + step) us))) ∙ ap (λ bs. bs ++ wtf8 (drop (read + step) us)) (sym encoded.text)

  pub fault-next : (fault : Option ℕ) (u : ℕ) (later : List ℕ) → read + step < length us → StopsBefore (drop step (drop read us)) fault → u ≡ get_or us (read + step) 0 → later ≡ after ++ utf8_bytes u → whole ≡ later ++ wtf8 (drop (read + step + 1) us)
  fault-next fault u later more stop is text =
      let here : drop (read + step) us ≡ u ∷ drop (read + step + 1) us = drop_more us (read + step) 0 more ∙ ap (λ v. v ∷ drop (read + step + 1) us) (sym is) in
      let alone = stopped (drop step (drop read us)) fault u (drop (read + step + 1) us) stop (left ∙ here) in
      encoded-next ∙ ap (λ xs. after ++ wtf8 xs) here ∙ ap (λ bs. after ++ bs) (wtf8-fault u (drop (read + step + 1) us) alone.0 alone.1)
      ∙ sym (append_assoc after (utf8_bytes u) (wtf8 (drop (read + step + 1) us))) ∙ ap (λ bs. bs ++ wtf8 (drop (read + step + 1) us)) (sym text)

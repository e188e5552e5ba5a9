-- Removing the White_Space at an end of characters has only one result.
use Rattle.std.proofs.Common.{◌≡◌, ℕ, List, [], ◌∷◌, ◌++◌, refl, sym, ◌∙◌, ap, subst}
use Rattle.std.proofs.lemmas.List.{reverse-append, reverse-reverse}
use Rattle.std.proofs.lemmas.List.Elements.{All-nil, All-head, All-tail, All-push, All-same, All-append}
use Rattle.std.specs.Prelude.{reverse}
use Rattle.std.specs.List.{All}
use Rattle.wide_utfstr.specs.Trim.{IsWhiteSpace, BeginsWithText, EndsWithText, IsTrimmedStart, IsTrimmedEnd, IsTrimmed}

prefixes-same : (prefix before rest left : List ℕ) → prefix ++ rest ≡ before ++ left → All IsWhiteSpace prefix → All IsWhiteSpace before → BeginsWithText rest → BeginsWithText left → rest ≡ left
prefixes-same [] [] rest left e white also begins starts = e
prefixes-same [] (c ∷ before) rest left e white also begins starts = absurd (begins c (before ++ left) e (All-head IsWhiteSpace c before also))
prefixes-same (c ∷ prefix) [] rest left e white also begins starts = absurd (starts c (prefix ++ rest) (sym e) (All-head IsWhiteSpace c prefix white))
prefixes-same (c ∷ prefix) (d ∷ before) rest left e white also begins starts =
    let tails : prefix ++ rest ≡ before ++ left = cc in
    prefixes-same prefix before rest left tails (All-tail IsWhiteSpace c prefix white) (All-tail IsWhiteSpace d before also) begins starts

pub trimmed_start-same : (cs rest left : List ℕ) → IsTrimmedStart cs rest → IsTrimmedStart cs left → rest ≡ left
trimmed_start-same cs rest left a b = prefixes-same a.prefix b.prefix rest left (sym a.joined ∙ b.joined) a.white b.white a.longest b.longest

-- Trimming at the end is trimming the reversed list at the beginning.
white-reverse : (cs : List ℕ) → All IsWhiteSpace cs → All IsWhiteSpace (reverse cs)
white-reverse [] white = All-nil IsWhiteSpace
white-reverse (c ∷ cs) white =
    All-same IsWhiteSpace (reverse (c ∷ cs)) (reverse cs ++ c ∷ []) (reverse-append (c ∷ []) cs)
    (All-push IsWhiteSpace (reverse cs) c (white-reverse cs (All-tail IsWhiteSpace c cs white)) (All-head IsWhiteSpace c cs white))

begins-reverse : (cs : List ℕ) → EndsWithText cs → BeginsWithText (reverse cs)
begins-reverse cs ends c others e = ends c (reverse others) (sym (reverse-reverse cs) ∙ ap reverse e ∙ reverse-append (c ∷ []) others)

pub trimmed_start-reverse : (cs rest : List ℕ) → IsTrimmedEnd cs rest → IsTrimmedStart (reverse cs) (reverse rest)
trimmed_start-reverse cs rest a = record {
  prefix = reverse a.back;
  joined = ap reverse a.joined ∙ reverse-append rest a.back;
  white = white-reverse a.back a.white;
  longest = begins-reverse rest a.longest;
}

-- Trimming at the end has only one result.
pub trimmed_end-same : (cs rest left : List ℕ) → IsTrimmedEnd cs rest → IsTrimmedEnd cs left → rest ≡ left
trimmed_end-same cs rest left a b =
    let same = trimmed_start-same (reverse cs) (reverse rest) (reverse left) (trimmed_start-reverse cs rest a) (trimmed_start-reverse cs left b) in
    sym (reverse-reverse rest) ∙ ap reverse same ∙ reverse-reverse left

-- Trimming at both ends: if nothing remains, all characters are White_Space. Otherwise the two ends are trimmed one
-- after the other.
white-back : (prefix back : List ℕ) → All IsWhiteSpace (prefix ++ back) → All IsWhiteSpace back
white-back [] back white = white
white-back (c ∷ prefix) back white = white-back prefix back (All-tail IsWhiteSpace c (prefix ++ back) white)

begins-more : (c : ℕ) (rest back : List ℕ) → BeginsWithText (c ∷ rest) → BeginsWithText (c ∷ rest ++ back)
begins-more c rest back begins d others e white = begins c rest refl (subst IsWhiteSpace (sym (first e)) white)
  where
    first : {xs ys : List ℕ} {x y : ℕ} → x ∷ xs ≡ y ∷ ys → x ≡ y
    first e = cc

start-of : (cs : List ℕ) (c : ℕ) (rest : List ℕ) (a : IsTrimmed cs (c ∷ rest)) → IsTrimmedStart cs (c ∷ rest ++ a.back)
start-of cs c rest a = record { prefix = a.prefix; joined = a.joined; white = a.white_prefix; longest = begins-more c rest a.back a.first }

end-of : (cs mid rest : List ℕ) (a : IsTrimmed cs rest) → mid ≡ rest ++ a.back → IsTrimmedEnd mid rest
end-of cs mid rest a e = record { back = a.back; joined = e; white = a.white_back; longest = a.last }

not-all_white : (cs : List ℕ) (c : ℕ) (rest : List ℕ) → IsTrimmed cs [] → IsTrimmed cs (c ∷ rest) → ⊥
not-all_white cs c rest none some =
    let all : All IsWhiteSpace (some.prefix ++ (c ∷ rest ++ some.back)) = subst (All IsWhiteSpace) (sym none.joined ∙ some.joined) (All-append IsWhiteSpace none.prefix none.back none.white_prefix none.white_back) in
    some.first c rest refl (All-head IsWhiteSpace c (rest ++ some.back) (white-back some.prefix (c ∷ rest ++ some.back) all))

pub trimmed-same : (cs rest left : List ℕ) → IsTrimmed cs rest → IsTrimmed cs left → rest ≡ left
trimmed-same cs [] [] a b = refl
trimmed-same cs [] (c ∷ left) a b = absurd (not-all_white cs c left a b)
trimmed-same cs (c ∷ rest) [] a b = absurd (not-all_white cs c rest b a)
trimmed-same cs (c ∷ rest) (d ∷ left) a b =
    let mid = c ∷ rest ++ a.back in
    let same : mid ≡ d ∷ left ++ b.back = trimmed_start-same cs mid (d ∷ left ++ b.back) (start-of cs c rest a) (start-of cs d left b) in
    trimmed_end-same mid (c ∷ rest) (d ∷ left) (end-of cs mid (c ∷ rest) a refl) (end-of cs mid (d ∷ left) b same)

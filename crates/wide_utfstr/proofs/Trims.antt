-- White_Space removed from an end, one character after another.
use Rattle.std.proofs.Common.{◌≡◌, ℕ, List, [], ◌∷◌, ◌++◌, refl, sym, ◌∙◌, ap, take, drop, append_assoc, true, false}
use Rattle.std.proofs.lemmas.List.{append-nil, take-append-drop}
use Rattle.std.proofs.lemmas.List.Elements.{All-nil, All-cons, All-push}
use Rattle.std.specs.Char.{is_whitespace}
use Rattle.std.specs.List.{All}
use Rattle.wide_utfstr.specs.Trim.{IsWhiteSpace, BeginsWithText, EndsWithText, IsTrimmedStart, IsTrimmedEnd, IsTrimmed, IsBackOf, IsPrefixOf, IsMiddleOf}

-- All that was removed from the front is White_Space.
pub record IsPastWhite (cs rest : List ℕ) : Type 0 where
  pub prefix : List ℕ
  pub joined : cs ≡ prefix ++ rest
  pub white : All IsWhiteSpace prefix

-- All that was removed from the back is White_Space.
pub record IsBeforeWhite (cs rest : List ℕ) : Type 0 where
  pub back : List ℕ
  pub joined : cs ≡ rest ++ back
  pub white : All IsWhiteSpace back

pub past-none : (cs : List ℕ) → IsPastWhite cs cs
past-none cs = record { prefix = []; joined = refl; white = All-nil IsWhiteSpace }

pub past-more : (cs rest others : List ℕ) (c : ℕ) → IsPastWhite cs rest → rest ≡ c ∷ others → is_whitespace c ≡ true → IsPastWhite cs others
past-more cs rest others c past e white = record {
  prefix = past.prefix ++ c ∷ [];
  joined = past.joined ∙ ap (λ xs. past.prefix ++ xs) e ∙ sym (append_assoc past.prefix (c ∷ []) others);
  white = All-push IsWhiteSpace past.prefix c past.white white;
}

begins-nil : (xs : List ℕ) → xs ≡ [] → BeginsWithText xs
begins-nil xs e c others f = absurd (cc)

begins-cons : (rest others : List ℕ) (c : ℕ) → rest ≡ c ∷ others → is_whitespace c ≡ false → BeginsWithText rest
begins-cons rest others c e black d ds f white = let same : c ≡ d = cc in let w : is_whitespace c ≡ true = ap is_whitespace same ∙ white in cc

pub past-all : (cs rest : List ℕ) → IsPastWhite cs rest → rest ≡ [] → IsTrimmedStart cs rest
past-all cs rest past e = record { prefix = past.prefix; joined = past.joined; white = past.white; longest = begins-nil rest e }

pub past-end : (cs rest others : List ℕ) (c : ℕ) → IsPastWhite cs rest → rest ≡ c ∷ others → is_whitespace c ≡ false → IsTrimmedStart cs rest
past-end cs rest others c past e black = record { prefix = past.prefix; joined = past.joined; white = past.white; longest = begins-cons rest others c e black }

pub before-none : (cs : List ℕ) → IsBeforeWhite cs cs
before-none cs = record { back = []; joined = sym (append-nil cs); white = All-nil IsWhiteSpace }

pub before-more : (cs rest others : List ℕ) (c : ℕ) → IsBeforeWhite cs rest → rest ≡ others ++ c ∷ [] → is_whitespace c ≡ true → IsBeforeWhite cs others
before-more cs rest others c before e white = record {
  back = c ∷ before.back;
  joined = before.joined ∙ ap (λ xs. xs ++ before.back) e ∙ append_assoc others (c ∷ []) before.back;
  white = All-cons IsWhiteSpace c before.back white before.white;
}

push-not_nil : (xs : List ℕ) (y : ℕ) → xs ++ y ∷ [] ≡ [] → ⊥
push-not_nil [] y e = cc
push-not_nil (x ∷ xs) y e = cc

push-last : (xs ys : List ℕ) (x y : ℕ) → xs ++ x ∷ [] ≡ ys ++ y ∷ [] → x ≡ y
push-last [] [] x y e = cc
push-last [] (b ∷ ys) x y e = let f : ys ++ y ∷ [] ≡ [] = cc in absurd (push-not_nil ys y f)
push-last (a ∷ xs) [] x y e = let f : xs ++ x ∷ [] ≡ [] = cc in absurd (push-not_nil xs x f)
push-last (a ∷ xs) (b ∷ ys) x y e = let f : xs ++ x ∷ [] ≡ ys ++ y ∷ [] = cc in push-last xs ys x y f

ends-nil : (xs : List ℕ) → xs ≡ [] → EndsWithText xs
ends-nil xs e c others f white = push-not_nil others c (sym f ∙ e)

ends-push : (rest others : List ℕ) (c : ℕ) → rest ≡ others ++ c ∷ [] → is_whitespace c ≡ false → EndsWithText rest
ends-push rest others c e black d ds f white = let same : c ≡ d = push-last others ds c d (sym e ∙ f) in let w : is_whitespace c ≡ true = ap is_whitespace same ∙ white in cc

pub before-all : (cs rest : List ℕ) → IsBeforeWhite cs rest → rest ≡ [] → IsTrimmedEnd cs rest
before-all cs rest before e = record { back = before.back; joined = before.joined; white = before.white; longest = ends-nil rest e }

pub before-end : (cs rest others : List ℕ) (c : ℕ) → IsBeforeWhite cs rest → rest ≡ others ++ c ∷ [] → is_whitespace c ≡ false → IsTrimmedEnd cs rest
before-end cs rest others c before e black = record { back = before.back; joined = before.joined; white = before.white; longest = ends-push rest others c e black }

-- If a text begins with no White_Space, neither does a prefix of it.
begins-prefix : (mid rest back : List ℕ) → mid ≡ rest ++ back → BeginsWithText mid → BeginsWithText rest
begins-prefix mid rest back e begins c others f = begins c (others ++ back) (e ∙ ap (λ xs. xs ++ back) f)

pub trimmed-both : (cs mid rest : List ℕ) → IsTrimmedStart cs mid → IsTrimmedEnd mid rest → IsTrimmed cs rest
trimmed-both cs mid rest start end = record {
  prefix = start.prefix;
  back = end.back;
  joined = start.joined ∙ ap (λ xs. start.prefix ++ xs) end.joined;
  white_prefix = start.white;
  white_back = end.white;
  first = begins-prefix mid rest end.back end.joined start.longest;
  last = end.longest;
}

-- The units that remain after the units of a character are removed.
module _ {C : Type 0} where
  pub back-none : (us : List C) → IsBackOf us us
  back-none us = ([], refl)

  pub back-more : (us rest others : List C) (k : ℕ) → IsBackOf us rest → others ≡ drop k rest → IsBackOf us others
  back-more us rest others k part e = (
    part.0 ++ take k rest,
    part.1 ∙ ap (λ xs. part.0 ++ xs) (sym (take-append-drop k rest) ∙ ap (λ xs. take k rest ++ xs) (sym e)) ∙ sym (append_assoc part.0 (take k rest) others),
  )

  pub prefix-none : (us : List C) → IsPrefixOf us us
  prefix-none us = ([], sym (append-nil us))

  pub prefix-more : (us rest others : List C) (k : ℕ) → IsPrefixOf us rest → others ≡ take k rest → IsPrefixOf us others
  prefix-more us rest others k part e = (
    drop k rest ++ part.0,
    part.1 ∙ ap (λ xs. xs ++ part.0) (sym (take-append-drop k rest) ∙ ap (λ xs. xs ++ drop k rest) (sym e)) ∙ append_assoc others (drop k rest) part.0,
  )

  pub middle-both : (us mid rest : List C) → IsBackOf us mid → IsPrefixOf mid rest → IsMiddleOf us rest
  middle-both us mid rest back prefix = (back.0, prefix.0, back.1 ∙ ap (λ xs. back.0 ++ xs) prefix.1)

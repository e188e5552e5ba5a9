-- Quotes in the front of a text.
use Rattle.std.proofs.Common.{◌≡◌, ◌≢◌, ℕ, ◌+◌, ◌<◌, ◌≤◌, Bool, true, false, List, [], ◌∷◌, ◌++◌, length, take, get_or, refl, sym, ◌∙◌, append_assoc, append-nil}
use Rattle.std.specs.Prelude.{if◌then◌else◌, ◌==◌}
use Rattle.std.proofs.lemmas.Bool.{ne_eqb}
use Rattle.std.proofs.lemmas.List.{take_all, take_more}
use Rattle.wide_registry.specs.Escapes.{has_quote}

-- No quote in the front is bare, and it ends in a backslash that escapes the next unit, or in none.
pub record IsFront (front : List ℕ) (is_escaped : Bool) : Type 0 where
  pub all : (more : List ℕ) → has_quote (front ++ more) ≡ has_quote (if is_escaped then 0x5c ∷ more else more)

-- After a backslash, any unit goes to the front.
escaped : (front : List ℕ) (unit : ℕ) → IsFront front true → IsFront (front ++ unit ∷ []) false
escaped front unit h = record { all = λ more. rw append_assoc (h.all (unit ∷ more)) }

-- A backslash goes to the front.
backslash : (front : List ℕ) (unit : ℕ) → unit ≡ 0x5c → IsFront front false → IsFront (front ++ unit ∷ []) true
backslash front unit e h = record { all = λ more. rw (e, append_assoc) (h.all (0x5c ∷ more)) }

-- A unit that is no backslash and no quote says nothing.
has_quote-other : (unit : ℕ) (more : List ℕ) → (unit == 0x5c) ≡ false → (unit == 0x22) ≡ false → has_quote (unit ∷ more) ≡ has_quote more
has_quote-other unit [] no_backslash no_quote = no_quote
has_quote-other unit (next ∷ rest) no_backslash no_quote = rw (no_backslash, no_quote)

-- Another unit goes to the front.
other : (front : List ℕ) (unit : ℕ) → unit ≢ 0x5c → unit ≢ 0x22 → IsFront front false → IsFront (front ++ unit ∷ []) false
other front unit no_backslash no_quote h =
    record { all = λ more. rw append_assoc (h.all (unit ∷ more) ∙ has_quote-other unit more (ne_eqb unit 0x5c no_backslash) (ne_eqb unit 0x22 no_quote)) }

-- The front with one more unit, in each of these cases.
pub more_escaped : (text : List ℕ) (i : ℕ) {was now : Bool} → i < length text → was ≡ true → now ≡ false → IsFront (take i text) was → IsFront (take (i + 1) text) now
more_escaped text i lt e f h = rw (f, take_more text i 0 lt) (escaped (take i text) (get_or text i 0) (rw e at h))

pub more_backslash : (text : List ℕ) (i : ℕ) {was now : Bool} → i < length text → get_or text i 0 ≡ 0x5c → was ≡ false → now ≡ true → IsFront (take i text) was → IsFront (take (i + 1) text) now
more_backslash text i lt is e f h = rw (f, take_more text i 0 lt) (backslash (take i text) (get_or text i 0) is (rw e at h))

pub more_other : (text : List ℕ) (i : ℕ) {was now : Bool} → i < length text → get_or text i 0 ≢ 0x5c → get_or text i 0 ≢ 0x22 → was ≡ false → now ≡ was → IsFront (take i text) was → IsFront (take (i + 1) text) now
more_other text i lt no_backslash no_quote e f h = rw (f, e, take_more text i 0 lt) (other (take i text) (get_or text i 0) no_backslash no_quote (rw e at h))

-- A front has no bare quote.
pub no_quote : (front : List ℕ) (is_escaped : Bool) → IsFront front is_escaped → has_quote front ≡ false
no_quote front true h = rw append-nil at (h.all [])
no_quote front false h = rw append-nil at (h.all [])

-- A quote behind a front is bare.
pub quote : (text : List ℕ) (i : ℕ) {was : Bool} → i < length text → get_or text i 0 ≡ 0x22 → was ≡ false → IsFront (take i text) was → has_quote (take (i + 1) text) ≡ true
quote text i lt is e h = rw (take_more text i 0 lt, is) ((rw e at h).all (0x22 ∷ []))

-- What looking at a source with a beginning, and taking from it, leaves of it.
use Rattle.std.proofs.Common.{◌≡◌, ◌==◌, ◌&&◌, nat_lt, ℕ, ◌+◌, ◌≤◌, Bool, true, false, Option, Some, None, List, [], ◌∷◌, ◌++◌, length, min, take, drop, refl, sym, ap, subst, ◌∙◌, arith, append_assoc, length-drop, length-take, take-add}
use Rattle.std.proofs.lemmas.Bool.{eqb-true}
use Rattle.std.proofs.lemmas.List.{append-nil, take-append-drop, take_at, take_min}
use Rattle.std.specs.Io.KnownBytes.{Consumes, IsAtEnd, Keeps}
use Rattle.wide_files.specs.Boms.{scheme_by_bom}
use Rattle.wide_schemes.specs.declared.scheme.Scheme.{Scheme}
use Rattle.wideconv_command.specs.Inputs.{left_of}
use Rattle.wideconv_command.specs.Texts.{OpensByBom}

-- The first `n` bytes of the beginning were taken.
first-taken : (head : List ℕ) (n : ℕ) (ended : Bool) (left : Option (List ℕ)) → Consumes (left_of head ended left) (left_of (drop n head) ended left) (take n head)
first-taken head n true left = sym (take-append-drop n head)
first-taken head n false None = tt
first-taken head n false (Some ys) = ap (λ xs. xs ++ ys) (sym (take-append-drop n head)) ∙ append_assoc (take n head) (drop n head) ys

pub head-taken : (head rest space after : List ℕ) (n : ℕ) (ended : Bool) (left : Option (List ℕ)) → after ≡ take n head → length after ≡ n → rest ≡ drop n head → Consumes (left_of head ended left) (left_of rest ended left) (take n (after ++ space))
head-taken head rest space after n ended left is long behind =
    subst (λ xs. Consumes (left_of head ended left) (left_of xs ended left) (take n (after ++ space))) (sym behind)
    (subst (λ xs. Consumes (left_of head ended left) (left_of (drop n head) ended left) xs) (sym is ∙ sym (take_at after space n long)) (first-taken head n ended left))

-- What is kept twice is kept.
pub kept-twice : (a b c : Option (List ℕ)) → Keeps a b → Keeps b c → Keeps a c
kept-twice None b c first second = tt
kept-twice (Some xs) None c first second = absurd first
kept-twice (Some xs) (Some ys) None first second = absurd second
kept-twice (Some xs) (Some ys) (Some zs) first second = second ∙ first

both : (a b : Bool) → (a && b) ≡ true → (a ≡ true) × (b ≡ true)
both true true is = (refl, refl)
both true false is = absurd cc
both false b is = absurd cc

no-items : (xs : List ℕ) → length xs ≡ 0 → xs ≡ []
no-items [] is = refl
no-items (x ∷ xs) is = absurd (omega (arith, is))

-- `n` more bytes were looked at, which follow the beginning.
looked-at : (old more : List ℕ) (n space : ℕ) (ended : Bool) (left left' : Option (List ℕ)) → length more ≡ n → ended ≡ ((n == 0) && nat_lt 0 space) → Consumes left left' more → (n ≡ 0 → IsAtEnd left') → Keeps (left_of old false left) (left_of (old ++ more) ended left')
looked-at old more n space ended None left' long over given at_end = tt
looked-at old more n space ended (Some xs) None long over given at_end = absurd given
looked-at old more n space true (Some xs) (Some ys) long over given at_end =
    let none : n ≡ 0 = eqb-true n 0 (both (n == 0) (nat_lt 0 space) (sym over)).0 in
    let nothing : more ≡ [] = no-items more (long ∙ none) in
    ap (λ zs. old ++ zs) (nothing ∙ sym (given ∙ ap (λ zs. zs ++ ys) nothing ∙ at_end none))
looked-at old more n space false (Some xs) (Some ys) long over given at_end = append_assoc old more ys ∙ ap (λ zs. old ++ zs) (sym given)

-- The beginning after `n` bytes were read behind it, where none of it was taken.
head-after : (from end len n : ℕ) (old new : List ℕ) → from ≡ 0 → len ≡ min end (length old) → take len new ≡ take len old → drop from (take (len + n) new) ≡ drop from (take end old) ++ take n (drop len new)
head-after from end len n old new start bound prefix =
    let same : take len new ≡ take end old = prefix ∙ ap (λ k. take k old) bound ∙ take_min end old in
    subst (λ k. drop k (take (len + n) new) ≡ drop k (take end old) ++ take n (drop len new)) (sym start) (take-add len n new ∙ ap (λ xs. xs ++ take n (drop len new)) same)

-- Looking at more bytes takes nothing.
pub looked : (from end len n space : ℕ) (old new : List ℕ) (ended : Bool) (left left' : Option (List ℕ)) → from ≡ 0 → len ≡ min end (length old) → take len new ≡ take len old → len + n ≤ length new → ended ≡ ((n == 0) && nat_lt 0 space) → Consumes left left' (take n (drop len new)) → (n ≡ 0 → IsAtEnd left')
    → Keeps (left_of (drop from (take end old)) false left) (left_of (drop from (take (len + n) new)) ended left')
looked from end len n space old new ended left left' start bound prefix fits over given at_end =
    subst (λ xs. Keeps (left_of (drop from (take end old)) false left) (left_of xs ended left')) (sym (head-after from end len n old new start bound prefix))
    (looked-at (drop from (take end old)) (take n (drop len new)) n space ended left left' (omega (arith, length-take n (drop len new), length-drop len new, fits)) over given at_end)

-- What is consumed of what is kept is consumed.
kept-consumes : (a b c : Option (List ℕ)) (xs : List ℕ) → Keeps a b → Consumes b c xs → Consumes a c xs
kept-consumes None b c xs kept taken = tt
kept-consumes (Some ys) None c xs kept taken = absurd kept
kept-consumes (Some ys) (Some zs) None xs kept taken = absurd taken
kept-consumes (Some ys) (Some zs) (Some ws) xs kept taken = sym kept ∙ taken

-- The beginning is the first of the bytes that are left.
all-taken : (head : List ℕ) (ended : Bool) (left : Option (List ℕ)) → Consumes (left_of head ended left) (left_of [] ended left) head
all-taken head true left = sym (append-nil head)
all-taken head false None = tt
all-taken head false (Some ys) = refl

-- A source was looked at, and of the BOM in its beginning the bytes were taken that the scheme would keep.
pub opens : (before : Option (List ℕ)) (head rest : List ℕ) (ended : Bool) (left : Option (List ℕ)) (found : Scheme × ℕ) → Keeps before (left_of head ended left) → scheme_by_bom head ≡ Some found → rest ≡ drop found.1 head
    → OpensByBom before (left_of rest ended left) found
opens before head rest ended left found kept bom behind = record {
  head = head;
  bom = bom;
  begins = (left_of [] ended left, kept-consumes before (left_of head ended left) (left_of [] ended left) head kept (all-taken head ended left));
  taken = kept-consumes before (left_of head ended left) (left_of rest ended left) (take found.1 head) kept
      (subst (λ xs. Consumes (left_of head ended left) (left_of xs ended left) (take found.1 head)) (sym behind) (first-taken head found.1 ended left));
}

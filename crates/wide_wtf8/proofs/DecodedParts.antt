-- Parts of bytes that are decoded one after the other.
use Rattle.std.proofs.Common.{◌≡◌, ℕ, ◌+◌, ◌-◌, ◌≤◌, List, [], ◌++◌, Bool, false, append_assoc, length, length-append, length-drop, length-take-le, take, drop, ap, ◌∙◌, subst, arith}
use Rattle.std.proofs.lemmas.List.{drop-drop, take-append-le, take_all}
use Rattle.wide_schemes.proofs.Puts.{rest-slice}
use Rattle.wide_wtf8.specs.Faults.{AreUnitsAfter, IsFirstFaultAfter, IsWtf8Of}
use Rattle.wide_wtf8.specs.Laws.{part-end, part-fault, part-later, part-rest, part-short, part-then, text-of_units}
use Rattle.wide_wtf8.specs.Parts.{BeginsWithFault, IsPart}

-- What is left after a part of a slice.
pub rest-of : (bs : List ℕ) (read n : ℕ) → drop n (take (length bs - read) (drop read bs)) ≡ drop (read + n) bs
rest-of bs read n = ap (drop n) (rest-slice bs read) ∙ drop-drop n read bs

pub within-rest : (bs : List ℕ) (read n : ℕ) → read ≤ length bs → n ≤ length (take (length bs - read) (drop read bs)) → read + n ≤ length bs
within-rest bs read n within few = omega (arith, within, few, ap length (rest-slice bs read), length-drop read bs)

-- The units of a part were counted.
abbrev pub Counted : Bool → List ℕ → ℕ → ℕ → Bool → Type 0
Counted h bs read len h' = (us : List ℕ) × IsPart h bs read us h' × (len ≡ length us)

module _ (h h' h'' : Bool) (bs units : List ℕ) (read n w : ℕ) (fits : w ≤ length units) (other : IsPart h' (take (length bs - read) (drop read bs)) n (take w units) h'') where
  pub next-part : IsPart h' (drop read bs) n (take w units) h''
  next-part = subst (λ xs. IsPart h' xs n (take w units) h'') (rest-slice bs read) other

  pub both : (us : List ℕ) → IsPart h bs read us h' → IsPart h bs (read + n) (us ++ take w units) h''
  both us one = part-then h h' h'' bs us (take w units) read n one next-part

  pub counted : (len : ℕ) → Counted h bs read len h' → Counted h bs (read + n) (len + w) h''
  counted len so_far = (so_far.0 ++ take w units, both so_far.0 so_far.1, omega (arith, so_far.2, length-append so_far.0 (take w units), length-take-le w units fits))

  -- A part has no more units than bytes.
  pub short : w ≤ n
  short = omega (arith, length-take-le w units fits, part-short h' h'' (drop read bs) (take w units) n next-part)

  pub all-counted : (len : ℕ) → Counted h bs read len h' → drop n (take (length bs - read) (drop read bs)) ≡ [] → (us : List ℕ) × AreUnitsAfter h bs us × (len + w ≡ length us)
  all-counted len so_far end =
      let all = counted len so_far in
      let none : drop (read + n) bs ≡ [] = subst (λ xs. xs ≡ []) (rest-of bs read n) end in
      (all.0, part-end h h'' bs all.0 (read + n) all.1 none, all.2)

  pub fault-after : (us : List ℕ) (len : ℕ) → read ≤ length bs → n ≤ length (take (length bs - read) (drop read bs)) → IsPart h bs read us h' → BeginsWithFault h'' (drop n (take (length bs - read) (drop read bs))) len → IsFirstFaultAfter h bs (read + n) len
  fault-after us len within few one fault = part-fault h h'' bs (us ++ take w units) (read + n) len (within-rest bs read n within few) (both us one) (subst (λ xs. BeginsWithFault h'' xs len) (rest-of bs read n) fault)

-- ---- units that are written or appended

module _ (h h' h'' : Bool) (bs units : List ℕ) (read n w : ℕ) (fits : w ≤ length units) (other : IsPart h' (take (length bs - read) (drop read bs)) n (take w units) h'') where
  pub all-appended : (us before items new : List ℕ) → IsPart false bs read us h' → items ≡ before ++ us → new ≡ items ++ take w units → drop n (take (length bs - read) (drop read bs)) ≡ [] → (vs : List ℕ) × IsWtf8Of vs bs × (new ≡ before ++ vs)
  all-appended us before items new one so_far more end =
      let vs = us ++ take w units in
      let none : drop (read + n) bs ≡ [] = subst (λ xs. xs ≡ []) (rest-of bs read n) end in
      (vs, text-of_units bs vs (part-end false h'' bs vs (read + n) (both false h' h'' bs units read n w fits other us one) none), more ∙ ap (λ xs. xs ++ take w units) so_far ∙ append_assoc before us (take w units))

  pub appended : (us before items new : List ℕ) → IsPart h bs read us h' → items ≡ before ++ us → new ≡ items ++ take w units → (vs : List ℕ) × IsPart h bs (read + n) vs h'' × (new ≡ before ++ vs)
  appended us before items new one so_far more =
      (us ++ take w units, both h h' h'' bs units read n w fits other us one, more ∙ ap (λ xs. xs ++ take w units) so_far ∙ append_assoc before us (take w units))

  -- No bytes have no units.
  pub no-units : bs ≡ [] → n ≤ length (take (length bs - read) (drop read bs)) → w ≡ 0
  no-units none few = omega (arith, short h h' h'' bs units read n w fits other, few, ap length (rest-slice bs read), length-drop read bs, ap length none)

-- What was copied to the beginning of a slice.
pub take-copied : (few copied rest : List ℕ) (w : ℕ) → copied ≡ take w few → w ≤ length few → take w (copied ++ rest) ≡ take w few
take-copied few copied rest w same fits =
    let long : length copied ≡ w = ap length same ∙ length-take-le w few fits in
    take-append-le w copied rest (omega (arith, long)) ∙ take_all w copied (omega (arith, long)) ∙ same

-- A part and the units of the slice after it.
module _ (h h' : Bool) (bs us : List ℕ) (n : ℕ) (one : IsPart h bs n us h') where
  pub units-after : (vs : List ℕ) → AreUnitsAfter h' (take (length bs - n) (drop n bs)) vs → AreUnitsAfter h bs (us ++ vs)
  units-after vs rest = part-rest h h' bs us vs n one (subst (λ xs. AreUnitsAfter h' xs vs) (rest-slice bs n) rest)

  pub later-fault : (index len : ℕ) → n ≤ length bs → IsFirstFaultAfter h' (take (length bs - n) (drop n bs)) index len → IsFirstFaultAfter h bs (n + index) len
  later-fault index len within fault = part-later h h' bs us n index len within one (subst (λ xs. IsFirstFaultAfter h' xs index len) (rest-slice bs n) fault)

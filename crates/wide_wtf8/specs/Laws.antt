-- The laws of bytes as WTF-8: their parts, units and first faults.
use Rattle.std.proofs.Common.{◌≡◌, ℕ, ◌+◌, ◌≤◌, List, [], ◌∷◌, ◌++◌, inl, inr, Bool, true, false, length, length-append, length-drop, length-take-le, take, drop, refl, sym, ap, ◌∙◌, subst, arith, append_assoc}
use Rattle.std.specs.Prelude.{map}
use Rattle.std.specs.List.{All}
use Rattle.std.proofs.lemmas.Bool.{cases_lt}
use Rattle.std.proofs.lemmas.Bool.Decides.{nat_tests}
use Rattle.std.proofs.lemmas.List.{append-nil, drop-append-le, drop-drop, map-append}
use Rattle.std.proofs.lemmas.List.Concat.{flat_map-append}
use Rattle.std.proofs.lemmas.List.Elements.{All-append, All-cons, All-head, All-nil, All-tail}
use Rattle.wide_forms.specs.EncodingForm.{Utf16, IsCodeUnit, code_units, encode}
use Rattle.wide_forms.specs.Segmentation.{Item, Char, Fault}
use Rattle.wide_forms.specs.Utf8.{utf8, utf8_bytes}
use Rattle.wide_forms.specs.Laws.Forms.{high_of, low_of, one_unit, two_units}
use Rattle.wide_unit.specs.CodePoints.{code_points}
use Rattle.wide_schemes.specs.ItemLaws.{code_points-encode, items-units, points-of_items}
use Rattle.wide_schemes.specs.Layouts.{Decodes}
use Rattle.wide_schemes.specs.Wtf8.{IsWtf8, wtf8}
use Rattle.wide_schemes.specs.Wtf8Items.{AreWtf8Items, IsCodePoint, none, part, point, wtf8_items, wtf8_items-divide, wtf8_items-unique}
use Rattle.wide_schemes.specs.Wtf8Laws.{encode-code_points}
use Rattle.wide_schemes.specs.declared.layout.Layout.TheVariants.{Wtf8}
use Rattle.wide_wtf8.specs.Faults.{AreUnitsAfter, IsFirstFaultAfter, IsWtf8Of}
use Rattle.wide_wtf8.specs.Parts.{BeginsWithFault, IsPart}

-- ---- units of code points

units-of_point : (c : ℕ) → IsCodePoint c → All (IsCodeUnit Utf16) (code_units Utf16 c)
units-of_point c bound = elim (cases_lt c 0x1_0000) [
  | inl below ↦ rw (one_unit c below) (All-cons (IsCodeUnit Utf16) c [] (omega (arith, below)) (All-nil (IsCodeUnit Utf16)))
  | inr from ↦ rw (two_units c from) (All-cons (IsCodeUnit Utf16) (high_of c) (low_of c ∷ []) (omega (arith, from, bound)) (All-cons (IsCodeUnit Utf16) (low_of c) [] (omega arith) (All-nil (IsCodeUnit Utf16))))
]

pub encode-units : (cs : List ℕ) → All IsCodePoint cs → All (IsCodeUnit Utf16) (encode Utf16 cs)
encode-units [] all = All-nil (IsCodeUnit Utf16)
encode-units (c ∷ cs) all =
    All-append (IsCodeUnit Utf16) (code_units Utf16 c) (encode Utf16 cs) (units-of_point c (All-head IsCodePoint c cs all)) (encode-units cs (All-tail IsCodePoint c cs all))

-- A code point has no more units than bytes.
short-point : (c : ℕ) → length (code_units Utf16 c) ≤ length (utf8_bytes c)
unfolding utf8_bytes
short-point c = grind (arith, nat_tests)

pub short-encode : (cs : List ℕ) → length (encode Utf16 cs) ≤ length (utf8 cs)
short-encode [] = omega arith
short-encode (c ∷ cs) = omega (arith, short-point c, short-encode cs, length-append (code_units Utf16 c) (encode Utf16 cs), length-append (utf8_bytes c) (utf8 cs))

-- ---- items

-- No bytes have no items, and other bytes have some.
pub items-none : (h : Bool) → wtf8_items h [] ≡ []
items-none h = wtf8_items-unique h [] [] (none h)

none-of : (h : Bool) (bs : List ℕ) (is : List Item) → AreWtf8Items h bs is → is ≡ [] → bs ≡ []
none-of h bs is (none _) e = refl
none-of h bs is (point _ c rest js bound more) e = absurd cc
none-of h bs is (part _ ds js some unread more) e = absurd cc

pub none-of_items : (h : Bool) (bs : List ℕ) → wtf8_items h bs ≡ [] → bs ≡ []
none-of_items h bs e = none-of h bs (wtf8_items h bs) (wtf8_items-divide h bs) e

-- Characters alone have no fault.
no-fault : (cs ds : List ℕ) (u : ℕ) (is : List Item) → ¬ (map Char cs ≡ map Char ds ++ Fault u ∷ is)
no-fault [] [] u is e = cc e
no-fault [] (d ∷ ds) u is e = cc e
no-fault (c ∷ cs) [] u is e = cc e
no-fault (c ∷ cs) (d ∷ ds) u is e = let rest : map Char cs ≡ map Char ds ++ Fault u ∷ is = cc e in no-fault cs ds u is rest

-- ---- bytes that are WTF-8

pub text-of_units : (bs us : List ℕ) → AreUnitsAfter false bs us → IsWtf8Of us bs
text-of_units bs us are =
    let cs = are.points in
    let points = points-of_items false bs cs are.items in
    record {
      sixteen_bits = subst (All (IsCodeUnit Utf16)) are.units (encode-units cs points.bound);
      text = points.bytes ∙ ap utf8 (sym (code_points-encode false cs points.bound points.apart)) ∙ ap wtf8 are.units;
    }

pub items-of_text : (us : List ℕ) → All (IsCodeUnit Utf16) us → wtf8_items false (wtf8 us) ≡ map Char (code_points Utf16 us)
items-of_text us units =
    ap (wtf8_items false) (sym (append-nil (wtf8 us))) ∙ items-units us [] units ∙ ap (λ js. map Char (code_points Utf16 us) ++ js) (items-none _) ∙ append-nil (map Char (code_points Utf16 us))

pub units-of_text : (bs us : List ℕ) → IsWtf8Of us bs → AreUnitsAfter false bs us
units-of_text bs us is = record {
  points = code_points Utf16 us;
  items = ap (wtf8_items false) is.text ∙ items-of_text us is.sixteen_bits;
  units = encode-code_points us is.sixteen_bits;
}

pub is-text : (bs us : List ℕ) → IsWtf8Of us bs → IsWtf8 bs
is-text bs us is = record { units = us; sixteen_bits = is.sixteen_bits; bytes = is.text }

pub of-text : (bs : List ℕ) → (text : IsWtf8 bs) → IsWtf8Of text.units bs
of-text bs text = record { sixteen_bits = text.sixteen_bits; text = text.bytes }

-- Bytes have no more units than bytes.
pub few-units : (bs us : List ℕ) → IsWtf8Of us bs → length us ≤ length bs
few-units bs us is =
    let are = units-of_text bs us is in
    let points = points-of_items false bs are.points are.items in
    omega (arith, short-encode are.points, ap length are.units, ap length points.bytes)

-- Bytes with a fault are not WTF-8.
pub fault-no_text : (bs : List ℕ) (index len : ℕ) → IsFirstFaultAfter false bs index len → ¬ (IsWtf8 bs)
fault-no_text bs index len fault text =
    let are = units-of_text bs text.units (of-text bs text) in
    no-fault are.points fault.points fault.unit (wtf8_items fault.state (drop (index + len) bs)) (sym are.items ∙ fault.items)

-- ---- parts

pub part-none : (h : Bool) (bs : List ℕ) → IsPart h bs 0 [] h
part-none h bs = record { points = []; items = refl; units = refl; before = refl }

-- What decoding reads is a part.
pub part-decoded : (h h' : Bool) (bs us : List ℕ) (read : ℕ) → read ≤ length bs → All (IsCodeUnit Utf16) us → take read bs ≡ utf8 (code_points Utf16 us) → Decodes Wtf8 true h bs true read us h' → IsPart h bs read us h'
part-decoded h h' bs us read within units bytes decodes = record {
  points = code_points Utf16 us;
  items = ap (wtf8_items h) (sym (append-nil bs)) ∙ decodes [] (λ l. refl) ∙ ap (λ xs. map Char (code_points Utf16 us) ++ wtf8_items h' xs) (append-nil (drop read bs));
  units = encode-code_points us units;
  before = sym (length-take-le read bs within) ∙ ap length bytes;
}

-- The same where more bytes follow those that are decoded.
pub part-window : (h h' : Bool) (bs window more us : List ℕ) (read : ℕ) → bs ≡ window ++ more → read ≤ length window → All (IsCodeUnit Utf16) us → take read window ≡ utf8 (code_points Utf16 us) → Decodes Wtf8 true h window false read us h' → IsPart h bs read us h'
part-window h h' bs window more us read split within units bytes decodes = record {
  points = code_points Utf16 us;
  items = ap (wtf8_items h) split ∙ decodes more (λ l. absurd (cc l)) ∙ ap (λ xs. map Char (code_points Utf16 us) ++ wtf8_items h' xs) (sym (ap (drop read) split ∙ drop-append-le read window more within));
  units = encode-code_points us units;
  before = sym (length-take-le read window within) ∙ ap length bytes;
}

pub part-then : (h h' h'' : Bool) (bs us vs : List ℕ) (n m : ℕ) → IsPart h bs n us h' → IsPart h' (drop n bs) m vs h'' → IsPart h bs (n + m) (us ++ vs) h''
part-then h h' h'' bs us vs n m one other =
    let cs = one.points in
    let ds = other.points in
    record {
      points = cs ++ ds;
      items = one.items ∙ ap (λ is. map Char cs ++ is) other.items ∙ sym (append_assoc (map Char cs) (map Char ds) (wtf8_items h'' (drop m (drop n bs)))) ∙ ap (λ is. is ++ wtf8_items h'' (drop m (drop n bs))) (sym (map-append Char cs ds)) ∙ ap (λ xs. map Char (cs ++ ds) ++ wtf8_items h'' xs) (drop-drop m n bs);
      units = flat_map-append (code_units Utf16) cs ds ∙ ap (λ xs. xs ++ encode Utf16 ds) one.units ∙ ap (λ xs. us ++ xs) other.units;
      before = omega (arith, one.before, other.before, ap length (flat_map-append utf8_bytes cs ds), length-append (utf8 cs) (utf8 ds));
    }

-- A part has no more units than bytes.
pub part-short : (h h' : Bool) (bs us : List ℕ) (n : ℕ) → IsPart h bs n us h' → length us ≤ n
part-short h h' bs us n one = omega (arith, short-encode one.points, ap length one.units, one.before)

-- A part that no byte follows.
pub part-end : (h h' : Bool) (bs us : List ℕ) (n : ℕ) → IsPart h bs n us h' → drop n bs ≡ [] → AreUnitsAfter h bs us
part-end h h' bs us n one end = record {
  points = one.points;
  items = one.items ∙ ap (λ xs. map Char one.points ++ wtf8_items h' xs) end ∙ ap (λ is. map Char one.points ++ is) (items-none h') ∙ append-nil (map Char one.points);
  units = one.units;
}

-- A part, and the units after it.
pub part-rest : (h h' : Bool) (bs us vs : List ℕ) (n : ℕ) → IsPart h bs n us h' → AreUnitsAfter h' (drop n bs) vs → AreUnitsAfter h bs (us ++ vs)
part-rest h h' bs us vs n one rest =
    let cs = one.points in
    let ds = rest.points in
    record {
      points = cs ++ ds;
      items = one.items ∙ ap (λ is. map Char cs ++ is) rest.items ∙ sym (map-append Char cs ds);
      units = flat_map-append (code_units Utf16) cs ds ∙ ap (λ xs. xs ++ encode Utf16 ds) one.units ∙ ap (λ xs. us ++ xs) rest.units;
    }

-- A part, and the fault after it.
pub part-fault : (h h' : Bool) (bs us : List ℕ) (n len : ℕ) → n ≤ length bs → IsPart h bs n us h' → BeginsWithFault h' (drop n bs) len → IsFirstFaultAfter h bs n len
part-fault h h' bs us n len within one fault = record {
  points = one.points;
  unit = fault.unit;
  state = h';
  before = one.before;
  some = fault.some;
  within = omega (arith, fault.within, length-drop n bs, within);
  items = one.items ∙ ap (λ is. map Char one.points ++ is) fault.items ∙ ap (λ xs. map Char one.points ++ Fault fault.unit ∷ wtf8_items h' xs) (drop-drop len n bs);
}

-- A part, and the first fault of what follows it.
pub part-later : (h h' : Bool) (bs us : List ℕ) (n index len : ℕ) → n ≤ length bs → IsPart h bs n us h' → IsFirstFaultAfter h' (drop n bs) index len → IsFirstFaultAfter h bs (n + index) len
part-later h h' bs us n index len within one fault =
    let cs = one.points in
    let ds = fault.points in
    let rest = Fault fault.unit ∷ wtf8_items fault.state (drop (index + len) (drop n bs)) in
    let moved : drop (index + len) (drop n bs) ≡ drop (n + index + len) bs = drop-drop (index + len) n bs ∙ (let e : n + (index + len) ≡ n + index + len = omega arith in ap (λ k. drop k bs) e) in
    record {
      points = cs ++ ds;
      unit = fault.unit;
      state = fault.state;
      before = omega (arith, one.before, fault.before, ap length (flat_map-append utf8_bytes cs ds), length-append (utf8 cs) (utf8 ds));
      some = fault.some;
      within = omega (arith, fault.within, length-drop n bs, within);
      items = one.items ∙ ap (λ is. map Char cs ++ is) fault.items ∙ sym (append_assoc (map Char cs) (map Char ds) rest) ∙ ap (λ is. is ++ rest) (sym (map-append Char cs ds)) ∙ ap (λ xs. map Char (cs ++ ds) ++ Fault fault.unit ∷ wtf8_items fault.state xs) moved;
    }

-- The bytes of code points in a layout.
use Rattle.std.proofs.Common.{◌≡◌, ℕ, ◌<◌, List, [], ◌∷◌, ◌++◌, length, length-append, map, refl, sym, ap, ◌∙◌, arith, ◌%◌, ◌≤◌, length-take-le, take, ◌+◌}
use Rattle.std.proofs.lemmas.List.Concat.{flat_map-append}
use Rattle.wide_forms.specs.EncodingForm.{Utf16 as Utf16Form, Utf32 as Utf32Form, code_units, encode}
use Rattle.wide_forms.specs.Items.{items}
use Rattle.wide_forms.specs.Segmentation.{Item, units_of}
use Rattle.wide_forms.specs.UnitBytes.{big_bytes, little_bytes}
use Rattle.wide_forms.specs.Utf8.{utf8, utf8_bytes}
use Rattle.wide_forms.specs.Laws.Forms.{some_units}
use Rattle.wide_forms.specs.Laws.Items.{units_of-items}
use Rattle.wide_forms.specs.Laws.Utf8.{utf8_bytes-encode_utf8}
use Rattle.std.proofs.lemmas.Str.{len_utf8_bounds, length-encode}
use Rattle.wide_unit.specs.CodePoints.{code_of, code_points}
use Rattle.wide_bytes.specs.declared.order.BoM.{BoM}
use Rattle.wide_bytes.specs.declared.order.BoM.TheVariants.{Little, Big}
use Rattle.wide_bytes.specs.Bytes.{bytes_in}
use Rattle.wide_schemes.specs.Layouts.{bytes32_in, encoded, unit_len}
use Rattle.wide_schemes.specs.declared.layout.Layout.{Layout}
use Rattle.wide_schemes.specs.declared.layout.Layout.TheVariants.{Utf8, Wtf8, Utf16, Utf32}

-- No code points have no bytes.
pub encoded-nil : (layout : Layout) → encoded layout [] ≡ []
encoded-nil Utf8 = refl
encoded-nil Wtf8 = refl
encoded-nil (Utf16 Big) = refl
encoded-nil (Utf16 Little) = refl
encoded-nil (Utf32 Big) = refl
encoded-nil (Utf32 Little) = refl

-- The bytes of concatenated code points are the concatenated bytes.
pub encoded-append : (layout : Layout) (cs ds : List ℕ) → encoded layout (cs ++ ds) ≡ encoded layout cs ++ encoded layout ds
encoded-append Utf8 cs ds = flat_map-append utf8_bytes cs ds
encoded-append Wtf8 cs ds = flat_map-append utf8_bytes cs ds
encoded-append (Utf16 Big) cs ds = ap (bytes_in Big) (flat_map-append (code_units Utf16Form) cs ds) ∙ flat_map-append (big_bytes Utf16Form) (encode Utf16Form cs) (encode Utf16Form ds)
encoded-append (Utf16 Little) cs ds = ap (bytes_in Little) (flat_map-append (code_units Utf16Form) cs ds) ∙ flat_map-append (little_bytes Utf16Form) (encode Utf16Form cs) (encode Utf16Form ds)
encoded-append (Utf32 Big) cs ds = ap (bytes32_in Big) (flat_map-append (code_units Utf32Form) cs ds) ∙ flat_map-append (big_bytes Utf32Form) (encode Utf32Form cs) (encode Utf32Form ds)
encoded-append (Utf32 Little) cs ds = ap (bytes32_in Little) (flat_map-append (code_units Utf32Form) cs ds) ∙ flat_map-append (little_bytes Utf32Form) (encode Utf32Form cs) (encode Utf32Form ds)

some-utf8 : (c : ℕ) (rest : List ℕ) → 0 < length (utf8_bytes c ++ rest)
some-utf8 c rest = omega (arith, length-append (utf8_bytes c) rest, ap length (utf8_bytes-encode_utf8 c), length-encode c, (len_utf8_bounds c).0)

some-bytes : (order : BoM) (us : List ℕ) → 0 < length us → 0 < length (bytes_in order us)
some-bytes Big [] some = absurd (omega arith)
some-bytes Little [] some = absurd (omega arith)
some-bytes Big (u ∷ us) some = omega arith
some-bytes Little (u ∷ us) some = omega arith

some-bytes32 : (order : BoM) (c : ℕ) (cs : List ℕ) → 0 < length (bytes32_in order (encode Utf32Form (c ∷ cs)))
some-bytes32 Big c cs = omega arith
some-bytes32 Little c cs = omega arith

-- A code point has a byte at least.
some-encoded : (layout : Layout) (c : ℕ) (cs : List ℕ) → 0 < length (encoded layout (c ∷ cs))
some-encoded Utf8 c cs = some-utf8 c (utf8 cs)
some-encoded Wtf8 c cs = some-utf8 c (utf8 cs)
some-encoded (Utf16 order) c cs = some-bytes order (encode Utf16Form (c ∷ cs)) (omega (arith, some_units Utf16Form c, length-append (code_units Utf16Form c) (encode Utf16Form cs)))
some-encoded (Utf32 order) c cs = some-bytes32 order c cs

-- Each code point has a byte at least.
pub encoded-long : (layout : Layout) (cs : List ℕ) → length cs ≤ length (encoded layout cs)
encoded-long layout [] = omega (arith, ap length (encoded-nil layout))
encoded-long layout (c ∷ cs) =
    omega (arith, encoded-long layout cs, some-encoded layout c [], ap length (encoded-append layout (c ∷ []) cs), length-append (encoded layout (c ∷ [])) (encoded layout cs))

-- Units have code points, whose bytes they are.
pub some-text : (layout : Layout) (us : List ℕ) → 0 < length us → 0 < length (encoded layout (code_points Utf16Form us))
some-text layout us some = by (items Utf16Form us) refl
  where
    by : (is : List Item) → items Utf16Form us ≡ is → 0 < length (encoded layout (code_points Utf16Form us))
    by [] e = absurd (omega (arith, some, ap length (sym (units_of-items Utf16Form us) ∙ ap (units_of Utf16Form) e)))
    by (i ∷ is) e = (let codes : code_points Utf16Form us ≡ code_of i ∷ map code_of is = ap (map code_of) e in omega (arith, some-encoded layout (code_of i) (map code_of is), ap (λ cs. length (encoded layout cs)) codes))

bytes-even : (order : BoM) (us : List ℕ) → length (bytes_in order us) % 2 ≡ 0
bytes-even Big [] = refl
bytes-even Little [] = refl
bytes-even Big (u ∷ us) = (let rest = bytes-even Big us in omega (arith, rest))
bytes-even Little (u ∷ us) = (let rest = bytes-even Little us in omega (arith, rest))

bytes-fours : (order : BoM) (us : List ℕ) → length (bytes32_in order us) % 4 ≡ 0
bytes-fours Big [] = refl
bytes-fours Little [] = refl
bytes-fours Big (u ∷ us) = (let rest = bytes-fours Big us in omega (arith, rest))
bytes-fours Little (u ∷ us) = (let rest = bytes-fours Little us in omega (arith, rest))

-- The bytes of code points are whole units.
pub encoded-whole : (layout : Layout) (cs : List ℕ) → length (encoded layout cs) % unit_len layout ≡ 0
encoded-whole Utf8 cs = omega arith
encoded-whole Wtf8 cs = omega arith
encoded-whole (Utf16 order) cs = bytes-even order (encode Utf16Form cs)
encoded-whole (Utf32 order) cs = bytes-fours order (encode Utf32Form cs)

-- Bytes that are those of code points are whole units.
pub read-whole : (layout : Layout) (bytes us : List ℕ) (read : ℕ) → read ≤ length bytes → take read bytes ≡ encoded layout (code_points Utf16Form us) → read % unit_len layout ≡ 0
read-whole layout bytes us read within is =
    let long : read ≡ length (encoded layout (code_points Utf16Form us)) = sym (length-take-le read bytes within) ∙ ap length is in
    ap (λ n. n % unit_len layout) long ∙ encoded-whole layout (code_points Utf16Form us)

-- Whole units and whole units are whole units.
pub whole-add : (layout : Layout) (n m : ℕ) → n % unit_len layout ≡ 0 → m % unit_len layout ≡ 0 → (n + m) % unit_len layout ≡ 0
whole-add Utf8 n m a b = omega arith
whole-add Wtf8 n m a b = omega arith
whole-add (Utf16 order) n m a b = omega (arith, a, b)
whole-add (Utf32 order) n m a b = omega (arith, a, b)

-- No units are whole units.
pub whole-none : (layout : Layout) → 0 % unit_len layout ≡ 0
whole-none Utf8 = refl
whole-none Wtf8 = refl
whole-none (Utf16 order) = refl
whole-none (Utf32 order) = refl

-- A unit has bytes.
pub unit-some : (layout : Layout) → 0 < unit_len layout
unit-some Utf8 = omega arith
unit-some Wtf8 = omega arith
unit-some (Utf16 order) = omega arith
unit-some (Utf32 order) = omega arith

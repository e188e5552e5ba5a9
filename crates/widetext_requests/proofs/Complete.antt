-- Arguments that name something are parsed.
use Rattle.std.proofs.Common.{◌≡◌, ◌≢◌, ℕ, zero, suc, ◌+◌, ◌*◌, ◌^◌, ◌<◌, ◌≤◌, Bool, true, false, ◌⊎◌, inl, inr, List, [], ◌∷◌, ◌++◌, map, take, drop, length, get_or, Option, Some, None, Result, Ok, Err, IsSome, MatchOption, Bor, ap, sym, ◌∙◌, subst, refl, encode_utf8, codes, arith}
use Rattle.std.specs.Char.{IsScalar, digit_value}
use Rattle.std.specs.List.{All}
use Rattle.std.specs.Str.Parse.{AllDigits, digits_value}
use Rattle.std.specs.Str.Pattern.{FindsChar, IsSplitAtFirstMatch}
use Rattle.std.specs.declared.string.String.{String}
use Rattle.std.specs.Result.{result_ok}
use Rattle.std.specs.Str.Parse.{IsNumeral, ParsesUnsigned}
use Rattle.std.proofs.lemmas.List.{append-nil, length-append, length-drop}
use Rattle.std.proofs.lemmas.Str.{encode_same, len_utf8_bounds, length-encode}
use Rattle.std.proofs.lemmas.Str.Parse.{without_leading_plus_none}
use Rattle.std.proofs.lemmas.Str.Pattern.{IsSplitOnceResult, split_after, drop_at_char, finds_char_after}
use Rattle.wide_iter.specs.declared.ends.End.{End}
use Rattle.wide_iter.specs.declared.ends.End.TheVariants.{Front, Back}
use Rattle.wide_edit.specs.declared.edits.Edit.{Edit}
use Rattle.wide_edit.specs.declared.edits.Edit.TheVariants.{Push, PushStr, Pop, Truncate, Insert, InsertStr, Remove, Retain, Drain, Replace, SplitOff, Clear}
use Rattle.widetext_requests.specs.EditArguments.{AreEach, HasTypes, IsNamedAt, IsNumber, IsNumberThen, ArgumentHasTypes}
use Rattle.widetext_requests.specs.Command.{AreUnits, AreRead, IsEditOf, IsEndsOf, IsOfTypes, IsUnit, NamesUnits, end_letter}
use Rattle.widetext_requests.specs.declared.edit_arguments.EditArgument.{EditArgument}
use Rattle.widetext_requests.specs.declared.arguments.Request.{Request}
use Rattle.widetext_requests.specs.declared.arguments.Request.TheVariants as request

apart : (a b : ℕ) → a ≡ b → a < b → ⊥
apart a b same less = absurd (omega arith)

-- No digit of a numeral is a separator.
pub no_separator : (radix separator : ℕ) (digits : List ℕ) → radix ≤ digit_value separator → AllDigits radix digits → (i : ℕ) → i < length digits → get_or digits i 0 ≢ separator
no_separator radix separator [] high all i below e = absurd (omega arith)
no_separator radix separator (d ∷ ds) high all zero below e =
    let low : digit_value separator < radix = subst (λ v. digit_value v < radix) e all.0 in
    absurd (omega (arith, low, high))
no_separator radix separator (d ∷ ds) high all (suc i) below e = no_separator radix separator ds high all.1 i (omega arith) e

-- ---- units

below_four : (a b c d : ℕ) → a < 16 → b < 16 → c < 16 → d < 16 → (((0 * 16 + a) * 16 + b) * 16 + c) * 16 + d < 65536
below_four a b c d la lb lc ld = omega arith

below_three : (a b c : ℕ) → a < 16 → b < 16 → c < 16 → ((0 * 16 + a) * 16 + b) * 16 + c < 65536
below_three a b c la lb lc = omega arith

below_two : (a b : ℕ) → a < 16 → b < 16 → (0 * 16 + a) * 16 + b < 65536
below_two a b la lb = omega arith

below_one : (a : ℕ) → a < 16 → 0 * 16 + a < 65536
below_one a la = omega arith

-- At most four hexadecimal digits are a unit.
pub unit_fits : (digits : List ℕ) → AllDigits 16 digits → length digits ≤ 4 → digits_value 16 digits < 65536
unit_fits [] all short = omega arith
unit_fits (a ∷ []) all short = below_one (digit_value a) all.0
unit_fits (a ∷ b ∷ []) all short = below_two (digit_value a) (digit_value b) all.0 all.1.0
unit_fits (a ∷ b ∷ c ∷ []) all short = below_three (digit_value a) (digit_value b) (digit_value c) all.0 all.1.0 all.1.1.0
unit_fits (a ∷ b ∷ c ∷ d ∷ []) all short = below_four (digit_value a) (digit_value b) (digit_value c) (digit_value d) all.0 all.1.0 all.1.1.0 all.1.1.1.0
unit_fits (a ∷ b ∷ c ∷ d ∷ e ∷ ds) all short = absurd (omega arith)

-- At most four hexadecimal digits are parsed as a unit.
pub unit_parsed : {E : Type 0} (digits : List ℕ) (r : Result ℕ E) → ParsesUnsigned 16 16 digits r → IsNumeral 16 digits → length digits ≤ 4 → IsSome (result_ok r)
unit_parsed digits (Ok n) parses numeral short = refl
unit_parsed digits (Err e) parses numeral short =
    let first = no_separator 16 43 digits (omega arith) numeral.1 0 numeral.0 in
    absurd (parses (subst (λ ds. IsNumeral 16 ds × (digits_value 16 ds < 65536)) (sym (without_leading_plus_none digits first)) (numeral, unit_fits digits numeral.1 short)))

-- If the argument names units, the substring before the first comma is one of them, and what follows the comma names
-- the others.
pub record NextUnit (piece : List ℕ) (more : Bool) (rest : List ℕ) : Type 0 where
  pub unit : ℕ
  pub is : IsUnit piece unit
  pub others : more ≡ true → (us : List ℕ) × AreUnits rest us

comma_found : (word : List ℕ) (u : ℕ) (q : ℕ × ℕ) → IsUnit word u → FindsChar 44 word (Some q) → ⊥
comma_found word u q is found =
    let beyond = drop_at_char 44 word q.0 q.1 found.1 (omega arith) in
    let longer = ap length beyond in
    no_separator 16 44 word (omega arith) is.0.1 q.0 (omega (arith, length-drop q.0 word)) (found.1.byte (omega arith))

pub next_unit : (word piece : List ℕ) (more : Bool) (rest us : List ℕ) → IsSplitAtFirstMatch (FindsChar 44) word piece more rest → AreUnits word us → NextUnit piece more rest
next_unit word piece more rest [] cut are = absurd are
next_unit word piece more rest (u ∷ []) cut are = last_unit word piece more rest u cut.1.0 cut.1.1 cut.1.2 are
  where
    last_unit : (word piece : List ℕ) (more : Bool) (rest : List ℕ) (u : ℕ) (o : Option (ℕ × ℕ)) → FindsChar 44 word o
        → MatchOption o ((piece ≡ word) × (more ≡ false)) (λ q. 0 < q.1 → (piece ≡ take q.0 word) × (more ≡ true) × (rest ≡ drop q.1 word)) → IsUnit word u → NextUnit piece more rest
    last_unit word piece more rest u None found parts is = record {
      unit = u;
      is = subst (λ bytes. IsUnit bytes u) (sym parts.0) is;
      others = λ goes. let no : ⊥ = cc (goes, parts.1) in absurd no;
    }
    last_unit word piece more rest u (Some q) found parts is = absurd (comma_found word u q is found)
next_unit word piece more rest (u ∷ v ∷ us) cut are = first_unit word piece more rest u (v ∷ us) cut.1.0 cut.1.1 cut.1.2 are
  where
    first_unit : (word piece : List ℕ) (more : Bool) (rest : List ℕ) (u : ℕ) (us : List ℕ) (o : Option (ℕ × ℕ)) → FindsChar 44 word o
        → MatchOption o ((piece ≡ word) × (more ≡ false)) (λ q. 0 < q.1 → (piece ≡ take q.0 word) × (more ≡ true) × (rest ≡ drop q.1 word))
        → (digits : List ℕ) × (beyond : List ℕ) × (word ≡ digits ++ 44 ∷ beyond) × IsUnit digits u × AreUnits beyond us → NextUnit piece more rest
    first_unit word piece more rest u us None found parts are = absurd (finds_char_after 44 word are.0 are.1 None found (omega arith) are.2 (no_separator 16 44 are.0 (omega arith) are.3.0.1))
    first_unit word piece more rest u us (Some q) found parts are =
        let cut = finds_char_after 44 word are.0 are.1 (Some q) found (omega arith) are.2 (no_separator 16 44 are.0 (omega arith) are.3.0.1) in
        let past : 0 < q.1 = omega (arith, found.1.ends) in
        let is = parts past in
        record {
          unit = u;
          is = subst (λ bytes. IsUnit bytes u) (sym (is.0 ∙ cut.0)) are.3;
          others = λ goes. (us, subst (λ bytes. AreUnits bytes us) (sym (is.2 ∙ cut.1)) are.4);
        }

-- ---- ends

-- A letter of an argument that names ends is the letter of an end.
pub end_of : (ends found : List End) (letter : ℕ) (rest : List ℕ) → map end_letter found ++ letter ∷ rest ≡ map end_letter ends → (letter ≡ 70) ⊎ (letter ≡ 66)
end_of [] [] letter rest e = let no : ⊥ = cc in absurd no
end_of [] (f ∷ found) letter rest e = let no : ⊥ = cc in absurd no
end_of (Front ∷ ends) [] letter rest e = inl (ap (λ (bytes : List ℕ). get_or bytes 0 0) e)
end_of (Back ∷ ends) [] letter rest e = inr (ap (λ (bytes : List ℕ). get_or bytes 0 0) e)
end_of (end ∷ ends) (f ∷ found) letter rest e = end_of ends found letter rest (ap (λ (bytes : List ℕ). drop 1 bytes) e)

pub asks_ends : (units calls : List ℕ) (asked : Request) → IsEndsOf units calls asked → (us : List ℕ) × (ends : List End) × NamesUnits units us × (calls ≡ map end_letter ends)
asks_ends units calls (request.Ends us ends) is = (us.items, ends.items, is.0, is.1)
asks_ends units calls (request.Edit text read) is = absurd is

-- ---- edits

-- A character takes at least one byte, and there are no bytes after its own.
pub no_char : (text : List ℕ) (c : ℕ) → text ≡ encode_utf8 c → length text ≡ 0 → ⊥
no_char text c e empty = absurd (omega (arith, ap length e, length-encode c, (len_utf8_bounds c).0))

pub one_char : (text rest others : List ℕ) (c first second : ℕ) → text ≡ encode_utf8 c → text ≡ encode_utf8 first ++ rest → rest ≡ encode_utf8 second ++ others → ⊥
one_char text rest others c first second e starts goes =
    let none = (encode_same c first [] rest (append-nil (encode_utf8 c) ∙ sym e ∙ starts)).1 in
    absurd (omega (arith, ap length none, ap length goes, length-append (encode_utf8 second) others, length-encode second, (len_utf8_bounds second).0))

-- A text of one character and no more bytes.
pub alone : (text whole rest : List ℕ) (c : ℕ) → whole ≡ text → whole ≡ encode_utf8 c ++ rest → length rest ≡ 0 → text ≡ encode_utf8 c
alone text whole [] c e starts none = sym e ∙ starts ∙ append-nil (encode_utf8 c)
alone text whole (b ∷ rest) c e starts none = absurd (omega arith)

-- The text is split at the comma after a number.
pub after_number : (values : List ℕ) (r : Option (Bor (List ℕ) × Bor (List ℕ))) (n : ℕ) (rest : List ℕ) → IsSplitOnceResult 44 values r → (is : IsNumberThen values n rest) → MatchOption r ⊥ (λ x. (x.0.now ≡ is.0) × (x.1.now ≡ rest))
after_number values r n rest cut is = split_after 44 values is.0 rest r cut (omega arith) is.1 (no_separator 10 44 is.0 (omega arith) is.2.0.1)

-- The first number of an edit whose first number is followed by more values.
pub number_at : (name values : List ℕ) (found : Edit) → HasTypes found → IsNamedAt name values found → (n : ℕ) × (rest : List ℕ) × (n < 2 ^ 64) × IsNumberThen values n rest
number_at name values (Push c) types is = absurd is
number_at name values (PushStr t) types is = absurd is
number_at name values Pop types is = absurd is
number_at name values (Truncate m) types is = absurd is
number_at name values (Insert i c) types is = (i, encode_utf8 c, types.0, is.1)
number_at name values (InsertStr i t) types is = (i, t.now, types, is.1)
number_at name values (Remove i) types is = absurd is
number_at name values (Retain keep) types is = absurd is
number_at name values (Drain a b) types is = (a, is.1.0, types.0, is.1.1)
number_at name values (Replace a b t) types is = (a, is.1.0, types.0, is.1.1)
number_at name values (SplitOff i) types is = absurd is
number_at name values Clear types is = absurd is

pub inserted : (name values : List ℕ) (found : Edit) → HasTypes found → name ≡ codes "insert" → IsNamedAt name values found → (i : ℕ) × (c : ℕ) × IsScalar c × IsNumberThen values i (encode_utf8 c)
inserted name values (Push c) types insert is = absurd is
inserted name values (PushStr t) types insert is = absurd is
inserted name values Pop types insert is = absurd is
inserted name values (Truncate m) types insert is = absurd is
inserted name values (Insert i c) types insert is = (i, c, types.1, is.1)
inserted name values (InsertStr i t) types insert is = absurd (apart 6 9 (ap length (sym insert ∙ is.0)) (omega arith))
inserted name values (Remove i) types insert is = absurd is
inserted name values (Retain keep) types insert is = absurd is
inserted name values (Drain a b) types insert is = absurd (apart 5 6 (ap length (sym is.0 ∙ insert)) (omega arith))
inserted name values (Replace a b t) types insert is = absurd (apart 6 7 (ap length (sym insert ∙ is.0)) (omega arith))
inserted name values (SplitOff i) types insert is = absurd is
inserted name values Clear types insert is = absurd is

pub drained : (name values : List ℕ) (found : Edit) → HasTypes found → name ≡ codes "drain" → IsNamedAt name values found → (a : ℕ) × (b : ℕ) × (rest : List ℕ) × (b < 2 ^ 64) × IsNumberThen values a rest × IsNumber rest b
drained name values (Push c) types drain is = absurd is
drained name values (PushStr t) types drain is = absurd is
drained name values Pop types drain is = absurd is
drained name values (Truncate m) types drain is = absurd is
drained name values (Insert i c) types drain is = absurd (apart 5 6 (ap length (sym drain ∙ is.0)) (omega arith))
drained name values (InsertStr i t) types drain is = absurd (apart 5 9 (ap length (sym drain ∙ is.0)) (omega arith))
drained name values (Remove i) types drain is = absurd is
drained name values (Retain keep) types drain is = absurd is
drained name values (Drain a b) types drain is = (a, b, is.1.0, types.1, is.1.1, is.1.2)
drained name values (Replace a b t) types drain is = absurd (apart 5 7 (ap length (sym drain ∙ is.0)) (omega arith))
drained name values (SplitOff i) types drain is = absurd is
drained name values Clear types drain is = absurd is

pub replaced : (name values : List ℕ) (found : Edit) → HasTypes found → name ≡ codes "replace" → IsNamedAt name values found
    → (a : ℕ) × (b : ℕ) × (rest : List ℕ) × (text : List ℕ) × (b < 2 ^ 64) × IsNumberThen values a rest × IsNumberThen rest b text
replaced name values (Push c) types replace is = absurd is
replaced name values (PushStr t) types replace is = absurd is
replaced name values Pop types replace is = absurd is
replaced name values (Truncate m) types replace is = absurd is
replaced name values (Insert i c) types replace is = absurd (apart 6 7 (ap length (sym is.0 ∙ replace)) (omega arith))
replaced name values (InsertStr i t) types replace is = absurd (apart 7 9 (ap length (sym replace ∙ is.0)) (omega arith))
replaced name values (Remove i) types replace is = absurd is
replaced name values (Retain keep) types replace is = absurd is
replaced name values (Drain a b) types replace is = absurd (apart 5 7 (ap length (sym is.0 ∙ replace)) (omega arith))
replaced name values (Replace a b t) types replace is = (a, b, is.1.0, t.now, types.1, is.1.1, is.1.2)
replaced name values (SplitOff i) types replace is = absurd is
replaced name values Clear types replace is = absurd is

-- Each argument is related to what was read from it, by its index.
pub each_at : {X Y : Type 0} (R : X → Y → Type 0) (xs : List X) (ys : List Y) (i : ℕ) (x : X) (y : Y) → AreEach R xs ys → i < length xs → (i < length ys) × R (get_or xs i x) (get_or ys i y)
each_at R [] ys i x y are below = absurd (omega arith)
each_at R (a ∷ xs) [] i x y are below = absurd are
each_at R (a ∷ xs) (b ∷ ys) zero x y are below = (omega arith, are.0)
each_at R (a ∷ xs) (b ∷ ys) (suc i) x y are below = let at = each_at R xs ys i x y are.1 (omega arith) in (omega (arith, at.0), at.1)

pub asks_edit : {A : Type 0} (text : List ℕ) (words : List (String A)) (asked : Request) → IsOfTypes asked → IsEditOf text words asked → (read : List EditArgument) × All ArgumentHasTypes read × AreRead words read
asks_edit text words (request.Ends us ends) types is = absurd is
asks_edit text words (request.Edit t read) types is = (read.items, types, is.1)

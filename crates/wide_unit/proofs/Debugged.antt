-- The text that `{:?}` prints, item by item.
use Rattle.std.proofs.Common.{◌≡◌, ℕ, zero, suc, ◌<◌, Bool, true, false, cond, List, [], ◌∷◌, ◌++◌, Some, None, Result, refl, sym, ◌∙◌, ap, arith, eqb, encode_utf8_all, append_assoc}
use Rattle.std.proofs.lemmas.Bool.{eqb-true, ltb-true, eqb-false, and_parts}
use Rattle.std.specs.Char.Escape.{backslash, escape_default, IsEscapeDebug}
use Rattle.std.specs.List.{flat_map, list_all}
use Rattle.std.specs.Fmt.{WritesOnOk, DisplaysOnOk, HasWritten, IsPlainFormatter}
use Rattle.std.specs.declared.fmt.Formatter.{Formatter}
use Rattle.std.specs.declared.fmt.Error.{Error}
use Rattle.wide_forms.specs.Segmentation.{Item, Char}
use Rattle.wide_forms.specs.Utf8.{utf8}
use Rattle.wide_forms.specs.Laws.Utf8.{utf8-encode_utf8_all}
use Rattle.wide_forms.specs.Texts.{debug_item, is_plain, quoted, quoted_output}
use Rattle.wide_unit.proofs.Printed.{HasPrinted, printed-none, printed-more, printed-all}

-- A formatter that promises a text only under a condition.
writes-where : {W : Type 0} (took : W → List ℕ → W → Type 0) (f g : Formatter W) (r : Result (Unit {0}) Error) (text : List ℕ) (b : Bool) → (b ≡ true → WritesOnOk took f r text g) → DisplaysOnOk took f r (cond b (Some text) None) g
writes-where took f g r text true writes = writes refl
writes-where took f g r text false writes = tt

plain-first : (i : Item) (is : List Item) → list_all is_plain (i ∷ is) ≡ true → is_plain i ≡ true
plain-first i is all = (and_parts (is_plain i) (list_all is_plain is) all).0

plain-rest : (i : Item) (is : List Item) → list_all is_plain (i ∷ is) ≡ true → list_all is_plain is ≡ true
plain-rest i is all = (and_parts (is_plain i) (list_all is_plain is) all).1

escaped : (c : ℕ) (xs : List ℕ) (b : Bool) → eqb c 0 ≡ b → c < 0x80 → IsEscapeDebug c xs → xs ≡ cond b (backslash ∷ 48 ∷ []) (escape_default c)
escaped c xs true e below is = is.0 (eqb-true c 0 e)
escaped c xs false some below is = is.1 (positive c (eqb-false c 0 some)) below
  where
    positive : (n : ℕ) → (n ≡ 0 → ⊥) → 0 < n
    positive zero other = absurd (other refl)
    positive (suc n) other = omega arith

-- An escape of an ASCII character is written as its bytes.
pub escape-bytes : (c : ℕ) (xs : List ℕ) → is_plain (Char c) ≡ true → IsEscapeDebug c xs → encode_utf8_all xs ≡ debug_item (Char c)
escape-bytes c xs plain is = sym (utf8-encode_utf8_all xs) ∙ ap utf8 (escaped c xs (eqb c 0) refl (ltb-true c 0x80 plain) is)

-- What has to be printed is the text of the first item, and that of the rest.
left-more : (i : Item) (is js : List Item) → is ≡ i ∷ js → flat_map debug_item is ++ 34 ∷ [] ≡ debug_item i ++ (flat_map debug_item js ++ 34 ∷ [])
left-more i is js e = ap (λ ks. flat_map debug_item ks ++ 34 ∷ []) e ∙ append_assoc (debug_item i) (flat_map debug_item js) (34 ∷ [])

-- The invariant of a loop over items between the quotes: if all are ASCII, the rest is, and has to be printed.
pub record HasQuoted {W : Type 0} (took : W → List ℕ → W → Type 0) (f : Formatter W) (all left : List Item) (g : Formatter W) : Type 0 where
  pub so_far : list_all is_plain all ≡ true → IsPlainFormatter f → (list_all is_plain left ≡ true) × HasPrinted took f (quoted all) (flat_map debug_item left ++ 34 ∷ []) g

module _ {W : Type 0} {took : W → List ℕ → W → Type 0} where
  pub quoted-none : {f g : Formatter W} (all left : List Item) → left ≡ all → (IsPlainFormatter f → HasWritten took f (34 ∷ []) g) → HasQuoted took f all left g
  quoted-none all left e quote = record {
    so_far = λ plain_items plain. (
      ap (list_all is_plain) e ∙ plain_items,
      printed-more (34 ∷ []) (flat_map debug_item left ++ 34 ∷ []) (printed-none (quoted all) (quoted left) plain (ap quoted e)) (quote plain) refl,
    );
  }

  pub quoted-more : {f g h : Formatter W} {all left : List Item} (i : Item) (rest : List Item) → HasQuoted took f all left g → left ≡ i ∷ rest → (is_plain i ≡ true → IsPlainFormatter g → HasWritten took g (debug_item i) h) → HasQuoted took f all rest h
  quoted-more i rest before e more = record {
    so_far = λ plain_items plain.
        let now = before.so_far plain_items plain in
        let plain_left : list_all is_plain (i ∷ rest) ≡ true = sym (ap (list_all is_plain) e) ∙ now.0 in (
          plain-rest i rest plain_left,
          printed-more (debug_item i) (flat_map debug_item rest ++ 34 ∷ []) now.1 (more (plain-first i rest plain_left) now.1.wrote.plain) (left-more i _ rest e),
        );
  }

  pub quoted-all : {f g h : Formatter W} {all left : List Item} (r : Result (Unit {0}) Error) → HasQuoted took f all left g → left ≡ [] → WritesOnOk took g r (34 ∷ []) h → DisplaysOnOk took f r (quoted_output all) h
  quoted-all {all = all} r before e quote = writes-where took _ _ r (quoted all) (list_all is_plain all) (λ plain_items plain fine.
      let now = (before.so_far plain_items plain).1 in
      printed-all (printed-more (34 ∷ []) [] now (quote now.wrote.plain fine) (ap (λ is. flat_map debug_item is ++ 34 ∷ []) e)) refl)

use Rattle.std.proofs.Common.{◌≡◌, ◌∷◌, [], ◌++◌, length, length-append, map, ap, sym, subst, ◌∙◌, arith, append_assoc}
use Rattle.std.proofs.lemmas.List.{append-nil, map-id}
use Rattle.wide_forms.specs.EncodingForm.{Utf32}
use Rattle.wide_forms.specs.Items.{chars, IsWellFormed}
use Rattle.wide_forms.specs.Laws.Utf32.{chars32-well_formed}
use Rattle.wide_utfstr.specs.Iter.{chars_left}
use Rattle.wide_utfstring.proofs.Units32.{well32}
use Rattle.wide_utfstring.proofs.utfstring.UtfString+u32+A.copy_chars.Goals as goal

pub loop-c-init : goal.loop-c-init
loop-c-init g c =
    let xs = c.args.self.now.units in
    let well = subst (λ s. IsWellFormed Utf32 (map (λ u. u) s.units)) c.self.view_is c.self.invariant in
    let same : chars Utf32 xs ≡ xs = chars32-well_formed xs (well32 xs well) in
    let left : chars_left Utf32 (λ u. u) c.into_iter-c-iterator.result ≡ chars Utf32 xs =
    ap (chars_left Utf32 (λ u. u)) c.into_iter-c-iterator.ensures.into_iter_gives ∙ c.chars-c-items.ensures.characters ∙ ap (λ us. chars Utf32 (map (λ u. u) us)) c.as_utfstr.ensures ∙ ap (chars Utf32) (map-id xs)
    in
    record {
      copied = ap (λ cs. cs ++ chars_left Utf32 (λ u. u) c.into_iter-c-iterator.result) c.in_ok-chars.ensures.items;
      space = omega (arith, ap (λ s. length s.units) c.self.view_is, ap length c.in_ok-chars.ensures.items, ap length left, ap length same, c.len.ensures, c.in_ok-chars.ensures.capacity);
    }

pub push_reserved-requires : goal.push_reserved-requires
push_reserved-requires g c = omega (arith, ap length c.in-Some.ensures.steps, c.loop-c.invariant.space, c.loop-c.chars.ok)

pub loop-c-preserved : goal.loop-c-preserved
loop-c-preserved g c =
    let rest = chars_left Utf32 (λ u. u) c.next.new.self in
    record {
      copied =
          ap (λ cs. cs ++ rest) c.push_reserved.ensures.items ∙ append_assoc c.loop-c.chars.items (c.in-Some.c ∷ []) rest ∙ ap (λ cs. c.loop-c.chars.items ++ cs) (sym c.in-Some.ensures.steps)
          ∙ c.loop-c.invariant.copied;
      space = omega (arith, ap length c.push_reserved.ensures.items, length-append c.loop-c.chars.items (c.in-Some.c ∷ []), ap length c.in-Some.ensures.steps, c.loop-c.invariant.space, c.push_reserved.ensures.capacity);
    }

pub returns : goal.returns
returns g c =
    let xs = c.args.self.now.units in
    let left : chars_left Utf32 (λ u. u) c.into_iter-c-iterator.result ≡ chars Utf32 xs =
    ap (chars_left Utf32 (λ u. u)) c.into_iter-c-iterator.ensures.into_iter_gives ∙ c.chars-c-items.ensures.characters ∙ ap (λ us. chars Utf32 (map (λ u. u) us)) c.as_utfstr.ensures ∙ ap (chars Utf32) (map-id xs)
    in
    sym (append-nil c.loop-c.chars.items) ∙ ap (λ cs. c.loop-c.chars.items ++ cs) (sym c.in-None.ensures.steps.0) ∙ c.loop-c.invariant.copied ∙ left

use Rattle.std.proofs.Common.{◌≡◌, ℕ, ◌+◌, ◌≤◌, ◌∷◌, [], ◌++◌, List, length, length-append, ap, sym, ◌∙◌, arith, append_assoc}
use Rattle.std.specs.Prelude.{vec_capacity}
use Rattle.std.proofs.lemmas.List.{append-nil}
use Rattle.wide_utfstr.specs.Iter.{chars_left}
use Rattle.wide_editable.proofs.operations.copy.Goals as goal

module _ (old left all : List ℕ) (joined : old ++ left ≡ all) where
  copied-more : (new rest : List ℕ) (c : ℕ) → left ≡ c ∷ rest → new ≡ old ++ c ∷ [] → new ++ rest ≡ all
  copied-more new rest c first e = ap (λ xs. xs ++ rest) e ∙ append_assoc old (c ∷ []) rest ∙ ap (λ xs. old ++ xs) (sym first) ∙ joined

  copied-all : left ≡ [] → old ≡ all
  copied-all none = sym (append-nil old) ∙ ap (λ xs. old ++ xs) (sym none) ∙ joined

room : (old left new rest : List ℕ) (c space : ℕ) → left ≡ c ∷ rest → new ≡ old ++ c ∷ [] → length old + length left ≤ space → length new + length rest ≤ space
room old left new rest c space first e fits = omega (arith, ap length first, ap length e, length-append old (c ∷ []), fits)

pub loop-c-init : goal.loop-c-init
loop-c-init g c = record {
  reported = ap (λ xs. xs ++ chars_left g.C.Unit.form g.C.Unit.number c.chars-rest.result) c.requires.empty ∙ c.chars-rest.ensures.characters;
  fits = omega (arith, ap length c.requires.empty, ap length c.chars-rest.ensures.characters, c.requires.fits);
}

pub push_reserved-requires : goal.push_reserved-requires
push_reserved-requires g c = omega (arith, ap length c.in-Some.ensures.steps, c.loop-c.invariant.fits)

pub loop-c-preserved : goal.loop-c-preserved
loop-c-preserved g c =
    let left = chars_left g.C.Unit.form g.C.Unit.number c.loop-c.rest in
    let rest = chars_left g.C.Unit.form g.C.Unit.number c.next.new.self in
    record {
      reported = copied-more c.loop-c.space.items left _ c.loop-c.invariant.reported c.push_reserved.new.self.items rest c.in-Some.c c.in-Some.ensures.steps c.push_reserved.ensures.items;
      fits = omega (arith, room c.loop-c.space.items left c.push_reserved.new.self.items rest c.in-Some.c (vec_capacity c.loop-c.space) c.in-Some.ensures.steps c.push_reserved.ensures.items c.loop-c.invariant.fits, c.push_reserved.ensures.capacity);
    }

pub returns : goal.returns
returns g c = copied-all c.loop-c.space.items (chars_left g.C.Unit.form g.C.Unit.number c.loop-c.rest) _ c.loop-c.invariant.reported c.in_default.ensures.steps.0

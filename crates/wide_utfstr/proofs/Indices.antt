-- Characters with their offsets: each offset is a boundary, and calls return them in order.
use Rattle.std.proofs.Common.{◌≡◌, ℕ, ◌+◌, List, [], ◌∷◌, ◌++◌, take, append_assoc, sym, ◌∙◌, ap, subst, length, length-append}
use Rattle.std.specs.List.{All}
use Rattle.std.specs.Iterator.Runs.{YieldsInOrder, YieldsInReverse}
use Rattle.std.proofs.iter.runs.Sources.{from_front, from_back, as_is, as_is_back}
use Rattle.std.proofs.lemmas.List.Elements.{All-nil, All-cons}
use Rattle.std.proofs.lemmas.List.{append-nil}
use Rattle.std.proofs.lemmas.List.Concat.{flat_map-append}
use Rattle.std.proofs.Math.Seq.{take-append_seam}
use Rattle.wide_forms.specs.EncodingForm.{EncodingForm, code_units, encode}
use Rattle.wide_forms.specs.Items.{chars, IsWellFormed}
use Rattle.wide_forms.specs.Offsets.{IsCharBoundary}
use Rattle.wide_forms.specs.Laws.Offsets.{IsOffsetOf-prefix}
use Rattle.wide_unit.specs.declared.unit.Unit.{Ghosts}
use Rattle.wide_unit.proofs.CharBoundaries.{IsCharBoundary-of}
use Rattle.wide_utfstr.specs.Indexed.{indexed_chars}
use Rattle.wide_utfstr.specs.Iter.{indices_left, IndicesGive, IndicesGiveBack}

encode-push : (form : EncodingForm) (cs : List ℕ) (c : ℕ) → encode form (cs ++ c ∷ []) ≡ encode form cs ++ code_units form c
encode-push form cs c = flat_map-append (code_units form) cs (c ∷ []) ∙ ap (λ xs. encode form cs ++ xs) (append-nil (code_units form c))

pub boundaries_from : (form : EncodingForm) (us prefix back : List ℕ) → IsWellFormed form us → chars form us ≡ prefix ++ back → All (λ at. IsCharBoundary form us at.0) (indexed_chars form (length (encode form prefix)) back)
boundaries_from form us prefix [] well e = All-nil (λ at. IsCharBoundary form us at.0)
boundaries_from form us prefix (c ∷ back) well e =
    let first : take (length prefix) (chars form us) ≡ prefix = ap (take (length prefix)) e ∙ take-append_seam prefix (c ∷ back) in
    let here : IsCharBoundary form us (length (encode form prefix)) =
    subst (λ cs. IsCharBoundary form us (length (encode form cs))) first (IsCharBoundary-of form us (length (encode form (take (length prefix) (chars form us)))) well (IsOffsetOf-prefix form us well (length prefix)).boundary)
    in
    let next : length (encode form (prefix ++ c ∷ [])) ≡ length (encode form prefix) + length (code_units form c) = ap length (encode-push form prefix c) ∙ length-append (encode form prefix) (code_units form c) in
    All-cons (λ at. IsCharBoundary form us at.0) (length (encode form prefix), c) (indexed_chars form (length (encode form prefix) + length (code_units form c)) back) here
    (subst (λ n. All (λ at. IsCharBoundary form us at.0) (indexed_chars form n back)) next (boundaries_from form us (prefix ++ c ∷ []) back well (e ∙ sym (append_assoc prefix (c ∷ []) back))))

pub indices_in_order : {C : Type 0} {g : Ghosts C} → YieldsInOrder (IndicesGive {C = C} {g = g}) (indices_left g.form g.number)
indices_in_order {C} {g} p s = as_is p (indices_left g.form g.number p.from) (from_front (IndicesGive {C = C} {g = g})
    (λ c. c) (indices_left g.form g.number) (λ s t h. ap length h.0.0) (λ s c t h. h.0) p s)

pub indices_in_reverse : {C : Type 0} {g : Ghosts C} → YieldsInReverse (IndicesGiveBack {C = C} {g = g}) (indices_left g.form g.number)
indices_in_reverse {C} {g} p s = as_is_back p (indices_left g.form g.number p.from) (from_back (IndicesGiveBack {C = C} {g = g})
    (λ c. c) (indices_left g.form g.number) (λ s t h. ap length h.0.0) (λ s c t h. h.0) p s)

-- Lossy text made from a well-formed prefix and the lossy text of the rest.
use Rattle.std.proofs.Common.{◌≡◌, ℕ, List, ◌++◌, sym, ap, subst, ◌∙◌, arith, ◌+◌, ◌≤◌, length, length-append, length-take-le, take, false}
use Rattle.std.proofs.lemmas.List.{take-append-le, take-take, take_all, take-map, map-append}
use Rattle.std.proofs.Math.Seq.{take-append-add, take-append_seam}
use borrow.Rule.Slice.PartMut.{put_mid, post_of}
use Rattle.std.specs.Prelude.{map}
use Rattle.wide_forms.specs.EncodingForm.{EncodingForm, encode}
use Rattle.wide_forms.specs.Items.{items, IsWellFormed, IsFirstFault}
use Rattle.wide_forms.specs.Lossy.{lossy_after, lossy_by}
use Rattle.wide_forms.specs.Laws.Policies.{encode-lossy_by, lossy_after-none, lossy_by-split, well_formed-lossy_by}
use Rattle.wide_forms.specs.declared.policy.Policy.{Policy}
use Rattle.wide_unit.specs.declared.unit.Unit.{Ghosts}
use Rattle.wide_unit.proofs.Faults.{first_fault-not_well_formed, first_fault-prefix}
use Rattle.wide_ustring.specs.Units.{Units}
use Rattle.wide_utfstr.specs.View.{units_seen}
use Rattle.wide_utfstr.specs.declared.view.UtfStr.{UtfStr}
use Rattle.wide_utfstring.specs.CowText.{IsLossyBy}
use Rattle.wide_utfstring.specs.declared.cow.CowUtfStr.TheVariants.{Borrowed, Owned}

-- A prefix with filler begins with the prefix.
pub filled : {C : Type 0} (now old prefix fill : List C) (len : ℕ) → now ≡ take len old ++ fill → old ≡ prefix → length prefix ≤ len → take (length prefix) now ≡ prefix
filled now old prefix fill len is same within =
    ap (take (length prefix)) (is ∙ ap (λ xs. take len xs ++ fill) same ∙ ap (λ xs. xs ++ fill) (take_all len prefix within)) ∙ take-append_seam prefix fill

-- Writing other elements over those after a prefix gives the prefix, and as many of these as are wanted.
written_over : {C : Type 0} (now prefix ys more : List C) (index k n len : ℕ) → take index now ≡ prefix → index ≤ length now → n ≤ length ys → index + n ≤ len → take (index + n) (take len (put_mid index k now ys ++ more)) ≡ prefix ++ take n ys
written_over now prefix ys more index k n len first enough within most =
    let long : length (take index now) ≡ index = length-take-le index now enough in
    let back = post_of index k now in
    let some : index + n ≤ length (put_mid index k now ys) = omega (arith, long, within, length-append (take index now) (ys ++ back), length-append ys back) in
    take-take (index + n) len (put_mid index k now ys ++ more) most ∙ take-append-le (index + n) (put_mid index k now ys) more some ∙ ap (λ m. take (m + n) (put_mid index k now ys)) (sym long) ∙ take-append-add (take index now) (ys ++ back) n
    ∙ ap (λ zs. take index now ++ zs) (take-append-le n ys back within) ∙ ap (λ zs. zs ++ take n ys) first

-- A well-formed prefix and the lossy text of the rest make up the lossy text.
pub copied_text : {C : Type 0} (policy : Policy) (form : EncodingForm) (number : C → ℕ) (units prefix rest now ys more : List C) (index k n r len : ℕ) → prefix ++ rest ≡ units → IsWellFormed form (map number prefix)
    → take index now ≡ prefix → index ≤ length now → n ≤ length ys → index + n ≤ len → r ≡ length rest → map number (take n ys) ≡ encode form (lossy_after policy false (items form (map number (take r rest))))
    → map number (take (index + n) (take len (put_mid index k now ys ++ more))) ≡ encode form (lossy_by policy (items form (map number units)))
copied_text policy form number units prefix rest now ys more index k n r len whole well first enough within most all made =
    let text : map number (take n ys) ≡ encode form (lossy_by policy (items form (map number rest))) =
    made ∙ ap (λ us. encode form (lossy_after policy false (items form (map number us)))) (ap (λ m. take m rest) all ∙ take_all (length rest) rest (omega arith)) ∙ ap (encode form) (lossy_after-none policy (items form (map number rest)))
    in
    ap (map number) (written_over now prefix ys more index k n len first enough within most) ∙ map-append number prefix (take n ys) ∙ ap (λ us. map number prefix ++ us) text ∙ lossy_by-split policy form number units prefix rest whole well

-- The units before the first fault are well formed.
pub prefix_well_formed : {C : Type 0} (form : EncodingForm) (number : C → ℕ) (rest : List C) (index item u : ℕ) → IsFirstFault form (map number rest) index item u → IsWellFormed form (map number (take index rest))
prefix_well_formed form number rest index item u fault = subst (IsWellFormed form) (take-map number index rest) (first_fault-prefix form (map number rest) index item u fault)

module _ {C A F : Type 0} {g : Ghosts C} (policy : Policy) (form : EncodingForm) (number : C → ℕ) (units : List C) where
  pub lossy_borrowed : (view : UtfStr C g) → IsWellFormed form (map number units) → units_seen view ≡ units → IsLossyBy {C = C} {A = A} {F = F} {g = g} policy form number units (Borrowed view)
  lossy_borrowed view well same =
      let seen : IsWellFormed form (map number (units_seen view)) = subst (IsWellFormed form) (sym (ap (map number) same)) well in
      record {
        encoded = ap (map number) same ∙ sym (encode-lossy_by policy form (map number units) well);
        well_formed = seen;
        once = encode-lossy_by policy form (map number (units_seen view)) seen;
        borrowed = (λ _. well, λ _. tt);
        same = λ _. same;
        capacity = tt;
      }

  pub lossy_owned : (string : Units C) (index item u : ℕ) → IsFirstFault form (map number units) index item u → map number string.units ≡ encode form (lossy_by policy (items form (map number units))) → length units ≤ string.capacity
      → IsLossyBy {C = C} {A = A} {F = F} {g = g} policy form number units (Owned string)
  lossy_owned string index item u fault encoded capacity =
      let made : IsWellFormed form (map number string.units) = subst (IsWellFormed form) (sym encoded) (well_formed-lossy_by policy form (map number units)) in
      record {
        encoded = encoded;
        well_formed = made;
        once = encode-lossy_by policy form (map number string.units) made;
        borrowed = (λ none. absurd none, λ well. absurd (first_fault-not_well_formed form (map number units) index item u fault well));
        same = λ none. absurd none;
        capacity = capacity;
      }

-- Lists that are truncated after their first NUL.
use Rattle.std.proofs.Common.{◌≡◌, ℕ, ◌+◌, ◌-◌, ◌<◌, ◌≤◌, List, length, take, get_or, map, arith, sym, ap, ◌∙◌, subst}
use Rattle.std.specs.List.{take-map}
use Rattle.std.proofs.lemmas.List.{get_or-take, get_or-map, length-take, length-map}
use Rattle.wide_unit.specs.Nul.{IsNulAt, NoNulBefore, HasNoNul, IsFirstNul}
use Rattle.wide_ucstr.specs.CString.{EndsInNul, IsCString}

module _ (us : List ℕ) (n : ℕ) where
  nul_in_prefix : (offset : ℕ) → offset < length (take n us) → IsNulAt (take n us) offset → IsNulAt us offset
  nul_in_prefix offset lt nul =
      let below : offset < n = omega (arith, lt, length-take n us) in
      (omega (arith, lt, length-take n us), sym (get_or-take n us offset 0 below) ∙ nul.1)

  pub no_nul_in_prefix : NoNulBefore us n → HasNoNul (take n us)
  no_nul_in_prefix before offset lt nul = before offset (omega (arith, lt, length-take n us)) (nul_in_prefix offset lt nul)

  pub first_of_whole : (offset : ℕ) → IsFirstNul (take n us) offset → IsFirstNul us offset
  first_of_whole offset first = record {
    at = nul_in_prefix offset first.at.0 first.at;
    before = λ earlier lt nul. first.before earlier lt (omega (arith, lt, first.at.0), get_or-take n us earlier 0 (omega (arith, lt, first.at.0, length-take n us)) ∙ nul.1);
  }

pub c_string_in_prefix : (us : List ℕ) (n : ℕ) → IsFirstNul us n → IsCString (take (n + 1) us)
c_string_in_prefix us n first =
    let prefix = take (n + 1) us in
    let here : IsNulAt prefix n = (omega (arith, first.at.0, length-take (n + 1) us), get_or-take (n + 1) us n 0 (omega arith) ∙ first.at.1) in
    let last : length prefix - 1 ≡ n = omega (arith, first.at.0, length-take (n + 1) us) in
    subst (IsFirstNul prefix) (sym last) (record {
      at = here;
      before = λ offset lt nul. first.before offset lt (nul_in_prefix us (n + 1) offset (omega (arith, lt, here.0)) nul);
    })

module _ {X : Type 0} (number : X → ℕ) (xs : List X) (n : ℕ) where
  pub no_nul_in_prefix_of : NoNulBefore (map number xs) n → HasNoNul (map number (take n xs))
  no_nul_in_prefix_of before = subst HasNoNul (take-map number n xs) (no_nul_in_prefix (map number xs) n before)

  pub c_string_in_prefix_of : IsFirstNul (map number xs) n → IsCString (map number (take (n + 1) xs))
  c_string_in_prefix_of first = subst IsCString (take-map number (n + 1) xs) (c_string_in_prefix (map number xs) n first)

  pub first_of_whole_of : (offset : ℕ) → IsFirstNul (map number (take n xs)) offset → IsFirstNul (map number xs) offset
  first_of_whole_of offset first = first_of_whole (map number xs) n offset (subst (λ us. IsFirstNul us offset) (sym (take-map number n xs)) first)

pub ends_in_nul : {X : Type 0} (number : X → ℕ) (xs : List X) (x : X) → 1 ≤ length xs → x ≡ get_or xs (length xs - 1) x → number x ≡ 0 → EndsInNul (map number xs)
ends_in_nul number xs x some is zero =
    let long : length (map number xs) ≡ length xs = length-map xs number in
    (omega (arith, some, long), ap (λ n. get_or (map number xs) (n - 1) 0) long ∙ get_or-map number xs (length xs - 1) x 0 (omega (arith, some)) ∙ ap number (sym is) ∙ zero)

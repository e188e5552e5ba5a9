-- Repaired units are those that `repair` writes.
use Rattle.std.proofs.Common.{◌≡◌, ◌∙◌, ℕ, List, sym, ap, map, take}
use Rattle.std.proofs.lemmas.List.{map-id}
use Rattle.wide_forms.specs.EncodingForm.{EncodingForm, encode}
use Rattle.wide_forms.specs.Items.{items}
use Rattle.wide_forms.specs.Lossy.{lossy}

pub repaired : (form : EncodingForm) (us out : List ℕ) (n : ℕ) → map (λ (u : ℕ). u) (take n out) ≡ encode form (lossy (items form (map (λ (u : ℕ). u) us))) → take n out ≡ encode form (lossy (items form us))
repaired form us out n e = sym (map-id (take n out)) ∙ e ∙ ap (λ vs. encode form (lossy (items form vs))) (map-id us)

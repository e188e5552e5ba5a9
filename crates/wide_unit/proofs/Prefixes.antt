-- Characters at the beginning of units, one after the other.
use Rattle.std.proofs.Common.{◌≡◌, ℕ, List, [], ◌∷◌, ◌++◌, refl, sym, ◌∙◌, ap, append_assoc}
use Rattle.std.specs.Prelude.{map}
use Rattle.std.proofs.lemmas.List.{map_push}
use Rattle.wide_forms.specs.EncodingForm.{EncodingForm}
use Rattle.wide_forms.specs.Segmentation.{Char}
use Rattle.wide_forms.specs.Items.{items, BeginsWithChars}

pub chars-none : (form : EncodingForm) (us : List ℕ) → BeginsWithChars form us us
chars-none form us = ([], refl)

pub chars-more : (form : EncodingForm) (us rest tail : List ℕ) (c : ℕ) → BeginsWithChars form us rest → items form rest ≡ Char c ∷ items form tail → BeginsWithChars form us tail
chars-more form us rest tail c so_far e =
    (so_far.0 ++ c ∷ [], so_far.1 ∙ ap (λ is. map Char so_far.0 ++ is) e ∙ sym (append_assoc (map Char so_far.0) (Char c ∷ []) (items form tail)) ∙ ap (λ is. is ++ items form tail) (sym (map_push Char so_far.0 c)))

-- A unit that is put back into the lookahead will be read again.
use Rattle.std.proofs.Common.{◌≡◌, ℕ, List, [], ◌∷◌, ◌++◌, Some, None, sym, ap, ◌∙◌}
use Rattle.std.specs.Option.{option_to_list}
use Rattle.std.proofs.lemmas.List.{append-nil}
use Rattle.wide_iter.specs.declared.decode16.DecodeUtf16.{DecodeUtf16}
use Rattle.wide_iter.specs.Source.{left_in_source}
use Rattle.wide_iter.specs.Decoder16.{units_left}

module _ {I : Type 0} (rest : I → List ℕ) (s : DecodeUtf16 I) (u : ℕ) where
  pub put_front : s.front ≡ None → units_left rest (record s { front = Some u }) ≡ u ∷ units_left rest s
  put_front e = ap (λ o. u ∷ (option_to_list o ++ left_in_source rest s.source ++ option_to_list s.back)) (sym e)

  pub put_back : s.back ≡ None → units_left rest (record s { back = Some u }) ≡ units_left rest s ++ u ∷ []
  put_back e =
      let all = option_to_list s.front ++ left_in_source rest s.source in
      ap (λ l. l ++ u ∷ []) (sym (append-nil all)) ∙ ap (λ o. all ++ option_to_list o ++ u ∷ []) (sym e)

use Rattle.std.proofs.Common.{◌≡◌, ◌+◌, ◌-◌, ◌++◌, ◌∷◌, ◌∙◌, [], ap, arith, take, drop}
use Rattle.std.proofs.lemmas.List.{drop-drop}
use Rattle.wide_schemes.specs.Wtf8.{wtf8}
use Rattle.wide_wtf8.proofs.Appends.{four-bytes}
use Rattle.wide_wtf8.proofs.appending.put_pair.Goals as goal

pub returns : goal.returns
returns c =
    let h = c.args.high in
    let l = c.args.low in
    let pair = c.put_wtf8-len.new.out in
    let four : take 4 pair ≡ wtf8 (h ∷ l ∷ []) = four-bytes h l pair c.put_wtf8-len.result c.requires.high c.requires.low (omega (arith, c.put_wtf8-len.ensures.written, c.put_wtf8-len.auto.out)) c.put_wtf8-len.ensures.text in
    let bytes = c.args.bytes.now in
    let at = c.args.at in
    let rest : drop (at + 4 - at) (drop at bytes) ≡ drop (at + 4) bytes = drop-drop (at + 4 - at) at bytes ∙ (let e : at + (at + 4 - at) ≡ at + 4 = omega arith in ap (λ k. drop k bytes) e) in
    ap (λ xs. take at bytes ++ (xs ++ drop (at + 4 - at) (drop at bytes))) (c.copy_from_slice.ensures.after ∙ four) ∙ ap (λ xs. take at bytes ++ (wtf8 (h ∷ l ∷ []) ++ xs)) rest

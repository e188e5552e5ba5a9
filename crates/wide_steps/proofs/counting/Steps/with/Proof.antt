use Rattle.wide_steps.proofs.Walks.{◌+◌, [], ◌∷◌, refl, proved, ‵, raw, ◌$◌, ◌∵◌, !, qed, drop, move, suffices, done, enter, agg, no_more, returns, alloc_all, pass_all, free_all, look_at, sets, vstruct, vnil, named, usize, yes, shr_vals, shr_Tells, plain, types_at, owns, alive, ◌⊛◌, split, pure_i, Stays, walk_of, says, stay_none_ref, Goes-none_ref, ends_at, ftrue}
use Rattle.wide_steps.specs.contracts.counting.Steps.with as f
use Rattle.wide_steps.specs.contracts.counting.Steps.{the_row}
use Rattle.wide_steps.specs.declared.counting.Steps.{Steps}
use Rattle.wide_steps.proofs.counting.Steps.with.Statement.{statement}
use Rattle.wide_steps.proofs.counting.Steps.with.Code as code

abbrev stayed : Stays f.ended.signature.params f.ended.kept
stayed = (stay_none_ref (0 ∷ []) tt (plain (λ _. the_row)) yes, (stay_none_ref (1 ∷ []) tt (plain (λ _. usize)) yes, tt))

pub with_spec : {M : Type 1} → statement M
with_spec 𝓤 𝓛 𝓜 𝓡 wired =
    let c = f.clauses 𝓛 𝓜.mem 𝓡.returns in let W = walk_of 𝓛 f.ended stayed c in
    proved 𝓛 f.ended stayed c 𝓜 𝓡 (Goes-none_ref 𝓛 2 (0 ∷ []) tt (plain (λ _. the_row)) yes, (Goes-none_ref 𝓛 2 (1 ∷ []) tt (plain (λ _. usize)) yes, tt))
    f.Key.name code.function (code.unfolded 𝓤 𝓛.H 𝓜 𝓡 wired)
    (λ κs. (shr_vals, (shr_vals, tt))) (λ κs. (shr_Tells (named 0) κs.0 the_row, (shr_Tells (named 1) κs.1.0 usize, tt))) (λ κs qs bounds a g are.
    let y : W.Ghost = ((κs, qs, bounds, a, (shr_vals a.0, (shr_vals a.1.0, tt))), tt) in
    let more : Steps = record { count = a.0.now.count + a.1.0.now } in
    qed 𝓛 ((raw (alive 𝓛 f.signature κs qs) ⊛ ‵ (owns (types_at f.signature.params κs) a y.0.4)) ∷ ‵ ftrue ∷ []) ∵
    -- [the tokens; what the parameters own]
    move ! (1 ∷ []) $ drop ! $ split ! $ enter ! _ _ _ _ _ $ alloc_all ! (λ l. pass_all ! refl ((tt, tt), ((tt, tt), tt)) $
    sets ! (agg ! (no_more !)) refl (tt, tt) $
    returns ! (look_at ! 0 refl) $ free_all ! refl $
    suffices ! _ (ends_at 𝓛 f.ended stayed c y (vstruct vnil) more (tt, (tt, tt)) (tt, (tt, tt))) $
    says ! refl $ pure_i ! (the_row.own_val more (vstruct vnil ∷ [])) ((λ vss. (tt, tt)), tt) ((tt, (refl, tt)), tt) $
    move ! (1 ∷ 2 ∷ 0 ∷ []) $ done !))

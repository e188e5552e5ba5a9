-- A request over the limit fails at once; the inner allocator returns the result of any other. Assumes `Logic`.
use Rattle.std.proofs.Common.{◌≡◌, ℕ, Bool, true, false, ◌+◌, ◌^◌, ◌<◌, [], ◌∷◌, Ok, Err, refl, w64, Bor}
use Rattle.std.proofs.raw_atomic.Walks.{proved}
use Rattle.std.proofs.alloc.Calls.{Al, α, token, seen, Answer, answer_val, Answer-typed, Answer-Ok, Answer-err, takes_key, Takes, at_takes, Answered, Takes-goes, Takes-gives, answers}
use Rattle.std.proofs.VecSteps.Shapes.{after}
use seplogic.Ra.Ura.{Ura}
use mir.Syntax.{Ty, Fn, a_type, dnil, dcons}
use mir.Val.{Val, vbool, vint}
use mir.MapTy.{inst_fn}
use base.Logic.{SProp, ent, id⊢}
use base.Fml.{Lft, Share, flft, ftrue}
use prog.Memory.{size, align, capped, up}
use prog.Model.{Model}
use prog.Wp.{WpFn}
use contract.BorrowLft.{◌⊑◌, ⊑_trans}
use contract.Monad.{fact}
use contract.Running.{Running, tables}
use types.Logic.{Logic}
use types.Kit.{‵, raw, ◌⊛◌, ⋆, some, later, given, at_ret, by, learn, ◌$◌, ◌∵◌, !, qed, done, move, keep, pick, use0, use1, use2, split, join, fsplit, fjoin, suffices, await}
use types.Run.{stop, fld, addr, lit, no_more, and_then, first, branches, skips, exec, returns, returns_within, enter}
use types.Part.{agg}
use types.ByLocal.{alloc_all, pass_all, free_all, look_at, get, through, sets, lands_as, env}
use denote.Exit.{yes}
use denote.RawPtr.{block_ptr}
use denote.RattleType.{owns}
use denote.Ref.{shr_vals}
use denote.Opens.{unhide}
use denote.Param.{bounded, param}
use denote.Plain.{uint_vals, uint_Tells}
use denote.Builtin.{usize, RefOf}
use denote.Signature.{Slot, plain, types_at}
use denote.Steps.{heard, nothing}
use denote.Triple.Call.{calls_at}
use denote.Triple.Clauses.{Ended, Clauses}
use denote.Triple.Statement.{Triple}
use denote.Triple.Table.{framed}
use denote.Triple.Walked.{Stays, stay_dropped, walk_of, ends_at, Goes-dropped}
use Rattle.std.specs.Allocator.{block_if_ok}
use Rattle.widestring_testing.proofs.Asked.{lent, Asks, picked, asking, answer}
use Rattle.widestring_testing.proofs.limited.Ration.fails.Symbol as ration
use Rattle.widestring_testing.proofs.limited.Ration.fails.Met as ration_met
use Rattle.widestring_testing.specs.contracts.limited.Limited as limited
use Rattle.widestring_testing.specs.contracts.limited.LimitedAllocator.allocate as f
use Rattle.widestring_testing.specs.contracts.limited.LimitedAllocator.allocate.Key as key
use Rattle.widestring_testing.proofs.limited.LimitedAllocator.allocate.Statement.{statement}
use Rattle.widestring_testing.proofs.limited.LimitedAllocator.allocate.Code as code

module _ (B : Al) where
  abbrev body : Fn
  body = inst_fn (bounded (a_type ∷ []) (B.row, tt) (dcons B.d (dcons B.drops dnil))) code.function

  abbrev receiver : Slot 2
  receiver = RefOf (0 ∷ []) tt (plain (λ _. limited.the_row (param 0 B.row))) (λ _. tt)

  abbrev number : Slot 2
  number = plain (λ _. usize)

  abbrev shape : Ended
  shape = f.ended B.row B.g B.d B.drops

  abbrev left : Stays shape.signature.params shape.kept
  left = (stay_dropped receiver yes, (stay_dropped number yes, (stay_dropped number yes, tt)))

module _ (B : Al) {M : Type 1} {𝓤 : Ura M} (𝓛 : Logic 𝓤) (𝓜 : Model 𝓤 𝓛.H) (𝓡 : Running 𝓤 𝓛.H 𝓜) where
  abbrev said : Clauses 𝓤 (shape B)
  said = f.clauses B.row B.g B.d B.drops 𝓛 𝓜.mem 𝓡.returns

  module _ (κ ρ : Lft) (q s : Share) (longer : κ ⊑ ρ) (r : Bor (limited.the_row B.row).Denot) (n a : ℕ) (τ : Ty) where
    abbrev at_entry : (walk_of 𝓛 (shape B) (left B) said).Ghost
    at_entry = (((κ, (ρ, tt)), (q, (s, tt)), (longer, tt), (r, (n, (a, tt))), (shr_vals r, (vint w64 n ∷ [], (vint w64 a ∷ [], tt)))), τ)

    abbrev Post : Val → SProp 𝓤
    Post = (walk_of 𝓛 (shape B) (left B) said).post at_entry

    -- Each of the three exits: the tokens, the result, and the block if there is one.
    out : (v : Val) (res : Answer.Denot)
        → ent 𝓤 (⋆ 𝓛 (‵ (flft κ q) ∷ (‵ (flft ρ s) ⊛ ‵ ftrue) ∷ ‵ (Answer.own_val res (v ∷ [])) ∷ ‵ (block_if_ok (token B r.now.inner) τ res) ∷ [])) (Post v)
    out v res =
        qed 𝓛 (‵ (flft κ q) ∷ (‵ (flft ρ s) ⊛ ‵ ftrue) ∷ ‵ (Answer.own_val res (v ∷ [])) ∷ ‵ (block_if_ok (token B r.now.inner) τ res) ∷ []) ∵
        suffices ! _ (ends_at 𝓛 (shape B) (left B) said at_entry v res (tt, (tt, (tt, tt))) (tt, (tt, (tt, tt)))) $
        join ! $ move ! (1 ∷ []) $ nothing ! $ nothing ! $ fjoin ! $ nothing ! $ fjoin ! $ nothing ! $ fjoin ! $ join ! $ move ! (1 ∷ 0 ∷ []) $ join ! $ done !

    walk : n < 2 ^ 64 → a < 2 ^ 64 → Triple 𝓤 ((tables 𝓤 𝓛.H 𝓜 𝓡 𝓡.env).C (takes_key B)) (Takes B 𝓛 𝓜.mem 𝓡.returns) → Triple 𝓤 ((tables 𝓤 𝓛.H 𝓜 𝓡 𝓡.env).C ration.name) (Asks 𝓛 𝓜.mem 𝓡.returns)
        → ent 𝓤 ((walk_of 𝓛 (shape B) (left B) said).pre at_entry) (WpFn 𝓤 𝓛.H (tables 𝓤 𝓛.H 𝓜 𝓡 𝓡.env).C (tables 𝓤 𝓛.H 𝓜 𝓡 𝓡.env).Λ (body B) ((walk_of 𝓛 (shape B) (left B) said).args at_entry) Post)
    walk small small' takes asks =
        let 𝓣 = tables 𝓤 𝓛.H 𝓜 𝓡 𝓡.env in
        let inner : ℕ × ℕ = (r.ref_ptr.0, r.ref_ptr.1 + up (align (α B)) 0) in
        let count : ℕ × ℕ = (r.ref_ptr.0, r.ref_ptr.1 + up 8 (up (align (α B)) 0 + size (α B))) in
        let Fits : Type 0 = (capped (size τ) ≡ n) × (capped (align τ) ≡ a) in
        let asked : (Takes B 𝓛 𝓜.mem 𝓡.returns).Ghost = at_takes B 𝓛 𝓜.mem 𝓡.returns κ q inner r.now.inner n a τ in
        qed 𝓛 (((‵ (flft κ q) ⊛ ‵ (flft ρ s) ⊛ ‵ ftrue) ⊛ ‵ (owns (types_at (shape B).signature.params at_entry.0.0) at_entry.0.3 at_entry.0.4)) ∷ (raw (fact 𝓤 (ρ ⊑ B.row.lives)) ⊛ raw (fact 𝓤 Fits)) ∷ []) ∵
        move ! (1 ∷ []) $ split ! $ heard ! _ (λ lives. heard ! _ (λ fits.
        split ! $ split ! $ move ! (2 ∷ []) $ fsplit ! $ fsplit ! $ move ! (1 ∷ []) $ unhide ! $
        fsplit ! $ fsplit ! $ use1 𝓛 (‵ (seen B κ inner r.now.inner)) (id⊢ 𝓤 _) $ move ! (1 ∷ []) $ fsplit ! $ use1 𝓛 (‵ (lent κ count r.now.ration)) (id⊢ 𝓤 _) $
        keep ! (0 ∷ 6 ∷ 2 ∷ 7 ∷ []) $
        -- [the ration; the token of `self`; the inner allocator; the other token]
        enter ! _ _ _ _ _ $ alloc_all ! (λ l. pass_all ! refl ((tt, tt), ((tt, record { fits = small }), ((tt, record { fits = small' }), tt))) $
        sets ! (addr ! (through ! refl (fld ! refl (stop !)))) refl (tt, tt) $
        use2 𝓛 (raw ((Asks 𝓛 𝓜.mem 𝓡.returns).pre (picked 𝓛 𝓜.mem 𝓡.returns κ q count r.now.ration))) (asking 𝓛 𝓜.mem 𝓡.returns κ q count r.now.ration) $
        calls_at ! (framed 𝓤 𝓛.H 𝓜 𝓣) (Asks 𝓛 𝓜.mem 𝓡.returns) asks (picked 𝓛 𝓜.mem 𝓡.returns κ q count r.now.ration) (and_then ! (get ! refl) (no_more !)) (λ u.
        use1 𝓛 (later (some (λ (failed : Bool). given (u ≡ vbool failed) (‵ (flft κ q))))) (answer 𝓛 𝓜.mem 𝓡.returns κ q count r.now.ration u) $ await ! tt $ pick ! (λ failed. learn ! (λ is.
        lands_as ! is refl (tt, tt) $ first ! $ branches ! (get ! refl)
        (λ yes. sets ! (agg ! (no_more !)) refl (tt, tt) $ sets ! (agg ! (and_then ! (lit ! tt) (and_then ! (get ! refl) (no_more !)))) refl (Answer-typed false 0 0) $
        returns_within ! Post refl (look_at ! 0 refl) $ free_all ! refl $
        use0 𝓛 (‵ (Answer.own_val (Err (record {})) (answer_val false 0 0 ∷ []))) (Answer-err 𝓛) $ nothing ! $ keep ! (2 ∷ 4 ∷ 1 ∷ 0 ∷ []) $ by ! (out (answer_val false 0 0) (Err (record {}))))
        (λ no. skips ! $ exec ! 𝓣.C 𝓣.Λ (env (body B).locals l) (after 3 (body B).body) (at_ret _ Post) $
        -- [the token of `self`; the inner allocator; the other token]
        sets ! (addr ! (through ! refl (fld ! refl (stop !)))) refl (tt, tt) $ move ! (1 ∷ []) $
        use2 𝓛 (raw ((Takes B 𝓛 𝓜.mem 𝓡.returns).pre asked)) (Takes-goes B 𝓛 𝓜.mem 𝓡.returns κ q inner r.now.inner (⊑_trans κ ρ B.row.lives longer lives) n a τ fits.0 fits.1 small small') $
        calls_at ! (framed 𝓤 𝓛.H 𝓜 𝓣) (Takes B 𝓛 𝓜.mem 𝓡.returns) takes asked (and_then ! (get ! refl) (and_then ! (get ! refl) (and_then ! (get ! refl) (no_more !)))) (λ v.
        use1 𝓛 (later (raw (Answered B 𝓛 𝓜.mem 𝓡.returns r.now.inner τ v) ⊛ ‵ (flft κ q))) (Takes-gives B 𝓛 𝓜.mem 𝓡.returns κ q inner r.now.inner n a τ v) $ await ! tt $ split ! $
        answers B ! 𝓜.mem 𝓡.returns r.now.inner τ v
        (λ b o e. fjoin ! $ lands_as ! e refl (Answer-typed true b o) $ returns ! (look_at ! 0 refl) $ free_all ! refl $
        use0 𝓛 (‵ (Answer.own_val (Ok (block_ptr b o)) (answer_val true b o ∷ []))) (Answer-Ok 𝓛 b o) $ keep ! (2 ∷ 3 ∷ 0 ∷ 1 ∷ []) $ by ! (out (answer_val true b o) (Ok (block_ptr b o))))
        (λ e. lands_as ! e refl (Answer-typed false 0 0) $ returns ! (look_at ! 0 refl) $ free_all ! refl $
        use0 𝓛 (‵ (Answer.own_val (Err (record {})) (answer_val false 0 0 ∷ []))) (Answer-err 𝓛) $ nothing ! $ keep ! (2 ∷ 3 ∷ 1 ∷ 0 ∷ []) $ by ! (out (answer_val false 0 0) (Err (record {}))))))))))))

pub allocate_spec : {M : Type 1} → statement M
allocate_spec 𝓤 𝓛 𝓜 𝓡 wired Row laws g dict drops met _ =
    let B : Al = record { row = Row; laws = laws; g = g; d = dict; drops = drops } in
    let number_goes = Goes-dropped 𝓛 2 (number B) yes (λ κs x w. refl) in
    proved 𝓛 (shape B) (left B) (said B 𝓛 𝓜 𝓡) 𝓜 𝓡
    (Goes-dropped 𝓛 2 (receiver B) yes (λ κs x w. refl), (number_goes, (number_goes, tt)))
    (key.name (bounded (a_type ∷ []) (Row, tt) (dcons dict (dcons drops dnil)))) (body B) (code.unfolded 𝓤 𝓛.H 𝓜 𝓡 wired (Row, tt) dict drops)
    (λ κs. (shr_vals, (uint_vals w64, (uint_vals w64, tt)))) (λ κs. ((λ x vs is. is.0), (uint_Tells w64, (uint_Tells w64, tt))))
    (λ κs qs bounds a τ are. walk B 𝓛 𝓜 𝓡 κs.0 κs.1.0 qs.0 qs.1.0 bounds.0 a.0 a.1.0 a.1.1.0 τ are.1.0.1 are.1.1.0.1 (met.allocate drops) (ration_met.met 𝓤 𝓛 𝓜 𝓡 (code.calls-widestring_testing::limited::Ration::fails 𝓡.env wired)))

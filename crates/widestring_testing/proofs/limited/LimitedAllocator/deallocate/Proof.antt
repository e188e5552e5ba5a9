-- The block returns to the inner allocator, which it came from. For null there is none. Assumes `Logic`.
use Rattle.std.proofs.Common.{◌≡◌, ℕ, ◌+◌, ◌^◌, ◌<◌, List, [], ◌∷◌, refl, sym, subst, w64, Bor}
use Rattle.std.proofs.raw_atomic.Walks.{proved}
use Rattle.std.proofs.alloc.Calls.{Al, α, token, seen, gives_key, Gives, at_gives, Gives-goes, Gives-Gives}
use Rattle.std.proofs.VecSteps.Shapes.{after}
use seplogic.Ra.Ura.{Ura}
use lib.Dec.{T}
use mir.Syntax.{ty_unit, Ty, Fn, a_type, dnil, dcons}
use mir.Val.{Val, vunit, vint, has_ty, WT}
use mir.MapTy.{inst_fn}
use base.Logic.{ent, id⊢, never_e}
use base.Fml.{Fml, Lft, Share, flft, ftrue, ffalse, fsep, froom}
use prog.Memory.{size, align, capped, up}
use prog.Model.{Model}
use prog.Wp.{WpFn}
use contract.BorrowLft.{◌⊑◌, ⊑_trans}
use contract.Monad.{fact}
use contract.Running.{Running, tables}
use types.Logic.{Logic}
use types.Kit.{Item, split3, feq_i, ‵, raw, ◌⊛◌, later, given, at_ret, by, learn, ◌$◌, ◌∵◌, !, qed, done, move, keep, use1, use2, split, join, fsplit, fjoin, suffices, await}
use types.Run.{unit_lit, blocks, stop, fld, addr, no_more, and_then, of_opd, first, exec, returns, enter}
use types.ByLocal.{lands_last, alloc_all, pass_all, free_all, look_at, get, through, sets, env}
use denote.Exit.{yes}
use denote.RawPtr.{Ptr, RawPtr, block_ptr, null_ptr, rawptr_vals, rawptr_Tells}
use denote.RattleType.{owns}
use denote.Ref.{shr_vals}
use denote.Opens.{unhide}
use denote.Param.{bounded, param}
use denote.Plain.{uint_vals, uint_Tells}
use denote.Builtin.{usize, RefOf}
use denote.Signature.{Slot, plain, types_at}
use denote.Steps.{heard, nothing}
use denote.Triple.Call.{calls_at_last}
use denote.Triple.Clauses.{Ended, Clauses}
use denote.Triple.Statement.{Contract, Triple}
use denote.Triple.Table.{framed}
use denote.Triple.Walked.{Stays, stay_dropped, walk_of, ends_at, Goes-dropped}
use Rattle.widestring_testing.specs.contracts.limited.Limited as limited
use Rattle.widestring_testing.specs.contracts.limited.LimitedAllocator.deallocate as f
use Rattle.widestring_testing.specs.contracts.limited.LimitedAllocator.deallocate.Key as key
use Rattle.widestring_testing.proofs.limited.LimitedAllocator.deallocate.Statement.{statement}
use Rattle.widestring_testing.proofs.limited.LimitedAllocator.deallocate.Code as code

is_unit : (v : Val) → v ≡ vunit → T (has_ty ty_unit v) × WT v
is_unit v e = subst (λ (u : Val). T (has_ty ty_unit u) × WT u) (sym e) (tt, tt)

module _ (B : Al) where
  abbrev body : Fn
  body = inst_fn (bounded (a_type ∷ []) (B.row, tt) (dcons B.d (dcons B.drops dnil))) code.function

  abbrev receiver : Slot 2
  receiver = RefOf (0 ∷ []) tt (plain (λ _. limited.the_row (param 0 B.row))) (λ _. tt)

  abbrev pointer : Slot 2
  pointer = plain (λ _. RawPtr)

  abbrev number : Slot 2
  number = plain (λ _. usize)

  abbrev shape : Ended
  shape = f.ended B.row B.g B.d B.drops

  abbrev left : Stays shape.signature.params shape.kept
  left = (stay_dropped receiver yes, (stay_dropped pointer yes, (stay_dropped number yes, (stay_dropped number yes, tt))))

module _ (B : Al) {M : Type 1} {𝓤 : Ura M} (𝓛 : Logic 𝓤) (𝓜 : Model 𝓤 𝓛.H) (𝓡 : Running 𝓤 𝓛.H 𝓜) where
  abbrev said : Clauses 𝓤 (shape B)
  said = f.clauses B.row B.g B.d B.drops 𝓛 𝓜.mem 𝓡.returns

  abbrev W : Contract 𝓤
  W = walk_of 𝓛 (shape B) (left B) said

  module _ (κ ρ : Lft) (q s : Share) (longer : κ ⊑ ρ) (r : Bor (limited.the_row B.row).Denot) (n a : ℕ) (τ : Ty) where
    abbrev at_entry : Ptr → W.Ghost
    at_entry x = (((κ, (ρ, tt)), (q, (s, tt)), (longer, tt), (r, (x, (n, (a, tt)))), (shr_vals r, (rawptr_vals x, (vint w64 n ∷ [], (vint w64 a ∷ [], tt))))), τ)

    abbrev Fits : Type 0
    Fits = (capped (size τ) ≡ n) × (capped (align τ) ≡ a)

    abbrev found : Ptr → Fml → List (Item 𝓤)
    found x block = ((‵ (flft κ q) ⊛ ‵ (flft ρ s) ⊛ ‵ ftrue) ⊛ ‵ (owns (types_at (shape B).signature.params (at_entry x).0.0) (at_entry x).0.3 (at_entry x).0.4))
        ∷ (raw (fact 𝓤 (ρ ⊑ B.row.lives)) ⊛ raw (fact 𝓤 Fits) ⊛ ‵ block) ∷ []

    walk : n < 2 ^ 64 → a < 2 ^ 64 → Triple 𝓤 ((tables 𝓤 𝓛.H 𝓜 𝓡 𝓡.env).C (gives_key B)) (Gives B 𝓛 𝓜.mem 𝓡.returns)
        → (x : Ptr) → ent 𝓤 (W.pre (at_entry x)) (WpFn 𝓤 𝓛.H (tables 𝓤 𝓛.H 𝓜 𝓡 𝓡.env).C (tables 𝓤 𝓛.H 𝓜 𝓡 𝓡.env).Λ (body B) (W.args (at_entry x)) (W.post (at_entry x)))
    walk small small' gives null_ptr =
        qed 𝓛 (found null_ptr (fsep ffalse (token B r.now.inner τ null_ptr))) ∵
        move ! (1 ∷ []) $ split3 ! $ keep ! (2 ∷ []) $ fsplit ! $ keep ! (0 ∷ []) $ by ! (never_e 𝓤 _)
    walk small small' gives (block_ptr b o) =
        let 𝓣 = tables 𝓤 𝓛.H 𝓜 𝓡 𝓡.env in
        let inner : ℕ × ℕ = (r.ref_ptr.0, r.ref_ptr.1 + up (align (α B)) 0) in
        let x : Ptr = block_ptr b o in
        let asked : (Gives B 𝓛 𝓜.mem 𝓡.returns).Ghost = at_gives B 𝓛 𝓜.mem 𝓡.returns κ q inner r.now.inner b o n a τ in
        qed 𝓛 (found x (fsep (froom τ b o) (token B r.now.inner τ x))) ∵
        move ! (1 ∷ []) $ split3 ! $ heard ! _ (λ lives. heard ! _ (λ fits. fsplit ! $
        -- [the block; the right to free it; the tokens and what the parameters own]
        move ! (2 ∷ []) $ split ! $ split ! $ move ! (2 ∷ []) $ fsplit ! $ fsplit ! $ move ! (1 ∷ []) $ unhide ! $ fsplit ! $ fsplit ! $ use1 𝓛 (‵ (seen B κ inner r.now.inner)) (id⊢ 𝓤 _) $
        -- [the arguments of the inner call; the other token]
        keep ! (0 ∷ 5 ∷ 8 ∷ 7 ∷ 6 ∷ []) $ join ! $ move ! (1 ∷ 0 ∷ []) $ join ! $ move ! (1 ∷ 0 ∷ []) $
        use2 𝓛 (raw ((Gives B 𝓛 𝓜.mem 𝓡.returns).pre asked)) (Gives-goes B 𝓛 𝓜.mem 𝓡.returns κ q inner r.now.inner (⊑_trans κ ρ B.row.lives longer lives) b o n a τ fits.0 fits.1 small small') $
        enter ! _ _ _ _ _ $ alloc_all ! (λ l. pass_all ! refl ((tt, tt), ((tt, tt), ((tt, record { fits = small }), ((tt, record { fits = small' }), tt)))) $
        first ! $ blocks ! $ sets ! (addr ! (through ! refl (fld ! refl (stop !)))) refl (tt, tt) $
        calls_at_last ! (framed 𝓤 𝓛.H 𝓜 𝓣) (Gives B 𝓛 𝓜.mem 𝓡.returns) gives asked (and_then ! (get ! refl) (and_then ! (get ! refl) (and_then ! (get ! refl) (and_then ! (get ! refl) (no_more !))))) (λ v.
        use1 𝓛 (later (given (v ≡ vunit) (‵ (flft κ q)))) (Gives-Gives B 𝓛 𝓜.mem 𝓡.returns κ q inner r.now.inner b o n a τ v) $ await ! tt $ learn ! (λ e.
        lands_last ! refl (is_unit v e) $
        exec ! 𝓣.C 𝓣.Λ (env (body B).locals l) (after 1 (body B).body) (at_ret _ (W.post (at_entry x))) $
        sets ! (of_opd ! (unit_lit !)) refl (tt, tt) $ returns ! (look_at ! 0 refl) $ free_all ! refl $
        suffices ! _ (ends_at 𝓛 (shape B) (left B) said (at_entry x) vunit tt (tt, (tt, (tt, (tt, tt)))) (tt, (tt, (tt, (tt, tt))))) $
        join ! $ feq_i ! (List Val) (vunit ∷ []) (vunit ∷ []) refl $ nothing ! $ nothing ! $ fjoin ! $ nothing ! $ fjoin ! $ nothing ! $ fjoin ! $ nothing ! $ fjoin ! $ join ! $
        move ! (1 ∷ 0 ∷ []) $ join ! $ nothing ! $ move ! (1 ∷ []) $ done !)))))

pub deallocate_spec : {M : Type 1} → statement M
deallocate_spec 𝓤 𝓛 𝓜 𝓡 wired Row laws g dict drops met _ =
    let B : Al = record { row = Row; laws = laws; g = g; d = dict; drops = drops } in
    let number_goes = Goes-dropped 𝓛 2 (number B) yes (λ κs x w. refl) in
    proved 𝓛 (shape B) (left B) (said B 𝓛 𝓜 𝓡) 𝓜 𝓡
    (Goes-dropped 𝓛 2 (receiver B) yes (λ κs x w. refl), (Goes-dropped 𝓛 2 (pointer B) yes (λ κs x w. refl), (number_goes, (number_goes, tt))))
    (key.name (bounded (a_type ∷ []) (Row, tt) (dcons dict (dcons drops dnil)))) (body B) (code.unfolded 𝓤 𝓛.H 𝓜 𝓡 wired (Row, tt) dict drops)
    (λ κs. (shr_vals, (rawptr_vals, (uint_vals w64, (uint_vals w64, tt))))) (λ κs. ((λ x vs is. is.0), (rawptr_Tells, (uint_Tells w64, (uint_Tells w64, tt)))))
    (λ κs qs bounds a τ are. walk B 𝓛 𝓜 𝓡 κs.0 κs.1.0 qs.0 qs.1.0 bounds.0 a.0 a.1.1.0 a.1.1.1.0 τ are.1.1.0.1 are.1.1.1.0.1 (met.deallocate drops) a.1.0)

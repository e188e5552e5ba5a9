-- How a proof calls `Ration::fails`: what it passes, and what it has afterwards. Assumes `Logic`.
use Rattle.std.proofs.Common.{◌≡◌, ℕ, Bool, List, [], ◌∷◌, refl, ap}
use seplogic.Ra.Ura.{Ura}
use mir.Val.{Val, vbool, vptr}
use base.Logic.{SProp, ent, ex, guard, sep, id⊢}
use base.Fml.{Fml, Lft, Share, ftrue, fsep, flft}
use prog.Memory.{Memory}
use prog.Routine.{Routine}
use types.Logic.{Logic, sem}
use types.Kit.{‵, raw, ◌⊛◌, some, later, ◌$◌, ◌∵◌, !, qed, done, keep, move, use1, split, join, fjoin, feq_i, feq_l, check, show, pick, await, updating, now as at_once}
use contract.Monad.{Fun}
use denote.Builtin.{bool}
use denote.Memory.{hidden_shr}
use denote.Steps.{nothing, only}
use denote.Triple.Statement.{Contract}
use denote.Triple.Spec.{triple_of}
use Rattle.widestring_testing.specs.declared.limited.Ration.{Ration}
use Rattle.widestring_testing.specs.contracts.limited.Ration.{the_row}
use Rattle.widestring_testing.specs.contracts.limited.Ration.fails as asked

abbrev pub lent : Lft → ℕ × ℕ → Ration → Fml
lent κ offset ration = hidden_shr the_row κ ration offset.0 offset.1

module _ {M : Type 1} {𝓤 : Ura M} (𝓛 : Logic 𝓤) (at_mem : Memory → SProp 𝓤) (run : Routine → Fun 𝓤) where
  abbrev pub Asks : Contract 𝓤
  Asks = triple_of 𝓛 asked.signature (asked.spec 𝓛 at_mem run)

module _ {M : Type 1} {𝓤 : Ura M} (𝓛 : Logic 𝓤) (at_mem : Memory → SProp 𝓤) (run : Routine → Fun 𝓤) (κ : Lft) (q : Share) (offset : ℕ × ℕ) (ration : Ration) where
  open 𝓛 use {H, A}

  abbrev pub picked : (Asks 𝓛 at_mem run).Ghost
  picked = (((κ, tt), (q, tt), tt, (record { ref_ptr = offset; now = ration }, tt), (vptr offset.0 offset.1 ∷ [], tt)), tt)

  pub asking : ent 𝓤 (sep 𝓤 (sem 𝓛 (lent κ offset ration)) (A.lft κ q)) ((Asks 𝓛 at_mem run).pre picked)
  asking =
      qed 𝓛 (‵ (lent κ offset ration) ∷ ‵ (flft κ q) ∷ []) ∵
      feq_i ! (List Val) (vptr offset.0 offset.1 ∷ []) _ refl $ fjoin ! $ nothing ! $ move ! (1 ∷ 0 ∷ []) $ fjoin ! $
      nothing ! $ move ! (2 ∷ 0 ∷ []) $ join ! $ join ! $ nothing ! $ move ! (1 ∷ 0 ∷ []) $ join ! $ done !

  pub answer : (v : Val) → ent 𝓤 ((Asks 𝓛 at_mem run).post picked v) (H.⇛ (ex 𝓤 (λ (failed : Bool). guard 𝓤 (v ≡ vbool failed) (A.lft κ q))))
  answer v =
      qed 𝓛 (raw ((Asks 𝓛 at_mem run).post picked v) ∷ []) ∵ updating ! $
      use1 𝓛 (later (some (λ (failed : Bool). ((‵ (flft κ q) ⊛ ‵ ftrue) ⊛ ‵ (bool.own_val failed (v ∷ []))) ⊛
      some (λ (left : Unit {0} × Unit {0}). ‵ (fsep ftrue ftrue) ⊛ ‵ ftrue)))) (id⊢ 𝓤 _) $ await ! tt $ pick ! (λ failed.
      split ! $ split ! $ move ! (1 ∷ []) $ feq_l ! (λ is. split ! $
      at_once ! $ show ! (λ (b : Bool). guard 𝓤 (v ≡ vbool b) (A.lft κ q)) failed $ check ! (ap only is) $ keep ! (0 ∷ []) $ done !))

-- The names that the hand-written proofs of functions which make a counter use.
pub use Rattle.std.proofs.Common.{◌+◌, [], ◌∷◌, refl}
pub use Rattle.std.proofs.raw_atomic.Walks.{proved}
pub use base.Fml.{ftrue}
pub use denote.Builtin.{usize}
pub use denote.Exit.{yes}
pub use denote.Ref.{shr_vals, shr_Tells}
pub use denote.RattleType.{owns}
pub use denote.Shadow.{pure_i}
pub use denote.Signature.{plain, types_at}
pub use denote.Steps.{nothing}
pub use denote.Triple.Entry.{on_entry, alive}
pub use denote.Triple.Walked.{Stays, walk_of, says, stay_none_ref, Goes-none_ref, ends_at}
pub use mir.Syntax.{named}
pub use mir.Val.{vstruct, vnil}
pub use types.ByLocal.{alloc_all, pass_all, free_all, look_at, sets}
pub use types.Kit.{‵, raw, ◌⊛◌, split, ◌$◌, ◌∵◌, !, qed, drop, move, suffices, done}
pub use types.Part.{agg}
pub use types.Run.{enter, no_more, returns}

-- What a handle owns may go to another thread, if its value and its allocator may.
use Rattle.std.proofs.Common.{List, [], ◌∷◌}
use mir.Raw.{raw}
use denote.RattleType.{RattleType}
use denote.Memory.{lone}
use denote.RawPtr.{Ptr}
use base.Shift.{Keyless}
use denote.Param.Send.{IsSend, Frees}
use Rattle.core.specs.declared.alloc.Allocator.{Ghosts}
use Rattle.std_alloc.proofs.SendSync.{lies}
use Rattle.boxed_handle.specs.Handles.{handle_owns}

module _ (T : RattleType) (s : IsSend T) {D : Type 0} (g : Ghosts D) (f : Frees g g.dealloc_token) where
  pub owns_keyless : (a : D) (p : Ptr) (xs : List T.Denot) → Keyless (handle_owns (g.dealloc_token a) T p xs)
  owns_keyless a p [] = tt
  owns_keyless a p (x ∷ xs) = (lies T s p x, f.frees a (raw (lone T.mir)) p)

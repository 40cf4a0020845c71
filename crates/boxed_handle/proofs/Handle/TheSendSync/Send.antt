use denote.RattleType.{RattleType}
use denote.Param.Send.{IsSend, Frees, AllSend, owning_send, struct_send, sendable}
use denote.Struct.Struct.{exits_of}
use denote.Struct.Owning.{shape, fields, to}
use Rattle.core.specs.declared.alloc.Allocator.{Ghosts}
use Rattle.std_alloc.proofs.SendSync.{quiet}
use Rattle.boxed_handle.proofs.Crossing.{owns_keyless}
use Rattle.boxed_handle.specs.contracts.Handle.{the_row, the_type}

pub send : (T A : RattleType) (g : Ghosts A.Denot) → IsSend T → IsSend A → Frees g g.dealloc_token → IsSend (the_row T A g)
send T A g s sent f =
    let O = the_type T A g in
    let all : AllSend (fields O) = (search sendable, (sent, tt)) in
    owning_send O all (λ d. owns_keyless T s g f d.alloc d.at d.owned)
    (λ k. quiet (to O) (exits_of k (fields O)) ((struct_send (shape O) all).leaving k))

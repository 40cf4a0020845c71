-- Where a step leads that ends in a choice: of no phase of a kind, where neither end is of it.
use Rattle.std.proofs.Common.{◌≡◌, ◌==◌, Bool, true, false, cond}
use Rattle.std.specs.Prelude.{◌||◌}
use Rattle.shfl_line.specs.declared.events.Mode.{Mode}
use Rattle.shfl_line.specs.declared.events.Mode.TheVariants.{Write, Read}
use Rattle.shfl_core.specs.declared.phase.Phase.{Phase}
use Rattle.shfl_core.specs.declared.phase.Phase.TheVariants.{Begin, Peek, HeadCount, Look}
use Rattle.shfl_core.specs.declared.phase.Registers.{Registers}
use Rattle.shfl_core.specs.declared.phase.PassState.{PassState}
use Rattle.shfl_core.specs.Take.{to, seek, top, done}

module _ (is_kind : Phase → Bool) where
  pub one-of : (b : Bool) (f g : Phase) → is_kind f ≡ false → is_kind g ≡ false → is_kind (cond b f g) ≡ false
  one-of true f g x y = x
  one-of false f g x y = y

  pub either-of : (b : Bool) (f g : PassState) → is_kind f.phase ≡ false → is_kind g.phase ≡ false → is_kind (cond b f g).phase ≡ false
  either-of true f g x y = x
  either-of false f g x y = y

  module _ (begin : is_kind Begin ≡ false) (peek : is_kind Peek ≡ false) (counts : is_kind HeadCount ≡ false) where
    pub seeks : (m : Mode) → is_kind (seek m) ≡ false
    seeks Write = peek
    seeks Read = counts

    -- the queue's head
    pub tops : (r : Registers) → is_kind (top r).phase ≡ false
    tops r = either-of ((r.batch == 0) || r.flag) (to Begin (record r { headed = true })) (to (seek r.mode) r) begin (seeks r.mode)

    -- the end of a round
    pub ends : is_kind Look ≡ false → (r : Registers) → is_kind (done r) ≡ false
    ends look r = one-of r.headed (seek r.mode) Look (seeks r.mode) look

-- Which steps use no node after them, and the node of a pass as others see it.
use Rattle.std.proofs.Common.{◌≡◌, Bool, true, false, cond, refl, sym, ap, ◌∙◌}
use Rattle.std.specs.Prelude.{◌||◌}
use Rattle.shfl_line.specs.declared.events.Form.{Form}
use Rattle.shfl_line.specs.declared.events.Mode.{Mode}
use Rattle.shfl_line.specs.declared.events.Mode.TheVariants.{Write, Read}
use Rattle.shfl_core.specs.declared.phase.Phase.TheVariants.{Held, Init, Uncount}
use Rattle.shfl_core.specs.declared.phase.Registers.{Registers}
use Rattle.shfl_core.specs.declared.phase.PassState.{PassState}
use Rattle.shfl_core.specs.Phases.{rank, queued_rank}
use Rattle.shfl_arena.specs.Nodes.{is_swap, uses_node}
use Rattle.shfl_laws.proofs.laws.MoveLaws.{resting-is}
use Rattle.shfl_core.specs.Take.{to, entry, exit}
use Rattle.shfl_laws.specs.Seen.{SeenAs, Alike, Enters, Leaves}

-- a step past the queue uses no node after it
pub steal-leads : (r : Registers) (b : Bool) → uses_node (to (cond b Held Init) r) ≡ false
steal-leads r true = refl
steal-leads r false = refl

pub count-leads : (r : Registers) (b : Bool) → uses_node (to (cond b Uncount Held) r) ≡ false
count-leads r true = refl
count-leads r false = refl

-- whose pass uses its node is seen to use it
entry-off : (m : Mode) (z : PassState) → z.phase ≡ entry m → uses_node z ≡ false
entry-off Write z e = (λ j. queued_rank (rank (e j)) || is_swap (e j))
entry-off Read z e = (λ j. queued_rank (rank (e j)) || is_swap (e j))

exit-off : (m : Mode) (z : PassState) → z.phase ≡ exit m → uses_node z ≡ false
exit-off Write z e = (λ j. queued_rank (rank (e j)) || is_swap (e j))
exit-off Read z e = (λ j. queued_rank (rank (e j)) || is_swap (e j))

pub seen-uses : (form : Form) (own seen : PassState) → SeenAs form own seen → uses_node own ≡ true → uses_node seen ≡ true
seen-uses form own seen (Alike e) u = sym (ap uses_node e) ∙ u
seen-uses form own seen (Enters m may f e) u = absurd (let x : uses_node own ≡ false = entry-off m own (ap (λ (z : PassState). z.phase) e) in cc)
seen-uses form own seen (Leaves r e) u = absurd (let x : uses_node own ≡ false = exit-off seen.reg.mode own (ap (λ (z : PassState). z.phase) e) in cc)

pub seen-init : (form : Form) (own seen : PassState) → SeenAs form own seen → own.phase ≡ Init → uses_node seen ≡ false
seen-init form own seen (Alike e) u = let f : seen.phase ≡ Init = sym (ap (λ (z : PassState). z.phase) e) ∙ u in (λ j. queued_rank (rank (f j)) || is_swap (f j))
seen-init form own seen (Enters m may f e) u = (λ j. queued_rank (rank (f j)) || is_swap (f j))
seen-init form own seen (Leaves r e) u = let f = (resting-is seen r).0 in (λ j. queued_rank (rank (f j)) || is_swap (f j))

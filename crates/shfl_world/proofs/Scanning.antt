-- A scan of the passes, one after the other, finds the least that passes each test, and who holds.
use Rattle.std.proofs.Common.{◌≡◌, ℕ, zero, suc, ◌-◌, ◌<◌, Bool, ◌==◌, sym, ap, ◌∙◌, ⊎_elim, arith}
use Rattle.std.specs.Prelude.{◌&&◌, slice_index}
use Rattle.shfl_line.specs.declared.words.NodeState.{NodeState}
use Rattle.shfl_line.specs.Line.{holds}
use Rattle.shfl_line.specs.Words.{state_of, ready_of, shuffler_of}
use Rattle.shfl_core.specs.declared.phase.PassState.{PassState}
use Rattle.shfl_core.specs.declared.words.Word.TheVariants.{State}
use Rattle.shfl_core.specs.Words.{look}
use Rattle.shfl_core.specs.Phases.{is_queued, is_fore, is_round, is_linking, has_hand}
use Rattle.shfl_core.specs.Worlds.{World, known}
use Rattle.shfl_core.specs.ShownLine.{least, holders, is_ready}
use Rattle.shfl_core.proofs.Lists.{below-or}
use Rattle.shfl_laws.proofs.shown.HoldersBelow.{told}
use Rattle.shfl_laws.proofs.words.Leasts.{least-some}
use Rattle.shfl_laws.proofs.rows.Losing.{holds-split}
use Rattle.shfl_world.specs.declared.glance.Glance.{Glance}
use Rattle.shfl_world.specs.Showing.{Finds, Sees, first_found}

found-next : (test : ℕ → Bool) (n found new : ℕ) (b : Bool) → found ≡ least test n → b ≡ test n → new ≡ first_found found b n → new ≡ least test (suc n)
found-next test n found new b e f g = g ∙ (λ j. first_found (e j) (f j) n)

pub seen-next : (w : World) (n : ℕ) (old new : Glance) (q : PassState) (node : NodeState) → q ≡ known w.passes n → node ≡ state_of (look w.words (State n))
    → Finds w n old → Sees old new n q node → Finds w (suc n) new
seen-next w n old new q node e f k s = record {
  granter = found-next (λ p. is_ready (known w.passes p).phase) n old.granter new.granter (is_ready q.phase) k.granter (ap (λ (z : PassState). is_ready z.phase) e) s.granter;
  fore = found-next (λ p. is_fore (known w.passes p)) n old.fore new.fore (is_fore q) k.fore (ap is_fore e) s.fore;
  called = found-next (λ p. is_queued (known w.passes p) && ready_of (look w.words (State p))) n old.called new.called (is_queued q && node.ready) k.called (λ j. is_queued (e j) && (f j).ready) s.called;
  relinker = found-next (λ p. has_hand (known w.passes p).phase) n old.relinker new.relinker (has_hand q.phase) k.relinker (ap (λ (z : PassState). has_hand z.phase) e) s.relinker;
  walker = found-next (λ p. is_round (known w.passes p).phase) n old.walker new.walker (is_round q.phase) k.walker (ap (λ (z : PassState). is_round z.phase) e) s.walker;
  flagged = found-next (λ p. is_queued (known w.passes p) && shuffler_of (look w.words (State p))) n old.flagged new.flagged (is_queued q && node.shuffler) k.flagged (λ j. is_queued (e j) && (f j).shuffler) s.flagged;
  linkers = λ a h. found-next (λ p. is_linking (known w.passes p).phase && ((known w.passes p).reg.before == a)) n (slice_index old.linkers a) (slice_index new.linkers a) (is_linking q.phase && (q.reg.before == a))
      (k.linkers a h) (ap (λ (z : PassState). is_linking z.phase && (z.reg.before == a)) e) (s.linkers a h);
}

-- who was found is one of them
pub found-below : (test : ℕ → Bool) (n found : ℕ) → found ≡ least test n → 0 < found → found - 1 < n
found-below test n zero e h = absurd (omega arith)
found-below test n (suc p) e h = let t = (least-some test n p (sym e)).0 in omega arith

-- whoever holds so far is one of those that were seen
pub holders-below : (pass : ℕ → PassState) (n q : ℕ) → 0 < holds q (holders pass n) → q < n
holders-below pass n q h = ⊎_elim (λ b. b) (λ b. absurd (let a = (told pass n).above q b in let c = holds-split q (holders pass n) in let x = a.0 in let y = a.1 in omega arith)) (below-or q n)

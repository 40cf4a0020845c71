-- What a scan of the passes finds: by whom the rest of a line state is shown.
use Rattle.std.specs.Prelude.{◌≡◌, ℕ, suc, ◌<◌, Bool, cond, ◌==◌, ◌&&◌, length, slice_index}
use Rattle.shfl_line.specs.declared.words.NodeState.{NodeState}
use Rattle.shfl_line.specs.Words.{ready_of, shuffler_of}
use Rattle.shfl_core.specs.declared.phase.PassState.{PassState}
use Rattle.shfl_core.specs.declared.words.Word.TheVariants.{State}
use Rattle.shfl_core.specs.Words.{look}
use Rattle.shfl_core.specs.Phases.{is_queued, is_fore, is_round, is_linking, has_hand}
use Rattle.shfl_core.specs.Worlds.{World, known}
use Rattle.shfl_core.specs.Runner.{Lock}
use Rattle.shfl_core.specs.ShownLine.{least, is_ready}
use Rattle.shfl_world.specs.declared.glance.Glance.{Glance}

-- of the passes below n: each is the least that passes its test plus 1, or 0
pub record Finds (w : World) (n : ℕ) (g : Glance) : Type 0 where
  pub granter : g.granter ≡ least (λ p. is_ready (known w.passes p).phase) n
  pub fore : g.fore ≡ least (λ p. is_fore (known w.passes p)) n
  pub called : g.called ≡ least (λ p. is_queued (known w.passes p) && ready_of (look w.words (State p))) n
  pub relinker : g.relinker ≡ least (λ p. has_hand (known w.passes p).phase) n
  pub walker : g.walker ≡ least (λ p. is_round (known w.passes p).phase) n
  pub flagged : g.flagged ≡ least (λ p. is_queued (known w.passes p) && shuffler_of (look w.words (State p))) n
  -- for each pass, who has yet to write its next word
  pub linkers : (a : ℕ) → a < 64
      → slice_index g.linkers a ≡ least (λ p. is_linking (known w.passes p).phase && ((known w.passes p).reg.before == a)) n

-- a scan of all passes finds this
abbrev pub FindsAll : Lock → Glance → Type 0
FindsAll lock g = Finds lock.world (length lock.world.passes) g

-- a pass plus 1 where none was found before and the pass passes the test
abbrev pub first_found : ℕ → Bool → ℕ → ℕ
first_found found test p = cond (found == 0) (cond test (suc p) 0) found

-- one pass more was seen, which stands at q, and whose state word says so much
pub record Sees (old new : Glance) (p : ℕ) (q : PassState) (node : NodeState) : Type 0 where
  pub granter : new.granter ≡ first_found old.granter (is_ready q.phase) p
  pub fore : new.fore ≡ first_found old.fore (is_fore q) p
  pub called : new.called ≡ first_found old.called (is_queued q && node.ready) p
  pub relinker : new.relinker ≡ first_found old.relinker (has_hand q.phase) p
  pub walker : new.walker ≡ first_found old.walker (is_round q.phase) p
  pub flagged : new.flagged ≡ first_found old.flagged (is_queued q && node.shuffler) p
  pub linkers : (a : ℕ) → a < 64
      → slice_index new.linkers a ≡ first_found (slice_index old.linkers a) (is_linking q.phase && (q.reg.before == a)) p

-- what a pass in the queue is doing was seen, and not what its state word says
pub record SeesQueued (old new : Glance) (p : ℕ) (q : PassState) : Type 0 where
  pub fore : new.fore ≡ first_found old.fore (is_fore q) p
  pub relinker : new.relinker ≡ first_found old.relinker (has_hand q.phase) p
  pub walker : new.walker ≡ first_found old.walker (is_round q.phase) p
  pub linkers : (a : ℕ) → a < 64
      → slice_index new.linkers a ≡ first_found (slice_index old.linkers a) (is_linking q.phase && (q.reg.before == a)) p
  -- the others stay
  pub granter : new.granter ≡ old.granter
  pub called : new.called ≡ old.called
  pub flagged : new.flagged ≡ old.flagged

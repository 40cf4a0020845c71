-- The batch and the shuffler, as the state words and the registers give them.
use Rattle.std.specs.Prelude.{◌≡◌, ◌≢◌, ℕ, suc, ◌<◌, ◌≤◌, true, false, cond}
use Rattle.shfl_line.specs.declared.words.NodeState.{NodeState}
use Rattle.shfl_line.specs.Line.{Line, mark_of, active_shuffler, idle_shuffler}
use Rattle.shfl_line.specs.Words.{link_word}
use Rattle.shfl_line.specs.Passes.{EachPair, MarkedFirst, IsLastMarked}
use Rattle.shfl_core.specs.declared.phase.Phase.TheVariants.{Begin, Give}
use Rattle.shfl_core.specs.declared.phase.PassState.{PassState}
use Rattle.shfl_core.specs.Phases.{is_round, is_queued, knows}
use Rattle.shfl_core.specs.View.{View}

pub record Grouped (limit : ℕ) (node : ℕ → NodeState) (pass : ℕ → PassState) (s : Line) : Type 0 where
  -- a queued pass has the batch number of its state word, any other none
  pub mark : (q : ℕ) → mark_of s q ≡ cond (is_queued (pass q)) (node q).batch 0
  pub hand : (q : ℕ) → link_word s.hand ≡ suc q → mark_of s q ≡ 0
  pub within : (q : ℕ) → mark_of s q ≤ limit
  -- the one pass in a round is the active shuffler
  pub walks : (q : ℕ) → is_round (pass q).phase ≡ true → active_shuffler s.role ≡ suc q
  pub walker : (q : ℕ) → active_shuffler s.role ≡ suc q → (is_round (pass q).phase ≡ true) × (0 < mark_of s q)
  -- outside rounds the one queued pass with the flag is the idle shuffler
  pub flagged : (q : ℕ) → is_queued (pass q) ≡ true → (node q).shuffler ≡ true → idle_shuffler s.role ≡ suc q
  pub rester : (q : ℕ) → idle_shuffler s.role ≡ suc q → (is_queued (pass q) ≡ true) × ((node q).shuffler ≡ true)
  -- the batch is a prefix of the line, and an idle shuffler its last
  pub prefix : EachPair (MarkedFirst (mark_of s)) s.line
  pub rests : (q : ℕ) → idle_shuffler s.role ≡ suc q → IsLastMarked (mark_of s) s.line q
  -- what the registers of a pass in a round say of the batch
  pub last : (q : ℕ) → is_round (pass q).phase ≡ true → IsLastMarked (mark_of s) s.line (pass q).reg.last
      × (mark_of s (pass q).reg.last ≡ (pass q).reg.count) × ((pass q).phase ≢ Give → (pass q).reg.count < limit)
  -- a pass at the queue's head or in a round knows its own state word
  pub known : (q : ℕ) → knows (pass q).phase ≡ true → ((pass q).reg.batch ≡ (node q).batch) × ((pass q).reg.flag ≡ (node q).shuffler)
  pub begins : (q : ℕ) → (pass q).phase ≡ Begin → (pass q).reg.flag ≡ false → ((pass q).reg.headed ≡ true) × ((pass q).reg.batch ≡ 0)

abbrev pub Grouping : ℕ → View → Line → Type 0
Grouping limit w s = Grouped limit w.node w.pass s

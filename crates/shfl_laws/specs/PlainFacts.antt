-- What the registers say of the words and of the line, in plain words, besides what specs/Facts.antt has.
use Rattle.std.specs.Prelude.{◌≡◌, ◌≢◌, ℕ, suc, ◌<◌, true, false}
use Rattle.shfl_line.specs.Line.{Line, mark_of}
use Rattle.shfl_line.specs.Words.{shuffler_of}
use Rattle.shfl_line.specs.Passes.{times, last, behind}
use Rattle.shfl_core.specs.declared.phase.Phase.TheVariants.{Begin, Pick, Place, Mark}
use Rattle.shfl_core.specs.declared.phase.Registers.{Registers}
use Rattle.shfl_core.specs.declared.phase.PassState.{PassState}
use Rattle.shfl_core.specs.declared.words.Word.TheVariants.{Next, State}
use Rattle.shfl_core.specs.Words.{look}
use Rattle.shfl_core.specs.Phases.{knows, has_hand, tail_to_pick, attr_to_pick, next_to_place, tail_to_decide, after_to_place}
use Rattle.shfl_core.specs.Worlds.{World, known}
use Rattle.shfl_core.specs.View.{view}
use Rattle.shfl_core.specs.Holding.{Registered}
use Rattle.shfl_core.specs.Lawful.{Terms}
use Rattle.shfl_laws.specs.Headline.{Shuffles, batch}
use Rattle.shfl_laws.specs.Facts.{Facts}

-- a pass at the head or in a round, or about to begin one, knows its own batch number and its own flag
pub record KnowsItself (w : World) (p : ℕ) : Type 0 where
  pub batch : (known w.passes p).reg.batch ≡ batch w p
  pub flag : (known w.passes p).reg.flag ≡ shuffler_of (look w.words (State p))

-- a round is about to begin without the flag
pub record BeginsFresh (r : Registers) : Type 0 where
  pub headed : r.headed ≡ true
  pub batch : r.batch ≡ 0

-- where the candidate gets its batch number: it stands directly behind the batch's last, and has none yet
pub record MarksNext (w : World) (s : Line) (r : Registers) : Type 0 where
  pub follows : look w.words (Next r.last) ≡ suc r.cand
  pub unmarked : mark_of s r.cand ≡ 0
  -- a candidate that was moved there stands before the pass that was behind the batch's last, and `prev` behind it
  pub moved : r.prev ≢ r.last → look w.words (Next r.cand) ≡ suc r.first
  pub rear : r.prev ≢ r.last → 0 < times r.prev (behind r.cand s.line)

-- what the registers of a pass in a round say of the next words
pub record RoundWords (w : World) (s : Line) (q : PassState) : Type 0 where
  -- from Tail to Pick the candidate stands directly behind `prev`; from Attr on it isn't the line's end
  pub cand_next : tail_to_pick q.phase ≡ true → look w.words (Next q.reg.prev) ≡ suc q.reg.cand
  pub cand_inner : attr_to_pick q.phase ≡ true → last s.line ≢ suc q.reg.cand
  -- from Next to Place, `first` stands directly behind the batch's last; it is the candidate where `prev` is that pass
  pub first_next : next_to_place q.phase ≡ true → q.reg.prev ≢ q.reg.last
      → look w.words (Next q.reg.last) ≡ suc q.reg.first
  pub first_cand : tail_to_decide q.phase ≡ true → q.reg.prev ≡ q.reg.last → q.reg.cand ≡ q.reg.first
  -- from After to Place there is a pass between the batch's last and the candidate
  pub apart : after_to_place q.phase ≡ true → q.reg.prev ≢ q.reg.last
  -- the three stores of a relink, each with what the ones before it left
  pub after_next : q.phase ≡ Pick → look w.words (Next q.reg.cand) ≡ suc q.reg.after
  pub gap : has_hand q.phase ≡ true → look w.words (Next q.reg.prev) ≡ suc q.reg.after
  pub aimed : q.phase ≡ Place → look w.words (Next q.reg.cand) ≡ suc q.reg.first
  pub marking : q.phase ≡ Mark → MarksNext w s q.reg

pub record PlainFacts (t : Terms) (w : World) (s : Line) : Type 0 where
  pub facts : Facts t.rules.limit w s
  pub itself : (p : ℕ) → knows (known w.passes p).phase ≡ true → KnowsItself w p
  pub begins : (p : ℕ) → (known w.passes p).phase ≡ Begin → (known w.passes p).reg.flag ≡ false
      → BeginsFresh (known w.passes p).reg
  pub rounds : (p : ℕ) → Shuffles w p → RoundWords w s (known w.passes p)
  -- the modes, and what was read of the lock word, the tail word and the attributes
  pub registered : Registered t.rules.form (view w)

-- What the rule of an arena says in plain words: of each lock what the model's headline says, and of each thread that it queues at one lock.
use Rattle.std.specs.Prelude.{◌≡◌, ℕ, ◌<◌, List}
use Rattle.shfl_line.specs.Line.{IsWellFormed}
use Rattle.shfl_core.specs.Worlds.{known}
use Rattle.shfl_core.specs.declared.words.Word.TheVariants.{Lock, Tail}
use Rattle.shfl_core.specs.Words.{look}
use Rattle.shfl_laws.specs.Headline.{Headline, IsQueued}
use Rattle.shfl_arena.specs.declared.view.ThreadView.{ThreadView}
use Rattle.shfl_arena.specs.Threads.{thread_at, pass_at}
use Rattle.shfl_arena.specs.ArenaWords.{word_at}
use Rattle.shfl_arena.specs.ArenaRule.{ArenaTerms, ArenaRule, world_at}

-- of each lock: one writer holds it, or readers alone, or nobody, as its lock word says; every queued thread stands once in its line or is the
-- one detached; one shuffles at most; and the batch is a prefix of the line, within the limit
pub record EachLockIsSafe (a : ArenaTerms) (words : List ℕ) (threads : List ThreadView) (ok : ArenaRule a words threads) (l : ℕ) (below : l < a.shape.locks) : Type 0 where
  pub well_formed : IsWellFormed (a.rules l).limit (ok.lawful l below).shown
  pub headline : Headline (a.rules l).limit (world_at a words threads l) (ok.lawful l below).shown.line (ok.lawful l below).shown.hand
  -- the lock word and the tail word of which it speaks are those of the lock, and the passes those of the threads there
  pub lock_word : look (world_at a words threads l).words Lock ≡ word_at a.shape words l Lock
  pub tail_word : look (world_at a words threads l).words Tail ≡ word_at a.shape words l Tail
  pub passes : (k : ℕ) → known (world_at a words threads l).passes k ≡ pass_at l k (thread_at threads k)

abbrev pub ArenaHeadline : ArenaTerms → Type 0
ArenaHeadline a = (words : List ℕ) (threads : List ThreadView) (ok : ArenaRule a words threads) (l : ℕ) (below : l < a.shape.locks) → EachLockIsSafe a words threads ok l below

-- a thread is queued at one lock at most
abbrev pub QueuesAtOne : ArenaTerms → Type 0
QueuesAtOne a = (words : List ℕ) (threads : List ThreadView) (k l m : ℕ) → IsQueued (world_at a words threads l) k → IsQueued (world_at a words threads m) k → l ≡ m

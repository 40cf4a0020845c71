-- The rule of an arena in plain words.
use Rattle.std.proofs.Common.{◌≡◌, ℕ, List, refl, sym, ap, ◌∙◌}
use Rattle.std.specs.Prelude.{Some}
use Rattle.shfl_core.specs.Phases.{is_queued}
use Rattle.shfl_core.specs.View.{view}
use Rattle.shfl_laws.specs.Headline.{IsQueued}
use Rattle.shfl_laws.proofs.plain.Headline.{headline}
use Rattle.shfl_laws.proofs.shown.WellFormed.{agrees-well-formed}
use Rattle.shfl_arena.specs.declared.view.ThreadView.{ThreadView}
use Rattle.shfl_arena.specs.Threads.{thread_at, pass_at, passes_from}
use Rattle.shfl_arena.specs.ArenaWords.{seen_word}
use Rattle.shfl_arena.specs.ArenaRule.{ArenaTerms, terms_at, world_at}
use Rattle.shfl_arena.specs.Headlines.{ArenaHeadline, QueuesAtOne}
use Rattle.shfl_arena.proofs.NodeLaws.{queued-uses}
use Rattle.shfl_arena.proofs.Threads.{passes-known, uses-at, same-lock}

pub arena-headline : (a : ArenaTerms) → ArenaHeadline a
arena-headline a words threads ok l below = let o = ok.lawful l below in let M = seen_word a.shape words l (passes_from l 0 threads) in record {
  well_formed = agrees-well-formed (terms_at a l) (view (world_at a words threads l)) o.shown o.giver o.of_passes o.agrees;
  headline = headline (terms_at a l) (world_at a words threads l) o;
  lock_word = refl;
  tail_word = refl;
  passes = λ k. passes-known l threads k;
}

-- a thread that is queued at a lock is there
queued-at : (a : ArenaTerms) (words : List ℕ) (threads : List ThreadView) (k l : ℕ) → IsQueued (world_at a words threads l) k → (thread_at threads k).at ≡ Some l
queued-at a words threads k l h = let v : ThreadView = thread_at threads k in
    uses-at l k v (queued-uses (pass_at l k v) (sym (ap is_queued (passes-known l threads k)) ∙ h))

pub queues-at-one : (a : ArenaTerms) → QueuesAtOne a
queues-at-one a words threads k l m h i = same-lock l m (thread_at threads k).at (queued-at a words threads k l h) (queued-at a words threads k m i)

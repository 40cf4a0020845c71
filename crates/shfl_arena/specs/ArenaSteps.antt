-- What the operations of an arena keep: a step, an attempt, another attribute, and disabling stealing.
use Rattle.std.specs.Prelude.{◌≡◌, ℕ, ◌<◌, Bool, true, false, List, Some, None, length, slice_set}
use mathlib.Core.Option.{some}
use lib.ListN.{get_elem?}
use Rattle.shfl_line.specs.declared.events.LineEvent.TheVariants.{Nothing}
use Rattle.shfl_line.specs.declared.events.Mode.{Mode}
use Rattle.shfl_core.specs.declared.phase.PassState.{PassState}
use Rattle.shfl_core.specs.declared.words.Word.TheVariants.{Attr}
use Rattle.shfl_core.specs.Words.{site}
use Rattle.shfl_core.specs.Plan.{moving, plan, attempt_plan}
use Rattle.shfl_core.specs.Take.{take, attempted}
use Rattle.shfl_core.specs.Waiting.{MayUse, blank}
use Rattle.shfl_core.specs.Events.{event, attempt_event}
use Rattle.shfl_core.specs.Lawful.{Lawful, InRange}
use Rattle.shfl_laws.specs.Seen.{SeenAs}
use Rattle.shfl_laws.specs.Stealing.{disable_plan}
use Rattle.shfl_arena.specs.declared.view.ThreadView.{ThreadView}
use Rattle.shfl_arena.specs.Threads.{MayStepAt, mode_held, pass_at, thread_after}
use Rattle.shfl_arena.specs.ArenaWords.{place, word_at, written_at}
use Rattle.shfl_arena.specs.ArenaRule.{ArenaTerms, ArenaRule, KeepsArena, terms_at, world_at}

-- the step of the thread k at the lock l, where its pass stands at `own`
abbrev pub ArenaStepLaw : ArenaTerms → Type 0
ArenaStepLaw a = (words : List ℕ) (threads : List ThreadView) (ok : ArenaRule a words threads) (l : ℕ) (below : l < a.shape.locks) (k : ℕ) (v : ThreadView) (own : PassState) (choice : Bool)
    → get_elem? threads k ≡ some v → SeenAs (a.rules l).form own (pass_at l k v) → MayStepAt l v
    → KeepsArena a words threads ok l below (event (a.rules l) k own (word_at a.shape words l (site (plan (a.rules l) k own))))
    (written_at a.shape words l (plan (a.rules l) k own))
    (slice_set threads k (thread_after l (take (a.rules l) k own (word_at a.shape words l (site (plan (a.rules l) k own))) choice) v))

-- the one operation of an attempt of the thread k, which has no step to make anywhere and doesn't hold this lock
abbrev pub ArenaAttemptLaw : ArenaTerms → Type 0
ArenaAttemptLaw a = (words : List ℕ) (threads : List ThreadView) (ok : ArenaRule a words threads) (l : ℕ) (below : l < a.shape.locks) (k : ℕ) (v : ThreadView) (mode : Mode)
    → get_elem? threads k ≡ some v → v.at ≡ None → mode_held l v.holds ≡ None → MayUse (a.rules l).form mode
    → KeepsArena a words threads ok l below (attempt_event mode k (word_at a.shape words l (site (attempt_plan mode))))
    (written_at a.shape words l (attempt_plan mode))
    (slice_set threads k (thread_after l (attempted mode (blank k) (word_at a.shape words l (site (attempt_plan mode)))) v))

-- where the attribute word of the thread k says n; and the words then
abbrev pub with_attribute : ArenaTerms → ℕ → ℕ → ArenaTerms
with_attribute a k n = record a { attrs = slice_set a.attrs k n }

abbrev pub attribute_written : ArenaTerms → List ℕ → ℕ → ℕ → List ℕ
attribute_written a words k n = slice_set words (place a.shape 0 (Attr k)) n

-- what another attribute leaves: the rule, and every lock's line as it was
pub record KeepsLines (a : ArenaTerms) (words : List ℕ) (threads : List ThreadView) (ok : ArenaRule a words threads) (a' : ArenaTerms) (words' : List ℕ) : Type 0 where
  pub rule : ArenaRule a' words' threads
  pub lines : (l : ℕ) (below : l < a.shape.locks) → (then : Lawful (terms_at a' l) (world_at a' words' threads l)) × (then.shown ≡ (ok.lawful l below).shown)

-- a thread that has no step to make anywhere may get any other attribute, whatever it holds
abbrev pub ArenaAttributeLaw : ArenaTerms → Type 0
ArenaAttributeLaw a = (words : List ℕ) (threads : List ThreadView) (ok : ArenaRule a words threads) (k : ℕ) (v : ThreadView) (n : ℕ)
    → get_elem? threads k ≡ some v → v.at ≡ None → k < length a.attrs → KeepsLines a words threads ok (with_attribute a k n) (attribute_written a words k n)

-- the word that the thread k plans to touch at the lock l is one of the lock's, and it is there
pub record PlansInRange (a : ArenaTerms) (words : List ℕ) (l k : ℕ) (own : PassState) : Type 0 where
  pub in_lock : InRange (terms_at a l) k own
  pub in_arena : place a.shape l (site (plan (a.rules l) k own)) < length words

abbrev pub ArenaRangeLaw : ArenaTerms → Type 0
ArenaRangeLaw a = (words : List ℕ) (threads : List ThreadView) (ok : ArenaRule a words threads) (l : ℕ) → l < a.shape.locks → (k : ℕ) (v : ThreadView) (own : PassState)
    → get_elem? threads k ≡ some v → SeenAs (a.rules l).form own (pass_at l k v) → PlansInRange a words l k own

-- where a step leads, the thread goes on at the lock with just that pass, or has no step to make anywhere
pub record GoesOn (l k : ℕ) (q : PassState) (v : ThreadView) : Type 0 where
  pub moves : moving q ≡ true → ((thread_after l q v).at ≡ Some l) × (pass_at l k (thread_after l q v) ≡ q)
  pub rests : moving q ≡ false → (thread_after l q v).at ≡ None

abbrev pub GoesOnLaw : Type 0
GoesOnLaw = (l k : ℕ) (q : PassState) (v : ThreadView) → GoesOn l k q v

-- stealing may be disabled at the lock l beside the rows, whoever does it: no pass goes on by it
abbrev pub ArenaDisableLaw : ArenaTerms → Type 0
ArenaDisableLaw a = (words : List ℕ) (threads : List ThreadView) (ok : ArenaRule a words threads) (l : ℕ) (below : l < a.shape.locks)
    → KeepsArena a words threads ok l below Nothing (written_at a.shape words l disable_plan) threads

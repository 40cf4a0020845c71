-- What a lock needs of nodes, whatever else they serve: which words a step touches, and what may change unseen by the lock.
use Rattle.std.specs.Prelude.{◌≡◌, ◌≢◌, ℕ, ◌<◌, true, false, length}
use mathlib.Core.Option.{some}
use lib.ListN.{get_elem?}
use Rattle.shfl_line.specs.declared.events.LineEvent.TheVariants.{Nothing}
use Rattle.shfl_core.specs.declared.phase.PassState.{PassState}
use Rattle.shfl_core.specs.declared.phase.Phase.TheVariants.{Swap}
use Rattle.shfl_core.specs.declared.words.Word.{Word}
use Rattle.shfl_core.specs.declared.words.Word.TheVariants.{Next, State, Bell}
use Rattle.shfl_core.specs.Words.{look, site}
use Rattle.shfl_core.specs.Plan.{plan, is_resting}
use Rattle.shfl_core.specs.Phases.{is_queued}
use Rattle.shfl_core.specs.Worlds.{World, known, placed_at}
use Rattle.shfl_core.specs.Lawful.{Terms, count, Lawful, Advances}
use Rattle.shfl_arena.specs.Nodes.{IsClearNode, MayTouch, with_state, with_attr, terms_with_attr}

-- a step touches no word but those that it may
abbrev pub TouchLaw : Terms → Type 0
TouchLaw t = (w : World) (p : ℕ) (q : PassState) → Lawful t w → get_elem? w.passes p ≡ some q → MayTouch w p (site (plan t.rules p q))

-- whoever isn't queued has a clear node
abbrev pub ClearNodeLaw : Terms → Type 0
ClearNodeLaw t = (w : World) (p : ℕ) → Lawful t w → is_queued (known w.passes p) ≡ false → IsClearNode (look w.words (Next p)) (look w.words (State p)) (look w.words (Bell p))

-- and its state word may as well be 0
abbrev pub StateWordLaw : Terms → Type 0
StateWordLaw t = (w : World) (p : ℕ) (ok : Lawful t w) → p < count t → is_queued (known w.passes p) ≡ false → (known w.passes p).phase ≢ Swap → Advances t w ok Nothing (with_state w p 0)

-- of a holder at rest only its number and its mode count
abbrev pub RestingLaw : Terms → Type 0
RestingLaw t = (w : World) (p : ℕ) (q other : PassState) (ok : Lawful t w) → get_elem? w.passes p ≡ some q → is_resting q ≡ true → is_resting other ≡ true
    → other.reg.me ≡ p → other.reg.mode ≡ q.reg.mode → Advances t w ok Nothing (placed_at w p other)

-- of a world's words only what each says counts, and how many they are
abbrev pub AlikeLaw : Terms → Type 0
AlikeLaw t = (w other : World) (ok : Lawful t w) → length other.words ≡ length w.words → other.passes ≡ w.passes → ((v : Word) → look other.words v ≡ look w.words v) → Advances t w ok Nothing other

-- the attribute word of a pass that isn't queued may become any word, with the terms, and the line shows nothing of it
abbrev pub AttributeLaw : Terms → Type 0
AttributeLaw t = (w : World) (p n : ℕ) (ok : Lawful t w) → p < count t → is_queued (known w.passes p) ≡ false
    → (then : Lawful (terms_with_attr t p n) (with_attr w p n)) × (then.shown ≡ ok.shown)

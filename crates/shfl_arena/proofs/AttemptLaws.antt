-- The one operation of an attempt in an arena.
use Rattle.std.proofs.Common.{◌≡◌, ℕ, ◌<◌, ◌==◌, Bool, true, false, cond, List, length, set, refl, sym, ap, ◌∙◌, subst, inl, arith}
use Rattle.std.specs.Prelude.{None, ◌||◌}
use mathlib.Core.Option.{some}
use lib.ListN.{get_elem?}
use Rattle.shfl_line.specs.declared.events.Mode.{Mode}
use Rattle.shfl_line.specs.declared.events.Mode.TheVariants.{Write, Read}
use Rattle.shfl_line.specs.Words.{held_of, closed_of}
use Rattle.shfl_core.specs.declared.phase.Phase.TheVariants.{Idle, Held, TryUncount}
use Rattle.shfl_core.specs.declared.phase.Registers.{Registers}
use Rattle.shfl_core.specs.declared.words.Word.TheVariants.{Lock, Attr}
use Rattle.shfl_core.specs.declared.words.Access.{Access}
use Rattle.shfl_core.specs.Words.{index, wide, site, put}
use Rattle.shfl_core.specs.Plan.{attempt_plan}
use Rattle.shfl_core.specs.Take.{attempted, to}
use Rattle.shfl_core.specs.Waiting.{MayUse, idle, blank}
use Rattle.shfl_core.specs.Worlds.{World}
use Rattle.shfl_core.specs.Events.{attempt_event}
use Rattle.shfl_core.specs.Lawful.{Advances}
use Rattle.shfl_laws.proofs.laws.AttemptRows.{attempt-law}
use Rattle.shfl_arena.specs.Nodes.{uses_node}
use Rattle.shfl_arena.specs.declared.view.ThreadView.{ThreadView}
use Rattle.shfl_arena.specs.Threads.{mode_held, pass_at_rest, pass_at, thread_after}
use Rattle.shfl_arena.specs.ArenaWords.{word_at, written_at}
use Rattle.shfl_arena.specs.ArenaRule.{ArenaTerms, ArenaRule, KeepsArena, terms_at, world_at}
use Rattle.shfl_arena.specs.ArenaSteps.{ArenaAttemptLaw}
use Rattle.shfl_arena.proofs.Touches.{IsOpen, pass-there}
use Rattle.shfl_arena.proofs.Operations.{operation-keeps}
use Rattle.shfl_arena.proofs.StepLaws.{off-is, found}

-- the one operation of an attempt touches the lock word alone, and uses no node after it
attempt-word : (mode : Mode) → site (attempt_plan mode) ≡ Lock
attempt-word Write = refl
attempt-word Read = refl

attempt-leads : (mode : Mode) (r : Registers) (n : ℕ) → uses_node (attempted mode r n) ≡ false
attempt-leads Write r n = by (n == 0)
  where
    by : (b : Bool) → uses_node (cond b (to Held (record r { mode = Write })) (to Idle (record r { mode = Write; saw = n }))) ≡ false
    by true = refl
    by false = refl
attempt-leads Read r n = by (held_of n || closed_of n)
  where
    by : (b : Bool) → uses_node (cond b (to TryUncount (record r { mode = Read; saw = n })) (to Held (record r { mode = Read }))) ≡ false
    by true = refl
    by false = refl

module _ (a : ArenaTerms) (words : List ℕ) (threads : List ThreadView) (ok : ArenaRule a words threads) (l : ℕ) (below : l < a.shape.locks) (k : ℕ) (v : ThreadView) (mode : Mode) (at : get_elem? threads k ≡ some v)
    (none : v.at ≡ None) (free : mode_held l v.holds ≡ None) (may : MayUse (a.rules l).form mode) where
  abbrev y : Access
  y = attempt_plan mode

  abbrev found-word : ℕ
  found-word = word_at a.shape words l (site y)

  abbrev V : World
  V = world_at a words threads l

  lock-range : index (site y) < wide (length a.attrs)
  lock-range = subst (λ u. index u < wide (length a.attrs)) (sym (attempt-word mode)) (let z : 0 < wide (length a.attrs) = omega arith in z)

  lock-open : IsOpen V.passes (site y)
  lock-open = subst (IsOpen V.passes) (sym (attempt-word mode)) tt

  off : pass_at l k v ≡ idle k
  off = off-is a words threads ok l below k v at none ∙ ap (pass_at_rest k) free

  pub attempt-keeps : KeepsArena a words threads ok l below (attempt_event mode k found-word) (written_at a.shape words l y) (set threads k (thread_after l (attempted mode (blank k) found-word) v))
  attempt-keeps = operation-keeps a words threads ok l below k v at y (attempted mode (blank k) found-word) (attempt_event mode k found-word) lock-range
      (subst (λ z. Advances (terms_at a l) V (ok.lawful l below) (attempt_event mode k z) (record { words = set V.words (index (site y)) (put y z); passes = set V.passes k (attempted mode (blank k) z) })) (found a words threads ok l below k v at (site y) lock-range lock-open)
      (attempt-law (terms_at a l) mode V k (idle k) (ok.lawful l below) (pass-there threads k v at l ∙ ap some off) refl may))
      (λ r e. absurd (let i : Lock ≡ Attr r = sym (attempt-word mode) ∙ e in cc))
      (inl none)
      (inl (lock-open, λ u. absurd (let z = attempt-leads mode (blank k) found-word in cc)))

pub arena-attempt-law : (a : ArenaTerms) → ArenaAttemptLaw a
arena-attempt-law a words threads ok l below k v mode at none free may = attempt-keeps a words threads ok l below k v mode at none free may

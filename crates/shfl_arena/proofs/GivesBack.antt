-- Who holds a lock as a writer has its word's held bit set. So clearing the bit and taking it away are the same, and either gives the lock back.
use Rattle.std.proofs.Common.{◌≡◌, ℕ, ◌+◌, ◌-◌, ◌%◌, ◌^◌, ◌<◌, Bool, true, false, List, refl, sym, ap, ◌∙◌, subst, arith}
use Rattle.std.specs.Prelude.{Option, Some, None, bit_and}
use mathlib.Core.Option.{some}
use lib.ListN.{get_elem?}
use Rattle.atomic_table.specs.Table.{Me, stepped}
use Rattle.shfl_line.specs.declared.events.Mode.{Mode}
use Rattle.shfl_line.specs.declared.events.Mode.TheVariants.{Write, Read}
use Rattle.shfl_line.specs.Words.{packed_lock, held_of, closed_of, readers_of, IsLockWord}
use Rattle.shfl_core.specs.declared.phase.PassState.{PassState}
use Rattle.shfl_core.specs.declared.phase.Rules.{Rules}
use Rattle.shfl_core.specs.declared.words.Word.TheVariants.{Lock}
use Rattle.shfl_core.specs.Words.{site}
use Rattle.shfl_core.specs.Phases.{is_holding}
use Rattle.shfl_core.specs.Plan.{plan}
use Rattle.shfl_core.specs.Worlds.{World, known}
use Rattle.shfl_laws.specs.Headline.{HoldsAs}
use Rattle.shfl_laws.proofs.words.LockBits.{word-is, lock-and-held}
use Rattle.shfl_arena.specs.declared.shape.Shape.{Shape}
use Rattle.shfl_arena.specs.declared.view.SeatView.{SeatView}
use Rattle.shfl_arena.specs.declared.view.ThreadView.{ThreadView}
use Rattle.shfl_arena.specs.ArenaRule.{ArenaTerms, ArenaRule, world_at}
use Rattle.shfl_arena.specs.ArenaTable.{told_arena, LawfulTable}
use Rattle.shfl_arena.specs.ArenaWords.{place, word_at}
use Rattle.shfl_arena.specs.Operations.{LockTerms, Permits, gives_back, step_play}
use Rattle.shfl_arena.specs.SeatModels.{leaving}
use Rattle.shfl_arena.specs.SeatViews.{threads_of}
use Rattle.shfl_arena.specs.Threads.{mode_held, pass_at, pass_at_rest, resting}
use Rattle.shfl_arena.proofs.Headlines.{arena-headline}
use Rattle.shfl_arena.proofs.SeatViews.{threads-at}
use Rattle.shfl_arena.proofs.Threads.{at-none, off-at}
use Rattle.shfl_arena.proofs.Touches.{there-is}

taken-away : (c : Bool) (r : ℕ) → r < 2 ^ 32 → packed_lock false c r ≡ (packed_lock true c r + (2 ^ 64 - 1)) % 2 ^ 64
taken-away true r few = omega arith
taken-away false r few = omega arith

cleared-or-taken : (n : ℕ) → IsLockWord n → held_of n ≡ true → bit_and n 18446744073709551614 ≡ (n + (2 ^ 64 - 1)) % 2 ^ 64
cleared-or-taken n w held =
    let k = word-is n w in let s = lock-and-held n w in let m = word-is (bit_and n 18446744073709551614) s.form in
    m.0 ∙ ((λ j. packed_lock (s.held j) (s.closed j) (s.readers j)) ∙ (taken-away (closed_of n) (readers_of n) k.1
    ∙ ap (λ z. (z + (2 ^ 64 - 1)) % 2 ^ 64) (sym (k.0 ∙ ap (λ h. packed_lock h (closed_of n) (readers_of n)) held))))

-- its word is the lock word
pub gives-site : (m : Mode) → site (gives_back m) ≡ Lock
gives-site Write = refl
gives-site Read = refl

module _ (shape : Shape) (rules : Rules) (n l : ℕ) (below : l < shape.locks) where
  abbrev A : List ℕ → ArenaTerms
  A words = told_arena shape rules n words

  -- the word of a lock that a thread holds as a writer, at rest
  writers-word : (words : List ℕ) (threads : List ThreadView) (ok : ArenaRule (A words) words threads) (k : ℕ) (v : ThreadView) → get_elem? threads k ≡ some v → v.at ≡ None → mode_held l v.holds ≡ Some Write
      → held_of (word_at shape words l Lock) ≡ true
  writers-word words threads ok k v at none held =
      let h = arena-headline (A words) words threads ok l below in let W : World = world_at (A words) words threads l in
      let stands : known W.passes k ≡ resting k Write = h.passes k ∙ (ap (pass_at l k) (there-is threads k v at) ∙ (off-at l k v (at-none l v none) ∙ ap (pass_at_rest k) held)) in
      let holds : HoldsAs W Write k = record { holds = ap (λ (q : PassState). is_holding q.phase) stands; mode = ap (λ (q : PassState). q.reg.mode) stands } in
      sym (ap held_of h.lock_word) ∙ h.headline.writer_in_word k holds

  module _ {V : Type 0} (slots id : ℕ) (me : Me (Option V) SeatView) (one : me.0.seats ≡ 1) (none : me.0.thread.at ≡ None) where
    abbrev t : LockTerms
    t = record { shape = shape; rules = rules; threads = n; lock = l }

    pub gives-back : (mode : Mode) → mode_held l me.0.thread.holds ≡ Some mode
        → Permits {S = Option V} {V = SeatView} (LawfulTable {V = V} shape rules n) slots id me (step_play {V = V} t (leaving me.0.number mode) false) shape l (plan rules me.0.number (leaving me.0.number mode))
        → Permits {S = Option V} {V = SeatView} (LawfulTable {V = V} shape rules n) slots id me (step_play {V = V} t (leaving me.0.number mode) false) shape l (gives_back mode)
    gives-back Read held p s ok long at bound = p s ok long at bound
    gives-back Write held p s ok long at bound =
        let is : me.0.number ≡ id = (ok.seated id me.0 at).number (omega arith) in
        let word : ℕ = word_at shape s.words l Lock in
        let same : bit_and word 18446744073709551614 ≡ (word + (2 ^ 64 - 1)) % 2 ^ 64 = cleared-or-taken word ((ok.arena.lawful l below).formed Lock) (writers-word s.words (threads_of s.views) ok.arena id me.0.thread (threads-at s.views id me.0 at) none held) in
        let r = p s ok long at bound in (
          r.0,
          r.1,
          r.2,
          subst (λ z. LawfulTable {V = V} shape rules n (stepped s (place shape l Lock) z id me.1 r.0 r.1)) same r.3,
          r.4,
        )

-- What an operation on an arena's table is permitted: whatever keeps the arena may be made, and the value of its lock goes with the hold.
use Rattle.std.proofs.Common.{◌≡◌, ℕ, ◌<◌, Bool, List, length, set, length-set, refl, sym, ap, ◌∙◌, subst, ⊎_elim, arith}
use Rattle.std.specs.Prelude.{Option}
use mathlib.Core.Option.{some}
use lib.ListN.{get_elem?}
use Rattle.atomic_table.specs.Table.{Me, carried_after, homes_after}
use Rattle.atomic_table.proofs.Lists.{at_set}
use Rattle.shfl_line.specs.declared.events.LineEvent.{LineEvent}
use Rattle.shfl_core.specs.declared.phase.PassState.{PassState}
use Rattle.shfl_core.specs.declared.phase.Rules.{Rules}
use Rattle.shfl_core.specs.declared.words.Access.{Access}
use Rattle.shfl_core.specs.Words.{site, told}
use Rattle.shfl_core.specs.Plan.{plan}
use Rattle.shfl_core.specs.Lawful.{Formed}
use Rattle.shfl_core.proofs.Blind.{told-found}
use Rattle.shfl_laws.specs.Seen.{Alike}
use Rattle.shfl_laws.proofs.laws.OwnSteps.{set-at}
use Rattle.shfl_arena.specs.declared.shape.Shape.{Shape}
use Rattle.shfl_arena.specs.declared.view.Decision.{Decision}
use Rattle.shfl_arena.specs.declared.view.SeatView.{SeatView}
use Rattle.shfl_arena.specs.declared.view.ThreadView.{ThreadView}
use Rattle.shfl_arena.specs.Threads.{MayStepAt, pass_at, thread_after}
use Rattle.shfl_arena.specs.ArenaWords.{place, word_at, word_count, written_at}
use Rattle.shfl_arena.specs.ArenaRule.{ArenaTerms, ArenaRule, KeepsArena}
use Rattle.shfl_arena.specs.SeatViews.{seats_of, threads_of, seat_after}
use Rattle.shfl_arena.specs.ValueMoves.{writes, AreHome, MovesValue, MayGive}
use Rattle.shfl_arena.specs.ArenaTable.{told_arena, SeatFacts, LawfulTable}
use Rattle.shfl_arena.specs.Operations.{Permits, LockTerms, PlansThere, Operates}
use Rattle.shfl_arena.proofs.StepLaws.{arena-range-law, goes-on-law}
use Rattle.shfl_arena.proofs.ToldTerms.{told-long, told-then}
use Rattle.shfl_arena.proofs.SeatViews.{seats-set, threads-set, threads-at}
use Rattle.shfl_arena.proofs.ValueMoves.{value-moves}

-- the facts of seats, where one seat that wasn't given back changes and stays in its place
pub seated-set : (vs : List SeatView) (id : ℕ) (v w : SeatView) → get_elem? vs id ≡ some v → w.number ≡ v.number → w.last ≡ v.last → w.seats ≡ v.seats → v.seats ≡ 1
    → ((seat : ℕ) (u : SeatView) → get_elem? vs seat ≡ some u → SeatFacts (length vs) seat u) → (seat : ℕ) (u : SeatView) → get_elem? (set vs id w) seat ≡ some u → SeatFacts (length (set vs id w)) seat u
seated-set vs id v w at number last seats one facts seat u e = subst (λ n. SeatFacts n seat u) (sym (length-set vs id w)) (⊎_elim
    (λ p. (let f = facts id v at in subst (λ (z : ℕ × SeatView). SeatFacts (length vs) z.0 z.1) (λ j. (sym p.0 j, p.1 j)) (record { number = λ _. number ∙ f.number (omega arith); last = λ h. f.last (sym last ∙ h); spent = λ none. absurd (omega arith) })))
    (λ p. facts seat u p.1)
    (at_set vs id seat w u e))

-- they stand for as many as before
pub counted-set : (vs : List SeatView) (id : ℕ) (v w : SeatView) → get_elem? vs id ≡ some v → w.seats ≡ v.seats → seats_of vs ≡ length vs → seats_of (set vs id w) ≡ length (set vs id w)
counted-set vs id v w at seats counted = let a = seats-set vs id v w at in let b = length-set vs id w in omega arith

module _ (shape : Shape) (rules : Rules) (n l : ℕ) (below : l < shape.locks) where
  abbrev t : LockTerms
  t = record { shape = shape; rules = rules; threads = n; lock = l }

  abbrev A : List ℕ → ArenaTerms
  A words = told_arena shape rules n words

  some-lock : 0 < shape.locks
  some-lock = let b = below in omega arith

  -- what is asked of an operation of the thread k that leads its pass to next n, where it finds n
  abbrev pub Keeps : ℕ → ThreadView → Access → (ℕ → PassState) → Type 0
  Keeps k v x next = (words : List ℕ) (threads : List ThreadView) (ok : ArenaRule (told_arena shape rules n words) words threads) → get_elem? threads k ≡ some v
      → (e : LineEvent) × KeepsArena (told_arena shape rules n words) words threads ok l below e (written_at shape words l x) (set threads k (thread_after l (next (word_at shape words l (site x))) v)) × Formed (site x) (word_at shape words l (site x))

  -- the terms stay, as the words tell them
  pub terms-stay : (words words' : List ℕ) (threads' : List ThreadView) → ArenaRule (A words) words' threads' → A words' ≡ A words
  terms-stay words words' threads' ok = told-then shape rules n (A words) words' threads' refl refl (told-long shape rules n words) some-lock ok

  -- where the operation leads, the next word is there
  range-then : (words words' : List ℕ) (threads : List ThreadView) (k : ℕ) (v : ThreadView) (q : PassState) → get_elem? threads k ≡ some v → ArenaRule (A words) words' (set threads k (thread_after l q v)) → PlansThere t k q
  range-then words words' threads k v q at ok moves = let g = (goes-on-law l k q v).moves moves in
      let r = arena-range-law (A words) words' (set threads k (thread_after l q v)) ok l below k (thread_after l q v) q (set-at threads k v (thread_after l q v) at) (Alike (sym g.1)) in
      subst (λ z. place shape l (site (plan rules k q)) < z) (ok.room ∙ ap (word_count shape) (told-long shape rules n words)) r.in_arena

  module _ {V : Type 0} (slots : ℕ) (me : Me (Option V) SeatView) (x : Access) (before : PassState) (next : ℕ → PassState) (qs : List Decision)
      (one : me.0.seats ≡ 1) (blind : (i : ℕ) → next (told x i) ≡ next i) (lead : MayStepAt l me.0.thread) (same : writes (pass_at l me.0.number me.0.thread) ≡ writes before)
      (ready : (i : ℕ) → MayGive {V = V} slots l (writes before) (writes (next i)) me.1) (keeps : Keeps me.0.number me.0.thread x next) where
    abbrev k : ℕ
    k = me.0.number

    pub operation-permits : (id : ℕ) → Permits {S = Option V} {V = SeatView} (LawfulTable {V = V} shape rules n) slots id me (λ st m i m'. Operates {V = V} t k x before (next i) qs st.slots m i m') shape l x
    operation-permits id s ok long at bound =
        let is : k ≡ id = (ok.seated id me.0 at).number (omega arith) in
        let f : ℕ = word_at shape s.words l (site x) in let q : PassState = next f in let threads : List ThreadView = threads_of s.views in
        let there : get_elem? threads k ≡ some me.0.thread = subst (λ i. get_elem? threads i ≡ some me.0.thread) (sym is) (threads-at s.views id me.0 at) in
        let K = keeps s.words threads ok.arena there in let words' : List ℕ = written_at shape s.words l x in
        let give : MayGive {V = V} (length s.homes) l (writes (pass_at l k me.0.thread)) (writes q) me.1 = subst (λ (z : ℕ × Bool). MayGive {V = V} z.0 l z.1 (writes q) me.1) (λ j. (sym long j, sym same j)) (ready f) in
        let r = value-moves {V = V} (A s.words) threads s.homes ok.home l below k me.0.thread there lead q words' K.1.rule me.1 give in
        let seats : threads_of (set s.views id (seat_after qs l q me.0)) ≡ set threads k (thread_after l q me.0.thread) = threads-set s.views id (seat_after qs l q me.0) ∙ ap (λ i. set threads i (thread_after l q me.0.thread)) (sym is) in (
          seat_after qs l q me.0,
          r.0,
          r.1.0,
          record {
            arena = subst (λ (z : ArenaTerms × List ThreadView). ArenaRule z.0 words' z.1) (λ j. (sym (terms-stay s.words words' (set threads k (thread_after l q me.0.thread)) K.1.rule) j, sym seats j)) K.1.rule;
            seated = seated-set s.views id me.0 (seat_after qs l q me.0) at refl refl refl one ok.seated;
            counted = counted-set s.views id me.0 (seat_after qs l q me.0) at refl ok.counted;
            home = subst (λ (z : List ThreadView). AreHome {V = V} z (homes_after s.homes me.1 r.0)) (sym seats) r.1.1;
          },
          record {
            form = λ e. subst (Formed (site x)) (sym (told-found x f e)) K.2;
            range = subst (PlansThere t k) (sym (blind f)) (range-then s.words words' threads k me.0.thread q there K.1.rule);
            seat = ap (λ z. seat_after qs l z me.0) (sym (blind f));
            value = subst (λ (z : ℕ × Bool × PassState). MovesValue {V = V} z.0 l z.1 (writes z.2) me.1 (carried_after me.1 r.0)) (λ j. (long j, same j, sym (blind f) j)) r.1.2;
          },
        )

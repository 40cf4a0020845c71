-- Whoever holds a lock at rest may give it back, and what that step leaves.
use Rattle.std.proofs.Common.{◌≡◌, ℕ, ◌+◌, ◌<◌, Bool, false, List, refl, sym, ap, ◌∙◌, subst, append-nil, arith}
use Rattle.std.specs.Prelude.{Option, Some, None}
use Rattle.atomic_table.specs.Table.{Me}
use Rattle.atomic_table.specs.Seated.{TableId}
use Rattle.shfl_line.specs.declared.events.Form.{Form}
use Rattle.shfl_line.specs.declared.events.Mode.{Mode}
use Rattle.shfl_line.specs.declared.events.Mode.TheVariants.{Write, Read}
use Rattle.shfl_line.specs.Line.{is_write}
use Rattle.shfl_core.specs.declared.phase.Phase.TheVariants.{Idle}
use Rattle.shfl_core.specs.declared.phase.PassState.{PassState}
use Rattle.shfl_core.specs.declared.phase.Rules.{Rules}
use Rattle.shfl_core.specs.Words.{site}
use Rattle.shfl_core.specs.Plan.{plan}
use Rattle.shfl_core.specs.Take.{take}
use Rattle.shfl_core.specs.Waiting.{idle}
use Rattle.shfl_laws.specs.Seen.{SeenAs, Leaves}
use Rattle.shfl_arena.specs.declared.shape.Shape.{Shape}
use Rattle.shfl_arena.specs.declared.view.SeatView.{SeatView}
use Rattle.shfl_arena.specs.declared.view.ThreadView.{ThreadView}
use Rattle.shfl_arena.specs.Threads.{mode_held, pass_at, pass_at_rest, without_lock}
use Rattle.shfl_arena.specs.ArenaWords.{first_node, place}
use Rattle.shfl_arena.specs.SeatViews.{seat_after, step_decisions}
use Rattle.shfl_arena.specs.Operations.{Operates}
use Rattle.shfl_arena.specs.SeatModels.{leaving, SeatInvariant}
use Rattle.shfl_arena.specs.ValueMoves.{writes, HasInFront, MayGive, MovesValue}
use Rattle.shfl_arena.specs.Waits.{Frees}
use Rattle.shfl_arena.proofs.Places.{lock-room}
use Rattle.shfl_arena.proofs.Threads.{at-none, off-at, mode-none, mode-holds-after}

-- others see it as a holder
pub leaving-seen : (form : Form) (l k : ℕ) (v : ThreadView) → v.at ≡ None → (m : Mode) → mode_held l v.holds ≡ Some m → SeenAs form (leaving k m) (pass_at l k v)
leaving-seen form l k v none Write held = subst (SeenAs form (leaving k Write)) (sym (off-at l k v (at-none l v none) ∙ ap (pass_at_rest k) held)) (Leaves refl refl)
leaving-seen form l k v none Read held = subst (SeenAs form (leaving k Read)) (sym (off-at l k v (at-none l v none) ∙ ap (pass_at_rest k) held)) (Leaves refl refl)

-- the word of that step is there
pub leaving-word : (shape : Shape) (rules : Rules) (k l words : ℕ) → l < shape.locks → first_node shape < words → (m : Mode) → place shape l (site (plan rules k (leaving k m))) < words
leaving-word shape rules k l words below room Write = let a = (lock-room shape.spread l shape.locks below).0 in omega arith
leaving-word shape rules k l words below room Read = let a = (lock-room shape.spread l shape.locks below).0 in omega arith

-- a writer has the value, and in front
pub leaving-gives : {X : Type 0} (slots l k : ℕ) (after : Bool) (carried : List (ℕ × Option X)) (m : Mode) → (m ≡ Write → l < slots → HasInFront {V = X} l carried) → MayGive {V = X} slots l (writes (leaving k m)) after carried
leaving-gives slots l k after carried Write value below w f = value refl below
leaving-gives slots l k after carried Read value below w f = absurd (cc)

-- the seat holds the lock no more, and asked nothing
gone-seat : (rules : Rules) (k n l : ℕ) (v : SeatView) (m : Mode) → seat_after (step_decisions rules (leaving k m) false) l (take rules k (leaving k m) n false) v
    ≡ record v { thread = record v.thread { at = None; holds = without_lock l v.thread.holds }; steps_taken = v.steps_taken + 1 }
gone-seat rules k n l v Write = λ j. record v { thread = record v.thread { at = None; holds = without_lock l v.thread.holds }; steps_taken = v.steps_taken + 1; decisions = append-nil v.decisions j }
gone-seat rules k n l v Read = λ j. record v { thread = record v.thread { at = None; holds = without_lock l v.thread.holds }; steps_taken = v.steps_taken + 1; decisions = append-nil v.decisions j }

gone-value : {X : Type 0} (rules : Rules) (slots l k n : ℕ) (c d : List (ℕ × Option X)) (m : Mode) → MovesValue {V = X} slots l (writes (leaving k m)) (writes (take rules k (leaving k m) n false)) c d
    → MovesValue {V = X} slots l (is_write m) false c d
gone-value rules slots l k n c d Write v = v
gone-value rules slots l k n c d Read v = v

module _ {X : Type 0} (shape : Shape) (rules : Rules) (own : PassState) (lock : ℕ) (id : TableId) (me : Me (Option X) SeatView) (k : SeatInvariant {X = X} shape rules own lock id me) (l threads n : ℕ) (mode : Mode) (me' : Me (Option X) SeatView)
    (go : Operates {V = X} (record { shape = shape; rules = rules; threads = threads; lock = l }) me.0.number (plan rules me.0.number (leaving me.0.number mode)) (leaving me.0.number mode) (take rules me.0.number (leaving me.0.number mode) n false) (step_decisions rules (leaving me.0.number mode) false) id.slots me n me') where
  abbrev gone : PassState
  gone = record own { phase = Idle }

  after : me'.0 ≡ record me.0 { thread = record me.0.thread { at = None; holds = without_lock l me.0.thread.holds }; steps_taken = me.0.steps_taken + 1 }
  after = go.seat ∙ gone-seat rules me.0.number n l me.0 mode

  pub left-kept : (id' : TableId) → id' ≡ id → SeatInvariant {X = X} shape rules gone l id' me'
  left-kept id' there = subst (λ (z : TableId). SeatInvariant {X = X} shape rules gone l z me') (sym there) (record {
    number = ap (λ (z : SeatView). z.number) after ∙ k.number;
    one = ap (λ (z : SeatView). z.seats) after ∙ k.one;
    node = k.node;
    moves = λ g. absurd (cc);
    rests = λ _. ap (λ (z : SeatView). z.thread.at) after;
    here = λ _. ap (λ (z : SeatView). mode_held l z.thread.holds) after ∙ mode-none l me.0.thread.holds;
  })

  pub left-told : (id' : TableId) → id' ≡ id
      → Frees {X = X} l mode (record { arena = record { table = id; rules = rules; shape = shape }; lock = lock; own = own; holds = me.0.thread.holds; steps_taken = me.0.steps_taken; decisions = me.0.decisions; values = me.1 })
      (record { arena = record { table = id'; rules = rules; shape = shape }; lock = l; own = gone; holds = me'.0.thread.holds; steps_taken = me'.0.steps_taken; decisions = me'.0.decisions; values = me'.1 })
  left-told id' there = record {
    arena = λ j. record { table = there j; rules = rules; shape = shape };
    number = refl;
    rests = refl;
    here = ap (λ (z : SeatView). mode_held l z.thread.holds) after ∙ mode-none l me.0.thread.holds;
    elsewhere = λ m d. ap (λ (z : SeatView). mode_held m z.thread.holds) after ∙ mode-holds-after m l (idle 0) me.0.thread.holds d;
    steps = ap (λ (z : SeatView). z.steps_taken) after;
    decisions = ap (λ (z : SeatView). z.decisions) after;
    value = gone-value {X = X} rules id.slots l me.0.number n me.1 me'.1 mode go.value;
  }

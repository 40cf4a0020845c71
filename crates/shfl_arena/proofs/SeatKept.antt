-- What a seat's type keeps over an operation, and what a step tells of it.
use Rattle.std.proofs.Common.{◌≡◌, ◌≢◌, ℕ, ◌==◌, ◌+◌, ◌*◌, ◌<◌, Bool, true, false, cond, List, [], ◌∷◌, refl, sym, ap, ◌∙◌, subst, inl, inr, ⊎_elim, append-nil, arith}
use Rattle.std.specs.Prelude.{Option, Some, None, ◌&&◌}
use Rattle.atomic_table.specs.Table.{Me}
use Rattle.atomic_table.specs.Seated.{TableId}
use Rattle.shfl_line.specs.declared.events.Mode.{Mode}
use Rattle.shfl_line.specs.declared.events.Mode.TheVariants.{Write, Read}
use Rattle.shfl_line.specs.Line.{is_write}
use Rattle.shfl_core.specs.declared.phase.PassState.{PassState}
use Rattle.shfl_core.specs.declared.phase.Rules.{Rules}
use Rattle.shfl_core.specs.declared.words.Access.{Access}
use Rattle.shfl_core.specs.Phases.{is_holding}
use Rattle.shfl_core.specs.Words.{site}
use Rattle.std.proofs.lemmas.Bool.Decides.{nat_tests}
use Rattle.shfl_core.specs.Plan.{plan, moving, attempt_plan, is_held}
use Rattle.shfl_core.specs.Take.{take, attempted}
use Rattle.shfl_core.specs.Waiting.{MayUse, blank, idle}
use Rattle.shfl_laws.specs.Seen.{SeenAs, Alike, Enters}
use Rattle.shfl_laws.specs.Holds.{hold_of, is_releasing}
use Rattle.shfl_laws.proofs.laws.MoveLaws.{resting-is}
use Rattle.shfl_laws.proofs.laws.Holds.{take-mode}
use Rattle.shfl_laws.proofs.laws.Waits.{none-leads-to-release}
use Rattle.shfl_arena.specs.declared.shape.Shape.{Shape}
use Rattle.shfl_arena.specs.declared.view.Decision.{Decision}
use Rattle.shfl_arena.specs.declared.view.SeatView.{SeatView}
use Rattle.shfl_arena.specs.declared.view.ThreadView.{ThreadView}
use Rattle.shfl_arena.specs.Threads.{mode_held, pass_at, pass_at_rest, thread_after, holds_after, without_lock}
use Rattle.shfl_arena.specs.ArenaWords.{lock_place, place, first_node, word_count}
use Rattle.shfl_arena.specs.SeatViews.{step_decisions}
use Rattle.shfl_arena.specs.ValueMoves.{writes, HasInFront, MayGive, MovesValue}
use Rattle.shfl_arena.specs.Operations.{Operates}
use Rattle.shfl_arena.specs.SeatModels.{entering, leaving, StandsAt, SeatInvariant}
use Rattle.shfl_arena.specs.SeatSteps.{holds_then, TakesStep, TriesOnce}
use Rattle.shfl_arena.proofs.Places.{lock-room}
use Rattle.shfl_arena.proofs.Threads.{at-none, off-at, still-is, mode-none, mode-holds-after}
use Rattle.shfl_arena.proofs.StepLaws.{goes-on-law}
use Rattle.shfl_arena.proofs.ValueMoves.{frees-writer}
use Rattle.shfl_arena.proofs.Numbers.{take-number, attempt-number}
use Rattle.shfl_arena.proofs.LastSteps.{leaving-seen, leaving-word}

-- the locks held after an operation at one of them
holds-here : (l : ℕ) (q : PassState) (h : List (ℕ × Mode)) → moving q ≡ false → mode_held l (holds_then l q h) ≡ hold_of q
holds-here l q h still = ap (λ b. mode_held l (cond b h (holds_after l q h))) still ∙ ⊎_elim
    (λ f. (λ j. mode_held l (cond (is_held (f j)) ((l, q.reg.mode) ∷ without_lock l h) (without_lock l h))) ∙ (mode-none l h ∙ sym (ap (λ z. cond (is_holding z) (Some q.reg.mode) None) f)))
    (λ r. (let f = (resting-is q r).0 in let same : (l == l) ≡ true = grind (arith, nat_tests) in
    (λ j. mode_held l (cond (is_held (f j)) ((l, q.reg.mode) ∷ without_lock l h) (without_lock l h))) ∙ (ap (λ b. cond b (Some q.reg.mode) (mode_held l (without_lock l h))) same ∙ sym (ap (λ z. cond (is_holding z) (Some q.reg.mode) None) f))))
    (still-is q still)

-- a thread after an operation at a lock
after-holds : (l : ℕ) (q : PassState) (v : ThreadView) → (thread_after l q v).holds ≡ holds_then l q v.holds
after-holds l q v = by (moving q)
  where
    by : (b : Bool) → (cond b (record v { at = Some l; pass = q }) (record v { at = None; holds = holds_after l q v.holds })).holds ≡ cond b v.holds (holds_after l q v.holds)
    by true = refl
    by false = refl

holds-else : (m l : ℕ) (q : PassState) (h : List (ℕ × Mode)) → m ≢ l → mode_held m (holds_then l q h) ≡ mode_held m h
holds-else m l q h d = by (moving q)
  where
    by : (b : Bool) → mode_held m (cond b h (holds_after l q h)) ≡ mode_held m h
    by true = refl
    by false = mode-holds-after m l q h d

-- the seat after an operation that led its pass to q
module _ {X : Type 0} (shape : Shape) (rules : Rules) (own : PassState) (id : TableId) (me me' : Me (Option X) SeatView) (lock threads : ℕ) (x : Access) (before q : PassState) (qs : List Decision) (n : ℕ)
    (number : me.0.number ≡ own.reg.me) (one : me.0.seats ≡ 1) (node : first_node shape + 10 * own.reg.me + 3 < id.words) (below : lock < shape.locks) (sized : id.words ≡ word_count shape threads) (same : q.reg.me ≡ own.reg.me)
    (go : Operates {V = X} (record { shape = shape; rules = rules; threads = threads; lock = lock }) own.reg.me x before q qs id.slots me n me')
    (gives : is_releasing q.phase ≡ true → q.reg.mode ≡ Write → lock < id.slots → HasInFront {V = X} lock me'.1) where
  thread-is : me'.0.thread ≡ thread_after lock q me.0.thread
  thread-is = ap (λ (z : SeatView). z.thread) go.seat

  pub kept-after : (id' : TableId) → id' ≡ id → SeatInvariant {X = X} shape rules q lock id' me'
  kept-after id' there = subst (λ (z : TableId). SeatInvariant {X = X} shape rules q lock z me') (sym there) (record {
    number = ap (λ (z : SeatView). z.number) go.seat ∙ (number ∙ sym same);
    one = ap (λ (z : SeatView). z.seats) go.seat ∙ one;
    node = (let a = node in let b = same in omega arith);
    moves = λ g. (let w = (goes-on-law lock q.reg.me q me.0.thread).moves g in record {
      below = below;
      seen = Alike (sym w.1 ∙ ap (pass_at lock q.reg.me) (sym thread-is));
      may = inr (ap (λ (z : ThreadView). z.at) thread-is ∙ w.0);
      range = subst (λ (z : ℕ × ℕ). place shape lock (site (plan rules z.0 q)) < z.1) (λ j. (sym same j, sym sized j)) (go.range g);
      gives = gives;
    });
    rests = λ g. ap (λ (z : ThreadView). z.at) thread-is ∙ (goes-on-law lock q.reg.me q me.0.thread).rests g;
    here = λ g. ap (mode_held lock) (ap (λ (z : ThreadView). z.holds) thread-is ∙ after-holds lock q me.0.thread) ∙ holds-here lock q me.0.thread.holds g;
  })

module _ {X : Type 0} (shape : Shape) (rules : Rules) (own : PassState) (lock : ℕ) (id : TableId) (me : Me (Option X) SeatView) (k : SeatInvariant {X = X} shape rules own lock id me) where
  first-word : (l : ℕ) → l < shape.locks → (lock_place shape.spread l) < id.words
  first-word l h = let r = lock-room shape.spread l shape.locks h in let a = r.0 in let b = k.node in omega arith

  -- a seat that has a step to make may make it
  pub ready : moving own ≡ true → (choice : Bool) (i : ℕ) → MayGive {V = X} id.slots lock (writes own) (writes (take rules own.reg.me own i choice)) me.1
  ready g choice i below w f = let z = frees-writer rules own.reg.me own i choice w f in (k.moves g).gives z.0 z.1 below

  module _ (g : moving own ≡ true) (threads : ℕ) (choice : Bool) (n : ℕ) (me' : Me (Option X) SeatView) (q : PassState) (e : q ≡ take rules own.reg.me own n choice)
      (go : Operates {V = X} (record { shape = shape; rules = rules; threads = threads; lock = lock }) own.reg.me (plan rules own.reg.me own) own (take rules own.reg.me own n choice) (step_decisions rules own choice) id.slots me n me') where
    abbrev q0 : PassState
    q0 = take rules own.reg.me own n choice

    gives-then : is_releasing q0.phase ≡ true → q0.reg.mode ≡ Write → lock < id.slots → HasInFront {V = X} lock me'.1
    gives-then r m h = let p = none-leads-to-release.steps rules own.reg.me own n choice r in let mode = take-mode rules own.reg.me own n choice in
        let was : is_releasing own.phase ≡ true = ap is_releasing (sym p) ∙ r in
        let stay : me'.1 ≡ me.1 = go.value.stays (λ j. is_holding (sym p j) && is_write (sym mode j)) in
        subst (λ c. HasInFront {V = X} lock c) (sym stay) ((k.moves g).gives was (sym mode ∙ m) h)

    pub step-kept : (id' : TableId) → id' ≡ id → id.words ≡ word_count shape threads → SeatInvariant {X = X} shape rules q lock id' me'
    step-kept id' there sized = subst (λ z. SeatInvariant {X = X} shape rules z lock id' me') (sym e)
        (kept-after {X = X} shape rules own id me me' lock threads (plan rules own.reg.me own) own q0 (step_decisions rules own choice) n k.number k.one k.node (k.moves g).below sized (take-number rules own.reg.me own n choice) go gives-then id' there)

    pub step-told : (id' : TableId) → id' ≡ id
        → (s : TakesStep {X = X} (record { arena = record { table = id; rules = rules; shape = shape }; lock = lock; own = own; holds = me.0.thread.holds; steps_taken = me.0.steps_taken; decisions = me.0.decisions; values = me.1 }) choice
        (record { arena = record { table = id'; rules = rules; shape = shape }; lock = lock; own = q; holds = me'.0.thread.holds; steps_taken = me'.0.steps_taken; decisions = me'.0.decisions; values = me'.1 })) × (s.found ≡ n)
    step-told id' there = (
      record {
        found = n;
        form = go.form;
        row = λ j. record { arena = record { table = there j; rules = rules; shape = shape }; lock = lock; own = e j; holds = (ap (λ (z : SeatView). z.thread.holds) go.seat ∙ after-holds lock q0 me.0.thread) j; steps_taken = (go.seat j).steps_taken; decisions = (go.seat j).decisions; values = me'.1 };
        number = ap (λ (z : PassState). z.reg.me) e ∙ take-number rules own.reg.me own n choice;
        waits = λ g. ap (λ (z : SeatView). z.thread.holds) go.seat ∙ (after-holds lock q0 me.0.thread ∙ ap (λ b. cond b me.0.thread.holds (holds_after lock q0 me.0.thread.holds)) (ap moving (sym e) ∙ g));
        here = λ g. ap (mode_held lock) (ap (λ (z : SeatView). z.thread.holds) go.seat ∙ after-holds lock q0 me.0.thread) ∙ (holds-here lock q0 me.0.thread.holds (ap moving (sym e) ∙ g) ∙ ap hold_of (sym e));
        elsewhere = λ l d. ap (mode_held l) (ap (λ (z : SeatView). z.thread.holds) go.seat ∙ after-holds lock q0 me.0.thread) ∙ holds-else l lock q0 me.0.thread.holds d;
        value = subst (λ (z : PassState). MovesValue {V = X} id.slots lock (writes own) (writes z) me.1 me'.1) (sym e) go.value;
      },
      refl,
    )

  -- an attempt
  module _ (g : moving own ≡ false) (l : ℕ) (below : l < shape.locks) (threads : ℕ) (mode : Mode) (n : ℕ) (me' : Me (Option X) SeatView) (q : PassState) (e : q ≡ attempted mode (blank own.reg.me) n)
      (go : Operates {V = X} (record { shape = shape; rules = rules; threads = threads; lock = l }) me.0.number (attempt_plan mode) (idle me.0.number) (attempted mode (blank me.0.number) n) [] id.slots me n me') where
    abbrev q1 : PassState
    q1 = attempted mode (blank own.reg.me) n

    go-own : Operates {V = X} (record { shape = shape; rules = rules; threads = threads; lock = l }) own.reg.me (attempt_plan mode) (idle own.reg.me) q1 [] id.slots me n me'
    go-own = subst (λ i. Operates {V = X} (record { shape = shape; rules = rules; threads = threads; lock = l }) i (attempt_plan mode) (idle i) (attempted mode (blank i) n) [] id.slots me n me') k.number go

    pub attempt-kept : (id' : TableId) → id' ≡ id → id.words ≡ word_count shape threads → SeatInvariant {X = X} shape rules q l id' me'
    attempt-kept id' there sized = subst (λ z. SeatInvariant {X = X} shape rules z l id' me') (sym e)
        (kept-after {X = X} shape rules own id me me' l threads (attempt_plan mode) (idle own.reg.me) q1 [] n k.number k.one k.node below sized (attempt-number mode (blank own.reg.me) n) go-own
        (λ r m h. absurd (let z = none-leads-to-release.attempts mode (blank own.reg.me) n in cc)) id' there)

    pub attempt-told : (id' : TableId) → id' ≡ id
        → TriesOnce {X = X} l mode n (record { arena = record { table = id; rules = rules; shape = shape }; lock = lock; own = own; holds = me.0.thread.holds; steps_taken = me.0.steps_taken; decisions = me.0.decisions; values = me.1 })
        (record { arena = record { table = id'; rules = rules; shape = shape }; lock = l; own = q; holds = me'.0.thread.holds; steps_taken = me'.0.steps_taken; decisions = me'.0.decisions; values = me'.1 })
    attempt-told id' there = record {
      after = λ j. record { arena = record { table = there j; rules = rules; shape = shape }; lock = l; own = e j; holds = (ap (λ (z : SeatView). z.thread.holds) go-own.seat ∙ after-holds l q1 me.0.thread) j; steps_taken = (go-own.seat j).steps_taken; decisions = (ap (λ (z : SeatView). z.decisions) go-own.seat ∙ append-nil me.0.decisions) j; values = me'.1 };
      value = subst (λ (z : PassState). MovesValue {V = X} id.slots l false (writes z) me.1 me'.1) (sym e) go-own.value;
    }

  -- entering and leaving
  module _ (g : moving own ≡ false) (l : ℕ) (below : l < shape.locks) (mode : Mode) where
    off : pass_at l own.reg.me me.0.thread ≡ pass_at_rest own.reg.me (mode_held l me.0.thread.holds)
    off = off-at l own.reg.me me.0.thread (at-none l me.0.thread (k.rests g))

    entering-stands : (m : Mode) → MayUse rules.form m → mode_held l me.0.thread.holds ≡ None → StandsAt {X = X} shape rules (entering own.reg.me m) l id me
    entering-stands Write may free = record {
      below = below;
      seen = subst (SeenAs rules.form (entering own.reg.me Write)) (sym (off ∙ ap (pass_at_rest own.reg.me) free)) (Enters Write may refl refl);
      may = inl (k.rests g);
      range = first-word l below;
      gives = λ r. absurd (cc);
    }
    entering-stands Read may free = record {
      below = below;
      seen = subst (SeenAs rules.form (entering own.reg.me Read)) (sym (off ∙ ap (pass_at_rest own.reg.me) free)) (Enters Read may refl refl);
      may = inl (k.rests g);
      range = first-word l below;
      gives = λ r. absurd (cc);
    }

    moves-in : (m : Mode) → moving (entering own.reg.me m) ≡ true
    moves-in Write = refl
    moves-in Read = refl

    pub acquire-kept : MayUse rules.form mode → mode_held l me.0.thread.holds ≡ None → SeatInvariant {X = X} shape rules (entering own.reg.me mode) l id me
    acquire-kept may free = record {
      number = k.number;
      one = k.one;
      node = k.node;
      moves = λ _. entering-stands mode may free;
      rests = λ r. absurd (let z = moves-in mode in cc);
      here = λ r. absurd (let z = moves-in mode in cc);
    }

    leaving-stands : (m : Mode) → mode_held l me.0.thread.holds ≡ Some m → (m ≡ Write → l < id.slots → HasInFront {V = X} l me.1) → StandsAt {X = X} shape rules (leaving own.reg.me m) l id me
    leaving-stands m held value = record {
      below = below;
      seen = leaving-seen rules.form l own.reg.me me.0.thread (k.rests g) m held;
      may = inl (k.rests g);
      range = leaving-word shape rules own.reg.me l id.words below (let a = k.node in omega arith) m;
      gives = λ _ w h. value w h;
    }

    moves-out : (m : Mode) → moving (leaving own.reg.me m) ≡ true
    moves-out Write = refl
    moves-out Read = refl

    pub release-kept : mode_held l me.0.thread.holds ≡ Some mode → (mode ≡ Write → l < id.slots → HasInFront {V = X} l me.1) → SeatInvariant {X = X} shape rules (leaving own.reg.me mode) l id me
    release-kept held value = record {
      number = k.number;
      one = k.one;
      node = k.node;
      moves = λ _. leaving-stands mode held value;
      rests = λ r. absurd (let z = moves-out mode in cc);
      here = λ r. absurd (let z = moves-out mode in cc);
    }

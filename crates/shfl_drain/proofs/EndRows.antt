-- Where a round begins and where it ends.
use Rattle.std.proofs.Common.{◌≡◌, ◌≢◌, ℕ, ◌+◌, ◌*◌, ◌<◌, ◌≤◌, Bool, true, false, cond, ◌==◌, length, refl, sym, ap, ◌∙◌, inl, inr, subst, arith}
use Rattle.std.specs.Prelude.{◌||◌, ◌⊎◌, not, nat_lt, bit_or, bit_xor}
use Rattle.shfl_line.specs.declared.words.NodeState.{NodeState}
use Rattle.shfl_line.specs.Line.{Line, mark_of}
use Rattle.shfl_line.specs.Words.{ready_of}
use Rattle.shfl_line.proofs.Chain
use Rattle.shfl_core.specs.declared.phase.Phase.TheVariants as phase
use Rattle.shfl_core.specs.declared.phase.Registers.{Registers as Regs}
use Rattle.shfl_core.specs.declared.phase.Nap.TheVariants.{Awake}
use Rattle.shfl_core.specs.declared.phase.PassState.{PassState}
use Rattle.shfl_core.specs.declared.words.Word.TheVariants.{Lock, State as StateOf}
use Rattle.shfl_line.specs.declared.words.TheConstants.{SHUFFLER, BATCH}
use Rattle.shfl_core.specs.Words.{look, index}
use Rattle.shfl_core.specs.Phases.{is_round, is_fore, knows}
use Rattle.shfl_core.specs.Plan.{round_batch}
use Rattle.shfl_core.specs.Take.{to}
use Rattle.shfl_core.specs.Worlds.{World, known}
use Rattle.shfl_core.specs.View.{view}
use Rattle.shfl_core.specs.Order.{is_head}
use Rattle.shfl_core.specs.Grouping.{Grouping}
use Rattle.shfl_core.specs.Events.{event_at}
use Rattle.shfl_core.specs.Lawful.{Terms, count, Lawful, Advances}
use Rattle.shfl_laws.specs.Rounds.{left}
use Rattle.shfl_laws.proofs.words.Frame.{look-else, look-same}
use Rattle.shfl_laws.proofs.words.StateBits.{or-shuffler}
use Rattle.shfl_laws.proofs.words.BeginBits.{xor-begin}
use Rattle.shfl_drain.specs.GoingOn.{waits_at}
use Rattle.shfl_drain.proofs.Bools.{true-or}
use Rattle.shfl_drain.proofs.Stages.{stage}
use Rattle.shfl_drain.proofs.Slack.{slack, left-most}
use Rattle.shfl_drain.proofs.Spares.{marks-begun}
use Rattle.shfl_drain.proofs.Number.{unmarked}
use Rattle.shfl_drain.proofs.Row.{found, goes, next, Leaves, RoundsKept, below-all, stood, own-mark, sooner, no-later}
use Rattle.shfl_drain.proofs.Paces.{slack-round, unmarked-none, done-slack, done-stage, begun-slack, begun-stage}

module _ (t : Terms) (w : World) (ok : Lawful t w) (p : ℕ) (below : p < length w.passes) (c : Bool) (nap : (known w.passes p).nap ≡ Awake) where
  abbrev r : Regs
  r = (known w.passes p).reg

  abbrev ready : Bool
  ready = ready_of (look w.words (StateOf p))

  k : Grouping t.rules.limit (view w) ok.shown
  k = ok.agrees.grouping

  module _ (at : (known w.passes p).phase ≡ phase.Give) (a : Advances t w ok (event_at t.rules p (known w.passes p).reg (found t w p phase.Give) phase.Give) (next t w p phase.Give c))
      (kept : RoundsKept t w ok (next t w p phase.Give c) a.lawful p) where
    rounds : is_round (known w.passes p).phase ≡ true
    rounds = ap is_round at

    numbered : 0 < mark_of ok.shown p
    numbered = (k.walker p (k.walks p rounds)).1

    give-mark : mark_of a.lawful.shown p ≡ mark_of ok.shown p
    give-mark = own-mark t w ok p below phase.Give c refl nap at a kept (goes t w p phase.Give c) refl tt

    last-in : index (StateOf (known w.passes p).reg.last) < length w.words
    last-in = let b = ok.of_passes.line r.last (k.last p rounds).0.inside in let s = ok.room in omega arith

    give-ready : (z : ℕ) → ready_of (look (next t w p phase.Give c).words (StateOf z)) ≡ ready_of (look w.words (StateOf z))
    give-ready z = Chain.by_eq z r.last
        (λ e. subst (λ y. ready_of (look (next t w p phase.Give c).words (StateOf y)) ≡ ready_of (look w.words (StateOf y))) (sym e)
        (ap ready_of (look-same w.words (StateOf r.last) (bit_or (look w.words (StateOf r.last)) SHUFFLER) last-in) ∙ ap (λ (y : NodeState). y.ready) (or-shuffler (look w.words (StateOf r.last)) (ok.formed (StateOf r.last))).is))
        (λ n. ap ready_of (look-else w.words (StateOf r.last) (StateOf z) (bit_or (look w.words (StateOf r.last)) SHUFFLER) (λ e. n (omega arith))))

    give-lock : look (next t w p phase.Give c).words Lock ≡ look w.words Lock
    give-lock = look-else w.words (StateOf r.last) Lock (bit_or (look w.words (StateOf r.last)) SHUFFLER) (λ e. omega arith)

    pub give-row : Leaves t w ok (next t w p phase.Give c) a.lawful (waits_at w p phase.Give)
    give-row = by (true-or (r.headed || ready))
      where
        some : 0 < mark_of a.lawful.shown p
        some = let x = give-mark in let y = numbered in omega arith

        way-le : stage (goes t w p phase.Give c) + unmarked (goes t w p phase.Give c) (mark_of a.lawful.shown p) ≤ stage (to phase.Give (known w.passes p).reg) + unmarked (to phase.Give (known w.passes p).reg) (mark_of ok.shown p)
        way-le = let x = done-stage r (goes t w p phase.Give c).reg in let y = unmarked-none (goes t w p phase.Give c) (mark_of a.lawful.shown p) some in omega arith

        new : slack (count t) (goes t w p phase.Give c) (ready_of (look (next t w p phase.Give c).words (StateOf p))) (look (next t w p phase.Give c).words Lock) (mark_of a.lawful.shown p) (left t (next t w p phase.Give c) a.lawful p)
            ≤ cond ((known w.passes p).reg.headed || ready_of (look w.words (StateOf p))) 2 0
        new = subst (λ b. slack (count t) (goes t w p phase.Give c) (ready_of (look (next t w p phase.Give c).words (StateOf p))) (look (next t w p phase.Give c).words Lock) (mark_of a.lawful.shown p) (left t (next t w p phase.Give c) a.lawful p) ≤ cond (r.headed || b) 2 0) (give-ready p)
            (done-slack (count t) r (goes t w p phase.Give c).reg (ready_of (look (next t w p phase.Give c).words (StateOf p))) (look (next t w p phase.Give c).words Lock) (mark_of a.lawful.shown p) (left t (next t w p phase.Give c) a.lawful p) refl some)

        old : slack (count t) (to phase.Give (known w.passes p).reg) (ready_of (look w.words (StateOf p))) (look w.words Lock) (mark_of ok.shown p) (left t w ok p)
            ≡ cond ((known w.passes p).reg.headed || ready_of (look w.words (StateOf p))) (3 + left t w ok p) 0
        old = slack-round (count t) (to phase.Give r) ready (look w.words Lock) (mark_of ok.shown p) (left t w ok p) refl refl

        head : ((known w.passes p).reg.headed || ready_of (look w.words (StateOf p))) ≡ false → is_head (view w) p ≡ false
        head h = ap (λ (q : PassState). is_fore q || ready_of (look w.words (StateOf p))) (stood t w ok p below phase.Give c refl nap at a kept (goes t w p phase.Give c) refl) ∙ h

        by : ((known w.passes p).reg.headed || ready_of (look w.words (StateOf p)) ≡ true) ⊎ ((known w.passes p).reg.headed || ready_of (look w.words (StateOf p)) ≡ false) → Leaves t w ok (next t w p phase.Give c) a.lawful (waits_at w p phase.Give)
        by (inl h) = sooner t w ok p below phase.Give c refl nap at a kept (goes t w p phase.Give c) refl (λ z _. give-ready z) give-lock way-le
            (let x : ◌≡◌ {A = ℕ} (cond (r.headed || ready) 2 0) 2 = ap (λ b. cond b 2 0) h in let y = old ∙ ap (λ b. cond b (3 + left t w ok p) 0) h in let z = new in omega arith)
        by (inr h) = no-later t w ok p below phase.Give c refl nap at a kept (goes t w p phase.Give c) refl (λ z _. give-ready z) give-lock way-le
            (let x : ◌≡◌ {A = ℕ} (cond (r.headed || ready) 2 0) 0 = ap (λ b. cond b 2 0) h in let z = new in omega arith)
            (ap not (head h))

  module _ (at : (known w.passes p).phase ≡ phase.Begin) (a : Advances t w ok (event_at t.rules p (known w.passes p).reg (found t w p phase.Begin) phase.Begin) (next t w p phase.Begin c))
      (kept : RoundsKept t w ok (next t w p phase.Begin c) a.lawful p) where
    abbrev bits : ℕ
    bits = cond (r.batch == 0) BATCH 0 + cond r.flag SHUFFLER 0

    own-in : index (StateOf p) < length w.words
    own-in = let b = below-all t w ok p below phase.Begin c in let s = ok.room in omega arith

    begin-own : ready_of (look (next t w p phase.Begin c).words (StateOf p)) ≡ ready_of (look w.words (StateOf p))
    begin-own = let kn = k.known p (ap knows at) in
        ap ready_of (look-same w.words (StateOf p) (bit_xor (look w.words (StateOf p)) bits) own-in) ∙ ap (λ (y : NodeState). y.ready) (xor-begin (look w.words (StateOf p)) (ok.formed (StateOf p)) r.batch r.flag kn.0 kn.1).is

    begin-else : (z : ℕ) → z ≢ p → ready_of (look (next t w p phase.Begin c).words (StateOf z)) ≡ ready_of (look w.words (StateOf z))
    begin-else z n = ap ready_of (look-else w.words (StateOf p) (StateOf z) (bit_xor (look w.words (StateOf p)) bits) (λ e. n (omega arith)))

    begin-lock : look (next t w p phase.Begin c).words Lock ≡ look w.words Lock
    begin-lock = look-else w.words (StateOf p) Lock (bit_xor (look w.words (StateOf p)) bits) (λ e. omega arith)

    begin-some : 0 < mark_of a.lawful.shown p
    begin-some = subst (λ (s : Line). 0 < mark_of s p) (sym a.shown) (marks-begun ok.shown p 0 (nat_lt (round_batch r) t.rules.limit) (let b = below-all t w ok p below phase.Begin c in let l = ok.of_passes.marks in omega arith))

    pub begin-row : Leaves t w ok (next t w p phase.Begin c) a.lawful (waits_at w p phase.Begin)
    begin-row = by (true-or (r.headed || ready))
      where
        way-le : stage (goes t w p phase.Begin c) + unmarked (goes t w p phase.Begin c) (mark_of a.lawful.shown p) ≤ stage (to phase.Begin (known w.passes p).reg) + unmarked (to phase.Begin (known w.passes p).reg) (mark_of ok.shown p)
        way-le = let x = begun-stage t.rules p (record r { batch = round_batch r; flag = false }) c in let y = unmarked-none (goes t w p phase.Begin c) (mark_of a.lawful.shown p) begin-some in omega arith

        new : slack (count t) (goes t w p phase.Begin c) (ready_of (look (next t w p phase.Begin c).words (StateOf p))) (look (next t w p phase.Begin c).words Lock) (mark_of a.lawful.shown p) (left t (next t w p phase.Begin c) a.lawful p)
            ≤ cond ((known w.passes p).reg.headed || ready_of (look w.words (StateOf p))) (9 * count t + 13) 0
        new = subst (λ b. slack (count t) (goes t w p phase.Begin c) (ready_of (look (next t w p phase.Begin c).words (StateOf p))) (look (next t w p phase.Begin c).words Lock) (mark_of a.lawful.shown p) (left t (next t w p phase.Begin c) a.lawful p) ≤ cond (r.headed || b) (9 * count t + 13) 0) begin-own
            (begun-slack (count t) t.rules p (record r { batch = round_batch r; flag = false }) c (ready_of (look (next t w p phase.Begin c).words (StateOf p))) (look (next t w p phase.Begin c).words Lock) (mark_of a.lawful.shown p) (left t (next t w p phase.Begin c) a.lawful p) begin-some
            (left-most (count t) a.lawful.shown p (known (next t w p phase.Begin c).passes p)))

        old : slack (count t) (to phase.Begin (known w.passes p).reg) (ready_of (look w.words (StateOf p))) (look w.words Lock) (mark_of ok.shown p) (left t w ok p)
            ≡ cond ((known w.passes p).reg.headed || ready_of (look w.words (StateOf p))) (9 * count t + 14) 0
        old = omega arith

        head : ((known w.passes p).reg.headed || ready_of (look w.words (StateOf p))) ≡ false → is_head (view w) p ≡ false
        head h = ap (λ (q : PassState). is_fore q || ready_of (look w.words (StateOf p))) (stood t w ok p below phase.Begin c refl nap at a kept (goes t w p phase.Begin c) refl) ∙ h

        by : ((known w.passes p).reg.headed || ready_of (look w.words (StateOf p)) ≡ true) ⊎ ((known w.passes p).reg.headed || ready_of (look w.words (StateOf p)) ≡ false) → Leaves t w ok (next t w p phase.Begin c) a.lawful (waits_at w p phase.Begin)
        by (inl h) = sooner t w ok p below phase.Begin c refl nap at a kept (goes t w p phase.Begin c) refl begin-else begin-lock way-le
            (let x : cond (r.headed || ready) (9 * count t + 13) 0 ≡ 9 * count t + 13 = ap (λ b. cond b (9 * count t + 13) 0) h in let y = old ∙ ap (λ b. cond b (9 * count t + 14) 0) h in let z = new in omega arith)
        by (inr h) = no-later t w ok p below phase.Begin c refl nap at a kept (goes t w p phase.Begin c) refl begin-else begin-lock way-le
            (let x : cond (r.headed || ready) (9 * count t + 13) 0 ≡ 0 = ap (λ b. cond b (9 * count t + 13) 0) h in let z = new in omega arith)
            (ap not (head h))

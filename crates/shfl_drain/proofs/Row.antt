-- The step of a pass that is awake, and what it leaves to be done: the frame of each row.
use Rattle.std.proofs.Common.{◌≡◌, ◌≢◌, ℕ, ◌+◌, ◌<◌, ◌≤◌, ◌⊎◌, Bool, true, false, length, get_or-set_other, sym, ap, ◌∙◌, subst, inl, inr, arith}
use Rattle.shfl_line.specs.Line.{mark_of}
use Rattle.shfl_line.specs.Words.{ready_of}
use Rattle.shfl_line.proofs.Chain
use Rattle.shfl_core.specs.declared.phase.Phase.{Phase}
use Rattle.shfl_core.specs.declared.phase.Registers.{Registers as Regs}
use Rattle.shfl_core.specs.declared.phase.Nap.TheVariants.{Awake}
use Rattle.shfl_core.specs.declared.phase.PassState.{PassState}
use Rattle.shfl_core.specs.declared.words.Word.TheVariants.{Lock, State}
use Rattle.shfl_core.specs.Words.{look, site}
use Rattle.shfl_core.specs.Phases.{is_round}
use Rattle.shfl_core.specs.Plan.{plan_at}
use Rattle.shfl_core.specs.Take.{take_at, to}
use Rattle.shfl_core.specs.Waiting.{idle}
use Rattle.shfl_core.specs.Worlds.{World, known, after_access}
use Rattle.shfl_core.specs.Events.{event_at}
use Rattle.shfl_core.specs.Lawful.{Terms, count, Lawful, Advances}
use Rattle.shfl_laws.specs.Rounds.{left}
use Rattle.shfl_laws.proofs.words.Frame.{known-set}
use Rattle.shfl_drain.specs.GoingOn.{waits_at}
use Rattle.shfl_drain.proofs.Stages.{stage, stage_at}
use Rattle.shfl_drain.proofs.Slack.{slack}
use Rattle.shfl_drain.proofs.Spares.{Quiet, is_mark, marks-spared, marks-quiet, spares-at}
use Rattle.shfl_drain.proofs.Number.{number, way, wait, unmarked, lower-stage, no-longer, shorter, wait-else}

-- what a step finds
abbrev pub found : Terms → World → ℕ → Phase → ℕ
found t w p f = look w.words (site (plan_at t.rules p (known w.passes p).reg f))

-- where the pass stands after the step
abbrev pub goes : Terms → World → ℕ → Phase → Bool → PassState
goes t w p f c = take_at t.rules p (known w.passes p).reg (found t w p f) c f

-- the world after it
abbrev pub next : Terms → World → ℕ → Phase → Bool → World
next t w p f c = after_access w p (plan_at t.rules p (known w.passes p).reg f) (goes t w p f c)

-- it leaves less to be done, or no more, where the pass waits for another
abbrev pub Leaves : (t : Terms) (w : World) → Lawful t w → (w' : World) → Lawful t w' → Bool → Type 0
Leaves t w ok w' ok' b = (number t w' ok' < number t w ok) ⊎ ((number t w' ok' ≤ number t w ok) × (b ≡ true))

-- the other rounds go on as they were
abbrev pub RoundsKept : (t : Terms) (w : World) → Lawful t w → (w' : World) → Lawful t w' → ℕ → Type 0
RoundsKept t w ok w' ok' p = (z : ℕ) → z ≢ p → is_round (known w.passes z).phase ≡ true → left t w' ok' z ≡ left t w ok z

-- the pass's own goes on, or ends
abbrev pub RoundFalls : (t : Terms) (w : World) → Lawful t w → (w' : World) → Lawful t w' → ℕ → Type 0
RoundFalls t w ok w' ok' p = is_round (known w.passes p).phase ≡ true → is_round (known w'.passes p).phase ≡ true → left t w' ok' p < left t w ok p

module _ (t : Terms) (w : World) (ok : Lawful t w) (p : ℕ) (below : p < length w.passes) (f : Phase) (c : Bool) where
  pub below-all : p < count t
  below-all = let s = ok.seats in omega arith

  pub stands-here : known (next t w p f c).passes p ≡ goes t w p f c
  stands-here = known-set w.passes p (goes t w p f c) below p ∙ Chain.updated-same (known w.passes) p (goes t w p f c)

  pub stands-else : (z : ℕ) → z ≢ p → known (next t w p f c).passes z ≡ known w.passes z
  stands-else z n = get_or-set_other w.passes p z (goes t w p f c) (idle z) n

  module _ (off : is_mark f ≡ false) (nap : (known w.passes p).nap ≡ Awake) (at : (known w.passes p).phase ≡ f)
      (a : Advances t w ok (event_at t.rules p (known w.passes p).reg (found t w p f) f) (next t w p f c))
      (kept : RoundsKept t w ok (next t w p f c) a.lawful p) (v : PassState) (is : goes t w p f c ≡ v) where
    abbrev r : Regs
    r = (known w.passes p).reg

    pub stood : known w.passes p ≡ to f r
    stood = λ j. record { phase = at j; reg = r; nap = nap j }

    marks-same : (z : ℕ) → z ≢ p → mark_of a.lawful.shown z ≡ mark_of ok.shown z
    marks-same z n = (λ j. mark_of (a.shown j) z) ∙ marks-spared ok.shown p z (event_at t.rules p r (found t w p f) f) (spares-at t.rules p r (found t w p f) f off) n

    marks-none : (z : ℕ) → z ≢ p → mark_of a.lawful.shown z ≡ 0 → mark_of ok.shown z ≡ 0
    marks-none z n e = sym (marks-same z n) ∙ e

    pub own-mark : Quiet (event_at t.rules p (known w.passes p).reg (found t w p f) f) → mark_of a.lawful.shown p ≡ mark_of ok.shown p
    own-mark h = (λ j. mark_of (a.shown j) p) ∙ marks-quiet ok.shown p (event_at t.rules p r (found t w p f) f) h

    -- the pass comes to a later stage
    pub later : stage v + 2 ≤ stage_at (known w.passes p).reg.headed f → Leaves t w ok (next t w p f c) a.lawful (waits_at w p f)
    later h = inl (lower-stage t w ok (next t w p f c) a.lawful p below-all stands-else marks-none v (stands-here ∙ is)
        (subst (λ (q : PassState). stage v + 2 ≤ stage q) (sym stood) h))

    -- the pass alone waits less long, where the others' state words call them as before and the lock word stays
    module _ (ready : (z : ℕ) → z ≢ p → ready_of (look (next t w p f c).words (State z)) ≡ ready_of (look w.words (State z))) (lock : look (next t w p f c).words Lock ≡ look w.words Lock)
        (way-le : stage v + unmarked v (mark_of a.lawful.shown p) ≤ stage (to f (known w.passes p).reg) + unmarked (to f (known w.passes p).reg) (mark_of ok.shown p)) where
      abbrev new : ℕ
      new = slack (count t) v (ready_of (look (next t w p f c).words (State p))) (look (next t w p f c).words Lock) (mark_of a.lawful.shown p) (left t (next t w p f c) a.lawful p)

      abbrev old : ℕ
      old = slack (count t) (to f r) (ready_of (look w.words (State p))) (look w.words Lock) (mark_of ok.shown p) (left t w ok p)

      new-is : wait t (next t w p f c) a.lawful p ≡ new
      new-is = ap (λ (q : PassState). slack (count t) q (ready_of (look (next t w p f c).words (State p))) (look (next t w p f c).words Lock) (mark_of a.lawful.shown p) (left t (next t w p f c) a.lawful p)) (stands-here ∙ is)

      old-is : wait t w ok p ≡ old
      old-is = ap (λ (q : PassState). slack (count t) q (ready_of (look w.words (State p))) (look w.words Lock) (mark_of ok.shown p) (left t w ok p)) stood

      own-way : way t (next t w p f c) a.lawful p ≤ way t w ok p
      own-way = let b : way t (next t w p f c) a.lawful p ≡ stage v + unmarked v (mark_of a.lawful.shown p) = ap (λ (q : PassState). stage q + unmarked q (mark_of a.lawful.shown p)) (stands-here ∙ is) in
          let d : way t w ok p ≡ stage (to f r) + unmarked (to f r) (mark_of ok.shown p) = ap (λ (q : PassState). stage q + unmarked q (mark_of ok.shown p)) stood in omega (arith, way-le)

      others : (z : ℕ) → z ≢ p → wait t (next t w p f c) a.lawful z ≡ wait t w ok z
      others = wait-else t w ok (next t w p f c) a.lawful p below-all stands-else marks-none marks-same ready lock kept

      pub sooner : slack (count t) v (ready_of (look (next t w p f c).words (State p))) (look (next t w p f c).words Lock) (mark_of a.lawful.shown p) (left t (next t w p f c) a.lawful p)
          < slack (count t) (to f (known w.passes p).reg) (ready_of (look w.words (State p))) (look w.words Lock) (mark_of ok.shown p) (left t w ok p)
          → Leaves t w ok (next t w p f c) a.lawful (waits_at w p f)
      sooner h = let b = new-is in let d = old-is in inl (shorter t w ok (next t w p f c) a.lawful p below-all stands-else marks-none own-way others (omega (arith, h)))

      pub no-later : slack (count t) v (ready_of (look (next t w p f c).words (State p))) (look (next t w p f c).words Lock) (mark_of a.lawful.shown p) (left t (next t w p f c) a.lawful p)
          ≤ slack (count t) (to f (known w.passes p).reg) (ready_of (look w.words (State p))) (look w.words Lock) (mark_of ok.shown p) (left t w ok p)
          → waits_at w p f ≡ true → Leaves t w ok (next t w p f c) a.lawful (waits_at w p f)
      no-later h v = let b = new-is in let d = old-is in inr (no-longer t w ok (next t w p f c) a.lawful p below-all stands-else marks-none own-way others (omega (arith, h)), v)

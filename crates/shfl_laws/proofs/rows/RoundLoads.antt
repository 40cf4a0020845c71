-- A round goes on by a load: what its pass keeps, and the law of such a step.
use Rattle.std.proofs.Common.{◌≡◌, ◌≢◌, ℕ, ◌<◌, true, false, length, set, sym, ◌∙◌, subst, arith}
use Rattle.shfl_line.specs.declared.events.LineEvent.TheVariants.{Nothing}
use Rattle.shfl_line.specs.Line.{Line, mark_of}
use Rattle.shfl_line.specs.Passes.{IsLastMarked}
use Rattle.shfl_core.specs.declared.phase.Phase.TheVariants.{Idle, Give, Swap, Ready, Begin, Late, WriteGrab, Grab}
use Rattle.shfl_core.specs.declared.phase.Nap.TheVariants.{Awake}
use Rattle.shfl_core.specs.declared.phase.PassState.{PassState}
use Rattle.shfl_core.specs.declared.words.Word.{Word}
use Rattle.shfl_core.specs.Words.{look, index, wide}
use Rattle.shfl_core.specs.Worlds.{World, known}
use Rattle.shfl_core.specs.Phases.{is_round, is_queued, is_fore, is_linking, knows, is_holding, is_writing, is_reading, decide_to_pick}
use Rattle.shfl_core.specs.View.{View, view}
use Rattle.shfl_core.specs.Grouping.{Grouping}
use Rattle.shfl_core.specs.Holding.{backs, Registered}
use Rattle.shfl_core.specs.Lawful.{Terms, count, Lawful, Advances}
use Rattle.shfl_laws.proofs.kept.QuietAgrees.{GoesOn, quiet-agrees}
use Rattle.shfl_laws.proofs.words.Advance.{advance-load, below-count}
use Rattle.shfl_laws.proofs.rows.Holding.{stay}
use Rattle.shfl_laws.proofs.rows.Loads.{Rounded}

-- the pass stays in its round
pub record Stays (q v : PassState) : Type 0 where
  pub old : is_round q.phase ≡ true
  pub new : is_round v.phase ≡ true
  pub awake : v.nap ≡ Awake
  pub last : v.reg.last ≡ q.reg.last
  pub count : v.reg.count ≡ q.reg.count
  pub batch : v.reg.batch ≡ q.reg.batch
  pub flag : v.reg.flag ≡ q.reg.flag
  pub headed : v.reg.headed ≡ q.reg.headed
  pub mode : v.reg.mode ≡ q.reg.mode
  pub me : v.reg.me ≡ q.reg.me
  pub gives : q.phase ≢ Give

-- what a phase of a round is not
pub record InRound (q : PassState) : Type 0 where
  pub queued : is_queued q ≡ true
  pub fore : is_fore q ≡ q.reg.headed
  pub link : is_linking q.phase ≡ false
  pub ready : q.phase ≢ Ready
  pub swap : q.phase ≢ Swap
  pub knows : knows q.phase ≡ true
  pub begin : q.phase ≢ Begin
  pub idle : q.phase ≢ Idle
  pub late : q.phase ≢ Late
  pub compare : q.phase ≢ WriteGrab
  pub grab : q.phase ≢ Grab
  pub writing : is_writing q.phase ≡ false
  pub reading : is_reading q.phase ≡ false
  pub holding : is_holding q.phase ≡ false
  pub backing : backs q ≡ 0

pub in-round : (q : PassState) → is_round q.phase ≡ true → InRound q
in-round q h = record { queued = grind (arith, h); fore = grind (arith, h); link = grind (arith, h); ready = λ e. grind (arith, h); swap = λ e. grind (arith, h); knows = grind (arith, h); begin = λ e. grind (arith, h); idle = λ e. grind (arith, h); late = λ e. grind (arith, h); compare = λ e. grind (arith, h); grab = λ e. grind (arith, h); writing = grind (arith, h); reading = grind (arith, h); holding = grind (arith, h); backing = grind (arith, h) }

pub goes-round : (t : Terms) (w : View) (s : Line) (p : ℕ) (v : PassState) → Stays (w.pass p) v → Grouping t.rules.limit w s → Registered t.rules.form w → Rounded w s v
    → (decide_to_pick v.phase ≡ true → v.reg.seen ≡ w.attr v.reg.cand) → GoesOn t w s p v
goes-round t w s p v k g r round seen = let a = in-round (w.pass p) k.old in let b = in-round v k.new in record {
  quiet = record { queued = b.queued ∙ sym a.queued; fore = b.fore ∙ (k.headed ∙ sym a.fore); no_link = (a.link, b.link); no_ready = (a.ready, b.ready); no_swap = b.swap };
  awake = k.awake;
  rounds = k.new ∙ sym k.old;
  round = λ _. round;
  last = λ _. let l = g.last p k.old in subst (λ (x : ℕ × ℕ). IsLastMarked (mark_of s) s.line x.0 × (mark_of s x.0 ≡ x.1) × (v.phase ≢ Give → x.1 < t.rules.limit)) (λ j. (sym k.last j, sym k.count j)) (l.0, l.1, λ _. l.2 k.gives);
  known = λ _. let n = g.known p a.knows in (k.batch ∙ n.0, k.flag ∙ n.1);
  begins = λ e. absurd (b.begin e);
  registers = record {
    writing = λ e. absurd (let z = b.writing in cc);
    reading = λ e. absurd (let z = b.reading in cc);
    writers = λ x i. k.mode ∙ r.writers x p a.idle;
    no_compare = λ x. b.compare;
    no_or = λ x. b.grab;
    saw = λ e. absurd (b.compare e);
    late = λ e. absurd (b.late e);
    seen = seen;
  };
}

module _ (t : Terms) (w : World) (p : ℕ) (ok : Lawful t w) (below : p < length w.passes) (nap : (known w.passes p).nap ≡ Awake) where
  abbrev q : PassState
  q = known w.passes p

  -- a word is read, and the pass goes on in its round
  pub round-load : (u : Word) → index u < wide (count t) → (v : PassState) → Stays q v → Rounded (view w) ok.shown v → (decide_to_pick v.phase ≡ true → v.reg.seen ≡ (view w).attr v.reg.cand)
      → Advances t w ok Nothing (record { words = set w.words (index u) (look w.words u); passes = set w.passes p v })
  round-load u h v k round seen = let a = in-round q k.old in let b = in-round v k.new in
      advance-load t w ok p below v Nothing ok.giver k.me tt tt u h
      (quiet-agrees t (view w) ok.shown ok.giver p v ok.agrees nap (goes-round t (view w) ok.shown p v k ok.agrees.grouping ok.agrees.registered round seen) (view w).held (view w).closed (view w).readers ok.shown.hold
      (stay (count t) (view w).held (view w).readers (known w.passes) ok.shown.hold ok.agrees.holding p v (below-count t w ok p below) (view w).readers (b.holding ∙ sym a.holding) k.mode (let x = a.backing in let y = b.backing in omega arith)))

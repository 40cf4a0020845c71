-- The whole invariant is kept, where a pass goes on in its place, awake, and at most the lock word is written.
use Rattle.std.proofs.Common.{◌≡◌, ◌≢◌, ℕ, ◌<◌, Bool, true, false, List, refl, sym, ◌∙◌}
use Rattle.shfl_line.specs.declared.events.Mode.{Mode}
use Rattle.shfl_line.specs.Line.{Line, mark_of}
use Rattle.shfl_line.specs.Words.{link_word}
use Rattle.shfl_line.specs.Passes.{updated, IsLastMarked}
use Rattle.shfl_core.specs.declared.phase.Phase.TheVariants.{Begin, Give}
use Rattle.shfl_core.specs.declared.phase.Nap.TheVariants.{Awake}
use Rattle.shfl_core.specs.declared.phase.PassState.{PassState}
use Rattle.shfl_core.specs.Phases.{is_round, knows}
use Rattle.shfl_core.specs.View.{View}
use Rattle.shfl_core.specs.Order.{Round}
use Rattle.shfl_core.specs.Holding.{Holding}
use Rattle.shfl_core.specs.Lawful.{Terms, count, Agrees}
use Rattle.shfl_laws.proofs.rows.Quiet.{Quiet, moved, quiet-order, quiet-grouping}
use Rattle.shfl_laws.proofs.kept.Registered.{Registers, registered-set}
use Rattle.shfl_laws.proofs.kept.OwedFrames.{Awoken, owed-awake}

-- what the row must say of the pass at its new place
pub record GoesOn (t : Terms) (w : View) (s : Line) (p : ℕ) (v : PassState) : Type 0 where
  pub quiet : Quiet (w.pass p) v
  pub awake : v.nap ≡ Awake
  pub rounds : is_round v.phase ≡ is_round (w.pass p).phase
  pub round : is_round v.phase ≡ true → Round w.next (mark_of s) w.tail s.line (link_word s.hand) v
  pub last : is_round v.phase ≡ true → IsLastMarked (mark_of s) s.line v.reg.last × (mark_of s v.reg.last ≡ v.reg.count) × (v.phase ≢ Give → v.reg.count < t.rules.limit)
  pub known : knows v.phase ≡ true → (v.reg.batch ≡ (w.node p).batch) × (v.reg.flag ≡ (w.node p).shuffler)
  pub begins : v.phase ≡ Begin → v.reg.flag ≡ false → (v.reg.headed ≡ true) × (v.reg.batch ≡ 0)
  pub registers : Registers t.rules.form w.tail w.attr p v

module _ (t : Terms) (w : View) (s : Line) (g p : ℕ) (v : PassState) (a : Agrees t w s g) (was : (w.pass p).nap ≡ Awake) (k : GoesOn t w s p v) where
  awoken : Awoken t.rules.form w.node p v
  awoken = record {
    awake = k.awake;
    told = λ q. a.owed.told p (sym k.quiet.queued ∙ q);
    grouped = λ f q r. a.owed.grouped f p (sym k.quiet.queued ∙ q) (sym k.quiet.fore ∙ r);
    fresh = λ e. absurd (k.quiet.no_swap e);
  }

  pub quiet-agrees : (held closed : Bool) (readers : ℕ) (hold : List (ℕ × Mode)) → Holding (count t) held readers (updated w.pass p v) hold → Agrees t (moved w held closed readers w.node p v) (record s { hold = hold }) g
  quiet-agrees held closed readers hold h = record {
    order = quiet-order w s g held closed readers w.node p v a.order k.quiet (λ q. refl) hold s.role a.order.still k.round (λ q e. refl);
    grouping = quiet-grouping t.rules.limit w s held closed readers p v a.grouping k.quiet.queued k.rounds hold k.last k.known k.begins;
    holding = h;
    registered = registered-set t.rules.form w (moved w held closed readers w.node p v) p v refl refl (λ q n e. a.registered.late q e) a.registered k.registers;
    owed = owed-awake t.rules.form w (moved w held closed readers w.node p v) p v refl refl refl was a.owed awoken;
  }

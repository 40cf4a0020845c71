-- The law of Give, over words.
use Rattle.std.proofs.Common.{◌≡◌, ℕ, suc, ◌-◌, ◌<◌, ◌==◌, true, cond, length, set, refl, sym, ap, ◌∙◌, subst, arith}
use Rattle.std.specs.Prelude.{◌||◌, bit_or}
use Rattle.shfl_line.specs.declared.events.Role.TheVariants.{Rest}
use Rattle.shfl_line.specs.declared.events.LineEvent.TheVariants.{Give as GiveEvent}
use Rattle.shfl_line.specs.declared.words.NodeState.{NodeState}
use Rattle.shfl_line.specs.Line.{Line, mark_of}
use Rattle.shfl_line.specs.Steps.{batch_end}
use Rattle.shfl_line.specs.Words.{state_of}
use Rattle.shfl_line.specs.Passes.{updated, last_marked}
use Rattle.shfl_core.specs.declared.phase.Phase.TheVariants.{Give}
use Rattle.shfl_core.specs.declared.phase.Nap.TheVariants.{Awake}
use Rattle.shfl_core.specs.declared.phase.PassState.{PassState}
use Rattle.shfl_core.specs.declared.words.Word.TheVariants.{State as StateOf}
use Rattle.shfl_core.specs.Words.{look, index}
use Rattle.shfl_core.specs.Take.{given}
use Rattle.shfl_core.specs.Worlds.{World, known}
use Rattle.shfl_core.specs.Phases.{is_round, is_holding, has_hand}
use Rattle.shfl_core.specs.View.{view}
use Rattle.shfl_core.specs.Holding.{backs}
use Rattle.shfl_core.specs.Lawful.{Terms, count, Agrees, Lawful, Advances, LawOf}
use Rattle.shfl_laws.proofs.laws.NextRows.{batch-last}
use Rattle.shfl_laws.proofs.kept.Registered.{registered-set}
use Rattle.shfl_laws.proofs.kept.OwedFrames.{owed-awake}
use Rattle.shfl_laws.proofs.kept.Flagged.{owed-flags}
use Rattle.shfl_laws.proofs.words.Advance.{at-phase, advance-state, below-count}
use Rattle.shfl_laws.proofs.words.Frame.{written_state}
use Rattle.shfl_laws.proofs.rows.Holding.{stay}
use Rattle.shfl_laws.proofs.words.StateBits.{or-shuffler}
use Rattle.shfl_laws.proofs.rows.GiveRow.{Ended, ended, quiet, flags-only, give-order, give-grouping}

module _ (t : Terms) (w : World) (p : ℕ) (ok : Lawful t w) (below : p < length w.passes) (nap : (known w.passes p).nap ≡ Awake) (f : (known w.passes p).phase ≡ Give) where
  abbrev q : PassState
  q = known w.passes p

  abbrev here : PassState
  here = given p q.reg

  abbrev n : ℕ
  n = look w.words (StateOf q.reg.last)

  abbrev s' : Line
  s' = record ok.shown { role = Rest q.reg.last }

  own : Ended q here
  own = ended q (record q.reg { flag = q.reg.flag || (q.reg.last == p) }) refl

  agrees : (m : ℕ) → state_of m ≡ record ((view w).node q.reg.last) { shuffler = true } → Agrees t (written_state (view w) q.reg.last m p here) s' ok.giver
  agrees m e = subst (λ (z : NodeState). Agrees t (record (view w) { node = updated (view w).node q.reg.last z; pass = updated (view w).pass p here }) s' ok.giver) (sym e) (let a = ok.agrees in record {
    order = give-order t.rules.limit (view w) ok.shown ok.giver p a.order a.grouping f;
    grouping = give-grouping t.rules.limit (view w) ok.shown ok.giver p a.order a.grouping f;
    holding = stay (count t) (view w).held (view w).readers (known w.passes) ok.shown.hold a.holding p here (below-count t w ok p below) (view w).readers (own.holding ∙ sym (ap is_holding f)) refl (let x : backs q ≡ 0 = grind (arith, f) in let y = own.backing in omega arith);
    registered = registered-set t.rules.form (view w) (record (view w) { node = updated (view w).node q.reg.last (record ((view w).node q.reg.last) { shuffler = true }); pass = updated (view w).pass p here }) p here refl refl (λ z i h. a.registered.late z h) a.registered (record {
      writing = own.writing;
      reading = own.reading;
      writers = λ x i. a.registered.writers x p (λ y. grind (arith, f, y));
      no_compare = λ x. own.compare;
      no_or = λ x. own.grab;
      saw = λ h. absurd (own.compare h);
      late = λ h. absurd (own.late h);
      seen = λ h. absurd (let z = own.picks in cc);
    });
    owed = owed-flags t.rules.form (record (view w) { pass = updated (view w).pass p here }) (updated (view w).node q.reg.last (record ((view w).node q.reg.last) { shuffler = true })) (flags-only t.rules.limit (view w) ok.shown ok.giver p a.order a.grouping f)
        (owed-awake t.rules.form (view w) (record (view w) { pass = updated (view w).pass p here }) p here refl refl refl nap a.owed (let k = quiet t.rules.limit (view w) ok.shown ok.giver p a.order a.grouping f in record {
          awake = refl;
          told = λ i. a.owed.told p (sym k.queued ∙ i);
          grouped = λ x i r. a.owed.grouped x p (sym k.queued ∙ i) (sym k.fore ∙ r);
          fresh = λ h. absurd (own.swap h);
        }));
  })

  pub law-give : Advances t w ok (GiveEvent p) (record { words = set w.words (index (StateOf q.reg.last)) (bit_or n 2); passes = set w.passes p here })
  law-give = let a = ok.agrees in let r = a.order.round p (ap is_round f) in let l = (a.grouping.last p (ap is_round f)).0 in
      let s = or-shuffler n (ok.formed (StateOf q.reg.last)) in
      let marked = batch-last t.rules.limit (view w) ok.shown ok.giver p a.order a.grouping (ap is_round f) in
      let end_is : batch_end ok.shown ≡ q.reg.last = (let x : last_marked (mark_of ok.shown) ok.shown.line - 1 ≡ q.reg.last = omega arith in x) in
      advance-state t w ok p below here (GiveEvent p) ok.giver refl
      (q.reg.last, record { active = a.grouping.walks p (ap is_round f); last = marked }, r.hand_is ∙ (λ j. cond (ap has_hand f j) (suc q.reg.cand) 0)) (below-count t w ok p below)
      q.reg.last (bit_or n 2) (ok.of_passes.line q.reg.last l.inside) s.form
      (subst (λ (z : Line). Agrees t (written_state (view w) q.reg.last (bit_or n 2) p here) z ok.giver) (λ j. record ok.shown { role = Rest (sym end_is j) }) (agrees (bit_or n 2) s.is))

pub give-law : (t : Terms) → LawOf t Give
give-law t = at-phase t Give (λ w p c ok below nap f. law-give t w p ok below nap f)

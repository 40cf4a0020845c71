-- A lawful world in plain words is one of the invariant, and the other way round.
use Rattle.std.proofs.Common.{◌≡◌, ℕ, suc, ◌<◌, ◌⊎◌, Bool, true, false, cond, refl, sym, ap, ◌∙◌, ⊎_elim, inl, inr, arith}
use Rattle.std.specs.Prelude.{Option, Some, None}
use Rattle.shfl_line.specs.Line.{Line, mark_of, active_shuffler, idle_shuffler, IsOfPasses}
use Rattle.shfl_line.specs.Words.{link_word}
use Rattle.shfl_line.specs.Passes.{times}
use Rattle.shfl_core.specs.declared.phase.PassState.{PassState}
use Rattle.shfl_core.specs.Phases.{is_queued}
use Rattle.shfl_core.specs.Worlds.{World, known}
use Rattle.shfl_core.specs.View.{view}
use Rattle.shfl_core.specs.Order.{Order as Ordered}
use Rattle.shfl_core.specs.Grouping.{Grouping}
use Rattle.shfl_core.specs.Lawful.{Terms, count, Agrees, Lawful}
use Rattle.shfl_laws.specs.Headline.{IsQueued, Headline, batch}
use Rattle.shfl_laws.specs.Shows.{ShowsPlainly}
use Rattle.shfl_laws.specs.PlainFacts.{PlainFacts}
use Rattle.shfl_laws.specs.Plain.{PlainLawful, PlainLaw, LawfulLaw}
use Rattle.shfl_laws.proofs.plain.Facts.{facts}
use Rattle.shfl_laws.proofs.plain.Headline.{headline, marks}
use Rattle.shfl_laws.proofs.plain.HoldersPlain.{writer-in-word, word-has-writer}
use Rattle.shfl_laws.proofs.laws.NextRows.{queued-below}
use Rattle.shfl_laws.proofs.plain.PlainGrouping.{is-walk, is-rest, grouping-plain}
use Rattle.shfl_laws.proofs.plain.PlainHolding.{plain-hold, holding-plain}
use Rattle.shfl_laws.proofs.plain.PlainOrder as Plainly
use Rattle.shfl_laws.proofs.plain.PlainOwed.{plain-owed, owed-plain}
use Rattle.shfl_laws.proofs.plain.PlainRound.{round-words, round-plain}
use Rattle.shfl_laws.proofs.shown.WellFormed.{agrees-well-formed}

module _ (t : Terms) (w : World) (ok : Lawful t w) where
  abbrev s : Line
  s = ok.shown

  abbrev pass : ℕ → PassState
  pass p = known w.passes p

  plain-words : Headline t.rules.limit w s.line s.hand
  plain-words = headline t w ok

  k : Grouping t.rules.limit (view w) s
  k = ok.agrees.grouping

  outside : (p : ℕ) → ¬ (IsQueued w p) → mark_of s p ≡ 0
  outside p n = by (is_queued (pass p)) refl
    where
      by : (b : Bool) → is_queued (pass p) ≡ b → mark_of s p ≡ 0
      by true e = absurd (n e)
      by false e = k.mark p ∙ ap (λ b. cond b (batch w p) 0) e

  waits : (p : ℕ) → (0 < times p s.line) ⊎ (s.hand ≡ Some p) → IsQueued w p
  waits p h = by (is_queued (pass p)) refl
    where
      by : (b : Bool) → is_queued (pass p) ≡ b → is_queued (pass p) ≡ true
      by true e = e
      by false e = absurd (let n = plain-words.others p (λ i. (let a : is_queued (pass p) ≡ true = i in cc)) in ⊎_elim (λ m. (let z = n.0 in omega arith)) (λ m. n.1 m) h)

  pub shows-plainly : ShowsPlainly (count t) w s
  shows-plainly = record {
    queue = plain-words.queue;
    hand = λ c. (
      (λ e. (let d = plain-words.detached_by c e in (d.0, record { takes = d.2; candidate = (let a = ap link_word (sym (plain-words.detaches d.0 d.2) ∙ e) in omega arith) }))),
      (λ d. plain-words.detaches d.0 d.1.takes ∙ ap Some d.1.candidate),
    );
    queued = λ p. ((λ q. ⊎_elim (λ m. inl (let a = m.0 in omega arith)) (λ m. inr m.1) (plain-words.each p q)), waits p);
    hold = plain-hold t w ok;
    rises = ok.of_passes.hold;
    held = (word-has-writer t w ok, λ h. writer-in-word t w ok h.0 h.1);
    readers = ok.agrees.holding.count;
    active = λ p. ((λ e. (k.walker p (ap active_shuffler e)).0), (λ r. is-walk s.role p (k.walks p r)));
    idle = λ p. ((λ e. (let h = k.rester p (ap idle_shuffler e) in record { queued = h.0; flag = h.1 })), (λ f. is-rest s.role p (k.flagged p f.queued f.flag)));
    marks = ok.of_passes.marks;
    mark = marks t w ok;
    unmarked = outside;
  }

  pub plain-facts : PlainFacts t w s
  plain-facts = record {
    facts = facts t w ok;
    itself = λ p e. (let h = k.known p e in record { batch = h.0; flag = h.1 });
    begins = λ p e f. (let h = k.begins p e f in record { headed = h.0; batch = h.1 });
    rounds = round-words t w ok;
    registered = ok.agrees.registered;
  }

pub plain-law : PlainLaw
plain-law t w ok = record {
  form = record { limit = ok.limit; few = ok.few; room = ok.room; seats = ok.seats; numbers = ok.numbers; formed = ok.formed; attrs = ok.attrs };
  shows = shows-plainly t w ok;
  well_formed = agrees-well-formed t (view w) ok.shown ok.giver ok.of_passes ok.agrees;
  facts = plain-facts t w ok;
  owed = plain-owed t.rules.form w ok.agrees.owed;
}

module _ (t : Terms) (w : World) (s : Line) (h : PlainLawful t w s) where
  pub of-passes : IsOfPasses (count t) s
  of-passes = record {
    marks = h.shows.marks;
    hold = h.shows.rises;
    line = λ q m. below q ((h.shows.queued q).1 (inl m));
    hand = λ q e. below q ((h.shows.queued q).1 (inr (some s.hand q e)));
    once = h.well_formed.waits_once;
  }
    where
      below : (q : ℕ) → IsQueued w q → q < count t
      below q i = let a = queued-below w.passes q i in let b = h.form.seats in omega arith

      some : (d : Option ℕ) (q : ℕ) → link_word d ≡ suc q → d ≡ Some q
      some None q e = absurd (omega arith)
      some (Some c) q e = ap Some (omega arith)

  pub giver : ℕ
  giver = Plainly.giver t.rules.limit (count t) w s h.shows h.well_formed h.facts.facts

  pub ordered : Ordered (view w) s giver
  unfolding giver
  ordered = let a = h.shows in let b = h.well_formed in let c = h.facts.facts in record {
    walks = Plainly.order-walks t.rules.limit (count t) w s a b c;
    fronted = Plainly.fronted t.rules.limit (count t) w s a b c;
    stands = Plainly.stands t.rules.limit (count t) w s a b c;
    clean = Plainly.clean t.rules.limit (count t) w s a b c;
    links = Plainly.links t.rules.limit (count t) w s a b c;
    round = round-plain t w s a b h.facts;
    still = λ e. none s.hand (h.well_formed.attached e);
  }
    where
      none : (d : Option ℕ) → link_word d ≡ 0 → d ≡ None
      none None e = refl
      none (Some c) e = absurd (omega arith)

  pub agrees-plain : Agrees t (view w) s giver
  agrees-plain = record {
    order = ordered;
    grouping = grouping-plain t w s h.shows h.well_formed h.facts;
    holding = holding-plain t.rules.limit (count t) w s h.shows h.well_formed;
    registered = h.facts.registered;
    owed = owed-plain t.rules.form w h.owed (λ p e. (h.facts.facts.cleared p e).0);
  }

  pub lawful-plain : Lawful t w
  lawful-plain = record {
    room = h.form.room;
    seats = h.form.seats;
    few = h.form.few;
    limit = h.form.limit;
    formed = h.form.formed;
    attrs = h.form.attrs;
    numbers = h.form.numbers;
    shown = s;
    giver = giver;
    of_passes = of-passes;
    agrees = agrees-plain;
  }

pub lawful-law : LawfulLaw
unfolding lawful-plain
lawful-law t w s h = (lawful-plain t w s h, refl)

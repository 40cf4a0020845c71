use Rattle.std.proofs.Common.{arith, ◌≡◌, ◌+◌, ◌<◌, ap, sym, refl, ◌∙◌, subst, inl, length, List, [], ◌∷◌, Option, None}
use Rattle.shared_journal.specs.declared.view.Own.{Own}
use Rattle.shared_journal.specs.Entries.{IsAmong, entries_by}
use Rattle.atomic_table.specs.Table.{Me}
use Rattle.shared_journal.specs.declared.view.View.{View}
use Rattle.shared_journal.specs.Rule.{KnowsOwn, with_out}
use Rattle.shared_journal.specs.Models.{PassInvariant, PassModel, limit_of, opening_of, own_of, with_list, with_second}
use Rattle.shared_journal.proofs.passes.JournalPass.begin.Given as given_here
use Rattle.shared_journal.proofs.passes.JournalPass.begin.Goals as goal
use Rattle.shared_journal.proofs.passes.JournalPass.begin.Goals.{After-take_out}

pub take_out-requires-clause-numbered : goal.take_out-requires-clause-numbered
take_out-requires-clause-numbered g c = let s = c.self.inside in let v = s.seat.me.0 in
    let mine : Own g.row.J-Entry.Denot = own_of g.J.Journal.worker s.number s.left (opening_of v) (limit_of v) v.list in
    (mine, subst (IsAmong mine) (sym (ap (λ m. m.0.own) c.join_both.ensures.joined ∙ c.self.invariant.own)) (inl refl))

module _ (g : given_here.Over) (c : After-take_out g) where
  abbrev mine : Own g.row.J-Entry.Denot
  mine = let s = c.self.inside in let v = s.seat.me.0 in own_of g.J.Journal.worker s.number s.left (opening_of v) (limit_of v) v.list

  known : KnowsOwn g.J.Journal.entries g.J.Journal.limit g.J.Journal.opening g.J.Journal.legal g.J.Journal.worker mine c.take_out.result
  known = c.take_out.ensures.knows.own mine (subst (IsAmong mine) (sym (ap (λ m. m.0.own) c.join_both.ensures.joined ∙ c.self.invariant.own)) (inl refl))

pub invariant_of-self : goal.invariant_of-self
invariant_of-self g c = let s = c.self.inside in let v = s.seat.me.0 in let r = g.J.Journal.entries c.take_out.result in let k = known g (goal.at.invariant_of-self g c).After-take_out in
    let after : c.take_out.new.seat.me ≡ (with_out (with_second c.args.second (with_list c.args.first.list v)) r, (0, None) ∷ []) =
    c.take_out.ensures.seat ∙ ap (λ (m : Me (Option g.row.J.Denot) (View g.row.J-Entry.Denot)). (with_out m.0 r, (0, None) ∷ [])) c.join_both.ensures.joined in
    subst (PassInvariant {J = g.row.J.Denot} g.J.Journal.worker s.number s.left) (sym after) (record {
      own = c.self.invariant.own ∙ ap (λ (l : List g.row.J-Entry.Denot). record { number = s.number; allowed = length l + s.left; opening = opening_of v; limit = limit_of v; entries = l } ∷ []) k.exactly;
      joined = refl;
      home = λ no. absurd (cc);
      out = λ _. refl;
    })

pub returns-clause-own : goal.returns-clause-own
returns-clause-own g c = let r = g.J.Journal.entries c.take_out.result in
    subst (λ (p : PassModel g.row.J-Entry.Denot). entries_by g.J.Journal.worker p.number r ≡ entries_by g.J.Journal.worker p.number p.seen) c.self.view_is (sym (known g (goal.at.returns-clause-own g c).After-take_out).exactly)

pub returns-clause-room : goal.returns-clause-room
returns-clause-room g c = let k = known g (goal.at.returns-clause-room g c).After-take_out in
    subst (λ (p : PassModel g.row.J-Entry.Denot). 0 < p.left → length (g.J.Journal.entries c.take_out.result) < g.J.Journal.limit c.take_out.result) c.self.view_is (λ h. k.room (omega arith))

pub returns-clause-opening : goal.returns-clause-opening
returns-clause-opening g c = (known g (goal.at.returns-clause-opening g c).After-take_out).opening_is ∙ ap (λ (p : PassModel g.row.J-Entry.Denot). p.opening) c.self.view_is

pub returns-clause-limit : goal.returns-clause-limit
returns-clause-limit g c = (known g (goal.at.returns-clause-limit g c).After-take_out).limit_is ∙ ap (λ (p : PassModel g.row.J-Entry.Denot). p.limit) c.self.view_is

pub returns-clause-legal : goal.returns-clause-legal
returns-clause-legal g c = subst (λ (p : PassModel g.row.J-Entry.Denot). g.J.Journal.legal p.opening (g.J.Journal.entries c.take_out.result)) c.self.view_is (known g (goal.at.returns-clause-legal g c).After-take_out).lawful

use Rattle.std.proofs.Common.{arith, ◌<◌, ap, sym, refl, ◌∙◌, subst, inl, [], ◌∷◌, ◌++◌}
use Rattle.shared_journal.specs.declared.view.Own.{Own}
use Rattle.shared_journal.specs.Entries.{IsAmong}
use Rattle.shared_journal.specs.Models.{PassModel, limit_of, opening_of, own_of}
use Rattle.shared_journal.proofs.passes.JournalPass.end.Goals as goal

pub put_back-requires-clause-adds : goal.put_back-requires-clause-adds
put_back-requires-clause-adds g c = let a = c.requires.adds in let s = c.self.inside in let v = s.seat.me.0 in let is = c.self.view_is in
    let mine : Own g.row.J-Entry.Denot = own_of g.J.Journal.worker s.number s.left (opening_of v) (limit_of v) v.list in
    let left : 0 < s.left = subst (λ (p : PassModel g.row.J-Entry.Denot). 0 < p.left) (sym is) c.requires.left in record {
      entry = a.entry;
      number = mine;
      grew = a.grew ∙ ap (λ (p : PassModel g.row.J-Entry.Denot). p.seen ++ a.entry ∷ []) (sym is);
      among = subst (IsAmong mine) (sym c.self.invariant.own) (inl refl);
      made_by = a.made_by ∙ ap (λ (p : PassModel g.row.J-Entry.Denot). p.number) (sym is);
      left = omega arith;
      opening_is = a.opening_is ∙ ap (λ (p : PassModel g.row.J-Entry.Denot). p.opening) (sym is);
      limit_is = a.limit_is ∙ ap (λ (p : PassModel g.row.J-Entry.Denot). p.limit) (sym is);
      lawful = subst (λ (p : PassModel g.row.J-Entry.Denot). g.J.Journal.legal p.opening (g.J.Journal.entries c.args.journal)) (sym is) a.lawful;
    }

use Rattle.std.proofs.Common.{ap, ◌∙◌}
use Rattle.shared_journal.specs.Models.{PassModel}
use Rattle.shared_journal.proofs.Commits.{commits}
use Rattle.shared_journal.proofs.passes.JournalPass.commit.Goals as goal

pub returns-then-two-clause-pass : goal.returns-then-two-clause-pass
returns-then-two-clause-pass g c = let b = c.begin-journal.ensures in let r = c.run-answer.ensures.adds in let same = c.self.view_is ∙ b.pass in
    commits g.J.Journal.worker c.args.self.now _ c.end.new.self c.split.new.self _ _ r.0 _ c.self.inside.number b.pass b.seen b.own c.len-place.ensures
    (ap (λ (p : PassModel g.row.J-Entry.Denot). p.number) same) r.1 r.2 c.end.ensures (c.split.ensures.same ∙ c.split-first.ensures.same) c.requires.left c.requires.home

pub returns-clause-pass : goal.returns-clause-pass
returns-clause-pass g c = let b = c.begin-journal.ensures in let r = c.run-answer.ensures.adds in let same = c.self.view_is ∙ b.pass in
    commits g.J.Journal.worker c.args.self.now _ c.end.new.self c.split-first.new.self _ _ r.0 _ c.self.inside.number b.pass b.seen b.own c.len-place.ensures
    (ap (λ (p : PassModel g.row.J-Entry.Denot). p.number) same) r.1 r.2 c.end.ensures c.split-first.ensures.same c.requires.left c.requires.home

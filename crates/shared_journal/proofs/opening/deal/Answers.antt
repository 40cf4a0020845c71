use Rattle.std.proofs.Common.{rules, arith, ◌≡◌, ℕ, sym, ◌∙◌, length, vec_len, slice_index}
use Rattle.shared_journal.specs.Models.{PassModel, fresh_pass}
use Rattle.shared_journal.proofs.Dealing.{dealt-more}
use Rattle.shared_journal.proofs.opening.deal.Goals as goal

pub loop-k-preserved : goal.loop-k-preserved
loop-k-preserved g c = let i = c.loop-k.invariant in let n = c.next_pass.ensures in let p = c.push_reserved.ensures in let key = c.args.shared.now.key in
    let f : ℕ → PassModel g.row.J-Entry.Denot = λ j. fresh_pass c.args.shared.now.table_id (g.J.Journal.opening key.journal.value) (g.J.Journal.limit key.journal.value) j (slice_index c.args.calls.now j) in
    let old : vec_len c.loop-k.passes ≡ length c.loop-k.passes.items = search rules in (
      (let l = p.len in let a = i.0 in omega arith),
      (let b = i.1 in let q = p.capacity in search rules),
      n.table ∙ i.2,
      n.seat,
      dealt-more f c.loop-k.passes.items c.push_reserved.new.self.items c.next_pass.result c.loop-k.k p.items (sym old ∙ i.0) n.pass i.4,
    )

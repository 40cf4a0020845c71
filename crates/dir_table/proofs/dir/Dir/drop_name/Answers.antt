use Rattle.dir_table.specs.Blocks.{joined}
use Rattle.std.proofs.Common.{◌≡◌, ◌-◌, cond, ap, sym, ◌∙◌, subst, arith}
use Rattle.std.specs.Prelude.{◌↔◌, IsNone}
use Rattle.std.specs.FinMap.{get}
use Rattle.dir_table.specs.declared.calls.DirCall.TheVariants.{Drop}
use Rattle.dir_table.specs.declared.calls.DirReply.TheVariants.{Done, Absent}
use Rattle.dir_table.specs.Directory.{spent}
use Rattle.dir_table.specs.Answers.{reply_to, after}
use Rattle.dir_table.specs.Rows.{names_of}
use Rattle.dir_table.proofs.Methods.{drop_reply, done_absent, dropped, drop_others}
use Rattle.dir_table.proofs.NamesKept.{removal_in_order}
use Rattle.dir_table.proofs.Ranges.{removal_in_range}
use Rattle.dir_table.proofs.dir.Dir.drop_name.Goals as goal

pub invariant_of-self : goal.invariant_of-self
invariant_of-self c =
    let i = c.self.inside in
    let inv = c.self.invariant in
    let removed = c.remove_row.ensures.removed in
    record {
      in_order = removal_in_order (joined i.rows.blocks) (joined c.remove_row.new.rows.blocks) inv.in_order (c.args.dir, c.args.name) removed;
      in_range = removal_in_range i.room (joined i.rows.blocks) (joined c.remove_row.new.rows.blocks) (c.args.dir, c.args.name) inv.in_range removed;
      made = omega (arith, c.remove_row.ensures.fewer);
      reserved = omega (arith, c.remove_row.ensures.fewer);
      numbered = omega arith;
    }

pub returns-clause-reply : goal.returns-clause-reply
returns-clause-reply c =
    let i = c.self.inside in
    subst (λ d. c.done_if.result ≡ reply_to d (Drop c.args.dir c.args.name)) c.self.view_is
    (c.done_if.ensures ∙ ap (λ b. cond b Done Absent) c.is_some.ensures
    ∙ drop_reply (joined i.rows.blocks) i.next_number i.room i.spare c.self.invariant.in_order c.args.dir c.args.name c.remove_row.result c.remove_row.ensures.number)

pub returns-clause-absent : goal.returns-clause-absent
returns-clause-absent c =
    subst (λ r. (r ≡ Absent) ↔ IsNone (get c.args.self.now.names (c.args.dir, c.args.name))) (sym (returns-clause-reply c))
    (done_absent (get c.args.self.now.names (c.args.dir, c.args.name)))

pub returns-clause-after : goal.returns-clause-after
returns-clause-after c =
    let i = c.self.inside in
    subst (λ d. record { names = names_of (joined c.remove_row.new.rows.blocks); next_number = i.next_number; room = i.room; spare = i.spare - 1 } ≡ spent (after d (Drop c.args.dir c.args.name))) c.self.view_is
    (dropped (joined i.rows.blocks) i.next_number i.room i.spare c.self.invariant.in_order (joined c.remove_row.new.rows.blocks) c.args.dir c.args.name c.remove_row.ensures.removed)

pub returns-clause-others : goal.returns-clause-others
returns-clause-others c other differs =
    ap (λ d. get d.names other) (returns-clause-after c) ∙ drop_others c.args.self.now c.args.dir c.args.name other differs

use Rattle.std.proofs.Common.{◌≡◌, ◌-◌, cond, Some, None, ap, sym, ◌∙◌, subst, ⊎_elim, arith}
use Rattle.std.specs.Prelude.{◌↔◌, IsNone}
use Rattle.std.specs.FinMap.{get}
use Rattle.dir_table.specs.declared.calls.DirCall.TheVariants.{Rename}
use Rattle.dir_table.specs.declared.calls.DirReply.TheVariants.{Done, Absent}
use Rattle.dir_table.specs.Blocks.{joined}
use Rattle.dir_table.specs.Directory.{spent, IsInRange}
use Rattle.dir_table.specs.Answers.{reply_to, after}
use Rattle.dir_table.specs.Rows.{names_of}
use Rattle.dir_table.proofs.Methods.{rename_reply, done_absent, onto_itself, renamed_none, renamed_one, rename_others}
use Rattle.dir_table.proofs.NamesKept.{removal_in_order, put_in_order}
use Rattle.dir_table.proofs.Ranges.{removal_in_range, put_in_range}
use Rattle.dir_table.proofs.dir.Dir.rename.Goals as goal

-- onto itself
pub returns-then-name-to_name-clause-reply : goal.returns-then-name-to_name-clause-reply
returns-then-name-to_name-clause-reply c =
    let i = c.self.inside in
    subst (λ d. c.done_if.result ≡ reply_to d (Rename c.args.dir c.args.name c.args.to_dir c.args.to_name)) c.self.view_is
    (c.done_if.ensures ∙ ap (λ b. cond b Done Absent) c.is_some.ensures
    ∙ rename_reply (joined i.rows.blocks) i.next_number i.room i.spare c.self.invariant.in_order c.args.dir c.args.name c.args.to_dir c.args.to_name c.number_of.result
    c.number_of.ensures)

pub returns-then-name-to_name-clause-absent : goal.returns-then-name-to_name-clause-absent
returns-then-name-to_name-clause-absent c =
    subst (λ r. (r ≡ Absent) ↔ IsNone (get c.args.self.now.names (c.args.dir, c.args.name))) (sym (returns-then-name-to_name-clause-reply c))
    (done_absent (get c.args.self.now.names (c.args.dir, c.args.name)))

pub returns-then-name-to_name-clause-after : goal.returns-then-name-to_name-clause-after
returns-then-name-to_name-clause-after c =
    let i = c.self.inside in
    subst (λ d. record { names = names_of (joined i.rows.blocks); next_number = i.next_number; room = i.room; spare = i.spare - 1 } ≡ spent (after d (Rename c.args.dir c.args.name c.args.to_dir c.args.to_name))) c.self.view_is
    (onto_itself (joined i.rows.blocks) i.next_number i.room i.spare c.self.invariant.in_order c.args.dir c.args.name c.args.to_dir c.args.to_name c.if-dir-to_dir.true c.if-name-to_name.true)

-- to another name, where the old one is there
pub put_row-requires-clause-in_order : goal.put_row-requires-clause-in_order
put_row-requires-clause-in_order c =
    removal_in_order (joined c.self.inside.rows.blocks) (joined c.remove_row.new.rows.blocks) c.self.invariant.in_order (c.args.dir, c.args.name) c.remove_row.ensures.removed

pub put_row-requires-clause-few : goal.put_row-requires-clause-few
put_row-requires-clause-few c = let made = c.self.invariant.made in let numbered = c.self.invariant.numbered in omega (arith, c.remove_row.ensures.fewer)

pub invariant_of-self-in-Some : goal.invariant_of-self-in-Some
invariant_of-self-in-Some c =
    let i = c.self.inside in
    let inv = c.self.invariant in
    let range : IsInRange i.room c.args.to_dir c.args.to_name = subst (λ d. IsInRange d.room c.args.to_dir c.args.to_name) (sym c.self.view_is) c.requires.in_range.1 in
    let removed = c.remove_row.ensures.removed in
    let mid = removal_in_order (joined i.rows.blocks) (joined c.remove_row.new.rows.blocks) inv.in_order (c.args.dir, c.args.name) removed in
    let ranged = removal_in_range i.room (joined i.rows.blocks) (joined c.remove_row.new.rows.blocks) (c.args.dir, c.args.name) inv.in_range removed in
    let fewer = c.in-Some.ensures.one_fewer in
    record {
      in_order = put_in_order (joined c.remove_row.new.rows.blocks) (joined c.put_row.new.rows.blocks) mid (c.args.to_dir, c.args.to_name) c.in-Some.ino c.put_row.ensures.put;
      in_range = put_in_range i.room (joined c.remove_row.new.rows.blocks) (joined c.put_row.new.rows.blocks) (c.args.to_dir, c.args.to_name) c.in-Some.ino ranged range c.put_row.ensures.put;
      made = omega arith;
      reserved = omega arith;
      numbered = omega arith;
    }

pub returns-in-Some-clause-reply : goal.returns-in-Some-clause-reply
returns-in-Some-clause-reply c =
    let i = c.self.inside in
    subst (λ d. Done ≡ reply_to d (Rename c.args.dir c.args.name c.args.to_dir c.args.to_name)) c.self.view_is
    (rename_reply (joined i.rows.blocks) i.next_number i.room i.spare c.self.invariant.in_order c.args.dir c.args.name c.args.to_dir c.args.to_name (Some c.in-Some.ino)
    c.in-Some.ensures.number)

pub returns-in-Some-clause-absent : goal.returns-in-Some-clause-absent
returns-in-Some-clause-absent c =
    subst (λ r. (r ≡ Absent) ↔ IsNone (get c.args.self.now.names (c.args.dir, c.args.name))) (sym (returns-in-Some-clause-reply c))
    (done_absent (get c.args.self.now.names (c.args.dir, c.args.name)))

pub returns-in-Some-clause-after : goal.returns-in-Some-clause-after
returns-in-Some-clause-after c =
    let i = c.self.inside in
    subst (λ d. record { names = names_of (joined c.put_row.new.rows.blocks); next_number = i.next_number; room = i.room; spare = i.spare - 1 } ≡ spent (after d (Rename c.args.dir c.args.name c.args.to_dir c.args.to_name))) c.self.view_is
    (renamed_one (joined i.rows.blocks) i.next_number i.room i.spare c.self.invariant.in_order c.args.dir c.args.name c.args.to_dir c.args.to_name
    (λ first second. ⊎_elim (λ h. h.1 second) (λ h. h first) c.else-dir-to_dir.either)
    c.in-Some.ino (joined c.remove_row.new.rows.blocks) (joined c.put_row.new.rows.blocks) c.in-Some.ensures.number c.remove_row.ensures.removed c.put_row.ensures.put)

pub returns-in-Some-clause-others : goal.returns-in-Some-clause-others
returns-in-Some-clause-others c other not_from not_to =
    ap (λ d. get d.names other) (returns-in-Some-clause-after c) ∙ rename_others c.args.self.now c.args.dir c.args.name c.args.to_dir c.args.to_name other not_from not_to

-- the old name isn't there
pub returns-in-None-clause-reply : goal.returns-in-None-clause-reply
returns-in-None-clause-reply c =
    let i = c.self.inside in
    subst (λ d. Absent ≡ reply_to d (Rename c.args.dir c.args.name c.args.to_dir c.args.to_name)) c.self.view_is
    (rename_reply (joined i.rows.blocks) i.next_number i.room i.spare c.self.invariant.in_order c.args.dir c.args.name c.args.to_dir c.args.to_name None c.in-None.ensures.number)

pub returns-in-None-clause-absent : goal.returns-in-None-clause-absent
returns-in-None-clause-absent c =
    subst (λ r. (r ≡ Absent) ↔ IsNone (get c.args.self.now.names (c.args.dir, c.args.name))) (sym (returns-in-None-clause-reply c))
    (done_absent (get c.args.self.now.names (c.args.dir, c.args.name)))

pub returns-in-None-clause-after : goal.returns-in-None-clause-after
returns-in-None-clause-after c =
    let i = c.self.inside in
    ap (λ b. record { names = names_of (joined b.blocks); next_number = i.next_number; room = i.room; spare = i.spare - 1 }) c.in-None.ensures.absent
    ∙ subst (λ d. record { names = names_of (joined i.rows.blocks); next_number = i.next_number; room = i.room; spare = i.spare - 1 } ≡ spent (after d (Rename c.args.dir c.args.name c.args.to_dir c.args.to_name))) c.self.view_is
    (renamed_none (joined i.rows.blocks) i.next_number i.room i.spare c.self.invariant.in_order c.args.dir c.args.name c.args.to_dir c.args.to_name
    (λ first second. ⊎_elim (λ h. h.1 second) (λ h. h first) c.else-dir-to_dir.either) c.in-None.ensures.number)

use Rattle.std.proofs.Common.{◌≡◌, ◌+◌, ◌-◌, ◌<◌, Some, None, ap, sym, ◌∙◌, subst, refl, arith}
use Rattle.std.specs.Prelude.{◌↔◌, IsSome}
use Rattle.std.specs.FinMap.{get}
use Rattle.dir_table.specs.declared.calls.DirCall.TheVariants.{Make}
use Rattle.dir_table.specs.declared.calls.DirReply.TheVariants.{Ino, Exists}
use Rattle.dir_table.specs.Blocks.{joined}
use Rattle.dir_table.specs.Directory.{IsInRange, spent}
use Rattle.dir_table.specs.Answers.{reply_to, after}
use Rattle.dir_table.specs.Rows.{names_of}
use Rattle.dir_table.proofs.Methods.{make_reply, make_exists, made_none, made_one, make_others}
use Rattle.dir_table.proofs.NamesKept.{put_in_order}
use Rattle.dir_table.proofs.Ranges.{put_in_range}
use Rattle.dir_table.proofs.dir.Dir.make.Goals as goal

pub add_row-requires-clause-few : goal.add_row-requires-clause-few
add_row-requires-clause-few c = let made = c.self.invariant.made in let numbered = c.self.invariant.numbered in omega arith

-- the name was there
pub returns-in-Some-clause-reply : goal.returns-in-Some-clause-reply
returns-in-Some-clause-reply c =
    let i = c.self.inside in
    subst (λ d. Exists ≡ reply_to d (Make c.args.dir c.args.name)) c.self.view_is
    (make_reply (joined i.rows.blocks) i.next_number i.room i.spare c.self.invariant.in_order c.args.dir c.args.name (Some c.in-Some.field-0) c.in-Some.ensures.number)

pub returns-in-Some-clause-exists : goal.returns-in-Some-clause-exists
returns-in-Some-clause-exists c =
    subst (λ r. (r ≡ Exists) ↔ IsSome (get c.args.self.now.names (c.args.dir, c.args.name))) (sym (returns-in-Some-clause-reply c))
    (make_exists (get c.args.self.now.names (c.args.dir, c.args.name)) c.args.self.now.next_number)

pub returns-in-Some-clause-after : goal.returns-in-Some-clause-after
returns-in-Some-clause-after c =
    let i = c.self.inside in
    ap (λ b. record { names = names_of (joined b.blocks); next_number = i.next_number; room = i.room; spare = i.spare - 1 }) c.in-Some.ensures.there
    ∙ subst (λ d. record { names = names_of (joined i.rows.blocks); next_number = i.next_number; room = i.room; spare = i.spare - 1 } ≡ spent (after d (Make c.args.dir c.args.name))) c.self.view_is
    (made_none (joined i.rows.blocks) i.next_number i.room i.spare c.self.invariant.in_order c.args.dir c.args.name (Some c.in-Some.field-0) c.in-Some.ensures.number refl)

pub returns-in-Some-clause-others : goal.returns-in-Some-clause-others
returns-in-Some-clause-others c other differs =
    ap (λ d. get d.names other) (returns-in-Some-clause-after c) ∙ make_others c.args.self.now c.args.dir c.args.name other differs

-- the name is new
pub invariant_of-self-in-None : goal.invariant_of-self-in-None
invariant_of-self-in-None c =
    let i = c.self.inside in
    let inv = c.self.invariant in
    let left : 0 < i.spare = subst (λ d. 0 < d.spare) (sym c.self.view_is) c.requires.left in
    let range : IsInRange i.room c.args.dir c.args.name = subst (λ d. IsInRange d.room c.args.dir c.args.name) (sym c.self.view_is) c.requires.in_range in
    let put = c.in-None.ensures.put in
    let len = c.in-None.ensures.len in
    let spare = c.in-None.ensures.spare in
    record {
      in_order = put_in_order (joined i.rows.blocks) (joined c.add_row.new.rows.blocks) inv.in_order (c.args.dir, c.args.name) i.next_number put;
      in_range = put_in_range i.room (joined i.rows.blocks) (joined c.add_row.new.rows.blocks) (c.args.dir, c.args.name) i.next_number inv.in_range range put;
      made = omega arith;
      reserved = omega arith;
      numbered = omega arith;
    }

pub returns-in-None-clause-reply : goal.returns-in-None-clause-reply
returns-in-None-clause-reply c =
    let i = c.self.inside in
    subst (λ d. Ino i.next_number ≡ reply_to d (Make c.args.dir c.args.name)) c.self.view_is
    (make_reply (joined i.rows.blocks) i.next_number i.room i.spare c.self.invariant.in_order c.args.dir c.args.name None c.in-None.ensures.number)

pub returns-in-None-clause-exists : goal.returns-in-None-clause-exists
returns-in-None-clause-exists c =
    subst (λ r. (r ≡ Exists) ↔ IsSome (get c.args.self.now.names (c.args.dir, c.args.name))) (sym (returns-in-None-clause-reply c))
    (make_exists (get c.args.self.now.names (c.args.dir, c.args.name)) c.args.self.now.next_number)

pub returns-in-None-clause-after : goal.returns-in-None-clause-after
returns-in-None-clause-after c =
    let i = c.self.inside in
    subst (λ d. record { names = names_of (joined c.add_row.new.rows.blocks); next_number = i.next_number + 1; room = i.room; spare = i.spare - 1 } ≡ spent (after d (Make c.args.dir c.args.name))) c.self.view_is
    (made_one (joined i.rows.blocks) i.next_number i.room i.spare c.self.invariant.in_order (joined c.add_row.new.rows.blocks) c.args.dir c.args.name None c.in-None.ensures.number refl c.in-None.ensures.put)

pub returns-in-None-clause-others : goal.returns-in-None-clause-others
returns-in-None-clause-others c other differs =
    ap (λ d. get d.names other) (returns-in-None-clause-after c) ∙ make_others c.args.self.now c.args.dir c.args.name other differs

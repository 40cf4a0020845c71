use Rattle.std.proofs.Common.{◌≡◌, ℕ, zero, suc, ⊎_elim, ◌<◌, Bool, true, false, cond, eqb, Option, Some, None, slice_index, ap, sym, ◌∙◌, subst, refl, arith}
use Rattle.std.specs.Prelude.{◌&&◌, is_some}
use Rattle.std.specs.Option.{unwrap_or}
use Rattle.std.specs.FinMap.{get}
use Rattle.std.proofs.lemmas.Bool.Decides.{nat_tests}
use Rattle.dir_table.specs.Answers.{reply_to, count_in}
use Rattle.dir_table.specs.declared.calls.DirCall.{DirCall}
use Rattle.dir_table.specs.declared.calls.DirReply.TheVariants.{Ino, Done, Exists, Absent, Number}
use Rattle.shard_rows.specs.Replay.{number_of}
use Rattle.shard_rows.specs.Shares.{first_named}
use Rattle.shard_rows.specs.Values.{shard_alone}
use Rattle.shard_rows.proofs.Listed.{answer_of}
use Rattle.shard_rows.proofs.Answered.{count_is}
use Rattle.shard_rows.proofs.ByNumber.{by_there, by_found, shard_get}
use Rattle.shard_rows.proofs.shard.Shard.answer.Goals as goal

pub returns-in-Make-clause-reply : goal.returns-in-Make-clause-reply
returns-in-Make-clause-reply c =
    let s = c.args.self.now in
    let named : c.in-Make.dir ≡ s.dir = ap first_named (sym c.in-Make.is) ∙ c.requires.named in
    let at = shard_get c.self.inside.dir c.self.inside.known c.self.inside.table s c.in-Make.dir c.in-Make.name c.get.result c.self.view_is named c.get.ensures in
    subst (λ call. c.made.result.reply ≡ reply_to (shard_alone s c.args.next_number) call) (sym c.in-Make.is)
    (by_there c.get.result (get s.names (c.in-Make.dir, c.in-Make.name)) c.made.result.reply Exists (Ino c.args.next_number) at
    (λ there. ap (λ r. r.reply) (c.made.ensures.exists there)) (λ absent. ap (λ r. r.reply) (c.made.ensures.new absent)))

pub returns-in-Make-clause-number : goal.returns-in-Make-clause-number
returns-in-Make-clause-number c =
    let s = c.args.self.now in
    let named : c.in-Make.dir ≡ s.dir = ap first_named (sym c.in-Make.is) ∙ c.requires.named in
    let at = shard_get c.self.inside.dir c.self.inside.known c.self.inside.table s c.in-Make.dir c.in-Make.name c.get.result c.self.view_is named c.get.ensures in
    subst (λ call. c.made.result.number ≡ number_of (shard_alone s c.args.next_number) call) (sym c.in-Make.is)
    (by_there c.get.result (get s.names (c.in-Make.dir, c.in-Make.name)) c.made.result.number 0 c.args.next_number at
    (λ there. ap (λ r. r.number) (c.made.ensures.exists there)) (λ absent. ap (λ r. r.number) (c.made.ensures.new absent)))

pub returns-in-Drop-clause-reply : goal.returns-in-Drop-clause-reply
returns-in-Drop-clause-reply c =
    let s = c.args.self.now in
    let named : c.in-Drop.dir ≡ s.dir = ap first_named (sym c.in-Drop.is) ∙ c.requires.named in
    let at = shard_get c.self.inside.dir c.self.inside.known c.self.inside.table s c.in-Drop.dir c.in-Drop.name c.get-in-Drop.result c.self.view_is named c.get-in-Drop.ensures in
    subst (λ call. c.done_if.result ≡ reply_to (shard_alone s c.args.next_number) call) (sym c.in-Drop.is)
    (by_there c.get-in-Drop.result (get s.names (c.in-Drop.dir, c.in-Drop.name)) c.done_if.result Done Absent at c.done_if.ensures.done c.done_if.ensures.absent)

pub returns-then-name-to_name-clause-reply : goal.returns-then-name-to_name-clause-reply
returns-then-name-to_name-clause-reply c =
    let s = c.args.self.now in
    let named : c.in-Rename.dir ≡ s.dir = ap first_named (sym c.in-Rename.is) ∙ c.requires.named in
    let at = shard_get c.self.inside.dir c.self.inside.known c.self.inside.table s c.in-Rename.dir c.in-Rename.name c.get-number.result c.self.view_is named c.get-number.ensures in
    subst (λ call. c.done_if-in-Rename.result ≡ reply_to (shard_alone s c.args.next_number) call) (sym c.in-Rename.is)
    (by_there c.get-number.result (get s.names (c.in-Rename.dir, c.in-Rename.name)) c.done_if-in-Rename.result Done Absent at c.done_if-in-Rename.ensures.done c.done_if-in-Rename.ensures.absent)

pub returns-else-dir-to_dir-clause-reply : goal.returns-else-dir-to_dir-clause-reply
returns-else-dir-to_dir-clause-reply c =
    let s = c.args.self.now in
    let named : c.in-Rename.dir ≡ s.dir = ap first_named (sym c.in-Rename.is) ∙ c.requires.named in
    let at = shard_get c.self.inside.dir c.self.inside.known c.self.inside.table s c.in-Rename.dir c.in-Rename.name c.get-number.result c.self.view_is named c.get-number.ensures in
    subst (λ call. c.done_if-in-Rename.result ≡ reply_to (shard_alone s c.args.next_number) call) (sym c.in-Rename.is)
    (by_there c.get-number.result (get s.names (c.in-Rename.dir, c.in-Rename.name)) c.done_if-in-Rename.result Done Absent at c.done_if-in-Rename.ensures.done c.done_if-in-Rename.ensures.absent)

other_place : (a b m n : ℕ) → (a ≡ b → m ≡ n → ⊥) → ((eqb a b) && (eqb m n)) ≡ false
other_place a b m n differ = grind (arith, nat_tests)

value_of : (n : ℕ) (o : Option ℕ) → o ≡ answer_of n → n ≡ unwrap_or o 0
value_of zero o is = ap (λ x. unwrap_or x 0) (sym is)
value_of (suc n) o is = ap (λ x. unwrap_or x 0) (sym is)

pub returns-else-dir-to_dir-clause-number : goal.returns-else-dir-to_dir-clause-number
returns-else-dir-to_dir-clause-number c =
    let s = c.args.self.now in
    let named : c.in-Rename.dir ≡ s.dir = ap first_named (sym c.in-Rename.is) ∙ c.requires.named in
    let at = shard_get c.self.inside.dir c.self.inside.known c.self.inside.table s c.in-Rename.dir c.in-Rename.name c.get-number.result c.self.view_is named c.get-number.ensures in
    subst (λ call. c.get-number.result ≡ number_of (shard_alone s c.args.next_number) call) (sym c.in-Rename.is)
    (value_of c.get-number.result (get s.names (c.in-Rename.dir, c.in-Rename.name)) at
    ∙ ap (λ b. cond b 0 (unwrap_or (get s.names (c.in-Rename.dir, c.in-Rename.name)) 0))
    (sym (other_place c.in-Rename.dir c.in-Rename.to_dir c.in-Rename.name c.in-Rename.to_name (λ first second. ⊎_elim (λ h. h.1 second) (λ h. h first) c.else-dir-to_dir.either))))

pub returns-in-Find-clause-reply : goal.returns-in-Find-clause-reply
returns-in-Find-clause-reply c =
    let s = c.args.self.now in
    let named : c.in-Find.dir ≡ s.dir = ap first_named (sym c.in-Find.is) ∙ c.requires.named in
    let at = shard_get c.self.inside.dir c.self.inside.known c.self.inside.table s c.in-Find.dir c.in-Find.name c.get-in-Find.result c.self.view_is named c.get-in-Find.ensures in
    subst (λ call. c.read.result.reply ≡ reply_to (shard_alone s c.args.next_number) call) (sym c.in-Find.is)
    (ap (λ r. r.reply) c.read.ensures
    ∙ by_found c.get-in-Find.result (get s.names (c.in-Find.dir, c.in-Find.name)) c.found.result at c.found.ensures.found c.found.ensures.absent)

pub returns-in-Count-clause-reply : goal.returns-in-Count-clause-reply
returns-in-Count-clause-reply c =
    let s = c.args.self.now in
    let named : c.in-Count.dir ≡ s.dir = ap first_named (sym c.in-Count.is) ∙ c.requires.named in
    subst (λ call. c.read-in-Count.result.reply ≡ reply_to (shard_alone s c.args.next_number) call) (sym c.in-Count.is)
    (ap (λ r. r.reply) c.read-in-Count.ensures ∙ ap Number (c.count.ensures ∙ sym (count_is c.self.inside.dir c.self.inside.table.numbers)
    ∙ ap (λ s. count_in s.names s.dir) c.self.view_is ∙ ap (count_in s.names) (sym named)))

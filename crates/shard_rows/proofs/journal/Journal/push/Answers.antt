use Rattle.std.proofs.Common.{◌≡◌, ℕ, ◌+◌, ◌<◌, ◌≤◌, ◌++◌, ◌∷◌, [], length, ap, sym, ◌∙◌, subst, arith}
use Rattle.std.specs.Prelude.{slice_set}
use Rattle.std.specs.Vec.{vec_capacity}
use Rattle.dir_table.specs.Meanings.{IsAdmitted}
use Rattle.dir_table.specs.Answers.{reply_to}
use Rattle.shard_rows.specs.Replay.{opening, left_by, number_of, entry_by}
use Rattle.shard_rows.specs.Values.{JournalValue, IsKept}
use Rattle.shard_rows.specs.Shares.{first_named, last_named}
use Rattle.shard_rows.proofs.KeptMore.{as_many, next_few, named_within, kept_push}
use Rattle.shard_rows.proofs.journal.Journal.push.Goals as goal

pub push_reserved-requires-2 : goal.push_reserved-requires-2
push_reserved-requires-2 c =
    let i = c.self.inside in
    let many = as_many i.entries.items i.numbers.items i.newest.items i.next_number i.room i.limit (vec_capacity i.entries) (vec_capacity i.numbers) c.self.invariant in
    let limit : i.limit ≡ c.args.self.now.limit = ap (λ j. j.limit) c.self.view_is in
    let len : length i.entries.items ≡ length c.args.self.now.entries = ap (λ j. length j.entries) c.self.view_is in
    omega (arith, many, limit, len, c.requires.left, c.self.invariant.reserved_beside)

pub next_after-self-inside-requires : goal.next_after-self-inside-requires
next_after-self-inside-requires c =
    let i = c.self.inside in
    next_few i.entries.items i.numbers.items i.newest.items i.next_number i.room i.limit (vec_capacity i.entries) (vec_capacity i.numbers) c.self.invariant

pub note-requires : goal.note-requires
note-requires c =
    let i = c.self.inside in
    let within = named_within i.entries.items i.numbers.items i.newest.items i.next_number i.room i.limit (vec_capacity i.entries) (vec_capacity i.numbers) c.self.invariant
    c.args.call.now (subst (λ (j : JournalValue). IsAdmitted j.room c.args.call.now) (sym c.self.view_is) c.requires.admitted) in
    let many = c.self.inside.newest.ok.0 in
    record { within = (omega (arith, within, many), omega (arith, within, many)) }

pub invariant_of-self : goal.invariant_of-self
invariant_of-self c =
    let i = c.self.inside in
    let back = sym c.self.view_is in
    let behind = c.len-behind.result + 1 in
    let call = c.args.call.now in
    let longer = i.entries.items ++ entry_by c.args.worker call c.args.answered.reply c.len-receipt.result ∷ [] in
    let beside = i.numbers.items ++ c.args.answered.number ∷ [] in
    let noted = slice_set (slice_set i.newest.items (first_named call) behind) (last_named call) behind in
    let next = c.next_after-self-inside.result in
    let room = vec_capacity c.push_reserved.new.self in let room_beside = vec_capacity c.push_reserved-2.new.self in
    let kept = kept_push i.entries.items i.numbers.items i.newest.items i.next_number i.room i.limit (vec_capacity i.entries) (vec_capacity i.numbers) c.self.invariant
    c.args.worker c.args.answered.number c.len-receipt.result behind call c.args.answered.reply room room_beside
    (subst (λ (j : JournalValue). length j.entries < j.limit) back c.requires.left)
    (subst (λ (j : JournalValue). IsAdmitted j.room call) back c.requires.admitted)
    (omega (arith, c.len-receipt.ensures))
    (ap (λ n. n + 1) (c.len-behind.ensures.len ∙ ap (λ (j : JournalValue). length j.entries) back))
    (subst (λ (j : JournalValue). c.args.answered.reply ≡ reply_to (left_by (opening j.room) j.entries) call) back c.requires.reply)
    (subst (λ (j : JournalValue). c.args.answered.number ≡ number_of (left_by (opening j.room) j.entries) call) back c.requires.number)
    (omega (arith, c.self.invariant.reserved, c.push_reserved.ensures.capacity))
    (omega (arith, c.self.invariant.reserved_beside, c.push_reserved-2.ensures.capacity)) in
    subst (λ es. IsKept es c.push_reserved-2.new.self.items c.note.new.newest.items next i.room i.limit room room_beside) (sym c.push_reserved.ensures.items)
    (subst (λ ns. IsKept longer ns c.note.new.newest.items next i.room i.limit room room_beside) (sym c.push_reserved-2.ensures.items)
    (subst (λ places. IsKept longer beside places next i.room i.limit room room_beside) (sym c.note.ensures)
    (subst (λ n. IsKept longer beside noted n i.room i.limit room room_beside) (sym c.next_after-self-inside.ensures) kept)))

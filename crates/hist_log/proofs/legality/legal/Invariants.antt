use Rattle.std.proofs.Common.{◌≡◌, ◌+◌, ◌↔◌, IsTrue, All, drop}
use Rattle.hist_log.specs.History.{operations, state_left, IsLegal}
use Rattle.hist_log.proofs.legality.legal.Given as goal

-- the entries so far and those that are left are legal exactly where all are, and the state is the one they leave
abbrev pub invariant-loop-entry : goal.invariant-loop-entry
invariant-loop-entry g l =
    let O = g.O.Object in
    let rest = operations O.call_numbers O.reply_numbers (drop l.entry-index l.entries) in
    let whole = operations O.call_numbers O.reply_numbers l.entries in
    record {
      told : (IsTrue l.legal × IsLegal O.reply_at O.state_after (O.state_numbers l.object) rest) ↔ IsLegal O.reply_at O.state_after (O.state_numbers l.fn.object) whole;
      state : state_left O.state_after (O.state_numbers l.object) rest ≡ state_left O.state_after (O.state_numbers l.fn.object) whole;
      spare : O.spare l.object + l.entry-index ≡ O.spare l.fn.object;
      admitted : All (λ e. O.admits (O.state_numbers l.object) (O.call_numbers e.call)) l.entries;
    }

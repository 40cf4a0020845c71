use Rattle.std.proofs.Common.{◌≡◌, ◌<◌, ◌==◌, true, get_or, refl, sym, arith}
use Rattle.std.specs.Prelude.{Some, None}
use Rattle.std.proofs.lemmas.Bool.Decides.{nat_tests}
use Rattle.std.proofs.lemmas.List.Recursion.{found_at, found_nowhere}
use Rattle.shfl_line.specs.declared.events.Mode.TheVariants.{Write}
use Rattle.shfl_arena.specs.Threads.{mode_held}
use Rattle.shfl_seats.proofs.held.mode_in.Goals as goal

pub returns-then-entry-lock : goal.returns-then-entry-lock
returns-then-entry-lock c = let lock = c.args.lock in let held = c.args.others.now in let i = c.loop-entry.entry-index in
    let is : (get_or held i (0, Write)).0 ≡ lock = c.if-entry-lock.true in
    let here : ((get_or held i (0, Write)).0 == lock) ≡ true = grind (arith, nat_tests) in
    sym (found_at (mode_held lock) (λ x. x.0 == lock) (λ x. Some x.1) None refl (λ _ _. refl) held i (0, Write) c.loop-entry-test.true (λ k h. c.loop-entry.invariant k (0, Write) h) here)

pub returns : goal.returns
returns c = let lock = c.args.lock in let end = c.loop-entry-test.false in
    sym (found_nowhere (mode_held lock) (λ x. x.0 == lock) (λ x. Some x.1) None refl (λ _ _. refl) c.args.others.now (0, Write) (λ k h. c.loop-entry.invariant k (0, Write) (omega arith)))

use Rattle.std.proofs.Common.{◌≡◌, ◌+◌, ◌-◌, ◌≤◌, length, take, vec_len}
use Rattle.std.specs.Prelude.{vec_capacity}
use Rattle.shfl_line.specs.declared.events.Form.{Form}
use Rattle.shfl_core.specs.Waiting.{MakesIdle, rules}
use Rattle.shfl_core.proofs.Opening.{AreMade}
use Rattle.shfl_core.proofs.world.PlainWorld.open.Given as goal

abbrev pub invariant-loop-attr : goal.invariant-loop-attr
invariant-loop-attr g l = record {
  number : l.number ≡ l.attr-index;
  passes : (form : Form) → MakesIdle g.W.Waiter.meaning (λ p a w. g.F.Fn.post l.make (p, (a, (l.limit, tt))) w) (rules l.limit form)
      → AreMade g.W.Waiter.meaning (rules l.limit form) l.passes.items (take l.attr-index l.attrs);
  pass_room : vec_len l.passes + (length l.attrs - l.attr-index) ≤ vec_capacity l.passes;
}

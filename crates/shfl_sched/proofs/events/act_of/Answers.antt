use Rattle.std.proofs.Common.{◌≡◌, ◌+◌, ◌-◌, ◌∷◌, ◌++◌, List, ℕ, Some, length, take, drop, sym, ap, ◌∙◌, arith}
use Rattle.std.proofs.lemmas.List.{take_all, length-drop}
use Rattle.shfl_sched.specs.Lines.{act_named}
use Rattle.shfl_sched.specs.Spelling.{act_word}
use Rattle.shfl_sched.proofs.ActsAt.{act_there}
use Rattle.shfl_sched.proofs.events.act_of.Goals as goal

pub returns : goal.returns
returns c =
    let text = c.args.text.now in
    let behind : take (length text - (c.args.letters + 1)) (drop (c.args.letters + 1) text) ≡ drop (c.args.letters + 1) text =
    take_all _ _ (omega (arith, length-drop (c.args.letters + 1) text)) in
    let named : act_named (take c.args.letters text) ≡ Some c.in_ok-act.act = sym c.act_named.ensures ∙ c.in_ok-act.was in
    act_there text c.args.letters c.in_ok-act.act (omega (arith, c.if-letters-text.false)) c.if-text-letters-ne32.false named ∙ ap (λ (l : List ℕ). act_word c.in_ok-act.act ++ 32 ∷ l) (sym behind)

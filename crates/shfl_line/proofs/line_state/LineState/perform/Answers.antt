use Rattle.std.proofs.Common.{subst}
use Rattle.shfl_line.specs.declared.events.LineEvent.{LineEvent}
use Rattle.shfl_line.specs.declared.events.LineEvent.TheVariants.{Pick}
use Rattle.shfl_line.specs.Steps.{Admits}
use Rattle.shfl_line.proofs.Behind.{behind-inside}
use Rattle.shfl_line.proofs.line_state.LineState.perform.Goals as goal

pub detach-requires-clause-waits : goal.detach-requires-clause-waits
detach-requires-clause-waits c =
    let s = c.args.self.now in let who = c.in-Pick.who in
    let h : Admits c.args.limit s (Pick c.in-Pick.pass who) = subst (λ (e : LineEvent). Admits c.args.limit s e) c.in-Pick.is c.requires.admitted in
    behind-inside who h.0 s.line h.4.behind

use Rattle.std.proofs.Common.{◌<◌, length, ap, ◌∙◌, arith}
use Rattle.trace_text.specs.Traces.{call_of}
use Rattle.trace_text.proofs.OtherPlaces.{renumbers-more, renumbers-said, renumbers-named}
use Rattle.trace_text.proofs.renumbering.renumber.Goals as goal

pub loop-k-preserved : goal.loop-k-preserved
loop-k-preserved c =
    let now = c.loop-k.calls.items in
    let long = c.loop-k.invariant.long in
    let ok = c.loop-k.calls.ok.0 in
    let inside : c.loop-k.k < length now = omega (arith, long, ok, c.len-k-end.ensures) in
    renumbers-more c.args.workers c.args.policies c.args.places.now c.args.calls.now.items c.loop-k.k now _ inside c.renumbered.result
    (λ names others of a. c.renumbered.ensures.said names others of a ∙ ap (call_of names of) c.index.ensures) c.renumbered.ensures.named c.loop-k.invariant

pub returns-clause-said : goal.returns-clause-said
returns-clause-said c =
    let long = c.loop-k.invariant.long in
    let ok = c.args.calls.now.ok.0 in
    renumbers-said c.args.workers c.args.policies c.args.places.now c.args.calls.now.items c.loop-k.k c.loop-k.calls.items (omega (arith, long, ok, c.len-k-end.ensures)) c.loop-k.invariant

pub returns-clause-named : goal.returns-clause-named
returns-clause-named c =
    let long = c.loop-k.invariant.long in
    let ok = c.args.calls.now.ok.0 in
    renumbers-named c.args.workers c.args.policies c.args.places.now c.args.calls.now.items c.loop-k.k c.loop-k.calls.items (omega (arith, long, ok, c.len-k-end.ensures)) c.loop-k.invariant

use Rattle.std.proofs.Common.{◌≡◌, ◌+◌, ◌<◌, ◌∙◌, length, get_or, take, sym, ap, subst, arith}
use Rattle.std.proofs.lemmas.List.{take_all, get_or_default}
use Rattle.shfl_line.specs.declared.words.Attr.{Attr}
use Rattle.shfl_core.specs.Waiting.{rules}
use Rattle.shfl_core.proofs.Opening.{AreMade, made-lock, made-seen, one-more-made}
use Rattle.shfl_core.specs.Waiting.{fresh}
use Rattle.shfl_core.proofs.world.PlainWorld.open.Goals as goal

pub loop-attr-preserved : goal.loop-attr-preserved
loop-attr-preserved g c = let i = c.loop-attr.invariant in let h : c.loop-attr.attr-index < length c.args.attrs.now = c.loop-attr-test.true in
    let none : Attr = record { socket = 0; prio = 0; class = 0; kind = 0 } in
    let a : Attr = get_or c.args.attrs.now c.loop-attr.attr-index none in
    let here : a ≡ get_or c.args.attrs.now c.loop-attr.attr-index a = get_or_default c.args.attrs.now c.loop-attr.attr-index none a h in
    let pushed = c.push_reserved.ensures in record {
      number = ap (λ n. n + 1) i.number;
      passes = λ form idle. subst (λ l. AreMade g.W.Waiter.meaning (rules c.args.limit form) l (take (c.loop-attr.attr-index + 1) c.args.attrs.now)) (sym pushed.items)
          (one-more-made g.W.Waiter.meaning (rules c.args.limit form) c.loop-attr.passes.items c.args.attrs.now c.loop-attr.attr-index a c.make.result h here (i.passes form idle)
          (idle c.loop-attr.number a c.make.result c.make.ensures ∙ ap (λ n. fresh n a (rules c.args.limit form)) i.number));
      pass_room = let m = i.pass_room in let r = pushed.capacity in let n = pushed.len in omega (arith, h);
    }

pub invariant_of-result : goal.invariant_of-result
invariant_of-result g c = let i = c.loop-attr.invariant in let all = take_all c.loop-attr.attr-index c.args.attrs.now c.loop-attr-test.false in let idle = c.requires.idle in
    made-lock g.W.Waiter.meaning (rules c.args.limit idle.0) c.args.attrs.now c.in_ok-words.words.items c.loop-attr.passes.items c.requires.some c.requires.few c.in_ok-words.ensures
    (subst (λ l. AreMade g.W.Waiter.meaning (rules c.args.limit idle.0) c.loop-attr.passes.items l) all (i.passes idle.0 idle.1))

pub returns : goal.returns
returns g c = let i = c.loop-attr.invariant in let all = take_all c.loop-attr.attr-index c.args.attrs.now c.loop-attr-test.false in λ form idle.
    made-seen g.W.Waiter.meaning (rules c.args.limit form) c.args.attrs.now c.in_ok-words.words.items c.loop-attr.passes.items c.requires.some c.in_ok-words.ensures
    (subst (λ l. AreMade g.W.Waiter.meaning (rules c.args.limit form) c.loop-attr.passes.items l) all (i.passes form idle))

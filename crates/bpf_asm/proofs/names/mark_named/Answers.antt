use Rattle.std.proofs.Common.{◌+◌, ◌-◌, ◌/◌, ◌<◌, length, sym, arith}
use Rattle.bpf_asm.proofs.NameOrder.{before_up_to, not_before_from}
use Rattle.bpf_asm.proofs.Settling.{is_before_at, differ, alike, search_found, search_past, search_other}
use Rattle.bpf_asm.proofs.names.mark_named.Goals as goal

pub loop-low-preserved-then-is_before : goal.loop-low-preserved-then-is_before
loop-low-preserved-then-is_before c =
    let names = c.args.names.now in
    let middle = c.loop-low.low + (c.loop-low.high - c.loop-low.low) / 2 in
    let inside : middle < length names = omega arith in
    record {
      inside = (omega arith, omega arith);
      before = λ k d lt. before_up_to names c.requires c.args.name.now middle k d inside (omega (arith, lt))
          (is_before_at names middle d _ c.key_of-key.result c.args.name.now c.is_before.result _ inside c.key_of-key.ensures c.is_before.ensures c.if-is_before.true);
      behind = c.loop-low.invariant.behind;
    }

pub loop-low-preserved : goal.loop-low-preserved
loop-low-preserved c =
    let names = c.args.names.now in
    let middle = c.loop-low.low + (c.loop-low.high - c.loop-low.low) / 2 in
    let inside : middle < length names = omega arith in
    record {
      inside = (omega arith, omega arith);
      before = c.loop-low.invariant.before;
      behind = λ k d low lt. not_before_from names c.requires c.args.name.now middle k d lt low
          (is_before_at names middle d _ c.key_of-key.result c.args.name.now c.is_before.result _ inside c.key_of-key.ensures c.is_before.ensures c.if-is_before.false);
    }

pub returns-then-low-names : goal.returns-then-low-names
returns-then-low-names c marked m = sym (search_past c.args.names.now c.requires marked m c.args.name.now c.loop-low.low c.loop-low.invariant.before (omega arith))

pub returns-then-ne : goal.returns-then-ne
returns-then-ne c marked m =
    let inside : c.loop-low.low < length c.args.names.now = omega arith in
    sym (search_other c.args.names.now c.requires marked m c.args.name.now c.loop-low.low c.loop-low.invariant.before _ inside
    (c.loop-low.invariant.behind c.loop-low.low _ (omega arith) inside) (differ c.ne.result _ c.args.name.now c.ne.ensures c.if-ne.true))

pub returns : goal.returns
returns c marked m =
    let inside : c.loop-low.low < length c.args.names.now = omega arith in
    sym (search_found c.args.names.now c.requires marked m c.args.name.now c.loop-low.low c.loop-low.invariant.before _ inside (alike c.ne.result _ c.args.name.now c.ne.ensures c.if-ne.false))

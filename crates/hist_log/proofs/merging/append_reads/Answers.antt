use Rattle.std.proofs.Common.{◌≡◌, ◌+◌, ◌<◌, ◌++◌, [], eqb, map, length, get_or, sym, ap, subst, ◌∙◌, arith}
use Rattle.std.specs.List.{filter}
use Rattle.std.proofs.lemmas.List.{get_or-map}
use Rattle.std.proofs.Math.ListN.{length-map}
use Rattle.hist_log.specs.Merge.{StartsAt}
use Rattle.hist_log.proofs.Points.{TakenTo-more}
use Rattle.hist_log.proofs.merging.append_reads.Goals as goal

-- the list at k gives its reads of the point, and starts at the next one
pub loop-k-preserved : goal.loop-k-preserved
loop-k-preserved g c =
    let reads = c.args.reads.now in
    let k = c.loop-k.k in
    let in_range : k < length reads = omega arith in
    let here : c.deref.result.now ≡ get_or (map (λ v. v.items) reads) k [] =
    c.deref.ensures.value ∙ ap (λ v. v.items) c.index-reads-k.is ∙ sym (get_or-map (λ v. v.items) reads k c.index-reads-k.result [] in_range) in
    TakenTo-more (λ e. e.receipt) c.args.point (map (λ v. v.items) reads) c.args.merged.now.items c.loop-k.merged.items c.append_point.new.merged.items
    c.loop-k.starts k c.in_ok-starts.field-0 c.loop-k.invariant (rw length-map in_range)
    (c.in_ok-starts.ensures.appended ∙ ap (λ l. c.loop-k.merged.items ++ filter (λ e. eqb e.receipt c.args.point) l) here)
    (subst (λ l. StartsAt (λ e. e.receipt) (c.args.point + 1) l c.in_ok-starts.field-0) here c.in_ok-starts.ensures.end)

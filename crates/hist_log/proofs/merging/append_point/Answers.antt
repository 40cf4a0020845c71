use Rattle.std.proofs.Common.{◌≢◌, ◌+◌, ◌≤◌, ◌++◌, eqb, length, get_or, sym, ap, ◌∙◌, arith, append-nil}
use Rattle.std.specs.List.{AllWithin}
use Rattle.std.proofs.lemmas.Bool.Decides.{nat_tests}
use Rattle.std.proofs.lemmas.List.{get_or_default}
use Rattle.hist_log.proofs.Filters.{filter-take_none, filter-take_all}
use Rattle.hist_log.proofs.merging.append_point.Goals as goal

-- before the place where the list starts no read is of the point
pub loop-end-init : goal.loop-end-init
loop-end-init g c =
    let start = c.requires.start in
    record {
      in_range = start.within;
      since = omega arith;
      taken = sym (ap (λ xs. c.args.merged.now.items ++ xs)
          (filter-take_none (λ e. eqb e.receipt c.args.point) c.args.reads.now c.args.start
          (λ k d from below. let h = start.before k d from below in grind (arith, nat_tests))) ∙ append-nil c.args.merged.now.items);
      before = λ k d from below. let h = start.before k d from below in omega arith;
    }

-- where the read here is of a later point, so are those behind it
behind : (g : _) (c : goal.Else-reads-end g) → AllWithin (λ e. c.args.point + 1 ≤ e.receipt) c.args.reads.now c.loop-end.end (length c.args.reads.now)
behind g c k d from below =
    let this = c.requires.start.from c.loop-end.end d c.loop-end.invariant.since c.loop-end-test.true in
    let rises = c.requires.in_order c.loop-end.end k d from below in
    let same = ap (λ e. e.receipt) (get_or_default c.args.reads.now c.loop-end.end c.index-reads-end.result d c.loop-end-test.true) in
    let differs : (get_or c.args.reads.now c.loop-end.end d).receipt ≢ c.args.point = λ is. c.if-reads-end.false (same ∙ is) in
    omega arith

pub returns-else-reads-end-clause-end : goal.returns-else-reads-end-clause-end
returns-else-reads-end-clause-end g c = record {
  within = c.loop-end.invariant.in_range;
  before = c.loop-end.invariant.before;
  from = behind g c;
}

pub returns-else-reads-end-clause-appended : goal.returns-else-reads-end-clause-appended
returns-else-reads-end-clause-appended g c =
    c.loop-end.invariant.taken
    ∙ ap (λ xs. c.args.merged.now.items ++ xs)
    (filter-take_all (λ e. eqb e.receipt c.args.point) c.args.reads.now c.loop-end.end
    (λ k d from below. let h = behind g c k d from below in grind (arith, nat_tests)))

use Rattle.std.proofs.Common.{◌≡◌, ◌+◌, ◌++◌, [], ◌∷◌, map, drop, length, sym, ap, ◌∙◌, subst, arith}
use Rattle.std.specs.List.{flat_map}
use Rattle.std.specs.List.Sorted.{IsPermutation}
use Rattle.std.proofs.lemmas.List.{take_at}
use Rattle.hist_log.specs.History.{operations, state_left, IsLegal}
use Rattle.hist_log.specs.Merge.{AllStartAt}
use Rattle.hist_log.proofs.KeptOnce.{kept_once}
use Rattle.hist_log.proofs.LegalMerge.{legal_merge}
use Rattle.hist_log.proofs.Points.{point_merged, all_merged}
use Rattle.hist_log.proofs.ReadsLeave.{reads_leave_all}
use Rattle.hist_log.proofs.merging.merge.Goals as goal

pub loop-point-preserved : goal.loop-point-preserved
loop-point-preserved g c = record {
  told = point_merged (λ e. e.receipt) (map (λ v. v.items) c.args.reads.now) c.args.writes.now
      c.loop-point.merged.items c.append_reads.new.merged.items c.push.new.self.items c.loop-point.point c.index-writes-point.result
      c.loop-point-test.true c.index-writes-point.is c.in_ok-append_reads.ensures.appended
      (c.in_ok-push.ensures.items ∙ ap (λ e. c.append_reads.new.merged.items ++ e ∷ []) c.copy.ensures) c.loop-point.invariant.told;
  starts =
      let as_many : length c.append_reads.new.starts ≡ c.loop-point.starts.len = omega arith in
      let back = take_at c.append_reads.new.starts (drop (length c.append_reads.new.starts) c.loop-point.starts.items) c.loop-point.starts.len as_many in
      subst (AllStartAt (λ e. e.receipt) (c.loop-point.point + 1) (map (λ v. v.items) c.args.reads.now)) (sym back) c.in_ok-append_reads.ensures.starts;
}

pub append_reads-requires-2-clause-starts : goal.append_reads-requires-2-clause-starts
append_reads-requires-2-clause-starts g c =
    let end : c.loop-point.point ≡ length c.args.writes.now = omega arith in
    let lists = map (λ v. v.items) c.args.reads.now in
    subst (AllStartAt (λ e. e.receipt) (length c.args.writes.now) lists) (sym c.deref_mut-2.ensures.value)
    (subst (λ n. AllStartAt (λ e. e.receipt) n lists c.loop-point.starts.items) end c.loop-point.invariant.starts)

pub returns-clause-order : goal.returns-clause-order
returns-clause-order g c =
    all_merged (λ e. e.receipt) (map (λ v. v.items) c.args.reads.now) c.args.writes.now
    c.loop-point.merged.items c.append_reads-2.new.merged.items c.loop-point.point (omega arith) c.in_ok-append_reads-2.ensures.appended c.loop-point.invariant.told

pub returns-clause-once : goal.returns-clause-once
returns-clause-once g c =
    subst (λ l. IsPermutation (c.args.writes.now ++ flat_map (λ v. v.items) c.args.reads.now) l) (sym (returns-clause-order g c))
    (kept_once (λ e. e.receipt) (λ v. v.items) c.args.writes.now c.args.reads.now c.requires.within)

pub returns-clause-legal : goal.returns-clause-legal
returns-clause-legal g c state writes_legal fits =
    let O = g.O.Object in
    subst (λ l. IsLegal O.reply_at O.state_after state (operations O.call_numbers O.reply_numbers l)) (sym (returns-clause-order g c))
    (legal_merge O.call_numbers O.reply_numbers O.reads O.reply_at O.state_after g.met.O.Object.reads_leave (map (λ v. v.items) c.args.reads.now) state c.args.writes.now writes_legal fits)

pub returns-clause-state : goal.returns-clause-state
returns-clause-state g c state are =
    let O = g.O.Object in
    ap (λ l. state_left O.state_after state (operations O.call_numbers O.reply_numbers l)) (returns-clause-order g c)
    ∙ reads_leave_all O.call_numbers O.reply_numbers O.reads O.state_after g.met.O.Object.reads_leave state c.args.writes.now (map (λ v. v.items) c.args.reads.now) are

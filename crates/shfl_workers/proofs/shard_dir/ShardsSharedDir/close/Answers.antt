use Rattle.std.proofs.Common.{◌≡◌, List, get_or, All, map, length, refl, sym, ap, ◌∙◌, subst, arith}
use Rattle.dir_table.specs.Directory.{Directory}
use Rattle.dir_table.specs.Numbers.{call_numbers, reply_numbers, state_numbers, call_from}
use Rattle.dir_table.specs.Meanings.{state_after, IsAdmitted, Admits}
use Rattle.dir_table.specs.ObjectLaws.{call_again}
use Rattle.hist_log.specs.History.{operations, state_left}
use Rattle.shard_rows.specs.Replay.{DirEntry}
use Rattle.trace_text.specs.Histories.{beginning}
use Rattle.shfl_line.specs.declared.events.Form.TheVariants.{Park}
use Rattle.shfl_line.specs.Words.{attr_word}
use Rattle.shfl_table.specs.PassModel.{BoardId}
use Rattle.dir_shards.specs.Commits.{IsLegalFor}
use Rattle.shfl_workers.proofs.Numbered.{each_of_dir, everyone, element_at, of_all}
use Rattle.shfl_workers.proofs.LockRuns.{ran_for}
use Rattle.shfl_workers.proofs.ShardEnding.{journal_has_all}
use Rattle.shfl_workers.proofs.Histories.{few_entries, is_history}
use Rattle.shfl_workers.proofs.shard_dir.ShardsSharedDir.close.Goals as goal

pub close-rows-requires-clause-dir : goal.close-rows-requires-clause-dir
close-rows-requires-clause-dir c = each_of_dir _ _ _ _ c.args.passes.items c.requires.passes

pub close-rows-requires-clause-all : goal.close-rows-requires-clause-all
close-rows-requires-clause-all c =
    let n = c.requires.count in let ok = c.args.passes.ok.0 in let w = c.requires.opened.allowed in
    everyone _ _ _ _ c.args.passes.items c.requires.passes (length c.args.self.locks.allowed) (omega (arith, n, ok, w))

pub legal-requires-clause-spare : goal.legal-requires-clause-spare
legal-requires-clause-spare c =
    let e = c.close-rows.ensures in let n = c.requires.count in let ok = c.args.passes.ok.0 in
    let all = journal_has_all c.args.trace.now c.requires.within c.args.self.locks c.args.passes.items (omega (arith, n, ok)) c.requires.opened.allowed c.requires.passes
    c.close-rows.result.1.items e.seen e.nobody_else in
    let few = few_entries c.args.trace.now c.requires.within c.close-rows.result.1.items all in
    let long = ap length c.as_slice.ensures.value in let spare = ap (λ (d : Directory). d.spare) c.requires.opened.replica in omega (arith, few, long, spare)

pub legal-requires-clause-admitted : goal.legal-requires-clause-admitted
legal-requires-clause-admitted c =
    let journal : List DirEntry = c.close-rows.result.1.items in
    let room : c.args.self.locks.room ≡ c.args.self.replica.room = c.requires.opened.room ∙ sym (ap (λ (d : Directory). d.room) c.requires.opened.replica) in
    subst (λ (l : List DirEntry). All (λ e. Admits (state_numbers c.args.self.replica) (call_numbers e.call)) l) (sym c.as_slice.ensures.value)
    (λ i d lt.
    let call = (get_or journal i d).call in
    subst (λ n. IsAdmitted n (call_from (call_numbers call))) room (subst (IsAdmitted c.args.self.locks.room) (sym (call_again call)) (c.close-rows.ensures.admitted i d lt)))

pub returns-clause-history : goal.returns-clause-history
returns-clause-history c =
    let t = c.args.trace.now in let e = c.close-rows.ensures in let n = c.requires.count in let ok = c.args.passes.ok.0 in
    let journal : List DirEntry = c.close-rows.result.1.items in
    let all = journal_has_all t c.requires.within c.args.self.locks c.args.passes.items (omega (arith, n, ok)) c.requires.opened.allowed c.requires.passes journal e.seen e.nobody_else in
    let start : state_numbers c.args.self.replica ≡ state_numbers (beginning t) = ap state_numbers c.requires.opened.replica in
    let same : c.as_slice.result.now ≡ journal = c.as_slice.ensures.value in
    is_history t c.requires.within journal all c.legal.new.object (subst (λ n. IsLegalFor n journal) c.requires.opened.room e.legal).history
    (c.legal.ensures.state ∙ (λ j. state_left state_after (start j) (operations call_numbers reply_numbers (same j))))

pub returns-clause-ran : goal.returns-clause-ran
returns-clause-ran c dir below =
    let o = c.requires.opened in let locks = c.args.self.locks.locks in let many = o.count in
    let lock = element_at locks dir (omega (arith, below, many)) in
    let r = (c.close-rows.ensures.run dir lock.0 lock.1).run in
    ran_for _ _ _ _ _ _ _ (of_all (λ (l : BoardId). l.rules ≡ record { limit = 1024; form = Park }) locks o.rules dir lock.0 lock.1)
    (of_all (λ (l : BoardId). l.attrs ≡ map attr_word c.args.trace.now.workers.items) locks o.attrs dir lock.0 lock.1) r.opened refl r.ran

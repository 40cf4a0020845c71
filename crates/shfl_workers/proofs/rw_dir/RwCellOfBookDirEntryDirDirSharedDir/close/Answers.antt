use Rattle.std.proofs.Common.{◌≡◌, List, Vec, Global, map, length, Option, IfSome, sym, ap, ◌∙◌, subst, arith}
use Rattle.std.proofs.lemmas.List.Elements.{All-pop}
use Rattle.dir_table.specs.declared.dir.Dir.{Dir}
use Rattle.dir_table.specs.declared.calls.DirCall.{DirCall}
use Rattle.dir_table.specs.declared.calls.DirReply.{DirReply}
use Rattle.dir_table.specs.Directory.{Directory}
use Rattle.dir_table.specs.Numbers.{call_numbers, reply_numbers, state_numbers}
use Rattle.dir_table.specs.Meanings.{reply_at, state_after, Reads}
use Rattle.hist_log.specs.declared.entry.Entry.{Entry}
use Rattle.hist_log.specs.History.{IsLegal, operations, state_left}
use Rattle.hist_log.specs.Merge.{merged, AreInOrder, ReadsFit}
use Rattle.shfl_workers.proofs.Numbered.{each_of_dir, everyone}
use Rattle.shfl_workers.specs.Receipts.{CountWrites}
use Rattle.shfl_workers.proofs.Ending.{merged_is, receipts_are, writes_are}
use Rattle.shfl_workers.proofs.LockRuns.{ran_for}
use Rattle.shfl_workers.proofs.WritesMade.{written}
use Rattle.shfl_workers.proofs.rw_dir.RwCellOfBookDirEntryDirDirSharedDir.close.Goals as goal

abbrev E : Type 0
E = Entry Dir DirCall DirReply

pub close-dirs-requires-clause-cell : goal.close-dirs-requires-clause-cell
close-dirs-requires-clause-cell c = each_of_dir _ _ _ _ c.args.passes.items c.requires.passes

pub close-dirs-requires-clause-all : goal.close-dirs-requires-clause-all
close-dirs-requires-clause-all c =
    let n = c.requires.count in let ok = c.args.passes.ok.0 in let w = c.requires.opened.count in
    everyone _ _ _ _ c.args.passes.items c.requires.passes c.args.self.count (omega (arith, n, ok, w))

pub merge-requires-clause-in_order : goal.merge-requires-clause-in_order
merge-requires-clause-in_order c =
    subst (λ (l : List (Vec E Global)). AreInOrder (λ (e : E). e.receipt) (map (λ (v : Vec E Global). v.items) l)) (sym c.as_slice-2.ensures.value) c.close-dirs.ensures.reads.in_order

pub returns-clause-history : goal.returns-clause-history
returns-clause-history c =
    let t = c.args.trace.now in let cell = c.args.self in let passes = c.args.passes in
    let writes : List E = c.close-dirs.result.1.items in let lists : List (Vec E Global) = c.close-dirs.result.2.items in
    let reads : List (List E) = map (λ (v : Vec E Global). v.items) lists in
    let w = c.close-dirs.ensures.writes in let r = c.close-dirs.ensures.reads in
    let P : Directory → Type 0 = λ d. state_numbers d ≡ state_left state_after cell.opening (operations call_numbers reply_numbers writes) in
    let popped = All-pop P c.close-dirs.result.0.items c.pop.new.self.items c.pop.result c.pop.ensures.items c.close-dirs.ensures.copies.1 in
    let dir = subst (λ (o : Option Directory). IfSome o P) c.in-Some.is popped.1 in
    let same_writes = c.as_slice.ensures.value in let same_lists = c.as_slice-2.ensures.value in
    let legal = c.in-Ok.ensures.legal cell.opening
    (subst (λ (l : List E). IsLegal reply_at state_after cell.opening (operations call_numbers reply_numbers l)) (sym same_writes) w.legal)
    (subst (λ (l : List E). ReadsFit call_numbers reply_numbers Reads reply_at state_after cell.opening l (map (λ (v : Vec E Global). v.items) c.as_slice-2.result.now)) (sym same_writes)
    (subst (λ (l : List (Vec E Global)). ReadsFit call_numbers reply_numbers Reads reply_at state_after cell.opening writes (map (λ (v : Vec E Global). v.items) l)) (sym same_lists) r.fit)) in
    let order = c.in-Ok.ensures.order ∙ (λ j. merged (λ (e : E). e.receipt) (same_writes j) (map (λ (v : Vec E Global). v.items) (same_lists j))) in
    let many : length passes.items ≡ length t.workers.items = (let n = c.requires.count in let ok = passes.ok.0 in omega (arith, n, ok)) in
    merged_is t c.requires.within cell c.requires.opened passes.items many c.requires.passes writes reads w r c.in-Some.dir c.in-Ok.history.items order legal dir

pub returns-clause-receipts : goal.returns-clause-receipts
returns-clause-receipts c =
    let t = c.args.trace.now in let passes = c.args.passes in
    let writes : List E = c.close-dirs.result.1.items in let reads : List (List E) = map (λ (v : Vec E Global). v.items) c.close-dirs.result.2.items in
    let same_writes = c.as_slice.ensures.value in let same_lists = c.as_slice-2.ensures.value in
    let order = c.in-Ok.ensures.order ∙ (λ j. merged (λ (e : E). e.receipt) (same_writes j) (map (λ (v : Vec E Global). v.items) (same_lists j))) in
    let many : length passes.items ≡ length t.workers.items = (let n = c.requires.count in let ok = passes.ok.0 in omega (arith, n, ok)) in
    subst CountWrites (sym order) (receipts_are t c.requires.within c.args.self c.requires.opened passes.items many c.requires.passes writes reads c.close-dirs.ensures.writes c.close-dirs.ensures.reads)

pub returns-clause-ran : goal.returns-clause-ran
returns-clause-ran c =
    let t = c.args.trace.now in let passes = c.args.passes in let o = c.requires.opened in let r = c.close-dirs.ensures.run.run in
    let writes : List E = c.close-dirs.result.1.items in let reads : List (List E) = map (λ (v : Vec E Global). v.items) c.close-dirs.result.2.items in
    let same_writes = c.as_slice.ensures.value in let same_lists = c.as_slice-2.ensures.value in
    let order = c.in-Ok.ensures.order ∙ (λ j. merged (λ (e : E). e.receipt) (same_writes j) (map (λ (v : Vec E Global). v.items) (same_lists j))) in
    let many : length passes.items ≡ length t.workers.items = (let n = c.requires.count in let ok = passes.ok.0 in omega (arith, n, ok)) in
    let made = ap written order ∙ writes_are t c.requires.within c.args.self o passes.items many c.requires.passes writes reads c.close-dirs.ensures.writes c.close-dirs.ensures.reads in
    ran_for _ _ _ _ _ _ _ o.rules o.attrs r.opened (sym made) r.ran

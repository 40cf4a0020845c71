use Rattle.std.proofs.Common.{◌<◌, ◌≤◌, length, map, sum, slice_index, slice_index_or, refl, sym, ap, ◌∙◌, subst, arith}
use Rattle.shfl_line.specs.Words.{attr_word}
use Rattle.rw_cell.specs.RwCells.{fresh, no_attr}
use Rattle.shfl_workers.proofs.Opening.{all_alike, first_empty, enough_left}
use Rattle.shfl_workers.proofs.Numbered.{each_place}
use Rattle.shfl_workers.proofs.rw_dir.RwCellOfBookDirEntryDirDirSharedDir.open.Goals as goal

pub open-requires-clause-alike : goal.open-requires-clause-alike
open-requires-clause-alike c = all_alike c.args.trace.now c.in_ok-dirs.dirs.items c.in_ok-dirs.ensures.empty

pub open-requires-clause-spare : goal.open-requires-clause-spare
open-requires-clause-spare c =
    let few = subst (λ l. sum l ≤ length c.args.trace.now.calls.items) (sym c.as_slice-counts.ensures.value) c.in_ok-shares.ensures.few in
    enough_left c.args.trace.now _ c.in_ok-dirs.dirs.items few c.in_ok-dirs.ensures.empty

pub returns-clause-opened : goal.returns-clause-opened
returns-clause-opened c =
    let e = c.in-Ok.ensures.cell in let dirs = c.in_ok-dirs.dirs in
    let some : 0 < length dirs.items = (let n = c.in_ok-dirs.ensures.len in let w = c.requires.workers.0 in let ok = dirs.ok.0 in omega (arith, n, w, ok)) in record {
      count = e.0 ∙ ap length c.as_slice-counts.ensures.value ∙ c.in_ok-shares.ensures.as_many;
      opening = e.1 ∙ first_empty c.args.trace.now dirs.items some c.in_ok-dirs.ensures.empty;
      rules = c.in-Ok.ensures.rules;
      attrs = c.in-Ok.ensures.attrs ∙ ap (map attr_word) c.as_slice-attrs.ensures.value;
    }

pub returns-clause-room : goal.returns-clause-room
returns-clause-room c =
    let e = c.in-Ok.ensures.cell in let dirs = c.in_ok-dirs.dirs in
    let some : 0 < length dirs.items = (let n = c.in_ok-dirs.ensures.len in let w = c.requires.workers.0 in let ok = dirs.ok.0 in omega (arith, n, w, ok)) in
    ap (λ s. slice_index s 0) (e.1 ∙ first_empty c.args.trace.now dirs.items some c.in_ok-dirs.ensures.empty)

pub returns-clause-passes : goal.returns-clause-passes
returns-clause-passes c =
    let sh = c.in_ok-shares.ensures in let cell = c.in-Ok.opened.0 in let passes = c.in-Ok.opened.1 in
    let counts = c.as_slice-counts.ensures.value in
    let n = c.in-Ok.ensures.count in let ok = passes.ok.0 in let many = ap length counts ∙ sh.as_many in
    each_place _ (λ k. fresh cell k (slice_index c.as_slice-counts.result.now k) (slice_index_or c.as_slice-attrs.result.now k no_attr)) passes.items
    (λ k lt. c.in-Ok.ensures.passes k (omega (arith, lt, ok)))
    (λ k lt. record {
      of_dir = (refl, refl);
      number_is = refl;
      none_made = (refl, tt);
      left_is = ap (λ l. slice_index l k) counts ∙ sh.each k (omega (arith, lt, ok, n, many));
    })

use Rattle.std.proofs.Common.{arith, ◌≡◌, ℕ, sym, refl, ap, ◌∙◌, subst, set, slice_get, length-set, List, [], ◌∷◌, ◌++◌, Some}
use Rattle.shfl_table.specs.PassModel.{PassModel}
use Rattle.hist_log.specs.History.{state_left}
use Rattle.shfl_table.specs.Books.{BookModel, pack, opening_of, operations_of}
use Rattle.rw_cell.specs.RwCells.{write_after}
use Rattle.rw_cell.proofs.Copies.{SplitAt, split-at, split-more, split-all, set-map, get-map, all-common}
use Rattle.rw_cell.proofs.writes.write_and_free.Goals as goal

-- a copy with the write, and one without
abbrev Written : (List ℕ → List ℕ → List ℕ) → (List ℕ → List ℕ → List ℕ) → List ℕ → PassModel BookModel → BookModel → Type 0
Written reply_at state_after call t x = (pack x.opening x.allowed ≡ t.initial_state) × (x.history ≡ t.history ++ write_after reply_at state_after t call ∷ [])

abbrev Unwritten : PassModel BookModel → BookModel → Type 0
Unwritten t x = (pack x.opening x.allowed ≡ t.initial_state) × (x.history ≡ t.history)

pub write_copy-reply-requires-clause-within : goal.write_copy-reply-requires-clause-within
write_copy-reply-requires-clause-within g c = let w = c.requires.within in let some_place = c.requires.some in
    let x = split-at (Unwritten c.args.pass.now) (Unwritten c.args.pass.now) 0 w.0 (omega arith) w.3 in (x.0, ap (λ l. slice_get l 0) w.1 ∙ get-map w.0 0 x.0 x.1, x.2.0, x.2.1)

pub loop-k-init : goal.loop-k-init
loop-k-init g c = let O = g.O.Object in let call = O.call_numbers c.args.call.now in let w = c.requires.within in let some_place = c.requires.some in let old = c.args.pass.now in
    let e = c.write_copy-reply.ensures.pass in let y = e.0 in (
      refl,
      (
        set w.0 0 y,
        ap (λ (z : PassModel BookModel). z.values) e.1 ∙ ((λ i. set (w.1 i) 0 (Some y)) ∙ set-map w.0 0 y),
        length-set w.0 0 y ∙ w.2,
        subst (λ (t : PassModel BookModel). SplitAt 1 (Written O.reply_at O.state_after call t) (Unwritten t) (set w.0 0 y)) (sym e.1)
            (split-more (Written O.reply_at O.state_after call old) (Unwritten old) 0 w.0 y (omega arith) (e.2, e.3) w.3),
      ),
    )

pub follow_copy-requires-clause-within : goal.follow_copy-requires-clause-within
follow_copy-requires-clause-within g c = let O = g.O.Object in let call = O.call_numbers c.args.call.now in let i = c.loop-k.invariant in let first = c.write_copy-reply.new.pass in let k : ℕ = c.loop-k.k in let test = c.loop-k-test.true in let long = i.1.2 in
    let x = split-at (Written O.reply_at O.state_after call first) (Unwritten first) k i.1.0 (omega arith) i.1.3 in
    let q = subst (λ (t : PassModel BookModel). Unwritten t x.0) (sym i.0) x.2 in (x.0, ap (λ l. slice_get l k) i.1.1 ∙ get-map i.1.0 k x.0 x.1, q.0, q.1)

pub follow_copy-requires-clause-answered : goal.follow_copy-requires-clause-answered
follow_copy-requires-clause-answered g c = let O = g.O.Object in let call = O.call_numbers c.args.call.now in let i = c.loop-k.invariant in let e = c.write_copy-reply.ensures.pass in
    let start = sym (ap (λ (z : PassModel BookModel). z.initial_state) e.1) ∙ sym (ap (λ (z : PassModel BookModel). z.initial_state) i.0) in
    let told = sym (ap (λ (z : PassModel BookModel). z.history) e.1) ∙ sym (ap (λ (z : PassModel BookModel). z.history) i.0) in
    c.write_copy-reply.ensures.reply ∙ (λ j. O.reply_at (state_left O.state_after (opening_of (start j)) (operations_of (told j))) call)

pub loop-k-preserved : goal.loop-k-preserved
loop-k-preserved g c = let O = g.O.Object in let call = O.call_numbers c.args.call.now in let i = c.loop-k.invariant in let first = c.write_copy-reply.new.pass in let k : ℕ = c.loop-k.k in let test = c.loop-k-test.true in let long = i.1.2 in let cur = c.loop-k.pass in
    let e = c.follow_copy.ensures.pass in let y = e.0 in (
      e.1 ∙ ((λ j. record (i.0 j) { values = set cur.values k (Some y) }) ∙ (λ j. record first { values = sym (ap (λ (z : PassModel BookModel). z.values) e.1) j })),
      (
        set i.1.0 k y,
        ap (λ (z : PassModel BookModel). z.values) e.1 ∙ ((λ j. set (i.1.1 j) k (Some y)) ∙ set-map i.1.0 k y),
        length-set i.1.0 k y ∙ i.1.2,
        split-more (Written O.reply_at O.state_after call first) (Unwritten first) k i.1.0 y (omega arith) (subst (λ (t : PassModel BookModel). Written O.reply_at O.state_after call t y) i.0 (e.2, e.3)) i.1.3,
      ),
    )

pub free-requires-clause-within : goal.free-requires-clause-within
free-requires-clause-within g c = let O = g.O.Object in let call = O.call_numbers c.args.call.now in let i = c.loop-k.invariant in let first = c.write_copy-reply.new.pass in let k : ℕ = c.loop-k.k in let test = c.loop-k-test.false in let stop = c.loop-k.auto.k-end in let long = i.1.2 in let some_place = c.requires.some in
    let all = split-all (Written O.reply_at O.state_after call first) (Unwritten first) k i.1.0 (omega arith) i.1.3 in (
      i.1.0,
      i.1.1,
      all-common (λ (x : BookModel). pack x.opening x.allowed ≡ first.initial_state) (λ (x : BookModel). x.history) (first.history ++ write_after O.reply_at O.state_after first call ∷ []) c.loop-k.pass.history i.1.0 all,
    )

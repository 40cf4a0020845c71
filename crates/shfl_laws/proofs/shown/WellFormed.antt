-- The state that a lawful world shows is well formed.
use Rattle.std.proofs.Common.{◌≡◌, ℕ, suc, ◌+◌, ◌<◌, ◌≤◌, ◌⊎◌, List, [], ◌∷◌, Bool, true, false, cond, ◌==◌, ◌&&◌, not, ap, ◌∙◌, inl, inr, arith}
use Rattle.std.proofs.lemmas.Bool.Decides.{nat_tests}
use Rattle.shfl_line.specs.declared.events.Mode.{Mode}
use Rattle.shfl_line.specs.Line.{Line, mark_of, is_write, writer_count, reader_count, holds, IsOfPasses, IsWellFormed}
use Rattle.shfl_line.specs.Words.{link_word}
use Rattle.shfl_line.specs.Passes.{times, last_marked, EachPair, MarkedFirst, IsLastMarked}
use Rattle.shfl_line.proofs.Chain
use Rattle.shfl_line.proofs.Marks
use Rattle.shfl_core.specs.declared.phase.PassState.{PassState}
use Rattle.shfl_core.specs.Phases.{is_queued, is_holding}
use Rattle.shfl_core.specs.View.{View}
use Rattle.shfl_core.specs.Holding.{Holding, write_of, read_of}
use Rattle.shfl_core.specs.Lawful.{Terms, count, Agrees}
use Rattle.shfl_laws.proofs.rows.Counts.{not-holding}
use Rattle.shfl_laws.proofs.rows.Losing.{holds-split}

-- the batch's last, as the last pass with a number
pub last-number : (m : ℕ → ℕ) (l : ℕ) (line : List ℕ) → EachPair (MarkedFirst m) line → ((q : ℕ) → times q line ≤ 1) → IsLastMarked m line l → last_marked m line ≡ suc l
last-number m l [] c o e = absurd (let i = e.inside in omega arith)
last-number m l (x ∷ xs) c o e = Marks.last-is m x l xs c e.stops o e.inside e.marked

-- nobody holds twice
pub held-once : (n : ℕ) (held : Bool) (readers : ℕ) (pass : ℕ → PassState) (hold : List (ℕ × Mode)) → Holding n held readers pass hold → (q : ℕ) → holds q hold ≤ 1
held-once n held readers pass hold h q = let a = h.writer q in let b = h.reader q in let c = holds-split q hold in by (is_holding (pass q).phase) (is_write (pass q).reg.mode) a b c
  where
    by : (x y : Bool) → write_of q hold ≡ cond (x && y) 1 0 → read_of q hold ≡ cond (x && not y) 1 0 → holds q hold ≡ write_of q hold + read_of q hold → holds q hold ≤ 1
    by true true a b c = omega arith
    by true false a b c = omega arith
    by false true a b c = omega arith
    by false false a b c = omega arith

-- a pass at a holding phase holds
pub held-some : (n : ℕ) (held : Bool) (readers : ℕ) (pass : ℕ → PassState) (hold : List (ℕ × Mode)) → Holding n held readers pass hold → (q : ℕ) → is_holding (pass q).phase ≡ true → 0 < holds q hold
held-some n held readers pass hold h q e = let c = holds-split q hold in by (is_write (pass q).reg.mode)
    (h.writer q ∙ (λ j. cond (e j && is_write (pass q).reg.mode) 1 0)) (h.reader q ∙ (λ j. cond (e j && not (is_write (pass q).reg.mode)) 1 0)) c
  where
    by : (y : Bool) → write_of q hold ≡ cond (true && y) 1 0 → read_of q hold ≡ cond (true && not y) 1 0 → holds q hold ≡ write_of q hold + read_of q hold → 0 < holds q hold
    by true a b c = omega arith
    by false a b c = omega arith

pub agrees-well-formed : (t : Terms) (w : View) (s : Line) (g : ℕ) → IsOfPasses (count t) s → Agrees t w s g → IsWellFormed t.rules.limit s
agrees-well-formed t w s g of a = let o = a.order in let k = a.grouping in let h = a.holding in record {
  alone = by w.held h.word;
  holds_once = held-once (count t) w.held w.readers w.pass s.hold h;
  waits_once = of.once;
  in_line = in-line;
  prefix = k.prefix;
  within = k.within;
  idle = λ q e. last-number (mark_of s) q s.line k.prefix (λ z. let u = of.once z in omega arith) (k.rests q e);
  active = λ q e. let u = k.walker q e in (u.1, not-holding (count t) w.held w.readers w.pass s.hold h q (let r = u.0 in grind arith));
  attached = λ e. ap link_word (o.still e);
}
  where
    by : (b : Bool) → writer_count s.hold ≡ cond b 1 0 → (writer_count s.hold ≡ 0) ⊎ ((writer_count s.hold ≡ 1) × (reader_count s.hold ≡ 0))
    by true e = inr (e, a.holding.alone (omega arith))
    by false e = inl e

    in-line : (q : ℕ) → 0 < mark_of s q → 0 < times q s.line
    in-line q m = let x = a.grouping.mark q in let y = a.order.stands q in let z = a.grouping.hand q in stand (is_queued (w.pass q)) x y
      where
        stand : (b : Bool) → mark_of s q ≡ cond b (w.node q).batch 0 → times q s.line + cond (link_word s.hand == suc q) 1 0 ≡ cond b 1 0 → 0 < times q s.line
        stand false x y = absurd (omega arith)
        stand true x y = Chain.by_eq (link_word s.hand) (suc q) (λ e. absurd (let c = a.grouping.hand q e in omega arith)) (λ n. grind (arith, nat_tests))

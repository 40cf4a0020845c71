-- The order and the grouping after a store of one next word that leaves each pass in its place.
use Rattle.std.proofs.Common.{◌≡◌, ◌≢◌, ℕ, suc, ◌+◌, ◌<◌, List, true, false, cond, ◌==◌, refl, sym, ap, ◌∙◌, arith}
use Rattle.std.specs.Prelude.{Option, None}
use Rattle.shfl_line.specs.Line.{Line, mark_of, active_shuffler, idle_shuffler}
use Rattle.shfl_line.specs.Words.{link_word}
use Rattle.shfl_line.specs.declared.events.Role.{Role}
use Rattle.shfl_core.specs.declared.phase.Phase.TheVariants.{Swap, Begin, Give}
use Rattle.shfl_line.specs.Passes.{updated, times, first, last, EachPair, MarkedFirst, IsLastMarked}
use Rattle.shfl_core.specs.declared.phase.PassState.{PassState}
use Rattle.shfl_core.specs.Phases.{is_round, is_queued, is_linking, knows}
use Rattle.shfl_core.specs.View.{View}
use Rattle.shfl_core.specs.Order.{Order as Ordered, Round, Follows, Walks}
use Rattle.shfl_core.specs.Grouping.{Grouping}
use Rattle.shfl_line.proofs.Chain
use Rattle.shfl_laws.proofs.rows.Order
use Rattle.shfl_laws.proofs.rows.Quiet.{Quiet, quiet-queued, quiet-linking, quiet-fronted}

abbrev pub relinked : View → ℕ → ℕ → ℕ → PassState → View
relinked w i u p v = record w { next = updated w.next i u; pass = updated w.pass p v }

module _ (w : View) (s : Line) (g i u p : ℕ) (v : PassState) (o : Ordered w s g) (k : Quiet (w.pass p) v) where
  -- a pair of neighbours whose first is not the pass whose word is written
  pub relink-follows : (a b : ℕ) → a ≢ i → Follows w a b → Follows (relinked w i u p v) a b
  relink-follows a b n f = record {
    word = Chain.updated-else w.next i a u n ∙ (f.word ∙ ap (λ z. cond z 0 (suc b)) (sym (quiet-linking w s g w.held w.closed w.readers w.node p v o k (λ q. refl) b)));
    late = Chain.updated-all (λ q t. Follows w a q → is_linking t.phase ≡ true → t.reg.before ≡ a) w.pass p v (λ e l. let m = k.no_link in grind arith) (λ q m e. e.late) b f;
  }

  pub relink-order : (line : List ℕ) (hand : Option ℕ) → is_queued (w.pass i) ≡ true → first line ≡ first s.line
      → Walks (relinked w i u p v) line
      → ((q : ℕ) → times q line + cond (link_word hand == suc q) 1 0 ≡ times q s.line + cond (link_word s.hand == suc q) 1 0)
      → ((q : ℕ) → is_linking (w.pass q).phase ≡ true → 0 < times q line)
      → (active_shuffler s.role ≡ 0 → hand ≡ None)
      → ((q : ℕ) → q ≢ p → is_round (w.pass q).phase ≡ true → ⊥)
      → (is_round v.phase ≡ true → Round (updated w.next i u) (mark_of s) w.tail line (link_word hand) v)
      → Ordered (relinked w i u p v) (record s { line = line; hand = hand }) g
  relink-order line hand qi same walks stands links still alone round =
      let f = quiet-fronted w s g w.held w.closed w.readers w.node p v o k (λ q. refl) in
      let queued = quiet-queued w s g w.held w.closed w.readers w.node p v o k (λ q. refl) in
      let linking = quiet-linking w s g w.held w.closed w.readers w.node p v o k (λ q. refl) in record {
        walks = walks;
        fronted = record {
          who = f.who;
          is = f.is;
          linking = f.linking;
          only = λ q e a. let t = f.only q e a in (same ∙ t.0, t.1);
          front = λ q e a. f.front q e (sym same ∙ a);
          heir = λ q e. let t = f.heir q e in (same ∙ t.0, t.1);
        };
        stands = λ q. stands q ∙ (o.stands q ∙ ap (λ b. cond b 1 0) (sym (queued q)));
        clean = λ q. record {
          next = Order.clean-next w p i u v q k.queued qi (o.clean q).next;
          init = Chain.updated-all (λ q t. t.phase ≡ Swap → ((w.node q).batch ≡ 0) × ((w.node q).shuffler ≡ false) × ((w.node q).ready ≡ false) × (t.reg.batch ≡ 0) × (t.reg.flag ≡ false)) w.pass p v
              (λ e. absurd (k.no_swap e)) (λ q m. (o.clean q).init) q;
        };
        links = λ q e. links q (sym (linking q) ∙ e);
        round = Chain.updated-all (λ q t. is_round t.phase ≡ true → Round (updated w.next i u) (mark_of s) w.tail line (link_word hand) t) w.pass p v round (λ q m e. absurd (alone q m e));
        still = still;
      }

pub walk-no-rest : (r : Role) (p q : ℕ) → active_shuffler r ≡ suc p → idle_shuffler r ≡ suc q → ⊥
walk-no-rest r p q a b = grind arith

-- a step inside a round that leaves mark_of and bits
pub relink-grouping : (limit : ℕ) (w : View) (s : Line) (i u p : ℕ) (v : PassState) (line : List ℕ) (hand : Option ℕ) → Grouping limit w s
    → is_round (w.pass p).phase ≡ true → is_round v.phase ≡ true → is_queued v ≡ is_queued (w.pass p) → knows (w.pass p).phase ≡ true
    → (v.reg.batch ≡ (w.pass p).reg.batch) × (v.reg.flag ≡ (w.pass p).reg.flag)
    → ((q : ℕ) → link_word hand ≡ suc q → mark_of s q ≡ 0)
    → EachPair (MarkedFirst (mark_of s)) line
    → IsLastMarked (mark_of s) line v.reg.last × (mark_of s v.reg.last ≡ v.reg.count) × (v.phase ≢ Give → v.reg.count < limit)
    → Grouping limit (relinked w i u p v) (record s { line = line; hand = hand })
relink-grouping limit w s i u p v line hand k rp rv queued kn same empty prefix last = record {
  begins = Chain.updated-all (λ q t. t.phase ≡ Begin → t.reg.flag ≡ false → (t.reg.headed ≡ true) × (t.reg.batch ≡ 0)) w.pass p v (λ h. absurd (grind arith)) (λ q m. k.begins q);
  mark = Chain.updated-all (λ q t. mark_of s q ≡ cond (is_queued t) (w.node q).batch 0) w.pass p v (k.mark p ∙ ap (λ b. cond b (w.node p).batch 0) (sym queued)) (λ q m. k.mark q);
  hand = empty;
  within = k.within;
  walks = Chain.updated-all (λ q t. is_round t.phase ≡ true → active_shuffler s.role ≡ suc q) w.pass p v (λ e. k.walks p rp) (λ q m. k.walks q);
  walker = Chain.updated-all (λ q t. active_shuffler s.role ≡ suc q → (is_round t.phase ≡ true) × (0 < mark_of s q)) w.pass p v (λ e. (rv, (k.walker p e).1)) (λ q m. k.walker q);
  flagged = Chain.updated-all (λ q t. is_queued t ≡ true → (w.node q).shuffler ≡ true → idle_shuffler s.role ≡ suc q) w.pass p v (λ e. k.flagged p (sym queued ∙ e)) (λ q m. k.flagged q);
  rester = λ q e. absurd (walk-no-rest s.role p q (k.walks p rp) e);
  prefix = prefix;
  rests = λ q e. absurd (walk-no-rest s.role p q (k.walks p rp) e);
  last = Chain.updated-all (λ q t. is_round t.phase ≡ true → IsLastMarked (mark_of s) line t.reg.last × (mark_of s t.reg.last ≡ t.reg.count) × (t.phase ≢ Give → t.reg.count < limit)) w.pass p v (λ _. last)
      (λ q m e. absurd (m (Order.alone limit w s p q k rp e)));
  known = Chain.updated-all (λ q t. knows t.phase ≡ true → (t.reg.batch ≡ (w.node q).batch) × (t.reg.flag ≡ (w.node q).shuffler)) w.pass p v (λ e. let t = k.known p kn in (same.0 ∙ t.0, same.1 ∙ t.1)) (λ q m. k.known q);
}

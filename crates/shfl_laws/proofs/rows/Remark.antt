-- The order and the batch's last are kept, where batch numbers go.
use Rattle.std.proofs.Common.{◌≡◌, ℕ, ◌<◌, List, [], ◌∷◌, ◌++◌, sym, ◌∙◌, inl, inr, ⊎_elim, arith}
use Rattle.std.specs.Prelude.{None, slice_index}
use Rattle.shfl_line.specs.declared.events.Role.{Role}
use Rattle.shfl_line.specs.Line.{Line, mark_of, active_shuffler}
use Rattle.shfl_line.specs.Words.{link_word}
use Rattle.shfl_line.specs.Passes.{times, EachPair, StopsAt, IsLastMarked}
use Rattle.shfl_line.proofs.Chain
use Rattle.shfl_line.proofs.Batches.{each-pair-map}
use Rattle.shfl_core.specs.declared.phase.PassState.{PassState}
use Rattle.shfl_core.specs.View.{View}
use Rattle.shfl_core.specs.Order.{Order as Ordered, Round}

-- whoever had no batch number has none
pub round-lower : (next m k : ℕ → ℕ) (tail : ℕ) (line : List ℕ) (hand : ℕ) (p : PassState) → ((q : ℕ) → m q ≡ 0 → k q ≡ 0) → Round next m tail line hand p → Round next k tail line hand p
round-lower next m k tail line hand p f r = record {
  prev_in = r.prev_in;
  prev_free = ⊎_elim (λ e. inl e) (λ e. inr (f p.reg.prev e)) r.prev_free;
  cand_next = r.cand_next;
  cand_inner = r.cand_inner;
  first_next = r.first_next;
  first_cand = r.first_cand;
  apart = r.apart;
  after_next = r.after_next;
  gap = r.gap;
  aimed = r.aimed;
  hand_is = r.hand_is;
  marking = λ e. let t = r.marking e in (t.0, f p.reg.cand t.1, t.2);
}

pub order-lower : (w : View) (s : Line) (g : ℕ) (role : Role) (mark : List ℕ) → ((q : ℕ) → mark_of s q ≡ 0 → slice_index mark q ≡ 0) → (active_shuffler role ≡ 0 → s.hand ≡ None)
    → Ordered w s g → Ordered w (record s { role = role; mark = mark }) g
order-lower w s g role mark f still o = record {
  walks = o.walks;
  fronted = o.fronted;
  stands = o.stands;
  clean = o.clean;
  links = o.links;
  round = λ q e. round-lower w.next (mark_of s) (slice_index mark) w.tail s.line (link_word s.hand) (w.pass q) f (o.round q e);
  still = still;
}

-- the batch's last stays so, where the numbers of the line's passes stay
pub last-same : (m k : ℕ → ℕ) (line : List ℕ) (l : ℕ) → ((q : ℕ) → 0 < times q line → m q ≡ k q) → IsLastMarked m line l → IsLastMarked k line l
last-same m k line l f e = record {
  inside = e.inside;
  marked = (let a = f l e.inside in let b = e.marked in omega arith);
  stops = each-pair-map (StopsAt m l) (StopsAt k l) line (λ a b _ j r i. sym (f b j) ∙ r i) e.stops;
}

-- and where a pass without a number joins
pub last-joined : (m : ℕ → ℕ) (line : List ℕ) (l p : ℕ) → m p ≡ 0 → IsLastMarked m line l → IsLastMarked m (line ++ p ∷ []) l
last-joined m line l p z e = record { inside = (let a = Chain.times-push l p line in let b = e.inside in omega arith); marked = e.marked; stops = stops line e.stops }
  where
    stops : (xs : List ℕ) → EachPair (StopsAt m l) xs → EachPair (StopsAt m l) (xs ++ p ∷ [])
    stops [] h = tt
    stops (x ∷ xs) h = Chain.chain-push (StopsAt m l) x p xs h (λ _. z)

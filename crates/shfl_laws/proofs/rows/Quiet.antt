-- The order and the grouping are kept, where a pass goes on in its place and no next word changes.
use Rattle.std.proofs.Common.{◌≡◌, ◌≢◌, ℕ, suc, ◌<◌, List, [], ◌∷◌, Bool, true, false, cond, refl, sym, ap, ◌∙◌, arith}
use Rattle.std.specs.Prelude.{None}
use Rattle.shfl_line.specs.Line.{Line, mark_of, active_shuffler, idle_shuffler}
use Rattle.shfl_line.specs.Words.{link_word}
use Rattle.shfl_line.specs.declared.events.Mode.{Mode}
use Rattle.shfl_line.specs.declared.events.Role.{Role}
use Rattle.shfl_core.specs.declared.phase.Phase.TheVariants.{Swap, Begin, Give, Ready}
use Rattle.shfl_line.specs.Passes.{updated, last, IsLastMarked}
use Rattle.shfl_line.specs.declared.words.NodeState.{NodeState}
use Rattle.shfl_core.specs.declared.phase.PassState.{PassState}
use Rattle.shfl_core.specs.Phases.{is_round, is_queued, is_fore, is_linking, knows}
use Rattle.shfl_core.specs.View.{View}
use Rattle.shfl_core.specs.Order.{Order as Ordered, Round, Follows, Walks, Fronted, is_head}
use Rattle.shfl_core.specs.Grouping.{Grouping}
use Rattle.shfl_line.proofs.Chain

-- a pass goes on in the same place: queued or not, front or not, and neither before nor after at Link, Ready or Swap
pub record Quiet (old new : PassState) : Type 0 where
  pub queued : is_queued new ≡ is_queued old
  pub fore : is_fore new ≡ is_fore old
  pub no_link : (is_linking old.phase ≡ false) × (is_linking new.phase ≡ false)
  pub no_ready : (old.phase ≢ Ready) × (new.phase ≢ Ready)
  pub no_swap : new.phase ≢ Swap

-- everything but next words and the tail word may change, and a node's ready bit must not
abbrev pub moved : View → Bool → Bool → ℕ → (ℕ → NodeState) → ℕ → PassState → View
moved w h c r n p v = record { held = h; closed = c; readers = r; tail = w.tail; next = w.next; node = n; attr = w.attr; bell = w.bell; pass = updated w.pass p v }

module _ (w : View) (s : Line) (g : ℕ) (h c : Bool) (r : ℕ) (n : ℕ → NodeState) (p : ℕ) (v : PassState)
    (o : Ordered w s g) (k : Quiet (w.pass p) v) (same : (q : ℕ) → (n q).ready ≡ (w.node q).ready) where
  pub quiet-follows : (a b : ℕ) → Follows w a b → Follows (moved w h c r n p v) a b
  quiet-follows a b f = record {
    word = Chain.updated-all (λ q t. Follows w a q → w.next a ≡ cond (is_linking t.phase) 0 (suc q)) w.pass p v (λ e. e.word ∙ (let l = k.no_link in grind (arith))) (λ q m e. e.word) b f;
    late = Chain.updated-all (λ q t. Follows w a q → is_linking t.phase ≡ true → t.reg.before ≡ a) w.pass p v (λ e l. let m = k.no_link in grind arith) (λ q m e. e.late) b f;
  }

  pub quiet-walks : (l : List ℕ) → Walks w l → Walks (moved w h c r n p v) l
  quiet-walks [] e = e
  quiet-walks (x ∷ xs) e = (Chain.chain-map (Follows w) (Follows (moved w h c r n p v)) x xs (λ a b _ _ f. quiet-follows a b f) e.0, e.1, e.2)

  pub quiet-queued : (q : ℕ) → is_queued (updated w.pass p v q) ≡ is_queued (w.pass q)
  quiet-queued = Chain.updated-all (λ q t. is_queued t ≡ is_queued (w.pass q)) w.pass p v k.queued (λ q m. refl)

  pub quiet-fore : (q : ℕ) → is_fore (updated w.pass p v q) ≡ is_fore (w.pass q)
  quiet-fore = Chain.updated-all (λ q t. is_fore t ≡ is_fore (w.pass q)) w.pass p v k.fore (λ q m. refl)

  pub quiet-linking : (q : ℕ) → is_linking (updated w.pass p v q).phase ≡ is_linking (w.pass q).phase
  quiet-linking = Chain.updated-all (λ q t. is_linking t.phase ≡ is_linking (w.pass q).phase) w.pass p v (k.no_link.1 ∙ sym k.no_link.0) (λ q m. refl)

  pub quiet-before : (q : ℕ) → is_linking (w.pass q).phase ≡ true → (updated w.pass p v q).reg.before ≡ (w.pass q).reg.before
  quiet-before = Chain.updated-all (λ q t. is_linking (w.pass q).phase ≡ true → t.reg.before ≡ (w.pass q).reg.before) w.pass p v (λ e. let m = k.no_link in grind arith) (λ q m e. refl)

  pub quiet-heir : (q : ℕ) → (w.pass q).phase ≡ Ready → (updated w.pass p v q).reg.heir ≡ (w.pass q).reg.heir
  quiet-heir = Chain.updated-all (λ q t. (w.pass q).phase ≡ Ready → t.reg.heir ≡ (w.pass q).reg.heir) w.pass p v (λ e. absurd (k.no_ready.0 e)) (λ q m e. refl)

  pub quiet-awake : (q : ℕ) → is_head (moved w h c r n p v) q ≡ is_head w q
  quiet-awake q = let a = quiet-fore q in let b = same q in grind arith

  pub quiet-fronted : Fronted (moved w h c r n p v) s.line g
  quiet-fronted = record {
    who = Chain.updated-all (λ q t. t.phase ≡ Ready → g ≡ suc q) w.pass p v (λ e. absurd (k.no_ready.1 e)) (λ q m. o.fronted.who q);
    is = Chain.updated-all (λ q t. g ≡ suc q → t.phase ≡ Ready) w.pass p v (λ e. absurd (k.no_ready.0 (o.fronted.is p e))) (λ q m. o.fronted.is q);
    only = λ q e f. o.fronted.only q (sym (quiet-queued q) ∙ e) (sym (quiet-awake q) ∙ f);
    front = λ q e f. quiet-awake q ∙ o.fronted.front q e f;
    heir = λ q e. let t = o.fronted.heir q e in let i = quiet-heir q (o.fronted.is q e) in (t.0 ∙ ap suc (sym i), ap (λ z. is_linking (updated w.pass p v z).phase) i ∙ (quiet-linking (w.pass q).reg.heir ∙ t.1));
    linking = λ q e. same q ∙ o.fronted.linking q (sym (quiet-linking q) ∙ e);
  }

  pub quiet-order : (hold : List (ℕ × Mode)) (role : Role) → (active_shuffler role ≡ 0 → s.hand ≡ None)
      → (is_round v.phase ≡ true → Round w.next (mark_of s) w.tail s.line (link_word s.hand) v)
      → ((q : ℕ) → (w.pass q).phase ≡ Swap → n q ≡ w.node q)
      → Ordered (moved w h c r n p v) (record s { hold = hold; role = role }) g
  quiet-order hold role still round init = record {
    walks = quiet-walks s.line o.walks;
    fronted = quiet-fronted;
    stands = λ q. o.stands q ∙ ap (λ b. cond b 1 0) (sym (quiet-queued q));
    clean = λ q. record {
      next = λ e. (o.clean q).next (sym (quiet-queued q) ∙ e);
      init = Chain.updated-all (λ q t. t.phase ≡ Swap → ((n q).batch ≡ 0) × ((n q).shuffler ≡ false) × ((n q).ready ≡ false) × (t.reg.batch ≡ 0) × (t.reg.flag ≡ false)) w.pass p v
          (λ e. absurd (k.no_swap e)) (λ q m e. let i = (o.clean q).init e in let j = init q e in grind arith) q;
    };
    links = λ q e. o.links q (sym (quiet-linking q) ∙ e);
    round = Chain.updated-all (λ q t. is_round t.phase ≡ true → Round w.next (mark_of s) w.tail s.line (link_word s.hand) t) w.pass p v round (λ q m. o.round q);
    still = still;
  }

module _ (limit : ℕ) (w : View) (s : Line) (h c : Bool) (r : ℕ) (p : ℕ) (v : PassState)
    (k : Grouping limit w s) (queued : is_queued v ≡ is_queued (w.pass p)) (round : is_round v.phase ≡ is_round (w.pass p).phase) where
  pub quiet-grouping : (hold : List (ℕ × Mode))
      → (is_round v.phase ≡ true → IsLastMarked (mark_of s) s.line v.reg.last × (mark_of s v.reg.last ≡ v.reg.count) × (v.phase ≢ Give → v.reg.count < limit))
      → (knows v.phase ≡ true → (v.reg.batch ≡ (w.node p).batch) × (v.reg.flag ≡ (w.node p).shuffler))
      → (v.phase ≡ Begin → v.reg.flag ≡ false → (v.reg.headed ≡ true) × (v.reg.batch ≡ 0))
      → Grouping limit (moved w h c r w.node p v) (record s { hold = hold })
  quiet-grouping hold last known begins = record {
    begins = Chain.updated-all (λ q t. t.phase ≡ Begin → t.reg.flag ≡ false → (t.reg.headed ≡ true) × (t.reg.batch ≡ 0)) w.pass p v begins (λ q m. k.begins q);
    mark = Chain.updated-all (λ q t. mark_of s q ≡ cond (is_queued t) (w.node q).batch 0) w.pass p v (k.mark p ∙ ap (λ b. cond b (w.node p).batch 0) (sym queued)) (λ q m. k.mark q);
    hand = k.hand;
    within = k.within;
    walks = Chain.updated-all (λ q t. is_round t.phase ≡ true → active_shuffler s.role ≡ suc q) w.pass p v (λ e. k.walks p (sym round ∙ e)) (λ q m. k.walks q);
    walker = Chain.updated-all (λ q t. active_shuffler s.role ≡ suc q → (is_round t.phase ≡ true) × (0 < mark_of s q)) w.pass p v (λ e. let t = k.walker p e in (round ∙ t.0, t.1)) (λ q m. k.walker q);
    flagged = Chain.updated-all (λ q t. is_queued t ≡ true → (w.node q).shuffler ≡ true → idle_shuffler s.role ≡ suc q) w.pass p v (λ e. k.flagged p (sym queued ∙ e)) (λ q m. k.flagged q);
    rester = Chain.updated-all (λ q t. idle_shuffler s.role ≡ suc q → (is_queued t ≡ true) × ((w.node q).shuffler ≡ true)) w.pass p v (λ e. let t = k.rester p e in (queued ∙ t.0, t.1)) (λ q m. k.rester q);
    prefix = k.prefix;
    rests = k.rests;
    last = Chain.updated-all (λ q t. is_round t.phase ≡ true → IsLastMarked (mark_of s) s.line t.reg.last × (mark_of s t.reg.last ≡ t.reg.count) × (t.phase ≢ Give → t.reg.count < limit)) w.pass p v last (λ q m. k.last q);
    known = Chain.updated-all (λ q t. knows t.phase ≡ true → (t.reg.batch ≡ (w.node q).batch) × (t.reg.flag ≡ (w.node q).shuffler)) w.pass p v known (λ q m. k.known q);
  }

-- the same for a step that leaves the state words: it may write any other word
pub pass-grouping : (limit : ℕ) (w : View) (s : Line) (p : ℕ) (v : PassState) → Grouping limit w s → is_queued v ≡ is_queued (w.pass p) → is_round v.phase ≡ false → is_round (w.pass p).phase ≡ false
    → (knows v.phase ≡ true → (v.reg.batch ≡ (w.node p).batch) × (v.reg.flag ≡ (w.node p).shuffler))
    → (v.phase ≡ Begin → v.reg.flag ≡ false → (v.reg.headed ≡ true) × (v.reg.batch ≡ 0))
    → Grouping limit (record w { pass = updated w.pass p v }) s
pass-grouping limit w s p v k queued calm was known begins = quiet-grouping limit w s w.held w.closed w.readers p v k queued (calm ∙ sym was) s.hold (λ e. absurd (grind arith)) known begins

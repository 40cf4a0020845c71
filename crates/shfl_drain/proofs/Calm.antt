-- The step of a pass that waits for another leaves each other pass going on that goes on.
use Rattle.std.proofs.Common.{◌≡◌, ◌≢◌, ℕ, ◌+◌, ◌<◌, true, false, cond, ◌==◌, List, length, set, refl, sym, ap, ◌∙◌, subst, arith}
use Rattle.std.specs.Prelude.{◌||◌, ◌&&◌, not, bit_or, bit_xor}
use Rattle.std.proofs.lemmas.Bool.Decides.{nat_tests}
use Rattle.shfl_line.specs.declared.words.NodeState.{NodeState}
use Rattle.shfl_line.specs.declared.words.TheConstants.{SHUFFLER, BATCH}
use Rattle.shfl_line.specs.Words.{ready_of}
use Rattle.shfl_line.proofs.Chain
use Rattle.shfl_core.specs.declared.phase.Phase.{Phase}
use Rattle.shfl_core.specs.declared.phase.Phase.TheVariants as phase
use Rattle.shfl_core.specs.declared.phase.Registers.{Registers as Regs}
use Rattle.shfl_core.specs.declared.phase.Nap.{Nap}
use Rattle.shfl_core.specs.declared.phase.Nap.TheVariants.{Awake, Doze, Hear, Rouse, Ring}
use Rattle.shfl_core.specs.declared.words.Word.{Word}
use Rattle.shfl_core.specs.declared.words.Word.TheVariants.{Lock, Tail as TailWord, Next as NextOf, State as StateOf, Attr as AttrOf, Bell}
use Rattle.shfl_core.specs.Words.{look, index, site, put, free_for}
use Rattle.shfl_line.specs.declared.events.Mode.TheVariants.{Write, Read}
use Rattle.shfl_core.specs.Phases.{is_round, is_fore}
use Rattle.shfl_core.specs.Plan.{plan_by, moving}
use Rattle.shfl_core.specs.Worlds.{World, known}
use Rattle.shfl_core.specs.View.{view}
use Rattle.shfl_core.specs.Order.{is_head}
use Rattle.shfl_core.specs.Lawful.{Terms, Lawful}
use Rattle.shfl_core.specs.Waiting.{idle}
use Rattle.shfl_core.proofs.Lists.{set-read, at-read}
use Rattle.shfl_laws.proofs.words.Frame.{look-else, look-same}
use Rattle.shfl_laws.proofs.words.StateBits.{or-shuffler}
use Rattle.shfl_laws.proofs.laws.InRange.{in-range-law}
use Rattle.shfl_drain.specs.GoingOn.{waits_at, waits_by, waits, goes_on}
use Rattle.shfl_drain.proofs.Bools.{both, and-both, not-is, is-not}

-- what the pass p waits for, or no longer waits for, is as it was
pub record Calm (words words' : List ℕ) (p : ℕ) : Type 0 where
  pub lock : look words' Lock ≡ look words Lock
  pub ready : ready_of (look words' (StateOf p)) ≡ ready_of (look words (StateOf p))
  pub bell : look words' (Bell p) ≡ look words (Bell p)
  pub next : 0 < look words (NextOf p) → 0 < look words' (NextOf p)

calm-same : (l : List ℕ) (u : Word) (p : ℕ) → Calm l (set l (index u) (look l u)) p
calm-same l u p = let e = set-read l (index u) 0 in record {
  lock = ap (λ (z : List ℕ). look z Lock) e;
  ready = ap (λ (z : List ℕ). ready_of (look z (StateOf p))) e;
  bell = ap (λ (z : List ℕ). look z (Bell p)) e;
  next = λ h. subst (λ n. 0 < n) (sym (ap (λ (z : List ℕ). look z (NextOf p)) e)) h;
}

-- a store of a name to a next word
calm-next : (l : List ℕ) (x n p : ℕ) → index (NextOf x) < length l → 0 < n → Calm l (set l (index (NextOf x)) n) p
calm-next l x n p i h = record {
  lock = look-else l (NextOf x) Lock n (λ e. omega arith);
  ready = ap ready_of (look-else l (NextOf x) (StateOf p) n (λ e. omega arith));
  bell = look-else l (NextOf x) (Bell p) n (λ e. omega arith);
  next = λ k. Chain.by_eq p x
      (λ e. subst (λ z. 0 < look (set l (index (NextOf x)) n) (NextOf z)) (sym e) (subst (λ z. 0 < z) (sym (look-same l (NextOf x) n i)) h))
      (λ d. subst (λ z. 0 < z) (sym (look-else l (NextOf x) (NextOf p) n (λ e. d (omega arith)))) k);
}

-- a store to a word of another pass
calm-other : (l : List ℕ) (q n p : ℕ) → q ≢ p → Calm l (set l (index (NextOf q)) n) p
calm-other l q n p d = record {
  lock = look-else l (NextOf q) Lock n (λ e. omega arith);
  ready = ap ready_of (look-else l (NextOf q) (StateOf p) n (λ e. omega arith));
  bell = look-else l (NextOf q) (Bell p) n (λ e. omega arith);
  next = λ k. subst (λ z. 0 < z) (sym (look-else l (NextOf q) (NextOf p) n (λ e. d (omega arith)))) k;
}

calm-bell : (l : List ℕ) (q n p : ℕ) → q ≢ p → Calm l (set l (index (Bell q)) n) p
calm-bell l q n p d = record {
  lock = look-else l (Bell q) Lock n (λ e. omega arith);
  ready = ap ready_of (look-else l (Bell q) (StateOf p) n (λ e. omega arith));
  bell = look-else l (Bell q) (Bell p) n (λ e. d (omega arith));
  next = λ k. subst (λ z. 0 < z) (sym (look-else l (Bell q) (NextOf p) n (λ e. omega arith))) k;
}

-- a store to a state word, which calls its pass as it did
calm-state : (l : List ℕ) (q n p : ℕ) → (q ≡ p → ready_of (look (set l (index (StateOf q)) n) (StateOf q)) ≡ ready_of (look l (StateOf q))) → Calm l (set l (index (StateOf q)) n) p
calm-state l q n p same = record {
  lock = look-else l (StateOf q) Lock n (λ e. omega arith);
  ready = Chain.by_eq q p
      (λ e. subst (λ z. ready_of (look (set l (index (StateOf q)) n) (StateOf z)) ≡ ready_of (look l (StateOf z))) e (same e))
      (λ d. ap ready_of (look-else l (StateOf q) (StateOf p) n (λ e. d (omega arith))));
  bell = look-else l (StateOf q) (Bell p) n (λ e. omega arith);
  next = λ k. subst (λ z. 0 < z) (sym (look-else l (StateOf q) (NextOf p) n (λ e. omega arith))) k;
}

module _ (t : Terms) (w : World) (ok : Lawful t w) (p q : ℕ) (other : q ≢ p) where
  abbrev r : Regs
  r = (known w.passes q).reg

  -- the words after the step of q, at this park state and phase
  abbrev pub step_words : Nap → Phase → List ℕ
  step_words x f = set w.words (index (site (plan_by t.rules q (known w.passes q).reg x f))) (put (plan_by t.rules q (known w.passes q).reg x f) (look w.words (site (plan_by t.rules q (known w.passes q).reg x f))))

  module _ (below : q < length w.passes) where
    inside : (x : Nap) (f : Phase) → (known w.passes q).nap ≡ x → (known w.passes q).phase ≡ f → index (site (plan_by t.rules q (known w.passes q).reg x f)) < length w.words
    inside x f nap at = subst (λ (z : Nap × Phase). index (site (plan_by t.rules q (known w.passes q).reg z.0 z.1)) < length w.words) (λ j. (nap j, at j))
        (let i = in-range-law t w q (known w.passes q) ok (at-read w.passes q (idle q) below) in let s = ok.room in omega arith)

    calm-at : (f : Phase) → (known w.passes q).phase ≡ f → (known w.passes q).nap ≡ Awake → waits_at w q f ≡ true → Calm w.words (step_words Awake f) p
    calm-at phase.Look at nap v = calm-same w.words (StateOf q) p
    calm-at phase.Begin at nap v = calm-state w.words q (bit_xor (look w.words (StateOf q)) (cond ((known w.passes q).reg.batch == 0) BATCH 0 + cond (known w.passes q).reg.flag SHUFFLER 0)) p (λ e. absurd (other e))
    calm-at phase.Next at nap v = calm-same w.words (NextOf (known w.passes q).reg.prev) p
    calm-at phase.Tail at nap v = calm-same w.words TailWord p
    calm-at phase.Attr at nap v = calm-same w.words (AttrOf (known w.passes q).reg.cand) p
    calm-at phase.Decide at nap v = calm-same w.words (cond (known w.passes q).reg.headed Lock (StateOf q)) p
    calm-at phase.After at nap v = calm-same w.words (NextOf (known w.passes q).reg.cand) p
    calm-at phase.Pick at nap v = calm-next w.words (known w.passes q).reg.prev ((known w.passes q).reg.after + 1) p (inside Awake phase.Pick nap at) (omega arith)
    calm-at phase.Aim at nap v = calm-next w.words (known w.passes q).reg.cand ((known w.passes q).reg.first + 1) p (inside Awake phase.Aim nap at) (omega arith)
    calm-at phase.Place at nap v = calm-next w.words (known w.passes q).reg.last ((known w.passes q).reg.cand + 1) p (inside Awake phase.Place nap at) (omega arith)
    calm-at phase.Give at nap v = calm-state w.words (known w.passes q).reg.last (bit_or (look w.words (StateOf (known w.passes q).reg.last)) SHUFFLER) p
        (λ e. ap ready_of (look-same w.words (StateOf r.last) (bit_or (look w.words (StateOf r.last)) SHUFFLER) (inside Awake phase.Give nap at)) ∙ ap (λ (y : NodeState). y.ready) (or-shuffler (look w.words (StateOf r.last)) (ok.formed (StateOf r.last))).is)
    calm-at phase.Peek at nap v = calm-same w.words Lock p
    calm-at phase.HeadLook at nap v = calm-same w.words Lock p
    calm-at phase.Late at nap v = calm-other w.words q 0 p other
    calm-at _ at nap v = absurd (cc)

    pub calm-by : (x : Nap) → (known w.passes q).nap ≡ x → waits_by w q x (known w.passes q).phase ≡ true → Calm w.words (step_words x (known w.passes q).phase) p
    calm-by Awake nap v = calm-at (known w.passes q).phase refl nap v
    calm-by Hear nap v = calm-bell w.words q 0 p other
    calm-by Doze nap v = absurd (cc)
    calm-by Rouse nap v = absurd (cc)
    calm-by (Ring whom) nap v = absurd (cc)

-- then a pass that goes on, goes on
module _ (w w' : World) (p : ℕ) (same : known w'.passes p ≡ known w.passes p) (calm : Calm w.words w'.words p) where
  head-same : is_head (view w') p ≡ is_head (view w) p
  head-same = λ j. is_fore (same j) || calm.ready j

  at-same : (f : Phase) → waits_at w p f ≡ false → waits_at w' p f ≡ false
  at-same phase.Look e = ap not head-same ∙ e
  at-same phase.Begin e = ap not head-same ∙ e
  at-same phase.Peek e = ap (λ n. not (free_for Write n)) calm.lock ∙ e
  at-same phase.HeadLook e = ap (λ n. not (free_for Read n)) calm.lock ∙ e
  at-same phase.Late e = let a : look w.words (NextOf p) ≢ 0 = grind (arith, nat_tests, e) in let b = calm.next (omega arith) in let c : look w'.words (NextOf p) ≢ 0 = omega arith in let d : (look w'.words (NextOf p) == 0) ≡ false = grind (arith, nat_tests, c) in d
  at-same phase.Mark e = refl
  at-same f e = ap (λ b. is_round f && not b) head-same ∙ e

  by-same : (x : Nap) (f : Phase) → waits_by w p x f ≡ false → waits_by w' p x f ≡ false
  by-same Awake f e = at-same f e
  by-same Hear f e = ap (λ n. n == 0) calm.bell ∙ e
  by-same Doze f e = refl
  by-same Rouse f e = refl
  by-same (Ring whom) f e = refl

  pub still-goes-on : goes_on w p ≡ true → goes_on w' p ≡ true
  still-goes-on e = let g = both (moving (known w.passes p)) (not (waits w p)) e in
      and-both (moving (known w'.passes p)) (not (waits w' p)) (ap moving same ∙ g.0)
      (is-not (waits w' p) ((λ j. waits_by w' p (same j).nap (same j).phase) ∙ by-same (known w.passes p).nap (known w.passes p).phase (not-is (waits w p) g.1)))

-- The laws of an arena: the step of a thread, and the one operation of an attempt.
use Rattle.std.proofs.Common.{◌≡◌, ◌≢◌, ℕ, ◌<◌, Bool, true, false, List, length, set, get_or-set_other, refl, sym, ap, ◌∙◌, subst, inl, inr, ⊎_elim, arith}
use Rattle.std.specs.Prelude.{None}
use mathlib.Core.Option.{some}
use lib.ListN.{get_elem?}
use Rattle.shfl_line.specs.declared.events.LineEvent.{LineEvent}
use Rattle.shfl_line.proofs.Chain
use Rattle.shfl_core.specs.declared.phase.Phase.TheVariants.{Init}
use Rattle.shfl_core.specs.declared.phase.PassState.{PassState}
use Rattle.shfl_core.specs.declared.words.Word.{Word}
use Rattle.shfl_core.specs.declared.words.Word.TheVariants.{Lock, Tail, Next, State, Attr, Bell}
use Rattle.shfl_core.specs.declared.words.Access.{Access}
use Rattle.shfl_core.specs.Words.{look, index, wide, site, put}
use Rattle.shfl_core.specs.Plan.{plan}
use Rattle.shfl_core.specs.Take.{take}
use Rattle.shfl_core.specs.Waiting.{idle}
use Rattle.shfl_core.specs.Worlds.{World, known, placed_at}
use Rattle.shfl_core.specs.Events.{event}
use Rattle.shfl_core.specs.Owed.{fits}
use Rattle.shfl_core.specs.Lawful.{Terms, Formed, Lawful, Advances}
use Rattle.shfl_core.proofs.Lists.{seen-at}
use Rattle.shfl_laws.specs.Seen.{SeenAs}
use Rattle.shfl_laws.proofs.laws.OwnSteps.{set-at, own-step-law, own-range}
use Rattle.shfl_laws.proofs.laws.SeenAs.{seen-law}
use Rattle.shfl_arena.specs.Nodes.{uses_node, MayTouch}
use Rattle.shfl_arena.specs.declared.view.ThreadView.{ThreadView}
use Rattle.shfl_arena.specs.Threads.{new_thread, MayStepAt, uses_own_node, mode_held, pass_at_rest, pass_at, passes_from, thread_after}
use Rattle.shfl_arena.specs.ArenaWords.{word_at, written_at, seen_word}
use Rattle.shfl_arena.specs.ArenaRule.{ArenaTerms, ArenaRule, KeepsArena, terms_at, world_at}
use Rattle.shfl_arena.specs.ArenaSteps.{ArenaStepLaw, ArenaRangeLaw, GoesOnLaw}
use Rattle.shfl_arena.proofs.NodeLaws.{touch-law}
use Rattle.shfl_arena.proofs.Places.{place-there, words-at}
use Rattle.shfl_arena.proofs.Threads.{at-tells, moved-moves, still-at, at-none, at-unused, off-at}
use Rattle.shfl_arena.proofs.ThreadSteps.{seen-uses, seen-init}
use Rattle.shfl_arena.proofs.Touches.{IsOpen, Touches, seen-open, pass-there}
use Rattle.shfl_arena.proofs.Operations.{numbered, operation-keeps}
use Rattle.shfl_arena.proofs.InitSteps.{attr-put, leads-by, clears, init-awake, is_init, init-is, init-not}

module _ (a : ArenaTerms) (words : List ℕ) (threads : List ThreadView) (ok : ArenaRule a words threads) (l : ℕ) (below : l < a.shape.locks) (k : ℕ) (v : ThreadView) (at : get_elem? threads k ≡ some v) where
  abbrev t : Terms
  t = terms_at a l

  abbrev thread_count : ℕ
  thread_count = length a.attrs

  abbrev P : List PassState
  P = passes_from l 0 threads

  abbrev W : World
  W = world_at a words threads l

  there : get_elem? P k ≡ some (pass_at l k v)
  there = pass-there threads k v at l

  pub off-is : v.at ≡ None → pass_at l k v ≡ pass_at_rest k (mode_held l v.holds)
  off-is e = off-at l k v (at-none l v e)

  -- what the lock sees of an open word is what stands there
  pub found : (u : Word) → index u < wide thread_count → IsOpen P u → look W.words u ≡ word_at a.shape words l u
  found u h o = words-at (seen_word a.shape words l P) thread_count u h ∙ seen-open a.shape words l P u o

  module _ (own : PassState) (seen : SeenAs t.rules.form own (pass_at l k v)) where
    abbrev x : Access
    x = plan t.rules k own

    abbrev n : ℕ
    n = word_at a.shape words l (site x)

    abbrev w1 : World
    w1 = placed_at W k own

    stands : Lawful t w1
    stands = (seen-law t W k own (pass_at l k v) (ok.lawful l below) there seen).lawful

    stands-at : get_elem? w1.passes k ≡ some own
    stands-at = set-at P k (pass_at l k v) own there

    own-is : known w1.passes k ≡ own
    own-is = (seen-at w1.passes k own (idle k) stands-at).0

    range : index (site x) < wide thread_count
    range = own-range t W k own (pass_at l k v) (ok.lawful l below) there seen

    -- a node that is in use with the pass as it stands is in use as it is seen
    used-seen : (r : ℕ) → uses_node (known w1.passes r) ≡ true → uses_node (known P r) ≡ true
    used-seen r h = Chain.by_eq r k
        (λ i. (let u : uses_node own ≡ true = sym (ap uses_node own-is) ∙ subst (λ z. uses_node (known w1.passes z) ≡ true) i h in
        subst (λ z. uses_node (known P z) ≡ true) (sym i) (ap uses_node (seen-at P k (pass_at l k v) (idle k) there).0 ∙ seen-uses t.rules.form own (pass_at l k v) seen u)))
        (λ d. sym (ap uses_node (get_or-set_other P k r own (idle r) d)) ∙ h)

    near-open : own.phase ≢ Init → (u : Word) → MayTouch w1 k u → IsOpen P u
    near-open not_init Lock h = tt
    near-open not_init Tail h = tt
    near-open not_init (Attr r) h = tt
    near-open not_init (Next r) h = used-seen r h
    near-open not_init (State r) h = ⊎_elim (λ z. used-seen r z) (λ z. absurd (not_init (sym (ap (λ (q : PassState). q.phase) own-is) ∙ z.1.phase))) h
    near-open not_init (Bell r) h = used-seen r h

    near : MayTouch w1 k (site x)
    near = touch-law t w1 k own stands stands-at

    module _ (choice : Bool) (where_it_is : MayStepAt l v) where
      abbrev q : PassState
      q = take t.rules k own n choice

      abbrev Goal : Type 0
      Goal = KeepsArena a words threads ok l below (event t.rules k own n) (written_at a.shape words l x) (set threads k (thread_after l q v))

      -- the lock's own step, by what stands there
      by-found : (z : ℕ) → look W.words (site x) ≡ z → (put x z ≡ put x n) × (take t.rules k own z choice ≡ q) × ◌≡◌ {A = LineEvent} (event t.rules k own z) (event t.rules k own n)
          → Advances t W (ok.lawful l below) (event t.rules k own n) (record { words = set W.words (index (site x)) (put x n); passes = set P k q })
      by-found z e same = subst (λ (w : ℕ × PassState × LineEvent). Advances t W (ok.lawful l below) w.2 (record { words = set W.words (index (site x)) w.0; passes = set P k w.1 })) (λ j. (same.0 j, same.1 j, same.2 j))
          (subst (λ z. Advances t W (ok.lawful l below) (event t.rules k own z) (record { words = set W.words (index (site x)) (put x z); passes = set P k (take t.rules k own z choice) })) e
          (own-step-law t W k own (pass_at l k v) (ok.lawful l below) there seen choice))

      goes : Advances t W (ok.lawful l below) (event t.rules k own n) (record { words = set W.words (index (site x)) (put x n); passes = set P k q }) → Touches P k (pass_at l k v) q (site x) (put x n) → Goal
      goes adv touch = operation-keeps a words threads ok l below k v at x q (event t.rules k own n) range adv (λ r e. attr-put t.rules k own.reg n own.nap own.phase r e) where_it_is touch

      -- it clears its state word
      at-init : own.phase ≡ Init → Goal
      at-init f = let nap = init-awake own.nap (sym (ap (fits own.nap) f) ∙ (ap (λ (z : PassState). fits z.nap z.phase) (sym own-is) ∙ stands.agrees.owed.places k)) in
          let c = clears t.rules k own.reg own.nap own.phase nap f in
          goes (by-found (look W.words (site x)) refl (c.1 (look W.words (site x)) ∙ sym (c.1 n), c.2 (look W.words (site x)) n choice, c.3 (look W.words (site x)) n))
          (inr (c.0, c.1 n, seen-init t.rules.form own (pass_at l k v) seen f, c.4 n choice))

      at-open : own.phase ≢ Init → Goal
      at-open not_init = let o = near-open not_init (site x) near in goes (by-found n (found (site x) range o) (refl, refl, refl)) (inl (o, keeps-using (uses_node own) refl))
        where
          keeps-using : (b : Bool) → uses_node own ≡ b → uses_node q ≡ true → uses_node (pass_at l k v) ≡ true
          keeps-using true e u = seen-uses t.rules.form own (pass_at l k v) seen e
          keeps-using false e u = absurd (let z = leads-by t.rules k own.reg n choice own.nap own.phase e not_init in cc)

      pub step-keeps : Goal
      step-keeps = by (is_init own.phase) refl
        where
          by : (b : Bool) → is_init own.phase ≡ b → Goal
          by true e = at-init (init-is own.phase e)
          by false e = at-open (init-not own.phase e)

      -- and what is found has its word's form
      pub step-form : Formed (site x) n
      step-form = by (is_init own.phase) refl
        where
          by : (b : Bool) → is_init own.phase ≡ b → Formed (site x) n
          by true e = let f = init-is own.phase e in let nap = init-awake own.nap (sym (ap (fits own.nap) f) ∙ (ap (λ (z : PassState). fits z.nap z.phase) (sym own-is) ∙ stands.agrees.owed.places k)) in
              let c = clears t.rules k own.reg own.nap own.phase nap f in
              subst (λ u. Formed u (word_at a.shape words l u)) (sym c.0) (ok.clear k (numbered a words threads ok l below k v at) (ap uses_own_node (seen-at threads k v new_thread at).0 ∙ at-unused l k v where_it_is (seen-init t.rules.form own (pass_at l k v) seen f))).formed
          by false e = subst (Formed (site x)) (found (site x) range (near-open (init-not own.phase e) (site x) near)) ((ok.lawful l below).formed (site x))

pub arena-step-law : (a : ArenaTerms) → ArenaStepLaw a
arena-step-law a words threads ok l below k v own choice at seen where_it_is = step-keeps a words threads ok l below k v at own seen choice where_it_is

-- the planned word is there
pub arena-range-law : (a : ArenaTerms) → ArenaRangeLaw a
arena-range-law a words threads ok l below k v own at seen = let i = own-range (terms_at a l) (world_at a words threads l) k own (pass_at l k v) (ok.lawful l below) (pass-there threads k v at l) seen in record {
  in_lock = i;
  in_arena = let p = place-there a.shape l (length a.attrs) (site (plan (a.rules l) k own)) below i in let r = ok.room in omega arith;
}

pub goes-on-law : GoesOnLaw
goes-on-law l k q v = record {
  moves = λ g. (at-tells l (thread_after l q v) (moved-moves l k q v g).0, (moved-moves l k q v g).1);
  rests = λ g. still-at l k q v g;
}

-- What an operation of a thread at a lock does to an arena: the rule is kept, the lock's line makes the named step, and no other lock's world changes.
use Rattle.std.proofs.Common.{◌≡◌, ◌≢◌, ℕ, ◌<◌, Bool, true, false, cond, List, length, set, get_or-set_same, get_or-set_other, length-set, refl, sym, ap, ◌∙◌, subst, ⊎_elim, arith}
use mathlib.Core.Option.{some}
use lib.ListN.{get_elem?}
use Rattle.shfl_line.specs.declared.events.LineEvent.{LineEvent}
use Rattle.shfl_line.specs.declared.events.LineEvent.TheVariants.{Nothing}
use Rattle.shfl_line.proofs.Chain
use Rattle.shfl_core.specs.declared.phase.PassState.{PassState}
use Rattle.shfl_core.specs.declared.words.Word.{Word}
use Rattle.shfl_core.specs.declared.words.Word.TheVariants.{Lock, Tail, Next, State, Attr, Bell}
use Rattle.shfl_core.specs.declared.words.Access.{Access}
use Rattle.shfl_core.specs.Words.{look, index, wide, site, put}
use Rattle.shfl_core.specs.Plan.{moving}
use Rattle.shfl_core.specs.Waiting.{idle}
use Rattle.shfl_core.specs.Phases.{is_queued}
use Rattle.shfl_core.specs.Worlds.{World, known, placed_at}
use Rattle.shfl_core.specs.Lawful.{Terms, Lawful, Advances}
use Rattle.shfl_core.proofs.Lists.{seen-at, set-twice}
use Rattle.shfl_core.proofs.Standing.{apart}
use Rattle.shfl_laws.proofs.words.Frame.{look-else, look-same}
use Rattle.shfl_laws.proofs.laws.MoveRows.{forget-law}
use Rattle.shfl_laws.proofs.laws.MoveLaws.{resting-is}
use Rattle.shfl_laws.proofs.laws.OwnSteps.{set-at}
use Rattle.shfl_arena.specs.Nodes.{is_swap, uses_node, IsClearNode}
use Rattle.shfl_arena.specs.declared.view.ThreadView.{ThreadView}
use Rattle.shfl_arena.specs.Threads.{new_thread, MayStepAt, thread_at, uses_own_node, pass_at, passes_from, thread_after, resting}
use Rattle.shfl_arena.specs.ArenaWords.{place, word_at, written_at, seen_word, words_saying}
use Rattle.shfl_arena.specs.ArenaRule.{ArenaTerms, ArenaRule, KeepsArena, terms_at, world_at}
use Rattle.shfl_arena.proofs.NodeLaws.{clear-node-law, resting-law, alike-law}
use Rattle.shfl_arena.proofs.StateWords.{state-word-law}
use Rattle.shfl_arena.proofs.Places.{words-long, words-at, alike-words, place-there, word_at-same}
use Rattle.shfl_arena.proofs.Threads.{passes-known, unused-at, at-unused, moved-moves, or-false, swap-is, still-is, uses-moves, still-idle, still-held, moved-uses, moved-in-use}
use Rattle.shfl_arena.proofs.Touches.{IsOpen, seen-open, and-then, Touches, else-kept, there-is, pass-there, was-known, passes-here}
use Rattle.shfl_arena.proofs.Elsewhere.{there}

module _ (a : ArenaTerms) (words : List ℕ) (threads : List ThreadView) (ok : ArenaRule a words threads) (l : ℕ) (below : l < a.shape.locks) (k : ℕ) (v : ThreadView) (at : get_elem? threads k ≡ some v) where
  abbrev t : Terms
  t = terms_at a l

  abbrev thread_count : ℕ
  thread_count = length a.attrs

  abbrev P : ℕ → List PassState
  P m = passes_from m 0 threads

  abbrev W : ℕ → World
  W m = world_at a words threads m

  here-is : thread_at threads k ≡ v
  here-is = there-is threads k v at

  seated : k < length threads
  seated = (seen-at threads k v new_thread at).1

  in-passes : k < length (P l)
  in-passes = (seen-at (P l) k (pass_at l k v) (idle k) (pass-there threads k v at l)).1

  pub numbered : k < thread_count
  numbered = let s = (ok.lawful l below).seats in let h = in-passes in omega arith

  module _ (x : Access) (q : PassState) (e : LineEvent) (range : index (site x) < wide thread_count)
      (adv : Advances t (W l) (ok.lawful l below) e (record { words = set (W l).words (index (site x)) (put x (word_at a.shape words l (site x))); passes = set (P l) k q }))
      (attr : (r : ℕ) → site x ≡ Attr r → put x (word_at a.shape words l (site x)) ≡ word_at a.shape words l (site x))
      (lead : MayStepAt l v)
      (touch : Touches (P l) k (pass_at l k v) q (site x) (put x (word_at a.shape words l (site x)))) where
    abbrev made : ℕ
    made = put x (word_at a.shape words l (site x))

    abbrev words' : List ℕ
    words' = written_at a.shape words l x

    abbrev threads' : List ThreadView
    threads' = set threads k (thread_after l q v)

    abbrev P' : List PassState
    P' = passes_from l 0 threads'

    abbrev X0 : List ℕ
    X0 = set (W l).words (index (site x)) made

    abbrev M : Word → ℕ
    M = seen_word a.shape words' l P'

    -- the words of the arena
    wrote : word_at a.shape words' l (site x) ≡ made
    wrote = word_at-same a.shape words l (site x) made (let h = place-there a.shape l thread_count (site x) below range in let r = ok.room in omega arith)

    kept : (u : Word) → index u ≢ index (site x) → word_at a.shape words' l u ≡ word_at a.shape words l u
    kept u n = else-kept a.shape words l x l u below below n

    -- the threads and the passes
    seat-here : thread_at threads' k ≡ thread_after l q v
    seat-here = get_or-set_same threads k (thread_after l q v) new_thread seated

    seat-else : (r : ℕ) → r ≢ k → thread_at threads' r ≡ thread_at threads r
    seat-else r n = get_or-set_other threads k r (thread_after l q v) new_thread n

    uses-here : uses_node (known P' k) ≡ uses_node q
    uses-here = ap uses_node (passes-known l threads' k ∙ ap (pass_at l k) seat-here) ∙ moved-uses l k q v

    known-else : (r : ℕ) → r ≢ k → known P' r ≡ known (P l) r
    known-else r n = passes-known l threads' r ∙ (ap (pass_at l r) (seat-else r n) ∙ sym (passes-known l threads r))

    -- a word of a node that isn't in use, but of the own one, isn't touched
    missed : (u : Word) (r : ℕ) → (IsOpen (P l) u → uses_node (known (P l) r) ≡ true) → (index u ≡ index (State k) → r ≡ k) → r ≢ k → uses_node (known (P l) r) ≡ false → index u ≢ index (site x)
    missed u r f g n c h = ⊎_elim
        (λ o. (let z : uses_node (known (P l) r) ≡ true = f (subst (IsOpen (P l)) (sym (apart u (site x) h)) o.0) in cc))
        (λ i. n (g (h ∙ ap index i.0)))
        touch

    -- the words after the lock's own step
    X0-long : length X0 ≡ wide thread_count
    X0-long = length-set (W l).words (index (site x)) made ∙ words-long (seen_word a.shape words l (P l)) thread_count

    X0-here : look X0 (site x) ≡ made
    X0-here = look-same (W l).words (site x) made (let r = words-long (seen_word a.shape words l (P l)) thread_count in omega arith)

    X0-open : (u : Word) → index u < wide thread_count → IsOpen (P l) u → look X0 u ≡ word_at a.shape words' l u
    X0-open u h o = Chain.by_eq (index u) (index (site x))
        (λ i. subst (λ z. look X0 z ≡ word_at a.shape words' l z) (sym (apart u (site x) i)) (X0-here ∙ sym wrote))
        (λ n. look-else (W l).words (site x) u made n ∙ (words-at (seen_word a.shape words l (P l)) thread_count u h ∙ (seen-open a.shape words l (P l) u o ∙ sym (kept u n))))

    X0-shut : (u : Word) → index u < wide thread_count → index u ≢ index (site x) → seen_word a.shape words l (P l) u ≡ 0 → look X0 u ≡ 0
    X0-shut u h n m = look-else (W l).words (site x) u made n ∙ (words-at (seen_word a.shape words l (P l)) thread_count u h ∙ m)

    X0-node : (u : Word) (r : ℕ) (c : Bool) → index u < wide thread_count → uses_node (known (P l) r) ≡ c → (uses_node (known (P l) r) ≡ true → IsOpen (P l) u) → (IsOpen (P l) u → uses_node (known (P l) r) ≡ true) → (index u ≡ index (State k) → r ≡ k) → r ≢ k
        → seen_word a.shape words l (P l) u ≡ cond (uses_node (known (P l) r)) (word_at a.shape words l u) 0 → look X0 u ≡ cond c (word_at a.shape words' l u) 0
    X0-node u r true h e f g i n m = X0-open u h (f e)
    X0-node u r false h e f g i n m = X0-shut u h (missed u r g i n e) (m ∙ ap (λ b. cond b (word_at a.shape words l u) 0) e)

    -- of another thread
    else-says : (u : Word) (r : ℕ) → index u < wide thread_count → (uses_node (known (P l) r) ≡ true → IsOpen (P l) u) → (IsOpen (P l) u → uses_node (known (P l) r) ≡ true) → (index u ≡ index (State k) → r ≡ k) → r ≢ k
        → seen_word a.shape words l (P l) u ≡ cond (uses_node (known (P l) r)) (word_at a.shape words l u) 0 → look X0 u ≡ cond (uses_node (known P' r)) (word_at a.shape words' l u) 0
    else-says u r h f g i n m = X0-node u r (uses_node (known (P l) r)) h refl f g i n m ∙ ap (λ (z : PassState). cond (uses_node z) (word_at a.shape words' l u) 0) (sym (known-else r n))

    final : (w1 : World) → length w1.words ≡ wide thread_count → w1.passes ≡ set (P l) k (pass_at l k (thread_after l q v)) → ((u : Word) → index u < wide thread_count → look w1.words u ≡ M u) → (ok1 : Lawful t w1) → Advances t w1 ok1 Nothing (world_at a words' threads' l)
    final w1 long passes words1 ok1 = alike-law t w1 (world_at a words' threads' l) ok1 (words-long M thread_count ∙ sym long) (passes-here threads k v at l (thread_after l q v) ∙ sym passes)
        (alike-words (words_saying M thread_count) w1.words thread_count (words-long M thread_count) long (λ u h. words-at M thread_count u h ∙ sym (words1 u h)))

    next-room : index (Next k) < wide thread_count
    next-room = let h = numbered in omega arith

    state-room : index (State k) < wide thread_count
    state-room = let h = numbered in omega arith

    bell-room : index (Bell k) < wide thread_count
    bell-room = let h = numbered in omega arith

    -- the pass uses its node then
    module _ (uses : uses_node q ≡ true) where
      own-says : (u : Word) → index u < wide thread_count → (uses_node (known (P l) k) ≡ true → IsOpen (P l) u) → M u ≡ cond (uses_node (known P' k)) (word_at a.shape words' l u) 0 → (uses_node (known (P l) k) ≡ false → look X0 u ≡ word_at a.shape words' l u) → look X0 u ≡ M u
      own-says u h f m shut = Chain_bool (uses_node (known (P l) k)) refl ∙ sym (m ∙ ap (λ b. cond b (word_at a.shape words' l u) 0) (uses-here ∙ uses))
        where
          Chain_bool : (c : Bool) → uses_node (known (P l) k) ≡ c → look X0 u ≡ word_at a.shape words' l u
          Chain_bool true e = X0-open u h (f e)
          Chain_bool false e = shut e

      -- it begins to: its node was clear, and its state word is 0 now
      begins : uses_node (known (P l) k) ≡ false → (site x ≡ State k) × IsClearNode (word_at a.shape words 0 (Next k)) (word_at a.shape words 0 (State k)) (word_at a.shape words 0 (Bell k))
      begins c = (
        ⊎_elim (λ o. absurd (let z : uses_node (known (P l) k) ≡ true = ap uses_node (was-known threads k v at l) ∙ o.1 uses in cc)) (λ i. i.0) touch,
        ok.clear k numbered (ap uses_own_node here-is ∙ at-unused l k v lead (sym (ap uses_node (was-known threads k v at l)) ∙ c)),
      )

      next-shut : uses_node (known (P l) k) ≡ false → look X0 (Next k) ≡ word_at a.shape words' l (Next k)
      next-shut c = let b = begins c in let n : index (Next k) ≢ index (site x) = λ h. (let z : index (Next k) ≡ index (State k) = h ∙ ap index b.0 in omega arith) in
          X0-shut (Next k) next-room n (ap (λ z. cond z (word_at a.shape words l (Next k)) 0) c) ∙ sym (kept (Next k) n ∙ b.1.next)

      bell-shut : uses_node (known (P l) k) ≡ false → look X0 (Bell k) ≡ word_at a.shape words' l (Bell k)
      bell-shut c = let b = begins c in let n : index (Bell k) ≢ index (site x) = λ h. (let z : index (Bell k) ≡ index (State k) = h ∙ ap index b.0 in omega arith) in
          X0-shut (Bell k) bell-room n (ap (λ z. cond z (word_at a.shape words l (Bell k)) 0) c) ∙ sym (kept (Bell k) n ∙ b.1.bell)

      state-shut : uses_node (known (P l) k) ≡ false → look X0 (State k) ≡ word_at a.shape words' l (State k)
      state-shut c = let b = begins c in subst (λ z. look X0 z ≡ word_at a.shape words' l z) b.0 (X0-here ∙ sym wrote)

      uses-says : (u : Word) → index u < wide thread_count → look X0 u ≡ M u
      uses-says Lock h = X0-open Lock h tt
      uses-says Tail h = X0-open Tail h tt
      uses-says (Attr r) h = X0-open (Attr r) h tt
      uses-says (Next r) h = Chain.by_eq r k
          (λ i. subst (λ z. look X0 (Next z) ≡ M (Next z)) (sym i) (own-says (Next k) next-room (λ o. o) refl next-shut))
          (λ n. else-says (Next r) r h (λ o. o) (λ o. o) (λ i. absurd (omega arith)) n refl)
      uses-says (State r) h = Chain.by_eq r k
          (λ i. subst (λ z. look X0 (State z) ≡ M (State z)) (sym i) (own-says (State k) state-room (λ o. o) refl state-shut))
          (λ n. else-says (State r) r h (λ o. o) (λ o. o) (λ i. omega arith) n refl)
      uses-says (Bell r) h = Chain.by_eq r k
          (λ i. subst (λ z. look X0 (Bell z) ≡ M (Bell z)) (sym i) (own-says (Bell k) bell-room (λ o. o) refl bell-shut))
          (λ n. else-says (Bell r) r h (λ o. o) (λ o. o) (λ i. absurd (omega arith)) n refl)

      here-uses : Advances t (W l) (ok.lawful l below) e (world_at a words' threads' l)
      here-uses = and-then t (W l) (record { words = X0; passes = set (P l) k q }) (world_at a words' threads' l) (ok.lawful l below) e adv
          (final (record { words = X0; passes = set (P l) k q }) X0-long (ap (set (P l) k) (sym (moved-moves l k q v (uses-moves q uses)).1)) uses-says)

    -- it doesn't: what its node is left with
    module _ (away : uses_node q ≡ false) where
      parts : (is_queued q ≡ false) × (is_swap q.phase ≡ false)
      parts = or-false (is_queued q) (is_swap q.phase) away

      opened : IsOpen (P l) (site x)
      opened = ⊎_elim (λ o. o.0) (λ i. absurd (let z = i.3 in cc)) touch

      stands : known (set (P l) k q) k ≡ q
      stands = get_or-set_same (P l) k q (idle k) in-passes

      X0-clear : IsClearNode (look X0 (Next k)) (look X0 (State k)) (look X0 (Bell k))
      X0-clear = clear-node-law t (record { words = X0; passes = set (P l) k q }) k adv.lawful (ap is_queued stands ∙ parts.0)

      left-clear : IsClearNode (word_at a.shape words' l (Next k)) (word_at a.shape words' l (State k)) (word_at a.shape words' l (Bell k))
      left-clear = by (uses_node (known (P l) k)) refl
        where
          by : (c : Bool) → uses_node (known (P l) k) ≡ c → IsClearNode (word_at a.shape words' l (Next k)) (word_at a.shape words' l (State k)) (word_at a.shape words' l (Bell k))
          by true o = subst (λ (z : ℕ × ℕ × ℕ). IsClearNode z.0 z.1 z.2) (λ j. (X0-open (Next k) next-room o j, X0-open (State k) state-room o j, X0-open (Bell k) bell-room o j)) X0-clear
          by false c = let s : (u : Word) → (IsOpen (P l) u → uses_node (known (P l) k) ≡ true) → word_at a.shape words' l u ≡ word_at a.shape words l u = λ u f. kept u (λ h. (let z : uses_node (known (P l) k) ≡ true = f (subst (IsOpen (P l)) (sym (apart u (site x) h)) opened) in cc)) in
              subst (λ (z : ℕ × ℕ × ℕ). IsClearNode z.0 z.1 z.2) (λ j. (sym (s (Next k) (λ o. o)) j, sym (s (State k) (λ o. o)) j, sym (s (Bell k) (λ o. o)) j))
              (ok.clear k numbered (ap uses_own_node here-is ∙ at-unused l k v lead (sym (ap uses_node (was-known threads k v at l)) ∙ c)))

      M-own : (u : Word) → M u ≡ cond (uses_node (known P' k)) (word_at a.shape words' l u) 0 → M u ≡ 0
      M-own u m = m ∙ ap (λ b. cond b (word_at a.shape words' l u) 0) (uses-here ∙ away)

      abbrev X1 : List ℕ
      X1 = set X0 (index (State k)) 0

      X1-long : length X1 ≡ wide thread_count
      X1-long = length-set X0 (index (State k)) 0 ∙ X0-long

      X1-else : (u : Word) → index u ≢ index (State k) → look X1 u ≡ look X0 u
      X1-else u n = look-else X0 (State k) u 0 n

      X1-says : (u : Word) → index u < wide thread_count → look X1 u ≡ M u
      X1-says Lock h = X1-else Lock (λ i. omega arith) ∙ X0-open Lock h tt
      X1-says Tail h = X1-else Tail (λ i. omega arith) ∙ X0-open Tail h tt
      X1-says (Attr r) h = X1-else (Attr r) (λ i. omega arith) ∙ X0-open (Attr r) h tt
      X1-says (Next r) h = Chain.by_eq r k
          (λ i. subst (λ z. look X1 (Next z) ≡ M (Next z)) (sym i) (X1-else (Next k) (λ i. omega arith) ∙ (X0-clear.next ∙ sym (M-own (Next k) refl))))
          (λ n. X1-else (Next r) (λ i. omega arith) ∙ else-says (Next r) r h (λ o. o) (λ o. o) (λ i. absurd (omega arith)) n refl)
      X1-says (State r) h = Chain.by_eq r k
          (λ i. subst (λ z. look X1 (State z) ≡ M (State z)) (sym i) (look-same X0 (State k) 0 (let s = state-room in let o = X0-long in omega arith) ∙ sym (M-own (State k) refl)))
          (λ n. X1-else (State r) (λ i. n (omega arith)) ∙ else-says (State r) r h (λ o. o) (λ o. o) (λ i. omega arith) n refl)
      X1-says (Bell r) h = Chain.by_eq r k
          (λ i. subst (λ z. look X1 (Bell z) ≡ M (Bell z)) (sym i) (X1-else (Bell k) (λ i. omega arith) ∙ (X0-clear.bell ∙ sym (M-own (Bell k) refl))))
          (λ n. X1-else (Bell r) (λ i. omega arith) ∙ else-says (Bell r) r h (λ o. o) (λ o. o) (λ i. absurd (omega arith)) n refl)

      abbrev w1 : World
      w1 = record { words = X1; passes = set (P l) k q }

      stated : Advances t (W l) (ok.lawful l below) e w1
      stated = and-then t (W l) (record { words = X0; passes = set (P l) k q }) w1 (ok.lawful l below) e adv
          (λ ok0. state-word-law t (record { words = X0; passes = set (P l) k q }) k ok0 numbered (ap is_queued stands ∙ parts.0) (λ i. swap-is q.phase parts.1 (sym (ap (λ (z : PassState). z.phase) stands) ∙ i)))

      placed : get_elem? w1.passes k ≡ some q
      placed = set-at (P l) k (pass_at l k v) q (pass-there threads k v at l)

      -- another pass stands there in the end
      rested : (z : PassState) → pass_at l k (thread_after l q v) ≡ z → ((ok1 : Lawful t w1) → Advances t w1 ok1 Nothing (placed_at w1 k z)) → Advances t (W l) (ok.lawful l below) e (world_at a words' threads' l)
      rested z is law = and-then t (W l) (placed_at w1 k z) (world_at a words' threads' l) (ok.lawful l below) e
          (and-then t (W l) w1 (placed_at w1 k z) (ok.lawful l below) e stated law)
          (final (placed_at w1 k z) X1-long (set-twice (P l) k q z ∙ ap (set (P l) k) (sym is)) X1-says)

      here-away : Advances t (W l) (ok.lawful l below) e (world_at a words' threads' l)
      here-away = by (moving q) refl
        where
          by : (b : Bool) → moving q ≡ b → Advances t (W l) (ok.lawful l below) e (world_at a words' threads' l)
          by true g = and-then t (W l) w1 (world_at a words' threads' l) (ok.lawful l below) e stated (final w1 X1-long (ap (set (P l) k) (sym (moved-moves l k q v g).1)) X1-says)
          by false g = ⊎_elim
              (λ f. rested (idle k) (still-idle l k q v g f) (λ ok1. forget-law t w1 k q (idle k) ok1 placed f refl refl refl))
              (λ r. rested (resting k q.reg.mode) (still-held l k q v g (resting-is q r).0) (λ ok1. resting-law t w1 k q (resting k q.reg.mode) ok1 placed r refl refl refl))
              (still-is q g)

    here : Advances t (W l) (ok.lawful l below) e (world_at a words' threads' l)
    here = by (uses_node q) refl
      where
        by : (b : Bool) → uses_node q ≡ b → Advances t (W l) (ok.lawful l below) e (world_at a words' threads' l)
        by true u = here-uses u
        by false u = here-away u

    -- a node that nobody uses is clear
    cleared : (r : ℕ) → r < thread_count → uses_own_node (thread_at threads' r) ≡ false → IsClearNode (word_at a.shape words' 0 (Next r)) (word_at a.shape words' 0 (State r)) (word_at a.shape words' 0 (Bell r))
    cleared r h none = Chain.by_eq r k
        (λ i. subst (λ z. IsClearNode (word_at a.shape words' 0 (Next z)) (word_at a.shape words' 0 (State z)) (word_at a.shape words' 0 (Bell z))) (sym i)
        (left-clear (moved-in-use l q v (ap uses_own_node (sym seat-here ∙ ap (thread_at threads') (sym i)) ∙ none))))
        (λ d. (let none' : uses_own_node (thread_at threads r) ≡ false = sym (ap uses_own_node (seat-else r d)) ∙ none in
        let c : uses_node (known (P l) r) ≡ false = ap uses_node (passes-known l threads r) ∙ unused-at l r (thread_at threads r) none' in
        subst (λ (z : ℕ × ℕ × ℕ). IsClearNode z.0 z.1 z.2) (λ j. (sym (kept (Next r) (missed (Next r) r (λ o. o) (λ i. absurd (omega arith)) d c)) j, sym (kept (State r) (missed (State r) r (λ o. o) (λ i. omega arith) d c)) j, sym (kept (Bell r) (missed (Bell r) r (λ o. o) (λ i. absurd (omega arith)) d c)) j))
        (ok.clear r h none')))

    pub operation-keeps : KeepsArena a words threads ok l below e words' threads'
    operation-keeps = record {
      rule = record {
        room = length-set words (place a.shape l (site x)) made ∙ ok.room;
        lawful = λ m h. Chain.by_eq m l (λ i. subst (λ z. Lawful (terms_at a z) (world_at a words' threads' z)) (sym i) here.lawful) (λ d. (there a words threads ok l below k v at x q wrote attr lead touch m h d).lawful);
        clear = cleared;
      };
      here = here;
      elsewhere = λ m h d. there a words threads ok l below k v at x q wrote attr lead touch m h d;
    }

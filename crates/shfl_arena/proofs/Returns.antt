-- A seat that waits nowhere and holds nothing is given back to another; and where all are given back, every value is at home.
use Rattle.std.proofs.Common.{◌≡◌, ◌≢◌, ℕ, zero, suc, ◌+◌, ◌<◌, ◌≤◌, false, List, [], ◌∷◌, length, set, get_or, get_or-set_other, length-set, sym, refl, ap, ◌∙◌, subst, ⊎_elim, arith}
use Rattle.std.specs.Prelude.{Option, Some, None}
use Rattle.std.proofs.lemmas.List.{get_or_past}
use Rattle.std.proofs.lemmas.List.Sums.{get_or-le-sum_by}
use mathlib.Core.Option.{some}
use lib.ListN.{get_elem?}
use Rattle.atomic_table.specs.Table.{State as TableState, Final, Joins, Seen}
use Rattle.atomic_table.proofs.Lists.{at_set, set_else}
use Rattle.shfl_line.specs.declared.events.Mode.{Mode}
use Rattle.shfl_line.proofs.Chain
use Rattle.shfl_core.specs.declared.phase.PassState.{PassState}
use Rattle.shfl_core.specs.declared.phase.Rules.{Rules}
use Rattle.shfl_core.specs.Lawful.{Lawful}
use Rattle.shfl_core.specs.Worlds.{known}
use Rattle.shfl_core.proofs.Lists.{seen-at, set-again, below-or}
use Rattle.shfl_arena.specs.declared.shape.Shape.{Shape}
use Rattle.shfl_arena.specs.declared.view.SeatView.{SeatView}
use Rattle.shfl_arena.specs.declared.view.ThreadView.{ThreadView}
use Rattle.shfl_arena.specs.Threads.{new_thread, node_in_use, thread_at, uses_own_node, mode_held, pass_at_rest, pass_at, passes_from}
use Rattle.shfl_arena.specs.ArenaWords.{seen_word, words_saying}
use Rattle.shfl_arena.specs.ArenaRule.{ArenaTerms, ArenaRule, terms_at}
use Rattle.shfl_arena.specs.ArenaTable.{told_arena, SeatFacts, LawfulTable}
use Rattle.shfl_arena.specs.SeatViews.{seats_of, spent_seat, threads_of, with_seats_of}
use Rattle.shfl_arena.specs.ValueMoves.{writes}
use Rattle.shfl_arena.proofs.Openings.{passes-long}
use Rattle.shfl_arena.proofs.SeatViews.{seats-set, threads-at, threads-long, threads-set}
use Rattle.shfl_arena.proofs.Threads.{at-none, off-at, passes-at, passes-known, passes-set}
use Rattle.shfl_arena.proofs.ToldTerms.{told-long}

there-or : (vs : List SeatView) (r : ℕ) → r < length vs → (u : SeatView) × (get_elem? vs r ≡ some u)
there-or [] r h = absurd (omega arith)
there-or (x ∷ xs) zero h = (x, refl)
there-or (x ∷ xs) (suc r) h = there-or xs r (omega arith)

-- a thread that waits nowhere and holds nothing has at each lock the pass of one that did nothing
rest-idle : (l k : ℕ) (v : ThreadView) → v.at ≡ None → v.holds ≡ [] → pass_at l k v ≡ pass_at l k new_thread
rest-idle l k v rests none = off-at l k v (at-none l v rests) ∙ ap (λ (hs : List (ℕ × Mode)). pass_at_rest k (mode_held l hs)) none

module _ (a : ArenaTerms) (words : List ℕ) (threads : List ThreadView) (k : ℕ) (v : ThreadView) (at : get_elem? threads k ≡ some v) (rests : v.at ≡ None) (none : v.holds ≡ []) where
  abbrev threads' : List ThreadView
  threads' = set threads k new_thread

  passes-same : (l : ℕ) → passes_from l 0 threads' ≡ passes_from l 0 threads
  passes-same l = passes-set l 0 threads k new_thread ∙ (ap (set (passes_from l 0 threads) k) (sym (rest-idle l (0 + k) v rests none)) ∙ set-again (passes_from l 0 threads) k (pass_at l (0 + k) v) (passes-at l 0 threads k v at))

  pub pass-same : (l r : ℕ) → pass_at l r (thread_at threads' r) ≡ pass_at l r (thread_at threads r)
  pass-same l r = sym (passes-known l threads' r) ∙ (ap (λ (z : List PassState). known z r) (passes-same l) ∙ passes-known l threads r)

  node-same : (r : ℕ) → uses_own_node (thread_at threads' r) ≡ false → uses_own_node (thread_at threads r) ≡ false
  node-same r h = Chain.by_eq r k
      (λ i. subst (λ z. uses_own_node (thread_at threads z) ≡ false) (sym i) (ap uses_own_node (seen-at threads k v new_thread at).0 ∙ ap (λ o. node_in_use o v.pass) rests))
      (λ d. sym (ap uses_own_node (get_or-set_other threads k r new_thread new_thread d)) ∙ h)

  pub rule-same : ArenaRule a words threads → ArenaRule a words threads'
  rule-same ok = record {
    room = ok.room;
    lawful = λ l h. subst (λ (z : List PassState). Lawful (terms_at a l) (record { words = words_saying (seen_word a.shape words l z) (length a.attrs); passes = z })) (sym (passes-same l)) (ok.lawful l h);
    clear = λ r h unused. ok.clear r h (node-same r unused);
  }

module _ {V : Type 0} (shape : Shape) (rules : Rules) (n : ℕ) where
  pub joins : (id other : ℕ) (v w : SeatView) → 0 < v.seats → w.thread.at ≡ None → w.thread.holds ≡ [] → Joins (LawfulTable {V = V} shape rules n) id v other w (with_seats_of v w) spent_seat
  joins id other v w live rests none s ok at apart at' = let b : SeatView = with_seats_of v w in let vs : List SeatView = set s.views id b in let vs' : List SeatView = set vs other spent_seat in
      let threads : List ThreadView = threads_of s.views in let there : get_elem? s.views other ≡ some w = sym (set_else s.views id other b apart) ∙ at' in
      let f = ok.seated id v at in let long : length vs' ≡ length s.views = length-set vs other spent_seat ∙ length-set s.views id b in
      let gone : threads_of vs' ≡ set threads other new_thread = threads-set vs other spent_seat ∙ ap (λ (z : List ThreadView). set z other new_thread) (threads-set s.views id b ∙ set-again threads id v.thread (threads-at s.views id v at)) in
      let there' : get_elem? threads other ≡ some w.thread = threads-at s.views other w there in let a : ArenaTerms = told_arena shape rules n s.words in record {
        arena = subst (λ (z : List ThreadView). ArenaRule a s.words z) (sym gone) (rule-same a s.words threads other w.thread there' rests none ok.arena);
        seated = λ seat u g. subst (λ m. SeatFacts m seat u) (sym long) (⊎_elim
            (λ p. subst (SeatFacts (length s.views) seat) p.1 (record { number = λ h. absurd (let e : 0 < 0 = h in omega arith); last = λ no. absurd (cc); spent = λ _. refl }))
            (λ p. ⊎_elim
            (λ q. subst (λ (z : ℕ × SeatView). SeatFacts (length s.views) z.0 z.1) (λ i. (sym q.0 i, q.1 i)) (record { number = λ _. f.number live; last = f.last; spent = λ h. absurd (let e : v.seats + w.seats ≡ 0 = h in omega arith) }))
            (λ q. ok.seated seat u q.1)
            (at_set s.views id seat b u p.1))
            (at_set vs other seat spent_seat u g));
        counted = (let x : seats_of vs + v.seats ≡ seats_of s.views + (v.seats + w.seats) = seats-set s.views id v b at in let y : seats_of vs' + w.seats ≡ seats_of vs + 0 = seats-set vs other w spent_seat at' in let c = ok.counted in omega arith);
        home = λ l h nobody. ok.home l h (λ r. sym (ap writes (pass-same a s.words threads other w.thread there' rests none l r)) ∙ subst (λ (z : List ThreadView). writes (pass_at l r (thread_at z r)) ≡ false) gone (nobody r));
      }

  -- the one seat that stands for all of them, and holds nothing
  module _ (some-lock : 0 < shape.locks) (s : TableState (Option V) SeatView) (ok : LawfulTable {V = V} shape rules n s) (id : ℕ) (v : SeatView) (at : get_elem? s.views id ≡ some v) (all : v.seats ≡ n) (rests : v.thread.at ≡ None) (none : v.thread.holds ≡ []) where
    few : length s.views ≤ n
    few = let a : length (passes_from 0 0 (threads_of s.views)) ≤ length (told_arena shape rules n s.words).attrs = (ok.arena.lawful 0 some-lock).seats in let b = passes-long 0 0 (threads_of s.views) in let c = threads-long s.views in let d = told-long shape rules n s.words in omega arith

    -- every other one was given back
    spent-else : (k : ℕ) (u : SeatView) → k ≢ id → get_elem? s.views k ≡ some u → u.thread ≡ new_thread
    spent-else k u d here = let z : SeatView = record v { seats = 0 } in let vs : List SeatView = set s.views id z in
        let x : seats_of vs + v.seats ≡ seats_of s.views + 0 = seats-set s.views id v z at in let c = ok.counted in let f = few in
        let t = seen-at vs k u u (set_else s.views id k z d ∙ here) in
        let m : (get_or vs k u).seats ≤ seats_of vs = get_or-le-sum_by (λ (y : SeatView). y.seats) vs k u t.1 in let e : (get_or vs k u).seats ≡ u.seats = ap (λ (y : SeatView). y.seats) t.0 in
        let none-left : u.seats ≡ 0 = omega arith in (ok.seated k u here).spent none-left

    -- nobody writes at any lock
    nobody-writes : (l r : ℕ) → writes (pass_at l r (thread_at (threads_of s.views) r)) ≡ false
    nobody-writes l r = Chain.by_eq r id
        (λ i. (let here = (seen-at (threads_of s.views) id v.thread new_thread (threads-at s.views id v at)).0 in
        subst (λ z. writes (pass_at l z (thread_at (threads_of s.views) z)) ≡ false) (sym i) (ap (λ (y : ThreadView). writes (pass_at l id y)) here ∙ ap writes (rest-idle l id v.thread rests none))))
        (λ d. ⊎_elim
        (λ h. (let u = there-or s.views r h in ap (λ (y : ThreadView). writes (pass_at l r y)) ((seen-at (threads_of s.views) r u.0.thread new_thread (threads-at s.views r u.0 u.1)).0 ∙ spent-else r u.0 d u.1)))
        (λ h. (let long = threads-long s.views in ap (λ (y : ThreadView). writes (pass_at l r y)) (get_or_past (threads_of s.views) r new_thread (omega arith))))
        (below-or r (length s.views)))

    pub all-home : (l : ℕ) → l < length s.homes → (x : V) × (get_elem? s.homes l ≡ some (some (Some x)))
    all-home l h = ok.home l h (nobody-writes l)

  pub closes : (id : ℕ) (v : SeatView) (ws : List ℕ) (xs : List (Option V)) → 0 < shape.locks → v.seats ≡ n → v.thread.at ≡ None → v.thread.holds ≡ []
      → Final (Seen (LawfulTable {V = V} shape rules n) id v) ws xs → (k : ℕ) → k < length xs → (x : V) × (get_elem? xs k ≡ some (Some x))
  closes id v ws xs some-lock all rests none f k h = let s = f.0 in let long : length s.homes ≡ length xs = f.3 in
      let y = all-home some-lock s f.1.0 id v f.1.1 all rests none k (omega arith) in (y.0, f.4 k (Some y.0) y.1)

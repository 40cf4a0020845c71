-- An operation that keeps the arena keeps the values of its locks, by who writes before and after alone.
use Rattle.std.proofs.Common.{◌≡◌, ◌≢◌, ℕ, ◌<◌, ◌≤◌, Bool, true, false, cond, List, length, set, get_or-set_same, get_or-set_other, length-set, refl, sym, ap, ◌∙◌, subst, ⊎_elim, arith}
use Rattle.std.specs.Prelude.{Option, Some, None, ◌&&◌}
use mathlib.Core.Option.{none, some}
use lib.ListN.{get_elem?}
use Rattle.atomic_table.specs.Table.{Act, keeps, takes, gives, Valid, homes_after, carried_after, put_back}
use Rattle.atomic_table.proofs.Lists.{set_here, set_else}
use Rattle.shfl_line.specs.declared.events.Mode.{Mode}
use Rattle.shfl_line.specs.declared.events.Mode.TheVariants.{Write, Read}
use Rattle.shfl_line.specs.Line.{is_write}
use Rattle.shfl_line.proofs.Chain
use Rattle.shfl_core.specs.declared.phase.PassState.{PassState}
use Rattle.shfl_core.specs.Phases.{is_holding}
use Rattle.shfl_core.specs.Plan.{moving}
use Rattle.shfl_core.specs.Worlds.{known}
use Rattle.shfl_core.proofs.Lists.{seen-at, below-or}
use Rattle.shfl_core.specs.declared.phase.Rules.{Rules}
use Rattle.shfl_core.specs.Take.{take}
use Rattle.shfl_line.specs.declared.events.Form.{Form}
use Rattle.shfl_laws.specs.Seen.{SeenAs}
use Rattle.shfl_laws.specs.Holds.{hold_of, is_releasing}
use Rattle.shfl_laws.proofs.laws.Holds.{alone, hold-seen, take-mode, frees-only}
use Rattle.shfl_laws.proofs.laws.MoveLaws.{resting-is}
use Rattle.shfl_arena.specs.declared.view.ThreadView.{ThreadView}
use Rattle.shfl_arena.specs.Threads.{new_thread, MayStepAt, thread_at, pass_at, passes_from, thread_after}
use Rattle.shfl_arena.specs.ArenaRule.{ArenaTerms, ArenaRule, terms_at, world_at}
use Rattle.shfl_arena.specs.ValueMoves.{writes, NobodyWrites, Homes, AreHome, MovesValue, MayGive}
use Rattle.shfl_arena.proofs.Threads.{at-none, at-other, passes-known, moved-else, moved-moves, still-is, still-idle, still-held}

writes-hold : (q : PassState) → writes q ≡ true → hold_of q ≡ Some Write
writes-hold q h = by (is_holding q.phase) q.reg.mode h
  where
    by : (b : Bool) (m : Mode) → (b && is_write m) ≡ true → cond b (Some m) None ≡ Some Write
    by true Write e = refl
    by true Read e = absurd (cc)
    by false m e = absurd (cc)

none-writes : (q : PassState) → hold_of q ≡ None → writes q ≡ false
none-writes q h = by (is_holding q.phase) q.reg.mode h
  where
    by : (b : Bool) (m : Mode) → cond b (Some m) None ≡ None → (b && is_write m) ≡ false
    by true m e = absurd (cc)
    by false m e = refl

-- the thread writes at the lock then as the pass does to which the operation led
moved-writes : (l k : ℕ) (q : PassState) (v : ThreadView) → writes (pass_at l k (thread_after l q v)) ≡ writes q
moved-writes l k q v = by (moving q) refl
  where
    by : (b : Bool) → moving q ≡ b → writes (pass_at l k (thread_after l q v)) ≡ writes q
    by true e = ap writes (moved-moves l k q v e).1
    by false e = ⊎_elim
        (λ f. ap writes (still-idle l k q v e f) ∙ sym (ap (λ z. is_holding z && is_write q.reg.mode) f))
        (λ r. (let f = (resting-is q r).0 in ap writes (still-held l k q v e f) ∙ sym (ap (λ z. is_holding z && is_write q.reg.mode) f)))
        (still-is q e)

module _ {V : Type 0} (a : ArenaTerms) (threads : List ThreadView) (homes : Homes V) (home : AreHome threads homes) (l : ℕ) (below : l < a.shape.locks) (k : ℕ) (v : ThreadView) (at : get_elem? threads k ≡ some v)
    (lead : MayStepAt l v) (q : PassState) (words' : List ℕ) (rule : ArenaRule a words' (set threads k (thread_after l q v)))
    (c : List (ℕ × Option V)) (ready : MayGive (length homes) l (writes (pass_at l k v)) (writes q) c) where
  abbrev threads' : List ThreadView
  threads' = set threads k (thread_after l q v)

  here-is : thread_at threads k ≡ v
  here-is = (seen-at threads k v new_thread at).0

  thread-here : thread_at threads' k ≡ thread_after l q v
  thread-here = get_or-set_same threads k (thread_after l q v) new_thread (seen-at threads k v new_thread at).1

  pass-else : (m r : ℕ) → r ≢ k → pass_at m r (thread_at threads' r) ≡ pass_at m r (thread_at threads r)
  pass-else m r n = ap (pass_at m r) (get_or-set_other threads k r (thread_after l q v) new_thread n)

  now : writes (pass_at l k (thread_at threads' k)) ≡ writes q
  now = ap (λ (z : ThreadView). writes (pass_at l k z)) thread-here ∙ moved-writes l k q v

  was : writes (pass_at l k (thread_at threads k)) ≡ writes (pass_at l k v)
  was = ap (λ (z : ThreadView). writes (pass_at l k z)) here-is

  -- at another lock everybody is as before
  far : (m r : ℕ) → m ≢ l → pass_at m r (thread_at threads' r) ≡ pass_at m r (thread_at threads r)
  far m r n = Chain.by_eq r k
      (λ i. subst (λ z. pass_at m z (thread_at threads' z) ≡ pass_at m z (thread_at threads z)) (sym i) (ap (pass_at m k) thread-here ∙
      ((moved-else m l k q v n (⊎_elim (λ o. at-none m v o) (λ w. at-other m l v w n) lead)).1 ∙ sym (ap (pass_at m k) here-is))))
      (λ d. pass-else m r d)

  abbrev Outcome : Act (Option V) → Type 0
  Outcome act = Valid homes c act × AreHome threads' (homes_after homes c act) × MovesValue (length homes) l (writes (pass_at l k v)) (writes q) c (carried_after c act)

  kept : (hs : Homes V) → length hs ≡ length homes → ((m : ℕ) → m ≢ l → get_elem? hs m ≡ get_elem? homes m) → (l < length homes → NobodyWrites l threads' → (x : V) × (get_elem? hs l ≡ some (some (Some x)))) → AreHome threads' hs
  kept hs long else here m h nw = Chain.by_eq m l
      (λ i. subst (λ z. (x : V) × (get_elem? hs z ≡ some (some (Some x)))) (sym i) (here (omega arith) (subst (λ z. NobodyWrites z threads') i nw)))
      (λ n. (let y = home m (omega arith) (λ r. sym (ap writes (far m r n)) ∙ nw r) in (y.0, else m n ∙ y.1)))

  -- a writer came: nobody wrote before
  free-before : writes (pass_at l k v) ≡ false → writes q ≡ true → NobodyWrites l threads
  free-before b g r = Chain.by_eq r k
      (λ i. subst (λ z. writes (pass_at l z (thread_at threads z)) ≡ false) (sym i) (was ∙ b))
      (λ d. sym (ap writes (pass-else l r d)) ∙ (sym (ap writes (passes-known l threads' r)) ∙ none-writes (known (passes_from l 0 threads') r)
      (alone (terms_at a l) (world_at a words' threads' l) (rule.lawful l below) k r (writes-hold (known (passes_from l 0 threads') k) (ap writes (passes-known l threads' k) ∙ (now ∙ g))) d)))

  -- the lock has no value
  none-there : length homes ≤ l → (act : Act (Option V)) × Outcome act
  none-there over = (
    keeps,
    (
      tt,
      kept homes refl (λ m n. refl) (λ h _. absurd (omega arith)),
      record { stays = λ _. refl; none = λ _. refl; gains = λ h _ _. absurd (omega arith); frees = λ h _ _. absurd (omega arith) },
    ),
  )

  module _ (there : l < length homes) where
    unmoved : writes (pass_at l k v) ≡ writes q → (act : Act (Option V)) × Outcome act
    unmoved i = (
      keeps,
      (
        tt,
        kept homes refl (λ m n. refl) (λ h nw. home l h (λ r. Chain.by_eq r k
            (λ j. subst (λ z. writes (pass_at l z (thread_at threads z)) ≡ false) (sym j) (was ∙ (i ∙ (sym now ∙ nw k))))
            (λ d. sym (ap writes (pass-else l r d)) ∙ nw r))),
        record { stays = λ _. refl; none = λ h. absurd (omega arith); gains = λ _ x y. absurd (let z = i in cc); frees = λ _ x y. absurd (let z = i in cc) },
      ),
    )

    gained : writes (pass_at l k v) ≡ false → writes q ≡ true → (act : Act (Option V)) × Outcome act
    gained b g = let y = home l there (free-before b g) in (
      takes l (Some y.0),
      (
        y.1,
        kept (homes_after homes c (takes l (Some y.0))) (length-set homes l none) (λ m n. set_else homes l m none n) (λ _ nw. absurd (let z = nw k in let w : writes (pass_at l k (thread_at threads' k)) ≡ true = now ∙ g in cc)),
        record { stays = λ z. absurd (cc); none = λ h. absurd (omega arith); gains = λ _ _ _. (y.0, refl); frees = λ _ z _. absurd (cc) },
      ),
    )

    freed : writes (pass_at l k v) ≡ true → writes q ≡ false → (act : Act (Option V)) × Outcome act
    freed b g = let y = ready there b g in let h : homes_after homes c gives ≡ set homes l (some (Some y.0)) = ap (put_back homes) y.1 in (
      gives,
      (
        tt,
        subst (λ hs. AreHome threads' hs) (sym h)
            (kept (set homes l (some (Some y.0))) (length-set homes l (some (Some y.0))) (λ m n. set_else homes l m (some (Some y.0)) n) (λ _ nw. (y.0, set_here homes l (some (Some y.0)) there))),
        record { stays = λ z. absurd (cc); none = λ h. absurd (omega arith); gains = λ _ z _. absurd (cc); frees = λ _ _ _. refl },
      ),
    )

    moves-there : (act : Act (Option V)) × Outcome act
    moves-there = by (writes (pass_at l k v)) (writes q) refl refl
      where
        by : (b g : Bool) → writes (pass_at l k v) ≡ b → writes q ≡ g → (act : Act (Option V)) × Outcome act
        by true true b g = unmoved (b ∙ sym g)
        by false false b g = unmoved (b ∙ sym g)
        by false true b g = gained b g
        by true false b g = freed b g

  pub value-moves : (act : Act (Option V)) × Outcome act
  value-moves = ⊎_elim (λ h. moves-there h) (λ h. none-there h) (below-or l (length homes))

-- who writes, by the hold
abbrev write_hold : Option Mode → Bool
write_hold None = false
write_hold (Some m) = is_write m

writes-by : (q : PassState) → writes q ≡ write_hold (hold_of q)
writes-by q = by (is_holding q.phase)
  where
    by : (b : Bool) → (b && is_write q.reg.mode) ≡ write_hold (cond b (Some q.reg.mode) None)
    by true = refl
    by false = refl

-- a pass writes as it is seen to write
pub writes-seen : (form : Form) (own seen : PassState) → SeenAs form own seen → writes seen ≡ writes own
writes-seen form own seen h = writes-by seen ∙ (ap write_hold (sym (hold-seen form own seen h)) ∙ sym (writes-by own))

-- and a step that ends a writer's hold gives the lock back
pub frees-writer : (rules : Rules) (k : ℕ) (own : PassState) (n : ℕ) (choice : Bool) → writes own ≡ true → writes (take rules k own n choice) ≡ false → (is_releasing own.phase ≡ true) × (own.reg.mode ≡ Write)
frees-writer rules k own n choice w f = let q : PassState = take rules k own n choice in let h : hold_of own ≡ Some Write = writes-hold own w in
    let mode : own.reg.mode ≡ Write = held-mode (is_holding own.phase) own.reg.mode h in
    let none : hold_of q ≡ None = free-of (is_holding q.phase) q.reg.mode (take-mode rules k own n choice ∙ mode) f in
    (frees-only rules k own n choice Write h none, mode)
  where
    held-mode : (b : Bool) (m : Mode) → cond b (Some m) None ≡ Some Write → m ≡ Write
    held-mode true Write e = refl
    held-mode true Read e = absurd (cc)
    held-mode false m e = absurd (cc)

    free-of : (b : Bool) (m : Mode) → m ≡ Write → (b && is_write m) ≡ false → cond b (Some m) None ≡ None
    free-of true Write e h = absurd (cc)
    free-of true Read e h = absurd (cc)
    free-of false m e h = refl

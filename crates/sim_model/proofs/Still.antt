-- A pass without a turn is one whose step would change nothing.
use Rattle.std.proofs.Common.{◌≡◌, ◌⊎◌, inl, inr, ℕ, zero, suc, ◌<◌, ◌&&◌, Bool, true, false, cond, List, [], ◌∷◌, length, get_or, set, refl, sym, ap, subst, ◌∙◌, Option, Some, None, true≢false}
use Rattle.std.proofs.lemmas.Bool.{cases_eq}
use Rattle.std.proofs.lemmas.Bool.Decides.{eqb_tells}
use Rattle.std.proofs.lemmas.List.{get_or-set_same, get_or-set_other, set-get_or}
use Rattle.shfl_core.specs.declared.phase.Nap.{Nap}
use Rattle.shfl_core.specs.declared.phase.Nap.TheVariants as naps
use Rattle.shfl_core.specs.declared.phase.Phase.{Phase}
use Rattle.shfl_core.specs.declared.phase.PassState.{PassState}
use Rattle.shfl_core.specs.declared.phase.Registers.{Registers}
use Rattle.shfl_core.specs.declared.phase.Rules.{Rules}
use Rattle.shfl_core.specs.declared.words.Word.{Word}
use Rattle.shfl_core.specs.declared.words.Word.TheVariants.{Bell}
use Rattle.shfl_core.specs.declared.words.Access.{Access}
use Rattle.shfl_core.specs.declared.words.Access.TheVariants.{Load, Store, Swap, CompareSwap, Or, And, Xor, Add, Sub}
use Rattle.shfl_core.specs.Plan.{plan, plan_at, plan_by, is_idle, is_resting}
use Rattle.shfl_core.specs.Runner.{is_parked}
use Rattle.shfl_core.specs.Take.{take, take_at, take_by}
use Rattle.shfl_core.specs.Words.{look, index, site, put}
use Rattle.shfl_core.proofs.Standing.{apart}
use Rattle.sim_setup.specs.declared.setup.Setup.{Setup}
use Rattle.sim_setup.specs.Places.{is_load, line_of, rung}
use Rattle.sim_setup.specs.Clock.{plus, later}
use Rattle.sim_model.specs.declared.steps.Rest.TheVariants.{Spins as SpinsOn, Sleeps as SleepsOn, Holds, Away, Goes}
use Rattle.sim_model.specs.declared.turns.Stand.{Stand}
use Rattle.sim_model.specs.declared.turns.Stand.TheVariants.{Due, Spins, Sleeps}
use Rattle.sim_model.specs.Steps.{is_same_look, is_awake, is_first, rest_of, raised, with_ring, stand_after}
use Rattle.sim_model.specs.declared.turns.Turn.TheVariants.{Step}
use Rattle.sim_model.specs.Turns.{stand_at, woken}
use Rattle.sim_model.proofs.Quiet.{Quiet, looked-quiet, parked-quiet}

-- the word that the step of a pass touches
abbrev pub own_word : Setup → ℕ → PassState → Word
own_word s p q = site (plan s.rules p q)

-- how a pass stands that has no turn
abbrev pub QuietAt : Setup → List ℕ → ℕ → PassState → Stand → Type 0
QuietAt s words p q (Due at turn) = Unit {0}
QuietAt s words p q (Spins line since) = (line ≡ line_of s.layout (own_word s p q)) × Quiet s.rules p (look words (own_word s p q)) q
QuietAt s words p q (Sleeps from) = (own_word s p q ≡ Bell p) × Quiet s.rules p (look words (own_word s p q)) q

-- so it is quiet, or about to be woken by this operation
abbrev pub QuietOrRung : Setup → List ℕ → Access → ℕ → PassState → Stand → Type 0
QuietOrRung s words a p q (Due at turn) = Unit {0}
QuietOrRung s words a p q (Spins line since) = QuietAt s words p q (Spins line since)
QuietOrRung s words a p q (Sleeps from) = QuietAt s words p q (Sleeps from) ⊎ (rung a ≡ Some p)

quiet-or : (s : Setup) (words : List ℕ) (a : Access) (p : ℕ) (q : PassState) (x : Stand) → QuietAt s words p q x → QuietOrRung s words a p q x
quiet-or s words a p q (Due at turn) h = tt
quiet-or s words a p q (Spins line since) h = h
quiet-or s words a p q (Sleeps from) h = inl h

load-puts : (a : Access) (n : ℕ) → is_load a ≡ true → put a n ≡ n
load-puts (Load w) n e = refl
load-puts (Store w v) n e = absurd (true≢false (sym e))
load-puts (Swap w v) n e = absurd (true≢false (sym e))
load-puts (CompareSwap w old new) n e = absurd (true≢false (sym e))
load-puts (Or w v) n e = absurd (true≢false (sym e))
load-puts (And w v) n e = absurd (true≢false (sym e))
load-puts (Xor w v) n e = absurd (true≢false (sym e))
load-puts (Add w v) n e = absurd (true≢false (sym e))
load-puts (Sub w v) n e = absurd (true≢false (sym e))

-- an operation that leaves its word as it was leaves all words
same-words : (words : List ℕ) (v : Word) (x : ℕ) → x ≡ look words v → set words (index v) x ≡ words
same-words words v x e = ap (λ y. set words (index v) y) e ∙ set-get_or words (index v) 0

-- an operation on another word leaves what a word says
other-word : (words : List ℕ) (u v : Word) (x : ℕ) → (v ≡ u → ⊥) → look (set words (index v) x) u ≡ look words u
other-word words u v x differ = get_or-set_other words (index v) (index u) x 0 (λ e. differ (apart v u (sym e)))

-- the word is 0 that 0 was written into, also where there is none
zeroed : (words : List ℕ) (i : ℕ) → get_or (set words i 0) i 0 ≡ 0
zeroed [] i = refl
zeroed (x ∷ xs) zero = refl
zeroed (x ∷ xs) (suc i) = zeroed xs i

module _ (s : Setup) (words : List ℕ) (a : Access) (k : ℕ) (q : PassState) (line ends : ℕ)
    (at-line : line ≡ line_of s.layout (site a)) (bell : site a ≡ Bell k → rung a ≡ Some k) where
  abbrev pub after : List ℕ
  after = set words (index (site a)) (put a (look words (site a)))

  pub load-quiet : (x : Stand) → is_load a ≡ true → QuietAt s words k q x → QuietOrRung s after a k q x
  load-quiet x e h = quiet-or s after a k q x (subst (λ (l : List ℕ). QuietAt s l k q x) (sym (same-words words (site a) (put a (look words (site a))) (load-puts a (look words (site a)) e))) h)

  kept-word : (site a ≡ own_word s k q → ⊥) → Quiet s.rules k (look words (own_word s k q)) q → Quiet s.rules k (look after (own_word s k q)) q
  kept-word differ h = subst (λ (n : ℕ). Quiet s.rules k n q) (sym (other-word words (own_word s k q) (site a) (put a (look words (site a))) differ)) h

  -- an operation of another pass, whoever spins on its line being woken
  pub store-quiet : (x : Stand) → QuietAt s words k q x → QuietOrRung s after a k q (woken line ends x)
  store-quiet (Due at turn) h = tt
  store-quiet (Sleeps from) h = elim (cases_eq (index (site a)) (index (Bell k))) as (λ _. QuietOrRung s after a k q (Sleeps from)) [
    | inl e ↦ inr (bell (apart (site a) (Bell k) e))
    | inr differ ↦ inl (h.0, kept-word (λ e. differ (ap index (e ∙ h.0))) h.1)
  ]
  store-quiet (Spins own since) h = elim (eqb_tells own line) as (λ _. QuietOrRung s after a k q (woken line ends (Spins own since))) [
    | inl t ↦ subst (λ (b : Bool). QuietOrRung s after a k q (cond b (Due (later ends since) Step) (Spins own since))) (sym t.0) tt
    | inr t ↦ subst (λ (b : Bool). QuietOrRung s after a k q (cond b (Due (later ends since) Step) (Spins own since))) (sym t.0)
        (h.0, kept-word (λ e. t.1 (h.0 ∙ ap (line_of s.layout) (sym e) ∙ sym at-line)) h.1)
  ]

module _ (s : Setup) (words : List ℕ) (a : Access) (k ends : ℕ) (q : PassState) (standing : List Stand) where
  -- nobody is woken
  unrung : (y : Stand) → (rung a ≡ Some k → (from : ℕ) → y ≡ Sleeps from → ⊥) → QuietOrRung s words a k q y → QuietAt s words k q y
  unrung (Due at turn) never h = tt
  unrung (Spins line since) never h = h
  unrung (Sleeps from) never h = elim h as (λ _. QuietAt s words k q (Sleeps from)) [ inl quiet ↦ quiet | inr e ↦ absurd (never e from refl) ]

  -- who isn't woken is quiet; who is has its turn
  raised-quiet : (whom : ℕ) (x : Stand) → x ≡ stand_at standing whom → rung a ≡ Some whom → k < length standing → QuietOrRung s words a k q (stand_at standing k)
      → QuietAt s words k q (stand_at (raised s.costs standing whom x ends) k)
  raised-quiet whom (Due at turn) is who inside h =
      unrung (stand_at standing k) (λ e from sleeps. let same : whom ≡ k = cc in let no : Due at turn ≡ Sleeps from = is ∙ ap (stand_at standing) same ∙ sleeps in cc) h
  raised-quiet whom (Spins line since) is who inside h =
      unrung (stand_at standing k) (λ e from sleeps. let same : whom ≡ k = cc in let no : Spins line since ≡ Sleeps from = is ∙ ap (stand_at standing) same ∙ sleeps in cc) h
  raised-quiet whom (Sleeps from) is who inside h =
      let up : Stand = Due (plus (later (plus ends s.costs.wake) from) s.costs.rise) Step in
      elim (cases_eq whom k) as (λ _. QuietAt s words k q (stand_at (set standing whom up) k)) [
        | inl same ↦ subst (QuietAt s words k q) (sym (ap (λ w. stand_at (set standing w up) k) same ∙ get_or-set_same standing k up (Sleeps 0) inside)) tt
        | inr differ ↦ subst (QuietAt s words k q) (sym (get_or-set_other standing whom k up (Sleeps 0) (λ e. differ (sym e))))
            (unrung (stand_at standing k) (λ e _ _. let same : whom ≡ k = cc in differ same) h)
      ]

  pub ring-quiet : (who : Option ℕ) → rung a ≡ who → k < length standing → QuietOrRung s words a k q (stand_at standing k) → QuietAt s words k q (stand_at (with_ring s.costs standing who ends) k)
  unfolding with_ring
  ring-quiet None is inside h = unrung (stand_at standing k) (λ e _ _. let no : ⊥ = cc in no) h
  ring-quiet (Some whom) is inside h = raised-quiet whom (stand_at standing whom) refl is inside h

-- the pass whose step it was

chosen-quiet : (s : Setup) (words : List ℕ) (p line ends draw : ℕ) (r : PassState) (parked same holds away first : Bool)
    → (parked ≡ true → (x : ℕ) → QuietAt s words p r (Sleeps x)) → (same ≡ true → (x : ℕ) → QuietAt s words p r (Spins line x))
    → QuietAt s words p r (stand_after s (cond parked SleepsOn (cond same SpinsOn (cond holds (Holds first) (cond away Away Goes)))) line ends draw)
unfolding stand_after
chosen-quiet s words p line ends draw r true same holds away first sleeps spins = sleeps refl (plus ends s.costs.park)
chosen-quiet s words p line ends draw r false true holds away first sleeps spins = spins refl ends
chosen-quiet s words p line ends draw r false false true away first sleeps spins = tt
chosen-quiet s words p line ends draw r false false false true first sleeps spins = tt
chosen-quiet s words p line ends draw r false false false false first sleeps spins = tt

both : (a b : Bool) → a && b ≡ true → (a ≡ true) × (b ≡ true)
both true true e = (refl, refl)
both true false e = absurd (true≢false (sym e))
both false b e = absurd (true≢false (sym e))

-- the words after an operation that found n
abbrev pub after_words : List ℕ → Access → List ℕ
after_words words a = set words (index (site a)) (put a (look words (site a)))

sleeps-quiet : (t : Rules) (words : List ℕ) (p : ℕ) (reg : Registers) (c : Bool) (z : Nap) (f : Phase) → is_parked z ≡ true
    → let n = look words (site (plan_by t p reg z f)) in let r = take_by t p reg n c z f in is_parked r.nap ≡ true
    → (site (plan t p r) ≡ Bell p) × Quiet t p (look (after_words words (plan_by t p reg z f)) (site (plan t p r))) r
sleeps-quiet t words p reg c naps.Hear f e h =
    let n = look words (Bell p) in
    let sleeps : PassState = record { phase = f; reg = reg; nap = naps.Hear } in
    let pq = parked-quiet t p n c f reg h in
    subst (λ (x : PassState). (site (plan t p x) ≡ Bell p) × Quiet t p (look (set words (index (Bell p)) 0) (site (plan t p x))) x) (sym pq.0)
    (refl, subst (λ m. Quiet t p m sleeps) (sym (zeroed words (index (Bell p)))) pq.1)
sleeps-quiet t words p reg c naps.Awake f e h = absurd (true≢false (sym e))
sleeps-quiet t words p reg c naps.Doze f e h = absurd (true≢false (sym e))
sleeps-quiet t words p reg c naps.Rouse f e h = absurd (true≢false (sym e))
sleeps-quiet t words p reg c (naps.Ring whom) f e h = absurd (true≢false (sym e))

spins-quiet : (t : Rules) (words : List ℕ) (p : ℕ) (reg : Registers) (c : Bool) (z : Nap) (f : Phase) → is_awake z ≡ true
    → let a = plan_by t p reg z f in let r = take_by t p reg (look words (site a)) c z f in is_awake r.nap ≡ true → is_same_look f r.phase ≡ true
    → (site (plan t p r) ≡ site a) × Quiet t p (look (after_words words a) (site (plan t p r))) r
spins-quiet t words p reg c naps.Awake f e awake same =
    let a = plan_at t p reg f in
    let n = look words (site a) in
    let r = take_at t p reg n c f in
    let lk = looked-quiet t p n c f reg same awake in
    let kept : after_words words a ≡ words = same-words words (site a) (put a n) lk.same in
    let found : look (after_words words a) (site (plan t p r)) ≡ n = ap (λ (l : List ℕ). look l (site (plan t p r))) kept ∙ ap (look words) lk.site_same in
    (lk.site_same, subst (λ m. Quiet t p m r) (sym found) lk.quiet)
spins-quiet t words p reg c naps.Doze f e awake same = absurd (true≢false (sym e))
spins-quiet t words p reg c naps.Hear f e awake same = absurd (true≢false (sym e))
spins-quiet t words p reg c naps.Rouse f e awake same = absurd (true≢false (sym e))
spins-quiet t words p reg c (naps.Ring whom) f e awake same = absurd (true≢false (sym e))

pub own-quiet : (s : Setup) (words : List ℕ) (p : ℕ) (q : PassState) (c : Bool) (line ends draw : ℕ) → let a = plan s.rules p q in line ≡ line_of s.layout (site a)
    → let r = take s.rules p q (look words (site a)) c in QuietAt s (after_words words a) p r (stand_after s (rest_of q r) line ends draw)
unfolding rest_of
own-quiet s words p q c line ends draw at-line =
    let a = plan s.rules p q in
    let r = take s.rules p q (look words (site a)) c in
    chosen-quiet s (after_words words a) p line ends draw r (is_parked q.nap && is_parked r.nap) (is_awake q.nap && is_awake r.nap && is_same_look q.phase r.phase)
    (is_resting r) (is_idle r.phase) (is_first q.phase)
    (λ e x. let h = both (is_parked q.nap) (is_parked r.nap) e in sleeps-quiet s.rules words p q.reg c q.nap q.phase h.0 h.1)
    (λ e x. let h = both (is_awake q.nap && is_awake r.nap) (is_same_look q.phase r.phase) e in let g = both (is_awake q.nap) (is_awake r.nap) h.0 in
    let quiet = spins-quiet s.rules words p q.reg c q.nap q.phase g.0 g.1 h.1 in (at-line ∙ ap (line_of s.layout) (sym quiet.0), quiet.1))

-- What each change leaves of stealing that is disabled, and of who is about to enable it.
use Rattle.std.proofs.Common.{◌≡◌, ◌≢◌, ℕ, ◌+◌, ◌%◌, ◌^◌, ◌<◌, ◌≤◌, List, Bool, true, false, cond, ◌==◌, length, set, refl, sym, ap, ◌∙◌, subst, ⊎_elim, arith}
use Rattle.std.specs.Prelude.{◌||◌, nat_lt, bit_or, bit_and, sum_by}
use Rattle.std.proofs.lemmas.List.{set_past}
use Rattle.std.proofs.lemmas.List.Sums.{sum_by_push}
use Rattle.std.proofs.lemmas.Bool.Decides.{nat_tests}
use prog.Atomic.{either}
use Rattle.shfl_line.specs.declared.events.Mode.{Mode}
use Rattle.shfl_line.specs.declared.events.Mode.TheVariants.{Write, Read}
use Rattle.shfl_line.specs.declared.words.TheConstants.{HELD, CLOSED}
use Rattle.shfl_line.specs.Words.{held_of, closed_of}
use Rattle.shfl_core.specs.declared.phase.Phase.{Phase}
use Rattle.shfl_core.specs.declared.phase.Phase.TheVariants as phase
use Rattle.shfl_core.specs.declared.phase.Nap.{Nap}
use Rattle.shfl_core.specs.declared.phase.Nap.TheVariants.{Awake, Doze, Hear, Rouse, Ring}
use Rattle.shfl_core.specs.declared.phase.PassState.{PassState}
use Rattle.shfl_core.specs.declared.words.Word.{Word}
use Rattle.shfl_core.specs.declared.words.Word.TheVariants.{Lock, Tail as TailWord, Next as NextOf, State as StateOf, Attr as AttrOf, Bell}
use Rattle.shfl_core.specs.Words.{look, index, site}
use Rattle.shfl_core.specs.Plan.{plan_by, all_but, moving, is_idle, is_resting}
use Rattle.shfl_core.specs.Take.{to, take_by, acquired, released, entry, exit, attempted}
use Rattle.shfl_core.specs.Waiting.{idle}
use Rattle.shfl_core.specs.Worlds.{World, known, stepped, placed_at, after_access, tried, Acquire, Release, Step}
use Rattle.shfl_core.specs.Lawful.{Terms, Lawful}
use Rattle.shfl_core.proofs.Lists.{set-read, past, below-or}
use Rattle.shfl_laws.specs.Moves.{with_one_more}
use Rattle.shfl_laws.proofs.words.Frame.{look-else, look-same}
use Rattle.shfl_laws.proofs.words.LockBits.{lock-or-held, lock-or-closed, lock-and-held}
use Rattle.shfl_laws.proofs.laws.Opens.{known-one}
use Rattle.shfl_laws.specs.Changes.{Change, Moves, Tries, Disables, Fills, Replaces, is_idle_there, has_seat, after_change}
use Rattle.shfl_bound.specs.Stealing.{is_enabling_at}
use Rattle.shfl_bound.proofs.Changing.{both-true}
use Rattle.shfl_bound.proofs.ChangeLaws.{below-is}
use Rattle.shfl_bound.proofs.Enabling.{one, NoneAnew, fewer, spent, others, counted-in, counted-out, held-too, none-anew}

-- nobody comes to where it enables stealing
abbrev pub NoneComes : World → World → Type 0
NoneComes old new = (p : ℕ) → NoneAnew (known old.passes p) (known new.passes p)

pub data Turns (old new : World) : Type 0 where
  -- stealing that is disabled stays so
  Stays : (closed_of (look old.words Lock) ≡ true → closed_of (look new.words Lock) ≡ true)
      → sum_by one new.passes ≤ sum_by one old.passes → NoneComes old new → Turns old new
  -- one that was about to has enabled it
  Enables : sum_by one new.passes + 1 ≤ sum_by one old.passes → NoneComes old new → Turns old new
  -- the last has left
  Empties : look new.words TailWord ≡ 0 → Turns old new

module _ (w : World) where
  pub nothing : Turns w w
  nothing = Stays (λ h. h) (omega arith) (λ p h. h)

  -- the pass r comes to v, and stealing that is disabled stays so
  pub comes : (r : ℕ) (v : PassState) (words : List ℕ) → r < length w.passes → (closed_of (look w.words Lock) ≡ true → closed_of (look words Lock) ≡ true) → NoneAnew (known w.passes r) v
      → Turns w (record { words = words; passes = set w.passes r v })
  comes r v words below h n = Stays h (fewer w.passes r v below n) (others w.passes r v below n)

-- a compare and swap, by what it finds
compared : (n old new : ℕ) → (n ≡ old → closed_of n ≡ true → closed_of new ≡ true) → closed_of n ≡ true → closed_of (either (n == old) new n) ≡ true
compared n old new f h = by (n == old) refl
  where
    by : (b : Bool) → (n == old) ≡ b → closed_of (either b new n) ≡ true
    by true e = f (let z : n ≡ old = grind (arith, nat_tests, e) in z) h
    by false e = h

off-none : (old v : PassState) → is_enabling_at v.phase ≡ false → NoneAnew old v
off-none old v e h = absurd (cc)

module _ (t : Terms) (w : World) (ok : Lawful t w) (q : ℕ) (below : q < length w.passes) (c : Bool) where
  -- the world after the step of q, at this park state and phase
  abbrev pub step_to : Nap → Phase → World
  step_to x f = after_access w q (plan_by t.rules q (known w.passes q).reg x f) (take_by t.rules q (known w.passes q).reg (look w.words (site (plan_by t.rules q (known w.passes q).reg x f))) c x f)

  abbrev n : ℕ
  n = look w.words Lock

  abbrev Closed : List ℕ → Type 0
  Closed words = closed_of (look w.words Lock) ≡ true → closed_of (look words Lock) ≡ true

  untouched : (u : Word) (k : ℕ) → index Lock ≢ index u → Closed (set w.words (index u) k)
  untouched u k d h = ap closed_of (look-else w.words u Lock k d) ∙ h

  loaded : (u : Word) → Closed (set w.words (index u) (look w.words u))
  loaded u h = ap (λ (z : List ℕ). closed_of (look z Lock)) (set-read w.words (index u) 0) ∙ h

  room : (0 < length w.words) × (10 < length w.words)
  room = let r = ok.room in (omega arith, omega arith)

  locked : (k : ℕ) → (closed_of n ≡ true → closed_of k ≡ true) → Closed (set w.words (index Lock) k)
  locked k f h = ap closed_of (look-same w.words Lock k room.0) ∙ f h

  -- a step of its phase
  goes : (f : Phase) → f ≢ phase.Cut → Closed (step_to Awake f).words → Turns w (step_to Awake f)
  goes f d h = let v : PassState = take_by t.rules q (known w.passes q).reg (look w.words (site (plan_by t.rules q (known w.passes q).reg Awake f))) c Awake f in
      comes w q v (step_to Awake f).words below h (off-none (known w.passes q) v (none-anew t.rules q (known w.passes q).reg (look w.words (site (plan_by t.rules q (known w.passes q).reg Awake f))) c f d))

  by-phase : (f : Phase) → (known w.passes q).phase ≡ f → Turns w (step_to Awake f)
  by-phase phase.Steal at = goes phase.Steal (λ z. (cc)) (locked _ (compared n 0 HELD (λ e h. absurd (let a : closed_of 0 ≡ true = sym (ap closed_of e) ∙ h in cc))))
  by-phase phase.WriteGrab at = let s = (known w.passes q).reg.saw in goes phase.WriteGrab (λ z. (cc))
      (locked _ (compared n s ((s + 1) % 2 ^ 64) (λ e h. held-too s (ok.agrees.registered.saw q at).0 (sym (ap closed_of e) ∙ h))))
  by-phase phase.Close at = goes phase.Close (λ z. (cc)) (locked (bit_or n CLOSED) (λ h. (lock-or-closed n (ok.formed Lock)).closed))
  by-phase phase.Grab at = goes phase.Grab (λ z. (cc)) (locked (bit_or n HELD) (λ h. (lock-or-held n (ok.formed Lock)).closed ∙ h))
  by-phase phase.Release at = goes phase.Release (λ z. (cc)) (locked (bit_and n (all_but HELD)) (λ h. (lock-and-held n (ok.formed Lock)).closed ∙ h))
  by-phase phase.Count at = goes phase.Count (λ z. (cc)) (locked _ (counted-in n))
  by-phase phase.HeadCount at = goes phase.HeadCount (λ z. (cc)) (locked _ (counted-in n))
  by-phase phase.Uncount at = goes phase.Uncount (λ z. (cc)) (locked _ (counted-out n))
  by-phase phase.TryUncount at = goes phase.TryUncount (λ z. (cc)) (locked _ (counted-out n))
  by-phase phase.ReadRelease at = goes phase.ReadRelease (λ z. (cc)) (locked _ (counted-out n))
  by-phase phase.Idle at = goes phase.Idle (λ z. (cc)) (loaded Lock)
  by-phase phase.Held at = goes phase.Held (λ z. (cc)) (loaded Lock)
  by-phase phase.Peek at = goes phase.Peek (λ z. (cc)) (loaded Lock)
  by-phase phase.HeadLook at = goes phase.HeadLook (λ z. (cc)) (loaded Lock)
  by-phase phase.Decide at = goes phase.Decide (λ z. (cc)) (loaded (cond (known w.passes q).reg.headed Lock (StateOf q)))
  by-phase phase.Open at = Enables (spent w.passes q (to phase.Held (known w.passes q).reg) below (ap is_enabling_at at) refl)
      (others w.passes q (to phase.Held (known w.passes q).reg) below (off-none (known w.passes q) (to phase.Held (known w.passes q).reg) refl))
  by-phase phase.Cut at = by (look w.words TailWord == q + 1) refl
    where
      v : PassState
      v = take_by t.rules q (known w.passes q).reg (look w.words TailWord) c Awake phase.Cut

      by : (b : Bool) → (look w.words TailWord == q + 1) ≡ b → Turns w (step_to Awake phase.Cut)
      by true e = Empties (look-same w.words TailWord (either (look w.words TailWord == q + 1) 0 (look w.words TailWord)) room.1 ∙ ap (λ z. either z 0 (look w.words TailWord)) e)
      by false e = comes w q v (step_to Awake phase.Cut).words below (untouched TailWord _ (λ z. omega arith)) (off-none (known w.passes q) v (ap (λ b. is_enabling_at (cond b phase.Open phase.Late)) e))
  by-phase phase.Init at = goes phase.Init (λ z. (cc)) (untouched (StateOf q) _ (λ z. omega arith))
  by-phase phase.Look at = goes phase.Look (λ z. (cc)) (untouched (StateOf q) _ (λ z. omega arith))
  by-phase phase.Begin at = goes phase.Begin (λ z. (cc)) (untouched (StateOf q) _ (λ z. omega arith))
  by-phase phase.Mark at = goes phase.Mark (λ z. (cc)) (untouched (StateOf (known w.passes q).reg.cand) _ (λ z. omega arith))
  by-phase phase.Give at = goes phase.Give (λ z. (cc)) (untouched (StateOf (known w.passes q).reg.last) _ (λ z. omega arith))
  by-phase phase.Ready at = goes phase.Ready (λ z. (cc)) (untouched (StateOf (known w.passes q).reg.heir) _ (λ z. omega arith))
  by-phase phase.Swap at = goes phase.Swap (λ z. (cc)) (untouched TailWord _ (λ z. omega arith))
  by-phase phase.Tail at = goes phase.Tail (λ z. (cc)) (untouched TailWord _ (λ z. omega arith))
  by-phase phase.Attr at = goes phase.Attr (λ z. (cc)) (untouched (AttrOf (known w.passes q).reg.cand) _ (λ z. omega arith))
  by-phase phase.Link at = goes phase.Link (λ z. (cc)) (untouched (NextOf (known w.passes q).reg.before) _ (λ z. omega arith))
  by-phase phase.Next at = goes phase.Next (λ z. (cc)) (untouched (NextOf (known w.passes q).reg.prev) _ (λ z. omega arith))
  by-phase phase.After at = goes phase.After (λ z. (cc)) (untouched (NextOf (known w.passes q).reg.cand) _ (λ z. omega arith))
  by-phase phase.Pick at = goes phase.Pick (λ z. (cc)) (untouched (NextOf (known w.passes q).reg.prev) _ (λ z. omega arith))
  by-phase phase.Aim at = goes phase.Aim (λ z. (cc)) (untouched (NextOf (known w.passes q).reg.cand) _ (λ z. omega arith))
  by-phase phase.Place at = goes phase.Place (λ z. (cc)) (untouched (NextOf (known w.passes q).reg.last) _ (λ z. omega arith))
  by-phase phase.Take at = goes phase.Take (λ z. (cc)) (untouched (NextOf q) _ (λ z. omega arith))
  by-phase phase.Late at = goes phase.Late (λ z. (cc)) (untouched (NextOf q) _ (λ z. omega arith))

  -- a step of parking keeps the phase
  pub by-nap : (x : Nap) → (known w.passes q).nap ≡ x → Turns w (step_to x (known w.passes q).phase)
  by-nap Awake e = by-phase (known w.passes q).phase refl
  by-nap Doze e = comes w q _ (step_to Doze (known w.passes q).phase).words below (untouched (StateOf q) _ (λ z. omega arith)) (λ h. h)
  by-nap Hear e = comes w q _ (step_to Hear (known w.passes q).phase).words below (untouched (Bell q) _ (λ z. omega arith)) (λ h. h)
  by-nap Rouse e = comes w q _ (step_to Rouse (known w.passes q).phase).words below (untouched (StateOf q) _ (λ z. omega arith)) (λ h. h)
  by-nap (Ring whom) e = comes w q _ (step_to (Ring whom) (known w.passes q).phase).words below (untouched (Bell whom) _ (λ z. omega arith)) (λ h. h)

-- so does each change
module _ (t : Terms) (w : World) (ok : Lawful t w) where
  in-lock : (p : ℕ) → moving (known w.passes p) ≡ true → p < length w.passes
  in-lock p e = ⊎_elim (λ h. h) (λ h. absurd (let a : moving (known w.passes p) ≡ false = ap moving (past w.passes p (idle p) h) in cc)) (below-or p (length w.passes))

  -- where no word changes
  quiet : (r : ℕ) (v : PassState) → is_enabling_at v.phase ≡ false → Turns w (placed_at w r v)
  quiet r v e = ⊎_elim
      (λ below. comes w r v w.words below (λ h. h) (off-none (known w.passes r) v e))
      (λ over. subst (λ (l : List PassState). Turns w (record { words = w.words; passes = l })) (sym (set_past w.passes r v over)) (nothing w))
      (below-or r (length w.passes))

  acquire : (r : ℕ) (mode : Mode) (b : Bool) → is_idle (known w.passes r).phase ≡ b → Turns w (cond b (placed_at w r (acquired mode (known w.passes r))) w)
  acquire r mode false e = nothing w
  acquire r mode true e = quiet r (acquired mode (known w.passes r))
      (ap (λ (b : Bool). is_enabling_at (cond b (record (known w.passes r) { phase = entry mode; reg = record (known w.passes r).reg { mode = mode } }) (known w.passes r)).phase) e ∙ enters mode)
    where
      enters : (mode : Mode) → is_enabling_at (entry mode) ≡ false
      enters Write = refl
      enters Read = refl

  release : (r : ℕ) (b : Bool) → is_resting (known w.passes r) ≡ b → Turns w (cond b (placed_at w r (released (known w.passes r))) w)
  release r false e = nothing w
  release r true e = quiet r (released (known w.passes r))
      (ap (λ (b : Bool). is_enabling_at (cond b (record (known w.passes r) { phase = exit (known w.passes r).reg.mode }) (known w.passes r)).phase) e ∙ exits (known w.passes r).reg.mode)
    where
      exits : (mode : Mode) → is_enabling_at (exit mode) ≡ false
      exits Write = refl
      exits Read = refl

  step : (r : ℕ) (c : Bool) (b : Bool) → moving (known w.passes r) ≡ b → Turns w (cond b (stepped t.rules w r (known w.passes r) c) w)
  step r c false e = nothing w
  step r c true e = by-nap t w ok r (in-lock r e) c (known w.passes r).nap refl

  word : (k : ℕ) → (closed_of (look w.words Lock) ≡ true → closed_of k ≡ true) → closed_of (look w.words Lock) ≡ true → closed_of (look (set w.words (index Lock) k) Lock) ≡ true
  word k f h = ap closed_of (look-same w.words Lock k (let r = ok.room in omega arith)) ∙ f h

  try : (p : ℕ) (mode : Mode) (b : Bool) → is_idle_there w p ≡ b → Turns w (cond b (tried w p (known w.passes p) mode) w)
  try p mode false e = nothing w
  try p mode true e = by mode
    where
      n : ℕ
      n = look w.words Lock

      below : p < length w.passes
      below = below-is p (length w.passes) (both-true (nat_lt p (length w.passes)) (is_idle (known w.passes p).phase) e).0

      either-off : (b : Bool) (f g : PassState) → is_enabling_at f.phase ≡ false → is_enabling_at g.phase ≡ false → is_enabling_at (cond b f g).phase ≡ false
      either-off true f g x y = x
      either-off false f g x y = y

      by : (mode : Mode) → Turns w (tried w p (known w.passes p) mode)
      by Write = let v : PassState = attempted Write (known w.passes p).reg n in comes w p v (set w.words (index Lock) (either (n == 0) HELD n)) below
          (word (either (n == 0) HELD n) (compared n 0 HELD (λ e h. absurd (let a : closed_of 0 ≡ true = sym (ap closed_of e) ∙ h in cc))))
          (off-none (known w.passes p) v (either-off (n == 0) _ _ refl refl))
      by Read = let v : PassState = attempted Read (known w.passes p).reg n in comes w p v (set w.words (index Lock) ((n + 4294967296) % 2 ^ 64)) below
          (word ((n + 4294967296) % 2 ^ 64) (counted-in n))
          (off-none (known w.passes p) v (either-off (held_of n || closed_of n) _ _ refl refl))

  fills : (b : Bool) → Turns w (cond b (with_one_more w) w)
  fills true = Stays (λ h. h) (let a = sum_by_push one w.passes (idle (length w.passes)) in omega arith)
      (λ p h. sym (ap (λ (q : PassState). is_enabling_at q.phase) (known-one w.passes p)) ∙ h)
  fills false = nothing w

  replaces : (p : ℕ) (v : PassState) (b : Bool) → is_enabling_at v.phase ≡ false → Turns w (cond b (placed_at w p v) w)
  replaces p v true e = quiet p v e
  replaces p v false e = nothing w

  pub turn : (c : Change) → Turns w (after_change t.rules w c)
  turn (Moves (Acquire r mode)) = acquire r mode (is_idle (known w.passes r).phase) refl
  turn (Moves (Release r)) = release r (is_resting (known w.passes r)) refl
  turn (Moves (Step r c)) = step r c (moving (known w.passes r)) refl
  turn (Tries p mode) = try p mode (is_idle_there w p) refl
  turn (Disables q) = Stays (word (bit_or (look w.words Lock) CLOSED) (λ h. (lock-or-closed (look w.words Lock) (ok.formed Lock)).closed)) (omega arith) (λ p h. h)
  turn Fills = fills (has_seat w)
  turn (Replaces p r) = replaces p (to phase.Idle (record r { me = p })) (is_idle_there w p) refl

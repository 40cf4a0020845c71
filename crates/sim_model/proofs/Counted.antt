-- The sums agree: each step is one access, each gain one wait and one of its pass.
use Rattle.std.proofs.Common.{◌≡◌, ℕ, zero, suc, ◌+◌, ◌<◌, ◌≤◌, ◌==◌, Bool, true, false, cond, List, [], ◌∷◌, ◌++◌, length, get_or, set, refl, sym, ap, subst, ◌∙◌, Option, Some, None, arith, length-append, length-set}
use Rattle.std.specs.Prelude.{sum_by, nat_lt, ◌&&◌}
use Rattle.std.proofs.lemmas.List.{length-replicate}
use Rattle.std.proofs.lemmas.List.Sums.{sum_by-cons}
use Rattle.std.proofs.lemmas.List.Folds.{sum_by-replicate}
use Rattle.shfl_line.specs.declared.events.Mode.{Mode}
use Rattle.shfl_core.specs.declared.words.Word.{Word}
use Rattle.shfl_core.specs.declared.words.Word.TheVariants.{Lock, Tail, Next, State as StateOf, Attr, Bell}
use Rattle.shfl_core.specs.Worlds.{World, after_move}
use Rattle.sim_setup.specs.declared.lines.Reach.{Reach}
use Rattle.sim_setup.specs.declared.lines.Reach.TheVariants.{Hit, Near, Far}
use Rattle.sim_setup.specs.declared.setup.Setup.{Setup}
use Rattle.sim_setup.specs.Clock.{plus}
use Rattle.sim_model.specs.declared.bench.Bench.{Bench}
use Rattle.sim_model.specs.declared.counts.Counts.{Counts}
use Rattle.sim_model.specs.declared.counts.Reaches.{Reaches}
use Rattle.sim_model.specs.declared.counts.Served.{Served}
use Rattle.sim_model.specs.declared.steps.Made.{Made}
use Rattle.sim_model.specs.declared.turns.Entry.{Entry}
use Rattle.sim_model.specs.declared.turns.Turn.{Turn}
use Rattle.sim_model.specs.declared.turns.Turn.TheVariants.{Call, Step, Gain, Free}
use Rattle.sim_model.specs.Firsts.{mapped}
use Rattle.sim_model.specs.Openings.{opening_served}
use Rattle.sim_model.specs.Calls.{nobody_served, served_at, called, gained, overtaken, all_overtaken, in_order, passed_once}
use Rattle.sim_model.specs.Counts.{reached, with_access, with_step}
use Rattle.sim_model.specs.Sums.{reaches_of, accesses_of, gains_of, SumsAgree}
use Rattle.sim_model.specs.Runs.{Answers, State, with_call, call_move, with_gain, listed, turn_bench, turn_wait, after_turn, next_turn, turning, ran, opening_state}
use Rattle.sim_model.specs.Steps.{made_by, settled, with_touch, with_stand}
use Rattle.sim_model.specs.Tries.{in_vain, begun, with_attempt}
use Rattle.sim_model.specs.Turns.{soonest}
use Rattle.sim_model.proofs.Mapped.{mapped-either, mapped-long}
use Rattle.sim_model.proofs.Turned.{found, in-time-some}
use Rattle.shfl_line.specs.declared.words.Attr.{Attr as Attributes}

plus-one : (x : ℕ) → x < 18446744073709551615 → plus x 1 ≡ x + 1
unfolding plus
plus-one x lt = omega arith

reached-one : (r : Reaches) (reach : Reach) → reaches_of r < 18446744073709551615 → reaches_of (reached r reach) ≡ reaches_of r + 1
reached-one r Hit lt = let e = plus-one r.hits (omega arith) in omega arith
reached-one r Near lt = let e = plus-one r.near (omega arith) in omega arith
reached-one r Far lt = let e = plus-one r.far (omega arith) in omega arith

access-one : (c : Counts) (word : Word) (reach : Reach) → accesses_of c < 18446744073709551615 → (accesses_of (with_access c word reach) ≡ accesses_of c + 1) × ((with_access c word reach).steps ≡ c.steps)
unfolding with_access
access-one c Lock reach lt = let e = reached-one c.lock reach (omega arith) in (omega arith, refl)
access-one c Tail reach lt = let e = reached-one c.tail reach (omega arith) in (omega arith, refl)
access-one c (Next p) reach lt = let e = reached-one c.node reach (omega arith) in (omega arith, refl)
access-one c (StateOf p) reach lt = let e = reached-one c.node reach (omega arith) in (omega arith, refl)
access-one c (Attr p) reach lt = let e = reached-one c.node reach (omega arith) in (omega arith, refl)
access-one c (Bell p) reach lt = let e = reached-one c.node reach (omega arith) in (omega arith, refl)

step-one : (c : Counts) (m : Made) → (accesses_of (with_step c m) ≡ accesses_of c) × ((with_step c m).steps ≡ plus c.steps 1)
unfolding with_step
step-one c m = (refl, refl)

-- after so many turns: steps are accesses, and no more than the turns
record Counted (k : ℕ) (c : Counts) : Type 0 where
  steps : c.steps ≡ accesses_of c
  few : c.steps ≤ k

step-counted : (k : ℕ) (c : Counts) (word : Word) (reach : Reach) (m : Made) → k < 18446744073709551615 → Counted k c → Counted (suc k) (with_step (with_access c word reach) m)
step-counted k c word reach m lt h =
    let s = h.steps in
    let f = h.few in
    let under : accesses_of c < 18446744073709551615 = omega arith in
    let a = access-one c word reach under in
    let b = step-one (with_access c word reach) m in
    let a0 = a.0 in let a1 = a.1 in let b0 = b.0 in
    let p : plus (with_access c word reach).steps 1 ≡ c.steps + 1 = ap (λ x. plus x 1) a.1 ∙ plus-one c.steps (omega arith) in
    let b1 : (with_step (with_access c word reach) m).steps ≡ c.steps + 1 = b.1 ∙ p in
    record { steps = omega arith; few = omega arith }

settled-counted : (k : ℕ) (s : Setup) (b : Bench) (p at : ℕ) (m : Made) → k < 18446744073709551615 → Counted k b.counts → Counted (suc k) (settled s b p m at).counts
unfolding with_stand with_touch
settled-counted k s b p at m lt h = step-counted k b.counts _ _ m lt h

gain-counts : (k : ℕ) (s : Setup) (b : Bench) (p at : ℕ) (m : Mode) (stolen : Bool) → Counted k b.counts → Counted (suc k) (with_gain s b p m stolen at).counts
unfolding with_gain
gain-counts k s b p at m stolen h = let s = h.steps in let f = h.few in record { steps = s; few = omega arith }

-- an attempt in vain is no step
attempt-counts : (k : ℕ) (s : Setup) (b : Bench) (p tried at : ℕ) → Counted k b.counts → Counted (suc k) (with_attempt s b p tried at).counts
unfolding with_attempt
attempt-counts k s b p tried at h = let s = h.steps in let f = h.few in record { steps = s; few = omega arith }

turn-counted : (k : ℕ) (s : Setup) (answers : Answers) (w : World) (b : Bench) (p at : ℕ) (turn : Turn) → k < 18446744073709551615 → Counted k b.counts → Counted (suc k) (turn_bench s answers w b p at turn).counts
turn-counted k s answers w b p at (Call tried) lt h =
    let m = made_by s answers (after_move s.rules w (call_move s b p)) p in
    elim (in_vain s w b p tried) as (λ v. Counted (suc k) (cond v (with_attempt s b p tried at) (settled s (with_call s b p tried at) p m at)).counts) [
      | true ↦ attempt-counts k s b p tried at h
      | false ↦ settled-counted k s (with_call s b p tried at) p at m lt (record { steps = h.steps; few = h.few })
    ]
turn-counted k s answers w b p at Step lt h = settled-counted k s b p at _ lt h
turn-counted k s answers w b p at Free lt h = settled-counted k s b p at _ lt h
turn-counted k s answers w b p at (Gain stolen) lt h = gain-counts k s b p at _ stolen h

-- gains

settled-order : (s : Setup) (b : Bench) (p at : ℕ) (m : Made) → ((settled s b p m at).order ≡ b.order) × ((settled s b p m at).served ≡ b.served)
unfolding with_stand with_touch
settled-order s b p at m = (refl, refl)

sum-set : {A : Type 0} → (f : A → ℕ) (xs : List A) (p : ℕ) (x d : A) → p < length xs → sum_by f (set xs p x) + f (get_or xs p d) ≡ sum_by f xs + f x
sum-set f [] p x d lt = absurd (omega arith)
sum-set f (y ∷ ys) zero x d lt = let a = sum_by-cons f x ys in let b = sum_by-cons f y ys in omega arith
sum-set f (y ∷ ys) (suc p) x d lt =
    let ih : sum_by f (set ys p x) + f (get_or ys p d) ≡ sum_by f ys + f x = sum-set f ys p x d (omega arith) in
    let a = sum_by-cons f y (set ys p x) in let b = sum_by-cons f y ys in omega arith

sum-same : {A : Type 0} → (f : A → ℕ) (g : A → A) (xs : List A) (n : ℕ) → ((x : A) → f (g x) ≡ f x) → sum_by f (mapped g n xs) ≡ sum_by f xs
sum-same f g [] zero same = refl
sum-same f g [] (suc n) same = refl
sum-same f g (x ∷ xs) zero same = refl
sum-same f g (x ∷ xs) (suc n) same =
    let a = sum_by-cons f (g x) (mapped g n xs) in let b = sum_by-cons f x xs in let ih = sum-same f g xs n same in let e = same x in omega arith

chosen-gained : (b : Bool) (x : Served) → (cond b (passed_once x) x).gained ≡ x.gained
chosen-gained true x = refl
chosen-gained false x = refl

overtaken-gained : (call : ℕ) (x : Served) → (overtaken call x).gained ≡ x.gained
overtaken-gained call x = chosen-gained (x.waits && nat_lt x.called call) x

sum-at : {A : Type 0} → (f : A → ℕ) (xs : List A) (p : ℕ) (d : A) → p < length xs → f (get_or xs p d) ≤ sum_by f xs
sum-at f [] p d lt = absurd (omega arith)
sum-at f (y ∷ ys) zero d lt = let b = sum_by-cons f y ys in omega arith
sum-at f (y ∷ ys) (suc p) d lt = let b = sum_by-cons f y ys in let ih : f (get_or ys p d) ≤ sum_by f ys = sum-at f ys p d (omega arith) in omega arith

-- after so many turns: the gains of all passes, those in the order, and the waits are as many, and no more than the turns
record Gained (k : ℕ) (b : Bench) (waits : List ℕ) : Type 0 where
  served : gains_of b.served ≡ b.order.gained
  ended : length waits ≡ b.order.gained
  few : b.order.gained ≤ k
  seats : length b.served ≡ 1024

-- one pass has gained once more
one-gained : (served : List Served) (p call n m : ℕ) (next : Served) → length served ≡ 1024 → p < 1024 → gains_of served ≡ n → n < 18446744073709551615
    → next.gained ≡ plus (served_at served p).gained 1 → gains_of (set (all_overtaken m call served) p next) ≡ n + 1
one-gained served p call n m next long below sum lt is =
    let f : Served → ℕ = λ (x : Served). x.gained in
    let others = all_overtaken m call served in
    let inside : p < length served = omega arith in
    let inside' : p < length others = let e = mapped-long (overtaken call) served m in omega arith in
    let a : sum_by f (set others p next) + f (get_or others p nobody_served) ≡ sum_by f others + f next = sum-set f others p next nobody_served inside' in
    let same : sum_by f others ≡ sum_by f served = sum-same f (overtaken call) served m (overtaken-gained call) in
    let before : f (get_or others p nobody_served) ≡ (served_at served p).gained =
    mapped-either (λ (y : Served). f y ≡ (served_at served p).gained) (overtaken call) served m p nobody_served refl (overtaken-gained call (served_at served p)) in
    let at-most : (served_at served p).gained ≤ sum_by f served = sum-at f served p nobody_served inside in
    let total : sum_by f served ≡ n = sum in
    let more : f next ≡ (served_at served p).gained + 1 = is ∙ plus-one (served_at served p).gained (omega arith) in
    let goal : sum_by f (set others p next) ≡ n + 1 = omega arith in goal

gain-gained : (k : ℕ) (s : Setup) (b : Bench) (waits : List ℕ) (p at : ℕ) (m : Mode) (stolen : Bool) (wait : ℕ) → k < 18446744073709551615 → p < 1024 → Gained k b waits
    → Gained (suc k) (with_gain s b p m stolen at) (waits ++ wait ∷ [])
unfolding with_gain gained in_order
gain-gained k s b waits p at m stolen wait lt below h =
    let few = h.few in
    let more : plus b.order.gained 1 ≡ b.order.gained + 1 = plus-one b.order.gained (omega arith) in
    record {
      served = one-gained b.served p (served_at b.served p).called b.order.gained s.passes _ h.seats below h.served (omega arith) refl ∙ sym more;
      ended = length-append waits (wait ∷ []) ∙ ap (λ x. x + 1) h.ended ∙ sym more;
      few = omega arith;
      seats = length-set (all_overtaken s.passes (served_at b.served p).called b.served) p _
          ∙ mapped-long (overtaken (served_at b.served p).called) b.served s.passes ∙ h.seats;
    }

begun-gained : (x : Served) (tried at : ℕ) → (begun x tried at).gained ≡ x.gained
begun-gained x tried at = elim (tried == 0) as (λ b. (cond b (called x at) x).gained ≡ x.gained) [ true ↦ refl | false ↦ refl ]

-- that a call begins leaves the gains
begun-same : (served : List Served) (p tried at : ℕ) → p < length served → gains_of (set served p (begun (served_at served p) tried at)) ≡ gains_of served
begun-same served p tried at inside =
    let f : Served → ℕ = λ (x : Served). x.gained in
    let own = begun (served_at served p) tried at in
    let a : sum_by f (set served p own) + f (get_or served p nobody_served) ≡ sum_by f served + f own = sum-set f served p own nobody_served inside in
    let g : f own ≡ f (get_or served p nobody_served) = begun-gained (served_at served p) tried at in
    let same : sum_by f (set served p own) ≡ sum_by f served = omega arith in same

called-gained : (k : ℕ) (s : Setup) (b : Bench) (waits : List ℕ) (p tried at : ℕ) → p < 1024 → Gained k b waits → Gained k (with_call s b p tried at) waits
called-gained k s b waits p tried at below h =
    let inside : p < length b.served = let z = h.seats in omega arith in
    record {
      served = begun-same b.served p tried at inside ∙ h.served;
      ended = h.ended;
      few = h.few;
      seats = length-set b.served p (begun (served_at b.served p) tried at) ∙ h.seats;
    }

no-wait : (waits : List ℕ) → length (waits ++ []) ≡ length waits
no-wait waits = length-append waits [] ∙ (let e : length waits + 0 ≡ length waits = omega arith in e)

attempt-gained : (k : ℕ) (s : Setup) (b : Bench) (waits : List ℕ) (p tried at : ℕ) → p < 1024 → Gained k b waits → Gained (suc k) (with_attempt s b p tried at) (waits ++ [])
unfolding with_attempt
attempt-gained k s b waits p tried at below h = let few = h.few in
    let inside : p < length b.served = let z = h.seats in omega arith in
    record {
      served = begun-same b.served p tried at inside ∙ h.served;
      ended = no-wait waits ∙ h.ended;
      few = omega arith;
      seats = length-set b.served p (begun (served_at b.served p) tried at) ∙ h.seats;
    }

settled-gained : (k : ℕ) (s : Setup) (b : Bench) (waits : List ℕ) (p at : ℕ) (m : Made) → Gained k b waits → Gained (suc k) (settled s b p m at) (waits ++ [])
unfolding with_stand with_touch
settled-gained k s b waits p at m h = let few = h.few in
    record { served = h.served; ended = no-wait waits ∙ h.ended; few = omega arith; seats = h.seats }

turn-gained : (k : ℕ) (s : Setup) (answers : Answers) (w : World) (b : Bench) (waits : List ℕ) (p at : ℕ) (turn : Turn) → k < 18446744073709551615 → p < 1024 → Gained k b waits
    → Gained (suc k) (turn_bench s answers w b p at turn) (waits ++ listed (turn_wait b p at turn))
turn-gained k s answers w b waits p at (Call tried) lt below h =
    let m = made_by s answers (after_move s.rules w (call_move s b p)) p in
    elim (in_vain s w b p tried) as (λ v. Gained (suc k) (cond v (with_attempt s b p tried at) (settled s (with_call s b p tried at) p m at)) (waits ++ [])) [
      | true ↦ attempt-gained k s b waits p tried at below h
      | false ↦ settled-gained k s (with_call s b p tried at) waits p at m (called-gained k s b waits p tried at below h)
    ]
turn-gained k s answers w b waits p at Step lt below h = settled-gained k s b waits p at _ h
turn-gained k s answers w b waits p at Free lt below h = settled-gained k s b waits p at _ h
turn-gained k s answers w b waits p at (Gain stolen) lt below h = gain-gained k s b waits p at _ stolen _ lt below h

module _ (s : Setup) (answers : Answers) (few : s.passes ≤ 1024) where
  abbrev Sound : ℕ → State → Type 0
  Sound k st = Counted k st.bench.counts × Gained k st.bench st.waits

  weaken : (k n : ℕ) (st : State) → Sound k st → Sound (k + n) st
  weaken k n st h = let c = h.0 in let g = h.1 in let a = c.few in let b = g.few in
      (record { steps = c.steps; few = omega arith }, record { served = g.served; ended = g.ended; few = omega arith; seats = g.seats })

  sound-on : (k n : ℕ) (st : State) (o : Option Entry) → next_turn s st.bench ≡ o → k + suc n ≤ 18446744073709551615 → Sound k st
      → ((next : State) → suc k + n ≤ 18446744073709551615 → Sound (suc k) next → Sound (suc k + n) (ran s answers n next))
      → Sound (k + suc n) (turning o st (λ e. ran s answers n (after_turn s answers st e)))
  sound-on k n st None is fits h ih = weaken k (suc n) st h
  sound-on k n st (Some e) is fits h ih =
      let lt : k < 18446744073709551615 = omega arith in
      let sn = in-time-some st.bench.stands s.passes s.until (soonest st.bench.stands s.passes) e (found st.bench.stands s.passes) is in
      let below : e.pass < 1024 = let b = sn.0.below in omega arith in
      let more : suc k + n ≡ k + suc n = omega arith in
      subst (λ x. Sound x (ran s answers n (after_turn s answers st e))) more (ih (after_turn s answers st e) (omega arith)
      (turn-counted k s answers st.world st.bench e.pass e.at e.turn lt h.0, turn-gained k s answers st.world st.bench st.waits e.pass e.at e.turn lt below h.1))

  sound : (n k : ℕ) (st : State) → k + n ≤ 18446744073709551615 → Sound k st → Sound (k + n) (ran s answers n st)
  sound zero k st fits h = weaken k zero st h
  sound (suc n) k st fits h = sound-on k n st (next_turn s st.bench) refl fits h (λ next. sound n (suc k) next)

opening-sound : (s : Setup) (attrs : List Attributes) → (Counted 0 (opening_state s attrs).bench.counts) × Gained 0 (opening_state s attrs).bench []
unfolding opening_served
opening-sound s attrs = (
  record { steps = refl; few = omega arith },
  record { served = sum_by-replicate (λ (x : Served). x.gained) 1024 nobody_served; ended = refl; few = omega arith; seats = length-replicate 1024 nobody_served },
)

pub sums-agree : SumsAgree
sums-agree s answers n attrs up fits =
    let h = sound s answers up.few n 0 (opening_state s attrs) (omega arith) (opening-sound s attrs) in
    record { accesses = h.0.steps; gains = h.1.served; waits = h.1.ended }

-- One turn of the loop over the events: the rows and the counts that are still to come.
use Rattle.std.proofs.Common.{◌≡◌, ℕ, ◌+◌, ◌<◌, List, ◌∷◌, ◌++◌, Bool, true, false, not, cond, length, get_or, drop, drop-cons, add-one, refl, ap, ◌∙◌, arith}
use Rattle.std.proofs.lemmas.List.Sums.{sum_by-cons}
use Rattle.shfl_line.specs.declared.events.Form.{Form}
use Rattle.shfl_core.specs.Worlds.{World, admitted}
use Rattle.shfl_sched.specs.declared.schedule.Event.{Event}
use Rattle.shfl_sched.specs.Run.{Setup, Moment, move_in, after_event, moment_of, moments}
use Rattle.shfl_sched.specs.Report.{row, rows_from, count_admitted, count_refused}

module _ (t : Setup) (w : World) (events : List Event) (i : ℕ) (d : Event) where
  abbrev pub item : Event
  item = get_or events i d

  abbrev pub was_admitted : Bool
  was_admitted = admitted w (move_in t w item)

  next_moment : i < length events → moments t w (drop i events) ≡ moment_of t w item ∷ moments t (after_event t w item) (drop (i + 1) events)
  next_moment lt = rw (add-one, drop-cons events i d lt) refl

  next_admitted : i < length events → count_admitted (moments t w (drop i events)) ≡ cond was_admitted 1 0 + count_admitted (moments t (after_event t w item) (drop (i + 1) events))
  next_admitted lt = ap count_admitted (next_moment lt) ∙ sum_by-cons (λ (m : Moment). cond m.admitted 1 0) (moment_of t w item) (moments t (after_event t w item) (drop (i + 1) events))

  next_refused : i < length events → count_refused (moments t w (drop i events)) ≡ cond (not was_admitted) 1 0 + count_refused (moments t (after_event t w item) (drop (i + 1) events))
  next_refused lt = ap count_refused (next_moment lt) ∙ sum_by-cons (λ (m : Moment). cond (not m.admitted) 1 0) (moment_of t w item) (moments t (after_event t w item) (drop (i + 1) events))

  -- the next row stands before those that come then
  pub next_row : (form : Form) (k : ℕ) (v : World) (a : Bool) → i < length events → v ≡ after_event t w item → a ≡ was_admitted
      → rows_from form k (moments t w (drop i events)) ≡ row form k item a v ++ rows_from form (k + 1) (moments t v (drop (i + 1) events))
  next_row form k v a lt after answer = rw (answer, after) (ap (rows_from form k) (next_moment lt))

  pub counts_admitted : (count total : ℕ) (v : World) → i < length events → v ≡ after_event t w item → was_admitted ≡ true
      → count + count_admitted (moments t w (drop i events)) ≡ total → count + 1 + count_admitted (moments t v (drop (i + 1) events)) ≡ total
  counts_admitted count total v lt after is so_far = let e = next_admitted lt in let one : ◌≡◌ {A = ℕ} (cond was_admitted 1 0) 1 = ap (λ (b : Bool). cond {A = ℕ} b 1 0) is in rw after (omega (arith, e, one))

  pub skips_admitted : (count total : ℕ) (v : World) → i < length events → v ≡ after_event t w item → was_admitted ≡ false
      → count + count_admitted (moments t w (drop i events)) ≡ total → count + count_admitted (moments t v (drop (i + 1) events)) ≡ total
  skips_admitted count total v lt after is so_far = let e = next_admitted lt in let one : ◌≡◌ {A = ℕ} (cond was_admitted 1 0) 0 = ap (λ (b : Bool). cond {A = ℕ} b 1 0) is in rw after (omega (arith, e, one))

  pub counts_refused : (count total : ℕ) (v : World) → i < length events → v ≡ after_event t w item → was_admitted ≡ false
      → count + count_refused (moments t w (drop i events)) ≡ total → count + 1 + count_refused (moments t v (drop (i + 1) events)) ≡ total
  counts_refused count total v lt after is so_far = let e = next_refused lt in let one : ◌≡◌ {A = ℕ} (cond (not was_admitted) 1 0) 1 = ap (λ (b : Bool). cond {A = ℕ} (not b) 1 0) is in rw after (omega (arith, e, one))

  pub skips_refused : (count total : ℕ) (v : World) → i < length events → v ≡ after_event t w item → was_admitted ≡ true
      → count + count_refused (moments t w (drop i events)) ≡ total → count + count_refused (moments t v (drop (i + 1) events)) ≡ total
  skips_refused count total v lt after is so_far = let e = next_refused lt in let one : ◌≡◌ {A = ℕ} (cond (not was_admitted) 1 0) 0 = ap (λ (b : Bool). cond {A = ℕ} (not b) 1 0) is in rw after (omega (arith, e, one))

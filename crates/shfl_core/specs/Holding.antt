-- Who holds the lock, what the lock word says of it, and in which mode each pass goes.
use Rattle.std.specs.Prelude.{◌≡◌, ◌≢◌, ℕ, zero, suc, ◌+◌, ◌<◌, List, [], ◌∷◌, Bool, true, false, cond, ◌==◌, ◌&&◌, not}
use Rattle.shfl_line.specs.declared.events.Mode.{Mode}
use Rattle.shfl_line.specs.declared.events.Mode.TheVariants.{Write, Read}
use Rattle.shfl_line.specs.declared.events.Form.{Form}
use Rattle.shfl_line.specs.Words.{held_of, readers_of}
use Rattle.shfl_line.specs.Line.{is_write, writer_count, reader_count}
use Rattle.shfl_core.specs.declared.phase.Phase.TheVariants.{Idle, Grab, WriteGrab, Late}
use Rattle.shfl_core.specs.declared.phase.PassState.{PassState}
use Rattle.shfl_core.specs.Plan.{shares}
use Rattle.shfl_core.specs.Phases.{is_holding, is_backing, is_writing, is_reading, decide_to_pick}
use Rattle.shfl_core.specs.View.{View}

-- the sum of f below n
abbrev pub total : ℕ → (ℕ → ℕ) → ℕ
total zero f = 0
total (suc n) f = f n + total n f

-- how often the pass stands in the hold as a writer, and as a reader
abbrev pub write_of : ℕ → List (ℕ × Mode) → ℕ
write_of q [] = 0
write_of q (x ∷ xs) = cond ((x.0 == q) && is_write x.1) 1 0 + write_of q xs

abbrev pub read_of : ℕ → List (ℕ × Mode) → ℕ
read_of q [] = 0
read_of q (x ∷ xs) = cond ((x.0 == q) && not (is_write x.1)) 1 0 + read_of q xs

abbrev pub backs : PassState → ℕ
backs q = cond (is_backing q.phase) 1 0

-- of n passes
pub record Holding (n : ℕ) (held : Bool) (readers : ℕ) (pass : ℕ → PassState) (hold : List (ℕ × Mode)) : Type 0 where
  -- who is at a holding phase stands in the hold once, with its mode, and nobody else does
  pub writer : (q : ℕ) → write_of q hold ≡ cond (is_holding (pass q).phase && is_write (pass q).reg.mode) 1 0
  pub reader : (q : ℕ) → read_of q hold ≡ cond (is_holding (pass q).phase && not (is_write (pass q).reg.mode)) 1 0
  -- the lock word's held is set exactly where a writer holds, and a writer holds alone
  pub word : writer_count hold ≡ cond held 1 0
  pub alone : 0 < writer_count hold → reader_count hold ≡ 0
  -- the lock word counts the readers that hold, and the passes that are counted besides
  pub count : readers ≡ reader_count hold + total n (λ q. backs (pass q))

-- the modes, and what some registers say of the words
pub record Registered (form : Form) (w : View) : Type 0 where
  pub writing : (q : ℕ) → is_writing (w.pass q).phase ≡ true → (w.pass q).reg.mode ≡ Write
  pub reading : (q : ℕ) → is_reading (w.pass q).phase ≡ true → (w.pass q).reg.mode ≡ Read
  pub writers : shares form ≡ false → (q : ℕ) → (w.pass q).phase ≢ Idle → (w.pass q).reg.mode ≡ Write
  pub no_compare : shares form ≡ false → (q : ℕ) → (w.pass q).phase ≢ WriteGrab
  pub no_or : shares form ≡ true → (q : ℕ) → (w.pass q).phase ≢ Grab
  pub saw : (q : ℕ) → (w.pass q).phase ≡ WriteGrab → (held_of (w.pass q).reg.saw ≡ false) × (readers_of (w.pass q).reg.saw ≡ 0)
  pub late : (q : ℕ) → (w.pass q).phase ≡ Late → w.tail ≢ suc q
  pub seen : (q : ℕ) → decide_to_pick (w.pass q).phase ≡ true → (w.pass q).reg.seen ≡ w.attr (w.pass q).reg.cand

-- The queue head on the lock word, as the world is read: which phases it goes on to, and what its registers then say.
use Rattle.std.proofs.Common.{◌≡◌, ◌≢◌, ℕ, suc, ◌+◌, ◌<◌, ◌==◌, Bool, true, false, cond, List, [], ◌∷◌, length, set, refl, sym, ◌∙◌, subst, arith}
use Rattle.std.specs.Prelude.{◌||◌}
use Rattle.std.proofs.lemmas.Bool.Decides.{nat_tests}
use Rattle.shfl_line.specs.declared.events.Form.{Form}
use Rattle.shfl_line.specs.declared.events.Mode.{Mode}
use Rattle.shfl_line.specs.declared.events.Mode.TheVariants.{Write, Read}
use Rattle.shfl_line.specs.declared.events.LineEvent.{LineEvent}
use Rattle.shfl_line.specs.declared.events.LineEvent.TheVariants.{Grab as GrabEvent}
use Rattle.shfl_line.specs.Line.{Line, is_write, reader_count, holds, active_shuffler}
use Rattle.shfl_line.specs.Steps.{Admits, after, add_holder, IsFreeFor, NamesBelow}
use Rattle.shfl_line.specs.Words.{held_of, closed_of, readers_of, IsLockWord}
use Rattle.shfl_line.specs.Passes.{updated, first}
use Rattle.shfl_core.specs.declared.phase.Phase.{Phase}
use Rattle.shfl_core.specs.declared.phase.Phase.TheVariants.{Idle, Close, Begin, Peek, Grab, WriteGrab, HeadCount, HeadLook, Take, Swap, Ready, Late}
use Rattle.shfl_core.specs.declared.phase.Registers.{Registers as Regs}
use Rattle.shfl_core.specs.declared.phase.Nap.TheVariants.{Awake}
use Rattle.shfl_core.specs.declared.phase.PassState.{PassState}
use Rattle.shfl_core.specs.declared.words.Word.TheVariants.{Lock}
use Rattle.shfl_core.specs.Words.{look, index, wide}
use Rattle.shfl_core.specs.Take.{to, top, seek}
use Rattle.shfl_core.specs.Plan.{shares}
use Rattle.shfl_core.specs.Worlds.{World, known}
use Rattle.shfl_core.specs.Phases.{is_round, is_queued, is_fore, is_linking, knows, is_holding, is_writing, is_reading, decide_to_pick}
use Rattle.shfl_core.specs.View.{View, view}
use Rattle.shfl_core.specs.Holding.{Holding, backs, read_of}
use Rattle.shfl_core.specs.Grouping.{Grouping}
use Rattle.shfl_core.specs.Lawful.{Terms, count, Agrees, Lawful, Advances}
use Rattle.shfl_laws.proofs.kept.QuietAgrees.{GoesOn, quiet-agrees}
use Rattle.shfl_laws.proofs.words.Advance.{advance-lock, advance-load, below-count}
use Rattle.shfl_laws.proofs.words.Frame.{written_lock, passed}
use Rattle.shfl_laws.proofs.rows.Holding.{stay, gain}
use Rattle.shfl_laws.proofs.rows.Counts.{not-holding}

-- a pass at the queue's head outside a round
pub record Ahead (q : PassState) : Type 0 where
  pub queued : is_queued q ≡ true
  pub fore : is_fore q ≡ true
  pub link : is_linking q.phase ≡ false
  pub ready : q.phase ≢ Ready
  pub swap : q.phase ≢ Swap
  pub round : is_round q.phase ≡ false
  pub knows : knows q.phase ≡ true

abbrev pub heads : Phase → Bool
heads Close = true
heads Peek = true
heads Grab = true
heads WriteGrab = true
heads HeadCount = true
heads HeadLook = true
heads Take = true
heads _ = false

pub ahead : (q : PassState) → heads q.phase ≡ true → Ahead q
ahead q h = record { queued = grind (arith, h); fore = grind (arith, h); link = grind (arith, h); ready = λ e. grind (arith, h); swap = λ e. grind (arith, h); round = grind (arith, h); knows = grind (arith, h) }

-- what the pass says at its new place, besides its mode
pub record Going (r : Regs) (v : PassState) : Type 0 where
  pub ahead : Ahead v
  pub awake : v.nap ≡ Awake
  pub batch : v.reg.batch ≡ r.batch
  pub flag : v.reg.flag ≡ r.flag
  pub mode : v.reg.mode ≡ r.mode
  pub me : v.reg.me ≡ r.me
  pub begins : v.phase ≡ Begin → v.reg.flag ≡ false → (v.reg.headed ≡ true) × (v.reg.batch ≡ 0)
  pub idle : v.phase ≢ Idle
  pub late : v.phase ≢ Late
  pub picks : decide_to_pick v.phase ≡ false

-- what the row says of its mode and of the grab
pub record Modes (form : Form) (v : PassState) : Type 0 where
  pub writing : is_writing v.phase ≡ true → v.reg.mode ≡ Write
  pub reading : is_reading v.phase ≡ true → v.reg.mode ≡ Read
  pub no_compare : shares form ≡ false → v.phase ≢ WriteGrab
  pub no_or : shares form ≡ true → v.phase ≢ Grab
  pub saw : v.phase ≡ WriteGrab → (held_of v.reg.saw ≡ false) × (readers_of v.reg.saw ≡ 0)

pub goes-ahead : (t : Terms) (w : View) (s : Line) (p : ℕ) (v : PassState) → Ahead (w.pass p) → Going (w.pass p).reg v → Modes t.rules.form v → Grouping t.rules.limit w s → (shares t.rules.form ≡ false → v.reg.mode ≡ Write) → GoesOn t w s p v
goes-ahead t w s p v a b m k writers = let c = b.ahead in record {
  quiet = record { queued = c.queued ∙ sym a.queued; fore = c.fore ∙ sym a.fore; no_link = (a.link, c.link); no_ready = (a.ready, c.ready); no_swap = c.swap };
  awake = b.awake;
  rounds = c.round ∙ sym a.round;
  round = λ h. absurd (let z = c.round in cc);
  last = λ h. absurd (let z = c.round in cc);
  known = λ h. let g = k.known p a.knows in (b.batch ∙ g.0, b.flag ∙ g.1);
  begins = b.begins;
  registers = record {
    writing = m.writing;
    reading = m.reading;
    writers = λ s i. writers s;
    no_compare = m.no_compare;
    no_or = m.no_or;
    saw = m.saw;
    late = λ e. absurd (b.late e);
    seen = λ e. absurd (let z = b.picks in cc);
  };
}

-- a head goes to another head phase with the registers that it has
pub going-to : (r : Regs) (f : Phase) → heads f ≡ true → Going r (to f r)
going-to r f h = record { ahead = ahead (to f r) h; awake = refl; batch = refl; flag = refl; mode = refl; me = refl; begins = λ e. absurd (grind (arith, h)); idle = λ e. grind (arith, h); late = λ e. grind (arith, h); picks = grind (arith, h) }

-- a head goes on by Top
pub going-top : (r : Regs) → Going r (top r)
going-top r = by ((r.batch == 0) || r.flag) refl r.mode
  where
    by : (b : Bool) → ((r.batch == 0) || r.flag) ≡ b → (m : Mode) → Going r (cond b (to Begin (record r { headed = true })) (to (seek m) r))
    by true e m = record {
      ahead = record { queued = refl; fore = refl; link = refl; ready = λ i. grind arith; swap = λ i. grind arith; round = refl; knows = refl };
      awake = refl;
      batch = refl;
      flag = refl;
      mode = refl;
      me = refl;
      begins = λ i f. (refl, grind (arith, nat_tests, e, f));
      idle = λ i. grind arith;
      late = λ i. grind arith;
      picks = refl;
    }
    by false e Write = going-to r Peek refl
    by false e Read = going-to r HeadCount refl

pub modes-top : (form : Form) (r : Regs) → Modes form (top r)
modes-top form r = by ((r.batch == 0) || r.flag) r.mode refl
  where
    by : (b : Bool) (m : Mode) → r.mode ≡ m → Modes form (cond b (to Begin (record r { headed = true })) (to (seek m) r))
    by true m e = record { writing = λ i. absurd (cc); reading = λ i. absurd (cc); no_compare = λ s i. grind arith; no_or = λ s i. grind arith; saw = λ i. absurd (grind arith) }
    by false Write e = record { writing = λ i. e; reading = λ i. absurd (cc); no_compare = λ s i. grind arith; no_or = λ s i. grind arith; saw = λ i. absurd (grind arith) }
    by false Read e = record { writing = λ i. absurd (cc); reading = λ i. e; no_compare = λ s i. grind arith; no_or = λ s i. grind arith; saw = λ i. absurd (grind arith) }

-- where each pass that holds writes, no reader holds
pub no-readers : (l : List (ℕ × Mode)) → ((q : ℕ) → read_of q l ≡ 0) → reader_count l ≡ 0
no-readers [] h = refl
no-readers (x ∷ xs) h = by (is_write x.1) refl (no-readers xs (λ q. (let a = h q in omega arith))) (h x.0)
  where
    by : (b : Bool) → is_write x.1 ≡ b → reader_count xs ≡ 0 → read_of x.0 (x ∷ xs) ≡ 0 → reader_count (x ∷ xs) ≡ 0
    by true e r a = grind (arith, e, r)
    by false e r a = absurd (grind (arith, nat_tests, e, a))

module _ (t : Terms) (w : World) (p : ℕ) (ok : Lawful t w) (below : p < length w.passes) (nap : (known w.passes p).nap ≡ Awake) (h : heads (known w.passes p).phase ≡ true) where
  abbrev q : PassState
  q = known w.passes p

  abbrev n : ℕ
  n = look w.words Lock

  here : Ahead q
  here = ahead q h

  -- the pass is the line's first, and in no round
  front : first ok.shown.line ≡ suc p
  front = (ok.agrees.order.fronted.only p here.queued (grind (arith, here.fore))).0

  no-round : active_shuffler ok.shown.role ≢ suc p
  no-round e = let a = (ok.agrees.grouping.walker p e).0 in let b = here.round in absurd (cc)

  pub writes : shares t.rules.form ≡ false → q.reg.mode ≡ Write
  writes s = ok.agrees.registered.writers s p (λ i. grind (arith, h, i))

  on : (v : PassState) → Going q.reg v → Modes t.rules.form v → GoesOn t (view w) ok.shown p v
  on v g m = goes-ahead t (view w) ok.shown p v here g m ok.agrees.grouping (λ s. g.mode ∙ writes s)

  -- the lock word becomes m, and the hold becomes hold
  pub head-lock : (m : ℕ) (v : PassState) (e : LineEvent) → IsLockWord m → Going q.reg v → Modes t.rules.form v → Admits t.rules.limit ok.shown e → NamesBelow (count t) e
      → (hold : List (ℕ × Mode)) → after ok.shown e ≡ record ok.shown { hold = hold } → Holding (count t) (held_of m) (readers_of m) (updated (known w.passes) p v) hold
      → Advances t w ok e (record { words = set w.words (index Lock) m; passes = set w.passes p v })
  head-lock m v e form g modes may names hold same holding = advance-lock t w ok p below v e ok.giver g.me may names m form
      (subst (λ (z : Line). Agrees t (written_lock (view w) m p v) z ok.giver) (sym same) (quiet-agrees t (view w) ok.shown ok.giver p v ok.agrees nap (on v g modes) (held_of m) (closed_of m) (readers_of m) hold holding))

  -- the lock word is read
  pub head-load : (v : PassState) (e : LineEvent) → Going q.reg v → Modes t.rules.form v → Admits t.rules.limit ok.shown e → NamesBelow (count t) e
      → (hold : List (ℕ × Mode)) → after ok.shown e ≡ record ok.shown { hold = hold } → Holding (count t) (held_of n) (readers_of n) (updated (known w.passes) p v) hold
      → Advances t w ok e (record { words = set w.words (index Lock) n; passes = set w.passes p v })
  head-load v e g modes may names hold same holding = advance-load t w ok p below v e ok.giver g.me may names Lock (let z : 0 < wide (count t) = omega arith in z)
      (subst (λ (z : Line). Agrees t (passed (view w) p v) z ok.giver) (sym same) (quiet-agrees t (view w) ok.shown ok.giver p v ok.agrees nap (on v g modes) (held_of n) (closed_of n) (readers_of n) hold holding))

  -- nobody gains or loses the hold
  pub stays : (v : PassState) (held : Bool) (more : ℕ) → held ≡ held_of n → v.reg.mode ≡ q.reg.mode → is_holding q.phase ≡ false → is_holding v.phase ≡ false → more + backs q ≡ readers_of n + backs v → Holding (count t) held more (updated (known w.passes) p v) ok.shown.hold
  stays v held more e mode a b c = subst (λ z. Holding (count t) z more (updated (known w.passes) p v) ok.shown.hold) (sym e)
      (stay (count t) (held_of n) (readers_of n) (known w.passes) ok.shown.hold ok.agrees.holding p v (below-count t w ok p below) more (b ∙ sym a) mode c)

  pub free-hold : held_of n ≡ false → Holding (count t) false (readers_of n) (known w.passes) ok.shown.hold
  free-hold e = subst (λ z. Holding (count t) z (readers_of n) (known w.passes) ok.shown.hold) e ok.agrees.holding

  -- the pass takes the lock
  pub gains : (m : Mode) (more : ℕ) → held_of n ≡ false → q.reg.mode ≡ m → is_holding q.phase ≡ false → (is_write m ≡ true → reader_count ok.shown.hold ≡ 0) → more + backs q ≡ readers_of n + 0 + cond (is_write m) 0 1
      → Holding (count t) (is_write m) more (updated (known w.passes) p (to Take q.reg)) (add_holder p m ok.shown.hold)
  gains m more e mode a none c = gain (count t) false (readers_of n) (known w.passes) ok.shown.hold (free-hold e) p (to Take q.reg) (below-count t w ok p below) m more a refl mode refl none c

  not-in-hold : is_holding q.phase ≡ false → holds p ok.shown.hold ≡ 0
  not-in-hold a = not-holding (count t) (held_of n) (readers_of n) (known w.passes) ok.shown.hold ok.agrees.holding p a

  -- who may take the lock past a reader is a reader
  free-for : (m : Mode) → held_of n ≡ false → (is_write m ≡ true → reader_count ok.shown.hold ≡ 0) → IsFreeFor m ok.shown.hold
  free-for Write e none = ((free-hold e).word, none refl)
  free-for Read e none = (free-hold e).word

  pub admits-grab : (m : Mode) → held_of n ≡ false → is_holding q.phase ≡ false → (is_write m ≡ true → reader_count ok.shown.hold ≡ 0) → Admits t.rules.limit ok.shown (GrabEvent p m)
  admits-grab m e a none = (front, no-round, not-in-hold a, free-for m e none)

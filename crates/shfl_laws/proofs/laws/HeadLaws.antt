-- The laws of Close, Peek, Grab, WriteGrab, HeadCount and HeadLook, over words.
use Rattle.std.proofs.Common.{◌≡◌, ◌≢◌, ℕ, ◌+◌, ◌%◌, ◌^◌, ◌<◌, ◌==◌, Bool, true, false, cond, length, set, refl, sym, ap, ◌∙◌, subst, arith}
use Rattle.std.specs.Prelude.{bit_or, ◌||◌, ◌&&◌, not}
use Rattle.std.proofs.lemmas.Bool.Decides.{nat_tests}
use prog.Atomic.{either}
use Rattle.shfl_line.specs.declared.events.Form.{Form}
use Rattle.shfl_line.specs.declared.events.Mode.{Mode}
use Rattle.shfl_line.specs.declared.events.Mode.TheVariants.{Write, Read}
use Rattle.shfl_line.specs.declared.events.LineEvent.TheVariants.{Grab as GrabEvent, Nothing}
use Rattle.shfl_line.specs.Line.{is_write, reader_count}
use Rattle.shfl_line.specs.Steps.{add_holder}
use Rattle.shfl_line.specs.Words.{held_of, closed_of, readers_of, packed_lock}
use Rattle.shfl_line.specs.Passes.{updated}
use Rattle.shfl_core.specs.declared.phase.Phase.{Phase}
use Rattle.shfl_core.specs.declared.phase.Phase.TheVariants.{Idle, Begin, Close, Peek, Grab, WriteGrab, HeadCount, HeadLook, Take}
use Rattle.shfl_core.specs.declared.phase.Registers.{Registers as Regs}
use Rattle.shfl_core.specs.declared.phase.Nap.TheVariants.{Awake}
use Rattle.shfl_core.specs.declared.phase.PassState.{PassState}
use Rattle.shfl_core.specs.declared.words.Word.TheVariants.{Lock}
use Rattle.shfl_core.specs.Words.{look, index, free_for}
use Rattle.shfl_core.specs.Take.{to, top, seek}
use Rattle.shfl_core.specs.Plan.{shares}
use Rattle.shfl_core.specs.Worlds.{World, known}
use Rattle.shfl_core.specs.Phases.{is_holding, is_writing, is_reading}
use Rattle.shfl_core.specs.Holding.{Holding, backs}
use Rattle.shfl_core.specs.Lawful.{Terms, count, Lawful, Advances, LawOf}
use Rattle.shfl_laws.proofs.words.Advance.{at-phase, below-count}
use Rattle.shfl_laws.proofs.words.LockBits.{Says, says, word-is, lock-or-held, lock-or-closed, lock-add}
use Rattle.shfl_laws.proofs.rows.HeadRows.{heads, ahead, Going, Modes, going-to, going-top, modes-top, no-readers, head-lock, head-load, stays, gains, admits-grab}
use Rattle.shfl_laws.proofs.rows.Counts.{few-readers}

-- who goes on by Top neither holds nor is counted besides
pub top-out : (r : Regs) → is_holding (top r).phase ≡ false
top-out r = by ((r.batch == 0) || r.flag) r.mode
  where
    by : (b : Bool) (m : Mode) → is_holding (cond b (to Begin (record r { headed = true })) (to (seek m) r)).phase ≡ false
    by true m = refl
    by false Write = refl
    by false Read = refl

pub top-none : (r : Regs) → backs (top r) ≡ 0
top-none r = by ((r.batch == 0) || r.flag) r.mode
  where
    by : (b : Bool) (m : Mode) → backs (cond b (to Begin (record r { headed = true })) (to (seek m) r)) ≡ 0
    by true m = refl
    by false Write = refl
    by false Read = refl

-- a head phase that neither writes nor reads by its name
modes-of : (form : Form) (q : PassState) (f : Phase) → is_writing f ≡ false → is_reading f ≡ false → (f ≢ WriteGrab) → (f ≢ Grab) → Modes form (to f q.reg)
modes-of form q f a b c d = record { writing = λ i. absurd (cc); reading = λ i. absurd (cc); no_compare = λ s. c; no_or = λ s. d; saw = λ i. absurd (c i) }

module _ (t : Terms) (w : World) (p : ℕ) (ok : Lawful t w) (below : p < length w.passes) (nap : (known w.passes p).nap ≡ Awake) where
  abbrev q : PassState
  q = known w.passes p

  abbrev n : ℕ
  n = look w.words Lock

  pub law-close : q.phase ≡ Close → Advances t w ok Nothing (record { words = set w.words (index Lock) (bit_or n 256); passes = set w.passes p (top q.reg) })
  law-close f = let s = lock-or-closed n (ok.formed Lock) in let h : heads q.phase ≡ true = ap heads f in let g = going-top q.reg in
      head-lock t w p ok below nap h (bit_or n 256) (top q.reg) Nothing s.form g (modes-top t.rules.form q.reg) tt tt ok.shown.hold refl
      (subst (λ z. Holding (count t) (held_of (bit_or n 256)) z (updated (known w.passes) p (top q.reg)) ok.shown.hold) (sym s.readers)
      (stays t w p ok below nap h (top q.reg) (held_of (bit_or n 256)) (readers_of n) s.held g.mode (grind (arith, f)) (top-out q.reg) (let a : backs q ≡ 0 = grind (arith, f) in let b = top-none q.reg in omega arith)))

  pub law-peek : q.phase ≡ Peek → (b : Bool) → free_for Write n ≡ b → Advances t w ok Nothing (record { words = set w.words (index Lock) n; passes = set w.passes p (cond b (to (cond (shares t.rules.form) WriteGrab Grab) (record q.reg { saw = n })) (to Peek q.reg)) })
  law-peek f false e = let h : heads q.phase ≡ true = ap heads f in let mode : q.reg.mode ≡ Write = ok.agrees.registered.writing p (ap is_writing f) in
      head-load t w p ok below nap h (to Peek q.reg) Nothing (going-to q.reg Peek refl) (record { writing = λ i. mode; reading = λ i. absurd (cc); no_compare = λ s i. grind arith; no_or = λ s i. grind arith; saw = λ i. absurd (grind arith) }) tt tt ok.shown.hold refl
      (stays t w p ok below nap h (to Peek q.reg) (held_of n) (readers_of n) refl refl (grind (arith, f)) refl (let a : backs q ≡ 0 = grind (arith, f) in omega arith))
  law-peek f true e = by (shares t.rules.form) refl
    where
      mode : q.reg.mode ≡ Write
      mode = ok.agrees.registered.writing p (ap is_writing f)

      h : heads q.phase ≡ true
      h = ap heads f

      free : (a b : Bool) → (not a && b) ≡ true → (a ≡ false) × (b ≡ true)
      free true b i = absurd (cc)
      free false b i = (refl, i)

      saw : (held_of n ≡ false) × (readers_of n ≡ 0)
      saw = let k = free (held_of n) (readers_of n == 0) e in (k.0, (let z = k.1 in grind (arith, nat_tests, z)))

      going : (g : Phase) → heads g ≡ true → Going q.reg (to g (record q.reg { saw = n }))
      going g i = let k = going-to q.reg g i in record { ahead = ahead (to g (record q.reg { saw = n })) i; awake = refl; batch = refl; flag = refl; mode = refl; me = refl; begins = λ j. absurd (grind (arith, i)); idle = k.idle; late = k.late; picks = k.picks }

      go : (g : Phase) → heads g ≡ true → is_holding g ≡ false → is_reading g ≡ false → (shares t.rules.form ≡ false → g ≢ WriteGrab) → (shares t.rules.form ≡ true → g ≢ Grab) → backs (to g q.reg) ≡ 0 → Advances t w ok Nothing (record { words = set w.words (index Lock) n; passes = set w.passes p (to g (record q.reg { saw = n })) })
      go g i j k c d none = head-load t w p ok below nap h (to g (record q.reg { saw = n })) Nothing (going g i) (record { writing = λ _. mode; reading = λ z. absurd (cc); no_compare = c; no_or = d; saw = λ _. saw }) tt tt ok.shown.hold refl
          (stays t w p ok below nap h (to g (record q.reg { saw = n })) (held_of n) (readers_of n) refl refl (grind (arith, f)) j (let a : backs q ≡ 0 = grind (arith, f) in omega arith))

      by : (b : Bool) → shares t.rules.form ≡ b → Advances t w ok Nothing (record { words = set w.words (index Lock) n; passes = set w.passes p (to (cond b WriteGrab Grab) (record q.reg { saw = n })) })
      by true i = go WriteGrab refl refl refl (λ j. absurd (cc)) (λ j k. grind arith) refl
      by false i = go Grab refl refl refl (λ j k. grind arith) (λ j. absurd (cc)) refl

  -- where readers may not hold, none does
  lone : shares t.rules.form ≡ false → reader_count ok.shown.hold ≡ 0
  lone s = no-readers ok.shown.hold (λ i. (let a = ok.agrees.holding.reader i in let b = ok.agrees.registered.writers s i in reads (known w.passes i) b a))
    where
      none : (z : PassState) → (z.phase ≢ Idle → z.reg.mode ≡ Write) → (is_holding z.phase && not (is_write z.reg.mode)) ≡ false
      none z b = by (is_holding z.phase) refl
        where
          by : (c : Bool) → is_holding z.phase ≡ c → (c && not (is_write z.reg.mode)) ≡ false
          by false e = refl
          by true e = let m : is_write z.reg.mode ≡ true = ap is_write (b (λ i. grind (arith, e, i))) in ap not m

      reads : {k : ℕ} (z : PassState) → (z.phase ≢ Idle → z.reg.mode ≡ Write) → k ≡ cond (is_holding z.phase && not (is_write z.reg.mode)) 1 0 → k ≡ 0
      reads z b a = a ∙ (λ j. cond (none z b j) 1 0)

  pub law-grab : q.phase ≡ Grab → (b : Bool) → held_of n ≡ b → Advances t w ok (cond b Nothing (GrabEvent p Write)) (record { words = set w.words (index Lock) (bit_or n 1); passes = set w.passes p (cond b (top q.reg) (to Take q.reg)) })
  law-grab f true e = let s = lock-or-held n (ok.formed Lock) in let h : heads q.phase ≡ true = ap heads f in let g = going-top q.reg in
      head-lock t w p ok below nap h (bit_or n 1) (top q.reg) Nothing s.form g (modes-top t.rules.form q.reg) tt tt ok.shown.hold refl
      (subst (λ z. Holding (count t) (held_of (bit_or n 1)) z (updated (known w.passes) p (top q.reg)) ok.shown.hold) (sym s.readers)
      (stays t w p ok below nap h (top q.reg) (held_of (bit_or n 1)) (readers_of n) (s.held ∙ sym e) g.mode (grind (arith, f)) (top-out q.reg) (let a : backs q ≡ 0 = grind (arith, f) in let b = top-none q.reg in omega arith)))
  law-grab f false e = let s = lock-or-held n (ok.formed Lock) in let h : heads q.phase ≡ true = ap heads f in let mode : q.reg.mode ≡ Write = ok.agrees.registered.writing p (ap is_writing f) in
      let out : is_holding q.phase ≡ false = grind (arith, f) in let none = lone (not-shared f (shares t.rules.form) refl) in
      head-lock t w p ok below nap h (bit_or n 1) (to Take q.reg) (GrabEvent p Write) s.form (going-to q.reg Take refl) (modes-of t.rules.form q Take refl refl (λ i. grind arith) (λ i. grind arith))
      (admits-grab t w p ok below nap h Write e out (λ _. none)) (below-count t w ok p below) (add_holder p Write ok.shown.hold) refl
      (subst (λ (z : Bool × ℕ). Holding (count t) z.0 z.1 (updated (known w.passes) p (to Take q.reg)) (add_holder p Write ok.shown.hold)) (λ j. (sym s.held j, sym s.readers j))
      (gains t w p ok below nap h Write (readers_of n) e mode out (λ _. none) (let a : backs q ≡ 0 = grind (arith, f) in omega arith)))
    where
      not-shared : q.phase ≡ Grab → (b : Bool) → shares t.rules.form ≡ b → shares t.rules.form ≡ false
      not-shared f true i = absurd (ok.agrees.registered.no_or i p f)
      not-shared f false i = i

  pub law-write-grab : q.phase ≡ WriteGrab → (b : Bool) → (n == q.reg.saw) ≡ b → Advances t w ok (cond b (GrabEvent p Write) Nothing) (record { words = set w.words (index Lock) (either b ((q.reg.saw + 1) % 2 ^ 64) n); passes = set w.passes p (cond b (to Take q.reg) (top q.reg)) })
  law-write-grab f false e = let h : heads q.phase ≡ true = ap heads f in let g = going-top q.reg in
      head-lock t w p ok below nap h n (top q.reg) Nothing (ok.formed Lock) g (modes-top t.rules.form q.reg) tt tt ok.shown.hold refl
      (stays t w p ok below nap h (top q.reg) (held_of n) (readers_of n) refl g.mode (grind (arith, f)) (top-out q.reg) (let a : backs q ≡ 0 = grind (arith, f) in let b = top-none q.reg in omega arith))
  law-write-grab f true e = let h : heads q.phase ≡ true = ap heads f in let mode : q.reg.mode ≡ Write = ok.agrees.registered.writing p (ap is_writing f) in
      let same : n ≡ q.reg.saw = grind (arith, nat_tests, e) in let saw = ok.agrees.registered.saw p f in
      let free : held_of n ≡ false = ap held_of same ∙ saw.0 in let few : readers_of n ≡ 0 = ap readers_of same ∙ saw.1 in
      let out : is_holding q.phase ≡ false = grind (arith, f) in let none : reader_count ok.shown.hold ≡ 0 = (let c = ok.agrees.holding.count in omega arith) in
      let s = plus-one free few same in
      head-lock t w p ok below nap h ((q.reg.saw + 1) % 2 ^ 64) (to Take q.reg) (GrabEvent p Write) s.form (going-to q.reg Take refl) (modes-of t.rules.form q Take refl refl (λ i. grind arith) (λ i. grind arith))
      (admits-grab t w p ok below nap h Write free out (λ _. none)) (below-count t w ok p below) (add_holder p Write ok.shown.hold) refl
      (subst (λ (z : Bool × ℕ). Holding (count t) z.0 z.1 (updated (known w.passes) p (to Take q.reg)) (add_holder p Write ok.shown.hold)) (λ j. (sym s.held j, sym s.readers j))
      (gains t w p ok below nap h Write 0 free mode out (λ _. none) (let a : backs q ≡ 0 = grind (arith, f) in omega arith)))
    where
      small : (c : Bool) → packed_lock true c 0 < 2 ^ 64
      small true = omega arith
      small false = omega arith

      plus-one : held_of n ≡ false → readers_of n ≡ 0 → n ≡ q.reg.saw → Says ((q.reg.saw + 1) % 2 ^ 64) true (closed_of n) 0
      plus-one a b c = let k = word-is n (ok.formed Lock) in let z : n ≡ packed_lock false (closed_of n) 0 = k.0 ∙ (λ j. packed_lock (a j) (closed_of n) (b j)) in let l = small (closed_of n) in
          says _ true (closed_of n) 0 (omega arith) (let y : q.reg.saw + 1 ≡ packed_lock true (closed_of n) 0 = omega arith in let x : q.reg.saw + 1 < 2 ^ 64 = omega arith in (let m : (q.reg.saw + 1) % 2 ^ 64 ≡ q.reg.saw + 1 = omega arith in m) ∙ y)

  pub law-head-count : q.phase ≡ HeadCount → (b : Bool) → held_of n ≡ b → Advances t w ok (cond b Nothing (GrabEvent p Read)) (record { words = set w.words (index Lock) ((n + 4294967296) % 2 ^ 64); passes = set w.passes p (to (cond b HeadLook Take) q.reg) })
  law-head-count f true e = let s = lock-add n (ok.formed Lock) (few-readers t w ok) in let h : heads q.phase ≡ true = ap heads f in let mode : q.reg.mode ≡ Read = ok.agrees.registered.reading p (ap is_reading f) in
      head-lock t w p ok below nap h ((n + 4294967296) % 2 ^ 64) (to HeadLook q.reg) Nothing s.form (going-to q.reg HeadLook refl) (record { writing = λ i. absurd (cc); reading = λ i. mode; no_compare = λ s i. grind arith; no_or = λ s i. grind arith; saw = λ i. absurd (grind arith) }) tt tt ok.shown.hold refl
      (subst (λ z. Holding (count t) (held_of ((n + 4294967296) % 2 ^ 64)) z (updated (known w.passes) p (to HeadLook q.reg)) ok.shown.hold) (sym s.readers)
      (stays t w p ok below nap h (to HeadLook q.reg) (held_of ((n + 4294967296) % 2 ^ 64)) (readers_of n + 1) s.held refl (grind (arith, f)) refl (let a : backs q ≡ 0 = grind (arith, f) in omega arith)))
  law-head-count f false e = let s = lock-add n (ok.formed Lock) (few-readers t w ok) in let h : heads q.phase ≡ true = ap heads f in let mode : q.reg.mode ≡ Read = ok.agrees.registered.reading p (ap is_reading f) in
      let out : is_holding q.phase ≡ false = grind (arith, f) in
      head-lock t w p ok below nap h ((n + 4294967296) % 2 ^ 64) (to Take q.reg) (GrabEvent p Read) s.form (going-to q.reg Take refl) (modes-of t.rules.form q Take refl refl (λ i. grind arith) (λ i. grind arith))
      (admits-grab t w p ok below nap h Read e out (λ i. absurd (cc))) (below-count t w ok p below) (add_holder p Read ok.shown.hold) refl
      (subst (λ (z : Bool × ℕ). Holding (count t) z.0 z.1 (updated (known w.passes) p (to Take q.reg)) (add_holder p Read ok.shown.hold)) (λ j. ((sym e ∙ sym s.held) j, sym s.readers j))
      (gains t w p ok below nap h Read (readers_of n + 1) e mode out (λ i. absurd (cc)) (let a : backs q ≡ 0 = grind (arith, f) in omega arith)))

  pub law-head-look : q.phase ≡ HeadLook → (b : Bool) → held_of n ≡ b → Advances t w ok (cond b Nothing (GrabEvent p Read)) (record { words = set w.words (index Lock) n; passes = set w.passes p (to (cond b HeadLook Take) q.reg) })
  law-head-look f true e = let h : heads q.phase ≡ true = ap heads f in let mode : q.reg.mode ≡ Read = ok.agrees.registered.reading p (ap is_reading f) in
      head-load t w p ok below nap h (to HeadLook q.reg) Nothing (going-to q.reg HeadLook refl) (record { writing = λ i. absurd (cc); reading = λ i. mode; no_compare = λ s i. grind arith; no_or = λ s i. grind arith; saw = λ i. absurd (grind arith) }) tt tt ok.shown.hold refl
      (stays t w p ok below nap h (to HeadLook q.reg) (held_of n) (readers_of n) refl refl (grind (arith, f)) refl (let a : backs q ≡ 1 = grind (arith, f) in omega arith))
  law-head-look f false e = let h : heads q.phase ≡ true = ap heads f in let mode : q.reg.mode ≡ Read = ok.agrees.registered.reading p (ap is_reading f) in
      let out : is_holding q.phase ≡ false = grind (arith, f) in
      head-load t w p ok below nap h (to Take q.reg) (GrabEvent p Read) (going-to q.reg Take refl) (modes-of t.rules.form q Take refl refl (λ i. grind arith) (λ i. grind arith))
      (admits-grab t w p ok below nap h Read e out (λ i. absurd (cc))) (below-count t w ok p below) (add_holder p Read ok.shown.hold) refl
      (subst (λ z. Holding (count t) z (readers_of n) (updated (known w.passes) p (to Take q.reg)) (add_holder p Read ok.shown.hold)) (sym e)
      (gains t w p ok below nap h Read (readers_of n) e mode out (λ i. absurd (cc)) (let a : backs q ≡ 1 = grind (arith, f) in omega arith)))

pub close-law : (t : Terms) → LawOf t Close
close-law t = at-phase t Close (λ w p c ok below nap f. law-close t w p ok below nap f)

pub peek-law : (t : Terms) → LawOf t Peek
peek-law t = at-phase t Peek (λ w p c ok below nap f. law-peek t w p ok below nap f (free_for Write (look w.words Lock)) refl)

pub grab-law : (t : Terms) → LawOf t Grab
grab-law t = at-phase t Grab (λ w p c ok below nap f. law-grab t w p ok below nap f (held_of (look w.words Lock)) refl)

pub write-grab-law : (t : Terms) → LawOf t WriteGrab
write-grab-law t = at-phase t WriteGrab (λ w p c ok below nap f. law-write-grab t w p ok below nap f (look w.words Lock == (known w.passes p).reg.saw) refl)

pub head-count-law : (t : Terms) → LawOf t HeadCount
head-count-law t = at-phase t HeadCount (λ w p c ok below nap f. law-head-count t w p ok below nap f (held_of (look w.words Lock)) refl)

pub head-look-law : (t : Terms) → LawOf t HeadLook
head-look-law t = at-phase t HeadLook (λ w p c ok below nap f. law-head-look t w p ok below nap f (held_of (look w.words Lock)) refl)

-- The steps of a waiter that looks, and of the queue's head: it comes nearer, or waits for another.
use Rattle.std.proofs.Common.{◌≡◌, ℕ, zero, suc, ◌+◌, ◌*◌, ◌<◌, Bool, true, false, cond, ◌==◌, length, set, refl, sym, ap, ◌∙◌, arith}
use Rattle.std.specs.Prelude.{◌&&◌, ◌%◌, ◌^◌, not, bit_or, List}
use prog.Atomic.{either}
use Rattle.std.proofs.lemmas.Bool.Decides.{nat_tests}
use Rattle.shfl_line.specs.declared.events.Mode.TheVariants.{Write, Read}
use Rattle.shfl_line.specs.declared.events.LineEvent.{LineEvent}
use Rattle.shfl_line.specs.declared.events.LineEvent.TheVariants as event
use Rattle.shfl_line.specs.declared.words.TheConstants.{HELD}
use Rattle.shfl_line.specs.Line.{mark_of}
use Rattle.shfl_line.specs.Words.{held_of, readers_of, ready_of, packed_lock}
use Rattle.shfl_core.specs.declared.phase.Phase.TheVariants as phase
use Rattle.shfl_core.specs.declared.phase.Registers.{Registers as Regs}
use Rattle.shfl_core.specs.declared.phase.Nap.TheVariants.{Awake}
use Rattle.shfl_core.specs.declared.words.Word.{Word}
use Rattle.shfl_core.specs.declared.words.Word.TheVariants.{Lock, Next as NextOf, State as StateOf}
use Rattle.shfl_core.specs.Words.{look, index, free_for}
use Rattle.shfl_core.specs.Plan.{shares}
use Rattle.shfl_core.specs.Take.{to, top, heir_found}
use Rattle.shfl_core.specs.Worlds.{World, known}
use Rattle.shfl_core.specs.Events.{event_at}
use Rattle.shfl_core.specs.Lawful.{Terms, count, Lawful, Advances}
use Rattle.shfl_core.proofs.Lists.{set-read}
use Rattle.shfl_laws.specs.Rounds.{left}
use Rattle.shfl_laws.proofs.words.Frame.{look-else}
use Rattle.shfl_laws.proofs.words.LockBits.{word-is, lock-or-held}
use Rattle.shfl_drain.specs.GoingOn.{waits_at}
use Rattle.shfl_drain.proofs.Stages.{top-stage}
use Rattle.shfl_drain.proofs.Spares.{Quiet}
use Rattle.shfl_drain.proofs.Number.{unmarked}
use Rattle.shfl_drain.proofs.Row.{found, goes, next, Leaves, RoundsKept, own-mark, later, sooner, no-later}
use Rattle.shfl_drain.proofs.Paces.{unmarked-any, top-slack}

quiet-either : (b : Bool) (e d : LineEvent) → Quiet e → Quiet d → Quiet (cond b e d)
quiet-either true e d x y = x
quiet-either false e d x y = y

-- writing what was found changes nothing
same-words : (l : List ℕ) (u x : Word) (n : ℕ) → n ≡ look l u → look (set l (index u) n) x ≡ look l x
same-words l u x n e = ap (λ z. look (set l (index u) z) x) e ∙ ap (λ (z : List ℕ). look z x) (set-read l (index u) 0)

module _ (t : Terms) (w : World) (ok : Lawful t w) (p : ℕ) (below : p < length w.passes) (c : Bool) (nap : (known w.passes p).nap ≡ Awake) where
  abbrev r : Regs
  r = (known w.passes p).reg

  abbrev ready : Bool
  ready = ready_of (look w.words (StateOf p))

  abbrev lock : ℕ
  lock = look w.words Lock

  -- who holds the lock counts as taken
  module _ (at : (known w.passes p).phase ≡ phase.HeadLook) (a : Advances t w ok (event_at t.rules p (known w.passes p).reg (found t w p phase.HeadLook) phase.HeadLook) (next t w p phase.HeadLook c))
      (kept : RoundsKept t w ok (next t w p phase.HeadLook c) a.lawful p) where
    pub look-row : Leaves t w ok (next t w p phase.HeadLook c) a.lawful (waits_at w p phase.HeadLook)
    look-row = by (held_of (look w.words Lock)) refl
      where
        by : (b : Bool) → held_of (look w.words Lock) ≡ b → Leaves t w ok (next t w p phase.HeadLook c) a.lawful (waits_at w p phase.HeadLook)
        by false e = later t w ok p below phase.HeadLook c refl nap at a kept (to phase.Take r) (ap (λ z. to (cond z phase.HeadLook phase.Take) r) e) (omega arith)
        by true e = no-later t w ok p below phase.HeadLook c refl nap at a kept (to phase.HeadLook r) is
            (λ z _. ap ready_of (same-words w.words Lock (StateOf z) lock refl)) (same-words w.words Lock Lock lock refl)
            (let m = own-mark t w ok p below phase.HeadLook c refl nap at a kept (to phase.HeadLook r) is (quiet-either (held_of lock) event.Nothing (event.Grab p Read) tt tt) in
            let u = ap (unmarked (to phase.HeadLook r)) m in omega arith)
            (omega arith) (ap (λ z. not (not z)) e)
          where
            is : goes t w p phase.HeadLook c ≡ to phase.HeadLook (known w.passes p).reg
            is = ap (λ z. to (cond z phase.HeadLook phase.Take) (known w.passes p).reg) e

  module _ (at : (known w.passes p).phase ≡ phase.Late) (a : Advances t w ok (event_at t.rules p (known w.passes p).reg (found t w p phase.Late) phase.Late) (next t w p phase.Late c))
      (kept : RoundsKept t w ok (next t w p phase.Late c) a.lawful p) where
    late-quiet : (n : ℕ) → n ≡ 0 → Quiet (event_at t.rules p (known w.passes p).reg n phase.Late)
    late-quiet zero e = tt
    late-quiet (suc n) e = absurd (omega arith)

    pub late-row : Leaves t w ok (next t w p phase.Late c) a.lawful (waits_at w p phase.Late)
    late-row = by (look w.words (NextOf p)) refl
      where
        by : (n : ℕ) → look w.words (NextOf p) ≡ n → Leaves t w ok (next t w p phase.Late c) a.lawful (waits_at w p phase.Late)
        by (suc q) e = later t w ok p below phase.Late c refl nap at a kept (to phase.Ready (record r { heir = q })) (ap (heir_found phase.Late r) e) (omega arith)
        by zero e = no-later t w ok p below phase.Late c refl nap at a kept (to phase.Late r) is
            (λ z _. ap ready_of (look-else w.words (NextOf p) (StateOf z) 0 (λ i. omega arith))) (look-else w.words (NextOf p) Lock 0 (λ i. omega arith))
            (let m = own-mark t w ok p below phase.Late c refl nap at a kept (to phase.Late r) is (late-quiet (look w.words (NextOf p)) e) in
            let u = ap (unmarked (to phase.Late r)) m in omega arith)
            (omega arith) (let z : (look w.words (NextOf p) == 0) ≡ true = grind (arith, nat_tests, e) in z)
          where
            is : goes t w p phase.Late c ≡ to phase.Late (known w.passes p).reg
            is = ap (heir_found phase.Late (known w.passes p).reg) e

  module _ (at : (known w.passes p).phase ≡ phase.Peek) (a : Advances t w ok (event_at t.rules p (known w.passes p).reg (found t w p phase.Peek) phase.Peek) (next t w p phase.Peek c))
      (kept : RoundsKept t w ok (next t w p phase.Peek c) a.lawful p) where
    free-held : (b d : Bool) → (not b && d) ≡ true → b ≡ false
    free-held true d e = absurd (cc)
    free-held false d e = refl

    pub peek-row : Leaves t w ok (next t w p phase.Peek c) a.lawful (waits_at w p phase.Peek)
    peek-row = by (free_for Write (look w.words Lock)) (shares t.rules.form) refl refl
      where
        lock-same : look (next t w p phase.Peek c).words Lock ≡ look w.words Lock
        lock-same = same-words w.words Lock Lock (look w.words Lock) refl

        by : (b d : Bool) → free_for Write (look w.words Lock) ≡ b → shares t.rules.form ≡ d → Leaves t w ok (next t w p phase.Peek c) a.lawful (waits_at w p phase.Peek)
        by false d e g = no-later t w ok p below phase.Peek c refl nap at a kept (to phase.Peek r) is
            (λ z _. ap ready_of (same-words w.words Lock (StateOf z) lock refl)) lock-same
            (let m = own-mark t w ok p below phase.Peek c refl nap at a kept (to phase.Peek r) is tt in let u = ap (unmarked (to phase.Peek r)) m in omega arith)
            (omega arith) (ap not e)
          where
            is : goes t w p phase.Peek c ≡ to phase.Peek (known w.passes p).reg
            is = ap (λ z. cond z (to (cond (shares t.rules.form) phase.WriteGrab phase.Grab) (record (known w.passes p).reg { saw = look w.words Lock })) (to phase.Peek (known w.passes p).reg)) e
        by true true e g = sooner t w ok p below phase.Peek c refl nap at a kept (to phase.WriteGrab (record r { saw = lock })) is
            (λ z _. ap ready_of (same-words w.words Lock (StateOf z) lock refl)) lock-same
            (let m = own-mark t w ok p below phase.Peek c refl nap at a kept (to phase.WriteGrab (record r { saw = lock })) is tt in let u = ap (unmarked (to phase.Peek r)) m in omega arith)
            (let x : (look (next t w p phase.Peek c).words Lock == look w.words Lock) ≡ true = (let l = lock-same in grind (arith, nat_tests, l)) in
            let y : ◌≡◌ {A = ℕ} (cond (look (next t w p phase.Peek c).words Lock == look w.words Lock) 1 (9 * count t + 15)) 1 = ap (λ b. cond b 1 (9 * count t + 15)) x in omega arith)
          where
            is : goes t w p phase.Peek c ≡ to phase.WriteGrab (record (known w.passes p).reg { saw = look w.words Lock })
            is = λ j. cond (e j) (to (cond (g j) phase.WriteGrab phase.Grab) (record (known w.passes p).reg { saw = look w.words Lock })) (to phase.Peek (known w.passes p).reg)
        by true false e g = sooner t w ok p below phase.Peek c refl nap at a kept (to phase.Grab (record r { saw = lock })) is
            (λ z _. ap ready_of (same-words w.words Lock (StateOf z) lock refl)) lock-same
            (let m = own-mark t w ok p below phase.Peek c refl nap at a kept (to phase.Grab (record r { saw = lock })) is tt in let u = ap (unmarked (to phase.Peek r)) m in omega arith)
            (let x : held_of (look (next t w p phase.Peek c).words Lock) ≡ false = ap held_of lock-same ∙ free-held (held_of lock) (readers_of lock == 0) e in
            let y : ◌≡◌ {A = ℕ} (cond (held_of (look (next t w p phase.Peek c).words Lock)) (9 * count t + 15) 1) 1 = ap (λ b. cond b (9 * count t + 15) 1) x in omega arith)
          where
            is : goes t w p phase.Peek c ≡ to phase.Grab (record (known w.passes p).reg { saw = look w.words Lock })
            is = λ j. cond (e j) (to (cond (g j) phase.WriteGrab phase.Grab) (record (known w.passes p).reg { saw = look w.words Lock })) (to phase.Peek (known w.passes p).reg)

  module _ (at : (known w.passes p).phase ≡ phase.Grab) (a : Advances t w ok (event_at t.rules p (known w.passes p).reg (found t w p phase.Grab) phase.Grab) (next t w p phase.Grab c))
      (kept : RoundsKept t w ok (next t w p phase.Grab c) a.lawful p) where
    pub grab-row : Leaves t w ok (next t w p phase.Grab c) a.lawful (waits_at w p phase.Grab)
    grab-row = by (held_of (look w.words Lock)) refl
      where
        by : (b : Bool) → held_of (look w.words Lock) ≡ b → Leaves t w ok (next t w p phase.Grab c) a.lawful (waits_at w p phase.Grab)
        by false e = later t w ok p below phase.Grab c refl nap at a kept (to phase.Take r) (ap (λ z. cond z (top r) (to phase.Take r)) e) (omega arith)
        by true e = sooner t w ok p below phase.Grab c refl nap at a kept (top r) is
            (λ z _. ap ready_of (same-words w.words Lock (StateOf z) (bit_or lock HELD) set-already)) (same-words w.words Lock Lock (bit_or lock HELD) set-already)
            (let m = own-mark t w ok p below phase.Grab c refl nap at a kept (top r) is (quiet-either (held_of lock) event.Nothing (event.Grab p Write) tt tt) in
            let u : unmarked (top r) (mark_of a.lawful.shown p) ≡ unmarked (top r) (mark_of ok.shown p) = ap (unmarked (top r)) m in
            let v = unmarked-any (top r) (to phase.Grab r) (mark_of ok.shown p) refl in let s = top-stage r in omega arith)
            (let x = top-slack (count t) r (ready_of (look (next t w p phase.Grab c).words (StateOf p))) (look (next t w p phase.Grab c).words Lock) (mark_of a.lawful.shown p) (left t (next t w p phase.Grab c) a.lawful p) in
            let y : ◌≡◌ {A = ℕ} (cond (held_of (look w.words Lock)) (9 * count t + 15) 1) (9 * count t + 15) = ap (λ b. cond b (9 * count t + 15) 1) e in omega arith)
          where
            is : goes t w p phase.Grab c ≡ top (known w.passes p).reg
            is = ap (λ z. cond z (top (known w.passes p).reg) (to phase.Take (known w.passes p).reg)) e

            set-already : bit_or (look w.words Lock) HELD ≡ look w.words Lock
            set-already = let s = lock-or-held (look w.words Lock) (ok.formed Lock) in
                (word-is (bit_or (look w.words Lock) HELD) s.form).0 ∙ ((λ j. packed_lock ((s.held ∙ sym e) j) (s.closed j) (s.readers j)) ∙ sym (word-is (look w.words Lock) (ok.formed Lock)).0)

  module _ (at : (known w.passes p).phase ≡ phase.WriteGrab) (a : Advances t w ok (event_at t.rules p (known w.passes p).reg (found t w p phase.WriteGrab) phase.WriteGrab) (next t w p phase.WriteGrab c))
      (kept : RoundsKept t w ok (next t w p phase.WriteGrab c) a.lawful p) where
    pub write-row : Leaves t w ok (next t w p phase.WriteGrab c) a.lawful (waits_at w p phase.WriteGrab)
    write-row = by (look w.words Lock == (known w.passes p).reg.saw) refl
      where
        by : (b : Bool) → (look w.words Lock == (known w.passes p).reg.saw) ≡ b → Leaves t w ok (next t w p phase.WriteGrab c) a.lawful (waits_at w p phase.WriteGrab)
        by true e = later t w ok p below phase.WriteGrab c refl nap at a kept (to phase.Take r) (ap (λ z. cond z (to phase.Take r) (top r)) e) (omega arith)
        by false e = sooner t w ok p below phase.WriteGrab c refl nap at a kept (top r) is
            (λ z _. ap ready_of (same (StateOf z))) (same Lock)
            (let m = own-mark t w ok p below phase.WriteGrab c refl nap at a kept (top r) is (quiet-either (lock == r.saw) (event.Grab p Write) event.Nothing tt tt) in
            let u : unmarked (top r) (mark_of a.lawful.shown p) ≡ unmarked (top r) (mark_of ok.shown p) = ap (unmarked (top r)) m in
            let v = unmarked-any (top r) (to phase.WriteGrab r) (mark_of ok.shown p) refl in let s = top-stage r in omega arith)
            (let x = top-slack (count t) r (ready_of (look (next t w p phase.WriteGrab c).words (StateOf p))) (look (next t w p phase.WriteGrab c).words Lock) (mark_of a.lawful.shown p) (left t (next t w p phase.WriteGrab c) a.lawful p) in
            let y : ◌≡◌ {A = ℕ} (cond (look w.words Lock == r.saw) 1 (9 * count t + 15)) (9 * count t + 15) = ap (λ b. cond b 1 (9 * count t + 15)) e in omega arith)
          where
            is : goes t w p phase.WriteGrab c ≡ top (known w.passes p).reg
            is = ap (λ z. cond z (to phase.Take (known w.passes p).reg) (top (known w.passes p).reg)) e

            same : (x : Word) → look (next t w p phase.WriteGrab c).words x ≡ look w.words x
            same x = same-words w.words Lock x _ (ap (λ z. either z (((known w.passes p).reg.saw + 1) % 2 ^ 64) (look w.words Lock)) e)

-- The laws of the steps outside the queue, over words: Steal, Count, Uncount, TryUncount, Open, Release and ReadRelease.
use Rattle.std.proofs.Common.{◌≡◌, ◌≢◌, ℕ, ◌+◌, ◌-◌, ◌%◌, ◌^◌, ◌<◌, ◌≤◌, ◌==◌, Bool, true, false, cond, length, set, refl, sym, ap, ◌∙◌, subst, arith}
use Rattle.std.specs.Prelude.{bit_and, ◌||◌, ◌&&◌, not}
use Rattle.std.proofs.lemmas.Bool.Decides.{nat_tests}
use prog.Atomic.{either}
use Rattle.shfl_line.specs.declared.events.Mode.TheVariants.{Write, Read}
use Rattle.shfl_line.specs.declared.events.LineEvent.TheVariants.{Steal as StealEvent, Release as ReleaseEvent, Nothing}
use Rattle.shfl_line.specs.Line.{Line, is_write, writer_count, reader_count}
use Rattle.shfl_line.specs.Steps.{Admits, after, add_holder, remove_holder, NamesBelow}
use Rattle.shfl_line.specs.Words.{held_of, closed_of, readers_of, IsLockWord}
use Rattle.shfl_line.specs.Passes.{updated}
use Rattle.shfl_core.specs.declared.phase.Phase.{Phase}
use Rattle.shfl_core.specs.declared.phase.Phase.TheVariants.{Idle, Steal, Init, Open, Held, Release, Count, Uncount, TryUncount, ReadRelease, Swap, Ready, Begin, Late, WriteGrab, Grab}
use Rattle.shfl_core.specs.declared.phase.Nap.TheVariants.{Awake}
use Rattle.shfl_core.specs.declared.phase.PassState.{PassState}
use Rattle.shfl_core.specs.declared.words.Word.TheVariants.{Lock}
use Rattle.shfl_core.specs.Words.{look, index}
use Rattle.shfl_core.specs.Take.{to}
use Rattle.shfl_core.specs.Plan.{shares}
use Rattle.shfl_core.specs.Worlds.{World, known}
use Rattle.shfl_core.specs.Phases.{is_round, is_queued, is_fore, is_linking, knows, is_holding, is_backing, is_writing, is_reading, decide_to_pick}
use Rattle.shfl_core.specs.View.{View, view}
use Rattle.shfl_core.specs.Holding.{Holding, backs, write_of, read_of}
use Rattle.shfl_core.specs.Lawful.{Terms, count, Agrees, Lawful, Advances, LawOf}
use Rattle.shfl_laws.proofs.kept.QuietAgrees.{GoesOn, quiet-agrees}
use Rattle.shfl_laws.proofs.words.Advance.{at-phase, advance-lock, below-count}
use Rattle.shfl_laws.proofs.words.Frame.{written_lock}
use Rattle.shfl_laws.proofs.words.LockBits.{Says, lock-and-held, lock-and-closed, lock-add, lock-sub}
use Rattle.shfl_laws.proofs.rows.Holding.{stay, gain}
use Rattle.shfl_laws.proofs.rows.Losing.{lose, holds-split}
use Rattle.shfl_laws.proofs.rows.Counts.{not-holding, away, write-in, read-in, few-readers, total-updated-here}

-- the phases outside the queue but Swap and Ready
abbrev pub outside : Phase → Bool
outside Idle = true
outside Steal = true
outside Init = true
outside Open = true
outside Held = true
outside Release = true
outside Count = true
outside Uncount = true
outside TryUncount = true
outside ReadRelease = true
outside _ = false

record Out (q : PassState) : Type 0 where
  queued : is_queued q ≡ false
  fore : is_fore q ≡ false
  link : is_linking q.phase ≡ false
  ready : q.phase ≢ Ready
  swap : q.phase ≢ Swap
  round : is_round q.phase ≡ false
  knows : knows q.phase ≡ false
  begin : q.phase ≢ Begin
  late : q.phase ≢ Late
  compare : q.phase ≢ WriteGrab
  grab : q.phase ≢ Grab
  picks : decide_to_pick q.phase ≡ false

out : (q : PassState) → outside q.phase ≡ true → Out q
out q h = record { queued = grind (arith, h); fore = grind (arith, h); link = grind (arith, h); ready = λ e. grind (arith, h); swap = λ e. grind (arith, h); round = grind (arith, h); knows = grind (arith, h); begin = λ e. grind (arith, h); late = λ e. grind (arith, h); compare = λ e. grind (arith, h); grab = λ e. grind (arith, h); picks = grind (arith, h) }

-- a pass goes on outside the queue
pub goes-outside : (t : Terms) (w : View) (s : Line) (p : ℕ) (v : PassState) → outside (w.pass p).phase ≡ true → outside v.phase ≡ true → v.nap ≡ Awake
    → (is_writing v.phase ≡ true → v.reg.mode ≡ Write) → (is_reading v.phase ≡ true → v.reg.mode ≡ Read) → (shares t.rules.form ≡ false → v.phase ≢ Idle → v.reg.mode ≡ Write) → GoesOn t w s p v
goes-outside t w s p v was now awake writing reading writers = let a = out (w.pass p) was in let b = out v now in record {
  quiet = record { queued = b.queued ∙ sym a.queued; fore = b.fore ∙ sym a.fore; no_link = (a.link, b.link); no_ready = (a.ready, b.ready); no_swap = b.swap };
  awake = awake;
  rounds = b.round ∙ sym a.round;
  round = λ h. absurd (let z = b.round in cc);
  last = λ h. absurd (let z = b.round in cc);
  known = λ h. absurd (let z = b.knows in cc);
  begins = λ h. absurd (b.begin h);
  registers = record {
    writing = writing;
    reading = reading;
    writers = writers;
    no_compare = λ s. b.compare;
    no_or = λ s. b.grab;
    saw = λ e. absurd (b.compare e);
    late = λ e. absurd (b.late e);
    seen = λ e. absurd (let z = b.picks in cc);
  };
}

module _ (t : Terms) (w : World) (p : ℕ) (ok : Lawful t w) (below : p < length w.passes) (nap : (known w.passes p).nap ≡ Awake) where
  abbrev q : PassState
  q = known w.passes p

  abbrev n : ℕ
  n = look w.words Lock

  -- an outside pass goes on, the lock word becomes m, and the hold becomes hold
  pub outside-lock : (f : Phase) (m : ℕ) (v : PassState) (e : _) (form : IsLockWord m) → q.phase ≡ f → outside f ≡ true → GoesOn t (view w) ok.shown p v → v.reg.me ≡ q.reg.me
      → Admits t.rules.limit ok.shown e → NamesBelow (count t) e → (hold : _) → after ok.shown e ≡ record ok.shown { hold = hold } → Holding (count t) (held_of m) (readers_of m) (updated (known w.passes) p v) hold
      → Advances t w ok e (record { words = set w.words (index Lock) m; passes = set w.passes p v })
  outside-lock f m v e form was out on me may names hold same holding = advance-lock t w ok p below v e ok.giver me may names m form
      (subst (λ (z : Line). Agrees t (written_lock (view w) m p v) z ok.giver) (sym same) (quiet-agrees t (view w) ok.shown ok.giver p v ok.agrees nap on (held_of m) (closed_of m) (readers_of m) hold holding))

  -- the same where the line shows nothing of it
  pub outside-still : (f : Phase) (m : ℕ) (v : PassState) → IsLockWord m → q.phase ≡ f → outside f ≡ true → GoesOn t (view w) ok.shown p v → v.reg.me ≡ q.reg.me
      → Holding (count t) (held_of m) (readers_of m) (updated (known w.passes) p v) ok.shown.hold → Advances t w ok Nothing (record { words = set w.words (index Lock) m; passes = set w.passes p v })
  outside-still f m v form was out on me holding = outside-lock f m v Nothing form was out on me tt tt ok.shown.hold refl holding

  law-open : q.phase ≡ Open → Advances t w ok Nothing (record { words = set w.words (index Lock) (bit_and n 18446744073709551359); passes = set w.passes p (to Held q.reg) })
  law-open f = let s = lock-and-closed n (ok.formed Lock) in let h = ok.agrees.holding in let r = ok.agrees.registered in
      outside-still Open (bit_and n 18446744073709551359) (to Held q.reg) s.form f refl
      (goes-outside t (view w) ok.shown p (to Held q.reg) (ap outside f) refl refl (λ e. absurd (cc)) (λ e. absurd (cc)) (λ x e. r.writers x p (λ i. absurd (grind (arith, f)))))
      refl
      (subst (λ (z : Bool × ℕ). Holding (count t) z.0 z.1 (updated (known w.passes) p (to Held q.reg)) ok.shown.hold) (λ j. (sym s.held j, sym s.readers j))
      (stay (count t) (held_of n) (readers_of n) (known w.passes) ok.shown.hold h p (to Held q.reg) (below-count t w ok p below) (readers_of n) (grind (arith, f)) refl (let b : backs q ≡ 0 = grind (arith, f) in omega arith)))

  -- what a reader or writer that has no step in the queue must say of its mode
  plain : (f g : Phase) → q.phase ≡ f → outside f ≡ true → outside g ≡ true → (f ≢ Idle) → (is_writing g ≡ true → q.reg.mode ≡ Write) → (is_reading g ≡ true → q.reg.mode ≡ Read) → GoesOn t (view w) ok.shown p (to g q.reg)
  plain f g was outs now not writing reading = goes-outside t (view w) ok.shown p (to g q.reg) (ap outside was ∙ outs) now refl writing reading (λ x e. ok.agrees.registered.writers x p (λ i. not (sym was ∙ i)))

  law-steal : q.phase ≡ Steal → (b : Bool) → (n == 0) ≡ b → Advances t w ok (cond b (StealEvent p Write) Nothing) (record { words = set w.words (index Lock) (either b 1 n); passes = set w.passes p (to (cond b Held Init) q.reg) })
  law-steal f false e = outside-still Steal n (to Init q.reg) (ok.formed Lock) f refl (plain Steal Init f refl refl (λ i. grind arith) (λ i. absurd (cc)) (λ i. absurd (cc))) refl
      (stay (count t) (held_of n) (readers_of n) (known w.passes) ok.shown.hold ok.agrees.holding p (to Init q.reg) (below-count t w ok p below) (readers_of n) (grind (arith, f)) refl (let b : backs q ≡ 0 = grind (arith, f) in omega arith))
  law-steal f true e = let zero : n ≡ 0 = grind (arith, nat_tests, e) in
      let mode : q.reg.mode ≡ Write = ok.agrees.registered.writing p (ap is_writing f) in
      let h : Holding (count t) false 0 (known w.passes) ok.shown.hold = subst (λ z. Holding (count t) (held_of z) (readers_of z) (known w.passes) ok.shown.hold) zero ok.agrees.holding in
      let free : reader_count ok.shown.hold ≡ 0 = (let c = h.count in omega arith) in
      let out : is_holding q.phase ≡ false = grind (arith, f) in
      outside-lock Steal 1 (to Held q.reg) (StealEvent p Write) (record { held = true; closed = false; readers = 0; few = omega arith; is = omega arith }) f refl
      (plain Steal Held f refl refl (λ i. grind arith) (λ i. absurd (cc)) (λ i. absurd (cc))) refl
      ((h.word, free), not-holding (count t) false 0 (known w.passes) ok.shown.hold h p out, away (view w) ok.shown p ok.agrees.order.stands (grind (arith, f))) (below-count t w ok p below)
      (add_holder p Write ok.shown.hold) refl
      (gain (count t) false 0 (known w.passes) ok.shown.hold h p (to Held q.reg) (below-count t w ok p below) Write 0 out refl mode refl (λ _. free) (let b : backs q ≡ 0 = grind (arith, f) in omega arith))

  law-release : q.phase ≡ Release → Advances t w ok (ReleaseEvent p) (record { words = set w.words (index Lock) (bit_and n 18446744073709551614); passes = set w.passes p (to Idle q.reg) })
  law-release f = let s = lock-and-held n (ok.formed Lock) in let h = ok.agrees.holding in
      let mode : q.reg.mode ≡ Write = ok.agrees.registered.writing p (ap is_writing f) in
      let write : is_write q.reg.mode ≡ true = ap is_write mode in
      let holding : is_holding q.phase ≡ true = grind (arith, f) in
      let mine : write_of p ok.shown.hold ≡ 1 = h.writer p ∙ (λ j. cond (holding j && write j) 1 0) in
      let one : writer_count ok.shown.hold ≡ 1 = (let a = write-in p ok.shown.hold in let b = h.word in bound (held_of n) b a mine) in
      outside-lock Release (bit_and n 18446744073709551614) (to Idle q.reg) (ReleaseEvent p) s.form f refl
      (plain Release Idle f refl refl (λ i. grind arith) (λ i. absurd (cc)) (λ i. absurd (cc))) refl
      ((let a = holds-split p ok.shown.hold in omega arith), (away (view w) ok.shown p ok.agrees.order.stands (grind (arith, f))).0) (below-count t w ok p below)
      (remove_holder p ok.shown.hold) refl
      (subst (λ (z : Bool × ℕ). Holding (count t) z.0 z.1 (updated (known w.passes) p (to Idle q.reg)) (remove_holder p ok.shown.hold)) (λ j. (sym s.held j, sym s.readers j))
      (lose (count t) (held_of n) (readers_of n) (known w.passes) ok.shown.hold h p (to Idle q.reg) (below-count t w ok p below) true holding write refl (grind (arith, f)) refl false (readers_of n) one (omega arith)))
    where
      bound : (b : Bool) → writer_count ok.shown.hold ≡ cond b 1 0 → write_of p ok.shown.hold ≤ writer_count ok.shown.hold → write_of p ok.shown.hold ≡ 1 → writer_count ok.shown.hold ≡ 1
      bound true e a m = e
      bound false e a m = absurd (omega arith)

  law-read-release : q.phase ≡ ReadRelease → Advances t w ok (ReleaseEvent p) (record { words = set w.words (index Lock) ((n + (2 ^ 64 - 4294967296)) % 2 ^ 64); passes = set w.passes p (to Idle q.reg) })
  law-read-release f = let h = ok.agrees.holding in
      let mode : q.reg.mode ≡ Read = ok.agrees.registered.reading p (ap is_reading f) in
      let read : is_write q.reg.mode ≡ false = ap is_write mode in
      let holding : is_holding q.phase ≡ true = grind (arith, f) in
      let mine : read_of p ok.shown.hold ≡ 1 = h.reader p ∙ (λ j. cond (holding j && not (read j)) 1 0) in
      let some : 0 < readers_of n = (let a = read-in p ok.shown.hold in let b = h.count in omega arith) in
      let none : writer_count ok.shown.hold ≡ cond (held_of n) 1 0 = h.word in
      let s = lock-sub n (ok.formed Lock) some in
      outside-lock ReadRelease ((n + (2 ^ 64 - 4294967296)) % 2 ^ 64) (to Idle q.reg) (ReleaseEvent p) s.form f refl
      (plain ReadRelease Idle f refl refl (λ i. grind arith) (λ i. absurd (cc)) (λ i. absurd (cc))) refl
      ((let a = holds-split p ok.shown.hold in omega arith), (away (view w) ok.shown p ok.agrees.order.stands (grind (arith, f))).0) (below-count t w ok p below)
      (remove_holder p ok.shown.hold) refl
      (subst (λ (z : Bool × ℕ). Holding (count t) z.0 z.1 (updated (known w.passes) p (to Idle q.reg)) (remove_holder p ok.shown.hold)) (λ j. (sym s.held j, sym s.readers j))
      (lose (count t) (held_of n) (readers_of n) (known w.passes) ok.shown.hold h p (to Idle q.reg) (below-count t w ok p below) false holding read refl (grind (arith, f)) refl (held_of n) (readers_of n - 1) (omega arith) (omega arith)))

  law-count : q.phase ≡ Count → (b : Bool) → (held_of n || closed_of n) ≡ b → Advances t w ok (cond b Nothing (StealEvent p Read)) (record { words = set w.words (index Lock) ((n + 4294967296) % 2 ^ 64); passes = set w.passes p (to (cond b Uncount Held) q.reg) })
  law-count f b e = let h = ok.agrees.holding in let s = lock-add n (ok.formed Lock) (few-readers t w ok) in let mode : q.reg.mode ≡ Read = ok.agrees.registered.reading p (ap is_reading f) in by b e h s mode
    where
      by : (b : Bool) → (held_of n || closed_of n) ≡ b → Holding (count t) (held_of n) (readers_of n) (known w.passes) ok.shown.hold → Says ((n + 4294967296) % 2 ^ 64) (held_of n) (closed_of n) (readers_of n + 1) → q.reg.mode ≡ Read
          → Advances t w ok (cond b Nothing (StealEvent p Read)) (record { words = set w.words (index Lock) ((n + 4294967296) % 2 ^ 64); passes = set w.passes p (to (cond b Uncount Held) q.reg) })
      by true e h s mode = outside-still Count ((n + 4294967296) % 2 ^ 64) (to Uncount q.reg) s.form f refl (plain Count Uncount f refl refl (λ i. grind arith) (λ i. absurd (cc)) (λ i. mode)) refl
          (subst (λ (z : Bool × ℕ). Holding (count t) z.0 z.1 (updated (known w.passes) p (to Uncount q.reg)) ok.shown.hold) (λ j. (sym s.held j, sym s.readers j))
          (stay (count t) (held_of n) (readers_of n) (known w.passes) ok.shown.hold h p (to Uncount q.reg) (below-count t w ok p below) (readers_of n + 1) (grind (arith, f)) refl (let b : backs q ≡ 0 = grind (arith, f) in omega arith)))
      by false e h s mode = let free : held_of n ≡ false = first-false (held_of n) (closed_of n) e in let out : is_holding q.phase ≡ false = grind (arith, f) in
          let g : Holding (count t) false (readers_of n) (known w.passes) ok.shown.hold = subst (λ z. Holding (count t) z (readers_of n) (known w.passes) ok.shown.hold) free h in
          outside-lock Count ((n + 4294967296) % 2 ^ 64) (to Held q.reg) (StealEvent p Read) s.form f refl
          (plain Count Held f refl refl (λ i. grind arith) (λ i. absurd (cc)) (λ i. absurd (cc))) refl
          (g.word, not-holding (count t) false (readers_of n) (known w.passes) ok.shown.hold g p out, away (view w) ok.shown p ok.agrees.order.stands (grind (arith, f))) (below-count t w ok p below)
          (add_holder p Read ok.shown.hold) refl
          (subst (λ (z : Bool × ℕ). Holding (count t) z.0 z.1 (updated (known w.passes) p (to Held q.reg)) (add_holder p Read ok.shown.hold)) (λ j. ((sym free ∙ sym s.held) j, sym s.readers j))
          (gain (count t) false (readers_of n) (known w.passes) ok.shown.hold g p (to Held q.reg) (below-count t w ok p below) Read (readers_of n + 1) out refl mode refl (λ i. absurd (cc)) (let b : backs q ≡ 0 = grind (arith, f) in omega arith)))
        where
          first-false : (a b : Bool) → (a || b) ≡ false → a ≡ false
          first-false true b e = absurd (cc)
          first-false false b e = refl

  -- a pass that was counted is counted no more
  back-out : (f g : Phase) → q.phase ≡ f → outside f ≡ true → outside g ≡ true → (f ≢ Idle) → is_backing f ≡ true → is_backing g ≡ false → is_holding f ≡ false → is_holding g ≡ false → is_writing g ≡ false → is_reading g ≡ false
      → Advances t w ok Nothing (record { words = set w.words (index Lock) ((n + (2 ^ 64 - 4294967296)) % 2 ^ 64); passes = set w.passes p (to g q.reg) })
  back-out f g was outs now not backs-f backs-g holds-f holds-g nw nr = let h = ok.agrees.holding in
      let one : backs q ≡ 1 = (λ j. cond ((ap is_backing was ∙ backs-f) j) 1 0) in let none : backs (to g q.reg) ≡ 0 = (λ j. cond (backs-g j) 1 0) in
      let some : 0 < readers_of n = (let a = total-updated-here (count t) p (known w.passes) (to g q.reg) (below-count t w ok p below) in let b = h.count in omega arith) in
      let s = lock-sub n (ok.formed Lock) some in
      outside-still f ((n + (2 ^ 64 - 4294967296)) % 2 ^ 64) (to g q.reg) s.form was outs (plain f g was outs now not (λ i. absurd (cc)) (λ i. absurd (cc))) refl
      (subst (λ (z : Bool × ℕ). Holding (count t) z.0 z.1 (updated (known w.passes) p (to g q.reg)) ok.shown.hold) (λ j. (sym s.held j, sym s.readers j))
      (stay (count t) (held_of n) (readers_of n) (known w.passes) ok.shown.hold h p (to g q.reg) (below-count t w ok p below) (readers_of n - 1) (holds-g ∙ sym (ap is_holding was ∙ holds-f)) refl (omega arith)))

pub open-law : (t : Terms) → LawOf t Open
open-law t = at-phase t Open (λ w p c ok below nap f. law-open t w p ok below nap f)

pub steal-law : (t : Terms) → LawOf t Steal
steal-law t = at-phase t Steal (λ w p c ok below nap f. law-steal t w p ok below nap f (look w.words Lock == 0) refl)

pub release-law : (t : Terms) → LawOf t Release
release-law t = at-phase t Release (λ w p c ok below nap f. law-release t w p ok below nap f)

pub read-release-law : (t : Terms) → LawOf t ReadRelease
read-release-law t = at-phase t ReadRelease (λ w p c ok below nap f. law-read-release t w p ok below nap f)

pub count-law : (t : Terms) → LawOf t Count
count-law t = at-phase t Count (λ w p c ok below nap f. law-count t w p ok below nap f (held_of (look w.words Lock) || closed_of (look w.words Lock)) refl)

pub uncount-law : (t : Terms) → LawOf t Uncount
uncount-law t = at-phase t Uncount (λ w p c ok below nap f. back-out t w p ok below nap Uncount Init f refl refl (λ i. grind arith) refl refl refl refl refl refl)

pub try-uncount-law : (t : Terms) → LawOf t TryUncount
try-uncount-law t = at-phase t TryUncount (λ w p c ok below nap f. back-out t w p ok below nap TryUncount Idle f refl refl (λ i. grind arith) refl refl refl refl refl refl)

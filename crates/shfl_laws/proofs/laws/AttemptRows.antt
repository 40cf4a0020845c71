-- The laws of an attempt's one operation, by an idle pass, in either mode.
use Rattle.std.proofs.Common.{◌≡◌, ℕ, ◌+◌, ◌%◌, ◌^◌, ◌<◌, ◌==◌, Bool, true, false, cond, length, set, refl, sym, ap, ◌∙◌, subst, arith}
use Rattle.std.specs.Prelude.{◌||◌}
use Rattle.std.proofs.lemmas.Bool.Decides.{nat_tests}
use prog.Atomic.{either}
use Rattle.shfl_line.specs.declared.events.Mode.{Mode}
use Rattle.shfl_line.specs.declared.events.Mode.TheVariants.{Write, Read}
use Rattle.shfl_line.specs.declared.events.LineEvent.TheVariants.{Steal as StealEvent, Nothing}
use Rattle.shfl_line.specs.Line.{reader_count}
use Rattle.shfl_line.specs.Steps.{add_holder}
use Rattle.shfl_line.specs.Words.{held_of, closed_of, readers_of}
use Rattle.shfl_line.specs.Passes.{updated}
use Rattle.shfl_core.specs.declared.phase.Phase.TheVariants.{Idle, Held, TryUncount}
use Rattle.shfl_core.specs.declared.phase.Registers.{Registers as Regs}
use Rattle.shfl_core.specs.declared.phase.Nap.TheVariants.{Awake}
use Rattle.shfl_core.specs.declared.phase.PassState.{PassState}
use Rattle.shfl_core.specs.declared.words.Word.TheVariants.{Lock}
use Rattle.shfl_core.specs.Words.{look, index, site}
use Rattle.shfl_core.specs.Plan.{attempt_plan}
use Rattle.shfl_core.specs.Take.{to}
use Rattle.shfl_core.specs.Waiting.{MayUse, idle}
use Rattle.shfl_core.specs.Worlds.{World, known, tried}
use Rattle.shfl_core.specs.Phases.{is_holding}
use Rattle.shfl_core.specs.View.{view}
use Rattle.shfl_core.specs.Events.{attempt_event}
use Rattle.shfl_core.specs.Holding.{Holding, backs}
use Rattle.shfl_core.specs.Lawful.{Terms, count, Lawful, Advances}
use Rattle.shfl_core.proofs.Lists.{seen-at}
use Rattle.shfl_laws.specs.Moves.{AttemptLaw}
use Rattle.shfl_laws.proofs.words.Advance.{below-count}
use Rattle.shfl_laws.proofs.words.LockBits.{Says, lock-add}
use Rattle.shfl_laws.proofs.rows.Holding.{gain}
use Rattle.shfl_laws.proofs.rows.Counts.{not-holding, away, few-readers}
use Rattle.shfl_laws.proofs.laws.OutsideRows.{outside, goes-outside, outside-lock, outside-still}
use Rattle.shfl_laws.proofs.laws.MoveRows.{idle-awake, stay-out}

module _ (t : Terms) (w : World) (p : ℕ) (ok : Lawful t w) (below : p < length w.passes) (f : (known w.passes p).phase ≡ Idle) where
  abbrev q : PassState
  q = known w.passes p

  abbrev n : ℕ
  n = look w.words Lock

  nap : q.nap ≡ Awake
  nap = idle-awake q.nap q.phase f (ok.agrees.owed.places p)

  none : is_holding q.phase ≡ false
  none = ap is_holding f

  abbrev writer : ℕ → Regs
  writer saw = record q.reg { mode = Write; saw = saw }

  abbrev won : Regs
  won = record q.reg { mode = Write }

  try-write : (b : Bool) → (n == 0) ≡ b → Advances t w ok (cond b (StealEvent p Write) Nothing)
      (record { words = set w.words (index Lock) (either b 1 n); passes = set w.passes p (cond b (to Held won) (to Idle (writer n))) })
  try-write false e = let v : PassState = to Idle (writer n) in
      outside-still t w p ok below nap Idle n v (ok.formed Lock) f refl
      (goes-outside t (view w) ok.shown p v (ap outside f) refl refl (λ i. absurd (cc)) (λ i. absurd (cc)) (λ s i. refl)) refl
      (stay-out (count t) (held_of n) (readers_of n) (known w.passes) ok.shown.hold ok.agrees.holding p v (below-count t w ok p below) (readers_of n) refl none (let b : backs q ≡ 0 = grind (arith, f) in omega arith))
  try-write true e = let zero : n ≡ 0 = grind (arith, nat_tests, e) in let v : PassState = to Held won in
      let h : Holding (count t) false 0 (known w.passes) ok.shown.hold = subst (λ z. Holding (count t) (held_of z) (readers_of z) (known w.passes) ok.shown.hold) zero ok.agrees.holding in
      let free : reader_count ok.shown.hold ≡ 0 = (let c = h.count in omega arith) in
      outside-lock t w p ok below nap Idle 1 v (StealEvent p Write) (record { held = true; closed = false; readers = 0; few = omega arith; is = omega arith }) f refl
      (goes-outside t (view w) ok.shown p v (ap outside f) refl refl (λ i. absurd (cc)) (λ i. absurd (cc)) (λ s i. refl)) refl
      ((h.word, free), not-holding (count t) false 0 (known w.passes) ok.shown.hold h p none, away (view w) ok.shown p ok.agrees.order.stands (grind (arith, f))) (below-count t w ok p below)
      (add_holder p Write ok.shown.hold) refl
      (gain (count t) false 0 (known w.passes) ok.shown.hold h p v (below-count t w ok p below) Write 0 none refl refl refl (λ _. free) (let b : backs q ≡ 0 = grind (arith, f) in omega arith))

  abbrev reader : ℕ → Regs
  reader saw = record q.reg { mode = Read; saw = saw }

  abbrev read-won : Regs
  read-won = record q.reg { mode = Read }

  try-read : MayUse t.rules.form Read → (b : Bool) → (held_of n || closed_of n) ≡ b → Advances t w ok (cond b Nothing (StealEvent p Read))
      (record { words = set w.words (index Lock) ((n + 4294967296) % 2 ^ 64); passes = set w.passes p (cond b (to TryUncount (reader n)) (to Held read-won)) })
  try-read may b e = by b e (lock-add n (ok.formed Lock) (few-readers t w ok))
    where
      by : (b : Bool) → (held_of n || closed_of n) ≡ b → Says ((n + 4294967296) % 2 ^ 64) (held_of n) (closed_of n) (readers_of n + 1) → Advances t w ok (cond b Nothing (StealEvent p Read))
          (record { words = set w.words (index Lock) ((n + 4294967296) % 2 ^ 64); passes = set w.passes p (cond b (to TryUncount (reader n)) (to Held read-won)) })
      by true e s = let v : PassState = to TryUncount (reader n) in
          outside-still t w p ok below nap Idle ((n + 4294967296) % 2 ^ 64) v s.form f refl
          (goes-outside t (view w) ok.shown p v (ap outside f) refl refl (λ i. absurd (cc)) (λ i. refl) (λ x i. may x)) refl
          (subst (λ (z : Bool × ℕ). Holding (count t) z.0 z.1 (updated (known w.passes) p v) ok.shown.hold) (λ j. (sym s.held j, sym s.readers j))
          (stay-out (count t) (held_of n) (readers_of n) (known w.passes) ok.shown.hold ok.agrees.holding p v (below-count t w ok p below) (readers_of n + 1) refl none (let b : backs q ≡ 0 = grind (arith, f) in omega arith)))
      by false e s = let free : held_of n ≡ false = first-false (held_of n) (closed_of n) e in let v : PassState = to Held read-won in
          let g : Holding (count t) false (readers_of n) (known w.passes) ok.shown.hold = subst (λ z. Holding (count t) z (readers_of n) (known w.passes) ok.shown.hold) free ok.agrees.holding in
          outside-lock t w p ok below nap Idle ((n + 4294967296) % 2 ^ 64) v (StealEvent p Read) s.form f refl
          (goes-outside t (view w) ok.shown p v (ap outside f) refl refl (λ i. absurd (cc)) (λ i. absurd (cc)) (λ x i. may x)) refl
          (g.word, not-holding (count t) false (readers_of n) (known w.passes) ok.shown.hold g p none, away (view w) ok.shown p ok.agrees.order.stands (grind (arith, f))) (below-count t w ok p below)
          (add_holder p Read ok.shown.hold) refl
          (subst (λ (z : Bool × ℕ). Holding (count t) z.0 z.1 (updated (known w.passes) p v) (add_holder p Read ok.shown.hold)) (λ j. ((sym free ∙ sym s.held) j, sym s.readers j))
          (gain (count t) false (readers_of n) (known w.passes) ok.shown.hold g p v (below-count t w ok p below) Read (readers_of n + 1) none refl refl refl (λ i. absurd (cc)) (let b : backs q ≡ 0 = grind (arith, f) in omega arith)))
        where
          first-false : (a b : Bool) → (a || b) ≡ false → a ≡ false
          first-false true b e = absurd (cc)
          first-false false b e = refl

pub attempt-law : (t : Terms) (mode : Mode) → AttemptLaw t mode
attempt-law t mode w p q ok at phase may = let e = seen-at w.passes p q (idle p) at in
    subst (λ (z : PassState). Advances t w ok (attempt_event mode p (look w.words (site (attempt_plan mode)))) (tried w p z mode)) e.0
    (by mode may e.1 (ap (λ (z : PassState). z.phase) e.0 ∙ phase))
  where
    by : (m : Mode) → MayUse t.rules.form m → p < length w.passes → (known w.passes p).phase ≡ Idle → Advances t w ok (attempt_event m p (look w.words (site (attempt_plan m)))) (tried w p (known w.passes p) m)
    by Write may below f = try-write t w p ok below f (look w.words Lock == 0) refl
    by Read may below f = try-read t w p ok below f may (held_of (look w.words Lock) || closed_of (look w.words Lock)) refl

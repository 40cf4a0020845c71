-- The step of a waiter that looks at its state word.
use Rattle.std.proofs.Common.{◌≡◌, ℕ, ◌+◌, ◌*◌, ◌<◌, ◌≤◌, Bool, true, false, cond, ◌==◌, length, refl, ap, ◌∙◌, arith}
use Rattle.std.specs.Prelude.{◌||◌, ◌&&◌, ◌%◌, not, List}
use Rattle.std.proofs.lemmas.Bool.Decides.{nat_tests}
use Rattle.shfl_line.specs.Line.{mark_of}
use Rattle.shfl_line.specs.Words.{ready_of, shuffler_of, batch_of}
use Rattle.shfl_core.specs.declared.phase.Phase.TheVariants as phase
use Rattle.shfl_core.specs.declared.phase.Registers.{Registers as Regs}
use Rattle.shfl_core.specs.declared.phase.Nap.TheVariants.{Awake, Doze}
use Rattle.shfl_core.specs.declared.phase.PassState.{PassState}
use Rattle.shfl_core.specs.declared.words.Word.{Word}
use Rattle.shfl_core.specs.declared.words.Word.TheVariants.{Lock, State as StateOf}
use Rattle.shfl_core.specs.Words.{look, index}
use Rattle.shfl_core.specs.Phases.{is_queued, is_fore}
use Rattle.shfl_core.specs.Plan.{parks}
use Rattle.shfl_core.specs.Take.{to, top, looked}
use Rattle.shfl_core.specs.Worlds.{World, known}
use Rattle.shfl_core.specs.Events.{event_at}
use Rattle.shfl_core.specs.Lawful.{Terms, count, Lawful, Advances}
use Rattle.shfl_core.proofs.Lists.{set-read}
use Rattle.shfl_laws.specs.Rounds.{left}
use Rattle.shfl_drain.specs.GoingOn.{waits_at}
use Rattle.shfl_drain.proofs.Bools.{both}
use Rattle.shfl_drain.proofs.Stages.{stage, top-stage}
use Rattle.shfl_drain.proofs.Slack.{slack}
use Rattle.shfl_drain.proofs.Number.{unmarked}
use Rattle.shfl_drain.proofs.Row.{found, goes, next, Leaves, RoundsKept, own-mark, later, sooner, no-later}
use Rattle.shfl_drain.proofs.Paces.{unmarked-any}

module _ (t : Terms) (w : World) (ok : Lawful t w) (p : ℕ) (below : p < length w.passes) (c : Bool) (nap : (known w.passes p).nap ≡ Awake) (at : (known w.passes p).phase ≡ phase.Look)
    (a : Advances t w ok (event_at t.rules p (known w.passes p).reg (found t w p phase.Look) phase.Look) (next t w p phase.Look c)) (kept : RoundsKept t w ok (next t w p phase.Look c) a.lawful p) where
  abbrev n : ℕ
  n = look w.words (StateOf p)

  -- what it knows of its own state word then
  abbrev r : Regs
  r = record (known w.passes p).reg { batch = batch_of n % 65536; flag = shuffler_of n }

  words-same : (x : Word) → look (next t w p phase.Look c).words x ≡ look w.words x
  words-same x = ap (λ (z : List ℕ). look z x) (set-read w.words (index (StateOf p)) 0)

  stands : known w.passes p ≡ to phase.Look (known w.passes p).reg
  stands = λ j. record { phase = at j; reg = (known w.passes p).reg; nap = nap j }

  mark-is : mark_of ok.shown p ≡ batch_of (look w.words (StateOf p))
  mark-is = ok.agrees.grouping.mark p ∙ ap (λ (q : PassState). cond (is_queued q) (batch_of n) 0) stands

  none : (batch_of (look w.words (StateOf p)) % 65536 == 0) ≡ true → mark_of ok.shown p ≡ 0
  none e = let b = mark-is in let l = ok.agrees.grouping.within p in let m = ok.limit.1 in let d : batch_of n % 65536 ≡ 0 = grind (arith, nat_tests, e) in omega arith

  uncalled : ready_of (look w.words (StateOf p)) ≡ false → waits_at w p phase.Look ≡ true
  uncalled e = ap (λ (q : PassState). not (is_fore q || ready_of n)) stands ∙ ap not e

  module _ (v : PassState) (is : goes t w p phase.Look c ≡ v) (q : is_queued v ≡ true) where
    own-same : mark_of a.lawful.shown p ≡ mark_of ok.shown p
    own-same = own-mark t w ok p below phase.Look c refl nap at a kept v is tt

    way-le : stage v ≤ 20 → stage v + unmarked v (mark_of a.lawful.shown p) ≤ stage (to phase.Look (known w.passes p).reg) + unmarked (to phase.Look (known w.passes p).reg) (mark_of ok.shown p)
    way-le h = let u : unmarked v (mark_of a.lawful.shown p) ≡ unmarked v (mark_of ok.shown p) = ap (unmarked v) own-same in let k = unmarked-any v (to phase.Look (known w.passes p).reg) (mark_of ok.shown p) refl in omega arith

  -- how long an uncalled waiter waited
  old : ready_of (look w.words (StateOf p)) ≡ false → slack (count t) (to phase.Look (known w.passes p).reg) (ready_of (look w.words (StateOf p))) (look w.words Lock) (mark_of ok.shown p) (left t w ok p) ≡ cond (mark_of ok.shown p == 0) 4 0
  old e = ap (λ b. 0 + cond b 0 (cond (mark_of ok.shown p == 0) 4 0)) e ∙ plain (mark_of ok.shown p == 0)
    where
      plain : (b : Bool) → 0 + cond b 4 0 ≡ cond b 4 0
      plain true = refl
      plain false = refl

  pub looked-row : Leaves t w ok (next t w p phase.Look c) a.lawful (waits_at w p phase.Look)
  looked-row = by (ready_of (look w.words (StateOf p))) (shuffler_of (look w.words (StateOf p))) (parks t.rules.form && (batch_of (look w.words (StateOf p)) % 65536 == 0)) refl refl refl
    where
      ready : ready_of (look (next t w p phase.Look c).words (StateOf p)) ≡ ready_of (look w.words (StateOf p))
      ready = ap ready_of (words-same (StateOf p))

      by : (b d e : Bool) → ready_of (look w.words (StateOf p)) ≡ b → shuffler_of (look w.words (StateOf p)) ≡ d → (parks t.rules.form && (batch_of (look w.words (StateOf p)) % 65536 == 0)) ≡ e
          → Leaves t w ok (next t w p phase.Look c) a.lawful (waits_at w p phase.Look)
      by true d e i j k = later t w ok p below phase.Look c refl nap at a kept (top r) (ap (looked t.rules r) i) (let s = top-stage r in omega arith)
      by false true e i j k = no-later t w ok p below phase.Look c refl nap at a kept (to phase.Begin (record r { headed = false })) is
          (λ z _. ap ready_of (words-same (StateOf z))) (words-same Lock) (way-le (to phase.Begin (record r { headed = false })) is refl (omega arith))
          (let x : ◌≡◌ {A = ℕ} (cond (ready_of (look (next t w p phase.Look c).words (StateOf p))) (9 * count t + 14) 0) 0 = ap (λ b. cond b (9 * count t + 14) 0) (ready ∙ i) in omega arith)
          (uncalled i)
        where
          is : goes t w p phase.Look c ≡ to phase.Begin (record r { headed = false })
          is = ap (looked t.rules r) i ∙ ap (λ z. cond z (to phase.Begin (record r { headed = false })) (record { phase = phase.Look; reg = r; nap = cond (parks t.rules.form && (batch_of (look w.words (StateOf p)) % 65536 == 0)) Doze Awake })) j
      by false false true i j k = sooner t w ok p below phase.Look c refl nap at a kept (record { phase = phase.Look; reg = r; nap = Doze }) is
          (λ z _. ap ready_of (words-same (StateOf z))) (words-same Lock) (way-le (record { phase = phase.Look; reg = r; nap = Doze }) is refl (omega arith))
          (let x : ◌≡◌ {A = ℕ} (cond (ready_of (look (next t w p phase.Look c).words (StateOf p))) 0 0) 0 = ap (λ b. cond b 0 0) (ready ∙ i) in let y = old i in
          let m = none (both (parks t.rules.form) (batch_of (look w.words (StateOf p)) % 65536 == 0) k).1 in let z : ◌≡◌ {A = ℕ} (cond (mark_of ok.shown p == 0) 4 0) 4 = ap (λ h. cond (h == 0) 4 0) m in omega arith)
        where
          is : goes t w p phase.Look c ≡ record { phase = phase.Look; reg = r; nap = Doze }
          is = ap (looked t.rules r) i ∙ (λ h. cond (j h) (to phase.Begin (record r { headed = false })) (record { phase = phase.Look; reg = r; nap = cond (k h) Doze Awake }))
      by false false false i j k = no-later t w ok p below phase.Look c refl nap at a kept (to phase.Look r) is
          (λ z _. ap ready_of (words-same (StateOf z))) (words-same Lock) (way-le (to phase.Look r) is refl (omega arith))
          (let x : ◌≡◌ {A = ℕ} (cond (ready_of (look (next t w p phase.Look c).words (StateOf p))) 0 (cond (mark_of a.lawful.shown p == 0) 4 0)) (cond (mark_of a.lawful.shown p == 0) 4 0) = ap (λ b. cond b 0 (cond (mark_of a.lawful.shown p == 0) 4 0)) (ready ∙ i) in
          let y = old i in let z : ◌≡◌ {A = ℕ} (cond (mark_of a.lawful.shown p == 0) 4 0) (cond (mark_of ok.shown p == 0) 4 0) = ap (λ h. cond (h == 0) 4 0) (own-same (to phase.Look r) is refl) in omega arith)
          (uncalled i)
        where
          is : goes t w p phase.Look c ≡ to phase.Look r
          is = ap (looked t.rules r) i ∙ (λ h. cond (j h) (to phase.Begin (record r { headed = false })) (record { phase = phase.Look; reg = r; nap = cond (k h) Doze Awake }))

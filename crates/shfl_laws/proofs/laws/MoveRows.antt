-- The moves that touch no word: acquire and release, an idle pass that is replaced by another, and the steps that an idle pass or a holder doesn't make.
use Rattle.std.proofs.Common.{◌≡◌, ℕ, ◌+◌, ◌<◌, Bool, true, false, cond, List, length, set, refl, sym, ap, ◌∙◌, subst, arith}
use Rattle.std.specs.Prelude.{◌&&◌, not}
use Rattle.shfl_line.specs.declared.events.Mode.{Mode}
use Rattle.shfl_line.specs.declared.events.Mode.TheVariants.{Write, Read}
use Rattle.shfl_line.specs.declared.events.LineEvent.TheVariants.{Nothing}
use Rattle.shfl_line.specs.Line.{is_write}
use Rattle.shfl_line.specs.Passes.{updated}
use Rattle.shfl_line.proofs.Chain
use Rattle.shfl_core.specs.declared.phase.Phase.{Phase}
use Rattle.shfl_core.specs.declared.phase.Phase.TheVariants.{Idle, Held}
use Rattle.shfl_core.specs.declared.phase.Nap.{Nap}
use Rattle.shfl_core.specs.declared.phase.Nap.TheVariants.{Awake, Doze, Hear, Rouse, Ring}
use Rattle.shfl_core.specs.declared.phase.PassState.{PassState}
use Rattle.shfl_core.specs.declared.words.Word.TheVariants.{Lock}
use Rattle.shfl_core.specs.Words.{look, index}
use Rattle.shfl_core.specs.Take.{to, entry, exit}
use Rattle.shfl_core.specs.Waiting.{MayUse, idle}
use Rattle.shfl_core.specs.Worlds.{World, known, placed_at}
use Rattle.shfl_core.specs.Phases.{is_holding, is_writing, is_reading, is_backing}
use Rattle.shfl_core.specs.View.{view}
use Rattle.shfl_core.specs.Owed.{fits}
use Rattle.shfl_core.specs.Holding.{write_of, read_of, backs, Holding as Holds}
use Rattle.shfl_core.specs.Lawful.{Terms, count, Agrees, Lawful, Advances, LawOf}
use Rattle.shfl_core.proofs.Lists.{seen-at, set-read}
use Rattle.shfl_laws.specs.Moves.{ForgetLaw}
use Rattle.shfl_laws.proofs.words.Frame.{passed}
use Rattle.shfl_laws.proofs.kept.QuietAgrees.{GoesOn, quiet-agrees}
use Rattle.shfl_laws.proofs.words.Advance.{at-phase, advance-load, below-count}
use Rattle.shfl_laws.proofs.rows.Holding.{stay, total-updated}
use Rattle.shfl_laws.proofs.laws.OutsideRows.{outside, goes-outside}

-- an idle pass is awake
pub idle-awake : (n : Nap) (f : Phase) → f ≡ Idle → fits n f ≡ true → n ≡ Awake
idle-awake n f e h = by n (sym (ap (fits n) e) ∙ h)
  where
    by : (n : Nap) → fits n Idle ≡ true → n ≡ Awake
    by Awake h = refl
    by Doze h = absurd (cc)
    by Hear h = absurd (cc)
    by Rouse h = absurd (cc)
    by (Ring whom) h = absurd (cc)

-- a pass that doesn't hold goes on outside the hold, in whatever mode
pub stay-out : (n : ℕ) (held : Bool) (readers : ℕ) (pass : ℕ → PassState) (hold : List (ℕ × Mode)) → Holds n held readers pass hold → (p : ℕ) (v : PassState) → p < n → (more : ℕ)
    → is_holding v.phase ≡ false → is_holding (pass p).phase ≡ false → more + backs (pass p) ≡ readers + backs v → Holds n held more (updated pass p v) hold
stay-out n held readers pass hold h p v below more a b c = record {
  writer = Chain.updated-all (λ q t. write_of q hold ≡ cond (is_holding t.phase && is_write t.reg.mode) 1 0) pass p v (h.writer p ∙ ((λ i. cond (b i && is_write (pass p).reg.mode) 1 0) ∙ sym (λ i. cond (a i && is_write v.reg.mode) 1 0))) (λ q k. h.writer q);
  reader = Chain.updated-all (λ q t. read_of q hold ≡ cond (is_holding t.phase && not (is_write t.reg.mode)) 1 0) pass p v (h.reader p ∙ ((λ i. cond (b i && not (is_write (pass p).reg.mode)) 1 0) ∙ sym (λ i. cond (a i && not (is_write v.reg.mode)) 1 0))) (λ q k. h.reader q);
  word = h.word;
  alone = h.alone;
  count = let t = total-updated n p pass v below in let d = h.count in omega arith;
}

module _ (t : Terms) (w : World) (ok : Lawful t w) (p : ℕ) (below : p < length w.passes) where
  abbrev q : PassState
  q = known w.passes p

  pub advance-still : (v : PassState) → v.reg.me ≡ q.reg.me → Agrees t (passed (view w) p v) ok.shown ok.giver → Advances t w ok Nothing (placed_at w p v)
  advance-still v me a = subst (λ (l : List ℕ). Advances t w ok Nothing (record { words = l; passes = set w.passes p v })) (set-read w.words 0 0)
      (advance-load t w ok p below v Nothing ok.giver me tt tt Lock (omega arith) a)

  -- a pass goes on outside the queue, and no word changes
  still : (v : PassState) → q.nap ≡ Awake → v.reg.me ≡ q.reg.me → GoesOn t (view w) ok.shown p v → Holds (count t) (view w).held (view w).readers (updated (known w.passes) p v) ok.shown.hold → Advances t w ok Nothing (placed_at w p v)
  still v nap me on h = advance-still v me (quiet-agrees t (view w) ok.shown ok.giver p v ok.agrees nap on (view w).held (view w).closed (view w).readers ok.shown.hold h)

  pub acquire-advances : (m : Mode) → MayUse t.rules.form m → q.phase ≡ Idle → Advances t w ok Nothing (placed_at w p (record q { phase = entry m; reg = record q.reg { mode = m } }))
  acquire-advances m may f = let nap : q.nap ≡ Awake = idle-awake q.nap q.phase f (ok.agrees.owed.places p) in let none : is_holding q.phase ≡ false = ap is_holding f in let b : backs q ≡ 0 = grind (arith, f) in
      by m may nap none b
    where
      by : (m : Mode) → MayUse t.rules.form m → q.nap ≡ Awake → is_holding q.phase ≡ false → backs q ≡ 0 → Advances t w ok Nothing (placed_at w p (record q { phase = entry m; reg = record q.reg { mode = m } }))
      by Write may nap none b = let v : PassState = record q { phase = entry Write; reg = record q.reg { mode = Write } } in
          still v nap refl (goes-outside t (view w) ok.shown p v (ap outside f) refl nap (λ e. refl) (λ e. absurd (cc)) (λ s e. refl))
          (stay-out (count t) (view w).held (view w).readers (known w.passes) ok.shown.hold ok.agrees.holding p v (below-count t w ok p below) (view w).readers refl none (omega arith))
      by Read may nap none b = let v : PassState = record q { phase = entry Read; reg = record q.reg { mode = Read } } in
          still v nap refl (goes-outside t (view w) ok.shown p v (ap outside f) refl nap (λ e. absurd (cc)) (λ e. refl) (λ s e. may s))
          (stay-out (count t) (view w).held (view w).readers (known w.passes) ok.shown.hold ok.agrees.holding p v (below-count t w ok p below) (view w).readers refl none (omega arith))

  pub release-advances : q.phase ≡ Held → q.nap ≡ Awake → Advances t w ok Nothing (placed_at w p (record q { phase = exit q.reg.mode }))
  release-advances f nap = by q.reg.mode refl
    where
      by : (m : Mode) → q.reg.mode ≡ m → Advances t w ok Nothing (placed_at w p (record q { phase = exit m }))
      by Write e = let v : PassState = record q { phase = exit Write } in let b : backs q ≡ 0 = grind (arith, f) in
          still v nap refl (goes-outside t (view w) ok.shown p v (ap outside f) refl nap (λ i. e) (λ i. absurd (cc)) (λ s i. e))
          (stay (count t) (view w).held (view w).readers (known w.passes) ok.shown.hold ok.agrees.holding p v (below-count t w ok p below) (view w).readers (grind (arith, f)) refl (omega arith))
      by Read e = let v : PassState = record q { phase = exit Read } in let b : backs q ≡ 0 = grind (arith, f) in
          still v nap refl (goes-outside t (view w) ok.shown p v (ap outside f) refl nap (λ i. absurd (cc)) (λ i. e) (λ s i. ok.agrees.registered.writers s p (λ j. absurd (grind (arith, f, j)))))
          (stay (count t) (view w).held (view w).readers (known w.passes) ok.shown.hold ok.agrees.holding p v (below-count t w ok p below) (view w).readers (grind (arith, f)) refl (omega arith))

  -- an idle pass is replaced by another
  replaced : (v : PassState) → q.phase ≡ Idle → v.phase ≡ Idle → v.nap ≡ Awake → v.reg.me ≡ q.reg.me → Advances t w ok Nothing (placed_at w p v)
  replaced v f g here me = let nap = idle-awake q.nap q.phase f (ok.agrees.owed.places p) in
      let a : backs q ≡ 0 = ap (λ b. cond b 1 0) (ap is_backing f) in
      let b : backs v ≡ 0 = ap (λ b. cond b 1 0) (ap is_backing g) in
      still v nap me (goes-outside t (view w) ok.shown p v (ap outside f) (ap outside g) here
      (λ i. absurd (let z : is_writing v.phase ≡ false = ap is_writing g in cc)) (λ i. absurd (let z : is_reading v.phase ≡ false = ap is_reading g in cc)) (λ s i. absurd (i g)))
      (stay-out (count t) (view w).held (view w).readers (known w.passes) ok.shown.hold ok.agrees.holding p v (below-count t w ok p below) (view w).readers (ap is_holding g) (ap is_holding f) (omega arith))

  -- an idle pass and a holder have no step of their own: the load that they name changes nothing
  rests : (f : Phase) → q.phase ≡ f → outside f ≡ true → is_writing f ≡ false → is_reading f ≡ false → q.nap ≡ Awake → Advances t w ok Nothing (record { words = set w.words (index Lock) (look w.words Lock); passes = set w.passes p (to f q.reg) })
  rests f e out nw nr nap = let v : PassState = to f q.reg in advance-load t w ok p below v Nothing ok.giver refl tt tt Lock (omega arith)
      (quiet-agrees t (view w) ok.shown ok.giver p v ok.agrees nap (goes-outside t (view w) ok.shown p v (ap outside e ∙ out) out refl (λ i. absurd (cc)) (λ i. absurd (cc)) (λ s i. ok.agrees.registered.writers s p (λ j. i (sym e ∙ j)))) (view w).held (view w).closed (view w).readers ok.shown.hold
      (stay (count t) (view w).held (view w).readers (known w.passes) ok.shown.hold ok.agrees.holding p v (below-count t w ok p below) (view w).readers (ap is_holding (sym e)) refl (let b : backs q ≡ backs v = grind (arith, e) in omega arith)))

pub idle-law : (t : Terms) → LawOf t Idle
idle-law t = at-phase t Idle (λ w p c ok below nap f. rests t w ok p below Idle f refl refl refl nap)

pub held-law : (t : Terms) → LawOf t Held
held-law t = at-phase t Held (λ w p c ok below nap f. rests t w ok p below Held f refl refl refl nap)

pub forget-law : (t : Terms) → ForgetLaw t
forget-law t w p q v ok at f g here me = let e = seen-at w.passes p q (idle p) at in
    let same : v.reg.me ≡ (known w.passes p).reg.me = me ∙ (sym (ok.numbers p q at) ∙ ap (λ (z : PassState). z.reg.me) (sym e.0)) in
    replaced t w ok p e.1 v (ap (λ (z : PassState). z.phase) e.0 ∙ f) g here same

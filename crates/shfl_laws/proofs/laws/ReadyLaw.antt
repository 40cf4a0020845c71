-- The law of Ready, over words, and who is then to be woken.
use Rattle.std.proofs.Common.{◌≡◌, ℕ, ◌<◌, Bool, true, false, cond, ◌||◌, ◌&&◌, not, length, set, refl, sym, ap, ◌∙◌, subst, arith}
use Rattle.std.specs.Prelude.{bit_or}
use Rattle.shfl_line.specs.declared.events.LineEvent.TheVariants.{Nothing}
use Rattle.shfl_line.specs.declared.words.NodeState.{NodeState}
use Rattle.shfl_line.specs.Passes.{updated}
use Rattle.shfl_line.proofs.Chain
use Rattle.shfl_core.specs.declared.phase.Phase.TheVariants.{Ready, Held}
use Rattle.shfl_core.specs.declared.phase.Nap.{Nap}
use Rattle.shfl_core.specs.declared.phase.Nap.TheVariants.{Awake, Doze, Hear, Rouse, Ring}
use Rattle.shfl_core.specs.declared.phase.PassState.{PassState}
use Rattle.shfl_core.specs.declared.words.Word.TheVariants.{State}
use Rattle.shfl_core.specs.Words.{look, index}
use Rattle.shfl_core.specs.Take.{sleeps}
use Rattle.shfl_core.specs.Plan.{parks}
use Rattle.shfl_core.specs.Worlds.{World, known}
use Rattle.shfl_core.specs.Phases.{is_holding}
use Rattle.shfl_core.specs.View.{view}
use Rattle.shfl_core.specs.Holding.{backs}
use Rattle.shfl_core.specs.Owed.{Owed, IsCalledSleeper, called, announces}
use Rattle.shfl_core.specs.Lawful.{Terms, count, Lawful, Agrees, Advances, LawOf}
use Rattle.shfl_laws.proofs.words.Advance.{at-phase, advance-state, below-count}
use Rattle.shfl_laws.proofs.rows.Holding.{stay}
use Rattle.shfl_laws.proofs.kept.Registered.{registered-set}
use Rattle.shfl_laws.proofs.words.StateBits.{or-ready}
use Rattle.shfl_laws.proofs.rows.ReadyRow.{heir-in, not-ready, ready-order, ready-grouping, ring-owed, quiet-owed}

both : (a b : Bool) → (a && b) ≡ true → (a ≡ true) × (b ≡ true)
both true b e = (refl, e)
both false b e = absurd (cc)

un-not : (b : Bool) → not b ≡ true → b ≡ false
un-not true e = absurd (cc)
un-not false e = refl

-- whoever has announced itself and isn't told to go on waits for its wakeup word
waits : (x : Nap) → announces x ≡ true → (x ≡ Rouse → ⊥) → x ≡ Hear
waits Awake e n = absurd (cc)
waits Doze e n = absurd (cc)
waits Hear e n = refl
waits Rouse e n = absurd (n refl)
waits (Ring q) e n = absurd (cc)

module _ (t : Terms) (w : World) (p : ℕ) (ok : Lawful t w) (below : p < length w.passes) (nap : (known w.passes p).nap ≡ Awake) (f : (known w.passes p).phase ≡ Ready) where
  abbrev q : PassState
  q = known w.passes p

  abbrev h : ℕ
  h = (known w.passes p).reg.heir

  abbrev n : ℕ
  n = look w.words (State (known w.passes p).reg.heir)

  heir-below : h < count t
  heir-below = ok.of_passes.line h (heir-in (view w) ok.shown ok.giver p h ok.agrees.order f refl Awake)

  unready : ((view w).node h).ready ≡ false
  unready = not-ready (view w) ok.shown ok.giver p h ok.agrees.order f refl Awake

  step : (x : Nap) → Owed t.rules.form (record (view w) { node = updated (view w).node h (record ((view w).node h) { ready = true }); pass = updated (known w.passes) p (record { phase = Held; reg = q.reg; nap = x }) })
      → Advances t w ok Nothing (record { words = set w.words (index (State h)) (bit_or n 1); passes = set w.passes p (record { phase = Held; reg = q.reg; nap = x }) })
  step x ow = let s = or-ready n (ok.formed (State h)) in
      advance-state t w ok p below (record { phase = Held; reg = q.reg; nap = x }) Nothing 0 refl tt tt h (bit_or n 1) heir-below s.form
      (subst (λ (z : NodeState). Agrees t (record (view w) { node = updated (view w).node h z; pass = updated (known w.passes) p (record { phase = Held; reg = q.reg; nap = x }) }) ok.shown 0) (sym s.is) (record {
        order = ready-order (view w) ok.shown ok.giver p h ok.agrees.order f refl x;
        grouping = ready-grouping (view w) ok.shown ok.giver p h ok.agrees.order f refl x t.rules.limit ok.agrees.grouping;
        holding = stay (count t) (view w).held (view w).readers (known w.passes) ok.shown.hold ok.agrees.holding p (record { phase = Held; reg = q.reg; nap = x }) (below-count t w ok p below) (view w).readers
            (let e : is_holding q.phase ≡ true = grind (arith, f) in sym e) refl (let b : backs q ≡ 0 = grind (arith, f) in omega arith);
        registered = registered-set t.rules.form (view w) (record (view w) { node = updated (view w).node h (record ((view w).node h) { ready = true }); pass = updated (known w.passes) p (record { phase = Held; reg = q.reg; nap = x }) }) p
            (record { phase = Held; reg = q.reg; nap = x }) refl refl (λ z m e. ok.agrees.registered.late z e) ok.agrees.registered (record {
              writing = λ e. absurd (cc);
              reading = λ e. absurd (cc);
              writers = λ y _. ok.agrees.registered.writers y p (λ i. absurd (cc));
              no_compare = λ y e. absurd (cc);
              no_or = λ y e. absurd (cc);
              saw = λ e. absurd (cc);
              late = λ e. absurd (cc);
              seen = λ e. absurd (cc);
            });
        owed = ow;
      }))

  law-ready : (b : Bool) → sleeps t.rules n ≡ b → Advances t w ok Nothing (record { words = set w.words (index (State h)) (bit_or n 1); passes = set w.passes p (record { phase = Held; reg = q.reg; nap = cond b (Ring h) Awake }) })
  law-ready true e = let a = both (parks t.rules.form && ((view w).node h).parked && not ((view w).node h).ready) (not ((view w).node h).spin) e in
      let c = both (parks t.rules.form && ((view w).node h).parked) (not ((view w).node h).ready) a.0 in
      let d = both (parks t.rules.form) ((view w).node h).parked c.0 in
      let spin = un-not ((view w).node h).spin a.1 in let ready = un-not ((view w).node h).ready c.1 in
      let un : called ((view w).node h) ≡ false = (λ j. ready j || spin j) in
      step (Ring h) (ring-owed (view w) ok.shown ok.giver p h ok.agrees.order f refl (Ring h) t.rules.form nap ok.agrees.owed refl refl (λ x. absurd (let y = d.0 in cc)) refl
      (waits (known w.passes h).nap (sym (ok.agrees.owed.parked h) ∙ d.1) (λ r. (let y = ok.agrees.owed.roused h r in cc))) un)
  law-ready false e = step Awake (quiet-owed (view w) ok.shown ok.giver p h ok.agrees.order f refl Awake t.rules.form nap ok.agrees.owed refl refl (λ x. refl) refl told-before)
    where
      hears : IsCalledSleeper (record (view w) { node = updated (view w).node h (record ((view w).node h) { ready = true }); pass = updated (known w.passes) p (record { phase = Held; reg = q.reg; nap = Awake }) }) h → (known w.passes h).nap ≡ Hear
      hears c = Chain.by_eq h p
          (λ i. absurd (let a : updated (known w.passes) p (record { phase = Held; reg = q.reg; nap = Awake }) p ≡ record { phase = Held; reg = q.reg; nap = Awake } = Chain.updated-same (known w.passes) p (record { phase = Held; reg = q.reg; nap = Awake }) in
          let b : (updated (known w.passes) p (record { phase = Held; reg = q.reg; nap = Awake }) p).nap ≡ Hear = subst (λ z. (updated (known w.passes) p (record { phase = Held; reg = q.reg; nap = Awake }) z).nap ≡ Hear) i c.sleeps in
          let d : Awake ≡ Hear = ap (λ (z : PassState). z.nap) (sym a) ∙ b in cc))
          (λ m. ap (λ (z : PassState). z.nap) (sym (Chain.updated-else (known w.passes) p h (record { phase = Held; reg = q.reg; nap = Awake }) m)) ∙ c.sleeps)

      parking : (known w.passes h).nap ≡ Hear → (b : Bool) → parks t.rules.form ≡ b → b ≡ true
      parking s true e = refl
      parking s false e = absurd (let y = (ok.agrees.owed.spinning e h).0 in cc)

      must-spin : (a b c d : Bool) → (a && b && not c && not d) ≡ false → a ≡ true → b ≡ true → c ≡ false → d ≡ true
      must-spin true true false true e x y z = refl
      must-spin true true false false e x y z = absurd (cc)
      must-spin false b c d e x y z = absurd (cc)
      must-spin true false c d e x y z = absurd (cc)
      must-spin true true true d e x y z = absurd (cc)

      told-before : IsCalledSleeper (record (view w) { node = updated (view w).node h (record ((view w).node h) { ready = true }); pass = updated (known w.passes) p (record { phase = Held; reg = q.reg; nap = Awake }) }) h → IsCalledSleeper (view w) h
      told-before c = let s = hears c in let announced : ((view w).node h).parked ≡ true = ok.agrees.owed.parked h ∙ ap announces s in
          let spin = must-spin (parks t.rules.form) ((view w).node h).parked ((view w).node h).ready ((view w).node h).spin e (parking s (parks t.rules.form) refl) announced unready in
          record { sleeps = s; called = (λ j. unready j || spin j) }

pub ready-law : (t : Terms) → LawOf t Ready
ready-law t = at-phase t Ready (λ w p c ok below nap f. law-ready t w p ok below nap f (sleeps t.rules (look w.words (State (known w.passes p).reg.heir))) refl)

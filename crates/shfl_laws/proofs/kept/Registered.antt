-- The modes and the registers that speak of words, where one pass changes.
use Rattle.std.proofs.Common.{◌≡◌, ◌≢◌, ℕ, suc, true, false, sym, ap, ◌∙◌, subst}
use Rattle.shfl_line.specs.declared.events.Form.{Form}
use Rattle.shfl_line.specs.declared.events.Mode.TheVariants.{Write, Read}
use Rattle.shfl_line.specs.Words.{held_of, readers_of}
use Rattle.shfl_line.specs.Passes.{updated}
use Rattle.shfl_line.proofs.Chain
use Rattle.shfl_core.specs.declared.phase.Phase.TheVariants.{Idle, Grab, WriteGrab, Late}
use Rattle.shfl_core.specs.declared.phase.PassState.{PassState}
use Rattle.shfl_core.specs.Plan.{shares}
use Rattle.shfl_core.specs.Phases.{is_writing, is_reading, decide_to_pick}
use Rattle.shfl_core.specs.View.{View}
use Rattle.shfl_core.specs.Holding.{Registered}

-- the same of one pass
pub record Registers (form : Form) (tail : ℕ) (attr : ℕ → ℕ) (p : ℕ) (v : PassState) : Type 0 where
  pub writing : is_writing v.phase ≡ true → v.reg.mode ≡ Write
  pub reading : is_reading v.phase ≡ true → v.reg.mode ≡ Read
  pub writers : shares form ≡ false → v.phase ≢ Idle → v.reg.mode ≡ Write
  pub no_compare : shares form ≡ false → v.phase ≢ WriteGrab
  pub no_or : shares form ≡ true → v.phase ≢ Grab
  pub saw : v.phase ≡ WriteGrab → (held_of v.reg.saw ≡ false) × (readers_of v.reg.saw ≡ 0)
  pub late : v.phase ≡ Late → tail ≢ suc p
  pub seen : decide_to_pick v.phase ≡ true → v.reg.seen ≡ attr v.reg.cand

-- one pass changes, and the other words
pub registered-set : (form : Form) (w w' : View) (p : ℕ) (v : PassState) → w'.attr ≡ w.attr → w'.pass ≡ updated w.pass p v → ((q : ℕ) → q ≢ p → (w.pass q).phase ≡ Late → w'.tail ≢ suc q)
    → Registered form w → Registers form w'.tail w'.attr p v → Registered form w'
registered-set form w w' p v attrs passes tails h o = subst (λ (f : ℕ → PassState). Registered form (record w' { pass = f })) (sym passes) (record {
  writing = Chain.updated-all (λ q t. is_writing t.phase ≡ true → t.reg.mode ≡ Write) w.pass p v o.writing (λ q n. h.writing q);
  reading = Chain.updated-all (λ q t. is_reading t.phase ≡ true → t.reg.mode ≡ Read) w.pass p v o.reading (λ q n. h.reading q);
  writers = λ s. Chain.updated-all (λ q t. t.phase ≢ Idle → t.reg.mode ≡ Write) w.pass p v (o.writers s) (λ q n. h.writers s q);
  no_compare = λ s. Chain.updated-all (λ q t. t.phase ≢ WriteGrab) w.pass p v (o.no_compare s) (λ q n. h.no_compare s q);
  no_or = λ s. Chain.updated-all (λ q t. t.phase ≢ Grab) w.pass p v (o.no_or s) (λ q n. h.no_or s q);
  saw = Chain.updated-all (λ q t. t.phase ≡ WriteGrab → (held_of t.reg.saw ≡ false) × (readers_of t.reg.saw ≡ 0)) w.pass p v o.saw (λ q n. h.saw q);
  late = Chain.updated-all (λ q t. t.phase ≡ Late → w'.tail ≢ suc q) w.pass p v o.late (λ q n. tails q n);
  seen = Chain.updated-all (λ q t. decide_to_pick t.phase ≡ true → t.reg.seen ≡ w'.attr t.reg.cand) w.pass p v o.seen (λ q n e. h.seen q e ∙ ap (λ (f : ℕ → ℕ). f (w.pass q).reg.cand) (sym attrs));
})

-- An attempt in vain keeps how the passes stand.
use Rattle.std.proofs.Common.{◌≡◌, inl, inr, ℕ, ◌+◌, ◌<◌, ◌≤◌, ◌==◌, true, false, cond, List, length, set, sym, subst, ◌∙◌, arith, length-set}
use Rattle.std.proofs.lemmas.Bool.{cases_eq}
use Rattle.std.proofs.lemmas.List.{get_or-set_same, get_or-set_other}
use Rattle.shfl_line.specs.declared.events.Mode.{Mode}
use Rattle.shfl_line.specs.declared.events.Mode.TheVariants.{Write, Read}
use Rattle.shfl_core.specs.declared.phase.PassState.{PassState}
use Rattle.shfl_core.specs.declared.words.Word.TheVariants.{Lock}
use Rattle.shfl_core.specs.Plan.{is_idle}
use Rattle.shfl_core.specs.Worlds.{World, known}
use Rattle.sim_setup.specs.declared.setup.Core.{Core}
use Rattle.sim_setup.specs.declared.setup.Costs.{Costs}
use Rattle.sim_setup.specs.declared.setup.Setup.{Setup}
use Rattle.sim_setup.specs.Clock.{plus, later}
use Rattle.sim_setup.specs.Places.{core_at, line_at, line_of}
use Rattle.sim_model.specs.declared.bench.Bench.{Bench}
use Rattle.sim_model.specs.declared.tries.Tried.{Tried}
use Rattle.sim_model.specs.declared.turns.Stand.{Stand}
use Rattle.sim_model.specs.declared.turns.Stand.TheVariants.{Due, Spins, Sleeps}
use Rattle.sim_model.specs.declared.turns.Turn.TheVariants.{Call, Step}
use Rattle.sim_model.specs.Tries.{mode_wanted, operated, all_operated, tried_at, pause_after, with_attempt}
use Rattle.sim_model.specs.Turns.{stand_at, woken, all_woken}
use Rattle.sim_model.proofs.Kept.{Stands, plus-after, all-woken-stands}
use Rattle.sim_model.proofs.Mapped.{mapped-either, mapped-long}
use Rattle.sim_model.proofs.Settled.{Kept, touch-after}
use Rattle.sim_model.proofs.Still.{QuietAt}

module _ (t : ℕ) (top : t ≤ 18446744073709551615) (costs : Costs) (core : Core) where
  operated-after : (x : Tried) → t ≤ x.ends → t ≤ (operated costs core x).ends
  unfolding operated
  operated-after x le = touch-after costs core false t x.ends x.line le top

  all-operated-after : (m : Mode) (x : Tried) → t ≤ x.ends → t ≤ (all_operated costs core m x).ends
  all-operated-after Write x le = operated-after x le
  all-operated-after Read x le = operated-after (operated costs core x) (operated-after x le)

-- an attempt ends no sooner than it begins
tried-after : (s : Setup) (b : Bench) (p at : ℕ) → at ≤ 18446744073709551615 → at ≤ (tried_at s b p at).ends
unfolding tried_at
tried-after s b p at top = all-operated-after at top s.costs (core_at s.cores p) (mode_wanted s b p)
    (record { line = line_at b.lines (line_of s.layout Lock); reaches = b.counts.tried; ends = at }) (omega arith)

-- how the pass stands that pauses
abbrev paused : Setup → Bench → ℕ → ℕ → ℕ → Stand
paused s b p tried at = Due (plus (plus (tried_at s b p at).ends s.costs.local) (pause_after s.tries tried)) (Call (tried + 1))

-- how all stand once those that spin on the line look again
abbrev standing : Setup → Bench → ℕ → ℕ → List Stand
standing s b p at = all_woken s.passes (line_of s.layout Lock) (tried_at s b p at).ends b.stands

pub attempt-kept : (s : Setup) (w : World) (b : Bench) (p tried at : ℕ) → at ≤ 18446744073709551615 → p < s.passes → Kept s at w b
    → is_idle (known w.passes p).phase ≡ true → Kept s at w (with_attempt s b p tried at)
unfolding with_attempt
attempt-kept s w b p tried at top lt k fit =
    let line = line_of s.layout Lock in
    let ends = (tried_at s b p at).ends in
    let up = paused s b p tried at in
    let others = standing s b p at in
    let le : at ≤ ends = tried-after s b p at top in
    let long : length others ≡ length b.stands = mapped-long (woken line ends) b.stands s.passes in
    let inside : p < length others = let f = k.seats in let g = k.few in omega arith in
    let own : Stands at (known w.passes p) up = record {
      fit = fit;
      time = plus-after at (plus ends s.costs.local) (pause_after s.tries tried) (plus-after at ends s.costs.local le top) top;
    } in
    record {
      passes = k.passes;
      few = k.few;
      seats = length-set others p up ∙ long ∙ k.seats;
      stands = λ q below. elim (cases_eq q p) as (λ _. Stands at (known w.passes q) (stand_at (set others p up) q)) [
        | inl same ↦ subst (λ (x : ℕ). Stands at (known w.passes x) (stand_at (set others p up) x)) (sym same)
            (subst (Stands at (known w.passes p)) (sym (get_or-set_same others p up (Sleeps 0) inside)) own)
        | inr apart ↦ subst (Stands at (known w.passes q)) (sym (get_or-set_other others p q up (Sleeps 0) apart))
            (all-woken-stands at s.passes line ends q (known w.passes q) b.stands le (k.stands q below))
      ];
    }

-- a pass that looks again has its turn
woken-quiet : (s : Setup) (words : List ℕ) (k line ends : ℕ) (q : PassState) (x : Stand) → QuietAt s words k q x → QuietAt s words k q (woken line ends x)
woken-quiet s words k line ends q (Due at turn) h = tt
woken-quiet s words k line ends q (Sleeps from) h = h
woken-quiet s words k line ends q (Spins own since) h =
    elim (own == line) as (λ b. QuietAt s words k q (cond b (Due (later ends since) Step) (Spins own since))) [
      | true ↦ tt
      | false ↦ h
    ]

pub attempt-quiet : (s : Setup) (w : World) (b : Bench) (p tried at k : ℕ) → p < length b.stands
    → QuietAt s w.words k (known w.passes k) (stand_at b.stands k) → QuietAt s w.words k (known w.passes k) (stand_at (with_attempt s b p tried at).stands k)
unfolding with_attempt
attempt-quiet s w b p tried at k inside h =
    let line = line_of s.layout Lock in
    let ends = (tried_at s b p at).ends in
    let up = paused s b p tried at in
    let others = standing s b p at in
    let long : length others ≡ length b.stands = mapped-long (woken line ends) b.stands s.passes in
    let here : p < length others = omega arith in
    elim (cases_eq k p) as (λ _. QuietAt s w.words k (known w.passes k) (stand_at (set others p up) k)) [
      | inl same ↦ subst (λ (x : ℕ). QuietAt s w.words x (known w.passes x) (stand_at (set others p up) x)) (sym same)
          (subst (QuietAt s w.words p (known w.passes p)) (sym (get_or-set_same others p up (Sleeps 0) here)) tt)
      | inr differ ↦ subst (QuietAt s w.words k (known w.passes k)) (sym (get_or-set_other others p k up (Sleeps 0) differ))
          (mapped-either (QuietAt s w.words k (known w.passes k)) (woken line ends) b.stands s.passes k (Sleeps 0) h
          (woken-quiet s w.words k line ends (known w.passes k) (stand_at b.stands k) h))
    ]

-- What a run that has ended is made of.
use Rattle.std.proofs.Common.{◌≡◌, ℕ, List, Bool, refl}
use Rattle.shfl_line.specs.declared.words.Attr.{Attr}
use Rattle.sim_setup.specs.declared.setup.Setup.{Setup}
use Rattle.sim_model.specs.declared.bench.Bench.{Bench}
use Rattle.sim_model.specs.Runs.{ran, opening_state}
use Rattle.sim_text.specs.declared.setup.Rule.{Rule}
use Rattle.sim_text.specs.Answering.{rule_advice}
use Rattle.sim_text.specs.Setups.{SetupModel}
use Rattle.sim_report.specs.Endings.{run_setup, end_of, cut_of, time_of, ended}
use Rattle.sim_report.specs.Tallies.{rising}

-- the run of a setup as defined, with its policy, its turns and its passes
pub run-is : (s : SetupModel) (seed : ℕ) (rule : Rule) (setup : Setup) (turns : ℕ) (attrs : List Attr)
    → setup ≡ run_setup s seed rule → turns ≡ s.load.turns → attrs ≡ s.passes
    → ran setup (rule_advice rule) turns (opening_state setup attrs) ≡ end_of s seed rule
unfolding end_of
run-is s seed rule setup turns attrs a b c = rw (a, b, c) refl

-- its parts, each as defined, are the run as defined
pub parts-are-ended : (s : SetupModel) (seed : ℕ) (rule : Rule) (bench : Bench) (waits : List ℕ) (cut : Bool) (time : ℕ)
    → bench ≡ (end_of s seed rule).bench → waits ≡ rising (end_of s seed rule).waits → cut ≡ cut_of s seed rule → time ≡ time_of s seed rule
    → record { bench = bench; waits = waits; cut = cut; time = time } ≡ ended s seed rule
unfolding ended
parts-are-ended s seed rule bench waits cut time b w c t = rw (b, w, c, t) refl

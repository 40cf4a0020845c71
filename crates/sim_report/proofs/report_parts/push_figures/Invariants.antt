use Rattle.std.proofs.Common.{◌≡◌, ◌∷◌, ◌++◌, drop}
use Rattle.std.specs.List.{flat_map}
use Rattle.sim_report.specs.Reports.{figure_text, figures_text}
use Rattle.sim_report.proofs.report_parts.push_figures.Given as goal

abbrev pub invariant-loop-figure : goal.invariant-loop-figure
invariant-loop-figure l =
    l.out.items ++ flat_map (λ f. 32 ∷ figure_text l.told f) (drop l.figure-index l.others) ≡ l.fn.out.items ++ figures_text l.told l.figures

-- The report of a setup: of one seed what each run comes to, of several how far that spreads.
use Rattle.std.specs.Prelude.{ℕ, List, ◌==◌, if◌then◌else◌}
use Rattle.sim_text.specs.Setups.{SetupModel}
use Rattle.sim_report.specs.Reports.{single_text}
use Rattle.sim_report.specs.Spreads.{spreads_text}

abbrev pub report_text : SetupModel → List ℕ
report_text s = if s.load.seeds.count == 1 then single_text s else spreads_text s

-- What the program says of bytes.
use Rattle.std.specs.Prelude.{◌≡◌, ◌<◌, ◌≤◌, ◌⊎◌, ℕ, ◌+◌, List, length, Some, None, Ok, Err}
use Rattle.doc_text.specs.declared.fault.Fault.{Fault}
use Rattle.sim_text.specs.Grammar.{ReadsSetup}
use Rattle.sim_chart.specs.Pictures.{picture_text}
use Rattle.sim_report.specs.Whole.{report_text}
use Rattle.sim_line.specs.ScheduleTexts.{schedule_text}
use Rattle.sim_text.specs.Setups.{CandidateModel, SetupModel, IsWithin}
use Rattle.sim_line.specs.Named.{named}
use Rattle.syncord_endings.specs.declared.ending.Refusal.{Refusal}
use Rattle.syncord_endings.specs.declared.ending.Refusal.TheVariants.{Line}
use Rattle.syncord_sim.specs.Commands.{Wanted, Report, Picture, Schedule}

-- the text is the report of the setup, its picture, or the run of the policy of this name as a schedule
abbrev pub Tells : Wanted → SetupModel → List ℕ → Type 0
Tells Report setup text = text ≡ report_text setup
Tells Picture setup text = text ≡ picture_text setup
Tells (Schedule name) setup text = (c : CandidateModel) × (named name setup.policies ≡ Some c) × (length setup.passes ≤ 64) × (text ≡ schedule_text setup c)

-- the bytes are a setup, and the text tells of it what is wanted
pub record Writes (wanted : Wanted) (bytes text : List ℕ) : Type 0 where
  pub setup : SetupModel
  pub read : ReadsSetup bytes (Ok setup)
  pub within : IsWithin setup
  pub told : Tells wanted setup text

-- the bytes are no setup; the refusal tells the first bad line, and the lowest fault on it
pub record IsNoSetup (bytes : List ℕ) (refusal : Refusal) : Type 0 where
  pub fault : Fault
  pub read : ReadsSetup bytes (Err fault)
  pub told : refusal ≡ Line fault.line fault.what

-- the bytes are a setup that has no policy of this name: fault 16 of the line behind its policies
pub record HasNoPolicy (name bytes : List ℕ) (refusal : Refusal) : Type 0 where
  pub setup : SetupModel
  pub read : ReadsSetup bytes (Ok setup)
  pub missing : named name setup.policies ≡ None
  pub told : refusal ≡ Line (10 + length setup.policies) 16

-- the bytes are a setup that has one, and more passes than a schedule: fault 17 of the line of the 65th
pub record HasTooManyPasses (name bytes : List ℕ) (refusal : Refusal) : Type 0 where
  pub setup : SetupModel
  pub read : ReadsSetup bytes (Ok setup)
  pub policy : CandidateModel
  pub found : named name setup.policies ≡ Some policy
  pub many : 64 < length setup.passes
  pub told : refusal ≡ Line (74 + length setup.policies) 17

abbrev pub Refuses : Wanted → List ℕ → Refusal → Type 0
Refuses Report bytes refusal = IsNoSetup bytes refusal
Refuses Picture bytes refusal = IsNoSetup bytes refusal
Refuses (Schedule name) bytes refusal = IsNoSetup bytes refusal ⊎ (HasNoPolicy name bytes refusal ⊎ HasTooManyPasses name bytes refusal)

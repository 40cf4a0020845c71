-- The grammar of setups: the setup that bytes are, or the first bad line and the lowest fault on it.
use Rattle.std.specs.Prelude.{◌≡◌, ℕ, ◌+◌, List, [], ◌∷◌, ◌++◌, length, Option, Some, None, Result, Ok, Err, nat_le, ◌==◌, if◌then◌else◌, codes, MatchOption}
use Rattle.bpf_isa.specs.declared.insn.Profile.{Profile}
use Rattle.policy_source.specs.Source.{SourceModel}
use Rattle.shfl_line.specs.declared.words.Attr.{Attr}
use Rattle.shfl_policy.specs.Loading.{IsLoaded}
use Rattle.shfl_policy.specs.Policies.{PolicyModel}
use Rattle.doc_text.specs.declared.fault.Fault.{Fault}
use Rattle.doc_text.specs.Text.{pieces, text_in}
use Rattle.doc_text.specs.Words.{words}
use Rattle.doc_text.specs.Faults.{fault, ◌>>=◌, or_fault, one_of, fixed_due, Then}
use Rattle.lock_words.specs.Lines.{form_in, limit_in}
use Rattle.policy_text.specs.declared.rules.RuleSource.{RuleSource}
use Rattle.policy_text.specs.declared.rules.RuleSource.TheVariants as said
use Rattle.policy_text.specs.Headings.{profile_in}
use Rattle.policy_text.specs.Sections.{SectionModel, begins, attrs_in}
use Rattle.sim_setup.specs.declared.built_in.BuiltIn.TheVariants as simple
use Rattle.sim_text.specs.declared.faults.TheConstants.{TITLE, PROFILE, FORM, LIMIT, LAYOUT, COSTS, WORK, UNTIL, SEEDS, POLICY, POLICIES, PROGRAM, PASS, OVER}
use Rattle.sim_text.specs.declared.setup.Machine.{Machine}
use Rattle.sim_text.specs.declared.setup.Load.{Load}
use Rattle.sim_text.specs.declared.setup.Rule.{Rule}
use Rattle.sim_text.specs.declared.setup.Rule.TheVariants as rules
use Rattle.sim_text.specs.Lines.{layout_in, costs_in, until_in, seeds_in, PolicyLine, policy_in}
use Rattle.sim_text.specs.Setups.{CandidateModel, SetupModel}
use Rattle.sim_text.specs.Works.{work_in}

-- ---- the lines up to the policies

-- The title, the profile, the form, the limit, the layout and the costs: faults 2 to 7 in this order.
unfoldable pub machine_in : List (List ℕ) → Result (Machine × List (List ℕ)) Fault
machine_in ps = fixed_due 1 TITLE (codes "syncord-sim 1") ps >>= λ ps. one_of 2 PROFILE profile_in ps >>= λ profile. one_of 3 FORM form_in profile.1 >>= λ form.
    one_of 4 LIMIT limit_in form.1 >>= λ limit. one_of 5 LAYOUT layout_in limit.1 >>= λ layout. one_of 6 COSTS costs_in layout.1 >>= λ costs.
    Ok (record { profile = profile.0; form = form.0; limit = limit.0; layout = layout.0; costs = costs.0 }, costs.1)

-- The work, the end and the seeds: faults 8 to 10.
unfoldable pub load_in : List (List ℕ) → Result (Load × List (List ℕ)) Fault
load_in ps = one_of 7 WORK work_in ps >>= λ work. one_of 8 UNTIL until_in work.1 >>= λ until. one_of 9 SEEDS seeds_in until.1 >>= λ seeds.
    Ok (record { work = work.0.0; queueing = work.0.1; until = until.0.0; turns = until.0.1; seeds = seeds.0 }, seeds.1)

-- ---- the policies

-- A line that begins with `pass` ends the policies, of which there is one at least. Any other is a policy line: bad words or
-- digits are fault 11, and one more than 16 is fault 12.
unfoldable pub policy_says : List CandidateModel → ℕ → List ℕ → Result (Option PolicyLine) Fault
policy_says before line text =
    if begins (codes "pass") (words text) then (if length before == 0 then fault line POLICY else Ok None)
    else or_fault line POLICY (policy_in (words text)) >>= λ p. if nat_le 16 (length before) then fault line POLICIES else Ok (Some p)

-- The policy of the name 0 whose programs these bytes are; where they aren't both accepted, fault 13.
-- It is a relation, since acceptance speaks of all paths through a program.
abbrev pub LoadsPolicy : Profile → ℕ → SourceModel → Result Rule Fault → Type 0
LoadsPolicy profile line source (Ok rule) = (policy : PolicyModel) × IsLoaded 0 profile source policy × (rule ≡ rules.Program policy)
LoadsPolicy profile line source (Err e) = ((policy : PolicyModel) → ¬ (IsLoaded 0 profile source policy)) × (e ≡ record { line = line; what = PROGRAM })

-- the rule that a policy line says
unfoldable pub ReadsRule : Profile → ℕ → RuleSource → Result Rule Fault → Type 0
ReadsRule profile line said.Never read = read ≡ Ok (rules.Simple simple.Never)
ReadsRule profile line said.Always read = read ≡ Ok (rules.Simple simple.Always)
ReadsRule profile line said.Socket read = read ≡ Ok (rules.Simple simple.Socket)
ReadsRule profile line (said.Program source) read = LoadsPolicy profile line source read

abbrev pub candidate : List ℕ → Rule → CandidateModel
candidate name rule = record { name = name; rule = rule }

-- The policies, and the pieces from the first pass on.
unfoldable pub ReadsPolicies : Profile → List CandidateModel → ℕ → List (List ℕ) → Result (List CandidateModel × List (List ℕ)) Fault → Type 0
ReadsPolicies profile before line [] read = read ≡ fault line POLICY
ReadsPolicies profile before line (p ∷ ps) read =
    Then (or_fault line 1 (text_in p) >>= policy_says before line)
    (λ o read. MatchOption o (read ≡ Ok (before, p ∷ ps)) (λ p. (rule : Result Rule Fault) × ReadsRule profile line p.rule rule
    × Then rule (λ rule read. ReadsPolicies profile (before ++ candidate p.name rule ∷ []) (line + 1) ps read) read))
    read

-- ---- the passes

-- Each line up to `end` is a pass line, or bad by fault 14; so is `end` without a pass before it, and a 1,025th pass.
abbrev pub pass_lines : SectionModel
pass_lines = record { word = codes "pass"; last = Some (codes "end"); most = 1024; bad = PASS; over = PASS; short = PASS }

unfoldable pub passes_in : ℕ → List (List ℕ) → Result (List Attr × List (List ℕ)) Fault
passes_in line ps = attrs_in pass_lines line ps

-- a line behind the last is fault 15
unfoldable pub over_in : ℕ → List (List ℕ) → Result (List (List ℕ)) Fault
over_in line [] = Ok []
over_in line (p ∷ ps) = or_fault line 1 (text_in p) >>= λ t. fault line OVER

-- the passes, the line `end`, and nothing behind it
unfoldable pub body_in : ℕ → List (List ℕ) → Result (List Attr) Fault
body_in line ps = passes_in line ps >>= λ p. fixed_due (line + length p.0) PASS (codes "end") p.1 >>= λ ps.
    over_in (line + length p.0 + 1) ps >>= λ over. Ok p.0

-- ---- the whole

-- the setup with the policies that were read
unfoldable pub setup_in : Machine → Load → Result (List CandidateModel × List (List ℕ)) Fault → Result SetupModel Fault
setup_in machine load policies = policies >>= λ p. body_in (10 + length p.0) p.1 >>= λ passes.
    Ok (record { machine = machine; load = load; policies = p.0; passes = passes })

-- what stands before the policies, and the pieces behind it
unfoldable pub front_in : List (List ℕ) → Result (Machine × Load × List (List ℕ)) Fault
front_in ps = machine_in ps >>= λ m. load_in m.1 >>= λ l. Ok (m.0, l.0, l.1)

-- what follows the lines up to the policies
abbrev pub ReadsBehind : Machine → Load → List (List ℕ) → Result SetupModel Fault → Type 0
ReadsBehind machine load ps read = (policies : Result (List CandidateModel × List (List ℕ)) Fault)
    × ReadsPolicies machine.profile [] 10 ps policies × (read ≡ setup_in machine load policies)

-- the setup, or the fault, that the bytes are
abbrev pub ReadsSetup : List ℕ → Result SetupModel Fault → Type 0
ReadsSetup bytes read = Then (front_in (pieces bytes)) (λ f read. ReadsBehind f.0 f.1 f.2 read) read

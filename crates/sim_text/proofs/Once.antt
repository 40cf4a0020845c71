-- Bytes have one reading.
use Rattle.std.proofs.Common.{◌≡◌, ℕ, ◌+◌, List, [], ◌∷◌, ◌++◌, Option, Some, None, Result, Ok, Err, sym, ap, subst, ◌∙◌}
use Rattle.std.specs.Prelude.{MatchOption}
use Rattle.bpf_isa.specs.declared.insn.Profile.{Profile}
use Rattle.doc_text.specs.declared.fault.Fault.{Fault}
use Rattle.doc_text.specs.Text.{pieces, text_in}
use Rattle.doc_text.specs.Faults.{◌>>=◌, or_fault, Then}
use Rattle.policy_source.specs.Source.{SourceModel}
use Rattle.policy_text.specs.declared.rules.RuleSource.{RuleSource}
use Rattle.policy_text.specs.declared.rules.RuleSource.TheVariants as said
use Rattle.shfl_policy.proofs.LoadedPolicies.{loaded-once}
use Rattle.sim_text.specs.declared.setup.Load.{Load}
use Rattle.sim_text.specs.declared.setup.Machine.{Machine}
use Rattle.sim_text.specs.declared.setup.Rule.{Rule}
use Rattle.sim_text.specs.declared.setup.Rule.TheVariants as rules
use Rattle.sim_text.specs.Grammar.{LoadsPolicy, ReadsRule, policy_says, candidate, ReadsPolicies, setup_in, front_in, ReadsBehind, ReadsSetup}
use Rattle.sim_text.specs.Lines.{PolicyLine}
use Rattle.sim_text.specs.Setups.{CandidateModel, SetupModel}

policy-once : (profile : Profile) (line : ℕ) (source : SourceModel) (a b : Result Rule Fault) → LoadsPolicy profile line source a → LoadsPolicy profile line source b → a ≡ b
policy-once profile line source (Ok a) (Ok b) h k =
    let same = loaded-once 0 profile source h.0 k.0 h.1 k.1 in
    ap (λ (r : Rule). Ok r) (h.2 ∙ ap rules.Program same ∙ sym k.2)
policy-once profile line source (Ok a) (Err e) h k = absurd (k.0 h.0 h.1)
policy-once profile line source (Err e) (Ok b) h k = absurd (h.0 k.0 k.1)
policy-once profile line source (Err e) (Err f) h k = ap (λ (x : Fault). Err x) (h.1 ∙ sym k.1)

-- a policy line says one rule, or has one fault
rule-once : (profile : Profile) (line : ℕ) (r : RuleSource) (a b : Result Rule Fault) → ReadsRule profile line r a → ReadsRule profile line r b → a ≡ b
unfolding ReadsRule
rule-once profile line said.Never a b h k = h ∙ sym k
rule-once profile line said.Always a b h k = h ∙ sym k
rule-once profile line said.Socket a b h k = h ∙ sym k
rule-once profile line (said.Program source) a b h k = policy-once profile line source a b h k

abbrev Policies : Type 0
Policies = Result (List CandidateModel × List (List ℕ)) Fault

-- what follows a policy line whose rule was read
abbrev OneMore : Profile → List CandidateModel → ℕ → List (List ℕ) → PolicyLine → Rule → Policies → Type 0
OneMore profile before line ps p rule read = ReadsPolicies profile (before ++ candidate p.name rule ∷ []) (line + 1) ps read

module _ (profile : Profile) (before : List CandidateModel) (line : ℕ) (p : List ℕ) (ps : List (List ℕ)) (a b : Policies)
    (again : (x : PolicyLine) (rule : Rule) → OneMore profile before line ps x rule a → OneMore profile before line ps x rule b → a ≡ b) where
  more-once : (x : PolicyLine) (r : Result Rule Fault) → Then r (OneMore profile before line ps x) a → Then r (OneMore profile before line ps x) b → a ≡ b
  more-once x (Ok rule) h k = again x rule h k
  more-once x (Err e) h k = h ∙ sym k

  abbrev Said : Option PolicyLine → Policies → Type 0
  Said o read = MatchOption o (read ≡ Ok (before, p ∷ ps)) (λ x. (rule : Result Rule Fault) × ReadsRule profile line x.rule rule × Then rule (OneMore profile before line ps x) read)

  said-once : (o : Option PolicyLine) → Said o a → Said o b → a ≡ b
  said-once None h k = h ∙ sym k
  said-once (Some x) h k =
      let same = rule-once profile line x.rule h.0 k.0 h.1 k.1 in
      more-once x k.0 (subst (λ (r : Result Rule Fault). Then r (OneMore profile before line ps x) a) same h.2) k.2

  line-once : (r : Result (Option PolicyLine) Fault) → Then r Said a → Then r Said b → a ≡ b
  line-once (Ok o) h k = said-once o h k
  line-once (Err e) h k = h ∙ sym k

policies-once : (profile : Profile) (before : List CandidateModel) (line : ℕ) (ps : List (List ℕ)) (a b : Policies)
    → ReadsPolicies profile before line ps a → ReadsPolicies profile before line ps b → a ≡ b
unfolding ReadsPolicies
policies-once profile before line [] a b h k = h ∙ sym k
policies-once profile before line (p ∷ ps) a b h k =
    line-once profile before line p ps a b (λ x rule m n. policies-once profile (before ++ candidate x.name rule ∷ []) (line + 1) ps a b m n)
    (or_fault line 1 (text_in p) >>= policy_says before line) h k

behind-once : (machine : Machine) (load : Load) (ps : List (List ℕ)) (a b : Result SetupModel Fault) → ReadsBehind machine load ps a → ReadsBehind machine load ps b → a ≡ b
behind-once machine load ps a b h k = h.2 ∙ ap (setup_in machine load) (policies-once machine.profile [] 10 ps h.0 k.0 h.1 k.1) ∙ sym k.2

pub reads-once : (bytes : List ℕ) (a b : Result SetupModel Fault) → ReadsSetup bytes a → ReadsSetup bytes b → a ≡ b
reads-once bytes a b h k = by (front_in (pieces bytes)) h k
  where
    by : (r : Result (Machine × Load × List (List ℕ)) Fault) → Then r (λ f read. ReadsBehind f.0 f.1 f.2 read) a → Then r (λ f read. ReadsBehind f.0 f.1 f.2 read) b → a ≡ b
    by (Ok f) h k = behind-once f.0 f.1 f.2 a b h k
    by (Err e) h k = h ∙ sym k

-- Reading policies one after the other, as a loop does.
use Rattle.std.proofs.Common.{◌≡◌, ℕ, ◌+◌, List, [], ◌∷◌, ◌++◌, Some, None, Result, Ok, Err, refl}
use Rattle.std.specs.Prelude.{MatchOption}
use Rattle.bpf_isa.specs.declared.insn.Profile.{Profile}
use Rattle.doc_text.specs.declared.fault.Fault.{Fault}
use Rattle.doc_text.specs.Text.{BeginsOddly, BeginsWith}
use Rattle.doc_text.proofs.Joining.{text_in-ended}
use Rattle.doc_text.specs.Faults.{fault}
use Rattle.policy_text.specs.declared.document_error.DocumentError.{DocumentError}
use Rattle.policy_text.specs.declared.document_error.DocumentError.TheVariants as errors
use Rattle.sim_text.specs.declared.setup.Rule.{Rule}
use Rattle.policy_text.specs.Errors.{fault_of}
use Rattle.sim_text.specs.declared.faults.TheConstants.{POLICY}
use Rattle.sim_text.specs.Lines.{PolicyLine}
use Rattle.sim_text.specs.Setups.{CandidateModel}
use Rattle.sim_text.specs.Grammar.{policy_says, candidate, ReadsRule, ReadsPolicies}

abbrev pub Policies : Type 0
Policies = Result (List CandidateModel × List (List ℕ)) Fault

-- no line stands there
pub reads-odd : (profile : Profile) (before : List CandidateModel) (line : ℕ) (ps : List (List ℕ)) → BeginsOddly ps → ReadsPolicies profile before line ps (fault line 1)
unfolding ReadsPolicies
reads-odd profile before line [] odd = absurd odd
reads-odd profile before line (p ∷ ps) odd = rw odd refl

module _ (profile : Profile) (before : List CandidateModel) (line : ℕ) (ps qs : List (List ℕ)) (t : List ℕ) (e : BeginsWith t qs ps) where
  pub reads-bad : (x : Fault) → policy_says before line t ≡ Err x → ReadsPolicies profile before line ps (Err x)
  unfolding ReadsPolicies
  reads-bad x g = rw (e.1, text_in-ended t e.0, g) refl

  pub reads-end : policy_says before line t ≡ Ok None → ReadsPolicies profile before line ps (Ok (before, ps))
  unfolding ReadsPolicies
  reads-end g = rw (e.1, text_in-ended t e.0, g) refl

  pub reads-refused : (policy : PolicyLine) (x : Fault) → policy_says before line t ≡ Ok (Some policy) → ReadsRule profile line policy.rule (Err x) → ReadsPolicies profile before line ps (Err x)
  unfolding ReadsPolicies
  reads-refused policy x g refused = rw (e.1, text_in-ended t e.0, g) (Err x, refused, refl)

  pub reads-more : (policy : PolicyLine) (rule : Rule) (read : Policies) → policy_says before line t ≡ Ok (Some policy) → ReadsRule profile line policy.rule (Ok rule)
      → ReadsPolicies profile (before ++ candidate policy.name rule ∷ []) (line + 1) qs read → ReadsPolicies profile before line ps read
  unfolding ReadsPolicies
  reads-more policy rule read g accepted more = rw (e.1, text_in-ended t e.0, g) (Ok rule, accepted, more)

-- an error of a policy line is one of the whole, unless it tells want of memory
pub reads-error : (profile : Profile) (before : List CandidateModel) (line : ℕ) (ps qs : List (List ℕ)) (t : List ℕ) (e : BeginsWith t qs ps) (error : DocumentError) (Whole : Policies → Type 0)
    → MatchOption (fault_of error) (Unit {0}) (λ f. policy_says before line t ≡ Err f) → ((read : Policies) → ReadsPolicies profile before line ps read → Whole read) → MatchOption (fault_of error) (Unit {0}) (λ f. Whole (Err f))
reads-error profile before line ps qs t e (errors.Format at what) Whole g through = through (fault at what) (reads-bad profile before line ps qs t e (record { line = at; what = what }) g)
reads-error profile before line ps qs t e errors.NoMemory Whole g through = tt

-- so is one of its programs
pub rule-error : (profile : Profile) (before : List CandidateModel) (line : ℕ) (ps qs : List (List ℕ)) (t : List ℕ) (e : BeginsWith t qs ps) (policy : PolicyLine) (error : DocumentError) (Whole : Policies → Type 0)
    → policy_says before line t ≡ Ok (Some policy) → MatchOption (fault_of error) (Unit {0}) (λ f. ReadsRule profile line policy.rule (Err f))
    → ((read : Policies) → ReadsPolicies profile before line ps read → Whole read) → MatchOption (fault_of error) (Unit {0}) (λ f. Whole (Err f))
rule-error profile before line ps qs t e policy (errors.Format at what) Whole g h through = through (fault at what) (reads-refused profile before line ps qs t e policy (record { line = at; what = what }) g h)
rule-error profile before line ps qs t e policy errors.NoMemory Whole g h through = tt

pub reads-none : (profile : Profile) (before : List CandidateModel) (line : ℕ) (ps : List (List ℕ)) → ps ≡ [] → ReadsPolicies profile before line ps (fault line POLICY)
unfolding ReadsPolicies
reads-none profile before line ps e = rw e refl

-- Reading policies one after the other, as a loop does.
use Rattle.std.proofs.Common.{◌≡◌, ℕ, ◌+◌, List, [], ◌∷◌, ◌++◌, Some, None, Result, Ok, Err, inl, inr, refl}
use Rattle.std.specs.Prelude.{MatchOption}
use Rattle.bpf_isa.specs.declared.insn.Profile.{Profile}
use Rattle.doc_text.specs.declared.fault.Fault.{Fault}
use Rattle.doc_text.specs.Text.{BeginsOddly, BeginsWith}
use Rattle.doc_text.proofs.Joining.{text_in-ended}
use Rattle.doc_text.specs.Faults.{fault}
use Rattle.trace_text.specs.declared.faults.TheConstants.{POLICY, PROGRAM}
use Rattle.trace_text.specs.Document.{PolicyLine}
use Rattle.policy_text.specs.Accepted.{AcceptsSource}
use Rattle.policy_text.specs.declared.document_error.DocumentError.{DocumentError}
use Rattle.policy_text.specs.declared.document_error.DocumentError.TheVariants as errors
use Rattle.policy_text.specs.Errors.{fault_of}
use Rattle.trace_text.specs.Grammar.{policy_says, ReadsPolicies}

abbrev pub Policies : Type 0
Policies = Result (List PolicyLine × List (List ℕ)) Fault

-- no line stands there
pub reads-odd : (profile : Profile) (before : List PolicyLine) (line : ℕ) (ps : List (List ℕ)) → BeginsOddly ps → ReadsPolicies profile before line ps (fault line 1)
unfolding ReadsPolicies
reads-odd profile before line [] odd = absurd odd
reads-odd profile before line (p ∷ ps) odd = rw odd refl

module _ (profile : Profile) (before : List PolicyLine) (line : ℕ) (ps qs : List (List ℕ)) (t : List ℕ) (e : BeginsWith t qs ps) where
  pub reads-bad : (x : Fault) → policy_says before line t ≡ Err x → ReadsPolicies profile before line ps (Err x)
  unfolding ReadsPolicies
  reads-bad x g = rw (e.1, text_in-ended t e.0, g) refl

  pub reads-end : policy_says before line t ≡ Ok None → ReadsPolicies profile before line ps (Ok (before, ps))
  unfolding ReadsPolicies
  reads-end g = rw (e.1, text_in-ended t e.0, g) refl

  pub reads-refused : (policy : PolicyLine) → policy_says before line t ≡ Ok (Some policy) → ¬ (AcceptsSource profile policy.source) → ReadsPolicies profile before line ps (fault line PROGRAM)
  unfolding ReadsPolicies
  reads-refused policy g refused = rw (e.1, text_in-ended t e.0, g) (inr (refused, refl))

  pub reads-more : (policy : PolicyLine) (read : Policies) → policy_says before line t ≡ Ok (Some policy) → AcceptsSource profile policy.source → ReadsPolicies profile (before ++ policy ∷ []) (line + 1) qs read → ReadsPolicies profile before line ps read
  unfolding ReadsPolicies
  reads-more policy read g accepted more = rw (e.1, text_in-ended t e.0, g) (inl (accepted, more))

-- an error of a policy line is one of the whole, unless it tells want of memory
pub reads-error : (profile : Profile) (before : List PolicyLine) (line : ℕ) (ps qs : List (List ℕ)) (t : List ℕ) (e : BeginsWith t qs ps) (error : DocumentError) (Whole : Policies → Type 0)
    → MatchOption (fault_of error) (Unit {0}) (λ f. policy_says before line t ≡ Err f) → ((read : Policies) → ReadsPolicies profile before line ps read → Whole read) → MatchOption (fault_of error) (Unit {0}) (λ f. Whole (Err f))
reads-error profile before line ps qs t e (errors.Format at what) Whole g through = through (fault at what) (reads-bad profile before line ps qs t e (record { line = at; what = what }) g)
reads-error profile before line ps qs t e errors.NoMemory Whole g through = tt

pub reads-none : (profile : Profile) (before : List PolicyLine) (line : ℕ) (ps : List (List ℕ)) → ps ≡ [] → ReadsPolicies profile before line ps (fault line POLICY)
unfolding ReadsPolicies
reads-none profile before line ps e = rw e refl

-- Bytes have one reading.
use Rattle.std.proofs.Common.{◌≡◌, inl, inr, ℕ, ◌+◌, List, [], ◌∷◌, ◌++◌, Option, Some, None, Result, Ok, Err, sym, ap, ◌∙◌}
use Rattle.std.specs.Prelude.{MatchOption}
use Rattle.bpf_isa.specs.declared.insn.Profile.{Profile}
use Rattle.doc_text.specs.declared.fault.Fault.{Fault}
use Rattle.doc_text.specs.Text.{pieces, text_in}
use Rattle.doc_text.specs.Faults.{fault, ◌>>=◌, or_fault, Then}
use Rattle.policy_text.specs.Accepted.{Judged}
use Rattle.trace_text.specs.declared.faults.TheConstants.{PROGRAM}
use Rattle.trace_text.specs.Document.{PolicyLine, Document}
use Rattle.trace_text.specs.Grammar.{Front, front_in, policies_line, document_in, policy_says, ReadsPolicies, ReadsTrace}

abbrev Policies : Type 0
Policies = Result (List PolicyLine × List (List ℕ)) Fault

-- what a line leads to that declares a policy, or ends them
abbrev Leads : Profile → List PolicyLine → ℕ → List ℕ → List (List ℕ) → Option PolicyLine → Policies → Type 0
Leads profile before line p ps o read = MatchOption o (read ≡ Ok (before, p ∷ ps)) (λ policy. Judged profile policy.source (ReadsPolicies profile (before ++ policy ∷ []) (line + 1) ps read) (read ≡ fault line PROGRAM))

-- what stands behind a policy is read in one way
abbrev Again : Profile → List PolicyLine → ℕ → List (List ℕ) → Policies → Policies → Type 0
Again profile before line ps a b = (policy : PolicyLine) → ReadsPolicies profile (before ++ policy ∷ []) (line + 1) ps a → ReadsPolicies profile (before ++ policy ∷ []) (line + 1) ps b → a ≡ b

-- policies are read in one way
policies-once : (profile : Profile) (before : List PolicyLine) (line : ℕ) (ps : List (List ℕ)) (a b : Policies) → ReadsPolicies profile before line ps a → ReadsPolicies profile before line ps b → a ≡ b
unfolding ReadsPolicies
policies-once profile before line [] a b h k = h ∙ sym k
policies-once profile before line (p ∷ ps) a b h k =
    by_line (λ policy. policies-once profile (before ++ policy ∷ []) (line + 1) ps a b) (or_fault line 1 (text_in p) >>= policy_says before line) h k
  where
    by_judged : Again profile before line ps a b → (policy : PolicyLine) → Leads profile before line p ps (Some policy) a → Leads profile before line p ps (Some policy) b → a ≡ b
    by_judged again policy (inl x) (inl y) = again policy x.1 y.1
    by_judged again policy (inl x) (inr y) = absurd (y.0 x.0)
    by_judged again policy (inr x) (inl y) = absurd (x.0 y.0)
    by_judged again policy (inr x) (inr y) = x.1 ∙ sym y.1

    by_policy : Again profile before line ps a b → (o : Option PolicyLine) → Leads profile before line p ps o a → Leads profile before line p ps o b → a ≡ b
    by_policy again None h k = h ∙ sym k
    by_policy again (Some policy) h k = by_judged again policy h k

    by_line : Again profile before line ps a b → (r : Result (Option PolicyLine) Fault) → Then r (Leads profile before line p ps) a → Then r (Leads profile before line p ps) b → a ≡ b
    by_line again (Ok o) h k = by_policy again o h k
    by_line again (Err e) h k = h ∙ sym k

-- what follows the front of a trace
abbrev Behind : Front → Result Document Fault → Type 0
Behind f read = (policies : Policies) × ReadsPolicies f.profile [] (policies_line f) f.rest policies × (read ≡ document_in f policies)

pub reads-once : (bytes : List ℕ) (a b : Result Document Fault) → ReadsTrace bytes a → ReadsTrace bytes b → a ≡ b
reads-once bytes a b h k = by_front (front_in (pieces bytes)) h k
  where
    by_front : (r : Result Front Fault) → Then r Behind a → Then r Behind b → a ≡ b
    by_front (Ok f) h k = h.2 ∙ ap (document_in f) (policies-once f.profile [] (policies_line f) f.rest h.0 k.0 h.1 k.1) ∙ sym k.2
    by_front (Err e) h k = h ∙ sym k

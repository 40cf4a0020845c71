-- What the document of a trace says of its run.
use Rattle.std.proofs.Common.{◌≡◌, ℕ, ◌+◌, ◌≤◌, cond, List, [], ◌∷◌, map, length, sym, refl, ◌∙◌, arith, length-append}
use Rattle.std.specs.List.{AllByRecursion}
use Rattle.std.proofs.lemmas.List.Sums.{sum_by-cons}
use Rattle.bpf_isa.specs.declared.insn.Profile.{Profile}
use Rattle.dir_table.specs.declared.calls.DirCall.TheVariants as call
use Rattle.policy_text.specs.Accepted.{AcceptsSource}
use Rattle.trace_text.specs.declared.trace.TraceAct.{TraceAct}
use Rattle.trace_text.specs.declared.trace.TraceAct.TheVariants as does
use Rattle.trace_text.specs.declared.trace.TraceCall.{TraceCall}
use Rattle.trace_text.specs.declared.trace.NamedSource.{NamedSource}
use Rattle.trace_text.specs.declared.trace.Trace.{Trace}
use Rattle.trace_text.specs.Attachments.{attached_by, attached_in}
use Rattle.trace_text.specs.Document.{CallLine, PolicyLine}
use Rattle.trace_text.specs.Limits.{Fits, IsPolicy}
use Rattle.trace_text.specs.Lines.{is_attach, attach_count}
use Rattle.trace_text.specs.Traces.{act_of, call_of, policy_of, names_of, policy_names_of, document_of}

module _ (names policies : List (List ℕ)) where
  attaches_as : (act : TraceAct) → length (attached_by act) ≡ cond (is_attach (act_of names policies act)) 1 0
  attaches_as (does.Attach policy) = refl
  attaches_as (does.Dir (call.Make dir name)) = refl
  attaches_as (does.Dir (call.Drop dir name)) = refl
  attaches_as (does.Dir (call.Rename dir name to_dir to_name)) = refl
  attaches_as (does.Dir (call.Find dir name)) = refl
  attaches_as (does.Dir (call.Count dir)) = refl
  attaches_as (does.Dir (call.Next dir after)) = refl

  -- a trace attaches as often as its document
  attaches_counted : (calls : List TraceCall) → length (attached_in calls) ≡ attach_count (map (call_of names policies) calls)
  attaches_counted [] = refl
  attaches_counted (c ∷ cs) =
      length-append (attached_by c.act) (attached_in cs) ∙ (λ j. attaches_as c.act j + attaches_counted cs j)
      ∙ sym (sum_by-cons (λ (d : CallLine). cond (is_attach d.act) 1 0) (call_of names policies c) (map (call_of names policies) cs))

pub few_attaches : (t : Trace) → attach_count (document_of t).calls ≤ 4096 → length (attached_in t.calls.items) ≤ 4096
few_attaches t few = let e = attaches_counted (names_of t) (policy_names_of t) t.calls.items in omega (arith, e, few)

-- what a document says of its programs, the trace says
pub all_accepted : (profile : Profile) (ps : List NamedSource) → AllByRecursion (λ p. AcceptsSource profile p.source) (map policy_of ps)
    → AllByRecursion (λ p. AcceptsSource profile p.source) ps
all_accepted profile [] all = tt
all_accepted profile (p ∷ ps) all = (all.0, all_accepted profile ps all.1)

policies_accepted : (profile : Profile) (ps : List PolicyLine) → AllByRecursion (IsPolicy profile) ps → AllByRecursion (λ p. AcceptsSource profile p.source) ps
policies_accepted profile [] all = tt
policies_accepted profile (p ∷ ps) all = (all.0.accepted, policies_accepted profile ps all.1)

-- the programs of a trace that fits are accepted
pub fits_accepted : (t : Trace) → Fits (document_of t) → AllByRecursion (λ p. AcceptsSource t.profile p.source) t.policies.items
fits_accepted t fits = all_accepted t.profile t.policies.items (policies_accepted t.profile (document_of t).policies fits.policies.2)

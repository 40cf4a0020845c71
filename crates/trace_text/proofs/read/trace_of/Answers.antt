use Rattle.std.proofs.Common.{◌≡◌, ℕ, ◌+◌, List, [], length, map, Option, Some, None, Ok, Err, refl, arith}
use Rattle.std.specs.Prelude.{MatchOption}
use Rattle.std.proofs.lemmas.List.{length-map}
use Rattle.std.proofs.lemmas.Result.{err_from_is_err_and}
use Rattle.shfl_line.specs.declared.words.Attr.{Attr}
use Rattle.bpf_isa.specs.declared.insn.Profile.{Profile}
use Rattle.doc_text.specs.declared.fault.Fault.{Fault}
use Rattle.doc_text.specs.Text.{pieces}
use Rattle.policy_text.specs.Headings.{heading}
use Rattle.trace_text.specs.Document.{CallLine, PolicyLine}
use Rattle.trace_text.specs.Grammar.{Front, trace_heading, front_in, document_in, workers_in, policies_line, calls_in, ReadsPolicies, ReadsTrace}
use Rattle.trace_text.specs.Traces.{policy_of}
use Rattle.trace_text.proofs.read.trace_of.Goals as goal

-- where the one relation allows a fault, the other does
faults_so : (o : Option Fault) (P Q : Fault → Type 0) → ((f : Fault) → P f → Q f) → MatchOption o (Unit {0}) P → MatchOption o (Unit {0}) Q
faults_so None P Q h m = tt
faults_so (Some f) P Q h m = h f m

front_read : (ps rest after : List (List ℕ)) (version line : ℕ) (profile : Profile) (workers : List Attr) → trace_heading ps ≡ Ok (heading version profile rest) → line ≡ version
    → workers_in (line + 1) rest ≡ Ok (workers, after) → front_in ps ≡ Ok (record { version = version; profile = profile; workers = workers; rest = after })
unfolding front_in
front_read ps rest after version line profile workers first same second = let there = rw same at second in rw (first, there) refl

module _ (bytes : List ℕ) (f : Front) (front : front_in (pieces bytes) ≡ Ok f) where
  bad_policies : (e : Fault) → ReadsPolicies f.profile [] (policies_line f) f.rest (Err e) → ReadsTrace bytes (Err e)
  unfolding document_in
  bad_policies e reads = rw front (Err e, reads, refl)

  module _ (policies : List PolicyLine) (rest : List (List ℕ)) (reads : ReadsPolicies f.profile [] (policies_line f) f.rest (Ok (policies, rest))) where
    bad_calls : (e : Fault) → calls_in (length f.workers) policies (policies_line f + length policies) rest ≡ Err e → ReadsTrace bytes (Err e)
    unfolding document_in
    bad_calls e calls = rw front (Ok (policies, rest), reads, rw calls refl)

    whole : (calls : List CallLine) → calls_in (length f.workers) policies (policies_line f + length policies) rest ≡ Ok calls
        → ReadsTrace bytes (Ok (record { version = f.version; profile = f.profile; workers = f.workers; policies = policies; calls = calls }))
    unfolding document_in
    whole calls is = rw front (Ok (policies, rest), reads, rw is refl)

pub returns-in_err-policies-clause-exact : goal.returns-in_err-policies-clause-exact
returns-in_err-policies-clause-exact c =
    let p = err_from_is_err_and c.from_residual-in_err-policies.result c.from_residual-in_err-policies.ensures.1 in
    let v = c.in_ok-version.version in
    let workers = c.in_ok-workers.workers.items in
    let f : Front = record { version = v; profile = c.in_ok-version.profile; workers = workers; rest = pieces c.in_ok-workers.rest.now } in
    let front : front_in (pieces c.args.bytes.now) ≡ Ok f = front_read _ _ _ v c.from-line.result _ workers c.in_ok-version.ensures.exact c.from-line.ensures c.in_ok-workers.ensures.exact in
    let line : c.from-line.result + 1 + c.len.result ≡ v + 1 + length workers = omega arith in
    rw (p.1, p.2) (faults_so _ _ _ (bad_policies c.args.bytes.now f front) (rw line at c.in_err-policies.ensures.exact))

pub returns-in_err-numbered-clause-exact : goal.returns-in_err-numbered-clause-exact
returns-in_err-numbered-clause-exact c =
    let p = err_from_is_err_and c.from_residual-in_err-numbered.result c.from_residual-in_err-numbered.ensures.1 in
    let v = c.in_ok-version.version in
    let workers = c.in_ok-workers.workers.items in
    let policies : List PolicyLine = map policy_of c.in_ok-policies.policies.items in
    let f : Front = record { version = v; profile = c.in_ok-version.profile; workers = workers; rest = pieces c.in_ok-workers.rest.now } in
    let front : front_in (pieces c.args.bytes.now) ≡ Ok f = front_read _ _ _ v c.from-line.result _ workers c.in_ok-version.ensures.exact c.from-line.ensures c.in_ok-workers.ensures.exact in
    let line : c.from-line.result + 1 + c.len.result ≡ v + 1 + length workers = omega arith in
    let many : c.len-3.result ≡ length workers = omega arith in
    let few : c.from-line.result + 1 + c.len.result + c.len-2.result ≡ v + 1 + length workers + length policies = omega (arith, length-map c.in_ok-policies.policies.items policy_of) in
    let calls = rw (c.as_slice.ensures.value, few, many) at c.in_err-numbered.ensures.exact in
    rw (p.1, p.2) (faults_so _ _ _ (bad_calls c.args.bytes.now f front policies (pieces c.in_ok-policies.rest.now) (rw line at c.in_ok-policies.ensures.exact)) calls)

pub returns-clause-exact : goal.returns-clause-exact
returns-clause-exact c =
    let v = c.in_ok-version.version in
    let workers = c.in_ok-workers.workers.items in
    let policies : List PolicyLine = map policy_of c.in_ok-policies.policies.items in
    let f : Front = record { version = v; profile = c.in_ok-version.profile; workers = workers; rest = pieces c.in_ok-workers.rest.now } in
    let front : front_in (pieces c.args.bytes.now) ≡ Ok f = front_read _ _ _ v c.from-line.result _ workers c.in_ok-version.ensures.exact c.from-line.ensures c.in_ok-workers.ensures.exact in
    let line : c.from-line.result + 1 + c.len.result ≡ v + 1 + length workers = omega arith in
    let many : c.len-3.result ≡ length workers = omega arith in
    let few : c.from-line.result + 1 + c.len.result + c.len-2.result ≡ v + 1 + length workers + length policies = omega (arith, length-map c.in_ok-policies.policies.items policy_of) in
    whole c.args.bytes.now f front policies (pieces c.in_ok-policies.rest.now) (rw line at c.in_ok-policies.ensures.exact) _ (rw (c.as_slice.ensures.value, few, many) at c.in_ok-numbered.ensures.exact)

pub returns-clause-named : goal.returns-clause-named
returns-clause-named c = rw c.as_slice.ensures.value at c.in_ok-numbered.ensures.numbered.same

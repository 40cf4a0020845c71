-- Bytes that are a text of a trace within the limits are read as it.
use Rattle.std.proofs.Common.{◌≡◌, ◌<◌, ◌≤◌, ℕ, ◌+◌, List, [], ◌∷◌, ◌++◌, length, map, false, not, None, Result, Ok, Err, IfOk, refl, sym, ap, ◌∙◌, subst, arith, append_assoc, length-append}
use Rattle.std.specs.Prelude.{codes}
use Rattle.std.specs.List.{flat_map, AllByRecursion, AllZip}
use Rattle.std.proofs.lemmas.Grind.{flat_map-append}
use Rattle.bpf_isa.specs.declared.insn.Profile.{Profile}
use Rattle.shfl_line.specs.declared.words.Attr.{Attr}
use Rattle.doc_text.specs.declared.fault.Fault.{Fault}
use Rattle.doc_text.specs.Text.{pieces, ended, IsPlain}
use Rattle.doc_text.specs.Words.{words}
use Rattle.doc_text.specs.Faults.{GivesOrWants, Then}
use Rattle.doc_text.proofs.Joining.{pieces-ended}
use Rattle.policy_text.specs.declared.error.NoMemory.{NoMemory}
use Rattle.policy_text.specs.Attributes.{IsAttr}
use Rattle.policy_text.specs.Sections.{begins, ends}
use Rattle.policy_text.specs.Headings.{heading, heading_lines, IsVersion}
use Rattle.policy_text.proofs.AttrLines.{attr-words}
use Rattle.policy_text.proofs.AttrSections.{attrs_in-only}
use Rattle.policy_text.proofs.HeadingLines.{heading_in-lines}
use Rattle.policy_text.proofs.ProgramWords.{program_word-is}
use Rattle.policy_text.specs.Programs.{program_word}
use Rattle.policy_text.specs.declared.document_error.DocumentError.{DocumentError}
use Rattle.policy_text.specs.declared.document_error.DocumentError.TheVariants as errors
use Rattle.trace_text.specs.declared.faults.TheConstants.{PROFILE}
use Rattle.trace_text.specs.declared.trace.Trace.{Trace}
use Rattle.trace_text.specs.Document.{PolicyLine, CallLine, Document}
use Rattle.policy_text.specs.Errors.{fault_of, Allows}
use Rattle.trace_text.specs.Grammar.{Front, trace_heading, worker_lines, workers_in, front_in, policies_line, document_in, calls_in, ReadsPolicies, ReadsTrace}
use Rattle.trace_text.specs.Spelling.{worker_line, policy_line, call_line, lines_with, spelling}
use Rattle.trace_text.specs.Texts.{IsPolicyText, IsText}
use Rattle.trace_text.specs.Limits.{IsPolicy, AreNamedApart, Fits}
use Rattle.trace_text.specs.Lines.{is_declared}
use Rattle.trace_text.specs.Traces.{document_of}
use Rattle.policy_text.proofs.LinesRead.{all-at}
use Rattle.trace_text.proofs.PolicyNames.{apart-at}
use Rattle.trace_text.proofs.PolicyTexts.{policy_text-plain, policy_text-begins, policies-only, policies-read_so}
use Rattle.trace_text.proofs.CallTexts.{calls_in-only}
use Rattle.trace_text.proofs.Found.{found}

abbrev Policies : Type 0
Policies = Result (List PolicyLine × List (List ℕ)) Fault

-- workers and the pieces behind them
abbrev read_workers : List Attr → List (List ℕ) → Result (List Attr × List (List ℕ)) Fault
read_workers ws qs = Ok (ws, qs)

-- a worker line is no end of the workers, and any that begins otherwise is
goes_on : (a : Attr) → IsAttr a → ends (codes "worker") None (worker_line a) ≡ false
goes_on a h = ap (λ (ws : List (List ℕ)). not (begins (codes "worker") ws)) (attr-words (codes "worker") a (refl, refl) h)

workers_in-only : (line : ℕ) (ws : List Attr) (last rest : List ℕ) → 0 < length ws → length ws ≤ 16 → AllByRecursion IsAttr ws → IsPlain last → begins (codes "worker") (words last) ≡ false
    → workers_in line (pieces (flat_map ended (map worker_line ws) ++ (ended last ++ rest))) ≡ Ok (ws, ended last ∷ pieces rest)
unfolding workers_in
workers_in-only line ws last rest some few all plain other = attrs_in-only worker_lines (refl, refl) goes_on line ws last rest some few all plain (ap not other)

-- the workers end where the first policy stands
workers-ended : (line : ℕ) (ws : List Attr) (profile : Profile) (policies : List PolicyLine) (texts : List (List ℕ)) (rest : List ℕ) → 0 < length ws → length ws ≤ 16 → AllByRecursion IsAttr ws
    → AllZip IsPolicyText policies texts → 0 < length policies → AllByRecursion (IsPolicy profile) policies
    → workers_in line (pieces (flat_map ended (map worker_line ws) ++ (flat_map ended texts ++ rest))) ≡ read_workers ws (pieces (flat_map ended texts ++ rest))
workers-ended line ws profile [] texts rest some few all zip there good = absurd (omega (arith, there))
workers-ended line ws profile (p ∷ ps) [] rest some few all zip there good = absurd zip
workers-ended line ws profile (p ∷ ps) (t ∷ ts) rest some few all zip there good =
    let behind = flat_map ended ts ++ rest in
    let plain = policy_text-plain profile p t good.0 zip.0 in
    let split : flat_map ended (t ∷ ts) ++ rest ≡ ended t ++ behind = append_assoc (ended t) (flat_map ended ts) rest in
    ap (λ (l : List ℕ). workers_in line (pieces (flat_map ended (map worker_line ws) ++ l))) split ∙ workers_in-only line ws t behind some few all plain (policy_text-begins profile p t good.0 zip.0)
    ∙ ap (read_workers ws) (sym (ap pieces split ∙ pieces-ended t behind plain))

trace_heading-lines : (version : ℕ) (profile : Profile) (rest : List ℕ) → IsVersion version profile → trace_heading (pieces (flat_map ended (heading_lines (codes "syncord-trace") version profile) ++ rest)) ≡ Ok (heading version profile (pieces rest))
unfolding trace_heading
trace_heading-lines version profile rest h = heading_in-lines (codes "syncord-trace") PROFILE version profile rest (refl, refl) h

front_in-parts : (ps : List (List ℕ)) (version : ℕ) (profile : Profile) (rest : List (List ℕ)) (ws : List Attr) (behind : List (List ℕ)) → trace_heading ps ≡ Ok (heading version profile rest) → workers_in (version + 1) rest ≡ read_workers ws behind
    → front_in ps ≡ Ok (record { version = version; profile = profile; workers = ws; rest = behind })
unfolding front_in
front_in-parts ps version profile rest ws behind e f = rw (e, f) refl

document_in-parts : (f : Front) (r : Policies) (policies : List PolicyLine) (rest : List (List ℕ)) (calls : List CallLine) → r ≡ Ok (policies, rest) → calls_in (length f.workers) policies (policies_line f + length policies) rest ≡ Ok calls
    → document_in f r ≡ Ok (record { version = f.version; profile = f.profile; workers = f.workers; policies = policies; calls = calls })
unfolding document_in
document_in-parts f r policies rest calls e g = rw (e, g) refl

-- the bytes of lines in four parts
bytes_of : (a b c d : List (List ℕ)) → flat_map ended (((a ++ b) ++ c) ++ d) ≡ flat_map ended a ++ (flat_map ended b ++ (flat_map ended c ++ flat_map ended d))
bytes_of a b c d =
    flat_map-append ended ((a ++ b) ++ c) d
    ∙ ap (λ (l : List ℕ). l ++ flat_map ended d) (flat_map-append ended (a ++ b) c ∙ ap (λ (l : List ℕ). l ++ flat_map ended c) (flat_map-append ended a b))
    ∙ append_assoc (flat_map ended a ++ flat_map ended b) (flat_map ended c) (flat_map ended d) ∙ append_assoc (flat_map ended a) (flat_map ended b) (flat_map ended c ++ flat_map ended d)

module _ (d : Document) (fits : Fits d) (texts : List (List ℕ)) (zip : AllZip IsPolicyText d.policies texts) where
  -- the calls, and what stands from the policies on
  abbrev call_bytes : List ℕ
  call_bytes = flat_map ended (map call_line d.calls)

  abbrev policy_bytes : List ℕ
  policy_bytes = flat_map ended texts ++ (ended (codes "calls") ++ call_bytes)

  abbrev front : Front
  front = record { version = d.version; profile = d.profile; workers = d.workers; rest = pieces policy_bytes }

  front-read : (bytes : List ℕ) → bytes ≡ flat_map ended (lines_with d texts) → front_in (pieces bytes) ≡ Ok front
  front-read bytes is =
      let parts = is ∙ bytes_of (heading_lines (codes "syncord-trace") d.version d.profile) (map worker_line d.workers) texts (codes "calls" ∷ map call_line d.calls) in
      let behind = flat_map ended (map worker_line d.workers) ++ policy_bytes in
      let first = ap (λ (l : List ℕ). trace_heading (pieces l)) parts ∙ trace_heading-lines d.version d.profile behind fits.version in
      let second = workers-ended (d.version + 1) d.workers d.profile d.policies texts (ended (codes "calls") ++ call_bytes) fits.workers.0 fits.workers.1 fits.workers.2 zip fits.policies.0 fits.policies.2 in
      front_in-parts (pieces bytes) d.version d.profile (pieces behind) d.workers (pieces policy_bytes) first second

  policies-here : (done more : List PolicyLine) (x : PolicyLine) → d.policies ≡ done ++ x ∷ more → IsPolicy d.profile x × (length done < 64) × (is_declared done x.name ≡ false)
  policies-here done more x e = (
    all-at (IsPolicy d.profile) done more x (subst (AllByRecursion (IsPolicy d.profile)) e fits.policies.2),
    omega (arith, fits.policies.1, ap length e, length-append done (x ∷ more)),
    apart-at done more x (subst AreNamedApart e fits.apart),
  )

  document-read : (policies : Policies) (read : Result Document Fault) → ReadsPolicies d.profile [] (policies_line front) (pieces policy_bytes) policies → read ≡ document_in front policies → read ≡ Ok d
  document-read policies read third is =
      let got = policies-only d.profile d.policies texts [] (policies_line front) call_bytes policies zip policies-here fits.policies.0 third in
      let calls = calls_in-only (length d.workers) d.policies fits.workers.1 (policies_line front + length d.policies) d.calls fits.calls.0 fits.calls.1 fits.calls.2 in
      is ∙ document_in-parts front policies d.policies (ended (codes "calls") ∷ pieces call_bytes) d.calls got calls

  document-so : (policies : Policies) × ReadsPolicies d.profile [] (policies_line front) (pieces policy_bytes) policies × (◌≡◌ {A = Result Document Fault} (Ok d) (document_in front policies))
  document-so =
      let got = policies-read_so d.profile d.policies texts [] (policies_line front) call_bytes zip policies-here fits.policies.0 in
      let calls = calls_in-only (length d.workers) d.policies fits.workers.1 (policies_line front + length d.policies) d.calls fits.calls.0 fits.calls.1 fits.calls.2 in
      let whole : Policies = Ok (d.policies, ended (codes "calls") ∷ pieces call_bytes) in
      (whole, got, sym (document_in-parts front whole d.policies (ended (codes "calls") ∷ pieces call_bytes) d.calls refl calls))

pub only : (bytes : List ℕ) (d : Document) (read : Result Document Fault) → Fits d → IsText bytes d → ReadsTrace bytes read → read ≡ Ok d
only bytes d read fits text h =
    let k = subst (λ (r : Result Front Fault). Then r (λ f read. (policies : Policies) × ReadsPolicies f.profile [] (policies_line f) f.rest policies × (read ≡ document_in f policies)) read) (front-read d fits text.0 text.1 bytes text.2) h in
    document-read d fits text.0 text.1 k.0 read k.1 k.2

-- a text of a trace within the limits has that reading
pub text-read : (bytes : List ℕ) (d : Document) → Fits d → IsText bytes d → ReadsTrace bytes (Ok d)
text-read bytes d fits text =
    subst (λ (r : Result Front Fault). Then r (λ f read. (policies : Policies) × ReadsPolicies f.profile [] (policies_line f) f.rest policies × (read ≡ document_in f policies)) (Ok d)) (sym (front-read d fits text.0 text.1 bytes text.2)) (document-so d fits text.0 text.1)

-- ---- of what a reader returned

pub returned-found : (bytes : List ℕ) (r : Result Trace DocumentError) → Allows document_of r (ReadsTrace bytes) → IfOk r (λ t. IsText bytes (document_of t) × Fits (document_of t))
returned-found bytes (Ok t) h = found bytes (document_of t) h
returned-found bytes (Err e) h = tt

pub returned-only : (bytes : List ℕ) (r : Result Trace DocumentError) → Allows document_of r (ReadsTrace bytes) → (d : Document) → Fits d → IsText bytes d → GivesOrWants fault_of document_of r (Ok d)
returned-only bytes (Ok t) h d fits text = sym (only bytes d (Ok (document_of t)) fits text h)
returned-only bytes (Err (errors.Format line what)) h d fits text = sym (only bytes d (Err (record { line = line; what = what })) fits text h)
returned-only bytes (Err errors.NoMemory) h d fits text = tt

-- ---- of what is written

policies-texts : (profile : Profile) (ps : List PolicyLine) → AllByRecursion (IsPolicy profile) ps → AllZip IsPolicyText ps (map policy_line ps)
policies-texts profile [] h = tt
policies-texts profile (p ∷ ps) h =
    ((program_word p.source.should, program_word p.source.skip, refl, program_word-is p.source.should h.0.should, program_word-is p.source.skip h.0.skip), policies-texts profile ps h.1)

-- the text that is written is a text of the trace
spelling-text : (d : Document) → Fits d → IsText (spelling d) d
spelling-text d fits = (map policy_line d.policies, policies-texts d.profile d.policies fits.policies.2, refl)

pub written-text : {V : Type 0} (items : V → List ℕ) (d : Document) (r : Result V NoMemory) → IfOk r (λ v. items v ≡ spelling d) → IfOk r (λ v. Fits d → IsText (items v) d)
written-text items d (Ok v) h = λ fits. subst (λ (bytes : List ℕ). IsText bytes d) (sym h) (spelling-text d fits)
written-text items d (Err e) h = tt

-- The grammar of traces: the document that bytes are, or the first bad line and the lowest fault on it.
use Rattle.std.specs.Prelude.{◌≡◌, ℕ, ◌+◌, List, [], ◌∷◌, ◌++◌, length, not, Option, Some, None, Result, Ok, Err, nat_le, ◌==◌, if◌then◌else◌, codes, MatchOption}
use Rattle.shfl_line.specs.declared.words.Attr.{Attr}
use Rattle.bpf_isa.specs.declared.insn.Profile.{Profile}
use Rattle.doc_text.specs.declared.fault.Fault.{Fault}
use Rattle.doc_text.specs.Text.{pieces, text_in}
use Rattle.doc_text.specs.Words.{words, same}
use Rattle.doc_text.specs.Faults.{fault, ◌>>=◌, or_fault, fixed_due, lines_from, Then}
use Rattle.trace_text.specs.Document.{CallLine, PolicyLine, Document}
use Rattle.policy_text.specs.Headings.{Heading, heading_in}
use Rattle.policy_text.specs.Accepted.{Judged}
use Rattle.policy_text.specs.Sections.{SectionModel, attrs_in}
use Rattle.trace_text.specs.declared.faults.TheConstants.{WORKER, WORKERS, POLICY, POLICIES, AGAIN, DIGITS, PROGRAM, CALL, STRANGER, RANGE, ATTACH, OVER, PROFILE}
use Rattle.trace_text.specs.Lines.{policy_in, programs_in, is_declared, call_in, is_in_range, may_do, is_full}

-- ---- the workers

-- A line that begins with `worker` is one, good or bad; at the first place each line is due to be one.
-- A bad worker line is fault 3, and one more than 16 is fault 4. Behind the workers a policy line is due, which is fault 5.
abbrev pub worker_lines : SectionModel
worker_lines = record { word = codes "worker"; last = None; most = 16; bad = WORKER; over = WORKERS; short = POLICY }

unfoldable pub workers_in : ℕ → List (List ℕ) → Result (List Attr × List (List ℕ)) Fault
workers_in line ps = attrs_in worker_lines line ps

-- ---- the policies

-- A line other than `calls` is a policy line: bad words are fault 5, one more than 64 is fault 6, a name that was declared
-- before is fault 7, and bad digits are fault 8. That a program isn't accepted is fault 9, which stands below.
unfoldable pub policy_says : List PolicyLine → ℕ → List ℕ → Result (Option PolicyLine) Fault
policy_says before line text =
    if same text (codes "calls") then (if length before == 0 then fault line POLICY else Ok None)
    else or_fault line POLICY (policy_in (words text)) >>= λ p.
    if nat_le 64 (length before) then fault line POLICIES
    else if is_declared before p.name then fault line AGAIN
    else or_fault line DIGITS (programs_in p) >>= λ policy. Ok (Some policy)

-- The policies and the pieces from the line `calls` on, or a fault. A policy whose programs aren't both accepted is fault 9.
-- It is a relation, since acceptance speaks of all paths through a program.
unfoldable pub ReadsPolicies : Profile → List PolicyLine → ℕ → List (List ℕ) → Result (List PolicyLine × List (List ℕ)) Fault → Type 0
ReadsPolicies profile before line [] read = read ≡ fault line POLICY
ReadsPolicies profile before line (p ∷ ps) read =
    Then (or_fault line 1 (text_in p) >>= policy_says before line)
    (λ o read. MatchOption o (read ≡ Ok (before, p ∷ ps)) (λ policy. Judged profile policy.source (ReadsPolicies profile (before ++ policy ∷ []) (line + 1) ps read) (read ≡ fault line PROGRAM)))
    read

-- ---- the calls

-- Bad words are fault 10, a worker that isn't declared is fault 11, a directory or a name out of range is fault 12, an
-- attachment that may not be is fault 13, and one more call than there is room for is fault 14.
unfoldable pub call_says : ℕ → List PolicyLine → List CallLine → ℕ → List ℕ → Result CallLine Fault
call_says workers policies before line text =
    or_fault line CALL (call_in (words text)) >>= λ call.
    if nat_le workers call.worker then fault line STRANGER
    else if not (is_in_range call.act) then fault line RANGE
    else if not (may_do policies call.worker call.act) then fault line ATTACH
    else if is_full before call.act then fault line OVER
    else Ok call

-- the line `calls`, and the calls to the end
unfoldable pub calls_in : ℕ → List PolicyLine → ℕ → List (List ℕ) → Result (List CallLine) Fault
calls_in workers policies line ps = fixed_due line POLICY (codes "calls") ps >>= λ ps. lines_from (call_says workers policies) [] (line + 1) ps

-- ---- the whole

-- what stands before the policies, and the pieces behind it
pub record Front : Type 0 where
  pub version : ℕ
  pub profile : Profile
  pub workers : List Attr
  pub rest : List (List ℕ)

-- the version and the profile; a bad or missing profile line is fault 15
unfoldable pub trace_heading : List (List ℕ) → Result Heading Fault
trace_heading ps = heading_in (codes "syncord-trace") PROFILE ps

unfoldable pub front_in : List (List ℕ) → Result Front Fault
front_in ps = trace_heading ps >>= λ h. workers_in (h.version + 1) h.rest >>= λ w. Ok (record { version = h.version; profile = h.profile; workers = w.0; rest = w.1 })

-- the line where the policies begin
abbrev pub policies_line : Front → ℕ
policies_line f = f.version + 1 + length f.workers

-- the document with the policies that were read
unfoldable pub document_in : Front → Result (List PolicyLine × List (List ℕ)) Fault → Result Document Fault
document_in f policies = policies >>= λ p. calls_in (length f.workers) p.0 (policies_line f + length p.0) p.1 >>= λ calls.
    Ok (record { version = f.version; profile = f.profile; workers = f.workers; policies = p.0; calls = calls })

-- the document, or the fault, that the bytes are
abbrev pub ReadsTrace : List ℕ → Result Document Fault → Type 0
ReadsTrace bytes read =
    Then (front_in (pieces bytes))
    (λ f read. (policies : Result (List PolicyLine × List (List ℕ)) Fault) × ReadsPolicies f.profile [] (policies_line f) f.rest policies × (read ≡ document_in f policies))
    read

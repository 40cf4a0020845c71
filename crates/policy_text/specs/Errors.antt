-- The fault that an error of reading tells, unless it tells want of memory.
use Rattle.std.specs.Prelude.{Option, Some, None, Result, Ok, Err, MatchOption}
use Rattle.doc_text.specs.declared.fault.Fault.{Fault}
use Rattle.policy_text.specs.declared.document_error.DocumentError.{DocumentError}
use Rattle.policy_text.specs.declared.document_error.DocumentError.TheVariants as errors

abbrev pub fault_of : DocumentError → Option Fault
fault_of (errors.Format line what) = Some (record { line = line; what = what })
fault_of errors.NoMemory = None

-- What a reader returned, as `view` sees it, is what the relation allows, unless it wanted memory.
abbrev pub Allows : {X Y : Type 0} → (X → Y) → Result X DocumentError → (Result Y Fault → Type 0) → Type 0
Allows view (Ok x) Reads = Reads (Ok (view x))
Allows view (Err e) Reads = MatchOption (fault_of e) (Unit {0}) (λ f. Reads (Err f))

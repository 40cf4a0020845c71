-- What a reader returned is what the relation allows, unless it wanted memory.
use Rattle.std.specs.Prelude.{Result}
use Rattle.doc_text.specs.declared.fault.Fault.{Fault}
use Rattle.policy_text.specs.declared.document_error.DocumentError.{DocumentError}
use Rattle.policy_text.specs.Errors as errors

abbrev pub Allows : {X : Type 0} → Result X DocumentError → (Result X Fault → Type 0) → Type 0
Allows result Reads = errors.Allows (λ x. x) result Reads

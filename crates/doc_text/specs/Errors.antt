-- The fault that an error of digits tells, unless it tells want of memory.
use Rattle.std.specs.Prelude.{Option, Some, None}
use Rattle.doc_text.specs.declared.fault.Fault.{Fault}
use Rattle.doc_text.specs.declared.spread.DigitsError.{DigitsError}
use Rattle.doc_text.specs.declared.spread.DigitsError.TheVariants as errors

abbrev pub fault_of : DigitsError → Option Fault
fault_of (errors.Format line what) = Some (record { line = line; what = what })
fault_of errors.NoMemory = None

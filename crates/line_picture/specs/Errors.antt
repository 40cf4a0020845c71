-- The fault that an error of reading tells, unless it tells want of memory.
use Rattle.std.specs.Prelude.{Option, Some, None}
use Rattle.doc_text.specs.declared.fault.Fault.{Fault}
use Rattle.line_picture.specs.declared.error.ReportError.{ReportError}
use Rattle.line_picture.specs.declared.error.ReportError.TheVariants as errors

abbrev pub fault_of : ReportError → Option Fault
fault_of (errors.Format line what) = Some (record { line = line; what = what })
fault_of errors.NoMemory = None

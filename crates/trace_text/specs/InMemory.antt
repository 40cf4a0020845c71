-- The trace in memory that a document is.
use Rattle.std.specs.Prelude.{◌≡◌}
use Rattle.trace_text.specs.declared.trace.Trace.{Trace}
use Rattle.trace_text.specs.Document.{Document}
use Rattle.name_order.specs.Names.{AreRisingBy, SameMembers}
use Rattle.trace_text.specs.Spelled.{call_names}
use Rattle.trace_text.specs.Traces.{document_of, names_of, IsWithin}

-- it says what the document says; the names of its calls stand in order of their bytes, each once
pub record IsTraceOf (document : Document) (t : Trace) : Type 0 where
  pub says : document_of t ≡ document
  pub within : IsWithin t
  pub rising : AreRisingBy (λ n. n.items) t.names.items
  pub named : SameMembers (call_names (document_of t).calls) (names_of t)

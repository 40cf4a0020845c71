-- The front of a schedule in memory, seen as what its lines say.
use Rattle.doc_text.specs.Text.{pieces}
use Rattle.shfl_sched.specs.declared.front.Front.{Front as FrontRead}
use Rattle.shfl_sched.specs.Grammar.{Front}

abbrev pub front_said : FrontRead → Front
front_said f = record { version = f.version; profile = f.profile; form = f.form; limit = f.limit; policy = f.policy.now; rest = pieces f.rest.now }

-- The calls of a trace may all be done, and what they lead to is a history of it.
use Rattle.std.proofs.Common.{ℕ, zero, suc, ◌<◌, List, [], ◌∷◌, length, get_or, refl, sym, ap, subst, arith}
use Rattle.std.specs.Prelude.{slice_index}
use Rattle.std.specs.List.{AllByRecursion}
use Rattle.dir_table.specs.Directory.{Directory}
use Rattle.dir_table.specs.Numbers.{call_numbers, state_numbers}
use Rattle.dir_table.specs.Meanings.{Admits, IsAdmitted}
use Rattle.dir_table.specs.ObjectLaws.{call_again}
use Rattle.trace_text.specs.declared.trace.TraceAct.{TraceAct}
use Rattle.trace_text.specs.declared.trace.TraceAct.TheVariants as does
use Rattle.trace_text.specs.declared.trace.TraceCall.{TraceCall}
use Rattle.trace_text.specs.declared.trace.Trace.{Trace}
use Rattle.trace_text.specs.Report.{Done}
use Rattle.trace_text.specs.Traces.{IsActOf, IsCallOf}
use Rattle.trace_text.specs.Histories.{Made, of_worker, beginning, IsHistoryOf}
use Rattle.trace_text.proofs.Answered.{answered, left}
use Rattle.syncord_replay.specs.Serial.{MayDo, Follows}

-- what holds of all holds of each
pub all_at : {X : Type 0} (P : X → Type 0) (xs : List X) (i : ℕ) (d : X) → i < length xs → AllByRecursion P xs → P (get_or xs i d)
all_at P [] i d within all = absurd (omega (arith, within))
all_at P (x ∷ xs) zero d within all = all.0
all_at P (x ∷ xs) (suc i) d within all = all_at P xs i d (omega (arith, within)) all.1

pub may_still : (start now : List ℕ) → ((call : List ℕ) → Admits start call → Admits now call) → (act : TraceAct) → MayDo start act → MayDo now act
may_still start now admits (does.Dir call) may = admits (call_numbers call) may
may_still start now admits (does.Attach policy) may = tt

may_act : (state : List ℕ) (policies worker : ℕ) (act : TraceAct) → IsActOf (slice_index state 0) policies worker act → MayDo state act
may_act state policies worker (does.Dir call) may = subst (IsAdmitted (slice_index state 0)) (sym (call_again call)) may
may_act state policies worker (does.Attach policy) may = tt

pub may_all : (state : List ℕ) (workers policies : ℕ) (calls : List TraceCall) → AllByRecursion (IsCallOf workers (slice_index state 0) policies) calls
    → AllByRecursion (λ c. MayDo state c.act) calls
may_all state workers policies [] all = tt
may_all state workers policies (c ∷ calls) all = (may_act state policies c.worker c.act all.0.act, may_all state workers policies calls all.1)

pub is_history : (t : Trace) (history : List Done) (final : Directory) → Follows (state_numbers (beginning t)) t.calls.items history (state_numbers final) → IsHistoryOf t history final
is_history t history final f = record {
  legal = answered (beginning t) history f.legal;
  leaves = left (beginning t) final history refl f.left;
  each_once = λ worker. ap (λ (made : List Made). of_worker worker made) f.made;
}

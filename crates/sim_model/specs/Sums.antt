-- The sums of a run agree.
use Rattle.std.specs.Prelude.{◌≡◌, ℕ, ◌+◌, ◌≤◌, List, length, sum_by}
use Rattle.shfl_line.specs.declared.words.Attr.{Attr}
use Rattle.sim_setup.specs.declared.setup.Setup.{Setup}
use Rattle.sim_model.specs.declared.counts.Counts.{Counts}
use Rattle.sim_model.specs.declared.counts.Reaches.{Reaches}
use Rattle.sim_model.specs.declared.counts.Served.{Served}
use Rattle.sim_model.specs.Laws.{IsSetUp}
use Rattle.sim_model.specs.Runs.{Answers, State, ran, opening_state}

abbrev pub reaches_of : Reaches → ℕ
reaches_of r = r.hits + r.near + r.far

-- the accesses to the words of the lock
abbrev pub accesses_of : Counts → ℕ
accesses_of c = reaches_of c.lock + reaches_of c.tail + reaches_of c.node

-- the gains of all passes
abbrev pub gains_of : List Served → ℕ
gains_of served = sum_by (λ (x : Served). x.gained) served

-- each step is one access to a word; each gain is one of its pass, and ends one wait
pub record Sums (st : State) : Type 0 where
  pub accesses : st.bench.counts.steps ≡ accesses_of st.bench.counts
  pub gains : gains_of st.bench.served ≡ st.bench.order.gained
  pub waits : length st.waits ≡ st.bench.order.gained

-- so it is after so many turns as can be counted
abbrev pub SumsAgree : Type 0
SumsAgree = (s : Setup) (answers : Answers) (n : ℕ) (attrs : List Attr) → IsSetUp s attrs → n ≤ 18446744073709551615
    → Sums (ran s answers n (opening_state s attrs))

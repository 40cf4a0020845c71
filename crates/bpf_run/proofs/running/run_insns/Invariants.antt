use Rattle.std.proofs.Common.{◌≡◌, ◌≤◌, ◌+◌, ◌-◌, length, drop}
use Rattle.bpf_run.specs.Meaning.{at_start}
use Rattle.bpf_run.specs.Instructions.{running}
use Rattle.bpf_run.proofs.running.run_insns.Given as goal

abbrev pub invariant-loop-at : goal.invariant-loop-at
invariant-loop-at g l = record {
  value : (running 0 (drop l.at l.insns) l.context l.regs).value ≡ (running 0 l.insns l.context at_start).value;
  counted : l.count + (running 0 (drop l.at l.insns) l.context l.regs).count ≡ (running 0 l.insns l.context at_start).count;
  count : l.steps + (running 0 (drop l.at l.insns) l.context l.regs).count ≡ l.fn.steps + (running 0 l.insns l.context at_start).count;
  few : l.steps + (length l.insns - l.at) ≤ l.fn.steps + length l.insns;
  small : l.count ≤ l.at;
}

abbrev pub decreases-loop-at : goal.decreases-loop-at
decreases-loop-at g l = length l.insns - l.at

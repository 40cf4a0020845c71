use Rattle.std.proofs.Common.{◌≡◌, ◌-◌, ◌<◌, ◌≤◌, ℕ, length, get_or, true, false}
use Rattle.bpf_asm.specs.declared.names.Declared.{Declared}
use Rattle.bpf_asm.specs.Names.{key_of, is_before}
use Rattle.bpf_asm.proofs.names.mark_named.Given as goal

abbrev pub invariant-loop-low : goal.invariant-loop-low
invariant-loop-low l = record {
  inside : (l.low ≤ l.high) × (l.high ≤ length l.names);
  before : (k : ℕ) (d : Declared) → k < l.low → is_before (get_or l.names k d) (key_of l.name) l.name ≡ true;
  behind : (k : ℕ) (d : Declared) → l.high ≤ k → k < length l.names → is_before (get_or l.names k d) (key_of l.name) l.name ≡ false;
}

abbrev pub decreases-loop-low : goal.decreases-loop-low
decreases-loop-low l = l.high - l.low

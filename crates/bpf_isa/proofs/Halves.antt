-- Second halves, one slot after the other.
use Rattle.std.proofs.Common.{◌≡◌, ℕ, ◌+◌, ◌*◌, List, not, ◌&&◌, ◌==◌, get_or, refl, add-one, false}
use Rattle.bpf_isa.specs.Slots.{is_second_half}

pub half-step : (bytes : List ℕ) (i : ℕ) → is_second_half bytes (i + 1) ≡ (not (is_second_half bytes i) && (get_or bytes (8 * i) 0 == 0x18))
unfolding is_second_half
half-step bytes i = rw add-one refl

pub half-zero : (bytes : List ℕ) → false ≡ is_second_half bytes 0
unfolding is_second_half
half-zero bytes = refl

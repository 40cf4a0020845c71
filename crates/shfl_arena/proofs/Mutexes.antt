-- A value put back is in front.
use Rattle.std.proofs.Common.{◌≡◌, ℕ, List, ◌∷◌, sym, ap, ◌∙◌}
use Rattle.std.specs.Prelude.{Option, Some}
use Rattle.atomic_table.specs.Table.{rest}
use Rattle.shfl_arena.specs.ValueMoves.{HasInFront}

pub put-front : {X : Type 0} (lock : ℕ) (x : X) (c d : List (ℕ × Option X)) → d ≡ (lock, Some x) ∷ rest c → HasInFront {V = X} lock d
put-front {X} lock x c d e = (x, e ∙ ap (λ z. (lock, Some x) ∷ z) (sym (ap rest e)))

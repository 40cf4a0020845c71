-- How much of a round of shuffling is left.
use Rattle.std.specs.Prelude.{ℕ, ◌+◌, ◌-◌, ◌*◌, List, [], ◌∷◌, cond, ◌==◌, length}
use Rattle.shfl_line.specs.Line.{Line}
use Rattle.shfl_line.specs.Words.{link_word}
use Rattle.shfl_core.specs.declared.phase.Phase.{Phase}
use Rattle.shfl_core.specs.declared.phase.Phase.TheVariants.{Next, Tail, Attr, Decide, After, Pick, Aim, Place, Mark, Give}
use Rattle.shfl_core.specs.declared.phase.Registers.{Registers}
use Rattle.shfl_core.specs.declared.phase.PassState.{PassState}

-- the list from p on
abbrev pub from : ℕ → List ℕ → List ℕ
from p [] = []
from p (x ∷ xs) = cond (x == p) (x ∷ xs) (from p xs)

-- the list up to q, and q itself
abbrev pub upto : ℕ → List ℕ → List ℕ
upto q [] = []
upto q (x ∷ xs) = cond (x == q) (x ∷ []) (x ∷ upto q xs)

-- what a round has come through: the line from its shuffler to the pass where it stands
abbrev pub stretch : ℕ → ℕ → List ℕ → List ℕ
stretch p prev line = upto prev (from p line)

-- the passes that the round may still come to: all but those and the detached one
abbrev pub unseen : ℕ → Line → ℕ → Registers → ℕ
unseen passes s p r = passes - (length (stretch p r.prev s.line) + cond (link_word s.hand == 0) 0 1)

-- the steps from this phase to the next pass, at most
abbrev pub phase_measure : Registers → Phase → ℕ
phase_measure r Aim = 10
phase_measure r Place = 9
phase_measure r Mark = cond (r.prev == r.last) 3 8
phase_measure r Next = 7
phase_measure r Tail = 6
phase_measure r Attr = 5
phase_measure r Decide = 4
phase_measure r After = 3
phase_measure r Pick = 2
phase_measure r Give = 1
phase_measure r _ = 0

abbrev pub measure_at : ℕ → Line → ℕ → Registers → Phase → ℕ
measure_at passes s p r f = 9 * unseen passes s p r + phase_measure r f

-- what is left of the round of p, among so many passes, where the line state is s
abbrev pub round_measure : ℕ → Line → ℕ → PassState → ℕ
round_measure passes s p q = measure_at passes s p q.reg q.phase

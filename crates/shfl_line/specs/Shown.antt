-- The value of the line states in the program, and what each of them keeps.
use Rattle.std.specs.Prelude.{◌≤◌, length, vec_capacity}
use Rattle.shfl_line.specs.Line.{Line, IsOfPasses}
use Rattle.shfl_line.specs.declared.line_state.LineState.TheInside.{Inside}

abbrev pub shown : Inside → Line
shown a = record { hold = a.hold.items; line = a.line.items; hand = a.hand; role = a.role; mark = a.mark.items }

-- a state of as many passes as it has batch numbers, with room for all of them in both lists
pub record IsKept (a : Inside) : Type 0 where
  pub of_passes : IsOfPasses (length a.mark.items) (shown a)
  pub hold_room : length a.mark.items ≤ vec_capacity a.hold
  pub line_room : length a.mark.items ≤ vec_capacity a.line

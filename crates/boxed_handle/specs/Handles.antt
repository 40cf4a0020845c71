-- What a handle owns.
use Rattle.std.specs.Prelude.{List, [], ◌∷◌}
use mir.Syntax.{Ty}
use base.Fml.{Fml, ftrue}
use denote.RattleType.{RattleType}
use denote.RawPtr.{Ptr}
use Rattle.std.specs.Box.Ownership.{box_owns}

-- nothing, or what a box at this place owns: the value, and the right to free its block
abbrev pub handle_owns : (Ty → Ptr → Fml) → (R : RattleType) → Ptr → List R.Denot → Fml
handle_owns holds R at [] = ftrue
handle_owns holds R at (x ∷ xs) = box_owns holds R at x

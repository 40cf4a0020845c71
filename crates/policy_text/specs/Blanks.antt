-- Words as they follow another word of their line.
use Rattle.std.specs.Prelude.{ℕ, List, [], ◌∷◌, ◌++◌}

-- words each behind a blank
abbrev pub blanked : List (List ℕ) → List ℕ
blanked [] = []
blanked (w ∷ ws) = (32 ∷ w) ++ blanked ws

-- Rows that were read, seen as those of a report.
use Rattle.std.proofs.Common.{◌≡◌, List, [], ◌∷◌, ◌++◌, map}
use Rattle.std.proofs.lemmas.List.{map-append}

pub one_more : {X Y : Type 0} (view : X → Y) (xs : List X) (x : X) → map view (xs ++ x ∷ []) ≡ map view xs ++ view x ∷ []
one_more view xs x = map-append view xs (x ∷ [])

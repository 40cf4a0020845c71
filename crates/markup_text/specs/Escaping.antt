-- Text as it may stand in an element.
use Rattle.std.specs.Prelude.{ℕ, List, [], ◌∷◌, ◌==◌, codes, if◌then◌else◌}
use Rattle.std.specs.List.{flat_map}

-- a byte as it may stand in the text of an element
abbrev pub escaped_byte : ℕ → List ℕ
escaped_byte b = if b == 38 then codes "&amp;" else if b == 60 then codes "&lt;" else if b == 62 then codes "&gt;" else b ∷ []

abbrev pub escaped : List ℕ → List ℕ
escaped text = flat_map escaped_byte text

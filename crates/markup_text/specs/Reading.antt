-- An element's text as its reader takes it.
use Rattle.std.specs.Prelude.{ℕ, List, [], ◌∷◌, ◌++◌, not, IsTrue, Option, Some, None, nat_eq, ◌==◌, codes, if◌then◌else◌}
use Rattle.std.specs.List.{list_all}
use lib.Pointwise.{pointwise}

-- the characters that have names
abbrev pub named : List ℕ → List ℕ
named name = if pointwise nat_eq name (codes "amp") then codes "&"
    else if pointwise nat_eq name (codes "lt") then codes "<"
    else if pointwise nat_eq name (codes "gt") then codes ">"
    else []

-- what the text behind the bytes of a name that has begun says, or the text behind none
abbrev pub said_behind : Option (List ℕ) → List ℕ → List ℕ
said_behind None [] = []
said_behind None (b ∷ bs) = if b == 38 then said_behind (Some []) bs else b ∷ said_behind None bs
said_behind (Some name) [] = []
said_behind (Some name) (b ∷ bs) = if b == 59 then named name ++ said_behind None bs else said_behind (Some (name ++ b ∷ [])) bs

-- each `&NAME;` stands for what it names, and another byte for itself
abbrev pub said : List ℕ → List ℕ
said text = said_behind None text

-- no byte begins a tag
abbrev pub HasNoTag : List ℕ → Type 0
HasNoTag text = IsTrue (list_all (λ b. not (b == 60)) text)

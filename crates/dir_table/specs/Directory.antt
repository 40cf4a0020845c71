-- A directory as its callers see it.
use Rattle.std.specs.Prelude.{◌≡◌, ◌≢◌, ℕ, ◌<◌, ◌-◌}
use Rattle.std.specs.FinMap.{get, code}
use Rattle.std.specs.Coded.{Coded, code_by, coded×, coded_ℕ}
use Rattle.std.proofs.Common.{refl}
use Rattle.dir_table.specs.Names.{Place, Names}

pub record Directory : Type 0 where
  -- the names that are there
  pub names : Names
  -- the number that the next new file gets
  pub next_number : ℕ
  -- names are below this number
  pub room : ℕ
  -- how many calls that write are left
  pub spare : ℕ

-- as a map and three numbers
abbrev pub coded_directory : Coded Directory
coded_directory = code_by (Names × (ℕ × (ℕ × ℕ))) (coded× (code (coded× coded_ℕ coded_ℕ) coded_ℕ) (coded× coded_ℕ (coded× coded_ℕ coded_ℕ)))
    (λ d. (d.names, (d.next_number, (d.room, d.spare)))) (λ p. record { names = p.0; next_number = p.1.0; room = p.1.1.0; spare = p.1.1.1 }) (λ _. refl)

-- the directory after one more call that writes
abbrev pub spent : Directory → Directory
spent d = record d { spare = d.spare - 1 }

-- there are 64 directories, and names are below the room
pub record IsInRange (room dir name : ℕ) : Type 0 where
  pub known : dir < 64
  pub within : name < room

-- every other name has the number that it had, or is absent as it was
abbrev pub OthersStay : Directory → Directory → Place → Type 0
OthersStay old new place = (other : Place) → other ≢ place → get new.names other ≡ get old.names other

-- What a log of rounds has.
use Rattle.std.specs.Prelude.{◌≡◌, ◌⊎◌, ◌≤◌, Bool, List, [], ◌∷◌, ◌++◌, map, Option, Some, None, if◌then◌else◌}
use Rattle.std.specs.List.{AllByRecursion}
use Rattle.shfl_line.specs.declared.choosers.Answer.{Answer}
use Rattle.shfl_line.specs.declared.choosers.Told.{Told}
use Rattle.shfl_line.specs.declared.choosers.Told.TheVariants.{Begun}
use Rattle.shfl_line.specs.Rounds.{TellsInRounds}
use Rattle.round_log.specs.declared.log.Note.{Note}

-- a log in which nothing stands yet, where it keeps anything
abbrev pub begun : Bool → Option (List Note)
begun keeps = if keeps then Some [] else None

-- a log that keeps what it is given has this note more, or keeps nothing any more; another one goes on so
abbrev pub AddsNote : Option (List Note) → Option (List Note) → Note → Type 0
AddsNote None new note = new ≡ None
AddsNote (Some old) new note = (new ≡ Some (old ++ note ∷ [])) ⊎ (new ≡ None)

-- what the policies were told, each call in its turn
abbrev pub told_in : Option (List Note) → Option (List Told)
told_in None = None
told_in (Some notes) = Some (map (λ n. n.told) notes)

-- no note has a lower version than one before it
abbrev pub NeverFall : List Note → Type 0
NeverFall [] = Unit {0}
NeverFall (n ∷ rest) = AllByRecursion (λ m. n.version ≤ m.version) rest × NeverFall rest

-- what begins no round has the version, and so the policy, of the note before it
abbrev pub GoesOn : Note → Note → Type 0
GoesOn before n = (n.told ≡ Begun) ⊎ ((n.version ≡ before.version) × (n.which ≡ before.which))

abbrev pub GoOnBehind : Note → List Note → Type 0
GoOnBehind before [] = Unit {0}
GoOnBehind before (n ∷ rest) = GoesOn before n × GoOnBehind n rest

-- each round keeps the version that it began with
abbrev pub KeepVersions : List Note → Type 0
KeepVersions [] = Unit {0}
KeepVersions (n ∷ rest) = GoOnBehind n rest

-- between these two a policy was told whole rounds, and nothing else
abbrev pub InRounds : Option (List Told) → Option (List Told) → Type 0
InRounds told told' = (answers : List Answer) × TellsInRounds answers told told'

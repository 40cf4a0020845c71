-- The calls that a pass of a sharded directory made.
use Rattle.std.specs.Prelude.{◌≡◌, List, map}
use Rattle.dir_table.specs.declared.calls.DirCall.{DirCall}
use Rattle.dir_shards.specs.Commits.{calls_by}
use Rattle.dir_shards.specs.ShardPasses.{ShardPassModel}

-- the pass made these calls on the directory, in order: those of its own entries in what it has seen
abbrev pub HasMade : ShardPassModel → List DirCall → Type 0
HasMade p calls = map (λ e. e.call) (calls_by p.number p.seen) ≡ calls

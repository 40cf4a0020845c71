-- The passes of all values together are all passes: of the sockets, of the priorities, and of the classes.
use Rattle.std.specs.Prelude.{◌≡◌, ℕ, List, [], ◌∷◌, map}
use Rattle.shfl_line.specs.declared.words.Attr.{Attr}
use Rattle.sim_setup.specs.Clock.{plus, later}
use Rattle.sim_model.specs.declared.counts.Served.{Served}
use Rattle.sim_report.specs.declared.tallies.Key.{Key}
use Rattle.sim_report.specs.declared.tallies.Key.TheVariants.{All}
use Rattle.sim_report.specs.declared.tallies.Tally.{Tally}
use Rattle.sim_report.specs.Tallies.{nobody, tally_in, values_of}

-- two groups of passes counted together: sums, and the larger of the longest waits and of how often one was overtaken
abbrev pub merged : Tally → Tally → Tally
merged t u = record {
  gained = plus t.gained u.gained;
  reads = plus t.reads u.reads;
  stolen = plus t.stolen u.stolen;
  waited = plus t.waited u.waited;
  longest = later t.longest u.longest;
  overtaken = later t.overtaken u.overtaken;
}

abbrev pub total : List Tally → Tally
total [] = nobody
total (t ∷ ts) = merged t (total ts)

-- what a report tells of each value adds up to what it tells of all passes
abbrev pub TalliesAddUp : Type 0
TalliesAddUp = (key : Key) (until : ℕ) (attrs : List Attr) (served : List Served)
    → total (map (λ value. tally_in key value until attrs served) (values_of key attrs)) ≡ tally_in All 0 until attrs served

-- When each pass has its next turn, and whose turn it is.
use Rattle.std.specs.Prelude.{ℕ, zero, suc, ◌==◌, List, cond, nat_le, Option, Some, None, slice_index_or}
use Rattle.sim_setup.specs.Clock.{later}
use Rattle.sim_model.specs.declared.turns.Turn.TheVariants.{Step}
use Rattle.sim_model.specs.declared.turns.Stand.{Stand}
use Rattle.sim_model.specs.declared.turns.Stand.TheVariants.{Due, Spins, Sleeps}
use Rattle.sim_model.specs.declared.turns.Entry.{Entry}
use Rattle.sim_model.specs.Firsts.{mapped}

abbrev pub stand_at : List Stand → ℕ → Stand
stand_at stands p = slice_index_or stands p (Sleeps 0)

-- the sooner of an entry and a turn; of two at one time the entry
abbrev pub sooner_entry : Option Entry → Entry → Option Entry
sooner_entry None e = Some e
sooner_entry (Some found) e = cond (nat_le found.at e.at) (Some found) (Some e)

abbrev pub sooner : Option Entry → ℕ → Stand → Option Entry
sooner found p (Due at turn) = sooner_entry found (record { at = at; pass = p; turn = turn })
sooner found p _ = found

-- the soonest turn of the passes below n; of two at one time that of the lower pass
abbrev pub soonest : List Stand → ℕ → Option Entry
soonest stands zero = None
soonest stands (suc n) = sooner (soonest stands n) n (stand_at stands n)

-- a pass that spins on the line looks again, once the access and its own last look have ended
abbrev pub woken : ℕ → ℕ → Stand → Stand
woken line ends (Spins own since) = cond (own == line) (Due (later ends since) Step) (Spins own since)
woken line ends stand = stand

-- so do those of the first n passes that spin on it
abbrev pub all_woken : ℕ → ℕ → ℕ → List Stand → List Stand
all_woken n line ends stands = mapped (woken line ends) n stands

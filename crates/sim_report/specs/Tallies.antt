-- What is counted of passes together, and of waits in their order.
use Rattle.std.specs.Prelude.{ℕ, zero, suc, ◌+◌, ◌-◌, ◌*◌, ◌/◌, ◌==◌, List, [], ◌∷◌, length, cond, nat_le, nat_lt, Option, Some, None, slice_index_or}
use Rattle.shfl_line.specs.declared.words.Attr.{Attr}
use Rattle.sim_setup.specs.Clock.{plus, later}
use Rattle.sim_setup.specs.Cores.{attr_at}
use Rattle.sim_model.specs.declared.counts.Served.{Served}
use Rattle.sim_model.specs.Calls.{served_at}
use Rattle.sim_report.specs.declared.tallies.Key.{Key}
use Rattle.sim_report.specs.declared.tallies.Key.TheVariants.{All, Socket, Prio, Class}
use Rattle.sim_report.specs.declared.tallies.Tally.{Tally}

-- ---- passes that have a number in common

-- by what passes are told together: all of them, or those of one socket, priority or class
abbrev pub value_of : Key → Attr → ℕ
value_of All a = 0
value_of Socket a = a.socket
value_of Prio a = a.prio
value_of Class a = a.class

abbrev pub nobody : Tally
nobody = record { gained = 0; reads = 0; stolen = 0; waited = 0; longest = 0; overtaken = 0 }

-- the longest wait of a pass, one that stands open at the end among them
abbrev pub longest_wait : ℕ → Served → ℕ
longest_wait until s = cond s.waits (later s.longest (until - s.called)) s.longest

-- with one pass more
unfoldable pub joined : ℕ → Tally → Served → Tally
joined until t s = record {
  gained = plus t.gained s.gained;
  reads = plus t.reads s.reads;
  stolen = plus t.stolen s.stolen;
  waited = plus t.waited s.waited;
  longest = later t.longest (longest_wait until s);
  overtaken = later t.overtaken s.overtaken;
}

-- the passes below n that have this value, counted together
abbrev pub tally_below : Key → ℕ → ℕ → List Attr → List Served → ℕ → Tally
tally_below key value until attrs served zero = nobody
tally_below key value until attrs served (suc n) = cond (value_of key (attr_at attrs n) == value)
    (joined until (tally_below key value until attrs served n) (served_at served n))
    (tally_below key value until attrs served n)

-- the lesser of a value that was found and another
abbrev pub lesser : Option ℕ → ℕ → Option ℕ
lesser None value = Some value
lesser (Some found) value = Some (cond (nat_lt value found) value found)

-- the least value from this one on that a pass below n has
abbrev pub least_from : Key → ℕ → List Attr → ℕ → Option ℕ
least_from key first attrs zero = None
least_from key first attrs (suc n) = cond (nat_le first (value_of key (attr_at attrs n)))
    (lesser (least_from key first attrs n) (value_of key (attr_at attrs n)))
    (least_from key first attrs n)

-- all passes of this value, counted together
abbrev pub tally_in : Key → ℕ → ℕ → List Attr → List Served → Tally
tally_in key value until attrs served = tally_below key value until attrs served (length attrs)

-- a value that was found, and those behind it
abbrev pub of_value : Option ℕ → (ℕ → List ℕ) → List ℕ
of_value None further = []
of_value (Some value) further = value ∷ further value

-- at most n values that passes have, from this one on, in rising order
abbrev pub values_from : Key → List Attr → ℕ → ℕ → List ℕ
values_from key attrs zero first = []
values_from key attrs (suc n) first = of_value (least_from key first attrs (length attrs)) (λ value. values_from key attrs n (value + 1))

-- the values that passes have, each once, in rising order
abbrev pub values_of : Key → List Attr → List ℕ
values_of key attrs = values_from key attrs (length attrs) 0

-- ---- waits in their order

-- a number among others in rising order
abbrev pub among : ℕ → List ℕ → List ℕ
among n [] = n ∷ []
among n (m ∷ ms) = cond (nat_le n m) (n ∷ m ∷ ms) (m ∷ among n ms)

-- numbers in rising order
abbrev pub rising : List ℕ → List ℕ
rising [] = []
rising (n ∷ ns) = among n (rising ns)

-- the number at the half of the way, and that behind 99 of a hundred; 0 where there is none
abbrev pub half_of : List ℕ → ℕ
half_of ns = slice_index_or ns ((length ns - 1) / 2) 0

abbrev pub most_of : List ℕ → ℕ
most_of ns = slice_index_or ns ((length ns - 1) * 99 / 100) 0

-- On which cores the passes of a run stand.
use Rattle.std.specs.Prelude.{ℕ, zero, suc, ◌==◌, List, Bool, cond, length, replicate, slice_index_or, slice_set}
use Rattle.shfl_line.specs.declared.words.Attr.{Attr}
use Rattle.sim_setup.specs.declared.setup.Core.{Core}
use Rattle.sim_setup.specs.Sets.{no_cores, with_core, core_set}

abbrev pub attr_at : List Attr → ℕ → Attr
attr_at attrs p = slice_index_or attrs p (record { socket = 0; prio = 0; class = 0; kind = 0 })

-- two passes run on one socket
abbrev pub is_mate : List Attr → ℕ → ℕ → Bool
is_mate attrs p q = (attr_at attrs q).socket == (attr_at attrs p).socket

-- the set of the cores below n on the socket of the pass
abbrev pub mates : List Attr → ℕ → ℕ → List ℕ
mates attrs p zero = no_cores
mates attrs p (suc n) = cond (is_mate attrs p n) (with_core (mates attrs p n) n) (mates attrs p n)

abbrev pub core_of : List Attr → ℕ → Core
core_of attrs p = record { attr = attr_at attrs p; own = core_set p; mates = mates attrs p (length attrs) }

abbrev pub no_core : Core
no_core = record { attr = record { socket = 0; prio = 0; class = 0; kind = 0 }; own = no_cores; mates = no_cores }

-- the cores of the first n passes
abbrev pub cores_below : List Attr → ℕ → List Core
cores_below attrs zero = replicate 1024 no_core
cores_below attrs (suc n) = slice_set (cores_below attrs n) n (core_of attrs n)

-- Sets of cores: sixteen words, with a bit for each core.
use Rattle.std.specs.Prelude.{ℕ, zero, suc, ◌/◌, ◌%◌, ◌^◌, ◌==◌, not, List, Bool, true, false, cond, bit_and, bit_or, replicate, slice_index, slice_set}

abbrev pub no_cores : List ℕ
no_cores = replicate 16 0

-- the set with one core more
abbrev pub with_core : List ℕ → ℕ → List ℕ
with_core set core = slice_set set (core / 64) (bit_or (slice_index set (core / 64)) (2 ^ (core % 64)))

-- the set of one core
abbrev pub core_set : ℕ → List ℕ
core_set core = with_core no_cores core

-- two words have a bit in common
abbrev pub word_meets : ℕ → ℕ → Bool
word_meets a b = not (bit_and a b == 0)

-- each bit of a word is one of the other
abbrev pub word_within : ℕ → ℕ → Bool
word_within a b = bit_and a b == a

-- two sets have a core of the first n words in common
abbrev pub meets_below : List ℕ → List ℕ → ℕ → Bool
meets_below a b zero = false
meets_below a b (suc n) = cond (word_meets (slice_index a n) (slice_index b n)) true (meets_below a b n)

-- each core of the first n words of a set is one of the other
abbrev pub within_below : List ℕ → List ℕ → ℕ → Bool
within_below a b zero = true
within_below a b (suc n) = cond (word_within (slice_index a n) (slice_index b n)) (within_below a b n) false

-- a set, and of the first n words the cores of another besides
abbrev pub joined_below : List ℕ → List ℕ → ℕ → List ℕ
joined_below a b zero = a
joined_below a b (suc n) = slice_set (joined_below a b n) n (bit_or (slice_index a n) (slice_index b n))

-- two sets have a core in common
unfoldable pub meets : List ℕ → List ℕ → Bool
meets a b = meets_below a b 16

-- each core of a set is one of the other
unfoldable pub is_within : List ℕ → List ℕ → Bool
is_within a b = within_below a b 16

-- the cores of two sets
unfoldable pub joined : List ℕ → List ℕ → List ℕ
joined a b = joined_below a b 16

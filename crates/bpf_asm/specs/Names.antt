-- The declarations of a text, as they stand in it and in order of their names.
use Rattle.std.specs.Prelude.{◌≡◌, ◌≢◌, ℕ, ◌+◌, ◌*◌, ◌%◌, ◌^◌, ◌<◌, ◌≤◌, List, [], ◌∷◌, Bool, true, false, not, ◌&&◌, Option, Some, None, All, Contains, nat_lt, nat_le, ◌==◌, if◌then◌else◌, slice_index_or}
use Rattle.std.specs.Cmp.Lexicographic.{slice_cmp}
use Rattle.std.specs.List.Sorted.{IsSorted}
use Rattle.std.specs.Ordering.{nat_cmp, ordering_then, is_lt}
use Rattle.std.specs.declared.cmp.Ordering.{Ordering}
use Rattle.bpf_asm.specs.declared.names.Declared.{Declared}
use Rattle.bpf_asm.specs.declared.names.Mark.{Mark}
use Rattle.doc_text.specs.Words.{same}

-- ---- the number of a name

abbrev pub key_on : ℕ → List ℕ → ℕ
key_on key [] = key
key_on key (b ∷ bs) = key_on (((key * 0x100000001b3) % 2 ^ 64 + b) % 2 ^ 64) bs

-- a number that goes by the bytes of a name
unfoldable pub key_of : List ℕ → ℕ
key_of name = key_on 0 name

-- ---- as they stand in the text

-- where a declaration stands
abbrev pub mark_at : Declared → Mark
mark_at d = record { line = d.line; slot = d.slot }

-- the mark of a name: where it is declared first
abbrev pub mark_in : List Declared → List ℕ → Option Mark
mark_in [] name = None
mark_in (d ∷ ds) name = if same d.name.now name then Some (mark_at d) else mark_in ds name

-- the mark is of another line
abbrev pub is_elsewhere : ℕ → Option Mark → Bool
is_elsewhere line None = true
is_elsewhere line (Some mark) = not (mark.line == line)

-- the first line that declares a name whose mark is of another line
abbrev pub first_repeat : (List ℕ → Option Mark) → List Declared → Option ℕ
first_repeat marked [] = None
first_repeat marked (d ∷ ds) = if is_elsewhere d.line (marked d.name.now) then Some d.line else first_repeat marked ds

-- each has the number of its name, and their lines rise, from this one on and below that one
abbrev pub AreDeclared : ℕ → List Declared → ℕ → Type 0
AreDeclared low [] high = low ≤ high
AreDeclared low (d ∷ ds) high = (d.key ≡ key_of d.name.now) × (low ≤ d.line) × AreDeclared (d.line + 1) ds high

-- ---- in order of their names

-- two names by their numbers, and by their bytes where these are the same
abbrev pub rank : ℕ → List ℕ → ℕ → List ℕ → Ordering
rank key name other_key other = ordering_then (nat_cmp key other_key) (slice_cmp nat_cmp name other)

-- two declarations by their names, and where these are the same, by their places
abbrev pub whole_rank : Declared → Declared → Ordering
whole_rank a b = ordering_then (nat_cmp a.key b.key) (ordering_then (slice_cmp nat_cmp a.name.now b.name.now) (ordering_then (nat_cmp a.line b.line) (nat_cmp a.slot b.slot)))

-- the declaration stands before those of this name
abbrev pub is_before : Declared → ℕ → List ℕ → Bool
is_before d key name = is_lt (rank d.key d.name.now key name)

pub record AreInOrder (ds : List Declared) : Type 0 where
  pub sorted : IsSorted whole_rank ds
  -- each has the number of its name
  pub keyed : All (λ d. d.key ≡ key_of d.name.now) ds

-- the marks of names, each the lowest of its declarations
pub record AreMarks (ds : List Declared) (marked : List ℕ → Option Mark) : Type 0 where
  pub first : (d : Declared) → Contains ds d → ((e : Declared) → Contains ds e → e.name.now ≡ d.name.now → d.line ≤ e.line) → marked d.name.now ≡ Some (mark_at d)
  pub absent : (name : List ℕ) → ((e : Declared) → Contains ds e → e.name.now ≢ name) → marked name ≡ None

-- the second repeats the name of the first, on a later line
abbrev pub repeats : Declared → Declared → Bool
repeats before d = before.key == d.key && nat_lt before.line d.line && same before.name.now d.name.now

abbrev pub lower : Option ℕ → ℕ → Option ℕ
lower None line = Some line
lower (Some found) line = if nat_le found line then Some found else Some line

-- no neighbours among the first n are repeats
abbrev pub NoneRepeats : List Declared → ℕ → Type 0
NoneRepeats ds n = (k : ℕ) (d : Declared) → k + 1 < n → repeats (slice_index_or ds k d) (slice_index_or ds (k + 1) d) ≡ false

-- two declarations, of which the second repeats the first on this line, and each repeat of a neighbour among the first n is on this line or a later one
pub record IsLowestRepeat (ds : List Declared) (n least : ℕ) : Type 0 where
  pub before : Declared
  pub again : Declared
  pub inside : Contains ds before × Contains ds again
  pub repeat : repeats before again ≡ true
  pub at : again.line ≡ least
  pub lowest : (k : ℕ) (d : Declared) → k + 1 < n → repeats (slice_index_or ds k d) (slice_index_or ds (k + 1) d) ≡ true → least ≤ (slice_index_or ds (k + 1) d).line

-- the lowest line of a repeat among the first n, where there is one
abbrev pub IsLowest : List Declared → ℕ → Option ℕ → Type 0
IsLowest ds n None = NoneRepeats ds n
IsLowest ds n (Some line) = IsLowestRepeat ds n line

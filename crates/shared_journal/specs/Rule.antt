-- What each seat knows is a beginning of the journal, and each number's entries are known to the one seat that has it.
use Rattle.std.specs.Prelude.{◌≡◌, ◌≢◌, ℕ, suc, ◌<◌, ◌≤◌, ◌==◌, not, true, false, List, [], ◌∷◌, ◌++◌, map, filter, length, sum, slice_index, Option, Some}
use mathlib.Core.Option.{some}
use lib.ListN.{get_elem?}
use Rattle.atomic_table.specs.Table.{State, Me}
use Rattle.shared_journal.specs.declared.view.Own.{Own}
use Rattle.shared_journal.specs.declared.view.View.{View}
use Rattle.shared_journal.specs.Entries.{IsAmong, StartsWith, entries_by}

-- the numbers from this one on, each with what it may make, and without entries
abbrev pub fresh_numbers : {E : Type 0} → List ℕ → ℕ → ℕ → List ℕ → List (Own E)
fresh_numbers opening limit k [] = []
fresh_numbers opening limit k (a ∷ more) = record { number = k; allowed = a; opening = opening; limit = limit; entries = [] } ∷ fresh_numbers opening limit (suc k) more

-- the view of the first seat, which has all numbers
abbrev pub first_view : {E : Type 0} → List ℕ → List ℕ → ℕ → View E
first_view allowed opening limit = record { list = []; joined = []; own = fresh_numbers opening limit 0 allowed; out = false }

-- a seat that knows nothing
abbrev pub spent : {E : Type 0} → View E
spent = record { list = []; joined = []; own = []; out = false }

-- one seat of two: it has both lists and all numbers
abbrev pub both : {E : Type 0} → View E → View E → View E
both v w = record v { joined = w.list ∷ v.joined; own = w.own ++ v.own }

-- a seat without a number, with the same list
abbrev pub unnumbered : {E : Type 0} → View E → View E
unnumbered v = record { list = v.list; joined = []; own = []; out = false }

-- all but the first number
abbrev pub rest_of : {E : Type 0} → List (Own E) → List (Own E)
rest_of [] = []
rest_of (o ∷ os) = filter (λ p. not (p.number == o.number)) os

abbrev pub first_of : {E : Type 0} → List (Own E) → List (Own E)
first_of [] = []
first_of (o ∷ os) = o ∷ []

abbrev pub without_first : {E : Type 0} → View E → View E
without_first v = record v { own = rest_of v.own }

abbrev pub only_first : {E : Type 0} → View E → View E
only_first v = record { list = v.list; joined = []; own = first_of v.own; out = false }

-- the view once the journal with these entries is out
abbrev pub with_out : {E : Type 0} → View E → List E → View E
with_out v total = record v { list = total; joined = []; out = true }

-- a number with its entries among these
abbrev pub counted : {E : Type 0} → (E → ℕ) → List E → Own E → Own E
counted worker total o = record o { entries = entries_by worker o.number total }

-- the view once the journal is back with these entries
abbrev pub with_in : {E : Type 0} → (E → ℕ) → View E → List E → View E
with_in worker v total = record v { list = total; own = map (counted worker total) v.own; out = false }

-- a number that a seat has is this seat's alone, with exactly the entries of that number
pub record OwnsNumber {E : Type 0} (worker : E → ℕ) (allowed opening : List ℕ) (limit : ℕ) (total : List E) (owner : ℕ → ℕ) (seat : ℕ) (o : Own E) : Type 0 where
  pub alone : owner o.number ≡ seat
  pub below : o.number < length allowed
  pub allowed_is : o.allowed ≡ slice_index allowed o.number
  pub opening_is : o.opening ≡ opening
  pub limit_is : o.limit ≡ limit
  pub exactly : o.entries ≡ entries_by worker o.number total

-- what a seat's view tells, where the journal has these entries and was last taken out by the seat `holder`
pub record SeatTells {E : Type 0} (worker : E → ℕ) (allowed opening : List ℕ) (limit : ℕ) (total : List E) (owner : ℕ → ℕ) (holder word seat : ℕ) (v : View E) : Type 0 where
  pub begins : StartsWith total v.list
  pub joined : (l : List E) → IsAmong l v.joined → StartsWith total l
  pub own : (o : Own E) → IsAmong o v.own → OwnsNumber worker allowed opening limit total owner seat o
  -- who has the journal out knows all of it
  pub out : v.out ≡ true → (word ≡ 1) × (seat ≡ holder) × (v.list ≡ total)

module _ {J E : Type 0} (entries : J → List E) (limit : J → ℕ) (opening : J → List ℕ) (legal : List ℕ → List E → Type 0) (worker : E → ℕ) where
  -- the journal stands in the table's one place, with these entries
  abbrev pub IsHome : List ℕ → ℕ → List E → State (Option J) (View E) → Type 0
  IsHome root most total s = (x : J) × (get_elem? s.homes 0 ≡ some (some (Some x))) × (entries x ≡ total) × (opening x ≡ root) × (limit x ≡ most)

  -- a seat that has a number has the journal out
  abbrev pub IsAway : ℕ → (ℕ → ℕ) → ℕ → State (Option J) (View E) → Type 0
  IsAway count owner holder s = (k : ℕ) × (k < count) × (owner k ≡ holder) × ((u : View E) × (get_elem? s.views holder ≡ some u) × (u.out ≡ true))

  pub record IsInTurn (allowed root : List ℕ) (most : ℕ) (s : State (Option J) (View E)) : Type 0 where
    pub total : List E
    -- which seat has a number
    pub owner : ℕ → ℕ
    pub holder : ℕ
    pub one : length s.words ≡ 1
    pub home : slice_index s.words 0 ≡ 0 → IsHome root most total s
    pub away : slice_index s.words 0 ≢ 0 → IsAway (length allowed) owner holder s
    -- no number made more entries than it may, and there is room for all that may be made
    pub within : (k : ℕ) → length (entries_by worker k total) ≤ slice_index allowed k
    pub room : sum allowed ≤ most
    pub lawful : legal root total
    pub seated : (seat : ℕ) (v : View E) → get_elem? s.views seat ≡ some v → SeatTells worker allowed root most total owner holder (slice_index s.words 0) seat v

  -- what taking the journal out tells of it and of a number that the seat has
  pub record KnowsOwn (o : Own E) (x : J) : Type 0 where
    pub exactly : o.entries ≡ entries_by worker o.number (entries x)
    pub opening_is : opening x ≡ o.opening
    pub limit_is : limit x ≡ o.limit
    -- while the number may make an entry, the journal has room
    pub room : length o.entries < o.allowed → length (entries x) < limit x
    pub lawful : legal o.opening (entries x)

  -- what taking the journal out tells of it
  pub record KnowsOf (v : View E) (x : J) : Type 0 where
    pub begins : StartsWith (entries x) v.list
    pub joined : (l : List E) → IsAmong l v.joined → StartsWith (entries x) l
    pub own : (o : Own E) → IsAmong o v.own → KnowsOwn o x

  pub record TakesOut (m m' : Me (Option J) (View E)) : Type 0 where
    pub journal : J
    pub carried : m'.1 ≡ (0, Some journal) ∷ m.1
    pub view : m'.0 ≡ with_out m.0 (entries journal)
    pub knows : KnowsOf m.0 journal

  -- the journal is taken out where the word was 0; else nothing changes
  abbrev pub take_play : Me (Option J) (View E) → ℕ → Me (Option J) (View E) → Type 0
  take_play m n m' = (n ≡ 0 → TakesOut m m') × (n ≢ 0 → m' ≡ m)

module _ {J E : Type 0} (entries : J → List E) (worker : E → ℕ) where
  -- the journal that the seat carries is back
  abbrev pub put_play : Me (Option J) (View E) → Me (Option J) (View E) → Type 0
  put_play m m' = (x : J) → m.1 ≡ (0, Some x) ∷ [] → (m'.1 ≡ []) × (m'.0 ≡ with_in worker m.0 (entries x))

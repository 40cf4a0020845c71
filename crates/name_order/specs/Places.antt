-- Names at their places, and how a list of them grows.
use Rattle.std.specs.Prelude.{◌≡◌, ◌<◌, ℕ, List, ◌++◌, length, drop, slice_index, All, Contains}
use Rattle.std.specs.List.{AllByRecursion}
use Rattle.std.specs.Io.{StartsWith}
use Rattle.std.specs.Int.{from_be_bytes, w64}
use Rattle.std.specs.Ordering.{nat_cmp, ordering_then}
use Rattle.std.specs.Cmp.Lexicographic.{slice_cmp}
use Rattle.std.specs.declared.cmp.Ordering.{Ordering}
use Rattle.name_order.specs.Names.{name_at}
use Rattle.name_order.specs.declared.ordered.Placed.{Placed}

-- the name stands at this place
abbrev pub StandsAt : List (List ℕ) → ℕ → List ℕ → Type 0
StandsAt names k name = (k < length names) × (name_at names k ≡ name)

-- some of these names were put behind the others, two at most
pub record ArePutBehind (old from new : List (List ℕ)) : Type 0 where
  pub more : List (List ℕ)
  pub few : length more < 3
  pub among : AllByRecursion (Contains from) more
  pub is : new ≡ old ++ more

-- where each of the names stands among others
pub record ArePlaces (names others : List (List ℕ)) (places : List ℕ) : Type 0 where
  pub many : length places ≡ length names
  pub each : (k : ℕ) → k < length names → StandsAt others (slice_index places k) (name_at names k)

-- the number that the first eight of these bytes make, the first of them the highest; fewer go on with noughts
pub record IsHead (head : ℕ) (bytes : List ℕ) : Type 0 where
  pub small : (i : ℕ) → i < 8 → slice_index bytes i < 256
  pub is : head ≡ from_be_bytes w64 bytes

-- the name begins so, and its head is that of the bytes behind
pub record IsHeaded (front : List ℕ) (p : Placed) : Type 0 where
  pub begins : StartsWith p.name.items front
  pub head : IsHead p.head (drop (length front) p.name.items)

-- all names begin alike, and the heads are those of the bytes behind
abbrev pub AreHeaded : List Placed → Type 0
AreHeaded ps = (front : List ℕ) × All (IsHeaded front) ps

-- two names by their heads, where these are the same by all their bytes, and where these are the same by their places
abbrev pub rank : Placed → Placed → Ordering
rank a b = ordering_then (nat_cmp a.head b.head)
    (ordering_then (slice_cmp nat_cmp a.name.items b.name.items) (nat_cmp a.place b.place))

-- each has its place among the names, and each place is there
pub record ArePlaced (names : List (List ℕ)) (ps : List Placed) : Type 0 where
  pub each : All (λ p. StandsAt names p.place p.name.items) ps
  pub whole : (k : ℕ) → k < length names → (p : Placed) × Contains ps p × (p.place ≡ k)

-- the same place has the same name
abbrev pub HaveOneName : List Placed → Type 0
HaveOneName ps = (p q : Placed) → Contains ps p → Contains ps q → p.place ≡ q.place → p.name.items ≡ q.name.items

-- what is told at its place is where its name stands
abbrev pub IsTold : List (List ℕ) → List ℕ → Placed → Type 0
IsTold names places p = StandsAt names (slice_index places p.place) p.name.items

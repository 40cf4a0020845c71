-- The current word only rises, by one version at each publication, and each word that a seat has loaded was published.
use Rattle.std.specs.Prelude.{◌≡◌, ◌⊎◌, ℕ, ◌+◌, ◌*◌, ◌/◌, ◌%◌, ◌<◌, ◌≤◌, true, false, List, [], ◌∷◌, ◌++◌, length, slice_get, slice_index, Some}
use mathlib.Core.Option.{some}
use lib.ListN.{get_elem?}
use Rattle.atomic_table.specs.Table.{State, Me}
use Rattle.shfl_policy.specs.Policies.{PolicyModel}
use Rattle.policy_versions.specs.declared.view.View.{View}

-- a version is below this
abbrev pub VERSIONS : ℕ
VERSIONS = 4294967296

-- the word of a version and of its policy's place among the declared ones
abbrev pub word_of : ℕ → ℕ → ℕ
word_of version which = version + VERSIONS * which

abbrev pub version_of : ℕ → ℕ
version_of word = word % VERSIONS

abbrev pub which_of : ℕ → ℕ
which_of word = word / VERSIONS

abbrev pub IsAmong : ℕ → List ℕ → Type 0
IsAmong n [] = ⊥
IsAmong n (x ∷ xs) = (n ≡ x) ⊎ IsAmong n xs

-- the word stands at its version's place among those that were current
abbrev pub IsPublished : List ℕ → ℕ → Type 0
IsPublished words word = slice_get words (version_of word) ≡ Some word

-- each word stands at its version's place, and names one of so many declared policies
abbrev pub AreNumbered : ℕ → List ℕ → Type 0
AreNumbered count words = (i word : ℕ) → slice_get words i ≡ Some word → (version_of word ≡ i) × (which_of word < count)

-- what a seat's view tells, where these words were current
pub record SeatTells (declared : List PolicyModel) (words : List ℕ) (seat : ℕ) (v : View) : Type 0 where
  pub knows : v.spent ≡ false → v.declared ≡ declared
  -- the first seat alone publishes, and knows all the words
  pub publisher : v.publisher ≡ true → (seat ≡ 0) × (v.words ≡ words)
  -- a word that was loaded was published
  pub seen : (word : ℕ) → IsAmong word v.seen → IsPublished words word

pub record IsConsistent (declared : List PolicyModel) (s : State (Unit {0}) View) : Type 0 where
  -- all words that were current, the last of them the table's
  pub words : List ℕ
  pub before : List ℕ
  pub one : length s.words ≡ 1
  pub current : words ≡ before ++ slice_index s.words 0 ∷ []
  -- version 0 is the first policy
  pub first : slice_get words 0 ≡ Some 0
  pub numbered : AreNumbered (length declared) words
  pub seated : (seat : ℕ) (v : View) → get_elem? s.views seat ≡ some v → SeatTells declared words seat v

abbrev pub first_view : List PolicyModel → View
first_view declared = record { publisher = true; declared = declared; words = 0 ∷ []; seen = []; spent = false }

abbrev pub user_view : List PolicyModel → View
user_view declared = record { publisher = false; declared = declared; words = []; seen = []; spent = false }

abbrev pub spent : View
spent = record { publisher = false; declared = []; words = []; seen = []; spent = true }

-- what the second seat has seen comes to the first
abbrev pub given_back : View → View → View
given_back v w = record v { seen = w.seen ++ v.seen }

abbrev pub see : View → ℕ → View
see v word = record v { seen = word ∷ v.seen }

abbrev pub raise : View → ℕ → View
raise v word = record v { words = v.words ++ word ∷ [] }

-- a load notes the word, which names a declared policy and isn't below one that the seat has seen
abbrev pub loaded : Me (Unit {0}) View → ℕ → Me (Unit {0}) View → Type 0
loaded m n m' = (m'.0 ≡ see m.0 n) × (m'.1 ≡ m.1) × (which_of n < length m.0.declared) × ((k : ℕ) → IsAmong k m.0.seen → version_of k ≤ version_of n)

-- a raise adds its word to those that were current
abbrev pub raised : Me (Unit {0}) View → ℕ → Me (Unit {0}) View → Type 0
raised m n m' = (m'.0 ≡ raise m.0 n) × (m'.1 ≡ m.1)

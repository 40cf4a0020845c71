-- The layouts of the words, and how a word is read.
use Rattle.std.specs.Prelude.{◌≡◌, ℕ, ◌+◌, ◌*◌, ◌/◌, ◌%◌, ◌^◌, ◌<◌, ◌≤◌, Bool, true, false, ◌==◌, Option, Some, None, suc}
use Rattle.shfl_line.specs.declared.words.LockWord.{LockWord}
use Rattle.shfl_line.specs.declared.words.NodeState.{NodeState}
use Rattle.shfl_line.specs.declared.words.Attr.{Attr}

abbrev pub bit : Bool → ℕ
bit true = 1
bit false = 0

-- the lock word: held in bit 0, closed in bit 8, and the readers in the high half
abbrev pub packed_lock : Bool → Bool → ℕ → ℕ
packed_lock held closed readers = 1 * bit held + 256 * bit closed + 4294967296 * readers

abbrev pub lock_word : LockWord → ℕ
lock_word w = packed_lock w.held w.closed w.readers

abbrev pub held_of : ℕ → Bool
held_of word = word % 2 == 1

abbrev pub closed_of : ℕ → Bool
closed_of word = word / 256 % 2 == 1

abbrev pub readers_of : ℕ → ℕ
readers_of word = word / 4294967296

abbrev pub lock_of : ℕ → LockWord
lock_of word = record { held = held_of word; closed = closed_of word; readers = readers_of word }

-- the number is the lock word of these fields
pub record IsLockWord (word : ℕ) : Type 0 where
  pub held : Bool
  pub closed : Bool
  pub readers : ℕ
  pub few : readers < 2 ^ 32
  pub is : word ≡ packed_lock held closed readers

-- a node's state word: ready, shuffler, parked and spin in bits 0 to 3, and the batch from bit 16 on
abbrev pub packed_state : Bool → Bool → Bool → Bool → ℕ → ℕ
packed_state ready shuffler parked spin batch =
    1 * bit ready + 2 * bit shuffler + 4 * bit parked + 8 * bit spin + 65536 * batch

abbrev pub state_word : NodeState → ℕ
state_word s = packed_state s.ready s.shuffler s.parked s.spin s.batch

abbrev pub ready_of : ℕ → Bool
ready_of word = word % 2 == 1

abbrev pub shuffler_of : ℕ → Bool
shuffler_of word = word / 2 % 2 == 1

abbrev pub parked_of : ℕ → Bool
parked_of word = word / 4 % 2 == 1

abbrev pub spin_of : ℕ → Bool
spin_of word = word / 8 % 2 == 1

abbrev pub batch_of : ℕ → ℕ
batch_of word = word / 65536

abbrev pub state_of : ℕ → NodeState
state_of word = record {
  ready = ready_of word;
  shuffler = shuffler_of word;
  parked = parked_of word;
  spin = spin_of word;
  batch = batch_of word;
}

-- the number is the state word of these fields, with a batch of at most 1,024
pub record IsStateWord (word : ℕ) : Type 0 where
  pub ready : Bool
  pub shuffler : Bool
  pub parked : Bool
  pub spin : Bool
  pub batch : ℕ
  pub few : batch ≤ 1024
  pub is : word ≡ packed_state ready shuffler parked spin batch

-- the attribute word: four numbers of 16 bits
abbrev pub attr_word : Attr → ℕ
attr_word a = a.socket + 2 ^ 16 * a.prio + 2 ^ 32 * a.class + 2 ^ 48 * a.kind

abbrev pub attr_of : ℕ → Attr
attr_of word = record {
  socket = word % 2 ^ 16;
  prio = word / 2 ^ 16 % 2 ^ 16;
  class = word / 2 ^ 32 % 2 ^ 16;
  kind = word / 2 ^ 48;
}

-- a next word or the tail word: 0 for none, else the pass plus 1
abbrev pub link_word : Option ℕ → ℕ
link_word None = 0
link_word (Some pass) = suc pass

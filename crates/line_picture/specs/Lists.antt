-- What may stand in the columns of an event's line, in a lock of so many passes.
use Rattle.std.specs.Prelude.{ℕ, ◌+◌, ◌-◌, ◌^◌, List, [], ◌∷◌, Bool, true, false, ◌&&◌, ◌||◌, Option, Some, None, nat_lt, ◌==◌, position, take, drop, codes, if◌then◌else◌}
use Rattle.std.specs.List.{list_all, slice_split}
use Rattle.std.specs.Option.{option_map_or}
use Rattle.shfl_line.specs.declared.events.Form.{Form}
use Rattle.shfl_line.specs.declared.events.Form.TheVariants.{Spin, Rw, Park, RwPark}
use Rattle.shfl_line.specs.declared.words.LockWord.{LockWord}
use Rattle.shfl_line.specs.Words.{lock_word, lock_of}
use Rattle.doc_text.specs.Words.{same, ◌>>?◌}
use Rattle.doc_text.specs.Numbers.{number_in}

-- the forms in which readers may hold the lock
abbrev pub has_readers : Form → Bool
has_readers Spin = false
has_readers Rw = true
has_readers Park = false
has_readers RwPark = true

-- the forms in which waiters sleep
abbrev pub has_sleepers : Form → Bool
has_sleepers Spin = false
has_sleepers Rw = false
has_sleepers Park = true
has_sleepers RwPark = true

-- this number, as an event's, of which there are at most 65,536
abbrev pub is_number : ℕ → List ℕ → Bool
is_number number word = option_map_or (λ n. n == number) (number_in 65536 word) false

-- the number of one of these passes, of which there are at most 64
abbrev pub is_pass : ℕ → List ℕ → Bool
is_pass passes word = option_map_or (λ n. nat_lt n passes) (number_in 63 word) false

-- where the first colon stands
abbrev pub colon_in : List ℕ → Option ℕ
colon_in word = position (λ b. b == 58) word

-- what stands before the first colon, and behind it; where there is none, all of it and nothing
abbrev pub before_colon : List ℕ → List ℕ
before_colon word = option_map_or (λ i. take i word) (colon_in word) word

abbrev pub behind_colon : List ℕ → List ℕ
behind_colon word = option_map_or (λ i. drop (i + 1) word) (colon_in word) []

-- the parts between commas
abbrev pub parts : List ℕ → List (List ℕ)
parts word = slice_split (λ b. b == 44) word

-- a dash, or parts that are each so
abbrev pub is_list : (List ℕ → Bool) → List ℕ → Bool
is_list is_part word = same word (codes "-") || list_all is_part (parts word)

-- a batch number, 0 to 1024
abbrev pub is_batch : List ℕ → Bool
is_batch word = option_map_or (λ n. true) (number_in 1024 word) false

-- `PASS:BATCH`
abbrev pub is_waiter : ℕ → List ℕ → Bool
is_waiter passes part = is_pass passes (before_colon part) && is_batch (behind_colon part)

-- `wP`, and `rP` where readers may hold the lock
abbrev pub is_holder : Form → ℕ → List ℕ → Bool
is_holder form passes [] = false
is_holder form passes (b ∷ bs) = (b == 119 || (b == 114 && has_readers form)) && is_pass passes bs

-- `-`, or a pass
abbrev pub is_detached : ℕ → List ℕ → Bool
is_detached passes word = same word (codes "-") || is_pass passes word

-- `-`, `rest:P` or `walk:P`
abbrev pub is_shuffler : ℕ → List ℕ → Bool
is_shuffler passes word = same word (codes "-") ||
    ((same (before_colon word) (codes "rest") || same (before_colon word) (codes "walk")) && is_pass passes (behind_colon word))

-- `write`, `free` or `step`, and `read` where readers may hold the lock
abbrev pub is_act : Form → List ℕ → Bool
is_act form word = same word (codes "write") || same word (codes "free") || same word (codes "step")
    || (same word (codes "read") && has_readers form)

-- `yes` or `no`
abbrev pub answer_in : List ℕ → Option Bool
answer_in word = if same word (codes "yes") then Some true else if same word (codes "no") then Some false else None

-- the lock word that a number is
abbrev pub lock_in : List ℕ → Option LockWord
lock_in word = number_in (2 ^ 64 - 1) word >>? λ n. if lock_word (lock_of n) == n then Some (lock_of n) else None

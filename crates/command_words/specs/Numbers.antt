-- The three words behind `bulk`.
use Rattle.std.specs.Prelude.{◌<◌, ◌≤◌, ℕ, List, [], ◌∷◌, Option, Some, None, ◌==◌, if◌then◌else◌}
use Rattle.std.specs.Fmt.{decimal}
use Rattle.doc_text.specs.Numbers.{number_in}
use Rattle.doc_text.specs.Words.{◌>>?◌}
use Rattle.command_words.specs.declared.numbers.BulkWords.{BulkWords}

-- a seed of 64 bits, 1 to 16 workers, and at most 65,000 calls
pub record AreInRange (b : BulkWords) : Type 0 where
  pub some : 0 < b.workers
  pub few_workers : b.workers ≤ 16
  pub few_calls : b.calls ≤ 65000

-- each number in decimal, without a sign or a leading zero
abbrev pub spelled : BulkWords → List (List ℕ)
spelled b = decimal b.seed ∷ decimal b.workers ∷ decimal b.calls ∷ []

abbrev pub numbers_in : List ℕ → List ℕ → List ℕ → Option BulkWords
numbers_in seed workers calls =
    number_in 18446744073709551615 seed >>? λ s. number_in 16 workers >>? λ w. number_in 65000 calls >>? λ c.
    if w == 0 then None else Some (record { seed = s; workers = w; calls = c })

-- the numbers, where the words are three and are in range
abbrev pub words_in : List (List ℕ) → Option BulkWords
words_in (seed ∷ workers ∷ calls ∷ []) = numbers_in seed workers calls
words_in words = None

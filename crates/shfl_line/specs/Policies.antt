-- What a policy was asked and answered, and what it was told.
use Rattle.std.specs.Prelude.{◌≡◌, ◌⊎◌, ℕ, List, ◌++◌, Option, Some, None, Bool}
use Rattle.shfl_line.specs.declared.words.Attr.{Attr}
use Rattle.shfl_line.specs.declared.choosers.Answer.{Answer}
use Rattle.shfl_line.specs.declared.choosers.Told.{Told}

abbrev pub skip_answer : Attr → ℕ → Bool → Answer
skip_answer anchor batch answer = record { anchor = anchor; waiter = None; batch = batch; answer = answer }

abbrev pub should_answer : Attr → Attr → ℕ → Bool → Answer
should_answer anchor waiter batch answer = record { anchor = anchor; waiter = Some waiter; batch = batch; answer = answer }

-- a policy that keeps what it was told adds this, or keeps it no more; one that doesn't, goes on so
abbrev pub Adds : Option (List Told) → Option (List Told) → List Told → Type 0
Adds None new more = new ≡ None
Adds (Some old) new more = (new ≡ Some (old ++ more)) ⊎ (new ≡ None)

-- Reading a document line by line: a value, or the first bad line and the lowest fault on it.
use Rattle.std.specs.Prelude.{◌≡◌, ℕ, ◌+◌, List, [], ◌∷◌, ◌++◌, Option, Some, None, Result, Ok, Err, MatchOption, if◌then◌else◌}
use Rattle.doc_text.specs.declared.fault.Fault.{Fault}
use Rattle.doc_text.specs.Text.{text_in}
use Rattle.doc_text.specs.Words.{words, same}

abbrev pub fault : {A : Type 0} → ℕ → ℕ → Result A Fault
fault line what = Err (record { line = line; what = what })

-- the second step, unless the first has a fault
infixl 10 ◌>>=◌
abbrev pub ◌>>=◌ : {A B : Type 0} → Result A Fault → (A → Result B Fault) → Result B Fault
(Ok x) >>= f = f x
(Err e) >>= f = Err e

-- the value, or a fault of this line
abbrev pub or_fault : {A : Type 0} → ℕ → ℕ → Option A → Result A Fault
or_fault line what None = fault line what
or_fault line what (Some x) = Ok x

-- behind a step of a relation: its fault, or what its value leads to
abbrev pub Then : {A B : Type 0} → Result A Fault → (A → Result B Fault → Type 0) → Result B Fault → Type 0
Then (Ok x) next read = next x read
Then (Err e) next read = read ≡ Err e

-- the text of a line that is due, and the pieces behind it; an unfinished line or a bad byte is fault 1
unfoldable pub line_due : ℕ → ℕ → List (List ℕ) → Result (List ℕ × List (List ℕ)) Fault
line_due line what [] = fault line what
line_due line what (p ∷ ps) = or_fault line 1 (text_in p) >>= λ t. Ok (t, ps)

-- the same where the text can be only this one
unfoldable pub fixed_due : ℕ → ℕ → List ℕ → List (List ℕ) → Result (List (List ℕ)) Fault
fixed_due line what text ps = line_due line what ps >>= λ l. if same l.0 text then Ok l.1 else fault line what

-- a value that the words of one line give, and the pieces behind it
unfoldable pub one_of : {A : Type 0} → ℕ → ℕ → (List (List ℕ) → Option A) → List (List ℕ) → Result (A × List (List ℕ)) Fault
one_of line what find ps = line_due line what ps >>= λ l. or_fault line what (find (words l.0)) >>= λ x. Ok (x, l.1)

-- What all lines to the end say, from this line on. Each is read in the light of those before it:
-- `says` takes what was read before, the line's number and its text.
unfoldable pub lines_from : {A : Type 0} → (List A → ℕ → List ℕ → Result A Fault) → List A → ℕ → List (List ℕ) → Result (List A) Fault
lines_from says before line [] = Ok before
lines_from says before line (p ∷ ps) = or_fault line 1 (text_in p) >>= λ t. says before line t >>= λ a. lines_from says (before ++ a ∷ []) (line + 1) ps

-- one more of a section's lines, or none where the line at hand ends it
abbrev pub or_end : {A B : Type 0} → Option A → B → (A → B) → B
or_end None end more = end
or_end (Some a) end more = more a

-- The lines of a section, and the pieces from the line on that ends it. At that line `says` gives none.
-- `due` is the fault where the document ends before.
unfoldable pub section_from : {A : Type 0} → (List A → ℕ → List ℕ → Result (Option A) Fault) → (List A → ℕ) → List A → ℕ → List (List ℕ) → Result (List A × List (List ℕ)) Fault
section_from says due before line [] = fault line (due before)
section_from says due before line (p ∷ ps) = or_fault line 1 (text_in p) >>= λ t. says before line t >>= λ o. or_end o (Ok (before, p ∷ ps)) (λ a. section_from says due (before ++ a ∷ []) (line + 1) ps)

-- What a reader returned, as `view` sees it, is what the definition gives.
abbrev pub Gives : {X Y : Type 0} → (X → Y) → Result X Fault → Result Y Fault → Type 0
Gives view (Ok x) read = read ≡ Ok (view x)
Gives view (Err e) read = read ≡ Err e

-- The same of a reader that may also want memory: `fault_of` says which errors are faults, and which one.
abbrev pub GivesOrWants : {X Y E : Type 0} → (E → Option Fault) → (X → Y) → Result X E → Result Y Fault → Type 0
GivesOrWants fault_of view (Ok x) read = read ≡ Ok (view x)
GivesOrWants fault_of view (Err e) read = MatchOption (fault_of e) (Unit {0}) (λ f. read ≡ Err f)

-- The rule of a policy as the last words of a line.
use Rattle.std.specs.Prelude.{ℕ, List, ◌∷◌, ◌&&◌, Option, Some, None, if◌then◌else◌, codes}
use Rattle.doc_text.specs.Words.{is_word, same, one, three, ◌>>?◌}
use Rattle.policy_text.specs.Programs.{source_in}
use Rattle.policy_text.specs.declared.rules.RuleSource.{RuleSource}
use Rattle.policy_text.specs.declared.rules.RuleSource.TheVariants as said

-- the words behind the first, of which there are some, where it is this one
abbrev pub words_behind : List ℕ → List (List ℕ) → Option (List (List ℕ))
words_behind word (w ∷ v ∷ ws) = if same w word then Some (v ∷ ws) else None
words_behind word ws = None

-- the first value, or else the second
abbrev pub otherwise : {A : Type 0} → Option A → Option A → Option A
otherwise None second = second
otherwise (Some a) second = Some a

abbrev pub rule_named : List ℕ → Option RuleSource
rule_named word =
    if same word (codes "never") then Some said.Never
    else if same word (codes "always") then Some said.Always
    else if same word (codes "socket") then Some said.Socket
    else None

-- `never`, `always` or `socket`
abbrev pub simple_rule_in : List (List ℕ) → Option RuleSource
simple_rule_in ws = one ws >>? rule_named

-- the two words of the programs in `program SHOULD SKIP`
abbrev pub program_words_in : List (List ℕ) → Option (List ℕ × List ℕ)
program_words_in ws = three ws >>? λ w. if same w.0 (codes "program") && is_word w.1 && is_word w.2 then Some (w.1, w.2) else None

-- `program SHOULD SKIP`
abbrev pub program_rule_in : List (List ℕ) → Option RuleSource
program_rule_in ws = program_words_in ws >>? λ w. source_in w.0 w.1 >>? λ source. Some (said.Program source)

-- a rule, its programs still as bytes
abbrev pub rule_in : List (List ℕ) → Option RuleSource
rule_in ws = otherwise (simple_rule_in ws) (program_rule_in ws)

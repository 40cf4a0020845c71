-- What the board keeps between two calls.
use Rattle.std.specs.Prelude.{◌≡◌, ℕ, ◌≤◌, List, [], length}
use mathlib.Core.Option.{some}
use lib.ListN.{get_elem?}
use Rattle.atomic_table.specs.Table.{Me}
use Rattle.atomic_table.specs.Seated.{TableId}
use Rattle.shfl_core.specs.declared.phase.Rules.{Rules}
use Rattle.shfl_core.specs.declared.phase.PassState.{PassState}
use Rattle.shfl_core.specs.Words.{wide}
use Rattle.shfl_core.specs.Lawful.{count, Lawful}
use Rattle.shfl_solo.specs.declared.rule.Whole.{Whole}
use Rattle.shfl_solo.specs.declared.rule.Opening.{Opening}
use Rattle.shfl_solo.specs.Rule.{opening_terms, IsSeen}

-- the board with these rules, words and passes has this seat of the table
pub record IsSolo (rules : Rules) (words : List ℕ) (passes : List PassState) (key : Opening) (id table : TableId) (seat : ℕ) (me : Me (Unit {0}) Whole) : Type 0 where
  pub rules_are : key.rules ≡ rules
  pub table_is : table ≡ id
  pub long : id.words ≡ wide (length passes)
  pub few : length passes ≤ 64
  -- each word is as it was read last
  pub words_are : words ≡ me.0.words
  -- it is the first seat, and has no slots
  pub first : seat ≡ 0
  pub bare : me.1 ≡ []
  -- the view has every pass, but for what it began since its last step
  pub seen : (p : ℕ) (q : PassState) → get_elem? passes p ≡ some q → IsSeen rules.form p q me.0.passes
  -- the lock is lawful as its passes stand, by the terms of its opening
  pub full : length passes ≡ count (opening_terms key)
  pub lawful : Lawful (opening_terms key) (record { words = me.0.words; passes = passes })

-- Calls whose names are parts of a document, seen as what they say.
use Rattle.std.specs.Prelude.{◌≡◌, ◌<◌, ℕ, List, [], ◌∷◌, true, Some, None, option_map}
use Rattle.std.specs.List.{flat_map}
use Rattle.trace_text.specs.declared.spelled.SpelledAct.{SpelledAct}
use Rattle.trace_text.specs.declared.spelled.SpelledAct.TheVariants as spelled
use Rattle.trace_text.specs.declared.spelled.SpelledCall.{SpelledCall}
use Rattle.trace_text.specs.Document.{Act, make, drop_name, rename, find, count, next, attach, CallLine, PolicyLine}
use Rattle.trace_text.specs.Lines.{is_in_range, may_do}

abbrev pub act_said : SpelledAct → Act
act_said (spelled.Make dir name) = make dir name.now
act_said (spelled.Drop dir name) = drop_name dir name.now
act_said (spelled.Rename dir name to_dir to_name) = rename dir name.now to_dir to_name.now
act_said (spelled.Find dir name) = find dir name.now
act_said (spelled.Count dir) = count dir
act_said (spelled.Next dir after) = next dir (option_map (λ n. n.now) after)
act_said (spelled.Attach name) = attach name.now

abbrev pub call_said : SpelledCall → CallLine
call_said c = record { worker = c.worker; act = act_said c.act }

-- a call of a worker that there is, within the ranges, and one that the worker may make
pub record MayBe (workers : ℕ) (policies : List PolicyLine) (c : CallLine) : Type 0 where
  pub known : c.worker < workers
  pub ranged : is_in_range c.act ≡ true
  pub may : may_do policies c.worker c.act ≡ true

-- the names of the directory in a call
abbrev pub act_names : Act → List (List ℕ)
act_names (make dir name) = name ∷ []
act_names (drop_name dir name) = name ∷ []
act_names (rename dir name to_dir to_name) = name ∷ to_name ∷ []
act_names (find dir name) = name ∷ []
act_names (count dir) = []
act_names (next dir None) = []
act_names (next dir (Some name)) = name ∷ []
act_names (attach name) = []

-- the names of the directory in all calls, in their order
abbrev pub call_names : List CallLine → List (List ℕ)
call_names calls = flat_map (λ c. act_names c.act) calls

-- What was read of a line, as contracts see it.
use Rattle.std.specs.Prelude.{ℕ, List, Option, option_map}
use denote.Ref.{Bor}
use Rattle.sim_text.specs.declared.policies.NamedLine.{NamedLine}
use Rattle.sim_text.specs.Lines.{PolicyLine}

-- the text that is left, where there is one
abbrev pub left_said : Option (Bor (List ℕ)) → Option (List ℕ)
left_said left = option_map (λ t. t.now) left

-- a policy line
abbrev pub line_said : NamedLine → PolicyLine
line_said p = record { name = p.name.items; rule = p.rule }

-- What one line of a setup says.
use Rattle.std.specs.Prelude.{ℕ, ◌+◌, List, [], ◌∷◌, ◌&&◌, Bool, false, length, Option, Some, None, nat_le, nat_lt, ◌==◌, if◌then◌else◌, codes}
use Rattle.doc_text.specs.Words.{is_word, same, three, four, ◌>>?◌}
use Rattle.doc_text.specs.Numbers.{number_in}
use Rattle.lock_words.specs.Lines.{behind}
use Rattle.policy_text.specs.declared.rules.RuleSource.{RuleSource}
use Rattle.policy_text.specs.Rules.{otherwise, words_behind, rule_in}
use Rattle.sim_setup.specs.declared.setup.Costs.{Costs}
use Rattle.sim_setup.specs.declared.setup.Layout.{Layout}
use Rattle.sim_setup.specs.declared.setup.Layout.TheVariants as layouts
use Rattle.sim_text.specs.declared.setup.Seeds.{Seeds}
use Rattle.sim_text.specs.Words.{number_next, name_next, none_left}

-- ---- the lock

abbrev pub layout_named : List ℕ → Option Layout
layout_named word =
    if same word (codes "padded") then Some layouts.Padded
    else if same word (codes "joined") then Some layouts.Joined
    else if same word (codes "packed") then Some layouts.Packed
    else None

-- `layout L`
abbrev pub layout_in : List (List ℕ) → Option Layout
layout_in ws = behind (codes "layout") ws >>? layout_named

-- ---- the costs

-- guesses of the usual size
abbrev pub usual_costs : Costs
usual_costs = record { hit = 1; near = 45; far = 130; port = 10; atomic = 6; local = 2; ask = 5; insn = 3; park = 1500; wake = 1000; rise = 4000 }

-- of an access: where the line is had, from the own socket, from another, until it can be lent again, and where it isn't a load
pub record AccessCosts : Type 0 where
  pub hit : ℕ
  pub near : ℕ
  pub far : ℕ
  pub port : ℕ
  pub atomic : ℕ

-- of a step besides: the step, a question, an instruction
pub record StepCosts : Type 0 where
  pub local : ℕ
  pub ask : ℕ
  pub insn : ℕ

unfoldable pub access_next : List (List ℕ) → Option (AccessCosts × List (List ℕ))
access_next ws = number_next ws >>? λ hit. number_next hit.1 >>? λ near. number_next near.1 >>? λ far. number_next far.1 >>? λ port.
    number_next port.1 >>? λ atomic. Some (record { hit = hit.0; near = near.0; far = far.0; port = port.0; atomic = atomic.0 }, atomic.1)

unfoldable pub step_next : List (List ℕ) → Option (StepCosts × List (List ℕ))
step_next ws = number_next ws >>? λ local. number_next local.1 >>? λ ask. number_next ask.1 >>? λ insn.
    Some (record { local = local.0; ask = ask.0; insn = insn.0 }, insn.1)

-- the eleven costs behind the name
unfoldable pub costs_named : List (List ℕ) → Option Costs
costs_named ws = access_next ws >>? λ a. step_next a.1 >>? λ s. number_next s.1 >>? λ park. number_next park.1 >>? λ wake.
    number_next wake.1 >>? λ rise. none_left rise.1 >>? λ over. Some (record {
      hit = a.0.hit;
      near = a.0.near;
      far = a.0.far;
      port = a.0.port;
      atomic = a.0.atomic;
      local = s.0.local;
      ask = s.0.ask;
      insn = s.0.insn;
      park = park.0;
      wake = wake.0;
      rise = rise.0;
    })

-- `costs usual`, or `costs HIT NEAR FAR PORT ATOMIC LOCAL ASK INSN PARK WAKE RISE`, each a number of 32 bits
abbrev pub is_usual : List (List ℕ) → Bool
is_usual (w ∷ []) = same w (codes "usual")
is_usual ws = false

unfoldable pub costs_in : List (List ℕ) → Option Costs
costs_in ws = name_next (codes "costs") ws >>? λ left. if is_usual left then Some usual_costs else costs_named left

-- ---- the end and the seed

-- a number of 64 bits
abbrev pub wide_in : List ℕ → Option ℕ
wide_in word = number_in 18446744073709551615 word

-- `until T`: as many turns as a run can have
abbrev pub until_alone : List (List ℕ) → Option (ℕ × ℕ)
until_alone ws = behind (codes "until") ws >>? λ word. wide_in word >>? λ t. Some (t, 100000000)

-- 1 to 100000000
abbrev pub turns_in : List ℕ → Option ℕ
turns_in word = number_in 100000000 word >>? λ n. if n == 0 then None else Some n

-- `until T turns N`
abbrev pub until_turns : List (List ℕ) → Option (ℕ × ℕ)
until_turns ws = four ws >>? λ w. if same w.0 (codes "until") && same w.2 (codes "turns") then
    (wide_in w.1 >>? λ t. turns_in w.3 >>? λ n. Some (t, n)) else None

abbrev pub until_in : List (List ℕ) → Option (ℕ × ℕ)
until_in ws = otherwise (until_alone ws) (until_turns ws)

-- `seed S`: one alone
abbrev pub one_seed : List (List ℕ) → Option Seeds
one_seed ws = behind (codes "seed") ws >>? λ word. wide_in word >>? λ first. Some (record { first = first; count = 1 })

-- 5 to 1000
abbrev pub count_in : List ℕ → Option ℕ
count_in word = number_in 1000 word >>? λ n. if nat_lt n 5 then None else Some n

-- `seeds FIRST COUNT`, the last of them a number of 64 bits too
abbrev pub several_seeds : List (List ℕ) → Option Seeds
several_seeds ws = three ws >>? λ w. if same w.0 (codes "seeds") then
    (wide_in w.1 >>? λ first. count_in w.2 >>? λ count.
    if nat_le (first + count) 18446744073709551616 then Some (record { first = first; count = count }) else None) else None

abbrev pub seeds_in : List (List ℕ) → Option Seeds
seeds_in ws = otherwise (one_seed ws) (several_seeds ws)

-- ---- the policies

-- a word of 1 to 32 bytes
abbrev pub is_name : List ℕ → Bool
is_name word = is_word word && nat_le (length word) 32

-- a policy line: a name and a rule, its programs still as bytes
pub record PolicyLine : Type 0 where
  pub name : List ℕ
  pub rule : RuleSource

-- a name, and a rule behind it
abbrev pub named_in : List (List ℕ) → Option PolicyLine
named_in [] = None
named_in (name ∷ ws) = if is_name name then (rule_in ws >>? λ rule. Some (record { name = name; rule = rule })) else None

-- `policy`, a name and a rule
abbrev pub policy_in : List (List ℕ) → Option PolicyLine
policy_in ws = words_behind (codes "policy") ws >>? named_in

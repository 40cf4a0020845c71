-- How often the passes of a setup try before they queue, under each of its policies.
use Rattle.std.specs.Prelude.{ℕ, Bool, true, false, cond, is_some}
use Rattle.sim_setup.specs.declared.built_in.BuiltIn.TheVariants.{Never}
use Rattle.sim_setup.specs.declared.setup.Tries.{Tries}
use Rattle.sim_text.specs.declared.setup.Queueing.{Queueing}
use Rattle.sim_text.specs.declared.setup.Queueing.TheVariants.{AtOnce, After, ByPolicy}
use Rattle.sim_text.specs.declared.setup.Rule.{Rule}
use Rattle.sim_text.specs.declared.setup.Rule.TheVariants.{Simple, Program}

-- the policy may move a waiter up: it lets others than nobody in, or has a program that lets in
abbrev pub may_move_waiters : Rule → Bool
may_move_waiters (Simple Never) = false
may_move_waiters (Simple rule) = true
may_move_waiters (Program policy) = is_some policy.should

-- the attempts of a pass that tries by the policy: a few, unless that may move waiters up
abbrev pub few_attempts : Bool → ℕ
few_attempts moves = cond moves 0 32

abbrev pub tries_of : Queueing → Rule → Tries
tries_of AtOnce rule = record { most = 0; pause = 0 }
tries_of (After tries) rule = tries
tries_of (ByPolicy pause) rule = record { most = few_attempts (may_move_waiters rule); pause = pause }

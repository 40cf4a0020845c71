-- What a waiter does between two looks.
use Rattle.std.specs.Prelude.{Bool, true, false}
use Rattle.waiter_sleep.specs.declared.pauses.Pause.{Pause}
use Rattle.waiter_sleep.specs.declared.pauses.Pause.TheVariants.{Look, Yield, Sleep}

-- the waiter gives its processor away
abbrev pub gives_way : Pause → Bool
gives_way Look = false
gives_way Yield = true
gives_way (Sleep micros) = true

-- it sleeps
abbrev pub is_sleep : Pause → Bool
is_sleep Look = false
is_sleep Yield = false
is_sleep (Sleep micros) = true

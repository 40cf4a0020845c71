-- The texts of a line report's parts.
use Rattle.std.specs.Prelude.{ℕ, zero, suc, List, [], ◌∷◌, ◌++◌, Bool, true, false, cond, Option, Some, None, codes, map, slice_index, length}
use Rattle.std.specs.List.{flat_map}
use Rattle.std.specs.Fmt.{decimal}
use Rattle.shfl_line.specs.declared.events.Mode.{Mode}
use Rattle.shfl_line.specs.declared.events.Mode.TheVariants.{Write as Alone, Read as Beside}
use Rattle.shfl_line.specs.declared.events.Role.{Role}
use Rattle.shfl_line.specs.declared.events.Role.TheVariants.{Nobody, Rest, Walk}
use Rattle.shfl_line.specs.Line.{Line}
use Rattle.shfl_core.specs.Runner.{is_parked}
use Rattle.shfl_core.specs.Worlds.{World, known}
use Rattle.shfl_sched.specs.declared.schedule.Act.{Act}
use Rattle.shfl_sched.specs.declared.schedule.Act.TheVariants.{Write, Read, Free, Step}

abbrev pub act_text : Act → List ℕ
act_text Write = codes "write"
act_text Read = codes "read"
act_text Free = codes "free"
act_text Step = codes "step"

abbrev pub answer_text : Bool → List ℕ
answer_text true = codes "yes"
answer_text false = codes "no"

-- the parts behind the first, each behind a comma
abbrev pub more_parts : List (List ℕ) → List ℕ
more_parts parts = flat_map (λ part. 44 ∷ part) parts

-- parts with commas between them, or a dash where there is none
abbrev pub listed : List (List ℕ) → List ℕ
listed [] = codes "-"
listed (part ∷ parts) = part ++ more_parts parts

abbrev pub mode_text : Mode → List ℕ
mode_text Alone = codes "w"
mode_text Beside = codes "r"

-- a holder: how it holds, and its number
abbrev pub holder_text : ℕ × Mode → List ℕ
holder_text holder = mode_text holder.1 ++ decimal holder.0

-- a waiter and its batch number
abbrev pub waiter_text : List ℕ → ℕ → List ℕ
waiter_text marks pass = decimal pass ++ codes ":" ++ decimal (slice_index marks pass)

-- the detached waiter
abbrev pub hand_text : Option ℕ → List ℕ
hand_text None = codes "-"
hand_text (Some pass) = decimal pass

abbrev pub role_text : Role → List ℕ
role_text Nobody = codes "-"
role_text (Rest pass) = codes "rest:" ++ decimal pass
role_text (Walk pass) = codes "walk:" ++ decimal pass

abbrev pub hold_text : Line → List ℕ
hold_text s = listed (map holder_text s.hold)

abbrev pub queue_text : Line → List ℕ
queue_text s = listed (map (waiter_text s.mark) s.line)

-- the passes below n that are parked, in rising order
abbrev pub parked_below : World → ℕ → List ℕ
parked_below w zero = []
parked_below w (suc n) = parked_below w n ++ cond (is_parked (known w.passes n).nap) (n ∷ []) []

-- the passes of a lock that are parked
abbrev pub parked_text : World → List ℕ
parked_text w = listed (map decimal (parked_below w (length w.passes)))

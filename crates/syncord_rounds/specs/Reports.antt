-- What the program writes of bytes, and which it refuses.
use Rattle.std.specs.Prelude.{ℕ, List, Result, IfOk, IfErr}
use Rattle.syncord_endings.specs.declared.ending.Refusal.{Refusal}
use Rattle.syncord_endings.specs.Endings.{Due}
use Rattle.syncord_replay.specs.Replays as replay
use Rattle.syncord_pool.specs.Reports as pool
use Rattle.syncord_rounds.specs.declared.commands.Command.{Command}
use Rattle.syncord_rounds.specs.declared.commands.Command.TheVariants.{Replay, Pool}
use Rattle.syncord_rounds.specs.Replayed.{TellsReplay}
use Rattle.syncord_rounds.specs.Queued.{TellsPool}

-- the bytes are a trace, and the text tells a run of it by this command
abbrev pub Reports : Command → List ℕ → List ℕ → Type 0
Reports (Replay wanted) bytes text = TellsReplay wanted bytes text
Reports Pool bytes text = TellsPool bytes text

-- as `syncord` refuses them
abbrev pub Refuses : Command → List ℕ → Refusal → Type 0
Refuses (Replay wanted) bytes refusal = replay.Refuses bytes refusal
Refuses Pool bytes refusal = pool.Refuses bytes refusal

-- what is answered for bytes is a report of them by this command, or a refusal of them
abbrev pub TellsEach : {A T : Type 0} → Command → (A → T → Result T Refusal → Type 0) → (T → List ℕ) → Type 0
TellsEach {A} {T} command Post items = (a : A) (bytes : T) (r : Result T Refusal) → Post a bytes r
    → IfOk r (λ text. Reports command (items bytes) (items text)) × IfErr r (Due (Refuses command (items bytes)))

-- What a lost turn shows.
use Rattle.std.specs.Prelude.{◌≡◌, ◌≢◌, ◌⊎◌, ℕ, ◌-◌, ◌^◌, ◌%◌, ◌<◌, ◌≤◌, Option, None}
use Rattle.counted_slot.specs.Counting.{readers}
use Rattle.policy_versions.specs.declared.turns.Lost.{Lost}

-- what was counted of the turns of one caller: how many were won and how many were lost, and the last one lost
pub record TurnsModel : Type 0 where
  pub won : ℕ
  pub lost : ℕ
  pub last_lost : Option Lost

abbrev pub no_turn : TurnsModel
no_turn = record { won = 0; lost = 0; last_lost = None }

-- the count has risen, or stands at its last value
abbrev pub Rose : ℕ → ℕ → Type 0
Rose old new = (old < new) ⊎ (new ≡ 2 ^ 64 - 1)

-- the word has readers or is taken, or differs from the one loaded
abbrev pub IsLost : ℕ → ℕ → Type 0
IsLost loaded word = (0 < readers word) ⊎ (word % 4 ≡ 3) ⊎ (word ≢ loaded)

-- no instance stands there, no further reader fits, or the word differs from the one loaded
abbrev pub IsUnread : ℕ → ℕ → Type 0
IsUnread loaded word = (loaded % 4 ≢ 1) ⊎ (1073741823 ≤ readers loaded) ⊎ (word ≢ loaded)

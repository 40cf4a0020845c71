-- Numbers drawn for each pass: splitmix64 (Steele, Lea and Flood, 2014).
use Rattle.std.specs.Prelude.{ℕ, ◌+◌, ◌*◌, ◌/◌, ◌%◌, ◌^◌, ◌==◌, Bool, cond, nat_lt, bit_xor}
use Rattle.sim_setup.specs.Clock.{plus}

abbrev pub after_draw : ℕ → ℕ
after_draw state = (state + 0x9e3779b97f4a7c15) % 2 ^ 64

-- the number folded on itself, so many bits down
abbrev pub folded : ℕ → ℕ → ℕ
folded n bits = bit_xor n (n / 2 ^ bits)

abbrev pub times : ℕ → ℕ → ℕ
times n factor = (n * factor) % 2 ^ 64

-- the number that is drawn at a state
unfoldable pub drawn : ℕ → ℕ
drawn state = folded (times (folded (times (folded (after_draw state) 30) 0xbf58476d1ce4e5b9) 27) 0x94d049bb133111eb) 31

-- the first state of a pass's draws: the first number is dropped
abbrev pub seeded : ℕ → ℕ → ℕ
seeded seed pass = after_draw ((times seed 64 + pass) % 2 ^ 64)

-- for how long a pass thinks: from the half of the middle to three halves
abbrev pub thought : ℕ → ℕ → ℕ
thought middle state = cond (middle == 0) 0 (plus (middle / 2) (drawn state % (middle + 1)))

abbrev pub after_thought : ℕ → ℕ → ℕ
after_thought middle state = cond (middle == 0) state (after_draw state)

-- whether a call reads, where so many of a thousand do
abbrev pub reads : ℕ → ℕ → Bool
reads of_thousand state = nat_lt (drawn state % 1000) of_thousand

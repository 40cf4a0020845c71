-- What a call did to a source or a sink, as far as that tells, and texts that a sink took whole or in part.
use Rattle.std.specs.Prelude.{◌≡◌, ◌⊎◌, ◌≤◌, ℕ, List, length, take, Bool, true, false, Option}
use Rattle.syn_outer.specs.Causes.{Rose}
use Rattle.syn_outer.specs.Bytes.{Took}

-- the bytes that it has left or holds, where it tells them, and its count of faults, before and after
pub record Traffic : Type 0 where
  pub before : Option (List ℕ)
  pub after : Option (List ℕ)
  pub faults_before : ℕ
  pub faults_after : ℕ

abbrev pub traffic : Option (List ℕ) → Option (List ℕ) → ℕ → ℕ → Traffic
traffic before after faults_before faults_after = record {
  before = before;
  after = after;
  faults_before = faults_before;
  faults_after = faults_after;
}

-- a call found a stream so and left it so, which tells its bytes and its faults by these
abbrev pub through : {S : Type 0} → (S → Option (List ℕ)) → (S → ℕ) → S → S → Traffic
through bytes faults before after = traffic (bytes before) (bytes after) (faults before) (faults after)

-- it failed in this call
abbrev pub Failed : Traffic → Type 0
Failed t = Rose t.faults_before t.faults_after

-- it didn't
abbrev pub Sound : Traffic → Type 0
Sound t = t.faults_after ≡ t.faults_before

-- a sink took these bytes
abbrev pub Takes : Traffic → List ℕ → Type 0
Takes t bytes = Took t.before t.after bytes

-- a text went to a sink whole, or a front of it did and the sink failed
abbrev pub Told : Traffic → List ℕ → Type 0
Told t text = Takes t text ⊎ ((n : ℕ) × Takes t (take n text) × Failed t)

-- the same of a text that goes in parts: all of it went so far, or the sink failed and no more is said
abbrev pub Telling : Bool → Traffic → List ℕ → Type 0
Telling true t text = Takes t text × (t.faults_before ≤ t.faults_after)
Telling false t text = (n : ℕ) × (n ≤ length text) × Takes t (take n text) × Failed t

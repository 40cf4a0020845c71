-- The line state that a world shows, as a function of its words and passes.
use Rattle.std.specs.Prelude.{ℕ, zero, suc, List, [], ◌∷◌, ◌++◌, Option, None, Some, Bool, true, false, cond, ◌==◌, ◌&&◌, length}
use Rattle.shfl_line.specs.declared.events.Mode.{Mode}
use Rattle.shfl_line.specs.declared.events.Role.{Role}
use Rattle.shfl_line.specs.declared.events.Role.TheVariants.{Nobody, Rest, Walk}
use Rattle.shfl_line.specs.Line.{Line}
use Rattle.shfl_line.specs.Words.{ready_of, shuffler_of, batch_of}
use Rattle.shfl_core.specs.declared.phase.Phase.{Phase}
use Rattle.shfl_core.specs.declared.phase.Phase.TheVariants.{Ready}
use Rattle.shfl_core.specs.declared.phase.PassState.{PassState}
use Rattle.shfl_core.specs.declared.words.Word.TheVariants.{Next, State}
use Rattle.shfl_core.specs.Words.{look}
use Rattle.shfl_core.specs.Phases.{is_holding, is_queued, is_fore, is_round, is_linking, has_hand}
use Rattle.shfl_core.specs.Worlds.{World, known}

-- the least number below n that passes the test plus 1, or 0
abbrev pub least : (ℕ → Bool) → ℕ → ℕ
least test zero = 0
least test (suc n) = cond (least test n == 0) (cond (test n) (suc n) 0) (least test n)

-- what f gives for each number below n, in rising order
abbrev pub each_below : {A : Type 0} → (ℕ → A) → ℕ → List A
each_below f zero = []
each_below f (suc n) = each_below f n ++ f n ∷ []

-- the passes below n that hold, with their modes, in rising order
abbrev pub holders : (ℕ → PassState) → ℕ → List (ℕ × Mode)
holders pass zero = []
holders pass (suc n) = holders pass n ++ cond (is_holding (pass n).phase) ((n, (pass n).reg.mode) ∷ []) []

abbrev pub is_ready : Phase → Bool
is_ready Ready = true
is_ready _ = false

-- of a found pass plus 1, what f says of it plus 1; of 0, 0
abbrev pub then : ℕ → (ℕ → ℕ) → ℕ
then zero f = 0
then (suc p) f = suc (f p)

abbrev pub or_else : ℕ → ℕ → ℕ
or_else zero other = other
or_else (suc p) other = suc p

-- the queue's head plus 1, or 0: the successor that a pass makes ready, else who is at the head, else who was made ready
abbrev pub head_of : World → ℕ
head_of w = or_else (then (least (λ p. is_ready (known w.passes p).phase) (length w.passes)) (λ p. (known w.passes p).reg.heir))
    (or_else (least (λ p. is_fore (known w.passes p)) (length w.passes))
    (least (λ p. is_queued (known w.passes p) && ready_of (look w.words (State p))) (length w.passes)))

-- the successor of a plus 1, or 0: whom a's next word names, else who has yet to write it
abbrev pub successor_of : World → ℕ → ℕ
successor_of w a = or_else (look w.words (Next a)) (least (λ p. is_linking (known w.passes p).phase && ((known w.passes p).reg.before == a)) (length w.passes))

-- from a link on by successors, n passes at most
abbrev pub walk : World → ℕ → ℕ → List ℕ
walk w zero link = []
walk w (suc n) zero = []
walk w (suc n) (suc a) = a ∷ walk w n (successor_of w a)

-- a link as a pass
abbrev pub named : ℕ → Option ℕ
named zero = None
named (suc p) = Some p

-- who shuffles: a pass in a round, else one with the flag
abbrev pub role_of : ℕ → ℕ → Role
role_of zero zero = Nobody
role_of zero (suc p) = Rest p
role_of (suc p) flagged = Walk p

abbrev pub shown_line : World → Line
shown_line w = record {
  hold = holders (known w.passes) (length w.passes);
  line = walk w (length w.passes) (head_of w);
  hand = named (then (least (λ p. has_hand (known w.passes p).phase) (length w.passes)) (λ p. (known w.passes p).reg.cand));
  role = role_of (least (λ p. is_round (known w.passes p).phase) (length w.passes))
      (least (λ p. is_queued (known w.passes p) && shuffler_of (look w.words (State p))) (length w.passes));
  mark = each_below (λ p. cond (is_queued (known w.passes p)) (batch_of (look w.words (State p))) 0) (length w.passes);
}

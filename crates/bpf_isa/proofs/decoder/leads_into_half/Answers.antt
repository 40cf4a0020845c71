use Rattle.std.proofs.Common.{◌≡◌, ◌∙◌, ℤ, pos, ◌+ℤ◌, ◌+◌, List, ℕ, Bool, length, ap, arith}
use Rattle.std.proofs.lemmas.Int.{ints}
use Rattle.bpf_isa.specs.Decoding.{half_at}
use Rattle.bpf_isa.proofs.decoder.leads_into_half.Goals as goal

same-place : (bytes : List ℕ) (count : ℕ) (r : Bool) (y z : ℤ) → y ≡ z → r ≡ half_at bytes count y → r ≡ half_at bytes count z
same-place bytes count r y z e h = h ∙ ap (λ (x : ℤ). half_at bytes count x) e

pub returns-in-Some : goal.returns-in-Some
returns-in-Some c = λ bytes h. rw c.in-Some.is (same-place bytes (length c.args.halves.now) _ _ (pos (c.args.slot + 1) +ℤ c.in-Some.offset) (omega (arith, ints, c.target.ensures)) (c.is_half_at.ensures bytes h))

-- Calls with their place, as lists of numbers.
use Rattle.std.specs.Prelude.{◌≡◌, ℕ, List, [], ◌∷◌, slice_index}
use Rattle.std.proofs.Common.{ap}
use Rattle.hist_log.specs.declared.numbered.NumberedCall.{NumberedCall}

-- the place, and behind it the numbers of the call
abbrev pub numbers : {C : Type 0} → (C → List ℕ) → NumberedCall C → List ℕ
numbers call_numbers c = c.at ∷ call_numbers c.call

-- the numbers of the call without its place
abbrev pub inner : List ℕ → List ℕ
inner [] = []
inner (at ∷ call) = call

-- where different calls have different numbers, so have numbered calls
pub numbers_differ : {C : Type 0} (call_numbers : C → List ℕ) → ((a b : C) → call_numbers a ≡ call_numbers b → a ≡ b)
    → (a b : NumberedCall C) → numbers call_numbers a ≡ numbers call_numbers b → a ≡ b
numbers_differ call_numbers differ a b same =
    let at : a.at ≡ b.at = ap (λ l. slice_index l 0) same in
    let call : a.call ≡ b.call = differ a.call b.call (ap inner same) in
    λ i. record { at = at i; call = call i }

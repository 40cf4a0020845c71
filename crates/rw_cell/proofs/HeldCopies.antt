-- The copies that a pass has while it holds the lock.
use Rattle.std.proofs.Common.{◌≡◌, ℕ, ◌+◌, ◌-◌, ◌<◌, min, Bool, true, false, List, [], ◌∷◌, map, length, sym, ◌∙◌, subst, arith, Some}
use Rattle.shfl_line.specs.declared.events.Mode.TheVariants.{Write, Read}
use Rattle.shfl_core.specs.Plan.{shares}
use Rattle.shfl_core.specs.Waiting.{MayUse}
use Rattle.shfl_table.specs.Histories.{IsCurrent}
use Rattle.shfl_table.specs.Places.{Every}
use Rattle.shfl_table.specs.PassModel.{PassModel, BoardId}
use Rattle.shfl_table.specs.PassSteps.{SeesValues}
use Rattle.shfl_table.specs.Books.{BookModel, pack}

module _ (old new : PassModel BookModel) (initial : new.initial_state ≡ old.initial_state) where
  -- a writer has all copies
  pub all-copies : (places : ℕ) → SeesValues (λ b. pack b.opening b.allowed) (λ b. b.history) Write old new → old.board.table.slots ≡ places
      → (xs : List BookModel) × (new.values ≡ map Some xs) × (length xs ≡ places) × Every (λ b. (pack b.opening b.allowed ≡ new.initial_state) × (b.history ≡ new.history)) xs
  all-copies places s slots = (s.1.0, s.1.1, s.1.2 ∙ slots, subst (λ r. Every (λ (b : BookModel). (pack b.opening b.allowed ≡ r) × (b.history ≡ new.history)) s.1.0) (sym initial) s.1.3)

  -- a reader has its own
  pub own-copy : SeesValues (λ b. pack b.opening b.allowed) (λ b. b.history) Read old new → old.own.reg.me < old.board.table.slots
      → (x : BookModel) × (new.values ≡ Some x ∷ []) × (pack x.opening x.allowed ≡ new.initial_state) × (x.history ≡ new.history)
  own-copy s within = by s.1.0 s.1.1 (let l = s.1.2 in omega arith) s.1.3
    where
      by : (xs : List BookModel) → new.values ≡ map Some xs → length xs ≡ 1 → Every (IsCurrent (λ b. pack b.opening b.allowed) (λ b. b.history) old.initial_state new.history) xs
          → (x : BookModel) × (new.values ≡ Some x ∷ []) × (pack x.opening x.allowed ≡ new.initial_state) × (x.history ≡ new.history)
      by [] v l e = absurd (omega arith)
      by (x ∷ []) v l e = (x, v, e.0.0 ∙ sym initial, e.0.1)
      by (x ∷ y ∷ ys) v l e = absurd (omega arith)

-- in a form that readers share every mode may be used
pub may-read : (here there : BoardId) → here ≡ there → shares there.rules.form ≡ true → MayUse here.rules.form Read
may-read here there same shared exclusive = absurd (let x : true ≡ false = sym shared ∙ ((λ j. shares (sym same j).rules.form) ∙ exclusive) in cc)

-- What a call on a book in its place leaves there.
use Rattle.std.proofs.Common.{◌≡◌, ℕ, ◌<◌, List, [], ◌∷◌, ◌++◌, length, slice_index, Some, sym, ap, ◌∙◌, subst}
use Rattle.hist_log.specs.History.{IsLegal, state_left}
use Rattle.shfl_line.specs.declared.events.Mode.{Mode}
use Rattle.shfl_line.specs.declared.events.Mode.TheVariants.{Write, Read}
use Rattle.shfl_table.specs.declared.kept.Action.{Action}
use Rattle.shfl_table.specs.Histories.{actions_by}
use Rattle.shfl_table.specs.PassModel.{PassModel, GrowsUnder, HasAt, MayHave}
use Rattle.shfl_table.specs.Books.{BookModel, MakesEntry, MayCall, pack, opening_of, allowed_of, operations_of, reply_now}
use Rattle.shfl_table.proofs.PackedStates.{opening_of-pack, allowed_of-pack}
use Rattle.shfl_table.proofs.Turning.{some_same}

-- a book has the opening that its pass knows
pub same_opening : (p : PassModel BookModel) (x : BookModel) → pack x.opening x.allowed ≡ p.initial_state → opening_of p.initial_state ≡ x.opening
same_opening p x packed = ap opening_of (sym packed) ∙ opening_of-pack x.opening x.allowed

-- a call that the pass may make may be made on the book
pub may_call : (p : PassModel BookModel) (worker : ℕ) → worker ≡ p.own.reg.me → (admits : List ℕ → List ℕ → Type 0) (call : List ℕ) (x : BookModel)
    → pack x.opening x.allowed ≡ p.initial_state → x.history ≡ p.history
    → length (actions_by p.own.reg.me p.history) < slice_index (allowed_of p.initial_state) p.own.reg.me → admits (opening_of p.initial_state) call → MayCall admits worker call x
may_call p worker mine admits call x packed seen room admitted =
    let allowed : allowed_of p.initial_state ≡ x.allowed = ap allowed_of (sym packed) ∙ allowed_of-pack x.opening x.allowed in (
      subst (λ (z : ℕ × List ℕ × List Action). length (actions_by z.0 z.2) < slice_index z.1 z.0) (λ j. (sym mine j, allowed j, sym seen j)) room,
      subst (λ (o : List ℕ). admits o call) (same_opening p x packed) admitted,
    )

-- a pass that has this book in a place
module _ (reply_at state_after : List ℕ → List ℕ → List ℕ) (p : PassModel BookModel) (place : ℕ) (x : BookModel) (at : HasAt p place x) (packed : pack x.opening x.allowed ≡ p.initial_state) (seen : x.history ≡ p.history) where
  -- it has no other there
  only : (z : BookModel) → HasAt p place z → x ≡ z
  only z there = some_same x z (some_same (Some x) (Some z) (sym at ∙ there))

  opening_is : x.opening ≡ opening_of p.initial_state
  opening_is = sym (same_opening p x packed)

  -- the object's reply is that after what the pass has seen
  pub reply_is : (call : List ℕ) → reply_now reply_at state_after x call ≡ reply_at (state_left state_after (opening_of p.initial_state) (operations_of p.history)) call
  reply_is call = (λ j. reply_at (state_left state_after (opening_is j) (operations_of (seen j))) call)

  module _ (made : Action) (n : ℕ) (y : BookModel) (m : MakesEntry reply_at state_after x made n y) where
    pub packed_after : pack y.opening y.allowed ≡ p.initial_state
    packed_after = ap (λ (b : BookModel). pack b.opening b.allowed) m.goes_on ∙ packed

    pub history_after : y.history ≡ p.history ++ made ∷ []
    history_after = ap (λ (b : BookModel). b.history) m.goes_on ∙ ap (λ (l : List Action). l ++ made ∷ []) seen

    pub legal_after : IsLegal reply_at state_after (opening_of p.initial_state) (operations_of (p.history ++ made ∷ []))
    legal_after = subst (λ (z : List ℕ × List Action). IsLegal reply_at state_after z.0 (operations_of z.1))
        (λ j. ((ap (λ (b : BookModel). b.opening) m.goes_on ∙ opening_is) j, history_after j)) m.legal

    may_have : p.own.reg.mode ≡ Write → made.worker ≡ p.own.reg.me → MayHave (λ b. pack b.opening b.allowed) (λ b. b.history) p y
    may_have writes mine = (packed_after, subst (λ (o : Mode). GrowsUnder (Some o) p.own.reg.me p.history y.history) (sym writes) (made ∷ [], history_after, (mine, tt)))

  -- what a writer's own call leaves may stand there
  pub write_stays : (made : Action) (n : ℕ) (z y : BookModel) → p.own.reg.mode ≡ Write → made.worker ≡ p.own.reg.me → HasAt p place z → MakesEntry reply_at state_after z made n y
      → MayHave (λ b. pack b.opening b.allowed) (λ b. b.history) p y
  write_stays made n z y writes mine there m =
      may_have made n y (subst (λ (b : BookModel). MakesEntry reply_at state_after b made n y) (sym (only z there)) m) writes mine

  -- and so may what a reader leaves as it is
  pub look_stays : (z y : BookModel) → p.own.reg.mode ≡ Read → HasAt p place z → y ≡ z → MayHave (λ b. pack b.opening b.allowed) (λ b. b.history) p y
  look_stays z y reads there same = let is : y ≡ x = same ∙ sym (only z there) in
      (ap (λ (b : BookModel). pack b.opening b.allowed) is ∙ packed, subst (λ (o : Mode). GrowsUnder (Some o) p.own.reg.me p.history y.history) (sym reads) (ap (λ (b : BookModel). b.history) is ∙ seen))

-- A call that was made, by a pass that took the lock and freed it.
use Rattle.std.proofs.Common.{◌≡◌, ℕ, ◌+◌, ◌-◌, ◌<◌, true, List, [], ◌∷◌, ◌++◌, map, length, Some, refl, sym, ap, ◌∙◌, subst, arith, length-append, slice_index}
use Rattle.std.proofs.lemmas.List.{nil_from_length}
use Rattle.hist_log.specs.History.{IsLegal}
use Rattle.shfl_line.specs.declared.words.Attr.{Attr}
use Rattle.shfl_line.specs.declared.events.Mode.TheVariants.{Write}
use Rattle.shfl_core.specs.Plan.{is_idle}
use Rattle.shfl_table.specs.declared.kept.Action.{Action}
use Rattle.shfl_table.specs.Histories.{actions_by, HasSeen, IsCurrent}
use Rattle.shfl_table.specs.Places.{Every}
use Rattle.shfl_table.specs.PassModel.{PassModel, BoardId}
use Rattle.shfl_table.specs.PassSteps.{LosesAttempt, SeesValues}
use Rattle.shfl_table.specs.Waits.{as_idle}
use Rattle.shfl_table.specs.Books.{BookModel, pack, opening_of, allowed_of, operations_of}
use Rattle.shfl_cell.specs.Cells.{CellPassModel, MakesCall, number, turned_away}
use Rattle.shfl_table.proofs.CallRoom.{actions_by-own}

-- the one value that a pass then has
pub one-value : (old new : PassModel BookModel) → SeesValues (λ b. pack b.opening b.allowed) (λ b. b.history) Write old new → new.initial_state ≡ old.initial_state → old.board.table.slots ≡ 1
    → (x : BookModel) × (new.values ≡ Some x ∷ []) × (pack x.opening x.allowed ≡ new.initial_state) × (x.history ≡ new.history)
one-value old new s initial one = by s.1.0 s.1.1 (s.1.2 ∙ one) s.1.3
  where
    by : (xs : List BookModel) → new.values ≡ map Some xs → length xs ≡ 1 → Every (IsCurrent (λ b. pack b.opening b.allowed) (λ b. b.history) old.initial_state new.history) xs
        → (x : BookModel) × (new.values ≡ Some x ∷ []) × (pack x.opening x.allowed ≡ new.initial_state) × (x.history ≡ new.history)
    by [] v l e = absurd (omega arith)
    by (x ∷ []) v l e = (x, v, e.0.0 ∙ sym initial, e.0.1)
    by (x ∷ y ∷ ys) v l e = absurd (omega arith)

-- the cell's pass over a pass of the board
abbrev cell_pass : PassModel BookModel → ℕ → Attr → CellPassModel
cell_pass q left attr = record { cell = q.board; reg = q.own.reg; steps_taken = q.steps_taken; found = q.found; decisions = q.decisions; attempts = q.attempts; opening = opening_of q.initial_state; seen = q.history; left = left; attr = attr }

-- q0 before the call, q1 as it holds the lock, q2 once it freed it
module _ (reply_at state_after : List ℕ → List ℕ → List ℕ) (q0 q1 q2 : PassModel BookModel) (left : ℕ) (attr : Attr) (call reply : List ℕ) (place : ℕ)
    (knew : HasSeen q1.history q0.own.reg.me q0.history) (num : q1.own.reg.me ≡ q0.own.reg.me) (initial : q1.initial_state ≡ q0.initial_state) (board : q1.board ≡ q0.board)
    (is : q2 ≡ record q1 { own = as_idle q1.own; steps_taken = q1.steps_taken + 1; found = q2.found; values = []; history = q1.history ++ record { worker = q1.own.reg.me; call = call; reply = reply } ∷ [] }) where
  abbrev made : Action
  made = record { worker = q0.own.reg.me; call = call; reply = reply }

  seen : q2.history ≡ q1.history ++ made ∷ []
  seen = ap (λ (z : PassModel BookModel). z.history) is ∙ (λ j. q1.history ++ record { worker = num j; call = call; reply = reply } ∷ [])

  own : actions_by q0.own.reg.me q2.history ≡ actions_by q0.own.reg.me q0.history ++ made ∷ []
  own = ap (actions_by q0.own.reg.me) seen ∙ (actions_by-own q0.own.reg.me q1.history made refl ∙ ap (λ (l : List Action). l ++ made ∷ []) knew.1)

  me : q2.own.reg.me ≡ q0.own.reg.me
  me = ap (λ (z : PassModel BookModel). z.own.reg.me) is ∙ num

  initials : q2.initial_state ≡ q0.initial_state
  initials = ap (λ (z : PassModel BookModel). z.initial_state) is ∙ initial

  boards : q2.board ≡ q0.board
  boards = ap (λ (z : PassModel BookModel). z.board) is ∙ board

  pub makes_call : (p : CellPassModel) → cell_pass q0 left attr ≡ p
      → IsLegal reply_at state_after (opening_of q1.initial_state) (operations_of q2.history) → place ≡ length q1.history → 0 < p.left
      → MakesCall reply_at state_after p (record { worker = number p; call = call; reply = reply }) place (cell_pass q2 (left - 1) attr)
  makes_call p same legal at some = subst (λ (z : CellPassModel). MakesCall reply_at state_after z (record { worker = number z; call = call; reply = reply }) place (cell_pass q2 (left - 1) attr)) same
      (record {
        between = knew.0.0;
        seen = seen ∙ ap (λ (l : List Action). l ++ made ∷ []) knew.0.1;
        place_is = at ∙ ap length knew.0.1;
        legal = subst (λ (r : List ℕ). IsLegal reply_at state_after (opening_of r) (operations_of q2.history)) initial legal;
        own = own;
        left = let s : 0 < left = subst (λ (z : CellPassModel). 0 < z.left) (sym same) some in omega arith;
        stays = (boards, me, ap opening_of initials, refl);
      })

  -- what is always true of a cell's pass is true again
  pub kept_after : 0 < left → q0.board.table.slots ≡ 1 → length (actions_by q0.own.reg.me q0.history) + left ≡ slice_index (allowed_of q0.initial_state) q0.own.reg.me
      → (is_idle q2.own.phase ≡ true) × (q2.values ≡ []) × (q2.board.table.slots ≡ 1) × (length (actions_by q2.own.reg.me q2.history) + (left - 1) ≡ slice_index (allowed_of q2.initial_state) q2.own.reg.me)
  kept_after some one may = (
    ap (λ (z : PassModel BookModel). is_idle z.own.phase) is,
    ap (λ (z : PassModel BookModel). z.values) is,
    ap (λ (z : BoardId). z.table.slots) boards ∙ one,
    subst (λ (z : ℕ × List ℕ). length (actions_by z.0 q2.history) + (left - 1) ≡ slice_index (allowed_of z.1) z.0) (λ j. (sym me j, sym initials j))
        (let a = ap length own in let b = length-append (actions_by q0.own.reg.me q0.history) (made ∷ []) in omega arith),
  )

-- a try in vain
pub turned : (q0 q1 : PassModel BookModel) (left : ℕ) (attr : Attr) (word : ℕ) → LosesAttempt Write word q0 q1 → (p : CellPassModel) → cell_pass q0 left attr ≡ p → cell_pass q1 left attr ≡ turned_away word p
turned q0 q1 left attr word l p same = let found : q1.found ≡ q0.found ++ word ∷ [] = l.2.2 ∙ ap (λ (m : List ℕ). q0.found ++ word ∷ m) (let few : length l.2.0 + 1 ≡ 1 = l.2.1 in nil_from_length l.2.0 (omega arith)) in
    ap (λ (z : PassModel BookModel). cell_pass z left attr) l.1
    ∙ ((λ j. record (cell_pass q0 left attr) { reg = record q0.own.reg { mode = Write; saw = word }; steps_taken = q0.steps_taken + 1; found = found j; attempts = q0.attempts + 1 }) ∙ ap (turned_away word) same)

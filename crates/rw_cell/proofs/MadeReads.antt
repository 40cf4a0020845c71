-- A read that was made, by a pass that took the lock and freed it.
use Rattle.std.proofs.Common.{◌≡◌, ℕ, ◌+◌, ◌-◌, ◌<◌, ◌≤◌, List, [], ◌∷◌, ◌++◌, length, refl, sym, ap, ◌∙◌, subst, arith, length-append, slice_index}
use Rattle.hist_log.specs.History.{state_left}
use Rattle.shfl_line.specs.declared.words.Attr.{Attr}
use Rattle.shfl_core.specs.Plan.{is_idle}
use Rattle.shfl_table.specs.declared.kept.Action.{Action}
use Rattle.shfl_table.specs.Histories.{actions_by, HasSeen}
use Rattle.shfl_table.specs.PassModel.{PassModel, BoardId}
use Rattle.shfl_table.specs.Waits.{as_idle}
use Rattle.shfl_table.specs.Books.{BookModel, opening_of, allowed_of, operations_of}
use Rattle.rw_cell.specs.KeptReads.{KeepsReads}
use Rattle.rw_cell.specs.RwCells.{RwPassModel, RwPassInvariant, MakesRead, number}
use Rattle.rw_cell.proofs.KeptReads.{keeps-seen, keeps-read}
use Rattle.rw_cell.proofs.MadeWrites.{cell_pass}

-- q0 before the call, q1 as it holds the lock, q2 once it freed it
module _ {E : Type 0} (reply_at state_after : List ℕ → List ℕ → List ℕ) (q0 q1 q2 : PassModel BookModel) (left : ℕ) (attr : Attr) (reads : List E) (call reply : List ℕ) (place : ℕ) (entry : E) (now : List E) (items : now ≡ reads ++ entry ∷ [])
    (knew : HasSeen q1.history q0.own.reg.me q0.history) (num : q1.own.reg.me ≡ q0.own.reg.me) (initial : q1.initial_state ≡ q0.initial_state) (board : q1.board ≡ q0.board)
    (is : q2 ≡ record q1 { own = as_idle q1.own; steps_taken = q1.steps_taken + 1; found = q2.found; values = [] }) where
  seen : q2.history ≡ q1.history
  seen = ap (λ (z : PassModel BookModel). z.history) is

  own : actions_by q0.own.reg.me q2.history ≡ actions_by q0.own.reg.me q0.history
  own = ap (actions_by q0.own.reg.me) seen ∙ knew.1

  me : q2.own.reg.me ≡ q0.own.reg.me
  me = ap (λ (z : PassModel BookModel). z.own.reg.me) is ∙ num

  initials : q2.initial_state ≡ q0.initial_state
  initials = ap (λ (z : PassModel BookModel). z.initial_state) is ∙ initial

  boards : q2.board ≡ q0.board
  boards = ap (λ (z : PassModel BookModel). z.board) is ∙ board

  pub makes_read : (p : RwPassModel E) → cell_pass q0 left attr reads ≡ p
      → reply ≡ reply_at (state_left state_after (opening_of q1.initial_state) (operations_of q1.history)) call → place ≡ length q1.history → 0 < p.left
      → MakesRead reply_at state_after p call reply place entry (cell_pass q2 (left - 1) attr now)
  makes_read p same answer at some = subst (λ (z : RwPassModel E). MakesRead reply_at state_after z call reply place entry (cell_pass q2 (left - 1) attr now)) same
      (record {
        between = knew.0.0;
        seen = seen ∙ knew.0.1;
        place_is = at ∙ ap length (sym seen);
        answer = answer ∙ (λ j. reply_at (state_left state_after (opening_of (initial j)) (operations_of (sym seen j))) call);
        own = own;
        reads = items;
        stays = record {
          cell = boards;
          number_is = me;
          opening = ap opening_of initials;
          attr = refl;
          left = let s : 0 < left = subst (λ (z : RwPassModel E). 0 < z.left) (sym same) some in omega arith;
        };
      })

  -- what is always true of a pass is true again
  pub kept_after_read : (action : E → Action) (point : E → ℕ) (fits : List ℕ → List Action → E → Type 0) (capacity capacity' : ℕ) → capacity' ≡ capacity → 0 < left
      → (action entry).worker ≡ q0.own.reg.me → point entry ≡ length q1.history → fits (opening_of q1.initial_state) q1.history entry
      → RwPassInvariant action point fits q0 left reads capacity → RwPassInvariant action point fits q2 (left - 1) now capacity'
  kept_after_read action point fits capacity capacity' same some mine here answer inv = record {
    idle = ap (λ (z : PassModel BookModel). is_idle z.own.phase) is;
    empty = ap (λ (z : PassModel BookModel). z.values) is;
    place = subst (λ (z : ℕ × BoardId). z.0 < z.1.table.slots) (λ j. (sym me j, sym boards j)) inv.place;
    counted = subst (λ (z : ℕ × List ℕ). length (actions_by z.0 q2.history) + length now + (left - 1) ≡ slice_index (allowed_of z.1) z.0) (λ j. (sym me j, sym initials j))
        (let a = ap length own in let b = ap length items in let n = length-append reads (entry ∷ []) in let i = inv.counted in omega arith);
    room = subst (λ (z : ℕ × List ℕ × ℕ). slice_index (allowed_of z.1) z.0 ≤ z.2) (λ j. (sym me j, sym initials j, sym same j)) inv.room;
    keeps = subst (λ (z : ℕ × List ℕ × List Action × List E). KeepsReads action point fits (opening_of z.1) z.0 z.2 z.3) (λ j. (sym me j, sym initials j, sym seen j, sym items j))
        (keeps-read action point fits (opening_of q0.initial_state) q0.own.reg.me q1.history reads entry mine here (subst (λ (r : List ℕ). fits (opening_of r) q1.history entry) initial answer)
        (keeps-seen action point fits (opening_of q0.initial_state) q0.own.reg.me q0.history knew.0.0 q1.history reads knew.0.1 inv.keeps));
  }

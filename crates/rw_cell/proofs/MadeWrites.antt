-- A write that was made, by a pass that took the lock and freed it.
use Rattle.std.proofs.Common.{◌≡◌, ℕ, ◌+◌, ◌-◌, ◌<◌, ◌≤◌, true, List, [], ◌∷◌, ◌++◌, length, refl, sym, ap, ◌∙◌, subst, arith, length-append, append_assoc, slice_index}
use Rattle.std.proofs.lemmas.List.{nil_from_length}
use Rattle.hist_log.specs.History.{IsLegal}
use Rattle.shfl_line.specs.declared.words.Attr.{Attr}
use Rattle.shfl_core.specs.Plan.{is_idle}
use Rattle.shfl_table.specs.declared.kept.Action.{Action}
use Rattle.shfl_table.specs.Histories.{actions_by, HasSeen}
use Rattle.shfl_line.specs.declared.events.Mode.{Mode}
use Rattle.shfl_line.specs.declared.events.Mode.TheVariants.{Write, Read}
use Rattle.shfl_table.specs.PassModel.{PassModel, BoardId}
use Rattle.shfl_table.specs.PassSteps.{LosesAttempt, attempt_steps}
use Rattle.shfl_table.specs.Waits.{as_idle}
use Rattle.shfl_table.specs.Books.{BookModel, opening_of, allowed_of, operations_of}
use Rattle.shfl_table.proofs.CallRoom.{actions_by-own}
use Rattle.rw_cell.specs.KeptReads.{KeepsReads}
use Rattle.rw_cell.specs.RwCells.{RwPassModel, RwPassInvariant, MakesWrite, number, turned_away}
use Rattle.rw_cell.proofs.KeptReads.{keeps-seen}

-- the cell's pass over a pass of the board
abbrev pub cell_pass : {E : Type 0} → PassModel BookModel → ℕ → Attr → List E → RwPassModel E
cell_pass q left attr reads = record { cell = q.board; reg = q.own.reg; steps_taken = q.steps_taken; found = q.found; decisions = q.decisions; attempts = q.attempts; opening = opening_of q.initial_state; seen = q.history; reads = reads; left = left; attr = attr }

-- q0 before the call, q1 as it holds the lock, q2 once it freed it
module _ {E : Type 0} (reply_at state_after : List ℕ → List ℕ → List ℕ) (q0 q1 q2 : PassModel BookModel) (left : ℕ) (attr : Attr) (reads : List E) (call reply : List ℕ) (place : ℕ)
    (knew : HasSeen q1.history q0.own.reg.me q0.history) (num : q1.own.reg.me ≡ q0.own.reg.me) (initial : q1.initial_state ≡ q0.initial_state) (board : q1.board ≡ q0.board)
    (is : q2 ≡ record q1 { own = as_idle q1.own; steps_taken = q1.steps_taken + 1; found = q2.found; values = []; history = q1.history ++ record { worker = q1.own.reg.me; call = call; reply = reply } ∷ [] }) where
  abbrev made : Action
  made = record { worker = q0.own.reg.me; call = call; reply = reply }

  seen : q2.history ≡ q1.history ++ made ∷ []
  seen = ap (λ (z : PassModel BookModel). z.history) is ∙ (λ j. q1.history ++ record { worker = num j; call = call; reply = reply } ∷ [])

  own : actions_by q0.own.reg.me q2.history ≡ actions_by q0.own.reg.me q0.history ++ made ∷ []
  own = ap (actions_by q0.own.reg.me) seen ∙ (actions_by-own q0.own.reg.me q1.history made refl ∙ ap (λ (l : List Action). l ++ made ∷ []) knew.1)

  me : q2.own.reg.me ≡ q0.own.reg.me
  me = ap (λ (z : PassModel BookModel). z.own.reg.me) is ∙ num

  initials : q2.initial_state ≡ q0.initial_state
  initials = ap (λ (z : PassModel BookModel). z.initial_state) is ∙ initial

  boards : q2.board ≡ q0.board
  boards = ap (λ (z : PassModel BookModel). z.board) is ∙ board

  grown : q2.history ≡ q0.history ++ (knew.0.0 ++ made ∷ [])
  grown = seen ∙ (ap (λ (l : List Action). l ++ made ∷ []) knew.0.1 ∙ append_assoc q0.history knew.0.0 (made ∷ []))

  pub makes_write : (p : RwPassModel E) → cell_pass q0 left attr reads ≡ p
      → IsLegal reply_at state_after (opening_of q1.initial_state) (operations_of q2.history) → place ≡ length q1.history → 0 < p.left
      → MakesWrite reply_at state_after p (record { worker = number p; call = call; reply = reply }) place (cell_pass q2 (left - 1) attr reads)
  makes_write p same legal at some = subst (λ (z : RwPassModel E). MakesWrite reply_at state_after z (record { worker = number z; call = call; reply = reply }) place (cell_pass q2 (left - 1) attr reads)) same
      (record {
        between = knew.0.0;
        seen = seen ∙ ap (λ (l : List Action). l ++ made ∷ []) knew.0.1;
        place_is = at ∙ ap length knew.0.1;
        legal = subst (λ (r : List ℕ). IsLegal reply_at state_after (opening_of r) (operations_of q2.history)) initial legal;
        own = own;
        reads = refl;
        stays = record {
          cell = boards;
          number_is = me;
          opening = ap opening_of initials;
          attr = refl;
          left = let s : 0 < left = subst (λ (z : RwPassModel E). 0 < z.left) (sym same) some in omega arith;
        };
      })

  -- what is always true of a pass is true again
  pub kept_after_write : (action : E → Action) (point : E → ℕ) (fits : List ℕ → List Action → E → Type 0) (capacity : ℕ) → 0 < left
      → RwPassInvariant action point fits q0 left reads capacity → RwPassInvariant action point fits q2 (left - 1) reads capacity
  kept_after_write action point fits capacity some inv = record {
    idle = ap (λ (z : PassModel BookModel). is_idle z.own.phase) is;
    empty = ap (λ (z : PassModel BookModel). z.values) is;
    place = subst (λ (z : ℕ × BoardId). z.0 < z.1.table.slots) (λ j. (sym me j, sym boards j)) inv.place;
    counted = subst (λ (z : ℕ × List ℕ). length (actions_by z.0 q2.history) + length reads + (left - 1) ≡ slice_index (allowed_of z.1) z.0) (λ j. (sym me j, sym initials j))
        (let a = ap length own in let b = length-append (actions_by q0.own.reg.me q0.history) (made ∷ []) in let i = inv.counted in omega arith);
    room = subst (λ (z : ℕ × List ℕ). slice_index (allowed_of z.1) z.0 ≤ capacity) (λ j. (sym me j, sym initials j)) inv.room;
    keeps = subst (λ (z : ℕ × List ℕ). KeepsReads action point fits (opening_of z.1) z.0 q2.history reads) (λ j. (sym me j, sym initials j))
        (keeps-seen action point fits (opening_of q0.initial_state) q0.own.reg.me q0.history (knew.0.0 ++ made ∷ []) q2.history reads grown inv.keeps);
  }

one-more : (l : List ℕ) → length l + 1 ≡ 2 → (word : ℕ) × (l ≡ word ∷ [])
one-more [] e = absurd (omega arith)
one-more (x ∷ []) e = (x, refl)
one-more (x ∷ y ∷ ys) e = absurd (omega arith)

-- a try in vain
module _ {E : Type 0} (q0 q1 : PassModel BookModel) (left : ℕ) (attr : Attr) (reads : List E) (word : ℕ) (p : RwPassModel E) (same : cell_pass q0 left attr reads ≡ p) where
  turned : (mode : Mode) (more : List ℕ) → LosesAttempt mode word q0 q1 → q1.found ≡ q0.found ++ word ∷ more → cell_pass q1 left attr reads ≡ turned_away mode word more p
  turned mode more l found = ap (λ (z : PassModel BookModel). cell_pass z left attr reads) l.1
      ∙ ((λ j. record (cell_pass q0 left attr reads) { reg = record q0.own.reg { mode = mode; saw = word }; steps_taken = q0.steps_taken + attempt_steps mode; found = found j; attempts = q0.attempts + 1 }) ∙ ap (turned_away mode word more) same)

  pub write-turned : LosesAttempt Write word q0 q1 → cell_pass q1 left attr reads ≡ turned_away Write word [] p
  write-turned l = turned Write [] l (l.2.2 ∙ ap (λ (m : List ℕ). q0.found ++ word ∷ m) (let few : length l.2.0 + 1 ≡ 1 = l.2.1 in nil_from_length l.2.0 (omega arith)))

  pub read-turned : LosesAttempt Read word q0 q1 → (more : ℕ) × (cell_pass q1 left attr reads ≡ turned_away Read word (more ∷ []) p)
  read-turned l = let m = one-more l.2.0 l.2.1 in (m.0, turned Read (m.0 ∷ []) l (l.2.2 ∙ ap (λ (m : List ℕ). q0.found ++ word ∷ m) m.1))

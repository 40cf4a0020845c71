-- What each step does to a world as it is read.
use Rattle.std.specs.Prelude.{ℕ, suc, ◌+◌, Bool, true, cond, ◌==◌, nat_lt}
use Rattle.shfl_line.specs.Passes.{updated}
use Rattle.shfl_core.specs.declared.phase.Phase.{Phase}
use Rattle.shfl_core.specs.declared.phase.Phase.TheVariants.{Look, Aim, Place, Mark, Decide, Attr, Give, Open, Cut, Late, Held, Peek, Next}
use Rattle.shfl_core.specs.declared.phase.Nap.{Nap}
use Rattle.shfl_core.specs.declared.phase.PassState.{PassState}
use Rattle.shfl_core.specs.View.{View}
use Rattle.shfl_core.specs.Take as T

-- the pass goes on at a phase, with the registers that it has
abbrev pub on : PassState → Phase → PassState
on q f = T.to f q.reg

abbrev pub swap_found : PassState → ℕ → PassState
swap_found q n = T.swap_found q.reg n

abbrev pub row_swap : View → ℕ → View
row_swap w p = record w { tail = suc p; pass = updated w.pass p (swap_found (w.pass p) w.tail) }

abbrev pub row_link : View → ℕ → View
row_link w p = record w { next = updated w.next (w.pass p).reg.before (suc p); pass = updated w.pass p (on (w.pass p) Look) }

abbrev pub row_pick : View → ℕ → View
row_pick w p = record w { next = updated w.next (w.pass p).reg.prev (suc (w.pass p).reg.after); pass = updated w.pass p (on (w.pass p) Aim) }

abbrev pub row_aim : View → ℕ → View
row_aim w p = record w { next = updated w.next (w.pass p).reg.cand (suc (w.pass p).reg.first); pass = updated w.pass p (on (w.pass p) Place) }

abbrev pub row_place : View → ℕ → View
row_place w p = record w { next = updated w.next (w.pass p).reg.last (suc (w.pass p).reg.cand); pass = updated w.pass p (on (w.pass p) Mark) }

abbrev pub next_found : PassState → ℕ → PassState
next_found q n = T.next_found q.reg n

abbrev pub row_next : View → ℕ → View
row_next w p = record w { pass = updated w.pass p (next_found (w.pass p) (w.next (w.pass p).reg.prev)) }

abbrev pub row_tail : View → ℕ → View
row_tail w p = record w { pass = updated w.pass p (on (w.pass p) (cond (w.tail == (w.pass p).reg.cand + 1) Give Attr)) }

abbrev pub row_attr : View → ℕ → View
row_attr w p = record w { pass = updated w.pass p (T.to Decide (record (w.pass p).reg { seen = w.attr (w.pass p).reg.cand })) }

abbrev pub decided : PassState → Bool → Bool → PassState
decided q stop choice = T.decided q.reg stop choice

abbrev pub row_decide : View → ℕ → Bool → Bool → View
row_decide w p stop choice = record w { pass = updated w.pass p (decided (w.pass p) stop choice) }

abbrev pub after_found : PassState → ℕ → PassState
after_found q n = T.after_found q.reg n

abbrev pub row_after : View → ℕ → View
row_after w p = record w { pass = updated w.pass p (after_found (w.pass p) (w.next (w.pass p).reg.cand)) }

abbrev pub take_found : PassState → ℕ → PassState
take_found q n = T.heir_found Cut q.reg n

abbrev pub row_take : View → ℕ → View
row_take w p = record w { next = updated w.next p 0; pass = updated w.pass p (take_found (w.pass p) (w.next p)) }

abbrev pub row_cut : View → ℕ → View
row_cut w p = cond (w.tail == suc p) (record w { tail = 0; pass = updated w.pass p (on (w.pass p) Open) }) (record w { pass = updated w.pass p (on (w.pass p) Late) })

abbrev pub row_ready : View → ℕ → View
row_ready w p = record w { node = updated w.node (w.pass p).reg.heir (record (w.node (w.pass p).reg.heir) { ready = true }); pass = updated w.pass p (on (w.pass p) Held) }

abbrev pub row_close : View → ℕ → View
row_close w p = record w { closed = true; pass = updated w.pass p (on (w.pass p) Peek) }

-- the pass after Mark, with the park state that it then has
abbrev pub marked : ℕ → PassState → Nap → PassState
marked limit q nap = record { phase = cond (nat_lt (q.reg.count + 1) limit) Next Give; reg = record q.reg { prev = cond (q.reg.prev == q.reg.last) q.reg.cand q.reg.prev; last = q.reg.cand; count = q.reg.count + 1 }; nap = nap }

abbrev pub row_mark : ℕ → View → ℕ → Nap → Bool → View
row_mark limit w p nap spin = record w { node = updated w.node (w.pass p).reg.cand (record (w.node (w.pass p).reg.cand) { batch = (w.pass p).reg.count + 1; spin = spin }); pass = updated w.pass p (marked limit (w.pass p) nap) }

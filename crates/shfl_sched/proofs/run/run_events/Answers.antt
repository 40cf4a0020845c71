use Rattle.std.proofs.Common.{◌≡◌, ◌+◌, ◌<◌, ◌≤◌, ◌++◌, ℕ, length, vec_capacity, get_or, sym, ap, ◌∙◌, arith}
use Rattle.std.proofs.lemmas.Grind.{common_steps}
use Rattle.std.proofs.lemmas.Result.{err_from_is_err_and, on_ok_weaker, IfErr-weaker}
use Rattle.shfl_core.specs.Runner.{Lock}
use Rattle.shfl_core.specs.ShownLine.{shown_line}
use Rattle.shfl_sched.specs.declared.schedule.Act.TheVariants.{Write}
use Rattle.shfl_sched.specs.declared.schedule.Event.{Event}
use Rattle.shfl_sched.specs.Report.{row}
use Rattle.shfl_sched.specs.Schedules.{ScheduleModel}
use Rattle.shfl_sched.specs.Run.{setup_of, lock_after}
use Rattle.shfl_sched.proofs.Pieces.{hands_on, as_much, writes, stops, ends, grown, on_ok, on_err}
use Rattle.shfl_sched.proofs.RunEnds.{ends_whole, stops_before}
use Rattle.shfl_sched.proofs.RunSteps.{passes_of, goes_on, world_moves, answered}
use Rattle.shfl_sched.proofs.RunRows.{next_row, counts_admitted, skips_admitted, counts_refused, skips_refused}
use Rattle.shfl_sched.proofs.run.run_events.Goals as goal
use Rattle.shfl_sched.proofs.run.run_events.Goals.{then-admitted, else-admitted}

pub make_and_show-admitted-requires-clause-passes : goal.make_and_show-admitted-requires-clause-passes
make_and_show-admitted-requires-clause-passes g c =
    passes_of c.args.schedule.now c.loop-event.event-index (g.B.Board.meaning c.loop-event.board) c.loop-event.invariant.lock

pub returns-in_err-make_room-clause-part : goal.returns-in_err-make_room-clause-part
returns-in_err-make_room-clause-part g c =
    let p = err_from_is_err_and c.from_residual.result c.from_residual.ensures.1 in
    rw p.1 (c.loop-event.event-index, c.loop-event.invariant.lock)

pub returns-in_err-make_room-clause-stopped : goal.returns-in_err-make_room-clause-stopped
returns-in_err-make_room-clause-stopped g c =
    let p = err_from_is_err_and c.from_residual.result c.from_residual.ensures.1 in
    rw (p.1, p.2) (stops_before c.args.schedule.now c.loop-event.event-index (c.loop-event.yes + c.loop-event.no + 1) _ _ _ _ _ _ _ _ _ c.loop-event.invariant.faults c.in_err-make_room.ensures.stopped c.loop-event.invariant.text)

pub returns-in_err-make_room-2-clause-part : goal.returns-in_err-make_room-2-clause-part
returns-in_err-make_room-2-clause-part g c =
    let p = err_from_is_err_and c.from_residual-in_err-make_room-2.result c.from_residual-in_err-make_room-2.ensures.1 in
    rw p.1 (c.loop-event.event-index, c.loop-event.invariant.lock)

pub returns-in_err-make_room-2-clause-stopped : goal.returns-in_err-make_room-2-clause-stopped
returns-in_err-make_room-2-clause-stopped g c =
    let p = err_from_is_err_and c.from_residual-in_err-make_room-2.result c.from_residual-in_err-make_room-2.ensures.1 in
    rw (p.1, p.2) (stops_before c.args.schedule.now c.loop-event.event-index (c.loop-event.yes + c.loop-event.no + 1) _ _ _ _ _ _ _ _ _ c.loop-event.invariant.faults c.in_err-make_room-2.ensures.stopped c.loop-event.invariant.text)

pub loop-event-preserved : goal.loop-event-preserved
loop-event-preserved g c =
    let s = c.args.schedule.now in
    let i = c.loop-event.event-index in
    let before = g.B.Board.meaning c.loop-event.board in
    let made = g.B.Board.meaning c.make_and_show-admitted.new.board in
    let inside : i < length s.events = grind (arith, common_steps) in
    let items = c.deref-event-items.ensures.value ∙ ap (λ (x : ScheduleModel). x.events) c.schedule.view_is in
    let after : made ≡ lock_after s (i + 1) = goes_on s i before c.loop-event.invariant.lock _ made inside (rw items at c.make_and_show-admitted.ensures.after) in
    let lock = c.put_row.ensures.unchanged ∙ after in
    let shown = c.make_and_show-admitted.ensures.shown ∙ ap (λ (l : Lock). shown_line l.world) (sym c.put_row.ensures.unchanged) in
    let d : Event = record { act = Write; pass = 0 } in
    let moves = world_moves s i d inside in
    let answer = answered s i before c.loop-event.invariant.lock _ c.make_and_show-admitted.result (rw items at c.make_and_show-admitted.ensures.answer) in
    let form : c.schedule.inside.form ≡ s.form = ap (λ (x : ScheduleModel). x.form) c.schedule.view_is in
    let item : Event = get_or s.events i d in
    let moved = c.in_ok-make_room.ensures.moved in
    let short = c.in_ok-make_room.ensures.short in
    let kept = c.make_room.ensures.room in
    let much : c.make_room.new.sent + length c.make_room.new.text.items ≡ c.loop-event.sent + length c.loop-event.text.items =
    as_much (g.W.Sink.held c.loop-event.out) (g.W.Sink.held c.make_room.new.out) c.loop-event.sent c.make_room.new.sent c.loop-event.text.items c.make_room.new.text.items moved in
    let most = c.put_row.ensures.text.few in
    let more = c.put_row.ensures.text.kept in
    let room : length c.make_room.new.text.items + 5598 ≤ vec_capacity c.make_room.new.text = omega (arith, short, kept, c.loop-event.invariant.room) in
    let wrote : c.put_row.new.out.items ≡ c.make_room.new.text.items ++ row s.form (c.loop-event.yes + c.loop-event.no + 1) item c.make_and_show-admitted.result (lock_after s (i + 1)).world =
    rw (form, after) at (rw items at (c.put_row.ensures.text.written room)) in
    let raw = c.put_row.ensures.text.written room in
    let long = grown c.put_row.new.out.items c.make_room.new.text.items _ raw in
    let next = next_row (setup_of s) (lock_after s i).world s.events i d s.form (c.loop-event.yes + c.loop-event.no + 1) (lock_after s (i + 1)).world
    c.make_and_show-admitted.result inside moves answer in
    let so_far = rw next at (hands_on _ (g.W.Sink.held c.loop-event.out) (g.W.Sink.held c.make_room.new.out) c.loop-event.sent c.make_room.new.sent c.loop-event.text.items c.make_room.new.text.items _ _ moved c.loop-event.invariant.text) in
    let text = writes _ _ _ _ _ _ _ _ wrote so_far in
    elim c.if-admitted.branch [
      | then-admitted w ↦ let yes = sym answer ∙ w.if-admitted.true in record {
        text = let number : c.if-admitted.yes + c.if-admitted.no + 1 ≡ c.loop-event.yes + c.loop-event.no + 1 + 1 = omega arith in rw number text;
        faults = omega (arith, c.make_room.ensures.later, c.loop-event.invariant.faults);
        room = omega (arith, more, kept, c.loop-event.invariant.room);
        sent = omega (arith, long, most, much, c.loop-event.invariant.sent);
        admitted = rw w.yes-is (counts_admitted (setup_of s) _ s.events i _ _ _ _ inside moves yes c.loop-event.invariant.admitted);
        refused = rw w.no-is (skips_refused (setup_of s) _ s.events i _ _ _ _ inside moves yes c.loop-event.invariant.refused);
        count = omega arith;
        lock = lock;
        shown = shown;
      }
      | else-admitted w ↦ let no = sym answer ∙ w.if-admitted.false in record {
        text = let number : c.if-admitted.yes + c.if-admitted.no + 1 ≡ c.loop-event.yes + c.loop-event.no + 1 + 1 = omega arith in rw number text;
        faults = omega (arith, c.make_room.ensures.later, c.loop-event.invariant.faults);
        room = omega (arith, more, kept, c.loop-event.invariant.room);
        sent = omega (arith, long, most, much, c.loop-event.invariant.sent);
        admitted = rw w.yes-is (skips_admitted (setup_of s) _ s.events i _ _ _ _ inside moves no c.loop-event.invariant.admitted);
        refused = rw w.no-is (counts_refused (setup_of s) _ s.events i _ _ _ _ inside moves no c.loop-event.invariant.refused);
        count = omega arith;
        lock = lock;
        shown = shown;
      }
    ]

-- all events are made
pub returns-clause-after : goal.returns-clause-after
returns-clause-after g c =
    let s = c.args.schedule.now in
    let items = c.deref-event-items.ensures.value ∙ ap (λ (x : ScheduleModel). x.events) c.schedule.view_is in
    let all : c.loop-event.event-index ≡ length s.events = grind (arith, common_steps) in
    on_ok _ (rw all at c.loop-event.invariant.lock)

pub returns-clause-part : goal.returns-clause-part
returns-clause-part g c =
    let here : (n : ℕ) × (g.B.Board.meaning c.loop-event.board ≡ lock_after c.args.schedule.now n) = (c.loop-event.event-index, c.loop-event.invariant.lock) in on_err _ here

pub returns-clause-report : goal.returns-clause-report
returns-clause-report g c =
    let s = c.args.schedule.now in
    let items = c.deref-event-items.ensures.value ∙ ap (λ (x : ScheduleModel). x.events) c.schedule.view_is in
    let all : c.loop-event.event-index ≡ length s.events = grind (arith, common_steps) in
    let short = c.in_ok-make_room-2.ensures.short in
    let kept = c.make_room-2.ensures.room in
    let room : length c.make_room-2.new.text.items + 53 ≤ vec_capacity c.make_room-2.new.text = omega (arith, short, kept, c.loop-event.invariant.room) in
    let last = ends_whole s _ _ _ _ _ _ _ _ _ _ _ _ (omega (arith, all)) c.loop-event.invariant.text c.in_ok-make_room-2.ensures.moved c.loop-event.invariant.admitted
    c.loop-event.invariant.refused (c.put_totals.ensures.written room) in
    on_ok_weaker c.hand_on.result (λ took. ends _ _ _ _ _ _ took last) c.hand_on.ensures.all

pub returns-clause-stopped : goal.returns-clause-stopped
returns-clause-stopped g c =
    let s = c.args.schedule.now in
    let items = c.deref-event-items.ensures.value ∙ ap (λ (x : ScheduleModel). x.events) c.schedule.view_is in
    let all : c.loop-event.event-index ≡ length s.events = grind (arith, common_steps) in
    let short = c.in_ok-make_room-2.ensures.short in
    let kept = c.make_room-2.ensures.room in
    let room : length c.make_room-2.new.text.items + 53 ≤ vec_capacity c.make_room-2.new.text = omega (arith, short, kept, c.loop-event.invariant.room) in
    let last = ends_whole s _ _ _ _ _ _ _ _ _ _ _ _ (omega (arith, all)) c.loop-event.invariant.text c.in_ok-make_room-2.ensures.moved c.loop-event.invariant.admitted
    c.loop-event.invariant.refused (c.put_totals.ensures.written room) in
    let later : g.W.Sink.faults c.args.out.now ≤ g.W.Sink.faults c.make_room-2.new.out = omega (arith, c.make_room-2.ensures.later, c.loop-event.invariant.faults) in
    IfErr-weaker c.hand_on.result _ _ (λ e stop. stops _ _ _ _ _ _ _ _ _ _ e later stop last) c.hand_on.ensures.stopped

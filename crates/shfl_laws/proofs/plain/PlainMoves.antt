-- What every move and every run keeps, in plain words.
use Rattle.std.proofs.Common.{List, length, sym, ap, ◌∙◌, subst}
use Rattle.shfl_line.specs.declared.words.Attr.{Attr}
use Rattle.shfl_line.specs.declared.events.LineEvent.{LineEvent}
use Rattle.shfl_line.specs.Line.{Line, empty}
use Rattle.shfl_line.specs.Steps.{Admits, after}
use Rattle.shfl_line.specs.declared.events.LineEvent.TheVariants.{Nothing}
use Rattle.shfl_core.specs.declared.phase.Rules.{Rules}
use Rattle.shfl_core.specs.Words.{look, site}
use Rattle.shfl_core.specs.Plan.{attempt_plan}
use Rattle.shfl_core.specs.Worlds.{World, opening, tried, after_move, run}
use Rattle.shfl_core.specs.Events.{attempt_event}
use Rattle.shfl_core.specs.Lawful.{Terms, Lawful, Advances}
use Rattle.shfl_laws.specs.Moves.{move_event, terms, MayOpen, unseated, first_seated, StartLaw, with_one_more}
use Rattle.shfl_laws.specs.Plain.{PlainLawful}
use Rattle.shfl_laws.specs.PlainMoves.{PlainOne, PlainOpening, PlainStarts, StepsTo, PlainMoves, PlainAttempts, PlainSeats, PlainRuns}
use Rattle.shfl_laws.proofs.laws.AttemptRows.{attempt-law}
use Rattle.shfl_laws.proofs.laws.Laws.{laws}
use Rattle.shfl_laws.proofs.laws.MoveLaws.{move-law, run-law}
use Rattle.shfl_laws.proofs.laws.Opens.{opening-law, start-law, first-seat-law, seat-law}
use Rattle.shfl_laws.proofs.plain.Plain.{plain-law, lawful-law}
use Rattle.shfl_laws.proofs.shown.ShownOne.{shows-one}

pub plain-one : PlainOne
plain-one t w a b h k = let x = lawful-law t w a h in let y = lawful-law t w b k in sym x.1 ∙ (shows-one t w x.0 y.0 ∙ y.1)

pub plain-opening : PlainOpening
plain-opening rules attrs may = let o = opening-law rules attrs may in
    subst (λ s. PlainLawful (terms rules attrs) (opening attrs) s) o.shown (plain-law (terms rules attrs) (opening attrs) o.lawful)

start-plainly : (start : List Attr → World) → StartLaw start → (rules : Rules) (attrs : List Attr) → MayOpen rules attrs → PlainLawful (terms rules attrs) (start attrs) (empty (length attrs))
start-plainly start law rules attrs may = let o = law rules attrs may in
    subst (λ s. PlainLawful (terms rules attrs) (start attrs) s) o.shown (plain-law (terms rules attrs) (start attrs) o.lawful)

pub plain-starts : PlainStarts
plain-starts = record { unseated = start-plainly unseated start-law; first_seat = start-plainly first_seated first-seat-law }

-- a law of the invariant, in plain words
steps-to : (t : Terms) (w w' : World) (s : Line) (e : LineEvent) → PlainLawful t w s → ((ok : Lawful t w) → Advances t w ok e w') → StepsTo t s e w'
steps-to t w w' s e h law = let ok = lawful-law t w s h in let a = law ok.0 in record {
  admitted = subst (λ z. Admits t.rules.limit z e) ok.1 a.admitted;
  lawful = subst (λ z. PlainLawful t w' z) (a.shown ∙ ap (λ z. after z e) ok.1) (plain-law t w' a.lawful);
}

pub plain-moves : PlainMoves
plain-moves t m w s h may = steps-to t w (after_move t.rules w m) s (move_event t.rules w m) h (λ ok. move-law t (laws t) m w ok may)

pub plain-attempts : PlainAttempts
plain-attempts t mode w p q s h e f may = steps-to t w (tried w p q mode) s (attempt_event mode p (look w.words (site (attempt_plan mode)))) h (λ ok. attempt-law t mode w p q ok e f may)

pub plain-seats : PlainSeats
plain-seats t w s h less = steps-to t w (with_one_more w) s Nothing h (λ ok. seat-law t w ok less)

pub plain-runs : PlainRuns
plain-runs rules attrs moves may each = let ok = run-law laws rules attrs moves may each in
    (ok.shown, plain-law (terms rules attrs) (run rules (opening attrs) moves) ok)

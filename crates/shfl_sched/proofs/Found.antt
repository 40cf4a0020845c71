-- What is read is the some-same whose text the bytes are.
use Rattle.std.proofs.Common.{◌≡◌, ℕ, ◌+◌, ◌<◌, ◌≤◌, List, [], ◌∷◌, ◌++◌, length, map, Bool, true, false, cond, Result, Ok, Err, leb, refl, sym, ap, ◌∙◌, subst, length-append, arith}
use Rattle.std.specs.Prelude.{codes}
use Rattle.std.specs.List.{flat_map, AllByRecursion}
use Rattle.std.proofs.ByRecursion.{All-push}
use Rattle.std.proofs.lemmas.Bool.Decides.{nat_tests}
use Rattle.std.proofs.lemmas.List.{map-append}
use Rattle.shfl_line.specs.declared.words.Attr.{Attr}
use Rattle.shfl_line.specs.declared.events.Form.{Form}
use Rattle.doc_text.specs.declared.fault.Fault.{Fault}
use Rattle.doc_text.specs.Text.{pieces, ended, IsPlain}
use Rattle.doc_text.specs.Words.{words}
use Rattle.doc_text.specs.Faults.{fault, ◌>>=◌, or_fault, fixed_due, lines_from, Then}
use Rattle.doc_text.proofs.Joining.{joined, joined-pieces}
use Rattle.doc_text.proofs.Due.{bind-some, or_fault-some, fixed_due-some}
use Rattle.policy_text.specs.Attributes.{attr_line, IsAttr}
use Rattle.policy_text.specs.Headings.{heading_lines}
use Rattle.policy_text.proofs.AttrSections.{attrs_in-found}
use Rattle.policy_text.proofs.Chains.{ok-same}
use Rattle.policy_text.proofs.LinesRead.{lines_from-read}
use Rattle.shfl_sched.specs.declared.schedule.Rule.{Rule}
use Rattle.shfl_sched.specs.declared.schedule.Event.{Event}
use Rattle.shfl_sched.specs.declared.faults.TheConstants.{PASS, EVENT, OVER}
use Rattle.shfl_sched.specs.Schedules.{ScheduleModel, IsEventOf, IsWithin}
use Rattle.shfl_sched.specs.Lines.{event_in}
use Rattle.shfl_sched.specs.Grammar.{Front, front_in, policy_line, ReadsRule, pass_lines, passes_in, event_says, events_in, schedule_in, ReadsSchedule}
use Rattle.shfl_sched.specs.Spelling.{form_line, limit_line, event_line, body_lines, IsRuleLine, IsText}
use Rattle.shfl_sched.proofs.Wording.{event-some}
use Rattle.shfl_sched.proofs.RuleLines.{rule-some}
use Rattle.shfl_sched.proofs.Fronts.{FrontLines, front-some}

-- ---- the passes

abbrev Passes : List Attr → List (List ℕ) → List (List ℕ) → Type 0
Passes passes ps qs = (ps ≡ map ended (map (attr_line (codes "pass")) passes) ++ qs) × (0 < length passes) × (length passes ≤ 64) × AllByRecursion IsAttr passes

passes-some : (line : ℕ) (ps qs : List (List ℕ)) (passes : List Attr) → passes_in line ps ≡ Ok (passes, qs) → Passes passes ps qs
unfolding passes_in
passes-some line ps qs passes h = attrs_in-found pass_lines line ps passes qs h

-- ---- the events

event-tells : (form : Form) (passes : ℕ) (done : List Event) (line : ℕ) (t : List ℕ) (e : Event) → event_says form passes done line t ≡ Ok e → (t ≡ event_line e) × IsEventOf form passes e × (length done < 65536)
unfolding event_says
event-tells form passes done line t e h =
    let r = bind-some (or_fault line EVENT (event_in form passes (words t))) (λ (d : Event). cond (leb 65536 (length done)) (fault line OVER) (Ok d)) e h in
    let b = by_room r.0 (leb 65536 (length done)) refl r.2 in
    let s = event-some form passes t r.0 (or_fault-some line EVENT (event_in form passes (words t)) r.0 r.1) in
    (s.0 ∙ ap event_line b.0, subst (IsEventOf form passes) b.0 s.1, b.1)
  where
    by_room : (d : Event) (v : Bool) → leb 65536 (length done) ≡ v → ◌≡◌ {A = Result Event Fault} (cond v (fault line OVER) (Ok d)) (Ok e) → (d ≡ e) × (length done < 65536)
    by_room d true f k = cc
    by_room d false f k = let lt : length done < 65536 = grind (arith, nat_tests) in (ok-same d e k, lt)

abbrev Events : Form → ℕ → List Event → List (List ℕ) → Type 0
Events form passes events ps = (ps ≡ ended (codes "events") ∷ map ended (map event_line events)) × AllByRecursion (IsEventOf form passes) events × (length events ≤ 65536)

-- what holds of the events read so far
abbrev EventsKept : Form → ℕ → List Event → Type 0
EventsKept form passes events = (length events ≤ 65536) × AllByRecursion (IsEventOf form passes) events

event-step : (form : Form) (passes : ℕ) (done : List Event) (line : ℕ) (t : List ℕ) (e : Event) → IsPlain t → event_says form passes done line t ≡ Ok e → EventsKept form passes done
    → (t ≡ event_line e) × EventsKept form passes (done ++ e ∷ [])
event-step form passes done line t e plain h kept =
    let r = event-tells form passes done line t e h in
    (r.0, (omega (arith, length-append done (e ∷ []), r.2), All-push (IsEventOf form passes) done e kept.1 r.1))

events-some : (form : Form) (passes line : ℕ) (ps : List (List ℕ)) (events : List Event) → events_in form passes line ps ≡ Ok events → Events form passes events ps
unfolding events_in
events-some form passes line ps events h =
    let r = bind-some (fixed_due line PASS (codes "events") ps) (λ (qs : List (List ℕ)). lines_from (event_says form passes) [] (line + 1) qs) events h in
    let l = lines_from-read (event_says form passes) event_line (EventsKept form passes) (event-step form passes) r.0 [] (line + 1) events (omega arith, tt) r.2 in
    let lines : r.0 ≡ map ended (map event_line events) = l.2 ∙ ap (λ (es : List Event). map ended (map event_line es)) (sym l.1) in
    (fixed_due-some line PASS (codes "events") ps r.0 r.1 ∙ ap (λ (qs : List (List ℕ)). ended (codes "events") ∷ qs) lines, l.3.1, l.3.0)

-- ---- the whole

joined-lines : (ts : List (List ℕ)) → joined (map ended ts) ≡ flat_map ended ts
joined-lines [] = refl
joined-lines (t ∷ ts) = ap (λ (l : List ℕ). ended t ++ l) (joined-lines ts)

abbrev with_events : Front → Rule → List Attr → List Event → Result ScheduleModel Fault
with_events f rule passes events = Ok (record { version = f.version; profile = f.profile; form = f.form; limit = f.limit; rule = rule; passes = passes; events = events })

abbrev with_passes : Front → Rule → List Attr × List (List ℕ) → Result ScheduleModel Fault
with_passes f rule p = events_in f.form (length p.0) (policy_line f + 1 + length p.0) p.1 >>= with_events f rule p.0

abbrev with_rule : Front → Rule → Result ScheduleModel Fault
with_rule f rule = passes_in (policy_line f + 1) f.rest >>= with_passes f rule

abbrev IsFound : List ℕ → ScheduleModel → Type 0
IsFound bytes s = IsText bytes s × IsWithin s

-- the lines behind a front
whole-text : (bytes : List ℕ) (f : Front) (passes : List Attr) (events : List Event) (qs : List (List ℕ)) → FrontLines (pieces bytes) f → Passes passes f.rest qs → Events f.form (length passes) events qs
    → bytes ≡ flat_map ended (heading_lines (codes "shfl-line") f.version f.profile ++ (form_line f.form ∷ limit_line f.limit ∷ f.policy ∷ body_lines passes events))
whole-text bytes f passes events qs front p e =
    let heads = heading_lines (codes "shfl-line") f.version f.profile in
    let passing = map (attr_line (codes "pass")) passes in
    let behind = form_line f.form ∷ limit_line f.limit ∷ f.policy ∷ body_lines passes events in
    let tail : f.rest ≡ map ended (body_lines passes events) =
    p.0 ∙ ap (λ (ps : List (List ℕ)). map ended passing ++ ps) e.0 ∙ sym (map-append ended passing (codes "events" ∷ map event_line events)) in
    let all : pieces bytes ≡ map ended (heads ++ behind) =
    front.lines ∙ ap (λ (ps : List (List ℕ)). map ended heads ++ ended (form_line f.form) ∷ ended (limit_line f.limit) ∷ ended f.policy ∷ ps) tail ∙ sym (map-append ended heads behind) in
    sym (joined-pieces bytes) ∙ ap joined all ∙ joined-lines (heads ++ behind)

whole-parts : (bytes : List ℕ) (f : Front) (rule : Rule) (passes : List Attr) (events : List Event) (qs : List (List ℕ)) (s : ScheduleModel) → FrontLines (pieces bytes) f
    → IsRuleLine f.profile f.policy rule → Passes passes f.rest qs → Events f.form (length passes) events qs → with_events f rule passes events ≡ Ok s → IsFound bytes s
whole-parts bytes f rule passes events qs s front line p e k =
    let parts : ScheduleModel = record { version = f.version; profile = f.profile; form = f.form; limit = f.limit; rule = rule; passes = passes; events = events } in
    let is = ok-same parts s k in
    subst (IsFound bytes) is (
      (f.policy, line, whole-text bytes f passes events qs front p e),
      record {
        version = front.version;
        limit = front.limit;
        passes = (p.1, p.2);
        attrs = p.3;
        few = e.2;
        events = e.1;
      },
    )

behind-front : (bytes : List ℕ) (f : Front) (rule : Result Rule Fault) (s : ScheduleModel) → FrontLines (pieces bytes) f → ReadsRule f.profile (policy_line f) f.policy rule → schedule_in f rule ≡ Ok s → IsFound bytes s
unfolding schedule_in
behind-front bytes f rule s front reads h =
    let r = bind-some rule (with_rule f) s h in
    let p = bind-some (passes_in (policy_line f + 1) f.rest) (with_passes f r.0) s r.2 in
    let e = bind-some (events_in f.form (length p.0.0) (policy_line f + 1 + length p.0.0) p.0.1) (with_events f r.0 p.0.0) s p.2 in
    let line = rule-some f.profile (policy_line f) f.policy r.0 (subst (ReadsRule f.profile (policy_line f) f.policy) r.1 reads) in
    let passes = passes-some (policy_line f + 1) f.rest p.0.1 p.0.0 p.1 in
    let events = events-some f.form (length p.0.0) (policy_line f + 1 + length p.0.0) p.0.1 e.0 e.1 in
    whole-parts bytes f r.0 p.0.0 e.0 p.0.1 s front line passes events e.2

pub found : (bytes : List ℕ) (s : ScheduleModel) → ReadsSchedule bytes (Ok s) → IsText bytes s × IsWithin s
found bytes s h = by_front (front_in (pieces bytes)) refl h
  where
    by_front : (r : Result Front Fault) → front_in (pieces bytes) ≡ r → Then r (λ f read. (rule : Result Rule Fault) × ReadsRule f.profile (policy_line f) f.policy rule × (read ≡ schedule_in f rule)) (Ok s) → IsText bytes s × IsWithin s
    by_front (Err x) e k = cc
    by_front (Ok f) e k = behind-front bytes f k.0 s (front-some (pieces bytes) f e) k.1 (sym k.2)

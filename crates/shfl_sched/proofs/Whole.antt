-- The text of a schedule is read as it.
use Rattle.std.proofs.Common.{◌≡◌, ℕ, ◌+◌, ◌<◌, ◌≤◌, List, [], ◌∷◌, ◌++◌, length, map, false, Result, Ok, leb, refl, sym, ap, ◌∙◌, subst, length-append, arith}
use Rattle.std.specs.Prelude.{codes}
use Rattle.std.specs.List.{flat_map, AllByRecursion}
use Rattle.std.proofs.lemmas.Bool.Decides.{nat_tests}
use Rattle.std.proofs.lemmas.Grind.{flat_map-append}
use Rattle.bpf_isa.specs.declared.insn.Profile.{Profile}
use Rattle.shfl_line.specs.declared.words.Attr.{Attr}
use Rattle.shfl_line.specs.declared.events.Form.{Form}
use Rattle.doc_text.specs.declared.fault.Fault.{Fault}
use Rattle.doc_text.specs.Text.{pieces, ended, IsPlain}
use Rattle.doc_text.proofs.Due.{line_due-ended, fixed_due-ended, one_of-ended}
use Rattle.doc_text.proofs.Loops.{lines_from-joined}
use Rattle.policy_text.specs.Attributes.{attr_line, IsAttr}
use Rattle.policy_text.specs.Headings.{heading_lines, IsVersion}
use Rattle.policy_text.proofs.AttrSections.{attrs_in-only}
use Rattle.policy_text.proofs.HeadingLines.{heading_in-lines}
use Rattle.policy_text.proofs.LinesRead.{all-at}
use Rattle.policy_text.proofs.Parts.{pieces-lines_before}
use Rattle.doc_text.specs.Faults.{Then}
use Rattle.shfl_sched.specs.declared.schedule.Rule.{Rule}
use Rattle.shfl_sched.specs.declared.schedule.Event.{Event}
use Rattle.shfl_sched.specs.Schedules.{ScheduleModel, IsEventOf, IsWithin}
use Rattle.lock_words.specs.Lines.{form_in, limit_in}
use Rattle.shfl_sched.specs.declared.faults.TheConstants.{FORM, LIMIT, POLICY, PASS, PROFILE}
use Rattle.shfl_sched.specs.Grammar.{Front, front_in, policy_line, ReadsRule, pass_lines, passes_in, event_says, events_in, schedule_in, ReadsSchedule}
use Rattle.shfl_sched.specs.Spelling.{form_line, limit_line, event_line, body_lines, schedule_lines, IsText}
use Rattle.shfl_sched.proofs.Spelled.{form-read, limit-read, event-read}
use Rattle.shfl_sched.proofs.RuleWords.{rule-read}

-- ---- lists

earlier : {A : Type 0} (most : ℕ) (xs done more : List A) (x : A) → xs ≡ done ++ x ∷ more → length xs ≤ most → leb most (length done) ≡ false
earlier {A} most xs done more x e few =
    let len : length xs ≡ length (done ++ x ∷ more) = ap (λ (l : List A). length l) e in
    let parts = length-append done (x ∷ more) in
    let lt : length done < most = omega (arith, len, parts, few) in
    grind (arith, nat_tests)

-- ---- the passes

abbrev pass_line : Attr → List ℕ
pass_line = attr_line (codes "pass")

passes-read : (line : ℕ) (passes : List Attr) (rest : List ℕ) → AllByRecursion IsAttr passes → 0 < length passes → length passes ≤ 64
    → passes_in line (pieces (flat_map ended (map pass_line passes) ++ (ended (codes "events") ++ rest))) ≡ Ok (passes, ended (codes "events") ∷ pieces rest)
unfolding passes_in
passes-read line passes rest each some few =
    attrs_in-only pass_lines (refl, refl) (λ a h. refl) line passes (codes "events") rest some few each refl refl

-- ---- the events

one-read : (form : Form) (passes : ℕ) (done : List Event) (line : ℕ) (e : Event) → passes ≤ 64 → IsEventOf form passes e → leb 65536 (length done) ≡ false
    → IsPlain (event_line e) × (event_says form passes done line (event_line e) ≡ Ok e)
unfolding event_says
one-read form passes done line e few h room =
    let r = event-read form passes e few h in
    (r.0, rw (r.1, room) refl)

events-read : (form : Form) (passes line : ℕ) (events : List Event) → passes ≤ 64 → AllByRecursion (IsEventOf form passes) events → length events ≤ 65536
    → events_in form passes line (ended (codes "events") ∷ pieces (flat_map ended (map event_line events))) ≡ Ok events
unfolding events_in
events-read form passes line events small each few =
    let all = lines_from-joined (event_says form passes) event_line [] events (line + 1)
    (λ done more e l is. one-read form passes done l e small (all-at (IsEventOf form passes) done more e (subst (AllByRecursion (IsEventOf form passes)) is each)) (earlier 65536 events done more e is few)) in
    rw (fixed_due-ended line PASS (codes "events") (pieces (flat_map ended (map event_line events))) refl) all

-- ---- the lines up to the policy

abbrev heads : ℕ → Profile → List (List ℕ)
heads = heading_lines (codes "shfl-line")

-- the three lines behind the heading
abbrev three : Form → ℕ → List ℕ → List (List ℕ)
three form limit policy = form_line form ∷ limit_line limit ∷ policy ∷ []

front-read : (version : ℕ) (called : Profile) (form : Form) (limit : ℕ) (policy rest : List ℕ) → IsVersion version called → 0 < limit → limit ≤ 1024 → IsPlain policy
    → front_in (pieces (flat_map ended (heads version called) ++ (flat_map ended (three form limit policy) ++ rest)))
    ≡ Ok (record { version = version; profile = called; form = form; limit = limit; policy = policy; rest = pieces rest })
unfolding front_in
front-read version called form limit policy rest known some few plain =
    let f = form-read form in
    let l = limit-read limit some few in
    let heading = heading_in-lines (codes "shfl-line") PROFILE version called (flat_map ended (three form limit policy) ++ rest) (refl, refl) known in
    let lines = pieces-lines_before (three form limit policy) rest (f.0, (l.0, (plain, tt))) in
    rw (
      heading,
      lines,
      one_of-ended (version + 1) FORM form_in (form_line form) (ended (limit_line limit) ∷ ended policy ∷ pieces rest) form f.0 f.1,
      one_of-ended (version + 2) LIMIT limit_in (limit_line limit) (ended policy ∷ pieces rest) limit l.0 l.1,
      line_due-ended (version + 3) POLICY policy (pieces rest) plain,
    ) refl

-- ---- the whole

-- the bytes behind the policy line
abbrev behind_policy : ScheduleModel → List ℕ
behind_policy s = flat_map ended (map pass_line s.passes) ++ (ended (codes "events") ++ flat_map ended (map event_line s.events))

abbrev front_of : ScheduleModel → List ℕ → Front
front_of s policy = record { version = s.version; profile = s.profile; form = s.form; limit = s.limit; policy = policy; rest = pieces (behind_policy s) }

whole-front : (bytes : List ℕ) (s : ScheduleModel) (policy : List ℕ) → IsWithin s → IsPlain policy → bytes ≡ flat_map ended (schedule_lines s policy) → front_in (pieces bytes) ≡ Ok (front_of s policy)
whole-front bytes s policy h plain text =
    let body = body_lines s.passes s.events in
    let behind : flat_map ended body ≡ behind_policy s = flat_map-append ended (map pass_line s.passes) (codes "events" ∷ map event_line s.events) in
    let parts : bytes ≡ flat_map ended (heads s.version s.profile) ++ (flat_map ended (three s.form s.limit policy) ++ behind_policy s) =
    text ∙ flat_map-append ended (heads s.version s.profile) (three s.form s.limit policy ++ body)
    ∙ ap (λ (l : List ℕ). flat_map ended (heads s.version s.profile) ++ l) (flat_map-append ended (three s.form s.limit policy) body ∙ ap (λ (l : List ℕ). flat_map ended (three s.form s.limit policy) ++ l) behind) in
    ap (λ (l : List ℕ). front_in (pieces l)) parts ∙ front-read s.version s.profile s.form s.limit policy (behind_policy s) h.version h.limit.0 h.limit.1 plain

whole-behind : (s : ScheduleModel) (policy : List ℕ) → IsWithin s → schedule_in (front_of s policy) (Ok s.rule) ≡ Ok s
unfolding schedule_in
whole-behind s policy h =
    let line = policy_line (front_of s policy) + 1 in
    rw (
      passes-read line s.passes (flat_map ended (map event_line s.events)) h.attrs h.passes.0 h.passes.1,
      events-read s.form (length s.passes) (line + length s.passes) s.events h.passes.1 h.events h.few,
    ) refl

pub text-read : (bytes : List ℕ) (s : ScheduleModel) → IsWithin s → IsText bytes s → ReadsSchedule bytes (Ok s)
text-read bytes s h t =
    let rule = rule-read s.profile (policy_line (front_of s t.0)) t.0 s.rule t.1 in
    subst (λ (r : Result Front Fault). Then r (λ f read. (rule : Result Rule Fault) × ReadsRule f.profile (policy_line f) f.policy rule × (read ≡ schedule_in f rule)) (Ok s))
    (sym (whole-front bytes s t.0 h rule.0 t.2)) (Ok s.rule, rule.1, sym (whole-behind s t.0 h))

-- What a pass keeps over the first operation of an attempt, and what that tells.
use Rattle.std.proofs.Common.{◌≡◌, ◌≢◌, ℕ, ◌+◌, ◌++◌, ◌<◌, Bool, true, false, cond, List, [], ◌∷◌, map, length, Option, Some, None, refl, sym, ap, ◌∙◌, subst, arith, append-nil, append_assoc, eq-eqb, eqb-true}
use Rattle.std.specs.Prelude.{◌==◌, ◌||◌}
use Rattle.atomic_table.specs.Table.{Me}
use Rattle.atomic_table.specs.Seated.{TableId}
use Rattle.shfl_line.specs.declared.events.Mode.{Mode}
use Rattle.shfl_line.specs.declared.events.Mode.TheVariants.{Write, Read}
use Rattle.shfl_line.specs.Words.{held_of, closed_of}
use Rattle.shfl_core.specs.declared.phase.Phase.TheVariants.{Idle, TryUncount}
use Rattle.shfl_core.specs.declared.phase.Nap.TheVariants.{Awake}
use Rattle.shfl_core.specs.declared.phase.PassState.{PassState}
use Rattle.shfl_core.specs.declared.phase.Rules.{Rules}
use Rattle.shfl_core.specs.Phases.{is_holding}
use Rattle.shfl_core.specs.Words.{index, site, wide}
use Rattle.shfl_core.specs.Plan.{plan, attempt_plan, is_idle, is_held, moving}
use Rattle.shfl_core.specs.Take.{attempted, take}
use Rattle.shfl_core.specs.Lawful.{Terms, count}
use Rattle.shfl_laws.specs.Seen.{Alike}
use Rattle.shfl_laws.proofs.laws.MoveLaws.{idle-is}
use Rattle.shfl_laws.proofs.laws.SeenAs.{idle-alike}
use Rattle.shfl_laws.proofs.laws.Waits.{none-leads-to-release}
use Rattle.shfl_table.specs.declared.kept.Action.{Action}
use Rattle.shfl_table.specs.declared.view.View.{View}
use Rattle.shfl_laws.specs.Holds.{hold_of, is_releasing}
use Rattle.shfl_table.specs.Places.{first_place, place_count, Every, numbered, values_of}
use Rattle.shfl_table.specs.Histories.{HasSeen, IsCurrent}
use Rattle.shfl_table.specs.Views.{attempt_deeds, number, step_decisions, view_after}
use Rattle.shfl_table.specs.ValueMoves.{FitsWords, GainsHold, MovesValues}
use Rattle.shfl_table.specs.PassInvariant.{Carries, PassInvariant}
use Rattle.shfl_table.specs.PassModel.{PassModel}
use Rattle.shfl_table.specs.PassSteps.{Admits, FindsAdmitting, FindsRefusing, Refuses, SeesValues, TakesStep, TriesOnce, as_holder, as_refused, attempt_steps}
use Rattle.shfl_table.proofs.Candidates.{asks-nobody}
use Rattle.shfl_table.proofs.Own.{seen-me, carries-after, view-by}
use Rattle.shfl_table.proofs.Places.{values_numbered}

module _ {X : Type 0} (initial_state : X → List ℕ) (history : X → List Action) (rules : Rules) (own : PassState) (id : TableId) (me : Me (Option X) View) (k : PassInvariant initial_state history rules own id me) (idle : is_idle own.phase ≡ true) where
  pub alike : own ≡ me.0.pass
  alike = idle-alike rules.form own me.0.pass k.seen idle

  pub rests : me.0.pass.phase ≡ Idle
  rests = ap (λ (q : PassState). q.phase) (sym alike) ∙ idle-is own.phase idle

  out : hold_of own ≡ None
  out = ap (λ f. cond (is_holding f) (Some own.reg.mode) None) (idle-is own.phase idle)

  num : number me.0 ≡ own.reg.me
  num = seen-me rules.form own me.0.pass k.seen

  pub bare : me.1 ≡ []
  bare = k.carries.is ∙ ap (numbered (first_place (hold_of own) own.reg.me)) (none k.carries.values (k.carries.long ∙ ap (λ z. place_count z own.reg.me id.slots) out))
    where
      none : (values : List (Option X)) → length values ≡ 0 → values ≡ []
      none [] e = refl
      none (x ∷ xs) e = absurd (omega arith)

  module _ (t : Terms) (mode : Mode) (n : ℕ) (me' : Me (Option X) View) (q : PassState) (e : q ≡ attempted mode own.reg n)
      (go : FitsWords initial_state history t (attempt_plan mode) (attempted mode me.0.pass.reg) me n) (r : MovesValues initial_state history (attempted mode me.0.pass.reg) attempt_deeds id.slots me n me') where
    is : q ≡ attempted mode me.0.pass.reg n
    is = e ∙ ap (λ (z : PassState). attempted mode z.reg n) alike

    num' : q.reg.me ≡ own.reg.me
    num' = ap (λ (z : PassState). z.reg.me) is ∙ (go.stays ∙ num)

    same : hold_of own ≡ hold_of me.0.pass
    same = ap hold_of alike

    steady : (x y : Mode) → hold_of own ≡ Some x → hold_of q ≡ Some y → x ≡ y
    steady x y a b = absurd (let z : None ≡ Some x = sym out ∙ a in cc)

    still : is_releasing q.phase ≡ true → q.phase ≡ own.phase
    still l = absurd (let z : is_releasing q.phase ≡ false = ap (λ (z : PassState). is_releasing z.phase) e ∙ none-leads-to-release.attempts mode own.reg n in let x : true ≡ false = sym l ∙ z in cc)

    only : (m : Mode) → hold_of own ≡ Some m → hold_of q ≡ None → is_releasing own.phase ≡ true
    only m a b = absurd (let z : None ≡ Some m = sym out ∙ a in cc)

    view : (seen : List Action) × (me'.0 ≡ view_after (attempt_deeds n) me.0 (attempted mode me.0.pass.reg n) seen)
    view = view-by initial_state history id.slots own q me me' (attempted mode me.0.pass.reg) attempt_deeds n is num num' same steady still k.carries r (hold_of own) (hold_of q) refl refl only

    pub try-kept : (id' : TableId) → id' ≡ id → t.rules ≡ rules → id.words ≡ wide (count t) → PassInvariant initial_state history rules q id' me'
    try-kept id' there ruled words = record {
      live = ap (λ (v : View). v.live) view.1 ∙ k.live;
      seen = Alike (is ∙ sym (ap (λ (v : View). v.pass) view.1));
      range = subst (λ i. index (site (plan rules q.reg.me q)) < i) (sym words ∙ ap (λ (z : TableId). z.words) (sym there))
          (subst (λ (z : Rules × ℕ × PassState). index (site (plan z.0 z.1 z.2)) < wide (count t)) (λ j. (ruled j, (num ∙ sym num') j, sym is j)) go.range);
      carries = subst (λ (z : TableId). Carries initial_state history z.slots q me'.0 me'.1) (sym there)
          (carries-after initial_state history id.slots own q me me' (attempted mode me.0.pass.reg) attempt_deeds n is num num' same steady still k.carries r (hold_of own) (hold_of q) refl refl only);
      back = ap (λ (v : View). v.back) view.1 ∙ k.back;
      parts = ap (λ (v : View). v.parts) view.1 ∙ k.parts;
      asks = λ f. absurd (asks-nobody mode own.reg n (ap (λ (z : PassState). z.phase) (sym e) ∙ f));
    }

    pub try-told : (id' : TableId) (m : PassModel X) → id' ≡ id → record { board = record { table = id; rules = rules; attrs = me.0.attrs }; own = own; steps_taken = me.0.steps_taken; found = me.0.found; decisions = me.0.decisions; attempts = me.0.attempts; initial_state = me.0.initial_state; history = me.0.history; values = values_of me.1 } ≡ m
        → TriesOnce initial_state history m mode n (record { board = record { table = id'; rules = rules; attrs = me'.0.attrs }; own = q; steps_taken = me'.0.steps_taken; found = me'.0.found; decisions = me'.0.decisions; attempts = me'.0.attempts; initial_state = me'.0.initial_state; history = me'.0.history; values = values_of me'.1 })
    try-told id' m there is_m = subst (λ (z : PassModel X). TriesOnce initial_state history z mode n (record { board = record { table = id'; rules = rules; attrs = me'.0.attrs }; own = q; steps_taken = me'.0.steps_taken; found = me'.0.found; decisions = me'.0.decisions; attempts = me'.0.attempts; initial_state = me'.0.initial_state; history = me'.0.history; values = values_of me'.1 })) is_m (record {
      row = λ j. record { board = record { table = there j; rules = rules; attrs = (view.1 j).attrs }; own = e j; steps_taken = (view.1 j).steps_taken; found = (view.1 j).found; decisions = (ap (λ (v : View). v.decisions) view.1 ∙ append-nil me.0.decisions) j; attempts = (view.1 j).attempts; initial_state = (view.1 j).initial_state; history = me'.0.history; values = values_of me'.1 };
      stays = λ x. let s = r.stays (sym same ∙ (out ∙ (sym x ∙ ap (λ (z : PassState). hold_of (attempted mode z.reg n)) alike))) in (ap values_of s.0, ap (λ (v : View). v.history) s.1);
      gains = λ m a. let g : GainsHold initial_state history (attempt_deeds n) m id.slots me (attempted mode me.0.pass.reg n) me' = r.gains m (sym same ∙ out) (ap (λ (z : PassState). hold_of (attempted mode z.reg n)) (sym alike) ∙ a) in let tales : g.told ≡ me'.0.history = sym (ap (λ (v : View). v.history) g.view) in (
        subst (λ (z : List Action × ℕ). HasSeen z.0 z.1 me.0.history) (λ j. (tales j, num j)) g.knew,
        (
          g.values,
          ap values_of (g.carried ∙ (ap (λ c. numbered (first_place (Some m) (number me.0)) (map Some g.values) ++ c) bare ∙ append-nil (numbered (first_place (Some m) (number me.0)) (map Some g.values)))) ∙ values_numbered (first_place (Some m) (number me.0)) (map Some g.values),
          g.long ∙ ap (λ i. place_count (Some m) i id.slots) num,
          subst (λ (z : List Action). Every (IsCurrent initial_state history me.0.initial_state z) g.values) tales g.alike,
        ),
      );
    })

-- what an attempt tells, by its one or two steps
module _ {X : Type 0} (initial_state : X → List ℕ) (history : X → List Action) (old mid : PassModel X) (mode : Mode) (n : ℕ) (t : TriesOnce initial_state history old mode n mid) where
  where-is : mid.own ≡ attempted mode old.own.reg n
  where-is = ap (λ (z : PassModel X). z.own) t.row

  held-so : (mode : Mode) → is_held (attempted mode old.own.reg n).phase ≡ true → (attempted mode old.own.reg n ≡ as_holder mode old.own) × Admits mode n
  held-so Write h = by (n == 0) refl h
    where
      by : (b : Bool) → (n == 0) ≡ b → is_held (cond b (as_holder Write old.own) (as_refused Write n old.own)).phase ≡ true → (cond b (as_holder Write old.own) (as_refused Write n old.own) ≡ as_holder Write old.own) × (n ≡ 0)
      by true e h = (refl, eqb-true n 0 e)
      by false e h = absurd (cc)
  held-so Read h = by (held_of n || closed_of n) h
    where
      by : (b : Bool) → is_held (cond b (record { phase = TryUncount; reg = record old.own.reg { mode = Read; saw = n }; nap = Awake }) (as_holder Read old.own)).phase ≡ true
          → (cond b (record { phase = TryUncount; reg = record old.own.reg { mode = Read; saw = n }; nap = Awake }) (as_holder Read old.own) ≡ as_holder Read old.own) × (b ≡ false)
      by true h = absurd (cc)
      by false h = (refl, refl)

  pub took : is_held mid.own.phase ≡ true → (mid ≡ record old { own = as_holder mode old.own; steps_taken = old.steps_taken + 1; found = mid.found; attempts = old.attempts + 1; history = mid.history; values = mid.values }) × SeesValues initial_state history mode old mid × FindsAdmitting mode old.found mid.found
  took h = let w = held-so mode (sym (ap (λ (q : PassState). is_held q.phase) where-is) ∙ h) in (
    t.row ∙ (λ j. record old { own = w.0 j; steps_taken = old.steps_taken + 1; found = sym (ap (λ (z : PassModel X). z.found) t.row) j; attempts = old.attempts + 1; history = mid.history; values = mid.values }),
    t.gains mode (ap hold_of w.0),
    (n, w.1, ap (λ (z : PassModel X). z.found) t.row),
  )

away-write : (q : PassState) (i : ℕ) (b : Bool) → (i == 0) ≡ b → is_held (cond b (as_holder Write q) (as_refused Write i q)).phase ≡ false → (i ≢ 0) × (cond b (as_holder Write q) (as_refused Write i q) ≡ as_refused Write i q)
away-write q i true e h = absurd (cc)
away-write q i false e h = ((λ z. let x : false ≡ true = sym e ∙ eq-eqb i 0 z in cc), refl)

away-read : (q : PassState) (n : ℕ) (b : Bool) → is_held (cond b (record { phase = TryUncount; reg = record q.reg { mode = Read; saw = n }; nap = Awake }) (as_holder Read q)).phase ≡ false
    → (b ≡ true) × (cond b (record { phase = TryUncount; reg = record q.reg { mode = Read; saw = n }; nap = Awake }) (as_holder Read q) ≡ record { phase = TryUncount; reg = record q.reg { mode = Read; saw = n }; nap = Awake })
away-read q n true h = (refl, refl)
away-read q n false h = absurd (cc)

pub refused : {X : Type 0} (initial_state : X → List ℕ) (history : X → List Action) (old mid : PassModel X) (mode : Mode) (n : ℕ) → TriesOnce initial_state history old mode n mid → is_held mid.own.phase ≡ false → (moved : Bool) (new : PassModel X) → moved ≡ moving mid.own → (moved ≡ false → new ≡ mid)
    → (moved ≡ true → TakesStep initial_state history mid false new) → Refuses mode n × (new ≡ record old { own = as_refused mode n old.own; steps_taken = old.steps_taken + attempt_steps mode; found = new.found; attempts = old.attempts + 1 }) × FindsRefusing mode n old.found new.found
refused {X} initial_state history old mid Write n t h moved new is still step = let w : mid.own ≡ attempted Write old.own.reg n = ap (λ (z : PassModel X). z.own) t.row in
    let a = away-write old.own n (n == 0) refl (sym (ap (λ (q : PassState). is_held q.phase) w) ∙ h) in
    let s = t.stays (ap hold_of a.1) in let went = still (is ∙ ap moving (w ∙ a.1)) ∙ t.row in let found = ap (λ (z : PassModel X). z.found) went in (
      a.0,
      went ∙ (λ j. record old { own = a.1 j; steps_taken = old.steps_taken + 1; found = sym found j; attempts = old.attempts + 1; history = s.1 j; values = s.0 j }),
      ([], refl, found),
    )
refused {X} initial_state history old mid Read n t h moved new is still step = let w : mid.own ≡ attempted Read old.own.reg n = ap (λ (z : PassModel X). z.own) t.row in
    let a = away-read old.own n (held_of n || closed_of n) (sym (ap (λ (q : PassState). is_held q.phase) w) ∙ h) in
    let at : mid.own ≡ record { phase = TryUncount; reg = record old.own.reg { mode = Read; saw = n }; nap = Awake } = w ∙ a.1 in
    let s = t.stays (ap hold_of a.1) in let g = step (is ∙ ap moving at) in
    let went : take mid.board.rules mid.own.reg.me mid.own g.found false ≡ as_refused Read n old.own = (λ j. take mid.board.rules (at j).reg.me (at j) g.found false) in
    let is_ending = ap (λ (z : PassModel X). z.own) g.row ∙ went in
    let kept = g.stays (ap hold_of at ∙ sym (ap hold_of is_ending)) in
    let found = ap (λ (z : PassModel X). z.found) g.row in
    let two : mid.steps_taken + 1 ≡ old.steps_taken + 2 = (let l = ap (λ (z : PassModel X). z.steps_taken) t.row in omega arith) in (
      a.0,
      g.row ∙ (λ j. record { board = (t.row j).board; own = went j; steps_taken = two j; found = sym found j; decisions = ((λ i. mid.decisions ++ step_decisions mid.board.rules (at i) false) ∙ (append-nil mid.decisions ∙ ap (λ (z : PassModel X). z.decisions) t.row)) j; attempts = (t.row j).attempts; initial_state = (t.row j).initial_state; history = (kept.1 ∙ s.1) j; values = (kept.0 ∙ s.0) j }),
      (g.found ∷ [], refl, found ∙ (ap (λ (z : PassModel X). z.found ++ g.found ∷ []) t.row ∙ append_assoc old.found (n ∷ []) (g.found ∷ []))),
    )

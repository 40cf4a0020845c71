-- What a pass keeps of its values.
use Rattle.std.proofs.Common.{◌≡◌, ℕ, ◌++◌, ◌<◌, Bool, true, false, cond, List, [], ◌∷◌, map, length, slice_index, Option, Some, None, refl, sym, ap, ◌∙◌, subst, arith, append-nil}
use Rattle.atomic_table.specs.Table.{Me}
use Rattle.atomic_table.specs.Seated.{TableId}
use Rattle.shfl_line.specs.declared.events.Mode.{Mode}
use Rattle.shfl_line.specs.declared.events.Mode.TheVariants.{Write, Read}
use Rattle.shfl_core.specs.declared.phase.Phase.{Phase}
use Rattle.shfl_core.specs.declared.phase.Phase.TheVariants.{Release, ReadRelease, Decide}
use Rattle.shfl_core.specs.declared.words.Word.TheVariants.{Attr as AttrOf}
use Rattle.shfl_table.proofs.Candidates.{asks-after, asks-now}
use Rattle.shfl_core.specs.Phases.{is_holding}
use Rattle.shfl_core.specs.declared.phase.PassState.{PassState}
use Rattle.shfl_table.specs.declared.kept.Action.{Action}
use Rattle.shfl_table.specs.declared.view.Part.{Part}
use Rattle.shfl_table.specs.declared.view.View.{View}
use Rattle.shfl_table.specs.FoundInRun.{FoundInRun}
use Rattle.shfl_laws.specs.Holds.{hold_of, is_releasing}
use Rattle.shfl_table.specs.Places.{first_place, place_count, Every, numbered, values_of}
use Rattle.shfl_table.specs.Histories.{Continues, HasSeen, IsCurrent, common_history}
use Rattle.shfl_table.specs.Views.{Deeds, number, step_deeds, view_after}
use Rattle.shfl_table.specs.ValueMoves.{FitsWords, GainsHold, MayFree, MovesValues}
use Rattle.shfl_line.specs.declared.events.Form.{Form}
use Rattle.shfl_core.specs.declared.phase.Rules.{Rules}
use Rattle.shfl_core.specs.Words.{index, site, wide, is_store, NamesPass}
use Rattle.shfl_core.specs.Plan.{plan}
use Rattle.shfl_core.specs.Take.{take}
use Rattle.shfl_core.specs.Lawful.{Terms, count}
use Rattle.shfl_laws.specs.Seen.{SeenAs, Alike, Enters, Leaves}
use Rattle.std.proofs.lemmas.List.{length-map}
use Rattle.shfl_core.proofs.Blind.{formed-names}
use Rattle.shfl_laws.proofs.laws.Holds.{take-mode, hold-seen, frees-only}
use Rattle.shfl_laws.proofs.laws.Waits.{none-leads-to-release}
use Rattle.shfl_table.proofs.Places.{values_numbered}
use Rattle.shfl_table.specs.PassModel.{GrowsUnder, PassModel}
use Rattle.shfl_table.specs.PassInvariant.{Carries, IsGoodUnder, PassInvariant}
use Rattle.shfl_table.specs.declared.outcomes.Outcome.{Outcome}
use Rattle.shfl_table.specs.Outcomes.{IsOutcome}
use Rattle.shfl_table.specs.PassSteps.{TakesStep}

-- who gives the lock back holds it
holds-out : (f : Phase) (m : Mode) → cond (is_holding f) (Some m) None ≡ None → is_releasing f ≡ true → ⊥
holds-out Release m e l = let x : Some m ≡ None = e in cc
holds-out ReadRelease m e l = let x : Some m ≡ None = e in cc
holds-out _ m e l = cc

module _ {X : Type 0} (initial_state : X → List ℕ) (history : X → List Action) where
  all-like : (r : List ℕ) (h : Option Mode) (k : ℕ) (seen t : List Action) (xs : List X) → Every (IsGoodUnder initial_state history r h k seen) (map Some xs) → Every (λ x. history x ≡ t) xs → Every (IsCurrent initial_state history r t) xs
  all-like r h k seen t [] a b = tt
  all-like r h k seen t (x ∷ xs) a b = (((a.0 x refl).0, b.0), all-like r h k seen t xs a.1 b.1)

  grew : (r : List ℕ) (m : Mode) (k : ℕ) (seen : List Action) (xs : List X) → Every (IsGoodUnder initial_state history r (Some m) k seen) (map Some xs) → Continues k seen (common_history history seen xs) × (m ≡ Read → common_history history seen xs ≡ seen)
  grew r m k seen [] a = (([], sym (append-nil seen), tt), λ e. refl)
  grew r Write k seen (x ∷ xs) a = ((a.0 x refl).1, λ e. absurd (cc))
  grew r Read k seen (x ∷ xs) a = let e : history x ≡ seen = (a.0 x refl).1 in (([], e ∙ sym (append-nil seen), tt), λ _. e)

  pub ready-of : (slots : ℕ) (own : PassState) (me : Me (Option X) View) → number me.0 ≡ own.reg.me → Carries initial_state history slots own me.0 me.1 → (x : Mode) → hold_of own ≡ Some x → is_releasing own.phase ≡ true → MayFree initial_state history x slots me
  ready-of slots own me num k x h l = let v = k.leaving l in let good : Every (IsGoodUnder initial_state history me.0.initial_state (Some x) own.reg.me me.0.history) (map Some v.0) = subst (λ (z : Option Mode × List (Option X)). Every (IsGoodUnder initial_state history me.0.initial_state z.0 own.reg.me me.0.history) z.1) (λ j. (h j, v.1 j)) k.good in
      let g = grew me.0.initial_state x own.reg.me me.0.history v.0 good in record {
        values = v.0;
        carried = k.is ∙ (λ j. numbered (first_place (h j) (sym num j)) (v.1 j));
        long = sym (length-map v.0 Some) ∙ (ap length (sym v.1) ∙ (k.long ∙ (λ j. place_count (h j) (sym num j) slots)));
        alike = all-like me.0.initial_state (Some x) own.reg.me me.0.history (common_history history me.0.history v.0) v.0 good v.2;
        grew = subst (λ n. Continues n me.0.history (common_history history me.0.history v.0)) (sym num) g.0;
        read = g.1;
      }

  -- the values after an operation, by what it tells
  module _ (slots : ℕ) (own own' : PassState) (me me' : Me (Option X) View) (next : ℕ → PassState) (qs : ℕ → Deeds) (n : ℕ) (is : own' ≡ next n) (num : number me.0 ≡ own.reg.me) (num' : own'.reg.me ≡ own.reg.me) (alike : hold_of own ≡ hold_of me.0.pass)
      (steady : (x y : Mode) → hold_of own ≡ Some x → hold_of own' ≡ Some y → x ≡ y) (still : is_releasing own'.phase ≡ true → own'.phase ≡ own.phase)
      (k : Carries initial_state history slots own me.0 me.1) (r : MovesValues initial_state history next qs slots me n me') where
    now-is : hold_of own' ≡ hold_of (next n)
    now-is = ap hold_of is

    kept : hold_of own ≡ hold_of own' → (me'.1 ≡ me.1) × (me'.0 ≡ view_after (qs n) me.0 (next n) me.0.history)
    kept e = r.stays (sym alike ∙ (e ∙ now-is))

    keep : hold_of own ≡ hold_of own' → Carries initial_state history slots own' me'.0 me'.1
    keep e = let s = kept e in let roots : me.0.initial_state ≡ me'.0.initial_state = sym (ap (λ (v : View). v.initial_state) s.1) in let tales : me.0.history ≡ me'.0.history = sym (ap (λ (v : View). v.history) s.1) in record {
      values = k.values;
      is = s.0 ∙ (k.is ∙ (λ j. numbered (first_place (e j) (sym num' j)) k.values));
      long = k.long ∙ (λ j. place_count (e j) (sym num' j) slots);
      good = subst (λ (z : List ℕ × Option Mode × ℕ × List Action). Every (IsGoodUnder initial_state history z.0 z.1 z.2 z.3) k.values) (λ j. (roots j, e j, sym num' j, tales j)) k.good;
      leaving = λ l. subst (λ (z : List Action). (xs : List X) × (k.values ≡ map Some xs) × Every (λ x. history x ≡ common_history history z xs) xs) tales (k.leaving (ap is_releasing (sym (still l)) ∙ l));
    }

    bare : (values : List (Option X)) → length values ≡ 0 → values ≡ []
    bare [] e = refl
    bare (x ∷ xs) e = absurd (omega arith)

    good-of : (r : List ℕ) (m : Mode) (i : ℕ) (t : List Action) (xs : List X) → Every (IsCurrent initial_state history r t) xs → Every (IsGoodUnder initial_state history r (Some m) i t) (map Some xs)
    good-of r m i t [] a = tt
    good-of r m i t (x ∷ xs) a = ((λ y e. let same : x ≡ y = cc in subst (λ z. (initial_state z ≡ r) × GrowsUnder (Some m) i t (history z)) same (a.0.0, goes m i t (history x) a.0.1)), good-of r m i t xs a.1)
      where
        goes : (m : Mode) (i : ℕ) (t u : List Action) → u ≡ t → GrowsUnder (Some m) i t u
        goes Write i t u e = ([], e ∙ sym (append-nil t), tt)
        goes Read i t u e = e

    gain : (m : Mode) → hold_of own ≡ None → hold_of own' ≡ Some m → Carries initial_state history slots own' me'.0 me'.1
    gain m e f = let g : GainsHold initial_state history (qs n) m slots me (next n) me' = r.gains m (sym alike ∙ e) (sym now-is ∙ f) in
        let none : me.1 ≡ [] = k.is ∙ ap (λ v. numbered (first_place (hold_of own) own.reg.me) v) (bare k.values (k.long ∙ ap (λ h. place_count h own.reg.me slots) e)) in
        let here : number me.0 ≡ own'.reg.me = num ∙ sym num' in let roots : me.0.initial_state ≡ me'.0.initial_state = sym (ap (λ (v : View). v.initial_state) g.view) in let tales : g.told ≡ me'.0.history = sym (ap (λ (v : View). v.history) g.view) in record {
          values = map Some g.values;
          is = g.carried ∙ (ap (λ c. numbered (first_place (Some m) (number me.0)) (map Some g.values) ++ c) none ∙ (append-nil (numbered (first_place (Some m) (number me.0)) (map Some g.values)) ∙ (λ j. numbered (first_place (sym f j) (here j)) (map Some g.values))));
          long = length-map g.values Some ∙ (g.long ∙ (λ j. place_count (sym f j) (here j) slots));
          good = subst (λ (z : List ℕ × Option Mode × ℕ × List Action). Every (IsGoodUnder initial_state history z.0 z.1 z.2 z.3) (map Some g.values)) (λ j. (roots j, sym f j, here j, tales j)) (good-of me.0.initial_state m (number me.0) g.told g.values g.alike);
          leaving = λ l. absurd (holds-out own.phase own.reg.mode e (ap is_releasing (sym (still l)) ∙ l));
        }

    free : (m : Mode) → hold_of own ≡ Some m → hold_of own' ≡ None → is_releasing own.phase ≡ true → Carries initial_state history slots own' me'.0 me'.1
    free m e f l = let v = k.leaving l in let g = r.frees m (sym alike ∙ e) (sym now-is ∙ f) (first_place (hold_of own) own.reg.me) v.0 (k.is ∙ ap (numbered (first_place (hold_of own) own.reg.me)) v.1) in record {
      values = [];
      is = g.0;
      long = sym (ap (λ h. place_count h own'.reg.me slots) f);
      good = tt;
      leaving = λ z. absurd (holds-out own'.phase own'.reg.mode f z);
    }

    pub carries-after : (h h' : Option Mode) → hold_of own ≡ h → hold_of own' ≡ h' → ((m : Mode) → hold_of own ≡ Some m → hold_of own' ≡ None → is_releasing own.phase ≡ true) → Carries initial_state history slots own' me'.0 me'.1
    carries-after None None e f only = keep (e ∙ sym f)
    carries-after None (Some m) e f only = gain m e f
    carries-after (Some m) None e f only = free m e f (only m e f)
    carries-after (Some x) (Some y) e f only = keep (e ∙ (ap Some (steady x y e f) ∙ sym f))

    pub view-by : (h h' : Option Mode) → hold_of own ≡ h → hold_of own' ≡ h' → ((m : Mode) → hold_of own ≡ Some m → hold_of own' ≡ None → is_releasing own.phase ≡ true) → (seen : List Action) × (me'.0 ≡ view_after (qs n) me.0 (next n) seen)
    view-by None None e f only = (me.0.history, (kept (e ∙ sym f)).1)
    view-by None (Some m) e f only = let g : GainsHold initial_state history (qs n) m slots me (next n) me' = r.gains m (sym alike ∙ e) (sym now-is ∙ f) in (g.told, g.view)
    view-by (Some m) None e f only = let v = k.leaving (only m e f) in (common_history history me.0.history v.0, (r.frees m (sym alike ∙ e) (sym now-is ∙ f) (first_place (hold_of own) own.reg.me) v.0 (k.is ∙ ap (numbered (first_place (hold_of own) own.reg.me)) v.1)).1)
    view-by (Some x) (Some y) e f only = (me.0.history, (kept (e ∙ (ap Some (steady x y e f) ∙ sym f))).1)

    pub nothing : hold_of own ≡ None → me.1 ≡ []
    nothing e = k.is ∙ ap (λ v. numbered (first_place (hold_of own) own.reg.me) v) (bare k.values (k.long ∙ ap (λ h. place_count h own.reg.me slots) e))

pub seen-me : (form : Form) (own seen : PassState) → SeenAs form own seen → seen.reg.me ≡ own.reg.me
seen-me form own seen (Alike same) = sym (ap (λ (z : PassState). z.reg.me) same)
seen-me form own seen (Enters m may f same) = sym (ap (λ (z : PassState). z.reg.me) same)
seen-me form own seen (Leaves r same) = sym (ap (λ (z : PassState). z.reg.me) same)

same-mode : (b c : Bool) (a d x y : Mode) → d ≡ a → cond b (Some a) None ≡ Some x → cond c (Some d) None ≡ Some y → x ≡ y
same-mode true true a d x y e f g = cc
same-mode true false a d x y e f g = absurd (cc)
same-mode false c a d x y e f g = absurd (cc)

-- what a pass keeps, and what a step tells of it
module _ {X : Type 0} (initial_state : X → List ℕ) (history : X → List Action) (rules : Rules) (own : PassState) (id : TableId) (me : Me (Option X) View) (k : PassInvariant initial_state history rules own id me) where
  pub number-is : number me.0 ≡ own.reg.me
  number-is = seen-me rules.form own me.0.pass k.seen

  pub ready : (x : Mode) → hold_of own ≡ Some x → is_releasing own.phase ≡ true → MayFree initial_state history x id.slots me
  ready = ready-of initial_state history id.slots own me number-is k.carries

  module _ (t : Terms) (choice : Bool) (n : ℕ) (me' : Me (Option X) View) (q : PassState) (e : q ≡ take rules own.reg.me own n choice)
      (go : FitsWords initial_state history t (plan rules own.reg.me own) (λ i. take rules own.reg.me own i choice) me n) (r : MovesValues initial_state history (λ i. take rules own.reg.me own i choice) (step_deeds rules own choice) id.slots me n me') where
    pub found : is_store (plan rules own.reg.me own) ≡ false → NamesPass (site (plan rules own.reg.me own)) n
    found f = formed-names (site (plan rules own.reg.me own)) n (go.form f)

    num' : q.reg.me ≡ own.reg.me
    num' = ap (λ (z : PassState). z.reg.me) e ∙ (go.stays ∙ number-is)

    alike : hold_of own ≡ hold_of me.0.pass
    alike = hold-seen rules.form own me.0.pass k.seen

    steady : (x y : Mode) → hold_of own ≡ Some x → hold_of q ≡ Some y → x ≡ y
    steady x y a b = same-mode (is_holding own.phase) (is_holding (take rules own.reg.me own n choice).phase) own.reg.mode (take rules own.reg.me own n choice).reg.mode x y (take-mode rules own.reg.me own n choice) a (sym (ap hold_of e) ∙ b)

    still : is_releasing q.phase ≡ true → q.phase ≡ own.phase
    still l = ap (λ (z : PassState). z.phase) e ∙ none-leads-to-release.steps rules own.reg.me own n choice (sym (ap (λ (z : PassState). is_releasing z.phase) e) ∙ l)

    only : (m : Mode) → hold_of own ≡ Some m → hold_of q ≡ None → is_releasing own.phase ≡ true
    only m a b = frees-only rules own.reg.me own n choice m a (sym (ap hold_of e) ∙ b)

    view : (seen : List Action) × (me'.0 ≡ view_after (step_deeds rules own choice n) me.0 (take rules own.reg.me own n choice) seen)
    view = view-by initial_state history id.slots own q me me' (λ i. take rules own.reg.me own i choice) (step_deeds rules own choice) n e number-is num' alike steady still k.carries r (hold_of own) (hold_of q) refl refl only

    finds : t.attrs ≡ me.0.attrs → is_store (plan rules own.reg.me own) ≡ false → (p : ℕ) → site (plan rules own.reg.me own) ≡ AttrOf p → n ≡ slice_index me.0.attrs p
    finds told load p at = go.attr load p at ∙ ap (λ l. slice_index l p) told

    pub row-kept : (id' : TableId) → id' ≡ id → t.rules ≡ rules → t.attrs ≡ me.0.attrs → id.words ≡ wide (count t) → PassInvariant initial_state history rules q id' me'
    row-kept id' same ruled told words = record {
      live = ap (λ (v : View). v.live) view.1 ∙ k.live;
      seen = Alike (e ∙ sym (ap (λ (v : View). v.pass) view.1));
      range = subst (λ i. index (site (plan rules q.reg.me q)) < i) (sym words ∙ ap (λ (z : TableId). z.words) (sym same))
          (subst (λ (z : Rules × ℕ × PassState). index (site (plan z.0 z.1 z.2)) < wide (count t)) (λ j. (ruled j, (number-is ∙ sym num') j, sym e j)) go.range);
      carries = subst (λ (z : TableId). Carries initial_state history z.slots q me'.0 me'.1) (sym same)
          (carries-after initial_state history id.slots own q me me' (λ i. take rules own.reg.me own i choice) (step_deeds rules own choice) n e number-is num' alike steady still k.carries r (hold_of own) (hold_of q) refl refl only);
      back = ap (λ (v : View). v.back) view.1 ∙ k.back;
      parts = ap (λ (v : View). v.parts) view.1 ∙ k.parts;
      asks = subst (λ (z : PassState × List ℕ). z.0.phase ≡ Decide → z.0.reg.seen ≡ slice_index z.1 z.0.reg.cand) (λ j. (sym e j, ap (λ (v : View). v.attrs) (sym view.1) j))
          (asks-after rules own.reg.me own n choice me.0.attrs k.asks (finds told));
    }

    pub told-row : (id' : TableId) → id' ≡ id → t.rules ≡ rules → t.attrs ≡ me.0.attrs → TakesStep initial_state history (record { board = record { table = id; rules = rules; attrs = me.0.attrs }; own = own; steps_taken = me.0.steps_taken; found = me.0.found; decisions = me.0.decisions; attempts = me.0.attempts; initial_state = me.0.initial_state; history = me.0.history; values = values_of me.1 }) choice (record { board = record { table = id'; rules = rules; attrs = me'.0.attrs }; own = q; steps_taken = me'.0.steps_taken; found = me'.0.found; decisions = me'.0.decisions; attempts = me'.0.attempts; initial_state = me'.0.initial_state; history = me'.0.history; values = values_of me'.1 })
    told-row id' same ruled told = record {
      found = n;
      there = (
        me.0.pass,
        k.seen,
        subst (λ (z : Rules × List ℕ × Part). FoundInRun z.0 z.1 z.2 me.0.history me.0.pass (plan rules own.reg.me own) n)
            (λ j. (ruled j, told j, record { number = number-is j; steps_taken = me.0.steps_taken; found = me.0.found; attempts = me.0.attempts; decisions = me.0.decisions })) go.there,
      );
      form = go.form;
      attr = finds told;
      asks = asks-now rules own me.0.attrs k.asks;
      number = num';
      row = λ j. record { board = record { table = same j; rules = rules; attrs = (view.1 j).attrs }; own = e j; steps_taken = (view.1 j).steps_taken; found = (view.1 j).found; decisions = (view.1 j).decisions; attempts = (view.1 j).attempts; initial_state = (view.1 j).initial_state; history = me'.0.history; values = values_of me'.1 };
      stays = λ x. let s = r.stays (sym alike ∙ (x ∙ ap hold_of e)) in (ap values_of s.0, ap (λ (v : View). v.history) s.1);
      gains = λ mode a b. let g : GainsHold initial_state history (step_deeds rules own choice n) mode id.slots me (take rules own.reg.me own n choice) me' = r.gains mode (sym alike ∙ a) (sym (ap hold_of e) ∙ b) in let tales : g.told ≡ me'.0.history = sym (ap (λ (v : View). v.history) g.view) in
          let none : me.1 ≡ [] = nothing initial_state history id.slots own q me me' (λ i. take rules own.reg.me own i choice) (step_deeds rules own choice) n e number-is num' alike steady still k.carries r a in (
            subst (λ (z : List Action × ℕ). HasSeen z.0 z.1 me.0.history) (λ j. (tales j, number-is j)) g.knew,
            (
              g.values,
              ap values_of (g.carried ∙ (ap (λ c. numbered (first_place (Some mode) (number me.0)) (map Some g.values) ++ c) none ∙ append-nil (numbered (first_place (Some mode) (number me.0)) (map Some g.values)))) ∙ values_numbered (first_place (Some mode) (number me.0)) (map Some g.values),
              g.long ∙ ap (λ i. place_count (Some mode) i id.slots) number-is,
              subst (λ (z : List Action). Every (IsCurrent initial_state history me.0.initial_state z) g.values) tales g.alike,
            ),
          );
      frees = λ mode a b xs says. let v = k.carries in let w : v.values ≡ map Some xs = sym (ap values_of v.is ∙ values_numbered (first_place (hold_of own) own.reg.me) v.values) ∙ says in
          let g = r.frees mode (sym alike ∙ a) (sym (ap hold_of e) ∙ b) (first_place (hold_of own) own.reg.me) xs (v.is ∙ ap (numbered (first_place (hold_of own) own.reg.me)) w) in (ap values_of g.0, ap (λ (x : View). x.history) g.1);
    }

    pub row-told : (id' : TableId) (m : PassModel X) → id' ≡ id → t.rules ≡ rules → t.attrs ≡ me.0.attrs → record { board = record { table = id; rules = rules; attrs = me.0.attrs }; own = own; steps_taken = me.0.steps_taken; found = me.0.found; decisions = me.0.decisions; attempts = me.0.attempts; initial_state = me.0.initial_state; history = me.0.history; values = values_of me.1 } ≡ m → (outcome : Outcome) → IsOutcome own n q outcome
        → (s : TakesStep initial_state history m choice (record { board = record { table = id'; rules = rules; attrs = me'.0.attrs }; own = q; steps_taken = me'.0.steps_taken; found = me'.0.found; decisions = me'.0.decisions; attempts = me'.0.attempts; initial_state = me'.0.initial_state; history = me'.0.history; values = values_of me'.1 })) × IsOutcome m.own s.found q outcome
    unfolding told-row
    row-told id' m same ruled told is outcome came = subst (λ (z : PassModel X). (s : TakesStep initial_state history z choice (record { board = record { table = id'; rules = rules; attrs = me'.0.attrs }; own = q; steps_taken = me'.0.steps_taken; found = me'.0.found; decisions = me'.0.decisions; attempts = me'.0.attempts; initial_state = me'.0.initial_state; history = me'.0.history; values = values_of me'.1 })) × IsOutcome z.own s.found q outcome) is (told-row id' same ruled told, came)

-- A pass that waits, step by step; and one that gives the lock back.
use Rattle.std.proofs.Common.{length, ◌≡◌, ℕ, ◌+◌, Bool, true, false, cond, List, [], ◌∷◌, ◌++◌, map, flat_map, Option, Some, None, refl, sym, ap, ◌∙◌, subst, append-nil, append_assoc, arith}
use Rattle.std.specs.Prelude.{◌&&◌, not}
use Rattle.shfl_line.specs.declared.words.Attr.{Attr}
use Rattle.shfl_line.specs.declared.choosers.Told.{Told}
use Rattle.shfl_line.specs.Policies.{Adds}
use Rattle.shfl_line.proofs.Rounds.{AsksSoFar, SoFar, asks-first, asks-more, asks-whole}
use Rattle.shfl_line.specs.declared.events.Mode.{Mode}
use Rattle.shfl_line.specs.declared.events.Mode.TheVariants.{Write, Read}
use Rattle.shfl_core.specs.declared.phase.Phase.{Phase}
use Rattle.shfl_core.specs.declared.phase.Phase.TheVariants.{Idle, Release, ReadRelease}
use Rattle.shfl_core.specs.declared.phase.Nap.TheVariants.{Awake}
use Rattle.shfl_core.specs.declared.phase.PassState.{PassState}
use Rattle.shfl_core.specs.declared.phase.Ask.{Ask}
use Rattle.shfl_core.specs.declared.phase.Ask.TheVariants.{Nothing, Skip, Should}
use Rattle.shfl_core.specs.Asking.{answer_of, step_told}
use Rattle.shfl_core.specs.Phases.{is_holding, is_round}
use Rattle.shfl_core.specs.Plan.{is_idle, is_resting, moving}
use Rattle.shfl_core.specs.Take.{take, acquired, released, entry, exit}
use Rattle.shfl_core.specs.Waiting.{ask}
use Rattle.shfl_core.proofs.Rounds.{told-step}
use Rattle.shfl_laws.proofs.laws.MoveLaws.{resting-is}
use Rattle.shfl_table.specs.declared.kept.Action.{Action}
use Rattle.shfl_laws.specs.Holds.{hold_of, is_ending, is_releasing}
use Rattle.shfl_table.specs.Places.{place_count, Every}
use Rattle.shfl_table.specs.Histories.{HasSeen, IsCurrent, common_history}
use Rattle.shfl_table.specs.Views.{decision_on, step_decisions}
use Rattle.std.proofs.lemmas.List.{length-map}
use Rattle.shfl_table.specs.PassModel.{AreIn, BoardId, PassModel}
use Rattle.shfl_table.specs.PassSteps.{SeesValues, TakesStep}
use Rattle.shfl_laws.proofs.laws.Holds.{take-mode, frees-only}
use Rattle.shfl_laws.proofs.laws.Waits.{waits-on}
use Rattle.shfl_table.specs.Waits.{AsksInRounds, FindsMore, TriedInVain, WaitsFor, answers_of, as_idle}

-- one ask has one answer
answers-entry : (anchor : Attr) (choice : Bool) (a : Ask) → flat_map (answers_of anchor) (decision_on choice a) ≡ answer_of anchor a choice
answers-entry anchor choice Nothing = refl
answers-entry anchor choice (Skip batch) = refl
answers-entry anchor choice (Should waiter batch) = refl

-- what the pass asked since, and the chooser was told so far
abbrev pub AsksMeanwhile : {X : Type 0} → Attr → PassModel X → PassModel X → Option (List Told) → Option (List Told) → Type 0
AsksMeanwhile anchor old now told told' = AsksSoFar (answers_of anchor) (is_round now.own.phase) old.decisions now.decisions told told'

pub asks-begun : {X : Type 0} (anchor : Attr) (old tried : PassModel X) (mode : Mode) (told : Option (List Told)) → is_idle tried.own.phase ≡ true → tried.decisions ≡ old.decisions
    → AsksMeanwhile anchor old (record tried { own = acquired mode tried.own }) told told
asks-begun anchor old tried mode told idle same = subst (λ b. AsksSoFar (answers_of anchor) b old.decisions tried.decisions told told) (sym (enters (is_idle tried.own.phase) idle mode))
    (asks-first (answers_of anchor) old.decisions tried.decisions told same)
  where
    enters : (b : Bool) → b ≡ true → (m : Mode) → is_round (cond b (record tried.own { phase = entry m; reg = record tried.own.reg { mode = m } }) tried.own).phase ≡ false
    enters false e m = absurd (cc)
    enters true e Write = refl
    enters true e Read = refl

pub asks-step : {X : Type 0} (anchor : Attr) (initial_state : X → List ℕ) (history : X → List Action) (old now new : PassModel X) (choice : Bool) (a b c : Option (List Told)) → AsksMeanwhile anchor old now a b
    → TakesStep initial_state history now choice new → Adds b c (step_told anchor now.board.rules now.own choice) → AsksMeanwhile anchor old new a c
asks-step anchor initial_state history old now new choice a b c so_far s add =
    asks-more (answers_of anchor) (is_round now.own.phase) (is_round new.own.phase) old.decisions now.decisions new.decisions (step_decisions now.board.rules now.own choice) a b c (answer_of anchor (ask now.board.rules now.own) choice) so_far
    (ap (λ (z : PassModel _). z.decisions) s.row) (answers-entry anchor choice (ask now.board.rules now.own))
    (λ xs h. subst (λ (q : PassState). SoFar (is_round q.phase) (xs ++ answer_of anchor (ask now.board.rules now.own) choice) a c) (sym (ap (λ (z : PassModel _). z.own) s.row))
    (told-step anchor now.board.rules s.found choice xs a b c now.own h add))

-- a pass that holds the lock and owes no step is in no round
pub asks-done : {X : Type 0} (anchor : Attr) (old now : PassModel X) (a b : Option (List Told)) → is_resting now.own ≡ true → AsksMeanwhile anchor old now a b → AsksInRounds anchor old.decisions now.decisions a b
asks-done anchor old now a b rests s = asks-whole (answers_of anchor) old.decisions now.decisions a b
    (subst (λ f. AsksSoFar (answers_of anchor) (is_round f) old.decisions now.decisions a b) (resting-is now.own rests).0 s)

holds-mode : (b : Bool) (m x : Mode) → cond b (Some m) None ≡ Some x → m ≡ x
holds-mode true m x e = cc
holds-mode false m x e = absurd (cc)

leaves-ends : (f : Phase) → is_releasing f ≡ true → is_ending f ≡ true
leaves-ends Release e = refl
leaves-ends ReadRelease e = refl
leaves-ends _ e = absurd (cc)

pub finds-both : (a b c : List ℕ) → FindsMore a b → FindsMore b c → FindsMore a c
finds-both a b c x y = (x.0 ++ y.0, y.1 ∙ (ap (λ (l : List ℕ). l ++ y.0) x.1 ∙ append_assoc a x.0 y.0))

module _ {X : Type 0} (initial_state : X → List ℕ) (history : X → List Action) (attempts : ℕ) (mode : Mode) where
  -- a pass that begins
  pub waits-first : (old : PassModel X) → is_idle old.own.phase ≡ true → old.values ≡ [] → WaitsFor initial_state history attempts mode old (record old { own = acquired mode old.own })
  waits-first old idle none = by (is_idle old.own.phase) idle mode refl
    where
      by : (b : Bool) → b ≡ true → (m : Mode) → mode ≡ m → WaitsFor initial_state history attempts mode old (record old { own = cond b (record old.own { phase = entry mode; reg = record old.own.reg { mode = mode } }) old.own })
      by false e m f = absurd (cc)
      by true e m f = record {
        board = refl;
        root_is = refl;
        number = refl;
        mode_is = refl;
        tried = omega arith;
        finds = ([], sym (append-nil old.found));
        goes_on = begins mode;
        out = λ _. (none, refl);
        within = λ x h. absurd (no-hold mode mode x h);
      }
        where
          begins : (m : Mode) → is_ending (entry m) ≡ false
          begins Write = refl
          begins Read = refl

          no-hold : (m n x : Mode) → cond (is_holding (entry m)) (Some n) None ≡ Some x → ⊥
          no-hold Write n x e = let z : None ≡ Some x = e in cc
          no-hold Read n x e = let z : None ≡ Some x = e in cc

  -- what waits after tries in vain waits from before them
  pub waits-after : (old tried new : PassModel X) → TriedInVain attempts old tried → WaitsFor initial_state history 0 mode tried new → WaitsFor initial_state history attempts mode old new
  waits-after old tried new v w = record {
    board = w.board ∙ v.board;
    root_is = w.root_is ∙ v.root_is;
    number = w.number ∙ v.number;
    mode_is = w.mode_is;
    tried = (let a = w.tried in let b = v.tried in omega arith);
    finds = finds-both old.found tried.found new.found v.finds w.finds;
    goes_on = w.goes_on;
    out = λ e. let b = w.out e in (b.0, b.1 ∙ v.seen);
    within = λ m e. earlier m (w.within m e);
  }
    where
      earlier : (m : Mode) → SeesValues initial_state history m tried new → SeesValues initial_state history m old new
      earlier m g = subst (λ (z : ℕ × List Action × List ℕ × BoardId). HasSeen new.history z.0 z.1 × ((xs : List X) × (new.values ≡ map Some xs) × (length xs ≡ place_count (Some m) z.0 z.3.table.slots) × Every (IsCurrent initial_state history z.2 new.history) xs))
          (λ j. (v.number j, v.seen j, v.root_is j, v.board j)) g

  -- where stealing is disabled meanwhile, it waits on
  pub waits-beside : (old now : PassModel X) (n : ℕ) (more : List ℕ) → WaitsFor initial_state history attempts mode old now → WaitsFor initial_state history attempts mode old (record now { steps_taken = n; found = now.found ++ more })
  waits-beside old now n more w = record {
    board = w.board;
    root_is = w.root_is;
    number = w.number;
    mode_is = w.mode_is;
    tried = w.tried;
    finds = finds-both old.found now.found (now.found ++ more) w.finds (more, refl);
    goes_on = w.goes_on;
    out = w.out;
    within = w.within;
  }

  module _ (old now new : PassModel X) (choice : Bool) (w : WaitsFor initial_state history attempts mode old now) (s : TakesStep initial_state history now choice new) where
    own-is : new.own ≡ take now.board.rules now.own.reg.me now.own s.found choice
    own-is = ap (λ (z : PassModel X). z.own) s.row

    mode-so : new.own.reg.mode ≡ mode
    mode-so = ap (λ (q : PassState). q.reg.mode) own-is ∙ (take-mode now.board.rules now.own.reg.me now.own s.found choice ∙ w.mode_is)

    on : is_ending new.own.phase ≡ false
    on = ap (λ (q : PassState). is_ending q.phase) own-is ∙ waits-on now.board.rules now.own.reg.me now.own s.found choice w.goes_on

    never : (m : Mode) → hold_of now.own ≡ Some m → hold_of new.own ≡ None → ⊥
    never m a b = let l = leaves-ends now.own.phase (frees-only now.board.rules now.own.reg.me now.own s.found choice m a (sym (ap hold_of own-is) ∙ b)) in let x : true ≡ false = sym l ∙ w.goes_on in cc

    later : (m : Mode) → SeesValues initial_state history m now new → (now.values ≡ []) × (now.history ≡ old.history) → SeesValues initial_state history m old new
    later m g bare = subst (λ (z : ℕ × List Action × List ℕ × BoardId). HasSeen new.history z.0 z.1 × ((xs : List X) × (new.values ≡ map Some xs) × (length xs ≡ place_count (Some m) z.0 z.3.table.slots) × Every (IsCurrent initial_state history z.2 new.history) xs))
        (λ j. (w.number j, bare.1 j, w.root_is j, w.board j)) g

    kept : (m : Mode) → SeesValues initial_state history m old now → (new.values ≡ now.values) × (new.history ≡ now.history) → SeesValues initial_state history m old new
    kept m g same = subst (λ (z : List Action × List (Option X)). HasSeen z.0 old.own.reg.me old.history × ((xs : List X) × (z.1 ≡ map Some xs) × (length xs ≡ place_count (Some m) old.own.reg.me old.board.table.slots) × Every (IsCurrent initial_state history old.initial_state z.0) xs))
        (λ j. (sym same.1 j, sym same.0 j)) g

    out-so : (h : Option Mode) → hold_of now.own ≡ h → hold_of new.own ≡ None → (new.values ≡ []) × (new.history ≡ old.history)
    out-so None e f = let b = w.out e in let k = s.stays (e ∙ sym f) in (k.0 ∙ b.0, k.1 ∙ b.1)
    out-so (Some m) e f = absurd (never m e f)

    in-so : (m : Mode) (h : Option Mode) → hold_of now.own ≡ h → hold_of new.own ≡ Some m → SeesValues initial_state history m old new
    in-so m None e f = later m (s.gains m e f) (w.out e)
    in-so m (Some x) e f = let same : x ≡ m = sym (holds-mode (is_holding now.own.phase) now.own.reg.mode x e) ∙ (w.mode_is ∙ (sym mode-so ∙ holds-mode (is_holding new.own.phase) new.own.reg.mode m f)) in
        kept m (w.within m (e ∙ ap (λ (z : Mode). Some z) same)) (s.stays (e ∙ (ap (λ (z : Mode). Some z) same ∙ sym f)))

    pub waits-more : WaitsFor initial_state history attempts mode old new
    waits-more = record {
      board = ap (λ (z : PassModel X). z.board) s.row ∙ w.board;
      root_is = ap (λ (z : PassModel X). z.initial_state) s.row ∙ w.root_is;
      number = s.number ∙ w.number;
      mode_is = mode-so;
      tried = (let a = ap (λ (z : PassModel X). z.attempts) s.row in let b = w.tried in omega arith);
      finds = finds-both old.found now.found new.found w.finds (s.found ∷ [], ap (λ (z : PassModel X). z.found) s.row);
      goes_on = on;
      out = out-so (hold_of now.own) refl;
      within = λ m. in-so m (hold_of now.own) refl;
    }

-- values with one history are in, as giving the lock back asks
sees-in : {X : Type 0} (initial_state : X → List ℕ) (history : X → List Action) (r : List ℕ) (h : List Action) (xs : List X) → Every (IsCurrent initial_state history r h) xs → Every (λ x. history x ≡ common_history history h xs) xs
sees-in initial_state history r h [] e = tt
sees-in initial_state history r h (x ∷ xs) e = (refl, rest xs e.1)
  where
    rest : (ys : List _) → Every (IsCurrent initial_state history r h) ys → Every (λ y. history y ≡ history x) ys
    rest [] f = tt
    rest (y ∷ ys) f = (f.0.1 ∙ sym e.0.1, rest ys f.1)

-- a pass that waits and doesn't move holds the lock
pub rests-now : (q : PassState) → is_ending q.phase ≡ false → moving q ≡ false → is_resting q ≡ true
rests-now q a b = by (is_idle q.phase) (is_resting q) refl b
  where
    idle-ends : (f : Phase) → is_idle f ≡ true → is_ending f ≡ true
    idle-ends Idle e = refl
    idle-ends _ e = absurd (cc)

    by : (i r : Bool) → is_idle q.phase ≡ i → (not i && not r) ≡ false → r ≡ true
    by true r e m = absurd (let x : true ≡ false = sym (idle-ends q.phase e) ∙ a in cc)
    by false true e m = refl
    by false false e m = absurd (cc)

-- giving the lock back
module _ {X : Type 0} (initial_state : X → List ℕ) (history : X → List Action) (old new : PassModel X) (rests : is_resting old.own ≡ true) where
  freed-own : released old.own ≡ record { phase = exit old.own.reg.mode; reg = old.own.reg; nap = Awake }
  freed-own = ap (λ b. cond b (record old.own { phase = exit old.own.reg.mode }) old.own) rests ∙ (λ j. record { phase = exit old.own.reg.mode; reg = old.own.reg; nap = (resting-is old.own rests).1 j })

  pub frees-lock : (moved : Bool) → moved ≡ moving (released old.own) → (moved ≡ true → TakesStep initial_state history (record old { own = released old.own }) false new) → (xs : List X) → old.values ≡ map Some xs
      → (word : ℕ) × (new ≡ record old { own = as_idle old.own; steps_taken = old.steps_taken + 1; found = old.found ++ word ∷ []; history = common_history history old.history xs; values = [] })
  frees-lock moved is step xs says = by old.own.reg.mode refl
    where
      by : (m : Mode) → old.own.reg.mode ≡ m → (word : ℕ) × (new ≡ record old { own = as_idle old.own; steps_taken = old.steps_taken + 1; found = old.found ++ word ∷ []; history = common_history history old.history xs; values = [] })
      by m e = let at : released old.own ≡ record { phase = exit m; reg = old.own.reg; nap = Awake } = freed-own ∙ (λ j. record { phase = exit (e j); reg = old.own.reg; nap = Awake }) in
          let s = step (is ∙ (ap moving at ∙ moves m)) in
          let went : take old.board.rules old.own.reg.me (released old.own) s.found false ≡ as_idle old.own = ap (λ (q : PassState). take old.board.rules old.own.reg.me q s.found false) at ∙ goes m s.found in
          let ends_at = ap (λ (z : PassModel X). z.own) s.row ∙ (ap (λ (k : ℕ). take old.board.rules k (released old.own) s.found false) (ap (λ (q : PassState). q.reg.me) at) ∙ went) in
          let f = s.frees old.own.reg.mode (ap hold_of at ∙ held m) (ap hold_of ends_at) xs says in
          (s.found, s.row ∙ (λ j. record { board = old.board; own = (ap (λ (k : ℕ). take old.board.rules k (released old.own) s.found false) (ap (λ (q : PassState). q.reg.me) at) ∙ went) j; steps_taken = old.steps_taken + 1; found = old.found ++ s.found ∷ []; decisions = (ap (λ (q : PassState). old.decisions ++ step_decisions old.board.rules q false) at ∙ (quiet m ∙ append-nil old.decisions)) j; attempts = old.attempts; initial_state = old.initial_state; history = f.1 j; values = f.0 j }))
        where
          moves : (m : Mode) → moving (record { phase = exit m; reg = old.own.reg; nap = Awake }) ≡ true
          moves Write = refl
          moves Read = refl

          held : (m : Mode) → hold_of (record { phase = exit m; reg = old.own.reg; nap = Awake }) ≡ Some old.own.reg.mode
          held Write = refl
          held Read = refl

          goes : (m : Mode) (n : ℕ) → take old.board.rules old.own.reg.me (record { phase = exit m; reg = old.own.reg; nap = Awake }) n false ≡ as_idle old.own
          goes Write n = refl
          goes Read n = refl

          quiet : (m : Mode) → old.decisions ++ step_decisions old.board.rules (record { phase = exit m; reg = old.own.reg; nap = Awake }) false ≡ old.decisions ++ []
          quiet Write = refl
          quiet Read = refl

pub has-hold : (q : PassState) (m : Mode) → is_resting q ≡ true → q.reg.mode ≡ m → hold_of q ≡ Some m
has-hold q m r e = ap (λ f. cond (is_holding f) (Some q.reg.mode) None) (resting-is q r).0 ∙ ap (λ (z : Mode). Some z) e

-- a pass that waited and holds the lock has all the places of its hold, and their values are in
pub waits-in : {X : Type 0} (initial_state : X → List ℕ) (history : X → List Action) (attempts : ℕ) (mode : Mode) (old now : PassModel X) → WaitsFor initial_state history attempts mode old now → is_resting now.own ≡ true
    → AreIn history now.history now.values × (length now.values ≡ place_count (Some mode) old.own.reg.me old.board.table.slots)
waits-in initial_state history attempts mode old now w rests = let s = w.within mode (has-hold now.own mode rests w.mode_is) in
    ((s.1.0, s.1.1, sees-in initial_state history old.initial_state now.history s.1.0 s.1.3), ap length s.1.1 ∙ (length-map s.1.0 Some ∙ s.1.2))

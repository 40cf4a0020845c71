-- What each call of a seat is permitted, by what the seat knows.
use Rattle.std.proofs.Common.{◌≡◌, ℕ, ◌<◌, ◌==◌, Bool, true, false, List, [], length, set, length-set, refl, sym, ap, ◌∙◌, subst, inl, arith, eq-eqb}
use Rattle.std.proofs.lemmas.Bool.{eqb-true}
use Rattle.std.proofs.lemmas.List.{set-get_or}
use Rattle.std.specs.Prelude.{Option, None}
use mathlib.Core.Option.{some}
use lib.ListN.{get_elem?}
use Rattle.atomic_table.specs.Table.{Me, Act, Valid, stepped, carried_after, keeps}
use prog.Atomic.{either}
use Rattle.shfl_line.specs.declared.events.Mode.{Mode}
use Rattle.shfl_line.specs.declared.events.Mode.TheVariants.{Write, Read}
use Rattle.shfl_core.specs.declared.phase.PassState.{PassState}
use Rattle.shfl_core.specs.declared.phase.Rules.{Rules}
use Rattle.shfl_line.specs.declared.words.TheConstants.{HELD}
use Rattle.shfl_core.specs.declared.words.Access.TheVariants.{Load, Store}
use Rattle.shfl_core.specs.declared.words.Word.TheVariants.{Lock, Attr}
use Rattle.shfl_core.specs.Words.{site, told}
use Rattle.shfl_core.specs.Plan.{plan, attempt_plan}
use Rattle.shfl_core.specs.Take.{take, attempted}
use Rattle.shfl_core.specs.Waiting.{MayUse, blank, idle}
use Rattle.shfl_core.specs.Events.{event, attempt_event}
use Rattle.shfl_core.specs.Lawful.{Formed}
use Rattle.shfl_core.proofs.Blind.{store-blind}
use Rattle.shfl_core.proofs.Lists.{set-again}
use Rattle.shfl_laws.specs.Seen.{SeenAs}
use Rattle.shfl_laws.specs.Stealing.{disable_plan}
use Rattle.shfl_arena.specs.declared.shape.Shape.{Shape}
use Rattle.shfl_arena.specs.declared.view.SeatView.{SeatView}
use Rattle.shfl_arena.specs.declared.view.ThreadView.{ThreadView}
use Rattle.shfl_arena.specs.Threads.{MayStepAt, mode_held, pass_at, pass_at_rest}
use Rattle.shfl_arena.specs.ArenaWords.{place, word_at, written_at}
use Rattle.shfl_arena.specs.ArenaRule.{ArenaTerms, ArenaRule}
use Rattle.shfl_arena.specs.ArenaSteps.{with_attribute}
use Rattle.shfl_arena.specs.SeatViews.{threads_of, step_decisions}
use Rattle.shfl_arena.specs.ValueMoves.{writes, MayGive}
use Rattle.shfl_arena.specs.ArenaTable.{told_arena, LawfulTable}
use Rattle.shfl_arena.specs.Operations.{Permits, LockTerms, LooksFirst, step_play, attempt_play, look_play, still_play}
use Rattle.shfl_arena.proofs.StepLaws.{arena-step-law, step-form}
use Rattle.shfl_arena.proofs.AttemptLaws.{arena-attempt-law}
use Rattle.shfl_arena.proofs.ArenaStealing.{arena-disable-law}
use Rattle.shfl_arena.proofs.ArenaAttributes.{arena-attribute-law}
use Rattle.shfl_arena.proofs.Threads.{at-none, off-at}
use Rattle.shfl_arena.proofs.ToldTerms.{told-long, told-then}
use Rattle.shfl_arena.proofs.SeatViews.{threads-at}
use Rattle.shfl_arena.proofs.ValueMoves.{writes-seen}
use Rattle.shfl_arena.proofs.Permits.{Keeps, operation-permits, terms-stay}

told-attempt : (mode : Mode) (n : ℕ) → told (attempt_plan mode) n ≡ n
told-attempt Write n = refl
told-attempt Read n = refl

pub attempt-site : (mode : Mode) → site (attempt_plan mode) ≡ Lock
attempt-site Write = refl
attempt-site Read = refl

module _ {V : Type 0} (shape : Shape) (rules : Rules) (n l : ℕ) (below : l < shape.locks) (slots id : ℕ) (me : Me (Option V) SeatView) where
  abbrev t : LockTerms
  t = record { shape = shape; rules = rules; threads = n; lock = l }

  abbrev A : List ℕ → ArenaTerms
  A words = told_arena shape rules n words

  abbrev v : ThreadView
  v = me.0.thread

  -- a step
  pub step-permits : me.0.seats ≡ 1 → (own : PassState) (choice : Bool) → me.0.number ≡ own.reg.me → SeenAs rules.form own (pass_at l own.reg.me v) → MayStepAt l v
      → ((i : ℕ) → MayGive {V = V} slots l (writes own) (writes (take rules own.reg.me own i choice)) me.1)
      → Permits {S = Option V} {V = SeatView} (LawfulTable {V = V} shape rules n) slots id me (step_play {V = V} t own choice) shape l (plan rules own.reg.me own)
  step-permits one own choice number seen may ready = subst (λ k. Permits {S = Option V} {V = SeatView} (LawfulTable {V = V} shape rules n) slots id me (λ st m i m'. Rattle.shfl_arena.specs.Operations.Operates {V = V} t k (plan rules own.reg.me own) own (take rules own.reg.me own i choice) (step_decisions rules own choice) st.slots m i m') shape l (plan rules own.reg.me own)) number
      (operation-permits shape rules n l below {V = V} slots me (plan rules own.reg.me own) own (λ i. take rules own.reg.me own i choice) (step_decisions rules own choice)
      one (λ i. store-blind rules own.reg.me own i choice) may (writes-seen rules.form own (pass_at l me.0.number v) seen') ready keeps-step id)
    where
      seen' : SeenAs rules.form own (pass_at l me.0.number v)
      seen' = subst (λ k. SeenAs rules.form own (pass_at l k v)) (sym number) seen

      keeps-step : Keeps shape rules n l below me.0.number v (plan rules own.reg.me own) (λ i. take rules own.reg.me own i choice)
      keeps-step = subst (λ k. Keeps shape rules n l below k v (plan rules own.reg.me own) (λ i. take rules own.reg.me own i choice)) (sym number)
          (λ words threads ok at. (event rules own.reg.me own (word_at shape words l (site (plan rules own.reg.me own))), arena-step-law (A words) words threads ok l below own.reg.me v own choice at seen may, step-form (A words) words threads ok l below own.reg.me v at own seen choice may))

  -- the one operation of an attempt
  pub attempt-permits : me.0.seats ≡ 1 → (mode : Mode) → v.at ≡ None → mode_held l v.holds ≡ None → MayUse rules.form mode
      → Permits {S = Option V} {V = SeatView} (LawfulTable {V = V} shape rules n) slots id me (attempt_play {V = V} t me.0.number mode) shape l (attempt_plan mode)
  attempt-permits one mode none free may = operation-permits shape rules n l below {V = V} slots me (attempt_plan mode) (idle me.0.number) (attempted mode (blank me.0.number)) []
      one (λ i. ap (attempted mode (blank me.0.number)) (told-attempt mode i)) (inl none) (ap writes off) (λ i h w. absurd (let z : false ≡ true = w in cc)) keeps-attempt id
    where
      off : pass_at l me.0.number v ≡ idle me.0.number
      off = off-at l me.0.number v (at-none l v none) ∙ ap (pass_at_rest me.0.number) free

      keeps-attempt : Keeps shape rules n l below me.0.number v (attempt_plan mode) (attempted mode (blank me.0.number))
      keeps-attempt words threads ok at = (
        attempt_event mode me.0.number (word_at shape words l (site (attempt_plan mode))),
        arena-attempt-law (A words) words threads ok l below me.0.number v mode at none free may,
        subst (λ u. Formed u (word_at shape words l u)) (sym (attempt-site mode)) ((ok.lawful l below).formed Lock),
      )

  -- the look before it, to write: it leaves all words as they are, and where it finds the lock taken it leads where that operation would
  pub look-permits : me.0.seats ≡ 1 → v.at ≡ None → mode_held l v.holds ≡ None → MayUse rules.form Write
      → Permits {S = Option V} {V = SeatView} (LawfulTable {V = V} shape rules n) slots id me (look_play {V = V} t me.0.number) shape l (Load Lock)
  look-permits one none free may s ok long at bound = by (f == 0) refl
    where
      f : ℕ
      f = word_at shape s.words l Lock

      X : Type 0
      X = (w : SeatView) × (a : Act (Option V)) × Valid s.homes me.1 a × LawfulTable {V = V} shape rules n (stepped s (place shape l Lock) f id me.1 w a) × LooksFirst {V = V} t me.0.number slots me f (w, carried_after me.1 a)

      by : (b : Bool) → (f == 0) ≡ b → X
      by true e = (
        me.0,
        keeps,
        tt,
        subst (λ (z : List ℕ × List SeatView). LawfulTable {V = V} shape rules n (record { words = z.0; homes = s.homes; views = z.1 })) (λ j. (sym (set-get_or s.words (place shape l Lock) 0) j, sym (set-again s.views id me.0 at) j)) ok,
        record { free = λ _. refl; taken = λ d. absurd (d (eqb-true f 0 e)) },
      )
      by false e = let p = attempt-permits one Write none free may s ok long at bound in (
        p.0,
        p.1,
        p.2,
        subst (λ m. LawfulTable {V = V} shape rules n (stepped s (place shape l Lock) m id me.1 p.0 p.1)) (ap (λ b. either b HELD f) e) p.3,
        record { free = λ z. absurd (let x : false ≡ true = sym e ∙ eq-eqb f 0 z in cc); taken = λ _. p.4 },
      )

  -- stealing is disabled
  pub disable-permits : Permits {S = Option V} {V = SeatView} (LawfulTable {V = V} shape rules n) slots id me (still_play {V = V}) shape l disable_plan
  disable-permits s ok long at bound = let K = arena-disable-law (A s.words) s.words (threads_of s.views) ok.arena l below in let words' : List ℕ = written_at shape s.words l disable_plan in (
    me.0,
    keeps,
    tt,
    subst (λ (z : List SeatView). LawfulTable {V = V} shape rules n (record { words = words'; homes = s.homes; views = z })) (sym (set-again s.views id me.0 at)) (record {
      arena = subst (λ (z : ArenaTerms). ArenaRule z words' (threads_of s.views)) (sym (terms-stay shape rules n l below s.words words' (threads_of s.views) K.rule)) K.rule;
      seated = ok.seated;
      counted = ok.counted;
      home = ok.home;
    }),
    refl,
  )

-- another attribute word
pub attribute-permits : {V : Type 0} (shape : Shape) (rules : Rules) (n : ℕ) → 0 < shape.locks → (slots id : ℕ) (me : Me (Option V) SeatView) (k word : ℕ) → me.0.seats ≡ 1 → me.0.number ≡ k → k < n → me.0.thread.at ≡ None
    → Permits {S = Option V} {V = SeatView} (LawfulTable {V = V} shape rules n) slots id me (still_play {V = V}) shape 0 (Store (Attr k) word)
attribute-permits {V} shape rules n any slots id me k word one number small none s ok long at bound =
    let a : ArenaTerms = told_arena shape rules n s.words in let words' : List ℕ = set s.words (place shape 0 (Attr k)) word in
    let is : k ≡ id = sym number ∙ (ok.seated id me.0 at).number (omega arith) in
    let counts : length a.attrs ≡ n = told-long shape rules n s.words in
    let K = arena-attribute-law a s.words (threads_of s.views) ok.arena k me.0.thread word (subst (λ i. get_elem? (threads_of s.views) i ≡ some me.0.thread) (sym is) (threads-at s.views id me.0 at)) none (omega arith) in
    let terms : told_arena shape rules n words' ≡ with_attribute a k word = told-then shape rules n (with_attribute a k word) words' (threads_of s.views) refl refl (length-set a.attrs k word ∙ counts) any K.rule in (
      me.0,
      keeps,
      tt,
      subst (λ (z : List SeatView). LawfulTable {V = V} shape rules n (record { words = words'; homes = s.homes; views = z })) (sym (set-again s.views id me.0 at)) (record {
        arena = subst (λ (z : ArenaTerms). ArenaRule z words' (threads_of s.views)) (sym terms) K.rule;
        seated = ok.seated;
        counted = ok.counted;
        home = ok.home;
      }),
      refl,
    )

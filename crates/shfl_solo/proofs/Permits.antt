-- A step of some pass, and a look at a word, keep the table's rule.
use Rattle.std.proofs.Common.{◌≡◌, ℕ, Bool, List, [], ◌∷◌, length, set, get_or, sym, refl, ap, ◌∙◌, subst, length-set}
use mathlib.Core.Option.{none, some, some-injective}
use lib.ListN.{get_elem?}
use Rattle.atomic_table.specs.Table.{Me, keeps, step, Allows}
use Rattle.shfl_core.specs.declared.phase.Rules.{Rules}
use Rattle.shfl_core.specs.declared.phase.PassState.{PassState}
use Rattle.shfl_core.specs.declared.words.Word.{Word}
use Rattle.shfl_core.specs.declared.words.Access.{Access}
use Rattle.shfl_core.specs.declared.words.Access.TheVariants.{Load}
use Rattle.shfl_core.specs.Words.{index, site, told, look, written}
use Rattle.shfl_core.specs.Plan.{plan}
use Rattle.shfl_core.specs.Take.{take}
use Rattle.shfl_core.specs.Worlds.{World, stepped}
use Rattle.shfl_core.specs.Lawful.{Lawful, count}
use Rattle.shfl_core.proofs.Lists.{set-read}
use Rattle.shfl_table.specs.Perform.{Permits}
use Rattle.shfl_laws.proofs.laws.OwnSteps.{own-step}
use Rattle.shfl_solo.specs.declared.rule.Whole.{Whole}
use Rattle.shfl_solo.specs.declared.rule.Opening.{Opening}
use Rattle.shfl_solo.specs.Rule.{world, whole, opening_terms, IsWholeLock, row_of, reads, IsSeen}

-- the one view, where the one seat's own is this
module _ (views : List Whole) (view own : Whole) (one : views ≡ view ∷ []) (at : get_elem? views 0 ≡ some own) where
  same : view ≡ own
  same = some-injective view own (sym (ap (λ l. get_elem? l 0) one) ∙ at)

  changed : (w : Whole) → set views 0 w ≡ w ∷ []
  changed w = ap (λ l. set l 0 w) one

row-permits : (key : Opening) (slots p : ℕ) (own : PassState) (choice : Bool) (me : Me (Unit {0}) Whole) → IsSeen key.rules.form p own me.0.passes
    → Permits (IsWholeLock key) slots 0 me (row_of key.rules p own choice) (plan key.rules p own)
row-permits key slots p own choice me k s ok _ at _ = let v : Whole = me.0 in let a : Access = plan key.rules p own in
    let is : ok.view ≡ v = same s.views ok.view v ok.one at in
    let words : s.words ≡ v.words = ok.words ∙ ap (λ (z : Whole). z.words) is in
    let lawful : Lawful (opening_terms key) (world v) = subst (λ (z : Whole). Lawful (opening_terms key) (world z)) is ok.lawful in
    let full : length v.passes ≡ count (opening_terms key) = subst (λ (z : Whole). length z.passes ≡ count (opening_terms key)) is ok.full in
    let w : World = stepped key.rules (world v) p own choice in (
      whole w,
      keeps,
      tt,
      record {
        view = whole w;
        one = changed s.views ok.view v ok.one at (whole w);
        words = ap (λ l. written l a) words;
        full = length-set v.passes p (take key.rules p own (look v.words (site a)) choice) ∙ full;
        lawful = (own-step (opening_terms key) (world v) p own k.seen lawful k.there k.alike choice).lawful;
      },
      (record { view = refl; found = ap (λ l. told a (look l (site a))) words }, refl),
    )

-- the same, where the call's values are equal to these
pub permits : (key : Opening) (rules : Rules) (slots id p p' : ℕ) (own own' : PassState) (choice choice' : Bool) (rules' : Rules) (me : Me (Unit {0}) Whole) (access : Access)
    → (rules' ≡ rules) × (p' ≡ p) × (own' ≡ own) × (choice' ≡ choice) → key.rules ≡ rules → (id ≡ 0) × IsSeen rules.form p own me.0.passes → access ≡ plan rules p own
    → Permits (IsWholeLock key) slots id me (row_of rules' p' own' choice') access
permits key rules slots id p p' own own' choice choice' rules' me access made keyed seat planned =
    subst (λ (z : ℕ × Rules × ℕ × PassState × Bool × Access). Permits (IsWholeLock key) slots z.0 me (row_of z.1 z.2 z.3 z.4) z.5)
    (λ j. (sym seat.0 j, (keyed ∙ sym made.0) j, sym made.1 j, sym made.2 j, sym made.3 j, (ap (λ r. plan r p own) keyed ∙ sym planned) j))
    (row-permits key slots p own choice me (subst (λ (r : Rules). IsSeen r.form p own me.0.passes) (sym keyed) seat.1))

-- a load that changes no view
pub reads-allowed : (key : Opening) (slots id : ℕ) (me : Me (Unit {0}) Whole) (i : ℕ) → id ≡ 0 → Allows (IsWholeLock key) slots id me i (λ n. n) (reads (step slots i 0 0 none) me)
reads-allowed key slots id me i is s ok _ at _ = let here : get_elem? s.views 0 ≡ some me.0 = subst (λ k. get_elem? s.views k ≡ some me.0) is at in
    let e : ok.view ≡ me.0 = same s.views ok.view me.0 ok.one here in (
      me.0,
      keeps,
      tt,
      record {
        view = ok.view;
        one = ap (λ k. set s.views k me.0) is ∙ (changed s.views ok.view me.0 ok.one here me.0 ∙ ap (λ (v : Whole). v ∷ []) (sym e));
        words = set-read s.words i 0 ∙ ok.words;
        full = ok.full;
        lawful = ok.lawful;
      },
      (ap (λ l. get_or l i 0) (ok.words ∙ ap (λ (v : Whole). v.words) e), refl),
    )

pub reads-permitted : (key : Opening) (slots id : ℕ) (me : Me (Unit {0}) Whole) (w : Word) → id ≡ 0 → Permits (IsWholeLock key) slots id me reads (Load w)
reads-permitted key slots id me w is = reads-allowed key slots id me (index w) is

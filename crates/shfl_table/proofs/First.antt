-- The table at its opening: one pass has its seat, and every value is at home.
use Rattle.std.proofs.Common.{◌≡◌, ℕ, zero, suc, List, [], ◌∷◌, length, true, refl, sym, ap, ◌∙◌, subst, map, Some}
use mathlib.Core.Option.{some, some-injective, some-ne-none}
use lib.ListN.{get_elem?}
use Rattle.atomic_table.specs.Table.{opening}
use Rattle.shfl_line.specs.declared.words.Attr.{Attr}
use Rattle.shfl_line.specs.Words.{attr_word}
use Rattle.shfl_core.specs.declared.phase.Rules.{Rules}
use Rattle.shfl_core.specs.declared.words.Word.TheVariants.{Attr as AttrOf}
use Rattle.shfl_core.specs.Words.{look, wide}
use Rattle.shfl_core.specs.Waiting.{idle}
use Rattle.shfl_core.specs.Worlds.{opening_words}
use Rattle.shfl_core.specs.Lawful.{Terms, count, Lawful}
use Rattle.shfl_core.proofs.Opening.{opening-long}
use Rattle.shfl_laws.specs.Moves.{MayOpen, StartsLawful, first_seated, terms, told_terms}
use Rattle.shfl_laws.proofs.words.Leasts.{each-long}
use Rattle.shfl_laws.proofs.laws.Opens.{first-seat-law}
use Rattle.shfl_laws.proofs.words.TermsTold.{terms-law}
use Rattle.shfl_table.specs.declared.kept.Action.{Action}
use Rattle.shfl_table.specs.Places.{Every}
use Rattle.shfl_table.specs.Histories.{IsCurrent}
use Rattle.shfl_table.specs.BoardRule.{BoardRule}
use Rattle.shfl_table.specs.Views.{first_view, part_of, IsSpent}
use Rattle.shfl_table.specs.ThreadRuns.{HasRun, IsTold, AreApart, did_in, part_in}
use Rattle.shfl_table.specs.declared.view.Part.{Part}
use Rattle.shfl_table.specs.declared.view.View.{View}
use Rattle.shfl_table.proofs.Opens.{opens}
use Rattle.std.proofs.lemmas.List.{length-map}

-- at the opening one pass has its seat, and the others aren't split off yet
module _ (rules : Rules) (attrs : List Attr) (may : MayOpen rules attrs) where
  first : StartsLawful rules attrs (first_seated attrs)
  first = first-seat-law rules attrs may

  module _ (words : List ℕ) (a : words ≡ opening_words attrs) where
    -- the terms that the key tells
    pub terms-are : told_terms rules (length attrs) words ≡ terms rules attrs
    terms-are = subst (λ (z : List ℕ). told_terms rules (length attrs) z ≡ terms rules attrs) (sym a)
        (subst (λ (k : ℕ). told_terms rules k (opening_words attrs) ≡ terms rules attrs) (length-map attrs attr_word) (terms-law (terms rules attrs) (first_seated attrs) first.lawful))

    -- nothing was done yet
    starts : (r : List ℕ) → HasRun (told_terms rules (length attrs) words) words (first_view (told_terms rules (length attrs) words).attrs r ∷ []) []
    starts r = record {
      attrs = attrs;
      opened = ap (λ (t : Terms). t.attrs) terms-are;
      events = [];
      makes = record { run = record { may = tt; made = λ j. record { words = sym a j; passes = idle 0 ∷ [] } }; in_holds = tt; made = refl };
      parts = record { own = own; back = back; apart = apart; unborn = λ k h. refl };
    }
      where
        own : (seat : ℕ) (v : View) → get_elem? (first_view (told_terms rules (length attrs) words).attrs r ∷ []) seat ≡ some v → v.live ≡ true → part_of v ≡ part_in seat []
        own zero v e l = ap part_of (sym (some-injective (first_view (told_terms rules (length attrs) words).attrs r) v e))
        own (suc seat) v e l = absurd (some-ne-none v (sym e))

        back : (seat : ℕ) (v : View) → get_elem? (first_view (told_terms rules (length attrs) words).attrs r ∷ []) seat ≡ some v
            → Every (λ (x : Part). IsSpent (first_view (told_terms rules (length attrs) words).attrs r ∷ []) x.number × IsTold (λ k. did_in rules (first_seated attrs) k []) x) v.parts
        back zero v e = subst (λ (z : View). Every (λ (x : Part). IsSpent (first_view (told_terms rules (length attrs) words).attrs r ∷ []) x.number × IsTold (λ k. did_in rules (first_seated attrs) k []) x) z.parts) (some-injective (first_view (told_terms rules (length attrs) words).attrs r) v e) tt
        back (suc seat) v e = absurd (some-ne-none v (sym e))

        apart : (seat : ℕ) (v : View) → get_elem? (first_view (told_terms rules (length attrs) words).attrs r ∷ []) seat ≡ some v → AreApart v.parts
        apart zero v e = subst (λ (z : View). AreApart z.parts) (some-injective (first_view (told_terms rules (length attrs) words).attrs r) v e) tt
        apart (suc seat) v e = absurd (some-ne-none v (sym e))

    pub opens-first : {V : Type 0} (initial_state : V → List ℕ) (history : V → List Action) (r : List ℕ) (values : List V) → Every (IsCurrent initial_state history r []) values → BoardRule initial_state history (told_terms rules (length attrs) words) r (opening words (map Some values) (first_view (told_terms rules (length attrs) words).attrs r))
    opens-first initial_state history r values alike = opens initial_state history r (told_terms rules (length attrs) words) words values
        (subst (λ (z : Terms × List ℕ). Lawful z.0 (record { words = z.1; passes = idle 0 ∷ [] })) (λ j. (sym terms-are j, sym a j)) first.lawful) (starts r) alike

    pub words-are : length words ≡ wide (length attrs)
    words-are = ap length a ∙ opening-long attrs

pub count-is : (rules : Rules) (n : ℕ) (words : List ℕ) → count (told_terms rules n words) ≡ n
count-is rules n words = each-long (λ p. look words (AttrOf p)) n

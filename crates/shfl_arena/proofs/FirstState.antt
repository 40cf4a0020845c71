-- The table of an arena at its opening: the first seat is there, and every value is at home.
use Rattle.std.proofs.Common.{◌≡◌, ℕ, zero, suc, ◌<◌, List, [], ◌∷◌, map, length, refl, sym, ap, ◌∙◌, subst, arith}
use Rattle.std.specs.Prelude.{Some}
use Rattle.std.proofs.lemmas.List.{length-map}
use mathlib.Core.Option.{some, some-injective, some-ne-none}
use lib.ListN.{get_elem?}
use Rattle.atomic_table.specs.Table.{opening}
use Rattle.shfl_line.specs.declared.words.Attr.{Attr}
use Rattle.shfl_line.specs.Words.{attr_word}
use Rattle.shfl_core.specs.declared.phase.Rules.{Rules}
use Rattle.shfl_laws.specs.Moves.{MayOpen}
use Rattle.shfl_arena.specs.declared.shape.Shape.{Shape}
use Rattle.shfl_arena.specs.declared.view.SeatView.{SeatView}
use Rattle.shfl_arena.specs.Threads.{new_thread}
use Rattle.shfl_arena.specs.ArenaWords.{word_count}
use Rattle.shfl_arena.specs.ArenaRule.{ArenaTerms, ArenaRule}
use Rattle.shfl_arena.specs.ArenaOpening.{arena_words, opening_terms}
use Rattle.shfl_arena.specs.SeatViews.{new_seat}
use Rattle.shfl_arena.specs.ArenaTable.{SeatFacts, LawfulTable}
use Rattle.shfl_arena.proofs.Openings.{arena-opening-law}
use Rattle.shfl_arena.proofs.ToldTerms.{told-then}

home-at : {V : Type 0} (values : List V) (l : ℕ) → l < length (map some (map Some values)) → (x : V) × (get_elem? (map some (map Some values)) l ≡ some (some (Some x)))
home-at [] l h = absurd (omega arith)
home-at (x ∷ xs) zero h = (x, refl)
home-at (x ∷ xs) (suc l) h = home-at xs l (omega arith)

module _ (shape : Shape) (rules : Rules) (attrs : List Attr) (locks : 0 < shape.locks) (may : MayOpen rules attrs) where
  opened : ArenaRule (opening_terms shape (λ _. rules) attrs) (arena_words shape attrs) (new_thread ∷ [])
  opened = (arena-opening-law shape (λ _. rules) attrs (λ l h. may) may.some).rule

  pub words-are : length (arena_words shape attrs) ≡ word_count shape (length attrs)
  words-are = opened.room ∙ ap (word_count shape) (length-map attrs attr_word)

  pub first-state : {V : Type 0} (values : List V) (words : List ℕ) → words ≡ arena_words shape attrs → LawfulTable {V = V} shape rules (length attrs) (opening words (map Some values) (new_seat 0))
  first-state {V} values words is = subst (λ (z : List ℕ). LawfulTable {V = V} shape rules (length attrs) (opening z (map Some values) (new_seat 0))) (sym is) (record {
    arena = subst (λ (z : ArenaTerms). ArenaRule z (arena_words shape attrs) (new_thread ∷ []))
        (sym (told-then shape rules (length attrs) (opening_terms shape (λ _. rules) attrs) (arena_words shape attrs) (new_thread ∷ []) refl refl (length-map attrs attr_word) locks opened)) opened;
    seated = only;
    counted = refl;
    home = λ l h _. home-at values l h;
  })
    where
      only : (seat : ℕ) (v : SeatView) → get_elem? (new_seat 0 ∷ []) seat ≡ some v → SeatFacts 1 seat v
      only zero v e = subst (SeatFacts 1 0) (some-injective (new_seat 0) v e) (record { number = λ _. refl; last = λ _. refl; spent = λ none. absurd (let e : 1 ≡ 0 = none in omega arith) })
      only (suc seat) v e = absurd (some-ne-none v (sym e))

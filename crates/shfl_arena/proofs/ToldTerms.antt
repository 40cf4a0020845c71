-- What the words of an arena tell of its terms.
use Rattle.std.proofs.Common.{◌≡◌, ℕ, ◌<◌, List, length, refl, sym, ◌∙◌, subst, arith}
use Rattle.std.specs.Prelude.{slice_index}
use Rattle.shfl_core.specs.declared.phase.Rules.{Rules}
use Rattle.shfl_core.specs.declared.words.Word.TheVariants.{Attr}
use Rattle.shfl_core.specs.Words.{index, wide}
use Rattle.shfl_core.specs.ShownLine.{each_below}
use Rattle.shfl_laws.proofs.words.Leasts.{each-long}
use Rattle.shfl_laws.proofs.words.TermsTold.{each-told}
use Rattle.shfl_arena.specs.declared.shape.Shape.{Shape}
use Rattle.shfl_arena.specs.declared.view.ThreadView.{ThreadView}
use Rattle.shfl_arena.specs.Threads.{passes_from}
use Rattle.shfl_arena.specs.ArenaWords.{place, seen_word}
use Rattle.shfl_arena.specs.ArenaRule.{ArenaTerms, ArenaRule}
use Rattle.shfl_arena.specs.ArenaTable.{told_arena}
use Rattle.shfl_arena.proofs.Places.{words-at}

-- where the rule holds, they tell its own terms
pub told-is : (a : ArenaTerms) (rules : Rules) (words : List ℕ) (threads : List ThreadView) → a.rules ≡ (λ _. rules) → ArenaRule a words threads → 0 < a.shape.locks → told_arena a.shape rules (length a.attrs) words ≡ a
told-is a rules words threads same ok some = λ j. record { shape = a.shape; rules = sym same j; attrs = attrs j }
  where
    attrs : each_below (λ p. slice_index words (place a.shape 0 (Attr p))) (length a.attrs) ≡ a.attrs
    attrs = let M = seen_word a.shape words 0 (passes_from 0 0 threads) in
        each-told (λ p. slice_index words (place a.shape 0 (Attr p))) (length a.attrs) a.attrs refl
        (λ q h. sym (words-at M (length a.attrs) (Attr q) (let x : index (Attr q) < wide (length a.attrs) = omega arith in x)) ∙ (ok.lawful 0 some).attrs q h)

module _ (shape : Shape) (rules : Rules) (n : ℕ) where
  pub told-long : (words : List ℕ) → length (told_arena shape rules n words).attrs ≡ n
  told-long words = each-long (λ p. slice_index words (place shape 0 (Attr p))) n

  -- and terms that the rule has at other words are told by those
  pub told-then : (a : ArenaTerms) (words : List ℕ) (threads : List ThreadView) → a.shape ≡ shape → a.rules ≡ (λ _. rules) → length a.attrs ≡ n → 0 < shape.locks → ArenaRule a words threads → told_arena shape rules n words ≡ a
  told-then a words threads shaped ruled long some ok = subst (λ (z : Shape × ℕ). told_arena z.0 rules z.1 words ≡ a) (λ j. (shaped j, long j))
      (told-is a rules words threads ruled ok (subst (λ (z : Shape). 0 < z.locks) (sym shaped) some))

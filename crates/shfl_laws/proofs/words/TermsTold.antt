-- What the words of a lawful world tell of its opening: the attribute words of all its passes.
use Rattle.std.proofs.Common.{◌≡◌, ℕ, ◌<◌, ◌≤◌, List, length, refl, sym, ◌∙◌, subst, ⊎_elim, arith}
use Rattle.std.specs.Prelude.{slice_index}
use Rattle.std.proofs.lemmas.List.{get_or_past}
use Rattle.shfl_core.specs.declared.words.Word.TheVariants.{Attr}
use Rattle.shfl_core.specs.Words.{look}
use Rattle.shfl_core.specs.ShownLine.{each_below}
use Rattle.shfl_core.specs.Lawful.{Terms, count}
use Rattle.shfl_core.proofs.Lists.{below-or}
use Rattle.shfl_laws.specs.Moves.{TermsLaw}
use Rattle.shfl_laws.proofs.words.Leasts.{each-long, each-read}
use Rattle.shfl_laws.proofs.shown.ShownOne.{numbers-one}

-- a list of numbers is what a function gives for each place
pub each-told : (f : ℕ → ℕ) (n : ℕ) (l : List ℕ) → length l ≡ n → ((q : ℕ) → q < n → f q ≡ slice_index l q) → each_below f n ≡ l
each-told f n l e h = numbers-one (each_below f n) l (each-long f n ∙ sym e) (λ q. ⊎_elim
    (λ b. each-read f n q (λ over. absurd (omega arith)) ∙ h q b)
    (λ b. get_or_past (each_below f n) q 0 (subst (λ k. k ≤ q) (sym (each-long f n)) b) ∙ sym (get_or_past l q 0 (subst (λ k. k ≤ q) (sym e) b)))
    (below-or q n))

pub terms-law : (t : Terms) → TermsLaw t
terms-law t w ok = λ j. record { rules = t.rules; attrs = each-told (λ p. look w.words (Attr p)) (count t) t.attrs refl ok.attrs j }

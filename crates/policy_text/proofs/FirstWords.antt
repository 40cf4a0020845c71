-- The first word of a line, and those behind it.
use Rattle.std.proofs.Common.{◌≡◌, ℕ, List, [], ◌∷◌, cond, Some, None, refl, ap, ◌∙◌}
use Rattle.doc_text.specs.Words.{words, same}
use Rattle.doc_text.proofs.Joining.{same-true}
use Rattle.doc_text.proofs.Splitting.{words_cons}
use Rattle.policy_text.specs.Rules.{words_behind}
use Rattle.policy_text.proofs.Chains.{test-some, some-same}

-- where text is left, a word is
pub behind_more : (word a text : List ℕ) → words_behind word (a ∷ words text) ≡ cond (same a word) (Some (words text)) None
behind_more word a text = let w = words_cons text in rw w.2 refl

pub behind-some : (word : List ℕ) (ws us : List (List ℕ)) → words_behind word ws ≡ Some us → ws ≡ word ∷ us
behind-some word [] us h = cc
behind-some word (a ∷ []) us h = cc
behind-some word (a ∷ b ∷ ws) us h =
    let t = test-some (same a word) (Some (b ∷ ws)) us h in
    ap (λ (w : List ℕ). w ∷ b ∷ ws) (same-true a word t.0) ∙ ap (λ (vs : List (List ℕ)). word ∷ vs) (some-same (b ∷ ws) us t.1)

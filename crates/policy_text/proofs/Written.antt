-- Text that is written piece by piece.
use Rattle.std.proofs.Common.{◌≡◌, ℕ, List, [], ◌∷◌, ◌++◌, map, refl, sym, ap, ◌∙◌, append_assoc}
use Rattle.std.proofs.lemmas.List.{append-nil}
use Rattle.std.proofs.lemmas.Grind.{flat_map-append}
use Rattle.doc_text.specs.Words.{spaced}
use Rattle.policy_text.specs.Blanks.{blanked}

pub ruleset joined_rules = (append_assoc, append-nil)

-- the first word, and then the others each behind a blank
pub spaced-blanked : (w : List ℕ) (ws : List (List ℕ)) → spaced (w ∷ ws) ≡ w ++ blanked ws
spaced-blanked w [] = sym (append-nil w)
spaced-blanked w (v ∷ ws) = ap (λ (l : List ℕ). w ++ 32 ∷ l) (spaced-blanked v ws)

pub blanked-append : (vs ws : List (List ℕ)) → blanked (vs ++ ws) ≡ blanked vs ++ blanked ws
blanked-append [] ws = refl
blanked-append (v ∷ vs) ws = ap (λ (l : List ℕ). (32 ∷ v) ++ l) (blanked-append vs ws) ∙ sym (append_assoc (32 ∷ v) (blanked vs) (blanked ws))

pub ruleset line_rules = (append_assoc, append-nil, spaced-blanked, blanked-append)

pub ruleset text_rules = (append_assoc, append-nil, flat_map-append)

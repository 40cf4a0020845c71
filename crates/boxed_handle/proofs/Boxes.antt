-- Handles of boxes, and what an answer that may be an error says.
use Rattle.std.proofs.Common.{◌≡◌, List, [], ◌∷◌, map, Result, Ok, Err, IfOk, sym, ap, ◌∙◌}
use mathlib.Core.List.{map-map}

-- handles that own what the boxes own, own the values that the boxes have
pub each-boxed : {B T : Type 0} (value : B → T) (boxes : List B) (values : List T) (owned : List (List T))
    → map value boxes ≡ values → owned ≡ map (λ b. value b ∷ []) boxes → owned ≡ map (λ t. t ∷ []) values
each-boxed value boxes values owned are own = own ∙ (sym (map-map (λ t. t ∷ []) value boxes) ∙ ap (map (λ t. t ∷ [])) are)

pub ok-more : {A E : Type 0} {P Q : A → Type 0} (r : Result A E) → ((v : A) → P v → Q v) → IfOk r P → IfOk r Q
ok-more (Ok v) f p = f v p
ok-more (Err e) f p = tt

-- Histories that grow.
use Rattle.std.proofs.Common.{◌≡◌, ℕ, ◌≢◌, Bool, true, false, ◌==◌, cond, List, [], ◌∷◌, ◌++◌, sym, refl, ap, ◌∙◌, subst, ne_eqb, append_assoc, append-nil}
use Rattle.shfl_table.specs.declared.kept.Action.{Action}
use Rattle.shfl_table.specs.Histories.{AllBy, Continues, HasSeen, actions_by}

pub said_by-append : (k : ℕ) (xs ys : List Action) → actions_by k (xs ++ ys) ≡ actions_by k xs ++ actions_by k ys
said_by-append k [] ys = refl
said_by-append k (e ∷ es) ys = let r = said_by-append k es ys in
    elim (e.worker == k) as (λ b. cond b (e ∷ actions_by k (es ++ ys)) (actions_by k (es ++ ys)) ≡ cond b (e ∷ actions_by k es) (actions_by k es) ++ actions_by k ys) [
      | true ↦ ap (λ (l : List Action). e ∷ l) r
      | false ↦ r
    ]

pub said_by-other : (k n : ℕ) (own : List Action) → k ≢ n → AllBy n own → actions_by k own ≡ []
said_by-other k n [] ne all = refl
said_by-other k n (e ∷ es) ne all = let r = said_by-other k n es ne all.1 in
    let miss : (e.worker == k) ≡ false = ne_eqb e.worker k (λ h. ne (sym h ∙ all.0)) in
    subst (λ (b : Bool). cond b (e ∷ actions_by k es) (actions_by k es) ≡ []) (sym miss) r

pub knew_itself : (k : ℕ) (t : List Action) → HasSeen t k t
knew_itself k t = (([], sym (append-nil t)), refl)

-- what another pass adds leaves what k saw
pub knew_more : (n k : ℕ) (total total' t : List Action) → Continues n total total' → k ≢ n → HasSeen total k t → HasSeen total' k t
knew_more n k total total' t c ne know = let own = c.0 in let rest = know.0.0 in (
  (rest ++ own, c.1 ∙ (ap (λ (l : List Action). l ++ own) know.0.1 ∙ append_assoc t rest own)),
  ap (actions_by k) c.1 ∙ (said_by-append k total own ∙ (ap (λ (l : List Action). actions_by k total ++ l) (said_by-other k n own ne c.2) ∙ (append-nil (actions_by k total) ∙ know.1))),
)

-- Where a worker may make one call more, the history has fewer actions than there may be calls.
use Rattle.std.proofs.Common.{◌≡◌, ℕ, zero, suc, ◌+◌, ◌-◌, ◌<◌, ◌≤◌, ◌≢◌, Bool, cond, List, [], ◌∷◌, ◌++◌, length, slice_index, get_or, set, get_or-set_same, get_or-set_other, sum, sym, refl, ap, ◌∙◌, subst, arith, eq-eqb, ne_eqb, length-append}
use Rattle.std.proofs.lemmas.List.Sums.{sum_by-set, get_or-le-sum_by}
use mathlib.Core.Logic.{dite}
use native.Mathlib.Decide.{ℕ_discrete}
use Rattle.shfl_table.specs.declared.kept.Action.{Action}
use Rattle.shfl_table.specs.Histories.{actions_by}
use Rattle.shfl_table.proofs.Histories.{said_by-append}
use Rattle.shfl_table.specs.Books.{IsWithin}

-- how many actions one worker has, at its own action and at another's
count-own : (a : Action) (later : List Action) → length (actions_by a.worker (a ∷ later)) ≡ suc (length (actions_by a.worker later))
count-own a later = ap (λ (b : Bool). length (cond b (a ∷ actions_by a.worker later) (actions_by a.worker later))) (eq-eqb a.worker a.worker refl)

count-other : (k : ℕ) (a : Action) (later : List Action) → a.worker ≢ k → length (actions_by k (a ∷ later)) ≡ length (actions_by k later)
count-other k a later other = ap (λ (b : Bool). length (cond b (a ∷ actions_by k later) (actions_by k later))) (ne_eqb a.worker k other)

within : (l : List ℕ) (i : ℕ) → 0 < get_or l i 0 → i < length l
within [] i h = absurd (omega arith)
within (x ∷ xs) zero h = omega arith
within (x ∷ xs) (suc i) h = let r = within xs i h in omega arith

some-le-sum : (l : List ℕ) (i : ℕ) → 0 < get_or l i 0 → get_or l i 0 ≤ sum l
some-le-sum l i h = get_or-le-sum_by (λ x. x) l i 0 (within l i h)

pub has_room : (history : List Action) (allowed : List ℕ) (k : ℕ) → IsWithin allowed history → length (actions_by k history) < slice_index allowed k → length history < sum allowed
has_room [] allowed k fits more = let s = some-le-sum allowed k (omega arith) in omega arith
has_room (a ∷ later) allowed k fits more = let w : ℕ = a.worker in let c : ℕ = get_or allowed w 0 in
    let here = count-own a later in let mine = fits w in
    let some_left : 0 < c = omega arith in
    let fewer : List ℕ = set allowed w (c - 1) in
    let sums : sum fewer + c ≡ sum allowed + (c - 1) = sum_by-set (λ x. x) allowed w (c - 1) 0 (within allowed w some_left) in
    let fits' : IsWithin fewer later = λ j. dite (ℕ_discrete j w)
    (λ is. subst (λ (i : ℕ). length (actions_by i later) ≤ get_or fewer i 0) (sym is) (let g = get_or-set_same allowed w (c - 1) 0 (within allowed w some_left) in omega arith))
    (λ ne. let g = get_or-set_other allowed w j (c - 1) 0 ne in let t = count-other j a later (λ h. ne (sym h)) in let f = fits j in omega arith) in
    let more' : length (actions_by k later) < get_or fewer k 0 = dite (ℕ_discrete k w)
    (λ is. subst (λ (i : ℕ). length (actions_by i later) < get_or fewer i 0) (sym is) (let g = get_or-set_same allowed w (c - 1) 0 (within allowed w some_left) in let m = subst (λ (i : ℕ). length (actions_by i (a ∷ later)) < get_or allowed i 0) is more in omega arith))
    (λ ne. let g = get_or-set_other allowed w k (c - 1) 0 ne in let t = count-other k a later (λ h. ne (sym h)) in omega arith) in
    let r = has_room later fewer k fits' more' in omega arith

-- one action more of a worker that may make it
pub one_more_is_within : (history : List Action) (allowed : List ℕ) (a : Action) → IsWithin allowed history → length (actions_by a.worker history) < slice_index allowed a.worker → IsWithin allowed (history ++ a ∷ [])
one_more_is_within history allowed a fits more j = let s = ap length (said_by-append j history (a ∷ [])) in let l = length-append (actions_by j history) (actions_by j (a ∷ [])) in dite (ℕ_discrete a.worker j)
    (λ is. subst (λ (i : ℕ). length (actions_by i (history ++ a ∷ [])) ≤ slice_index allowed i) is
    (let o = count-own a [] in let s' = ap length (said_by-append a.worker history (a ∷ [])) in let l' = length-append (actions_by a.worker history) (actions_by a.worker (a ∷ [])) in omega arith))
    (λ ne. let t = count-other j a [] ne in let f = fits j in omega arith)

-- one action more of the worker's own
pub actions_by-own : (k : ℕ) (history : List Action) (a : Action) → a.worker ≡ k → actions_by k (history ++ a ∷ []) ≡ actions_by k history ++ a ∷ []
actions_by-own k history a is = said_by-append k history (a ∷ []) ∙ ap (λ (b : Bool). actions_by k history ++ (cond b (a ∷ []) ([]))) (eq-eqb a.worker k is)

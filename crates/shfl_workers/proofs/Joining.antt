-- One activity more.
use Rattle.std.proofs.Common.{◌≡◌, suc, Bool, List, [], ◌∷◌, ◌++◌, length, Option, None, refl, ap, subst, arith}
use Rattle.policy_versions.specs.Models.{PassModel}
use Rattle.shfl_workers.specs.declared.activity.Activity.{Activity}
use Rattle.shfl_workers.specs.declared.attaching.Attaching.{Attaching}
use Rattle.shfl_workers.specs.Activities.{Joined, with_log}

-- what attaches is still there before the first activity
abbrev pub first_left : {Pass : Type 0} → List Pass → Option Attaching → Option Attaching
first_left [] first = first
first_left (p ∷ ps) first = None

pub none_left : {Pass : Type 0} (ps : List Pass) (p : Pass) (first : Option Attaching) → None ≡ first_left (ps ++ p ∷ []) first
none_left [] p first = refl
none_left (q ∷ ps) p first = refl

pub joined_long : {Pass : Type 0} (ps : List Pass) (us : List PassModel) (keeps : Bool) (first : Option Attaching) (all : List (Activity Pass)) → Joined ps us keeps first all → length us ≡ length ps
joined_long [] [] keeps first [] j = refl
joined_long [] [] keeps first (a ∷ all) j = absurd j
joined_long [] (u ∷ us) keeps first all j = absurd j
joined_long (p ∷ ps) [] keeps first all j = absurd j
joined_long (p ∷ ps) (u ∷ us) keeps first [] j = absurd j
joined_long (p ∷ ps) (u ∷ us) keeps first (a ∷ all) j = ap suc (joined_long ps us keeps None all j.1)

none_on : {Pass : Type 0} (ps : List Pass) → first_left ps None ≡ None
none_on [] = refl
none_on (p ∷ ps) = refl

pub joined_more : {Pass : Type 0} (ps : List Pass) (us : List PassModel) (keeps : Bool) (first : Option Attaching) (all : List (Activity Pass)) (p : Pass) (u : PassModel)
    → Joined ps us keeps first all → Joined (ps ++ p ∷ []) (us ++ u ∷ []) keeps first (all ++ record { pass = p; user = with_log u keeps; attaching = first_left ps first } ∷ [])
joined_more [] [] keeps first [] p u j = (refl, tt)
joined_more [] [] keeps first (a ∷ all) p u j = absurd j
joined_more [] (v ∷ us) keeps first all p u j = absurd j
joined_more (q ∷ ps) [] keeps first all p u j = absurd j
joined_more (q ∷ ps) (v ∷ us) keeps first [] p u j = absurd j
joined_more (q ∷ ps) (v ∷ us) keeps first (a ∷ all) p u j = (j.0, subst (λ x. Joined (ps ++ p ∷ []) (us ++ u ∷ []) keeps None (all ++ record { pass = p; user = with_log u keeps; attaching = x } ∷ [])) (none_on ps) (joined_more ps us keeps None all p u j.1))

pub no_items : {X : Type 0} (xs : List X) → length xs ≡ 0 → xs ≡ []
no_items [] none = refl
no_items (x ∷ xs) none = absurd (omega (arith, none))

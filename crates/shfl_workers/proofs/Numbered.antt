-- Passes that stand at the places of their numbers.
use Rattle.std.proofs.Common.{◌≡◌, ℕ, zero, suc, ◌<◌, List, [], ◌∷◌, ◌++◌, map, length, get_or, slice_get, Some, All, sym, refl, ap, ◌∙◌, subst, arith}
use Rattle.std.specs.List.{Contains}
use Rattle.std.proofs.lemmas.List.{get_or-map}
use Rattle.std.proofs.lemmas.List.Elements.{All-map, Contains-get_or}
use Rattle.std.proofs.Math.ListN.{length-map}
use Rattle.policy_versions.proofs.Indexed.{some_same}
use Rattle.shfl_workers.specs.declared.activity.Activity.{Activity}
use Rattle.shfl_workers.specs.Activities.{IsAt, AreNumbered}
use Rattle.shfl_workers.specs.Passes.{AtEachPlace, IsDone}
use Rattle.dir_table.specs.declared.calls.DirCall.{DirCall}
use Rattle.trace_text.specs.declared.trace.TraceCall.{TraceCall}
use Rattle.trace_text.specs.Histories.{made_in, of_worker}
use Rattle.policy_versions.specs.Places.{RegistryId}

-- an element that is there is the one of its place
pub at_index : {X : Type 0} (xs : List X) (i : ℕ) (x d : X) → slice_get xs i ≡ Some x → (i < length xs) × (get_or xs i d ≡ x)
at_index [] i x d e = absurd (cc)
at_index (y ∷ ys) zero x d e = (omega arith, some_same y x e)
at_index (y ∷ ys) (suc i) x d e = let r = at_index ys i x d e in (omega (arith, r.0), r.1)

pub there : {X : Type 0} (xs : List X) (i : ℕ) (d : X) → i < length xs → slice_get xs i ≡ Some (get_or xs i d)
there [] i d lt = absurd (omega arith)
there (y ∷ ys) zero d lt = refl
there (y ∷ ys) (suc i) d lt = there ys i d (omega (arith, lt))

-- one fact of each element of the mapped list
pub of_each : {X Y : Type 0} (f : X → Y) (P : Y → Type 0) (xs : List X) → All (λ x. P (f x)) xs → (i : ℕ) (y : Y) → slice_get (map f xs) i ≡ Some y → P y
of_each f P [] all i y e = absurd (cc)
of_each f P (x ∷ xs) all i y e =
    let whole = All-map P f (x ∷ xs) all in
    let r = at_index (map f (x ∷ xs)) i y (f x) e in subst P r.1 (whole i (f x) r.0)

abbrev pub pass_of : {Pass : Type 0} → Activity Pass → Pass
pass_of a = a.pass

-- an element stands at each place
pub element_at : {X : Type 0} (xs : List X) (i : ℕ) → i < length xs → (x : X) × (slice_get xs i ≡ Some x)
element_at [] i lt = absurd (omega (arith, lt))
element_at (y ∷ ys) zero lt = (y, refl)
element_at (y ∷ ys) (suc i) lt = element_at ys i (omega (arith, lt))

-- what is true of all is true of the one at a place
pub of_all : {X : Type 0} (P : X → Type 0) (xs : List X) → All P xs → (i : ℕ) (x : X) → slice_get xs i ≡ Some x → P x
of_all P xs all i x e = let r = at_index xs i x x e in subst P r.1 (all i x r.0)

-- what is true at each place stays so where it is true of one more at the next place
pub at_each_more : {X : Type 0} (P : ℕ → X → Type 0) (xs : List X) (x : X) → AtEachPlace P xs → P (length xs) x → AtEachPlace P (xs ++ x ∷ [])
at_each_more P [] x all here zero y e = subst (P 0) (some_same x y e) here
at_each_more P [] x all here (suc k) y e = absurd (cc)
at_each_more P (z ∷ zs) x all here zero y e = all 0 y e
at_each_more P (z ∷ zs) x all here (suc k) y e = at_each_more (λ n. P (suc n)) zs x (λ n w f. all (suc n) w f) here k y e

-- where each element is that of its place, and those are such, each is
pub each_place : {X : Type 0} (P : ℕ → X → Type 0) (f : ℕ → X) (xs : List X) → ((k : ℕ) → k < length xs → slice_get xs k ≡ Some (f k)) → ((k : ℕ) → k < length xs → P k (f k)) → AtEachPlace P xs
each_place P f xs are each k x e = let r = at_index xs k x x e in subst (P k) (some_same (f k) x (sym (are k r.0) ∙ e)) (each k r.0)

module _ {Pass : Type 0} (is_pass : Pass → Type 0) (number : Pass → ℕ) (made : Pass → List DirCall → Type 0) (calls : List TraceCall) where
  -- workers that have no call ahead have made theirs
  pub have_made : (left : Pass → ℕ) (registry : RegistryId) (all : List (Activity Pass)) → AreNumbered number all → All (IsAt is_pass number made left registry calls []) all
      → AtEachPlace (IsDone is_pass number made calls) (map (λ a. a.pass) all)
  have_made left registry [] numbered at k p e = absurd (cc)
  have_made left registry (a ∷ rest) numbered at k p e =
      let r = at_index (map pass_of (a ∷ rest)) k p a.pass e in
      let lt : k < length (a ∷ rest) = (let l = length-map (a ∷ rest) pass_of in let b = r.0 in omega (arith, l, b)) in
      let here = get_or (a ∷ rest) k a in let is_at = at k a lt in let n = numbered k a lt in
      subst (IsDone is_pass number made calls k) (sym (get_or-map pass_of (a ∷ rest) k a a.pass lt) ∙ r.1)
      (record {
        of_dir = is_at.of_dir;
        number_is = n;
        has_made = subst (λ w. made here.pass (of_worker w (made_in calls))) n is_at.progress.has_made;
      })

  module _ (ps : List Pass) (done : AtEachPlace (IsDone is_pass number made calls) ps) where
    -- each is a pass of the directory
    pub each_of_dir : All is_pass ps
    each_of_dir k d lt = (done k (get_or ps k d) (there ps k d lt)).of_dir

    -- they are all passes of so many
    pub everyone : (count : ℕ) → length ps ≡ count → (k : ℕ) → k < count → Contains (map number ps) k
    everyone count many k lt =
        let p = element_at ps k (omega (arith, lt, many)) in let r = at_index ps k p.0 p.0 p.1 in
        let there' : k < length (map number ps) = (let l = length-map ps number in let b = r.0 in omega (arith, l, b)) in
        subst (Contains (map number ps)) (get_or-map number ps k p.0 k r.0 ∙ ap number r.1 ∙ (done k p.0 p.1).number_is) (Contains-get_or (map number ps) k k there')

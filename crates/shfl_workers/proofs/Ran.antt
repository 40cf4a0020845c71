-- The workers after their run.
use Rattle.std.proofs.Common.{◌≡◌, ℕ, ◌<◌, Bool, Option, List, [], All, map, length, slice_index_or, sym, ap, ◌∙◌, subst, arith}
use Rattle.dir_table.specs.declared.calls.DirCall.{DirCall}
use Rattle.trace_text.specs.declared.trace.TraceCall.{TraceCall}
use Rattle.shfl_line.specs.declared.choosers.Told.{Told}
use Rattle.round_log.specs.Logs.{begun, told_in, InRounds}
use Rattle.policy_versions.specs.Places.{RegistryId}
use Rattle.shfl_workers.specs.declared.activity.Activity.{Activity}
use Rattle.shfl_workers.specs.Activities.{IsAt, AreNumbered, Works}
use Rattle.shfl_workers.proofs.Numbered.{pass_of}
use Rattle.std.proofs.Math.ListN.{length-map}

module _ {Pass : Type 0} (is_pass : Pass → Type 0) (number : Pass → ℕ) (made : Pass → List DirCall → Type 0) (left : Pass → ℕ)
    (asks : Pass → DirCall → Pass → Option (List Told) → Option (List Told) → Type 0) (registry : RegistryId) (keeps : Bool) where
  -- so many workers have no call ahead, and their logs have whole rounds
  pub record HaveRun (count : ℕ) (calls : List TraceCall) (all : List (Activity Pass)) : Type 0 where
    pub many : length all ≡ count
    pub numbered : AreNumbered number all
    pub at : All (IsAt is_pass number made left registry calls []) all
    pub whole : All (λ a. InRounds (told_in (begun keeps)) (told_in a.user.log)) all

  -- those that were lent are there again
  pub have_run : (count : ℕ) (calls lent_calls : List TraceCall) (before lent after all : List (Activity Pass)) → lent_calls ≡ calls → lent ≡ before
      → length before ≡ count → AreNumbered number before → ((k : ℕ) (d : Activity Pass) → k < length before → (slice_index_or before k d).user.log ≡ begun keeps) → length after ≡ length lent
      → ((k : ℕ) (d : Activity Pass) → k < length lent → Works number asks lent_calls (slice_index_or lent k d) (slice_index_or after k d))
      → All (IsAt is_pass number made left registry lent_calls []) after → all ≡ after → HaveRun count calls all
  have_run count calls lent_calls before lent after all same_calls is_lent many numbered empty long works done is =
      let as_long : length after ≡ length before = long ∙ ap length is_lent in
      subst (HaveRun count calls) (sym is)
      (record {
        many = as_long ∙ many;
        numbered = λ k d lt.
            let there : k < length before = (let l = as_long in omega (arith, l, lt)) in
            (works k d (omega (arith, long, lt))).number ∙ ap (λ (l : List (Activity Pass)). number (slice_index_or l k d).pass) is_lent ∙ numbered k d there;
        whole = λ k d lt.
            let there : k < length before = (let l = as_long in omega (arith, l, lt)) in
            subst (λ o. InRounds (told_in o) (told_in (slice_index_or after k d).user.log)) (ap (λ (l : List (Activity Pass)). (slice_index_or l k d).user.log) is_lent ∙ empty k d there)
            (works k d (omega (arith, long, lt))).whole;
        at = subst (λ (l : List TraceCall). All (IsAt is_pass number made left registry l []) after) same_calls done;
      })

  -- and there is a pass of each
  pub as_many_passes : (count : ℕ) (calls : List TraceCall) (all : List (Activity Pass)) (ps : List Pass) → HaveRun count calls all → ps ≡ map (λ a. a.pass) all → length ps ≡ count
  as_many_passes count calls all ps ran are = ap length are ∙ length-map all pass_of ∙ ran.many

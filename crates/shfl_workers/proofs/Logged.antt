-- The logs of the workers behind their run.
use Rattle.std.proofs.Common.{◌≡◌, ℕ, zero, suc, ◌<◌, Bool, List, [], ◌∷◌, Option, All, map, length, get_or, slice_get, Some, sym, refl, ap, ◌∙◌, subst, arith}
use Rattle.std.proofs.lemmas.List.Elements.{All-map}
use Rattle.std.proofs.Math.ListN.{length-map}
use Rattle.dir_table.specs.declared.calls.DirCall.{DirCall}
use Rattle.shfl_line.specs.declared.choosers.Told.{Told}
use Rattle.round_log.specs.declared.log.Note.{Note}
use Rattle.round_log.specs.Logs.{begun, told_in, InRounds}
use Rattle.policy_versions.specs.Places.{RegistryId}
use Rattle.policy_versions.specs.Rule.{IsAmong, version_of, which_of}
use Rattle.policy_versions.specs.Models.{PassModel, IsRow}
use Rattle.policy_versions.specs.Noting.{AreRoundsOf}
use Rattle.policy_versions.proofs.Noted.{log_published}
use Rattle.trace_text.specs.declared.trace.Trace.{Trace}
use Rattle.shfl_workers.specs.declared.activity.Activity.{Activity}
use Rattle.shfl_workers.specs.Activities.{unlogged}
use Rattle.shfl_workers.specs.Loaded.{AreLoaded}
use Rattle.shfl_workers.specs.Rounds.{HaveRounds}
use Rattle.shfl_workers.proofs.Ran.{HaveRun}

mapped : {Pass : Type 0} (all : List (Activity Pass)) (k : ℕ) (d : Activity Pass) → k < length all → slice_get (map (λ a. unlogged a.user) all) k ≡ Some (unlogged (get_or all k d).user)
mapped [] k d lt = absurd (omega (arith, lt))
mapped (a ∷ rest) zero d lt = refl
mapped (a ∷ rest) (suc k) d lt = mapped rest k d (omega (arith, lt))

abbrev log_of : {Pass : Type 0} → Activity Pass → Option (List Note)
log_of a = a.user.log

module _ {Pass : Type 0} (is_pass : Pass → Type 0) (number : Pass → ℕ) (made : Pass → List DirCall → Type 0) (left : Pass → ℕ)
    (asks : Pass → DirCall → Pass → Option (List Told) → Option (List Told) → Type 0) (registry : RegistryId) (keeps : Bool) where
  -- each word that a user has loaded was published, so the logs are what the trace's policies answered
  pub have_rounds : (t : Trace) (all : List (Activity Pass)) (rows : List (ℕ × ℕ)) (users : List PassModel) (logs : List (Option (List Note)))
      → HaveRun is_pass number made left asks registry keeps (length t.workers.items) t.calls.items all → AreLoaded t.profile t.policies.items registry.declared
      → users ≡ map (λ a. unlogged a.user) all → logs ≡ map (λ a. a.user.log) all
      → ((i : ℕ) (p : PassModel) (k : ℕ) → slice_get users i ≡ Some p → IsAmong k p.seen → IsRow rows (version_of k) (which_of k))
      → HaveRounds t keeps rows logs
  have_rounds t all rows users logs ran are_loaded of_users of_logs loaded = record {
    many = ap length of_logs ∙ length-map all log_of ∙ ran.many;
    declared = registry.declared;
    loaded = are_loaded;
    answered = subst (All (AreRoundsOf registry.declared rows)) (sym of_logs) (All-map (AreRoundsOf registry.declared rows) log_of all
        (λ k d lt.
        let a = get_or all k d in
        let here : slice_get users k ≡ Some (unlogged a.user) = ap (λ l. slice_get l k) of_users ∙ mapped all k d lt in
        log_published registry.declared a.user.seen rows (λ word h. loaded k (unlogged a.user) word here h) a.user.log (ran.at k d lt).logged));
    whole = subst (All (λ l. InRounds (told_in (begun keeps)) (told_in l))) (sym of_logs)
        (All-map (λ (l : Option (List Note)). InRounds (told_in (begun keeps)) (told_in l)) log_of all ran.whole);
  }

-- The workers before their first call.
use Rattle.std.proofs.Common.{◌≡◌, ℕ, zero, suc, ◌<◌, ◌≤◌, Bool, true, false, List, [], ◌∷◌, length, get_or, slice_get, Option, Some, None, IsSomeAnd, sym, refl, ap, ◌∙◌, subst, arith}
use Rattle.dir_table.specs.declared.calls.DirCall.{DirCall}
use Rattle.trace_text.specs.declared.trace.TraceCall.{TraceCall}
use Rattle.trace_text.specs.Attachments.{attached_in}
use Rattle.round_log.specs.Logs.{begun}
use Rattle.shfl_policy.specs.Policies.{PolicyModel}
use Rattle.policy_versions.specs.Places.{RegistryId}
use Rattle.policy_versions.specs.Noting.{IsLogOf}
use Rattle.policy_versions.specs.Models.{PassModel, IsClosed, AreFresh}
use Rattle.policy_versions.proofs.Indexed.{some_same}
use Rattle.shfl_workers.specs.declared.activity.Activity.{Activity}
use Rattle.shfl_workers.specs.declared.attaching.Attaching.{Attaching}
use Rattle.shfl_workers.specs.Activities.{Joined, IsAt, with_log}
use Rattle.shfl_workers.specs.Attaching.{Attached}
use Rattle.shfl_workers.specs.Shares.{share_of}
use Rattle.shfl_workers.specs.Passes.{AtEachPlace, IsReady}

-- what the activity at a place has
record IsJoinedAt {Pass : Type 0} (ps : List Pass) (us : List PassModel) (keeps : Bool) (first : Option Attaching) (k : ℕ) (a : Activity Pass) : Type 0 where
  pass : slice_get ps k ≡ Some a.pass
  user : (u : PassModel) × (slice_get us k ≡ Some u) × (a.user ≡ with_log u keeps)
  attaching : k ≡ 0 → a.attaching ≡ first

joined_at : {Pass : Type 0} (ps : List Pass) (us : List PassModel) (keeps : Bool) (first : Option Attaching) (all : List (Activity Pass)) (k : ℕ) (d : Activity Pass)
    → Joined ps us keeps first all → k < length all → IsJoinedAt ps us keeps first k (get_or all k d)
joined_at [] [] keeps first [] k d j lt = absurd (omega arith)
joined_at [] [] keeps first (a ∷ all) k d j lt = absurd j
joined_at [] (u ∷ us) keeps first all k d j lt = absurd j
joined_at (p ∷ ps) [] keeps first all k d j lt = absurd j
joined_at (p ∷ ps) (u ∷ us) keeps first [] k d j lt = absurd j
joined_at (p ∷ ps) (u ∷ us) keeps first (a ∷ all) zero d j lt = record {
  pass = ap (λ x. Some x.pass) (sym j.0);
  user = (u, refl, ap (λ x. x.user) j.0);
  attaching = λ _. ap (λ x. x.attaching) j.0;
}
joined_at (p ∷ ps) (u ∷ us) keeps first (a ∷ all) (suc k) d j lt =
    let r = joined_at ps us keeps None all k d j.1 (omega (arith, lt)) in
    record { pass = r.pass; user = r.user; attaching = λ none. absurd (omega (arith, none)) }

pub joined_count : {Pass : Type 0} (ps : List Pass) (us : List PassModel) (keeps : Bool) (first : Option Attaching) (all : List (Activity Pass)) → Joined ps us keeps first all → length all ≡ length ps
joined_count [] [] keeps first [] j = refl
joined_count [] [] keeps first (a ∷ all) j = absurd j
joined_count [] (u ∷ us) keeps first all j = absurd j
joined_count (p ∷ ps) [] keeps first all j = absurd j
joined_count (p ∷ ps) (u ∷ us) keeps first [] j = absurd j
joined_count (p ∷ ps) (u ∷ us) keeps first (a ∷ all) j = ap suc (joined_count ps us keeps None all j.1)

log_begun : (declared : List PolicyModel) (seen : List ℕ) (keeps : Bool) → IsLogOf declared seen (begun keeps)
log_begun declared seen true = (tt, tt, tt)
log_begun declared seen false = tt

module _ {Pass : Type 0} (number : Pass → ℕ) (is_pass : Pass → Type 0) (made : Pass → List DirCall → Type 0) (left : Pass → ℕ)
    (registry : RegistryId) (calls : List TraceCall) (count : ℕ)
    (ps : List Pass) (us : List PassModel) (keeps : Bool) (first : Attaching) (all : List (Activity Pass)) (joined : Joined ps us keeps (Some first) all) (many : length ps ≡ count)
    (ready : AtEachPlace (IsReady is_pass number made left calls) ps) (users : AreFresh registry count us)
    (first_attached : Attached registry [] (attached_in calls) first.publisher first.copies.items) where
  is_ready : (k : ℕ) (d : Activity Pass) → k < length all → IsReady is_pass number made left calls k (get_or all k d).pass
  is_ready k d lt = ready k (get_or all k d).pass (joined_at ps us keeps (Some first) all k d joined lt).pass

  pub starts_numbered : (k : ℕ) (d : Activity Pass) → k < length all → number (get_or all k d).pass ≡ k
  starts_numbered k d lt = (is_ready k d lt).number_is

  pub starts_empty : (k : ℕ) (d : Activity Pass) → k < length all → (get_or all k d).user.log ≡ begun keeps
  starts_empty k d lt = ap (λ (u : PassModel). u.log) (joined_at ps us keeps (Some first) all k d joined lt).user.2

  pub starts_at : (k : ℕ) (d : Activity Pass) → k < length all → IsAt is_pass number made left registry [] calls (get_or all k d)
  starts_at k d lt =
      let n = joined_count ps us keeps (Some first) all joined in
      let within : k < count = omega (arith, lt, n, many) in
      let at = joined_at ps us keeps (Some first) all k d joined lt in
      let user = at.user.2 ∙ ap (λ u. with_log u keeps) (some_same _ _ (sym at.user.1 ∙ users k within)) in
      let r = is_ready k d lt in
      record {
        of_dir = r.of_dir;
        closed = subst (IsClosed registry) (sym user) (refl, refl);
        logged = subst (λ (u : PassModel). IsLogOf registry.declared u.seen u.log) (sym at.user.2) (log_begun registry.declared at.user.0.seen keeps);
        progress = record {
          has_made = r.none_made;
          enough = (let e = r.left_is in subst (λ w. share_of calls w ≤ left (get_or all k d).pass) (sym r.number_is) (omega (arith, e)));
          attached = λ zeroth. subst (λ o. IsSomeAnd o (λ a. Attached registry [] (attached_in calls) a.publisher a.copies.items))
              (sym (at.attaching (sym r.number_is ∙ zeroth))) first_attached;
        };
      }

-- The takers of a pool before their first call, and behind their last.
use Rattle.std.proofs.Common.{◌≡◌, ℕ, ◌<◌, Bool, List, Option, None, All, map, length, slice_index_or, sym, ap, ◌∙◌, subst, arith}
use Rattle.std.proofs.lemmas.List.{get_or-map, length-map}
use Rattle.std.proofs.lemmas.List.Elements.{All-map}
use Rattle.shfl_line.specs.declared.choosers.Told.{Told}
use Rattle.round_log.specs.declared.log.Note.{Note}
use Rattle.round_log.specs.Logs.{begun, told_in, InRounds}
use Rattle.shfl_policy.specs.Policies.{PolicyModel}
use Rattle.call_pool.specs.declared.logged.Logged.{Logged}
use Rattle.call_pool.specs.Pools.{AreNumbered}
use Rattle.call_pool.specs.Rounds.{AreRoundsBy, HasAsked, HaveRounds, with_log}
use Rattle.call_pool.proofs.LogsKept.{rounds_begun}

module _ {Pass : Type 0} where
  abbrev pub pass_of : Logged Pass → Pass
  pass_of t = t.pass

  abbrev log_of : Logged Pass → Option (List Note)
  log_of t = t.log

  pub as_long : (keeps : Bool) (passes : List Pass) → length (map (with_log keeps) passes) ≡ length passes
  as_long keeps passes = length-map passes (with_log keeps)

  -- the taker at a place has the pass of this place, and a new log
  taker_at : (keeps : Bool) (passes : List Pass) (k : ℕ) (d : Logged Pass) → k < length passes → slice_index_or (map (with_log keeps) passes) k d ≡ with_log keeps (slice_index_or passes k d.pass)
  taker_at keeps passes k d within = get_or-map (with_log keeps) passes k d.pass d within

  -- before the first call
  module _ (keeps : Bool) (passes : List Pass) (lent : List (Logged Pass)) (is_lent : lent ≡ map (with_log keeps) passes) where
    pub all_ready : (P : Pass → Type 0) → All P passes → All (λ t. P t.pass) lent
    all_ready P all = subst (All (λ (t : Logged Pass). P t.pass)) (sym is_lent) (All-map (λ (t : Logged Pass). P t.pass) (with_log keeps) passes all)

    pub ready_numbered : (number : Pass → ℕ) → AreNumbered number passes → AreNumbered (λ t. number t.pass) lent
    ready_numbered number are = subst (AreNumbered (λ (t : Logged Pass). number t.pass)) (sym is_lent)
        (λ k d lt.
        let within : k < length passes = (let l = as_long keeps passes in omega (arith, l, lt)) in
        ap (λ (t : Logged Pass). number t.pass) (taker_at keeps passes k d within) ∙ are k d.pass within)

    pub ready_logs : (policy : PolicyModel) → All (λ t. AreRoundsBy policy t.log) lent
    ready_logs policy = subst (All (λ (t : Logged Pass). AreRoundsBy policy t.log)) (sym is_lent)
        (All-map (λ (t : Logged Pass). AreRoundsBy policy t.log) (with_log keeps) passes (λ k d lt. rounds_begun policy keeps))

    -- behind the last one
    pub have_rounds : (policy : PolicyModel) (asks : Pass → Pass → Option (List Told) → Option (List Told) → Type 0) (count : ℕ) (after : List (Logged Pass)) (logs : List (Option (List Note)))
        → length passes ≡ count → length after ≡ length lent → All (λ t. AreRoundsBy policy t.log) after
        → ((k : ℕ) (d : Logged Pass) → k < length lent → HasAsked asks (slice_index_or lent k d) (slice_index_or after k d))
        → logs ≡ map (λ t. t.log) after → HaveRounds count policy keeps logs
    have_rounds policy asks count after logs many long answered asked of_logs =
        let lent_long : length lent ≡ length passes = ap length is_lent ∙ as_long keeps passes in
        record {
          many = ap length of_logs ∙ length-map after log_of ∙ long ∙ lent_long ∙ many;
          answered = subst (All (AreRoundsBy policy)) (sym of_logs) (All-map (AreRoundsBy policy) log_of after answered);
          whole = subst (All (λ l. InRounds (told_in (begun keeps)) (told_in l))) (sym of_logs)
              (All-map (λ (l : Option (List Note)). InRounds (told_in (begun keeps)) (told_in l)) log_of after
              (λ k d lt.
              let there : k < length lent = omega (arith, long, lt) in
              subst (λ l. InRounds (told_in l) (told_in (slice_index_or after k d).log))
              (ap (λ (l : List (Logged Pass)). (slice_index_or l k d).log) is_lent ∙ ap log_of (taker_at keeps passes k d (omega (arith, there, lent_long))))
              (asked k d there).whole));
        }

    pub each_asked : (asks : Pass → Pass → Option (List Told) → Option (List Told) → Type 0) (after : List (Logged Pass)) (passes' : List Pass) (logs : List (Option (List Note)))
        → length after ≡ length lent → ((k : ℕ) (d : Logged Pass) → k < length lent → HasAsked asks (slice_index_or lent k d) (slice_index_or after k d))
        → passes' ≡ map (λ t. t.pass) after → logs ≡ map (λ t. t.log) after
        → (k : ℕ) (p : Pass) (log : Option (List Note)) → k < length passes
        → asks (slice_index_or passes k p) (slice_index_or passes' k p) (told_in (begun keeps)) (told_in (slice_index_or logs k log))
    each_asked asks after passes' logs long asked passes_are logs_are k p log within =
        let d : Logged Pass = record { pass = p; log = log } in
        let lent_long : length lent ≡ length passes = ap length is_lent ∙ as_long keeps passes in
        let behind : k < length after = omega (arith, long, within, lent_long) in
        let old = ap (λ (l : List (Logged Pass)). slice_index_or l k d) is_lent ∙ taker_at keeps passes k d within in
        let pass = ap (λ (l : List Pass). slice_index_or l k p) passes_are ∙ get_or-map pass_of after k d p behind in
        let told = ap (λ (l : List (Option (List Note))). slice_index_or l k log) logs_are ∙ get_or-map log_of after k d log behind in
        subst (λ (t : Logged Pass). asks t.pass (slice_index_or passes' k p) (told_in t.log) (told_in (slice_index_or logs k log))) old
        (subst (λ (q : Pass). asks (slice_index_or lent k d).pass q (told_in (slice_index_or lent k d).log) (told_in (slice_index_or logs k log))) (sym pass)
        (subst (λ (l : Option (List Note)). asks (slice_index_or lent k d).pass (slice_index_or after k d).pass (told_in (slice_index_or lent k d).log) (told_in l)) (sym told)
        (asked k d (omega (arith, within, lent_long))).asked))

  pub all_passes : (P : Pass → Type 0) (after : List (Logged Pass)) (passes : List Pass) → All (λ t. P t.pass) after → passes ≡ map (λ t. t.pass) after → All P passes
  all_passes P after passes all are = subst (All P) (sym are) (All-map P pass_of after all)

  pub numbered_passes : (number : Pass → ℕ) (after : List (Logged Pass)) (passes : List Pass) → AreNumbered (λ t. number t.pass) after → passes ≡ map (λ t. t.pass) after → AreNumbered number passes
  numbered_passes number after passes numbered are = subst (AreNumbered number) (sym are)
      (λ k d lt.
      let within : k < length after = (let l = length-map after pass_of in omega (arith, l, lt)) in
      let e : Logged Pass = record { pass = d; log = None } in
      ap number (get_or-map pass_of after k e d within) ∙ numbered k e within)

  pub as_many_passes : (after : List (Logged Pass)) (passes : List Pass) → passes ≡ map (λ t. t.pass) after → length passes ≡ length after
  as_many_passes after passes are = ap length are ∙ length-map after pass_of

  pub as_many_logs : (after : List (Logged Pass)) (logs : List (Option (List Note))) → logs ≡ map (λ t. t.log) after → length logs ≡ length after
  as_many_logs after logs are = ap length are ∙ length-map after log_of

-- The passes of a sharded directory behind their last call.
use Rattle.std.proofs.Common.{◌≡◌, ℕ, ◌≤◌, true, false, cond, eqb, List, [], ◌∷◌, map, length, All, refl, sym, ap, ◌∙◌, subst}
use Rattle.std.specs.List.{filter}
use Rattle.shard_rows.specs.Replay.{DirEntry}
use Rattle.dir_shards.specs.Commits.{calls_by}
use Rattle.dir_shards.specs.ShardPasses.{ShardPassModel, ShardedDirModel, IsPassOf}
use Rattle.dir_shards.specs.Closings.{HasSeen}
use Rattle.trace_text.specs.declared.trace.Trace.{Trace}
use Rattle.trace_text.specs.Report.{done_of}
use Rattle.trace_text.specs.Traces.{IsWithin}
use Rattle.trace_text.specs.Histories.{Made, made_of, made_in, of_worker}
use Rattle.shfl_workers.specs.Passes.{AtEachPlace, IsDone}
use Rattle.shfl_workers.specs.ShardDirs.{HasMade}
use Rattle.shfl_workers.proofs.Numbered.{of_all}
use Rattle.shfl_workers.proofs.Histories.{HasAll, has_all}

said_by : (k : ℕ) (es : List DirEntry) → of_worker k (map made_of (map done_of es)) ≡ map (λ e. e.call) (calls_by k es)
said_by k [] = refl
said_by k (e ∷ es) =
    let rest = said_by k es in let later = map made_of (map done_of es) in
    elim (eqb e.worker k) as (λ b. map (λ (m : Made). m.call) (cond b (made_of (done_of e) ∷ filter (λ (m : Made). eqb m.worker k) later) (filter (λ (m : Made). eqb m.worker k) later))
    ≡ map (λ (x : DirEntry). x.call) (cond b (e ∷ calls_by k es) (calls_by k es))) [
      | true ↦ ap (λ l. e.call ∷ l) rest
      | false ↦ rest
    ]

-- each worker's calls stand in the journal, each once
pub journal_has_all : (t : Trace) (within : IsWithin t) (dir : ShardedDirModel) (ps : List ShardPassModel) → length ps ≡ length t.workers.items → length dir.allowed ≡ length t.workers.items
    → AtEachPlace (IsDone (IsPassOf dir) (λ p. p.number) HasMade t.calls.items) ps → (journal : List DirEntry) → All (HasSeen journal) ps
    → ((k : ℕ) → length dir.allowed ≤ k → calls_by k journal ≡ []) → HasAll t within journal
journal_has_all t within dir ps many count done journal seen nobody_else = has_all t within journal ps many own nobody
  where
    own : AtEachPlace (λ k p. of_worker k (map made_of (map done_of journal)) ≡ of_worker k (made_in t.calls.items)) ps
    own k p at =
        let d = done k p at in
        said_by k journal ∙ subst (λ w. map (λ (e : DirEntry). e.call) (calls_by w journal) ≡ of_worker k (made_in t.calls.items)) d.number_is
        (ap (map (λ (e : DirEntry). e.call)) (of_all (HasSeen journal) ps seen k p at).own ∙ d.has_made)

    nobody : (k : ℕ) → length t.workers.items ≤ k → of_worker k (map made_of (map done_of journal)) ≡ []
    nobody k past = said_by k journal ∙ ap (map (λ (e : DirEntry). e.call)) (nobody_else k (subst (λ n. n ≤ k) (sym count) past))

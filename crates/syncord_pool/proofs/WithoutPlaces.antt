-- A history of numbered calls, without their places, is one of the directory.
use Rattle.std.proofs.Common.{◌≡◌, ℕ, List, [], ◌∷◌, map, refl, ◌∙◌}
use Rattle.dir_table.specs.Directory.{Directory}
use Rattle.dir_table.specs.Meanings.{reply_at, state_after}
use Rattle.dir_table.specs.Numbers.{call_numbers, reply_numbers, state_numbers}
use Rattle.hist_log.specs.History.{operations, IsLegal, state_left}
use Rattle.hist_log.specs.Numbers.{numbers, inner}
use Rattle.pool_text.specs.PoolReports.{PoolEntries}
use Rattle.trace_text.specs.declared.trace.Trace.{Trace}
use Rattle.trace_text.specs.Histories.{beginning, AreAnswered, after_all}
use Rattle.trace_text.proofs.Answered.{operation_of, answered, left}
use Rattle.syncord_pool.specs.Reports.{done_at}

module _ {O : Type 0} where
  still_legal : (start : List ℕ) (es : PoolEntries O)
      → IsLegal (λ state call. reply_at state (inner call)) (λ state call. state_after state (inner call)) start (operations (numbers call_numbers) reply_numbers es)
      → IsLegal reply_at state_after start (map operation_of (map done_at es))
  still_legal start [] legal = tt
  still_legal start (e ∷ es) legal = (legal.0, still_legal (state_after start (call_numbers e.call.call)) es legal.1)

  still_left : (start : List ℕ) (es : PoolEntries O)
      → state_left (λ state call. state_after state (inner call)) start (operations (numbers call_numbers) reply_numbers es)
      ≡ state_left state_after start (map operation_of (map done_at es))
  still_left start [] = refl
  still_left start (e ∷ es) = still_left (state_after start (call_numbers e.call.call)) es

  pub are_answered : (t : Trace) (es : PoolEntries O)
      → IsLegal (λ state call. reply_at state (inner call)) (λ state call. state_after state (inner call)) (state_numbers (beginning t))
      (operations (numbers call_numbers) reply_numbers es)
      → AreAnswered (beginning t) (map done_at es)
  are_answered t es legal = answered (beginning t) (map done_at es) (still_legal (state_numbers (beginning t)) es legal)

  pub leave_it : (t : Trace) (es : PoolEntries O) (final : Directory)
      → state_numbers final ≡ state_left (λ state call. state_after state (inner call)) (state_numbers (beginning t)) (operations (numbers call_numbers) reply_numbers es)
      → record final { spare = 0 } ≡ after_all (beginning t) (map done_at es)
  leave_it t es final same = left (beginning t) final (map done_at es) refl (same ∙ still_left (state_numbers (beginning t)) es)

-- What the run of a pool leaves behind.
use Rattle.std.specs.Prelude.{◌≡◌, ◌<◌, ℕ, Bool, List, [], Option, map, length, slice_index_or, true, All}
use Rattle.hist_log.specs.declared.entry.Entry.{Entry}
use Rattle.hist_log.specs.declared.numbered.NumberedCall.{NumberedCall}
use Rattle.hist_log.specs.Numbers.{numbers}
use Rattle.shfl_line.specs.declared.words.Attr.{Attr}
use Rattle.shfl_line.specs.declared.events.Form.TheVariants.{Park}
use Rattle.shfl_line.specs.Words.{attr_word}
use Rattle.shfl_table.specs.Histories.{HasSeen}
use Rattle.shfl_table.specs.Books.{actions}
use Rattle.shfl_table.specs.Waits.{AsksInRounds}
use Rattle.shfl_cell.specs.Cells.{number, no_attr, HasRunOf}
use Rattle.round_log.specs.declared.log.Note.{Note}
use Rattle.round_log.specs.Logs.{begun, told_in}
use Rattle.call_pool.specs.Pools.{PoolModel, PoolPassModel, IsPassOf, AreNumbered, calls_by}

-- A pool of these calls behind a lock of the parking form, whose batches have up to 1,024, and its passes behind their last call:
-- one for each of the attributes, in the order of their numbers. Each has found that no call is left. The calls of each pass's
-- entries are just those that it took; the history begins with what it saw last, and has no more of its entries. The lock ran from
-- its opening until it was closed, and its holds made the history.
pub record IsLeftBy {O C R : Type 0} (call_numbers : C → List ℕ) (reply_numbers : R → List ℕ) (admits : List ℕ → List ℕ → Type 0)
    (opening : List ℕ) (attrs : List Attr) (calls : List C) (entries : List (Entry O (NumberedCall C) R)) : Type 0 where
  pub pool : PoolModel C
  pub passes : List (PoolPassModel C)
  pub calls_are : pool.queue.calls ≡ calls
  pub opening_is : pool.cell.opening ≡ opening
  pub rules : pool.cell.id.rules ≡ record { limit = 1024; form = Park }
  pub attributes : pool.cell.id.attrs ≡ map attr_word attrs
  pub count : length passes ≡ length attrs
  pub own : All (IsPassOf call_numbers admits pool) passes
  pub numbered : AreNumbered (λ p. number p.cell) passes
  pub ended : All (λ p. p.taker.ended ≡ true) passes
  pub taken : All (λ p. calls_by (number p.cell) entries ≡ p.taker.taken) passes
  pub seen : All (λ p. HasSeen (actions (numbers call_numbers) reply_numbers entries) (number p.cell) p.cell.seen) passes
  pub run : HasRunOf pool.cell (map (λ p. p.cell) passes) (actions (numbers call_numbers) reply_numbers entries)

-- Such a pool with a log for each pass, in the same order: what a pass asked since the opening, by its own attributes, is just what its
-- log has.
pub record IsLeftWithLogs {O C R : Type 0} (call_numbers : C → List ℕ) (reply_numbers : R → List ℕ) (admits : List ℕ → List ℕ → Type 0)
    (opening : List ℕ) (attrs : List Attr) (calls : List C) (entries : List (Entry O (NumberedCall C) R)) (keeps : Bool) (logs : List (Option (List Note))) : Type 0 where
  pub left : IsLeftBy call_numbers reply_numbers admits opening attrs calls entries
  pub many : length logs ≡ length left.passes
  pub asked : (k : ℕ) (p : PoolPassModel C) (log : Option (List Note)) → k < length attrs
      → AsksInRounds (slice_index_or attrs k no_attr) [] (slice_index_or left.passes k p).cell.decisions (told_in (begun keeps)) (told_in (slice_index_or logs k log))

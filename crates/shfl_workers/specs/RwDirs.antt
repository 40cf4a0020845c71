-- The calls that a pass of a readers-writer cell made.
use Rattle.std.specs.Prelude.{◌≡◌, List, map, cond, false}
use Rattle.std.specs.List.{AllByRecursion}
use Rattle.dir_table.specs.declared.calls.DirCall.{DirCall}
use Rattle.dir_table.specs.declared.calls.DirReply.{DirReply}
use Rattle.dir_table.specs.Numbers.{call_numbers, call_from, reply_numbers}
use Rattle.dir_table.specs.Meanings.{is_read}
use Rattle.hist_log.specs.declared.entry.Entry.{Entry}
use Rattle.shfl_line.specs.declared.events.Mode.{Mode}
use Rattle.shfl_line.specs.declared.events.Mode.TheVariants.{Read, Write}
use Rattle.shfl_table.specs.Histories.{actions_by}
use Rattle.rw_cell.specs.RwCells.{RwPassModel, number}
use Rattle.rw_cell.specs.CallOrder.{calls_of}

-- the pass made these calls on the directory, in order: its reads and its writes; and no read is among its writes
abbrev pub HasMade : {O : Type 0} → RwPassModel (Entry O DirCall DirReply) → List DirCall → Type 0
HasMade p calls = (map (λ a. a.call) (calls_of call_numbers reply_numbers p) ≡ map call_numbers calls)
    × AllByRecursion (λ a. is_read (call_from a.call) ≡ false) (actions_by (number p) p.seen)

-- in which mode a call holds the lock
abbrev pub mode_of : DirCall → Mode
mode_of call = cond (is_read call) Read Write

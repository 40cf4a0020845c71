-- A summary that was handed over was written as `bulk` writes it.
use Rattle.std.proofs.Common.{ℕ, List}
use Rattle.syncord_endings.specs.declared.ending.Ending.{Ending}
use Rattle.syncord_endings.specs.declared.ending.Ending.TheVariants.{Done, NoReport, TooLarge, ReadFault, WriteFault}
use Rattle.syncord_endings.specs.Endings.{Delivers}
use Rattle.syncord_endings.specs.Traffic.{Traffic}
use Rattle.syncord_replay.specs.Sums.{Writes}

pub writes_delivered : (sums : List ℕ → Type 0) (output : Traffic) (text : List ℕ) (e : Ending) → sums text → Delivers text output e → Writes sums output e
writes_delivered sums output text Done made given = (text, made, given)
writes_delivered sums output text (NoReport refusal) made given = absurd given
writes_delivered sums output text TooLarge made given = absurd given
writes_delivered sums output text ReadFault made given = absurd given
writes_delivered sums output text (WriteFault written) made given = (text, made, given.0, given.1, given.2)

use Rattle.shfl_arena.proofs.Headlines.{arena-headline}
use Rattle.shfl_arena.proofs.laws.each_lock_in_plain_words.Goals as goal

pub returns : goal.returns
returns c = record { headline = arena-headline }

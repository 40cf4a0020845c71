-- A world as it is read: what each word says, and where each pass stands.
use Rattle.std.specs.Prelude.{ℕ, Bool}
use Rattle.shfl_line.specs.declared.words.NodeState.{NodeState}
use Rattle.shfl_line.specs.Words.{held_of, closed_of, readers_of, state_of}
use Rattle.shfl_core.specs.declared.phase.PassState.{PassState}
use Rattle.shfl_core.specs.declared.words.Word.TheVariants.{Lock, Tail as TailWord, Next as NextOf, State as StateOf, Attr as AttrOf, Bell as BellOf}
use Rattle.shfl_core.specs.Words.{look}
use Rattle.shfl_core.specs.Worlds.{World, known}

pub record View : Type 0 where
  pub held : Bool
  pub closed : Bool
  pub readers : ℕ
  pub tail : ℕ
  pub next : ℕ → ℕ
  pub node : ℕ → NodeState
  pub attr : ℕ → ℕ
  pub bell : ℕ → ℕ
  pub pass : ℕ → PassState

abbrev pub view : World → View
view w = record {
  held = held_of (look w.words Lock);
  closed = closed_of (look w.words Lock);
  readers = readers_of (look w.words Lock);
  tail = look w.words TailWord;
  next = λ q. look w.words (NextOf q);
  node = λ q. state_of (look w.words (StateOf q));
  attr = λ q. look w.words (AttrOf q);
  bell = λ q. look w.words (BellOf q);
  pass = known w.passes;
}

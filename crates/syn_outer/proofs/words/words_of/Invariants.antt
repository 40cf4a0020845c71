use Rattle.std.proofs.Common.{◌≤◌, ◌<◌, All, length, string_bytes}
use Rattle.syn_outer.proofs.words.words_of.Given as goal

-- fewer words than the place at hand, each short
abbrev pub invariant-loop-place : goal.invariant-loop-place
invariant-loop-place g l = record {
  fewer : length l.words.items < l.place;
  short : All (λ s. length (string_bytes s) ≤ 64) l.words.items;
}

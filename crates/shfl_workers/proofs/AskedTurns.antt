-- What the calls of a worker asked, one turn more.
use Rattle.std.proofs.Common.{◌≡◌, ℕ, ◌+◌, ◌<◌, take, get_or, List, [], ◌∷◌, ◌++◌, length, Option, sym, ap, ◌∙◌, subst}
use Rattle.std.proofs.lemmas.List.{take_more}
use Rattle.dir_table.specs.declared.calls.DirCall.{DirCall}
use Rattle.shfl_line.specs.declared.choosers.Told.{Told}
use Rattle.trace_text.specs.declared.trace.TraceCall.{TraceCall}
use Rattle.trace_text.specs.Histories.{made_in, of_worker}
use Rattle.round_log.proofs.WholeRounds.{asks_whole, in_rounds_more, in_rounds_none}
use Rattle.dir_shards.specs.ShardPasses.{AsksInTurn, ShardPassModel}
use Rattle.shfl_workers.specs.Asked.{AskInTurn}
use Rattle.round_log.specs.Logs.{InRounds}
use Rattle.shfl_workers.proofs.Turns.{made_more, made_one}

-- what a pass asked at one lock after another, it asked in whole rounds
pub in_turn_whole : (old new : ShardPassModel) (dirs : List ℕ) (a b : Option (List Told)) → AsksInTurn old new dirs a b → InRounds a b
in_turn_whole old new [] a b h = subst (InRounds a) (sym h) (in_rounds_none a)
in_turn_whole old new (dir ∷ dirs) a b h = in_rounds_more a h.0 b (asks_whole _ _ _ a h.0 h.1) (in_turn_whole old new dirs h.0 b h.2)

module _ {Pass : Type 0} (asks : Pass → DirCall → Pass → Option (List Told) → Option (List Told) → Type 0) where
  -- some calls, and then others
  ask-both : (xs ys : List DirCall) (p q r : Pass) (a b c : Option (List Told)) → AskInTurn asks xs p q a b → AskInTurn asks ys q r b c → AskInTurn asks (xs ++ ys) p r a c
  ask-both [] ys p q r a b c h k = subst (λ (z : Pass × Option (List Told)). AskInTurn asks ys z.0 r z.1 c) (λ j. (h.0 j, h.1 j)) k
  ask-both (x ∷ xs) ys p q r a b c h k = (h.0, h.1, h.2, ask-both xs ys h.0 q r h.1 b c h.3 k)

  -- the calls up to a place, and the one that stands there
  pub turned : (worker by : ℕ) → by ≡ worker → (calls : List TraceCall) (i : ℕ) (d : TraceCall) (p q r : Pass) (a b c : Option (List Told)) → i < length calls → AskInTurn asks (of_worker worker (made_in (take i calls))) p q a b
      → AskInTurn asks (made_one by (get_or calls i d)) q r b c → AskInTurn asks (of_worker worker (made_in (take (i + 1) calls))) p r a c
  turned worker by same calls i d p q r a b c within h k = subst (λ (l : List DirCall). AskInTurn asks l p r a c) (sym (made_more worker (take i calls) (get_or calls i d)) ∙ ap (λ l. of_worker worker (made_in l)) (sym (take_more calls i d within)))
      (ask-both (of_worker worker (made_in (take i calls))) (made_one worker (get_or calls i d)) p q r a b c h (subst (λ w. AskInTurn asks (made_one w (get_or calls i d)) q r b c) same k))

use Rattle.std.proofs.Common.{◌≡◌, List, [], ◌∷◌, ◌++◌, map, sym, ap, ◌∙◌, subst}
use Rattle.std.proofs.lemmas.List.{map-append}
use Rattle.dir_table.specs.Numbers.{state_numbers}
use Rattle.trace_text.specs.Report.{Done, done_of}
use Rattle.syncord_replay.specs.Serial.{Follows}
use Rattle.syncord_replay.proofs.OneMore.{follows_call}
use Rattle.command_tests.proofs.serial.take_call.Goals as goal

pub returns-in_ok-push-in-Dir-clause-follows : goal.returns-in_ok-push-in-Dir-clause-follows
returns-in_ok-push-in-Dir-clause-follows c = λ start before f.
    let grown : map done_of c.push.new.self.items ≡ map done_of c.args.history.now.items ++ _ ∷ [] = ap (map done_of) c.in_ok-push-in-Dir.ensures.items ∙ map-append done_of c.args.history.now.items _ in
    subst (λ (l : List Done). Follows start (before ++ c.args.call.now ∷ []) l (state_numbers c.apply-reply.new.self)) (sym grown)
    (follows_call start before (map done_of c.args.history.now.items) (state_numbers c.args.dir.now) (state_numbers c.apply-reply.new.self) c.args.call.now c.in-Dir.dir_call c.apply-reply.result f c.in-Dir.is c.apply-reply.ensures.reply c.apply-reply.ensures.state)

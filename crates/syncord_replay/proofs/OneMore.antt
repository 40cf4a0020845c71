-- One call more after a history.
use Rattle.std.proofs.Common.{◌≡◌, ℕ, List, [], ◌∷◌, ◌++◌, map, refl, sym, ap, ◌∙◌, subst}
use Rattle.std.proofs.lemmas.List.{map-append}
use Rattle.std.proofs.lemmas.Grind.{flat_map-append}
use Rattle.dir_table.specs.declared.calls.DirCall.{DirCall}
use Rattle.dir_table.specs.declared.calls.DirReply.{DirReply}
use Rattle.dir_table.specs.Numbers.{call_numbers, reply_numbers}
use Rattle.dir_table.specs.Meanings.{reply_at, state_after, Admits}
use Rattle.dir_table.specs.ObjectLaws.{admits_stays}
use Rattle.hist_log.specs.History.{Operation, IsLegal, state_left}
use Rattle.trace_text.specs.declared.trace.TraceAct.{TraceAct}
use Rattle.trace_text.specs.declared.trace.TraceAct.TheVariants as does
use Rattle.trace_text.specs.declared.trace.TraceCall.{TraceCall}
use Rattle.trace_text.specs.Report.{Done}
use Rattle.trace_text.specs.Histories.{Made, made_by, made_in, made_of}
use Rattle.trace_text.proofs.Answered.{operation_of}
use Rattle.syncord_replay.specs.Serial.{Follows}

legal_more : (state : List ℕ) (os : List Operation) (o : Operation) → IsLegal reply_at state_after state os
    → o.reply ≡ reply_at (state_left state_after state os) o.call → IsLegal reply_at state_after state (os ++ o ∷ [])
legal_more state [] o legal answered = (answered, tt)
legal_more state (p ∷ os) o legal answered = (legal.0, legal_more (state_after state p.call) os o legal.1 answered)

left_more : (state : List ℕ) (os : List Operation) (o : Operation)
    → state_left state_after state (os ++ o ∷ []) ≡ state_after (state_left state_after state os) o.call
left_more state [] o = refl
left_more state (p ∷ os) o = left_more (state_after state p.call) os o

pub follows_call : (start : List ℕ) (before : List TraceCall) (history : List Done) (now new : List ℕ) (c : TraceCall) (call : DirCall) (reply : DirReply)
    → Follows start before history now → c.act ≡ does.Dir call
    → reply_numbers reply ≡ reply_at now (call_numbers call) → new ≡ state_after now (call_numbers call)
    → Follows start (before ++ c ∷ []) (history ++ record { worker = c.worker; call = call; reply = reply } ∷ []) new
follows_call start before history now new c call reply f is answered state =
    let done : Done = record { worker = c.worker; call = call; reply = reply } in
    let o : Operation = operation_of done in
    let os : List Operation = map operation_of history in
    let operations : map operation_of (history ++ done ∷ []) ≡ os ++ o ∷ [] = map-append operation_of history (done ∷ []) in
    let line : made_of done ∷ [] ≡ made_in (c ∷ []) = ap (λ (a : TraceAct). made_by c.worker a ++ []) (sym is) in
    record {
      legal = subst (IsLegal reply_at state_after start) (sym operations)
          (legal_more start os o f.legal (answered ∙ ap (λ (s : List ℕ). reply_at s (call_numbers call)) f.left));
      left = state ∙ ap (λ (s : List ℕ). state_after s (call_numbers call)) f.left ∙ sym (left_more start os o)
          ∙ ap (state_left state_after start) (sym operations);
      made = map-append made_of history (done ∷ []) ∙ ap (λ (l : List Made). l ++ made_of done ∷ []) f.made
          ∙ ap (λ (l : List Made). made_in before ++ l) line
          ∙ sym (flat_map-append (λ (d : TraceCall). made_by d.worker d.act) before (c ∷ []));
      admits = λ k h. subst (λ (s : List ℕ). Admits s k) (sym state) ((admits_stays now (call_numbers call) k).0 (f.admits k h));
    }

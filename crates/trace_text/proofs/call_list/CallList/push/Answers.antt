use Rattle.std.proofs.Common.{◌≡◌, ◌+◌, true, false, cond, refl, ap}
use Rattle.trace_text.specs.declared.call_list.CallList.{CallList}
use Rattle.trace_text.proofs.Gathering.{OneMore, said_more, listed_more}
use Rattle.trace_text.proofs.call_list.CallList.push.Goals as goal

pub returns : goal.returns
returns c =
    let one : c.from.result ≡ cond c.is_attach.result 1 0 = elim c.is_attach.result as (λ b. c.is_attach.result ≡ b → c.from.result ≡ cond b 1 0) [ true ↦ λ e. rw e at c.from.ensures | false ↦ λ e. rw e at c.from.ensures ] refl in
    let new : CallList = record { names = c.numbered_act.new.names; calls = c.push.new.self; attaches = c.args.self.now.attaches + c.from.result } in
    let more : OneMore c.args.workers c.args.policies.now c.args.self.now new c.args.call.now c.in_ok-act.act c.is_attach.result = record {
      said = c.in_ok-act.ensures.said;
      named = c.in_ok-act.ensures.named;
      put = c.in_ok-act.ensures.put;
      pushed = c.in_ok-push.ensures.items;
      attach = c.is_attach.ensures;
      counted = ap (λ k. c.args.self.now.attaches + k) one;
    } in
    record {
      said = said_more c.args.workers c.args.policies.now c.args.self.now new c.args.call.now c.in_ok-act.act c.is_attach.result c.requires.declared.known more c.requires.list;
      list = listed_more c.args.workers c.args.policies.now c.args.self.now new c.args.call.now c.in_ok-act.act c.is_attach.result c.requires.declared.known more c.requires.list;
    }

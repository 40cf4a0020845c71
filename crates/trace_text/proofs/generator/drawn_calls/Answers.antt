use Rattle.std.proofs.Common.{◌≡◌, suc, ◌+◌, ◌-◌, ◌%◌, List, ◌++◌, [], ◌∷◌, length, sym, ap, ◌∙◌, subst, arith, append-nil, length-append}
use Rattle.std.proofs.lemmas.List.{length-map}
use Rattle.trace_text.specs.CallLists.{list_said}
use Rattle.trace_text.specs.Generator.{calls_from, call_drawn, act_drawn, number_of, attached, drawn, generated_policies}
use Rattle.trace_text.specs.Document.{CallLine, PolicyLine}
use Rattle.trace_text.specs.Spelled.{act_said, MayBe}
use Rattle.trace_text.specs.Traces.{policy_of}
use Rattle.trace_text.proofs.Gathering.{none-said, length-said}
use Rattle.trace_text.proofs.Generated.{calls_more, calls_all, listed_few, attached_few, drawn_call_may}
use Rattle.trace_text.proofs.generator.drawn_calls.Goals as goal

pub loop-call-init : goal.loop-call-init
loop-call-init c =
    let list = c.in_ok-list.list in
    record {
      state = omega arith;
      list = c.in_ok-list.ensures.list c.args.workers c.args.policies.now;
      told =
          let all : c.args.calls - 0 ≡ c.args.calls = omega arith in
          ap (λ (cs : List CallLine). cs ++ calls_from c.args.workers 0 (c.args.seed % 2147483648) (c.args.calls - 0)) (none-said c.args.policies.now list c.in_ok-list.ensures.empty)
          ∙ ap (λ k. calls_from c.args.workers 0 (c.args.seed % 2147483648) k) all;
    }

pub push_attachment-requires-clause-few : goal.push_attachment-requires-clause-few
push_attachment-requires-clause-few c =
    let left = calls_from c.args.workers c.loop-call.call c.loop-call.state (c.args.calls - c.loop-call.call) in
    omega (arith, listed_few c.args.policies.now c.loop-call.list left c.args.workers (c.args.seed % 2147483648) c.args.calls c.requires.few_calls c.loop-call.invariant.told)

pub push-requires-clause-few : goal.push-requires-clause-few
push-requires-clause-few c =
    let policies = c.args.policies.now in
    let i = c.loop-call.call in
    let left = calls_from c.args.workers i c.loop-call.state (c.args.calls - i) in
    let few = listed_few policies c.loop-call.list left c.args.workers (c.args.seed % 2147483648) c.args.calls c.requires.few_calls c.loop-call.invariant.told in
    let more = length-append (list_said policies c.loop-call.list) (attached i) in
    omega (arith, few, more, attached_few i, ap length c.in_ok-push_attachment.ensures.said, length-said policies c.loop-call.list, length-said policies c.push_attachment.new.list)

pub push-requires-clause-declared : goal.push-requires-clause-declared
push-requires-clause-declared c =
    let i = c.loop-call.call in
    let may = drawn_call_may c.args.workers i c.draw-first.result c.draw-second.result c.draw-third.result c.requires.some c.requires.few_workers in
    let same : MayBe c.args.workers generated_policies (record { worker = i % c.args.workers; act = act_said c.drawn_act-act.result }) =
    subst (λ a. MayBe c.args.workers generated_policies (record { worker = i % c.args.workers; act = a })) (sym c.drawn_act-act.ensures) may in
    subst (λ (ps : List PolicyLine). MayBe c.args.workers ps (record { worker = i % c.args.workers; act = act_said c.drawn_act-act.result })) (sym c.requires.policies) same

pub push-requires-clause-few_policies : goal.push-requires-clause-few_policies
push-requires-clause-few_policies c = omega (arith, ap length c.requires.policies, length-map c.args.policies.now policy_of)

pub loop-call-preserved : goal.loop-call-preserved
loop-call-preserved c = record {
  state = c.draw-third.ensures.within;
  list = c.in_ok-push.ensures.list;
  told =
      let more : c.args.calls - c.loop-call.call ≡ suc (c.args.calls - (c.loop-call.call + 1)) = omega arith in
      let i = c.loop-call.call in
      let x = c.loop-call.state in
      let workers = c.args.workers in
      let policies = c.args.policies.now in
      let first_is : c.draw-first.result ≡ drawn x = c.draw-first.ensures.next in
      let second_is : c.draw-second.result ≡ drawn (drawn x) = c.draw-second.ensures.next ∙ ap drawn first_is in
      let third_is : c.draw-third.result ≡ drawn (drawn (drawn x)) = c.draw-third.ensures.next ∙ ap drawn second_is in
      let act_is : act_said c.drawn_act-act.result ≡ act_drawn workers (i % workers) (number_of (drawn x)) (number_of (drawn (drawn x))) (number_of (drawn (drawn (drawn x)))) =
      c.drawn_act-act.ensures ∙ ap (λ f. act_drawn workers (i % workers) (number_of f) (number_of c.draw-second.result) (number_of c.draw-third.result)) first_is
      ∙ ap (λ s. act_drawn workers (i % workers) (number_of (drawn x)) (number_of s) (number_of c.draw-third.result)) second_is
      ∙ ap (λ t. act_drawn workers (i % workers) (number_of (drawn x)) (number_of (drawn (drawn x))) (number_of t)) third_is in
      let done = list_said policies c.loop-call.list in
      let last : CallLine = record { worker = i % workers; act = act_said c.drawn_act-act.result } in
      let added : list_said policies c.push.new.self ≡ (done ++ attached i) ++ call_drawn workers i (drawn x) (drawn (drawn x)) (drawn (drawn (drawn x))) ∷ [] =
      c.in_ok-push.ensures.said
      ∙ ap (λ xs. xs ++ last ∷ []) c.in_ok-push_attachment.ensures.said
      ∙ ap (λ a. (done ++ attached i) ++ record { worker = i % workers; act = a } ∷ []) act_is in
      ap (λ s. list_said policies c.push.new.self ++ calls_from workers (i + 1) s (c.args.calls - (i + 1))) third_is
      ∙ calls_more done (list_said policies c.push.new.self) workers i x (c.args.calls - i) (c.args.calls - (i + 1)) more added
      ∙ c.loop-call.invariant.told;
}

pub returns-clause-said : goal.returns-clause-said
returns-clause-said c =
    let none : c.args.calls - c.loop-call.call ≡ 0 = omega arith in
    let done = list_said c.args.policies.now c.loop-call.list in
    sym (calls_all done c.args.workers c.loop-call.call c.loop-call.state (c.args.calls - c.loop-call.call) none ∙ append-nil done)
    ∙ c.loop-call.invariant.told

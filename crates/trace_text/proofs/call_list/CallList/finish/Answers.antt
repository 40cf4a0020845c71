use Rattle.std.proofs.Common.{◌≡◌, ℕ, List, length, map, sym, ap, ◌∙◌, subst, arith}
use Rattle.std.specs.Prelude.{Contains}
use Rattle.std.specs.List.{AllByRecursion}
use Rattle.std.proofs.lemmas.List.{length-map}
use Rattle.trace_text.specs.CallLists.{list_said}
use Rattle.trace_text.specs.Document.{CallLine}
use Rattle.name_order.specs.Names.{SameMembers}
use Rattle.trace_text.specs.Spelled.{call_names}
use Rattle.trace_text.specs.Traces.{call_of, IsCallOf}
use Rattle.name_order.specs.Places.{ArePlaces}
use Rattle.trace_text.proofs.Gathering.{same_listed}
use Rattle.trace_text.proofs.call_list.CallList.finish.Goals as goal

pub returns-clause-numbered : goal.returns-clause-numbered
returns-clause-numbered c =
    let policies = c.args.policies.now in
    let of : List (List ℕ) = map (λ p. p.name.items) policies in
    let own = c.in_ok-ordered.ordered.names.items in
    let names : List (List ℕ) = map (λ n. n.items) own in
    let found : List (List ℕ) = map (λ n. n.now) c.as_slice.result.now in
    let are : found ≡ c.args.self.names = rw (c.as_slice.ensures.value) c.names-found.ensures in
    let places : ArePlaces found names c.as_slice-2.result.now = rw c.as_slice-2.ensures.value c.in_ok-ordered.ensures.places in
    let said : map (call_of names of) c.renumber.new.calls.items ≡ list_said policies c.args.self =
    c.renumber.ensures.said found names of places ∙ ap (λ l. map (call_of l of) c.args.self.calls.items) are in
    record {
      named = subst (λ (n : ℕ). AllByRecursion (IsCallOf c.args.workers n (length policies)) c.renumber.new.calls.items) (length-map own (λ n. n.items)) (c.renumber.ensures.named found names places);
      rising = c.in_ok-ordered.ensures.rising;
      same = subst (λ (cs : List CallLine). SameMembers (call_names cs) names) (sym said)
          (λ n. (
            (λ h. (c.in_ok-ordered.ensures.same n).0 (subst (λ l. Contains l n) (sym are) ((same_listed c.args.workers policies c.args.self c.requires.list n).0 h))),
            (λ h. (same_listed c.args.workers policies c.args.self c.requires.list n).1 (subst (λ l. Contains l n) are ((c.in_ok-ordered.ensures.same n).1 h))),
          ));
      few =
          let many : length c.renumber.new.calls.items ≡ length c.args.self.calls.items = sym (length-map c.renumber.new.calls.items (call_of names of)) ∙ ap length said ∙ length-map c.args.self.calls.items (call_of c.args.self.names of) in
          let long : length c.as_slice.result.now ≡ length c.args.self.names = sym (length-map c.as_slice.result.now (λ n. n.now)) ∙ ap length are in
          omega (arith, many, long, c.in_ok-ordered.ensures.few, c.requires.list.few);
    }

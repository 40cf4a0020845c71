use Rattle.std.proofs.Common.{◌≡◌, inl, inr, ℕ, List, [], get_or, sym, ◌∙◌, arith, Bor}
use Rattle.std.proofs.lemmas.Bool.{cases_lt}
use Rattle.std.proofs.lemmas.List.{get_or_default}
use Rattle.name_order.proofs.Fronts.{shorter_starts, same_starts, found_starts}
use Rattle.name_order.proofs.ordered.front_of.Goals as goal
use Rattle.name_order.proofs.ordered.front_of.Goals.{then-not-starts_with, else-not-starts_with}

pub loop-name-preserved : goal.loop-name-preserved
loop-name-preserved c k d low high =
    let names = c.args.names.now in
    let i = c.loop-name.name-index in
    let front = c.loop-name.front.now in
    let none : Bor (List ℕ) = record { ref_ptr = (0, 0); now = [] } in
    let here : get_or names i d ≡ get_or names i none = get_or_default names i d none (omega arith) in
    let own = (get_or names i none).now in
    elim c.if-not-starts_with.branch [
      | then-not-starts_with w ↦ rw w.front-is (elim (cases_lt k i) [
        | inl less ↦ shorter_starts (get_or names k d).now front w.same_bytes.result (c.loop-name.invariant k d low less)
        | inr most ↦ (let at : k ≡ i = omega (arith, high, most) in
            rw (at, here) (same_starts own front w.same_bytes.result w.same_bytes.ensures.within w.same_bytes.ensures.same))
      ])
      | else-not-starts_with w ↦ rw w.front-is (elim (cases_lt k i) [
        | inl less ↦ c.loop-name.invariant k d low less
        | inr most ↦ (let at : k ≡ i = omega (arith, high, most) in
            rw (at, here) (found_starts own front (sym c.starts_with.ensures.value ∙ w.if-not-starts_with.false)))
      ])
    ]

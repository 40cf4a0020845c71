-- The batch and the shuffler that the plain words give are those of the invariant.
use Rattle.std.proofs.Common.{◌≡◌, ℕ, zero, suc, ◌<◌, ◌≤◌, Bool, true, false, cond, refl, sym, ap, ◌∙◌, inl, arith}
use Rattle.std.proofs.lemmas.Bool.Decides.{nat_tests}
use Rattle.shfl_line.specs.declared.events.Role.{Role}
use Rattle.shfl_line.specs.declared.events.Role.TheVariants.{Nobody, Walk, Rest}
use Rattle.shfl_line.specs.Line.{Line, mark_of, active_shuffler, idle_shuffler, IsWellFormed}
use Rattle.shfl_line.specs.Words.{link_word}
use Rattle.shfl_line.specs.Passes.{times}
use Rattle.shfl_line.proofs.Batches.{last-cong, is-last-marked}
use Rattle.shfl_core.specs.declared.phase.PassState.{PassState}
use Rattle.shfl_core.specs.Phases.{is_queued}
use Rattle.shfl_core.specs.Worlds.{World, known}
use Rattle.shfl_core.specs.View.{View, view}
use Rattle.shfl_core.specs.Grouping.{Grouping}
use Rattle.shfl_core.specs.Lawful.{Terms, count}
use Rattle.shfl_laws.specs.Headline.{IsQueued, Shuffles, HasFlag, batch}
use Rattle.shfl_laws.specs.Shows.{ShowsPlainly}
use Rattle.shfl_laws.specs.PlainFacts.{PlainFacts}

pub is-walk : (r : Role) (p : ℕ) → active_shuffler r ≡ suc p → r ≡ Walk p
is-walk Nobody p e = absurd (omega arith)
is-walk (Walk q) p e = ap Walk (omega arith)
is-walk (Rest q) p e = absurd (omega arith)

pub is-rest : (r : Role) (p : ℕ) → idle_shuffler r ≡ suc p → r ≡ Rest p
is-rest Nobody p e = absurd (omega arith)
is-rest (Walk q) p e = absurd (omega arith)
is-rest (Rest q) p e = ap Rest (omega arith)

module _ (t : Terms) (w : World) (s : Line) (sh : ShowsPlainly (count t) w s) (good : IsWellFormed t.rules.limit s) (fa : PlainFacts t w s) where
  abbrev pass : ℕ → PassState
  pass q = known w.passes q

  abbrev v : View
  v = view w

  stands-one : (q : ℕ) → times q s.line ≤ 1
  stands-one q = let a = good.waits_once q in omega arith

  mark : (q : ℕ) → mark_of s q ≡ cond (is_queued (pass q)) (v.node q).batch 0
  mark q = by (is_queued (pass q)) refl
    where
      by : (b : Bool) → is_queued (pass q) ≡ b → mark_of s q ≡ cond (is_queued (pass q)) (v.node q).batch 0
      by true e = sh.mark q e ∙ sym (ap (λ b. cond b (v.node q).batch 0) e)
      by false e = sh.unmarked q (λ h. (let a : is_queued (pass q) ≡ true = h in cc)) ∙ sym (ap (λ b. cond b (v.node q).batch 0) e)

  -- the detached waiter has no batch number
  hand : (q : ℕ) → link_word s.hand ≡ suc q → mark_of s q ≡ 0
  hand q e = by (mark_of s q) refl
    where
      by : (k : ℕ) → mark_of s q ≡ k → mark_of s q ≡ 0
      by zero h = h
      by (suc k) h = absurd (let a = good.in_line q (omega arith) in let b = good.waits_once q in grind (arith, nat_tests, a, b, e))

  active : (q : ℕ) → active_shuffler s.role ≡ suc q → Shuffles w q
  active q e = (sh.active q).0 (is-walk s.role q e)

  idler : (q : ℕ) → idle_shuffler s.role ≡ suc q → HasFlag w q
  idler q e = (sh.idle q).0 (is-rest s.role q e)

  pub in-queue : (q : ℕ) → 0 < times q s.line → IsQueued w q
  in-queue q h = (sh.queued q).1 (inl h)

  marks : (q : ℕ) → 0 < times q s.line → batch w q ≡ mark_of s q
  marks q h = sym (sh.mark q (in-queue q h))

  pub grouping-plain : Grouping t.rules.limit v s
  grouping-plain = record {
    mark = mark;
    hand = hand;
    within = good.within;
    walks = λ q e. ap active_shuffler ((sh.active q).1 e);
    walker = λ q e. (active q e, (good.active q e).0);
    flagged = λ q i e. ap idle_shuffler ((sh.idle q).1 (record { queued = i; flag = e }));
    rester = λ q e. (let h = idler q e in (h.queued, h.flag));
    prefix = good.prefix;
    rests = λ q e. is-last-marked (mark_of s) q s.line stands-one (good.idle q e);
    last = λ q e. (let r = fa.facts.round q e in let l = is-last-marked (mark_of s) (pass q).reg.last s.line stands-one (sym (last-cong (batch w) (mark_of s) s.line marks) ∙ r.last) in
        (l, sym (marks (pass q).reg.last l.inside) ∙ r.count, r.room));
    known = λ q e. (let k = fa.itself q e in (k.batch, k.flag));
    begins = λ q e f. (let b = fa.begins q e f in (b.headed, b.batch));
  }

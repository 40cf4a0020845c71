-- A walk along the queue, from the head by successors, shows the line and its batch numbers.
use Rattle.std.proofs.Common.{◌≡◌, ◌≢◌, ℕ, zero, suc, ◌+◌, ◌-◌, ◌<◌, ◌≤◌, ◌⊎◌, List, [], ◌∷◌, ◌++◌, length, refl, sym, ap, ◌∙◌, ⊎_elim, subst, arith, get_or-set_other, get_or-set_same}
use Rattle.std.specs.Prelude.{replicate, slice_index, slice_set}
use Rattle.std.proofs.Math.ListN.{length-set}
use Rattle.std.proofs.lemmas.Bool.Decides.{nat_tests}
use Rattle.std.proofs.lemmas.List.{append_assoc, append-nil, get_or-replicate, get_or_past, length-replicate}
use Rattle.shfl_line.specs.declared.events.Mode.{Mode}
use Rattle.shfl_line.specs.Line.{Line, empty}
use Rattle.shfl_line.specs.Words.{link_word, batch_of}
use Rattle.shfl_line.specs.Passes.{times}
use Rattle.shfl_line.specs.Steps.{IsAway}
use Rattle.shfl_line.proofs.Chain
use Rattle.shfl_core.specs.declared.words.Word.TheVariants.{State}
use Rattle.shfl_core.specs.Words.{look}
use Rattle.shfl_core.specs.Worlds.{World}
use Rattle.shfl_core.specs.ShownLine.{walk, head_of, successor_of, shown_line}
use Rattle.shfl_core.specs.Runner.{Lock}
use Rattle.shfl_core.proofs.Lists.{below-or}
use Rattle.shfl_laws.proofs.shown.ShownOne.{numbers-one}
use Rattle.shfl_world.specs.LawfulLock.{IsLawfulLock}
use Rattle.shfl_world.proofs.Facts.{of-passes, marked, unmarked}

times-append : (q : ℕ) (xs ys : List ℕ) → times q (xs ++ ys) ≡ times q xs + times q ys
times-append q [] ys = omega arith
times-append q (x ∷ xs) ys = let ih = times-append q xs ys in omega arith

zeros : (n q : ℕ) → slice_index (replicate n 0) q ≡ 0
zeros n q = ⊎_elim (λ h. get_or-replicate n q 0 0 h) (λ h. get_or_past (replicate n 0) q 0 (subst (λ k. k ≤ q) (sym (length-replicate n 0)) h)) (below-or q n)

module _ (lock : Lock) (hold : List (ℕ × Mode)) where
  abbrev w : World
  w = lock.world

  abbrev n : ℕ
  n = length lock.world.passes

  abbrev s : Line
  s = shown_line lock.world

  abbrev batch : ℕ → ℕ
  batch q = batch_of (look lock.world.words (State q))

  -- the queue was walked so far, and goes on from this link by at most so many passes
  pub record Walked (left link : ℕ) (out : Line) : Type 0 where
    pub rest : out ≡ record (empty n) { hold = hold; line = out.line; mark = out.mark }
    pub line : out.line ++ walk w left link ≡ s.line
    pub long : length out.mark ≡ n
    pub marked : (q : ℕ) → 0 < times q out.line → slice_index out.mark q ≡ batch q
    pub unmarked : (q : ℕ) → times q out.line ≡ 0 → slice_index out.mark q ≡ 0

  pub walked-start : (out : Line) → out ≡ record (empty n) { hold = hold } → Walked n (head_of w) out
  walked-start out e = subst (λ (o : Line). Walked n (head_of w) o) (sym e) (record {
    rest = refl;
    line = refl;
    long = length-replicate n 0;
    marked = λ q m. absurd (omega arith);
    unmarked = λ q m. zeros n q;
  })

  module _ (ok : IsLawfulLock lock) where
    -- whom the walk comes to is a pass that wasn't shown yet
    module _ (left link : ℕ) (out : Line) (now : Walked left link out) (more : 0 < left) (some : link ≢ 0) where
      abbrev p : ℕ
      p = link - 1

      abbrev rest : List ℕ
      rest = walk w (left - 1) (successor_of w p)

      comes : out.line ++ p ∷ rest ≡ s.line
      comes = let a : left ≡ suc (left - 1) = omega arith in let b : link ≡ suc p = omega arith in sym (λ j. out.line ++ walk w (a j) (b j)) ∙ now.line

      inside : (times p out.line ≡ 0) × (p < n)
      inside = let a = times-append p out.line (p ∷ rest) in let b = Chain.here p rest in let c : times p (out.line ++ p ∷ rest) ≡ times p s.line = ap (times p) comes in
          let d = (of-passes lock ok).once p in let m : 0 < times p s.line = omega arith in ((omega arith), (of-passes lock ok).line p m)

      pub there : link - 1 < length lock.world.passes
      there = inside.1

      pub named : link - 1 < length out.mark
      named = let a = inside.1 in let b = now.long in omega arith

      pub away : IsAway out (link - 1)
      away = (inside.0, λ e. (let h : link_word out.hand ≡ 0 = ap (λ (o : Line). link_word o.hand) now.rest in omega arith))

      pub walked-on : (next number : ℕ) (new : Line) → number ≡ batch_of (look lock.world.words (State (link - 1))) → next ≡ successor_of lock.world (link - 1)
          → new ≡ record out { line = out.line ++ (link - 1) ∷ []; mark = slice_set out.mark (link - 1) number } → Walked (left - 1) next new
      walked-on next number new b l e = subst (λ (o : Line). Walked (left - 1) next o) (sym e) (record {
        rest = λ j. record (now.rest j) { line = out.line ++ p ∷ []; mark = slice_set out.mark p number };
        line = append_assoc out.line (p ∷ []) (walk w (left - 1) next) ∙ (ap (λ z. out.line ++ p ∷ walk w (left - 1) z) l ∙ comes);
        long = length-set out.mark p number ∙ now.long;
        marked = λ q m. Chain.by_eq q p
            (λ i. subst (λ z. slice_index (slice_set out.mark p number) z ≡ batch z) (sym i) (get_or-set_same out.mark p number 0 named ∙ b))
            (λ i. get_or-set_other out.mark p q number 0 i ∙ now.marked q (let t = Chain.times-push q p out.line in grind (arith, nat_tests, t, m, i)));
        unmarked = λ q m. let t = Chain.times-push q p out.line in
            get_or-set_other out.mark p q number 0 (λ i. (grind (arith, nat_tests, t, m, i))) ∙ now.unmarked q (omega arith);
      })

    walk-done : (left link : ℕ) → (left ≡ 0) ⊎ (link ≡ 0) → walk w left link ≡ []
    walk-done left link h = ⊎_elim (λ e. ap (λ z. walk w z link) e) (λ e. ap (walk w left) e ∙ none left) h
      where
        none : (m : ℕ) → walk w m 0 ≡ []
        none zero = refl
        none (suc m) = refl

    pub walked-all : (left link : ℕ) (out : Line) → Walked left link out → (left ≡ 0) ⊎ (link ≡ 0) → out ≡ record (empty n) { hold = hold; line = s.line; mark = s.mark }
    walked-all left link out k h = k.rest ∙ (λ j. record (empty n) { hold = hold; line = lines j; mark = marks j })
      where
        lines : out.line ≡ s.line
        lines = sym (ap (λ l. out.line ++ l) (walk-done left link h) ∙ append-nil out.line) ∙ k.line

        read : (q : ℕ) → slice_index out.mark q ≡ slice_index s.mark q
        read q = Chain.by_eq (times q out.line) 0
            (λ e. k.unmarked q e ∙ sym (unmarked lock ok q (sym (ap (times q) lines) ∙ e)))
            (λ e. k.marked q (omega arith) ∙ sym (marked lock ok q (let i : times q out.line ≡ times q s.line = ap (times q) lines in omega arith)))

        marks : out.mark ≡ s.mark
        marks = numbers-one out.mark s.mark (k.long ∙ sym (of-passes lock ok).marks) read

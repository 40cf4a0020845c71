-- Who is about to enable stealing, as passes change; and what each operation on the lock word leaves of stealing that is disabled.
use Rattle.std.proofs.Common.{◌≡◌, ◌≢◌, ℕ, zero, suc, ◌+◌, ◌-◌, ◌%◌, ◌/◌, ◌^◌, ◌<◌, ◌≤◌, List, Bool, true, false, cond, ◌==◌, length, set, get_or-set_same, get_or-set_other, refl, sym, ap, ◌∙◌, subst, arith}
use Rattle.std.specs.Prelude.{◌||◌, sum_by}
use Rattle.std.proofs.lemmas.List.Sums.{sum_by-set}
use Rattle.std.proofs.lemmas.Bool.Decides.{nat_tests}
use Rattle.shfl_line.specs.Words.{held_of, closed_of}
use Rattle.shfl_line.proofs.Chain
use Rattle.shfl_core.specs.declared.phase.Phase.{Phase}
use Rattle.shfl_core.specs.declared.phase.Phase.TheVariants as phase
use Rattle.shfl_core.specs.declared.phase.Registers.{Registers as Regs}
use Rattle.shfl_core.specs.declared.phase.PassState.{PassState}
use Rattle.shfl_core.specs.declared.phase.Rules.{Rules}
use Rattle.shfl_core.specs.Take.{take_at}
use Rattle.shfl_core.specs.Waiting.{idle}
use Rattle.shfl_core.specs.Worlds.{known}
use Rattle.shfl_bound.specs.Departures.{is_through}
use Rattle.shfl_bound.specs.Stealing.{is_enabling_at}
use Rattle.shfl_bound.proofs.Leading.{one-of}
use Rattle.shfl_bound.proofs.Inside.{stays-in}

-- a pass counts where it is about to enable stealing
abbrev pub one : PassState → ℕ
one q = cond (is_enabling_at q.phase) 1 0

-- whoever comes to v is about to enable stealing at most where it was
abbrev pub NoneAnew : PassState → PassState → Type 0
NoneAnew old v = is_enabling_at v.phase ≡ true → is_enabling_at old.phase ≡ true

one-less : (q v : PassState) → NoneAnew q v → one v ≤ one q
one-less q v h = by (is_enabling_at v.phase) refl
  where
    by : (b : Bool) → is_enabling_at v.phase ≡ b → cond b 1 0 ≤ one q
    by true e = let a : 1 ≡ one q = sym (ap (λ b. cond b 1 0) (h e)) in omega arith
    by false e = omega arith

module _ (l : List PassState) (r : ℕ) (v : PassState) (below : r < length l) where
  pub fewer : NoneAnew (known l r) v → sum_by one (set l r v) ≤ sum_by one l
  fewer h = let a = sum_by-set one l r v (idle r) below in let b = one-less (known l r) v h in omega arith

  -- one that was about to isn't any more
  pub spent : is_enabling_at (known l r).phase ≡ true → is_enabling_at v.phase ≡ false → sum_by one (set l r v) + 1 ≤ sum_by one l
  spent h i = let a = sum_by-set one l r v (idle r) below in let b : one (known l r) ≡ 1 = ap (λ b. cond b 1 0) h in let c : one v ≡ 0 = ap (λ b. cond b 1 0) i in omega arith

  pub others : NoneAnew (known l r) v → (p : ℕ) → NoneAnew (known l p) (known (set l r v) p)
  others h p = Chain.by_eq p r
      (λ i. subst (λ z. NoneAnew (known l z) (known (set l r v) z)) (sym i)
      (λ e. h (sym (ap (λ (q : PassState). is_enabling_at q.phase) (get_or-set_same l r v (idle r) below)) ∙ e)))
      (λ n e. sym (ap (λ (q : PassState). is_enabling_at q.phase) (get_or-set_other l r p v (idle p) n)) ∙ e)

-- counting a reader in or out, and holding, leave it
pub counted-in : (n : ℕ) → closed_of n ≡ true → closed_of ((n + 4294967296) % 2 ^ 64) ≡ true
counted-in n h = let d : n / 256 % 2 ≡ 1 = grind (arith, nat_tests, h) in let e : (n + 4294967296) % 2 ^ 64 / 256 % 2 ≡ 1 = omega arith in ap (λ z. z == 1) e

pub counted-out : (n : ℕ) → closed_of n ≡ true → closed_of ((n + (2 ^ 64 - 4294967296)) % 2 ^ 64) ≡ true
counted-out n h = let d : n / 256 % 2 ≡ 1 = grind (arith, nat_tests, h) in let e : (n + (2 ^ 64 - 4294967296)) % 2 ^ 64 / 256 % 2 ≡ 1 = omega arith in ap (λ z. z == 1) e

pub held-too : (n : ℕ) → held_of n ≡ false → closed_of n ≡ true → closed_of ((n + 1) % 2 ^ 64) ≡ true
held-too n f h = let c : n % 2 ≢ 1 = grind (arith, nat_tests, f) in let d : n / 256 % 2 ≡ 1 = grind (arith, nat_tests, h) in let e : (n + 1) % 2 ^ 64 / 256 % 2 ≡ 1 = omega arith in ap (λ z. z == 1) e

-- only who leaves last comes to where it enables stealing
pub none-anew : (t : Rules) (p : ℕ) (r : Regs) (n : ℕ) (c : Bool) (f : Phase) → f ≢ phase.Cut → is_enabling_at (take_at t p r n c f).phase ≡ false
none-anew t p r n c phase.Steal d = one-of is_enabling_at (n == 0) phase.Held phase.Init refl refl
none-anew t p r n c phase.Count d = one-of is_enabling_at (held_of n || closed_of n) phase.Uncount phase.Held refl refl
none-anew t p r zero c phase.Take d = refl
none-anew t p r (suc n) c phase.Take d = refl
none-anew t p r n c phase.Cut d = absurd (d refl)
none-anew t p r zero c phase.Late d = refl
none-anew t p r (suc n) c phase.Late d = refl
none-anew t p r n c phase.Ready d = refl
none-anew t p r n c phase.Open d = refl
none-anew t p r n c phase.Held d = refl
none-anew t p r n c f d = not-open (take_at t p r n c f).phase (stays-in t p r n c f refl)
  where
    not-open : (g : Phase) → is_through g ≡ false → is_enabling_at g ≡ false
    not-open phase.Open e = absurd (cc)
    not-open g e = refl

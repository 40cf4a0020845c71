-- Passes that are counted by their values, each value once, are all counted.
use Rattle.std.proofs.Common.{◌≡◌, ◌≢◌, ◌⊎◌, inl, inr, ℕ, zero, suc, ◌+◌, ◌-◌, ◌<◌, ◌==◌, List, [], ◌∷◌, map, cond, refl, ap, ◌∙◌, arith}
use Rattle.std.proofs.lemmas.Bool.{cond-true, cond-false, eq-eqb, ne_eqb}
use Rattle.std.proofs.lemmas.Bool.Decides.{nat_tests}
use Rattle.shfl_line.specs.declared.words.Attr.{Attr}
use Rattle.sim_setup.specs.Clock.{plus, later}
use Rattle.sim_setup.specs.Cores.{attr_at}
use Rattle.sim_model.specs.declared.counts.Served.{Served}
use Rattle.sim_model.specs.Calls.{served_at}
use Rattle.sim_report.specs.declared.tallies.Key.{Key}
use Rattle.sim_report.specs.declared.tallies.Key.TheVariants.{All}
use Rattle.sim_report.specs.declared.tallies.Tally.{Tally}
use Rattle.sim_report.specs.Sums.{merged, total}
use Rattle.sim_report.specs.Tallies.{value_of, nobody, longest_wait, joined, tally_below}

-- ---- sums in another order

plus-left : (a s b : ℕ) → plus (plus a s) b ≡ plus (plus a b) s
unfolding plus
plus-left a s b = omega arith

plus-right : (a b s : ℕ) → plus a (plus b s) ≡ plus (plus a b) s
unfolding plus
plus-right a b s = omega arith

later-is : (a b : ℕ) → later a b ≡ (a - b) + b
unfolding later
later-is a b = grind (arith, nat_tests)

later-left : (a s b : ℕ) → later (later a s) b ≡ later (later a b) s
later-left a s b = let p = later-is a s in let q = later-is a b in let r = later-is (later a s) b in let t = later-is (later a b) s in omega arith

later-right : (a b s : ℕ) → later a (later b s) ≡ later (later a b) s
later-right a b s = let p = later-is b s in let q = later-is a b in let r = later-is a (later b s) in let t = later-is (later a b) s in omega arith

-- one pass more in one of two groups

join-left : (until : ℕ) (t u : Tally) (s : Served) → merged (joined until t s) u ≡ joined until (merged t u) s
unfolding joined
join-left until t u s =
    let w = longest_wait until s in
    rw (
      plus-left t.gained s.gained u.gained,
      plus-left t.reads s.reads u.reads,
      plus-left t.stolen s.stolen u.stolen,
      plus-left t.waited s.waited u.waited,
      later-left t.longest w u.longest,
      later-left t.overtaken s.overtaken u.overtaken,
    ) refl

join-right : (until : ℕ) (t u : Tally) (s : Served) → merged t (joined until u s) ≡ joined until (merged t u) s
unfolding joined
join-right until t u s =
    let w = longest_wait until s in
    rw (
      plus-right t.gained u.gained s.gained,
      plus-right t.reads u.reads s.reads,
      plus-right t.stolen u.stolen s.stolen,
      plus-right t.waited u.waited s.waited,
      later-right t.longest u.longest w,
      later-right t.overtaken u.overtaken s.overtaken,
    ) refl

-- ---- a value that stands once among others

abbrev pub Absent : ℕ → List ℕ → Type 0
Absent x [] = Unit {0}
Absent x (v ∷ vs) = (x ≢ v) × Absent x vs

abbrev pub Once : ℕ → List ℕ → Type 0
Once x [] = ⊥
Once x (v ∷ vs) = ((x ≡ v) × Absent x vs) ⊎ ((x ≢ v) × Once x vs)

module _ (until : ℕ) (f : ℕ → Tally) (s : Served) (x : ℕ) where
  abbrev more : ℕ → Tally
  more v = cond (x == v) (joined until (f v) s) (f v)

  more-own : (v : ℕ) → x ≡ v → more v ≡ joined until (f v) s
  more-own v e = cond-true (x == v) (joined until (f v) s) (f v) (eq-eqb x v e)

  more-other : (v : ℕ) → x ≢ v → more v ≡ f v
  more-other v ne = cond-false (x == v) (joined until (f v) s) (f v) (ne_eqb x v ne)

  absent-total : (vs : List ℕ) → Absent x vs → total (map more vs) ≡ total (map f vs)
  absent-total [] h = refl
  absent-total (v ∷ vs) h = rw (more-other v h.0, absent-total vs h.1) refl

  once-total : (vs : List ℕ) → Once x vs → total (map more vs) ≡ joined until (total (map f vs)) s
  once-total [] h = absurd h
  once-total (v ∷ vs) (inl h) =
      ap (λ (t : Tally). merged t (total (map more vs))) (more-own v h.0)
      ∙ ap (λ (t : Tally). merged (joined until (f v) s) t) (absent-total vs h.1)
      ∙ join-left until (f v) (total (map f vs)) s
  once-total (v ∷ vs) (inr h) =
      ap (λ (t : Tally). merged t (total (map more vs))) (more-other v h.0)
      ∙ ap (λ (t : Tally). merged (f v) t) (once-total vs h.1)
      ∙ join-right until (f v) (total (map f vs)) s

none-total : (vs : List ℕ) → total (map (λ v. nobody) vs) ≡ nobody
unfolding plus later
none-total [] = refl
none-total (v ∷ vs) = ap (λ (t : Tally). merged nobody t) (none-total vs)

-- where each of the passes below n has a value that stands once, all of them are counted
pub each-counted : (key : Key) (until : ℕ) (attrs : List Attr) (served : List Served) (vs : List ℕ) (n : ℕ)
    → ((k : ℕ) → k < n → Once (value_of key (attr_at attrs k)) vs)
    → total (map (λ v. tally_below key v until attrs served n) vs) ≡ tally_below All 0 until attrs served n
each-counted key until attrs served vs zero each = none-total vs
each-counted key until attrs served vs (suc n) each =
    once-total until (λ v. tally_below key v until attrs served n) (served_at served n) (value_of key (attr_at attrs n)) vs (each n (omega arith))
    ∙ ap (λ (t : Tally). joined until t (served_at served n)) (each-counted key until attrs served vs n (λ k lt. each k (omega arith)))

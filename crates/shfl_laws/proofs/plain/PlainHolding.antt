-- Who holds the lock in plain words, and as the invariant has it.
use Rattle.std.proofs.Common.{◌≡◌, ℕ, zero, suc, ◌+◌, ◌<◌, ◌≤◌, ◌⊎◌, List, [], ◌∷◌, Bool, true, false, cond, ◌==◌, ◌&&◌, not, refl, sym, ◌∙◌, subst, ⊎_elim, inl, inr, arith}
use Rattle.std.specs.Prelude.{Contains}
use Rattle.std.proofs.lemmas.Bool.Decides.{nat_tests}
use Rattle.shfl_line.specs.declared.events.Mode.{Mode}
use Rattle.shfl_line.specs.declared.events.Mode.TheVariants.{Write, Read}
use Rattle.shfl_line.specs.Line.{Line, is_write, writer_count, reader_count, IsWellFormed}
use Rattle.shfl_line.specs.Words.{held_of, readers_of}
use Rattle.shfl_line.proofs.Chain
use Rattle.shfl_core.specs.declared.phase.PassState.{PassState}
use Rattle.shfl_core.specs.declared.words.Word.TheVariants.{Lock}
use Rattle.shfl_core.specs.Words.{look}
use Rattle.shfl_core.specs.Phases.{is_holding}
use Rattle.shfl_core.specs.Worlds.{World, known}
use Rattle.shfl_core.specs.Holding.{write_of, read_of, Holding}
use Rattle.shfl_core.specs.Lawful.{Terms, Lawful}
use Rattle.shfl_laws.specs.Headline.{HoldsAs}
use Rattle.shfl_laws.specs.Shows.{ShowsPlainly}
use Rattle.shfl_laws.proofs.rows.Counts.{write-in}
use Rattle.shfl_laws.proofs.rows.Losing.{holds-split}
use Rattle.shfl_laws.proofs.plain.HoldersPlain.{some-writer, writes-once, reads-once, as-writer, as-reader}

-- how often the pass stands in the hold with this mode
abbrev stands : Mode → ℕ → List (ℕ × Mode) → ℕ
stands Write q l = write_of q l
stands Read q l = read_of q l

stands-here : (m : Mode) (q : ℕ) (xs : List (ℕ × Mode)) → 0 < stands m q ((q, m) ∷ xs)
stands-here Write q xs = grind (arith, nat_tests)
stands-here Read q xs = grind (arith, nat_tests)

stands-more : (m : Mode) (q : ℕ) (x : ℕ × Mode) (xs : List (ℕ × Mode)) → stands m q xs ≤ stands m q (x ∷ xs)
stands-more Write q x xs = omega arith
stands-more Read q x xs = omega arith

-- whoever is counted is the first, or among the others
stands-split : (m : Mode) (q : ℕ) (x : ℕ × Mode) (xs : List (ℕ × Mode)) → 0 < stands m q (x ∷ xs) → ((x.0 ≡ q) × (x.1 ≡ m)) ⊎ (0 < stands m q xs)
stands-split m q x xs h = Chain.by_eq x.0 q
    (λ e. by m x.1 refl (let t : (x.0 == q) ≡ true = grind (arith, nat_tests) in t) h)
    (λ n. inr (miss m (let t : (x.0 == q) ≡ false = grind (arith, nat_tests) in t) h))
  where
    miss : (m : Mode) → (x.0 == q) ≡ false → 0 < stands m q (x ∷ xs) → 0 < stands m q xs
    miss Write e h = let c : 0 < cond (false && is_write x.1) 1 0 + write_of q xs = subst (λ b. 0 < cond (b && is_write x.1) 1 0 + write_of q xs) e h in omega arith
    miss Read e h = let c : 0 < cond (false && not (is_write x.1)) 1 0 + read_of q xs = subst (λ b. 0 < cond (b && not (is_write x.1)) 1 0 + read_of q xs) e h in omega arith

    by : (m k : Mode) → x.1 ≡ k → (x.0 == q) ≡ true → 0 < stands m q (x ∷ xs) → ((x.0 ≡ q) × (x.1 ≡ m)) ⊎ (0 < stands m q xs)
    by Write Write e i h = inl (grind (arith, nat_tests), e)
    by Read Read e i h = inl (grind (arith, nat_tests), e)
    by Write Read e i h = inr (let c : 0 < cond ((x.0 == q) && is_write Read) 1 0 + write_of q xs = subst (λ z. 0 < cond ((x.0 == q) && is_write z) 1 0 + write_of q xs) e h in
        let d : 0 < cond (true && false) 1 0 + write_of q xs = subst (λ b. 0 < cond (b && false) 1 0 + write_of q xs) i c in omega arith)
    by Read Write e i h = inr (let c : 0 < cond ((x.0 == q) && not (is_write Write)) 1 0 + read_of q xs = subst (λ z. 0 < cond ((x.0 == q) && not (is_write z)) 1 0 + read_of q xs) e h in
        let d : 0 < cond (true && false) 1 0 + read_of q xs = subst (λ b. 0 < cond (b && false) 1 0 + read_of q xs) i c in omega arith)

in-hold : (m : Mode) (q : ℕ) (l : List (ℕ × Mode)) → 0 < stands m q l → Contains l (q, m)
in-hold Write q [] h = absurd (omega arith)
in-hold Read q [] h = absurd (omega arith)
in-hold m q (x ∷ xs) h = ⊎_elim
    (λ e. (0, omega arith, λ j. (e.0 j, e.1 j)))
    (λ k. (let t = in-hold m q xs k in (suc t.0, (let u = t.1 in omega arith), t.2)))
    (stands-split m q x xs h)

hold-in : (m : Mode) (q : ℕ) (l : List (ℕ × Mode)) → Contains l (q, m) → 0 < stands m q l
hold-in m q [] (k, h, e) = absurd (omega arith)
hold-in m q (x ∷ xs) (zero, h, e) = subst (λ z. 0 < stands m q (z ∷ xs)) (sym e) (stands-here m q xs)
hold-in m q (x ∷ xs) (suc k, h, e) = let t = hold-in m q xs (k, omega arith, e) in let u = stands-more m q x xs in omega arith

module _ (t : Terms) (w : World) (ok : Lawful t w) where
  pub plain-hold : (p : ℕ) (m : Mode) → (Contains ok.shown.hold (p, m) → HoldsAs w m p) × (HoldsAs w m p → Contains ok.shown.hold (p, m))
  plain-hold p Write = ((λ c. as-writer t w ok p (hold-in Write p ok.shown.hold c)), (λ h. in-hold Write p ok.shown.hold (let a = writes-once t w ok p h in omega arith)))
  plain-hold p Read = ((λ c. as-reader t w ok p (hold-in Read p ok.shown.hold c)), (λ h. in-hold Read p ok.shown.hold (let a = reads-once t w ok p h in omega arith)))

module _ (limit n : ℕ) (w : World) (s : Line) (sh : ShowsPlainly n w s) (good : IsWellFormed limit s) where
  abbrev pass : ℕ → PassState
  pass q = known w.passes q

  -- whoever holds stands in the hold, and nobody else does
  stands-as : (m : Mode) (q : ℕ) → HoldsAs w m q → 0 < stands m q s.hold
  stands-as m q h = hold-in m q s.hold ((sh.hold q m).1 h)

  as-stands : (m : Mode) (q : ℕ) → 0 < stands m q s.hold → HoldsAs w m q
  as-stands m q h = (sh.hold q m).0 (in-hold m q s.hold h)

  none : (m : Mode) (q : ℕ) → (HoldsAs w m q → ⊥) → stands m q s.hold ≡ 0
  none m q f = by (stands m q s.hold) refl
    where
      by : (k : ℕ) → stands m q s.hold ≡ k → stands m q s.hold ≡ 0
      by zero e = e
      by (suc k) e = absurd (f (as-stands m q (omega arith)))

  once : (m : Mode) (q : ℕ) → HoldsAs w m q → stands m q s.hold ≡ 1
  once Write q h = let a = stands-as Write q h in let b = good.holds_once q in let c = holds-split q s.hold in omega arith
  once Read q h = let a = stands-as Read q h in let b = good.holds_once q in let c = holds-split q s.hold in omega arith

  writer : (q : ℕ) → write_of q s.hold ≡ cond (is_holding (pass q).phase && is_write (pass q).reg.mode) 1 0
  writer q = by (is_holding (pass q).phase) (pass q).reg.mode refl refl
    where
      by : (b : Bool) (m : Mode) → is_holding (pass q).phase ≡ b → (pass q).reg.mode ≡ m → write_of q s.hold ≡ cond (is_holding (pass q).phase && is_write (pass q).reg.mode) 1 0
      by true Write e f = once Write q (record { holds = e; mode = f }) ∙ sym (λ j. cond (e j && is_write (f j)) 1 0)
      by true Read e f = none Write q (λ h. (let a = h.mode in cc)) ∙ sym (λ j. cond (e j && is_write (f j)) 1 0)
      by false m e f = none Write q (λ h. (let a = h.holds in cc)) ∙ sym (λ j. cond (e j && is_write (pass q).reg.mode) 1 0)

  reader : (q : ℕ) → read_of q s.hold ≡ cond (is_holding (pass q).phase && not (is_write (pass q).reg.mode)) 1 0
  reader q = by (is_holding (pass q).phase) (pass q).reg.mode refl refl
    where
      by : (b : Bool) (m : Mode) → is_holding (pass q).phase ≡ b → (pass q).reg.mode ≡ m → read_of q s.hold ≡ cond (is_holding (pass q).phase && not (is_write (pass q).reg.mode)) 1 0
      by true Read e f = once Read q (record { holds = e; mode = f }) ∙ sym (λ j. cond (e j && not (is_write (f j))) 1 0)
      by true Write e f = none Read q (λ h. (let a = h.mode in cc)) ∙ sym (λ j. cond (e j && not (is_write (f j))) 1 0)
      by false m e f = none Read q (λ h. (let a = h.holds in cc)) ∙ sym (λ j. cond (e j && not (is_write (pass q).reg.mode)) 1 0)

  alone : 0 < writer_count s.hold → (writer_count s.hold ≡ 1) × (reader_count s.hold ≡ 0)
  alone h = ⊎_elim (λ z. absurd (omega arith)) (λ o. o) good.alone

  word : writer_count s.hold ≡ cond (held_of (look w.words Lock)) 1 0
  word = by (held_of (look w.words Lock)) (writer_count s.hold) refl refl
    where
      by : (b : Bool) (k : ℕ) → held_of (look w.words Lock) ≡ b → writer_count s.hold ≡ k → writer_count s.hold ≡ cond b 1 0
      by true k e f = let p = sh.held.0 e in let a = stands-as Write p.0 p.1 in let b = write-in p.0 s.hold in (alone (omega arith)).0
      by false zero e f = f
      by false (suc k) e f = absurd (let p = some-writer s.hold (omega arith) in let a = sh.held.1 (p.0, as-stands Write p.0 p.1) in cc)

  pub holding-plain : Holding n (held_of (look w.words Lock)) (readers_of (look w.words Lock)) pass s.hold
  holding-plain = record { writer = writer; reader = reader; word = word; alone = λ h. (alone h).1; count = sh.readers }

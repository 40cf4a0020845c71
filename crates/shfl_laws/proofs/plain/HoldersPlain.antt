-- Who holds the lock and what the lock word says of it, in plain words, from the invariant.
use Rattle.std.proofs.Common.{◌≡◌, ◌≢◌, ℕ, zero, suc, ◌+◌, ◌<◌, ◌≤◌, ◌⊎◌, List, [], ◌∷◌, Bool, true, false, cond, ◌==◌, refl, ap, ◌∙◌, inl, inr, ⊎_elim, arith}
use Rattle.std.specs.Prelude.{◌&&◌, not}
use Rattle.std.proofs.lemmas.Bool.Decides.{nat_tests}
use Rattle.shfl_line.specs.declared.events.Mode.{Mode}
use Rattle.shfl_line.specs.declared.events.Mode.TheVariants.{Write, Read}
use Rattle.shfl_line.specs.Line.{Line, is_write, writer_count, reader_count}
use Rattle.shfl_line.proofs.Chain
use Rattle.shfl_core.specs.declared.phase.PassState.{PassState}
use Rattle.shfl_core.specs.Phases.{is_holding}
use Rattle.shfl_core.specs.Worlds.{World, known}
use Rattle.shfl_core.specs.View.{view}
use Rattle.shfl_core.specs.Holding.{write_of, read_of}
use Rattle.shfl_core.specs.Lawful.{Terms, Lawful}
use Rattle.shfl_laws.specs.Headline.{Holds, HoldsAs, Holders, OneWriter, ReadersAlone, Nobody as NobodyHolds}
use Rattle.shfl_laws.proofs.rows.Counts.{write-in, read-in}

-- somebody who holds
pub some-writer : (l : List (ℕ × Mode)) → 0 < writer_count l → (p : ℕ) × (0 < write_of p l)
some-writer [] h = absurd (omega arith)
some-writer (x ∷ xs) h = by (is_write x.1) refl (some-writer xs)
  where
    by : (b : Bool) → is_write x.1 ≡ b → (0 < writer_count xs → (p : ℕ) × (0 < write_of p xs)) → (p : ℕ) × (0 < write_of p (x ∷ xs))
    by true e rec = (x.0, grind (arith, nat_tests, e))
    by false e rec = let t = rec (grind (arith, h, e)) in (t.0, (let u = t.1 in omega arith))

some-reader : (l : List (ℕ × Mode)) → 0 < reader_count l → (p : ℕ) × (0 < read_of p l)
some-reader [] h = absurd (omega arith)
some-reader (x ∷ xs) h = by (is_write x.1) refl (some-reader xs)
  where
    by : (b : Bool) → is_write x.1 ≡ b → (0 < reader_count xs → (p : ℕ) × (0 < read_of p xs)) → (p : ℕ) × (0 < read_of p (x ∷ xs))
    by true e rec = let t = rec (grind (arith, h, e)) in (t.0, (let u = t.1 in omega arith))
    by false e rec = (x.0, grind (arith, nat_tests, e))

-- two writers are two
two-writers : (p q : ℕ) → p ≢ q → (l : List (ℕ × Mode)) → write_of p l + write_of q l ≤ writer_count l
two-writers p q n [] = omega arith
two-writers p q n (x ∷ xs) = let ih = two-writers p q n xs in by (x.0 == p) (x.0 == q) (is_write x.1) refl refl ih
  where
    by : (a b c : Bool) → (x.0 == p) ≡ a → (x.0 == q) ≡ b → write_of p xs + write_of q xs ≤ writer_count xs
        → cond (a && c) 1 0 + write_of p xs + (cond (b && c) 1 0 + write_of q xs) ≤ cond c 1 0 + writer_count xs
    by true true c e f ih = absurd (n (grind (arith, nat_tests, e, f)))
    by true false true e f ih = omega arith
    by true false false e f ih = omega arith
    by false true true e f ih = omega arith
    by false true false e f ih = omega arith
    by false false true e f ih = omega arith
    by false false false e f ih = omega arith

module _ (t : Terms) (w : World) (ok : Lawful t w) where
  abbrev s : Line
  s = ok.shown

  abbrev pass : ℕ → PassState
  pass q = known w.passes q

  holds-as : (q : ℕ) → Holds w q → HoldsAs w Write q ⊎ HoldsAs w Read q
  holds-as q h = by (pass q).reg.mode refl
    where
      by : (m : Mode) → (pass q).reg.mode ≡ m → HoldsAs w Write q ⊎ HoldsAs w Read q
      by Write e = inl (record { holds = h; mode = e })
      by Read e = inr (record { holds = h; mode = e })

  pub writes-once : (q : ℕ) → HoldsAs w Write q → write_of q s.hold ≡ 1
  writes-once q h = ok.agrees.holding.writer q ∙ (λ j. cond (h.holds j && is_write (h.mode j)) 1 0)

  pub reads-once : (q : ℕ) → HoldsAs w Read q → read_of q s.hold ≡ 1
  reads-once q h = ok.agrees.holding.reader q ∙ (λ j. cond (h.holds j && not (is_write (h.mode j))) 1 0)

  pub as-writer : (q : ℕ) → 0 < write_of q s.hold → HoldsAs w Write q
  as-writer q h = by (is_holding (pass q).phase) (pass q).reg.mode refl refl (ok.agrees.holding.writer q)
    where
      by : (b : Bool) (m : Mode) → is_holding (pass q).phase ≡ b → (pass q).reg.mode ≡ m → write_of q s.hold ≡ cond (b && is_write m) 1 0 → HoldsAs w Write q
      by true Write e f g = record { holds = e; mode = f }
      by true Read e f g = absurd (omega arith)
      by false m e f g = absurd (omega arith)

  pub as-reader : (q : ℕ) → 0 < read_of q s.hold → HoldsAs w Read q
  as-reader q h = by (is_holding (pass q).phase) (pass q).reg.mode refl refl (ok.agrees.holding.reader q)
    where
      by : (b : Bool) (m : Mode) → is_holding (pass q).phase ≡ b → (pass q).reg.mode ≡ m → read_of q s.hold ≡ cond (b && not (is_write m)) 1 0 → HoldsAs w Read q
      by true Read e f g = record { holds = e; mode = f }
      by true Write e f g = absurd (omega arith)
      by false m e f g = absurd (omega arith)

  pub holders : Holders w
  holders = by (writer_count s.hold) (reader_count s.hold) refl refl
    where
      none : writer_count s.hold ≡ 0 → (q : ℕ) → ¬ (HoldsAs w Write q)
      none z q h = let a = writes-once q h in let b = write-in q s.hold in omega arith

      one : (q p : ℕ) → 0 < writer_count s.hold → HoldsAs w Write p → HoldsAs w Write q → q ≡ p
      one q p z a b = Chain.by_eq q p (λ e. e) (λ n. absurd (let c = two-writers q p n s.hold in let d = writes-once p a in let e = writes-once q b in let f = ok.agrees.holding.word in few (view w).held f (omega arith)))
        where
          few : (b : Bool) → writer_count s.hold ≡ cond b 1 0 → 1 < writer_count s.hold → ⊥
          few true e h = omega arith
          few false e h = omega arith

      by : (n m : ℕ) → writer_count s.hold ≡ n → reader_count s.hold ≡ m → Holders w
      by (suc n) m e f = let p = some-writer s.hold (omega arith) in let a = as-writer p.0 p.1 in OneWriter p.0 a
          (λ q h. ⊎_elim (λ b. one q p.0 (omega arith) a b) (λ b. absurd (let c = reads-once q b in let d = read-in q s.hold in let z = ok.agrees.holding.alone (omega arith) in omega arith)) (holds-as q h))
      by zero (suc m) e f = let p = some-reader s.hold (omega arith) in ReadersAlone p.0 (as-reader p.0 p.1)
          (λ q h. ⊎_elim (λ b. absurd (none e q b)) (λ b. b) (holds-as q h))
      by zero zero e f = NobodyHolds (λ q h. ⊎_elim (λ b. none e q b) (λ b. (let c = reads-once q b in let d = read-in q s.hold in omega arith)) (holds-as q h))

  pub writer-in-word : (p : ℕ) → HoldsAs w Write p → (view w).held ≡ true
  writer-in-word p h = by (view w).held refl ok.agrees.holding.word
    where
      by : (b : Bool) → (view w).held ≡ b → writer_count s.hold ≡ cond b 1 0 → b ≡ true
      by true e f = refl
      by false e f = absurd (let a = writes-once p h in let b = write-in p s.hold in omega arith)

  pub word-has-writer : (view w).held ≡ true → (p : ℕ) × HoldsAs w Write p
  word-has-writer e = let a : writer_count s.hold ≡ 1 = ok.agrees.holding.word ∙ ap (λ b. cond b 1 0) e in let p = some-writer s.hold (omega arith) in (p.0, as-writer p.0 p.1)

  pub reader-in-word : (p : ℕ) → HoldsAs w Read p → 0 < (view w).readers
  reader-in-word p h = let a = reads-once p h in let b = read-in p s.hold in let c = ok.agrees.holding.count in omega arith

-- The hold after each step on the lock word, as the world is read: gained, kept, or counted beside.
use Rattle.std.proofs.Common.{◌≡◌, ℕ, zero, suc, ◌+◌, ◌-◌, ◌<◌, List, [], ◌∷◌, Bool, true, false, cond, ◌==◌, ◌&&◌, not, refl, sym, ap, ◌∙◌, subst, arith}
use Rattle.std.proofs.lemmas.Bool.Decides.{nat_tests}
use Rattle.shfl_line.specs.declared.events.Mode.{Mode}
use Rattle.shfl_line.specs.declared.events.Mode.TheVariants.{Write, Read}
use Rattle.shfl_line.specs.Line.{is_write, writer_count, reader_count}
use Rattle.shfl_line.specs.Passes.{updated}
use Rattle.shfl_line.specs.Steps.{add_holder}
use Rattle.shfl_core.specs.declared.phase.Phase.{Phase}
use Rattle.shfl_core.specs.declared.phase.Phase.TheVariants.{Steal, Init, Take, Held, Count, Uncount, HeadLook}
use Rattle.shfl_core.specs.declared.phase.PassState.{PassState}
use Rattle.shfl_core.specs.Phases.{is_holding}
use Rattle.shfl_core.specs.Holding.{total, write_of, read_of, backs, Holding as Holds}
use Rattle.shfl_laws.proofs.rows.Rows.{on}
use Rattle.shfl_line.proofs.Chain

write_of-put : (q p : ℕ) (m : Mode) (l : List (ℕ × Mode)) → write_of q (add_holder p m l) ≡ write_of q l + cond ((p == q) && is_write m) 1 0
write_of-put q p m [] = omega arith
write_of-put q p m (x ∷ xs) = let ih : write_of q (add_holder p m xs) ≡ write_of q xs + cond ((p == q) && is_write m) 1 0 = write_of-put q p m xs in grind (arith, ih)

read_of-put : (q p : ℕ) (m : Mode) (l : List (ℕ × Mode)) → read_of q (add_holder p m l) ≡ read_of q l + cond ((p == q) && not (is_write m)) 1 0
read_of-put q p m [] = omega arith
read_of-put q p m (x ∷ xs) = let ih : read_of q (add_holder p m xs) ≡ read_of q xs + cond ((p == q) && not (is_write m)) 1 0 = read_of-put q p m xs in grind (arith, ih)

writes-put : (p : ℕ) (m : Mode) (l : List (ℕ × Mode)) → writer_count (add_holder p m l) ≡ writer_count l + cond (is_write m) 1 0
writes-put p m [] = omega arith
writes-put p m (x ∷ xs) = let ih : writer_count (add_holder p m xs) ≡ writer_count xs + cond (is_write m) 1 0 = writes-put p m xs in grind (arith, ih)

reads-put : (p : ℕ) (m : Mode) (l : List (ℕ × Mode)) → reader_count (add_holder p m l) ≡ reader_count l + cond (is_write m) 0 1
reads-put p m [] = omega arith
reads-put p m (x ∷ xs) = let ih : reader_count (add_holder p m xs) ≡ reader_count xs + cond (is_write m) 0 1 = reads-put p m xs in grind (arith, ih)

pub total-same : (n : ℕ) (f g : ℕ → ℕ) → ((q : ℕ) → q < n → f q ≡ g q) → total n f ≡ total n g
total-same zero f g h = refl
total-same (suc n) f g h = let a = h n (omega arith) in let b = total-same n f g (λ q l. h q (omega arith)) in omega arith

-- one pass changes
pub total-updated : (n p : ℕ) (pass : ℕ → PassState) (v : PassState) → p < n → total n (λ q. backs (updated pass p v q)) + backs (pass p) ≡ total n (λ q. backs (pass q)) + backs v
total-updated zero p pass v h = absurd (omega arith)
total-updated (suc n) p pass v h = Chain.by_eq p n
    (λ e. let a : total n (λ q. backs (updated pass p v q)) ≡ total n (λ q. backs (pass q)) = total-same n (λ q. backs (updated pass p v q)) (λ q. backs (pass q)) (λ q l. ap backs (Chain.updated-else pass p q v (λ i. omega arith))) in
    let b : backs (updated pass p v n) ≡ backs v = ap backs (subst (λ z. updated pass p v z ≡ v) e (Chain.updated-same pass p v)) in let c : backs (pass p) ≡ backs (pass n) = ap (λ z. backs (pass z)) e in omega arith)
    (λ k. let a = total-updated n p pass v (let j = k in omega arith) in let b : backs (updated pass p v n) ≡ backs (pass n) = ap backs (Chain.updated-else pass p n v (λ i. k (sym i))) in omega arith)

module _ (n : ℕ) (held : Bool) (readers : ℕ) (pass : ℕ → PassState) (hold : List (ℕ × Mode)) (h : Holds n held readers pass hold) (p : ℕ) (v : PassState) (below : p < n) where
  -- a step that leaves the hold: the count goes with those who back out
  pub stay : (more : ℕ) → is_holding v.phase ≡ is_holding (pass p).phase → v.reg.mode ≡ (pass p).reg.mode → more + backs (pass p) ≡ readers + backs v → Holds n held more (updated pass p v) hold
  stay more a b c = record {
    writer = Chain.updated-all (λ q t. write_of q hold ≡ cond (is_holding t.phase && is_write t.reg.mode) 1 0) pass p v (h.writer p ∙ sym (λ i. cond (a i && is_write (b i)) 1 0)) (λ q k. h.writer q);
    reader = Chain.updated-all (λ q t. read_of q hold ≡ cond (is_holding t.phase && not (is_write t.reg.mode)) 1 0) pass p v (h.reader p ∙ sym (λ i. cond (a i && not (is_write (b i))) 1 0)) (λ q k. h.reader q);
    word = h.word;
    alone = h.alone;
    count = let t = total-updated n p pass v below in let d = h.count in omega arith;
  }

  -- p gains the hold
  pub gain : (m : Mode) (more : ℕ) → is_holding (pass p).phase ≡ false → is_holding v.phase ≡ true → v.reg.mode ≡ m → held ≡ false → (is_write m ≡ true → reader_count hold ≡ 0)
      → more + backs (pass p) ≡ readers + backs v + cond (is_write m) 0 1 → Holds n (is_write m) more (updated pass p v) (add_holder p m hold)
  gain m more a b c free none d = record {
    writer = Chain.updated-all (λ q t. write_of q (add_holder p m hold) ≡ cond (is_holding t.phase && is_write t.reg.mode) 1 0) pass p v
        (let e = write_of-put p p m hold in let w = h.writer p in let z = ap is_write c in grind (arith, nat_tests))
        (λ q k. let e = write_of-put q p m hold in let w = h.writer q in grind (arith, nat_tests));
    reader = Chain.updated-all (λ q t. read_of q (add_holder p m hold) ≡ cond (is_holding t.phase && not (is_write t.reg.mode)) 1 0) pass p v
        (let e = read_of-put p p m hold in let w = h.reader p in let z = ap is_write c in grind (arith, nat_tests))
        (λ q k. let e = read_of-put q p m hold in let w = h.reader q in grind (arith, nat_tests));
    word = let e = writes-put p m hold in let w = h.word in grind arith;
    alone = λ k. let e = writes-put p m hold in let f = reads-put p m hold in let w = h.word in grind arith;
    count = let t = total-updated n p pass v below in let c0 = h.count in let f = reads-put p m hold in omega arith;
  }

-- Count, and HeadCount: the reader takes the lock that no writer holds
pub law_count : (n readers : ℕ) (pass : ℕ → PassState) (hold : List (ℕ × Mode)) (p : ℕ) (to_phase : Phase) → Holds n false readers pass hold → p < n → (pass p).phase ≡ Count → (pass p).reg.mode ≡ Read
    → Holds n false (readers + 1) (updated pass p (on (pass p) Held)) (add_holder p Read hold)
law_count n readers pass hold p to_phase h below f m = gain n false readers pass hold h p (on (pass p) Held) below Read (readers + 1) (grind (arith, f)) refl m refl (λ e. absurd (grind arith)) (let b : backs (pass p) ≡ 0 = grind (arith, f) in omega arith)

-- Count lost: it has to back out
pub law_count_lost : (n : ℕ) (held : Bool) (readers : ℕ) (pass : ℕ → PassState) (hold : List (ℕ × Mode)) (p : ℕ) → Holds n held readers pass hold → p < n → (pass p).phase ≡ Count → Holds n held (readers + 1) (updated pass p (on (pass p) Uncount)) hold
law_count_lost n held readers pass hold p h below f = stay n held readers pass hold h p (on (pass p) Uncount) below (readers + 1) (grind (arith, f)) refl (let b : backs (pass p) ≡ 0 = grind (arith, f) in omega arith)

pub law_uncount : (n : ℕ) (held : Bool) (readers : ℕ) (pass : ℕ → PassState) (hold : List (ℕ × Mode)) (p : ℕ) → Holds n held readers pass hold → p < n → (pass p).phase ≡ Uncount → (0 < readers) × Holds n held (readers - 1) (updated pass p (on (pass p) Init)) hold
law_uncount n held readers pass hold p h below f = let b : backs (pass p) ≡ 1 = grind (arith, f) in let t = total-updated n p pass (on (pass p) Init) below in let c = h.count in
    let z : 0 < readers = omega arith in (z, stay n held readers pass hold h p (on (pass p) Init) below (readers - 1) (grind (arith, f)) refl (omega arith))

-- HeadLook: a count that stood becomes a hold
pub law_headlook : (n readers : ℕ) (pass : ℕ → PassState) (hold : List (ℕ × Mode)) (p : ℕ) → Holds n false readers pass hold → p < n → (pass p).phase ≡ HeadLook → (pass p).reg.mode ≡ Read → Holds n false readers (updated pass p (on (pass p) Take)) (add_holder p Read hold)
law_headlook n readers pass hold p h below f m = gain n false readers pass hold h p (on (pass p) Take) below Read readers (grind (arith, f)) refl m refl (λ e. absurd (grind arith)) (let b : backs (pass p) ≡ 1 = grind (arith, f) in omega arith)

-- Steal won: the whole word was 0
pub law_steal : (n : ℕ) (pass : ℕ → PassState) (hold : List (ℕ × Mode)) (p : ℕ) → Holds n false 0 pass hold → p < n → (pass p).phase ≡ Steal → (pass p).reg.mode ≡ Write → Holds n true 0 (updated pass p (on (pass p) Held)) (add_holder p Write hold)
law_steal n pass hold p h below f m = gain n false 0 pass hold h p (on (pass p) Held) below Write 0 (grind (arith, f)) refl m refl (λ e. let c = h.count in omega arith) (let b : backs (pass p) ≡ 0 = grind (arith, f) in omega arith)

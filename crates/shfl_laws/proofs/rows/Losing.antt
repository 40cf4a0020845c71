-- The hold after a pass has given its own back.
use Rattle.std.proofs.Common.{◌≡◌, ◌≢◌, ℕ, ◌+◌, ◌<◌, List, [], ◌∷◌, Bool, true, false, cond, ◌==◌, refl, sym, ap, ◌∙◌, arith}
use Rattle.std.specs.Prelude.{◌&&◌, not}
use Rattle.std.proofs.lemmas.Bool.Decides.{nat_tests}
use Rattle.shfl_line.specs.declared.events.Mode.{Mode}
use Rattle.shfl_line.specs.Line.{is_write, holds, writer_count, reader_count}
use Rattle.shfl_line.specs.Steps.{remove_holder}
use Rattle.shfl_line.specs.Passes.{updated}
use Rattle.shfl_line.proofs.Chain
use Rattle.shfl_core.specs.declared.phase.PassState.{PassState}
use Rattle.shfl_core.specs.Phases.{is_holding}
use Rattle.shfl_core.specs.Holding.{write_of, read_of, backs, Holding as Holds}
use Rattle.shfl_laws.proofs.rows.Holding.{total-updated}

abbrev num : Bool → ℕ
num b = cond b 1 0

abbrev non : Bool → ℕ
non b = cond b 0 1

-- a pass stands in the hold as a writer or as a reader
pub holds-split : (q : ℕ) (l : List (ℕ × Mode)) → holds q l ≡ write_of q l + read_of q l
holds-split q [] = omega arith
holds-split q (x ∷ xs) = let ih = holds-split q xs in by (x.0 == q) (is_write x.1) ih
  where
    by : (a b : Bool) → holds q xs ≡ write_of q xs + read_of q xs → cond a 1 0 + holds q xs ≡ cond (a && b) 1 0 + write_of q xs + (cond (a && not b) 1 0 + read_of q xs)
    by true true ih = omega arith
    by true false ih = omega arith
    by false true ih = omega arith
    by false false ih = omega arith

-- who isn't removed stays
pub write_of-remove : (q p : ℕ) (l : List (ℕ × Mode)) → p ≢ q → write_of q (remove_holder p l) ≡ write_of q l
write_of-remove q p [] n = refl
write_of-remove q p (x ∷ xs) n = let ih = write_of-remove q p xs n in by (x.0 == p) refl ih
  where
    by : (b : Bool) → (x.0 == p) ≡ b → write_of q (remove_holder p xs) ≡ write_of q xs → write_of q (cond b xs (x ∷ remove_holder p xs)) ≡ cond ((x.0 == q) && is_write x.1) 1 0 + write_of q xs
    by true e ih = let m : (x.0 == q) ≡ false = grind (arith, nat_tests, e, n) in sym (ap (λ b. cond (b && is_write x.1) 1 0 + write_of q xs) m ∙ (let z : 0 + write_of q xs ≡ write_of q xs = omega arith in z))
    by false e ih = ap (λ z. cond ((x.0 == q) && is_write x.1) 1 0 + z) ih

pub read_of-remove : (q p : ℕ) (l : List (ℕ × Mode)) → p ≢ q → read_of q (remove_holder p l) ≡ read_of q l
read_of-remove q p [] n = refl
read_of-remove q p (x ∷ xs) n = let ih = read_of-remove q p xs n in by (x.0 == p) refl ih
  where
    by : (b : Bool) → (x.0 == p) ≡ b → read_of q (remove_holder p xs) ≡ read_of q xs → read_of q (cond b xs (x ∷ remove_holder p xs)) ≡ cond ((x.0 == q) && not (is_write x.1)) 1 0 + read_of q xs
    by true e ih = let m : (x.0 == q) ≡ false = grind (arith, nat_tests, e, n) in sym (ap (λ b. cond (b && not (is_write x.1)) 1 0 + read_of q xs) m ∙ (let z : 0 + read_of q xs ≡ read_of q xs = omega arith in z))
    by false e ih = ap (λ z. cond ((x.0 == q) && not (is_write x.1)) 1 0 + z) ih

-- what goes with the pass
pub record Removed (p : ℕ) (l : List (ℕ × Mode)) (w r : ℕ) : Type 0 where
  pub write_of : write_of p (remove_holder p l) + w ≡ write_of p l
  pub read_of : read_of p (remove_holder p l) + r ≡ read_of p l
  pub writers : writer_count (remove_holder p l) + w ≡ writer_count l
  pub readers : reader_count (remove_holder p l) + r ≡ reader_count l

-- the hold has the pass once, as a writer or as a reader
pub removed : (p : ℕ) (l : List (ℕ × Mode)) (w r : ℕ) → write_of p l ≡ w → read_of p l ≡ r → w + r ≡ 1 → Removed p l w r
removed p [] w r a b one = absurd (omega arith)
removed p (x ∷ xs) w r a b one = by (removed p xs w r) (x.0 == p) (is_write x.1) refl refl
  where
    -- the first isn't the pass
    later : (write_of p xs ≡ w → read_of p xs ≡ r → w + r ≡ 1 → Removed p xs w r) → (x.0 == p) ≡ false → Removed p (x ∷ xs) w r
    later rec e = let wr : write_of p xs ≡ w = (sym (ap (λ z. cond (z && is_write x.1) 1 0 + write_of p xs) e ∙ (let z : 0 + write_of p xs ≡ write_of p xs = omega arith in z)) ∙ a) in
        let rr : read_of p xs ≡ r = (sym (ap (λ z. cond (z && not (is_write x.1)) 1 0 + read_of p xs) e ∙ (let z : 0 + read_of p xs ≡ read_of p xs = omega arith in z)) ∙ b) in
        let t = rec wr rr one in
        let same : remove_holder p (x ∷ xs) ≡ x ∷ remove_holder p xs = ap (λ z. cond z xs (x ∷ remove_holder p xs)) e in record {
          write_of = ap (λ z. write_of p z + w) same ∙ (let k = t.write_of in let z : cond ((x.0 == p) && is_write x.1) 1 0 + write_of p (remove_holder p xs) + w ≡ cond ((x.0 == p) && is_write x.1) 1 0 + write_of p xs = omega arith in z);
          read_of = ap (λ z. read_of p z + r) same ∙ (let k = t.read_of in let z : cond ((x.0 == p) && not (is_write x.1)) 1 0 + read_of p (remove_holder p xs) + r ≡ cond ((x.0 == p) && not (is_write x.1)) 1 0 + read_of p xs = omega arith in z);
          writers = ap (λ z. writer_count z + w) same ∙ (let k = t.writers in let z : cond (is_write x.1) 1 0 + writer_count (remove_holder p xs) + w ≡ cond (is_write x.1) 1 0 + writer_count xs = omega arith in z);
          readers = ap (λ z. reader_count z + r) same ∙ (let k = t.readers in let z : cond (is_write x.1) 0 1 + reader_count (remove_holder p xs) + r ≡ cond (is_write x.1) 0 1 + reader_count xs = omega arith in z);
        }

    now : (m : Bool) → (x.0 == p) ≡ true → is_write x.1 ≡ m → w ≡ cond m 1 0 → r ≡ cond m 0 1 → write_of p xs ≡ 0 → read_of p xs ≡ 0 → Removed p (x ∷ xs) w r
    now m e i wm rm nw nr = let same : remove_holder p (x ∷ xs) ≡ xs = ap (λ z. cond z xs (x ∷ remove_holder p xs)) e in record {
      write_of = ap (λ z. write_of p z + w) same ∙ ((let z : write_of p xs + w ≡ w = omega arith in z) ∙ sym a);
      read_of = ap (λ z. read_of p z + r) same ∙ ((let z : read_of p xs + r ≡ r = omega arith in z) ∙ sym b);
      writers = ap (λ z. writer_count z + w) same ∙ (ap (λ z. writer_count xs + z) (wm ∙ ap (λ z. cond z 1 0) (sym i)) ∙ (let z : writer_count xs + cond (is_write x.1) 1 0 ≡ cond (is_write x.1) 1 0 + writer_count xs = omega arith in z));
      readers = ap (λ z. reader_count z + r) same ∙ (ap (λ z. reader_count xs + z) (rm ∙ ap (λ z. cond z 0 1) (sym i)) ∙ (let z : reader_count xs + cond (is_write x.1) 0 1 ≡ cond (is_write x.1) 0 1 + reader_count xs = omega arith in z));
    }

    by : (write_of p xs ≡ w → read_of p xs ≡ r → w + r ≡ 1 → Removed p xs w r) → (e m : Bool) → (x.0 == p) ≡ e → is_write x.1 ≡ m → Removed p (x ∷ xs) w r
    by rec false m e i = later rec e
    by rec true true e i = let c : num ((x.0 == p) && is_write x.1) ≡ 1 = (λ j. num (e j && i j)) in let d : num ((x.0 == p) && not (is_write x.1)) ≡ 0 = (λ j. num (e j && not (i j))) in
        now true e i (omega arith) (omega arith) (omega arith) (omega arith)
    by rec true false e i = let c : num ((x.0 == p) && is_write x.1) ≡ 0 = (λ j. num (e j && i j)) in let d : num ((x.0 == p) && not (is_write x.1)) ≡ 1 = (λ j. num (e j && not (i j))) in
        now false e i (omega arith) (omega arith) (omega arith) (omega arith)

module _ (n : ℕ) (held : Bool) (readers : ℕ) (pass : ℕ → PassState) (hold : List (ℕ × Mode)) (h : Holds n held readers pass hold) (p : ℕ) (v : PassState) (below : p < n) (m : Bool)
    (was : is_holding (pass p).phase ≡ true) (mode : is_write (pass p).reg.mode ≡ m) (now : is_holding v.phase ≡ false) (before : backs (pass p) ≡ 0) (after : backs v ≡ 0) where
  gone : Removed p hold (cond m 1 0) (cond m 0 1)
  gone = removed p hold (cond m 1 0) (cond m 0 1) (h.writer p ∙ (λ j. cond (was j && mode j) 1 0)) (h.reader p ∙ ((λ j. cond (was j && not (mode j)) 1 0) ∙ turned m)) (one m)
    where
      turned : (m : Bool) → num (not m) ≡ non m
      turned true = refl
      turned false = refl

      one : (m : Bool) → num m + non m ≡ 1
      one true = omega arith
      one false = omega arith

  -- the pass holds no more
  pub lose : (held' : Bool) (more : ℕ) → writer_count hold ≡ cond held' 1 0 + cond m 1 0 → more + cond m 0 1 ≡ readers → Holds n held' more (updated pass p v) (remove_holder p hold)
  lose held' more word few = let k = gone in record {
    writer = Chain.updated-all (λ q t. write_of q (remove_holder p hold) ≡ cond (is_holding t.phase && is_write t.reg.mode) 1 0) pass p v
        ((let a = k.write_of in let b : write_of p hold ≡ cond m 1 0 = h.writer p ∙ (λ j. cond (was j && mode j) 1 0) in let z : write_of p (remove_holder p hold) ≡ 0 = omega arith in z) ∙ sym (λ j. cond (now j && is_write v.reg.mode) 1 0))
        (λ q d. write_of-remove q p hold (λ e. d (sym e)) ∙ h.writer q);
    reader = Chain.updated-all (λ q t. read_of q (remove_holder p hold) ≡ cond (is_holding t.phase && not (is_write t.reg.mode)) 1 0) pass p v
        ((let a = k.read_of in let b : read_of p hold ≡ cond (true && not m) 1 0 = h.reader p ∙ (λ j. cond (was j && not (mode j)) 1 0) in let c = same m in let z : read_of p (remove_holder p hold) ≡ 0 = omega arith in z) ∙ sym (λ j. cond (now j && not (is_write v.reg.mode)) 1 0))
        (λ q d. read_of-remove q p hold (λ e. d (sym e)) ∙ h.reader q);
    word = let a = k.writers in omega arith;
    alone = λ e. let a = k.writers in let b = k.readers in let c = h.alone (omega arith) in omega arith;
    count = let a = k.readers in let t = total-updated n p pass v below in let c = h.count in omega arith;
  }
    where
      same : (m : Bool) → num (true && not m) ≡ non m
      same true = refl
      same false = refl

-- Who holds counts in the hold and in the lock word, and who isn't queued is away from the line.
use Rattle.std.proofs.Common.{◌≡◌, ℕ, zero, suc, ◌+◌, ◌^◌, ◌<◌, ◌≤◌, List, [], ◌∷◌, Bool, true, false, cond, ◌==◌, ◌∙◌, arith}
use Rattle.std.specs.Prelude.{◌&&◌, not}
use Rattle.std.proofs.lemmas.Bool.Decides.{nat_tests}
use Rattle.shfl_line.specs.declared.events.Mode.{Mode}
use Rattle.shfl_line.specs.Line.{Line, is_write, holds, writer_count, reader_count}
use Rattle.shfl_line.specs.Steps.{IsAway}
use Rattle.shfl_line.specs.Words.{readers_of}
use Rattle.shfl_line.specs.Passes.{updated}
use Rattle.shfl_line.proofs.Holders.{holder_count, rises-length}
use Rattle.shfl_core.specs.declared.phase.PassState.{PassState}
use Rattle.shfl_core.specs.declared.words.Word.TheVariants.{Lock}
use Rattle.shfl_core.specs.Words.{look}
use Rattle.shfl_core.specs.Phases.{is_queued, is_holding, is_backing}
use Rattle.shfl_core.specs.View.{View}
use Rattle.shfl_core.specs.Worlds.{World, known}
use Rattle.shfl_core.specs.Order.{Stands}
use Rattle.shfl_core.specs.Holding.{total, write_of, read_of, backs, Holding}
use Rattle.shfl_core.specs.Lawful.{Terms, count, Lawful}
use Rattle.shfl_laws.proofs.rows.Holding.{total-updated}
use Rattle.shfl_laws.proofs.rows.Losing.{holds-split}

-- a pass outside the holding phases isn't in the hold
pub not-holding : (n : ℕ) (held : Bool) (readers : ℕ) (pass : ℕ → PassState) (hold : List (ℕ × Mode)) → Holding n held readers pass hold → (p : ℕ) → is_holding (pass p).phase ≡ false → holds p hold ≡ 0
not-holding n held readers pass hold h p e = let a : write_of p hold ≡ 0 = h.writer p ∙ (λ j. cond (e j && is_write (pass p).reg.mode) 1 0) in
    let b : read_of p hold ≡ 0 = h.reader p ∙ (λ j. cond (e j && not (is_write (pass p).reg.mode)) 1 0) in let c = holds-split p hold in omega arith

-- a pass that isn't queued stands neither in the line nor beside it
pub away : (w : View) (s : Line) (p : ℕ) → Stands w s → is_queued (w.pass p) ≡ false → IsAway s p
away w s p h e = let a = h p in (grind (arith, nat_tests, a, e), λ i. (grind (arith, nat_tests, a, e, i)))

pub write-in : (p : ℕ) (l : List (ℕ × Mode)) → write_of p l ≤ writer_count l
write-in p [] = omega arith
write-in p (x ∷ xs) = let ih = write-in p xs in by (x.0 == p) (is_write x.1) ih
  where
    by : (a b : Bool) → write_of p xs ≤ writer_count xs → cond (a && b) 1 0 + write_of p xs ≤ cond b 1 0 + writer_count xs
    by true true h = omega arith
    by true false h = omega arith
    by false true h = omega arith
    by false false h = omega arith

pub read-in : (p : ℕ) (l : List (ℕ × Mode)) → read_of p l ≤ reader_count l
read-in p [] = omega arith
read-in p (x ∷ xs) = let ih = read-in p xs in by (x.0 == p) (is_write x.1) ih
  where
    by : (a b : Bool) → read_of p xs ≤ reader_count xs → cond (a && not b) 1 0 + read_of p xs ≤ cond b 0 1 + reader_count xs
    by true true h = omega arith
    by true false h = omega arith
    by false true h = omega arith
    by false false h = omega arith

pub total-updated-here : (n p : ℕ) (pass : ℕ → PassState) (v : PassState) → p < n → total n (λ q. backs (updated pass p v q)) + backs (pass p) ≡ total n (λ q. backs (pass q)) + backs v
total-updated-here n p pass v h = total-updated n p pass v h

total-few : (n : ℕ) (pass : ℕ → PassState) → total n (λ q. backs (pass q)) ≤ n
total-few zero pass = omega arith
total-few (suc n) pass = let a = total-few n pass in by (is_backing (pass n).phase) a
  where
    by : (b : Bool) → total n (λ q. backs (pass q)) ≤ n → cond b 1 0 + total n (λ q. backs (pass q)) ≤ suc n
    by true h = omega arith
    by false h = omega arith

-- the lock word has room for a reader more
pub few-readers : (t : Terms) (w : World) → Lawful t w → readers_of (look w.words Lock) + 1 < 2 ^ 32
few-readers t w ok = let h = ok.agrees.holding in let a = h.count in let b = holder_count ok.shown.hold in let c = rises-length 0 (count t) ok.shown.hold (omega arith) ok.of_passes.hold in let d = total-few (count t) (known w.passes) in let e = ok.few in omega arith

-- What the order asks of a round's registers when a next word is read, and when the round is given up.
use Rattle.std.proofs.Common.{◌≡◌, ℕ, zero, suc, false, cond, refl, ap, ◌∙◌, arith}
use Rattle.std.proofs.lemmas.Bool.Decides.{nat_tests}
use Rattle.shfl_line.specs.Line.{Line, mark_of}
use Rattle.shfl_line.specs.Words.{link_word}
use Rattle.shfl_core.specs.declared.phase.Phase.TheVariants.{Next, Give}
use Rattle.shfl_core.specs.declared.phase.Nap.TheVariants.{Awake}
use Rattle.shfl_core.specs.declared.phase.PassState.{PassState}
use Rattle.shfl_core.specs.Phases.{has_hand}
use Rattle.shfl_core.specs.View.{View}
use Rattle.shfl_core.specs.Order.{Order as Ordered, Round}
use Rattle.shfl_core.specs.Grouping.{Grouping}
use Rattle.shfl_laws.proofs.rows.Rows.{on, next_found, row_next}
use Rattle.shfl_laws.proofs.rows.Quiet.{quiet-order}
use Rattle.shfl_laws.proofs.rows.RoundApart.{at-give}

abbrev pub Rounded : View → Line → PassState → Type 0
Rounded w s v = Round w.next (mark_of s) w.tail s.line (link_word s.hand) v

-- a round that is given up
pub give : (w : View) (s : Line) (q : PassState) → Rounded w s q → has_hand q.phase ≡ false → Rounded w s (on q Give)
give w s q r n = at-give w.next (mark_of s) w.tail s.line (link_word s.hand) q.reg Awake r.prev_in r.prev_free (r.hand_is ∙ ap (λ b. cond b (suc q.reg.cand) 0) n)

pub next-round : (w : View) (s : Line) (q : PassState) → Rounded w s q → q.phase ≡ Next → Rounded w s (next_found q (w.next q.reg.prev))
next-round w s q r f = by_found (w.next q.reg.prev) refl
  where
    by_found : (n : ℕ) → w.next q.reg.prev ≡ n → Rounded w s (next_found q n)
    by_found zero e = give w s q r (grind (arith, f))
    by_found (suc n) e = record {
      prev_in = r.prev_in;
      prev_free = r.prev_free;
      cand_next = λ h. grind arith;
      cand_inner = λ h. absurd (grind arith);
      first_next = λ h m. (let k = r.first_next (grind (arith, f)) m in grind (arith, nat_tests));
      first_cand = λ h m. grind (arith, nat_tests);
      apart = λ h. absurd (grind arith);
      after_next = λ h. absurd (grind arith);
      gap = λ h. absurd (grind arith);
      aimed = λ h. absurd (grind arith);
      hand_is = r.hand_is ∙ grind (arith, f);
      marking = λ h. absurd (grind arith);
    }

pub next-order : (limit : ℕ) (w : View) (s : Line) (g p : ℕ) → Ordered w s g → Grouping limit w s → (w.pass p).phase ≡ Next → Ordered (row_next w p) s g
next-order limit w s g p o k f = quiet-order w s g w.held w.closed w.readers w.node p (next_found (w.pass p) (w.next (w.pass p).reg.prev)) o
    (record { queued = grind (arith, f); fore = grind (arith, f); no_link = grind (arith, f); no_ready = grind (arith, f); no_swap = grind (arith, f) })
    (λ q. refl) s.hold s.role o.still
    (λ _. next-round w s (w.pass p) (o.round p (grind (arith, f))) f)
    (λ q e. refl)

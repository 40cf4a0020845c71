-- What a lawful lock says of its words, its passes and the line state that it shows.
use Rattle.std.proofs.Common.{◌≡◌, ℕ, zero, suc, ◌<◌, ◌≤◌, true, cond, length, refl, sym, ap, ◌∙◌, subst, arith}
use Rattle.std.specs.Prelude.{Option, Some, None, IfSome}
use Rattle.std.proofs.lemmas.Bool.Decides.{nat_tests}
use Rattle.shfl_line.specs.Line.{Line, mark_of, IsOfPasses, IsWellFormed}
use Rattle.shfl_line.specs.Words.{link_word, batch_of, IsStateWord}
use Rattle.shfl_line.specs.Passes.{times}
use Rattle.shfl_core.specs.declared.phase.Phase.{Phase}
use Rattle.shfl_core.specs.declared.phase.Phase.TheVariants.{Link}
use Rattle.shfl_core.specs.declared.words.Word.TheVariants.{Next, State, Attr}
use Rattle.shfl_core.specs.Words.{look, index, wide, most_passes}
use Rattle.shfl_core.specs.Phases.{is_queued, is_linking}
use Rattle.shfl_core.specs.View.{view}
use Rattle.shfl_core.specs.Order.{Order as Ordered}
use Rattle.shfl_core.specs.Worlds.{known}
use Rattle.shfl_core.specs.ShownLine.{shown_line}
use Rattle.shfl_core.specs.Lawful.{count}
use Rattle.shfl_core.specs.Runner.{Lock}
use Rattle.shfl_laws.specs.Headline.{Headline}
use Rattle.shfl_laws.specs.Shows.{ShowsPlainly}
use Rattle.shfl_laws.proofs.words.Leasts.{each-long}
use Rattle.shfl_laws.proofs.plain.Headline.{headline}
use Rattle.shfl_laws.proofs.laws.Laws.{laws}
use Rattle.shfl_laws.proofs.rounds.MeasureRounds.{rounds-short}
use Rattle.shfl_laws.proofs.rows.Leave.{link-room}
use Rattle.shfl_laws.proofs.laws.NextRows.{queued-below}
use Rattle.shfl_laws.proofs.rows.Order
use Rattle.shfl_laws.proofs.plain.Plain.{plain-law}
use Rattle.shfl_laws.proofs.shown.ShownLine.{shown-line-law}
use Rattle.shfl_laws.proofs.shown.WellFormed.{agrees-well-formed}
use Rattle.shfl_world.specs.LawfulLock.{terms_of, IsLawfulLock, HasFewPasses, RoundsAreShort}

module _ (lock : Lock) (ok : IsLawfulLock lock) where
  abbrev n : ℕ
  n = length lock.world.passes

  abbrev s : Line
  s = shown_line lock.world

  pub full : length lock.world.passes ≡ count (terms_of lock)
  full = sym (each-long (λ p. look lock.world.words (Attr p)) n)

  pub few : length lock.world.passes ≤ most_passes
  few = let h = ok.few in let e = full in omega arith

  room : length lock.world.words ≡ wide n
  room = ok.room ∙ ap wide (sym full)

  pub state-there : (p : ℕ) → p < length lock.world.passes → index (State p) < length lock.world.words
  state-there p h = let e = room in omega arith

  pub next-there : (p : ℕ) → p < length lock.world.passes → index (Next p) < length lock.world.words
  next-there p h = let e = room in omega arith

  pub state-word : (p : ℕ) → IsStateWord (look lock.world.words (State p))
  state-word p = ok.formed (State p)

  pub shown-is : ok.shown ≡ shown_line lock.world
  shown-is = shown-line-law (terms_of lock) lock.world ok full

  -- what the shown state keeps
  pub of-passes : IsOfPasses (length lock.world.passes) (shown_line lock.world)
  of-passes = subst (λ m. IsOfPasses m (shown_line lock.world)) (sym full) (subst (λ (l : Line). IsOfPasses (count (terms_of lock)) l) shown-is ok.of_passes)

  pub well-formed : IsWellFormed lock.rules.limit (shown_line lock.world)
  well-formed = subst (λ (l : Line). IsWellFormed lock.rules.limit l) shown-is (agrees-well-formed (terms_of lock) (view lock.world) ok.shown ok.giver ok.of_passes ok.agrees)

  pub plainly : Headline lock.rules.limit lock.world (shown_line lock.world).line (shown_line lock.world).hand
  plainly = subst (λ (l : Line). Headline lock.rules.limit lock.world l.line l.hand) shown-is (headline (terms_of lock) lock.world ok)

  pub word-for-word : ShowsPlainly (length lock.world.passes) lock.world (shown_line lock.world)
  word-for-word = subst (λ k. ShowsPlainly k lock.world (shown_line lock.world)) (sym full)
      (subst (λ (l : Line). ShowsPlainly (count (terms_of lock)) lock.world l) shown-is (plain-law (terms_of lock) lock.world ok).shows)

  ordered : Ordered (view lock.world) s ok.giver
  ordered = subst (λ (l : Line). Ordered (view lock.world) l ok.giver) shown-is ok.agrees.order

  -- a waiter's batch number is that of its state word, and nobody else has one
  pub marked : (q : ℕ) → 0 < times q (shown_line lock.world).line → mark_of (shown_line lock.world) q ≡ batch_of (look lock.world.words (State q))
  marked q m = subst (λ (l : Line). mark_of l q ≡ cond (is_queued (known lock.world.passes q)) (batch_of (look lock.world.words (State q))) 0) shown-is (ok.agrees.grouping.mark q)
      ∙ ap (λ b. cond b (batch_of (look lock.world.words (State q))) 0) (Order.queued-in (view lock.world) s q ordered.stands m)

  pub unmarked : (q : ℕ) → times q (shown_line lock.world).line ≡ 0 → mark_of (shown_line lock.world) q ≡ 0
  unmarked q z = by (mark_of s q) refl
    where
      by : (k : ℕ) → mark_of s q ≡ k → mark_of s q ≡ 0
      by zero e = e
      by (suc k) e = absurd (let i = well-formed.in_line q (omega arith) in omega arith)

  -- a pass that has yet to write a next word names a pass of the line
  pub before-below : (p : ℕ) → HasFewPasses lock → is_linking (known lock.world.passes p).phase ≡ true → (known lock.world.passes p).reg.before < 64
  before-below p f h = let q = link-room lock.rules.limit (view lock.world) ok.shown ok.giver p ok.agrees.order ok.agrees.grouping (link-is (known lock.world.passes p).phase h) in
      let b = queued-below lock.world.passes (known lock.world.passes p).reg.before q in omega arith
    where
      link-is : (f : Phase) → is_linking f ≡ true → f ≡ Link
      link-is f e = grind arith

  -- the detached waiter is one of the passes, and doesn't stand in the line
  pub hand-below : (h : Option ℕ) → (shown_line lock.world).hand ≡ h → IfSome h (λ q. q < length lock.world.passes)
  hand-below None e = tt
  hand-below (Some q) e = of-passes.hand q (ap link_word e)

  pub hand-apart : (h : Option ℕ) → (shown_line lock.world).hand ≡ h → IfSome h (λ q. times q (shown_line lock.world).line ≡ 0)
  hand-apart None e = tt
  hand-apart (Some q) e = let i : link_word s.hand ≡ suc q = ap link_word e in let o = of-passes.once q in grind (arith, nat_tests, i, o)

  -- no round is long
  pub rounds-end : RoundsAreShort lock
  rounds-end p m rest one each begins own = let short = rounds-short laws (terms_of lock) lock.world ok p m rest one each begins own in let e = full in omega arith

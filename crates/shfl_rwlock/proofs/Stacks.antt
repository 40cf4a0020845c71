-- One more lock that is held, and one less.
use Rattle.std.proofs.Common.{◌≡◌, ◌≢◌, ℕ, ◌==◌, ◌<◌, Bool, true, false, cond, List, [], ◌∷◌, ◌++◌, refl, sym, ap, ◌∙◌, subst, arith, reverse}
use Rattle.std.specs.Prelude.{Some, None}
use Rattle.std.proofs.lemmas.List.{reverse-append}
use Rattle.std.proofs.lemmas.Bool.Decides.{nat_tests}
use mathlib.Core.Logic.{dite}
use native.Mathlib.Decide.{ℕ_discrete}
use Rattle.shfl_line.specs.declared.events.Form.{Form}
use Rattle.shfl_line.specs.declared.events.Mode.{Mode}
use Rattle.shfl_core.specs.Plan.{moving, shares}
use Rattle.shfl_core.specs.Waiting.{MayUse}
use Rattle.shfl_arena.specs.SeatModels.{ArenaId, SeatModel, IsNewAt}
use Rattle.shfl_arena.specs.Threads.{mode_held}
use Rattle.shfl_arena.specs.SeatSteps.{WinsAttempt, LosesAttempt}
use Rattle.shfl_arena.specs.Waits.{WaitsFor, Frees}
use Rattle.shfl_rwlock.specs.Held.{AreApart}
use Rattle.shfl_rwlock.specs.RwSeats.{HoldsJust}

abbrev Holds : Type 0
Holds = List (ℕ × Mode)

abbrev Seat : Type 0
Seat = SeatModel (Unit {0})

-- in a form that readers share, both modes may be used
pub may-use : (form : Form) (m : Mode) → shares form ≡ true → MayUse form m
may-use form m e f = absurd (cc)

here : (l : ℕ) → (l == l) ≡ true
here l = grind (arith, nat_tests)

else : (k l : ℕ) → l ≢ k → (k == l) ≡ false
else k l n = grind (arith, nat_tests)

at-head : (l : ℕ) (m : Mode) (hs : Holds) → mode_held l ((l, m) ∷ hs) ≡ Some m
at-head l m hs = ap (λ b. cond b (Some m) (mode_held l hs)) (here l)

past-head : (k l : ℕ) (m : Mode) (hs : Holds) → l ≢ k → mode_held l ((k, m) ∷ hs) ≡ mode_held l hs
past-head k l m hs n = ap (λ b. cond b (Some m) (mode_held l hs)) (else k l n)

pub reverse-more : (hs : Holds) (h : ℕ × Mode) → reverse (hs ++ h ∷ []) ≡ h ∷ reverse hs
reverse-more hs h = reverse-append hs (h ∷ [])

-- a lock at the end of the list is found where none before is it
found-last : (l : ℕ) (h : ℕ × Mode) (hs : Holds) → mode_held l hs ≡ None → mode_held l (hs ++ h ∷ []) ≡ mode_held l (h ∷ [])
found-last l h [] e = refl
found-last l h (x ∷ xs) e = by (x.0 == l) (found-last l h xs) e
  where
    by : (b : Bool) → (mode_held l xs ≡ None → mode_held l (xs ++ h ∷ []) ≡ mode_held l (h ∷ [])) → cond b (Some x.1) (mode_held l xs) ≡ None
        → cond b (Some x.1) (mode_held l (xs ++ h ∷ [])) ≡ mode_held l (h ∷ [])
    by true i z = absurd (cc)
    by false i z = i z

-- a lock that isn't the one at the end is found as without it
found-before : (l : ℕ) (h : ℕ × Mode) (hs : Holds) → l ≢ h.0 → mode_held l (hs ++ h ∷ []) ≡ mode_held l hs
found-before l h [] n = ap (λ b. cond b (Some h.1) None) (else h.0 l n)
found-before l h (x ∷ xs) n = ap (λ z. cond (x.0 == l) (Some x.1) z) (found-before l h xs n)

-- where no lock stands twice, each is found in the same mode from either end
pub mode-reverse : (l : ℕ) (hs : Holds) → AreApart hs → mode_held l (reverse hs) ≡ mode_held l hs
mode-reverse l [] a = refl
mode-reverse l (h ∷ hs) a = ap (mode_held l) (reverse-append (h ∷ []) hs) ∙ dite (ℕ_discrete l h.0)
    (λ e. found-last l h (reverse hs) (mode-reverse l hs a.1 ∙ subst (λ i. mode_held i hs ≡ None) (sym e) a.0)
    ∙ subst (λ i. mode_held i (h ∷ []) ≡ mode_held i (h ∷ hs)) (sym e) (at-head h.0 h.1 [] ∙ sym (at-head h.0 h.1 hs)))
    (λ n. found-before l h (reverse hs) n ∙ (mode-reverse l hs a.1 ∙ sym (past-head h.0 l h.1 hs n)))

module _ (id : ArenaId) where
  -- a seat that did nothing holds nothing
  pub holds-nothing : (s : Seat) → IsNewAt id s → id.table.slots ≡ 0 → shares id.rules.form ≡ true → HoldsJust id [] s
  holds-nothing s n e f = record {
    arena = n.0;
    slots = e;
    form = f;
    rests = n.1;
    inside = tt;
    apart = tt;
    holds = λ l. ap (mode_held l) n.2;
  }

  pub holds-none : (l : ℕ) (hs : Holds) (s : Seat) → HoldsJust id hs s → mode_held l hs ≡ None → mode_held l s.holds ≡ None
  holds-none l hs s h e = h.holds l ∙ e

  pub holds-more : (l : ℕ) (m : Mode) (hs : Holds) (old new : Seat) → HoldsJust id hs old → mode_held l hs ≡ None → l < id.shape.locks → WaitsFor l m old new
      → moving new.own ≡ false → HoldsJust id ((l, m) ∷ hs) new
  holds-more l m hs old new h free below t rests = record {
    arena = t.arena ∙ h.arena;
    slots = h.slots;
    form = h.form;
    rests = rests;
    inside = (below, h.inside);
    apart = (free, h.apart);
    holds = λ k. dite (ℕ_discrete k l)
        (λ e. subst (λ i. mode_held i new.holds ≡ mode_held i ((l, m) ∷ hs)) (sym e) (t.here rests ∙ sym (at-head l m hs)))
        (λ n. t.elsewhere k n ∙ (h.holds k ∙ sym (past-head l k m hs n)));
  }

  pub holds-won : (l : ℕ) (m : Mode) (hs : Holds) (old new : Seat) → HoldsJust id hs old → mode_held l hs ≡ None → l < id.shape.locks → WinsAttempt l m old new
      → HoldsJust id ((l, m) ∷ hs) new
  holds-won l m hs old new h free below t = record {
    arena = ap (λ (z : Seat). z.arena) t.after ∙ h.arena;
    slots = h.slots;
    form = h.form;
    rests = ap (λ (z : Seat). moving z.own) t.after;
    inside = (below, h.inside);
    apart = (free, h.apart);
    holds = λ k. ap (λ (z : Seat). mode_held k z.holds) t.after ∙ ap (λ z. cond (l == k) (Some m) z) (h.holds k);
  }

  -- an attempt that is refused changes nothing of it
  pub holds-still : (l n : ℕ) (m : Mode) (hs : Holds) (old new : Seat) → HoldsJust id hs old → LosesAttempt l m n old new → HoldsJust id hs new
  holds-still l n m hs old new h t = record {
    arena = ap (λ (z : Seat). z.arena) t.after ∙ h.arena;
    slots = h.slots;
    form = h.form;
    rests = ap (λ (z : Seat). moving z.own) t.after;
    inside = h.inside;
    apart = h.apart;
    holds = λ k. ap (λ (z : Seat). mode_held k z.holds) t.after ∙ h.holds k;
  }

  pub holds-less : (l : ℕ) (m : Mode) (hs : Holds) (old new : Seat) → HoldsJust id ((l, m) ∷ hs) old → Frees l m old new → HoldsJust id hs new
  holds-less l m hs old new h t = record {
    arena = t.arena ∙ h.arena;
    slots = h.slots;
    form = h.form;
    rests = t.rests;
    inside = h.inside.1;
    apart = h.apart.1;
    holds = λ k. dite (ℕ_discrete k l)
        (λ e. subst (λ i. mode_held i new.holds ≡ mode_held i hs) (sym e) (t.here ∙ sym h.apart.0))
        (λ n. t.elsewhere k n ∙ (h.holds k ∙ past-head l k m hs n));
  }

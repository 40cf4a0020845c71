-- One more lock that is held, and one less.
use Rattle.std.proofs.Common.{◌≡◌, ◌≢◌, ℕ, ◌==◌, ◌||◌, ◌<◌, Bool, true, false, cond, List, [], ◌∷◌, ◌++◌, length, refl, sym, ap, ◌∙◌, subst, arith, reverse}
use Rattle.std.specs.Prelude.{Option, Some, None}
use Rattle.std.proofs.lemmas.List.{length-reverse, reverse-append}
use Rattle.std.proofs.lemmas.List.Folds.{list_any-append}
use Rattle.std.proofs.lemmas.Bool.Decides.{nat_tests}
use mathlib.Core.Logic.{dite}
use native.Mathlib.Decide.{ℕ_discrete}
use Rattle.atomic_table.specs.Table.{rest}
use Rattle.shfl_line.specs.declared.events.Mode.{Mode}
use Rattle.shfl_line.specs.declared.events.Mode.TheVariants.{Write}
use Rattle.shfl_core.specs.Plan.{moving}
use Rattle.shfl_arena.specs.SeatModels.{ArenaId, SeatModel, IsNewAt}
use Rattle.shfl_arena.specs.Threads.{mode_held}
use Rattle.shfl_arena.specs.Mutexes.{Locks, Unlocks}
use Rattle.shfl_arena.specs.SeatSteps.{WinsAttempt, LosesAttempt}
use Rattle.shfl_arena.specs.ValueMoves.{writes}
use Rattle.shfl_mutex.specs.Held.{hold_in, is_among}
use Rattle.shfl_mutex.specs.MutexSeats.{HoldsJust}

or-comm : (a b : Bool) → (a || b) ≡ (b || a)
or-comm true true = refl
or-comm true false = refl
or-comm false true = refl
or-comm false false = refl

-- it is the same from either end whether a lock is among some
pub among-reverse : (l : ℕ) (ks : List ℕ) → is_among l (reverse ks) ≡ is_among l ks
among-reverse l [] = refl
among-reverse l (k ∷ ks) = ap (λ z. is_among l z) (reverse-append (k ∷ []) ks)
    ∙ (list_any-append (λ m. m == l) (reverse ks) (k ∷ [])
    ∙ (ap (λ b. b || is_among l (k ∷ [])) (among-reverse l ks)
    ∙ (or-comm (is_among l ks) (is_among l (k ∷ [])) ∙ sides (k == l) (is_among l ks))))
  where
    sides : (a b : Bool) → ((a || false) || b) ≡ (a || b)
    sides true b = refl
    sides false b = refl

pub reverse-more : (ks : List ℕ) (k : ℕ) → reverse (ks ++ k ∷ []) ≡ k ∷ reverse ks
reverse-more ks k = reverse-append ks (k ∷ [])

-- it has none, or some, from either end
pub none-reversed : (ks : List ℕ) → length ks ≡ 0 → reverse ks ≡ []
none-reversed [] h = refl
none-reversed (k ∷ ks) h = absurd (omega arith)

pub some-reversed : (ks : List ℕ) → reverse ks ≡ [] → length ks ≡ 0
some-reversed ks e = sym (length-reverse ks) ∙ ap length e

here : (l : ℕ) → (l == l) ≡ true
here l = grind (arith, nat_tests)

else : (k l : ℕ) → l ≢ k → (k == l) ≡ false
else k l n = grind (arith, nat_tests)

at-head : (l : ℕ) (ks : List ℕ) → hold_in l (l ∷ ks) ≡ Some Write
at-head l ks = ap (λ b. cond (b || is_among l ks) (Some Write) None) (here l)

past-head : (k l : ℕ) (ks : List ℕ) → l ≢ k → hold_in l (k ∷ ks) ≡ hold_in l ks
past-head k l ks n = ap (λ b. cond (b || is_among l ks) (Some Write) None) (else k l n)

absent : (l : ℕ) (ks : List ℕ) → is_among l ks ≡ false → hold_in l ks ≡ None
absent l ks e = ap (λ b. cond b (Some Write) None) e

-- who holds no lock has none in its list
none-held : (hs : List (ℕ × Mode)) → ((l : ℕ) → mode_held l hs ≡ None) → hs ≡ []
none-held [] h = refl
none-held (x ∷ xs) h = absurd (let e : Some x.1 ≡ None = ap (λ b. cond b (Some x.1) (mode_held x.0 xs)) (sym (here x.0)) ∙ h x.0 in cc)

module _ {X : Type 0} (id : ArenaId) where
  -- a seat that has unlocked all is as one that did nothing
  pub new-again : (s : SeatModel X) → HoldsJust {X = X} id [] s → IsNewAt {X = X} id s
  new-again s h = (h.arena, h.rests, none-held s.holds h.holds, h.values)

  -- a seat that did nothing holds nothing
  pub holds-nothing : (s : SeatModel X) → IsNewAt {X = X} id s → id.table.slots ≡ id.shape.locks → HoldsJust {X = X} id [] s
  holds-nothing s n e = record {
    arena = n.0;
    slots = e;
    rests = n.1;
    inside = tt;
    apart = tt;
    holds = λ l. ap (mode_held l) n.2;
    values = n.3;
  }

  pub holds-none : (l : ℕ) (ks : List ℕ) (s : SeatModel X) → HoldsJust {X = X} id ks s → is_among l ks ≡ false → mode_held l s.holds ≡ None
  holds-none l ks s h e = h.holds l ∙ absent l ks e

  pub holds-more : (l : ℕ) (ks : List ℕ) (old new : SeatModel X) → HoldsJust {X = X} id ks old → is_among l ks ≡ false → l < id.shape.locks → Locks {X = X} l old new → HoldsJust {X = X} id (l ∷ ks) new
  holds-more l ks old new h free below t = record {
    arena = t.arena ∙ h.arena;
    slots = h.slots;
    rests = t.rests;
    inside = (below, h.inside);
    apart = (free, h.apart);
    holds = λ m. dite (ℕ_discrete m l)
        (λ e. subst (λ i. mode_held i new.holds ≡ hold_in i (l ∷ ks)) (sym e) (t.here ∙ sym (at-head l ks)))
        (λ n. t.elsewhere m n ∙ (h.holds m ∙ sym (past-head l m ks n)));
    values = t.values ∙ ap (λ z. (l, None) ∷ z) h.values;
  }

  pub holds-less : (l : ℕ) (ks : List ℕ) (old new : SeatModel X) → HoldsJust {X = X} id (l ∷ ks) old → Unlocks {X = X} l old new → HoldsJust {X = X} id ks new
  holds-less l ks old new h t = record {
    arena = t.arena ∙ h.arena;
    slots = h.slots;
    rests = t.rests;
    inside = h.inside.1;
    apart = h.apart.1;
    holds = λ m. dite (ℕ_discrete m l)
        (λ e. subst (λ i. mode_held i new.holds ≡ hold_in i ks) (sym e) (t.here ∙ sym (absent l ks h.apart.0)))
        (λ n. t.elsewhere m n ∙ (h.holds m ∙ past-head l m ks n));
    values = t.values ∙ ap rest h.values;
  }

  -- an attempt that is refused changes nothing of it
  pub holds-still : (l : ℕ) (n : ℕ) (ks : List ℕ) (old new : SeatModel X) → HoldsJust {X = X} id ks old → LosesAttempt {X = X} l Write n old new → HoldsJust {X = X} id ks new
  holds-still l n ks old new h t = record {
    arena = ap (λ (z : SeatModel X). z.arena) t.after ∙ h.arena;
    slots = h.slots;
    rests = ap (λ (z : SeatModel X). moving z.own) t.after;
    inside = h.inside;
    apart = h.apart;
    holds = λ m. ap (λ (z : SeatModel X). mode_held m z.holds) t.after ∙ h.holds m;
    values = ap (λ (z : SeatModel X). z.values) t.after ∙ h.values;
  }

  -- one that takes the lock brings its value in front
  pub won-front : (l : ℕ) (ks : List ℕ) (old new : SeatModel X) → HoldsJust {X = X} id ks old → l < id.shape.locks → WinsAttempt {X = X} l Write old new → (x : X) × (new.values ≡ (l, Some x) ∷ old.values)
  won-front l ks old new h below t = t.value.gains
      (subst (λ (a : ArenaId). l < a.table.slots) (sym h.arena) (subst (λ n. l < n) (sym h.slots) below))
      refl
      (ap (λ (z : SeatModel X). writes z.own) t.after)

  -- which is then taken out
  pub won-locks : (l : ℕ) (ks : List ℕ) (old mid new : SeatModel X) → HoldsJust {X = X} id ks old → l < id.shape.locks → WinsAttempt {X = X} l Write old mid → new ≡ record mid { values = (l, None) ∷ rest mid.values } → Locks {X = X} l old new
  won-locks l ks old mid new h below t e = let f = won-front l ks old mid h below t in record {
    arena = ap (λ (z : SeatModel X). z.arena) e ∙ ap (λ (z : SeatModel X). z.arena) t.after;
    number = ap (λ (z : SeatModel X). z.own.reg.me) e ∙ ap (λ (z : SeatModel X). z.own.reg.me) t.after;
    rests = ap (λ (z : SeatModel X). moving z.own) e ∙ ap (λ (z : SeatModel X). moving z.own) t.after;
    here = ap (λ (z : SeatModel X). mode_held l z.holds) e ∙ (ap (λ (z : SeatModel X). mode_held l z.holds) t.after ∙ ap (λ b. cond b (Some Write) (mode_held l old.holds)) (here l));
    elsewhere = λ m n. ap (λ (z : SeatModel X). mode_held m z.holds) e ∙ (ap (λ (z : SeatModel X). mode_held m z.holds) t.after ∙ ap (λ b. cond b (Some Write) (mode_held m old.holds)) (else l m n));
    values = ap (λ (z : SeatModel X). z.values) e ∙ ap (λ (z : List (ℕ × Option X)). (l, None) ∷ rest z) f.1;
  }

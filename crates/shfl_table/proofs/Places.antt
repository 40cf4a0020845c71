-- Taking and giving back places that lie side by side, and turning to one of them.
use Rattle.std.proofs.Common.{◌≡◌, ℕ, zero, suc, ◌+◌, ◌<◌, ◌≤◌, ◌≢◌, ◌⊎◌, List, [], ◌∷◌, ◌++◌, length, map, set, slice_get, sym, refl, ap, ◌∙◌, subst, inl, inr, ⊎_elim, arith, length-set, append_assoc, append-nil, Option, Some}
use mathlib.Core.Option.{none, some}
use lib.ListN.{get_elem?}
use Rattle.atomic_table.specs.Table.{Act, keeps, takes, gives, chain, Valid, carried_after, homes_after, put_back, rest, turned}
use Rattle.atomic_table.proofs.Lists.{set_here, set_else}
use Rattle.shfl_core.proofs.Lists.{seen-at}
use Rattle.shfl_table.specs.Places.{Every, numbered, turns, values_of}

-- a place where an element is lies below the length
pub there : {A : Type 0} (l : List A) (i : ℕ) (a : A) → get_elem? l i ≡ some a → i < length l
there l i a e = (seen-at l i a a e).1

plus_none : (s : ℕ) → s + 0 ≡ s
plus_none s = omega arith

abbrev pub Homes : Type 0 → Type 0
Homes S = List (mathlib.Core.Option.Option S)

module _ {S : Type 0} where
  pub take_all : ℕ → List S → Act S
  take_all i [] = keeps
  take_all i (x ∷ xs) = chain (take_all (i + 1) xs) (takes i x)

  pub give_all : List S → Act S
  give_all [] = keeps
  give_all (x ∷ xs) = chain gives (give_all xs)

  -- these places have these values
  abbrev pub AtHome : Homes S → ℕ → List S → Type 0
  AtHome hs i [] = Unit {0}
  AtHome hs i (x ∷ xs) = (get_elem? hs i ≡ some (some x)) × AtHome hs (i + 1) xs

  abbrev pub Beside : ℕ → ℕ → List S → Type 0
  Beside j i xs = (j < i) ⊎ (i + length xs ≤ j)

  beside_more : (j i : ℕ) (x : S) (xs : List S) → Beside j i (x ∷ xs) → (j ≢ i) × Beside j (i + 1) xs
  beside_more j i x xs b = ⊎_elim (λ l. ((λ e. omega arith), inl (omega arith))) (λ g. ((λ e. omega arith), inr (omega arith))) b

  pub taken : (c : List (ℕ × S)) (i : ℕ) (xs : List S) → carried_after c (take_all i xs) ≡ numbered i xs ++ c
  unfolding take_all
  taken c i [] = refl
  taken c i (x ∷ xs) = ap (λ (l : List (ℕ × S)). (i, x) ∷ l) (taken c (i + 1) xs)

  pub taken_else : (hs : Homes S) (c : List (ℕ × S)) (i : ℕ) (xs : List S) (j : ℕ) → Beside j i xs → get_elem? (homes_after hs c (take_all i xs)) j ≡ get_elem? hs j
  unfolding take_all
  taken_else hs c i [] j b = refl
  taken_else hs c i (x ∷ xs) j b = let m = beside_more j i x xs b in set_else (homes_after hs c (take_all (i + 1) xs)) i j none m.0 ∙ taken_else hs c (i + 1) xs j m.1

  pub taken_length : (hs : Homes S) (c : List (ℕ × S)) (i : ℕ) (xs : List S) → length (homes_after hs c (take_all i xs)) ≡ length hs
  unfolding take_all
  taken_length hs c i [] = refl
  taken_length hs c i (x ∷ xs) = length-set (homes_after hs c (take_all (i + 1) xs)) i none ∙ taken_length hs c (i + 1) xs

  pub may_take : (hs : Homes S) (c : List (ℕ × S)) (i : ℕ) (xs : List S) → AtHome hs i xs → Valid hs c (take_all i xs)
  unfolding take_all
  may_take hs c i [] h = tt
  may_take hs c i (x ∷ xs) h = (may_take hs c (i + 1) xs h.1, taken_else hs c (i + 1) xs i (inl (omega arith)) ∙ h.0)

  pub may_give : (hs : Homes S) (c : List (ℕ × S)) (xs : List S) → Valid hs c (give_all xs)
  unfolding give_all
  may_give hs c [] = tt
  may_give hs c (x ∷ xs) = (tt, may_give (put_back hs c) (rest c) xs)

  pub given_all : (i : ℕ) (xs : List S) → carried_after (numbered i xs) (give_all xs) ≡ []
  unfolding give_all
  given_all i [] = refl
  given_all i (x ∷ xs) = given_all (i + 1) xs

  pub given_else : (hs : Homes S) (i : ℕ) (xs : List S) (j : ℕ) → Beside j i xs → get_elem? (homes_after hs (numbered i xs) (give_all xs)) j ≡ get_elem? hs j
  unfolding give_all
  given_else hs i [] j b = refl
  given_else hs i (x ∷ xs) j b = let m = beside_more j i x xs b in given_else (set hs i (some x)) (i + 1) xs j m.1 ∙ set_else hs i j (some x) m.0

  pub given_length : (hs : Homes S) (i : ℕ) (xs : List S) → length (homes_after hs (numbered i xs) (give_all xs)) ≡ length hs
  unfolding give_all
  given_length hs i [] = refl
  given_length hs i (x ∷ xs) = given_length (set hs i (some x)) (i + 1) xs ∙ length-set hs i (some x)

  pub given_here : (hs : Homes S) (i : ℕ) (xs : List S) → i + length xs ≤ length hs → AtHome (homes_after hs (numbered i xs) (give_all xs)) i xs
  unfolding give_all
  given_here hs i [] h = tt
  given_here hs i (x ∷ xs) h = let l = length-set hs i (some x) in
      (given_else (set hs i (some x)) (i + 1) xs i (inl (omega arith)) ∙ set_here hs i (some x) (omega arith), given_here (set hs i (some x)) (i + 1) xs (omega arith))

  turns_first : (n : ℕ) (c : List (ℕ × S)) → turns n (turned c) ≡ turned (turns n c)
  turns_first zero c = refl
  turns_first (suc n) c = ap turned (turns_first n c)

  pub turns_to : (a b : List (ℕ × S)) → turns (length a) (a ++ b) ≡ b ++ a
  turns_to [] b = sym (append-nil b)
  turns_to (x ∷ a) b = sym (turns_first (length a) (x ∷ (a ++ b))) ∙ (ap (turns (length a)) (append_assoc a b (x ∷ [])) ∙ (turns_to a (b ++ x ∷ []) ∙ append_assoc b (x ∷ []) a))

  pub values_numbered : (i : ℕ) (xs : List S) → values_of (numbered i xs) ≡ xs
  values_numbered i [] = refl
  values_numbered i (x ∷ xs) = ap (λ (l : List S). x ∷ l) (values_numbered (i + 1) xs)

  -- one place among them
  pub record Parted (s : ℕ) (ys : List S) (i : ℕ) (y : S) : Type 0 where
    pub before : List (ℕ × S)
    pub after : List (ℕ × S)
    pub is : numbered s ys ≡ before ++ (s + i, y) ∷ after
    pub other : (z : S) → numbered s (set ys i z) ≡ before ++ (s + i, z) ∷ after
    pub here : length before ≡ i
    pub long : i + (length after + 1) ≡ length ys

  length-numbered : (i : ℕ) (xs : List S) → length (numbered i xs) ≡ length xs
  length-numbered i [] = refl
  length-numbered i (x ∷ xs) = ap suc (length-numbered (i + 1) xs)

  pub parted : (s : ℕ) (ys : List S) (i : ℕ) (y : S) → slice_get ys i ≡ Some y → Parted s ys i y
  parted s [] i y e = absurd (cc)
  parted s (x ∷ xs) zero y e = let same : x ≡ y = cc in record {
    before = [];
    after = numbered (s + 1) xs;
    is = (λ j. (sym (plus_none s) j, same j) ∷ numbered (s + 1) xs);
    other = λ z. (λ j. (sym (plus_none s) j, z) ∷ numbered (s + 1) xs);
    here = refl;
    long = let l = length-numbered (s + 1) xs in omega arith;
  }
  parted s (x ∷ xs) (suc i) y e = let p = parted (s + 1) xs i y e in let n : (s + 1) + i ≡ s + suc i = omega arith in record {
    before = (s, x) ∷ p.before;
    after = p.after;
    is = ap (λ (l : List (ℕ × S)). (s, x) ∷ l) (p.is ∙ ap (λ (m : ℕ). p.before ++ (m, y) ∷ p.after) n);
    other = λ z. ap (λ (l : List (ℕ × S)). (s, x) ∷ l) (p.other z ∙ ap (λ (m : ℕ). p.before ++ (m, z) ∷ p.after) n);
    here = ap suc p.here;
    long = let l = p.long in omega arith;
  }

pub every_set : {A : Type 0} (P : A → Type 0) (xs : List A) (i : ℕ) (x : A) → Every P xs → P x → Every P (set xs i x)
every_set P [] i x e p = tt
every_set P (y ∷ ys) zero x e p = (p, e.1)
every_set P (y ∷ ys) (suc i) x e p = (e.0, every_set P ys i x e.1 p)

pub every_at : {A : Type 0} (P : A → Type 0) (xs : List A) (i : ℕ) (x : A) → Every P xs → slice_get xs i ≡ Some x → P x
every_at P [] i x e h = absurd (cc)
every_at P (y ∷ ys) zero x e h = let same : y ≡ x = cc in subst P same e.0
every_at P (y ∷ ys) (suc i) x e h = every_at P ys i x e.1 h

module _ {V : Type 0} (P : V → Type 0) where
  -- the values of places that are at home, and back
  pub collected : (hs : List (mathlib.Core.Option.Option (Option V))) (m i : ℕ) → ((k : ℕ) → i ≤ k → k < i + m → (x : V) × (get_elem? hs k ≡ some (some (Some x))) × P x)
      → (xs : List V) × (length xs ≡ m) × AtHome hs i (map Some xs) × Every P xs
  collected hs zero i h = ([], refl, tt, tt)
  collected hs (suc m) i h = let a = h i (omega arith) (omega arith) in let r = collected hs m (i + 1) (λ k l u. h k (omega arith) (omega arith)) in
      (a.0 ∷ r.0, ap suc r.1, (a.1, r.2), (a.2, r.3))

  pub each_home : (hs : List (mathlib.Core.Option.Option (Option V))) (xs : List V) (i : ℕ) → AtHome hs i (map Some xs) → Every P xs → (k : ℕ) → i ≤ k → k < i + length xs → (x : V) × (get_elem? hs k ≡ some (some (Some x))) × P x
  each_home hs [] i h e k l u = absurd (omega arith)
  each_home hs (x ∷ xs) i h e k l u = elim (native.Mathlib.Decide.ℕ_discrete k i) as (λ _. (x : V) × (get_elem? hs k ≡ some (some (Some x))) × P x) [
    | yes is ↦ (x, ap (get_elem? hs) is ∙ h.0, e.0)
    | no ne ↦ each_home hs xs (i + 1) h.1 e.1 k (omega arith) (omega arith)
  ]

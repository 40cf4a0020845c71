-- Names at their places: one that was read, and those that stay where a list grows.
use Rattle.std.proofs.Common.{◌≡◌, ℕ, ◌+◌, ◌<◌, ◌≤◌, List, [], ◌∷◌, ◌++◌, length, map, get_or, refl, sym, ap, ◌∙◌, arith, length-append}
use Rattle.std.specs.Prelude.{Contains}
use Rattle.std.specs.List.{AllByRecursion}
use Rattle.std.proofs.lemmas.List.{length-map, get_or-map, append-nil, append_assoc}
use Rattle.std.proofs.lemmas.List.Elements.{Contains-append_left, Contains-append_right}
use Rattle.std.proofs.Math.ListN.{get_or-append}
use Rattle.std.proofs.Math.Seq.{get_or-append_seam}
use Rattle.name_order.specs.Places.{StandsAt, ArePutBehind}

-- the name that was read at a place stands there
pub read_stands : {X : Type 0} (bytes : X → List ℕ) (xs : List X) (k : ℕ) (d : X) (n : List ℕ) → k < length xs → bytes (get_or xs k d) ≡ n → StandsAt (map bytes xs) k n
read_stands bytes xs k d n lt e = (omega (arith, lt, length-map xs bytes), get_or-map bytes xs k d [] lt ∙ e)

-- where names are put behind the others, these stay
pub stands-more : (names more : List (List ℕ)) (k : ℕ) (n : List ℕ) → StandsAt names k n → StandsAt (names ++ more) k n
stands-more names more k n s = (omega (arith, s.0, length-append names more), get_or-append names more [] k s.0 ∙ s.1)

-- the last of them
pub stands_last : (names : List (List ℕ)) (n : List ℕ) → StandsAt (names ++ n ∷ []) (length names) n
stands_last names n = (omega (arith, length-append names (n ∷ [])), get_or-append_seam names n [] [])

-- ---- what a call puts behind the names

pub none_put : (old from : List (List ℕ)) → ArePutBehind old from old
none_put old from = record { more = []; few = omega arith; among = tt; is = sym (append-nil old) }

pub one_put : (old : List (List ℕ)) (name : List ℕ) → ArePutBehind old (name ∷ []) (old ++ name ∷ [])
one_put old name = record { more = name ∷ []; few = omega arith; among = ((0, omega arith, refl), tt); is = refl }

pub all-behind : {X : Type 0} (P : X → Type 0) (xs ys : List X) → AllByRecursion P xs → AllByRecursion P ys → AllByRecursion P (xs ++ ys)
all-behind P [] ys h k = k
all-behind P (x ∷ xs) ys h k = (h.0, all-behind P xs ys h.1 k)

pub all-push : {X : Type 0} (P : X → Type 0) (xs : List X) (x : X) → AllByRecursion P xs → P x → AllByRecursion P (xs ++ x ∷ [])
all-push P xs x h p = all-behind P xs (x ∷ []) h (p, tt)

pub among-more : (from others ns : List (List ℕ)) → ((n : List ℕ) → Contains from n → Contains others n) → AllByRecursion (Contains from) ns → AllByRecursion (Contains others) ns
among-more from others [] f h = tt
among-more from others (n ∷ ns) f h = (f n h.0, among-more from others ns f h.1)

-- one name, then another
pub two_put : (old between new : List (List ℕ)) (n m : List ℕ) → length between ≤ length old + 1 → length new ≤ length between + 1 → ArePutBehind old (n ∷ []) between → ArePutBehind between (m ∷ []) new → ArePutBehind old (n ∷ m ∷ []) new
two_put old between new n m one two a b = record {
  more = a.more ++ b.more;
  few =
      let first : length between ≡ length old + length a.more = ap length a.is ∙ length-append old a.more in
      let second : length new ≡ length between + length b.more = ap length b.is ∙ length-append between b.more in
      omega (arith, first, second, one, two, length-append a.more b.more);
  among = all-behind (Contains (n ∷ m ∷ [])) a.more b.more
      (among-more (n ∷ []) (n ∷ m ∷ []) a.more (λ x h. Contains-append_left (n ∷ []) (m ∷ []) x h) a.among)
      (among-more (m ∷ []) (n ∷ m ∷ []) b.more (λ x h. Contains-append_right (n ∷ []) (m ∷ []) x h) b.among);
  is = b.is ∙ ap (λ (l : List (List ℕ)). l ++ b.more) a.is ∙ append_assoc old a.more b.more;
}

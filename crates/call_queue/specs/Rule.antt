-- The rule of the queue: the tickets in it are the last ones, in order, and each earlier one is on just one list of those taken.
use Rattle.std.specs.Prelude.{◌≡◌, ◌⊎◌, ℕ, ◌+◌, ◌-◌, ◌<◌, Bool, true, false, List, [], ◌∷◌, ◌++◌, length, slice_get, Some}
use mathlib.Core.Option.{some}
use lib.ListN.{get_elem?}
use Rattle.call_queue.specs.declared.rule.Ticket.{Ticket}
use Rattle.call_queue.specs.declared.rule.Share.{Share}

-- how many parts there are
abbrev pub whole : ℕ
whole = 1024

module _ {C : Type 0} where
  -- the ticket is one of these
  abbrev pub IsOneOf : Ticket C → List (Ticket C) → Type 0
  IsOneOf t [] = ⊥
  IsOneOf t (x ∷ xs) = (t ≡ x) ⊎ IsOneOf t xs

  -- the weights of the tickets, added up
  abbrev pub weigh : (Ticket C → ℕ) → List (Ticket C) → ℕ
  weigh weight [] = 0
  weigh weight (x ∷ xs) = weight x + weigh weight xs

  -- a number of each share, added up
  abbrev pub total : (Share C → ℕ) → List (Share C) → ℕ
  total f [] = 0
  total f (v ∷ vs) = f v + total f vs

  -- the place of each ticket is that in the list
  abbrev pub AreNumbered : List (Ticket C) → Type 0
  AreNumbered all = (i : ℕ) (t : Ticket C) → slice_get all i ≡ Some t → t.at ≡ i

  -- What a seat knows, where these are all tickets, so many of them left the queue, and there are so many seats: a seat with
  -- a part knows all tickets; one without has taken none; who fills the queue is alone; and
  -- what it took has left the queue, each ticket that of its place.
  pub record IsSeated (all : List (Ticket C)) (popped seats : ℕ) (v : Share C) : Type 0 where
    pub knows : 0 < v.parts → v.all ≡ all
    pub idle : v.parts ≡ 0 → v.taken ≡ []
    pub alone : v.fills ≡ true → seats ≡ 1
    pub earlier : (t : Ticket C) → IsOneOf t v.taken → t.at < popped
    pub placed : (t : Ticket C) → IsOneOf t v.taken → slice_get all t.at ≡ Some t

  -- All tickets are those that left the queue and those in it, in order, each with its place; the lists of those taken have
  -- together just those that left.
  pub record IsRuled (items : List (Ticket C)) (shares : List (Share C)) : Type 0 where
    pub all : List (Ticket C)
    pub popped : List (Ticket C)
    pub in_order : all ≡ popped ++ items
    pub numbered : AreNumbered all
    pub parts : total (λ v. v.parts) shares ≡ whole
    pub once : (weight : Ticket C → ℕ) → total (λ v. weigh weight v.taken) shares ≡ weigh weight popped
    pub seated : (seat : ℕ) (v : Share C) → get_elem? shares seat ≡ some v → IsSeated all (length popped) (length shares) v

  abbrev pub share : ℕ → Bool → List (Ticket C) → List (Ticket C) → Share C
  share parts fills all taken = record { parts = parts; fills = fills; all = all; taken = taken }

  abbrev pub first_share : Share C
  first_share = share whole true [] []

  abbrev pub with_pushed : Share C → Ticket C → Share C
  with_pushed v x = share v.parts v.fills (v.all ++ x ∷ []) v.taken

  abbrev pub with_taken : Share C → Ticket C → Share C
  with_taken v x = share v.parts v.fills v.all (v.taken ++ x ∷ [])

  abbrev pub without_part : Share C → Share C
  without_part v = share (v.parts - 1) false v.all v.taken

  abbrev pub one_part : Share C → Share C
  one_part v = share 1 false v.all []

  abbrev pub both : Share C → Share C → Share C
  both v w = share (v.parts + w.parts) v.fills v.all (v.taken ++ w.taken)

  abbrev pub spent : Share C
  spent = share 0 false [] []

  -- a ticket is taken: it is the one at its place, and all that were taken before stood at earlier ones
  pub record Takes (v : Share C) (x : Ticket C) (w : Share C) : Type 0 where
    pub taken : w ≡ with_taken v x
    pub placed : slice_get v.all x.at ≡ Some x
    pub later : (t : Ticket C) → IsOneOf t v.taken → t.at < x.at

  -- what the one with every part took is what left the queue
  pub record HasTakenAll (v : Share C) (items : List (Ticket C)) : Type 0 where
    pub popped : List (Ticket C)
    pub in_order : v.all ≡ popped ++ items
    pub numbered : AreNumbered v.all
    pub once : (weight : Ticket C → ℕ) → weigh weight v.taken ≡ weigh weight popped
    pub earlier : (t : Ticket C) → IsOneOf t v.taken → t.at < length popped
    pub placed : (t : Ticket C) → IsOneOf t v.taken → slice_get v.all t.at ≡ Some t

-- What a policy was told so far, while a pass asks it.
use Rattle.std.proofs.Common.{◌≡◌, Bool, true, false, List, [], ◌∷◌, ◌++◌, map, flat_map, All, Option, Some, None, IsSome, refl, sym, ap, ◌∙◌, subst, inl, inr, ⊎_elim, append_assoc, append-nil}
use Rattle.std.proofs.lemmas.List.{map-append}
use Rattle.std.proofs.lemmas.List.Elements.{All-nil, All-cons, All-append}
use Rattle.std.proofs.lemmas.List.Concat.{flat_map-append}
use Rattle.shfl_line.specs.declared.choosers.Answer.{Answer}
use Rattle.shfl_line.specs.declared.choosers.Told.{Told}
use Rattle.shfl_line.specs.declared.choosers.Told.TheVariants.{Begun, Answered, Ended}
use Rattle.shfl_line.specs.Policies.{Adds}
use Rattle.shfl_line.specs.Rounds.{IsRound, round_told, TellsInRounds, AsksBy}

pub adds-none : (a : Option (List Told)) → Adds a a []
adds-none None = refl
adds-none (Some l) = inl (ap (λ (z : List Told). Some z) (sym (append-nil l)))

pub adds-more : (a b c : Option (List Told)) (l m : List Told) → Adds a b l → Adds b c m → Adds a c (l ++ m)
adds-more None b c l m one two = subst (λ (z : Option (List Told)). Adds z c m) one two
adds-more (Some k) b c l m one two = ⊎_elim
    (λ h. ⊎_elim (λ g. inl (g ∙ ap (λ (z : List Told). Some z) (append_assoc k l m))) (λ g. inr g) (subst (λ (z : Option (List Told)). Adds z c m) h two))
    (λ h. inr (subst (λ (z : Option (List Told)). Adds z c m) h two))
    one

-- what was said of a round that is open
abbrev pub open_told : List Answer → List Told
open_told [] = []
open_told (a ∷ l) = Begun ∷ map (λ x. Answered x) (a ∷ l)

abbrev pub IsOpen : Bool → List Answer → Type 0
IsOpen true l = IsRound l
IsOpen false l = l ≡ []

abbrev pub all_of : List (List Answer) → List Answer
all_of rounds = flat_map (λ r. r) rounds

-- whole rounds, and the one that is open, if one is
pub record SoFar (open_now : Bool) (answers : List Answer) (old new : Option (List Told)) : Type 0 where
  pub rounds : List (List Answer)
  pub now : List Answer
  pub are : All IsRound rounds
  pub is_open : IsOpen open_now now
  pub whole : answers ≡ all_of rounds ++ now
  pub adds : Adds old new (flat_map round_told rounds ++ open_told now)

pub so-far-none : (a : Option (List Told)) → SoFar false [] a a
so-far-none a = record { rounds = []; now = []; are = All-nil IsRound; is_open = refl; whole = refl; adds = adds-none a }

-- nothing is asked
pub so-far-same : (b : Bool) (xs : List Answer) (old mid new : Option (List Told)) → SoFar b xs old mid → Adds mid new [] → SoFar b xs old new
so-far-same b xs old mid new s add = record {
  rounds = s.rounds;
  now = s.now;
  are = s.are;
  is_open = s.is_open;
  whole = s.whole;
  adds = subst (Adds old new) (append-nil (flat_map round_told s.rounds ++ open_told s.now)) (adds-more old mid new (flat_map round_told s.rounds ++ open_told s.now) [] s.adds add);
}

-- the first question of a round
pub so-far-first : (xs : List Answer) (a : Answer) (old mid new : Option (List Told)) → SoFar false xs old mid → a.waiter ≡ None → Adds mid new (Begun ∷ Answered a ∷ []) → SoFar true (xs ++ a ∷ []) old new
so-far-first xs a old mid new s skips add = record {
  rounds = s.rounds;
  now = a ∷ [];
  are = s.are;
  is_open = (skips, All-nil (λ b. IsSome b.waiter));
  whole = ap (λ l. l ++ a ∷ []) (s.whole ∙ (ap (λ l. all_of s.rounds ++ l) s.is_open ∙ append-nil (all_of s.rounds)));
  adds = subst (Adds old new)
      (ap (λ l. l ++ Begun ∷ Answered a ∷ []) (ap (λ l. flat_map round_told s.rounds ++ open_told l) s.is_open ∙ append-nil (flat_map round_told s.rounds)))
      (adds-more old mid new (flat_map round_told s.rounds ++ open_told s.now) (Begun ∷ Answered a ∷ []) s.adds add);
}

longer : (l : List Answer) (a : Answer) → IsRound l → IsSome a.waiter → IsRound (l ++ a ∷ [])
longer [] a r w = absurd r
longer (x ∷ l) a r w = (r.0, All-append (λ b. IsSome b.waiter) l (a ∷ []) r.1 (All-cons (λ b. IsSome b.waiter) a [] w (All-nil (λ b. IsSome b.waiter))))

longer-told : (l : List Answer) (a : Answer) → IsRound l → open_told l ++ Answered a ∷ [] ≡ open_told (l ++ a ∷ [])
longer-told [] a r = absurd r
longer-told (x ∷ l) a r = ap (λ k. Begun ∷ Answered x ∷ k) (sym (map-append (λ y. Answered y) l (a ∷ [])))

-- a question about a waiter, within a round
pub so-far-next : (xs : List Answer) (a : Answer) (old mid new : Option (List Told)) → SoFar true xs old mid → IsSome a.waiter → Adds mid new (Answered a ∷ []) → SoFar true (xs ++ a ∷ []) old new
so-far-next xs a old mid new s moves add = record {
  rounds = s.rounds;
  now = s.now ++ a ∷ [];
  are = s.are;
  is_open = longer s.now a s.is_open moves;
  whole = ap (λ l. l ++ a ∷ []) s.whole ∙ append_assoc (all_of s.rounds) s.now (a ∷ []);
  adds = subst (Adds old new)
      (append_assoc (flat_map round_told s.rounds) (open_told s.now) (Answered a ∷ []) ∙ ap (λ l. flat_map round_told s.rounds ++ l) (longer-told s.now a s.is_open))
      (adds-more old mid new (flat_map round_told s.rounds ++ open_told s.now) (Answered a ∷ []) s.adds add);
}

closed-told : (l : List Answer) → IsRound l → open_told l ++ Ended ∷ [] ≡ round_told l
closed-told [] r = absurd r
closed-told (x ∷ l) r = refl

-- a round ends
pub so-far-ended : (xs : List Answer) (old mid new : Option (List Told)) → SoFar true xs old mid → Adds mid new (Ended ∷ []) → SoFar false xs old new
so-far-ended xs old mid new s add = record {
  rounds = s.rounds ++ s.now ∷ [];
  now = [];
  are = All-append IsRound s.rounds (s.now ∷ []) s.are (All-cons IsRound s.now [] s.is_open (All-nil IsRound));
  is_open = refl;
  whole = s.whole ∙ sym (append-nil (all_of (s.rounds ++ s.now ∷ [])) ∙ (flat_map-append (λ r. r) s.rounds (s.now ∷ []) ∙ ap (λ l. all_of s.rounds ++ l) (append-nil s.now)));
  adds = subst (Adds old new)
      (append_assoc (flat_map round_told s.rounds) (open_told s.now) (Ended ∷ [])
      ∙ (ap (λ l. flat_map round_told s.rounds ++ l) (closed-told s.now s.is_open ∙ sym (append-nil (round_told s.now)))
      ∙ (sym (flat_map-append round_told s.rounds (s.now ∷ [])) ∙ sym (append-nil (flat_map round_told (s.rounds ++ s.now ∷ []))))))
      (adds-more old mid new (flat_map round_told s.rounds ++ open_told s.now) (Ended ∷ []) s.adds add);
}

pub whole-rounds : (xs : List Answer) (old new : Option (List Told)) → SoFar false xs old new → TellsInRounds xs old new
whole-rounds xs old new s = record {
  rounds = s.rounds;
  are = s.are;
  whole = s.whole ∙ (ap (λ l. all_of s.rounds ++ l) s.is_open ∙ append-nil (all_of s.rounds));
  adds = subst (Adds old new) (ap (λ l. flat_map round_told s.rounds ++ open_told l) s.is_open ∙ append-nil (flat_map round_told s.rounds)) s.adds;
}

-- one after another
pub rounds-more : (xs ys : List Answer) (a b c : Option (List Told)) → TellsInRounds xs a b → TellsInRounds ys b c → TellsInRounds (xs ++ ys) a c
rounds-more xs ys a b c one two = record {
  rounds = one.rounds ++ two.rounds;
  are = All-append IsRound one.rounds two.rounds one.are two.are;
  whole = ap (λ l. l ++ ys) one.whole ∙ (ap (λ l. all_of one.rounds ++ l) two.whole ∙ sym (flat_map-append (λ r. r) one.rounds two.rounds));
  adds = subst (Adds a c) (sym (flat_map-append round_told one.rounds two.rounds)) (adds-more a b c (flat_map round_told one.rounds) (flat_map round_told two.rounds) one.adds two.adds);
}

module _ {D : Type 0} (answers : D → List Answer) where
  -- what whoever asks has asked since, and the policy was told so far
  abbrev pub AsksSoFar : Bool → List D → List D → Option (List Told) → Option (List Told) → Type 0
  AsksSoFar b x y old new = (more : List D) × (y ≡ x ++ more) × SoFar b (flat_map answers more) old new

  pub asks-first : (x y : List D) (a : Option (List Told)) → y ≡ x → AsksSoFar false x y a a
  asks-first x y a same = ([], same ∙ sym (append-nil x), so-far-none a)

  -- one step more
  pub asks-more : (b b' : Bool) (x y z m : List D) (old mid new : Option (List Told)) (asked : List Answer) → AsksSoFar b x y old mid → z ≡ y ++ m → flat_map answers m ≡ asked
      → ((xs : List Answer) → SoFar b xs old mid → SoFar b' (xs ++ asked) old new) → AsksSoFar b' x z old new
  asks-more b b' x y z m old mid new asked one is says step = (
    one.0 ++ m,
    is ∙ (ap (λ l. l ++ m) one.1 ∙ append_assoc x one.0 m),
    subst (λ l. SoFar b' l old new) (sym (flat_map-append answers one.0 m ∙ ap (λ l. flat_map answers one.0 ++ l) says)) (step (flat_map answers one.0) one.2),
  )

  pub asks-whole : (x y : List D) (old new : Option (List Told)) → AsksSoFar false x y old new → AsksBy answers x y old new
  asks-whole x y old new s = (s.0, s.1, whole-rounds (flat_map answers s.0) old new s.2)

  -- nothing was asked
  pub asks-nothing : (x y : List D) (a : Option (List Told)) → y ≡ x → AsksBy answers x y a a
  asks-nothing x y a same = asks-whole x y a a (asks-first x y a same)

  -- what was asked in one call after another
  pub asks-on : (x y z : List D) (a b c : Option (List Told)) → AsksBy answers x y a b → AsksBy answers y z b c → AsksBy answers x z a c
  asks-on x y z a b c one two = (
    one.0 ++ two.0,
    two.1 ∙ (ap (λ l. l ++ two.0) one.1 ∙ append_assoc x one.0 two.0),
    subst (λ l. TellsInRounds l a c) (sym (flat_map-append answers one.0 two.0)) (rounds-more (flat_map answers one.0) (flat_map answers two.0) a b c one.2 two.2),
  )

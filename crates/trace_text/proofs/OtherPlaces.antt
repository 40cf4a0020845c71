-- Calls by other places of the same names.
use Rattle.std.proofs.Common.{◌≡◌, ℕ, ◌+◌, ◌<◌, ◌≤◌, List, [], ◌∷◌, ◌++◌, length, map, get_or, set, take, drop, refl, sym, ap, ◌∙◌, subst, arith}
use Rattle.std.specs.Prelude.{slice_index}
use Rattle.std.specs.List.{AllByRecursion}
use Rattle.std.proofs.lemmas.List.{append-nil, append_assoc, drop_more, drop_all, drop-set-lt, take_more_set, take_all, map-append, length-set}
use Rattle.trace_text.specs.declared.trace.TraceCall.{TraceCall}
use Rattle.trace_text.specs.Traces.{call_of, IsCallOf}
use Rattle.name_order.specs.Names.{name_at}
use Rattle.name_order.specs.Places.{ArePlaces}
use Rattle.name_order.proofs.Placing.{all-push}

-- the name of a call is the one at its other place
pub other_name : (names others : List (List ℕ)) (places : List ℕ) (k : ℕ) → ArePlaces names others places → k < length places → name_at others (slice_index places k) ≡ name_at names k
other_name names others places k a lt = (a.each k (omega (arith, a.many, lt))).1

pub other_within : (names others : List (List ℕ)) (places : List ℕ) (k : ℕ) → ArePlaces names others places → k < length places → slice_index places k < length others
other_within names others places k a lt = (a.each k (omega (arith, a.many, lt))).0

-- the calls before `k` have their other places
pub record Renumbers (workers policies : ℕ) (places : List ℕ) (calls : List TraceCall) (k : ℕ) (now : List TraceCall) : Type 0 where
  pub long : length now ≡ length calls
  pub said : (names others of : List (List ℕ)) → ArePlaces names others places → map (call_of others of) (take k now) ++ map (call_of names of) (drop k now) ≡ map (call_of names of) calls
  pub named : (names others : List (List ℕ)) → ArePlaces names others places → AllByRecursion (IsCallOf workers (length others) policies) (take k now)
  pub left : AllByRecursion (IsCallOf workers (length places) policies) (drop k now)

pub renumbers-start : (workers policies : ℕ) (places : List ℕ) (calls : List TraceCall) → AllByRecursion (IsCallOf workers (length places) policies) calls → Renumbers workers policies places calls 0 calls
renumbers-start workers policies places calls h = record { long = refl; said = λ names others of a. refl; named = λ names others a. tt; left = h }

module _ (workers policies : ℕ) (places : List ℕ) (calls : List TraceCall) (k : ℕ) (now : List TraceCall) (d : TraceCall) (lt : k < length now) where
  -- the next call
  pub next-left : Renumbers workers policies places calls k now → IsCallOf workers (length places) policies (get_or now k d)
  next-left r = (subst (AllByRecursion (IsCallOf workers (length places) policies)) (drop_more now k d lt) r.left).0

  pub renumbers-more : (c : TraceCall) → ((names others of : List (List ℕ)) → ArePlaces names others places → call_of others of c ≡ call_of names of (get_or now k d))
      → ((names others : List (List ℕ)) → ArePlaces names others places → IsCallOf workers (length others) policies c) → Renumbers workers policies places calls k now → Renumbers workers policies places calls (k + 1) (set now k c)
  renumbers-more c said named r = record {
    long = length-set now k c ∙ r.long;
    said = λ names others of a.
        (λ j. map (call_of others of) (take_more_set now k c lt j) ++ map (call_of names of) (drop-set-lt (k + 1) now k c (omega arith) j))
        ∙ (λ j. map-append (call_of others of) (take k now) (c ∷ []) j ++ map (call_of names of) (drop (k + 1) now))
        ∙ append_assoc (map (call_of others of) (take k now)) (call_of others of c ∷ []) (map (call_of names of) (drop (k + 1) now))
        ∙ (λ j. map (call_of others of) (take k now) ++ said names others of a j ∷ map (call_of names of) (drop (k + 1) now))
        ∙ sym (ap (λ (l : List TraceCall). map (call_of others of) (take k now) ++ map (call_of names of) l) (drop_more now k d lt))
        ∙ r.said names others of a;
    named = λ names others a. subst (AllByRecursion (IsCallOf workers (length others) policies)) (sym (take_more_set now k c lt)) (all-push (IsCallOf workers (length others) policies) (take k now) c (r.named names others a) (named names others a));
    left = subst (AllByRecursion (IsCallOf workers (length places) policies)) (sym (drop-set-lt (k + 1) now k c (omega arith)))
        (subst (AllByRecursion (IsCallOf workers (length places) policies)) (drop_more now k d lt) r.left).1;
  }

-- all have theirs
module _ (workers policies : ℕ) (places : List ℕ) (calls : List TraceCall) (k : ℕ) (now : List TraceCall) (all : length now ≤ k) (r : Renumbers workers policies places calls k now) where
  pub renumbers-said : (names others of : List (List ℕ)) → ArePlaces names others places → map (call_of others of) now ≡ map (call_of names of) calls
  renumbers-said names others of a =
      sym (append-nil (map (call_of others of) now))
      ∙ sym (λ j. map (call_of others of) (take_all k now all j) ++ map (call_of names of) (drop_all k now all j))
      ∙ r.said names others of a

  pub renumbers-named : (names others : List (List ℕ)) → ArePlaces names others places → AllByRecursion (IsCallOf workers (length others) policies) now
  renumbers-named names others a = subst (AllByRecursion (IsCallOf workers (length others) policies)) (take_all k now all) (r.named names others a)

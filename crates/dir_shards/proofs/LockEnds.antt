-- Passes that give their locks back, one lock after another.
use Rattle.std.proofs.Common.{◌≡◌, ◌≢◌, ℕ, ◌+◌, ◌-◌, ◌<◌, ◌≤◌, List, [], ◌∷◌, ◌++◌, map, set, take, length, get_or, Contains, Some, slice_get, refl, sym, ap, ◌∙◌, subst, arith, inl, inr, length-append}
use Rattle.std.proofs.lemmas.Option.{same_Some, slice_get_within, slice_get-get_or, slice_get-map, get_or_from_slice_get}
use Rattle.std.specs.Option.{option_map}
use Rattle.std.proofs.lemmas.List.{length-map, length-set, take-append-le}
use Rattle.std.proofs.Math.Seq.{take-length}
use native.Mathlib.Decide.{dec_le}
use Rattle.shfl_table.specs.declared.view.Given.{Given}
use Rattle.shfl_table.specs.Views.{IsAmong}
use Rattle.shfl_table.specs.Places.{Every}
use Rattle.dir_shards.specs.ShardPasses.{ShardPassModel, AreAll, AreInOrder, without_last}
use Rattle.dir_shards.specs.Closings.{without_locks}
use Rattle.dir_shards.proofs.Places.{got_here, got_other, got_map, mapped}

pub take_front : {A : Type 0} (xs rest : List A) (x : A) → xs ≡ rest ++ x ∷ [] → take (length xs - 1) xs ≡ rest
take_front xs rest x is =
    let long = ap length is in let more = length-append rest (x ∷ []) in
    let fewer : length xs - 1 ≡ length rest = omega arith in
    (λ i. take (fewer i) (is i)) ∙ (take-append-le (length rest) rest (x ∷ []) (omega arith) ∙ take-length rest)

-- of the passes `before`, those below this place have one lock less
pub record AreShorter (place : ℕ) (before now : List ShardPassModel) : Type 0 where
  pub long : length now ≡ length before
  pub done : (k : ℕ) (p : ShardPassModel) → k < place → slice_get before k ≡ Some p → slice_get now k ≡ Some (without_last p)
  pub ahead : (k : ℕ) (p : ShardPassModel) → place ≤ k → slice_get before k ≡ Some p → slice_get now k ≡ Some p

pub shorter_more : (place : ℕ) (before now : List ShardPassModel) (old new : ShardPassModel) → AreShorter place before now → slice_get before place ≡ Some old → new ≡ without_last old
    → AreShorter (place + 1) before (set now place new)
shorter_more place before now old new shorter was is = record {
  long = length-set now place new ∙ shorter.long;
  done = λ k p below at. elim (dec_le place k) [
    | yes high ↦
        let here : k ≡ place = omega arith in
        let same : p ≡ old = same_Some p old (sym at ∙ ap (slice_get before) here ∙ was) in
        ap (slice_get (set now place new)) here ∙ (got_here now place new (let within = slice_get_within before place old was in let l = shorter.long in omega arith) ∙ ap Some (is ∙ ap without_last (sym same)))
    | no low ↦ got_other now place k new (λ e. absurd (omega arith)) ∙ shorter.done k p (omega arith) at
  ];
  ahead = λ k p above at. got_other now place k new (λ e. absurd (omega arith)) ∙ shorter.ahead k p (omega arith) at;
}

pub none_shorter : (before : List ShardPassModel) → AreShorter 0 before before
none_shorter before = record { long = refl; done = λ k p below at. absurd (omega arith); ahead = λ k p above at. at }

pub all_shorter : (place : ℕ) (before now : List ShardPassModel) → length before ≤ place → AreShorter place before now → now ≡ map without_last before
all_shorter place before now end shorter = mapped without_last now before shorter.long (λ k p is. shorter.done k p (let within = slice_get_within before k p is in omega arith) is)

-- the passes below this place were given back
pub record AreBack (place : ℕ) (before : List ShardPassModel) (back : List Given) : Type 0 where
  pub each : (k : ℕ) (p : ShardPassModel) → k < place → slice_get before k ≡ Some p → IsAmong (record { number = p.number; history = [] }) back

pub back_more : (place : ℕ) (before : List ShardPassModel) (back : List Given) (old : ShardPassModel) (given : Given) → AreBack place before back → slice_get before place ≡ Some old
    → given ≡ record { number = old.number; history = [] } → AreBack (place + 1) before (given ∷ back)
back_more place before back old given are was is = record {
  each = λ k p below at. elim (dec_le place k) [
    | yes high ↦
        let here : k ≡ place = omega arith in
        let same : p ≡ old = same_Some p old (sym at ∙ ap (slice_get before) here ∙ was) in
        inl (ap (λ (z : ShardPassModel). record { number = z.number; history = [] }) same ∙ sym is)
    | no low ↦ inr (are.each k p (omega arith) at)
  ];
}

pub none_back : (before : List ShardPassModel) → AreBack 0 before []
none_back before = record { each = λ k p below at. absurd (omega arith) }

-- the pass of a number
pub of_number : (passes : List ShardPassModel) (k : ℕ) → Contains (map (λ p. p.number) passes) k → (i : ℕ) × (p : ShardPassModel) × (slice_get passes i ≡ Some p) × (p.number ≡ k)
of_number passes k has =
    let got = got_map (λ (p : ShardPassModel). p.number) passes has.0 k (slice_get-get_or (map (λ (p : ShardPassModel). p.number) passes) has.0 k has.1 ∙ ap Some has.2) in
    (has.0, got.0, got.1, sym got.2)

pub all_back : (place count : ℕ) (before : List ShardPassModel) (back : List Given) → length before ≤ place → AreAll count before → AreBack place before back
    → (k : ℕ) → k < count → (g : Given) × IsAmong g back × (g.number ≡ k)
all_back place count before back end all are k below =
    let found = of_number before k (all k below) in let within = slice_get_within before found.0 found.1 found.2 in
    (record { number = found.1.number; history = [] }, are.each found.0 found.1 (omega arith) found.2, found.3)

-- the last of a list is such as all are
pub last_of : {X : Type 0} (P : X → Type 0) (xs rest : List X) (x : X) → Every P xs → xs ≡ rest ++ x ∷ [] → P x
last_of P [] rest x each is = absurd (let long = ap length is in let more = length-append rest (x ∷ []) in omega arith)
last_of P (y ∷ ys) [] x each is = let same : y ≡ x = cc in subst P same each.0
last_of P (y ∷ ys) (z ∷ zs) x each is = let same : ys ≡ zs ++ x ∷ [] = cc in last_of P ys zs x each.1 same

pub without_any : (passes : List ShardPassModel) → map without_locks (map without_last passes) ≡ map without_locks passes
without_any [] = refl
without_any (p ∷ ps) = λ i. without_locks p ∷ without_any ps i

-- their numbers are the same without their locks
pub numbers_same : (old new : List ShardPassModel) → map without_locks new ≡ map without_locks old → map (λ p. p.number) new ≡ map (λ p. p.number) old
numbers_same [] [] same = refl
numbers_same [] (q ∷ qs) same = absurd (cc)
numbers_same (p ∷ ps) [] same = absurd (cc)
numbers_same (p ∷ ps) (q ∷ qs) same =
    let here : without_locks q ≡ without_locks p = cc in let rest : map without_locks qs ≡ map without_locks ps = cc in
    λ i. (here i).number ∷ numbers_same ps qs rest i

pub now_is : (place : ℕ) (before now : List ShardPassModel) (d : ShardPassModel) → AreShorter place before now → place < length before → get_or now place d ≡ get_or before place d
now_is place before now d shorter within = get_or_from_slice_get now place _ d (shorter.ahead place _ (omega arith) (slice_get-get_or before place d within))

-- passes in the order of their numbers are all, where they are as many
pub all_in_order : (count : ℕ) (passes : List ShardPassModel) → length passes ≡ count → AreInOrder passes → AreAll count passes
all_in_order count [] long order k below = absurd (omega arith)
all_in_order count (p ∷ ps) long order k below =
    let within : k < length (p ∷ ps) = omega arith in (
      k,
      (let l = length-map (p ∷ ps) (λ (z : ShardPassModel). z.number) in omega arith),
      get_or_from_slice_get (map (λ (z : ShardPassModel). z.number) (p ∷ ps)) k (get_or (p ∷ ps) k p).number k
          (slice_get-map (λ (z : ShardPassModel). z.number) (p ∷ ps) k ∙ ap (option_map (λ (z : ShardPassModel). z.number)) (slice_get-get_or (p ∷ ps) k p within))
          ∙ order k p within,
    )

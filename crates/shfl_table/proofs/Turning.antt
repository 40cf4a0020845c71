-- One place among those that a pass has.
use Rattle.std.proofs.Common.{◌≡◌, ℕ, ◌+◌, ◌<◌, List, [], ◌∷◌, ◌++◌, length, set, slice_get, length-set, sym, refl, ap, ◌∙◌, subst, arith, Option, Some, None, true, false, cond}
use Rattle.shfl_line.specs.declared.events.Mode.{Mode}
use Rattle.shfl_line.specs.declared.events.Mode.TheVariants.{Write, Read}
use Rattle.shfl_core.specs.Plan.{is_held}
use Rattle.shfl_core.specs.Phases.{is_holding}
use Rattle.shfl_core.specs.declared.phase.Phase.{Phase}
use Rattle.shfl_core.specs.declared.phase.Phase.TheVariants.{Held}
use Rattle.shfl_core.specs.declared.phase.PassState.{PassState}
use Rattle.shfl_table.specs.declared.kept.Action.{Action}
use Rattle.shfl_table.specs.declared.view.View.{View}
use Rattle.shfl_laws.specs.Holds.{hold_of, is_releasing}
use Rattle.shfl_table.specs.Places.{first_place, place_count, place_index, Every, numbered, turns, values_of}
use Rattle.shfl_table.specs.PassInvariant.{Carries, IsGoodUnder}
use Rattle.shfl_table.proofs.Places.{turns_to, values_numbered, parted, every_set, every_at}

module _ {S : Type 0} where
  pub turned_to : (n : ℕ) (c d a b : List (ℕ × S)) (z : ℕ × S) → d ≡ turns n c → c ≡ a ++ z ∷ b → length a ≡ n → d ≡ z ∷ (b ++ a)
  turned_to n c d a b z e is here = e ∙ (ap (turns n) is ∙ (ap (λ (m : ℕ). turns m (a ++ z ∷ b)) (sym here) ∙ turns_to a (z ∷ b)))

  pub turned_back : (n : ℕ) (c d a b : List (ℕ × S)) (z : ℕ × S) → d ≡ turns n c → c ≡ z ∷ (b ++ a) → length b + 1 ≡ n → d ≡ a ++ z ∷ b
  turned_back n c d a b z e is left = let m : n ≡ length (z ∷ b) = omega arith in e ∙ (ap (turns n) is ∙ (ap (λ (m : ℕ). turns m (z ∷ (b ++ a))) m ∙ turns_to (z ∷ b) a))

  value_or : S → List (ℕ × S) → S
  value_or d [] = d
  value_or d (z ∷ zs) = z.1

  pub first_value : (k : ℕ) (x y : S) (l m : List (ℕ × S)) → (k, x) ∷ l ≡ (k, y) ∷ m → x ≡ y
  unfolding value_or
  first_value k x y l m e = ap (value_or x) e

held-is : (f : Phase) → is_held f ≡ true → f ≡ Held
held-is f e = grind arith

module _ {X : Type 0} (initial_state : X → List ℕ) (history : X → List Action) (slots : ℕ) (own : PassState) (v : View) (c : List (ℕ × Option X)) (car : Carries initial_state history slots own v c) (place : ℕ) (y : Option X) where
  pub record Entry : Type 0 where
    pub before : List (ℕ × Option X)
    pub after : List (ℕ × Option X)
    pub is : c ≡ before ++ (place, y) ∷ after
    pub here : length before ≡ place_index own.reg.mode place
    pub small : own.reg.mode ≡ Write → place < slots
    pub left : (n : ℕ) → (own.reg.mode ≡ Write → place_index own.reg.mode place + n ≡ slots) → (own.reg.mode ≡ Read → place_index own.reg.mode place + n ≡ 1) → length after + 1 ≡ n
    pub good : IsGoodUnder initial_state history v.initial_state (Some own.reg.mode) own.reg.me v.history y
    pub other : (z : Option X) → IsGoodUnder initial_state history v.initial_state (Some own.reg.mode) own.reg.me v.history z → (d : List (ℕ × Option X)) → d ≡ before ++ (place, z) ∷ after → Carries initial_state history slots own v d × (values_of d ≡ set (values_of c) (place_index own.reg.mode place) z)

  module _ (held : is_held own.phase ≡ true) where
    holds : hold_of own ≡ Some own.reg.mode
    holds = ap (λ (f : Phase). cond (is_holding f) (Some own.reg.mode) None) (held-is own.phase held)

    stays : is_releasing own.phase ≡ true → ⊥
    stays l = let z : is_releasing own.phase ≡ false = ap is_releasing (held-is own.phase held) in let x : true ≡ false = sym l ∙ z in cc

    vs : values_of c ≡ car.values
    vs = ap values_of car.is ∙ values_numbered (first_place (hold_of own) own.reg.me) car.values

    is-so : (m : Mode) → own.reg.mode ≡ m → c ≡ numbered (first_place (Some m) own.reg.me) car.values
    is-so m e = car.is ∙ ap (λ h. numbered (first_place h own.reg.me) car.values) (holds ∙ ap Some e)

    long-so : (m : Mode) → own.reg.mode ≡ m → length car.values ≡ place_count (Some m) own.reg.me slots
    long-so m e = car.long ∙ ap (λ h. place_count h own.reg.me slots) (holds ∙ ap Some e)

    good-so : Every (IsGoodUnder initial_state history v.initial_state (Some own.reg.mode) own.reg.me v.history) car.values
    good-so = subst (λ (h : Option Mode). Every (IsGoodUnder initial_state history v.initial_state h own.reg.me v.history) car.values) holds car.good

    entry_at : (m : Mode) → own.reg.mode ≡ m → first_place (Some m) own.reg.me + place_index m place ≡ place
        → ((n k : ℕ) → place_index m place + k ≡ place_count (Some m) own.reg.me slots → (m ≡ Write → place_index m place + n ≡ slots) → (m ≡ Read → place_index m place + n ≡ 1) → k ≡ n) → ((k : ℕ) → place_index m place + (k + 1) ≡ place_count (Some m) own.reg.me slots → m ≡ Write → place < slots)
        → slice_get (values_of c) (place_index m place) ≡ Some y → Entry
    entry_at m e sums same_left small at = let e' : slice_get car.values (place_index m place) ≡ Some y = ap (λ (l : List (Option X)). slice_get l (place_index m place)) (sym vs) ∙ at in
        let q = parted (first_place (Some m) own.reg.me) car.values (place_index m place) y e' in let long = long-so m e in record {
          before = q.before;
          after = q.after;
          is = is-so m e ∙ (q.is ∙ ap (λ (k : ℕ). q.before ++ (k, y) ∷ q.after) sums);
          here = q.here ∙ ap (λ z. place_index z place) (sym e);
          small = λ w. small (length q.after) (q.long ∙ long) (sym e ∙ w);
          left = λ n writes reads. same_left n (length q.after + 1) (q.long ∙ long) (λ w. ap (λ z. place_index z place + n) (sym e) ∙ writes (e ∙ w)) (λ w. ap (λ z. place_index z place + n) (sym e) ∙ reads (e ∙ w));
          good = every_at (IsGoodUnder initial_state history v.initial_state (Some own.reg.mode) own.reg.me v.history) car.values (place_index m place) y good-so e';
          other = λ z fine d is. let d_is : d ≡ numbered (first_place (Some m) own.reg.me) (set car.values (place_index m place) z) = is ∙ (ap (λ (k : ℕ). q.before ++ (k, z) ∷ q.after) (sym sums) ∙ sym (q.other z)) in (
            record {
              values = set car.values (place_index m place) z;
              is = d_is ∙ ap (λ h. numbered (first_place h own.reg.me) (set car.values (place_index m place) z)) (sym (holds ∙ ap Some e));
              long = length-set car.values (place_index m place) z ∙ car.long;
              good = subst (λ (h : Option Mode). Every (IsGoodUnder initial_state history v.initial_state h own.reg.me v.history) (set car.values (place_index m place) z)) (sym holds) (every_set (IsGoodUnder initial_state history v.initial_state (Some own.reg.mode) own.reg.me v.history) car.values (place_index m place) z good-so fine);
              leaving = λ l. absurd (stays l);
            },
            ap values_of d_is ∙ (values_numbered (first_place (Some m) own.reg.me) (set car.values (place_index m place) z) ∙ ((λ j. set (sym vs j) (place_index (sym e j) place) z))),
          );
        }

    some_there : (l : List (Option X)) → slice_get l 0 ≡ Some y → 0 < length l
    some_there [] e = absurd (cc)
    some_there (x ∷ xs) e = omega arith

    pub entry : (own.reg.mode ≡ Read → place ≡ own.reg.me) → slice_get (values_of c) (place_index own.reg.mode place) ≡ Some y → Entry
    entry mine at = by own.reg.mode refl
      where
        by : (m : Mode) → own.reg.mode ≡ m → Entry
        by Write e = entry_at Write e (omega arith) (λ n k long writes reads. let w = writes refl in omega arith) (λ k long _. omega arith) (ap (λ z. slice_get (values_of c) (place_index z place)) (sym e) ∙ at)
        by Read e = let o = mine e in let at' : slice_get (values_of c) 0 ≡ Some y = ap (λ z. slice_get (values_of c) (place_index z place)) (sym e) ∙ at in
            let some_one = some_there (values_of c) at' in let l = ap length vs ∙ long-so Read e in
            entry_at Read e (omega arith) (λ n k long writes reads. let w = reads refl in omega arith) (λ k long no. absurd (cc)) at'

pub some_same : {X : Type 0} (x y : X) → Some x ≡ Some y → x ≡ y
some_same x y e = cc

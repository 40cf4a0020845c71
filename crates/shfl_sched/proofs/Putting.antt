-- Texts that are written within a room, one behind the other.
use Rattle.std.proofs.Common.{◌≡◌, ℕ, suc, ◌+◌, ◌*◌, ◌<◌, ◌≤◌, List, [], ◌∷◌, ◌++◌, Vec, vec_capacity, length, length-append, append_assoc, append-nil, map, get_or, drop, drop-cons, add-one, refl, sym, ap, ◌∙◌, arith}
use Rattle.std.specs.declared.alloc.Global.{Global}
use Rattle.std.proofs.lemmas.List.{drop_all}
use Rattle.shfl_sched.specs.ReportParts.{listed, more_parts}
use Rattle.shfl_sched.specs.Room.{Puts}

-- one text behind another
pub puts_more : (a b c : Vec ℕ Global) (x y : List ℕ) (m n : ℕ) → Puts a b x m → Puts b c y n → Puts a c (x ++ y) (m + n)
puts_more a b c x y m n first second = record {
  few = let e = length-append x y in let f = first.few in let s = second.few in omega (arith, e, f, s);
  written = λ room.
      let one = first.written (omega (arith, room)) in
      let long : length b.items ≡ length a.items + length x = ap (λ (l : List ℕ). length l) one ∙ length-append a.items x in
      let f = first.few in
      let k = first.kept in
      second.written (omega (arith, long, f, k, room)) ∙ ap (λ (l : List ℕ). l ++ y) one ∙ append_assoc a.items x y;
  kept = let f = first.kept in let s = second.kept in omega (arith, f, s);
}

-- the same text, in a larger room
pub puts_as : (a b : Vec ℕ Global) (x y : List ℕ) (m n : ℕ) → x ≡ y → m ≤ n → Puts a b x m → Puts a b y n
puts_as a b x y m n same more put = record {
  few = let f = put.few in rw (sym same) (omega (arith, more, f));
  written = λ room. put.written (omega (arith, more, room)) ∙ ap (λ (l : List ℕ). a.items ++ l) same;
  kept = put.kept;
}

-- what is written into an empty room
pub puts_alone : (a b : Vec ℕ Global) (x : List ℕ) (m n : ℕ) → a.items ≡ [] → m ≤ n → n ≤ vec_capacity a → Puts a b x m → b.items ≡ x
puts_alone a b x m n empty most room put =
    let none = ap (λ (l : List ℕ). length l) empty in
    put.written (omega (arith, none, most, room)) ∙ ap (λ (l : List ℕ). l ++ x) empty

-- six texts behind another, one by one
pub one_by_one : (a l q h k r t : List ℕ) → a ++ (l ++ q ++ h ++ k ++ r ++ t) ≡ a ++ l ++ q ++ h ++ k ++ r ++ t
one_by_one a l q h k r t =
    let two = sym (append_assoc a l q) in
    let three = sym (append_assoc a (l ++ q) h) ∙ ap (λ (x : List ℕ). x ++ h) two in
    let four = sym (append_assoc a (l ++ q ++ h) k) ∙ ap (λ (x : List ℕ). x ++ k) three in
    let five = sym (append_assoc a (l ++ q ++ h ++ k) r) ∙ ap (λ (x : List ℕ). x ++ r) four in
    sym (append_assoc a (l ++ q ++ h ++ k ++ r) t) ∙ ap (λ (x : List ℕ). x ++ t) five

-- a list of parts with commas between them, of which so many are written behind the first
pub record Listing {A : Type 0} (f : A → List ℕ) (most : ℕ) (before after : Vec ℕ Global) (all others : List A) (i : ℕ) : Type 0 where
  pub text : List ℕ
  pub put : Puts before after text (most + (most + 1) * i)
  pub left : text ++ more_parts (map f (drop i others)) ≡ listed (map f all)

module _ {A : Type 0} (f : A → List ℕ) (most : ℕ) (before : Vec ℕ Global) (all others : List A) where
  pub listing_begins : (after : Vec ℕ Global) (x : A) → all ≡ x ∷ others → Puts before after (f x) most → Listing f most before after all others 0
  listing_begins after x is put = record {
    text = f x;
    put = puts_as before after (f x) (f x) most (most + (most + 1) * 0) refl (omega arith) put;
    left = rw is refl;
  }

  pub listing_goes_on : (a b c : Vec ℕ Global) (i : ℕ) (d : A) → i < length others → Listing f most before a all others i → Puts a b (44 ∷ []) 1
      → Puts b c (f (get_or others i d)) most → Listing f most before c all others (i + 1)
  listing_goes_on a b c i d inside so_far comma part = let step : drop i others ≡ get_or others i d ∷ drop (i + 1) others = rw add-one (drop-cons others i d inside) in record {
    text = so_far.text ++ 44 ∷ f (get_or others i d);
    put = puts_as before c _ _ _ (most + (most + 1) * (i + 1)) refl (omega arith)
        (puts_more before a c so_far.text (44 ∷ f (get_or others i d)) (most + (most + 1) * i) (1 + most) so_far.put (puts_more a b c (44 ∷ []) (f (get_or others i d)) 1 most comma part));
    left = append_assoc so_far.text _ _ ∙ (rw step at so_far.left);
  }

  pub listing_ends : (after : Vec ℕ Global) (x : A) (i : ℕ) → all ≡ x ∷ others → i ≡ length others → Listing f most before after all others i
      → Puts before after (listed (map f all)) (1 + (most + 1) * length all)
  listing_ends after x i is at_end so_far =
      let none : drop i others ≡ [] = drop_all i others (omega (arith, at_end)) in
      let whole : so_far.text ≡ listed (map f all) = sym (append-nil so_far.text) ∙ (rw none at so_far.left) in
      let long : length all ≡ suc (length others) = ap (λ (l : List A). length l) is in
      puts_as before after _ _ _ _ whole (rw (long, at_end) (omega arith)) so_far.put

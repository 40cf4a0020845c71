-- Declarations in order of their names: what stands between, before and behind.
use Rattle.std.proofs.Common.{◌≡◌, ℕ, ◌<◌, ◌≤◌, List, length, get_or, Bool, true, false, refl, sym, ap, ◌∙◌, subst, arith}
use Rattle.std.specs.Cmp.{IsTotalOrder, IsStrictWeakOrder}
use Rattle.std.specs.Cmp.Lexicographic.{slice_cmp}
use Rattle.std.specs.Ordering.{nat_cmp, ordering_then, ordering_reverse, is_lt}
use Rattle.std.specs.declared.cmp.Ordering.{Ordering}
use Rattle.std.specs.declared.cmp.Ordering.TheVariants.{Less, Equal, Greater}
use Rattle.std.proofs.lemmas.Bool.Decides.{nat_tests}
use Rattle.std.proofs.lemmas.Cmp.{nat_cmp_total, nat_list_cmp_total, on_total, then_total, tied_itself}
use Rattle.std.proofs.lemmas.List.Sorted.{ranks_by, sorted_far}
use Rattle.std.proofs.lemmas.Map.Lookups.{exact_bytes}
use Rattle.bpf_asm.specs.declared.names.Declared.{Declared}
use Rattle.bpf_asm.specs.Names.{key_of, rank, whole_rank, is_before, AreInOrder}

-- ---- the first of two answers, and then the second

then_not : (p q : Ordering) → is_lt (ordering_then p q) ≡ false → is_lt p ≡ false
then_not Less q e = e
then_not Equal q e = refl
then_not Greater q e = refl

then_rest : (p q : Ordering) → p ≡ Equal → is_lt (ordering_then p q) ≡ false → is_lt q ≡ false
then_rest p q e h = subst (λ (o : Ordering). is_lt (ordering_then o q) ≡ false) e h

then_equal : (p q : Ordering) → ordering_then p q ≡ Equal → q ≡ Equal
then_equal Less q e = absurd (cc e)
then_equal Equal q e = e
then_equal Greater q e = absurd (cc e)

then_both : (p q r : Ordering) → ordering_then p (ordering_then q r) ≡ ordering_then (ordering_then p q) r
then_both Less q r = refl
then_both Equal q r = refl
then_both Greater q r = refl

level : (o : Ordering) → is_lt o ≡ false → is_lt (ordering_reverse o) ≡ false → o ≡ Equal
level Less p q = absurd (cc p)
level Equal p q = refl
level Greater p q = absurd (cc q)

not_lt : (x y : ℕ) → is_lt (nat_cmp x y) ≡ false → y ≤ x
not_lt x y e = grind (arith, nat_tests)

-- ---- names with their numbers

-- a name with its number
pub record Named : Type 0 where
  pub key : ℕ
  pub name : List ℕ

abbrev pub order : Named → Named → Ordering
order p q = rank p.key p.name q.key q.name

order_total : IsTotalOrder order
order_total = then_total (on_total (λ (p : Named). p.key) nat_cmp_total) (on_total (λ (p : Named). p.name) nat_list_cmp_total)

order_weak : IsStrictWeakOrder (λ (p q : Named). is_lt (order p q))
order_weak = ranks_by order_total (λ (p : Named). p)

-- p stands no later than q
abbrev pub Upto : Named → Named → Type 0
Upto p q = is_lt (order q p) ≡ false

upto_chain : (p q r : Named) → Upto p q → Upto q r → Upto p r
upto_chain p q r a b = order_weak.chain r q p b a

upto_same : (p q : Named) → p ≡ q → Upto p q
upto_same p q e = subst (λ (r : Named). Upto p r) e (ap is_lt (tied_itself order_total p))

same_name : (p q : Named) → Upto p q → Upto q p → p.name ≡ q.name
same_name p q a b =
    let even : order p q ≡ Equal = level (order p q) b (ap is_lt (sym (order_total.antisymm q p)) ∙ a) in
    exact_bytes p.name q.name (then_equal (nat_cmp p.key q.key) (slice_cmp nat_cmp p.name q.name) even)

-- what stands before a name that is before another is before that other
lower_before : (p q r : Named) → Upto p q → is_lt (order q r) ≡ true → is_lt (order p r) ≡ true
lower_before p q r a b = by (is_lt (order p r)) refl
  where
    by : (t : Bool) → is_lt (order p r) ≡ t → is_lt (order p r) ≡ true
    by true e = e
    by false e = let no : is_lt (order q r) ≡ false = order_weak.chain q p r a e in absurd (cc (sym b ∙ no))

-- what stands behind a name that isn't before another isn't before that other
upper_not_before : (p q r : Named) → Upto p q → is_lt (order p r) ≡ false → is_lt (order q r) ≡ false
upper_not_before p q r a b = order_weak.chain q p r a b

-- ---- declarations

abbrev pub named : Declared → Named
named d = record { key = d.key; name = d.name.now }

whole_total : IsTotalOrder whole_rank
whole_total = then_total (on_total (λ (d : Declared). d.key) nat_cmp_total) (then_total (on_total (λ (d : Declared). d.name.now) nat_list_cmp_total)
    (then_total (on_total (λ (d : Declared). d.line) nat_cmp_total) (on_total (λ (d : Declared). d.slot) nat_cmp_total)))

whole_weak : IsStrictWeakOrder (λ (a b : Declared). is_lt (whole_rank a b))
whole_weak = ranks_by whole_total (λ (d : Declared). d)

module _ (ds : List Declared) (order_of : AreInOrder ds) where
  -- by their names, and then by their places
  by_parts : (a b : Declared) → is_lt (whole_rank a b) ≡ false → is_lt (ordering_then (order (named a) (named b)) (ordering_then (nat_cmp a.line b.line) (nat_cmp a.slot b.slot))) ≡ false
  by_parts a b e = ap is_lt (sym (then_both (nat_cmp a.key b.key) (slice_cmp nat_cmp a.name.now b.name.now) (ordering_then (nat_cmp a.line b.line) (nat_cmp a.slot b.slot)))) ∙ e

  sorted_behind : (i j : ℕ) (d : Declared) → i ≤ j → j < length ds
      → is_lt (ordering_then (order (named (get_or ds j d)) (named (get_or ds i d))) (ordering_then (nat_cmp (get_or ds j d).line (get_or ds i d).line) (nat_cmp (get_or ds j d).slot (get_or ds i d).slot))) ≡ false
  sorted_behind i j d below lt = by_parts (get_or ds j d) (get_or ds i d) (sorted_far (λ (a b : Declared). is_lt (whole_rank a b)) whole_weak ds order_of.sorted i j d below lt)

  pub upto_behind : (i j : ℕ) (d : Declared) → i ≤ j → j < length ds → Upto (named (get_or ds i d)) (named (get_or ds j d))
  upto_behind i j d below lt = then_not (order (named (get_or ds j d)) (named (get_or ds i d))) _ (sorted_behind i j d below lt)

  -- one name has one number
  pub named_alike : (i j : ℕ) (d : Declared) → i < length ds → j < length ds → (get_or ds i d).name.now ≡ (get_or ds j d).name.now → named (get_or ds i d) ≡ named (get_or ds j d)
  named_alike i j d in_i in_j e =
      let keys : (get_or ds i d).key ≡ (get_or ds j d).key = order_of.keyed i d in_i ∙ ap key_of e ∙ sym (order_of.keyed j d in_j) in
      ap (λ (k : ℕ). record { key = k; name = (get_or ds i d).name.now }) keys ∙ ap (λ (n : List ℕ). record { key = (get_or ds j d).key; name = n }) e

  -- of two declarations of a name the later one is on no earlier line
  pub lines_rise : (i j : ℕ) (d : Declared) → i ≤ j → j < length ds → (get_or ds i d).name.now ≡ (get_or ds j d).name.now → (get_or ds i d).line ≤ (get_or ds j d).line
  lines_rise i j d below lt e =
      let same : named (get_or ds i d) ≡ named (get_or ds j d) = named_alike i j d (omega arith) lt e in
      let even : order (named (get_or ds j d)) (named (get_or ds i d)) ≡ Equal = ap (λ (p : Named). order (named (get_or ds j d)) p) same ∙ tied_itself order_total (named (get_or ds j d)) in
      let rest = then_rest (order (named (get_or ds j d)) (named (get_or ds i d))) _ even (sorted_behind i j d below lt) in
      not_lt (get_or ds j d).line (get_or ds i d).line (then_not (nat_cmp (get_or ds j d).line (get_or ds i d).line) _ rest)

  -- what stands between two declarations of a name declares it too
  pub name_between : (i k j : ℕ) (d : Declared) → i ≤ k → k ≤ j → j < length ds → (get_or ds i d).name.now ≡ (get_or ds j d).name.now → (get_or ds k d).name.now ≡ (get_or ds j d).name.now
  name_between i k j d low high lt e =
      let same : named (get_or ds j d) ≡ named (get_or ds i d) = sym (named_alike i j d (omega arith) lt e) in
      let back : Upto (named (get_or ds j d)) (named (get_or ds k d)) = upto_chain (named (get_or ds j d)) (named (get_or ds i d)) (named (get_or ds k d)) (upto_same (named (get_or ds j d)) (named (get_or ds i d)) same) (upto_behind i k d low (omega arith)) in
      same_name (named (get_or ds k d)) (named (get_or ds j d)) (upto_behind k j d high lt) back

  -- ---- a search for a name

  module _ (name : List ℕ) where
    abbrev sought : Named
    sought = record { key = key_of name; name = name }

    pub before_up_to : (i k : ℕ) (d : Declared) → i < length ds → k ≤ i → is_before (get_or ds i d) (key_of name) name ≡ true → is_before (get_or ds k d) (key_of name) name ≡ true
    before_up_to i k d lt low e = lower_before (named (get_or ds k d)) (named (get_or ds i d)) sought (upto_behind k i d low lt) e

    pub not_before_from : (i k : ℕ) (d : Declared) → k < length ds → i ≤ k → is_before (get_or ds i d) (key_of name) name ≡ false → is_before (get_or ds k d) (key_of name) name ≡ false
    not_before_from i k d lt low e = upper_not_before (named (get_or ds i d)) (named (get_or ds k d)) sought (upto_behind i k d low lt) e

    is_sought : (k : ℕ) (d : Declared) → k < length ds → (get_or ds k d).name.now ≡ name → named (get_or ds k d) ≡ sought
    is_sought k d lt e =
        let key : (get_or ds k d).key ≡ key_of name = order_of.keyed k d lt ∙ ap key_of e in
        ap (λ (n : ℕ). record { key = n; name = (get_or ds k d).name.now }) key ∙ ap (λ (n : List ℕ). record { key = key_of name; name = n }) e

    -- a declaration of the name isn't before it
    pub own_not_before : (k : ℕ) (d : Declared) → k < length ds → (get_or ds k d).name.now ≡ name → is_before (get_or ds k d) (key_of name) name ≡ false
    own_not_before k d lt e = ap (λ (p : Named). is_lt (order p sought)) (is_sought k d lt e) ∙ ap is_lt (tied_itself order_total sought)

    -- the first declaration that isn't before the name declares it, where any behind it does
    pub first_is : (i k : ℕ) (d : Declared) → k < length ds → i ≤ k → is_before (get_or ds i d) (key_of name) name ≡ false → (get_or ds k d).name.now ≡ name → (get_or ds i d).name.now ≡ name
    first_is i k d lt low e same =
        let up : Upto (named (get_or ds i d)) sought = subst (λ (p : Named). Upto (named (get_or ds i d)) p) (is_sought k d lt same) (upto_behind i k d low lt) in
        same_name (named (get_or ds i d)) sought up e

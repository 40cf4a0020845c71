-- Waiters over plain words: where one stands, and the lock once one has moved.
use Rattle.std.proofs.Common.{◌≡◌, ◌≢◌, ℕ, zero, suc, ◌<◌, ◌≤◌, ◌⊎◌, Bool, true, false, cond, List, [], ◌∷◌, length, set, get_or, length-set, get_or-set_same, get_or-set_other, refl, sym, ap, ◌∙◌, subst, ⊎_elim, arith}
use mathlib.Core.Option.{some, some-injective, some-ne-none}
use lib.ListN.{get_elem?}
use Rattle.shfl_line.specs.declared.events.Mode.{Mode}
use Rattle.shfl_core.specs.declared.phase.PassState.{PassState}
use Rattle.shfl_core.specs.declared.phase.Rules.{Rules}
use Rattle.shfl_core.specs.declared.words.Word.{Word}
use Rattle.shfl_core.specs.declared.words.Word.TheVariants.{Lock as LockWord, Tail, Next, State, Attr, Bell}
use Rattle.shfl_core.specs.declared.words.Access.{Access}
use Rattle.shfl_core.specs.declared.words.Access.TheVariants.{Store}
use Rattle.shfl_core.specs.Words.{index, wide, look, site, put, told, written, NamesPass, is_store, most_passes}
use Rattle.shfl_core.specs.Plan.{plan, moving, is_idle, is_resting}
use Rattle.shfl_core.specs.Take.{take, acquired, released, entry, exit}
use Rattle.shfl_core.specs.Waiting.{Meaning, idle, next_access, takes, acquires, releases, MayFind, MayUse, ask}
use Rattle.shfl_core.specs.Worlds.{known, placed_at, stepped, Acquire, Release, Step}
use Rattle.shfl_core.specs.Bounds.{IsInBounds, LinkBelow}
use Rattle.shfl_core.specs.Runner.{Lock, IsLock, standing, common_rules, seen_lock, moved}
use Rattle.shfl_core.proofs.Lists.{seen-at, at-read, at-set, set-again}
use Rattle.shfl_core.proofs.Bounded.{step-in, in-range, put-in}
use Rattle.shfl_core.proofs.Blind.{store-blind}

-- words lie apart
pub apart : (w v : Word) → index w ≡ index v → w ≡ v
apart LockWord LockWord e = refl
apart Tail Tail e = refl
apart (Next p) (Next q) e = ap Next (omega arith)
apart (State p) (State q) e = ap State (omega arith)
apart (Attr p) (Attr q) e = ap Attr (omega arith)
apart (Bell p) (Bell q) e = ap Bell (omega arith)
apart _ _ e = absurd (omega arith)

same-or : (a b : ℕ) → (a ≡ b) ⊎ (a ≢ b)
same-or a b = grind arith

-- the links once one word was written
links-written : (count : ℕ) (l : List ℕ) (v : Word) (n : ℕ) → index v < length l → LinkBelow count v n → ((w : Word) → LinkBelow count w (look l w)) → (w : Word) → LinkBelow count w (get_or (set l (index v) n) (index w) 0)
links-written count l v n h f all w = ⊎_elim
    (λ e. subst (λ (z : Word). LinkBelow count z (get_or (set l (index v) n) (index z) 0)) (sym (apart w v e)) (subst (LinkBelow count v) (sym (get_or-set_same l (index v) n 0 h)) f))
    (λ d. subst (LinkBelow count w) (sym (get_or-set_other l (index v) (index w) n 0 d)) (all w))
    (same-or (index w) (index v))

module _ {W : Type 0} (f : W → Meaning) where
  standing-set : (l : List W) (i : ℕ) (o : W) → standing f (set l i o) ≡ set (standing f l) i (f o).pass
  standing-set [] i o = refl
  standing-set (x ∷ xs) zero o = refl
  standing-set (x ∷ xs) (suc i) o = ap (λ z. (f x).pass ∷ z) (standing-set xs i o)

  standing-at : (l : List W) (i : ℕ) (o : W) → get_elem? l i ≡ some o → get_elem? (standing f l) i ≡ some (f o).pass
  standing-at [] i o e = absurd (some-ne-none o (sym e))
  standing-at (x ∷ xs) zero o e = ap (λ u. some (f u).pass) (some-injective x o e)
  standing-at (x ∷ xs) (suc i) o e = standing-at xs i o e

  pub standing-long : (l : List W) → length (standing f l) ≡ length l
  standing-long [] = refl
  standing-long (x ∷ xs) = ap suc (standing-long xs)

  rules-set : (l : List W) (i : ℕ) (o o' : W) → get_elem? l i ≡ some o → (f o').rules ≡ (f o).rules → common_rules f (set l i o') ≡ common_rules f l
  rules-set [] i o o' e r = refl
  rules-set (x ∷ xs) zero o o' e r = r ∙ ap (λ u. (f u).rules) (sym (some-injective x o e))
  rules-set (x ∷ xs) (suc i) o o' e r = refl

  -- the waiter that was read
  pub read : (words : List ℕ) (l : List W) (m : Lock) (p : ℕ) (o : W) → seen_lock f words l ≡ m → p < length m.world.passes → o ≡ get_or l p o → get_elem? l p ≡ some o
  read words l m p o is h e = at-read l p o (subst (λ n. p < n) (standing-long l) (subst (λ (z : Lock). p < length z.world.passes) (sym is) h)) ∙ ap some (sym e)

  module _ (words : List ℕ) (l : List W) (k : IsLock f words l) (p : ℕ) (o : W) (at : get_elem? l p ≡ some o) where
    pub known-is : known (standing f l) p ≡ (f o).pass
    known-is = (seen-at (standing f l) p (f o).pass (idle p) (standing-at l p o at)).0

    bounded : IsInBounds (length (standing f l)) p (f o).pass
    bounded = k.bounds.passes p (f o).pass (standing-at l p o at)

    below : p < length (standing f l)
    below = (seen-at (standing f l) p (f o).pass (idle p) (standing-at l p o at)).1

    me-is : (f o).pass.reg.me ≡ p
    me-is = bounded.names.0

    -- a waiter goes on in bounds, over words in bounds
    moved-lock : (words' : List ℕ) (o' : W) (q : PassState) → (f o').pass ≡ q → (f o').rules ≡ (f o).rules → IsInBounds (length (standing f l)) p q → length words' ≡ length words
        → ((v : Word) → LinkBelow (length (standing f l)) v (look words' v)) → IsLock f words' (set l p o')
    moved-lock words' o' q own rules good long links = let e = standing-set l p o' in let n : length (standing f (set l p o')) ≡ length (standing f l) = ap length e ∙ length-set (standing f l) p (f o').pass in record {
      bounds = record {
        room = long ∙ (k.bounds.room ∙ ap wide (sym n));
        few = subst (λ z. z ≤ most_passes) (sym n) k.bounds.few;
        links = λ v. subst (λ z. LinkBelow z v (look words' v)) (sym n) (links v);
        passes = λ i u g. subst (λ z. IsInBounds z i u) (sym n) (⊎_elim
            (λ a. subst (λ (x : ℕ × PassState). IsInBounds (length (standing f l)) x.0 x.1) (λ j. (sym a.0 j, (sym own ∙ a.1) j)) good)
            (λ a. k.bounds.passes i u a)
            (at-set (standing f l) p i (f o').pass u (subst (λ (z : List PassState). get_elem? z i ≡ some u) e g)));
      };
      rules = λ i w g. ⊎_elim
          (λ a. ap (λ u. (f u).rules) (sym a.1) ∙ (rules ∙ (k.rules p o at ∙ sym (rules-set l p o o' at rules))))
          (λ a. k.rules i w a ∙ sym (rules-set l p o o' at rules))
          (at-set l p i o' w g);
    }

    seen-moved : (words' : List ℕ) (o' : W) (q : PassState) → (f o').pass ≡ q → (f o').rules ≡ (f o).rules → seen_lock f words' (set l p o') ≡ record { rules = common_rules f l; world = record { words = words'; passes = set (standing f l) p q } }
    seen-moved words' o' q own rules = λ j. record {
      rules = rules-set l p o o' at rules j;
      world = record { words = words'; passes = (standing-set l p o' ∙ ap (set (standing f l) p) own) j };
    }

    -- acquire and release
    acquired-in : (m : Mode) (q : PassState) (b : Bool) → IsInBounds (length (standing f l)) p q → IsInBounds (length (standing f l)) p (cond b (record q { phase = entry m; reg = record q.reg { mode = m } }) q)
    acquired-in m q true h = record { names = h.names; wakes = h.wakes }
    acquired-in m q false h = h

    released-in : (q : PassState) (b : Bool) → IsInBounds (length (standing f l)) p q → IsInBounds (length (standing f l)) p (cond b (record q { phase = exit q.reg.mode }) q)
    released-in q true h = record { names = h.names; wakes = h.wakes }
    released-in q false h = h

    pub acquire-lock : (m : Mode) (o' : W) → f o' ≡ acquires m (f o) → IsLock f words (set l p o')
    acquire-lock m o' e = moved-lock words o' (acquired m (f o).pass) (ap (λ (z : Meaning). z.pass) e) (ap (λ (z : Meaning). z.rules) e) (acquired-in m (f o).pass (is_idle (f o).pass.phase) bounded) refl k.bounds.links

    pub release-lock : (o' : W) → f o' ≡ releases (f o) → IsLock f words (set l p o')
    release-lock o' e = moved-lock words o' (released (f o).pass) (ap (λ (z : Meaning). z.pass) e) (ap (λ (z : Meaning). z.rules) e) (released-in (f o).pass (is_resting (f o).pass) bounded) refl k.bounds.links

    same-place : set (standing f l) p (known (standing f l) p) ≡ standing f l
    same-place = ap (set (standing f l) p) known-is ∙ set-again (standing f l) p (f o).pass (standing-at l p o at)

    maybe : (b : Bool) (q : PassState) → placed_at (record { words = words; passes = standing f l }) p (cond b q (known (standing f l) p)) ≡ cond b (placed_at (record { words = words; passes = standing f l }) p (cond b q (known (standing f l) p))) (record { words = words; passes = standing f l })
    maybe true q = refl
    maybe false q = λ j. record { words = words; passes = same-place j }

    pub acquire-seen : (m : Lock) → seen_lock f words l ≡ m → (mode : Mode) (o' : W) → f o' ≡ acquires mode (f o) → seen_lock f words (set l p o') ≡ moved m (Acquire p mode)
    acquire-seen m is mode o' e = subst (λ (z : Lock). seen_lock f words (set l p o') ≡ moved z (Acquire p mode)) is
        (seen-moved words o' (acquired mode (known (standing f l) p)) (ap (λ (z : Meaning). z.pass) e ∙ ap (acquired mode) (sym known-is)) (ap (λ (z : Meaning). z.rules) e)
        ∙ (λ j. record { rules = common_rules f l; world = maybe (is_idle (known (standing f l) p).phase) (record (known (standing f l) p) { phase = entry mode; reg = record (known (standing f l) p).reg { mode = mode } }) j }))

    pub release-seen : (m : Lock) → seen_lock f words l ≡ m → (o' : W) → f o' ≡ releases (f o) → seen_lock f words (set l p o') ≡ moved m (Release p)
    release-seen m is o' e = subst (λ (z : Lock). seen_lock f words (set l p o') ≡ moved z (Release p)) is
        (seen-moved words o' (released (known (standing f l) p)) (ap (λ (z : Meaning). z.pass) e ∙ ap released (sym known-is)) (ap (λ (z : Meaning). z.rules) e)
        ∙ (λ j. record { rules = common_rules f l; world = maybe (is_resting (known (standing f l) p)) (record (known (standing f l) p) { phase = exit (known (standing f l) p).reg.mode }) j }))

    -- a step
    module _ (access : Access) (planned : access ≡ next_access (f o)) where
      own-plan : next_access (f o) ≡ plan (f o).rules p (f o).pass
      own-plan = ap (λ n. plan (f o).rules n (f o).pass) me-is

      plan-is : access ≡ plan (f o).rules p (f o).pass
      plan-is = planned ∙ own-plan

      pub room : index (site access) < length words
      room = subst (λ (z : Access). index (site z) < length words) (sym plan-is) (subst (λ n. index (site (plan (f o).rules p (f o).pass)) < n) (sym k.bounds.room) (in-range (f o).rules (length (standing f l)) p below (f o).pass bounded))

      names : (v : Word) (n : ℕ) → LinkBelow (length (standing f l)) v n → NamesPass v n
      names Tail n h = let x = k.bounds.few in omega arith
      names (Next q) n h = let x = k.bounds.few in omega arith
      names _ n h = tt

      tell : (a : Access) (n : ℕ) → NamesPass (site a) n → is_store a ≡ false → NamesPass (site a) (told a n)
      tell a n h s = by a h s
        where
          by : (a : Access) → NamesPass (site a) n → is_store a ≡ false → NamesPass (site a) (told a n)
          by (Store w v) h s = absurd (cc)
          by _ h s = h

      module _ (n : ℕ) (words' : List ℕ) (found : n ≡ told access (look words (site access))) (word : words' ≡ written words access) where
        pub may-find : MayFind (f o) n
        may-find s = subst (λ (z : Access). NamesPass (site z) n) planned (subst (NamesPass (site access)) (sym found) (tell access (look words (site access)) (names (site access) _ (k.bounds.links (site access))) (ap is_store planned ∙ s)))

        module _ (choice : Bool) (o' : W) (own : f o' ≡ takes (f o) n choice) where
          found-is : n ≡ told (plan (f o).rules p (f o).pass) (look words (site (plan (f o).rules p (f o).pass)))
          found-is = found ∙ ap (λ (z : Access). told z (look words (site z))) plan-is

          pass-is : (f o').pass ≡ take (f o).rules p (f o).pass (look words (site (plan (f o).rules p (f o).pass))) choice
          pass-is = ap (λ (z : Meaning). z.pass) own ∙ ((λ j. take (f o).rules (me-is j) (f o).pass (found-is j) choice) ∙ store-blind (f o).rules p (f o).pass (look words (site (plan (f o).rules p (f o).pass))) choice)

          rules-is : (f o').rules ≡ (f o).rules
          rules-is = ap (λ (z : Meaning). z.rules) own

          words-is : words' ≡ written words (plan (f o).rules p (f o).pass)
          words-is = word ∙ ap (written words) plan-is

          pub step-lock : IsLock f words' (set l p o')
          step-lock = let v = site (plan (f o).rules p (f o).pass) in let link = k.bounds.links v in
              moved-lock words' o' _ pass-is rules-is (step-in (f o).rules (length (standing f l)) p below (f o).pass (look words v) choice bounded link)
              (ap length words-is ∙ length-set words (index v) (put (plan (f o).rules p (f o).pass) (look words v)))
              (λ u. subst (λ (z : List ℕ). LinkBelow (length (standing f l)) u (look z u)) (sym words-is)
              (links-written (length (standing f l)) words v (put (plan (f o).rules p (f o).pass) (look words v)) (subst (λ (z : Access). index (site z) < length words) plan-is room)
              (put-in (f o).rules (length (standing f l)) p below (f o).pass (look words v) bounded link) k.bounds.links u))

          stepped-is : seen_lock f words' (set l p o') ≡ record { rules = common_rules f l; world = stepped (common_rules f l) (record { words = words; passes = standing f l }) p (known (standing f l) p) choice }
          stepped-is = seen-moved words' o' _ pass-is rules-is ∙ (λ j. record { rules = common_rules f l; world = record { words = words-is j; passes = set (standing f l) p (take (f o).rules p (f o).pass (look words (site (plan (f o).rules p (f o).pass))) choice) } })
              ∙ (λ j. record { rules = common_rules f l; world = stepped (k.rules p o at j) (record { words = words; passes = standing f l }) p (sym known-is j) choice })

          pub step-seen : (m : Lock) → seen_lock f words l ≡ m → moving (f o).pass ≡ true → seen_lock f words' (set l p o') ≡ moved m (Step p choice)
          step-seen m is go = subst (λ (z : Lock). seen_lock f words' (set l p o') ≡ moved z (Step p choice)) is
              (stepped-is ∙ (λ j. record { rules = common_rules f l; world = cond (sym (ap moving known-is ∙ go) j) (stepped (common_rules f l) (record { words = words; passes = standing f l }) p (known (standing f l) p) choice) (record { words = words; passes = standing f l }) }))

    -- no step
    pub rest-seen : (m : Lock) → seen_lock f words l ≡ m → (choice : Bool) → moving (f o).pass ≡ false → m ≡ moved m (Step p choice)
    rest-seen m is choice go = subst (λ (z : Lock). z ≡ moved z (Step p choice)) is
        (λ j. record { rules = common_rules f l; world = cond (sym (ap moving known-is ∙ go) j) (stepped (common_rules f l) (record { words = words; passes = standing f l }) p (known (standing f l) p) choice) (record { words = words; passes = standing f l }) })

    -- a mode that the lock's form has is one that the waiter's form has
    pub may-use : (m : Lock) → seen_lock f words l ≡ m → (mode : Mode) → MayUse m.rules.form mode → MayUse (f o).rules.form mode
    may-use m is mode h = subst (λ (z : Rules). MayUse z.form mode) (sym (k.rules p o at)) (subst (λ (z : Lock). MayUse z.rules.form mode) (sym is) h)

    -- what the lock says of the pass, the waiter says
    pub asks : (m : Lock) → seen_lock f words l ≡ m → ask (f o).rules (f o).pass ≡ ask m.rules (known m.world.passes p)
    asks m is = subst (λ (z : Lock). ask (f o).rules (f o).pass ≡ ask z.rules (known z.world.passes p)) is (λ j. ask (k.rules p o at j) (sym known-is j))

-- Lists of passes: who stands where, and how a list changes.
use Rattle.std.specs.Prelude.{◌≡◌, ℕ, suc, ◌+◌, ◌<◌, List, [], ◌∷◌, cond, ◌==◌}

-- a function, changed at one place
abbrev pub updated : {A : Type 0} → (ℕ → A) → ℕ → A → ℕ → A
updated f place value other = cond (other == place) value (f other)

-- how often a pass stands in the list
abbrev pub times : ℕ → List ℕ → ℕ
times p [] = 0
times p (x ∷ xs) = cond (x == p) 1 0 + times p xs

-- the list's first pass plus 1, or 0
abbrev pub first : List ℕ → ℕ
first [] = 0
first (x ∷ xs) = suc x

-- the last pass of a list that goes on behind x
abbrev pub end : ℕ → List ℕ → ℕ
end x [] = x
end x (y ∷ ys) = end y ys

-- the list's last pass plus 1, or 0
abbrev pub last : List ℕ → ℕ
last [] = 0
last (x ∷ xs) = suc (end x xs)

-- each pass and the one directly behind it are related, in a list that goes on behind x
abbrev pub Chain : (ℕ → ℕ → Type 0) → ℕ → List ℕ → Type 0
Chain R x [] = Unit {0}
Chain R x (y ∷ ys) = R x y × Chain R y ys

-- each pass of the list and the one directly behind it are related
abbrev pub EachPair : (ℕ → ℕ → Type 0) → List ℕ → Type 0
EachPair R [] = Unit {0}
EachPair R (x ∷ xs) = Chain R x xs

-- the list without the first c
abbrev pub without : ℕ → List ℕ → List ℕ
without c [] = []
without c (x ∷ xs) = cond (x == c) xs (x ∷ without c xs)

-- what stands behind x once c was put directly behind l
abbrev pub put_after : ℕ → ℕ → ℕ → List ℕ → List ℕ
put_after l c x [] = cond (x == l) (c ∷ []) []
put_after l c x (y ∷ ys) = cond (x == l) (c ∷ y ∷ ys) (y ∷ put_after l c y ys)

-- the list with c put directly behind l
abbrev pub put_behind : ℕ → ℕ → List ℕ → List ℕ
put_behind l c [] = []
put_behind l c (x ∷ xs) = x ∷ put_after l c x xs

-- the pass directly behind l plus 1, or 0, in a list that goes on behind x
abbrev pub follower_after : ℕ → ℕ → List ℕ → ℕ
follower_after l x [] = 0
follower_after l x (y ∷ ys) = cond (x == l) (suc y) (follower_after l y ys)

-- the pass directly behind l plus 1, or 0
abbrev pub follower : ℕ → List ℕ → ℕ
follower l [] = 0
follower l (x ∷ xs) = follower_after l x xs

-- all that stands behind l
abbrev pub behind : ℕ → List ℕ → List ℕ
behind l [] = []
behind l (x ∷ xs) = cond (x == l) xs (behind l xs)

-- the last pass with a mark plus 1, or 0
abbrev pub last_marked : (ℕ → ℕ) → List ℕ → ℕ
last_marked mark [] = 0
last_marked mark (x ∷ xs) =
    cond (last_marked mark xs == 0) (cond (mark x == 0) 0 (suc x)) (last_marked mark xs)

-- where the second of two neighbours is marked, so is the first
abbrev pub MarkedFirst : (ℕ → ℕ) → ℕ → ℕ → Type 0
MarkedFirst mark a b = 0 < mark b → 0 < mark a

-- what stands directly behind l has no mark
abbrev pub StopsAt : (ℕ → ℕ) → ℕ → ℕ → ℕ → Type 0
StopsAt mark l a b = a ≡ l → mark b ≡ 0

-- l is the last marked pass of a list whose marked passes are a prefix
pub record IsLastMarked (mark : ℕ → ℕ) (line : List ℕ) (l : ℕ) : Type 0 where
  pub inside : 0 < times l line
  pub marked : 0 < mark l
  pub stops : EachPair (StopsAt mark l) line

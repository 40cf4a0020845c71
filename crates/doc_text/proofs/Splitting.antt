-- The first word of a text, as a loop finds it, and how many words there are.
use Rattle.std.proofs.Common.{◌≡◌, ℕ, zero, suc, ◌<◌, List, [], ◌∷◌, ◌++◌, length, get_or, take, drop, true, false, None, refl, ap, arith, eq-eqb, eqb, cond}
use Rattle.std.proofs.lemmas.Bool.{ne_eqb}
use Rattle.doc_text.specs.Text.{onto}
use Rattle.doc_text.specs.Words.{words, one, two, three, four, five, six}

-- the first blank ends the first word
pub words_at : (text : List ℕ) (i : ℕ) → i < length text → ((k : ℕ) → k < i → get_or text k 0 ≡ 32 → ⊥) → get_or text i 0 ≡ 32 → words text ≡ take i text ∷ words (drop (suc i) text)
words_at [] i lt before here = absurd (omega (arith, lt))
words_at (b ∷ bs) zero lt before here = rw (eq-eqb b 32 here) refl
words_at (b ∷ bs) (suc i) lt before here =
    let first : eqb b 32 ≡ false = ne_eqb b 32 (before 0 (omega arith)) in
    let others : words bs ≡ take i bs ∷ words (drop (suc i) bs) = words_at bs i (omega arith) (λ k h e. before (suc k) (omega arith) e) here in
    rw (first, others) refl

-- around a blank
pub text_at : (text : List ℕ) (i : ℕ) → i < length text → get_or text i 0 ≡ 32 → text ≡ take i text ++ 32 ∷ drop (suc i) text
text_at [] i lt here = absurd (omega (arith, lt))
text_at (b ∷ bs) zero lt here = ap (λ (x : ℕ). x ∷ bs) here
text_at (b ∷ bs) (suc i) lt here = ap (λ (l : List ℕ). b ∷ l) (text_at bs i (omega arith) here)

pub words_none : (text : List ℕ) → ((k : ℕ) → k < length text → get_or text k 0 ≡ 32 → ⊥) → words text ≡ text ∷ []
words_none [] before = refl
words_none (b ∷ bs) before =
    let first : eqb b 32 ≡ false = ne_eqb b 32 (before 0 (omega arith)) in
    rw (first, words_none bs (λ k h e. before (suc k) (omega arith) e)) refl

-- there is always a first word
pub words_cons : (text : List ℕ) → (w : List ℕ) × (ws : List (List ℕ)) × (words text ≡ w ∷ ws)
words_cons [] = ([], [], refl)
words_cons (b ∷ bs) =
    let r = words_cons bs in
    elim (eqb b 32) as (λ v. (w : List ℕ) × (ws : List (List ℕ)) × (cond v ([] ∷ words bs) (onto b (words bs)) ≡ w ∷ ws)) [ true ↦ ([], words bs, refl) | false ↦ (b ∷ r.0, r.1, rw r.2 refl) ]

pub one_more : (a text : List ℕ) → one (a ∷ words text) ≡ None
one_more a text = let w = words_cons text in rw w.2 refl

pub two_more : (a b text : List ℕ) → two (a ∷ b ∷ words text) ≡ None
two_more a b text = let w = words_cons text in rw w.2 refl

pub three_more : (a b c text : List ℕ) → three (a ∷ b ∷ c ∷ words text) ≡ None
three_more a b c text = let w = words_cons text in rw w.2 refl

pub four_more : (a b c d text : List ℕ) → four (a ∷ b ∷ c ∷ d ∷ words text) ≡ None
four_more a b c d text = let w = words_cons text in rw w.2 refl

pub five_more : (a b c d e text : List ℕ) → five (a ∷ b ∷ c ∷ d ∷ e ∷ words text) ≡ None
five_more a b c d e text = let w = words_cons text in rw w.2 refl

pub six_more : (a b c d e f text : List ℕ) → six (a ∷ b ∷ c ∷ d ∷ e ∷ f ∷ words text) ≡ None
six_more a b c d e f text = let w = words_cons text in rw w.2 refl

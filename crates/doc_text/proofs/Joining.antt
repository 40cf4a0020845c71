-- Lines and words are read as they are joined.
use Rattle.std.proofs.Common.{◌≡◌, ℕ, zero, suc, ◌<◌, ◌≤◌, ◌^◌, List, [], ◌∷◌, ◌++◌, length, map, get_or, take, Bool, true, false, cond, not, ◌&&◌, Option, Some, None, eqb, refl, sym, ap, ◌∙◌, subst, arith}
use Rattle.std.specs.List.{flat_map, list_all, AllByRecursion}
use Rattle.std.specs.Fmt.{decimal}
use Rattle.std.specs.Option.{option_map}
use Rattle.std.specs.Char.{is_ascii_digit}
use Rattle.std.specs.Str.{all_ascii_digits}
use Rattle.std.proofs.lemmas.Bool.{ne_eqb, eqb-true}
use Rattle.std.proofs.lemmas.Bool.Decides.{nat_tests, Decides-eqb}
use Rattle.std.proofs.lemmas.Fmt.{digits_decimal}
use Rattle.std.proofs.lemmas.Slice.Eq.{slice_eq-Decides}
use Rattle.doc_text.specs.Text.{onto, pieces, is_plain, at_end, text_in, IsPlain, ended}
use Rattle.doc_text.specs.Words.{words, HasNoBlank, spaced, same}
use Rattle.doc_text.proofs.LineEnds.{plain-ne}
use Rattle.doc_text.proofs.Splitting.{words_cons}
use Rattle.doc_text.proofs.Counting.{own}

both-true : (a b : Bool) → (a && b) ≡ true → (a ≡ true) × (b ≡ true)
both-true true b h = (refl, h)
both-true false b h = cc

not-true : (b : Bool) → not b ≡ true → b ≡ false
not-true true k = cc
not-true false k = refl

-- ---- lines

-- a line in front is the first piece
pub pieces-ended : (t rest : List ℕ) → IsPlain t → pieces (ended t ++ rest) ≡ ended t ∷ pieces rest
pieces-ended [] rest h = refl
pieces-ended (b ∷ bs) rest h =
    let w = both-true (is_plain b) (list_all is_plain bs) h in
    let ne = plain-ne b w.0 in
    rw (ne, pieces-ended bs rest w.1) refl

-- it says its text
pub text_in-ended : (t : List ℕ) → IsPlain t → text_in (ended t) ≡ Some t
text_in-ended [] h = refl
text_in-ended (b ∷ bs) h =
    let w = both-true (is_plain b) (list_all is_plain bs) h in
    let ne = plain-ne b w.0 in
    rw (ne, w.0, text_in-ended bs w.1) refl

pub pieces-lines : (ts : List (List ℕ)) → AllByRecursion IsPlain ts → pieces (flat_map ended ts) ≡ map ended ts
pieces-lines [] h = refl
pieces-lines (t ∷ ts) h = pieces-ended t (flat_map ended ts) h.0 ∙ ap (λ (ps : List (List ℕ)). ended t ∷ ps) (pieces-lines ts h.1)

-- the bytes of pieces
abbrev pub joined : List (List ℕ) → List ℕ
joined [] = []
joined (p ∷ ps) = p ++ joined ps

joined-onto : (b : ℕ) (ps : List (List ℕ)) → joined (onto b ps) ≡ b ∷ joined ps
joined-onto b [] = refl
joined-onto b (p ∷ ps) = refl

-- the pieces are the bytes
pub joined-pieces : (bytes : List ℕ) → joined (pieces bytes) ≡ bytes
joined-pieces [] = refl
joined-pieces (b ∷ bs) = elim (eqb b 10) as (λ v. joined (cond v ((b ∷ []) ∷ pieces bs) (onto b (pieces bs))) ≡ b ∷ bs) [ true ↦ ap (λ (l : List ℕ). b ∷ l) (joined-pieces bs) | false ↦ joined-onto b (pieces bs) ∙ ap (λ (l : List ℕ). b ∷ l) (joined-pieces bs) ]

end-some : (bs t : List ℕ) → at_end bs ≡ Some t → (bs ≡ []) × (t ≡ [])
end-some [] t h = let e : [] ≡ t = cc in (refl, sym e)
end-some (b ∷ bs) t h = cc

-- a piece that says a text is that text and a line feed
pub text_in-some : (p t : List ℕ) → text_in p ≡ Some t → IsPlain t × (p ≡ ended t)
text_in-some [] t h = cc
text_in-some (b ∷ bs) t h = by_tests (text_in-some bs) (text_in bs) refl (eqb b 10) (is_plain b) refl refl h
  where
    by_text : (r : Option (List ℕ)) → text_in bs ≡ r → is_plain b ≡ true → ((u : List ℕ) → text_in bs ≡ Some u → IsPlain u × (bs ≡ ended u)) → option_map (λ u. b ∷ u) r ≡ Some t → IsPlain t × (b ∷ bs ≡ ended t)
    by_text None e plain again k = cc
    by_text (Some u) e plain again k =
        let same_text : b ∷ u ≡ t = cc in
        let w = again u e in
        let here : IsPlain (b ∷ u) = rw (plain, w.0) refl in
        (subst IsPlain same_text here, ap (λ (l : List ℕ). b ∷ l) w.1 ∙ ap ended same_text)

    by_tests : ((u : List ℕ) → text_in bs ≡ Some u → IsPlain u × (bs ≡ ended u)) → (r : Option (List ℕ)) → text_in bs ≡ r → (v w : Bool) → eqb b 10 ≡ v → is_plain b ≡ w → cond v (at_end bs) (cond w (option_map (λ u. b ∷ u) (text_in bs)) None) ≡ Some t → IsPlain t × (b ∷ bs ≡ ended t)
    by_tests again r e true w q p k = let x = end-some bs t k in let ten : b ≡ 10 = eqb-true b 10 q in (rw x.1 refl, rw (x.0, x.1, ten) refl)
    by_tests again r e false true q p k = by_text (text_in bs) refl p again k
    by_tests again r e false false q p k = cc

-- ---- words

pub words-front : (a b : List ℕ) → HasNoBlank a → words (a ++ 32 ∷ b) ≡ a ∷ words b
words-front [] b h = refl
words-front (x ∷ xs) b h =
    let w = both-true (not (eqb x 32)) (list_all (λ b. not (eqb b 32)) xs) h in
    rw (not-true (eqb x 32) w.0, words-front xs b w.1) refl

pub words-one : (a : List ℕ) → HasNoBlank a → words a ≡ a ∷ []
words-one [] h = refl
words-one (x ∷ xs) h =
    let w = both-true (not (eqb x 32)) (list_all (λ b. not (eqb b 32)) xs) h in
    rw (not-true (eqb x 32) w.0, words-one xs w.1) refl

pub words-spaced : (w : List ℕ) (ws : List (List ℕ)) → AllByRecursion HasNoBlank (w ∷ ws) → words (spaced (w ∷ ws)) ≡ w ∷ ws
words-spaced w [] h = words-one w h.0
words-spaced w (v ∷ ws) h = words-front w (spaced (v ∷ ws)) h.0 ∙ ap (λ (us : List (List ℕ)). w ∷ us) (words-spaced v ws h.1)

spaced-onto : (b : ℕ) (ws : List (List ℕ)) → spaced (onto b ws) ≡ b ∷ spaced ws
spaced-onto b [] = refl
spaced-onto b (w ∷ []) = refl
spaced-onto b (w ∷ v ∷ ws) = refl

spaced-nil : (text : List ℕ) → spaced ([] ∷ words text) ≡ 32 ∷ spaced (words text)
spaced-nil text = let w = words_cons text in rw w.2 refl

-- the words and the blanks between them are the text
pub spaced-words : (text : List ℕ) → spaced (words text) ≡ text
spaced-words [] = refl
spaced-words (b ∷ bs) = by_test (spaced-words bs) (eqb b 32) refl
  where
    by_test : spaced (words bs) ≡ bs → (v : Bool) → eqb b 32 ≡ v → spaced (cond v ([] ∷ words bs) (onto b (words bs))) ≡ b ∷ bs
    by_test again true e = let blank : b ≡ 32 = eqb-true b 32 e in spaced-nil bs ∙ rw (again, blank) refl
    by_test again false e = spaced-onto b (words bs) ∙ ap (λ (l : List ℕ). b ∷ l) again

pub plain-append : (a b : List ℕ) → IsPlain a → IsPlain b → IsPlain (a ++ b)
plain-append [] b h k = k
plain-append (x ∷ xs) b h k = let w = both-true (is_plain x) (list_all is_plain xs) h in rw (w.0, plain-append xs b w.1 k) refl

pub plain-spaced : (ws : List (List ℕ)) → AllByRecursion IsPlain ws → IsPlain (spaced ws)
plain-spaced [] h = refl
plain-spaced (w ∷ []) h = h.0
plain-spaced (w ∷ v ∷ ws) h = plain-append w (32 ∷ spaced (v ∷ ws)) h.0 (plain-spaced (v ∷ ws) h.1)

-- up to a blank there is none
pub no_blank-take : (text : List ℕ) (i : ℕ) → i ≤ length text → ((k : ℕ) → k < i → get_or text k 0 ≡ 32 → ⊥) → HasNoBlank (take i text)
no_blank-take text zero le before = refl
no_blank-take [] (suc i) le before = refl
no_blank-take (b ∷ bs) (suc i) le before =
    let first : eqb b 32 ≡ false = ne_eqb b 32 (before 0 (omega arith)) in
    let others : HasNoBlank (take i bs) = no_blank-take bs i (omega arith) (λ k h e. before (suc k) (omega arith) e) in
    rw (first, others) refl

pub no_blank-all : (text : List ℕ) → ((k : ℕ) → k < length text → get_or text k 0 ≡ 32 → ⊥) → HasNoBlank text
no_blank-all [] before = refl
no_blank-all (b ∷ bs) before =
    let first : eqb b 32 ≡ false = ne_eqb b 32 (before 0 (omega arith)) in
    rw (first, no_blank-all bs (λ k h e. before (suc k) (omega arith) e)) refl

-- ---- numbers and constants

digit-plain : (b : ℕ) → is_ascii_digit b ≡ true → is_plain b ≡ true
digit-plain b h = grind (arith, nat_tests)

digit-no_blank : (b : ℕ) → is_ascii_digit b ≡ true → not (eqb b 32) ≡ true
digit-no_blank b h = grind (arith, nat_tests)

digits-word : (w : List ℕ) → all_ascii_digits w ≡ true → IsPlain w × HasNoBlank w
digits-word [] h = (refl, refl)
digits-word (b ∷ bs) h =
    let w = both-true (is_ascii_digit b) (all_ascii_digits bs) h in
    let others = digits-word bs w.1 in
    (rw (digit-plain b w.0, others.0) refl, rw (digit-no_blank b w.0, others.1) refl)

-- a number can stand in a line as a word
pub decimal-word : (n : ℕ) → n < 2 ^ 64 → IsPlain (decimal n) × HasNoBlank (decimal n)
decimal-word n small = digits-word (decimal n) (digits_decimal own n small)

pub same-true : (a b : List ℕ) → same a b ≡ true → a ≡ b
same-true a b e = (slice_eq-Decides Decides-eqb a b (same a b) refl).0 e

pub same-self : (a : List ℕ) → same a a ≡ true
same-self a = (slice_eq-Decides Decides-eqb a a (same a a) refl).1 refl

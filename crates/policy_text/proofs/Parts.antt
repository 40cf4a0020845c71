-- Words that may stand in a line, and the lines that they make.
use Rattle.std.proofs.Common.{◌≡◌, ℕ, List, [], ◌∷◌, ◌++◌, map, Bool, true, false, cond, eqb, refl, sym, ap, ◌∙◌, append_assoc}
use Rattle.std.specs.List.{flat_map, list_all, AllByRecursion}
use Rattle.std.proofs.lemmas.Bool.{and_parts}
use Rattle.doc_text.specs.Text.{onto, pieces, is_plain, IsPlain, ended}
use Rattle.doc_text.specs.Words.{words, spaced, HasNoBlank}
use Rattle.doc_text.proofs.Joining.{pieces-ended, joined, words-spaced, spaced-words, plain-spaced}

-- bytes that may stand in a line, no blank among them
abbrev pub IsPart : List ℕ → Type 0
IsPart word = IsPlain word × HasNoBlank word

parts-plain : (ws : List (List ℕ)) → AllByRecursion IsPart ws → AllByRecursion IsPlain ws
parts-plain [] h = tt
parts-plain (w ∷ ws) h = (h.0.0, parts-plain ws h.1)

parts-no_blank : (ws : List (List ℕ)) → AllByRecursion IsPart ws → AllByRecursion HasNoBlank ws
parts-no_blank [] h = tt
parts-no_blank (w ∷ ws) h = (h.0.1, parts-no_blank ws h.1)

pub line-plain : (ws : List (List ℕ)) → AllByRecursion IsPart ws → IsPlain (spaced ws)
line-plain ws h = plain-spaced ws (parts-plain ws h)

pub line-words : (w : List ℕ) (ws : List (List ℕ)) → AllByRecursion IsPart (w ∷ ws) → words (spaced (w ∷ ws)) ≡ w ∷ ws
line-words w ws h = words-spaced w ws (parts-no_blank (w ∷ ws) h)

-- a text whose words these are
pub text-spaced : (t : List ℕ) (ws : List (List ℕ)) → words t ≡ ws → t ≡ spaced ws
text-spaced t ws h = sym (spaced-words t) ∙ ap spaced h

onto-parts : (b : ℕ) (ws : List (List ℕ)) → is_plain b ≡ true → eqb b 32 ≡ false → AllByRecursion IsPart ws → AllByRecursion IsPart (onto b ws)
onto-parts b [] p n h = ((rw p refl, rw n refl), tt)
onto-parts b (w ∷ ws) p n h = ((rw (p, h.0.0) refl, rw (n, h.0.1) refl), h.1)

-- the words of a line are such
pub words-parts : (text : List ℕ) → IsPlain text → AllByRecursion IsPart (words text)
words-parts [] h = ((refl, refl), tt)
words-parts (b ∷ bs) h =
    let w = and_parts (is_plain b) (list_all is_plain bs) h in
    by_test (words-parts bs w.1) w.0 (eqb b 32) refl
  where
    by_test : AllByRecursion IsPart (words bs) → is_plain b ≡ true → (v : Bool) → eqb b 32 ≡ v → AllByRecursion IsPart (cond v ([] ∷ words bs) (onto b (words bs)))
    by_test again p true e = ((refl, refl), again)
    by_test again p false e = onto-parts b (words bs) p e again

-- lines in front of bytes are the first pieces
pub pieces-lines_before : (ts : List (List ℕ)) (rest : List ℕ) → AllByRecursion IsPlain ts → pieces (flat_map ended ts ++ rest) ≡ map ended ts ++ pieces rest
pieces-lines_before [] rest h = refl
pieces-lines_before (t ∷ ts) rest h =
    ap pieces (append_assoc (ended t) (flat_map ended ts) rest) ∙ pieces-ended t (flat_map ended ts ++ rest) h.0
    ∙ ap (λ (ps : List (List ℕ)). ended t ∷ ps) (pieces-lines_before ts rest h.1)

-- the bytes of lines and of the pieces behind them
pub joined-lines : (ts ps : List (List ℕ)) → joined (map ended ts ++ ps) ≡ flat_map ended ts ++ joined ps
joined-lines [] ps = refl
joined-lines (t ∷ ts) ps = ap (λ (l : List ℕ). ended t ++ l) (joined-lines ts ps) ∙ sym (append_assoc (ended t) (flat_map ended ts) (joined ps))

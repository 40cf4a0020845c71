-- The rule at the opening, and with one more thread.
use Rattle.std.proofs.Common.{◌≡◌, ℕ, zero, suc, ◌+◌, ◌*◌, ◌<◌, false, cond, List, [], ◌∷◌, ◌++◌, map, length, replicate, get_or, refl, sym, ap, ◌∙◌, subst, arith, length-append}
use Rattle.std.proofs.lemmas.List.{get_or-append-add, length-map}
use Rattle.shfl_line.specs.declared.words.Attr.{Attr}
use Rattle.shfl_line.specs.declared.events.LineEvent.TheVariants.{Nothing}
use Rattle.shfl_line.specs.Line.{empty}
use Rattle.shfl_line.specs.Words.{attr_word, IsStateWord}
use Rattle.shfl_core.specs.declared.phase.PassState.{PassState}
use Rattle.shfl_core.specs.declared.phase.Rules.{Rules}
use Rattle.shfl_core.specs.declared.words.Word.{Word}
use Rattle.shfl_core.specs.declared.words.Word.TheVariants.{Lock, Tail, Next, State, Attr as AttrOf, Bell}
use Rattle.shfl_core.specs.Words.{look}
use Rattle.shfl_core.specs.Waiting.{idle}
use Rattle.shfl_core.specs.Worlds.{known, node_words, opening_words}
use Rattle.shfl_core.proofs.Opening.{node-past, node-words-long, opening-at}
use Rattle.shfl_core.specs.Lawful.{Advances}
use Rattle.shfl_laws.specs.Moves.{MayOpen, first_seated, terms, with_one_more}
use Rattle.shfl_laws.proofs.laws.Opens.{first-seat-law, seat-law}
use Rattle.shfl_arena.specs.declared.shape.Shape.{Shape}
use Rattle.shfl_arena.specs.declared.view.ThreadView.{ThreadView}
use Rattle.shfl_arena.specs.Nodes.{uses_node}
use Rattle.shfl_arena.specs.Threads.{new_thread, thread_at, uses_own_node, pass_at, passes_from}
use Rattle.shfl_arena.specs.ArenaWords.{lock_place, tail_place, first_node, word_at, seen_word, words_saying}
use Rattle.shfl_arena.specs.ArenaRule.{ArenaTerms, terms_at, world_at}
use Rattle.shfl_arena.specs.ArenaOpening.{arena_words, opening_terms, OpensLawful, ArenaOpeningLaw, ArenaThreadLaw}
use Rattle.shfl_arena.proofs.NodeLaws.{alike-law}
use Rattle.shfl_arena.proofs.Places.{words-long, words-at, alike-words, lock-room}
use Rattle.shfl_arena.proofs.Threads.{at-none, off-at, passes-known}

zeros-at : (n i : ℕ) (m : List ℕ) → i < n → get_or (replicate n 0 ++ m) i 0 ≡ 0
zeros-at zero i m h = absurd (omega arith)
zeros-at (suc n) zero m h = refl
zeros-at (suc n) (suc i) m h = zeros-at n i m (omega arith)

zeros-long : (n : ℕ) → length {A = ℕ} (replicate n 0) ≡ n
zeros-long zero = refl
zeros-long (suc n) = ap suc (zeros-long n)

past-zeros : (n i k : ℕ) (m : List ℕ) → i ≡ n + k → get_or (replicate n 0 ++ m) i 0 ≡ get_or m k 0
past-zeros n i k m e = let z = zeros-long n in ap (λ j. get_or (replicate n 0 ++ m) j 0) (let x : i ≡ length {A = ℕ} (replicate n 0) + k = omega arith in x) ∙ get_or-append-add (replicate n 0) m k 0

node-zero : (r : ℕ) → ((x : Attr) (xs : List Attr) → get_or (node_words (x ∷ xs)) (10 * 0 + r) 0 ≡ 0) → (xs : List Attr) (q : ℕ) → get_or (node_words xs) (10 * q + r) 0 ≡ 0
node-zero r h [] q = refl
node-zero r h (x ∷ xs) zero = h x xs
node-zero r h (x ∷ xs) (suc q) = node-past x xs q r ∙ node-zero r h xs q

module _ (shape : Shape) (rules : ℕ → Rules) (attrs : List Attr) where
  abbrev a : ArenaTerms
  a = opening_terms shape rules attrs

  abbrev W : List ℕ
  W = arena_words shape attrs

  abbrev base : ℕ
  base = first_node shape

  next-0 : (p : ℕ) → word_at shape W 0 (Next p) ≡ 0
  next-0 p = past-zeros base (base + 10 * p) (10 * p + 0) (node_words attrs) (omega arith) ∙ node-zero 0 (λ x xs. refl) attrs p

  state-0 : (p : ℕ) → word_at shape W 0 (State p) ≡ 0
  state-0 p = past-zeros base (base + 10 * p + 1) (10 * p + 1) (node_words attrs) (omega arith) ∙ node-zero 1 (λ x xs. refl) attrs p

  bell-0 : (p : ℕ) → word_at shape W 0 (Bell p) ≡ 0
  bell-0 p = past-zeros base (base + 10 * p + 3) (10 * p + 3) (node_words attrs) (omega arith) ∙ node-zero 3 (λ x xs. refl) attrs p

  attr-is : (p : ℕ) → word_at shape W 0 (AttrOf p) ≡ look (opening_words attrs) (AttrOf p)
  attr-is p = past-zeros base (base + 10 * p + 2) (10 * p + 2) (node_words attrs) (omega arith) ∙ sym (opening-at attrs p 2 (10 * p + 22) (omega arith))

  idles : (l : ℕ) → passes_from l 0 (new_thread ∷ []) ≡ idle 0 ∷ []
  idles l = ap (λ (z : PassState). z ∷ []) (off-at l 0 new_thread (at-none l new_thread refl))

  unused : (l p : ℕ) → uses_node (known (passes_from l 0 (new_thread ∷ [])) p) ≡ false
  unused l p = ap (λ (z : List PassState). uses_node (known z p)) (idles l) ∙ by p
    where
      by : (p : ℕ) → uses_node (known (idle 0 ∷ []) p) ≡ false
      by zero = refl
      by (suc p) = refl

  masked : (l : ℕ) → l < shape.locks → (u : Word) → seen_word shape W l (passes_from l 0 (new_thread ∷ [])) u ≡ look (opening_words attrs) u
  masked l h Lock = zeros-at base (lock_place shape.spread l) (node_words attrs) (let f = lock-room shape.spread l shape.locks h in let x = f.0 in let y = f.1 in omega arith)
  masked l h Tail = zeros-at base (tail_place shape.spread l) (node_words attrs) (let f = lock-room shape.spread l shape.locks h in let x = f.0 in let y = f.1 in omega arith)
  masked l h (AttrOf p) = attr-is p
  masked l h (Next p) = ap (λ b. cond b (word_at shape W l (Next p)) 0) (unused l p) ∙ sym (opening-at attrs p 0 (10 * p + 20) (omega arith) ∙ node-zero 0 (λ x xs. refl) attrs p)
  masked l h (State p) = ap (λ b. cond b (word_at shape W l (State p)) 0) (unused l p) ∙ sym (opening-at attrs p 1 (10 * p + 21) (omega arith) ∙ node-zero 1 (λ x xs. refl) attrs p)
  masked l h (Bell p) = ap (λ b. cond b (word_at shape W l (Bell p)) 0) (unused l p) ∙ sym (opening-at attrs p 3 (10 * p + 23) (omega arith) ∙ node-zero 3 (λ x xs. refl) attrs p)

  many : length (map attr_word attrs) ≡ length attrs
  many = length-map attrs attr_word

  module _ (may : (l : ℕ) → l < shape.locks → MayOpen (rules l) attrs) where
    -- each lock is as the model's opening
    alike : (l : ℕ) (h : l < shape.locks) → Advances (terms (rules l) attrs) (first_seated attrs) (first-seat-law (rules l) attrs (may l h)).lawful Nothing (world_at a W (new_thread ∷ []) l)
    alike l h = let s = first-seat-law (rules l) attrs (may l h) in let n : ℕ = length (map attr_word attrs) in let M = seen_word shape W l (passes_from l 0 (new_thread ∷ [])) in
        alike-law (terms (rules l) attrs) (first_seated attrs) (world_at a W (new_thread ∷ []) l) s.lawful (words-long M n ∙ sym s.lawful.room) (idles l)
        (alike-words (words_saying M n) (opening_words attrs) n (words-long M n) s.lawful.room (λ u i. words-at M n u i ∙ masked l h u))

    pub opens : OpensLawful a W (new_thread ∷ [])
    opens = record {
      rule = record {
        room = length-append (replicate base 0) (node_words attrs) ∙ (let z = zeros-long base in let n = node-words-long attrs in let m = many in omega arith);
        lawful = λ l h. (alike l h).lawful;
        clear = λ k h none. record { next = next-0 k; formed = subst (λ z. IsStateWord z) (sym (state-0 k)) (record { ready = false; shuffler = false; parked = false; spin = false; batch = 0; few = omega arith; is = omega arith }); bell = bell-0 k };
      };
      shown = λ l h. (alike l h).shown ∙ ((first-seat-law (rules l) attrs (may l h)).shown ∙ ap empty (sym many));
    }

pub arena-opening-law : ArenaOpeningLaw
arena-opening-law shape rules attrs may some = opens shape rules attrs may

-- one more thread has an idle pass at each lock
passes-more : (l i : ℕ) (vs : List ThreadView) → passes_from l i (vs ++ new_thread ∷ []) ≡ passes_from l i vs ++ idle (i + length vs) ∷ []
passes-more l i [] = ap (λ (z : PassState). z ∷ []) (off-at l i new_thread (at-none l new_thread refl) ∙ ap idle (let e : i ≡ i + 0 = omega arith in e))
passes-more l i (x ∷ xs) = ap (λ z. pass_at l i x ∷ z) (passes-more l (suc i) xs ∙ ap (λ n. passes_from l (suc i) xs ++ idle n ∷ []) (let e : suc i + length xs ≡ i + suc (length xs) = omega arith in e))

pub passes-long : (l i : ℕ) (vs : List ThreadView) → length (passes_from l i vs) ≡ length vs
passes-long l i [] = refl
passes-long l i (x ∷ xs) = ap suc (passes-long l (suc i) xs)

pub seat-more : (vs : List ThreadView) (r : ℕ) → thread_at (vs ++ new_thread ∷ []) r ≡ thread_at vs r
seat-more [] zero = refl
seat-more [] (suc r) = refl
seat-more (x ∷ xs) zero = refl
seat-more (x ∷ xs) (suc r) = seat-more xs r

pub arena-thread-law : (a : ArenaTerms) → ArenaThreadLaw a
arena-thread-law a words threads ok few = record {
  room = ok.room;
  lawful = λ l h. (let w = world_at a words threads l in let n = passes-long l 0 threads in
      let s = seat-law (terms_at a l) w (ok.lawful l h) (let x : length (passes_from l 0 threads) < length a.attrs = omega arith in x) in
      let ps : passes_from l 0 (threads ++ new_thread ∷ []) ≡ passes_from l 0 threads ++ idle (length (passes_from l 0 threads)) ∷ [] = passes-more l 0 threads ∙ ap (λ k. passes_from l 0 threads ++ idle k ∷ []) (let e : 0 + length threads ≡ length (passes_from l 0 threads) = omega arith in e) in
      (alike-law (terms_at a l) (with_one_more w) (world_at a words (threads ++ new_thread ∷ []) l) s.lawful (words-long (seen_word a.shape words l (passes_from l 0 (threads ++ new_thread ∷ []))) (length a.attrs) ∙ sym (words-long (seen_word a.shape words l (passes_from l 0 threads)) (length a.attrs))) ps
      (λ u. ap (λ f. look (words_saying f (length a.attrs)) u) (same l))).lawful);
  clear = λ k h none. ok.clear k h (sym (ap uses_own_node (seat-more threads k)) ∙ none);
}
  where
    known-more : (l r : ℕ) → known (passes_from l 0 (threads ++ new_thread ∷ [])) r ≡ known (passes_from l 0 threads) r
    known-more l r = passes-known l (threads ++ new_thread ∷ []) r ∙ (ap (pass_at l r) (seat-more threads r) ∙ sym (passes-known l threads r))

    each : (l : ℕ) (u : Word) → seen_word a.shape words l (passes_from l 0 (threads ++ new_thread ∷ [])) u ≡ seen_word a.shape words l (passes_from l 0 threads) u
    each l Lock = refl
    each l Tail = refl
    each l (AttrOf r) = refl
    each l (Next r) = ap (λ (z : PassState). cond (uses_node z) (word_at a.shape words l (Next r)) 0) (known-more l r)
    each l (State r) = ap (λ (z : PassState). cond (uses_node z) (word_at a.shape words l (State r)) 0) (known-more l r)
    each l (Bell r) = ap (λ (z : PassState). cond (uses_node z) (word_at a.shape words l (Bell r)) 0) (known-more l r)

    same : (l : ℕ) → ◌≡◌ {A = Word → ℕ} (seen_word a.shape words l (passes_from l 0 (threads ++ new_thread ∷ []))) (seen_word a.shape words l (passes_from l 0 threads))
    same l = λ j u. each l u j

-- An operation at a lock changes nothing at any other.
use Rattle.std.proofs.Common.{◌≡◌, ◌≢◌, ℕ, ◌<◌, Bool, true, false, cond, List, length, set, refl, sym, ap, ◌∙◌, subst, ⊎_elim, arith}
use Rattle.std.specs.Prelude.{Some}
use mathlib.Core.Option.{some}
use lib.ListN.{get_elem?}
use Rattle.shfl_line.specs.declared.events.LineEvent.TheVariants.{Nothing}
use Rattle.shfl_line.proofs.Chain
use Rattle.shfl_core.specs.declared.phase.PassState.{PassState}
use Rattle.shfl_core.specs.declared.words.Word.{Word}
use Rattle.shfl_core.specs.declared.words.Word.TheVariants.{Lock, Tail, Next, State, Attr, Bell}
use Rattle.shfl_core.specs.declared.words.Access.{Access}
use Rattle.shfl_core.specs.Words.{index, site, put}
use Rattle.shfl_core.specs.Worlds.{World, known}
use Rattle.shfl_core.specs.Lawful.{Advances}
use Rattle.shfl_core.proofs.Lists.{set-again}
use Rattle.shfl_core.proofs.Standing.{apart}
use Rattle.shfl_arena.specs.Nodes.{uses_node}
use Rattle.shfl_arena.specs.declared.view.ThreadView.{ThreadView}
use Rattle.shfl_arena.specs.Threads.{MayStepAt, thread_at, pass_at, passes_from, thread_after}
use Rattle.shfl_arena.specs.ArenaWords.{word_at, written_at, seen_word, words_saying}
use Rattle.shfl_arena.specs.ArenaRule.{ArenaTerms, ArenaRule, terms_at, world_at}
use Rattle.shfl_arena.proofs.NodeLaws.{alike-law}
use Rattle.shfl_arena.proofs.Places.{words-long, words-at, alike-words}
use Rattle.shfl_arena.proofs.Threads.{is_here, same-lock, none-at, passes-known, at-none, at-other, uses-at, moved-else}
use Rattle.shfl_arena.proofs.Touches.{IsOpen, Touches, else-kept, own-kept, there-is, pass-there, passes-here}

module _ (a : ArenaTerms) (words : List ℕ) (threads : List ThreadView) (ok : ArenaRule a words threads) (l : ℕ) (below : l < a.shape.locks) (k : ℕ) (v : ThreadView) (at : get_elem? threads k ≡ some v)
    (x : Access) (q : PassState)
    (wrote : word_at a.shape (written_at a.shape words l x) l (site x) ≡ put x (word_at a.shape words l (site x)))
    (attr : (r : ℕ) → site x ≡ Attr r → put x (word_at a.shape words l (site x)) ≡ word_at a.shape words l (site x))
    (lead : MayStepAt l v)
    (touch : Touches (passes_from l 0 threads) k (pass_at l k v) q (site x) (put x (word_at a.shape words l (site x))))
    (m : ℕ) (other : m < a.shape.locks) (n : m ≢ l) where
  abbrev thread_count : ℕ
  thread_count = length a.attrs

  abbrev P : ℕ → List PassState
  P i = passes_from i 0 threads

  abbrev W : ℕ → World
  W i = world_at a words threads i

  abbrev words' : List ℕ
  words' = written_at a.shape words l x

  abbrev threads' : List ThreadView
  threads' = set threads k (thread_after l q v)

  here-is : thread_at threads k ≡ v
  here-is = there-is threads k v at

  kept : (u : Word) → index u ≢ index (site x) → word_at a.shape words' m u ≡ word_at a.shape words m u
  kept u d = else-kept a.shape words l x m u other below d

  off : is_here m v ≡ false
  off = ⊎_elim (λ o. at-none m v o) (λ was. at-other m l v was n) lead

  passes-same : passes_from m 0 threads' ≡ P m
  passes-same = passes-here threads k v at m (thread_after l q v) ∙ (ap (set (P m) k) (moved-else m l k q v n off).1 ∙ set-again (P m) k (pass_at m k v) (pass-there threads k v at m))

  -- a node in use at this lock isn't touched
  far : (u : Word) (r : ℕ) → (IsOpen (P l) u → uses_node (known (P l) r) ≡ true) → (index u ≡ index (State k) → r ≡ k) → uses_node (known (P m) r) ≡ true → index u ≢ index (site x)
  far u r f g c h = let i : (thread_at threads r).at ≡ Some m = uses-at m r (thread_at threads r) (sym (ap uses_node (passes-known m threads r)) ∙ c) in ⊎_elim
      (λ o. (let j : (thread_at threads r).at ≡ Some l = uses-at l r (thread_at threads r) (sym (ap uses_node (passes-known l threads r)) ∙ f (subst (IsOpen (P l)) (sym (apart u (site x) h)) o.0)) in n (same-lock m l (thread_at threads r).at i j)))
      (λ o. (let s : thread_at threads r ≡ v = ap (thread_at threads) (g (h ∙ ap index o.0)) ∙ here-is in let j : v.at ≡ Some m = sym (ap (λ (z : ThreadView). z.at) s) ∙ i in ⊎_elim (λ z. none-at m v.at z j) (λ z. n (same-lock m l v.at j z)) lead))
      touch

  frame-word : (u : Word) (c : Bool) → (c ≡ true → index u ≢ index (site x)) → cond c (word_at a.shape words' m u) 0 ≡ cond c (word_at a.shape words m u) 0
  frame-word u true f = kept u (f refl)
  frame-word u false f = refl

  frame : (u : Word) → seen_word a.shape words' m (P m) u ≡ seen_word a.shape words m (P m) u
  frame Lock = own-kept a.shape words l x m Lock other below n refl
  frame Tail = own-kept a.shape words l x m Tail other below n refl
  frame (Attr r) = Chain.by_eq (index (Attr r)) (index (site x))
      (λ i. (let s : site x ≡ Attr r = sym (apart (Attr r) (site x) i) in
      sym (ap (λ z. word_at a.shape words' l z) s) ∙ (wrote ∙ (attr r s ∙ ap (λ z. word_at a.shape words l z) s))))
      (λ d. kept (Attr r) d)
  frame (Next r) = frame-word (Next r) (uses_node (known (P m) r)) (far (Next r) r (λ o. o) (λ i. absurd (omega arith)))
  frame (State r) = frame-word (State r) (uses_node (known (P m) r)) (far (State r) r (λ o. o) (λ i. omega arith))
  frame (Bell r) = frame-word (Bell r) (uses_node (known (P m) r)) (far (Bell r) r (λ o. o) (λ i. absurd (omega arith)))

  pub there : Advances (terms_at a m) (W m) (ok.lawful m other) Nothing (world_at a words' threads' m)
  there = subst (λ (z : List PassState). Advances (terms_at a m) (W m) (ok.lawful m other) Nothing (record { words = words_saying (seen_word a.shape words' m z) thread_count; passes = z })) (sym passes-same)
      (alike-law (terms_at a m) (W m) (record { words = words_saying (seen_word a.shape words' m (P m)) thread_count; passes = P m }) (ok.lawful m other) (words-long (seen_word a.shape words' m (P m)) thread_count ∙ sym (words-long (seen_word a.shape words m (P m)) thread_count)) refl
      (alike-words (words_saying (seen_word a.shape words' m (P m)) thread_count) (words_saying (seen_word a.shape words m (P m)) thread_count) thread_count (words-long (seen_word a.shape words' m (P m)) thread_count) (words-long (seen_word a.shape words m (P m)) thread_count)
      (λ u h. words-at (seen_word a.shape words' m (P m)) thread_count u h ∙ (frame u ∙ sym (words-at (seen_word a.shape words m (P m)) thread_count u h)))))

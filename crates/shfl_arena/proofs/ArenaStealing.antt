-- Stealing may be disabled at a lock of an arena, beside the rows.
use Rattle.std.proofs.Common.{◌≡◌, ◌≢◌, ℕ, ◌<◌, List, length, length-set, refl, sym, ◌∙◌, subst, arith}
use Rattle.shfl_line.specs.declared.events.LineEvent.TheVariants.{Nothing}
use Rattle.shfl_line.proofs.Chain
use Rattle.shfl_core.specs.declared.phase.PassState.{PassState}
use Rattle.shfl_core.specs.declared.words.Word.{Word}
use Rattle.shfl_core.specs.declared.words.Word.TheVariants.{Lock, Tail, Next, State, Attr, Bell}
use Rattle.shfl_core.specs.Words.{look, index, wide, put}
use Rattle.shfl_core.specs.Worlds.{World}
use Rattle.shfl_core.specs.Lawful.{Lawful, Advances}
use Rattle.shfl_core.proofs.Standing.{apart}
use Rattle.shfl_laws.specs.Stealing.{disable_plan, stealing_disabled}
use Rattle.shfl_laws.proofs.words.Frame.{look-else, look-same}
use Rattle.shfl_laws.proofs.laws.Stealing.{disable-law}
use Rattle.shfl_arena.specs.Nodes.{IsClearNode}
use Rattle.shfl_arena.specs.declared.view.ThreadView.{ThreadView}
use Rattle.shfl_arena.specs.Threads.{passes_from}
use Rattle.shfl_arena.specs.ArenaWords.{place, word_at, written_at, seen_word, words_saying}
use Rattle.shfl_arena.specs.ArenaRule.{ArenaTerms, ArenaRule, KeepsArena, terms_at, world_at}
use Rattle.shfl_arena.specs.ArenaSteps.{ArenaDisableLaw}
use Rattle.shfl_arena.proofs.NodeLaws.{alike-law}
use Rattle.shfl_arena.proofs.Places.{words-long, words-at, alike-words, place-there, seen-same, word_at-same}
use Rattle.shfl_arena.proofs.Touches.{and-then, else-kept, own-kept}

module _ (a : ArenaTerms) (words : List ℕ) (threads : List ThreadView) (ok : ArenaRule a words threads) (l : ℕ) (below : l < a.shape.locks) where
  abbrev n : ℕ
  n = length a.attrs

  abbrev words' : List ℕ
  words' = written_at a.shape words l disable_plan

  abbrev P : ℕ → List PassState
  P m = passes_from m 0 threads

  abbrev W : ℕ → World
  W m = world_at a words threads m

  abbrev M : ℕ → Word → ℕ
  M m = seen_word a.shape words m (P m)

  abbrev M' : ℕ → Word → ℕ
  M' m = seen_word a.shape words' m (P m)

  abbrev made : ℕ
  made = put disable_plan (word_at a.shape words l Lock)

  abbrev X : World
  X = stealing_disabled (W l)

  wrote : word_at a.shape words' l Lock ≡ made
  wrote = word_at-same a.shape words l Lock made (let h = place-there a.shape l n Lock below (let z : index Lock < wide n = omega arith in z) in let r = ok.room in omega arith)

  kept : (m : ℕ) (u : Word) → m < a.shape.locks → index u ≢ index Lock → word_at a.shape words' m u ≡ word_at a.shape words m u
  kept m u h d = else-kept a.shape words l disable_plan m u h below d

  long : length X.words ≡ wide n
  long = length-set (W l).words (index Lock) made ∙ words-long (M l) n

  says : (u : Word) → index u < wide n → M' l u ≡ look X.words u
  says u h = Chain.by_eq (index u) (index Lock)
      (λ e. subst (λ z. M' l z ≡ look X.words z) (sym (apart u Lock e)) (wrote ∙ sym (look-same (W l).words Lock made (let w = words-long (M l) n in omega arith))))
      (λ d. seen-same a.shape words words' l (P l) u (kept l u below d) ∙ (sym (words-at (M l) n u h) ∙ sym (look-else (W l).words Lock u made d)))

  here : Advances (terms_at a l) (W l) (ok.lawful l below) Nothing (world_at a words' threads l)
  here = and-then (terms_at a l) (W l) X (world_at a words' threads l) (ok.lawful l below) Nothing (disable-law (terms_at a l) (W l) (ok.lawful l below))
      (λ ok1. alike-law (terms_at a l) X (world_at a words' threads l) ok1 (words-long (M' l) n ∙ sym long) refl
      (alike-words (words_saying (M' l) n) X.words n (words-long (M' l) n) long (λ u h. words-at (M' l) n u h ∙ says u h)))

  -- no other word of any lock is touched
  frame : (m : ℕ) (u : Word) → m < a.shape.locks → m ≢ l → word_at a.shape words' m u ≡ word_at a.shape words m u
  frame m Lock h d = own-kept a.shape words l disable_plan m Lock h below d refl
  frame m Tail h d = own-kept a.shape words l disable_plan m Tail h below d refl
  frame m (Next r) h d = kept m (Next r) h (λ e. omega arith)
  frame m (State r) h d = kept m (State r) h (λ e. omega arith)
  frame m (Attr r) h d = kept m (Attr r) h (λ e. omega arith)
  frame m (Bell r) h d = kept m (Bell r) h (λ e. omega arith)

  there : (m : ℕ) (other : m < a.shape.locks) → m ≢ l → Advances (terms_at a m) (W m) (ok.lawful m other) Nothing (world_at a words' threads m)
  there m other d = alike-law (terms_at a m) (W m) (world_at a words' threads m) (ok.lawful m other) (words-long (M' m) n ∙ sym (words-long (M m) n)) refl
      (alike-words (words_saying (M' m) n) (words_saying (M m) n) n (words-long (M' m) n) (words-long (M m) n)
      (λ u h. words-at (M' m) n u h ∙ (seen-same a.shape words words' m (P m) u (frame m u other d) ∙ sym (words-at (M m) n u h))))

  some-lock : 0 < a.shape.locks
  some-lock = let b = below in omega arith

  pub disabling-keeps : KeepsArena a words threads ok l below Nothing words' threads
  disabling-keeps = record {
    rule = record {
      room = length-set words (place a.shape l Lock) made ∙ ok.room;
      lawful = λ m h. Chain.by_eq m l (λ i. subst (λ z. Lawful (terms_at a z) (world_at a words' threads z)) (sym i) here.lawful) (λ d. (there m h d).lawful);
      clear = λ k h none. subst (λ (z : ℕ × ℕ × ℕ). IsClearNode z.0 z.1 z.2)
          (λ j. (sym (kept 0 (Next k) some-lock (λ e. omega arith)) j, sym (kept 0 (State k) some-lock (λ e. omega arith)) j, sym (kept 0 (Bell k) some-lock (λ e. omega arith)) j)) (ok.clear k h none);
    };
    here = here;
    elsewhere = there;
  }

pub arena-disable-law : (a : ArenaTerms) → ArenaDisableLaw a
arena-disable-law a words threads ok l below = disabling-keeps a words threads ok l below

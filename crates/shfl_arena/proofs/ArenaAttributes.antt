-- Another attribute of a thread that has no step to make anywhere.
use Rattle.std.proofs.Common.{◌≡◌, ◌≢◌, ℕ, ◌<◌, false, List, length, length-set, refl, sym, ap, ◌∙◌, subst, arith}
use Rattle.std.specs.Prelude.{Option, Some, None}
use mathlib.Core.Option.{some}
use lib.ListN.{get_elem?}
use Rattle.shfl_line.specs.declared.events.Mode.{Mode}
use Rattle.shfl_line.proofs.Chain
use Rattle.shfl_core.specs.declared.phase.PassState.{PassState}
use Rattle.shfl_core.specs.declared.words.Word.{Word}
use Rattle.shfl_core.specs.declared.words.Word.TheVariants.{Next, State, Attr, Bell}
use Rattle.shfl_core.specs.Words.{look, index, wide}
use Rattle.shfl_core.specs.Phases.{is_queued}
use Rattle.shfl_core.specs.Worlds.{World, known}
use Rattle.shfl_core.specs.Lawful.{Lawful}
use Rattle.shfl_core.proofs.Lists.{seen-at}
use Rattle.shfl_core.proofs.Standing.{apart}
use Rattle.shfl_laws.proofs.words.Frame.{look-else, look-same}
use Rattle.shfl_arena.specs.Nodes.{IsClearNode, with_attr, terms_with_attr}
use Rattle.shfl_arena.specs.declared.view.ThreadView.{ThreadView}
use Rattle.shfl_arena.specs.Threads.{new_thread, mode_held, pass_at_rest, pass_at, passes_from}
use Rattle.shfl_arena.specs.ArenaWords.{place, word_at, seen_word, words_saying}
use Rattle.shfl_arena.specs.ArenaRule.{ArenaTerms, ArenaRule, terms_at, world_at}
use Rattle.shfl_arena.specs.ArenaSteps.{with_attribute, attribute_written, KeepsLines, ArenaAttributeLaw}
use Rattle.shfl_arena.proofs.NodeLaws.{alike-law}
use Rattle.shfl_arena.proofs.Attributes.{attribute-law}
use Rattle.shfl_arena.proofs.Places.{words-long, words-at, alike-words, same-place, seen-same, word_at-same, word_at-else}
use Rattle.shfl_arena.proofs.Threads.{at-none, off-at, passes-known}

rest-away : (k : ℕ) (h : Option Mode) → is_queued (pass_at_rest k h) ≡ false
rest-away k None = refl
rest-away k (Some m) = refl

module _ (a : ArenaTerms) (words : List ℕ) (threads : List ThreadView) (ok : ArenaRule a words threads) (k : ℕ) (v : ThreadView) (n : ℕ) (at : get_elem? threads k ≡ some v) (none : v.at ≡ None) (seated : k < length a.attrs) where
  abbrev a' : ArenaTerms
  a' = with_attribute a k n

  abbrev words' : List ℕ
  words' = attribute_written a words k n

  abbrev P : ℕ → List PassState
  P l = passes_from l 0 threads

  counts : length a'.attrs ≡ length a.attrs
  counts = length-set a.attrs k n

  away : (l : ℕ) → is_queued (known (P l) k) ≡ false
  away l = ap is_queued (passes-known l threads k ∙ (ap (pass_at l k) (seen-at threads k v new_thread at).0 ∙ off-at l k v (at-none l v none))) ∙ rest-away k (mode_held l v.holds)

  kept : (l : ℕ) (u : Word) → l < a.shape.locks → index u ≢ index (Attr k) → word_at a.shape words' l u ≡ word_at a.shape words l u
  kept l u h d = word_at-else a.shape words l (Attr k) n l u (λ e. d (same-place a.shape l l h h u (Attr k) e).0)

  wrote : (l : ℕ) → word_at a.shape words' l (Attr k) ≡ n
  wrote l = word_at-same a.shape words l (Attr k) n (let r = ok.room in let s = seated in omega arith)

  module _ (l : ℕ) (below : l < a.shape.locks) where
    abbrev W : World
    W = world_at a words threads l

    abbrev M : Word → ℕ
    M = seen_word a.shape words l (P l)

    abbrev M' : Word → ℕ
    M' = seen_word a.shape words' l (P l)

    changed : (then : Lawful (terms_with_attr (terms_at a l) k n) (with_attr W k n)) × (then.shown ≡ (ok.lawful l below).shown)
    changed = attribute-law (terms_at a l) W k n (ok.lawful l below) seated (away l)

    long : length (with_attr W k n).words ≡ wide (length a'.attrs)
    long = length-set W.words (index (Attr k)) n ∙ (words-long M (length a.attrs) ∙ ap wide (sym counts))

    says : (u : Word) → index u < wide (length a'.attrs) → M' u ≡ look (with_attr W k n).words u
    says u h = Chain.by_eq (index u) (index (Attr k))
        (λ e. subst (λ z. M' z ≡ look (with_attr W k n).words z) (sym (apart u (Attr k) e)) (wrote l ∙ sym (look-same W.words (Attr k) n (let w = words-long M (length a.attrs) in let s = seated in omega arith))))
        (λ d. seen-same a.shape words words' l (P l) u (kept l u below d) ∙ (sym (words-at M (length a.attrs) u (let c = counts in omega arith)) ∙ sym (look-else W.words (Attr k) u n d)))

    pub line-stays : (then : Lawful (terms_at a' l) (world_at a' words' threads l)) × (then.shown ≡ (ok.lawful l below).shown)
    line-stays = let c = changed in let e = alike-law (terms_at a' l) (with_attr W k n) (world_at a' words' threads l) c.0 (words-long M' (length a'.attrs) ∙ sym long) refl
        (alike-words (words_saying M' (length a'.attrs)) (with_attr W k n).words (length a'.attrs) (words-long M' (length a'.attrs)) long (λ u h. words-at M' (length a'.attrs) u h ∙ says u h)) in
        (e.lawful, e.shown ∙ c.1)

  node-kept : (r : ℕ) → (word_at a.shape words' 0 (Next r) ≡ word_at a.shape words 0 (Next r)) × (word_at a.shape words' 0 (State r) ≡ word_at a.shape words 0 (State r)) × (word_at a.shape words' 0 (Bell r) ≡ word_at a.shape words 0 (Bell r))
  node-kept r = (word_at-else a.shape words 0 (Attr k) n 0 (Next r) (λ e. omega arith), word_at-else a.shape words 0 (Attr k) n 0 (State r) (λ e. omega arith), word_at-else a.shape words 0 (Attr k) n 0 (Bell r) (λ e. omega arith))

  pub attribute-kept : KeepsLines a words threads ok a' words'
  attribute-kept = record {
    rule = record {
      room = length-set words (place a.shape 0 (Attr k)) n ∙ (let r = ok.room in let c = counts in omega arith);
      lawful = λ l h. (line-stays l h).0;
      clear = λ r h unused. (let e = node-kept r in subst (λ (z : ℕ × ℕ × ℕ). IsClearNode z.0 z.1 z.2) (λ j. (sym e.0 j, sym e.1 j, sym e.2 j)) (ok.clear r (let c = counts in omega arith) unused));
    };
    lines = λ l h. line-stays l h;
  }

pub arena-attribute-law : (a : ArenaTerms) → ArenaAttributeLaw a
arena-attribute-law a words threads ok k v n at none seated = attribute-kept a words threads ok k v n at none seated

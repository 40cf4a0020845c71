-- From words and passes in lists to the world as it is read, and back.
use Rattle.std.proofs.Common.{◌≡◌, ◌≢◌, ℕ, ◌<◌, List, length, set, get_or-set_same, get_or-set_other, sym, ap, ◌∙◌, subst, arith}
use Rattle.shfl_line.specs.Passes.{updated}
use Rattle.shfl_line.specs.Words.{held_of, closed_of, readers_of, state_of}
use Rattle.shfl_line.proofs.Chain
use Rattle.shfl_core.specs.declared.phase.PassState.{PassState}
use Rattle.shfl_core.specs.declared.words.Word.{Word}
use Rattle.shfl_core.specs.declared.words.Word.TheVariants.{Lock, Tail, Next, State, Attr, Bell}
use Rattle.shfl_core.specs.Words.{look, index}
use Rattle.shfl_core.specs.Waiting.{idle}
use Rattle.shfl_core.specs.Worlds.{World, known}
use Rattle.shfl_core.specs.View.{View, view}
use Rattle.shfl_core.specs.Lawful.{Formed}
use Rattle.shfl_core.proofs.Lists.{set-read}
use Rattle.shfl_core.proofs.Standing.{apart}

pub known-set : (l : List PassState) (i : ℕ) (v : PassState) → i < length l → (q : ℕ) → known (set l i v) q ≡ updated (known l) i v q
known-set l i v h q = Chain.by_eq q i
    (λ e. subst (λ z. known (set l i v) z ≡ updated (known l) i v z) (sym e) (get_or-set_same l i v (idle i) h ∙ sym (Chain.updated-same (known l) i v)))
    (λ n. get_or-set_other l i q v (idle q) n ∙ sym (Chain.updated-else (known l) i q v n))

pub look-else : (l : List ℕ) (v w : Word) (n : ℕ) → index w ≢ index v → look (set l (index v) n) w ≡ look l w
look-else l v w n h = get_or-set_other l (index v) (index w) n 0 h

pub look-same : (l : List ℕ) (v : Word) (n : ℕ) → index v < length l → look (set l (index v) n) v ≡ n
look-same l v n h = get_or-set_same l (index v) n 0 h

-- a word's form, where one word was written
pub formed-set : (l : List ℕ) (v : Word) (n : ℕ) → index v < length l → Formed v n → ((w : Word) → Formed w (look l w)) → (w : Word) → Formed w (look (set l (index v) n) w)
formed-set l v n h f all w = Chain.by_eq (index w) (index v)
    (λ e. subst (λ (z : Word). Formed z (look (set l (index v) n) z)) (sym (apart w v e)) (subst (Formed v) (sym (look-same l v n h)) f))
    (λ d. subst (Formed w) (sym (look-else l v w n d)) (all w))

-- the pass alone changes
abbrev pub passed : View → ℕ → PassState → View
passed w p v = record w { pass = updated w.pass p v }

-- a word is written, and the pass changes
abbrev pub written_lock : View → ℕ → ℕ → PassState → View
written_lock w n p v = record w { held = held_of n; closed = closed_of n; readers = readers_of n; pass = updated w.pass p v }

abbrev pub written_tail : View → ℕ → ℕ → PassState → View
written_tail w n p v = record w { tail = n; pass = updated w.pass p v }

abbrev pub written_next : View → ℕ → ℕ → ℕ → PassState → View
written_next w i n p v = record w { next = updated w.next i n; pass = updated w.pass p v }

abbrev pub written_state : View → ℕ → ℕ → ℕ → PassState → View
written_state w i n p v = record w { node = updated w.node i (state_of n); pass = updated w.pass p v }

abbrev pub written_bell : View → ℕ → ℕ → ℕ → PassState → View
written_bell w i n p v = record w { bell = updated w.bell i n; pass = updated w.pass p v }

module _ (w : World) (p : ℕ) (v : PassState) (hp : p < length w.passes) where
  abbrev ws : List ℕ
  ws = w.words

  abbrev at : List ℕ → World
  at l = record { words = l; passes = set w.passes p v }

  pub view-load : (u : Word) → passed (view w) p v ≡ view (at (set w.words (index u) (look w.words u)))
  view-load u = subst (λ (l : List ℕ). passed (view w) p v ≡ view (record { words = l; passes = set w.passes p v })) (sym (set-read w.words (index u) 0))
      (λ k. record (view w) { pass = λ q. sym (known-set w.passes p v hp q) k })

  pub view-lock : (n : ℕ) → index Lock < length w.words → written_lock (view w) n p v ≡ view (at (set w.words (index Lock) n))
  view-lock n h = λ k. record {
    held = held_of (sym (look-same w.words Lock n h) k);
    closed = closed_of (sym (look-same w.words Lock n h) k);
    readers = readers_of (sym (look-same w.words Lock n h) k);
    tail = sym (look-else w.words Lock Tail n (λ e. omega arith)) k;
    next = λ q. sym (look-else w.words Lock (Next q) n (λ e. omega arith)) k;
    node = λ q. state_of (sym (look-else w.words Lock (State q) n (λ e. omega arith)) k);
    attr = λ q. sym (look-else w.words Lock (Attr q) n (λ e. omega arith)) k;
    bell = λ q. sym (look-else w.words Lock (Bell q) n (λ e. omega arith)) k;
    pass = λ q. sym (known-set w.passes p v hp q) k;
  }

  pub view-tail : (n : ℕ) → index Tail < length w.words → written_tail (view w) n p v ≡ view (at (set w.words (index Tail) n))
  view-tail n h = λ k. record {
    held = held_of (sym (look-else w.words Tail Lock n (λ e. omega arith)) k);
    closed = closed_of (sym (look-else w.words Tail Lock n (λ e. omega arith)) k);
    readers = readers_of (sym (look-else w.words Tail Lock n (λ e. omega arith)) k);
    tail = sym (look-same w.words Tail n h) k;
    next = λ q. sym (look-else w.words Tail (Next q) n (λ e. omega arith)) k;
    node = λ q. state_of (sym (look-else w.words Tail (State q) n (λ e. omega arith)) k);
    attr = λ q. sym (look-else w.words Tail (Attr q) n (λ e. omega arith)) k;
    bell = λ q. sym (look-else w.words Tail (Bell q) n (λ e. omega arith)) k;
    pass = λ q. sym (known-set w.passes p v hp q) k;
  }

  pub view-next : (i n : ℕ) → index (Next i) < length w.words → written_next (view w) i n p v ≡ view (at (set w.words (index (Next i)) n))
  view-next i n h = λ k. record {
    held = held_of (sym (look-else w.words (Next i) Lock n (λ e. omega arith)) k);
    closed = closed_of (sym (look-else w.words (Next i) Lock n (λ e. omega arith)) k);
    readers = readers_of (sym (look-else w.words (Next i) Lock n (λ e. omega arith)) k);
    tail = sym (look-else w.words (Next i) Tail n (λ e. omega arith)) k;
    next = λ q. sym (here q) k;
    node = λ q. state_of (sym (look-else w.words (Next i) (State q) n (λ e. omega arith)) k);
    attr = λ q. sym (look-else w.words (Next i) (Attr q) n (λ e. omega arith)) k;
    bell = λ q. sym (look-else w.words (Next i) (Bell q) n (λ e. omega arith)) k;
    pass = λ q. sym (known-set w.passes p v hp q) k;
  }
    where
      here : (q : ℕ) → look (set w.words (index (Next i)) n) (Next q) ≡ updated (λ z. look w.words (Next z)) i n q
      here q = Chain.by_eq q i
          (λ e. subst (λ z. look (set w.words (index (Next i)) n) (Next z) ≡ updated (λ z. look w.words (Next z)) i n z) (sym e) (look-same w.words (Next i) n h ∙ sym (Chain.updated-same (λ z. look w.words (Next z)) i n)))
          (λ m. look-else w.words (Next i) (Next q) n (λ e. m (omega arith)) ∙ sym (Chain.updated-else (λ z. look w.words (Next z)) i q n m))

  pub view-state : (i n : ℕ) → index (State i) < length w.words → written_state (view w) i n p v ≡ view (at (set w.words (index (State i)) n))
  view-state i n h = λ k. record {
    held = held_of (sym (look-else w.words (State i) Lock n (λ e. omega arith)) k);
    closed = closed_of (sym (look-else w.words (State i) Lock n (λ e. omega arith)) k);
    readers = readers_of (sym (look-else w.words (State i) Lock n (λ e. omega arith)) k);
    tail = sym (look-else w.words (State i) Tail n (λ e. omega arith)) k;
    next = λ q. sym (look-else w.words (State i) (Next q) n (λ e. omega arith)) k;
    node = λ q. sym (here q) k;
    attr = λ q. sym (look-else w.words (State i) (Attr q) n (λ e. omega arith)) k;
    bell = λ q. sym (look-else w.words (State i) (Bell q) n (λ e. omega arith)) k;
    pass = λ q. sym (known-set w.passes p v hp q) k;
  }
    where
      here : (q : ℕ) → state_of (look (set w.words (index (State i)) n) (State q)) ≡ updated (λ z. state_of (look w.words (State z))) i (state_of n) q
      here q = Chain.by_eq q i
          (λ e. subst (λ z. state_of (look (set w.words (index (State i)) n) (State z)) ≡ updated (λ z. state_of (look w.words (State z))) i (state_of n) z) (sym e) (ap state_of (look-same w.words (State i) n h) ∙ sym (Chain.updated-same (λ z. state_of (look w.words (State z))) i (state_of n))))
          (λ m. ap state_of (look-else w.words (State i) (State q) n (λ e. m (omega arith))) ∙ sym (Chain.updated-else (λ z. state_of (look w.words (State z))) i q (state_of n) m))

  pub view-bell : (i n : ℕ) → index (Bell i) < length w.words → written_bell (view w) i n p v ≡ view (at (set w.words (index (Bell i)) n))
  view-bell i n h = λ k. record {
    held = held_of (sym (look-else w.words (Bell i) Lock n (λ e. omega arith)) k);
    closed = closed_of (sym (look-else w.words (Bell i) Lock n (λ e. omega arith)) k);
    readers = readers_of (sym (look-else w.words (Bell i) Lock n (λ e. omega arith)) k);
    tail = sym (look-else w.words (Bell i) Tail n (λ e. omega arith)) k;
    next = λ q. sym (look-else w.words (Bell i) (Next q) n (λ e. omega arith)) k;
    node = λ q. state_of (sym (look-else w.words (Bell i) (State q) n (λ e. omega arith)) k);
    attr = λ q. sym (look-else w.words (Bell i) (Attr q) n (λ e. omega arith)) k;
    bell = λ q. sym (here q) k;
    pass = λ q. sym (known-set w.passes p v hp q) k;
  }
    where
      here : (q : ℕ) → look (set w.words (index (Bell i)) n) (Bell q) ≡ updated (λ z. look w.words (Bell z)) i n q
      here q = Chain.by_eq q i
          (λ e. subst (λ z. look (set w.words (index (Bell i)) n) (Bell z) ≡ updated (λ z. look w.words (Bell z)) i n z) (sym e) (look-same w.words (Bell i) n h ∙ sym (Chain.updated-same (λ z. look w.words (Bell z)) i n)))
          (λ m. look-else w.words (Bell i) (Bell q) n (λ e. m (omega arith)) ∙ sym (Chain.updated-else (λ z. look w.words (Bell z)) i q n m))

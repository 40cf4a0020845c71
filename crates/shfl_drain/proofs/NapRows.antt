-- The steps of parking, and the one that wakes another: each leaves less to be done, but for a sleeper that isn't woken.
use Rattle.std.proofs.Common.{◌≡◌, ◌≢◌, ℕ, ◌+◌, ◌<◌, ◌≤◌, Bool, true, false, cond, ◌==◌, length, set, get_or-set_other, refl, sym, ap, ◌∙◌, inl, inr, subst, ⊎_elim, arith}
use Rattle.std.specs.Prelude.{◌||◌, bit_and}
use Rattle.std.proofs.lemmas.Bool.Decides.{nat_tests}
use Rattle.shfl_line.specs.declared.events.LineEvent.TheVariants as event
use Rattle.shfl_line.specs.declared.words.NodeState.{NodeState}
use Rattle.shfl_line.specs.declared.words.TheConstants.{PARKED}
use Rattle.shfl_line.specs.Line.{Line, mark_of}
use Rattle.shfl_line.specs.Words.{ready_of, spin_of}
use Rattle.shfl_line.proofs.Chain
use Rattle.shfl_core.specs.declared.phase.Phase.{Phase}
use Rattle.shfl_core.specs.declared.phase.Phase.TheVariants as phase
use Rattle.shfl_core.specs.declared.phase.Nap.{Nap}
use Rattle.shfl_core.specs.declared.phase.Nap.TheVariants.{Awake, Doze, Hear, Rouse, Ring}
use Rattle.shfl_core.specs.declared.phase.PassState.{PassState}
use Rattle.shfl_core.specs.declared.words.Word.{Word}
use Rattle.shfl_core.specs.declared.words.Word.TheVariants.{Lock, State as StateOf, Bell}
use Rattle.shfl_core.specs.Words.{look, index}
use Rattle.shfl_core.specs.Phases.{is_round, is_queued, is_fore, queued_rank, rank, fore_rank}
use Rattle.shfl_core.specs.Plan.{all_but}
use Rattle.shfl_core.specs.Owed.{fits}
use Rattle.shfl_core.specs.Waiting.{idle}
use Rattle.shfl_core.specs.Worlds.{World, known}
use Rattle.shfl_core.specs.View.{view}
use Rattle.shfl_core.specs.Lawful.{Terms, count, Lawful, Advances}
use Rattle.shfl_laws.specs.Rounds.{left}
use Rattle.shfl_laws.proofs.words.Frame.{known-set, look-else, look-same}
use Rattle.shfl_laws.proofs.words.StateBits.{and-parked}
use Rattle.shfl_laws.proofs.plain.PlainOwed.{both-or}
use Rattle.shfl_drain.proofs.Bools.{true-or}
use Rattle.shfl_drain.proofs.Phases.{hear-looks}
use Rattle.shfl_drain.proofs.Stages.{stage}
use Rattle.shfl_drain.proofs.Slack.{slack, slack-left, nap_left, pace_at, drowsy}
use Rattle.shfl_drain.proofs.Number.{way, wait, unmarked, no-longer, shorter, wait-else}
use Rattle.shfl_drain.proofs.Row.{Leaves, RoundsKept}

-- a word is written, and the pass is in another park state
abbrev pub napped : World → ℕ → Word → ℕ → Nap → World
napped w p u n y = record { words = set w.words (index u) n; passes = set w.passes p (record (known w.passes p) { nap = y }) }

-- the pass is where it looks: how long it waits while it isn't awake
looks-slack : (n : ℕ) (q : PassState) (y : Nap) (b : Bool) (lock mark left : ℕ) → q.phase ≡ phase.Look → (y ≡ Awake → ⊥) → slack n (record q { nap = y }) b lock mark left ≡ nap_left y
looks-slack n q y b lock mark left e a = (λ j. nap_left y + cond (fore_rank (rank (e j)) q.reg.headed || b) (pace_at n lock q.reg.saw left (e j)) (drowsy mark y (e j))) ∙ by y b a
  where
    by : (y : Nap) (b : Bool) → (y ≡ Awake → ⊥) → nap_left y + cond b 0 (drowsy mark y phase.Look) ≡ nap_left y
    by Awake b a = absurd (a refl)
    by Doze true a = omega arith
    by Doze false a = omega arith
    by Hear true a = omega arith
    by Hear false a = omega arith
    by Rouse true a = omega arith
    by Rouse false a = omega arith
    by (Ring whom) true a = omega arith
    by (Ring whom) false a = omega arith

module _ (t : Terms) (w : World) (ok : Lawful t w) (p : ℕ) (below : p < length w.passes) (u : Word) (n : ℕ) (y : Nap) (a : Advances t w ok event.Nothing (napped w p u n y))
    (kept : RoundsKept t w ok (napped w p u n y) a.lawful p) (lock-else : index Lock ≢ index u) (ready : (z : ℕ) → z ≢ p → ready_of (look (napped w p u n y).words (StateOf z)) ≡ ready_of (look w.words (StateOf z))) where
  abbrev w' : World
  w' = napped w p u n y

  in-all : p < count t
  in-all = let s = ok.seats in omega arith

  here : known (napped w p u n y).passes p ≡ record (known w.passes p) { nap = y }
  here = known-set w.passes p (record (known w.passes p) { nap = y }) below p ∙ Chain.updated-same (known w.passes) p (record (known w.passes p) { nap = y })

  else : (z : ℕ) → z ≢ p → known (napped w p u n y).passes z ≡ known w.passes z
  else z d = get_or-set_other w.passes p z (record (known w.passes p) { nap = y }) (idle z) d

  pub mark-same : (z : ℕ) → mark_of a.lawful.shown z ≡ mark_of ok.shown z
  mark-same z = ap (λ (s : Line). mark_of s z) a.shown

  own-way : way t (napped w p u n y) a.lawful p ≤ way t w ok p
  own-way = let e : way t (napped w p u n y) a.lawful p ≡ way t w ok p = (λ j. stage (here j) + unmarked (here j) (mark_same j)) in omega arith
    where
      mark_same : mark_of a.lawful.shown p ≡ mark_of ok.shown p
      mark_same = mark-same p

  lock-same : look (napped w p u n y).words Lock ≡ look w.words Lock
  lock-same = look-else w.words u Lock n lock-else

  others : (z : ℕ) → z ≢ p → wait t (napped w p u n y) a.lawful z ≡ wait t w ok z
  others = wait-else t w ok w' a.lawful p in-all else (λ z _ e. sym (mark-same z) ∙ e) (λ z _. mark-same z) ready lock-same kept

  own-is : wait t (napped w p u n y) a.lawful p ≡ slack (count t) (record (known w.passes p) { nap = y }) (ready_of (look (napped w p u n y).words (StateOf p))) (look (napped w p u n y).words Lock) (mark_of a.lawful.shown p) (left t (napped w p u n y) a.lawful p)
  own-is = ap (λ (q : PassState). slack (count t) q (ready_of (look w'.words (StateOf p))) (look w'.words Lock) (mark_of a.lawful.shown p) (left t w' a.lawful p)) here

  pub nap-sooner : (b : Bool) → slack (count t) (record (known w.passes p) { nap = y }) (ready_of (look (napped w p u n y).words (StateOf p))) (look (napped w p u n y).words Lock) (mark_of a.lawful.shown p) (left t (napped w p u n y) a.lawful p) < wait t w ok p
      → Leaves t w ok (napped w p u n y) a.lawful b
  nap-sooner b h = let e = own-is in inl (shorter t w ok w' a.lawful p in-all else (λ z _ e. sym (mark-same z) ∙ e) own-way others (omega (arith, h)))

  pub nap-later : (b : Bool) → slack (count t) (record (known w.passes p) { nap = y }) (ready_of (look (napped w p u n y).words (StateOf p))) (look (napped w p u n y).words Lock) (mark_of a.lawful.shown p) (left t (napped w p u n y) a.lawful p) ≤ wait t w ok p
      → b ≡ true → Leaves t w ok (napped w p u n y) a.lawful b
  nap-later b h v = let e = own-is in inr (no-longer t w ok w' a.lawful p in-all else (λ z _ e. sym (mark-same z) ∙ e) own-way others (omega (arith, h)), v)

  -- a pass that stays where it looks and doesn't wake yet
  pub looks-new : (known w.passes p).phase ≡ phase.Look → (y ≡ Awake → ⊥) → slack (count t) (record (known w.passes p) { nap = y }) (ready_of (look (napped w p u n y).words (StateOf p))) (look (napped w p u n y).words Lock) (mark_of a.lawful.shown p) (left t (napped w p u n y) a.lawful p) ≡ nap_left y
  looks-new e d = looks-slack (count t) (known w.passes p) y (ready_of (look w'.words (StateOf p))) (look w'.words Lock) (mark_of a.lawful.shown p) (left t w' a.lawful p) e d

fits-look : (x : Nap) (f : Phase) → x ≡ Doze → fits x f ≡ true → f ≡ phase.Look
fits-look x f e h = by f (subst (λ z. fits z f ≡ true) e h)
  where
    by : (f : Phase) → fits Doze f ≡ true → f ≡ phase.Look
    by phase.Look h = refl
    by _ h = absurd (cc)

fits-rouse : (x : Nap) (f : Phase) → x ≡ Rouse → fits x f ≡ true → f ≡ phase.Look
fits-rouse x f e h = by f (subst (λ z. fits z f ≡ true) e h)
  where
    by : (f : Phase) → fits Rouse f ≡ true → f ≡ phase.Look
    by phase.Look h = refl
    by _ h = absurd (cc)

module _ (t : Terms) (w : World) (ok : Lawful t w) (p : ℕ) (below : p < length w.passes) where
  old-looks : (x : Nap) → (known w.passes p).nap ≡ x → (x ≡ Awake → ⊥) → (known w.passes p).phase ≡ phase.Look → wait t w ok p ≡ nap_left x
  old-looks x e d f = ap (λ (z : Nap). slack (count t) (record (known w.passes p) { nap = z }) (ready_of (look w.words (StateOf p))) (look w.words Lock) (mark_of ok.shown p) (left t w ok p)) e
      ∙ looks-slack (count t) (known w.passes p) x (ready_of (look w.words (StateOf p))) (look w.words Lock) (mark_of ok.shown p) (left t w ok p) f d

  state-else : (n : ℕ) (z : ℕ) → z ≢ p → ready_of (look (set w.words (index (StateOf p)) n) (StateOf z)) ≡ ready_of (look w.words (StateOf z))
  state-else n z d = ap ready_of (look-else w.words (StateOf p) (StateOf z) n (λ e. d (omega arith)))

  -- a pass that announces that it parks
  pub doze-row : (known w.passes p).nap ≡ Doze → (n : ℕ) (b : Bool) (a : Advances t w ok event.Nothing (napped w p (StateOf p) n (cond b Rouse Hear))) → RoundsKept t w ok (napped w p (StateOf p) n (cond b Rouse Hear)) a.lawful p
      → Leaves t w ok (napped w p (StateOf p) n (cond b Rouse Hear)) a.lawful false
  doze-row e n b = by b
    where
      f : (known w.passes p).phase ≡ phase.Look
      f = fits-look (known w.passes p).nap (known w.passes p).phase e (ok.agrees.owed.places p)

      old : wait t w ok p ≡ 3
      old = old-looks Doze e (λ i. (cc)) f

      by : (b : Bool) (a : Advances t w ok event.Nothing (napped w p (StateOf p) n (cond b Rouse Hear))) → RoundsKept t w ok (napped w p (StateOf p) n (cond b Rouse Hear)) a.lawful p → Leaves t w ok (napped w p (StateOf p) n (cond b Rouse Hear)) a.lawful false
      by true a kept = nap-sooner t w ok p below (StateOf p) n Rouse a kept (λ i. omega arith) (state-else n) false (let x = old in let z = looks-new t w ok p below (StateOf p) n Rouse a kept (λ i. omega arith) (state-else n) f (λ i. (cc)) in omega arith)
      by false a kept = nap-sooner t w ok p below (StateOf p) n Hear a kept (λ i. omega arith) (state-else n) false (let x = old in let z = looks-new t w ok p below (StateOf p) n Hear a kept (λ i. omega arith) (state-else n) f (λ i. (cc)) in omega arith)

  bell-else : (q n z : ℕ) → ready_of (look (set w.words (index (Bell q)) n) (StateOf z)) ≡ ready_of (look w.words (StateOf z))
  bell-else q n z = ap ready_of (look-else w.words (Bell q) (StateOf z) n (λ e. omega arith))

  -- a sleeper that reads its wakeup word
  pub hear-row : (known w.passes p).nap ≡ Hear → (n : ℕ) (b : Bool) → ((look w.words (Bell p) == 1) ≡ b) → (a : Advances t w ok event.Nothing (napped w p (Bell p) n (cond b Rouse Hear))) → RoundsKept t w ok (napped w p (Bell p) n (cond b Rouse Hear)) a.lawful p
      → Leaves t w ok (napped w p (Bell p) n (cond b Rouse Hear)) a.lawful (look w.words (Bell p) == 0)
  hear-row e n b = by b
    where
      f : (known w.passes p).phase ≡ phase.Look
      f = hear-looks (known w.passes p).phase (subst (λ z. fits z (known w.passes p).phase ≡ true) e (ok.agrees.owed.places p))

      old : wait t w ok p ≡ 2
      old = old-looks Hear e (λ i. (cc)) f

      by : (b : Bool) → ((look w.words (Bell p) == 1) ≡ b) → (a : Advances t w ok event.Nothing (napped w p (Bell p) n (cond b Rouse Hear))) → RoundsKept t w ok (napped w p (Bell p) n (cond b Rouse Hear)) a.lawful p
          → Leaves t w ok (napped w p (Bell p) n (cond b Rouse Hear)) a.lawful (look w.words (Bell p) == 0)
      by true i a kept = nap-sooner t w ok p below (Bell p) n Rouse a kept (λ i. omega arith) (λ z _. bell-else p n z) (look w.words (Bell p) == 0) (let x = old in let z = looks-new t w ok p below (Bell p) n Rouse a kept (λ i. omega arith) (λ z _. bell-else p n z) f (λ i. (cc)) in omega arith)
      by false i a kept = nap-later t w ok p below (Bell p) n Hear a kept (λ i. omega arith) (λ z _. bell-else p n z) (look w.words (Bell p) == 0) (let x = old in let z = looks-new t w ok p below (Bell p) n Hear a kept (λ i. omega arith) (λ z _. bell-else p n z) f (λ i. (cc)) in omega arith)
          (let m = ok.formed (Bell p) in let g : look w.words (Bell p) ≢ 1 = grind (arith, nat_tests, i) in let h : look w.words (Bell p) ≡ 0 = omega arith in let k : (look w.words (Bell p) == 0) ≡ true = grind (arith, nat_tests, h) in k)

  -- a sleeper that was woken takes its announcement back: it was told to go on, so it doesn't park again
  pub rouse-row : (known w.passes p).nap ≡ Rouse → (a : Advances t w ok event.Nothing (napped w p (StateOf p) (bit_and (look w.words (StateOf p)) (all_but PARKED)) Awake))
      → RoundsKept t w ok (napped w p (StateOf p) (bit_and (look w.words (StateOf p)) (all_but PARKED)) Awake) a.lawful p
      → Leaves t w ok (napped w p (StateOf p) (bit_and (look w.words (StateOf p)) (all_but PARKED)) Awake) a.lawful false
  rouse-row e a kept = nap-sooner t w ok p below (StateOf p) (bit_and (look w.words (StateOf p)) (all_but PARKED)) Awake a kept (λ i. omega arith) (state-else (bit_and (look w.words (StateOf p)) (all_but PARKED))) false
      (let x = old in let y = new in omega arith)
    where
      f : (known w.passes p).phase ≡ phase.Look
      f = fits-rouse (known w.passes p).nap (known w.passes p).phase e (ok.agrees.owed.places p)

      old : wait t w ok p ≡ 1
      old = old-looks Rouse e (λ i. (cc)) f

      in-words : index (StateOf p) < length w.words
      in-words = let s = ok.seats in let r = ok.room in omega arith

      ready : ready_of (look (set w.words (index (StateOf p)) (bit_and (look w.words (StateOf p)) (all_but PARKED))) (StateOf p)) ≡ ready_of (look w.words (StateOf p))
      ready = ap ready_of (look-same w.words (StateOf p) (bit_and (look w.words (StateOf p)) (all_but PARKED)) in-words) ∙ ap (λ (z : NodeState). z.ready) (and-parked (look w.words (StateOf p)) (ok.formed (StateOf p))).is

      marked : spin_of (look w.words (StateOf p)) ≡ true → 0 < mark_of ok.shown p
      marked s = let q : is_queued (known w.passes p) ≡ true = ap (λ z. queued_rank (rank z)) f in let m = ok.agrees.grouping.mark p in let b = ok.agrees.owed.told p q s in
          let k : mark_of ok.shown p ≡ ((view w).node p).batch = m ∙ ap (λ z. cond z ((view w).node p).batch 0) q in omega arith

      by : (b : Bool) → ready_of (look w.words (StateOf p)) ≡ b → ◌≡◌ {A = ℕ} (0 + cond b 0 (cond (mark_of a.lawful.shown p == 0) 4 0)) 0
      by true i = refl
      by false i = ⊎_elim
          (λ r. absurd (cc))
          (λ s. (let k = marked s in let m = mark-same t w ok p below (StateOf p) (bit_and (look w.words (StateOf p)) (all_but PARKED)) Awake a kept (λ i. omega arith) (state-else (bit_and (look w.words (StateOf p)) (all_but PARKED))) p in grind (arith, nat_tests, k, m)))
          (both-or (ready_of (look w.words (StateOf p))) (spin_of (look w.words (StateOf p))) (ok.agrees.owed.roused p e))

      new : slack (count t) (record (known w.passes p) { nap = Awake }) (ready_of (look (napped w p (StateOf p) (bit_and (look w.words (StateOf p)) (all_but PARKED)) Awake).words (StateOf p))) (look (napped w p (StateOf p) (bit_and (look w.words (StateOf p)) (all_but PARKED)) Awake).words Lock) (mark_of a.lawful.shown p) (left t (napped w p (StateOf p) (bit_and (look w.words (StateOf p)) (all_but PARKED)) Awake) a.lawful p) ≡ 0
      new = (λ j. 0 + cond (fore_rank (rank (f j)) (known w.passes p).reg.headed || ready j)
          (pace_at (count t) (look (napped w p (StateOf p) (bit_and (look w.words (StateOf p)) (all_but PARKED)) Awake).words Lock) (known w.passes p).reg.saw (left t (napped w p (StateOf p) (bit_and (look w.words (StateOf p)) (all_but PARKED)) Awake) a.lawful p) (f j))
          (drowsy (mark_of a.lawful.shown p) Awake (f j))) ∙ by (ready_of (look w.words (StateOf p))) refl

  -- a pass that wakes another
  pub ring-row : (whom : ℕ) → (known w.passes p).nap ≡ Ring whom → (a : Advances t w ok event.Nothing (napped w p (Bell whom) 1 Awake)) → RoundsKept t w ok (napped w p (Bell whom) 1 Awake) a.lawful p
      → (is_round (known w.passes p).phase ≡ true → left t (napped w p (Bell whom) 1 Awake) a.lawful p ≡ left t w ok p) → Leaves t w ok (napped w p (Bell whom) 1 Awake) a.lawful false
  ring-row whom e a kept own = nap-sooner t w ok p below (Bell whom) 1 Awake a kept (λ i. omega arith) (λ z _. bell-else whom 1 z) false (let x = old in let y = new in omega arith)
    where
      mark : mark_of a.lawful.shown p ≡ mark_of ok.shown p
      mark = mark-same t w ok p below (Bell whom) 1 Awake a kept (λ i. omega arith) (λ z _. bell-else whom 1 z) p

      lock : look (set w.words (index (Bell whom)) 1) Lock ≡ look w.words Lock
      lock = look-else w.words (Bell whom) Lock 1 (λ i. omega arith)

      place : fits (Ring whom) (known w.passes p).phase ≡ true
      place = subst (λ z. fits z (known w.passes p).phase ≡ true) e (ok.agrees.owed.places p)

      never-drowsy : (m : ℕ) (f : Phase) → fits (Ring whom) f ≡ true → drowsy m Awake f ≡ 0
      never-drowsy m phase.Held i = refl
      never-drowsy m phase.Give i = refl
      never-drowsy m phase.Next i = refl
      never-drowsy m _ i = absurd (cc)

      rung : (h : Bool) (x : ℕ) → 1 + cond h x 0 ≡ 1 + (0 + cond h x 0)
      rung h x = omega arith

      old : wait t w ok p ≡ 1 + slack (count t) (record (known w.passes p) { nap = Awake }) (ready_of (look w.words (StateOf p))) (look w.words Lock) (mark_of ok.shown p) (left t w ok p)
      old = let d = never-drowsy (mark_of ok.shown p) (known w.passes p).phase place in
          (λ j. nap_left (e j) + cond (is_fore (known w.passes p) || ready_of (look w.words (StateOf p))) (pace_at (count t) (look w.words Lock) (known w.passes p).reg.saw (left t w ok p) (known w.passes p).phase) (drowsy (mark_of ok.shown p) (e j) (known w.passes p).phase))
          ∙ (rung (is_fore (known w.passes p) || ready_of (look w.words (StateOf p))) (pace_at (count t) (look w.words Lock) (known w.passes p).reg.saw (left t w ok p) (known w.passes p).phase)
          ∙ (λ j. 1 + (0 + cond (is_fore (known w.passes p) || ready_of (look w.words (StateOf p))) (pace_at (count t) (look w.words Lock) (known w.passes p).reg.saw (left t w ok p) (known w.passes p).phase) (sym d j))))

      new : slack (count t) (record (known w.passes p) { nap = Awake }) (ready_of (look (napped w p (Bell whom) 1 Awake).words (StateOf p))) (look (napped w p (Bell whom) 1 Awake).words Lock) (mark_of a.lawful.shown p) (left t (napped w p (Bell whom) 1 Awake) a.lawful p)
          ≡ slack (count t) (record (known w.passes p) { nap = Awake }) (ready_of (look w.words (StateOf p))) (look w.words Lock) (mark_of ok.shown p) (left t w ok p)
      new = ⊎_elim
          (λ r. (λ j. slack (count t) (record (known w.passes p) { nap = Awake }) (bell-else whom 1 p j) (lock j) (mark j) (own r j)))
          (λ r. (λ j. slack (count t) (record (known w.passes p) { nap = Awake }) (bell-else whom 1 p j) (lock j) (mark j) (left t (napped w p (Bell whom) 1 Awake) a.lawful p))
          ∙ slack-left (count t) (record (known w.passes p) { nap = Awake }) (ready_of (look w.words (StateOf p))) (look w.words Lock) (mark_of ok.shown p) (left t (napped w p (Bell whom) 1 Awake) a.lawful p) (left t w ok p) r)
          (true-or (is_round (known w.passes p).phase))

-- What the board keeps over its moves, and what a step of it is.
use Rattle.std.proofs.Common.{◌≡◌, ℕ, ◌<◌, ◌≤◌, Bool, true, false, List, length, set, sym, refl, ap, ◌∙◌, subst, ⊎_elim, length-set}
use Rattle.std.proofs.lemmas.List.{get_or-set_same}
use mathlib.Core.Option.{some}
use lib.ListN.{get_elem?}
use Rattle.atomic_table.specs.Table.{Me}
use Rattle.atomic_table.specs.Seated.{TableId}
use Rattle.atomic_table.proofs.Lists.{at_set, set_here, set_else}
use Rattle.shfl_line.specs.declared.events.Mode.{Mode}
use Rattle.shfl_core.specs.declared.phase.Rules.{Rules}
use Rattle.shfl_core.specs.declared.phase.PassState.{PassState}
use Rattle.shfl_core.specs.Words.{index, site, put, told, look, written, wide, is_store, NamesPass}
use Rattle.shfl_core.specs.declared.words.Access.{Access}
use Rattle.shfl_core.specs.Plan.{plan, moving}
use Rattle.shfl_core.specs.Take.{take, acquired, released}
use Rattle.shfl_core.specs.Waiting.{MayUse}
use Rattle.shfl_core.specs.Worlds.{Move, Acquire, Release, Step, after_move}
use Rattle.shfl_core.specs.Lawful.{Terms, Lawful}
use Rattle.shfl_core.specs.Runner.{Lock, moved}
use Rattle.shfl_core.proofs.Lists.{seen-at}
use Rattle.shfl_core.proofs.Blind.{store-blind}
use Rattle.shfl_laws.specs.Moves.{MayMove}
use Rattle.shfl_laws.specs.Seen.{SeenAs, Alike}
use Rattle.shfl_laws.proofs.laws.InRange.{in-range-law, told-names}
use Rattle.shfl_laws.proofs.laws.Laws.{laws}
use Rattle.shfl_laws.proofs.laws.MoveLaws.{move-law}
use Rattle.shfl_laws.proofs.laws.SeenAs.{moves-unseen}
use Rattle.shfl_world.specs.LawfulLock.{IsLawfulLock}
use Rattle.shfl_world.proofs.Moving.{lawful-lock}
use Rattle.shfl_solo.specs.declared.rule.Whole.{Whole}
use Rattle.shfl_solo.specs.declared.rule.Opening.{Opening}
use Rattle.shfl_solo.specs.Rule.{lock, opening_terms, Steps, IsSeen}
use Rattle.shfl_solo.specs.Kept.{IsSolo}
use Rattle.shfl_solo.proofs.Moved.{acquire-told, release-told, step-told}

-- a form that is told again
pub may-use : (a b : Lock) (mode : Mode) → a ≡ b → MayUse b.rules.form mode → MayUse a.rules.form mode
may-use a b mode e may = subst (λ (z : Lock). MayUse z.rules.form mode) (sym e) may

module _ (rules : Rules) (words : List ℕ) (passes : List PassState) (key : Opening) (id table : TableId) (seat : ℕ) (me : Me (Unit {0}) Whole) (k : IsSolo rules words passes key id table seat me) where
  abbrev t : Terms
  t = opening_terms key

  abbrev here : Lock
  here = lock rules me.0.words passes

  -- the lock is lawful as it stands
  pub lawful : IsLawfulLock (lock rules me.0.words passes)
  lawful = lawful-lock t (lock rules me.0.words passes) (sym k.rules_are) k.full k.lawful

  -- a move that the form allows keeps it lawful, by the same terms
  stays : (m : Move) (words : List ℕ) (l : List PassState) → MayMove rules.form m → lock rules words l ≡ moved (lock rules me.0.words passes) m → Lawful (opening_terms key) (record { words = words; passes = l })
  stays m words l may e = let a : Lawful (opening_terms key) (after_move key.rules (record { words = me.0.words; passes = passes }) m) =
      (move-law t (laws t) m (record { words = me.0.words; passes = passes }) k.lawful (subst (λ (r : Rules). MayMove r.form m) (sym k.rules_are) may)).lawful in
      subst (λ (z : Lock). Lawful (opening_terms key) z.world) (sym e) (subst (λ (r : Rules). Lawful (opening_terms key) (after_move r (record { words = me.0.words; passes = passes }) m)) k.rules_are a)

  -- a seat whose view is as before
  pub again : (table' : TableId) (seat' : ℕ) (me' : Me (Unit {0}) Whole) → (table' ≡ table) × (seat' ≡ seat) → me' ≡ me → IsSolo rules words passes key id table' seat' me'
  again table' seat' me' s e = record {
    rules_are = k.rules_are;
    table_is = s.0 ∙ k.table_is;
    long = k.long;
    few = k.few;
    words_are = k.words_are ∙ ap (λ (m : Me (Unit {0}) Whole). m.0.words) (sym e);
    first = s.1 ∙ k.first;
    bare = ap (λ (m : Me (Unit {0}) Whole). m.1) e ∙ k.bare;
    seen = λ p q g. subst (λ (m : Me (Unit {0}) Whole). IsSeen rules.form p q m.0.passes) (sym e) (k.seen p q g);
    full = k.full;
    lawful = subst (λ (m : Me (Unit {0}) Whole). Lawful (opening_terms key) (record { words = m.0.words; passes = passes })) (sym e) k.lawful;
  }

  -- the view has as many words as the table
  as-long : length me.0.words ≡ id.words
  as-long = k.lawful.room ∙ (ap wide (sym k.full) ∙ sym k.long)

  -- and so have the words that were read
  pub long : length words ≡ id.words
  long = ap length k.words_are ∙ as-long

  module _ (p : ℕ) (own : PassState) (at : get_elem? passes p ≡ some own) where
    pub place : index (site (plan rules p own)) < id.words
    place = subst (λ (n : Rules × ℕ). index (site (plan n.0 p own)) < n.1) (λ j. (k.rules_are j, (ap wide (sym k.full) ∙ sym k.long) j)) (in-range-law t (record { words = me.0.words; passes = passes }) p own k.lawful at)

    pub seen : IsSeen rules.form p own me.0.passes
    seen = k.seen p own at

    -- one pass goes on, and no word changes
    quiet : (m : Move) (q : PassState) → MayMove rules.form m → lock rules me.0.words (set passes p q) ≡ moved (lock rules me.0.words passes) m
        → ((s : PassState) → SeenAs rules.form own s → SeenAs rules.form q s) → IsSolo rules words (set passes p q) key id table seat me
    quiet m q may e alike = record {
      rules_are = k.rules_are;
      table_is = k.table_is;
      long = k.long ∙ ap wide (sym (length-set passes p q));
      few = subst (λ n. n ≤ 64) (sym (length-set passes p q)) k.few;
      words_are = k.words_are;
      first = k.first;
      bare = k.bare;
      seen = λ i u g. ⊎_elim
          (λ a. subst (λ (z : ℕ × PassState). IsSeen rules.form z.0 z.1 me.0.passes) (λ j. (sym a.0 j, a.1 j)) (record { seen = seen.seen; there = seen.there; alike = alike seen.seen seen.alike }))
          (λ a. k.seen i u a.1)
          (at_set passes p i q u g);
      full = length-set passes p q ∙ k.full;
      lawful = stays m me.0.words (set passes p q) may e;
    }

    pub acquire-kept : (mode : Mode) (q : PassState) → MayUse rules.form mode → q ≡ acquired mode own → IsSolo rules words (set passes p q) key id table seat me
    acquire-kept mode q may e = quiet (Acquire p mode) q may (acquire-told rules me.0.words passes p own at (lock rules me.0.words passes) mode q refl e)
        (λ s a. subst (λ (z : PassState). SeenAs rules.form z s) (sym e) ((moves-unseen rules.form).acquire mode own s may a))

    pub release-kept : (q : PassState) → q ≡ released own → IsSolo rules words (set passes p q) key id table seat me
    release-kept q e = quiet (Release p) q tt (release-told rules me.0.words passes p own at (lock rules me.0.words passes) q refl e)
        (λ s a. subst (λ (z : PassState). SeenAs rules.form z s) (sym e) ((moves-unseen rules.form).release own s a))

    -- a step, at which n was told
    module _ (choice : Bool) (n : ℕ) (me' : Me (Unit {0}) Whole) (r : Steps rules p own choice me.0 n me'.0) where
      pub names : is_store (plan rules p own) ≡ false → NamesPass (site (plan rules p own)) n
      names = subst (λ (z : Rules × ℕ). is_store (plan z.0 p own) ≡ false → NamesPass (site (plan z.0 p own)) z.1) (λ j. (k.rules_are j, (ap (λ r. told (plan r p own) (look me.0.words (site (plan r p own)))) k.rules_are ∙ sym r.found) j))
          (told-names t (record { words = me.0.words; passes = passes }) p own k.lawful)

      abbrev goes : PassState
      goes = take rules p own (look me.0.words (site (plan rules p own))) choice

      blind : take rules p own n choice ≡ take rules p own (look me.0.words (site (plan rules p own))) choice
      blind = ap (λ i. take rules p own i choice) r.found ∙ store-blind rules p own (look me.0.words (site (plan rules p own))) choice

      pub row-told : (m : Lock) (q : PassState) → lock rules me.0.words passes ≡ m → moving own ≡ true → q ≡ take rules p own n choice → lock rules me'.0.words (set passes p q) ≡ moved m (Step p choice)
      row-told m q is go e = step-told rules me.0.words passes p own at m choice me'.0.words q is go (ap (λ (v : Whole). v.words) r.view) (e ∙ blind)

      -- the word that the step touched, read again, gives all words as they are
      pub read-again : (i m : ℕ) → i ≡ index (site (plan rules p own)) → m ≡ look me'.0.words (site (plan rules p own)) → set words i m ≡ me'.0.words
      read-again i m here e = let a : Access = plan rules p own in let views : me'.0.words ≡ written me.0.words a = ap (λ (v : Whole). v.words) r.view in
          let there : index (site a) < length me.0.words = subst (λ k. index (site a) < k) (sym as-long) place in
          (λ j. set (k.words_are j) (here j) ((e ∙ ap (λ l. look l (site a)) views) j)) ∙ (ap (set me.0.words (index (site a))) (get_or-set_same me.0.words (index (site a)) (put a (look me.0.words (site a))) 0 there) ∙ sym views)

      pub row-kept : (table' : TableId) (seat' : ℕ) (words' : List ℕ) (q : PassState) → (table' ≡ table) × (seat' ≡ seat) → words' ≡ me'.0.words → me'.1 ≡ me.1 → moving own ≡ true → q ≡ take rules p own n choice → IsSolo rules words' (set passes p q) key id table' seat' me'
      row-kept table' seat' words' q same w none go e = let views : me'.0.passes ≡ set me.0.passes p goes = ap (λ (v : Whole). v.passes) r.view in record {
        rules_are = k.rules_are;
        table_is = same.0 ∙ k.table_is;
        long = k.long ∙ ap wide (sym (length-set passes p q));
        few = subst (λ n. n ≤ 64) (sym (length-set passes p q)) k.few;
        words_are = w;
        first = same.1 ∙ k.first;
        bare = none ∙ k.bare;
        seen = λ i u g. ⊎_elim
            (λ a. subst (λ (z : ℕ × PassState). IsSeen rules.form z.0 z.1 me'.0.passes) (λ j. (sym a.0 j, a.1 j)) (record {
              seen = goes;
              there = ap (λ l. get_elem? l p) views ∙ set_here me.0.passes p goes (seen-at me.0.passes p seen.seen seen.seen seen.there).1;
              alike = Alike (e ∙ blind);
            }))
            (λ a. let s : IsSeen rules.form i u me.0.passes = k.seen i u a.1 in record {
              seen = s.seen;
              there = ap (λ l. get_elem? l i) views ∙ (set_else me.0.passes p i goes a.0 ∙ s.there);
              alike = s.alike;
            })
            (at_set passes p i q u g);
        full = length-set passes p q ∙ k.full;
        lawful = stays (Step p choice) me'.0.words (set passes p q) tt (row-told (lock rules me.0.words passes) q refl go e);
      }

-- The board at its opening.
use Rattle.std.proofs.Common.{◌≡◌, ℕ, ◌+◌, ◌<◌, ◌≤◌, List, [], ◌∷◌, ◌++◌, length, get_or, take, refl, sym, ap, ◌∙◌, subst, length-take, arith}
use Rattle.std.proofs.lemmas.List.{take_more}
use lib.ListN.{get_elem?}
use Rattle.atomic_table.specs.Table.{Me, opening}
use Rattle.atomic_table.specs.Seated.{TableId}
use Rattle.shfl_line.specs.declared.words.Attr.{Attr}
use Rattle.shfl_line.specs.Line.{empty}
use Rattle.shfl_core.specs.declared.phase.Rules.{Rules}
use Rattle.shfl_core.specs.declared.phase.PassState.{PassState}
use Rattle.shfl_core.specs.Lawful.{Lawful, count}
use Rattle.shfl_core.specs.Runner.{Lock, opened}
use Rattle.shfl_core.specs.ShownLine.{shown_line}
use Rattle.shfl_core.specs.Waiting.{idle}
use Rattle.shfl_core.specs.Words.{wide}
use Rattle.shfl_core.specs.Worlds.{opening_words, idle_from}
use Rattle.shfl_core.proofs.Opening.{idle-from-append, idle-from-long}
use Rattle.shfl_laws.specs.Moves.{MayOpen, terms}
use Rattle.shfl_laws.specs.Seen.{Alike}
use Rattle.shfl_world.specs.LawfulLock.{IsLawfulLock, terms_of}
use Rattle.shfl_world.proofs.Facts.{full}
use Rattle.shfl_world.proofs.Moving.{opened-lawful, opened-shows, opened-terms}
use Rattle.shfl_solo.specs.declared.rule.Whole.{Whole}
use Rattle.shfl_solo.specs.declared.rule.Opening.{Opening}
use Rattle.shfl_solo.specs.Rule.{lock, world, opening_terms, IsWholeLock, first_view}
use Rattle.shfl_solo.specs.Kept.{IsSolo}

-- one idle pass more, whatever its attributes are
pub one-more-pass : (attrs : List Attr) (i : ℕ) (passes : List PassState) → i < length attrs → passes ≡ idle_from 0 (take i attrs) → passes ++ idle i ∷ [] ≡ idle_from 0 (take (i + 1) attrs)
one-more-pass attrs i passes h e = let none : Attr = record { socket = 0; prio = 0; class = 0; kind = 0 } in let a : Attr = get_or attrs i none in
    (λ j. e j ++ idle (let n = length-take i attrs in let k : i ≡ 0 + length (take i attrs) = omega arith in k j) ∷ [])
    ∙ (sym (idle-from-append 0 (take i attrs) a) ∙ ap (idle_from 0) (sym (take_more attrs i none h)))

module _ (rules : Rules) (attrs : List Attr) (may : MayOpen rules attrs) (words : List ℕ) (passes : List PassState) (a : words ≡ opening_words attrs) (b : passes ≡ idle_from 0 attrs) where
  lawful : IsLawfulLock (lock rules words passes)
  lawful = subst IsLawfulLock (λ j. lock rules (sym a j) (sym b j)) (opened-lawful rules attrs may)

  module _ (key : Opening) (r : key.rules ≡ rules) (e : key.words.value.items ≡ words) (f : key.passes.value.items ≡ passes) where
    key-lawful : Lawful (opening_terms key) (world (first_view key))
    key-lawful = subst IsLawfulLock (λ j. lock (sym r j) (sym e j) (sym f j)) lawful

    key-full : length key.passes.value.items ≡ count (opening_terms key)
    key-full = full (lock key.rules key.words.value.items key.passes.value.items) key-lawful

    pub opens : IsWholeLock key (opening words [] (first_view key))
    opens = record {
      view = first_view key;
      one = refl;
      words = sym e;
      full = key-full;
      lawful = key-lawful;
    }

    pub opens-kept : length attrs ≤ 64 → (id table : TableId) (seat : ℕ) (me : Me (Unit {0}) Whole) → id.words ≡ length words → table ≡ id → seat ≡ 0 → me ≡ (first_view key, []) → IsSolo rules words passes key id table seat me
    opens-kept small id table seat me n t z m = record {
      rules_are = r;
      table_is = t;
      words_are = sym (ap (λ (x : Me (Unit {0}) Whole). x.0.words) m ∙ e);
      long = n ∙ (sym (ap length e) ∙ (key-lawful.room ∙ ap wide (sym key-full ∙ ap length f)));
      few = subst (λ k. k ≤ 64) (sym (ap length b ∙ idle-from-long 0 attrs)) small;
      first = z;
      bare = ap (λ (x : Me (Unit {0}) Whole). x.1) m;
      seen = λ i q g. record { seen = q; there = ap (λ l. get_elem? l i) (ap (λ (x : Me (Unit {0}) Whole). x.0.passes) m ∙ f) ∙ g; alike = Alike refl };
      full = ap length (sym f) ∙ key-full;
      lawful = subst (λ (x : Me (Unit {0}) Whole × List PassState). Lawful (opening_terms key) (record { words = x.0.0.words; passes = x.1 })) (λ j. (sym m j, f j)) key-lawful;
    }

  opened-as : (now : List ℕ) → now ≡ words → lock rules now passes ≡ opened rules attrs
  opened-as now e = λ j. lock rules ((e ∙ a) j) (b j)

  pub opens-shown : (now : List ℕ) → now ≡ words → shown_line (lock rules now passes).world ≡ empty (length attrs)
  opens-shown now e = ap (λ (l : Lock). shown_line l.world) (opened-as now e) ∙ opened-shows rules attrs may

  pub opens-terms : (now : List ℕ) → now ≡ words → terms_of (lock rules now passes) ≡ terms rules attrs
  opens-terms now e = ap terms_of (opened-as now e) ∙ opened-terms rules attrs may

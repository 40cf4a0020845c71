-- A lawful lock stays lawful with every move, and shows the step of the line that the move names.
use Rattle.std.proofs.Common.{◌≡◌, ℕ, suc, ◌<◌, ◌≤◌, List, [], ◌∷◌, length, refl, sym, ap, ◌∙◌, subst, arith}
use Rattle.std.specs.Prelude.{map}
use Rattle.std.proofs.lemmas.List.{length-map}
use Rattle.shfl_line.specs.declared.words.Attr.{Attr as AttrValue}
use Rattle.shfl_line.specs.Line.{Line, empty}
use Rattle.shfl_line.specs.Steps.{Admits, after}
use Rattle.shfl_line.specs.Words.{attr_word}
use Rattle.shfl_core.specs.declared.phase.Rules.{Rules}
use Rattle.shfl_core.specs.declared.words.Word.TheVariants.{Attr}
use Rattle.shfl_core.specs.Words.{look}
use Rattle.shfl_core.specs.Worlds.{idle_from, opening, Move}
use Rattle.shfl_core.specs.ShownLine.{each_below, shown_line}
use Rattle.shfl_core.specs.Lawful.{Terms, count, Lawful, Advances}
use Rattle.shfl_core.specs.Runner.{Lock, opened, moved}
use Rattle.shfl_laws.specs.Moves.{MayMove, MayOpen, OpensLawful, terms}
use Rattle.shfl_laws.proofs.laws.Laws.{laws}
use Rattle.shfl_laws.proofs.laws.MoveLaws.{move-law, moved-long}
use Rattle.shfl_laws.proofs.laws.Opens.{opening-law}
use Rattle.shfl_laws.proofs.shown.ShownLine.{shown-line-law}
use Rattle.shfl_laws.proofs.words.TermsTold.{each-told}
use Rattle.shfl_world.specs.LawfulLock.{terms_of, IsLawfulLock, HasFewPasses, IsLawfulWorld, line_event, MovesLawfully}
use Rattle.shfl_world.proofs.Facts.{full, shown-is}

-- what an opening fixed is what the lock's own words say
pub lawful-terms : (t : Terms) (lock : Lock) → lock.rules ≡ t.rules → length lock.world.passes ≡ count t → Lawful t lock.world → terms_of lock ≡ t
lawful-terms t lock r e ok = λ j. record { rules = r j; attrs = attrs j }
  where
    attrs : each_below (λ p. look lock.world.words (Attr p)) (length lock.world.passes) ≡ t.attrs
    attrs = each-told (λ p. look lock.world.words (Attr p)) (length lock.world.passes) t.attrs (sym e) (λ q h. ok.attrs q (subst (λ k. q < k) e h))

pub lawful-lock : (t : Terms) (lock : Lock) → lock.rules ≡ t.rules → length lock.world.passes ≡ count t → Lawful t lock.world → IsLawfulLock lock
lawful-lock t lock r e ok = subst (λ (u : Terms). Lawful u lock.world) (sym (lawful-terms t lock r e ok)) ok

pub move-lawful : (lock : Lock) (m : Move) → IsLawfulLock lock → MayMove lock.rules.form m → MovesLawfully lock m
move-lawful lock m ok may = record {
  lawful = lawful-lock t (moved lock m) refl there advance.lawful;
  admitted = subst (λ (s : Line). Admits lock.rules.limit s (line_event lock m)) (shown-is lock ok) advance.admitted;
  shown = sym (shown-line-law t (moved lock m).world advance.lawful there) ∙ (advance.shown ∙ ap (λ (s : Line). after s (line_event lock m)) (shown-is lock ok));
  terms = lawful-terms t (moved lock m) refl there advance.lawful;
}
  where
    t : Terms
    t = terms_of lock

    advance : Advances t lock.world ok (line_event lock m) (moved lock m).world
    advance = move-law t (laws t) m lock.world ok may

    there : length (moved lock m).world.passes ≡ count t
    there = moved-long lock.rules lock.world m ∙ full lock ok

idle-long : (p : ℕ) (attrs : List AttrValue) → length (idle_from p attrs) ≡ length (map attr_word attrs)
idle-long p [] = refl
idle-long p (a ∷ rest) = ap suc (idle-long (suc p) rest)

-- a lock at its opening
module _ (rules : Rules) (attrs : List AttrValue) (may : MayOpen rules attrs) where
  opens : OpensLawful rules attrs
  opens = opening-law rules attrs may

  pub opened-lawful : IsLawfulLock (opened rules attrs)
  opened-lawful = lawful-lock (terms rules attrs) (opened rules attrs) refl (idle-long 0 attrs) opens.lawful

  pub opened-world : length attrs ≤ 64 → IsLawfulWorld (opened rules attrs)
  opened-world few = record { lawful = opened-lawful; few = let e = idle-long 0 attrs in let m = length-map attrs attr_word in omega arith }

  pub opened-terms : terms_of (opened rules attrs) ≡ terms rules attrs
  opened-terms = lawful-terms (terms rules attrs) (opened rules attrs) refl (idle-long 0 attrs) opens.lawful

  pub opened-shows : shown_line (opening attrs) ≡ empty (length attrs)
  opened-shows = sym (shown-line-law (terms rules attrs) (opening attrs) opens.lawful (idle-long 0 attrs)) ∙ opens.shown

-- a lock that makes the move
module _ (old now new : Lock) (m : Move) (ok : IsLawfulLock old) (same : old ≡ now) (may : MayMove now.rules.form m) (is : new ≡ moved old m) where
  law : MovesLawfully old m
  law = move-lawful old m ok (subst (λ (l : Lock). MayMove l.rules.form m) (sym same) may)

  pub stays-lawful : HasFewPasses old → IsLawfulWorld new
  stays-lawful few = subst IsLawfulWorld (sym is) (record { lawful = law.lawful; few = subst (λ n. n ≤ 64) (sym (moved-long old.rules old.world m)) few })

  pub admits-event : Admits now.rules.limit (shown_line now.world) (line_event now m)
  admits-event = subst (λ (l : Lock). Admits l.rules.limit (shown_line l.world) (line_event l m)) same law.admitted

  pub shows-event : shown_line new.world ≡ after (shown_line now.world) (line_event now m)
  shows-event = ap (λ (l : Lock). shown_line l.world) is ∙ (law.shown ∙ (λ j. after (shown_line (same j).world) (line_event (same j) m)))

  pub keeps-terms : terms_of new ≡ terms_of now
  keeps-terms = ap terms_of is ∙ (law.terms ∙ ap terms_of same)

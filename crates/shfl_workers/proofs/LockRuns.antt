-- A lock that ran until it was closed, by the attributes of a trace.
use Rattle.std.proofs.Common.{◌≡◌, ℕ, List, [], ◌∷◌, ◌++◌, map, refl, sym, ap, ◌∙◌, subst}
use Rattle.std.specs.Prelude.{replicate}
use Rattle.dir_table.specs.declared.calls.DirCall.{DirCall}
use Rattle.dir_table.specs.declared.calls.DirReply.{DirReply}
use Rattle.dir_table.specs.Numbers.{call_numbers, reply_numbers}
use Rattle.hist_log.specs.declared.entry.Entry.{Entry}
use Rattle.shfl_line.specs.declared.words.Attr.{Attr}
use Rattle.shfl_line.specs.Words.{attr_word}
use Rattle.shfl_core.specs.declared.phase.Rules.{Rules}
use Rattle.shfl_core.specs.Worlds.{World, node, node_words}
use Rattle.shfl_laws.specs.Changes.{after_changes}
use Rattle.shfl_laws.specs.Moves.{first_seated}
use Rattle.shfl_table.specs.declared.kept.Action.{Action}
use Rattle.shfl_table.specs.Books.{actions}
use Rattle.shfl_table.specs.MadeInHolds.{RanAs, changes_of, EachMakesInHold}
use Rattle.trace_text.specs.Report.{done_of}
use Rattle.shfl_workers.specs.LockRuns.{action_of}

-- the words of seats with these attribute words
abbrev seats_of : List ℕ → List ℕ
seats_of [] = []
seats_of (w ∷ ws) = node w ++ seats_of ws

by_words : (attrs : List Attr) → node_words attrs ≡ seats_of (map attr_word attrs)
by_words [] = refl
by_words (a ∷ rest) = ap (λ l. node (attr_word a) ++ l) (by_words rest)

-- attributes with the same words open a lock alike
opens_alike : (a b : List Attr) → map attr_word a ≡ map attr_word b → first_seated a ≡ first_seated b
opens_alike a b same = ap (λ (l : List ℕ). record (first_seated a) { words = replicate 20 0 ++ l }) (by_words a ∙ ap seats_of same ∙ sym (by_words b))

-- so they run alike
pub ran_alike : (rules : Rules) (a b : List Attr) (history : List Action) → map attr_word a ≡ map attr_word b → RanAs rules a history → RanAs rules b history
ran_alike rules a b history same ran =
    let seated = opens_alike a b same in let run = ran.makes.run in
    record {
      events = ran.events;
      world = ran.world;
      makes = record {
        run = record { may = run.may; made = ap (λ (w : World). after_changes rules w (changes_of ran.events)) (sym seated) ∙ run.made };
        in_holds = subst (λ (w : World). EachMakesInHold rules w ran.events) seated ran.makes.in_holds;
        made = ran.makes.made;
      };
      idle = ran.idle;
    }

-- a lock of these rules that opened with the words of these attributes
pub ran_for : (rules rules' : Rules) (words : List ℕ) (own attrs : List Attr) (made history : List Action) → rules ≡ rules' → words ≡ map attr_word attrs
    → words ≡ map attr_word own → made ≡ history → RanAs rules own made → RanAs rules' attrs history
ran_for rules rules' words own attrs made history same_rules is opened same ran =
    subst (λ (t : Rules). RanAs t attrs history) same_rules (subst (RanAs rules attrs) same (ran_alike rules own attrs made (sym opened ∙ is) ran))

-- entries by their numbers
pub actions_of : {O : Type 0} (es : List (Entry O DirCall DirReply)) → actions call_numbers reply_numbers es ≡ map action_of (map done_of es)
actions_of [] = refl
actions_of (e ∷ es) = ap (λ l. action_of (done_of e) ∷ l) (actions_of es)

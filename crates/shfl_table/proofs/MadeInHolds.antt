-- A run goes on, with what a hold that ends has made.
use Rattle.std.proofs.Common.{◌≡◌, ◌≢◌, ℕ, List, [], ◌∷◌, ◌++◌, map, replicate, Some, None, sym, refl, ap, ◌∙◌, subst, append-nil, append_assoc}
use Rattle.shfl_line.specs.declared.events.Mode.TheVariants.{Write}
use Rattle.shfl_line.specs.declared.words.Attr.{Attr}
use Rattle.shfl_line.specs.Words.{attr_word}
use Rattle.shfl_core.specs.declared.phase.PassState.{PassState}
use Rattle.shfl_core.specs.declared.phase.Rules.{Rules}
use Rattle.shfl_core.specs.Waiting.{idle}
use Rattle.shfl_core.specs.Worlds.{World, node, node_words}
use Rattle.shfl_laws.specs.Changes.{Change, after_change, after_changes, EachMayChange}
use Rattle.shfl_laws.specs.Holds.{hold_of}
use Rattle.shfl_laws.specs.Moves.{first_seated}
use Rattle.shfl_laws.specs.Runs.{IsRun}
use Rattle.shfl_laws.proofs.runs.Runs.{more}
use Rattle.shfl_table.specs.declared.kept.Action.{Action}
use Rattle.shfl_table.specs.declared.view.Part.{Part}
use Rattle.shfl_table.specs.Histories.{Continues}
use Rattle.shfl_table.specs.MadeInHolds.{RunEvent, changes_of, history_of, MakesInHold, EachMakesInHold, RunMakes, RanAs}
use Rattle.shfl_table.specs.ThreadRuns.{RanUntilClosed}

-- changes at which nothing is made
pub quiet : List Change → List RunEvent
quiet [] = []
quiet (c ∷ rest) = record { change = c; made = [] } ∷ quiet rest

-- changes, and then one at which a hold ends that has made this
pub ending : List Change → Change → List Action → List RunEvent
ending [] last own = record { change = last; made = own } ∷ []
ending (c ∷ rest) last own = record { change = c; made = [] } ∷ ending rest last own

pub quiet-changes : (cs : List Change) → changes_of (quiet cs) ≡ cs
unfolding quiet
quiet-changes [] = refl
quiet-changes (c ∷ rest) = ap (λ (l : List Change). c ∷ l) (quiet-changes rest)

pub quiet-makes : (cs : List Change) → history_of (quiet cs) ≡ []
unfolding quiet
quiet-makes [] = refl
quiet-makes (c ∷ rest) = quiet-makes rest

pub quiet-in-holds : (t : Rules) (w : World) (cs : List Change) → EachMakesInHold t w (quiet cs)
unfolding quiet
quiet-in-holds t w [] = tt
quiet-in-holds t w (c ∷ rest) = ((λ made. absurd (made refl)), quiet-in-holds t (after_change t w c) rest)

pub ending-changes : (cs : List Change) (last : Change) (own : List Action) → changes_of (ending cs last own) ≡ cs ++ last ∷ []
unfolding ending
ending-changes [] last own = refl
ending-changes (c ∷ rest) last own = ap (λ (l : List Change). c ∷ l) (ending-changes rest last own)

pub ending-makes : (cs : List Change) (last : Change) (own : List Action) → history_of (ending cs last own) ≡ own
unfolding ending
ending-makes [] last own = append-nil own
ending-makes (c ∷ rest) last own = ending-makes rest last own

pub ending-in-holds : (t : Rules) (w : World) (cs : List Change) (last : Change) (own : List Action) → MakesInHold t (after_changes t w cs) (record { change = last; made = own }) → EachMakesInHold t w (ending cs last own)
unfolding ending
ending-in-holds t w [] last own h = (h, tt)
ending-in-holds t w (c ∷ rest) last own h = ((λ made. absurd (made refl)), ending-in-holds t (after_change t w c) rest last own h)

pub changes-both : (xs ys : List RunEvent) → changes_of (xs ++ ys) ≡ changes_of xs ++ changes_of ys
changes-both [] ys = refl
changes-both (e ∷ xs) ys = ap (λ (l : List Change). e.change ∷ l) (changes-both xs ys)

history-both : (xs ys : List RunEvent) → history_of (xs ++ ys) ≡ history_of xs ++ history_of ys
history-both [] ys = refl
history-both (e ∷ xs) ys = ap (λ (l : List Action). e.made ++ l) (history-both xs ys) ∙ sym (append_assoc e.made (history_of xs) (history_of ys))

in-holds-both : (t : Rules) (w : World) (xs ys : List RunEvent) → EachMakesInHold t w xs → EachMakesInHold t (after_changes t w (changes_of xs)) ys → EachMakesInHold t w (xs ++ ys)
in-holds-both t w [] ys a b = b
in-holds-both t w (e ∷ xs) ys a b = (a.0, in-holds-both t (after_change t w e.change) xs ys a.1 b)

-- a run goes on by changes, and what was made at them is added to the history
pub makes-more : (rules : Rules) (attrs : List Attr) (events added : List RunEvent) (cs : List Change) (w v : World) (history : List Action) → RunMakes rules attrs events w history → changes_of added ≡ cs → EachMayChange rules.form cs → after_changes rules w cs ≡ v
    → EachMakesInHold rules w added → RunMakes rules attrs (events ++ added) v (history ++ history_of added)
makes-more rules attrs events added cs w v history old are may leads holds = record {
  run = subst (λ (l : List Change). IsRun rules attrs l v) (ap (λ (l : List Change). changes_of events ++ l) (sym are) ∙ sym (changes-both events added)) (more rules attrs (changes_of events) cs w v old.run may leads);
  in_holds = in-holds-both rules (first_seated attrs) events added old.in_holds (subst (λ (z : World). EachMakesInHold rules z added) (sym old.run.made) holds);
  made = history-both events added ∙ ap (λ (l : List Action). l ++ history_of added) old.made;
}

-- what an operation that leads a pass from one state to another puts into the history: nothing but where it ends a writer's hold
pub record PutsIn (id : ℕ) (old new : PassState) (history history' : List Action) : Type 0 where
  pub grew : Continues id history history'
  pub ends : grew.0 ≢ [] → (hold_of old ≡ Some Write) × (hold_of new ≡ None)

pub puts-nothing : (id : ℕ) (old new : PassState) (history : List Action) → PutsIn id old new history history
puts-nothing id old new history = record { grew = ([], sym (append-nil history), tt); ends = λ made. absurd (made refl) }

-- the words of an opening are those that its attribute words tell
words-by : List ℕ → List ℕ
words-by [] = []
words-by (x ∷ rest) = node x ++ words-by rest

node-words-by : (attrs : List Attr) → node_words attrs ≡ words-by (map attr_word attrs)
unfolding words-by
node-words-by [] = refl
node-words-by (a ∷ rest) = ap (λ (l : List ℕ). node (attr_word a) ++ l) (node-words-by rest)

first-by : (attrs attrs' : List Attr) → map attr_word attrs ≡ map attr_word attrs' → first_seated attrs ≡ first_seated attrs'
first-by attrs attrs' same = let words : node_words attrs ≡ node_words attrs' = node-words-by attrs ∙ (ap words-by same ∙ sym (node-words-by attrs')) in
    (λ j. record { words = replicate 20 0 ++ words j; passes = idle 0 ∷ [] })

-- a lock ran until it closed, whatever attributes have those words
pub ran-as : (rules : Rules) (attr_words : List ℕ) (count : ℕ) (parts : List Part) (history : List Action) (attrs : List Attr) → attr_words ≡ map attr_word attrs → RanUntilClosed rules attr_words count parts history → RanAs rules attrs history
ran-as rules attr_words count parts history attrs told closed = let old = closed.ran in let same : first_seated closed.attrs ≡ first_seated attrs = first-by closed.attrs attrs (sym closed.opened ∙ told) in record {
  events = old.events;
  world = old.world;
  makes = record {
    run = record { may = old.makes.run.may; made = ap (λ (w : World). after_changes rules w (changes_of old.events)) (sym same) ∙ old.makes.run.made };
    in_holds = subst (λ (w : World). EachMakesInHold rules w old.events) same old.makes.in_holds;
    made = old.makes.made;
  };
  idle = old.idle;
}

-- Event lines by the act at their front.
use Rattle.std.proofs.Common.{◌≡◌, ℕ, ◌+◌, ◌<◌, ◌≤◌, List, [], ◌∷◌, ◌++◌, Option, Some, None, cond, ltb, get_or, length, length-append, take, drop, drop-cons, add-one, refl, sym, ap, ◌∙◌, subst, arith}
use Rattle.std.proofs.lemmas.List.{take-append-drop}
use Rattle.std.proofs.Math.Seq.{take-append_seam}
use Rattle.shfl_line.specs.declared.events.Form.{Form}
use Rattle.doc_text.specs.Words.{words, HasNoBlank, ◌>>?◌}
use Rattle.doc_text.specs.Numbers.{number_in}
use Rattle.doc_text.proofs.Counting.{number_in-some}
use Rattle.doc_text.proofs.Joining.{words-front, words-one, decimal-word}
use Rattle.policy_text.proofs.Chains.{then-some}
use Rattle.policy_text.proofs.Parts.{text-spaced}
use Rattle.shfl_sched.specs.declared.schedule.Act.{Act}
use Rattle.shfl_sched.specs.declared.schedule.Act.TheVariants as acts
use Rattle.shfl_sched.specs.declared.schedule.Event.{Event}
use Rattle.shfl_sched.specs.Lines.{act_named, pass_in, event_in}
use Rattle.shfl_sched.specs.Spelling.{act_word, NamesNoAct, NamesNoActOf}
use Rattle.shfl_sched.proofs.Wording.{of_pass, of_act, act_named-some, event-some}

act-word : (a : Act) → HasNoBlank (act_word a)
act-word acts.Write = refl
act-word acts.Read = refl
act-word acts.Free = refl
act-word acts.Step = refl

act-named : (a : Act) → act_named (act_word a) ≡ Some a
act-named acts.Write = refl
act-named acts.Read = refl
act-named acts.Free = refl
act-named acts.Step = refl

-- what says a pass is one word
pass-alone : (passes p : ℕ) (w : List ℕ) → pass_in passes w ≡ Some p → words w ≡ w ∷ []
pass-alone passes p w h =
    let r = then-some (number_in 63 w) (λ (m : ℕ). cond (ltb m passes) (Some m) None) p h in
    let d = number_in-some 63 w r.0 (omega arith) r.1 in
    words-one w (subst HasNoBlank (sym d.0) (decimal-word r.0 (omega (arith, d.1))).1)

module _ (form : Form) (passes : ℕ) (a : Act) (rest : List ℕ) where
  no-pass : (o : Option ℕ) → pass_in passes rest ≡ o → (words rest ≡ rest ∷ [] → ⊥) → (pass_in passes rest >>? of_pass form a) ≡ None
  no-pass None h more = rw h refl
  no-pass (Some p) h more = absurd (more (pass-alone passes p rest h))

  by-parts : (ws : List (List ℕ)) → words rest ≡ ws → event_in form passes (act_word a ∷ ws) ≡ (pass_in passes rest >>? of_pass form a)
  by-parts [] h = sym (no-pass (pass_in passes rest) refl (λ one. cc))
  by-parts (w ∷ []) h =
      let same : rest ≡ w = text-spaced rest (w ∷ []) h in
      ap (λ (o : Option Act). o >>? of_act form passes w) (act-named a) ∙ ap (λ (l : List ℕ). pass_in passes l >>? of_pass form a) (sym same)
  by-parts (w ∷ v ∷ ws) h = sym (no-pass (pass_in passes rest) refl (λ one. cc))

  -- an act and a blank at the front: the rest names the pass
  pub at_act : (text : List ℕ) → text ≡ act_word a ++ 32 ∷ rest → event_in form passes (words text) ≡ (pass_in passes rest >>? of_pass form a)
  at_act text is = ap (λ (l : List ℕ). event_in form passes (words l)) is ∙ ap (event_in form passes) (words-front (act_word a) rest (act-word a)) ∙ by-parts (words rest) refl

-- none at the front: the text is no event
pub at_none : (form : Form) (passes : ℕ) (text : List ℕ) → NamesNoAct text → event_in form passes (words text) ≡ None
at_none form passes text none = go (event_in form passes (words text)) refl
  where
    go : (o : Option Event) → event_in form passes (words text) ≡ o → event_in form passes (words text) ≡ None
    go None h = h
    go (Some e) h = absurd (none e.act _ (event-some form passes text e h).0)

-- what stands at the place behind a word
behind : (w rest : List ℕ) → get_or (w ++ 32 ∷ rest) (length w) 0 ≡ 32
behind [] rest = refl
behind (b ∷ bs) rest = behind bs rest

-- another byte stands behind the letters, or none
pub no_blank_there : (text : List ℕ) (letters : ℕ) → (get_or text letters 0 ≡ 32 → ⊥) → NamesNoActOf letters text
no_blank_there text letters other a rest long is = other (rw (is, sym long) (behind (act_word a) rest))

pub too_short : (text : List ℕ) (letters : ℕ) → length text ≤ letters → NamesNoActOf letters text
too_short text letters short a rest long is =
    let whole = ap (λ (l : List ℕ). length l) is in
    let parts = length-append (act_word a) (32 ∷ rest) in omega (arith, whole, parts, short, long)

-- the letters are no act
pub no_act_there : (text : List ℕ) (letters : ℕ) → act_named (take letters text) ≡ None → NamesNoActOf letters text
no_act_there text letters none a rest long is =
    let word : take letters text ≡ act_word a = rw (is, sym long) (take-append_seam (act_word a) (32 ∷ rest)) in
    let named : act_named (take letters text) ≡ Some a = ap act_named word ∙ act-named a in cc

-- they are one, and a blank stands behind them
pub act_there : (text : List ℕ) (letters : ℕ) (a : Act) → letters < length text → get_or text letters 0 ≡ 32 → act_named (take letters text) ≡ Some a
    → text ≡ act_word a ++ 32 ∷ drop (letters + 1) text
act_there text letters a inside blank named =
    let word : take letters text ≡ act_word a = act_named-some (take letters text) a named in
    let rest : drop letters text ≡ 32 ∷ drop (letters + 1) text = rw add-one (drop-cons text letters 0 inside) ∙ ap (λ (b : ℕ). b ∷ drop (letters + 1) text) blank in
    sym (take-append-drop letters text) ∙ ap (λ (l : List ℕ). l ++ drop letters text) word ∙ ap (λ (l : List ℕ). act_word a ++ l) rest

-- every act has four letters or five
pub four_or_five : (text : List ℕ) → NamesNoActOf 4 text → NamesNoActOf 5 text → NamesNoAct text
four_or_five text four five acts.Write rest is = five acts.Write rest refl is
four_or_five text four five acts.Read rest is = four acts.Read rest refl is
four_or_five text four five acts.Free rest is = four acts.Free rest refl is
four_or_five text four five acts.Step rest is = four acts.Step rest refl is

-- The first line that declares a name again, as both walks meet it.
use Rattle.std.proofs.Common.{◌≡◌, ℕ, ◌+◌, ◌<◌, List, [], ◌∷◌, Bool, true, false, Option, Some, None, Ok, Err, refl, sym, ap, ◌∙◌, arith, ◌==◌, if◌then◌else◌}
use Rattle.std.proofs.lemmas.Bool.{cond_both}
use Rattle.std.proofs.lemmas.Slice.Eq.{bytes_eq-Decides}
use Rattle.bpf_isa.specs.declared.insn.Insn.{Insn}
use Rattle.bpf_asm.specs.declared.names.Mark.{Mark}
use Rattle.bpf_asm.specs.Assembly.{Line, declares, mark_of, name_at, slots_in}
use Rattle.bpf_asm.specs.Forms.{or_else}
use Rattle.bpf_asm.specs.Names.{is_elsewhere}
use Rattle.bpf_asm.specs.Marks.{first_mark, is_again, first_again, is_at, unless_at, marked_in}
use Rattle.bpf_asm.specs.Statements.{Statement}
use Rattle.doc_text.specs.Words.{same}

-- a mark that a line noted is the one of all lines
settled : (before after behind total : Option Mark) (declared : Bool) (mark : Mark) → declared ≡ true
    → after ≡ first_mark before declared mark → or_else after behind ≡ total → after ≡ total
settled (Some m) after behind total declared mark d e h = e ∙ (sym (ap (λ a. or_else a behind) e) ∙ h)
settled None after behind total declared mark d e h =
    let here : after ≡ Some mark = e ∙ ap (λ b. first_mark None b mark) d in
    here ∙ (sym (ap (λ a. or_else a behind) here) ∙ h)

-- a line that was noted declares a name again by the marks noted, where it does so by those of all lines
pub again_here : (after before behind marked : List ℕ → Option Mark) (line : ℕ) (mark : Mark) (l : Line)
    → ((name : List ℕ) → after name ≡ first_mark (before name) (declares name l) mark)
    → ((name : List ℕ) → or_else (after name) (behind name) ≡ marked name)
    → is_again after line l ≡ is_again marked line l
again_here after before behind marked line mark (Err fault) noted stands = refl
again_here after before behind marked line mark (Ok (Statement.Name name)) noted stands =
    ap (is_elsewhere line) (settled (before name) (after name) (behind name) (marked name) (same name name) mark ((bytes_eq-Decides name name).1 refl) (noted name) (stands name))
again_here after before behind marked line mark (Ok (Statement.Code insns)) noted stands = refl
again_here after before behind marked line mark (Ok (Statement.JumpTo x name)) noted stands = refl

-- one line further, the first such line is the one noted or that of the lines behind
pub again_goes_on : (marked : List ℕ → Option Mark) (before after total : Option ℕ) (line : ℕ) (here : Bool) (l : Line) (ls : List Line)
    → here ≡ is_again marked line l → after ≡ or_else before (if here then Some line else None)
    → or_else before (first_again marked line (l ∷ ls)) ≡ total → or_else after (first_again marked (line + 1) ls) ≡ total
unfolding first_again
again_goes_on marked (Some n) after total line here l ls same_here e h = rw e h
again_goes_on marked None after total line true l ls same_here e h = rw e (sym (rw (sym same_here) refl) ∙ h)
again_goes_on marked None after total line false l ls same_here e h = rw e (sym (rw (sym same_here) refl) ∙ h)

-- where no line is left, it is the one noted
pub again_ends : (marked : List ℕ → Option Mark) (before total : Option ℕ) (line : ℕ) → or_else before (first_again marked line []) ≡ total → before ≡ total
unfolding first_again
again_ends marked None total line h = h
again_ends marked (Some n) total line h = h

later : (marked : List ℕ → Option Mark) (line next : ℕ) (ls : List Line) → line < next → is_at line (first_again marked next ls) ≡ false
unfolding first_again
later marked line next [] lt = refl
later marked line next (l ∷ ls) lt = cond_both (is_again marked next l) _ _ (λ (found : Option ℕ). is_at line found ≡ false)
    (λ _. grind (arith))
    (λ _. later marked line (next + 1) ls (omega (arith, lt)))

-- the first such line is this one, where it is such a line
pub at_again : (marked : List ℕ → Option Mark) (again : Option ℕ) (line : ℕ) (l : Line) (ls : List Line) → again ≡ first_again marked line (l ∷ ls)
    → is_again marked line l ≡ is_at line again
unfolding first_again
at_again marked again line l ls e = rw e (by (is_again marked line l))
  where
    by : (here : Bool) → here ≡ is_at line (if here then Some line else first_again marked (line + 1) ls)
    by true = grind (arith)
    by false = sym (later marked line (line + 1) ls (omega arith))

-- a line that brings slots, or none, is no such line
not_again : (all : List Line) (line : ℕ) (found : Option Mark) (here : List Insn) → name_at line found ≡ Ok here → is_elsewhere line found ≡ false
not_again all line None here e = absurd (cc e)
not_again all line (Some mark) here e = by (mark.line == line) refl
  where
    by : (b : Bool) → mark.line == line ≡ b → is_elsewhere line (Some mark) ≡ false
    by true m = rw m refl
    by false m = let bad : name_at line (Some mark) ≡ Err 5 = rw m refl in absurd (cc (sym bad ∙ e))

never_again : (all : List Line) (line slot : ℕ) (l : Line) (here : List Insn) → slots_in all line slot l ≡ Ok here → is_again (marked_in all) line l ≡ false
never_again all line slot (Err fault) here e = refl
never_again all line slot (Ok (Statement.Name name)) here e = not_again all line (mark_of name 1 0 all) here e
never_again all line slot (Ok (Statement.Code insns)) here e = refl
never_again all line slot (Ok (Statement.JumpTo x name)) here e = refl

-- behind a line that brings slots, the first such line is that of the lines behind
pub again_behind : (all : List Line) (again : Option ℕ) (line slot : ℕ) (l : Line) (ls : List Line) (here : List Insn)
    → slots_in all line slot l ≡ Ok here → again ≡ first_again (marked_in all) line (l ∷ ls) → again ≡ first_again (marked_in all) (line + 1) ls
unfolding first_again
again_behind all again line slot l ls here e h = h ∙ rw (never_again all line slot l here e) refl

-- a declaration has its slots by the first such line
pub name_is : (line : ℕ) (found : Option Mark) (again : Option ℕ) → is_elsewhere line found ≡ is_at line again → name_at line found ≡ unless_at line again
name_is line None again e = rw (sym e) refl
name_is line (Some mark) again e = by (mark.line == line) refl
  where
    by : (b : Bool) → mark.line == line ≡ b → name_at line (Some mark) ≡ unless_at line again
    by true m = rw (sym e, m) refl
    by false m = rw (sym e, m) refl

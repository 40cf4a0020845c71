-- One line more in the first walk: what its declaration adds.
use Rattle.std.proofs.Common.{◌≡◌, ℕ, ◌+◌, List, [], ◌∷◌, ◌++◌, Bool, true, false, Option, Some, None, Result, Ok, Err, refl, sym, ap, ◌∙◌, subst, if◌then◌else◌}
use Rattle.std.proofs.lemmas.List.{append-nil}
use Rattle.bpf_asm.specs.declared.names.Declared.{Declared}
use Rattle.bpf_asm.specs.declared.names.Mark.{Mark}
use Rattle.bpf_asm.specs.declared.statement.Statement.{Statement}
use Rattle.bpf_asm.specs.declared.statement.Statement.TheVariants as held
use Rattle.bpf_asm.specs.Assembly.{declares}
use Rattle.bpf_asm.specs.Forms.{or_else}
use Rattle.bpf_asm.specs.Marks.{declared_on, first_mark, is_again}
use Rattle.bpf_asm.specs.Names.{mark_at, mark_in, is_elsewhere, first_repeat, AreDeclared}
use Rattle.bpf_asm.specs.Views.{line_of}
use Rattle.bpf_asm.proofs.Declarations as names
use Rattle.doc_text.specs.Words.{same}

mark_push : (ds : List Declared) (x : Declared) (name : List ℕ) → mark_in (ds ++ x ∷ []) name ≡ first_mark (mark_in ds name) (same x.name.now name) (mark_at x)
mark_push [] x name = refl
mark_push (d ∷ ds) x name = by (same d.name.now name) refl (mark_push ds x name)
  where
    by : (t : Bool) → same d.name.now name ≡ t → mark_in (ds ++ x ∷ []) name ≡ first_mark (mark_in ds name) (same x.name.now name) (mark_at x)
        → mark_in (d ∷ (ds ++ x ∷ [])) name ≡ first_mark (mark_in (d ∷ ds) name) (same x.name.now name) (mark_at x)
    by true m behind = rw m refl
    by false m behind = rw m behind

nothing_marked : (before : Option Mark) (mark : Mark) → before ≡ first_mark before false mark
nothing_marked None mark = refl
nothing_marked (Some m) mark = refl

nothing_again : (before : Option ℕ) (line : ℕ) → before ≡ or_else before (if false then Some line else None)
nothing_again None line = refl
nothing_again (Some n) line = refl

repeat_push : (marked : List ℕ → Option Mark) (ds : List Declared) (x : Declared) → first_repeat marked (ds ++ x ∷ []) ≡ or_else (first_repeat marked ds) (if is_elsewhere x.line (marked x.name.now) then Some x.line else None)
repeat_push marked [] x = refl
repeat_push marked (d ∷ ds) x = by (is_elsewhere d.line (marked d.name.now)) refl (repeat_push marked ds x)
  where
    by : (t : Bool) → is_elsewhere d.line (marked d.name.now) ≡ t
        → first_repeat marked (ds ++ x ∷ []) ≡ or_else (first_repeat marked ds) (if is_elsewhere x.line (marked x.name.now) then Some x.line else None)
        → first_repeat marked (d ∷ (ds ++ x ∷ [])) ≡ or_else (first_repeat marked (d ∷ ds)) (if is_elsewhere x.line (marked x.name.now) then Some x.line else None)
    by true m behind = rw m refl
    by false m behind = rw m behind

-- the marks, the first repeat and the lines behind a line that declares nothing
none_noted : (ds es : List Declared) (line slot : ℕ) (name : List ℕ) → es ≡ ds ++ [] → mark_in es name ≡ first_mark (mark_in ds name) false (record { line = line; slot = slot })
none_noted ds es line slot name e = ap (λ (l : List Declared). mark_in l name) (e ∙ append-nil ds) ∙ nothing_marked (mark_in ds name) (record { line = line; slot = slot })

none_again : (marked : List ℕ → Option Mark) (ds es : List Declared) (line : ℕ) → es ≡ ds ++ [] → first_repeat marked es ≡ or_else (first_repeat marked ds) (if false then Some line else None)
none_again marked ds es line e = ap (first_repeat marked) (e ∙ append-nil ds) ∙ nothing_again (first_repeat marked ds) line

none_declared : (ds es : List Declared) (line : ℕ) → es ≡ ds ++ [] → AreDeclared 1 ds line → AreDeclared 1 es (line + 1)
none_declared ds es line e a = subst (λ (l : List Declared). AreDeclared 1 l (line + 1)) (sym (e ∙ append-nil ds)) (names.declared_on 1 ds line a)

pub noted : (ds es : List Declared) (line slot : ℕ) (read : Result Statement ℕ) (name : List ℕ) → es ≡ ds ++ declared_on line slot read
    → mark_in es name ≡ first_mark (mark_in ds name) (declares name (line_of read)) (record { line = line; slot = slot })
noted ds es line slot (Err fault) name e = none_noted ds es line slot name e
noted ds es line slot (Ok (held.Name other)) name e = ap (λ (l : List Declared). mark_in l name) e ∙ mark_push ds _ name
noted ds es line slot (Ok (held.One x)) name e = none_noted ds es line slot name e
noted ds es line slot (Ok (held.Wide dst low high)) name e = none_noted ds es line slot name e
noted ds es line slot (Ok (held.JumpTo x other)) name e = none_noted ds es line slot name e

pub again_noted : (marked : List ℕ → Option Mark) (ds es : List Declared) (line slot : ℕ) (read : Result Statement ℕ) → es ≡ ds ++ declared_on line slot read
    → first_repeat marked es ≡ or_else (first_repeat marked ds) (if is_again marked line (line_of read) then Some line else None)
again_noted marked ds es line slot (Err fault) e = none_again marked ds es line e
again_noted marked ds es line slot (Ok (held.Name other)) e = ap (first_repeat marked) e ∙ repeat_push marked ds _
again_noted marked ds es line slot (Ok (held.One x)) e = none_again marked ds es line e
again_noted marked ds es line slot (Ok (held.Wide dst low high)) e = none_again marked ds es line e
again_noted marked ds es line slot (Ok (held.JumpTo x other)) e = none_again marked ds es line e

pub declared_noted : (ds es : List Declared) (line slot : ℕ) (read : Result Statement ℕ) → es ≡ ds ++ declared_on line slot read → AreDeclared 1 ds line → AreDeclared 1 es (line + 1)
declared_noted ds es line slot (Err fault) e a = none_declared ds es line e a
declared_noted ds es line slot (Ok (held.Name other)) e a = subst (λ (l : List Declared). AreDeclared 1 l (line + 1)) (sym e) (names.declared_push 1 ds _ a refl)
declared_noted ds es line slot (Ok (held.One x)) e a = none_declared ds es line e a
declared_noted ds es line slot (Ok (held.Wide dst low high)) e a = none_declared ds es line e a
declared_noted ds es line slot (Ok (held.JumpTo x other)) e a = none_declared ds es line e a

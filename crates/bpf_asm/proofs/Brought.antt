-- The slots that a line brings are well formed.
use Rattle.std.proofs.Common.{◌≡◌, ℕ, ℤ, pos, negsuc, ◌-ℤ◌, ◌+◌, ◌<◌, zero, suc, List, [], ◌∷◌, ◌++◌, length, map, Bool, true, false, ◌==◌, nat_le, Option, Some, None, Result, Ok, Err, refl, sym, ap, ◌∙◌, subst, arith, FitsSigned}
use Rattle.std.specs.Int.{w16, w32}
use Rattle.std.proofs.lemmas.Bool.{cond_both, ltb-true, false≢true}
use Rattle.std.proofs.lemmas.Int.{ints}
use Rattle.bpf_isa.specs.declared.insn.Insn.{Insn}
use Rattle.bpf_isa.specs.declared.insn.Insn.TheVariants as insn
use Rattle.bpf_isa.specs.declared.insn.Profile.{Profile}
use Rattle.bpf_isa.specs.Flow.{insn_at, is_half, is_wide, jump_offset, target}
use Rattle.bpf_isa.specs.WellFormed.{HasFields, has}
use Rattle.bpf_isa.proofs.Inverse.{old_form}
use Rattle.bpf_isa.proofs.Raws.{Shape}
use Rattle.std.proofs.lemmas.Option.{none-some, same_Some}
use Rattle.bpf_asm.specs.declared.names.Mark.{Mark}
use Rattle.bpf_asm.specs.Assembly.{Line, slots_of, layout, mark_of, half_at, into_half, first_offset, fits_short, fits_long, fits, reaching, jump_to, name_at, code_at, slots_in}
use Rattle.bpf_asm.specs.Statements.{Statement, with_offset}
use Rattle.bpf_asm.proofs.SoundLines.{IsPlain, IsJump, offset_width, GoodCode, GoodLine}
use Rattle.bpf_asm.proofs.Formed.{GoodLines, code_shape}
use Rattle.bpf_asm.proofs.NamesStand.{name_no_half}

-- an instruction of a slot: its fields, its profile, and that it doesn't jump into a second half
pub record At (p : Profile) (insns : List Insn) (slot : ℕ) (x : Insn) : Type 0 where
  pub fields : HasFields x
  pub owned : has p x ≡ true
  pub outside : (off : ℤ) → jump_offset x ≡ Some off → half_at insns (target slot off) ≡ false

pub record Brought (p : Profile) (insns : List Insn) (slot : ℕ) (l : Line) (here : List Insn) : Type 0 where
  pub shape : (others : List Insn) → Shape false others → Shape false (here ++ others)
  pub same : map is_half here ≡ map is_half (slots_of l)
  pub each : (k : ℕ) → k < length here → At p insns (slot + k) (insn_at here k)

abbrev pub BroughtIn : Profile → List Insn → ℕ → Line → Result (List Insn) ℕ → Type 0
BroughtIn p insns slot l (Ok here) = Brought p insns slot l here
BroughtIn p insns slot l (Err e) = Unit {0}

half_fields : (x : Insn) → is_half x ≡ true → HasFields x
half_fields insn.Half h = tt
half_fields x h = absurd (false≢true h)

half_owned : (p : Profile) (x : Insn) → is_half x ≡ true → has p x ≡ true
half_owned p insn.Half h = old_form p insn.Half refl
half_owned p x h = absurd (false≢true h)

half_stays : (x : Insn) (off : ℤ) → is_half x ≡ true → jump_offset x ≡ Some off → ⊥
half_stays insn.Half off h j = none-some off j
half_stays x off h j = absurd (false≢true h)

wide_stays : (x : Insn) (off : ℤ) → is_wide x ≡ true → jump_offset x ≡ Some off → ⊥
wide_stays (insn.Wide d l h) off w j = none-some off j
wide_stays x off w j = absurd (false≢true w)

at_slot : (p : Profile) (insns : List Insn) (slot : ℕ) (x : Insn) → At p insns slot x → At p insns (slot + 0) x
at_slot p insns slot x a = subst (λ (s : ℕ). At p insns s x) (omega arith) a

code_each : (p : Profile) (insns : List Insn) (slot : ℕ) (code : List Insn) → GoodCode p code → into_half insns slot (first_offset code) ≡ false
    → (k : ℕ) → k < length code → At p insns (slot + k) (insn_at code k)
code_each p insns slot [] good outside k lt = absurd good
code_each p insns slot (x ∷ []) good outside zero lt = at_slot p insns slot x (record { fields = good.fields; owned = good.owned; outside = λ off j. ap (into_half insns slot) (sym j) ∙ outside })
code_each p insns slot (x ∷ []) good outside (suc k) lt = absurd (omega (arith, lt))
code_each p insns slot (x ∷ y ∷ []) good outside zero lt = at_slot p insns slot x (record { fields = good.2; owned = good.3; outside = λ off j. absurd (wide_stays x off good.0 j) })
code_each p insns slot (x ∷ y ∷ []) good outside (suc zero) lt = record { fields = half_fields y good.1; owned = half_owned p y good.1; outside = λ off j. absurd (half_stays y off good.1 j) }
code_each p insns slot (x ∷ y ∷ []) good outside (suc (suc k)) lt = absurd (omega (arith, lt))
code_each p insns slot (x ∷ y ∷ z ∷ xs) good outside k lt = absurd good

code_brought : (p : Profile) (insns : List Insn) (slot : ℕ) (code : List Insn) → GoodCode p code → BroughtIn p insns slot (Ok (Statement.Code code)) (code_at insns slot code)
code_brought p insns slot code good =
    cond_both (into_half insns slot (first_offset code)) _ _ (BroughtIn p insns slot (Ok (Statement.Code code))) (λ _. tt) (λ outside.
    cond_both (nat_le (slot + length code) 512) _ _ (BroughtIn p insns slot (Ok (Statement.Code code)))
    (λ _. record { shape = λ others s. code_shape p code others good s; same = refl; each = code_each p insns slot code good outside }) (λ _. tt))

name_brought : (p : Profile) (insns name : List Insn) (line slot : ℕ) (word : List ℕ) (found : Option Mark) → BroughtIn p insns slot (Ok (Statement.Name word)) (name_at line found)
name_brought p insns name line slot word None = tt
name_brought p insns name line slot word (Some mark) = cond_both (mark.line == line) _ _ (BroughtIn p insns slot (Ok (Statement.Name word)))
    (λ _. record { shape = λ others s. s; same = refl; each = λ k lt. absurd (omega (arith, lt)) }) (λ _. tt)

short_signed : (off : ℤ) → fits_short off ≡ true → FitsSigned w16 off
short_signed (pos n) e = record { sfits = omega (arith, ltb-true n 0x8000 e) }
short_signed (negsuc n) e = record { sfits = omega (arith, ltb-true n 0x8000 e) }

long_signed : (off : ℤ) → fits_long off ≡ true → FitsSigned w32 off
long_signed (pos n) e = record { sfits = omega (arith, ltb-true n 0x80000000 e) }
long_signed (negsuc n) e = record { sfits = omega (arith, ltb-true n 0x80000000 e) }

fits_signed : (x : Insn) (off : ℤ) → fits x off ≡ true → FitsSigned (offset_width x) off
fits_signed (insn.GotoLong o) off e = long_signed off e
fits_signed x off e = short_signed off e

back_again : (slot to : ℕ) → target slot (pos to -ℤ pos (slot + 1)) ≡ pos to
back_again slot to = omega (arith, ints)

jump_brought : (p : Profile) (insns : List Insn) (slot : ℕ) (x : Insn) (name : List ℕ) (found : Option Mark) → IsJump p x → ((mark : Mark) → found ≡ Some mark → half_at insns (pos mark.slot) ≡ false)
    → BroughtIn p insns slot (Ok (Statement.JumpTo x name)) (jump_to slot x found)
jump_brought p insns slot x name None good outside = tt
jump_brought p insns slot x name (Some mark) good outside =
    cond_both (fits x off) _ _ (λ (o : Option Insn). BroughtIn p insns slot (Ok (Statement.JumpTo x name)) (reaching slot o)) (λ e.
    cond_both (nat_le (slot + 1) 512) _ _ (BroughtIn p insns slot (Ok (Statement.JumpTo x name))) (λ _.
    let plain : IsPlain p (with_offset x off) = good.plain off (fits_signed x off e) in
    record {
      shape = λ others s. code_shape p (with_offset x off ∷ []) others plain s;
      same = ap (λ (b : Bool). b ∷ []) (plain.no_half ∙ sym good.no_half);
      each = each plain;
    }) (λ _. tt)) (λ _. tt)
  where
    off : ℤ
    off = pos mark.slot -ℤ pos (slot + 1)

    same_offset : (other : ℤ) → jump_offset (with_offset x off) ≡ Some other → half_at insns (target slot other) ≡ false
    same_offset other j =
        let e : off ≡ other = same_Some off other (sym (good.leads off) ∙ j) in
        ap (λ (z : ℤ). half_at insns (target slot z)) (sym e) ∙ ap (half_at insns) (back_again slot mark.slot) ∙ outside mark refl

    each : IsPlain p (with_offset x off) → (k : ℕ) → k < 1 → At p insns (slot + k) (insn_at (with_offset x off ∷ []) k)
    each plain zero lt = at_slot p insns slot (with_offset x off) (record { fields = plain.fields; owned = plain.owned; outside = same_offset })
    each plain (suc k) lt = absurd (omega (arith, lt))

-- the slots that a line brings are well formed
pub line_brought : (p : Profile) (all : List Line) (line slot : ℕ) (l : Line) → GoodLines p all → GoodLine p l → BroughtIn p (layout all) slot l (slots_in all line slot l)
line_brought p all line slot (Err e) good here = tt
line_brought p all line slot (Ok (Statement.Name name)) good here = name_brought p (layout all) [] line slot name (mark_of name 1 0 all)
line_brought p all line slot (Ok (Statement.Code code)) good here = code_brought p (layout all) slot code here
line_brought p all line slot (Ok (Statement.JumpTo x name)) good here = jump_brought p (layout all) slot x name (mark_of name 1 0 all) here (λ mark e. name_no_half p all name mark good e)

-- What a text assembles to is well formed.
use Rattle.std.proofs.Common.{◌≡◌, ℕ, List, [], ◌∷◌, ◌++◌, map, Bool, true, false, Ok, Err, refl, sym, ◌∙◌, subst}
use Rattle.std.proofs.lemmas.Bool.{false≢true}
use Rattle.bpf_isa.specs.declared.insn.Insn.{Insn}
use Rattle.bpf_isa.specs.declared.insn.Insn.TheVariants as insn
use Rattle.bpf_isa.specs.declared.insn.Profile.{Profile}
use Rattle.bpf_isa.specs.Flow.{is_half, is_wide}
use Rattle.bpf_isa.proofs.Raws.{Shape}
use Rattle.bpf_asm.specs.Assembly.{Line, slots_of, layout}
use Rattle.bpf_asm.specs.Statements.{Statement, line_in}
use Rattle.bpf_asm.proofs.SoundLines.{GoodCode, GoodLine, line_holds}

-- every line is well formed
abbrev pub GoodLines : Profile → List Line → Type 0
GoodLines p [] = Unit {0}
GoodLines p (l ∷ ls) = GoodLine p l × GoodLines p ls

pub good_pieces : (p : Profile) (ps : List (List ℕ)) → GoodLines p (map (line_in p) ps)
good_pieces p [] = tt
good_pieces p (q ∷ ps) = (line_holds p q, good_pieces p ps)

wide_no_half : (x : Insn) → is_wide x ≡ true → is_half x ≡ false
wide_no_half insn.Half w = absurd (false≢true w)
wide_no_half x w = refl

half_no_wide : (x : Insn) → is_half x ≡ true → is_wide x ≡ false
half_no_wide (insn.Wide d l h) w = absurd (false≢true w)
half_no_wide x w = refl

-- code in front keeps the shape of what is behind it
pub code_shape : (p : Profile) (code others : List Insn) → GoodCode p code → Shape false others → Shape false (code ++ others)
code_shape p [] others good shape = absurd good
code_shape p (x ∷ []) others good shape = (good.no_half, subst (λ (b : Bool). Shape b others) (sym good.no_wide) shape)
code_shape p (x ∷ y ∷ []) others good shape =
    (wide_no_half x good.0, (good.1 ∙ sym good.0, subst (λ (b : Bool). Shape b others) (sym (half_no_wide y good.1)) shape))
code_shape p (x ∷ y ∷ z ∷ xs) others good shape = absurd good

line_shape : (p : Profile) (l : Line) (others : List Insn) → GoodLine p l → Shape false others → Shape false (slots_of l ++ others)
line_shape p (Err e) others good shape = shape
line_shape p (Ok (Statement.Name name)) others good shape = shape
line_shape p (Ok (Statement.Code code)) others good shape = code_shape p code others good shape
line_shape p (Ok (Statement.JumpTo x name)) others good shape = (good.no_half, subst (λ (b : Bool). Shape b others) (sym good.no_wide) shape)

pub layout_shape : (p : Profile) (ls : List Line) → GoodLines p ls → Shape false (layout ls)
layout_shape p [] good = refl
layout_shape p (l ∷ ls) good = line_shape p l (layout ls) good.0 (layout_shape p ls good.1)

-- A name stands in front of a whole line, and so never in front of a second half.
use Rattle.std.proofs.Common.{◌≡◌, ℕ, pos, ◌+◌, List, [], ◌∷◌, ◌++◌, length, length-append, false, nat_lt, Option, Some, None, refl, sym, ap, ◌∙◌, subst, arith, append_assoc}
use Rattle.std.proofs.lemmas.Bool.{cond_both, le-ltb, and_left, and_right}
use Rattle.bpf_isa.specs.declared.insn.Insn.{Insn}
use Rattle.bpf_isa.specs.declared.insn.Profile.{Profile}
use Rattle.bpf_isa.specs.Flow.{insn_at, is_half}
use Rattle.bpf_isa.proofs.Raws.{Shape}
use Rattle.bpf_asm.specs.declared.names.Mark.{Mark}
use Rattle.bpf_asm.specs.Assembly.{Line, slots_of, layout, declares, mark_of, half_at}
use Rattle.bpf_asm.proofs.Formed.{GoodLines, layout_shape}

insn_at-behind : (front back : List Insn) → insn_at (front ++ back) (length front) ≡ insn_at back 0
insn_at-behind [] back = refl
insn_at-behind (y ∷ front) back = insn_at-behind front back

-- the first slot of a whole line is no second half
first_slot : (front back : List Insn) → Shape false back → half_at (front ++ back) (pos (length front)) ≡ false
first_slot front [] shape = and_left (nat_lt (length front) (length (front ++ []))) _ (le-ltb (length front) (length (front ++ [])) (omega (arith, length-append front [])))
first_slot front (x ∷ xs) shape = and_right (nat_lt (length front) (length (front ++ x ∷ xs))) _ (ap is_half (insn_at-behind front (x ∷ xs)) ∙ shape.0)

-- the slots from a name on
pub record Stands (slot : ℕ) (insns : List Insn) (mark : Mark) : Type 0 where
  pub front : List Insn
  pub back : List Insn
  pub parts : insns ≡ front ++ back
  pub at : mark.slot ≡ slot + length front
  pub shape : Shape false back

abbrev pub StandsIn : ℕ → List Insn → Option Mark → Type 0
StandsIn slot insns None = Unit {0}
StandsIn slot insns (Some mark) = Stands slot insns mark

behind_line : (slot : ℕ) (here insns : List Insn) (found : Option Mark) → StandsIn (slot + length here) insns found → StandsIn slot (here ++ insns) found
behind_line slot here insns None s = tt
behind_line slot here insns (Some mark) s = record {
  front = here ++ s.front;
  back = s.back;
  parts = ap (λ (xs : List Insn). here ++ xs) s.parts ∙ sym (append_assoc here s.front s.back);
  at = omega (arith, s.at, length-append here s.front);
  shape = s.shape;
}

mark_stands : (p : Profile) (name : List ℕ) (line slot : ℕ) (ls : List Line) → GoodLines p ls → StandsIn slot (layout ls) (mark_of name line slot ls)
unfolding mark_of
mark_stands p name line slot [] good = tt
mark_stands p name line slot (l ∷ ls) good = cond_both (declares name l) _ _ (StandsIn slot (layout (l ∷ ls)))
    (λ _. record { front = []; back = layout (l ∷ ls); parts = refl; at = omega arith; shape = layout_shape p (l ∷ ls) good })
    (λ _. behind_line slot (slots_of l) (layout ls) (mark_of name (line + 1) (slot + length (slots_of l)) ls) (mark_stands p name (line + 1) (slot + length (slots_of l)) ls good.1))

-- no name stands in front of a second half
pub name_no_half : (p : Profile) (all : List Line) (name : List ℕ) (mark : Mark) → GoodLines p all → mark_of name 1 0 all ≡ Some mark → half_at (layout all) (pos mark.slot) ≡ false
name_no_half p all name mark good found =
    let s : Stands 0 (layout all) mark = subst (StandsIn 0 (layout all)) found (mark_stands p name 1 0 all good) in
    let at : mark.slot ≡ length s.front = omega (arith, s.at) in
    ap (λ (insns : List Insn). half_at insns (pos mark.slot)) s.parts ∙ ap (λ (slot : ℕ). half_at (s.front ++ s.back) (pos slot)) at ∙ first_slot s.front s.back s.shape

-- What an instruction makes of a set of lists of kinds, it makes of their sum.
use Rattle.std.proofs.Common.{◌≡◌, ◌≢◌, inl, inr, ℕ, ◌<◌, List, length, set, Option, Some, None, true, refl, sym, ap, ◌∙◌, subst, arith, get_or-set_same, get_or-set_other}
use Rattle.std.proofs.Math.ListN.{length-set}
use Rattle.std.proofs.lemmas.Bool.{eq-eqb}
use Rattle.std.proofs.lemmas.Bool.Decides.{eqb_tells}
use Rattle.bpf_isa.specs.declared.insn.Width.TheVariants.{W32, W64}
use Rattle.bpf_isa.specs.declared.insn.AluOp.TheVariants.{Mov}
use Rattle.bpf_isa.specs.declared.insn.Operand.TheVariants.{Reg, Imm}
use Rattle.bpf_isa.specs.declared.insn.Insn.{Insn}
use Rattle.bpf_isa.specs.declared.insn.Insn.TheVariants.{Alu, Neg, Load, Wide, Half, Goto, GotoLong, Jump, Exit, LoadSigned, MovSigned, Swap}
use Rattle.bpf_isa.specs.Operands.{reads, written}
use Rattle.bpf_isa.specs.WellFormed.{HasFields}
use Rattle.bpf_verifier.specs.declared.kind.Kind.{Kind}
use Rattle.bpf_verifier.specs.declared.kind.Kind.TheVariants.{Absent, Number, Context}
use Rattle.bpf_verifier.specs.Kinds.{kind_at, copied, result_kind, with_result, kinds_after}
use Rattle.bpf_verifier.proofs.Summary.{SumsUp}

-- the lists that come of a set by an instruction
abbrev pub Image : (List Kind → Type 0) → (List Kind → List Kind) → List Kind → Type 0
Image S make kinds = (before : List Kind) × S before × (kinds ≡ make before)

length-with_result : (to : Option ℕ) (kind : Kind) (kinds : List Kind) → length (with_result to kind kinds) ≡ length kinds
length-with_result None kind kinds = refl
length-with_result (Some dst) kind kinds = length-set kinds dst kind

pub length-kinds_after : (insn : Insn) (kinds : List Kind) → length (kinds_after insn kinds) ≡ length kinds
length-kinds_after insn kinds = length-with_result (written insn) (result_kind insn kinds) kinds

at_written : (kinds : List Kind) (dst : ℕ) (kind : Kind) → dst < length kinds → kind_at (set kinds dst kind) dst ≡ kind
at_written kinds dst kind lt = rw get_or-set_same refl

at_other : (kinds : List Kind) (dst reg : ℕ) (kind : Kind) → reg ≢ dst → kind_at (set kinds dst kind) reg ≡ kind_at kinds reg
at_other kinds dst reg kind ne = rw get_or-set_other refl

-- a result that is of one kind for all lists
sums_up_set : (S : List Kind → Type 0) (sum : List Kind) (dst : ℕ) (result : List Kind → Kind) (kind : Kind) → dst < 10 → ((kinds : List Kind) → S kinds → length kinds ≡ 10) → SumsUp S sum → kind ≢ Absent
    → ((kinds : List Kind) → S kinds → result kinds ≡ kind) → SumsUp (Image S (λ kinds. set kinds dst (result kinds))) (set sum dst kind)
sums_up_set S sum dst result kind lt long h given all = record {
  long = length-set sum dst kind ∙ h.long;
  some = (set h.some.0 dst (result h.some.0), (h.some.0, h.some.1, refl));
  agree = λ reg k below is ne kinds i. elim (eqb_tells reg dst) [
    | inl e ↦ (let P : ℕ → Type 0 = λ n. kind_at (set sum dst kind) n ≡ k in
        let Q : ℕ → Type 0 = λ n. kind_at kinds n ≡ k in
        let here : kind_at (set sum dst kind) dst ≡ k = subst P e.1 is in
        let now : kind_at kinds dst ≡ k = ap (λ (l : List Kind). kind_at l dst) i.2 ∙ at_written i.0 dst (result i.0) (omega (arith, long i.0 i.1, lt)) ∙ all i.0 i.1 ∙ sym (at_written sum dst kind (omega (arith, h.long, lt))) ∙ here in
        subst Q (sym e.1) now)
    | inr e ↦ ap (λ (l : List Kind). kind_at l reg) i.2 ∙ at_other i.0 dst reg (result i.0) e.1 ∙ h.agree reg k below (sym (at_other sum dst reg kind e.1) ∙ is) ne i.0 i.1
  ];
  differ = λ reg k below is ne. elim (eqb_tells reg dst) [
    | inl e ↦ (let P : ℕ → Type 0 = λ n. kind_at (set sum dst kind) n ≡ Absent in absurd (given (sym (at_written sum dst kind (omega (arith, h.long, lt))) ∙ subst P e.1 is)))
    | inr e ↦ (let one = h.differ reg k below (sym (at_other sum dst reg kind e.1) ∙ is) ne in
        (set one.0 dst (result one.0), (one.0, one.1, refl), λ x. one.2 (sym (at_other one.0 dst reg (result one.0) e.1) ∙ x)))
  ];
}

sums_up_with_result : (S : List Kind → Type 0) (sum : List Kind) (to : Option ℕ) (result : List Kind → Kind) → ((dst : ℕ) → to ≡ Some dst → dst < 10) → ((kinds : List Kind) → S kinds → length kinds ≡ 10) → SumsUp S sum → result sum ≢ Absent
    → ((kinds : List Kind) → S kinds → result kinds ≡ result sum) → SumsUp (Image S (λ kinds. with_result to (result kinds) kinds)) (with_result to (result sum) sum)
sums_up_with_result S sum None result fits long h given all = record {
  long = h.long;
  some = (h.some.0, (h.some.0, h.some.1, refl));
  agree = λ reg k below is ne kinds i. ap (λ (l : List Kind). kind_at l reg) i.2 ∙ h.agree reg k below is ne i.0 i.1;
  differ = λ reg k below is ne. let one = h.differ reg k below is ne in (one.0, (one.0, one.1, refl), one.2);
}
sums_up_with_result S sum (Some dst) result fits long h given all = sums_up_set S sum dst result (result sum) (fits dst refl) long h given all

written_fits : (insn : Insn) (dst : ℕ) → HasFields insn → written insn ≡ Some dst → dst < 10
written_fits (Alu width op to src) dst fits e = let same : to ≡ dst = cc in omega (arith, fits.0, same)
written_fits (Neg width to) dst fits e = let same : to ≡ dst = cc in omega (arith, fits, same)
written_fits (Swap order bits to) dst fits e = let same : to ≡ dst = cc in omega (arith, fits.1, same)
written_fits (MovSigned width bits to src) dst fits e = let same : to ≡ dst = cc in omega (arith, fits.1, same)
written_fits (Load size to src off) dst fits e = let same : to ≡ dst = cc in omega (arith, fits.0, same)
written_fits (LoadSigned size to src off) dst fits e = let same : to ≡ dst = cc in omega (arith, fits.1, same)
written_fits (Wide to low high) dst fits e = let same : to ≡ dst = cc in omega (arith, fits.0, same)
written_fits (Jump width cond to src off) dst fits e = cc
written_fits Exit dst fits e = cc
written_fits Half dst fits e = cc
written_fits (Goto off) dst fits e = cc
written_fits (GotoLong off) dst fits e = cc

number_given : Number ≢ Absent
number_given = λ h. cc

copied_given : (kind : Kind) → copied kind ≢ Absent
copied_given Absent = λ h. cc
copied_given Number = λ h. cc
copied_given Context = λ h. cc

-- a result always has a kind
pub result_given : (insn : Insn) (kinds : List Kind) → result_kind insn kinds ≢ Absent
result_given (Alu W64 Mov dst (Reg src)) kinds = copied_given (kind_at kinds src)
result_given (Alu W64 op dst (Reg src)) kinds = number_given
result_given (Alu W32 op dst (Reg src)) kinds = number_given
result_given (Alu width op dst (Imm value)) kinds = number_given
result_given (Neg width to) kinds = number_given
result_given (Swap order bits to) kinds = number_given
result_given (MovSigned width bits to src) kinds = number_given
result_given (Load size to src off) kinds = number_given
result_given (LoadSigned size to src off) kinds = number_given
result_given (Wide to low high) kinds = number_given
result_given (Jump width cond to src off) kinds = number_given
result_given Exit kinds = number_given
result_given Half kinds = number_given
result_given (Goto off) kinds = number_given
result_given (GotoLong off) kinds = number_given

-- the kind of a result depends on the registers that are read
result_by_reads : (insn : Insn) (a b : List Kind) → ((reg : ℕ) → reads insn reg ≡ true → kind_at a reg ≡ kind_at b reg) → result_kind insn a ≡ result_kind insn b
result_by_reads (Alu W64 Mov dst (Reg src)) a b same = ap copied (same src (eq-eqb src src refl))
result_by_reads (Alu W64 op dst (Reg src)) a b same = refl
result_by_reads (Alu W32 op dst (Reg src)) a b same = refl
result_by_reads (Alu width op dst (Imm value)) a b same = refl
result_by_reads (Neg width to) a b same = refl
result_by_reads (Swap order bits to) a b same = refl
result_by_reads (MovSigned width bits to src) a b same = refl
result_by_reads (Load size to src off) a b same = refl
result_by_reads (LoadSigned size to src off) a b same = refl
result_by_reads (Wide to low high) a b same = refl
result_by_reads (Jump width cond to src off) a b same = refl
result_by_reads Exit a b same = refl
result_by_reads Half a b same = refl
result_by_reads (Goto off) a b same = refl
result_by_reads (GotoLong off) a b same = refl

-- the kinds behind an instruction, where each register that it reads has one
pub sums_up_after : (S : List Kind → Type 0) (insn : Insn) (sum : List Kind) → HasFields insn → ((reg : ℕ) → reads insn reg ≡ true → (reg < 10) × (kind_at sum reg ≢ Absent)) → ((kinds : List Kind) → S kinds → length kinds ≡ 10)
    → SumsUp S sum → SumsUp (Image S (kinds_after insn)) (kinds_after insn sum)
sums_up_after S insn sum fits given long h =
    sums_up_with_result S sum (written insn) (result_kind insn) (λ dst e. written_fits insn dst fits e) long h (result_given insn sum)
    (λ kinds s. result_by_reads insn kinds sum (λ reg read. let g = given reg read in h.agree reg (kind_at sum reg) g.0 refl g.1 kinds s))

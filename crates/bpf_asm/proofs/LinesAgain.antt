-- The line of an instruction says that instruction.
use Rattle.std.proofs.Common.{◌≡◌, ◌≢◌, ℕ, ℤ, pos, ◌/◌, ◌%◌, ◌^◌, ◌<◌, List, [], ◌∷◌, ◌++◌, Bool, true, false, not, ◌||◌, ◌==◌, Option, Some, Result, Ok, refl, sym, ap, ◌∙◌, subst, arith, FitsSigned, codes, inl, inr}
use Rattle.std.specs.Int.{w32, cast_signed, cast_unsigned}
use Rattle.std.specs.Fmt.{decimal}
use Rattle.std.proofs.lemmas.Bool.{false≢true, true≢false, or_cases, eqb-true}
use Rattle.std.proofs.lemmas.Int.{to_z-of_z}
use Rattle.std.proofs.Math.Facts.{Fits-of_z}
use Rattle.bpf_isa.specs.declared.insn.AluOp.{AluOp}
use Rattle.bpf_isa.specs.declared.insn.AluOp.TheVariants as alu
use Rattle.bpf_isa.specs.declared.insn.Cond.{Cond}
use Rattle.bpf_isa.specs.declared.insn.Cond.TheVariants as condition
use Rattle.bpf_isa.specs.declared.insn.Insn.{Insn}
use Rattle.bpf_isa.specs.declared.insn.Insn.TheVariants as insn
use Rattle.bpf_isa.specs.declared.insn.Operand.{Operand}
use Rattle.bpf_isa.specs.declared.insn.Order.{Order}
use Rattle.bpf_isa.specs.declared.insn.Order.TheVariants as order
use Rattle.bpf_isa.specs.declared.insn.Profile.TheVariants as profile
use Rattle.bpf_isa.specs.declared.insn.Size.{Size}
use Rattle.bpf_isa.specs.declared.insn.Size.TheVariants as size
use Rattle.bpf_isa.specs.declared.insn.Width.{Width}
use Rattle.bpf_isa.specs.declared.insn.Width.TheVariants as width
use Rattle.bpf_isa.specs.Flow.{is_half}
use Rattle.bpf_isa.specs.WellFormed.{HasFields, is_extended}
use Rattle.doc_text.specs.Text.{IsPlain}
use Rattle.doc_text.specs.Words.{HasNoBlank}
use Rattle.bpf_asm.specs.declared.form.Form.{Form}
use Rattle.bpf_asm.specs.declared.form.Form.TheVariants as form
use Rattle.bpf_asm.specs.Disassembly.{operation_name, condition_name, width_name, load_name, signed_load_name, swap_name, wide_number, words_of}
use Rattle.bpf_isa.specs.Checks.{◌>>=◌}
use Rattle.bpf_asm.specs.Faults.{both, found}
use Rattle.bpf_asm.specs.Forms.{form_of}
use Rattle.bpf_asm.specs.Operands.{Place}
use Rattle.bpf_asm.specs.Statements.{Statement, jump, wide_slots, extension_named, swap_named, one_slot, of_form, line_says}
use Rattle.bpf_asm.proofs.WordsAgain.{short_again, wide_again, register_again, source_again, short_place_again, long_place_again, decimal_8, decimal_16, decimal_32, decimal_64}

-- what a line brings for an instruction
abbrev pub slots_for : Insn → List Insn
slots_for (insn.Wide dst low high) = insn.Wide dst low high ∷ insn.Half ∷ []
slots_for x = x ∷ []

-- a word that can begin a line which is no name
abbrev pub begins : List ℕ → Bool
begins [] = false
begins (b ∷ bs) = not (b == 58)

-- a first word and its form
pub record Begins (word : List ℕ) (f : Form) : Type 0 where
  pub first : begins word ≡ true
  pub named : form_of profile.Two word ≡ Some f
  pub plain : IsPlain word
  pub whole : HasNoBlank word

says_form : (word : List ℕ) (ws : List (List ℕ)) (f : Form) → Begins word f → line_says profile.Two (word ∷ ws) ≡ of_form f ws
says_form [] ws f b = absurd (false≢true b.first)
says_form (c ∷ cs) ws f b = let colon : (c == 58) ≡ false = from_not (c == 58) b.first in rw (colon, b.named) refl
  where
    from_not : (t : Bool) → not t ≡ true → t ≡ false
    from_not true h = absurd (false≢true h)
    from_not false h = refl

pub alu_begins : (w : Width) (op : AluOp) → Begins (operation_name op ++ width_name w) (form.Alu w op)
unfolding form_of
alu_begins width.W32 alu.Add = record { first = refl; named = refl; plain = refl; whole = refl }
alu_begins width.W64 alu.Add = record { first = refl; named = refl; plain = refl; whole = refl }
alu_begins w op = record { first = refl; named = refl; plain = refl; whole = refl }

pub jump_begins : (w : Width) (c : Cond) → Begins (condition_name c ++ width_name w) (form.Jump w c)
unfolding form_of
jump_begins width.W32 condition.Eq = record { first = refl; named = refl; plain = refl; whole = refl }
jump_begins width.W64 condition.Eq = record { first = refl; named = refl; plain = refl; whole = refl }
jump_begins w c = record { first = refl; named = refl; plain = refl; whole = refl }

pub neg_begins : (w : Width) → Begins (codes "neg" ++ width_name w) (form.Neg w)
unfolding form_of
neg_begins width.W32 = record { first = refl; named = refl; plain = refl; whole = refl }
neg_begins width.W64 = record { first = refl; named = refl; plain = refl; whole = refl }

pub mov_begins : (w : Width) → Begins (codes "movsx" ++ width_name w) (form.MovSigned w)
unfolding form_of
mov_begins width.W32 = record { first = refl; named = refl; plain = refl; whole = refl }
mov_begins width.W64 = record { first = refl; named = refl; plain = refl; whole = refl }

pub load_begins : (s : Size) → Begins (load_name s) (form.Load s)
unfolding form_of
load_begins size.B = record { first = refl; named = refl; plain = refl; whole = refl }
load_begins s = record { first = refl; named = refl; plain = refl; whole = refl }

pub signed_load_begins : (s : Size) → s ≢ size.DW → Begins (signed_load_name s) (form.LoadSigned s)
unfolding form_of
signed_load_begins size.B short = record { first = refl; named = refl; plain = refl; whole = refl }
signed_load_begins size.H short = record { first = refl; named = refl; plain = refl; whole = refl }
signed_load_begins size.W short = record { first = refl; named = refl; plain = refl; whole = refl }
signed_load_begins size.DW short = absurd (short refl)

pub swap_begins : (o : Order) → Begins (swap_name o) (form.Swap o)
unfolding form_of
swap_begins order.Little = record { first = refl; named = refl; plain = refl; whole = refl }
swap_begins o = record { first = refl; named = refl; plain = refl; whole = refl }

pub wide_begins : Begins (codes "wide") form.Wide
unfolding form_of
wide_begins = record { first = refl; named = refl; plain = refl; whole = refl }

pub goto_begins : Begins (codes "ja") form.Goto
unfolding form_of
goto_begins = record { first = refl; named = refl; plain = refl; whole = refl }

pub goto_long_begins : Begins (codes "jal") form.GotoLong
unfolding form_of
goto_long_begins = record { first = refl; named = refl; plain = refl; whole = refl }

pub exit_begins : Begins (codes "exit") form.Exit
unfolding form_of
exit_begins = record { first = refl; named = refl; plain = refl; whole = refl }

two_ways : {A B C : Type 0} (f : A → B → C) {a c : A} {b d : B} → a ≡ c → b ≡ d → f a b ≡ f c d
two_ways f p q = rw (p, q) refl

three_ways : {A B C D : Type 0} (f : A → B → C → D) {a d : A} {b e : B} {c g : C} → a ≡ d → b ≡ e → c ≡ g → f a b c ≡ f d e g
three_ways f p q r = rw (p, q, r) refl

-- the halves of the number of 64 bits that they make
halves_again : (dst : ℕ) (low high : ℤ) → FitsSigned w32 low → FitsSigned w32 high → wide_slots dst (wide_number low high) ≡ insn.Wide dst low high ∷ insn.Half ∷ []
halves_again dst low high f g =
    let l : cast_unsigned w32 low < 2 ^ 32 = (Fits-of_z f).fits in
    let h : cast_unsigned w32 high < 2 ^ 32 = (Fits-of_z g).fits in
    let first : wide_number low high % 2 ^ 32 ≡ cast_unsigned w32 low = omega (arith, l, h) in
    let second : wide_number low high / 2 ^ 32 ≡ cast_unsigned w32 high = omega (arith, l, h) in
    two_ways (λ (a b : ℤ). insn.Wide dst a b ∷ insn.Half ∷ [])
    (ap (cast_signed w32) first ∙ to_z-of_z w32 low f) (ap (cast_signed w32) second ∙ to_z-of_z w32 high g)

pub wide_small : (low high : ℤ) → FitsSigned w32 low → FitsSigned w32 high → wide_number low high < 2 ^ 64
wide_small low high f g = omega (arith, (Fits-of_z f).fits, (Fits-of_z g).fits)

extension_again : (w : Width) (bits : ℕ) → is_extended w bits ≡ true → extension_named w (decimal bits) ≡ Some bits
extension_again width.W32 bits e = elim (or_cases (bits == 8) (bits == 16) e) [
  | inl a ↦ subst (λ (n : ℕ). extension_named width.W32 (decimal n) ≡ Some n) (sym (eqb-true bits 8 a)) (ap (extension_named width.W32) decimal_8)
  | inr a ↦ subst (λ (n : ℕ). extension_named width.W32 (decimal n) ≡ Some n) (sym (eqb-true bits 16 a)) (ap (extension_named width.W32) decimal_16)
]
extension_again width.W64 bits e = elim (or_cases ((bits == 8) || (bits == 16)) (bits == 32) e) [
  | inl b ↦ elim (or_cases (bits == 8) (bits == 16) b) [
    | inl a ↦ subst (λ (n : ℕ). extension_named width.W64 (decimal n) ≡ Some n) (sym (eqb-true bits 8 a)) (ap (extension_named width.W64) decimal_8)
    | inr a ↦ subst (λ (n : ℕ). extension_named width.W64 (decimal n) ≡ Some n) (sym (eqb-true bits 16 a)) (ap (extension_named width.W64) decimal_16)
  ]
  | inr a ↦ subst (λ (n : ℕ). extension_named width.W64 (decimal n) ≡ Some n) (sym (eqb-true bits 32 a)) (ap (extension_named width.W64) decimal_32)
]

swap_again : (bits : ℕ) → ((bits == 16) || (bits == 32) || (bits == 64)) ≡ true → swap_named (decimal bits) ≡ Some bits
swap_again bits e = elim (or_cases ((bits == 16) || (bits == 32)) (bits == 64) e) [
  | inl b ↦ elim (or_cases (bits == 16) (bits == 32) b) [
    | inl a ↦ subst (λ (n : ℕ). swap_named (decimal n) ≡ Some n) (sym (eqb-true bits 16 a)) (ap swap_named decimal_16)
    | inr a ↦ subst (λ (n : ℕ). swap_named (decimal n) ≡ Some n) (sym (eqb-true bits 32 a)) (ap swap_named decimal_32)
  ]
  | inr a ↦ subst (λ (n : ℕ). swap_named (decimal n) ≡ Some n) (sym (eqb-true bits 64 a)) (ap swap_named decimal_64)
]

-- the words of an instruction's line say that instruction
pub says_again : (x : Insn) → HasFields x → is_half x ≡ false → line_says profile.Two (words_of x) ≡ Ok (Statement.Code (slots_for x))
unfolding of_form
says_again (insn.Alu w op dst src) f h = says_form _ _ (form.Alu w op) (alu_begins w op)
    ∙ two_ways (λ (a : Result ℕ ℕ) (b : Result Operand ℕ). one_slot (both a b >>= λ r. Ok (insn.Alu w op r.0 r.1))) (register_again dst f.0) (source_again src f.1)
says_again (insn.Neg w dst) f h = says_form _ _ (form.Neg w) (neg_begins w)
    ∙ ap (λ (a : Result ℕ ℕ). one_slot (a >>= λ r. Ok (insn.Neg w r))) (register_again dst f)
says_again (insn.Load s dst src off) f h = says_form _ _ (form.Load s) (load_begins s)
    ∙ three_ways (λ (a b : Result ℕ ℕ) (c : Result ℤ ℕ). one_slot (both (both a b) c >>= λ r. Ok (insn.Load s r.0.0 r.0.1 r.1))) (register_again dst f.0) (register_again src f.1) (short_again off f.2)
says_again (insn.Wide dst low high) f h = says_form _ _ form.Wide wide_begins
    ∙ two_ways (λ (a b : Result ℕ ℕ). both a b >>= λ r. Ok (Statement.Code (wide_slots r.0 r.1))) (register_again dst f.0) (wide_again (wide_number low high) (wide_small low high f.1 f.2))
    ∙ ap (λ (xs : List Insn). Ok (Statement.Code xs)) (halves_again dst low high f.1 f.2)
says_again insn.Half f h = absurd (true≢false h)
says_again (insn.Goto off) f h = says_form _ _ form.Goto goto_begins
    ∙ ap (λ (a : Result Place ℕ). a >>= λ place. Ok (jump (insn.Goto (pos 0)) place)) (short_place_again off f)
says_again (insn.GotoLong off) f h = says_form _ _ form.GotoLong goto_long_begins
    ∙ ap (λ (a : Result Place ℕ). a >>= λ place. Ok (jump (insn.GotoLong (pos 0)) place)) (long_place_again off f)
says_again (insn.Jump w c dst src off) f h = says_form _ _ (form.Jump w c) (jump_begins w c)
    ∙ three_ways (λ (a : Result ℕ ℕ) (b : Result Operand ℕ) (d : Result Place ℕ). both (both a b) d >>= λ r. Ok (jump (insn.Jump w c r.0.0 r.0.1 (pos 0)) r.1))
    (register_again dst f.0) (source_again src f.1) (short_place_again off f.2)
says_again insn.Exit f h = says_form _ _ form.Exit exit_begins
says_again (insn.LoadSigned s dst src off) f h = says_form _ _ (form.LoadSigned s) (signed_load_begins s f.0)
    ∙ three_ways (λ (a b : Result ℕ ℕ) (c : Result ℤ ℕ). one_slot (both (both a b) c >>= λ r. Ok (insn.LoadSigned s r.0.0 r.0.1 r.1))) (register_again dst f.1) (register_again src f.2) (short_again off f.3)
says_again (insn.MovSigned w bits dst src) f h = says_form _ _ (form.MovSigned w) (mov_begins w)
    ∙ three_ways (λ (o : Option ℕ) (a b : Result ℕ ℕ). one_slot (found o (λ n. both a b >>= λ r. Ok (insn.MovSigned w n r.0 r.1)))) (extension_again w bits f.0) (register_again dst f.1) (register_again src f.2)
says_again (insn.Swap o bits dst) f h = says_form _ _ (form.Swap o) (swap_begins o)
    ∙ two_ways (λ (n : Option ℕ) (a : Result ℕ ℕ). one_slot (found n (λ m. a >>= λ r. Ok (insn.Swap o m r)))) (swap_again bits f.0) (register_again dst f.1)

-- What a line says is well formed, form by form.
use Rattle.std.proofs.Common.{◌≡◌, ◌≢◌, ℕ, ℤ, pos, ◌-◌, ◌^◌, ◌<◌, List, [], ◌∷◌, length, take, drop, true, false, ◌&&◌, ◌||◌, ◌==◌, nat_lt, Option, Some, None, Result, Ok, Err, refl, sym, subst, arith, FitsSigned, codes}
use Rattle.std.specs.Int.{w16, w32}
use Rattle.std.specs.Int.{Width as W}
use Rattle.std.proofs.Math.Facts.{sfits_to_z}
use Rattle.std.proofs.lemmas.Bool.{cond_both}
use Rattle.bpf_isa.specs.declared.insn.AluOp.{AluOp}
use Rattle.bpf_isa.specs.declared.insn.Cond.{Cond}
use Rattle.bpf_isa.specs.declared.insn.Insn.{Insn}
use Rattle.bpf_isa.specs.declared.insn.Insn.TheVariants as insn
use Rattle.bpf_isa.specs.declared.insn.Order.{Order}
use Rattle.bpf_isa.specs.declared.insn.Profile.{Profile}
use Rattle.bpf_isa.specs.declared.insn.Profile.TheVariants as profile
use Rattle.bpf_isa.specs.declared.insn.Size.{Size}
use Rattle.bpf_isa.specs.declared.insn.Size.TheVariants as size
use Rattle.bpf_isa.specs.declared.insn.Width.{Width}
use Rattle.bpf_isa.specs.declared.insn.Width.TheVariants as width
use Rattle.bpf_isa.specs.Flow.{is_half, is_wide, jump_offset}
use Rattle.bpf_isa.specs.WellFormed.{HasFields, HasOperand, is_extended, has}
use Rattle.bpf_isa.proofs.Inverse.{old_form}
use Rattle.doc_text.specs.Words.{words, one, two, three, same, ◌>>?◌}
use Rattle.doc_text.specs.Text.{text_in}
use Rattle.bpf_asm.specs.declared.form.Form.{Form}
use Rattle.bpf_asm.specs.declared.form.Form.TheVariants as form
use Rattle.bpf_asm.specs.Assembly.{Line}
use Rattle.bpf_asm.specs.Faults.{both}
use Rattle.bpf_asm.specs.Forms.{form_of, plain_form, further_form, with_width, sized_form, operation_named, condition_named, neg_form, extension_form, width_named, or_else, in_profile_two}
use Rattle.bpf_asm.specs.Operands.{short_in, long_in, wide_in, register_in, source_in, is_name, Place, place_in}
use Rattle.bpf_asm.specs.Statements.{Statement, no_words, with_offset, jump, extension_named, swap_named, registers_in, alu_in, neg_in, load_in, signed_load_in, mov_signed_in, swap_in, exit_in, wide_load_in, goto_in, goto_long_in, jump_in, one_slot, of_form, line_says, or_unfinished, line_in}
use Rattle.bpf_asm.proofs.Sound.{Holds, bind_holds, both_holds, found_holds, short_holds, long_holds, wide_holds, IsRegister, register_holds, source_holds, PlaceFits, place_holds}

-- an instruction of one slot
pub record IsPlain (p : Profile) (x : Insn) : Type 0 where
  pub fields : HasFields x
  pub owned : has p x ≡ true
  pub no_half : is_half x ≡ false
  pub no_wide : is_wide x ≡ false

-- the field of a jump's offset
abbrev pub offset_width : Insn → W
offset_width (insn.GotoLong off) = w32
offset_width x = w16

-- a jump, whatever its offset
pub record IsJump (p : Profile) (x : Insn) : Type 0 where
  pub plain : (off : ℤ) → FitsSigned (offset_width x) off → IsPlain p (with_offset x off)
  pub leads : (off : ℤ) → jump_offset (with_offset x off) ≡ Some off
  pub no_half : is_half x ≡ false
  pub no_wide : is_wide x ≡ false

abbrev pub GoodCode : Profile → List Insn → Type 0
GoodCode p [] = ⊥
GoodCode p (x ∷ []) = IsPlain p x
GoodCode p (x ∷ y ∷ []) = (is_wide x ≡ true) × (is_half y ≡ true) × HasFields x × (has p x ≡ true)
GoodCode p (x ∷ y ∷ z ∷ xs) = ⊥

abbrev pub GoodStatement : Profile → Statement → Type 0
GoodStatement p (Statement.Name name) = Unit {0}
GoodStatement p (Statement.Code code) = GoodCode p code
GoodStatement p (Statement.JumpTo x name) = IsJump p x

abbrev pub GoodLine : Profile → Line → Type 0
GoodLine p l = Holds (GoodStatement p) l

two_registers : (dst src : List ℕ) → Holds (λ r. IsRegister r.0 × IsRegister r.1) (registers_in dst src)
two_registers dst src = both_holds IsRegister IsRegister (register_in dst) (register_in src) (register_holds dst) (register_holds src)

plain : (p : Profile) (x : Insn) → HasFields x → has profile.One x ≡ true → is_half x ≡ false → is_wide x ≡ false → IsPlain p x
plain p x fields owned no_half no_wide = record { fields = fields; owned = old_form p x owned; no_half = no_half; no_wide = no_wide }

further : (x : Insn) → HasFields x → is_half x ≡ false → is_wide x ≡ false → has profile.Two x ≡ true → IsPlain profile.Two x
further x fields no_half no_wide owned = record { fields = fields; owned = owned; no_half = no_half; no_wide = no_wide }

alu_holds : (p : Profile) (w : Width) (op : AluOp) (ws : List (List ℕ)) → Holds (IsPlain p) (alu_in w op ws)
alu_holds p w op ws = found_holds (IsPlain p) (two ws) _ (λ a _. bind_holds (λ r. IsRegister r.0 × HasOperand r.1) (IsPlain p) (both (register_in a.0) (source_in a.1)) _
    (both_holds IsRegister HasOperand (register_in a.0) (source_in a.1) (register_holds a.0) (source_holds a.1)) (λ r h. plain p (insn.Alu w op r.0 r.1) (h.0, h.1) refl refl refl))

neg_holds : (p : Profile) (w : Width) (ws : List (List ℕ)) → Holds (IsPlain p) (neg_in w ws)
neg_holds p w ws = found_holds (IsPlain p) (one ws) _ (λ a _. bind_holds IsRegister (IsPlain p) (register_in a) _ (register_holds a) (λ dst h. plain p (insn.Neg w dst) h refl refl refl))

load_holds : (p : Profile) (s : Size) (ws : List (List ℕ)) → Holds (IsPlain p) (load_in s ws)
load_holds p s ws = found_holds (IsPlain p) (three ws) _ (λ a _. bind_holds (λ r. (IsRegister r.0.0 × IsRegister r.0.1) × FitsSigned w16 r.1) (IsPlain p) (both (registers_in a.0 a.1) (short_in a.2)) _
    (both_holds (λ r. IsRegister r.0 × IsRegister r.1) (FitsSigned w16) (registers_in a.0 a.1) (short_in a.2) (two_registers a.0 a.1) (short_holds a.2))
    (λ r h. plain p (insn.Load s r.0.0 r.0.1 r.1) (h.0.0, h.0.1, h.1) refl refl refl))

signed_load_holds : (s : Size) (ws : List (List ℕ)) → s ≢ size.DW → Holds (IsPlain profile.Two) (signed_load_in s ws)
signed_load_holds s ws short = found_holds (IsPlain profile.Two) (three ws) _ (λ a _. bind_holds (λ r. (IsRegister r.0.0 × IsRegister r.0.1) × FitsSigned w16 r.1) (IsPlain profile.Two) (both (registers_in a.0 a.1) (short_in a.2)) _
    (both_holds (λ r. IsRegister r.0 × IsRegister r.1) (FitsSigned w16) (registers_in a.0 a.1) (short_in a.2) (two_registers a.0 a.1) (short_holds a.2))
    (λ r h. further (insn.LoadSigned s r.0.0 r.0.1 r.1) (short, h.0.0, h.0.1, h.1) refl refl refl))

abbrev OptionHolds : (ℕ → Type 0) → Option ℕ → Type 0
OptionHolds P None = Unit {0}
OptionHolds P (Some n) = P n

extension_holds : (w : Width) (word : List ℕ) → OptionHolds (λ n. is_extended w n ≡ true) (extension_named w word)
extension_holds width.W32 word =
    cond_both (same word (codes "8")) _ _ (OptionHolds (λ n. is_extended width.W32 n ≡ true)) (λ _. refl) (λ _.
    cond_both (same word (codes "16")) _ _ (OptionHolds (λ n. is_extended width.W32 n ≡ true)) (λ _. refl) (λ _. tt))
extension_holds width.W64 word =
    cond_both (same word (codes "8")) _ _ (OptionHolds (λ n. is_extended width.W64 n ≡ true)) (λ _. refl) (λ _.
    cond_both (same word (codes "16")) _ _ (OptionHolds (λ n. is_extended width.W64 n ≡ true)) (λ _. refl) (λ _.
    cond_both (same word (codes "32")) _ _ (OptionHolds (λ n. is_extended width.W64 n ≡ true)) (λ _. refl) (λ _. tt)))

abbrev IsSwapWidth : ℕ → Type 0
IsSwapWidth n = ((n == 16) || (n == 32) || (n == 64)) ≡ true

swap_width_holds : (word : List ℕ) → OptionHolds IsSwapWidth (swap_named word)
swap_width_holds word =
    cond_both (same word (codes "16")) _ _ (OptionHolds IsSwapWidth) (λ _. refl) (λ _.
    cond_both (same word (codes "32")) _ _ (OptionHolds IsSwapWidth) (λ _. refl) (λ _.
    cond_both (same word (codes "64")) _ _ (OptionHolds IsSwapWidth) (λ _. refl) (λ _. tt)))

mov_signed_holds : (w : Width) (ws : List (List ℕ)) → Holds (IsPlain profile.Two) (mov_signed_in w ws)
mov_signed_holds w ws = found_holds (IsPlain profile.Two) (three ws) _ (λ a _. found_holds (IsPlain profile.Two) (extension_named w a.0) _ (λ bits e.
    bind_holds (λ r. IsRegister r.0 × IsRegister r.1) (IsPlain profile.Two) (registers_in a.1 a.2) _ (two_registers a.1 a.2)
    (λ r h. further (insn.MovSigned w bits r.0 r.1) (subst (OptionHolds (λ n. is_extended w n ≡ true)) e (extension_holds w a.0), h.0, h.1) refl refl refl)))

swap_holds : (o : Order) (ws : List (List ℕ)) → Holds (IsPlain profile.Two) (swap_in o ws)
swap_holds o ws = found_holds (IsPlain profile.Two) (two ws) _ (λ a _. found_holds (IsPlain profile.Two) (swap_named a.0) _ (λ bits e.
    bind_holds IsRegister (IsPlain profile.Two) (register_in a.1) _ (register_holds a.1)
    (λ dst h. further (insn.Swap o bits dst) (subst (OptionHolds IsSwapWidth) e (swap_width_holds a.0), h) refl refl refl)))

exit_holds : (p : Profile) (ws : List (List ℕ)) → Holds (IsPlain p) (exit_in ws)
exit_holds p ws = cond_both (no_words ws) _ _ (Holds (IsPlain p)) (λ _. plain p insn.Exit tt refl refl refl) (λ _. tt)

wide_load_holds : (p : Profile) (ws : List (List ℕ)) → Holds (GoodStatement p) (wide_load_in ws)
wide_load_holds p ws = found_holds (GoodStatement p) (two ws) _ (λ a _. bind_holds (λ r. IsRegister r.0 × (r.1 < 2 ^ 64)) (GoodStatement p) (both (register_in a.0) (wide_in a.1)) _
    (both_holds IsRegister (λ n. n < 2 ^ 64) (register_in a.0) (wide_in a.1) (register_holds a.0) (wide_holds a.1))
    (λ r h. (refl, refl, (h.0, sfits_to_z (record { fits = omega arith }), sfits_to_z (record { fits = omega (arith, h.1) })), old_form p _ refl)))

goto_is_jump : (p : Profile) (off : ℤ) → IsJump p (insn.Goto off)
goto_is_jump p off = record { plain = λ to h. plain p (insn.Goto to) h refl refl refl; leads = λ to. refl; no_half = refl; no_wide = refl }

long_is_jump : (p : Profile) (off : ℤ) → IsJump p (insn.GotoLong off)
long_is_jump p off = record { plain = λ to h. plain p (insn.GotoLong to) h refl refl refl; leads = λ to. refl; no_half = refl; no_wide = refl }

place_good : (p : Profile) (x : Insn) (place : Place) → IsJump p x → PlaceFits (FitsSigned (offset_width x)) place → GoodStatement p (jump x place)
place_good p x (Place.By off) j h = j.plain off h
place_good p x (Place.To name) j h = j

goto_holds : (p : Profile) (ws : List (List ℕ)) → Holds (GoodStatement p) (goto_in ws)
goto_holds p ws = found_holds (GoodStatement p) (one ws) _ (λ a _. bind_holds (PlaceFits (FitsSigned w16)) (GoodStatement p) (place_in short_in a) _ (place_holds (FitsSigned w16) short_in a short_holds)
    (λ place h. place_good p (insn.Goto (pos 0)) place (goto_is_jump p (pos 0)) h))

goto_long_holds : (p : Profile) (ws : List (List ℕ)) → Holds (GoodStatement p) (goto_long_in ws)
goto_long_holds p ws = found_holds (GoodStatement p) (one ws) _ (λ a _. bind_holds (PlaceFits (FitsSigned w32)) (GoodStatement p) (place_in long_in a) _ (place_holds (FitsSigned w32) long_in a long_holds)
    (λ place h. place_good p (insn.GotoLong (pos 0)) place (long_is_jump p (pos 0)) h))

jump_holds : (p : Profile) (w : Width) (c : Cond) (ws : List (List ℕ)) → Holds (GoodStatement p) (jump_in w c ws)
jump_holds p w c ws = found_holds (GoodStatement p) (three ws) _ (λ a _.
    bind_holds (λ r. (IsRegister r.0.0 × HasOperand r.0.1) × PlaceFits (FitsSigned w16) r.1) (GoodStatement p) (both (both (register_in a.0) (source_in a.1)) (place_in short_in a.2)) _
    (both_holds (λ r. IsRegister r.0 × HasOperand r.1) (PlaceFits (FitsSigned w16)) (both (register_in a.0) (source_in a.1)) (place_in short_in a.2)
    (both_holds IsRegister HasOperand (register_in a.0) (source_in a.1) (register_holds a.0) (source_holds a.1)) (place_holds (FitsSigned w16) short_in a.2 short_holds))
    (λ r h. place_good p (insn.Jump w c r.0.0 r.0.1 (pos 0)) r.1
    (record { plain = λ to f. plain p (insn.Jump w c r.0.0 r.0.1 to) (h.0.0, h.0.1, f) refl refl refl; leads = λ to. refl; no_half = refl; no_wide = refl }) h.1))

one_slot_holds : (p : Profile) (read : Result Insn ℕ) → Holds (IsPlain p) read → Holds (GoodStatement p) (one_slot read)
one_slot_holds p (Ok x) h = h
one_slot_holds p (Err e) h = tt

-- the forms that a profile has
abbrev HasForm : Profile → Form → Type 0
HasForm p (form.LoadSigned s) = (p ≡ profile.Two) × (s ≢ size.DW)
HasForm p (form.MovSigned w) = p ≡ profile.Two
HasForm p (form.Swap o) = p ≡ profile.Two
HasForm p f = Unit {0}

form_holds : (p : Profile) (f : Form) (ws : List (List ℕ)) → HasForm p f → Holds (GoodStatement p) (of_form f ws)
unfolding of_form
form_holds p (form.Alu w op) ws h = one_slot_holds p (alu_in w op ws) (alu_holds p w op ws)
form_holds p (form.Neg w) ws h = one_slot_holds p (neg_in w ws) (neg_holds p w ws)
form_holds p (form.Load s) ws h = one_slot_holds p (load_in s ws) (load_holds p s ws)
form_holds p form.Wide ws h = wide_load_holds p ws
form_holds p form.Goto ws h = goto_holds p ws
form_holds p form.GotoLong ws h = goto_long_holds p ws
form_holds p (form.Jump w c) ws h = jump_holds p w c ws
form_holds p form.Exit ws h = one_slot_holds p (exit_in ws) (exit_holds p ws)
form_holds p (form.LoadSigned s) ws h = subst (λ (q : Profile). Holds (GoodStatement q) (one_slot (signed_load_in s ws))) (sym h.0) (one_slot_holds profile.Two (signed_load_in s ws) (signed_load_holds s ws h.1))
form_holds p (form.MovSigned w) ws h = subst (λ (q : Profile). Holds (GoodStatement q) (one_slot (mov_signed_in w ws))) (sym h) (one_slot_holds profile.Two (mov_signed_in w ws) (mov_signed_holds w ws))
form_holds p (form.Swap o) ws h = subst (λ (q : Profile). Holds (GoodStatement q) (one_slot (swap_in o ws))) (sym h) (one_slot_holds profile.Two (swap_in o ws) (swap_holds o ws))

abbrev FormHolds : Profile → Option Form → Type 0
FormHolds p None = Unit {0}
FormHolds p (Some f) = HasForm p f

or_else_holds : (p : Profile) (a b : Option Form) → FormHolds p a → FormHolds p b → FormHolds p (or_else a b)
or_else_holds p None b h k = k
or_else_holds p (Some f) b h k = h

then_holds : {A : Type 0} (p : Profile) (o : Option A) (f : A → Option Form) → ((x : A) → FormHolds p (f x)) → FormHolds p (o >>? f)
then_holds p None f h = tt
then_holds p (Some x) f h = h x

plain_form_holds : (p : Profile) (word : List ℕ) → FormHolds p (plain_form word)
plain_form_holds p word =
    cond_both (same word (codes "exit")) _ _ (FormHolds p) (λ _. tt) (λ _.
    cond_both (same word (codes "ja")) _ _ (FormHolds p) (λ _. tt) (λ _.
    cond_both (same word (codes "jal")) _ _ (FormHolds p) (λ _. tt) (λ _.
    cond_both (same word (codes "wide")) _ _ (FormHolds p) (λ _. tt) (λ _.
    cond_both (same word (codes "ldb")) _ _ (FormHolds p) (λ _. tt) (λ _.
    cond_both (same word (codes "ldh")) _ _ (FormHolds p) (λ _. tt) (λ _.
    cond_both (same word (codes "ldw")) _ _ (FormHolds p) (λ _. tt) (λ _.
    cond_both (same word (codes "lddw")) _ _ (FormHolds p) (λ _. tt) (λ _. tt))))))))

further_form_holds : (word : List ℕ) → FormHolds profile.Two (further_form word)
further_form_holds word =
    cond_both (same word (codes "ldsb")) _ _ (FormHolds profile.Two) (λ _. (refl, λ e. absurd (cc))) (λ _.
    cond_both (same word (codes "ldsh")) _ _ (FormHolds profile.Two) (λ _. (refl, λ e. absurd (cc))) (λ _.
    cond_both (same word (codes "ldsw")) _ _ (FormHolds profile.Two) (λ _. (refl, λ e. absurd (cc))) (λ _.
    cond_both (same word (codes "le")) _ _ (FormHolds profile.Two) (λ _. refl) (λ _.
    cond_both (same word (codes "be")) _ _ (FormHolds profile.Two) (λ _. refl) (λ _.
    cond_both (same word (codes "swap")) _ _ (FormHolds profile.Two) (λ _. refl) (λ _. tt))))))

two_holds : (p : Profile) (o : Option Form) → FormHolds profile.Two o → FormHolds p (in_profile_two p o)
two_holds profile.One o h = tt
two_holds profile.Two o h = h

neg_form_holds : (p : Profile) (name : List ℕ) (w : Width) → FormHolds p (neg_form name w)
neg_form_holds p name w = cond_both (same name (codes "neg")) _ _ (FormHolds p) (λ _. tt) (λ _. tt)

extension_form_holds : (name : List ℕ) (w : Width) → FormHolds profile.Two (extension_form name w)
extension_form_holds name w = cond_both (same name (codes "movsx")) _ _ (FormHolds profile.Two) (λ _. refl) (λ _. tt)

sized_form_holds : (p : Profile) (name : List ℕ) (w : Width) → FormHolds p (sized_form p name w)
sized_form_holds p name w =
    or_else_holds p (operation_named name >>? λ op. Some (form.Alu w op)) _ (then_holds p (operation_named name) (λ op. Some (form.Alu w op)) (λ op. tt))
    (or_else_holds p (condition_named name >>? λ c. Some (form.Jump w c)) _ (then_holds p (condition_named name) (λ c. Some (form.Jump w c)) (λ c. tt))
    (or_else_holds p (neg_form name w) _ (neg_form_holds p name w) (two_holds p (extension_form name w) (extension_form_holds name w))))

with_width_holds : (p : Profile) (word : List ℕ) → FormHolds p (with_width p word)
with_width_holds p word =
    cond_both (nat_lt (length word) 2) _ _ (FormHolds p) (λ _. tt) (λ _.
    then_holds p (width_named (drop (length word - 2) word)) (λ w. sized_form p (take (length word - 2) word) w) (λ w. sized_form_holds p (take (length word - 2) word) w))

form_of_holds : (p : Profile) (word : List ℕ) → FormHolds p (form_of p word)
unfolding form_of
form_of_holds p word = or_else_holds p (plain_form word) _ (plain_form_holds p word) (or_else_holds p (with_width p word) _ (with_width_holds p word) (two_holds p (further_form word) (further_form_holds word)))

says_holds : (p : Profile) (ws : List (List ℕ)) → GoodLine p (line_says p ws)
says_holds p [] = tt
says_holds p ([] ∷ ws) = tt
says_holds p ((b ∷ bs) ∷ ws) =
    cond_both (b == 58) _ _ (GoodLine p)
    (λ _. cond_both (no_words ws && is_name bs) _ _ (GoodLine p) (λ _. tt) (λ _. tt))
    (λ _. found_holds (GoodStatement p) (form_of p (b ∷ bs)) (λ f. of_form f ws) (λ f e. form_holds p f ws (subst (FormHolds p) e (form_of_holds p (b ∷ bs)))))

any_holds : {A : Type 0} (m : Result A ℕ) → Holds (λ _. Unit {0}) m
any_holds (Ok x) = tt
any_holds (Err e) = tt

-- what a line says is well formed
pub line_holds : (p : Profile) (piece : List ℕ) → GoodLine p (line_in p piece)
unfolding line_in
line_holds p piece = bind_holds (λ _. Unit {0}) (GoodStatement p) (or_unfinished (text_in piece)) (λ text. line_says p (words text)) (any_holds (or_unfinished (text_in piece))) (λ text _. says_holds p (words text))

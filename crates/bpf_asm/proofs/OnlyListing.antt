-- A text without names that stands for instructions is their listing.
use Rattle.std.proofs.Common.{◌≡◌, ℕ, pos, ◌+◌, ◌*◌, ◌/◌, ◌%◌, ◌^◌, ◌<◌, List, [], ◌∷◌, ◌++◌, length, map, ◌&&◌, ◌==◌, nat_le, Option, Some, None, Result, Ok, Err, refl, sym, ap, ◌∙◌, subst, arith, codes}
use Rattle.std.specs.Int.{w32, cast_signed, cast_unsigned}
use Rattle.std.specs.Fmt.{decimal, signed_decimal}
use Rattle.std.specs.List.{flat_map, AllByRecursion}
use Rattle.std.proofs.lemmas.Bool.{cond_both}
use Rattle.std.proofs.lemmas.Int.{of_z-to_z}
use Rattle.std.proofs.lemmas.List.{append-nil}
use Rattle.std.proofs.lemmas.Grind.{flat_map-append}
use Rattle.std.proofs.lemmas.Option.{none-some, same_Some}
use Rattle.bpf_isa.specs.declared.insn.AluOp.{AluOp}
use Rattle.bpf_isa.specs.declared.insn.Cond.{Cond}
use Rattle.bpf_isa.specs.declared.insn.Insn.{Insn}
use Rattle.bpf_isa.specs.declared.insn.Insn.TheVariants as insn
use Rattle.bpf_isa.specs.declared.insn.Operand.{Operand}
use Rattle.bpf_isa.specs.declared.insn.Order.{Order}
use Rattle.bpf_isa.specs.declared.insn.Profile.{Profile}
use Rattle.bpf_isa.specs.declared.insn.Size.{Size}
use Rattle.bpf_isa.specs.declared.insn.Width.{Width}
use Rattle.doc_text.specs.Text.{text_in, ended, pieces}
use Rattle.doc_text.specs.Words.{words, spaced, one, two, three}
use Rattle.doc_text.proofs.Joining.{text_in-some, spaced-words, joined, joined-pieces}
use Rattle.bpf_asm.specs.declared.error.AsmError.{AsmError}
use Rattle.bpf_asm.specs.declared.form.Form.{Form}
use Rattle.bpf_asm.specs.declared.form.Form.TheVariants as form
use Rattle.bpf_asm.specs.Assembly.{Line, layout, into_half, first_offset, code_at, slots_in, in_front, followed, slots_from, some_slots, lines_in, assembly}
use Rattle.bpf_asm.specs.Disassembly.{register_text, source_text, wide_number, words_of, line_text, disassembly}
use Rattle.bpf_isa.specs.Checks.{◌>>=◌}
use Rattle.bpf_asm.specs.Faults.{both}
use Rattle.bpf_asm.specs.Forms.{form_of}
use Rattle.bpf_asm.specs.Operands.{short_in, long_in, wide_in, register_in, source_in, is_name, Place, place_in}
use Rattle.bpf_asm.specs.Plain.{HasNoName, HasNoNames}
use Rattle.bpf_asm.specs.Statements.{Statement, no_words, jump, extension_named, swap_named, registers_in, alu_in, neg_in, load_in, signed_load_in, mov_signed_in, swap_in, exit_in, wide_load_in, goto_in, goto_long_in, jump_in, one_slot, of_form, line_says, or_unfinished, line_in}
use Rattle.bpf_asm.proofs.Sound.{Holds, bind_holds, both_holds, found_holds, wide_holds}
use Rattle.bpf_asm.proofs.Spelled.{Spells, short_spelled, long_spelled, wide_spelled, register_spelled, source_spelled, PlaceSpells, place_spelled, Names, extension_spelled, swap_spelled, form_name, form_spelled}

-- the words are those of an instruction
abbrev Writes : List (List ℕ) → Insn → Type 0
Writes ws x = ws ≡ words_of x

one_is : (ws : List (List ℕ)) (a : List ℕ) → one ws ≡ Some a → ws ≡ a ∷ []
one_is [] a e = absurd (none-some a e)
one_is (x ∷ []) a e = ap (λ (w : List ℕ). w ∷ []) (same_Some x a e)
one_is (x ∷ y ∷ ws) a e = absurd (none-some a e)

two_is : (ws : List (List ℕ)) (a : List ℕ × List ℕ) → two ws ≡ Some a → ws ≡ a.0 ∷ a.1 ∷ []
two_is [] a e = absurd (none-some a e)
two_is (x ∷ []) a e = absurd (none-some a e)
two_is (x ∷ y ∷ []) a e = ap (λ (r : List ℕ × List ℕ). r.0 ∷ r.1 ∷ []) (same_Some (x, y) a e)
two_is (x ∷ y ∷ z ∷ ws) a e = absurd (none-some a e)

three_is : (ws : List (List ℕ)) (a : List ℕ × List ℕ × List ℕ) → three ws ≡ Some a → ws ≡ a.0 ∷ a.1 ∷ a.2 ∷ []
three_is [] a e = absurd (none-some a e)
three_is (x ∷ []) a e = absurd (none-some a e)
three_is (x ∷ y ∷ []) a e = absurd (none-some a e)
three_is (x ∷ y ∷ z ∷ []) a e = ap (λ (r : List ℕ × List ℕ × List ℕ). r.0 ∷ r.1 ∷ r.2 ∷ []) (same_Some (x, y, z) a e)
three_is (x ∷ y ∷ z ∷ v ∷ ws) a e = absurd (none-some a e)

row_1 : {word name a b : List ℕ} {ws : List (List ℕ)} → word ≡ name → ws ≡ a ∷ [] → a ≡ b → word ∷ ws ≡ name ∷ b ∷ []
row_1 p q r = rw (p, q, r) refl

row_2 : {word name a b c d : List ℕ} {ws : List (List ℕ)} → word ≡ name → ws ≡ a ∷ c ∷ [] → a ≡ b → c ≡ d → word ∷ ws ≡ name ∷ b ∷ d ∷ []
row_2 p q r s = rw (p, q, r, s) refl

row_3 : {word name a b c d e f : List ℕ} {ws : List (List ℕ)} → word ≡ name → ws ≡ a ∷ c ∷ e ∷ [] → a ≡ b → c ≡ d → e ≡ f → word ∷ ws ≡ name ∷ b ∷ d ∷ f ∷ []
row_3 p q r s t = rw (p, q, r, s, t) refl

two_registers : (dst src : List ℕ) → Holds (λ r. Spells register_text dst r.0 × Spells register_text src r.1) (registers_in dst src)
two_registers dst src = both_holds (Spells register_text dst) (Spells register_text src) (register_in dst) (register_in src) (register_spelled dst) (register_spelled src)

alu_written : (word : List ℕ) (w : Width) (op : AluOp) (ws : List (List ℕ)) → word ≡ form_name (form.Alu w op) → Holds (Writes (word ∷ ws)) (alu_in w op ws)
alu_written word w op ws n = found_holds (Writes (word ∷ ws)) (two ws) _ (λ a e.
    bind_holds (λ r. Spells register_text a.0 r.0 × Spells source_text a.1 r.1) (Writes (word ∷ ws)) (both (register_in a.0) (source_in a.1)) _
    (both_holds (Spells register_text a.0) (Spells source_text a.1) (register_in a.0) (source_in a.1) (register_spelled a.0) (source_spelled a.1)) (λ r h. row_2 n (two_is ws a e) h.0 h.1))

neg_written : (word : List ℕ) (w : Width) (ws : List (List ℕ)) → word ≡ form_name (form.Neg w) → Holds (Writes (word ∷ ws)) (neg_in w ws)
neg_written word w ws n = found_holds (Writes (word ∷ ws)) (one ws) _ (λ a e. bind_holds (Spells register_text a) (Writes (word ∷ ws)) (register_in a) _ (register_spelled a) (λ r h. row_1 n (one_is ws a e) h))

load_written : (word : List ℕ) (s : Size) (ws : List (List ℕ)) → word ≡ form_name (form.Load s) → Holds (Writes (word ∷ ws)) (load_in s ws)
load_written word s ws n = found_holds (Writes (word ∷ ws)) (three ws) _ (λ a e.
    bind_holds (λ r. (Spells register_text a.0 r.0.0 × Spells register_text a.1 r.0.1) × Spells signed_decimal a.2 r.1) (Writes (word ∷ ws)) (both (registers_in a.0 a.1) (short_in a.2)) _
    (both_holds (λ r. Spells register_text a.0 r.0 × Spells register_text a.1 r.1) (Spells signed_decimal a.2) (registers_in a.0 a.1) (short_in a.2) (two_registers a.0 a.1) (short_spelled a.2))
    (λ r h. row_3 n (three_is ws a e) h.0.0 h.0.1 h.1))

signed_load_written : (word : List ℕ) (s : Size) (ws : List (List ℕ)) → word ≡ form_name (form.LoadSigned s) → Holds (Writes (word ∷ ws)) (signed_load_in s ws)
signed_load_written word s ws n = found_holds (Writes (word ∷ ws)) (three ws) _ (λ a e.
    bind_holds (λ r. (Spells register_text a.0 r.0.0 × Spells register_text a.1 r.0.1) × Spells signed_decimal a.2 r.1) (Writes (word ∷ ws)) (both (registers_in a.0 a.1) (short_in a.2)) _
    (both_holds (λ r. Spells register_text a.0 r.0 × Spells register_text a.1 r.1) (Spells signed_decimal a.2) (registers_in a.0 a.1) (short_in a.2) (two_registers a.0 a.1) (short_spelled a.2))
    (λ r h. row_3 n (three_is ws a e) h.0.0 h.0.1 h.1))

mov_signed_written : (word : List ℕ) (w : Width) (ws : List (List ℕ)) → word ≡ form_name (form.MovSigned w) → Holds (Writes (word ∷ ws)) (mov_signed_in w ws)
mov_signed_written word w ws n = found_holds (Writes (word ∷ ws)) (three ws) _ (λ a e. found_holds (Writes (word ∷ ws)) (extension_named w a.0) _ (λ bits f.
    bind_holds (λ r. Spells register_text a.1 r.0 × Spells register_text a.2 r.1) (Writes (word ∷ ws)) (registers_in a.1 a.2) _ (two_registers a.1 a.2)
    (λ r h. row_3 n (three_is ws a e) (subst (Names decimal a.0) f (extension_spelled w a.0)) h.0 h.1)))

swap_written : (word : List ℕ) (o : Order) (ws : List (List ℕ)) → word ≡ form_name (form.Swap o) → Holds (Writes (word ∷ ws)) (swap_in o ws)
swap_written word o ws n = found_holds (Writes (word ∷ ws)) (two ws) _ (λ a e. found_holds (Writes (word ∷ ws)) (swap_named a.0) _ (λ bits f.
    bind_holds (Spells register_text a.1) (Writes (word ∷ ws)) (register_in a.1) _ (register_spelled a.1)
    (λ r h. row_2 n (two_is ws a e) (subst (Names decimal a.0) f (swap_spelled a.0)) h)))

exit_written : (word : List ℕ) (ws : List (List ℕ)) → word ≡ codes "exit" → Holds (Writes (word ∷ ws)) (exit_in ws)
exit_written word [] n = ap (λ (w : List ℕ). w ∷ []) n
exit_written word (w ∷ ws) n = tt

-- the words are those of the code's line
abbrev WritesStatement : List (List ℕ) → Statement → Type 0
WritesStatement ws (Statement.Name name) = Unit {0}
WritesStatement ws (Statement.Code code) = flat_map line_text code ≡ ended (spaced ws)
WritesStatement ws (Statement.JumpTo x name) = Unit {0}

-- the line of one instruction that is no second half
line_written : (ws : List (List ℕ)) (x : Insn) → 0 < length ws → Writes ws x → WritesStatement ws (Statement.Code (x ∷ []))
line_written ws insn.Half some h = absurd (omega (arith, some, ap length h))
line_written ws x some h = append-nil (line_text x) ∙ ap (λ (vs : List (List ℕ)). ended (spaced vs)) (sym h)

one_slot_written : (word : List ℕ) (ws : List (List ℕ)) (read : Result Insn ℕ) → Holds (Writes (word ∷ ws)) read → Holds (WritesStatement (word ∷ ws)) (one_slot read)
one_slot_written word ws (Ok x) h = line_written (word ∷ ws) x (omega arith) h
one_slot_written word ws (Err e) h = tt

wide_number_again : (n : ℕ) → n < 2 ^ 64 → wide_number (cast_signed w32 (n % 2 ^ 32)) (cast_signed w32 (n / 2 ^ 32)) ≡ n
wide_number_again n small =
    let low = of_z-to_z w32 (n % 2 ^ 32) (omega arith) in
    let high = of_z-to_z w32 (n / 2 ^ 32) (omega (arith, small)) in
    ap (λ (h : ℕ). h * 2 ^ 32 + cast_unsigned w32 (cast_signed w32 (n % 2 ^ 32))) high ∙ ap (λ (l : ℕ). n / 2 ^ 32 * 2 ^ 32 + l) low ∙ omega arith

wide_load_written : (word : List ℕ) (ws : List (List ℕ)) → word ≡ codes "wide" → Holds (WritesStatement (word ∷ ws)) (wide_load_in ws)
wide_load_written word ws n = found_holds (WritesStatement (word ∷ ws)) (two ws) _ (λ a e.
    bind_holds (λ r. Spells register_text a.0 r.0 × (Spells decimal a.1 r.1 × (r.1 < 2 ^ 64))) (WritesStatement (word ∷ ws)) (both (register_in a.0) (wide_in a.1)) _
    (both_holds (Spells register_text a.0) (λ m. Spells decimal a.1 m × (m < 2 ^ 64)) (register_in a.0) (wide_in a.1) (register_spelled a.0) (both_facts (Spells decimal a.1) (λ m. m < 2 ^ 64) (wide_in a.1) (wide_spelled a.1) (wide_holds a.1)))
    (λ r h. append-nil (line_text (insn.Wide r.0 (cast_signed w32 (r.1 % 2 ^ 32)) (cast_signed w32 (r.1 / 2 ^ 32))))
    ∙ ap (λ (vs : List (List ℕ)). ended (spaced vs)) (sym (row_2 n (two_is ws a e) h.0 (h.1.0 ∙ ap decimal (sym (wide_number_again r.1 h.1.1)))))))
  where
    both_facts : (P Q : ℕ → Type 0) (m : Result ℕ ℕ) → Holds P m → Holds Q m → Holds (λ k. P k × Q k) m
    both_facts P Q (Ok k) h g = (h, g)
    both_facts P Q (Err e) h g = tt

goto_written : (word : List ℕ) (ws : List (List ℕ)) → word ≡ codes "ja" → Holds (WritesStatement (word ∷ ws)) (goto_in ws)
goto_written word ws n = found_holds (WritesStatement (word ∷ ws)) (one ws) _ (λ a e. bind_holds (PlaceSpells a) (WritesStatement (word ∷ ws)) (place_in short_in a) _ (place_spelled short_in a short_spelled) (by a e))
  where
    by : (a : List ℕ) → one ws ≡ Some a → (place : Place) → PlaceSpells a place → WritesStatement (word ∷ ws) (jump (insn.Goto (pos 0)) place)
    by a e (Place.By off) h = line_written (word ∷ ws) (insn.Goto off) (omega arith) (row_1 n (one_is ws a e) h)
    by a e (Place.To name) h = tt

goto_long_written : (word : List ℕ) (ws : List (List ℕ)) → word ≡ codes "jal" → Holds (WritesStatement (word ∷ ws)) (goto_long_in ws)
goto_long_written word ws n = found_holds (WritesStatement (word ∷ ws)) (one ws) _ (λ a e. bind_holds (PlaceSpells a) (WritesStatement (word ∷ ws)) (place_in long_in a) _ (place_spelled long_in a long_spelled) (by a e))
  where
    by : (a : List ℕ) → one ws ≡ Some a → (place : Place) → PlaceSpells a place → WritesStatement (word ∷ ws) (jump (insn.GotoLong (pos 0)) place)
    by a e (Place.By off) h = line_written (word ∷ ws) (insn.GotoLong off) (omega arith) (row_1 n (one_is ws a e) h)
    by a e (Place.To name) h = tt

jump_written : (word : List ℕ) (w : Width) (c : Cond) (ws : List (List ℕ)) → word ≡ form_name (form.Jump w c) → Holds (WritesStatement (word ∷ ws)) (jump_in w c ws)
jump_written word w c ws n = found_holds (WritesStatement (word ∷ ws)) (three ws) _ (λ a e.
    bind_holds (λ r. (Spells register_text a.0 r.0.0 × Spells source_text a.1 r.0.1) × PlaceSpells a.2 r.1) (WritesStatement (word ∷ ws)) (both (both (register_in a.0) (source_in a.1)) (place_in short_in a.2)) _
    (both_holds (λ r. Spells register_text a.0 r.0 × Spells source_text a.1 r.1) (PlaceSpells a.2) (both (register_in a.0) (source_in a.1)) (place_in short_in a.2)
    (both_holds (Spells register_text a.0) (Spells source_text a.1) (register_in a.0) (source_in a.1) (register_spelled a.0) (source_spelled a.1)) (place_spelled short_in a.2 short_spelled))
    (λ r h. by a e r.0.0 r.0.1 r.1 h.0.0 h.0.1 h.1))
  where
    by : (a : List ℕ × List ℕ × List ℕ) → three ws ≡ Some a → (dst : ℕ) (src : Operand) (place : Place) → Spells register_text a.0 dst → Spells source_text a.1 src → PlaceSpells a.2 place
        → WritesStatement (word ∷ ws) (jump (insn.Jump w c dst src (pos 0)) place)
    by a e dst src (Place.By off) d s h = line_written (word ∷ ws) (insn.Jump w c dst src off) (omega arith) (row_3 n (three_is ws a e) d s h)
    by a e dst src (Place.To name) d s h = tt

form_written : (word : List ℕ) (f : Form) (ws : List (List ℕ)) → word ≡ form_name f → Holds (WritesStatement (word ∷ ws)) (of_form f ws)
unfolding of_form
form_written word (form.Alu w op) ws n = one_slot_written word ws (alu_in w op ws) (alu_written word w op ws n)
form_written word (form.Neg w) ws n = one_slot_written word ws (neg_in w ws) (neg_written word w ws n)
form_written word (form.Load s) ws n = one_slot_written word ws (load_in s ws) (load_written word s ws n)
form_written word form.Wide ws n = wide_load_written word ws n
form_written word form.Goto ws n = goto_written word ws n
form_written word form.GotoLong ws n = goto_long_written word ws n
form_written word (form.Jump w c) ws n = jump_written word w c ws n
form_written word form.Exit ws n = one_slot_written word ws (exit_in ws) (exit_written word ws n)
form_written word (form.LoadSigned s) ws n = one_slot_written word ws (signed_load_in s ws) (signed_load_written word s ws n)
form_written word (form.MovSigned w) ws n = one_slot_written word ws (mov_signed_in w ws) (mov_signed_written word w ws n)
form_written word (form.Swap o) ws n = one_slot_written word ws (swap_in o ws) (swap_written word o ws n)

says_written : (p : Profile) (ws : List (List ℕ)) → Holds (WritesStatement ws) (line_says p ws)
says_written p [] = tt
says_written p ([] ∷ ws) = tt
says_written p ((b ∷ bs) ∷ ws) =
    cond_both (b == 58) _ _ (Holds (WritesStatement ((b ∷ bs) ∷ ws)))
    (λ _. cond_both (no_words ws && is_name bs) _ _ (Holds (WritesStatement ((b ∷ bs) ∷ ws))) (λ _. tt) (λ _. tt))
    (λ _. found_holds (WritesStatement ((b ∷ bs) ∷ ws)) (form_of p (b ∷ bs)) (λ f. of_form f ws) (λ f e. form_written (b ∷ bs) f ws (subst (Names form_name (b ∷ bs)) e (form_spelled p (b ∷ bs)))))

-- a line that brings code is the code's line
abbrev WritesPiece : List ℕ → Statement → Type 0
WritesPiece piece (Statement.Name name) = Unit {0}
WritesPiece piece (Statement.Code code) = flat_map line_text code ≡ piece
WritesPiece piece (Statement.JumpTo x name) = Unit {0}

piece_written : (p : Profile) (piece : List ℕ) → Holds (WritesPiece piece) (line_in p piece)
unfolding line_in
piece_written p piece = by_text (text_in piece) refl
  where
    as_piece : (text : List ℕ) → text_in piece ≡ Some text → (s : Statement) → WritesStatement (words text) s → WritesPiece piece s
    as_piece text e (Statement.Name name) h = tt
    as_piece text e (Statement.Code code) h = h ∙ ap ended (spaced-words text) ∙ sym (text_in-some piece text e).1
    as_piece text e (Statement.JumpTo x name) h = tt

    by_read : (text : List ℕ) → text_in piece ≡ Some text → (read : Result Statement ℕ) → Holds (WritesStatement (words text)) read → Holds (WritesPiece piece) read
    by_read text e (Ok s) h = as_piece text e s h
    by_read text e (Err fault) h = tt

    by_text : (found : Option (List ℕ)) → text_in piece ≡ found → Holds (WritesPiece piece) (or_unfinished found >>= λ text. line_says p (words text))
    by_text None e = tt
    by_text (Some text) e = by_read text e (line_says p (words text)) (says_written p (words text))

-- the pieces are those of the instructions
abbrev ListedIn : List (List ℕ) → Result (List Insn) AsmError → Type 0
ListedIn ps (Ok xs) = disassembly xs ≡ joined ps
ListedIn ps (Err e) = Unit {0}

code_listed : (insns : List Insn) (slot : ℕ) (code : List Insn) (line : ℕ) (q : List ℕ) (ps : List (List ℕ)) (behind : List Insn → Result (List Insn) AsmError) → flat_map line_text code ≡ q
    → ((here : List Insn) → ListedIn ps (behind here)) → ListedIn (q ∷ ps) (followed line (code_at insns slot code) behind)
code_listed insns slot code line q ps behind h others =
    cond_both (into_half insns slot (first_offset code)) _ _ (λ r. ListedIn (q ∷ ps) (followed line r behind)) (λ _. tt) (λ _.
    cond_both (nat_le (slot + length code) 512) _ _ (λ r. ListedIn (q ∷ ps) (followed line r behind)) (λ _. joins (behind code) (others code)) (λ _. tt))
  where
    joins : (r : Result (List Insn) AsmError) → ListedIn ps r → ListedIn (q ∷ ps) (in_front code r)
    joins (Ok xs) k = flat_map-append line_text code xs ∙ ap (λ (front : List ℕ). front ++ disassembly xs) h ∙ ap (λ (back : List ℕ). q ++ back) k
    joins (Err e) k = tt

line_listed : (all : List Line) (line slot : ℕ) (q : List ℕ) (ps : List (List ℕ)) (l : Line) (behind : List Insn → Result (List Insn) AsmError) → HasNoName l → Holds (WritesPiece q) l
    → ((here : List Insn) → ListedIn ps (behind here)) → ListedIn (q ∷ ps) (followed line (slots_in all line slot l) behind)
line_listed all line slot q ps (Err e) behind n h others = tt
line_listed all line slot q ps (Ok (Statement.Name name)) behind n h others = absurd n
line_listed all line slot q ps (Ok (Statement.Code code)) behind n h others = code_listed (layout all) slot code line q ps behind h others
line_listed all line slot q ps (Ok (Statement.JumpTo x name)) behind n h others = absurd n

pieces_listed : (p : Profile) (all : List Line) (line slot : ℕ) (ps : List (List ℕ)) → AllByRecursion HasNoName (map (line_in p) ps) → ListedIn ps (slots_from all line slot (map (line_in p) ps))
unfolding slots_from
pieces_listed p all line slot [] n = refl
pieces_listed p all line slot (q ∷ ps) n =
    line_listed all line slot q ps (line_in p q) (λ here. slots_from all (line + 1) (slot + length here) (map (line_in p) ps)) n.0 (piece_written p q)
    (λ here. pieces_listed p all (line + 1) (slot + length here) ps n.1)

some_listed : (line : ℕ) (ps : List (List ℕ)) (r : Result (List Insn) AsmError) → ListedIn ps r → ListedIn ps (some_slots line r)
some_listed line ps (Ok []) h = tt
some_listed line ps (Ok (x ∷ xs)) h = h
some_listed line ps (Err e) h = tt

-- a text without names that stands for instructions is their listing
pub only_listing : (p : Profile) (text : List ℕ) (xs : List Insn) → HasNoNames p text → assembly p text ≡ Ok xs → text ≡ disassembly xs
only_listing p text xs n e =
    sym (joined-pieces text)
    ∙ sym (subst (ListedIn (pieces text)) e (some_listed (length (pieces text) + 1) (pieces text) (slots_from (lines_in p text) 1 0 (lines_in p text)) (pieces_listed p (lines_in p text) 1 0 (pieces text) n)))

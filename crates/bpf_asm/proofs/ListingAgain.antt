-- The text of well-formed instructions assembles to them.
use Rattle.std.proofs.Common.{◌≡◌, ℕ, ℤ, pos, negsuc, ◌^◌, ◌<◌, ◌≤◌, suc, List, [], ◌∷◌, ◌++◌, length, map, Bool, true, false, ◌||◌, ◌==◌, Option, Ok, refl, ap, ◌∙◌, arith, FitsSigned, inl, inr}
use Rattle.std.specs.Int.{w16, w32}
use Rattle.std.specs.Fmt.{decimal, signed_decimal}
use Rattle.std.specs.List.{flat_map, AllByRecursion}
use Rattle.std.proofs.lemmas.Bool.{false≢true, true≢false, or_cases, eqb-true}
use Rattle.bpf_isa.specs.declared.insn.Insn.{Insn}
use Rattle.bpf_isa.specs.declared.insn.Insn.TheVariants as insn
use Rattle.bpf_isa.specs.declared.insn.Operand.{Operand}
use Rattle.bpf_isa.specs.declared.insn.Operand.TheVariants as operand
use Rattle.bpf_isa.specs.declared.insn.Profile.TheVariants as profile
use Rattle.bpf_isa.specs.declared.insn.Width.{Width}
use Rattle.bpf_isa.specs.declared.insn.Width.TheVariants as width
use Rattle.bpf_isa.specs.Flow.{is_half}
use Rattle.bpf_isa.specs.WellFormed.{HasFields, HasOperand, is_extended}
use Rattle.doc_text.specs.Text.{ended, IsPlain}
use Rattle.doc_text.specs.Words.{words, spaced, HasNoBlank}
use Rattle.doc_text.proofs.Joining.{text_in-ended, words-spaced, plain-spaced, decimal-word}
use Rattle.bpf_asm.specs.Assembly.{Line}
use Rattle.bpf_asm.specs.Disassembly.{register_text, source_text, wide_number, words_of}
use Rattle.bpf_isa.specs.Checks.{◌>>=◌}
use Rattle.bpf_asm.specs.Statements.{Statement, line_says, or_unfinished, line_in}
use Rattle.bpf_isa.specs.Flow.{insn_at}
use Rattle.bpf_isa.proofs.Raws.{Shape}
use Rattle.bpf_isa.proofs.EncodedAgain.{small_bits, small_swap}
use Rattle.doc_text.proofs.Joining.{pieces-ended}
use Rattle.bpf_asm.specs.Assembly.{layout, lines_in}
use Rattle.bpf_asm.specs.Disassembly.{disassembly}
use Rattle.bpf_asm.proofs.LinesAgain.{slots_for, alu_begins, jump_begins, neg_begins, mov_begins, load_begins, signed_load_begins, swap_begins, wide_small, says_again}

-- a word as it may stand in a line
abbrev IsWord : List ℕ → Type 0
IsWord word = IsPlain word × HasNoBlank word

natural_word : (n : ℕ) → n < 2 ^ 64 → IsWord (decimal n)
natural_word n small = decimal-word n small

register_word : (n : ℕ) → n ≤ 9 → IsWord (register_text n)
register_word n le = let d = natural_word n (omega (arith, le)) in (d.0, d.1)

number_word : (z : ℤ) → FitsSigned w32 z → IsWord (signed_decimal z)
number_word (pos n) f = natural_word n (omega (arith, f.sfits))
number_word (negsuc n) f = let d = natural_word (suc n) (omega (arith, f.sfits)) in (d.0, d.1)

short_word : (z : ℤ) → FitsSigned w16 z → IsWord (signed_decimal z)
short_word (pos n) f = natural_word n (omega (arith, f.sfits))
short_word (negsuc n) f = let d = natural_word (suc n) (omega (arith, f.sfits)) in (d.0, d.1)

source_word : (o : Operand) → HasOperand o → IsWord (source_text o)
source_word (operand.Reg n) le = register_word n le
source_word (operand.Imm z) f = number_word z f

words_good : (x : Insn) → HasFields x → AllByRecursion IsWord (words_of x)
words_good (insn.Alu w op dst src) f = let b = alu_begins w op in ((b.plain, b.whole), (register_word dst f.0, (source_word src f.1, tt)))
words_good (insn.Neg w dst) f = let b = neg_begins w in ((b.plain, b.whole), (register_word dst f, tt))
words_good (insn.Load s dst src off) f = let b = load_begins s in ((b.plain, b.whole), (register_word dst f.0, (register_word src f.1, (short_word off f.2, tt))))
words_good (insn.Wide dst low high) f = ((refl, refl), (register_word dst f.0, (natural_word (wide_number low high) (wide_small low high f.1 f.2), tt)))
words_good insn.Half f = tt
words_good (insn.Goto off) f = ((refl, refl), (short_word off f, tt))
words_good (insn.GotoLong off) f = ((refl, refl), (number_word off f, tt))
words_good (insn.Jump w c dst src off) f = let b = jump_begins w c in ((b.plain, b.whole), (register_word dst f.0, (source_word src f.1, (short_word off f.2, tt))))
words_good insn.Exit f = ((refl, refl), tt)
words_good (insn.LoadSigned s dst src off) f = let b = signed_load_begins s f.0 in ((b.plain, b.whole), (register_word dst f.1, (register_word src f.2, (short_word off f.3, tt))))
words_good (insn.MovSigned w bits dst src) f = let b = mov_begins w in ((b.plain, b.whole), (natural_word bits (omega (arith, small_bits w bits f.0)), (register_word dst f.1, (register_word src f.2, tt))))
words_good (insn.Swap o bits dst) f = let b = swap_begins o in ((b.plain, b.whole), (natural_word bits (omega (arith, small_swap bits f.0)), (register_word dst f.1, tt)))

all_plain : (ws : List (List ℕ)) → AllByRecursion IsWord ws → AllByRecursion IsPlain ws
all_plain [] h = tt
all_plain (w ∷ ws) h = (h.0.0, all_plain ws h.1)

all_whole : (ws : List (List ℕ)) → AllByRecursion IsWord ws → AllByRecursion HasNoBlank ws
all_whole [] h = tt
all_whole (w ∷ ws) h = (h.0.1, all_whole ws h.1)

words_again : (ws : List (List ℕ)) → 0 < length ws → AllByRecursion HasNoBlank ws → words (spaced ws) ≡ ws
words_again [] some h = absurd (omega (arith, some))
words_again (w ∷ ws) some h = words-spaced w ws h

some_words : (x : Insn) → is_half x ≡ false → 0 < length (words_of x)
some_words insn.Half h = absurd (true≢false h)
some_words x h = omega arith

-- the line of an instruction is read as that instruction
line_again : (x : Insn) → HasFields x → is_half x ≡ false → line_in profile.Two (ended (spaced (words_of x))) ≡ Ok (Statement.Code (slots_for x))
unfolding line_in
line_again x f h =
    let good = words_good x f in
    ap (λ (o : Option (List ℕ)). or_unfinished o >>= λ text. line_says profile.Two (words text)) (text_in-ended (spaced (words_of x)) (plain-spaced (words_of x) (all_plain (words_of x) good)))
    ∙ ap (line_says profile.Two) (words_again (words_of x) (some_words x h) (all_whole (words_of x) good))
    ∙ says_again x f h

-- the lines of instructions, a second half with none
abbrev pub lines_for : Insn → List Line
lines_for insn.Half = []
lines_for x = Ok (Statement.Code (slots_for x)) ∷ []

abbrev pub AllFields : List Insn → Type 0
AllFields xs = (slot : ℕ) → slot < length xs → HasFields (insn_at xs slot)

fields_behind : (x : Insn) (xs : List Insn) → AllFields (x ∷ xs) → AllFields xs
fields_behind x xs f = λ slot lt. f (suc slot) (omega (arith, lt))

one_line : (x : Insn) (xs : List Insn) → HasFields x → is_half x ≡ false → lines_in profile.Two (disassembly xs) ≡ flat_map lines_for xs
    → lines_in profile.Two (ended (spaced (words_of x)) ++ disassembly xs) ≡ Ok (Statement.Code (slots_for x)) ∷ flat_map lines_for xs
one_line x xs f h others =
    ap (map (line_in profile.Two)) (pieces-ended (spaced (words_of x)) (disassembly xs) (plain-spaced (words_of x) (all_plain (words_of x) (words_good x f))))
    ∙ ap (λ (l : Line). l ∷ lines_in profile.Two (disassembly xs)) (line_again x f h)
    ∙ ap (λ (ls : List Line). Ok (Statement.Code (slots_for x)) ∷ ls) others

-- the lines of a listing are those of its instructions
pub lines_again : (xs : List Insn) → AllFields xs → lines_in profile.Two (disassembly xs) ≡ flat_map lines_for xs
lines_again [] f = refl
lines_again (insn.Half ∷ xs) f = lines_again xs (fields_behind insn.Half xs f)
lines_again (x ∷ xs) f = one_line x xs (f 0 (omega arith)) refl (lines_again xs (fields_behind x xs f))

-- a second half that is still to come
abbrev pub pending : Bool → List Insn
pending true = insn.Half ∷ []
pending false = []

pub layout_again : (half : Bool) (xs : List Insn) → Shape half xs → pending half ++ layout (flat_map lines_for xs) ≡ xs
layout_again true [] shape = absurd (true≢false shape)
layout_again false [] shape = refl
layout_again true (insn.Half ∷ xs) shape = ap (λ (ys : List Insn). insn.Half ∷ ys) (layout_again false xs shape.1)
layout_again false (insn.Half ∷ xs) shape = absurd (true≢false shape.0)
layout_again true (insn.Wide d l h ∷ xs) shape = absurd (false≢true shape.0)
layout_again false (insn.Wide d l h ∷ xs) shape = ap (λ (ys : List Insn). insn.Wide d l h ∷ ys) (layout_again true xs shape.1)
layout_again true (x ∷ xs) shape = absurd (false≢true shape.0)
layout_again false (x ∷ xs) shape = ap (λ (ys : List Insn). x ∷ ys) (layout_again false xs shape.1)

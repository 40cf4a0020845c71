-- What is read of a word is spelled so.
use Rattle.std.proofs.Common.{◌≡◌, ℕ, ℤ, pos, neg_ℤ, ◌-◌, ◌^◌, ◌<◌, zero, suc, List, [], ◌∷◌, ◌++◌, length, take, drop, true, ◌==◌, nat_le, nat_lt, Option, Some, None, Result, Ok, Err, refl, sym, ap, ◌∙◌, arith, codes}
use Rattle.std.specs.Fmt.{decimal, signed_decimal}
use Rattle.std.proofs.lemmas.Bool.{cond_both, leb-true, eqb-true, eqb-false}
use Rattle.std.proofs.lemmas.List.{take-append-drop}
use Rattle.std.proofs.lemmas.Slice.Eq.{bytes_eq-Decides}
use Rattle.bpf_isa.specs.declared.insn.Operand.TheVariants as operand
use Rattle.bpf_isa.specs.declared.insn.Profile.{Profile}
use Rattle.bpf_isa.specs.declared.insn.Profile.TheVariants as profile
use Rattle.bpf_isa.specs.declared.insn.Width.{Width}
use Rattle.bpf_isa.specs.declared.insn.Width.TheVariants as width
use Rattle.doc_text.specs.Numbers.{is_decimal, value_on}
use Rattle.doc_text.specs.Words.{same, ◌>>?◌}
use Rattle.doc_text.proofs.Counting.{decimal-value}
use Rattle.bpf_asm.specs.declared.form.Form.{Form}
use Rattle.bpf_asm.specs.declared.form.Form.TheVariants as form
use Rattle.bpf_asm.specs.Disassembly.{operation_name, condition_name, width_name, load_name, signed_load_name, swap_name, register_text, source_text}
use Rattle.bpf_asm.specs.Forms.{form_of, plain_form, further_form, with_width, sized_form, operation_named, condition_named, neg_form, extension_form, width_named, or_else, in_profile_two}
use Rattle.bpf_asm.specs.Operands.{magnitude_in, below_zero, signed_in, short_in, long_in, wide_in, register_number, register_in, source_in, is_name, Place, place_in}
use Rattle.bpf_asm.specs.Statements.{extension_named, swap_named}
use Rattle.bpf_asm.proofs.Sound.{Holds, bind_holds}
use Rattle.bpf_asm.proofs.WordsAgain.{decimal_8, decimal_16, decimal_32, decimal_64}

-- a word that is found the same is that word
spelled : (word name : List ℕ) → same word name ≡ true → word ≡ name
spelled word name e = (bytes_eq-Decides word name).0 e

abbrev pub Spells : {A : Type 0} → (A → List ℕ) → List ℕ → A → Type 0
Spells text word a = word ≡ text a

magnitude_spelled : (most : ℕ) (word : List ℕ) → most < 2 ^ 64 → Holds (Spells decimal word) (magnitude_in most word)
magnitude_spelled most word small =
    cond_both (is_decimal word) _ _ (Holds (Spells decimal word)) (λ d.
    cond_both (nat_le (value_on 0 word) most) _ _ (Holds (Spells decimal word)) (λ e. decimal-value word d (omega (arith, leb-true (value_on 0 word) most e, small))) (λ _. tt)) (λ _. tt)

below_spelled : (b : ℕ) (bs : List ℕ) (n : ℕ) → b ≡ 45 → bs ≡ decimal n → Holds (Spells signed_decimal (b ∷ bs)) (below_zero n)
below_spelled b bs n minus e = cond_both (n == 0) _ _ (Holds (Spells signed_decimal (b ∷ bs))) (λ _. tt) (λ some. by n e (eqb-false n 0 some))
  where
    by : (n : ℕ) → bs ≡ decimal n → (n ≡ 0 → ⊥) → b ∷ bs ≡ signed_decimal (neg_ℤ (pos n))
    by zero e some = absurd (some refl)
    by (suc n) e some = ap (λ (c : ℕ). c ∷ bs) minus ∙ ap (λ (ds : List ℕ). 45 ∷ ds) e

signed_spelled : (low high : ℕ) (word : List ℕ) → low < 2 ^ 64 → high < 2 ^ 64 → Holds (Spells signed_decimal word) (signed_in low high word)
signed_spelled low high [] l h = tt
signed_spelled low high (b ∷ bs) l h =
    cond_both (b == 45) _ _ (Holds (Spells signed_decimal (b ∷ bs)))
    (λ e. bind_holds (Spells decimal bs) (Spells signed_decimal (b ∷ bs)) (magnitude_in low bs) below_zero (magnitude_spelled low bs l) (λ n k. below_spelled b bs n (eqb-true b 45 e) k))
    (λ _. bind_holds (Spells decimal (b ∷ bs)) (Spells signed_decimal (b ∷ bs)) (magnitude_in high (b ∷ bs)) (λ n. Ok (pos n)) (magnitude_spelled high (b ∷ bs) h) (λ n k. k))

pub short_spelled : (word : List ℕ) → Holds (Spells signed_decimal word) (short_in word)
short_spelled word = signed_spelled (2 ^ 15) (2 ^ 15 - 1) word (omega arith) (omega arith)

pub long_spelled : (word : List ℕ) → Holds (Spells signed_decimal word) (long_in word)
long_spelled word = signed_spelled (2 ^ 31) (2 ^ 31 - 1) word (omega arith) (omega arith)

pub wide_spelled : (word : List ℕ) → Holds (Spells decimal word) (wide_in word)
wide_spelled [] = tt
wide_spelled (b ∷ bs) =
    cond_both (b == 45) _ _ (Holds (Spells decimal (b ∷ bs)))
    (λ _. bind_holds (Spells decimal bs) (Spells decimal (b ∷ bs)) (magnitude_in 0 bs) (λ n. Err 2) (magnitude_spelled 0 bs (omega arith)) (λ n k. tt))
    (λ _. magnitude_spelled (2 ^ 64 - 1) (b ∷ bs) (omega arith))

digits_spelled : (digits : List ℕ) → Holds (Spells decimal digits) (register_number digits)
digits_spelled digits =
    cond_both (is_decimal digits) _ _ (Holds (Spells decimal digits)) (λ d.
    cond_both (nat_le (value_on 0 digits) 9) _ _ (Holds (Spells decimal digits)) (λ e. decimal-value digits d (omega (arith, leb-true (value_on 0 digits) 9 e))) (λ _. tt)) (λ _. tt)

letter : (b : ℕ) (bs : List ℕ) (n : ℕ) → (b == 114) ≡ true → bs ≡ decimal n → b ∷ bs ≡ register_text n
letter b bs n e k = ap (λ (c : ℕ). c ∷ bs) (eqb-true b 114 e) ∙ ap (λ (ds : List ℕ). 114 ∷ ds) k

weaken : {A : Type 0} (P Q : A → Type 0) (m : Result A ℕ) → ((x : A) → P x → Q x) → Holds P m → Holds Q m
weaken P Q (Ok x) k h = k x h
weaken P Q (Err e) k h = tt

pub register_spelled : (word : List ℕ) → Holds (Spells register_text word) (register_in word)
register_spelled [] = tt
register_spelled (b ∷ bs) = cond_both (b == 114) _ _ (Holds (Spells register_text (b ∷ bs)))
    (λ e. weaken (Spells decimal bs) (Spells register_text (b ∷ bs)) (register_number bs) (λ n k. letter b bs n e k) (digits_spelled bs)) (λ _. tt)

pub source_spelled : (word : List ℕ) → Holds (Spells source_text word) (source_in word)
source_spelled [] = tt
source_spelled (b ∷ bs) =
    cond_both (b == 114) _ _ (Holds (Spells source_text (b ∷ bs)))
    (λ e. bind_holds (Spells decimal bs) (Spells source_text (b ∷ bs)) (register_number bs) (λ r. Ok (operand.Reg r)) (digits_spelled bs) (λ n k. letter b bs n e k))
    (λ _. bind_holds (Spells signed_decimal (b ∷ bs)) (Spells source_text (b ∷ bs)) (long_in (b ∷ bs)) (λ n. Ok (operand.Imm n)) (long_spelled (b ∷ bs)) (λ n k. k))

abbrev pub PlaceSpells : List ℕ → Place → Type 0
PlaceSpells word (Place.By off) = word ≡ signed_decimal off
PlaceSpells word (Place.To name) = Unit {0}

pub place_spelled : (number : List ℕ → Result ℤ ℕ) (word : List ℕ) → ((w : List ℕ) → Holds (Spells signed_decimal w) (number w)) → Holds (PlaceSpells word) (place_in number word)
place_spelled number [] h = tt
place_spelled number (b ∷ bs) h =
    cond_both (b == 64) _ _ (Holds (PlaceSpells (b ∷ bs)))
    (λ _. cond_both (is_name bs) _ _ (Holds (PlaceSpells (b ∷ bs))) (λ _. tt) (λ _. tt))
    (λ _. bind_holds (Spells signed_decimal (b ∷ bs)) (PlaceSpells (b ∷ bs)) (number (b ∷ bs)) (λ off. Ok (Place.By off)) (h (b ∷ bs)) (λ off k. k))

-- an option's value is spelled so
abbrev pub Names : {A : Type 0} → (A → List ℕ) → List ℕ → Option A → Type 0
Names text word None = Unit {0}
Names text word (Some a) = word ≡ text a

pub extension_spelled : (w : Width) (word : List ℕ) → Names decimal word (extension_named w word)
extension_spelled width.W32 word =
    cond_both (same word (codes "8")) _ _ (Names decimal word) (λ e. spelled word (codes "8") e ∙ sym decimal_8) (λ _.
    cond_both (same word (codes "16")) _ _ (Names decimal word) (λ e. spelled word (codes "16") e ∙ sym decimal_16) (λ _. tt))
extension_spelled width.W64 word =
    cond_both (same word (codes "8")) _ _ (Names decimal word) (λ e. spelled word (codes "8") e ∙ sym decimal_8) (λ _.
    cond_both (same word (codes "16")) _ _ (Names decimal word) (λ e. spelled word (codes "16") e ∙ sym decimal_16) (λ _.
    cond_both (same word (codes "32")) _ _ (Names decimal word) (λ e. spelled word (codes "32") e ∙ sym decimal_32) (λ _. tt)))

pub swap_spelled : (word : List ℕ) → Names decimal word (swap_named word)
swap_spelled word =
    cond_both (same word (codes "16")) _ _ (Names decimal word) (λ e. spelled word (codes "16") e ∙ sym decimal_16) (λ _.
    cond_both (same word (codes "32")) _ _ (Names decimal word) (λ e. spelled word (codes "32") e ∙ sym decimal_32) (λ _.
    cond_both (same word (codes "64")) _ _ (Names decimal word) (λ e. spelled word (codes "64") e ∙ sym decimal_64) (λ _. tt)))

-- the word that begins each form
abbrev pub form_name : Form → List ℕ
form_name (form.Alu w op) = operation_name op ++ width_name w
form_name (form.Neg w) = codes "neg" ++ width_name w
form_name (form.Load s) = load_name s
form_name form.Wide = codes "wide"
form_name form.Goto = codes "ja"
form_name form.GotoLong = codes "jal"
form_name (form.Jump w c) = condition_name c ++ width_name w
form_name form.Exit = codes "exit"
form_name (form.LoadSigned s) = signed_load_name s
form_name (form.MovSigned w) = codes "movsx" ++ width_name w
form_name (form.Swap o) = swap_name o

-- a chain of names, each with what it names
operation_spelled : (name : List ℕ) → Names operation_name name (operation_named name)
operation_spelled name =
    cond_both (same name (codes "add")) _ _ (Names operation_name name) (λ e. spelled name (codes "add") e) (λ _.
    cond_both (same name (codes "sub")) _ _ (Names operation_name name) (λ e. spelled name (codes "sub") e) (λ _.
    cond_both (same name (codes "mul")) _ _ (Names operation_name name) (λ e. spelled name (codes "mul") e) (λ _.
    cond_both (same name (codes "div")) _ _ (Names operation_name name) (λ e. spelled name (codes "div") e) (λ _.
    cond_both (same name (codes "or")) _ _ (Names operation_name name) (λ e. spelled name (codes "or") e) (λ _.
    cond_both (same name (codes "and")) _ _ (Names operation_name name) (λ e. spelled name (codes "and") e) (λ _.
    cond_both (same name (codes "lsh")) _ _ (Names operation_name name) (λ e. spelled name (codes "lsh") e) (λ _.
    cond_both (same name (codes "rsh")) _ _ (Names operation_name name) (λ e. spelled name (codes "rsh") e) (λ _.
    cond_both (same name (codes "mod")) _ _ (Names operation_name name) (λ e. spelled name (codes "mod") e) (λ _.
    cond_both (same name (codes "xor")) _ _ (Names operation_name name) (λ e. spelled name (codes "xor") e) (λ _.
    cond_both (same name (codes "mov")) _ _ (Names operation_name name) (λ e. spelled name (codes "mov") e) (λ _.
    cond_both (same name (codes "arsh")) _ _ (Names operation_name name) (λ e. spelled name (codes "arsh") e) (λ _. tt))))))))))))

condition_spelled : (name : List ℕ) → Names condition_name name (condition_named name)
condition_spelled name =
    cond_both (same name (codes "jeq")) _ _ (Names condition_name name) (λ e. spelled name (codes "jeq") e) (λ _.
    cond_both (same name (codes "jgt")) _ _ (Names condition_name name) (λ e. spelled name (codes "jgt") e) (λ _.
    cond_both (same name (codes "jge")) _ _ (Names condition_name name) (λ e. spelled name (codes "jge") e) (λ _.
    cond_both (same name (codes "jset")) _ _ (Names condition_name name) (λ e. spelled name (codes "jset") e) (λ _.
    cond_both (same name (codes "jne")) _ _ (Names condition_name name) (λ e. spelled name (codes "jne") e) (λ _.
    cond_both (same name (codes "jsgt")) _ _ (Names condition_name name) (λ e. spelled name (codes "jsgt") e) (λ _.
    cond_both (same name (codes "jsge")) _ _ (Names condition_name name) (λ e. spelled name (codes "jsge") e) (λ _.
    cond_both (same name (codes "jlt")) _ _ (Names condition_name name) (λ e. spelled name (codes "jlt") e) (λ _.
    cond_both (same name (codes "jle")) _ _ (Names condition_name name) (λ e. spelled name (codes "jle") e) (λ _.
    cond_both (same name (codes "jslt")) _ _ (Names condition_name name) (λ e. spelled name (codes "jslt") e) (λ _.
    cond_both (same name (codes "jsle")) _ _ (Names condition_name name) (λ e. spelled name (codes "jsle") e) (λ _. tt)))))))))))

plain_spelled : (word : List ℕ) → Names form_name word (plain_form word)
plain_spelled word =
    cond_both (same word (codes "exit")) _ _ (Names form_name word) (λ e. spelled word (codes "exit") e) (λ _.
    cond_both (same word (codes "ja")) _ _ (Names form_name word) (λ e. spelled word (codes "ja") e) (λ _.
    cond_both (same word (codes "jal")) _ _ (Names form_name word) (λ e. spelled word (codes "jal") e) (λ _.
    cond_both (same word (codes "wide")) _ _ (Names form_name word) (λ e. spelled word (codes "wide") e) (λ _.
    cond_both (same word (codes "ldb")) _ _ (Names form_name word) (λ e. spelled word (codes "ldb") e) (λ _.
    cond_both (same word (codes "ldh")) _ _ (Names form_name word) (λ e. spelled word (codes "ldh") e) (λ _.
    cond_both (same word (codes "ldw")) _ _ (Names form_name word) (λ e. spelled word (codes "ldw") e) (λ _.
    cond_both (same word (codes "lddw")) _ _ (Names form_name word) (λ e. spelled word (codes "lddw") e) (λ _. tt))))))))

further_spelled : (word : List ℕ) → Names form_name word (further_form word)
further_spelled word =
    cond_both (same word (codes "ldsb")) _ _ (Names form_name word) (λ e. spelled word (codes "ldsb") e) (λ _.
    cond_both (same word (codes "ldsh")) _ _ (Names form_name word) (λ e. spelled word (codes "ldsh") e) (λ _.
    cond_both (same word (codes "ldsw")) _ _ (Names form_name word) (λ e. spelled word (codes "ldsw") e) (λ _.
    cond_both (same word (codes "le")) _ _ (Names form_name word) (λ e. spelled word (codes "le") e) (λ _.
    cond_both (same word (codes "be")) _ _ (Names form_name word) (λ e. spelled word (codes "be") e) (λ _.
    cond_both (same word (codes "swap")) _ _ (Names form_name word) (λ e. spelled word (codes "swap") e) (λ _. tt))))))

or_else_spelled : (word : List ℕ) (a b : Option Form) → Names form_name word a → Names form_name word b → Names form_name word (or_else a b)
or_else_spelled word None b h k = k
or_else_spelled word (Some f) b h k = h

two_spelled : (p : Profile) (word : List ℕ) (o : Option Form) → Names form_name word o → Names form_name word (in_profile_two p o)
two_spelled profile.One word o h = tt
two_spelled profile.Two word o h = h

then_spelled : {A : Type 0} (text : A → List ℕ) (name word : List ℕ) (o : Option A) (f : A → Option Form) → Names text name o → ((a : A) → name ≡ text a → Names form_name word (f a)) → Names form_name word (o >>? f)
then_spelled text name word None f h k = tt
then_spelled text name word (Some a) f h k = k a h

width_spelled : (digits : List ℕ) → Names width_name digits (width_named digits)
width_spelled digits =
    cond_both (same digits (codes "64")) _ _ (Names width_name digits) (λ e. spelled digits (codes "64") e) (λ _.
    cond_both (same digits (codes "32")) _ _ (Names width_name digits) (λ e. spelled digits (codes "32") e) (λ _. tt))

sized_spelled : (p : Profile) (word name : List ℕ) (w : Width) → word ≡ name ++ width_name w → Names form_name word (sized_form p name w)
sized_spelled p word name w e =
    or_else_spelled word (operation_named name >>? λ op. Some (form.Alu w op)) _ (then_spelled operation_name name word (operation_named name) (λ op. Some (form.Alu w op)) (operation_spelled name) (λ op k. with_name k))
    (or_else_spelled word (condition_named name >>? λ c. Some (form.Jump w c)) _ (then_spelled condition_name name word (condition_named name) (λ c. Some (form.Jump w c)) (condition_spelled name) (λ c k. with_name k))
    (or_else_spelled word (neg_form name w) _ (cond_both (same name (codes "neg")) _ _ (Names form_name word) (λ k. with_name (spelled name (codes "neg") k)) (λ _. tt))
    (two_spelled p word (extension_form name w) (cond_both (same name (codes "movsx")) _ _ (Names form_name word) (λ k. with_name (spelled name (codes "movsx") k)) (λ _. tt)))))
  where
    with_name : {other : List ℕ} → name ≡ other → word ≡ other ++ width_name w
    with_name k = e ∙ ap (λ (n : List ℕ). n ++ width_name w) k

with_width_spelled : (p : Profile) (word : List ℕ) → Names form_name word (with_width p word)
with_width_spelled p word =
    cond_both (nat_lt (length word) 2) _ _ (Names form_name word) (λ _. tt) (λ _.
    then_spelled width_name (drop (length word - 2) word) word (width_named (drop (length word - 2) word)) (λ w. sized_form p (take (length word - 2) word) w) (width_spelled (drop (length word - 2) word))
    (λ w k. sized_spelled p word (take (length word - 2) word) w (sym (take-append-drop (length word - 2) word) ∙ ap (λ (d : List ℕ). take (length word - 2) word ++ d) k)))

-- the word that begins a form is the form's
pub form_spelled : (p : Profile) (word : List ℕ) → Names form_name word (form_of p word)
unfolding form_of
form_spelled p word = or_else_spelled word (plain_form word) _ (plain_spelled word) (or_else_spelled word (with_width p word) _ (with_width_spelled p word) (two_spelled p word (further_form word) (further_spelled word)))

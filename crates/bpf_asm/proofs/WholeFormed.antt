-- What a text assembles to is well formed, line after line.
use Rattle.std.proofs.Common.{◌≡◌, ℕ, ℤ, pos, ◌+◌, ◌<◌, ◌≤◌, zero, suc, List, [], ◌∷◌, ◌++◌, length, length-append, get_or, map, Bool, true, false, ◌&&◌, nat_lt, Some, Result, Ok, Err, refl, sym, ap, ◌∙◌, subst, arith}
use Rattle.std.proofs.lemmas.Bool.{lt-ltb}
use Rattle.std.proofs.lemmas.List.{map-append, length-map}
use Rattle.bpf_isa.specs.declared.insn.Insn.{Insn}
use Rattle.bpf_isa.specs.declared.insn.Insn.TheVariants as insn
use Rattle.bpf_isa.specs.declared.insn.Profile.{Profile}
use Rattle.bpf_isa.specs.Flow.{insn_at, is_half, is_wide, jump_offset, target}
use Rattle.bpf_isa.specs.WellFormed.{IsWellFormed, IsOf}
use Rattle.bpf_isa.proofs.Raws.{Shape}
use Rattle.bpf_asm.specs.declared.error.AsmError.{AsmError}
use Rattle.bpf_asm.specs.Assembly.{Line, slots_of, layout, half_at, slots_in, in_front, followed, slots_from, some_slots, lines_in, assembly}
use Rattle.bpf_asm.proofs.Resolving.{few_slots}
use Rattle.bpf_asm.proofs.Formed.{GoodLines, good_pieces}
use Rattle.doc_text.specs.Text.{pieces}
use Rattle.std.proofs.Math.ListN.{get_or-map}
use Rattle.bpf_asm.proofs.Brought.{At, Brought, BroughtIn, line_brought}

-- what the lines from this slot on assemble to
pub record FormedFrom (p : Profile) (insns : List Insn) (slot : ℕ) (ls : List Line) (xs : List Insn) : Type 0 where
  pub shape : Shape false xs
  pub same : map is_half xs ≡ map is_half (layout ls)
  pub each : (k : ℕ) → k < length xs → At p insns (slot + k) (insn_at xs k)
  pub few : slot + length xs ≤ 512

abbrev FormedIn : Profile → List Insn → ℕ → List Line → Result (List Insn) AsmError → Type 0
FormedIn p insns slot ls (Ok xs) = FormedFrom p insns slot ls xs
FormedIn p insns slot ls (Err e) = Unit {0}

each_joined : (P : ℕ → Insn → Type 0) (here others : List Insn) (slot : ℕ) → ((k : ℕ) → k < length here → P (slot + k) (insn_at here k))
    → ((k : ℕ) → k < length others → P (slot + length here + k) (insn_at others k)) → (k : ℕ) → k < length (here ++ others) → P (slot + k) (insn_at (here ++ others) k)
each_joined P [] others slot first second k lt = subst (λ (s : ℕ). P s (insn_at others k)) (omega arith) (second k lt)
each_joined P (x ∷ here) others slot first second zero lt = first zero (omega arith)
each_joined P (x ∷ here) others slot first second (suc k) lt =
    subst (λ (s : ℕ). P s (insn_at (here ++ others) k)) (omega arith)
    (each_joined P here others (slot + 1)
    (λ j h. subst (λ (s : ℕ). P s (insn_at here j)) (omega arith) (first (suc j) (omega (arith, h))))
    (λ j h. subst (λ (s : ℕ). P s (insn_at others j)) (omega arith) (second j h)) k (omega (arith, lt)))

joined : (p : Profile) (insns : List Insn) (slot : ℕ) (l : Line) (ls : List Line) (here : List Insn) (others : Result (List Insn) AsmError) → Brought p insns slot l here
    → FormedIn p insns (slot + length here) ls others → FormedIn p insns slot (l ∷ ls) (in_front here others)
joined p insns slot l ls here (Err e) b f = tt
joined p insns slot l ls here (Ok xs) b f = record {
  shape = b.shape xs f.shape;
  same = map-append is_half here xs ∙ ap (λ (front : List Bool). front ++ map is_half xs) b.same ∙ ap (λ (back : List Bool). map is_half (slots_of l) ++ back) f.same ∙ sym (map-append is_half (slots_of l) (layout ls));
  each = each_joined (At p insns) here xs slot b.each f.each;
  few = omega (arith, f.few, length-append here xs);
}

followed_formed : (p : Profile) (all : List Line) (line slot : ℕ) (l : Line) (ls : List Line) (brought : Result (List Insn) ℕ) → BroughtIn p (layout all) slot l brought
    → ((here : List Insn) → brought ≡ Ok here → FormedIn p (layout all) (slot + length here) ls (slots_from all (line + 1) (slot + length here) ls))
    → FormedIn p (layout all) slot (l ∷ ls) (followed line brought (λ here. slots_from all (line + 1) (slot + length here) ls))
followed_formed p all line slot l ls (Err e) b f = tt
followed_formed p all line slot l ls (Ok here) b f = joined p (layout all) slot l ls here (slots_from all (line + 1) (slot + length here) ls) b (f here refl)

formed_from : (p : Profile) (all : List Line) (line slot : ℕ) (ls : List Line) → slot ≤ 512 → GoodLines p all → GoodLines p ls → FormedIn p (layout all) slot ls (slots_from all line slot ls)
unfolding slots_from
formed_from p all line slot [] h good here = record { shape = refl; same = refl; each = λ k lt. absurd (omega (arith, lt)); few = omega (arith, h) }
formed_from p all line slot (l ∷ ls) h good here =
    followed_formed p all line slot l ls (slots_in all line slot l) (line_brought p all line slot l good here.0)
    (λ brought e. formed_from p all (line + 1) (slot + length brought) ls (few_slots all line slot l brought h e) good here.1)

-- where the second halves of a shape stand
shape_first : (half : Bool) (xs : List Insn) → Shape half xs → 0 < length xs → is_half (insn_at xs 0) ≡ half
shape_first half [] shape lt = absurd (omega (arith, lt))
shape_first half (x ∷ xs) shape lt = shape.0

shape_halves : (half : Bool) (xs : List Insn) → Shape half xs → (slot : ℕ) → slot + 1 < length xs → is_half (insn_at xs (slot + 1)) ≡ is_wide (insn_at xs slot)
shape_halves half [] shape slot lt = absurd (omega (arith, lt))
shape_halves half (x ∷ xs) shape zero lt = shape_first (is_wide x) xs shape.1 (omega (arith, lt))
shape_halves half (x ∷ xs) shape (suc slot) lt =
    let one : suc slot + 1 ≡ suc (slot + 1) = omega arith in
    ap (λ (k : ℕ). is_half (insn_at (x ∷ xs) k)) one ∙ shape_halves (is_wide x) xs shape.1 slot (omega (arith, lt))

shape_last : (half : Bool) (xs : List Insn) → Shape half xs → (slot : ℕ) → slot + 1 ≡ length xs → is_wide (insn_at xs slot) ≡ false
shape_last half [] shape slot end = absurd (omega (arith, end))
shape_last half (x ∷ []) shape zero end = shape.1
shape_last half (x ∷ y ∷ xs) shape zero end = absurd (omega (arith, end))
shape_last half (x ∷ xs) shape (suc slot) end = shape_last (is_wide x) xs shape.1 slot (omega (arith, end))

-- a place that is no second half of the layout is none of the instructions
no_half : (xs insns : List Insn) (place : ℕ) → map is_half xs ≡ map is_half insns → half_at insns (pos place) ≡ false → place < length xs → is_half (insn_at xs place) ≡ false
no_half xs insns place same outside lt =
    let long : length xs ≡ length insns = sym (length-map xs is_half) ∙ ap length same ∙ length-map insns is_half in
    let inside : nat_lt place (length insns) ≡ true = lt-ltb place (length insns) (omega (arith, long, lt)) in
    sym (get_or-map is_half xs place insn.Half) ∙ ap (λ (bs : List Bool). get_or bs place true) same ∙ get_or-map is_half insns place insn.Half
    ∙ sym (ap (λ (b : Bool). b && is_half (insn_at insns place)) inside) ∙ outside

-- well-formed instructions of the profile
pub record Formed (p : Profile) (xs : List Insn) : Type 0 where
  pub well : IsWellFormed xs
  pub owned : IsOf p xs

abbrev AssembledIn : Profile → Result (List Insn) AsmError → Type 0
AssembledIn p (Ok xs) = Formed p xs
AssembledIn p (Err e) = Unit {0}

whole_formed : (p : Profile) (all : List Line) (xs : List Insn) → 0 < length xs → FormedFrom p (layout all) 0 all xs → Formed p xs
whole_formed p all xs some f = record {
  well = record {
    some = some;
    few = omega (arith, f.few);
    fields = λ slot lt. (f.each slot lt).fields;
    first = shape_first false xs f.shape some;
    halves = λ slot lt. shape_halves false xs f.shape slot lt;
    last = λ slot end. shape_last false xs f.shape slot end;
    targets = λ slot place off lt jumps leads inside. no_half xs (layout all) place f.same (ap (half_at (layout all)) (sym leads) ∙ outside slot off lt jumps) inside;
  };
  owned = λ slot lt. (f.each slot lt).owned;
}
  where
    outside : (slot : ℕ) (off : ℤ) → slot < length xs → jump_offset (insn_at xs slot) ≡ Some off → half_at (layout all) (target slot off) ≡ false
    outside slot off lt jumps = subst (λ (s : ℕ). half_at (layout all) (target s off) ≡ false) (omega arith) ((f.each slot lt).outside off jumps)

some_formed : (p : Profile) (all : List Line) (line : ℕ) (read : Result (List Insn) AsmError) → FormedIn p (layout all) 0 all read → AssembledIn p (some_slots line read)
some_formed p all line (Err e) f = tt
some_formed p all line (Ok []) f = tt
some_formed p all line (Ok (x ∷ xs)) f = whole_formed p all (x ∷ xs) (omega arith) f

-- what a text assembles to is well formed
pub assembly_is_formed : (p : Profile) (text : List ℕ) (xs : List Insn) → assembly p text ≡ Ok xs → Formed p xs
assembly_is_formed p text xs e =
    let good : GoodLines p (lines_in p text) = good_pieces p (pieces text) in
    subst (AssembledIn p) e (some_formed p (lines_in p text) (length (pieces text) + 1) (slots_from (lines_in p text) 1 0 (lines_in p text))
    (formed_from p (lines_in p text) 1 0 (lines_in p text) (omega arith) good good))

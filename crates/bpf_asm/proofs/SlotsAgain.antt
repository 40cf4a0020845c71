-- The text of well-formed instructions assembles to them, slot after slot.
use Rattle.std.proofs.Common.{◌≡◌, ℕ, ℤ, pos, negsuc, ◌+◌, ◌<◌, ◌≤◌, suc, List, [], ◌∷◌, length, Bool, true, false, nat_lt, Option, Some, None, Result, Ok, Err, refl, sym, ap, ◌∙◌, subst, arith, inl, inr}
use Rattle.std.specs.List.{flat_map}
use Rattle.std.proofs.lemmas.Bool.{false≢true, true≢false}
use Rattle.bpf_isa.specs.declared.insn.Insn.{Insn}
use Rattle.bpf_isa.specs.declared.insn.Insn.TheVariants as insn
use Rattle.bpf_isa.specs.declared.insn.Profile.TheVariants as profile
use Rattle.bpf_isa.specs.Flow.{is_half}
use Rattle.bpf_asm.specs.Assembly.{Line}
use Rattle.bpf_asm.specs.Statements.{Statement}
use Rattle.bpf_isa.specs.Flow.{insn_at, jump_offset, target}
use Rattle.bpf_isa.specs.WellFormed.{IsWellFormed}
use Rattle.bpf_isa.proofs.Raws.{Shape, well_shaped}
use Rattle.doc_text.specs.Text.{pieces}
use Rattle.bpf_asm.specs.declared.error.AsmError.{AsmError}
use Rattle.bpf_asm.specs.Assembly.{layout, half_at, into_half, first_offset, in_front, slots_from, some_slots, lines_in, assembly}
use Rattle.bpf_asm.specs.Disassembly.{disassembly}
use Rattle.std.proofs.lemmas.Bool.{le-leb, lt-ltb, le-ltb, cases_lt, and_left}
use Rattle.bpf_asm.proofs.ListingAgain.{lines_for, lines_again, layout_again}

nothing_in_front : (r : Result (List Insn) AsmError) → in_front [] r ≡ r
nothing_in_front (Ok xs) = refl
nothing_in_front (Err e) = refl

two_in_front : (x y : Insn) (r : Result (List Insn) AsmError) → in_front (x ∷ y ∷ []) r ≡ in_front (x ∷ []) (in_front (y ∷ []) r)
two_in_front x y (Ok xs) = refl
two_in_front x y (Err e) = refl

code_step : (all : List Line) (line slot : ℕ) (code : List Insn) (ls : List Line) → into_half (layout all) slot (first_offset code) ≡ false → slot + length code ≤ 512
    → slots_from all line slot (Ok (Statement.Code code) ∷ ls) ≡ in_front code (slots_from all (line + 1) (slot + length code) ls)
unfolding slots_from
code_step all line slot code ls outside few = rw (outside, le-leb (slot + length code) 512 few) refl

-- the jumps of a list from this slot on lead into no second half
abbrev Outside : List Insn → ℕ → List Insn → Type 0
Outside insns slot xs = (k : ℕ) → k < length xs → (off : ℤ) → jump_offset (insn_at xs k) ≡ Some off → half_at insns (target (slot + k) off) ≡ false

outside_behind : (insns : List Insn) (slot : ℕ) (x : Insn) (xs : List Insn) → Outside insns slot (x ∷ xs) → Outside insns (slot + 1) xs
outside_behind insns slot x xs h = λ k lt off j. subst (λ (s : ℕ). half_at insns (target s off) ≡ false) (omega arith) (h (suc k) (omega (arith, lt)) off j)

first_outside : (insns : List Insn) (slot : ℕ) (x : Insn) (xs : List Insn) → Outside insns slot (x ∷ xs) → into_half insns slot (jump_offset x) ≡ false
first_outside insns slot x xs h = by (jump_offset x) refl
  where
    by : (o : Option ℤ) → jump_offset x ≡ o → into_half insns slot o ≡ false
    by None e = refl
    by (Some off) e = subst (λ (s : ℕ). half_at insns (target s off) ≡ false) (omega arith) (h 0 (omega arith) off e)

some_behind : (xs : List Insn) → Shape true xs → 0 < length xs
some_behind [] shape = absurd (true≢false shape)
some_behind (x ∷ xs) shape = omega arith

plain_step : (all : List Line) (line slot : ℕ) (x : Insn) (xs : List Insn) → into_half (layout all) slot (jump_offset x) ≡ false → slot + length (x ∷ xs) ≤ 512
    → slots_from all (line + 1) (slot + 1) (flat_map lines_for xs) ≡ Ok xs
    → slots_from all line slot (Ok (Statement.Code (x ∷ [])) ∷ flat_map lines_for xs) ≡ Ok (x ∷ xs)
plain_step all line slot x xs outside few others = code_step all line slot (x ∷ []) (flat_map lines_for xs) outside (omega (arith, few)) ∙ ap (in_front (x ∷ [])) others

-- what is read of the lines from a slot on, behind a second half that is still to come
abbrev Again : List Line → ℕ → ℕ → Bool → List Insn → Type 0
Again all line slot true xs = in_front (insn.Half ∷ []) (slots_from all line (slot + 1) (flat_map lines_for xs)) ≡ Ok xs
Again all line slot false xs = slots_from all line slot (flat_map lines_for xs) ≡ Ok xs

slots_again : (all : List Line) (line slot : ℕ) (half : Bool) (xs : List Insn) → Shape half xs → Outside (layout all) slot xs → slot + length xs ≤ 512 → Again all line slot half xs
unfolding slots_from
slots_again all line slot true [] shape outside few = absurd (true≢false shape)
slots_again all line slot false [] shape outside few = refl
slots_again all line slot true (insn.Half ∷ xs) shape outside few =
    ap (in_front (insn.Half ∷ [])) (slots_again all line (slot + 1) false xs shape.1 (outside_behind (layout all) slot insn.Half xs outside) (omega (arith, few)))
slots_again all line slot false (insn.Half ∷ xs) shape outside few = absurd (true≢false shape.0)
slots_again all line slot true (insn.Wide d l h ∷ xs) shape outside few = absurd (false≢true shape.0)
slots_again all line slot false (insn.Wide d l h ∷ xs) shape outside few =
    let two : slot + 1 + 1 ≡ slot + 2 = omega arith in
    code_step all line slot (insn.Wide d l h ∷ insn.Half ∷ []) (flat_map lines_for xs) refl (omega (arith, few, some_behind xs shape.1))
    ∙ two_in_front (insn.Wide d l h) insn.Half (slots_from all (line + 1) (slot + 2) (flat_map lines_for xs))
    ∙ ap (λ (s : ℕ). in_front (insn.Wide d l h ∷ []) (in_front (insn.Half ∷ []) (slots_from all (line + 1) s (flat_map lines_for xs)))) (sym two)
    ∙ ap (in_front (insn.Wide d l h ∷ [])) (slots_again all (line + 1) (slot + 1) true xs shape.1 (outside_behind (layout all) slot (insn.Wide d l h) xs outside) (omega (arith, few)))
slots_again all line slot true (x ∷ xs) shape outside few = absurd (false≢true shape.0)
slots_again all line slot false (x ∷ xs) shape outside few =
    plain_step all line slot x xs (first_outside (layout all) slot x xs outside) few
    (slots_again all (line + 1) (slot + 1) false xs shape.1 (outside_behind (layout all) slot x xs outside) (omega (arith, few)))

plain_sum : (k : ℕ) → 0 + k ≡ k
plain_sum k = omega arith

-- no jump of well-formed instructions leads into a second half
formed_outside : (xs : List Insn) → IsWellFormed xs → Outside xs 0 xs
formed_outside xs f = λ k lt off j. by k lt off j (target (0 + k) off) refl
  where
    by : (k : ℕ) → k < length xs → (off : ℤ) → jump_offset (insn_at xs k) ≡ Some off → (z : ℤ) → target (0 + k) off ≡ z → half_at xs z ≡ false
    by k lt off j (negsuc n) t = refl
    by k lt off j (pos place) t = elim (cases_lt place (length xs)) [
      | inl inside ↦ (let no_half : is_half (insn_at xs place) ≡ false = f.targets k place off lt j (ap (λ (s : ℕ). target s off) (sym (plain_sum k)) ∙ t) inside in rw (lt-ltb place (length xs) inside, no_half) refl)
      | inr past ↦ and_left (nat_lt place (length xs)) (is_half (insn_at xs place)) (le-ltb place (length xs) past)
    ]

some_stay : (line : ℕ) (xs : List Insn) → 0 < length xs → some_slots line (Ok xs) ≡ Ok xs
some_stay line [] some = absurd (omega (arith, some))
some_stay line (x ∷ xs) some = refl

-- the text of well-formed instructions assembles to them
pub assembly-disassembly : (xs : List Insn) → IsWellFormed xs → assembly profile.Two (disassembly xs) ≡ Ok xs
assembly-disassembly xs f =
    let read : List Line = flat_map lines_for xs in
    let lines : lines_in profile.Two (disassembly xs) ≡ read = lines_again xs f.fields in
    let whole : layout read ≡ xs = layout_again false xs (well_shaped xs f) in
    let outside : Outside (layout read) 0 xs = subst (λ (insns : List Insn). Outside insns 0 xs) (sym whole) (formed_outside xs f) in
    let last : ℕ = length (pieces (disassembly xs)) + 1 in
    let few : length xs ≤ 512 = f.few in
    ap (λ (all : List Line). some_slots last (slots_from all 1 0 all)) lines
    ∙ ap (some_slots last) (slots_again read 1 0 false xs (well_shaped xs f) outside (omega (arith, few)))
    ∙ some_stay last xs f.some

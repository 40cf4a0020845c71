-- Accepted programs run safely.
use Rattle.std.proofs.Common.{◌≡◌, ◌≢◌, inl, inr, ℕ, ℤ, pos, ◌+◌, ◌<◌, List, [], ◌∷◌, length, Bool, true, false, Some, Contains, refl, sym, ap, ◌∙◌, subst, arith}
use Rattle.bpf_isa.specs.declared.insn.Insn.{Insn}
use Rattle.bpf_isa.specs.declared.insn.Insn.TheVariants.{Alu, Neg, Load, Wide, Half, Goto, GotoLong, Jump, Exit, LoadSigned, MovSigned, Swap}
use Rattle.bpf_isa.specs.Flow.{insn_at, is_half, is_wide, edges}
use Rattle.bpf_isa.specs.Operands.{reads}
use Rattle.bpf_isa.specs.WellFormed.{IsWellFormed}
use Rattle.bpf_verifier.specs.declared.kind.Kind.{Kind}
use Rattle.bpf_verifier.specs.declared.kind.Kind.TheVariants.{Absent, Number, Context}
use Rattle.bpf_verifier.specs.declared.refusal.Refusal.TheVariants.{Back, OutOfProgram, NoValue, PointerUse, BadLoad}
use Rattle.bpf_verifier.specs.Kinds.{kind_at, loads_outside}
use Rattle.bpf_verifier.specs.Paths.{Leads, IsPath, kinds_along, HasKind}
use Rattle.bpf_verifier.specs.Acceptance.{IsAccepted}
use Rattle.bpf_verifier.specs.Safety.{IsWay, RunsSafely}
use Rattle.bpf_verifier.specs.Pass.{next_of}
use Rattle.bpf_verifier.proofs.Leading.{edge_cases, edge_stays}
use Rattle.bpf_verifier.proofs.Faulty.{base_read}

-- the slot behind an instruction begins another one
next_begins : (insns : List Insn) (slot to : ℕ) → IsWellFormed insns → to < length insns → next_of (insn_at insns slot) slot ≡ Some to → is_half (insn_at insns to) ≡ false
next_begins insns slot to fits inside e = by_insn (insn_at insns slot) refl e
  where
    P : ℕ → Type 0
    P n = is_half (insn_at insns n) ≡ false

    behind : (x : Insn) → insn_at insns slot ≡ x → is_wide x ≡ false → Some (slot + 1) ≡ Some to → is_half (insn_at insns to) ≡ false
    behind x is narrow next = let same : slot + 1 ≡ to = cc in subst P same (fits.halves slot (omega (arith, same, inside)) ∙ ap is_wide is ∙ narrow)

    half_is_narrow : (x : Insn) → is_half x ≡ true → is_wide x ≡ false
    half_is_narrow Half h = refl
    half_is_narrow (Wide dst low high) h = cc
    half_is_narrow (Alu width op dst src) h = refl
    half_is_narrow (Neg width dst) h = refl
    half_is_narrow (Swap order bits dst) h = refl
    half_is_narrow (MovSigned width bits dst src) h = refl
    half_is_narrow (Load size dst src off) h = refl
    half_is_narrow (LoadSigned size dst src off) h = refl
    half_is_narrow (Jump width cond dst src off) h = refl
    half_is_narrow (Goto off) h = refl
    half_is_narrow (GotoLong off) h = refl
    half_is_narrow Exit h = refl

    by_insn : (x : Insn) → insn_at insns slot ≡ x → next_of x slot ≡ Some to → is_half (insn_at insns to) ≡ false
    by_insn (Wide dst low high) is next =
        let same : slot + 2 ≡ to = cc in
        let sum : slot + 1 + 1 ≡ to = omega (arith, same) in
        let half : is_half (insn_at insns (slot + 1)) ≡ true = fits.halves slot (omega (arith, same, inside)) ∙ ap is_wide is in
        subst P sum (fits.halves (slot + 1) (omega (arith, sum, inside)) ∙ half_is_narrow (insn_at insns (slot + 1)) half)
    by_insn (Alu width op dst src) is next = behind (Alu width op dst src) is refl next
    by_insn (Neg width dst) is next = behind (Neg width dst) is refl next
    by_insn (Swap order bits dst) is next = behind (Swap order bits dst) is refl next
    by_insn (MovSigned width bits dst src) is next = behind (MovSigned width bits dst src) is refl next
    by_insn (Load size dst src off) is next = behind (Load size dst src off) is refl next
    by_insn (LoadSigned size dst src off) is next = behind (LoadSigned size dst src off) is refl next
    by_insn (Jump width cond dst src off) is next = behind (Jump width cond dst src off) is refl next
    by_insn (Goto off) is next = cc
    by_insn (GotoLong off) is next = cc
    by_insn Exit is next = cc
    by_insn Half is next = cc

-- an edge leads to where an instruction begins
edge_begins : (insns : List Insn) (slot to : ℕ) → IsWellFormed insns → slot < length insns → to < length insns → Leads (insn_at insns slot) slot to → is_half (insn_at insns to) ≡ false
edge_begins insns slot to fits within inside leads = elim (edge_cases (insn_at insns slot) slot (pos to) leads) [
  | inl next ↦ (let place = next.2 in let same : next.0 ≡ to = cc in let P : ℕ → Type 0 = λ n. next_of (insn_at insns slot) slot ≡ Some n in next_begins insns slot to fits inside (subst P same next.1))
  | inr jump ↦ fits.targets slot to jump.0 within jump.1 jump.2 inside
]

accepted_edge : (insns : List Insn) (slot : ℕ) → IsAccepted insns → slot < length insns → (place : ℤ) → Contains (edges slot (insn_at insns slot)) place → (to : ℕ) × (place ≡ pos to) × (slot < to) × (to < length insns)
accepted_edge insns slot accepted within = edge_stays (insn_at insns slot) slot (length insns) (λ back. accepted (Back slot) (within, back)) (λ leaves. accepted (OutOfProgram slot) (within, leaves))

-- the slot of a way is the program's and begins an instruction, and the way is a path
pub record IsSound (insns : List Insn) (slot : ℕ) (way : List ℕ) : Type 0 where
  pub path : IsPath insns (slot ∷ way)
  pub inside : slot < length insns
  pub begins : is_half (insn_at insns slot) ≡ false

way_is_path : (insns : List Insn) → IsWellFormed insns → IsAccepted insns → (slot : ℕ) (way : List ℕ) → IsWay insns (slot ∷ way) → IsSound insns slot way
way_is_path insns fits accepted slot [] is = record {
  path = is;
  inside = omega (arith, is, fits.some);
  begins = let P : ℕ → Type 0 = λ n. is_half (insn_at insns n) ≡ false in subst P (sym is) fits.first;
}
way_is_path insns fits accepted to (slot ∷ way) is =
    let before = way_is_path insns fits accepted slot way is.0 in
    let stays = accepted_edge insns slot accepted before.inside (pos to) is.1 in
    let place = stays.1 in
    let same : to ≡ stays.0 = cc in
    let inside : to < length insns = omega (arith, same, stays.3) in
    record {
      path = (before.path, record { leads = is.1; forward = omega (arith, same, stays.2); inside = inside });
      inside = inside;
      begins = edge_begins insns slot to fits before.inside inside is.1;
    }

-- not all paths give the register a kind unless this one does
abbrev pub IsTold : List Insn → ℕ → ℕ → Kind → Type 0
IsTold insns slot reg kind = (HasKind insns slot reg Number → kind ≡ Number → ⊥) → (HasKind insns slot reg Context → kind ≡ Context → ⊥) → ⊥

-- a register that is read has a kind that all paths give it, so each path gives it that
one_kind : (insns : List Insn) (slot reg : ℕ) → IsAccepted insns → slot < length insns → (path : List ℕ) → IsPath insns (slot ∷ path) → reads (insn_at insns slot) reg ≡ true
    → IsTold insns slot reg (kind_at (kinds_along insns (slot ∷ path)) reg)
one_kind insns slot reg accepted inside path is read = λ no_number no_context.
    accepted (NoValue slot reg) (
      inside,
      record {
        reached = (path, is);
        read = read;
        no_number = λ has. no_number has (has path is);
        no_context = λ has. no_context has (has path is);
      },
    )

given : (insns : List Insn) (slot reg : ℕ) (kind : Kind) → IsTold insns slot reg kind → kind ≢ Absent
given insns slot reg Absent told = λ e. told (λ has same. cc) (λ has same. cc)
given insns slot reg Number told = λ e. cc
given insns slot reg Context told = λ e. cc

number : (insns : List Insn) (slot reg : ℕ) (kind : Kind) → IsTold insns slot reg kind → (HasKind insns slot reg Context → ⊥) → kind ≡ Number
number insns slot reg Number told never = refl
number insns slot reg Absent told never = absurd (told (λ has same. cc) (λ has same. cc))
number insns slot reg Context told never = absurd (told (λ has same. cc) (λ has same. never has))

pointer : (insns : List Insn) (slot reg : ℕ) (kind : Kind) → IsTold insns slot reg kind → (HasKind insns slot reg Number → ⊥) → kind ≡ Context
pointer insns slot reg Context told never = refl
pointer insns slot reg Absent told never = absurd (told (λ has same. cc) (λ has same. cc))
pointer insns slot reg Number told never = absurd (told (λ has same. never has) (λ has same. cc))

false_or : (test : Bool) → (test ≡ true → ⊥) → test ≡ false
false_or false never = refl
false_or true never = absurd (never refl)

pub runs_safely : (insns : List Insn) → IsWellFormed insns → IsAccepted insns → RunsSafely insns
runs_safely insns fits accepted slot way is =
    let sound = way_is_path insns fits accepted slot way is in
    let insn = insn_at insns slot in
    let kind = λ (reg : ℕ). kind_at (kinds_along insns (slot ∷ way)) reg in
    let told : (reg : ℕ) → reads insn reg ≡ true → IsTold insns slot reg (kind reg) = λ reg read. one_kind insns slot reg accepted sound.inside way sound.path read in
    record {
      inside = sound.inside;
      begins = sound.begins;
      values = λ reg read. given insns slot reg (kind reg) (told reg read);
      numbers = λ reg read as_number. number insns slot reg (kind reg) (told reg read) (λ has. accepted (PointerUse slot reg) (sound.inside, record { reached = (way, sound.path); read = read; as_number = as_number; context = has }));
      bases = λ reg e. pointer insns slot reg (kind reg) (told reg (base_read insn reg e)) (λ has. accepted (BadLoad slot) (sound.inside, record { reached = (way, sound.path); bad = inl (reg, e, has) }));
      loads = false_or (loads_outside insn) (λ outside. accepted (BadLoad slot) (sound.inside, record { reached = (way, sound.path); bad = inr outside }));
      edges = accepted_edge insns slot accepted sound.inside;
    }

-- The faults that a slot's state shows are exactly those that the slot has.
use Rattle.std.proofs.Common.{◌≡◌, ◌≢◌, ◌⊎◌, inl, inr, ℕ, ◌<◌, List, ◌∷◌, length, Option, Some, None, true, refl, sym, ap, ◌∙◌, subst}
use Rattle.std.proofs.lemmas.Bool.{eq-eqb}
use Rattle.bpf_isa.specs.declared.insn.Insn.{Insn}
use Rattle.bpf_isa.specs.declared.insn.Insn.TheVariants.{Alu, Neg, Load, Wide, Half, Goto, GotoLong, Jump, Exit, LoadSigned, MovSigned, Swap}
use Rattle.bpf_isa.specs.Flow.{insn_at}
use Rattle.bpf_isa.specs.Operands.{reads}
use Rattle.bpf_isa.specs.WellFormed.{HasFields}
use Rattle.bpf_verifier.specs.declared.kind.Kind.{Kind}
use Rattle.bpf_verifier.specs.declared.kind.Kind.TheVariants.{Absent, Number, Context}
use Rattle.bpf_verifier.specs.declared.refusal.Refusal.{Refusal}
use Rattle.bpf_verifier.specs.declared.refusal.Refusal.TheVariants.{Back, OutOfProgram, NoValue, PointerUse, BadLoad, NoMemory}
use Rattle.bpf_verifier.specs.Kinds.{kind_at, base_of, loads_outside}
use Rattle.bpf_verifier.specs.Paths.{kinds_along, IsReached, HasKind}
use Rattle.bpf_verifier.specs.Faults.{JumpsBack, LeavesProgram, ReadsNoValue, UsesPointer, LoadsBadly, HasFault, slot_of}
use Rattle.bpf_verifier.specs.Pass.{EdgeFault, KindFault, SlotFault}
use Rattle.bpf_verifier.proofs.Summary.{SumsUp, IsState}
use Rattle.bpf_verifier.proofs.Arriving.{Arrives}
use Rattle.bpf_verifier.proofs.Registers.{reads_registers}

-- the kind in the sum is that of all paths
has_kind : (insns : List Insn) (slot reg : ℕ) (kind : Kind) (sum : List Kind) → SumsUp (Arrives insns slot) sum → reg < 10 → kind_at sum reg ≡ kind → kind ≢ Absent → HasKind insns slot reg kind
has_kind insns slot reg kind sum h lt e given = λ path is. h.agree reg kind lt e given (kinds_along insns (slot ∷ path)) (path, is, refl)

-- the kind of all paths is that in the sum
in_sum : (insns : List Insn) (slot reg : ℕ) (kind : Kind) (sum : List Kind) → SumsUp (Arrives insns slot) sum → reg < 10 → kind ≢ Absent → HasKind insns slot reg kind → kind_at sum reg ≡ kind
in_sum insns slot reg kind sum h lt given has = by_kind (kind_at sum reg) refl
  where
    along : (kinds : List Kind) → Arrives insns slot kinds → kind_at kinds reg ≡ kind
    along kinds a = ap (λ (l : List Kind). kind_at l reg) a.2 ∙ has a.0 a.1

    by_kind : (now : Kind) → kind_at sum reg ≡ now → kind_at sum reg ≡ kind
    by_kind Absent e = let one = h.differ reg kind lt e given in absurd (one.2 (along one.0 one.1))
    by_kind Number e = e ∙ sym (h.agree reg Number lt e (λ x. cc) h.some.0 h.some.1) ∙ along h.some.0 h.some.1
    by_kind Context e = e ∙ sym (h.agree reg Context lt e (λ x. cc) h.some.0 h.some.1) ∙ along h.some.0 h.some.1

none_in_sum : (insns : List Insn) (slot reg : ℕ) (sum : List Kind) → SumsUp (Arrives insns slot) sum → reg < 10 → (HasKind insns slot reg Number → ⊥) → (HasKind insns slot reg Context → ⊥) → kind_at sum reg ≡ Absent
none_in_sum insns slot reg sum h lt no_number no_context = by_kind (kind_at sum reg) refl
  where
    by_kind : (now : Kind) → kind_at sum reg ≡ now → kind_at sum reg ≡ Absent
    by_kind Absent e = e
    by_kind Number e = absurd (no_number (has_kind insns slot reg Number sum h lt e (λ x. cc)))
    by_kind Context e = absurd (no_context (has_kind insns slot reg Context sum h lt e (λ x. cc)))

reached : (insns : List Insn) (slot : ℕ) (sum : List Kind) → SumsUp (Arrives insns slot) sum → IsReached insns slot
reached insns slot sum h = (h.some.1.0, h.some.1.1)

-- a load reads its base
pub base_read : (insn : Insn) (base : ℕ) → base_of insn ≡ Some base → reads insn base ≡ true
base_read (Load size dst src off) base e = eq-eqb src base (let same : src ≡ base = cc in same)
base_read (LoadSigned size dst src off) base e = eq-eqb src base (let same : src ≡ base = cc in same)
base_read (Alu width op dst src) base e = cc
base_read (Neg width dst) base e = cc
base_read (Swap order bits dst) base e = cc
base_read (MovSigned width bits dst src) base e = cc
base_read (Wide dst low high) base e = cc
base_read (Jump width cond dst src off) base e = cc
base_read Exit base e = cc
base_read Half base e = cc
base_read (Goto off) base e = cc
base_read (GotoLong off) base e = cc

-- a fault of this slot
abbrev pub IsAt : List Insn → ℕ → Refusal → Type 0
IsAt insns slot fault = HasFault insns fault × (slot_of fault ≡ slot)

pub edge_fault_is : (insns : List Insn) (slot : ℕ) → slot < length insns → (fault : Refusal) → EdgeFault (insn_at insns slot) slot (length insns) fault → IsAt insns slot fault
edge_fault_is insns slot lt (Back at) f = let P : ℕ → Type 0 = λ n. (n < length insns) × JumpsBack (insn_at insns n) n in (subst P (sym f.0) (lt, f.1), f.0)
edge_fault_is insns slot lt (OutOfProgram at) f = let P : ℕ → Type 0 = λ n. (n < length insns) × LeavesProgram (insn_at insns n) n (length insns) in (subst P (sym f.0) (lt, f.1), f.0)
edge_fault_is insns slot lt (NoValue at reg) f = absurd f
edge_fault_is insns slot lt (PointerUse at reg) f = absurd f
edge_fault_is insns slot lt (BadLoad at) f = absurd f
edge_fault_is insns slot lt NoMemory f = absurd f

kind_fault_is : (insns : List Insn) (slot : ℕ) (sum : List Kind) → slot < length insns → HasFields (insn_at insns slot) → SumsUp (Arrives insns slot) sum → (fault : Refusal) → KindFault (insn_at insns slot) slot sum fault → IsAt insns slot fault
kind_fault_is insns slot sum lt fits h (Back at) f = absurd f
kind_fault_is insns slot sum lt fits h (OutOfProgram at) f = absurd f
kind_fault_is insns slot sum lt fits h (NoValue at reg) f =
    let P : ℕ → Type 0 = λ n. (n < length insns) × ReadsNoValue insns n reg in
    let below = reads_registers (insn_at insns slot) reg fits f.1 in
    let no : (kind : Kind) → kind ≢ Absent → HasKind insns slot reg kind → ⊥ = λ kind given has. given (sym (in_sum insns slot reg kind sum h below given has) ∙ f.2) in
    (subst P (sym f.0) (lt, record { reached = reached insns slot sum h; read = f.1; no_number = no Number (λ x. cc); no_context = no Context (λ x. cc) }), f.0)
kind_fault_is insns slot sum lt fits h (PointerUse at reg) f =
    let P : ℕ → Type 0 = λ n. (n < length insns) × UsesPointer insns n reg in
    let below = reads_registers (insn_at insns slot) reg fits f.1 in
    (subst P (sym f.0) (lt, record { reached = reached insns slot sum h; read = f.1; as_number = f.2; context = has_kind insns slot reg Context sum h below f.3 (λ x. cc) }), f.0)
kind_fault_is insns slot sum lt fits h (BadLoad at) f =
    let P : ℕ → Type 0 = λ n. (n < length insns) × LoadsBadly insns n in
    let bad : ((base : ℕ) × (base_of (insn_at insns slot) ≡ Some base) × HasKind insns slot base Number) ⊎ (loads_outside (insn_at insns slot) ≡ true) = elim f.1 [
      | inl b ↦ inl (b.0, b.1, has_kind insns slot b.0 Number sum h (reads_registers (insn_at insns slot) b.0 fits (base_read (insn_at insns slot) b.0 b.1)) b.2 (λ x. cc))
      | inr outside ↦ inr outside
    ] in
    (subst P (sym f.0) (lt, record { reached = reached insns slot sum h; bad = bad }), f.0)
kind_fault_is insns slot sum lt fits h NoMemory f = absurd f

pub fault_is : (insns : List Insn) (slot : ℕ) (state : Option (List Kind)) → slot < length insns → HasFields (insn_at insns slot) → IsState (Arrives insns slot) state → (fault : Refusal) → SlotFault (insn_at insns slot) slot (length insns) state fault → IsAt insns slot fault
fault_is insns slot None lt fits h fault f = edge_fault_is insns slot lt fault f
fault_is insns slot (Some sum) lt fits h fault f = elim f [ inl edge ↦ edge_fault_is insns slot lt fault edge | inr kind ↦ kind_fault_is insns slot sum lt fits h fault kind ]

-- an edge's fault is shown by any state
pub by_edge : (insn : Insn) (slot count : ℕ) (state : Option (List Kind)) (fault : Refusal) → EdgeFault insn slot count fault → SlotFault insn slot count state fault
by_edge insn slot count None fault f = f
by_edge insn slot count (Some sum) fault f = inl f

by_kind : (insns : List Insn) (slot : ℕ) (state : Option (List Kind)) (fault : Refusal) → IsState (Arrives insns slot) state → IsReached insns slot → ((sum : List Kind) → SumsUp (Arrives insns slot) sum → KindFault (insn_at insns slot) slot sum fault)
    → SlotFault (insn_at insns slot) slot (length insns) state fault
by_kind insns slot None fault h r f = absurd (h (kinds_along insns (slot ∷ r.0)) (r.0, r.1, refl))
by_kind insns slot (Some sum) fault h r f = inr (f sum h)

pub fault_shows : (insns : List Insn) (slot : ℕ) (state : Option (List Kind)) → HasFields (insn_at insns slot) → IsState (Arrives insns slot) state → (fault : Refusal) → IsAt insns slot fault → SlotFault (insn_at insns slot) slot (length insns) state fault
fault_shows insns slot state fits h (Back at) f = let P : ℕ → Type 0 = λ n. JumpsBack (insn_at insns n) n in by_edge (insn_at insns slot) slot (length insns) state (Back at) (f.1, subst P f.1 f.0.1)
fault_shows insns slot state fits h (OutOfProgram at) f = let P : ℕ → Type 0 = λ n. LeavesProgram (insn_at insns n) n (length insns) in by_edge (insn_at insns slot) slot (length insns) state (OutOfProgram at) (f.1, subst P f.1 f.0.1)
fault_shows insns slot state fits h (NoValue at reg) f =
    let P : ℕ → Type 0 = λ n. ReadsNoValue insns n reg in
    let here : ReadsNoValue insns slot reg = subst P f.1 f.0.1 in
    by_kind insns slot state (NoValue at reg) h here.reached (λ sum s. (f.1, here.read, none_in_sum insns slot reg sum s (reads_registers (insn_at insns slot) reg fits here.read) here.no_number here.no_context))
fault_shows insns slot state fits h (PointerUse at reg) f =
    let P : ℕ → Type 0 = λ n. UsesPointer insns n reg in
    let here : UsesPointer insns slot reg = subst P f.1 f.0.1 in
    by_kind insns slot state (PointerUse at reg) h here.reached (λ sum s. (f.1, here.read, here.as_number, in_sum insns slot reg Context sum s (reads_registers (insn_at insns slot) reg fits here.read) (λ x. cc) here.context))
fault_shows insns slot state fits h (BadLoad at) f =
    let P : ℕ → Type 0 = λ n. LoadsBadly insns n in
    let here : LoadsBadly insns slot = subst P f.1 f.0.1 in
    by_kind insns slot state (BadLoad at) h here.reached (λ sum s. (
      f.1,
      elim here.bad [
        | inl b ↦ inl (b.0, b.1, in_sum insns slot b.0 Number sum s (reads_registers (insn_at insns slot) b.0 fits (base_read (insn_at insns slot) b.0 b.1)) (λ x. cc) b.2)
        | inr outside ↦ inr outside
      ],
    ))
fault_shows insns slot state fits h NoMemory f = absurd f.0

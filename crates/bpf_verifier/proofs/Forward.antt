-- The pass, one slot further.
use Rattle.std.proofs.Common.{◌≡◌, inl, inr, ℕ, zero, suc, pos, ◌+◌, ◌<◌, ◌≤◌, List, [], ◌∷◌, length, Option, Some, None, refl, sym, ap, ◌∙◌, subst, arith}
use Rattle.std.proofs.lemmas.Bool.{cases_lt}
use Rattle.bpf_isa.specs.declared.insn.Insn.{Insn}
use Rattle.bpf_isa.specs.Flow.{insn_at}
use Rattle.bpf_isa.specs.WellFormed.{HasFields}
use Rattle.bpf_verifier.specs.declared.kind.Kind.{Kind}
use Rattle.bpf_verifier.specs.declared.refusal.Refusal.{Refusal}
use Rattle.bpf_verifier.specs.declared.refusal.Refusal.TheVariants.{Back, OutOfProgram, NoValue, PointerUse, BadLoad, NoMemory}
use Rattle.bpf_verifier.specs.Kinds.{kind_at, kinds_at_start, kinds_after}
use Rattle.bpf_verifier.specs.Paths.{Leads, Edge, IsPath, kinds_along}
use Rattle.bpf_verifier.specs.Faults.{HasFault, slot_of, ComesBefore, IsFirst}
use Rattle.bpf_verifier.specs.Pass.{SlotFault, HandsAllOn, state_at}
use Rattle.bpf_verifier.proofs.Summary.{SumsUp, IsState, in_other_words, Either, joined}
use Rattle.bpf_verifier.proofs.Results.{sums_up_after}
use Rattle.bpf_verifier.proofs.Arriving.{Arrives, ArrivesFromBelow, BeginsBelow, HandedOn, arrives_long, from_below, arrives, from_more, by_last_step, arrives_from}
use Rattle.bpf_verifier.proofs.Leading.{leads_or_not, edge_stays}
use Rattle.bpf_verifier.proofs.Registers.{reads_registers}
use Rattle.bpf_verifier.proofs.Faulty.{IsAt, by_edge, fault_is, fault_shows}

-- before the first slot, only slot 0 is reached
start_of : (insns : List Insn) → SumsUp (ArrivesFromBelow insns 0 0) kinds_at_start
start_of insns = record {
  long = refl;
  some = (kinds_at_start, ([], refl, tt, refl));
  agree = λ reg kind lt same ne kinds h. by_path reg kind same kinds h.0 h.2 h.3;
  differ = λ reg kind lt same ne. (kinds_at_start, ([], refl, tt, refl), λ e. ne (sym e ∙ same));
}
  where
    by_path : (reg : ℕ) (kind : Kind) → kind_at kinds_at_start reg ≡ kind → (kinds : List Kind) (path : List ℕ) → BeginsBelow 0 path → kinds ≡ kinds_along insns (0 ∷ path) → kind_at kinds reg ≡ kind
    by_path reg kind same kinds [] b e = ap (λ (l : List Kind). kind_at l reg) e ∙ same
    by_path reg kind same kinds (last ∷ path) b e = absurd (omega (arith, b))

nothing_else : (insns : List Insn) (slot : ℕ) → 0 < slot → (kinds : List Kind) → ArrivesFromBelow insns 0 slot kinds → ⊥
nothing_else insns slot lt kinds h = by_path h.0 h.1 h.2
  where
    by_path : (path : List ℕ) → IsPath insns (slot ∷ path) → BeginsBelow 0 path → ⊥
    by_path [] p b = omega (arith, p, lt)
    by_path (last ∷ path) p b = omega (arith, b)

pub begins : (insns : List Insn) (states : List (Option (List Kind))) (slot : ℕ) → state_at states 0 ≡ Some kinds_at_start → (0 < slot → state_at states slot ≡ None) → IsState (ArrivesFromBelow insns 0 slot) (state_at states slot)
begins insns states zero first others = let P : Option (List Kind) → Type 0 = λ s. IsState (ArrivesFromBelow insns 0 0) s in subst P (sym first) (start_of insns)
begins insns states (suc slot) first others = let P : Option (List Kind) → Type 0 = λ s. IsState (ArrivesFromBelow insns 0 (suc slot)) s in subst P (sym (others (omega arith))) (nothing_else insns (suc slot) (omega arith))

-- when all slots below have been visited, a slot's state speaks of all paths to it
pub settled : (insns : List Insn) (slot : ℕ) (state : Option (List Kind)) → IsState (ArrivesFromBelow insns slot slot) state → IsState (Arrives insns slot) state
settled insns slot state h = in_other_words (ArrivesFromBelow insns slot slot) (Arrives insns slot) (arrives insns slot slot) (from_below insns slot) state h

abbrev pub Faultless : List Insn → ℕ → Option (List Kind) → Type 0
Faultless insns slot state = (fault : Refusal) → SlotFault (insn_at insns slot) slot (length insns) state fault → ⊥

unchanged : (insns : List Insn) (slot to : ℕ) (old new : Option (List Kind)) → new ≡ old → ((kinds : List Kind) → Edge insns slot to → HandedOn insns slot kinds → ⊥) → IsState (ArrivesFromBelow insns slot to) old → IsState (ArrivesFromBelow insns (slot + 1) to) new
unchanged insns slot to old new e none h =
    let P : Option (List Kind) → Type 0 = λ s. IsState (ArrivesFromBelow insns (slot + 1) to) s in
    subst P (sym e) (in_other_words (ArrivesFromBelow insns slot to) (ArrivesFromBelow insns (slot + 1) to) (from_more insns slot to)
    (λ kinds r. elim (by_last_step insns slot to kinds r) [ inl below ↦ below | inr here ↦ absurd (none kinds here.0 here.1) ]) old h)

edge_of : (insns : List Insn) (slot to : ℕ) (state : Option (List Kind)) → Faultless insns slot state → Leads (insn_at insns slot) slot to → Edge insns slot to
edge_of insns slot to state faultless leads =
    let stays = edge_stays (insn_at insns slot) slot (length insns)
    (λ back. faultless (Back slot) (by_edge (insn_at insns slot) slot (length insns) state (Back slot) (refl, back)))
    (λ leaves. faultless (OutOfProgram slot) (by_edge (insn_at insns slot) slot (length insns) state (OutOfProgram slot) (refl, leaves))) (pos to) leads in
    let is = stays.1 in
    let same : to ≡ stays.0 = cc in
    record { leads = leads; forward = omega (arith, same, stays.2); inside = omega (arith, same, stays.3) }

-- the states when a slot without a fault has been visited
pub advances : (insns : List Insn) (slot to : ℕ) (state : Option (List Kind)) (old new : List (Option (List Kind))) → HasFields (insn_at insns slot) → IsState (Arrives insns slot) state → Faultless insns slot state
    → HandsAllOn (insn_at insns slot) slot state old new → IsState (ArrivesFromBelow insns slot to) (state_at old to) → IsState (ArrivesFromBelow insns (slot + 1) to) (state_at new to)
advances insns slot to None old new fits h faultless visits so_far = unchanged insns slot to (state_at old to) (state_at new to) (visits to) (λ kinds edge handed. h handed.0 handed.1) so_far
advances insns slot to (Some sum) old new fits h faultless visits so_far =
    let insn = insn_at insns slot in
    elim (leads_or_not insn slot to) [
      | inl leads ↦ (let image : SumsUp (HandedOn insns slot) (kinds_after insn sum) = sums_up_after (Arrives insns slot) insn sum fits
          (λ reg read. (reads_registers insn reg fits read, λ e. faultless (NoValue slot reg) (inr (refl, read, e)))) (arrives_long insns slot) h in
          let both : IsState (Either (ArrivesFromBelow insns slot to) (HandedOn insns slot)) (state_at new to) = joined (ArrivesFromBelow insns slot to) (HandedOn insns slot) (state_at old to) (state_at new to) (kinds_after insn sum) so_far image ((visits to).here leads) in
          in_other_words (Either (ArrivesFromBelow insns slot to) (HandedOn insns slot)) (ArrivesFromBelow insns (slot + 1) to)
          (λ kinds e. elim e [ inl below ↦ from_more insns slot to kinds below | inr handed ↦ arrives_from insns slot to kinds (edge_of insns slot to (Some sum) faultless leads) handed ])
          (λ kinds r. elim (by_last_step insns slot to kinds r) [ inl below ↦ inl below | inr here ↦ inr here.1 ]) (state_at new to) both)
      | inr other ↦ unchanged insns slot to (state_at old to) (state_at new to) ((visits to).others other) (λ kinds edge handed. other edge.leads) so_far
    ]

-- no fault stands below a slot
abbrev pub NoneBelow : List Insn → ℕ → Type 0
NoneBelow insns slot = (fault : Refusal) → HasFault insns fault → slot ≤ slot_of fault

pub none_below_next : (insns : List Insn) (slot : ℕ) (state : Option (List Kind)) → HasFields (insn_at insns slot) → IsState (Arrives insns slot) state → Faultless insns slot state → NoneBelow insns slot → NoneBelow insns (slot + 1)
none_below_next insns slot state fits h faultless none fault has = elim (cases_lt slot (slot_of fault)) [
  | inl lt ↦ omega (arith, lt)
  | inr le ↦ absurd (faultless fault (fault_shows insns slot state fits h fault (has, omega (arith, le, none fault has))))
]

later : (other fault : Refusal) → slot_of fault < slot_of other → ComesBefore other fault → ⊥
later other fault lt before = grind arith

-- the first fault of the slot is the first of the program
pub first_of_all : (insns : List Insn) (slot : ℕ) (state : Option (List Kind)) → slot < length insns → HasFields (insn_at insns slot) → IsState (Arrives insns slot) state → NoneBelow insns slot
    → (fault : Refusal) → IsFirst (SlotFault (insn_at insns slot) slot (length insns) state) fault → IsFirst (HasFault insns) fault
first_of_all insns slot state lt fits h none fault first =
    let is : IsAt insns slot fault = fault_is insns slot state lt fits h fault first.0 in (
      is.0,
      λ other has before. elim (cases_lt slot (slot_of other)) [
        | inl above ↦ later other fault (omega (arith, above, is.1)) before
        | inr le ↦ first.1 other (fault_shows insns slot state fits h other (has, omega (arith, le, none other has))) before
      ],
    )

-- a fault is in a slot of the program
pub fault_inside : (insns : List Insn) (fault : Refusal) → HasFault insns fault → slot_of fault < length insns
fault_inside insns (Back at) f = f.0
fault_inside insns (OutOfProgram at) f = f.0
fault_inside insns (NoValue at reg) f = f.0
fault_inside insns (PointerUse at reg) f = f.0
fault_inside insns (BadLoad at) f = f.0
fault_inside insns NoMemory f = absurd f

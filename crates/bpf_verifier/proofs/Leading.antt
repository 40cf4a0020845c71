-- The edges of an instruction are the next slot and the target of its jump.
use Rattle.std.proofs.Common.{◌≡◌, ◌⊎◌, inl, inr, ℕ, ℤ, pos, negsuc, ◌+◌, ◌≤ℤ◌, ◌<◌, ◌≤◌, List, [], ◌∷◌, Bool, true, false, Option, Some, None, Contains, IfSome, refl, sym, ap, ◌∙◌, subst, arith}
use Rattle.std.proofs.lemmas.List.Elements.{Contains-push, Contains-push_cases}
use Rattle.std.proofs.lemmas.Bool.{cases_lt}
use Rattle.std.proofs.lemmas.Bool.Decides.{Decides-int_eq}
use Rattle.std.proofs.lemmas.Int.{ints}
use Rattle.std.specs.Ordering.{int_eq}
use Rattle.bpf_isa.specs.declared.insn.Insn.{Insn}
use Rattle.bpf_isa.specs.declared.insn.Insn.TheVariants.{Alu, Neg, Load, Wide, Half, Goto, GotoLong, Jump, Exit, LoadSigned, MovSigned, Swap}
use Rattle.bpf_isa.specs.Flow.{jump_offset, target, edges}
use Rattle.bpf_verifier.specs.Paths.{Leads}
use Rattle.bpf_verifier.specs.Faults.{JumpsBack, LeavesProgram}
use Rattle.bpf_verifier.specs.declared.kind.Kind.{Kind}
use Rattle.bpf_verifier.specs.Pass.{next_of, IsTarget, Joins, JoinsAt, HandsOn}

-- the element of a list of one or of two
only : (a x : ℤ) → Contains (a ∷ []) x → a ≡ x
only a x h = elim (Contains-push_cases [] a x h) [ inl none ↦ absurd (omega (arith, none.1)) | inr e ↦ e ]

none : (x : ℤ) → Contains {X = ℤ} [] x → ⊥
none x h = omega (arith, h.1)

one_of : (a b x : ℤ) → Contains (a ∷ b ∷ []) x → (a ≡ x) ⊎ (b ≡ x)
one_of a b x h = elim (Contains-push_cases (a ∷ []) b x h) [ inl first ↦ inl (only a x first) | inr e ↦ inr e ]

has_only : (a x : ℤ) → a ≡ x → Contains (a ∷ []) x
has_only a x e = let P : ℤ → Type 0 = λ y. Contains (a ∷ []) y in subst P e (Contains-push [] a)

has_second : (a b x : ℤ) → b ≡ x → Contains (a ∷ b ∷ []) x
has_second a b x e = let P : ℤ → Type 0 = λ y. Contains (a ∷ b ∷ []) y in subst P e (Contains-push (a ∷ []) b)

has_first : (a b x : ℤ) → a ≡ x → Contains (a ∷ b ∷ []) x
has_first a b x e = (0, omega arith, e)

some_pos : (m n : ℕ) → Some m ≡ Some n → pos m ≡ pos n
some_pos m n e = cc

pos_some : (m n : ℕ) → pos m ≡ pos n → Some m ≡ Some n
pos_some m n e = cc

-- the next slot is an edge
pub next_leads : (insn : Insn) (slot to : ℕ) → next_of insn slot ≡ Some to → Leads insn slot to
next_leads (Goto off) slot to e = cc
next_leads (GotoLong off) slot to e = cc
next_leads (Jump width cond dst src off) slot to e = has_second _ _ _ (some_pos _ _ e)
next_leads Exit slot to e = cc
next_leads Half slot to e = cc
next_leads (Wide dst low high) slot to e = has_only _ _ (some_pos _ _ e)
next_leads (Alu width op dst src) slot to e = has_only _ _ (some_pos _ _ e)
next_leads (Neg width dst) slot to e = has_only _ _ (some_pos _ _ e)
next_leads (Load size dst src off) slot to e = has_only _ _ (some_pos _ _ e)
next_leads (LoadSigned size dst src off) slot to e = has_only _ _ (some_pos _ _ e)
next_leads (MovSigned width bits dst src) slot to e = has_only _ _ (some_pos _ _ e)
next_leads (Swap order bits dst) slot to e = has_only _ _ (some_pos _ _ e)

-- the target of a jump is an edge
pub jump_leads : (insn : Insn) (slot : ℕ) (place off : ℤ) → jump_offset insn ≡ Some off → target slot off ≡ place → Contains (edges slot insn) place
jump_leads (Goto o) slot place off is e = has_only _ _ (ap (target slot) (let same : o ≡ off = cc in same) ∙ e)
jump_leads (GotoLong o) slot place off is e = has_only _ _ (ap (target slot) (let same : o ≡ off = cc in same) ∙ e)
jump_leads (Jump width cond dst src o) slot place off is e = has_first _ _ _ (ap (target slot) (let same : o ≡ off = cc in same) ∙ e)
jump_leads Exit slot place off is e = cc
jump_leads Half slot place off is e = cc
jump_leads (Wide dst low high) slot place off is e = cc
jump_leads (Alu width op dst src) slot place off is e = cc
jump_leads (Neg width dst) slot place off is e = cc
jump_leads (Load size dst src o) slot place off is e = cc
jump_leads (LoadSigned size dst src o) slot place off is e = cc
jump_leads (MovSigned width bits dst src) slot place off is e = cc
jump_leads (Swap order bits dst) slot place off is e = cc

pub target_leads : (insn : Insn) (slot : ℕ) (jump : Option ℕ) (to : ℕ) → IsTarget insn slot jump → jump ≡ Some to → Leads insn slot to
target_leads insn slot None to is e = cc
target_leads insn slot (Some t) to is e = jump_leads insn slot (pos to) is.0 is.1 (is.2 ∙ some_pos t to e)

-- an edge is the next slot or the target of the jump
pub edge_cases : (insn : Insn) (slot : ℕ) (place : ℤ) → Contains (edges slot insn) place → ((to : ℕ) × (next_of insn slot ≡ Some to) × (pos to ≡ place)) ⊎ ((off : ℤ) × (jump_offset insn ≡ Some off) × (target slot off ≡ place))
edge_cases (Goto off) slot place h = inr (off, refl, only _ _ h)
edge_cases (GotoLong off) slot place h = inr (off, refl, only _ _ h)
edge_cases (Jump width cond dst src off) slot place h = elim (one_of _ _ _ h) [ inl e ↦ inr (off, refl, e) | inr e ↦ inl (slot + 1, refl, e) ]
edge_cases Exit slot place h = absurd (none place h)
edge_cases Half slot place h = absurd (none place h)
edge_cases (Wide dst low high) slot place h = inl (slot + 2, refl, only _ _ h)
edge_cases (Alu width op dst src) slot place h = inl (slot + 1, refl, only _ _ h)
edge_cases (Neg width dst) slot place h = inl (slot + 1, refl, only _ _ h)
edge_cases (Load size dst src off) slot place h = inl (slot + 1, refl, only _ _ h)
edge_cases (LoadSigned size dst src off) slot place h = inl (slot + 1, refl, only _ _ h)
edge_cases (MovSigned width bits dst src) slot place h = inl (slot + 1, refl, only _ _ h)
edge_cases (Swap order bits dst) slot place h = inl (slot + 1, refl, only _ _ h)

pub leads_cases : (insn : Insn) (slot : ℕ) (jump : Option ℕ) (to : ℕ) → IsTarget insn slot jump → Leads insn slot to → (next_of insn slot ≡ Some to) ⊎ (jump ≡ Some to)
leads_cases insn slot jump to is leads = elim (edge_cases insn slot (pos to) leads) [
  | inl next ↦ inl (next.1 ∙ pos_some next.0 to next.2)
  | inr jumps ↦ by_jump jump is jumps
]
  where
    by_jump : (jump : Option ℕ) → IsTarget insn slot jump → (off : ℤ) × (jump_offset insn ≡ Some off) × (target slot off ≡ pos to) → (next_of insn slot ≡ Some to) ⊎ (jump ≡ Some to)
    by_jump None e jumps = let a = jumps.1 in cc
    by_jump (Some t) e jumps =
        let a = jumps.1 in
        let b = e.1 in
        let same : e.0 ≡ jumps.0 = cc in
        inr (pos_some t to (sym e.2 ∙ ap (target slot) same ∙ jumps.2))

inside_or : (to count : ℕ) → (count ≤ to → ⊥) → to < count
inside_or to count h = elim (cases_lt to count) [ inl lt ↦ lt | inr le ↦ absurd (h le) ]

pub next_inside : (insn : Insn) (slot count : ℕ) (next : Option ℕ) → next ≡ next_of insn slot → (LeavesProgram insn slot count → ⊥) → IfSome next (λ to. to < count)
next_inside insn slot count None e stays = tt
next_inside insn slot count (Some to) e stays = inside_or to count (λ le. stays (to, next_leads insn slot to (sym e), le))

pub target_inside : (insn : Insn) (slot count : ℕ) (jump : Option ℕ) → IsTarget insn slot jump → (LeavesProgram insn slot count → ⊥) → IfSome jump (λ to. to < count)
target_inside insn slot count None is stays = tt
target_inside insn slot count (Some to) is stays = inside_or to count (λ le. stays (to, target_leads insn slot (Some to) to is refl, le))

-- kinds were handed to the next slot and to the target
pub hands_on_twice : (insn : Insn) (slot : ℕ) (kinds : List Kind) (next jump : Option ℕ) (to : ℕ) (old mid new : Option (List Kind)) → next ≡ next_of insn slot → IsTarget insn slot jump → (jump ≡ next → ⊥)
    → JoinsAt next kinds to old mid → JoinsAt jump kinds to mid new → HandsOn insn slot kinds to old new
hands_on_twice insn slot kinds next jump to old mid new e is differs first second = record {
  here = λ leads. elim (leads_cases insn slot jump to is leads) [
    | inl a ↦ (let P : Option (List Kind) → Type 0 = λ s. Joins old kinds s in subst P (sym (second.others (λ b. differs (b ∙ sym (e ∙ a))))) (first.here (e ∙ a)))
    | inr b ↦ (let P : Option (List Kind) → Type 0 = λ s. Joins s kinds new in subst P (first.others (λ a. differs (b ∙ sym a))) (second.here b))
  ];
  others = λ other. second.others (λ b. other (target_leads insn slot jump to is b)) ∙ first.others (λ a. other (next_leads insn slot to (sym e ∙ a)));
}

-- whether an instruction leads to a slot can be told
equal_or_not : (a x : ℤ) → (a ≡ x) ⊎ (a ≡ x → ⊥)
equal_or_not a x = by_test (int_eq a x) refl
  where
    by_test : (test : Bool) → int_eq a x ≡ test → (a ≡ x) ⊎ (a ≡ x → ⊥)
    by_test true e = inl ((Decides-int_eq a x).0 e)
    by_test false e = inr (λ same. let t = (Decides-int_eq a x).1 same in cc)

one_or_not : (a x : ℤ) → Contains (a ∷ []) x ⊎ (Contains (a ∷ []) x → ⊥)
one_or_not a x = elim (equal_or_not a x) [ inl e ↦ inl (has_only a x e) | inr ne ↦ inr (λ h. ne (only a x h)) ]

two_or_not : (a b x : ℤ) → Contains (a ∷ b ∷ []) x ⊎ (Contains (a ∷ b ∷ []) x → ⊥)
two_or_not a b x = elim (equal_or_not a x) [
  | inl e ↦ inl (has_first a b x e)
  | inr ne ↦ elim (equal_or_not b x) [ inl e ↦ inl (has_second a b x e) | inr other ↦ inr (λ h. elim (one_of a b x h) [ inl e ↦ ne e | inr e ↦ other e ]) ]
]

pub leads_or_not : (insn : Insn) (slot to : ℕ) → Leads insn slot to ⊎ (Leads insn slot to → ⊥)
leads_or_not (Goto off) slot to = one_or_not _ _
leads_or_not (GotoLong off) slot to = one_or_not _ _
leads_or_not (Jump width cond dst src off) slot to = two_or_not _ _ _
leads_or_not Exit slot to = inr (none _)
leads_or_not Half slot to = inr (none _)
leads_or_not (Wide dst low high) slot to = one_or_not _ _
leads_or_not (Alu width op dst src) slot to = one_or_not _ _
leads_or_not (Neg width dst) slot to = one_or_not _ _
leads_or_not (Load size dst src off) slot to = one_or_not _ _
leads_or_not (LoadSigned size dst src off) slot to = one_or_not _ _
leads_or_not (MovSigned width bits dst src) slot to = one_or_not _ _
leads_or_not (Swap order bits dst) slot to = one_or_not _ _

next_is_forward : (insn : Insn) (slot to : ℕ) → next_of insn slot ≡ Some to → slot < to
next_is_forward (Goto off) slot to e = cc
next_is_forward (GotoLong off) slot to e = cc
next_is_forward (Jump width cond dst src off) slot to e = let same : slot + 1 ≡ to = cc in omega (arith, same)
next_is_forward Exit slot to e = cc
next_is_forward Half slot to e = cc
next_is_forward (Wide dst low high) slot to e = let same : slot + 2 ≡ to = cc in omega (arith, same)
next_is_forward (Alu width op dst src) slot to e = let same : slot + 1 ≡ to = cc in omega (arith, same)
next_is_forward (Neg width dst) slot to e = let same : slot + 1 ≡ to = cc in omega (arith, same)
next_is_forward (Load size dst src off) slot to e = let same : slot + 1 ≡ to = cc in omega (arith, same)
next_is_forward (LoadSigned size dst src off) slot to e = let same : slot + 1 ≡ to = cc in omega (arith, same)
next_is_forward (MovSigned width bits dst src) slot to e = let same : slot + 1 ≡ to = cc in omega (arith, same)
next_is_forward (Swap order bits dst) slot to e = let same : slot + 1 ≡ to = cc in omega (arith, same)

above_or : (place : ℤ) (slot : ℕ) → (place ≤ℤ pos slot → ⊥) → (to : ℕ) × (place ≡ pos to) × (slot < to)
above_or (pos to) slot h = (to, refl, elim (cases_lt slot to) [ inl lt ↦ lt | inr le ↦ absurd (h (omega (arith, ints, le))) ])
above_or (negsuc n) slot h = absurd (h (omega (arith, ints)))

-- without a fault every edge leads forward and stays inside
pub edge_stays : (insn : Insn) (slot count : ℕ) → (JumpsBack insn slot → ⊥) → (LeavesProgram insn slot count → ⊥) → (place : ℤ) → Contains (edges slot insn) place → (to : ℕ) × (place ≡ pos to) × (slot < to) × (to < count)
edge_stays insn slot count forward stays place h = elim (edge_cases insn slot place h) [
  | inl next ↦ (next.0, sym next.2, next_is_forward insn slot next.0 next.1, inside_or next.0 count (λ le. stays (next.0, next_leads insn slot next.0 next.1, le)))
  | inr jump ↦ (let above = above_or place slot (λ le. let P : ℤ → Type 0 = λ z. z ≤ℤ pos slot in forward (jump.0, jump.1, subst P (sym jump.2) le)) in
      (above.0, above.1, above.2, inside_or above.0 count (λ le. let P : ℤ → Type 0 = λ z. Contains (edges slot insn) z in stays (above.0, subst P above.1 h, le))))
]

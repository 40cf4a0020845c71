-- Where nothing fails and the input is within the limit, its bytes are reported or refused, or memory runs out.
use Rattle.std.proofs.Common.{◌≡◌, ℕ, ◌≤◌, List, ◌++◌, length, Option, Some, None, refl, sym, ap, ◌∙◌, subst, arith, inl, inr, length-append, append-nil}
use Rattle.std.specs.Io.KnownBytes.{Consumes, IsAtEnd}
use Rattle.syn_outer.specs.Bytes.{ConsumesMoreThan}
use Rattle.syncord_endings.specs.declared.ending.Ending.{Ending}
use Rattle.syncord_endings.specs.declared.ending.Ending.TheVariants.{Done, NoReport, TooLarge, ReadFault, WriteFault}
use Rattle.syncord_endings.specs.declared.ending.Refusal.{Refusal}
use Rattle.syncord_endings.specs.declared.ending.Refusal.TheVariants.{Line, Program, Slot, Register, NoMemory}
use Rattle.syncord_endings.specs.Endings.{most_bytes, status_of, Ends, Decides}
use Rattle.syncord_endings.specs.Traffic.{Traffic}

-- what was read is what there was
same_bytes : (before after : Option (List ℕ)) (bytes read : List ℕ) → before ≡ Some bytes → Consumes before after read → IsAtEnd after → read ≡ bytes
same_bytes None after bytes read is consumes ended = cc
same_bytes (Some xs) None bytes read is consumes ended = absurd consumes
same_bytes (Some xs) (Some ys) bytes read is consumes ended =
    let first : xs ≡ bytes = cc in sym (append-nil read) ∙ ap (λ (l : List ℕ). read ++ l) (sym ended) ∙ sym consumes ∙ first

-- more than the limit can't have been taken of fewer
not_larger : (limit : ℕ) (before after : Option (List ℕ)) (bytes : List ℕ) → before ≡ Some bytes → length bytes ≤ limit → ConsumesMoreThan limit before after → ⊥
not_larger limit None after bytes is few more = cc
not_larger limit (Some xs) None bytes is few more = more.2
not_larger limit (Some xs) (Some ys) bytes is few more =
    let first : xs ≡ bytes = cc in
    let lengths : length bytes ≡ length (more.0 ++ ys) = ap length (sym first ∙ more.2) in
    let sum = length-append more.0 ys in omega (arith, lengths, sum, few, more.1)

decides : (reports : List ℕ → List ℕ → Type 0) (refuses : List ℕ → Refusal → Type 0) (input output : Traffic) (e : Ending)
    → Ends reports refuses input output e → Decides refuses input output (status_of e)
decides reports refuses input output Done ends = λ bytes is few sound whole. inl refl
decides reports refuses input output (NoReport NoMemory) ends = λ bytes is few sound whole. inr (inl refl)
decides reports refuses input output (NoReport (Line line what)) ends = λ bytes is few sound whole.
    inr (inr (Line line what, refl, subst (λ (b : List ℕ). refuses b (Line line what)) (same_bytes input.before input.after bytes ends.0.0 is ends.0.1.taken ends.0.1.ended) ends.0.2))
decides reports refuses input output (NoReport (Program number)) ends = λ bytes is few sound whole.
    inr (inr (Program number, refl, subst (λ (b : List ℕ). refuses b (Program number)) (same_bytes input.before input.after bytes ends.0.0 is ends.0.1.taken ends.0.1.ended) ends.0.2))
decides reports refuses input output (NoReport (Slot number slot)) ends = λ bytes is few sound whole.
    inr (inr (Slot number slot, refl, subst (λ (b : List ℕ). refuses b (Slot number slot)) (same_bytes input.before input.after bytes ends.0.0 is ends.0.1.taken ends.0.1.ended) ends.0.2))
decides reports refuses input output (NoReport (Register number slot register)) ends = λ bytes is few sound whole.
    inr (inr (Register number slot register, refl, subst (λ (b : List ℕ). refuses b (Register number slot register)) (same_bytes input.before input.after bytes ends.0.0 is ends.0.1.taken ends.0.1.ended) ends.0.2))
decides reports refuses input output TooLarge ends = λ bytes is few sound whole. absurd (not_larger most_bytes input.before input.after bytes is few ends.0)
decides reports refuses input output ReadFault ends = λ bytes is few sound whole. absurd (sound ends.0)
decides reports refuses input output (WriteFault written) ends = λ bytes is few sound whole. absurd (whole ends.6)

pub decides_by_status : (reports : List ℕ → List ℕ → Type 0) (refuses : List ℕ → Refusal → Type 0) (input output : Traffic) (e : Ending) (status : ℕ)
    → status ≡ status_of e → Ends reports refuses input output e → Decides refuses input output status
decides_by_status reports refuses input output e status is ends = subst (λ (n : ℕ). Decides refuses input output n) (sym is) (decides reports refuses input output e ends)

-- The lists of kinds with which paths arrive, by the last slot but one.
use Rattle.std.proofs.Common.{◌≡◌, ◌⊎◌, inl, inr, ℕ, ◌+◌, ◌<◌, List, [], ◌∷◌, length, refl, ap, ◌∙◌, subst, arith}
use Rattle.std.proofs.lemmas.Bool.Decides.{eqb_tells}
use Rattle.bpf_isa.specs.declared.insn.Insn.{Insn}
use Rattle.bpf_isa.specs.Flow.{insn_at}
use Rattle.bpf_verifier.specs.declared.kind.Kind.{Kind}
use Rattle.bpf_verifier.specs.Kinds.{kinds_after}
use Rattle.bpf_verifier.specs.Paths.{Edge, IsPath, kinds_along}
use Rattle.bpf_verifier.proofs.Results.{Image, length-kinds_after}

-- a path ends at the slot with these kinds
abbrev pub Arrives : List Insn → ℕ → List Kind → Type 0
Arrives insns slot kinds = (path : List ℕ) × IsPath insns (slot ∷ path) × (kinds ≡ kinds_along insns (slot ∷ path))

abbrev pub BeginsBelow : ℕ → List ℕ → Type 0
BeginsBelow bound [] = Unit {0}
BeginsBelow bound (slot ∷ path) = slot < bound

-- the same for paths whose last step begins below a bound
abbrev pub ArrivesFromBelow : List Insn → ℕ → ℕ → List Kind → Type 0
ArrivesFromBelow insns bound slot kinds = (path : List ℕ) × IsPath insns (slot ∷ path) × BeginsBelow bound path × (kinds ≡ kinds_along insns (slot ∷ path))

-- the kinds that the instruction of a slot hands on
abbrev pub HandedOn : List Insn → ℕ → List Kind → Type 0
HandedOn insns slot = Image (Arrives insns slot) (kinds_after (insn_at insns slot))

pub length-kinds_along : (insns : List Insn) (path : List ℕ) → length (kinds_along insns path) ≡ 10
length-kinds_along insns [] = refl
length-kinds_along insns (slot ∷ []) = refl
length-kinds_along insns (to ∷ slot ∷ path) = length-kinds_after (insn_at insns slot) (kinds_along insns (slot ∷ path)) ∙ length-kinds_along insns (slot ∷ path)

pub arrives_long : (insns : List Insn) (slot : ℕ) (kinds : List Kind) → Arrives insns slot kinds → length kinds ≡ 10
arrives_long insns slot kinds h = ap (λ (l : List Kind). length l) h.2 ∙ length-kinds_along insns (slot ∷ h.0)

-- every path comes from below
pub from_below : (insns : List Insn) (slot : ℕ) (kinds : List Kind) → Arrives insns slot kinds → ArrivesFromBelow insns slot slot kinds
from_below insns slot kinds h = (h.0, h.1, below h.0 h.1, h.2)
  where
    below : (path : List ℕ) → IsPath insns (slot ∷ path) → BeginsBelow slot path
    below [] p = tt
    below (last ∷ path) p = p.1.forward

pub arrives : (insns : List Insn) (bound slot : ℕ) (kinds : List Kind) → ArrivesFromBelow insns bound slot kinds → Arrives insns slot kinds
arrives insns bound slot kinds h = (h.0, h.1, h.3)

pub from_more : (insns : List Insn) (bound slot : ℕ) (kinds : List Kind) → ArrivesFromBelow insns bound slot kinds → ArrivesFromBelow insns (bound + 1) slot kinds
from_more insns bound slot kinds h = (h.0, h.1, wider h.0 h.2, h.3)
  where
    wider : (path : List ℕ) → BeginsBelow bound path → BeginsBelow (bound + 1) path
    wider [] b = tt
    wider (last ∷ path) b = omega (arith, b)

-- the last step began below, or at the slot itself
pub by_last_step : (insns : List Insn) (slot to : ℕ) (kinds : List Kind) → ArrivesFromBelow insns (slot + 1) to kinds → ArrivesFromBelow insns slot to kinds ⊎ (Edge insns slot to × HandedOn insns slot kinds)
by_last_step insns slot to kinds h = by_path h.0 h.1 h.2 h.3
  where
    by_path : (path : List ℕ) → IsPath insns (to ∷ path) → BeginsBelow (slot + 1) path → kinds ≡ kinds_along insns (to ∷ path) → ArrivesFromBelow insns slot to kinds ⊎ (Edge insns slot to × HandedOn insns slot kinds)
    by_path [] p b e = inl ([], p, tt, e)
    by_path (last ∷ path) p b e = elim (eqb_tells last slot) [
      | inl same ↦ (let P : ℕ → Type 0 = λ n. IsPath insns (to ∷ n ∷ path) × (kinds ≡ kinds_along insns (to ∷ n ∷ path)) in
          let here : IsPath insns (to ∷ slot ∷ path) × (kinds ≡ kinds_along insns (to ∷ slot ∷ path)) = subst P same.1 (p, e) in
          inr (here.0.1, (kinds_along insns (slot ∷ path), (path, here.0.0, refl), here.1)))
      | inr other ↦ inl (last ∷ path, p, omega (arith, b, other.1), e)
    ]

pub arrives_from : (insns : List Insn) (slot to : ℕ) (kinds : List Kind) → Edge insns slot to → HandedOn insns slot kinds → ArrivesFromBelow insns (slot + 1) to kinds
arrives_from insns slot to kinds edge h = (slot ∷ h.1.0, (h.1.1, edge), omega arith, h.2 ∙ ap (kinds_after (insn_at insns slot)) h.1.2)

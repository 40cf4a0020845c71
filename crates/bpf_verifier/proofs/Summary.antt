-- One list of kinds can sum up a set of lists, those with which paths arrive at a slot.
use Rattle.std.proofs.Common.{◌≡◌, ◌≢◌, ◌⊎◌, inl, inr, ℕ, ◌<◌, List, length, Option, Some, None, refl, sym, ◌∙◌, subst}
use Rattle.bpf_verifier.specs.declared.kind.Kind.{Kind}
use Rattle.bpf_verifier.specs.declared.kind.Kind.TheVariants.{Absent, Number, Context}
use Rattle.bpf_verifier.specs.Kinds.{kind_at}
use Rattle.bpf_verifier.specs.Pass.{meet, IsMeet, Joins}

-- the sum has a kind where all lists have it, and none where they differ
pub record SumsUp (Lists : List Kind → Type 0) (sum : List Kind) : Type 0 where
  pub long : length sum ≡ 10
  pub some : (kinds : List Kind) × Lists kinds
  pub agree : (reg : ℕ) (kind : Kind) → reg < 10 → kind_at sum reg ≡ kind → kind ≢ Absent → (kinds : List Kind) → Lists kinds → kind_at kinds reg ≡ kind
  pub differ : (reg : ℕ) (kind : Kind) → reg < 10 → kind_at sum reg ≡ Absent → kind ≢ Absent → (kinds : List Kind) × Lists kinds × (kind_at kinds reg ≢ kind)

-- a slot's state says that no path arrives, or sums up those that do
abbrev pub IsState : (List Kind → Type 0) → Option (List Kind) → Type 0
IsState Lists None = (kinds : List Kind) → Lists kinds → ⊥
IsState Lists (Some sum) = SumsUp Lists sum

-- the same set in other words
pub in_other_words : (S T : List Kind → Type 0) → ((kinds : List Kind) → S kinds → T kinds) → ((kinds : List Kind) → T kinds → S kinds) → (state : Option (List Kind)) → IsState S state → IsState T state
in_other_words S T to from None h = λ kinds t. h kinds (from kinds t)
in_other_words S T to from (Some sum) h = record {
  long = h.long;
  some = (h.some.0, to h.some.0 h.some.1);
  agree = λ reg kind lt e ne kinds t. h.agree reg kind lt e ne kinds (from kinds t);
  differ = λ reg kind lt e ne. let other = h.differ reg kind lt e ne in (other.0, to other.0 other.1, other.2);
}

abbrev pub Either : (List Kind → Type 0) → (List Kind → Type 0) → List Kind → Type 0
Either S T kinds = S kinds ⊎ T kinds

meet-left : (a b kind : Kind) → meet a b ≡ kind → kind ≢ Absent → a ≡ kind
meet-left Absent b kind e ne = absurd (ne (sym e))
meet-left Number Absent kind e ne = absurd (ne (sym e))
meet-left Number Number kind e ne = e
meet-left Number Context kind e ne = absurd (ne (sym e))
meet-left Context Absent kind e ne = absurd (ne (sym e))
meet-left Context Number kind e ne = absurd (ne (sym e))
meet-left Context Context kind e ne = e

meet-right : (a b kind : Kind) → meet a b ≡ kind → kind ≢ Absent → b ≡ kind
meet-right Absent b kind e ne = absurd (ne (sym e))
meet-right Number Absent kind e ne = absurd (ne (sym e))
meet-right Number Number kind e ne = e
meet-right Number Context kind e ne = absurd (ne (sym e))
meet-right Context Absent kind e ne = absurd (ne (sym e))
meet-right Context Number kind e ne = absurd (ne (sym e))
meet-right Context Context kind e ne = e

meet-neither : (a b kind : Kind) → meet a b ≡ Absent → kind ≢ Absent → (a ≢ kind) ⊎ (b ≢ kind)
meet-neither Absent b kind e ne = inl (λ h. ne (sym h))
meet-neither Number Absent kind e ne = inr (λ h. ne (sym h))
meet-neither Context Absent kind e ne = inr (λ h. ne (sym h))
meet-neither Number Number kind e ne = cc
meet-neither Context Context kind e ne = cc
meet-neither Number Context Absent e ne = absurd (ne refl)
meet-neither Number Context Number e ne = inr (λ h. cc)
meet-neither Number Context Context e ne = inl (λ h. cc)
meet-neither Context Number Absent e ne = absurd (ne refl)
meet-neither Context Number Context e ne = inr (λ h. cc)
meet-neither Context Number Number e ne = inl (λ h. cc)

-- where the sum isn't of a kind, some list isn't
pub one_differs : (S : List Kind → Type 0) (sum : List Kind) (reg : ℕ) (kind : Kind) → SumsUp S sum → reg < 10 → kind_at sum reg ≢ kind → kind ≢ Absent → (kinds : List Kind) × S kinds × (kind_at kinds reg ≢ kind)
one_differs S sum reg kind h lt ne given = by_kind (kind_at sum reg) refl
  where
    by_kind : (now : Kind) → kind_at sum reg ≡ now → (kinds : List Kind) × S kinds × (kind_at kinds reg ≢ kind)
    by_kind Absent e = h.differ reg kind lt e given
    by_kind Number e = (h.some.0, h.some.1, λ f. ne (e ∙ sym (h.agree reg Number lt e (λ x. cc) h.some.0 h.some.1) ∙ f))
    by_kind Context e = (h.some.0, h.some.1, λ f. ne (e ∙ sym (h.agree reg Context lt e (λ x. cc) h.some.0 h.some.1) ∙ f))

sums_up_meet : (S T : List Kind → Type 0) (a b met : List Kind) → SumsUp S a → SumsUp T b → IsMeet a b met → SumsUp (Either S T) met
sums_up_meet S T a b met p q e = record {
  long = e.long;
  some = (p.some.0, inl p.some.1);
  agree = λ reg kind lt is ne kinds either. elim either [
    | inl s ↦ p.agree reg kind lt (meet-left (kind_at a reg) (kind_at b reg) kind (sym (e.each reg lt) ∙ is) ne) ne kinds s
    | inr t ↦ q.agree reg kind lt (meet-right (kind_at a reg) (kind_at b reg) kind (sym (e.each reg lt) ∙ is) ne) ne kinds t
  ];
  differ = λ reg kind lt is ne. elim (meet-neither (kind_at a reg) (kind_at b reg) kind (sym (e.each reg lt) ∙ is) ne) [
    | inl other ↦ (let one = one_differs S a reg kind p lt other ne in (one.0, inl one.1, one.2))
    | inr other ↦ (let one = one_differs T b reg kind q lt other ne in (one.0, inr one.1, one.2))
  ];
}

-- a state with one more sum
pub joined : (S T : List Kind → Type 0) (old new : Option (List Kind)) (sum : List Kind) → IsState S old → SumsUp T sum → Joins old sum new → IsState (Either S T) new
joined S T None None sum h t j = absurd j
joined S T None (Some now) sum h t j =
    let t' : SumsUp T now = let P : List Kind → Type 0 = λ v. SumsUp T v in subst P (sym j) t in
    record {
      long = t'.long;
      some = (t'.some.0, inr t'.some.1);
      agree = λ reg kind lt is ne kinds either. elim either [ inl s ↦ absurd (h kinds s) | inr x ↦ t'.agree reg kind lt is ne kinds x ];
      differ = λ reg kind lt is ne. let one = t'.differ reg kind lt is ne in (one.0, inr one.1, one.2);
    }
joined S T (Some old) None sum h t j = absurd j
joined S T (Some old) (Some now) sum h t j = sums_up_meet S T old sum now h t j

-- Lines that were read one after the other stand there one after the other.
use Rattle.std.proofs.Common.{◌≡◌, ℕ, ◌+◌, List, [], ◌∷◌, ◌++◌, map, Option, Some, None, Result, Ok, refl, sym, ap, ◌∙◌, subst, append_assoc}
use Rattle.std.specs.List.{AllByRecursion}
use Rattle.std.proofs.lemmas.List.{append-nil}
use Rattle.doc_text.specs.declared.fault.Fault.{Fault}
use Rattle.doc_text.specs.Text.{text_in, IsPlain, ended}
use Rattle.doc_text.specs.Faults.{or_fault, or_end, lines_from, section_from}
use Rattle.doc_text.proofs.Joining.{text_in-some}
use Rattle.doc_text.proofs.Due.{bind-some, or_fault-some}
use Rattle.policy_text.proofs.Chains.{ok-same}

-- a piece in front of pieces
pub in_front : (p t u : List ℕ) (ps qs : List (List ℕ)) → p ≡ ended t → t ≡ u → ps ≡ qs → p ∷ ps ≡ ended u ∷ qs
in_front p t u ps qs e f g = rw (e, f, g) refl

module _ {A : Type 0} (says : List A → ℕ → List ℕ → Result A Fault) (write : A → List ℕ) (Kept : List A → Type 0)
    (step : (before : List A) (line : ℕ) (t : List ℕ) (a : A) → IsPlain t → says before line t ≡ Ok a → Kept before → (t ≡ write a) × Kept (before ++ a ∷ [])) where
  -- to the end
  pub lines_from-read : (ps : List (List ℕ)) (before : List A) (line : ℕ) (all : List A) → Kept before → lines_from says before line ps ≡ Ok all
      → (xs : List A) × (all ≡ before ++ xs) × (ps ≡ map ended (map write xs)) × Kept all
  unfolding lines_from
  lines_from-read [] before line all kept h =
      let e : before ≡ all = ok-same before all h in
      ([], sym e ∙ sym (append-nil before), refl, subst Kept e kept)
  lines_from-read (p ∷ ps) before line all kept h =
      let t = bind-some (or_fault line 1 (text_in p)) _ all h in
      let u = text_in-some p t.0 (or_fault-some line 1 (text_in p) t.0 t.1) in
      let a = bind-some (says before line t.0) _ all t.2 in
      let s = step before line t.0 a.0 u.0 a.1 kept in
      let more = lines_from-read ps (before ++ a.0 ∷ []) (line + 1) all s.1 a.2 in
      (a.0 ∷ more.0, more.1 ∙ append_assoc before (a.0 ∷ []) more.0, in_front p t.0 (write a.0) ps (map ended (map write more.0)) u.1 s.0 more.2, more.3)

module _ {A : Type 0} (says : List A → ℕ → List ℕ → Result (Option A) Fault) (due : List A → ℕ) (write : A → List ℕ) (Kept : List A → Type 0)
    (step : (before : List A) (line : ℕ) (t : List ℕ) (a : A) → IsPlain t → says before line t ≡ Ok (Some a) → Kept before → (t ≡ write a) × Kept (before ++ a ∷ [])) where
  -- what was read of a section, and that a line ended it
  abbrev pub SectionRead : List A → List (List ℕ) → List A → List (List ℕ) → Type 0
  SectionRead before ps all qs = (xs : List A) × (all ≡ before ++ xs) × (ps ≡ map ended (map write xs) ++ qs) × Kept all × ((line : ℕ) × (t : List ℕ) × (says all line t ≡ Ok None))

  pub section_from-read : (ps : List (List ℕ)) (before : List A) (line : ℕ) (all : List A) (qs : List (List ℕ)) → Kept before → section_from says due before line ps ≡ Ok (all, qs) → SectionRead before ps all qs
  unfolding section_from
  section_from-read [] before line all qs kept h = cc
  section_from-read (p ∷ ps) before line all qs kept h =
      let t = bind-some (or_fault line 1 (text_in p)) _ (all, qs) h in
      let u = text_in-some p t.0 (or_fault-some line 1 (text_in p) t.0 t.1) in
      let o = bind-some (says before line t.0) _ (all, qs) t.2 in
      by_option (λ more keeps k. section_from-read ps more (line + 1) all qs keeps k) t.0 u.0 u.1 o.0 o.1 o.2
    where
      by_option : ((more : List A) → Kept more → section_from says due more (line + 1) ps ≡ Ok (all, qs) → SectionRead more ps all qs)
          → (t : List ℕ) → IsPlain t → p ≡ ended t → (o : Option A) → says before line t ≡ Ok o
          → or_end o (Ok (before, p ∷ ps)) (λ a. section_from says due (before ++ a ∷ []) (line + 1) ps) ≡ Ok (all, qs) → SectionRead before (p ∷ ps) all qs
      by_option again t plain e None g k =
          let pair : (before, p ∷ ps) ≡ (all, qs) = ok-same (before, p ∷ ps) (all, qs) k in
          let same : before ≡ all = ap (λ (x : List A × List (List ℕ)). x.0) pair in
          ([], sym same ∙ sym (append-nil before), ap (λ (x : List A × List (List ℕ)). x.1) pair, subst Kept same kept, (line, t, subst (λ (b : List A). says b line t ≡ Ok None) same g))
      by_option again t plain e (Some a) g k =
          let s = step before line t a plain g kept in
          let r = again (before ++ a ∷ []) s.1 k in
          (a ∷ r.0, r.1 ∙ append_assoc before (a ∷ []) r.0, in_front p t (write a) ps (map ended (map write r.0) ++ qs) e s.0 r.2, r.3, r.4)

-- what holds of all holds of one among them
pub all-at : {X : Type 0} (P : X → Type 0) (xs ys : List X) (x : X) → AllByRecursion P (xs ++ x ∷ ys) → P x
all-at P [] ys x h = h.0
all-at P (z ∷ zs) ys x h = all-at P zs ys x h.1

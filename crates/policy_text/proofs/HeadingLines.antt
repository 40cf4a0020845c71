-- The heading of a document is read as it is written.
use Rattle.std.proofs.Common.{◌≡◌, ◌⊎◌, inl, inr, ℕ, List, [], ◌∷◌, ◌++◌, map, Bool, true, false, cond, eqb, Option, Some, None, Result, Ok, refl, sym, ap, ◌∙◌, subst}
use Rattle.std.specs.Prelude.{codes}
use Rattle.std.specs.List.{flat_map}
use Rattle.bpf_isa.specs.declared.insn.Profile.{Profile}
use Rattle.bpf_isa.specs.declared.insn.Profile.TheVariants as profile
use Rattle.doc_text.specs.declared.fault.Fault.{Fault}
use Rattle.doc_text.specs.Text.{pieces, IsPlain, ended}
use Rattle.doc_text.specs.Words.{words, spaced, same, two}
use Rattle.doc_text.specs.Faults.{◌>>=◌, one_of}
use Rattle.doc_text.proofs.Joining.{same-true, same-self}
use Rattle.doc_text.proofs.Due.{bind-some, one_of-some, one_of-ended}
use Rattle.policy_text.specs.Headings.{version_in, profile_in, Heading, heading, heading_in, heading_lines, profile_word, IsVersion}
use Rattle.policy_text.proofs.Chains.{then-some, test-some, some-same, ok-same, two-some}
use Rattle.policy_text.proofs.Parts.{IsPart, line-plain, line-words, text-spaced, pieces-lines_before}

-- the words of a first line, with its version
abbrev Named : List ℕ → List (List ℕ) → ℕ → Type 0
Named title ws v = ((v ≡ 1) × (ws ≡ title ∷ codes "1" ∷ [])) ⊎ ((v ≡ 2) × (ws ≡ title ∷ codes "2" ∷ []))

two-known : (ws : List (List ℕ)) (a b c d : List ℕ) → ws ≡ a ∷ b ∷ [] → a ≡ c → b ≡ d → ws ≡ c ∷ d ∷ []
two-known ws a b c d e p q = e ∙ rw (p, q) refl

version_in-some : (title : List ℕ) (ws : List (List ℕ)) (v : ℕ) → version_in title ws ≡ Some v → Named title ws v
version_in-some title ws v h =
    let w = then-some (two ws) _ v h in
    let t = test-some (same w.0.0 title) _ v w.2 in
    by_number w.0.0 w.0.1 (two-some ws w.0 w.1) (same-true w.0.0 title t.0) (same w.0.1 (codes "1")) (same w.0.1 (codes "2")) refl refl t.1
  where
    by_number : (a b : List ℕ) → ws ≡ a ∷ b ∷ [] → a ≡ title → (x y : Bool) → same b (codes "1") ≡ x → same b (codes "2") ≡ y → ◌≡◌ {A = Option ℕ} (cond x (Some 1) (cond y (Some 2) None)) (Some v) → Named title ws v
    by_number a b e f true y p q k = let is : 1 ≡ v = some-same 1 v k in inl (sym is, two-known ws a b title (codes "1") e f (same-true b (codes "1") p))
    by_number a b e f false true p q k = let is : 2 ≡ v = some-same 2 v k in inr (sym is, two-known ws a b title (codes "2") e f (same-true b (codes "2") q))
    by_number a b e f false false p q k = cc

profile_in-some : (ws : List (List ℕ)) (q : Profile) → profile_in ws ≡ Some q → ws ≡ codes "profile" ∷ profile_word q ∷ []
profile_in-some ws q h =
    let w = then-some (two ws) _ q h in
    let t = test-some (same w.0.0 (codes "profile")) _ q w.2 in
    by_number w.0.0 w.0.1 (two-some ws w.0 w.1) (same-true w.0.0 (codes "profile") t.0) (same w.0.1 (codes "1")) (same w.0.1 (codes "2")) refl refl t.1
  where
    by_number : (a b : List ℕ) → ws ≡ a ∷ b ∷ [] → a ≡ codes "profile" → (x y : Bool) → same b (codes "1") ≡ x → same b (codes "2") ≡ y → ◌≡◌ {A = Option Profile} (cond x (Some profile.One) (cond y (Some profile.Two) None)) (Some q) → ws ≡ codes "profile" ∷ profile_word q ∷ []
    by_number a b e f true y p r k =
        let is : profile.One ≡ q = some-same profile.One q k in
        two-known ws a b (codes "profile") (profile_word q) e f (same-true b (codes "1") p ∙ ap profile_word is)
    by_number a b e f false true p r k =
        let is : profile.Two ≡ q = some-same profile.Two q k in
        two-known ws a b (codes "profile") (profile_word q) e f (same-true b (codes "2") r ∙ ap profile_word is)
    by_number a b e f false false p r k = cc

-- the pieces are the lines of the heading and those behind them
abbrev pub Heads : List ℕ → List (List ℕ) → Heading → Type 0
Heads title ps h = (ps ≡ map ended (heading_lines title h.version h.profile) ++ h.rest) × IsVersion h.version h.profile

pub heading_in-some : (title : List ℕ) (what : ℕ) (ps : List (List ℕ)) (h : Heading) → heading_in title what ps ≡ Ok h → Heads title ps h
unfolding heading_in
heading_in-some title what ps h is =
    let r = bind-some (one_of 1 2 (version_in title) ps) _ h is in
    let o = one_of-some 1 2 (version_in title) ps r.0.1 r.0.0 r.1 in
    by_version o.0 r.0.1 r.0.0 o.2 (version_in-some title (words o.0) r.0.0 o.3) r.2
  where
    by_version : (t : List ℕ) (qs : List (List ℕ)) (v : ℕ) → ps ≡ ended t ∷ qs → Named title (words t) v
        → ◌≡◌ {A = Result Heading Fault} (cond (eqb v 1) (Ok (heading 1 profile.One qs)) (one_of 2 what profile_in qs >>= λ second. Ok (heading 2 second.0 second.1))) (Ok h) → Heads title ps h
    by_version t qs v e (inl (first, ws)) k =
        let made : heading 1 profile.One qs ≡ h = ok-same (heading 1 profile.One qs) h (rw first at k) in
        subst (Heads title ps) made (e ∙ ap (λ (u : List ℕ). ended u ∷ qs) (text-spaced t (title ∷ codes "1" ∷ []) ws), inl (refl, refl))
    by_version t qs v e (inr (second, ws)) k =
        let s = bind-some (one_of 2 what profile_in qs) _ h (rw second at k) in
        let p = one_of-some 2 what profile_in qs s.0.1 s.0.0 s.1 in
        let made : heading 2 s.0.0 s.0.1 ≡ h = ok-same (heading 2 s.0.0 s.0.1) h s.2 in
        let first_line = text-spaced t (title ∷ codes "2" ∷ []) ws in
        let second_line = text-spaced p.0 (codes "profile" ∷ profile_word s.0.0 ∷ []) (profile_in-some (words p.0) s.0.0 p.3) in
        subst (Heads title ps) made (
          e ∙ ap (λ (u : List ℕ). ended u ∷ qs) first_line ∙ ap (λ (us : List (List ℕ)). ended (spaced (title ∷ codes "2" ∷ [])) ∷ us) (p.2 ∙ ap (λ (u : List ℕ). ended u ∷ s.0.1) second_line),
          inr refl,
        )

-- the lines of a heading
abbrev version_line : List ℕ → List ℕ → List ℕ
version_line title number = spaced (title ∷ number ∷ [])

abbrev profile_line : Profile → List ℕ
profile_line p = spaced (codes "profile" ∷ profile_word p ∷ [])

profile-plain : (p : Profile) → IsPlain (profile_line p)
profile-plain profile.One = refl
profile-plain profile.Two = refl

profile_in-line : (p : Profile) → profile_in (words (profile_line p)) ≡ Some p
profile_in-line profile.One = refl
profile_in-line profile.Two = refl

version_in-line : (title : List ℕ) (number : List ℕ) (v : ℕ) → IsPart title → IsPart number → version_in title (title ∷ number ∷ []) ≡ Some v → version_in title (words (version_line title number)) ≡ Some v
version_in-line title number v part digit h = ap (version_in title) (line-words title (number ∷ []) (part, (digit, tt))) ∙ h

-- the lines of a heading are read as it
pub heading_in-lines : (title : List ℕ) (what version : ℕ) (p : Profile) (rest : List ℕ) → IsPart title → IsVersion version p
    → heading_in title what (pieces (flat_map ended (heading_lines title version p) ++ rest)) ≡ Ok (heading version p (pieces rest))
unfolding heading_in
heading_in-lines title what version p rest part (inl (first, named)) =
    let plain = line-plain (title ∷ codes "1" ∷ []) (part, ((refl, refl), tt)) in
    let found = version_in-line title (codes "1") 1 part (refl, refl) (rw (same-self title) refl) in
    rw (first, named, pieces-lines_before (version_line title (codes "1") ∷ []) rest (plain, tt), one_of-ended 1 2 (version_in title) (version_line title (codes "1")) (pieces rest) 1 plain found) refl
heading_in-lines title what version p rest part (inr second) =
    let plain = line-plain (title ∷ codes "2" ∷ []) (part, ((refl, refl), tt)) in
    let found = version_in-line title (codes "2") 2 part (refl, refl) (rw (same-self title) refl) in
    let front = one_of-ended 1 2 (version_in title) (version_line title (codes "2")) (ended (profile_line p) ∷ pieces rest) 2 plain found in
    let next = one_of-ended 2 what profile_in (profile_line p) (pieces rest) p (profile-plain p) (profile_in-line p) in
    rw (second, pieces-lines_before (version_line title (codes "2") ∷ profile_line p ∷ []) rest (plain, (profile-plain p, tt)), front, next) refl

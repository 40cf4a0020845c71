-- Texts of policies are read as them.
use Rattle.std.proofs.Common.{◌≡◌, ◌<◌, inl, inr, ℕ, ◌+◌, List, [], ◌∷◌, ◌++◌, length, Bool, true, false, cond, eqb, leb, Option, Some, None, Result, Ok, refl, sym, ap, ◌∙◌, subst, arith, append_assoc}
use Rattle.std.specs.Prelude.{codes}
use Rattle.std.specs.List.{flat_map, AllByRecursion, AllZip}
use Rattle.std.proofs.lemmas.Bool.{lt-leb, ne_eqb}
use Rattle.std.proofs.lemmas.List.{append-nil}
use Rattle.bpf_isa.specs.declared.insn.Profile.{Profile}
use Rattle.doc_text.specs.declared.fault.Fault.{Fault}
use Rattle.doc_text.specs.Text.{pieces, text_in, IsPlain, ended}
use Rattle.doc_text.specs.Words.{words, same, is_word}
use Rattle.doc_text.specs.Faults.{fault, ◌>>=◌, or_fault}
use Rattle.doc_text.proofs.Joining.{same-true, pieces-ended, text_in-ended}
use Rattle.policy_text.specs.Sections.{begins}
use Rattle.policy_text.specs.Accepted.{AcceptsSource, Judged}
use Rattle.policy_text.proofs.Parts.{IsPart, line-plain, line-words}
use Rattle.policy_text.proofs.ProgramWords.{source_in-words, program-part, program-is_word}
use Rattle.trace_text.specs.declared.faults.TheConstants.{POLICY, POLICIES, AGAIN, DIGITS, PROGRAM}
use Rattle.trace_text.specs.Document.{PolicyLine}
use Rattle.trace_text.specs.Lines.{is_policy_name, PolicyWords, policy_in, programs_in, is_declared}
use Rattle.trace_text.specs.Grammar.{policy_says, ReadsPolicies}
use Rattle.trace_text.specs.Texts.{IsPolicyText}
use Rattle.trace_text.specs.Limits.{IsPolicy}
use Rattle.trace_text.proofs.PolicyNames.{policy_name-part}

policy-parts : (profile : Profile) (p : PolicyLine) (t : List ℕ) → IsPolicy profile p → (h : IsPolicyText p t) → AllByRecursion IsPart (codes "policy" ∷ p.name ∷ h.0 ∷ h.1 ∷ [])
policy-parts profile p t good h = ((refl, refl), (policy_name-part p.name good.name, (program-part p.source.should h.0 h.3, (program-part p.source.skip h.1 h.4, tt))))

pub policy_text-plain : (profile : Profile) (p : PolicyLine) (t : List ℕ) → IsPolicy profile p → IsPolicyText p t → IsPlain t
policy_text-plain profile p t good h = subst IsPlain (sym h.2) (line-plain (codes "policy" ∷ p.name ∷ h.0 ∷ h.1 ∷ []) (policy-parts profile p t good h))

policy_text-words : (profile : Profile) (p : PolicyLine) (t : List ℕ) → IsPolicy profile p → (h : IsPolicyText p t) → words t ≡ codes "policy" ∷ p.name ∷ h.0 ∷ h.1 ∷ []
policy_text-words profile p t good h = ap words h.2 ∙ line-words (codes "policy") (p.name ∷ h.0 ∷ h.1 ∷ []) (policy-parts profile p t good h)

pub policy_text-begins : (profile : Profile) (p : PolicyLine) (t : List ℕ) → IsPolicy profile p → IsPolicyText p t → begins (codes "worker") (words t) ≡ false
policy_text-begins profile p t good h = ap (begins (codes "worker")) (policy_text-words profile p t good h)

-- words that say a policy where it may stand
says-policy : (before : List PolicyLine) (line : ℕ) (t : List ℕ) (ws : List (List ℕ)) (p : PolicyLine) (w : PolicyWords) → same t (codes "calls") ≡ false → policy_in ws ≡ Some w → length before < 64 → is_declared before w.name ≡ false → programs_in w ≡ Some p
    → ◌≡◌ {A = Result (Option PolicyLine) Fault} (cond (same t (codes "calls")) (cond (eqb (length before) 0) (fault line POLICY) (Ok None)) (or_fault line POLICY (policy_in ws) >>= λ w. cond (leb 64 (length before)) (fault line POLICIES) (cond (is_declared before w.name) (fault line AGAIN) (or_fault line DIGITS (programs_in w) >>= λ policy. Ok (Some policy))))) (Ok (Some p))
says-policy before line t ws p w other read room new programs = rw (other, read, lt-leb 64 (length before) room, new, programs) refl

policy_in-known : (name should skip : List ℕ) → is_policy_name name ≡ true → is_word should ≡ true → is_word skip ≡ true → policy_in (codes "policy" ∷ name ∷ should ∷ skip ∷ []) ≡ Some (record { name = name; should = should; skip = skip })
policy_in-known name should skip a b c = rw (a, b, c) refl

pub policy_says-text : (profile : Profile) (before : List PolicyLine) (line : ℕ) (p : PolicyLine) (t : List ℕ) → IsPolicy profile p → IsPolicyText p t → length before < 64 → is_declared before p.name ≡ false → policy_says before line t ≡ Ok (Some p)
unfolding policy_says
policy_says-text profile before line p t good h room new =
    let ws = policy_text-words profile p t good h in
    let should = program-is_word profile p.source.should h.0 good.accepted.0 h.3 in
    let skip = program-is_word profile p.source.skip h.1 good.accepted.1 h.4 in
    let w : PolicyWords = record { name = p.name; should = h.0; skip = h.1 } in
    let read : policy_in (words t) ≡ Some w = ap policy_in ws ∙ policy_in-known p.name h.0 h.1 good.name should skip in
    let programs : programs_in w ≡ Some p = rw (source_in-words h.0 h.1 p.source h.3 h.4) refl in
    says-policy before line t (words t) p w (other ws (same t (codes "calls")) refl) read room new programs
  where
    other : words t ≡ codes "policy" ∷ p.name ∷ h.0 ∷ h.1 ∷ [] → (v : Bool) → same t (codes "calls") ≡ v → same t (codes "calls") ≡ false
    other ws true e = let two : words (codes "calls") ≡ codes "policy" ∷ p.name ∷ h.0 ∷ h.1 ∷ [] = subst (λ (x : List ℕ). words x ≡ codes "policy" ∷ p.name ∷ h.0 ∷ h.1 ∷ []) (same-true t (codes "calls") e) ws in cc
    other ws false e = e

abbrev Policies : Type 0
Policies = Result (List PolicyLine × List (List ℕ)) Fault

module _ (profile : Profile) (before : List PolicyLine) (line : ℕ) (ps qs : List (List ℕ)) (p t : List ℕ) (read : Policies) (e : ps ≡ p ∷ qs) (f : text_in p ≡ Some t) where
  ends-only : (all : List PolicyLine) → before ≡ all → policy_says before line t ≡ Ok None → ReadsPolicies profile before line ps read → read ≡ Ok (all, p ∷ qs)
  unfolding ReadsPolicies
  ends-only all same g h = subst (λ (b : List PolicyLine). read ≡ Ok (b, p ∷ qs)) same (rw (e, f, g) at h)

  more-only : (policy : PolicyLine) → policy_says before line t ≡ Ok (Some policy) → AcceptsSource profile policy.source → ReadsPolicies profile before line ps read → ReadsPolicies profile (before ++ policy ∷ []) (line + 1) qs read
  unfolding ReadsPolicies
  more-only policy g accepted h = by_judged (rw (e, f, g) at h)
    where
      by_judged : Judged profile policy.source (ReadsPolicies profile (before ++ policy ∷ []) (line + 1) qs read) (read ≡ fault line PROGRAM) → ReadsPolicies profile (before ++ policy ∷ []) (line + 1) qs read
      by_judged (inl (yes_, more)) = more
      by_judged (inr (refused, bad)) = absurd (refused accepted)

  ends-read : read ≡ Ok (before, p ∷ qs) → policy_says before line t ≡ Ok None → ReadsPolicies profile before line ps read
  unfolding ReadsPolicies
  ends-read is g = rw (e, f, g) is

  more-read : (policy : PolicyLine) → policy_says before line t ≡ Ok (Some policy) → AcceptsSource profile policy.source → ReadsPolicies profile (before ++ policy ∷ []) (line + 1) qs read → ReadsPolicies profile before line ps read
  unfolding ReadsPolicies
  more-read policy g accepted h = rw (e, f, g) (inl (accepted, h))

calls-ends : (before : List PolicyLine) (line : ℕ) → 0 < length before → policy_says before line (codes "calls") ≡ Ok None
unfolding policy_says
calls-ends before line some = rw (ne_eqb (length before) 0 (λ e. omega (arith, some, e))) refl

-- the texts of policies are read as them, up to the line `calls`
pub policies-only : (profile : Profile) (xs : List PolicyLine) (texts : List (List ℕ)) (before : List PolicyLine) (line : ℕ) (rest : List ℕ) (read : Policies)
    → AllZip IsPolicyText xs texts → ((done more : List PolicyLine) (x : PolicyLine) → before ++ xs ≡ done ++ x ∷ more → IsPolicy profile x × (length done < 64) × (is_declared done x.name ≡ false)) → 0 < length (before ++ xs)
    → ReadsPolicies profile before line (pieces (flat_map ended texts ++ (ended (codes "calls") ++ rest))) read → read ≡ Ok (before ++ xs, ended (codes "calls") ∷ pieces rest)
policies-only profile [] [] before line rest read zip each some h =
    let nil = append-nil before in
    ends-only profile before line (pieces (ended (codes "calls") ++ rest)) (pieces rest) (ended (codes "calls")) (codes "calls") read (pieces-ended (codes "calls") rest refl) (text_in-ended (codes "calls") refl) (before ++ []) (sym nil)
    (calls-ends before line (subst (λ (l : List PolicyLine). 0 < length l) nil some)) h
policies-only profile [] (t ∷ ts) before line rest read zip each some h = absurd zip
policies-only profile (x ∷ xs) [] before line rest read zip each some h = absurd zip
policies-only profile (x ∷ xs) (t ∷ ts) before line rest read zip each some h =
    let here = each before xs x refl in
    let tail = ended (codes "calls") ++ rest in
    let plain = policy_text-plain profile x t here.0 zip.0 in
    let front : pieces (flat_map ended (t ∷ ts) ++ tail) ≡ ended t ∷ pieces (flat_map ended ts ++ tail) = ap pieces (append_assoc (ended t) (flat_map ended ts) tail) ∙ pieces-ended t (flat_map ended ts ++ tail) plain in
    let says = policy_says-text profile before line x t here.0 zip.0 here.1 here.2 in
    let more = more-only profile before line (pieces (flat_map ended (t ∷ ts) ++ tail)) (pieces (flat_map ended ts ++ tail)) (ended t) t read front (text_in-ended t plain) x says here.0.accepted h in
    let split : (before ++ x ∷ []) ++ xs ≡ before ++ x ∷ xs = append_assoc before (x ∷ []) xs in
    let again = policies-only profile xs ts (before ++ x ∷ []) (line + 1) rest read zip.1 (λ done more y e. each done more y (sym split ∙ e)) (subst (λ (l : List PolicyLine). 0 < length l) (sym split) some) more in
    subst (λ (l : List PolicyLine). read ≡ Ok (l, ended (codes "calls") ∷ pieces rest)) split again

-- policies that were read, and the pieces behind them
abbrev ok_of : List (List ℕ) → List PolicyLine → Policies
ok_of qs l = Ok (l, qs)

-- the same the other way: that is a reading
pub policies-read_so : (profile : Profile) (xs : List PolicyLine) (texts : List (List ℕ)) (before : List PolicyLine) (line : ℕ) (rest : List ℕ)
    → AllZip IsPolicyText xs texts → ((done more : List PolicyLine) (x : PolicyLine) → before ++ xs ≡ done ++ x ∷ more → IsPolicy profile x × (length done < 64) × (is_declared done x.name ≡ false)) → 0 < length (before ++ xs)
    → ReadsPolicies profile before line (pieces (flat_map ended texts ++ (ended (codes "calls") ++ rest))) (Ok (before ++ xs, ended (codes "calls") ∷ pieces rest))
policies-read_so profile [] [] before line rest zip each some =
    let nil = append-nil before in
    ends-read profile before line (pieces (ended (codes "calls") ++ rest)) (pieces rest) (ended (codes "calls")) (codes "calls") (Ok (before ++ [], ended (codes "calls") ∷ pieces rest)) (pieces-ended (codes "calls") rest refl) (text_in-ended (codes "calls") refl)
    (ap (ok_of (ended (codes "calls") ∷ pieces rest)) nil) (calls-ends before line (subst (λ (l : List PolicyLine). 0 < length l) nil some))
policies-read_so profile [] (t ∷ ts) before line rest zip each some = absurd zip
policies-read_so profile (x ∷ xs) [] before line rest zip each some = absurd zip
policies-read_so profile (x ∷ xs) (t ∷ ts) before line rest zip each some =
    let here = each before xs x refl in
    let tail = ended (codes "calls") ++ rest in
    let plain = policy_text-plain profile x t here.0 zip.0 in
    let front : pieces (flat_map ended (t ∷ ts) ++ tail) ≡ ended t ∷ pieces (flat_map ended ts ++ tail) = ap pieces (append_assoc (ended t) (flat_map ended ts) tail) ∙ pieces-ended t (flat_map ended ts ++ tail) plain in
    let says = policy_says-text profile before line x t here.0 zip.0 here.1 here.2 in
    let split : (before ++ x ∷ []) ++ xs ≡ before ++ x ∷ xs = append_assoc before (x ∷ []) xs in
    let again = policies-read_so profile xs ts (before ++ x ∷ []) (line + 1) rest zip.1 (λ done more y e. each done more y (sym split ∙ e)) (subst (λ (l : List PolicyLine). 0 < length l) (sym split) some) in
    let same = subst (λ (l : List PolicyLine). ReadsPolicies profile (before ++ x ∷ []) (line + 1) (pieces (flat_map ended ts ++ tail)) (Ok (l, ended (codes "calls") ∷ pieces rest))) split again in
    more-read profile before line (pieces (flat_map ended (t ∷ ts) ++ tail)) (pieces (flat_map ended ts ++ tail)) (ended t) t (Ok (before ++ x ∷ xs, ended (codes "calls") ∷ pieces rest)) front (text_in-ended t plain) x says here.0.accepted same

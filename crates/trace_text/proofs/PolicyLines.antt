-- The policies that were read stand there as lines.
use Rattle.std.proofs.Common.{◌≡◌, ◌<◌, ◌≤◌, inl, inr, ℕ, ◌+◌, List, [], ◌∷◌, ◌++◌, length, map, Bool, true, false, cond, eqb, leb, ◌&&◌, Option, Some, None, Result, Ok, Err, refl, sym, ap, ◌∙◌, subst, arith, length-append, append_assoc}
use Rattle.std.specs.Prelude.{codes, MatchOption}
use Rattle.std.specs.List.{AllByRecursion, AllZip}
use Rattle.std.proofs.lemmas.Bool.{and_parts, leb-false, eqb-false}
use Rattle.std.proofs.lemmas.List.{append-nil}
use Rattle.bpf_isa.specs.declared.insn.Profile.{Profile}
use Rattle.doc_text.specs.declared.fault.Fault.{Fault}
use Rattle.doc_text.specs.Text.{text_in, ended}
use Rattle.doc_text.specs.Words.{words, same, four, is_word}
use Rattle.doc_text.specs.Faults.{fault, ◌>>=◌, or_fault, Then}
use Rattle.doc_text.proofs.Due.{bind-some, or_fault-some}
use Rattle.doc_text.proofs.Joining.{same-true, text_in-some}
use Rattle.policy_text.specs.Accepted.{Judged}
use Rattle.policy_text.specs.Programs.{source_in}
use Rattle.policy_text.proofs.Chains.{then-some, test-some, unless-ok, ok-same, some-same, four-some}
use Rattle.policy_text.proofs.Parts.{text-spaced}
use Rattle.policy_text.proofs.ProgramWords.{source_in-some, program-bytes}
use Rattle.trace_text.specs.declared.faults.TheConstants.{POLICY, POLICIES, AGAIN, DIGITS, PROGRAM}
use Rattle.trace_text.specs.Document.{PolicyLine}
use Rattle.trace_text.specs.Lines.{is_policy_name, PolicyWords, policy_in, programs_in, is_declared}
use Rattle.trace_text.specs.Grammar.{policy_says, ReadsPolicies}
use Rattle.trace_text.specs.Texts.{IsPolicyText}
use Rattle.trace_text.specs.Limits.{IsPolicy, AreNamedApart}
use Rattle.name_order.proofs.Placing.{all-push}
use Rattle.trace_text.proofs.PolicyNames.{apart-push}

four-known : (ws : List (List ℕ)) (word a b c d : List ℕ) → ws ≡ a ∷ b ∷ c ∷ d ∷ [] → a ≡ word → ws ≡ word ∷ b ∷ c ∷ d ∷ []
four-known ws word a b c d e p = e ∙ rw p refl

-- the words of a policy
record PolicyLike (ws : List (List ℕ)) (p : PolicyWords) : Type 0 where
  all : ws ≡ codes "policy" ∷ p.name ∷ p.should ∷ p.skip ∷ []
  name : is_policy_name p.name ≡ true

policy_in-some : (ws : List (List ℕ)) (p : PolicyWords) → policy_in ws ≡ Some p → PolicyLike ws p
policy_in-some ws p h =
    let w = then-some (four ws) _ p h in
    let t = test-some (same w.0.0 (codes "policy") && is_policy_name w.0.1 && is_word w.0.2 && is_word w.0.3) _ p w.2 in
    let last = and_parts (same w.0.0 (codes "policy") && is_policy_name w.0.1 && is_word w.0.2) (is_word w.0.3) t.0 in
    let third = and_parts (same w.0.0 (codes "policy") && is_policy_name w.0.1) (is_word w.0.2) last.0 in
    let first = and_parts (same w.0.0 (codes "policy")) (is_policy_name w.0.1) third.0 in
    let made : PolicyWords = record { name = w.0.1; should = w.0.2; skip = w.0.3 } in
    let is : made ≡ p = some-same made p t.1 in
    subst (PolicyLike ws) is (record { all = four-known ws (codes "policy") w.0.0 w.0.1 w.0.2 w.0.3 (four-some ws w.0 w.1) (same-true w.0.0 (codes "policy") first.0); name = first.1 })

-- what a policy line says, and that it may stand behind those before
record PolicyRead (before : List PolicyLine) (t : List ℕ) (p : PolicyLine) : Type 0 where
  text : IsPolicyText p t
  name : is_policy_name p.name ≡ true
  room : length before < 64
  new : is_declared before p.name ≡ false

-- what the words of a policy give behind those before
abbrev judged : List PolicyLine → ℕ → PolicyWords → Result (Option PolicyLine) Fault
judged before line w = cond (leb 64 (length before)) (fault line POLICIES) (cond (is_declared before w.name) (fault line AGAIN) (or_fault line DIGITS (programs_in w) >>= λ policy. Ok (Some policy)))

policy_says-some : (before : List PolicyLine) (line : ℕ) (t : List ℕ) (p : PolicyLine) → policy_says before line t ≡ Ok (Some p) → PolicyRead before t p
unfolding policy_says
policy_says-some before line t p h = by_test (same t (codes "calls")) h
  where
    by_words : (w : PolicyWords) → PolicyLike (words t) w → judged before line w ≡ Ok (Some p) → PolicyRead before t p
    by_words w like k =
        let room = unless-ok (leb 64 (length before)) line POLICIES _ (Some p) k in
        let new = unless-ok (is_declared before w.name) line AGAIN _ (Some p) room.1 in
        let x = bind-some (or_fault line DIGITS (programs_in w)) _ (Some p) new.1 in
        let s = then-some (source_in w.should w.skip) _ x.0 (or_fault-some line DIGITS (programs_in w) x.0 x.1) in
        let programs = source_in-some w.should w.skip s.0 s.1 in
        let made : PolicyLine = record { name = w.name; source = s.0 } in
        let is : made ≡ p = some-same made x.0 s.2 ∙ some-same x.0 p (ok-same (Some x.0) (Some p) x.2) in
        subst (PolicyRead before t) is (record {
          text = (w.should, w.skip, text-spaced t (codes "policy" ∷ w.name ∷ w.should ∷ w.skip ∷ []) like.all, programs.0, programs.1);
          name = like.name;
          room = leb-false 64 (length before) room.0;
          new = new.0;
        })

    by_test : (v : Bool) → ◌≡◌ {A = Result (Option PolicyLine) Fault} (cond v (cond (eqb (length before) 0) (fault line POLICY) (Ok None)) (or_fault line POLICY (policy_in (words t)) >>= judged before line)) (Ok (Some p)) → PolicyRead before t p
    by_test true k = let none = (unless-ok (eqb (length before) 0) line POLICY _ (Some p) k).1 in cc
    by_test false k =
        let w = bind-some (or_fault line POLICY (policy_in (words t))) _ (Some p) k in
        by_words w.0 (policy_in-some (words t) w.0 (or_fault-some line POLICY (policy_in (words t)) w.0 w.1)) w.2

policy_says-none : (before : List PolicyLine) (line : ℕ) (t : List ℕ) → policy_says before line t ≡ Ok None → 0 < length before
unfolding policy_says
policy_says-none before line t h = by_test (same t (codes "calls")) h
  where
    by_words : (w : PolicyWords) → ◌≡◌ {A = Result (Option PolicyLine) Fault} (cond (leb 64 (length before)) (fault line POLICIES) (cond (is_declared before w.name) (fault line AGAIN) (or_fault line DIGITS (programs_in w) >>= λ policy. Ok (Some policy)))) (Ok None) → 0 < length before
    by_words w k =
        let room = unless-ok (leb 64 (length before)) line POLICIES _ None k in
        let new = unless-ok (is_declared before w.name) line AGAIN _ None room.1 in
        let x = bind-some (or_fault line DIGITS (programs_in w)) _ None new.1 in
        let some = x.2 in
        cc

    by_test : (v : Bool) → ◌≡◌ {A = Result (Option PolicyLine) Fault} (cond v (cond (eqb (length before) 0) (fault line POLICY) (Ok None)) (or_fault line POLICY (policy_in (words t)) >>= λ w. cond (leb 64 (length before)) (fault line POLICIES) (cond (is_declared before w.name) (fault line AGAIN) (or_fault line DIGITS (programs_in w) >>= λ policy. Ok (Some policy))))) (Ok None) → 0 < length before
    by_test true k =
        let some = eqb-false (length before) 0 (unless-ok (eqb (length before) 0) line POLICY _ None k).0 in
        omega (arith, some)
    by_test false k = let w = bind-some (or_fault line POLICY (policy_in (words t))) _ None k in by_words w.0 w.2

-- ---- all lines

abbrev Policies : Type 0
Policies = Result (List PolicyLine × List (List ℕ)) Fault

-- what holds of the policies read so far
pub record PoliciesKept (profile : Profile) (ps : List PolicyLine) : Type 0 where
  pub few : length ps ≤ 64
  pub each : AllByRecursion (IsPolicy profile) ps
  pub apart : AreNamedApart ps

abbrev pub PoliciesRead : Profile → List PolicyLine → List (List ℕ) → List PolicyLine → List (List ℕ) → Type 0
PoliciesRead profile before ps all qs = (xs : List PolicyLine) × (texts : List (List ℕ)) × (all ≡ before ++ xs) × (ps ≡ map ended texts ++ qs) × AllZip IsPolicyText xs texts × PoliciesKept profile all × (0 < length all)

piece-front : (p t : List ℕ) (ps qs : List (List ℕ)) → p ≡ ended t → ps ≡ qs → p ∷ ps ≡ ended t ∷ qs
piece-front p t ps qs e f = rw (e, f) refl

-- one line read, and then those behind it
module _ (profile : Profile) (before : List PolicyLine) (line : ℕ) (p : List ℕ) (ps : List (List ℕ)) (all : List PolicyLine) (qs : List (List ℕ)) (kept : PoliciesKept profile before) where
  abbrev ends : Option PolicyLine → Policies → Type 0
  ends o read = MatchOption o (read ≡ Ok (before, p ∷ ps)) (λ policy. Judged profile policy.source (ReadsPolicies profile (before ++ policy ∷ []) (line + 1) ps read) (read ≡ fault line PROGRAM))

  abbrev Again : Type 0
  Again = (more : List PolicyLine) → PoliciesKept profile more → ReadsPolicies profile more (line + 1) ps (Ok (all, qs)) → PoliciesRead profile more ps all qs

  by_policy : Again → (t : List ℕ) → p ≡ ended t → (policy : PolicyLine) → PolicyRead before t policy → Judged profile policy.source (ReadsPolicies profile (before ++ policy ∷ []) (line + 1) ps (Ok (all, qs))) (◌≡◌ {A = Policies} (Ok (all, qs)) (fault line PROGRAM)) → PoliciesRead profile before (p ∷ ps) all qs
  by_policy again t e policy r (inl (accepted, more)) =
      let good : IsPolicy profile policy = record { name = r.name; accepted = accepted; should = program-bytes policy.source.should r.text.0 r.text.3; skip = program-bytes policy.source.skip r.text.1 r.text.4 } in
      let s = again (before ++ policy ∷ []) (record { few = omega (arith, length-append before (policy ∷ []), r.room); each = all-push (IsPolicy profile) before policy kept.each good; apart = apart-push before policy kept.apart r.new }) more in
      (policy ∷ s.0, t ∷ s.1, s.2 ∙ append_assoc before (policy ∷ []) s.0, piece-front p t ps (map ended s.1 ++ qs) e s.3, (r.text, s.4), s.5, s.6)
  by_policy again t e policy r (inr (refused, bad)) = cc

  by_option : Again → (t : List ℕ) → p ≡ ended t → (o : Option PolicyLine) → policy_says before line t ≡ Ok o → ends o (Ok (all, qs)) → PoliciesRead profile before (p ∷ ps) all qs
  by_option again t e None g k =
      let pair : (all, qs) ≡ (before, p ∷ ps) = ok-same (all, qs) (before, p ∷ ps) k in
      let same_all : all ≡ before = ap (λ (x : List PolicyLine × List (List ℕ)). x.0) pair in
      let same_rest : qs ≡ p ∷ ps = ap (λ (x : List PolicyLine × List (List ℕ)). x.1) pair in
      ([], [], same_all ∙ sym (append-nil before), sym same_rest, tt, subst (PoliciesKept profile) (sym same_all) kept, subst (λ (l : List PolicyLine). 0 < length l) (sym same_all) (policy_says-none before line t g))
  by_option again t e (Some policy) g k = by_policy again t e policy (policy_says-some before line t policy g) k

  by_says : Again → (t : List ℕ) → p ≡ ended t → (r : Result (Option PolicyLine) Fault) → policy_says before line t ≡ r → Then r ends (Ok (all, qs)) → PoliciesRead profile before (p ∷ ps) all qs
  by_says again t e (Ok o) g k = by_option again t e o g k
  by_says again t e (Err x) g k = cc

  by_text : Again → (o : Option (List ℕ)) → text_in p ≡ o → Then (or_fault line 1 o >>= policy_says before line) ends (Ok (all, qs)) → PoliciesRead profile before (p ∷ ps) all qs
  by_text again None e k = cc
  by_text again (Some t) e k = by_says again t (text_in-some p t e).1 (policy_says before line t) refl k

pub policies-read : (profile : Profile) (ps : List (List ℕ)) (before : List PolicyLine) (line : ℕ) (all : List PolicyLine) (qs : List (List ℕ)) → PoliciesKept profile before → ReadsPolicies profile before line ps (Ok (all, qs)) → PoliciesRead profile before ps all qs
unfolding ReadsPolicies
policies-read profile [] before line all qs kept h = cc
policies-read profile (p ∷ ps) before line all qs kept h = by_text profile before line p ps all qs kept (λ more keeps k. policies-read profile ps more (line + 1) all qs keeps k) (text_in p) refl h

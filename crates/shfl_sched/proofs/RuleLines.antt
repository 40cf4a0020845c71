-- What a policy line says, and how it is spelled.
use Rattle.std.proofs.Common.{◌≡◌, ℕ, List, [], ◌∷◌, Bool, true, false, cond, ◌&&◌, Option, Some, None, Ok, refl, sym, ap, ◌∙◌, subst}
use Rattle.std.specs.Prelude.{codes}
use Rattle.std.proofs.lemmas.Bool.{and_parts}
use Rattle.bpf_isa.specs.declared.insn.Profile.{Profile}
use Rattle.doc_text.specs.Words.{words, spaced, same, is_word, one, three, ◌>>?◌}
use Rattle.doc_text.specs.Faults.{or_fault, Then}
use Rattle.doc_text.proofs.Joining.{same-true}
use Rattle.policy_source.specs.Source.{SourceModel}
use Rattle.policy_text.specs.declared.rules.RuleSource.{RuleSource}
use Rattle.policy_text.specs.declared.rules.RuleSource.TheVariants as said
use Rattle.policy_text.specs.Programs.{source_in, IsProgramWord}
use Rattle.policy_text.specs.Rules.{words_behind, otherwise, rule_named, simple_rule_in, program_words_in, program_rule_in, rule_in}
use Rattle.policy_text.proofs.Chains.{then-some, test-some, some-same, ok-same, one-some, three-some}
use Rattle.policy_text.proofs.FirstWords.{behind-some}
use Rattle.policy_text.proofs.Parts.{text-spaced}
use Rattle.policy_text.proofs.ProgramWords.{source_in-some}
use Rattle.shfl_sched.specs.declared.schedule.Rule.{Rule}
use Rattle.shfl_sched.specs.declared.schedule.Rule.TheVariants as rules
use Rattle.shfl_sched.specs.Lines.{policy_in}
use Rattle.shfl_sched.specs.declared.faults.TheConstants.{POLICY}
use Rattle.shfl_sched.specs.Grammar.{ReadsSaid, ReadsRule}
use Rattle.shfl_sched.specs.Spelling.{IsRuleLine}

-- ---- the words of a policy line

-- the two words of a policy line's programs
abbrev pub ProgramWords : SourceModel → List ℕ → Type 0
ProgramWords source text = (should skip : List ℕ) × (text ≡ spaced (codes "policy" ∷ codes "program" ∷ should ∷ skip ∷ []))
    × IsProgramWord source.should should × IsProgramWord source.skip skip

-- the text spells the policy line
abbrev pub Spells : List ℕ → RuleSource → Type 0
Spells text said.Never = text ≡ codes "policy never"
Spells text said.Always = text ≡ codes "policy always"
Spells text said.Socket = text ≡ codes "policy socket"
Spells text (said.Program source) = ProgramWords source text

-- the text of `policy` and these words does
abbrev SpellsBehind : List (List ℕ) → RuleSource → Type 0
SpellsBehind ws l = Spells (spaced (codes "policy" ∷ ws)) l

named-spells : (u : List ℕ) (l : RuleSource) → rule_named u ≡ Some l → SpellsBehind (u ∷ []) l
named-spells u l h = by_tests (same u (codes "never")) (same u (codes "always")) (same u (codes "socket")) refl refl refl h
  where
    by_tests : (a b c : Bool) → same u (codes "never") ≡ a → same u (codes "always") ≡ b → same u (codes "socket") ≡ c
        → cond a (Some said.Never) (cond b (Some said.Always) (cond c (Some said.Socket) None)) ≡ Some l → SpellsBehind (u ∷ []) l
    by_tests true b c p q r k = subst (SpellsBehind (u ∷ [])) (some-same said.Never l k) (ap (λ (w : List ℕ). spaced (codes "policy" ∷ w ∷ [])) (same-true u (codes "never") p))
    by_tests false true c p q r k = subst (SpellsBehind (u ∷ [])) (some-same said.Always l k) (ap (λ (w : List ℕ). spaced (codes "policy" ∷ w ∷ [])) (same-true u (codes "always") q))
    by_tests false false true p q r k = subst (SpellsBehind (u ∷ [])) (some-same said.Socket l k) (ap (λ (w : List ℕ). spaced (codes "policy" ∷ w ∷ [])) (same-true u (codes "socket") r))
    by_tests false false false p q r k = cc

abbrev Three : Type 0
Three = List ℕ × List ℕ × List ℕ

abbrev is_program : Three → Bool
is_program w = same w.0 (codes "program") && is_word w.1 && is_word w.2

words-three : (w : Three) (x : List ℕ × List ℕ) → cond (is_program w) (Some (w.1, w.2)) None ≡ Some x → (w.0 ∷ w.1 ∷ w.2 ∷ []) ≡ codes "program" ∷ x.0 ∷ x.1 ∷ []
words-three w x h =
    let v = test-some (is_program w) (Some (w.1, w.2)) x h in
    let both = and_parts (same w.0 (codes "program") && is_word w.1) (is_word w.2) v.0 in
    let first = and_parts (same w.0 (codes "program")) (is_word w.1) both.0 in
    ap (λ (k : List ℕ). k ∷ w.1 ∷ w.2 ∷ []) (same-true w.0 (codes "program") first.0) ∙ ap (λ (p : List ℕ × List ℕ). codes "program" ∷ p.0 ∷ p.1 ∷ []) (some-same (w.1, w.2) x v.1)

words-some : (ws : List (List ℕ)) (x : List ℕ × List ℕ) → program_words_in ws ≡ Some x → ws ≡ codes "program" ∷ x.0 ∷ x.1 ∷ []
words-some ws x h =
    let q = then-some (three ws) (λ (v : Three). cond (is_program v) (Some (v.1, v.2)) None) x h in
    three-some ws q.0 q.1 ∙ words-three q.0 x q.2

program-spells : (ws : List (List ℕ)) (l : RuleSource) → program_rule_in ws ≡ Some l → SpellsBehind ws l
program-spells ws l h =
    let r = then-some (program_words_in ws) (λ (w : List ℕ × List ℕ). source_in w.0 w.1 >>? λ source. Some (said.Program source)) l h in
    let s = then-some (source_in r.0.0 r.0.1) (λ (source : SourceModel). Some (said.Program source)) l r.2 in
    let w = source_in-some r.0.0 r.0.1 s.0 s.1 in
    let line = ap (λ (us : List (List ℕ)). spaced (codes "policy" ∷ us)) (words-some ws r.0 r.1) in
    subst (SpellsBehind ws) (some-same (said.Program s.0) l s.2) (r.0.0, r.0.1, line, w.0, w.1)

-- words that say a rule spell it
words-spell : (ws : List (List ℕ)) (l : RuleSource) → rule_in ws ≡ Some l → SpellsBehind ws l
words-spell ws l h = by_name (simple_rule_in ws) refl h
  where
    by_name : (o : Option RuleSource) → simple_rule_in ws ≡ o → otherwise o (program_rule_in ws) ≡ Some l → SpellsBehind ws l
    by_name None e k = program-spells ws l k
    by_name (Some x) e k =
        let r = then-some (one ws) rule_named x e in
        let here : SpellsBehind ws x = subst (λ (us : List (List ℕ)). SpellsBehind us x) (sym (one-some ws r.0 r.1)) (named-spells r.0 x r.2) in
        subst (SpellsBehind ws) (some-same x l k) here

-- a line that says a rule is spelled so
rule-spells : (t : List ℕ) (l : RuleSource) → policy_in (words t) ≡ Some l → Spells t l
rule-spells t l h =
    let r = then-some (words_behind (codes "policy") (words t)) rule_in l h in
    let line = text-spaced t (codes "policy" ∷ r.0) (behind-some (codes "policy") (words t) r.0 r.1) in
    subst (λ (u : List ℕ). Spells u l) (sym line) (words-spell r.0 l r.2)

-- ---- the rule that it is

said-line : (profile : Profile) (line : ℕ) (text : List ℕ) (r : Rule) (l : RuleSource) → Spells text l → ReadsSaid profile line l (Ok r) → IsRuleLine profile text r
said-line profile line text r said.Never h k = subst (IsRuleLine profile text) (sym (ok-same r rules.Never k)) h
said-line profile line text r said.Always h k = subst (IsRuleLine profile text) (sym (ok-same r rules.Always k)) h
said-line profile line text r said.Socket h k = subst (IsRuleLine profile text) (sym (ok-same r rules.Socket k)) h
said-line profile line text r (said.Program source) h k = subst (IsRuleLine profile text) (sym k.2) (source, h.0, h.1, h.2, h.3, h.4, k.1)

-- the rule that was read is what the line says
pub rule-some : (profile : Profile) (line : ℕ) (text : List ℕ) (r : Rule) → ReadsRule profile line text (Ok r) → IsRuleLine profile text r
unfolding ReadsRule
rule-some profile line text r h = by_line (policy_in (words text)) refl h
  where
    by_line : (o : Option RuleSource) → policy_in (words text) ≡ o → Then (or_fault line POLICY o) (ReadsSaid profile line) (Ok r) → IsRuleLine profile text r
    by_line None e k = cc
    by_line (Some l) e k = said-line profile line text r l (rule-spells text l e) k

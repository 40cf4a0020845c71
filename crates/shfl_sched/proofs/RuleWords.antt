-- A policy line that is spelled so is read.
use Rattle.std.proofs.Common.{◌≡◌, ℕ, List, [], ◌∷◌, true, Option, Some, None, Ok, refl, sym, ap, ◌∙◌, subst}
use Rattle.std.specs.Prelude.{codes}
use Rattle.std.specs.List.{AllByRecursion}
use Rattle.bpf_isa.specs.declared.insn.Insn.{Insn}
use Rattle.bpf_isa.specs.declared.insn.Profile.{Profile}
use Rattle.doc_text.specs.Text.{IsPlain}
use Rattle.doc_text.specs.Words.{words, spaced, is_word}
use Rattle.doc_text.specs.Faults.{or_fault, Then}
use Rattle.policy_source.specs.Source.{SourceModel}
use Rattle.shfl_policy.specs.Loading.{Loads}
use Rattle.policy_text.specs.declared.rules.RuleSource.{RuleSource}
use Rattle.policy_text.specs.declared.rules.RuleSource.TheVariants as said
use Rattle.policy_text.specs.Programs.{source_in}
use Rattle.policy_text.specs.Accepted.{AcceptsProgram}
use Rattle.policy_text.proofs.Parts.{IsPart, line-plain, line-words}
use Rattle.policy_text.proofs.ProgramWords.{source_in-words, program-part, program-is_word}
use Rattle.shfl_sched.specs.declared.schedule.Rule.{Rule}
use Rattle.shfl_sched.specs.declared.schedule.Rule.TheVariants as rules
use Rattle.shfl_sched.specs.Lines.{policy_in}
use Rattle.shfl_sched.specs.declared.faults.TheConstants.{POLICY}
use Rattle.shfl_sched.specs.Grammar.{ReadsSaid, ReadsRule}
use Rattle.shfl_sched.specs.Spelling.{IsRuleLine}

-- a program that is loaded is accepted
loads-accepts : (profile : Profile) (source : Option (List ℕ)) (program : Option (List Insn)) → Loads profile source program → AcceptsProgram profile source
loads-accepts profile None program h = tt
loads-accepts profile (Some bytes) None h = absurd h
loads-accepts profile (Some bytes) (Some insns) h = (insns, h.0, h.1)

abbrev IsRead : Profile → ℕ → Rule → List ℕ → Type 0
IsRead profile line r text = IsPlain text × ReadsRule profile line text (Ok r)

never-read : (profile : Profile) (line : ℕ) → IsRead profile line rules.Never (codes "policy never")
unfolding ReadsRule
never-read profile line = (refl, refl)

always-read : (profile : Profile) (line : ℕ) → IsRead profile line rules.Always (codes "policy always")
unfolding ReadsRule
always-read profile line = (refl, refl)

socket-read : (profile : Profile) (line : ℕ) → IsRead profile line rules.Socket (codes "policy socket")
unfolding ReadsRule
socket-read profile line = (refl, refl)

abbrev program_words : List ℕ → List ℕ → List (List ℕ)
program_words should skip = codes "policy" ∷ codes "program" ∷ should ∷ skip ∷ []

-- four words that say programs
words-read : (should skip : List ℕ) (source : SourceModel) → is_word should ≡ true → is_word skip ≡ true → source_in should skip ≡ Some source
    → policy_in (program_words should skip) ≡ Some (said.Program source)
words-read should skip source e f g = rw (e, f, g) refl

-- the rule of a policy line that is spelled so is read
pub rule-read : (profile : Profile) (line : ℕ) (text : List ℕ) (r : Rule) → IsRuleLine profile text r → IsPlain text × ReadsRule profile line text (Ok r)
unfolding ReadsRule
rule-read profile line text rules.Never h = subst (IsRead profile line rules.Never) (sym h) (never-read profile line)
rule-read profile line text rules.Always h = subst (IsRead profile line rules.Always) (sym h) (always-read profile line)
rule-read profile line text rules.Socket h = subst (IsRead profile line rules.Socket) (sym h) (socket-read profile line)
rule-read profile line text (rules.Program policy) (source, should, skip, e, a, b, loaded) =
    let some_should = program-is_word profile source.should should (loads-accepts profile source.should policy.should loaded.should) a in
    let some_skip = program-is_word profile source.skip skip (loads-accepts profile source.skip policy.skip loaded.skip) b in
    let each : AllByRecursion IsPart (program_words should skip) = ((refl, refl), ((refl, refl), (program-part source.should should a, (program-part source.skip skip b, tt)))) in
    let says : policy_in (words (spaced (program_words should skip))) ≡ Some (said.Program source) =
    ap policy_in (line-words (codes "policy") (codes "program" ∷ should ∷ skip ∷ []) each) ∙ words-read should skip source some_should some_skip (source_in-words should skip source a b) in
    let here : Then (or_fault line POLICY (policy_in (words (spaced (program_words should skip))))) (ReadsSaid profile line) (Ok (rules.Program policy)) =
    subst (λ (o : Option RuleSource). Then (or_fault line POLICY o) (ReadsSaid profile line) (Ok (rules.Program policy))) (sym says) (policy, loaded, refl) in
    subst (IsRead profile line (rules.Program policy)) (sym e) (line-plain (program_words should skip) each, here)

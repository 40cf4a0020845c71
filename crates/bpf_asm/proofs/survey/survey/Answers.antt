use Rattle.std.proofs.Common.{◌≡◌, ℕ, List, Option, ap, ◌∙◌, subst}
use Rattle.bpf_asm.specs.declared.names.Mark.{Mark}
use Rattle.bpf_asm.specs.Assembly.{lines_in}
use Rattle.bpf_asm.specs.Marks.{marked_in}
use Rattle.bpf_asm.specs.Names.{mark_in, first_repeat, AreMarks}
use Rattle.bpf_asm.proofs.survey.survey.Goals as goal

pub returns : goal.returns
returns c =
    let names = c.in_ok-names.names.items in
    let all = lines_in c.args.profile c.args.text.now in
    let same : ◌≡◌ {A = List ℕ → Option Mark} (mark_in names) (marked_in all) = λ i name. c.in_ok-names.ensures.marks_stand name i in
    record {
      order = c.settle-again.ensures.order;
      marks_stand = subst (λ (marked : List ℕ → Option Mark). AreMarks c.settle-again.new.names.items marked) same c.settle-again.ensures.marks;
      halves_stand = c.in_ok-names.ensures.halves_stand;
      again_stands = c.settle-again.ensures.repeat ∙ ap (λ (marked : List ℕ → Option Mark). first_repeat marked names) same ∙ c.in_ok-names.ensures.repeats_stand;
    }

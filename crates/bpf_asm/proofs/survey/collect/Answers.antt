use Rattle.std.proofs.Common.{◌≡◌, ◌+◌, ◌++◌, [], ◌∷◌, ℕ, List, Bool, length, map, sym, ap, ◌∙◌, refl, arith}
use Rattle.std.proofs.lemmas.List.{append-nil, nil_from_length}
use Rattle.std.proofs.lemmas.Bool.{eqb-true}
use Rattle.bpf_isa.specs.Flow.{is_half}
use Rattle.bpf_asm.specs.declared.names.Declared.{Declared}
use Rattle.bpf_asm.specs.Assembly.{Line, slots_of, layout, mark_of, lines_in}
use Rattle.bpf_asm.specs.Forms.{or_else}
use Rattle.bpf_asm.specs.Marks.{first_again, marked_in, is_again}
use Rattle.bpf_asm.specs.Names.{mark_in, first_repeat}
use Rattle.bpf_asm.specs.Statements.{line_in}
use Rattle.bpf_asm.specs.Views.{line_of}
use Rattle.bpf_asm.proofs.Again.{again_goes_on, again_ends}
use Rattle.bpf_asm.proofs.Noting.{noted, again_noted, declared_noted}
use Rattle.bpf_asm.proofs.Surveying.{first_line, marks_go_on, halves_go_on, is_said, marks_end, more_slots}
use Rattle.bpf_asm.proofs.survey.collect.Goals as goal

pub loop-rest-preserved : goal.loop-rest-preserved
loop-rest-preserved c =
    let piece : List ℕ = c.piece_at.result.0.now in
    let behind : List ℕ = c.piece_at.result.1.now in
    let read : Line = line_of c.read_line-read.result in
    let front : List Bool = c.loop-rest.halves.items in
    let names : List Declared = c.loop-rest.names.items in
    let lines : lines_in c.args.profile c.loop-rest.rest.now ≡ read ∷ lines_in c.args.profile behind =
    first_line c.args.profile c.loop-rest.rest.now piece behind c.piece_at.ensures.first
    ∙ ap (λ (l : Line). l ∷ lines_in c.args.profile behind) (is_said c.read_line-read.result (line_in c.args.profile piece) c.read_line-read.ensures) in
    let more : length c.note_slots.new.halves.items ≡ length front + length (slots_of read) = more_slots front c.note_slots.new.halves.items (slots_of read) c.in_ok-note_slots.ensures.slots in
    let all : List Line = lines_in c.args.profile c.args.text.now in
    let slot : length front ≡ c.len.result = omega arith in
    record {
      marks = λ name. marks_go_on name (mark_in names name) (mark_in c.note_name.new.names.items name) _ c.loop-rest.line (length front) _ (length c.note_slots.new.halves.items) read (lines_in c.args.profile behind)
          (omega arith) more (noted names c.note_name.new.names.items c.loop-rest.line _ c.read_line-read.result name c.in_ok-note_name.ensures)
          (ap (λ (ls : List Line). or_else (mark_in names name) (mark_of name c.loop-rest.line (length front) ls)) (sym lines) ∙ c.loop-rest.invariant.marks name);
      again = again_goes_on (marked_in all) (first_repeat (marked_in all) names) (first_repeat (marked_in all) c.note_name.new.names.items) _ c.loop-rest.line (is_again (marked_in all) c.loop-rest.line read) read (lines_in c.args.profile behind)
          refl
          (again_noted (marked_in all) names c.note_name.new.names.items c.loop-rest.line _ c.read_line-read.result c.in_ok-note_name.ensures)
          (ap (λ (ls : List Line). or_else (first_repeat (marked_in all) names) (first_again (marked_in all) c.loop-rest.line ls)) (sym lines) ∙ c.loop-rest.invariant.again);
      declared = declared_noted names c.note_name.new.names.items c.loop-rest.line _ c.read_line-read.result c.in_ok-note_name.ensures c.loop-rest.invariant.declared;
      halves = halves_go_on front c.note_slots.new.halves.items _ read (lines_in c.args.profile behind) c.in_ok-note_slots.ensures.slots
          (ap (λ (ls : List Line). front ++ map is_half (layout ls)) (sym lines) ∙ c.loop-rest.invariant.halves);
      lines = omega arith;
      slots = omega (arith, c.in_ok-note_slots.ensures.few, c.piece_at.ensures.shorter);
    }

pub returns : goal.returns
returns c =
    let all : List Line = lines_in c.args.profile c.args.text.now in
    let names : List Declared = c.loop-rest.names.items in
    let none : c.loop-rest.rest.now ≡ [] = nil_from_length c.loop-rest.rest.now (eqb-true (length c.loop-rest.rest.now) 0 (sym c.loop-rest-test.ensures)) in
    record {
      marks_stand = λ name. marks_end name (mark_in names name) _ c.loop-rest.line (length c.loop-rest.halves.items)
          (ap (λ (rest : List ℕ). or_else (mark_in names name) (mark_of name c.loop-rest.line (length c.loop-rest.halves.items) (lines_in c.args.profile rest))) (sym none) ∙ c.loop-rest.invariant.marks name);
      repeats_stand = again_ends (marked_in all) (first_repeat (marked_in all) names) _ c.loop-rest.line
          (ap (λ (rest : List ℕ). or_else (first_repeat (marked_in all) names) (first_again (marked_in all) c.loop-rest.line (lines_in c.args.profile rest))) (sym none) ∙ c.loop-rest.invariant.again);
      declared = (c.loop-rest.line, c.loop-rest.invariant.declared);
      halves_stand = sym (append-nil c.loop-rest.halves.items) ∙ ap (λ (rest : List ℕ). c.loop-rest.halves.items ++ map is_half (layout (lines_in c.args.profile rest))) (sym none) ∙ c.loop-rest.invariant.halves;
    }

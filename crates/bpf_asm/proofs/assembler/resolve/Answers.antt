use Rattle.std.proofs.Common.{◌≡◌, ◌+◌, ◌≤◌, [], ◌∷◌, ℕ, List, Ok, Err, length, length-append, sym, ap, ◌∙◌, arith}
use Rattle.std.proofs.lemmas.List.{nil_from_length}
use Rattle.std.proofs.lemmas.Bool.{eqb-true, eqb-false}
use Rattle.bpf_isa.specs.declared.insn.Insn.{Insn}
use Rattle.bpf_asm.specs.declared.error.AsmError.TheVariants as errors
use Rattle.bpf_asm.specs.Assembly.{Line, slots_in, in_front, slots_from, some_slots, lines_in}
use Rattle.bpf_asm.specs.Marks.{first_again, is_again, is_at, marked_in}
use Rattle.bpf_asm.specs.Statements.{line_in}
use Rattle.bpf_asm.specs.Views.{line_of, slots_held}
use Rattle.doc_text.specs.Text.{pieces}
use Rattle.bpf_asm.proofs.Again.{at_again, again_behind}
use Rattle.bpf_asm.proofs.Resolving.{goes_on, ends, is_done, some_are, all_are, few_slots}
use Rattle.bpf_asm.proofs.Surveying.{first_line, is_said}
use Rattle.bpf_asm.proofs.assembler.resolve.Goals as goal

pub loop-rest-preserved : goal.loop-rest-preserved
loop-rest-preserved c =
    let all : List Line = lines_in c.args.profile c.args.text.now in
    let behind : List ℕ = c.piece_at.result.1.now in
    let read : Line = line_of c.read_line-read.result in
    let front : List Insn = c.loop-rest.insns.items in
    let lines : lines_in c.args.profile c.loop-rest.rest.now ≡ read ∷ lines_in c.args.profile behind =
    first_line c.args.profile c.loop-rest.rest.now c.piece_at.result.0.now behind c.piece_at.ensures.first
    ∙ ap (λ (l : Line). l ∷ lines_in c.args.profile behind) (is_said c.read_line-read.result (line_in c.args.profile c.piece_at.result.0.now) c.read_line-read.ensures) in
    let slot : length front ≡ c.len.result = omega arith in
    let again : c.args.again ≡ first_again (marked_in all) c.loop-rest.line (read ∷ lines_in c.args.profile behind) = c.loop-rest.invariant.again ∙ ap (first_again (marked_in all) c.loop-rest.line) lines in
    let here_again : is_again (marked_in all) c.loop-rest.line read ≡ is_at c.loop-rest.line c.args.again = at_again (marked_in all) c.args.again c.loop-rest.line read (lines_in c.args.profile behind) again in
    let here : slots_in all c.loop-rest.line (length front) read ≡ Ok (slots_held c.in-Ok.slots) = ap (λ (n : ℕ). slots_in all c.loop-rest.line n read) slot ∙ c.in-Ok.ensures all c.requires.survey here_again in
    let few : length front + length (slots_held c.in-Ok.slots) ≤ 512 = few_slots all c.loop-rest.line (length front) read (slots_held c.in-Ok.slots) c.loop-rest.invariant.few here in
    let more : length c.push_slots.new.insns.items ≡ length front + length (slots_held c.in-Ok.slots) = ap length c.in_ok-push_slots-in-Ok.ensures ∙ length-append front (slots_held c.in-Ok.slots) in
    let first : length (pieces c.loop-rest.rest.now) ≡ length (c.piece_at.result.0.now ∷ pieces behind) = ap length c.piece_at.ensures.first in
    record {
      slots = goes_on all front c.push_slots.new.insns.items (slots_held c.in-Ok.slots) c.loop-rest.line read (lines_in c.args.profile behind) _ here c.in_ok-push_slots-in-Ok.ensures
          (ap (λ (ls : List Line). in_front front (slots_from all c.loop-rest.line (length front) ls)) (sym lines) ∙ c.loop-rest.invariant.slots);
      again = again_behind all c.args.again c.loop-rest.line (length front) read (lines_in c.args.profile behind) (slots_held c.in-Ok.slots) here again;
      lines = omega (arith, first, c.loop-rest.invariant.lines);
      fits = omega (arith, c.piece_at.ensures.shorter, c.loop-rest.invariant.fits);
      few = omega (arith, few, more);
    }

pub returns-in-Err : goal.returns-in-Err
returns-in-Err c =
    let all : List Line = lines_in c.args.profile c.args.text.now in
    let behind : List ℕ = c.piece_at.result.1.now in
    let read : Line = line_of c.read_line-read.result in
    let front : List Insn = c.loop-rest.insns.items in
    let lines : lines_in c.args.profile c.loop-rest.rest.now ≡ read ∷ lines_in c.args.profile behind =
    first_line c.args.profile c.loop-rest.rest.now c.piece_at.result.0.now behind c.piece_at.ensures.first
    ∙ ap (λ (l : Line). l ∷ lines_in c.args.profile behind) (is_said c.read_line-read.result (line_in c.args.profile c.piece_at.result.0.now) c.read_line-read.ensures) in
    let slot : length front ≡ c.len.result = omega arith in
    let again : c.args.again ≡ first_again (marked_in all) c.loop-rest.line (read ∷ lines_in c.args.profile behind) = c.loop-rest.invariant.again ∙ ap (first_again (marked_in all) c.loop-rest.line) lines in
    let here_again : is_again (marked_in all) c.loop-rest.line read ≡ is_at c.loop-rest.line c.args.again = at_again (marked_in all) c.args.again c.loop-rest.line read (lines_in c.args.profile behind) again in
    let here : slots_in all c.loop-rest.line (length front) read ≡ Err c.in-Err.what = ap (λ (n : ℕ). slots_in all c.loop-rest.line n read) slot ∙ c.in-Err.ensures all c.requires.survey here_again in
    ap (some_slots (length (pieces c.args.text.now) + 1)) (ends all front c.loop-rest.line c.in-Err.what read (lines_in c.args.profile behind) _ here
    (ap (λ (ls : List Line). in_front front (slots_from all c.loop-rest.line (length front) ls)) (sym lines) ∙ c.loop-rest.invariant.slots))

pub returns-then-is_empty : goal.returns-then-is_empty
returns-then-is_empty c =
    let all : List Line = lines_in c.args.profile c.args.text.now in
    let front : List Insn = c.loop-rest.insns.items in
    let none : c.loop-rest.rest.now ≡ [] = nil_from_length c.loop-rest.rest.now (eqb-true (length c.loop-rest.rest.now) 0 (sym c.loop-rest-test.ensures)) in
    let done = is_done all front c.loop-rest.line _ (ap (λ (rest : List ℕ). in_front front (slots_from all c.loop-rest.line (length front) (lines_in c.args.profile rest))) (sym none) ∙ c.loop-rest.invariant.slots) in
    let no_pieces : length (pieces c.loop-rest.rest.now) ≡ 0 = ap (λ (rest : List ℕ). length (pieces rest)) none in
    let last : length (pieces c.args.text.now) + 1 ≡ c.loop-rest.line = omega (arith, no_pieces, c.loop-rest.invariant.lines) in
    some_are (length (pieces c.args.text.now) + 1) front _ done (omega (arith, eqb-true c.loop-rest.insns.len 0 (sym c.if-is_empty.ensures)))
    ∙ ap (λ (at : ℕ). Err (errors.Format at 9)) last

pub returns : goal.returns
returns c =
    let all : List Line = lines_in c.args.profile c.args.text.now in
    let front : List Insn = c.loop-rest.insns.items in
    let none : c.loop-rest.rest.now ≡ [] = nil_from_length c.loop-rest.rest.now (eqb-true (length c.loop-rest.rest.now) 0 (sym c.loop-rest-test.ensures)) in
    let done = is_done all front c.loop-rest.line _ (ap (λ (rest : List ℕ). in_front front (slots_from all c.loop-rest.line (length front) (lines_in c.args.profile rest))) (sym none) ∙ c.loop-rest.invariant.slots) in
    all_are (length (pieces c.args.text.now) + 1) front _ done (λ e. eqb-false c.loop-rest.insns.len 0 (sym c.if-is_empty.ensures) (omega (arith, e)))

use Rattle.std.proofs.Common.{◌≡◌, ℕ, List, ◌++◌, ap, ◌∙◌, append_assoc}
use Rattle.std.specs.Prelude.{codes}
use Rattle.sim_line.specs.ScheduleTexts.{program_text, programs_text}
use Rattle.sim_line.proofs.schedule.push_programs.Goals as goal

-- four parts, one written behind the other
parts : (a b c d e f g h i : List ℕ) → b ≡ a ++ f → c ≡ b ++ g → d ≡ c ++ h → e ≡ d ++ i → e ≡ a ++ (((f ++ g) ++ h) ++ i)
parts a b c d e f g h i p q r s =
    s ∙ ap (λ l. l ++ i) (r ∙ ap (λ l. l ++ h) (q ∙ ap (λ l. l ++ g) p))
    ∙ ap (λ l. l ++ i) (ap (λ l. l ++ h) (append_assoc a f g) ∙ append_assoc a (f ++ g) h) ∙ append_assoc a ((f ++ g) ++ h) i

pub returns : goal.returns
unfolding programs_text
returns c = parts c.args.out.now.items c.extend_from_slice.new.self.items c.push_code.new.out.items c.push_code-2.new.out.items c.extend_from_slice-2.new.self.items
    (codes "policy program") (program_text c.args.should.now) (program_text c.args.skip.now) (codes "\n")
    c.in_ok-extend_from_slice.ensures.items c.in_ok-push_code.ensures c.in_ok-push_code-2.ensures c.in_ok-extend_from_slice-2.ensures.items

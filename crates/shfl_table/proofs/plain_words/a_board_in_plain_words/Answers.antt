use Rattle.std.proofs.Common.{subst}
use Rattle.shfl_line.specs.Line.{Line}
use Rattle.shfl_core.specs.View.{view}
use Rattle.shfl_laws.specs.Headline.{Headline}
use Rattle.shfl_laws.specs.SeenAlike.{with_passes}
use Rattle.shfl_laws.proofs.laws.SeenAlike.{seen-alike}
use Rattle.shfl_laws.proofs.plain.Headline.{headline}
use Rattle.shfl_laws.proofs.plain.Plain.{plain-law, lawful-law}
use Rattle.shfl_laws.proofs.shown.WellFormed.{agrees-well-formed}
use Rattle.shfl_table.specs.Views.{passes_from}
use Rattle.shfl_table.specs.BoardRule.{world_of}
use Rattle.shfl_table.proofs.plain_words.a_board_in_plain_words.Goals as goal

pub returns : goal.returns
returns g c = record {
  headline = λ t r s rule. let ok = rule.lawful in record {
    shown = ok.shown;
    well_formed = agrees-well-formed t (view (world_of s)) ok.shown ok.giver ok.of_passes ok.agrees;
    seen = headline t (world_of s) ok;
    standing = λ passes alike. let there = lawful-law t (with_passes s.words passes) ok.shown
        ((seen-alike t s.words passes (passes_from 0 s.views) ok.shown alike).1 (plain-law t (world_of s) ok)) in
        subst (λ (z : Line). Headline t.rules.limit (with_passes s.words passes) z.line z.hand) there.1 (headline t (with_passes s.words passes) there.0);
  };
}

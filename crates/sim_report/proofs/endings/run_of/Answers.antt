use Rattle.std.proofs.Common.{◌≡◌, ap, ◌∙◌, rules}
use Rattle.sim_model.specs.Runs.{State}
use Rattle.sim_report.specs.Endings.{end_of, cut_of, time_of}
use Rattle.sim_report.specs.Tallies.{rising}
use Rattle.sim_report.proofs.EndedRuns.{run-is, parts-are-ended}
use Rattle.sim_report.proofs.endings.run_of.Goals as goal

pub returns : goal.returns
unfolding cut_of time_of
returns c =
    let s = c.args.setup.now in
    let seed = c.args.seed in
    let rule = c.args.rule.now in
    let turns : c.setup.inside.load.turns ≡ s.load.turns = search rules in
    let attrs : c.as_slice-attrs.result.now ≡ s.passes = search rules in
    let run = run-is s seed rule _ _ _ c.run_setup-lock.ensures turns attrs in
    let bench : c.in_ok-run.run'.bench ≡ (end_of s seed rule).bench = c.in_ok-run.ensures.bench ∙ ap (λ (st : State). st.bench) run in
    let waits : c.in_ok-waits.waits.items ≡ rising (end_of s seed rule).waits = c.in_ok-waits.ensures ∙ ap rising (c.in_ok-run.ensures.waits ∙ ap (λ (st : State). st.waits) run) in
    let cut : c.is_cut-cut.result ≡ cut_of s seed rule = search rules in
    let time : c.time_reached-time.result ≡ time_of s seed rule = search rules in
    parts-are-ended s seed rule c.in_ok-run.run'.bench c.in_ok-waits.waits.items c.is_cut-cut.result c.time_reached-time.result bench waits cut time

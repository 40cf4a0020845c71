use Rattle.std.proofs.Common.{◌≡◌, ◌++◌, drop, map}
use Rattle.std.specs.List.{flat_map}
use Rattle.line_picture.specs.Reports.{State, row_said}
use Rattle.line_picture.specs.Changes.{shown_from, quiet_state}
use Rattle.line_picture.specs.TextPictures.{row_text, names_text}
use Rattle.line_picture.proofs.text.text_picture.Given as goal

abbrev pub invariant-loop-row : goal.invariant-loop-row
invariant-loop-row l =
    let before : State = record {
      lock = l.before.0;
      holders = l.before.1.0.now;
      queue = l.before.1.1.0.now;
      detached = l.before.1.1.1.0.now;
      shuffler = l.before.1.1.1.1.0.now;
      asleep = l.before.1.1.1.1.1.0.now;
    } in
    l.out.items ++ flat_map (row_text l.report.form) (shown_from l.all before (map row_said (drop l.row-index l.report.rows.items)))
    ≡ names_text l.report.form ++ flat_map (row_text l.report.form) (shown_from l.all quiet_state (map row_said l.report.rows.items))

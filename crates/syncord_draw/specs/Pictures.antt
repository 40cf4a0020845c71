-- What is drawn of a document.
use Rattle.std.specs.Prelude.{◌≡◌, ℕ, List, Ok, Err}
use Rattle.doc_text.specs.declared.fault.Fault.{Fault}
use Rattle.line_picture.specs.Reports.{Report}
use Rattle.line_picture.specs.Grammar.{report_in}
use Rattle.line_picture.specs.TextPictures.{text_picture}
use Rattle.line_page.specs.Pages.{page_text}
use Rattle.syncord_endings.specs.declared.ending.Refusal.{Refusal}
use Rattle.syncord_endings.specs.declared.ending.Refusal.TheVariants.{Line}
use Rattle.syncord_draw.specs.declared.commands.Command.{Command}
use Rattle.syncord_draw.specs.declared.commands.Command.TheVariants.{Svg, Text, Page}

-- the text is that of the report, and the page that of its bytes; of an SVG nothing is said
abbrev pub Shows : Command → List ℕ → Report → List ℕ → Type 0
Shows (Svg all) bytes report picture = Unit {0}
Shows (Text all) bytes report picture = picture ≡ text_picture all report
Shows Page bytes report picture = picture ≡ page_text bytes

-- the bytes are a report, and the picture shows it
pub record Draws (command : Command) (bytes picture : List ℕ) : Type 0 where
  pub report : Report
  pub read : report_in bytes ≡ Ok report
  pub drawn : Shows command bytes report picture

-- the bytes are no report, and this is the first bad line with its lowest fault
pub record Refuses (bytes : List ℕ) (refusal : Refusal) : Type 0 where
  pub fault : Fault
  pub found : report_in bytes ≡ Err fault
  pub told : refusal ≡ Line fault.line fault.what

-- The fixed texts of a page, as they stand in the sources.
use Rattle.std.specs.Prelude.{ℕ, List}
use Rattle.line_page.specs.declared.head.TheConstants.{HEAD}
use Rattle.line_page.specs.declared.style.TheConstants.{STYLE}
use Rattle.line_page.specs.declared.body.TheConstants.{BODY}
use Rattle.line_page.specs.declared.reading.TheConstants.{READING}
use Rattle.line_page.specs.declared.telling.TheConstants.{TELLING}
use Rattle.line_page.specs.declared.drawing.TheConstants.{DRAWING}
use Rattle.line_page.specs.declared.choosing.TheConstants.{CHOOSING}

unfoldable pub head_text : List ℕ
head_text = HEAD.now

unfoldable pub style_text : List ℕ
style_text = STYLE.now

unfoldable pub body_text : List ℕ
body_text = BODY.now

-- the parts of the script
unfoldable pub reading_text : List ℕ
reading_text = READING.now

unfoldable pub telling_text : List ℕ
telling_text = TELLING.now

unfoldable pub drawing_text : List ℕ
drawing_text = DRAWING.now

unfoldable pub choosing_text : List ℕ
choosing_text = CHOOSING.now

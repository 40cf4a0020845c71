-- The parts of a picture in SVG.
use Rattle.std.specs.Prelude.{ℕ, List, ◌++◌, codes}
use Rattle.std.specs.Fmt.{decimal}

-- the beginning of a text that stands there
unfoldable pub text_at : ℕ → ℕ → List ℕ
text_at x y = codes "<text x=\"" ++ decimal x ++ codes "\" y=\"" ++ decimal y ++ codes "\">"

abbrev pub text_end : List ℕ
text_end = codes "</text>\n"

unfoldable pub class_text : List ℕ → List ℕ
class_text kind = codes "<rect class=\"" ++ kind ++ codes "\""

unfoldable pub place_text : ℕ → ℕ → List ℕ
place_text x y = codes " x=\"" ++ decimal x ++ codes "\" y=\"" ++ decimal y ++ codes "\""

unfoldable pub height_text : List ℕ
height_text = codes "\" height=\"14\"/>\n"

unfoldable pub size_text : ℕ → List ℕ
size_text width = codes " width=\"" ++ decimal width ++ height_text

-- a bar of a kind that begins there
unfoldable pub rect_text : List ℕ → ℕ → ℕ → ℕ → List ℕ
rect_text kind x y width = class_text kind ++ place_text x y ++ size_text width

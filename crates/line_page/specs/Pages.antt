-- The page of a report: the report is the text of one element, and a script behind it shows it event by event.
use Rattle.std.specs.Prelude.{ℕ, List, ◌++◌, codes}
use Rattle.markup_text.specs.Escaping.{escaped}
use Rattle.line_page.specs.Texts.{head_text, style_text, body_text, reading_text, telling_text, drawing_text, choosing_text}

-- what stands before the report
unfoldable pub front_text : List ℕ
front_text = head_text ++ style_text ++ body_text

unfoldable pub script_text : List ℕ
script_text = reading_text ++ telling_text ++ drawing_text ++ choosing_text

unfoldable pub page_text : List ℕ → List ℕ
page_text report = front_text ++ codes "<pre id=\"report\">\n" ++ escaped report ++ codes "</pre>\n<script>\n" ++ script_text
    ++ codes "</script>\n</body>\n</html>\n"

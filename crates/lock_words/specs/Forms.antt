-- How documents spell a lock's form, and the limit of its batches.
use Rattle.std.specs.Prelude.{ℕ, List, Option, Some, None, ◌==◌, if◌then◌else◌, codes}
use Rattle.shfl_line.specs.declared.events.Form.{Form}
use Rattle.shfl_line.specs.declared.events.Form.TheVariants as forms
use Rattle.doc_text.specs.Words.{same, ◌>>?◌}
use Rattle.doc_text.specs.Numbers.{number_in}

abbrev pub form_text : Form → List ℕ
form_text forms.Spin = codes "spin"
form_text forms.Rw = codes "rw"
form_text forms.Park = codes "park"
form_text forms.RwPark = codes "rw-park"

abbrev pub form_named : List ℕ → Option Form
form_named word =
    if same word (codes "spin") then Some forms.Spin
    else if same word (codes "rw") then Some forms.Rw
    else if same word (codes "park") then Some forms.Park
    else if same word (codes "rw-park") then Some forms.RwPark
    else None

-- 1 to 1024
abbrev pub batch_in : List ℕ → Option ℕ
batch_in word = number_in 1024 word >>? λ n. if n == 0 then None else Some n

-- Lines of a name and a value.
use Rattle.std.specs.Prelude.{ℕ, List, Option, Some, None, if◌then◌else◌, codes}
use Rattle.shfl_line.specs.declared.events.Form.{Form}
use Rattle.doc_text.specs.Words.{same, two, ◌>>?◌}
use Rattle.lock_words.specs.Forms.{form_named, batch_in}

-- the second of just two words, where the first is this name
abbrev pub behind : List ℕ → List (List ℕ) → Option (List ℕ)
behind name ws = two ws >>? λ w. if same w.0 name then Some w.1 else None

-- `form spin`, `form rw`, `form park` or `form rw-park`
abbrev pub form_in : List (List ℕ) → Option Form
form_in ws = behind (codes "form") ws >>? form_named

-- `limit N`
abbrev pub limit_in : List (List ℕ) → Option ℕ
limit_in ws = behind (codes "limit") ws >>? batch_in

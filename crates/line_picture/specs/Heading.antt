-- The first line of a report.
use Rattle.std.specs.Prelude.{ℕ, List, ◌||◌, Option, Some, None, ◌==◌, codes, if◌then◌else◌}
use Rattle.shfl_line.specs.declared.events.Form.{Form}
use Rattle.doc_text.specs.Words.{same, ◌>>?◌}
use Rattle.doc_text.specs.Numbers.{number_in}
use Rattle.lock_words.specs.Forms.{form_named}
use Rattle.line_picture.specs.Columns.{labelled_in, last_in}

-- a number from 1 to the most
abbrev pub count_in : ℕ → List ℕ → Option ℕ
count_in most word = number_in most word >>? λ n. if n == 0 then None else Some n

-- `form F limit N passes P`: the form, and the number of passes
abbrev pub sizes_in : List (List ℕ) → Option (Form × ℕ)
sizes_in ws = labelled_in (codes "form") ws >>? λ f. labelled_in (codes "limit") f.1 >>? λ l. last_in (codes "passes") l.1 >>? λ p.
    form_named f.0 >>? λ form. count_in 1024 l.0 >>? λ limit. count_in 64 p >>? λ passes. Some (form, passes)

-- `profile 1` or `profile 2`, and what follows
abbrev pub profile_in : List (List ℕ) → Option (List (List ℕ))
profile_in ws = labelled_in (codes "profile") ws >>? λ q. if same q.0 (codes "1") || same q.0 (codes "2") then Some q.1 else None

-- `shfl-line 1`, or `shfl-line 2` and the profile; and then the sizes
abbrev pub heading_in : List (List ℕ) → Option (Form × ℕ)
heading_in ws = labelled_in (codes "shfl-line") ws >>? λ v.
    if same v.0 (codes "1") then sizes_in v.1
    else if same v.0 (codes "2") then (profile_in v.1 >>? λ more. sizes_in more)
    else None

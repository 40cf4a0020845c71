-- What one line of a trace says.
use Rattle.std.specs.Prelude.{ℕ, List, [], ◌∷◌, length, Bool, true, false, ◌&&◌, ◌||◌, Option, Some, None, nat_le, nat_lt, ◌==◌, if◌then◌else◌, codes}
use Rattle.std.specs.List.{list_all, list_any, count_by}
use Rattle.doc_text.specs.Words.{is_word, same, one, two, four, ◌>>?◌}
use Rattle.doc_text.specs.Numbers.{capped_in}
use Rattle.policy_text.specs.Programs.{source_in}
use Rattle.trace_text.specs.Document.{Act, make, drop_name, rename, find, count, next, attach, CallLine, PolicyLine}

-- `a` to `z`, `0` to `9`, `-` and `_`
abbrev pub is_name_byte : ℕ → Bool
is_name_byte b = nat_le 97 b && nat_le b 122 || nat_le 48 b && nat_le b 57 || b == 45 || b == 95

-- the name of a policy: 1 to 32 such bytes
abbrev pub is_policy_name : List ℕ → Bool
is_policy_name name = is_word name && nat_le (length name) 32 && list_all is_name_byte name

-- a policy as its line gives it, the programs still as words
pub record PolicyWords : Type 0 where
  pub name : List ℕ
  pub should : List ℕ
  pub skip : List ℕ

-- `policy NAME SHOULD SKIP`
abbrev pub policy_in : List (List ℕ) → Option PolicyWords
policy_in ws = four ws >>? λ w. if same w.0 (codes "policy") && is_policy_name w.1 && is_word w.2 && is_word w.3 then Some (record { name = w.1; should = w.2; skip = w.3 }) else None

-- the name and both programs
abbrev pub programs_in : PolicyWords → Option PolicyLine
programs_in p = source_in p.should p.skip >>? λ source. Some (record { name = p.name; source = source })

-- some policy has this name
abbrev pub is_declared : List PolicyLine → List ℕ → Bool
is_declared policies name = list_any (λ p. same p.name name) policies

-- a name: any word of at least one byte
abbrev pub name_in : List ℕ → Option (List ℕ)
name_in word = if is_word word then Some word else None

-- a directory, where 64 stands for each number above 63
abbrev pub dir_in : List ℕ → Option ℕ
dir_in word = capped_in 64 word

-- `D N`
abbrev pub entry_in : List (List ℕ) → Option (ℕ × List ℕ)
entry_in ws = two ws >>? λ w. dir_in w.0 >>? λ dir. name_in w.1 >>? λ name. Some (dir, name)

-- `D N D N`
abbrev pub rename_in : List (List ℕ) → Option Act
rename_in ws = four ws >>? λ w. dir_in w.0 >>? λ dir. name_in w.1 >>? λ name. dir_in w.2 >>? λ to_dir. name_in w.3 >>? λ to_name. Some (rename dir name to_dir to_name)

-- `D`
abbrev pub count_in : List (List ℕ) → Option Act
count_in ws = one ws >>? λ d. dir_in d >>? λ dir. Some (count dir)

-- nothing, or `N`
abbrev pub after_in : List (List ℕ) → Option (Option (List ℕ))
after_in [] = Some None
after_in (n ∷ ns) = one (n ∷ ns) >>? λ n. name_in n >>? λ name. Some (Some name)

-- `D`, and then nothing or `N`
abbrev pub next_in : List (List ℕ) → Option Act
next_in [] = None
next_in (d ∷ ns) = dir_in d >>? λ dir. after_in ns >>? λ after. Some (next dir after)

-- `NAME`
abbrev pub attach_in : List (List ℕ) → Option Act
attach_in ws = one ws >>? λ n. name_in n >>? λ name. Some (attach name)

-- a verb and what follows it
abbrev pub act_in : List ℕ → List (List ℕ) → Option Act
act_in verb ws =
    if same verb (codes "make") then (entry_in ws >>? λ e. Some (make e.0 e.1))
    else if same verb (codes "drop") then (entry_in ws >>? λ e. Some (drop_name e.0 e.1))
    else if same verb (codes "rename") then rename_in ws
    else if same verb (codes "find") then (entry_in ws >>? λ e. Some (find e.0 e.1))
    else if same verb (codes "count") then count_in ws
    else if same verb (codes "next") then next_in ws
    else if same verb (codes "attach") then attach_in ws
    else None

-- a worker, where 16 stands for each number above 15, a verb, and what follows it
abbrev pub call_in : List (List ℕ) → Option CallLine
call_in (w ∷ v ∷ ws) = capped_in 16 w >>? λ worker. act_in v ws >>? λ act. Some (record { worker = worker; act = act })
call_in ws = None

-- a directory below 64 and a name of at most 255 bytes
abbrev pub is_entry : ℕ → List ℕ → Bool
is_entry dir name = nat_lt dir 64 && nat_le (length name) 255

-- each directory is below 64, and each name of the directory has at most 255 bytes
abbrev pub is_in_range : Act → Bool
is_in_range (make dir name) = is_entry dir name
is_in_range (drop_name dir name) = is_entry dir name
is_in_range (rename dir name to_dir to_name) = is_entry dir name && is_entry to_dir to_name
is_in_range (find dir name) = is_entry dir name
is_in_range (count dir) = nat_lt dir 64
is_in_range (next dir None) = nat_lt dir 64
is_in_range (next dir (Some name)) = is_entry dir name
is_in_range (attach name) = true

-- only worker 0 attaches, and only a policy that is declared
abbrev pub may_do : List PolicyLine → ℕ → Act → Bool
may_do policies worker (attach name) = (worker == 0) && is_declared policies name
may_do policies worker act = true

abbrev pub is_attach : Act → Bool
is_attach (attach name) = true
is_attach act = false

-- how many of the calls are attachments
abbrev pub attach_count : List CallLine → ℕ
attach_count calls = count_by (λ c. is_attach c.act) calls

-- no room for one more: 65,536 calls, 4,096 attachments among them
abbrev pub is_full : List CallLine → Act → Bool
is_full before act = nat_le 65536 (length before) || is_attach act && nat_le 4096 (attach_count before)

-- The attributes of a waiter in a line.
use Rattle.std.specs.Prelude.{◌≤◌, ℕ, List, [], ◌∷◌, Option, Some, None, if◌then◌else◌}
use Rattle.std.specs.Fmt.{decimal}
use Rattle.shfl_line.specs.declared.words.Attr.{Attr}
use Rattle.doc_text.specs.Words.{same, five, spaced, ◌>>?◌}
use Rattle.doc_text.specs.Numbers.{number_in}

-- `WORD SOCKET PRIO CLASS KIND`, each number at most 65535
abbrev pub attr_in : List ℕ → List (List ℕ) → Option Attr
attr_in word ws = five ws >>? λ w. if same w.0 word then
    (number_in 65535 w.1 >>? λ socket. number_in 65535 w.2 >>? λ prio. number_in 65535 w.3 >>? λ class. number_in 65535 w.4 >>? λ kind.
    Some (record { socket = socket; prio = prio; class = class; kind = kind })) else None

-- the line that says so
abbrev pub attr_line : List ℕ → Attr → List ℕ
attr_line word a = spaced (word ∷ decimal a.socket ∷ decimal a.prio ∷ decimal a.class ∷ decimal a.kind ∷ [])

-- numbers that such a line can have
pub record IsAttr (a : Attr) : Type 0 where
  pub socket : a.socket ≤ 65535
  pub prio : a.prio ≤ 65535
  pub class : a.class ≤ 65535
  pub kind : a.kind ≤ 65535

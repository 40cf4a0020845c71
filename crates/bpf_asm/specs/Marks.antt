-- The names that a text declares, as the first walk finds them.
use Rattle.std.specs.Prelude.{◌≡◌, ℕ, ◌+◌, List, [], ◌∷◌, map, Bool, false, Option, Some, None, Result, Ok, Err, ◌==◌, if◌then◌else◌}
use Rattle.bpf_asm.specs.declared.names.Declared.{Declared}
use Rattle.bpf_asm.specs.declared.names.Mark.{Mark}
use Rattle.bpf_asm.specs.declared.statement.Statement.{Statement as Held}
use Rattle.bpf_asm.specs.declared.statement.Statement.TheVariants as held
use Rattle.bpf_isa.specs.declared.insn.Insn.{Insn}
use Rattle.bpf_isa.specs.Flow.{is_half}
use Rattle.bpf_asm.specs.Assembly.{Line, layout, mark_of}
use Rattle.bpf_asm.specs.Forms.{or_else}
use Rattle.bpf_asm.specs.Names.{key_of, mark_in, is_elsewhere, first_repeat, AreDeclared, AreInOrder, AreMarks}
use Rattle.bpf_asm.specs.Statements.{Statement}

-- the declaration that a line is
abbrev pub declared_on : ℕ → ℕ → Result Held ℕ → List Declared
declared_on line slot (Err fault) = []
declared_on line slot (Ok (held.Name name)) = record { key = key_of name.now; name = name; line = line; slot = slot } ∷ []
declared_on line slot (Ok (held.One x)) = []
declared_on line slot (Ok (held.Wide dst low high)) = []
declared_on line slot (Ok (held.JumpTo x name)) = []

-- the mark of a name behind a line that may declare it: the first one stands
abbrev pub first_mark : Option Mark → Bool → Mark → Option Mark
first_mark before declared mark = or_else before (if declared then Some mark else None)

-- the line declares a name whose mark is of another line
abbrev pub is_again : (List ℕ → Option Mark) → ℕ → Line → Bool
is_again marked line (Err fault) = false
is_again marked line (Ok (Statement.Name name)) = is_elsewhere line (marked name)
is_again marked line (Ok (Statement.Code insns)) = false
is_again marked line (Ok (Statement.JumpTo x name)) = false

-- the first such line from this one on
unfoldable pub first_again : (List ℕ → Option Mark) → ℕ → List Line → Option ℕ
first_again marked line [] = None
first_again marked line (l ∷ ls) = if is_again marked line l then Some line else first_again marked (line + 1) ls

-- it is this line
abbrev pub is_at : ℕ → Option ℕ → Bool
is_at line None = false
is_at line (Some other) = other == line

-- a declaration, where it isn't the first one that is bad
abbrev pub unless_at : ℕ → Option ℕ → Result (List Insn) ℕ
unless_at line again = if is_at line again then Err 5 else Ok []

-- the marks that all lines give
abbrev pub marked_in : List Line → List ℕ → Option Mark
marked_in all name = mark_of name 1 0 all

-- what the first walk over all lines collects
pub record IsCollected (names : List Declared) (halves : List Bool) (all : List Line) : Type 0 where
  pub marks_stand : (name : List ℕ) → mark_in names name ≡ mark_of name 1 0 all
  pub repeats_stand : first_repeat (marked_in all) names ≡ first_again (marked_in all) 1 all
  pub declared : (high : ℕ) × AreDeclared 1 names high
  pub halves_stand : halves ≡ map is_half (layout all)

-- what is known of all lines behind it
pub record IsSurvey (names : List Declared) (halves : List Bool) (again : Option ℕ) (all : List Line) : Type 0 where
  pub order : AreInOrder names
  pub marks_stand : AreMarks names (marked_in all)
  pub halves_stand : halves ≡ map is_half (layout all)
  pub again_stands : again ≡ first_again (marked_in all) 1 all

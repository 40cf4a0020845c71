-- The first line of a document, which names its version, and in version 2 the line that names the profile.
use Rattle.std.specs.Prelude.{◌≡◌, ◌⊎◌, ℕ, List, [], ◌∷◌, Option, Some, None, Result, Ok, ◌==◌, if◌then◌else◌, codes}
use Rattle.bpf_isa.specs.declared.insn.Profile.{Profile}
use Rattle.bpf_isa.specs.declared.insn.Profile.TheVariants as profile
use Rattle.doc_text.specs.declared.fault.Fault.{Fault}
use Rattle.doc_text.specs.Words.{same, two, spaced, ◌>>?◌}
use Rattle.doc_text.specs.Faults.{◌>>=◌, one_of}

-- `TITLE 1` or `TITLE 2`
abbrev pub version_in : List ℕ → List (List ℕ) → Option ℕ
version_in title ws = two ws >>? λ w. if same w.0 title then (if same w.1 (codes "1") then Some 1 else if same w.1 (codes "2") then Some 2 else None) else None

-- `profile 1` or `profile 2`
abbrev pub profile_in : List (List ℕ) → Option Profile
profile_in ws = two ws >>? λ w. if same w.0 (codes "profile") then (if same w.1 (codes "1") then Some profile.One else if same w.1 (codes "2") then Some profile.Two else None) else None

-- the version and the profile, and the pieces behind them
pub record Heading : Type 0 where
  pub version : ℕ
  pub profile : Profile
  pub rest : List (List ℕ)

abbrev pub heading : ℕ → Profile → List (List ℕ) → Heading
heading version profile rest = record { version = version; profile = profile; rest = rest }

-- Version 1 has no profile line, and profile 1. A bad first line is fault 2, and in version 2 a bad or missing profile line is
-- the fault `what`.
unfoldable pub heading_in : List ℕ → ℕ → List (List ℕ) → Result Heading Fault
heading_in title what ps = one_of 1 2 (version_in title) ps >>= λ first.
    if first.0 == 1 then Ok (heading 1 profile.One first.1)
    else (one_of 2 what profile_in first.1 >>= λ second. Ok (heading 2 second.0 second.1))

abbrev pub profile_word : Profile → List ℕ
profile_word profile.One = codes "1"
profile_word profile.Two = codes "2"

-- the first line, and in version 2 the profile line
abbrev pub heading_lines : List ℕ → ℕ → Profile → List (List ℕ)
heading_lines title version profile = if version == 1 then spaced (title ∷ codes "1" ∷ []) ∷ [] else spaced (title ∷ codes "2" ∷ []) ∷ spaced (codes "profile" ∷ profile_word profile ∷ []) ∷ []

-- the version, and in version 2 the profile, as a report names them
abbrev pub version_words : ℕ → Profile → List (List ℕ)
version_words version profile = if version == 1 then codes "1" ∷ [] else codes "2" ∷ codes "profile" ∷ profile_word profile ∷ []

-- the versions that there are: version 1 has profile 1
abbrev pub IsVersion : ℕ → Profile → Type 0
IsVersion version named = ((version ≡ 1) × (named ≡ profile.One)) ⊎ (version ≡ 2)

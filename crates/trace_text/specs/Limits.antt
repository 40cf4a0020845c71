-- What a trace may say.
use Rattle.std.specs.Prelude.{◌≡◌, ◌<◌, ◌≤◌, ℕ, List, [], ◌∷◌, length, true, false}
use Rattle.std.specs.List.{AllByRecursion}
use Rattle.bpf_isa.specs.declared.insn.Profile.{Profile}
use Rattle.doc_text.specs.Text.{IsPlain}
use Rattle.doc_text.specs.Words.{is_word, HasNoBlank}
use Rattle.policy_text.specs.Accepted.{AcceptsSource}
use Rattle.policy_text.specs.Attributes.{IsAttr}
use Rattle.policy_text.specs.Headings.{IsVersion}
use Rattle.policy_text.specs.Programs.{IsBytesOf}
use Rattle.trace_text.specs.Document.{Act, attach, CallLine, PolicyLine, Document}
use Rattle.trace_text.specs.Lines.{is_policy_name, is_declared, is_in_range, may_do, attach_count}
use Rattle.trace_text.specs.Spelled.{act_names}

-- at least one byte, each from 0x21 to 0x7e
abbrev pub IsName : List ℕ → Type 0
IsName name = (is_word name ≡ true) × IsPlain name × HasNoBlank name

-- the names in a call, of the directory or of a policy
abbrev pub spelled_names : Act → List (List ℕ)
spelled_names (attach name) = name ∷ []
spelled_names act = act_names act

-- a worker that there is does what it may, within the ranges
pub record IsCall (workers : ℕ) (policies : List PolicyLine) (c : CallLine) : Type 0 where
  pub worker : c.worker < workers
  pub ranged : is_in_range c.act ≡ true
  pub may : may_do policies c.worker c.act ≡ true
  pub names : AllByRecursion IsName (spelled_names c.act)

-- a well formed name, and programs that the profile accepts
pub record IsPolicy (profile : Profile) (p : PolicyLine) : Type 0 where
  pub name : is_policy_name p.name ≡ true
  pub accepted : AcceptsSource profile p.source
  pub should : IsBytesOf p.source.should
  pub skip : IsBytesOf p.source.skip

-- no policy has the name of one behind it
abbrev pub AreNamedApart : List PolicyLine → Type 0
AreNamedApart [] = Unit {0}
AreNamedApart (p ∷ ps) = (is_declared ps p.name ≡ false) × AreNamedApart ps

-- a trace within the limits
pub record Fits (d : Document) : Type 0 where
  pub version : IsVersion d.version d.profile
  pub workers : (0 < length d.workers) × (length d.workers ≤ 16) × AllByRecursion IsAttr d.workers
  pub policies : (0 < length d.policies) × (length d.policies ≤ 64) × AllByRecursion (IsPolicy d.profile) d.policies
  pub apart : AreNamedApart d.policies
  pub calls : (length d.calls ≤ 65536) × (attach_count d.calls ≤ 4096) × AllByRecursion (IsCall (length d.workers) d.policies) d.calls

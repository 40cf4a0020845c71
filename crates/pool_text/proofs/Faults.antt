-- The first bad call line, found one line after another.
use Rattle.std.proofs.Common.{◌≡◌, ℕ, zero, suc, ◌+◌, ◌<◌, ◌≤◌, if◌then◌else◌, Bool, true, false, List, [], ◌∷◌, map, length, drop, get_or, Option, Some, None, nat_le, sym, refl, ap, ◌∙◌, arith, le-leb}
use Rattle.std.proofs.lemmas.Bool.{lt-leb}
use Rattle.doc_text.specs.declared.fault.Fault.{Fault}
use Rattle.dir_table.specs.declared.calls.DirCall.{DirCall}
use Rattle.dir_table.specs.declared.calls.DirCall.TheVariants as call
use Rattle.trace_text.specs.declared.trace.TraceAct.{TraceAct}
use Rattle.trace_text.specs.declared.trace.TraceAct.TheVariants as does
use Rattle.trace_text.specs.declared.trace.TraceCall.{TraceCall}
use Rattle.trace_text.specs.Lines.{is_attach}
use Rattle.trace_text.specs.Traces.{dir_act, act_of, call_of, is_attachment}
use Rattle.pool_text.specs.declared.calls.TheConstants.{OVER, ATTACH}
use Rattle.pool_text.specs.PoolDocuments.{fault_from}

directory_call : (names : List (List ℕ)) (c : DirCall) → is_attach (dir_act names c) ≡ false
directory_call names (call.Make dir name) = refl
directory_call names (call.Drop dir name) = refl
directory_call names (call.Rename dir name to_dir to_name) = refl
directory_call names (call.Find dir name) = refl
directory_call names (call.Count dir) = refl
directory_call names (call.Next dir after) = refl

attaches : (names policies : List (List ℕ)) (act : TraceAct) → is_attach (act_of names policies act) ≡ is_attachment act
attaches names policies (does.Dir c) = directory_call names c
attaches names policies (does.Attach policy) = refl

-- which call lines attach, by the document and by the trace
pub attaches_all : (names policies : List (List ℕ)) (cs : List TraceCall) → map (λ c. is_attach c.act) (map (call_of names policies) cs) ≡ map (λ c. is_attachment c.act) cs
attaches_all names policies [] = refl
attaches_all names policies (c ∷ cs) = λ i. attaches names policies c.act i ∷ attaches_all names policies cs i

abbrev pub which : List TraceCall → List Bool
which = map (λ c. is_attachment c.act)

from_place : (cs : List TraceCall) (k : ℕ) (x : TraceCall) → k < length cs → x ≡ get_or cs k x → drop k (which cs) ≡ is_attachment x.act ∷ drop (suc k) (which cs)
from_place [] k x below is = absurd (omega arith)
from_place (c ∷ cs) zero x below is = ap (λ (y : TraceCall). is_attachment y.act ∷ which cs) (sym is)
from_place (c ∷ cs) (suc k) x below is = from_place cs k x (omega arith) is

some_left : (bs : List Bool) (k : ℕ) → k < length bs → (b : Bool) × (drop k bs ≡ b ∷ drop (suc k) bs)
some_left [] k below = absurd (omega arith)
some_left (b ∷ bs) zero below = (b, refl)
some_left (b ∷ bs) (suc k) below = some_left bs k (omega arith)

long_which : (cs : List TraceCall) → length (which cs) ≡ length cs
long_which [] = refl
long_which (c ∷ cs) = ap suc (long_which cs)

abbrev step : ℕ → ℕ → Bool → Bool → List Bool → Option Fault
step k line many b others = if many then Some (record { line = line; what = OVER }) else if b then Some (record { line = line; what = ATTACH }) else fault_from (k + 1) (line + 1) others

pub too_many : (cs : List TraceCall) (k line : ℕ) → k < length cs → 4096 ≤ k → fault_from k line (drop k (which cs)) ≡ Some (record { line = line; what = OVER })
too_many cs k line below many = let b = some_left (which cs) k (let l = long_which cs in omega arith) in
    ap (fault_from k line) b.1 ∙ ap (λ t. step k line t b.0 (drop (suc k) (which cs))) (le-leb 4096 k many)

pub an_attachment : (cs : List TraceCall) (k line : ℕ) (x : TraceCall) → k < length cs → k < 4096 → x ≡ get_or cs k x → is_attachment x.act ≡ true → fault_from k line (drop k (which cs)) ≡ Some (record { line = line; what = ATTACH })
an_attachment cs k line x below few is attach =
    ap (fault_from k line) (from_place cs k x below is) ∙ (λ i. step k line (lt-leb 4096 k few i) (attach i) (drop (suc k) (which cs)))

pub next_line : (cs : List TraceCall) (k line : ℕ) (x : TraceCall) → k < length cs → k < 4096 → x ≡ get_or cs k x → is_attachment x.act ≡ false
    → fault_from k line (drop k (which cs)) ≡ fault_from (k + 1) (line + 1) (drop (k + 1) (which cs))
next_line cs k line x below few is other = let e : suc k ≡ k + 1 = omega arith in
    ap (fault_from k line) (from_place cs k x below is) ∙ ((λ i. step k line (lt-leb 4096 k few i) (other i) (drop (suc k) (which cs))) ∙ ap (λ n. fault_from (k + 1) (line + 1) (drop n (which cs))) e)

drop_all : (bs : List Bool) (k : ℕ) → length bs ≤ k → drop k bs ≡ []
drop_all [] zero few = refl
drop_all [] (suc k) few = refl
drop_all (b ∷ bs) zero few = absurd (omega arith)
drop_all (b ∷ bs) (suc k) few = drop_all bs k (omega arith)

pub none_left : (cs : List TraceCall) (k line : ℕ) → length cs ≤ k → fault_from k line (drop k (which cs)) ≡ None
none_left cs k line few = ap (fault_from k line) (drop_all (which cs) k (let l = long_which cs in omega arith))

-- A text that goes to a sink in parts.
use Rattle.std.proofs.Common.{ℕ, ◌+◌, ◌≤◌, ◌<◌, List, [], ◌++◌, length, take, Bool, true, false, Option, Some, None, Result, Ok, Err, OnOk, IfErr, is_ok, sym, inl, inr, arith}
use Rattle.std.proofs.lemmas.List.{append-nil, take-append-le, length-append}
use Rattle.std.proofs.Math.Seq.{take-append-add}
use Rattle.syn_outer.specs.Causes.{Rose}
use Rattle.syn_outer.specs.Bytes.{Took}
use Rattle.syn_outer.specs.declared.whole.WriteFault.{WriteFault}
use Rattle.syn_outer.proofs.TakenBytes.{Took-trans}
use Rattle.syncord_endings.specs.Traffic.{traffic, Telling, Told}

pub Took-nil : (a : Option (List ℕ)) → Took a a []
Took-nil None = tt
Took-nil (Some xs) = sym (append-nil xs)

-- nothing was said yet
pub begins : (a : Option (List ℕ)) (f : ℕ) → Telling true (traffic a a f f) []
begins a f = (Took-nil a, omega arith)

-- one part more was handed to the sink
pub goes_on : (a b c : Option (List ℕ)) (f g h : ℕ) (text bytes : List ℕ) (r : Result (Unit {0}) WriteFault) → Telling true (traffic a b f g) text
    → OnOk r (Took b c bytes) → IfErr r (λ e. Took b c (take e.written bytes)) → IfErr r (λ e. e.written < length bytes) → IfErr r (λ _. Rose g h) → g ≤ h → Telling (is_ok r) (traffic a c f h) (text ++ bytes)
goes_on a b c f g h text bytes (Ok u) so_far all part less rose later = (Took-trans a b c text bytes so_far.0 all, omega (arith, so_far.1))
goes_on a b c f g h text bytes (Err e) so_far all part less rose later =
    (length text + e.written, omega (arith, length-append text bytes, less), rw (take-append-add text bytes e.written) (Took-trans a b c text (take e.written bytes) so_far.0 part), omega (arith, so_far.1, rose))

-- nothing more is said once the sink has failed
pub stays : (a b : Option (List ℕ)) (f g : ℕ) (text bytes : List ℕ) → Telling false (traffic a b f g) text → Telling false (traffic a b f g) (text ++ bytes)
stays a b f g text bytes so_far =
    let within = so_far.1 in
    (so_far.0, omega (arith, length-append text bytes, within), rw (take-append-le so_far.0 text bytes within) so_far.2, so_far.3)

pub told : (a b : Option (List ℕ)) (f g : ℕ) (v : Bool) (text : List ℕ) → Telling v (traffic a b f g) text → Told (traffic a b f g) text
told a b f g true text all = inl all.0
told a b f g false text part = inr (part.0, part.2, part.3)

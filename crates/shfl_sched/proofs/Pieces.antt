-- A report that goes to a sink in pieces: how far it is, and where it stops.
use Rattle.std.proofs.Common.{◌≡◌, ℕ, ◌+◌, ◌≤◌, List, [], ◌++◌, Option, Some, None, Result, Ok, Err, OnOk, OnErr, length, take, length-append, append_assoc, append-nil, refl, sym, ap, ◌∙◌, subst, arith}
use Rattle.std.proofs.lemmas.List.{take-append-le}
use Rattle.std.proofs.Math.Seq.{take-append-add}
use Rattle.syn_outer.specs.Bytes.{Took}
use Rattle.syn_outer.proofs.TakenBytes.{Took-trans}
use Rattle.shfl_sched.specs.declared.handing.RunError.{RunError}
use Rattle.shfl_sched.specs.declared.handing.RunError.TheVariants.{NoMemory, Write}
use Rattle.shfl_sched.specs.Handing.{Stops, HandsOn, StopsAfter}

-- so many bytes of the whole were sent to a sink, a text stands behind them, and more is to come
pub record Handed (before now : Option (List ℕ)) (sent : ℕ) (text more whole : List ℕ) : Type 0 where
  pub front : List ℕ
  pub taken : Took before now front
  pub long : length front ≡ sent
  pub all : front ++ text ++ more ≡ whole

pub Took-nil : (a : Option (List ℕ)) → Took a a []
Took-nil None = tt
Took-nil (Some xs) = sym (append-nil xs)

-- nothing was sent yet
pub begins : (a : Option (List ℕ)) (text more whole : List ℕ) → text ++ more ≡ whole → Handed a a 0 text more whole
begins a text more whole is = record { front = []; taken = Took-nil a; long = refl; all = is }

-- a text of what is to come was written
pub writes : (a b : Option (List ℕ)) (sent : ℕ) (text text' part more whole : List ℕ) → text' ≡ text ++ part → Handed a b sent text (part ++ more) whole → Handed a b sent text' more whole
writes a b sent text text' part more whole is so_far = record {
  front = so_far.front;
  taken = so_far.taken;
  long = so_far.long;
  all = rw is (ap (λ (l : List ℕ). l ++ more) (sym (append_assoc so_far.front text part)) ∙ append_assoc (so_far.front ++ text) part more ∙ so_far.all);
}

-- a front of the text was sent
pub hands_on : (a b c : Option (List ℕ)) (sent sent' : ℕ) (text text' more whole : List ℕ) → HandsOn b c sent sent' text text' → Handed a b sent text more whole → Handed a c sent' text' more whole
hands_on a b c sent sent' text text' more whole moved so_far = record {
  front = so_far.front ++ moved.0;
  taken = Took-trans a b c so_far.front moved.0 so_far.taken moved.3;
  long = length-append so_far.front moved.0 ∙ ap (λ (n : ℕ). n + length moved.0) so_far.long ∙ sym moved.2;
  all = ap (λ (l : List ℕ). l ++ more) (append_assoc so_far.front moved.0 text' ∙ ap (λ (l : List ℕ). so_far.front ++ l) (sym moved.1)) ∙ so_far.all;
}

-- as much was sent and written as before
pub as_much : (b c : Option (List ℕ)) (sent sent' : ℕ) (text text' : List ℕ) → HandsOn b c sent sent' text text' → sent' + length text' ≡ sent + length text
as_much b c sent sent' text text' moved =
    let long = ap (λ (l : List ℕ). length l) moved.1 in
    let parts = length-append moved.0 text' in omega (arith, long, parts, moved.2)

-- the sink failed in the text
pub stops : (a b c : Option (List ℕ)) (f g h sent : ℕ) (text more whole : List ℕ) (e : RunError) → f ≤ g → StopsAfter sent e b c g h text
    → Handed a b sent text more whole → Stops e a c f h whole
stops a b c f g h sent text more whole NoMemory later stop so_far = absurd stop
stops a b c f g h sent text more whole (Write written) later stop so_far =
    let n = stop.0 in
    let less = stop.2.1 in
    let rose = stop.2.2 in
    let cut : take written whole ≡ so_far.front ++ take n text =
    rw (stop.1, sym so_far.long, sym so_far.all, append_assoc so_far.front text more, take-append-add so_far.front (text ++ more) n, take-append-le n text more (omega (arith, less))) refl in
    let long = length-append so_far.front text in
    let total = length-append (so_far.front ++ text) more in
    let whole-long = ap (λ (l : List ℕ). length l) so_far.all in
    (rw cut (Took-trans a b c so_far.front (take n text) so_far.taken stop.2.0), omega (arith, stop.1, so_far.long, less, long, total, whole-long), omega (arith, later, rose))

-- more is to come at the end
pub longer : (a b : Option (List ℕ)) (sent : ℕ) (text more whole last : List ℕ) → Handed a b sent text more whole → Handed a b sent text (more ++ last) (whole ++ last)
longer a b sent text more whole last so_far = record {
  front = so_far.front;
  taken = so_far.taken;
  long = so_far.long;
  all = sym (append_assoc (so_far.front ++ text) more last) ∙ ap (λ (l : List ℕ). l ++ last) so_far.all;
}

-- the last text was written
pub writes_last : (a b : Option (List ℕ)) (sent : ℕ) (text text' part whole : List ℕ) → text' ≡ text ++ part → Handed a b sent text [] whole → Handed a b sent text' [] (whole ++ part)
writes_last a b sent text text' part whole is so_far =
    writes a b sent text text' part [] (whole ++ part) is (rw append-nil (longer a b sent text [] whole part so_far))

-- all of it was sent
pub ends : (a b c : Option (List ℕ)) (sent : ℕ) (text whole : List ℕ) → Took b c text → Handed a b sent text [] whole → Took a c whole
ends a b c sent text whole took so_far =
    let all : so_far.front ++ text ≡ whole = sym (append-nil (so_far.front ++ text)) ∙ so_far.all in
    subst (λ (l : List ℕ). Took a c l) all (Took-trans a b c so_far.front text so_far.taken took)

pub grown : (text' text part : List ℕ) → text' ≡ text ++ part → length text' ≡ length text + length part
grown text' text part is = ap (λ (l : List ℕ). length l) is ∙ length-append text part

-- what holds in any case holds at `Ok`, and at `Err`
pub on_ok : {T E P : Type 0} (r : Result T E) → P → OnOk r P
on_ok (Ok x) p = p
on_ok (Err e) p = tt

pub on_err : {T E P : Type 0} (r : Result T E) → P → OnErr r P
on_err (Ok x) p = tt
on_err (Err e) p = p

-- Bytes that go on in order: what a loop has taken, and what its next call takes.
use Rattle.std.proofs.Common.{◌≡◌, ℕ, ◌+◌, ◌-◌, List, ◌++◌, length, take, drop, Option, Some, None, Result, Ok, Err, IfErr, sym, ap, ◌∙◌, append_assoc, take-add, arith}
use Rattle.std.proofs.lemmas.List.{take-append-drop, take_at, drop-drop, take_all, length-drop}
use Rattle.syn_outer.specs.Bytes.{Took}

-- what is read from the front of the rest
pub front_of : (at k : ℕ) (bytes new tail : List ℕ) → new ≡ take k (drop at bytes) → length new ≡ k → drop at bytes ≡ take k (new ++ tail) ++ drop (at + k) bytes
front_of at k bytes new tail e n =
    let front : take k (new ++ tail) ≡ new = take_at new tail k n in
    let rest : drop k (drop at bytes) ≡ drop (at + k) bytes = drop-drop k at bytes in
    rw front (rw (e, ← rest) (sym (take-append-drop k (drop at bytes))))

pub Took-trans : (a b c : Option (List ℕ)) (x y : List ℕ) → Took a b x → Took b c y → Took a c (x ++ y)
Took-trans None None None x y p q = tt
Took-trans None None (Some z) x y p q = absurd q
Took-trans None (Some b) c x y p q = absurd p
Took-trans (Some a) None None x y p q = tt
Took-trans (Some a) None (Some c) x y p q = absurd q
Took-trans (Some a) (Some b) None x y p q = tt
Took-trans (Some a) (Some b) (Some c) x y p q = q ∙ ap (λ l. l ++ y) p ∙ append_assoc a x y

-- `&bytes[at..]` computes to a `take` of the `drop`
pub Took-front : (a b c : Option (List ℕ)) (at k : ℕ) (bytes : List ℕ) → Took a b (take at bytes) → Took b c (take k (take (length bytes - at) (drop at bytes))) → Took a c (take (at + k) bytes)
Took-front a b c at k bytes p q =
    let all : take (length bytes - at) (drop at bytes) ≡ drop at bytes = take_all (length bytes - at) (drop at bytes) (omega (arith, length-drop at bytes)) in
    rw (take-add at k bytes) (Took-trans a b c (take at bytes) (take k (drop at bytes)) p (rw all at q))

-- what holds of every error holds of this one
pub at_any_error : {T E : Type 0} → (r : Result T E) (P : E → Type 0) → ((e : E) → P e) → IfErr r P
at_any_error (Ok x) P all = tt
at_any_error (Err e) P all = all e

-- Names of policies, and that no two are the same.
use Rattle.std.proofs.Common.{◌≡◌, ℕ, List, [], ◌∷◌, ◌++◌, length, Bool, true, false, not, eqb, leb, ◌&&◌, refl, sym, subst, arith}
use Rattle.std.specs.List.{list_all}
use Rattle.std.proofs.lemmas.Bool.{and_parts, or_parts, or_from}
use Rattle.std.proofs.lemmas.Bool.Decides.{nat_tests}
use Rattle.doc_text.specs.Text.{is_plain}
use Rattle.doc_text.specs.Words.{same, is_word}
use Rattle.doc_text.proofs.Joining.{same-true, same-self}
use Rattle.policy_text.proofs.Parts.{IsPart}
use Rattle.trace_text.specs.Document.{PolicyLine}
use Rattle.trace_text.specs.Lines.{is_name_byte, is_policy_name, is_declared}
use Rattle.trace_text.specs.Limits.{AreNamedApart}

same-swapped : (a b : List ℕ) → same a b ≡ false → same b a ≡ false
same-swapped a b h = by_test (same b a) refl
  where
    by_test : (v : Bool) → same b a ≡ v → same b a ≡ false
    by_test true e = let is : b ≡ a = same-true b a e in let yes_ : same a b ≡ true = subst (λ (x : List ℕ). same a x ≡ true) (sym is) (same-self a) in cc
    by_test false e = e

-- a further policy of another name
declared-push : (ps : List PolicyLine) (p : PolicyLine) (name : List ℕ) → is_declared ps name ≡ false → same p.name name ≡ false → is_declared (ps ++ p ∷ []) name ≡ false
declared-push [] p name h k = or_from (same p.name name) false k refl
declared-push (q ∷ qs) p name h k =
    let w = or_parts (same q.name name) (is_declared qs name) h in
    or_from (same q.name name) (is_declared (qs ++ p ∷ []) name) w.0 (declared-push qs p name w.1 k)

pub apart-push : (ps : List PolicyLine) (p : PolicyLine) → AreNamedApart ps → is_declared ps p.name ≡ false → AreNamedApart (ps ++ p ∷ [])
apart-push [] p h k = (refl, tt)
apart-push (q ∷ qs) p h k =
    let w = or_parts (same q.name p.name) (is_declared qs p.name) k in
    (declared-push qs p q.name h.0 (same-swapped q.name p.name w.0), apart-push qs p h.1 w.1)

declared-middle : (done more : List PolicyLine) (p : PolicyLine) (name : List ℕ) → is_declared (done ++ p ∷ more) name ≡ false → same p.name name ≡ false
declared-middle [] more p name h = (or_parts (same p.name name) (is_declared more name) h).0
declared-middle (q ∷ qs) more p name h = declared-middle qs more p name (or_parts (same q.name name) (is_declared (qs ++ p ∷ more) name) h).1

pub apart-at : (done more : List PolicyLine) (p : PolicyLine) → AreNamedApart (done ++ p ∷ more) → is_declared done p.name ≡ false
apart-at [] more p h = refl
apart-at (q ∷ qs) more p h = or_from (same q.name p.name) (is_declared qs p.name) (same-swapped p.name q.name (declared-middle qs more p q.name h.0)) (apart-at qs more p h.1)

name_byte-plain : (b : ℕ) → is_name_byte b ≡ true → is_plain b ≡ true
name_byte-plain b h = grind (arith, nat_tests)

name_byte-no_blank : (b : ℕ) → is_name_byte b ≡ true → not (eqb b 32) ≡ true
name_byte-no_blank b h = grind (arith, nat_tests)

name_bytes-part : (w : List ℕ) → list_all is_name_byte w ≡ true → IsPart w
name_bytes-part [] h = (refl, refl)
name_bytes-part (b ∷ bs) h =
    let w = and_parts (is_name_byte b) (list_all is_name_byte bs) h in
    let others = name_bytes-part bs w.1 in
    (rw (name_byte-plain b w.0, others.0) refl, rw (name_byte-no_blank b w.0, others.1) refl)

pub policy_name-part : (name : List ℕ) → is_policy_name name ≡ true → IsPart name
policy_name-part name h = name_bytes-part name (and_parts (is_word name && leb (length name) 32) (list_all is_name_byte name) h).1

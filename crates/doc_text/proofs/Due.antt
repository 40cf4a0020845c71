-- A line that is due: what is read stands there, and what stands there is read.
use Rattle.std.proofs.Common.{◌≡◌, ℕ, List, [], ◌∷◌, ◌++◌, Bool, true, false, cond, Option, Some, None, Result, Ok, Err, IfOk, Bor, refl, sym, ap, ◌∙◌}
use Rattle.std.specs.Result.{IsOkAnd}
use Rattle.doc_text.specs.declared.fault.Fault.{Fault}
use Rattle.doc_text.specs.Text.{pieces, text_in, IsPlain, ended}
use Rattle.doc_text.specs.Words.{words, same}
use Rattle.doc_text.specs.Faults.{fault, ◌>>=◌, or_fault, line_due, fixed_due, one_of, Gives}
use Rattle.doc_text.proofs.Joining.{pieces-ended, text_in-ended, text_in-some, joined, joined-pieces, same-true, same-self}

-- a value and the pieces behind it
abbrev pub beside : {A : Type 0} → Result A Fault → List (List ℕ) → Result (A × List (List ℕ)) Fault
beside r ps = r >>= λ x. Ok (x, ps)

pub bind-some : {A B : Type 0} (r : Result A Fault) (f : A → Result B Fault) (y : B) → (r >>= f) ≡ Ok y → (x : A) × (r ≡ Ok x) × (f x ≡ Ok y)
bind-some (Ok x) f y h = (x, refl, h)
bind-some (Err e) f y h = cc

pub or_fault-some : {A : Type 0} (line what : ℕ) (o : Option A) (x : A) → or_fault line what o ≡ Ok x → o ≡ Some x
or_fault-some line what None x h = cc
or_fault-some {A} line what (Some y) x h = let e : y ≡ x = cc in ap (λ (z : A). Some z) e

pub beside-some : {A : Type 0} (r : Result A Fault) (ps qs : List (List ℕ)) (x : A) → beside r ps ≡ Ok (x, qs) → (r ≡ Ok x) × (ps ≡ qs)
beside-some {A} (Ok y) ps qs x h =
    let pair : (y, ps) ≡ (x, qs) = cc in
    (ap (λ (p : A × List (List ℕ)). Ok p.0) pair, ap (λ (p : A × List (List ℕ)). p.1) pair)
beside-some (Err e) ps qs x h = cc

pub line_due-some : (line what : ℕ) (ps qs : List (List ℕ)) (t : List ℕ) → line_due line what ps ≡ Ok (t, qs) → IsPlain t × (ps ≡ ended t ∷ qs)
unfolding line_due
line_due-some line what [] qs t h = cc
line_due-some line what (p ∷ ps) qs t h =
    let r = beside-some (or_fault line 1 (text_in p)) ps qs t h in
    let w = text_in-some p t (or_fault-some line 1 (text_in p) t r.0) in
    (w.0, rw (w.1, r.1) refl)

pub line_due-ended : (line what : ℕ) (t : List ℕ) (ps : List (List ℕ)) → IsPlain t → line_due line what (ended t ∷ ps) ≡ Ok (t, ps)
unfolding line_due
line_due-ended line what t ps h = rw (text_in-ended t h) refl

pub fixed_due-some : (line what : ℕ) (text : List ℕ) (ps qs : List (List ℕ)) → fixed_due line what text ps ≡ Ok qs → ps ≡ ended text ∷ qs
unfolding fixed_due
fixed_due-some line what text ps qs h =
    let r = bind-some (line_due line what ps) (λ (l : List ℕ × List (List ℕ)). cond (same l.0 text) (Ok l.1) (fault line what)) qs h in
    let w = line_due-some line what ps r.0.1 r.0.0 r.1 in
    by_test r.0.0 r.0.1 w.1 (same r.0.0 text) refl r.2
  where
    by_test : (t : List ℕ) (rest : List (List ℕ)) → ps ≡ ended t ∷ rest → (v : Bool) → same t text ≡ v → ◌≡◌ {A = Result (List (List ℕ)) Fault} (cond v (Ok rest) (fault line what)) (Ok qs) → ps ≡ ended text ∷ qs
    by_test t rest e true g k = let is : rest ≡ qs = cc in e ∙ rw (same-true t text g, is) refl
    by_test t rest e false g k = cc

pub fixed_due-ended : (line what : ℕ) (text : List ℕ) (ps : List (List ℕ)) → IsPlain text → fixed_due line what text (ended text ∷ ps) ≡ Ok ps
unfolding fixed_due
fixed_due-ended line what text ps h = rw (line_due-ended line what text ps h, same-self text) refl

pub one_of-some : {A : Type 0} (line what : ℕ) (find : List (List ℕ) → Option A) (ps qs : List (List ℕ)) (x : A) → one_of line what find ps ≡ Ok (x, qs) → (t : List ℕ) × IsPlain t × (ps ≡ ended t ∷ qs) × (find (words t) ≡ Some x)
unfolding one_of
one_of-some {A} line what find ps qs x h =
    let r = bind-some (line_due line what ps) (λ (l : List ℕ × List (List ℕ)). beside (or_fault line what (find (words l.0))) l.1) (x, qs) h in
    let w = line_due-some line what ps r.0.1 r.0.0 r.1 in
    let v = beside-some (or_fault line what (find (words r.0.0))) r.0.1 qs x r.2 in
    (r.0.0, w.0, w.1 ∙ rw v.1 refl, or_fault-some line what (find (words r.0.0)) x v.0)

pub one_of-ended : {A : Type 0} (line what : ℕ) (find : List (List ℕ) → Option A) (t : List ℕ) (ps : List (List ℕ)) (x : A) → IsPlain t → find (words t) ≡ Some x → one_of line what find (ended t ∷ ps) ≡ Ok (x, ps)
unfolding one_of
one_of-ended line what find t ps x h k = rw (line_due-ended line what t ps h, k) refl

-- a text and the bytes behind its line, as they were read
abbrev pub Front : Type 0
Front = Bor (List ℕ) × Bor (List ℕ)

pub line-found : (line what : ℕ) (bytes : List ℕ) (r : Result Front Fault) → Gives (λ (x : Front). (x.0.now, pieces x.1.now)) r (line_due line what (pieces bytes)) → IfOk r (λ x. IsPlain x.0.now × (bytes ≡ ended x.0.now ++ x.1.now))
line-found line what bytes (Ok x) h =
    let w = line_due-some line what (pieces bytes) (pieces x.1.now) x.0.now h in
    (w.0, sym (joined-pieces bytes) ∙ ap joined w.1 ∙ ap (λ (l : List ℕ). ended x.0.now ++ l) (joined-pieces x.1.now))
line-found line what bytes (Err e) h = tt

pub line-only : (line what : ℕ) (bytes : List ℕ) (r : Result Front Fault) → Gives (λ (x : Front). (x.0.now, pieces x.1.now)) r (line_due line what (pieces bytes)) → (text rest : List ℕ) → IsPlain text → bytes ≡ ended text ++ rest → IsOkAnd r (λ x. (x.0.now ≡ text) × (x.1.now ≡ rest))
line-only line what bytes r h text rest plain is =
    let read : line_due line what (pieces bytes) ≡ Ok (text, pieces rest) = ap (λ (l : List ℕ). line_due line what (pieces l)) is ∙ ap (line_due line what) (pieces-ended text rest plain) ∙ line_due-ended line what text (pieces rest) plain in
    by_result r h read
  where
    by_result : (r : Result Front Fault) → Gives (λ (x : Front). (x.0.now, pieces x.1.now)) r (line_due line what (pieces bytes)) → line_due line what (pieces bytes) ≡ Ok (text, pieces rest) → IsOkAnd r (λ x. (x.0.now ≡ text) × (x.1.now ≡ rest))
    by_result (Ok x) g k =
        let pair : (x.0.now, pieces x.1.now) ≡ (text, pieces rest) = cc in
        let same_rest : pieces x.1.now ≡ pieces rest = ap (λ (p : List ℕ × List (List ℕ)). p.1) pair in
        (ap (λ (p : List ℕ × List (List ℕ)). p.0) pair, sym (joined-pieces x.1.now) ∙ ap joined same_rest ∙ joined-pieces rest)
    by_result (Err e) g k = cc

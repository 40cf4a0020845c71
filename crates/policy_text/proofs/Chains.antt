-- What a chain of readings that gave a value shows.
use Rattle.std.proofs.Common.{◌≡◌, ℕ, List, [], ◌∷◌, Bool, true, false, cond, Option, Some, None, Result, Ok, refl, ap}
use Rattle.std.specs.Prelude.{OnSome}
use Rattle.doc_text.specs.declared.fault.Fault.{Fault}
use Rattle.doc_text.specs.Words.{two, three, four, five, one, ◌>>?◌}
use Rattle.doc_text.specs.Faults.{fault}

pub then-some : {A B : Type 0} (o : Option A) (f : A → Option B) (y : B) → (o >>? f) ≡ Some y → (x : A) × (o ≡ Some x) × (f x ≡ Some y)
then-some (Some x) f y h = (x, refl, h)
then-some None f y h = cc

pub test-some : {A : Type 0} (b : Bool) (o : Option A) (x : A) → cond b o None ≡ Some x → (b ≡ true) × (o ≡ Some x)
test-some true o x h = (refl, h)
test-some false o x h = cc

-- no fault where the test says so
pub unless-ok : {A : Type 0} (b : Bool) (line what : ℕ) (r : Result A Fault) (x : A) → cond b (fault line what) r ≡ Ok x → (b ≡ false) × (r ≡ Ok x)
unless-ok true line what r x h = cc
unless-ok false line what r x h = (refl, h)

pub some-same : {A : Type 0} (x y : A) → ◌≡◌ {A = Option A} (Some x) (Some y) → x ≡ y
some-same x y h = cc

-- what is said of an option that has a value
pub ok_some : {X : Type 0} {P : Type 0} (o : Option X) (x : X) → o ≡ Some x → OnSome o P → P
ok_some (Some y) x e h = h
ok_some None x e h = cc

pub ok-same : {A : Type 0} (x y : A) → ◌≡◌ {A = Result A Fault} (Ok x) (Ok y) → x ≡ y
ok-same x y h = cc

pub one-some : (ws : List (List ℕ)) (w : List ℕ) → one ws ≡ Some w → ws ≡ w ∷ []
one-some [] w h = cc
one-some (a ∷ []) w h = let e : a ≡ w = cc in ap (λ (v : List ℕ). v ∷ []) e
one-some (a ∷ b ∷ ws) w h = cc

pub two-some : (ws : List (List ℕ)) (w : List ℕ × List ℕ) → two ws ≡ Some w → ws ≡ w.0 ∷ w.1 ∷ []
two-some [] w h = cc
two-some (a ∷ []) w h = cc
two-some (a ∷ b ∷ []) w h = let e : (a, b) ≡ w = cc in ap (λ (p : List ℕ × List ℕ). p.0 ∷ p.1 ∷ []) e
two-some (a ∷ b ∷ c ∷ ws) w h = cc

pub three-some : (ws : List (List ℕ)) (w : List ℕ × List ℕ × List ℕ) → three ws ≡ Some w → ws ≡ w.0 ∷ w.1 ∷ w.2 ∷ []
three-some [] w h = cc
three-some (a ∷ []) w h = cc
three-some (a ∷ b ∷ []) w h = cc
three-some (a ∷ b ∷ c ∷ []) w h = let e : (a, b, c) ≡ w = cc in ap (λ (p : List ℕ × List ℕ × List ℕ). p.0 ∷ p.1 ∷ p.2 ∷ []) e
three-some (a ∷ b ∷ c ∷ d ∷ ws) w h = cc

pub four-some : (ws : List (List ℕ)) (w : List ℕ × List ℕ × List ℕ × List ℕ) → four ws ≡ Some w → ws ≡ w.0 ∷ w.1 ∷ w.2 ∷ w.3 ∷ []
four-some [] w h = cc
four-some (a ∷ []) w h = cc
four-some (a ∷ b ∷ []) w h = cc
four-some (a ∷ b ∷ c ∷ []) w h = cc
four-some (a ∷ b ∷ c ∷ d ∷ []) w h = let e : (a, b, c, d) ≡ w = cc in ap (λ (p : List ℕ × List ℕ × List ℕ × List ℕ). p.0 ∷ p.1 ∷ p.2 ∷ p.3 ∷ []) e
four-some (a ∷ b ∷ c ∷ d ∷ e ∷ ws) w h = cc

pub five-some : (ws : List (List ℕ)) (w : List ℕ × List ℕ × List ℕ × List ℕ × List ℕ) → five ws ≡ Some w → ws ≡ w.0 ∷ w.1 ∷ w.2 ∷ w.3 ∷ w.4 ∷ []
five-some [] w h = cc
five-some (a ∷ []) w h = cc
five-some (a ∷ b ∷ []) w h = cc
five-some (a ∷ b ∷ c ∷ []) w h = cc
five-some (a ∷ b ∷ c ∷ d ∷ []) w h = cc
five-some (a ∷ b ∷ c ∷ d ∷ e ∷ []) w h = let f : (a, b, c, d, e) ≡ w = cc in ap (λ (p : List ℕ × List ℕ × List ℕ × List ℕ × List ℕ). p.0 ∷ p.1 ∷ p.2 ∷ p.3 ∷ p.4 ∷ []) f
five-some (a ∷ b ∷ c ∷ d ∷ e ∷ g ∷ ws) w h = cc

-- What the words of a line say, and how it is spelled.
use Rattle.std.proofs.Common.{◌≡◌, ℕ, ◌<◌, ◌≤◌, List, [], ◌∷◌, Bool, true, false, cond, Option, Some, None, eqb, ltb, refl, ap, ◌∙◌, subst, arith}
use Rattle.std.specs.Prelude.{codes}
use Rattle.std.specs.Fmt.{decimal}
use Rattle.std.proofs.lemmas.Bool.{ltb-true}
use Rattle.std.proofs.lemmas.Bool.Decides.{nat_tests}
use Rattle.shfl_line.specs.declared.events.Form.{Form}
use Rattle.shfl_line.specs.declared.events.Form.TheVariants as forms
use Rattle.doc_text.specs.Words.{words, spaced, same, two, ◌>>?◌}
use Rattle.doc_text.specs.Numbers.{number_in}
use Rattle.doc_text.proofs.Joining.{same-true}
use Rattle.doc_text.proofs.Counting.{number_in-some}
use Rattle.policy_text.proofs.Chains.{then-some, test-some, some-same, two-some}
use Rattle.policy_text.proofs.Parts.{text-spaced}
use Rattle.shfl_sched.specs.declared.schedule.Act.{Act}
use Rattle.shfl_sched.specs.declared.schedule.Act.TheVariants as acts
use Rattle.shfl_sched.specs.declared.schedule.Event.{Event}
use Rattle.shfl_sched.specs.Schedules.{IsEventOf, is_act_of}
use Rattle.lock_words.specs.Forms.{form_text, form_named, batch_in}
use Rattle.lock_words.specs.Lines.{behind, form_in, limit_in}
use Rattle.shfl_sched.specs.Lines.{act_named, pass_in, event_in}
use Rattle.shfl_sched.specs.Spelling.{form_line, limit_line, act_word, event_line}

two-line : (a b c d : List ℕ) → a ≡ c → b ≡ d → spaced (a ∷ b ∷ []) ≡ spaced (c ∷ d ∷ [])
two-line a b c d e f = rw (e, f) refl

-- a text of two words
two-text : (t a b c d : List ℕ) → words t ≡ a ∷ b ∷ [] → a ≡ c → b ≡ d → t ≡ spaced (c ∷ d ∷ [])
two-text t a b c d e f g = text-spaced t (a ∷ b ∷ []) e ∙ two-line a b c d f g

-- a fixed word and a word that says something
abbrev pub keyed : {A : Type 0} → List ℕ → (List ℕ → Option A) → List (List ℕ) → Option A
keyed word find ws = behind word ws >>? find

pub keyed-some : {A : Type 0} (word : List ℕ) (find : List ℕ → Option A) (t : List ℕ) (x : A) → keyed word find (words t) ≡ Some x → (u : List ℕ) × (t ≡ spaced (word ∷ u ∷ [])) × (find u ≡ Some x)
keyed-some {A} word find t x h =
    let u = then-some (behind word (words t)) find x h in
    let r = then-some (two (words t)) (λ (w : List ℕ × List ℕ). cond (same w.0 word) (Some w.1) None) u.0 u.1 in
    let w = test-some (same r.0.0 word) (Some r.0.1) u.0 r.2 in
    (u.0, two-text t r.0.0 r.0.1 word u.0 (two-some (words t) r.0 r.1) (same-true r.0.0 word w.0) (some-same r.0.1 u.0 w.1), u.2)

-- ---- the form

form_named-some : (w : List ℕ) (f : Form) → form_named w ≡ Some f → w ≡ form_text f
form_named-some w f h = by_tests (same w (codes "spin")) (same w (codes "rw")) (same w (codes "park")) (same w (codes "rw-park")) refl refl refl refl h
  where
    by_tests : (a b c d : Bool) → same w (codes "spin") ≡ a → same w (codes "rw") ≡ b → same w (codes "park") ≡ c → same w (codes "rw-park") ≡ d
        → cond a (Some forms.Spin) (cond b (Some forms.Rw) (cond c (Some forms.Park) (cond d (Some forms.RwPark) None))) ≡ Some f → w ≡ form_text f
    by_tests true b c d p q r s k = same-true w (codes "spin") p ∙ ap form_text (some-same forms.Spin f k)
    by_tests false true c d p q r s k = same-true w (codes "rw") q ∙ ap form_text (some-same forms.Rw f k)
    by_tests false false true d p q r s k = same-true w (codes "park") r ∙ ap form_text (some-same forms.Park f k)
    by_tests false false false true p q r s k = same-true w (codes "rw-park") s ∙ ap form_text (some-same forms.RwPark f k)
    by_tests false false false false p q r s k = cc

pub form-some : (t : List ℕ) (f : Form) → form_in (words t) ≡ Some f → t ≡ form_line f
form-some t f h =
    let r = keyed-some (codes "form") form_named t f h in
    r.1 ∙ ap (λ (w : List ℕ). spaced (codes "form" ∷ w ∷ [])) (form_named-some r.0 f r.2)

-- ---- the limit

some_batch : (m n : ℕ) → cond (eqb m 0) None (Some m) ≡ Some n → (m ≡ n) × (0 < n)
some_batch m n h = by_test (eqb m 0) refl h
  where
    by_test : (b : Bool) → eqb m 0 ≡ b → cond b None (Some m) ≡ Some n → (m ≡ n) × (0 < n)
    by_test true e k = cc
    by_test false e k = let is = some-same m n k in let some : 0 < m = grind (arith, nat_tests) in (is, omega (arith, is, some))

batch-some : (w : List ℕ) (n : ℕ) → batch_in w ≡ Some n → (w ≡ decimal n) × (0 < n) × (n ≤ 1024)
batch-some w n h =
    let r = then-some (number_in 1024 w) (λ (m : ℕ). cond (eqb m 0) None (Some m)) n h in
    let d = number_in-some 1024 w r.0 (omega arith) r.1 in
    let b = some_batch r.0 n r.2 in
    (d.0 ∙ ap decimal b.0, b.1, omega (arith, d.1, b.0))

pub limit-some : (t : List ℕ) (n : ℕ) → limit_in (words t) ≡ Some n → (t ≡ limit_line n) × (0 < n) × (n ≤ 1024)
limit-some t n h =
    let r = keyed-some (codes "limit") batch_in t n h in
    let b = batch-some r.0 n r.2 in
    (r.1 ∙ ap (λ (w : List ℕ). spaced (codes "limit" ∷ w ∷ [])) b.0, b.1, b.2)

-- ---- the events

pub act_named-some : (w : List ℕ) (a : Act) → act_named w ≡ Some a → w ≡ act_word a
act_named-some w a h = by_tests (same w (codes "write")) (same w (codes "read")) (same w (codes "free")) (same w (codes "step")) refl refl refl refl h
  where
    by_tests : (b c d e : Bool) → same w (codes "write") ≡ b → same w (codes "read") ≡ c → same w (codes "free") ≡ d → same w (codes "step") ≡ e
        → cond b (Some acts.Write) (cond c (Some acts.Read) (cond d (Some acts.Free) (cond e (Some acts.Step) None))) ≡ Some a → w ≡ act_word a
    by_tests true c d e p q r s k = same-true w (codes "write") p ∙ ap act_word (some-same acts.Write a k)
    by_tests false true d e p q r s k = same-true w (codes "read") q ∙ ap act_word (some-same acts.Read a k)
    by_tests false false true e p q r s k = same-true w (codes "free") r ∙ ap act_word (some-same acts.Free a k)
    by_tests false false false true p q r s k = same-true w (codes "step") s ∙ ap act_word (some-same acts.Step a k)
    by_tests false false false false p q r s k = cc

below : (n passes m : ℕ) → cond (ltb n passes) (Some n) None ≡ Some m → (n ≡ m) × (m < passes)
below n passes m h =
    let w = test-some (ltb n passes) (Some n) m h in
    let is = some-same n m w.1 in
    let lt : n < passes = ltb-true n passes w.0 in
    (is, omega (arith, is, lt))

pass-some : (passes : ℕ) (w : List ℕ) (n : ℕ) → pass_in passes w ≡ Some n → (w ≡ decimal n) × (n < passes)
pass-some passes w n h =
    let r = then-some (number_in 63 w) (λ (m : ℕ). cond (ltb m passes) (Some m) None) n h in
    let d = number_in-some 63 w r.0 (omega arith) r.1 in
    let b = below r.0 passes n r.2 in
    (d.0 ∙ ap decimal b.0, b.1)

abbrev pub of_pass : Form → Act → ℕ → Option Event
of_pass form act pass = cond (is_act_of form act) (Some (record { act = act; pass = pass })) None

abbrev pub of_act : Form → ℕ → List ℕ → Act → Option Event
of_act form passes w act = pass_in passes w >>? of_pass form act

event-two : (form : Form) (passes : ℕ) (w : List ℕ × List ℕ) (e : Event) → (act_named w.0 >>? of_act form passes w.1) ≡ Some e → (spaced (w.0 ∷ w.1 ∷ []) ≡ event_line e) × IsEventOf form passes e
event-two form passes w e h =
    let a = then-some (act_named w.0) (of_act form passes w.1) e h in
    let p = then-some (pass_in passes w.1) (of_pass form a.0) e a.2 in
    let v = test-some (is_act_of form a.0) (Some (record { act = a.0; pass = p.0 })) e p.2 in
    let is = some-same (record { act = a.0; pass = p.0 }) e v.1 in
    let d = pass-some passes w.1 p.0 p.1 in
    (two-line w.0 w.1 (act_word a.0) (decimal p.0) (act_named-some w.0 a.0 a.1) d.0 ∙ ap event_line is, subst (IsEventOf form passes) is (record { act = v.0; pass = d.1 }))

pub event-some : (form : Form) (passes : ℕ) (t : List ℕ) (e : Event) → event_in form passes (words t) ≡ Some e → (t ≡ event_line e) × IsEventOf form passes e
event-some form passes t e h =
    let r = then-some (two (words t)) (λ (w : List ℕ × List ℕ). act_named w.0 >>? of_act form passes w.1) e h in
    let w = event-two form passes r.0 e r.2 in
    (text-spaced t (r.0.0 ∷ r.0.1 ∷ []) (two-some (words t) r.0 r.1) ∙ w.0, w.1)

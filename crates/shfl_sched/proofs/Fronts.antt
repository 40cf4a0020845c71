-- The lines up to the policy say what was read.
use Rattle.std.proofs.Common.{◌≡◌, ℕ, ◌+◌, ◌<◌, ◌≤◌, List, ◌∷◌, ◌++◌, map, Result, Ok, refl, ap, ◌∙◌, subst}
use Rattle.std.specs.Prelude.{codes}
use Rattle.shfl_line.specs.declared.events.Form.{Form}
use Rattle.doc_text.specs.declared.fault.Fault.{Fault}
use Rattle.doc_text.specs.Text.{ended}
use Rattle.doc_text.specs.Faults.{◌>>=◌, line_due, one_of}
use Rattle.doc_text.proofs.Due.{bind-some, one_of-some, line_due-some}
use Rattle.policy_text.specs.Headings.{Heading, heading_in, heading_lines, IsVersion}
use Rattle.policy_text.proofs.HeadingLines.{Heads, heading_in-some}
use Rattle.lock_words.specs.Lines.{form_in, limit_in}
use Rattle.shfl_sched.specs.declared.faults.TheConstants.{FORM, LIMIT, POLICY, PROFILE}
use Rattle.shfl_sched.specs.Grammar.{Front, front_in}
use Rattle.shfl_sched.specs.Spelling.{form_line, limit_line}
use Rattle.shfl_sched.proofs.Wording.{form-some, limit-some}

-- ---- the front

-- the pieces are these lines, and the rest
pub record FrontLines (ps : List (List ℕ)) (f : Front) : Type 0 where
  pub lines : ps ≡ map ended (heading_lines (codes "shfl-line") f.version f.profile) ++ ended (form_line f.form) ∷ ended (limit_line f.limit) ∷ ended f.policy ∷ f.rest
  pub version : IsVersion f.version f.profile
  pub limit : (0 < f.limit) × (f.limit ≤ 1024)

abbrev with_policy : Heading → Form → ℕ → List ℕ × List (List ℕ) → Result Front Fault
with_policy h form limit p = Ok (record { version = h.version; profile = h.profile; form = form; limit = limit; policy = p.0; rest = p.1 })

abbrev with_limit : Heading → Form → ℕ × List (List ℕ) → Result Front Fault
with_limit h form l = line_due (h.version + 3) POLICY l.1 >>= with_policy h form l.0

abbrev with_form : Heading → Form × List (List ℕ) → Result Front Fault
with_form h f = one_of (h.version + 2) LIMIT limit_in f.1 >>= with_limit h f.0

abbrev with_heading : Heading → Result Front Fault
with_heading h = one_of (h.version + 1) FORM form_in h.rest >>= with_form h

three-lines : (a b c a' b' : List ℕ) (ps qs rs : List (List ℕ)) → ps ≡ ended a ∷ qs → a ≡ a' → qs ≡ ended b ∷ rs → b ≡ b' → (ts : List (List ℕ)) → rs ≡ ended c ∷ ts → ps ≡ ended a' ∷ ended b' ∷ ended c ∷ ts
three-lines a b c a' b' ps qs rs e p f q ts g = rw (e, p, f, q, g) refl

-- the parts of a front, one behind the other
front-parts : (ps : List (List ℕ)) (f : Front) (h : Heading) (form : Form) (limit : ℕ) (policy : List ℕ) (rest : List (List ℕ)) → Heads (codes "shfl-line") ps h
    → h.rest ≡ ended (form_line form) ∷ ended (limit_line limit) ∷ ended policy ∷ rest → (0 < limit) × (limit ≤ 1024) → with_policy h form limit (policy, rest) ≡ Ok f → FrontLines ps f
front-parts ps f h form limit policy rest headed behind batch k =
    let front : Front = record { version = h.version; profile = h.profile; form = form; limit = limit; policy = policy; rest = rest } in
    let is : front ≡ f = cc in
    subst (FrontLines ps) is (record {
      lines = headed.0 ∙ ap (λ (qs : List (List ℕ)). map ended (heading_lines (codes "shfl-line") h.version h.profile) ++ qs) behind;
      version = headed.1;
      limit = batch;
    })

pub front-some : (ps : List (List ℕ)) (f : Front) → front_in ps ≡ Ok f → FrontLines ps f
unfolding front_in
front-some ps f k =
    let h = bind-some (heading_in (codes "shfl-line") PROFILE ps) with_heading f k in
    let form = bind-some (one_of (h.0.version + 1) FORM form_in h.0.rest) (with_form h.0) f h.2 in
    let limit = bind-some (one_of (h.0.version + 2) LIMIT limit_in form.0.1) (with_limit h.0 form.0.0) f form.2 in
    let policy = bind-some (line_due (h.0.version + 3) POLICY limit.0.1) (with_policy h.0 form.0.0 limit.0.0) f limit.2 in
    let headed = heading_in-some (codes "shfl-line") PROFILE ps h.0 h.1 in
    let o = one_of-some (h.0.version + 1) FORM form_in h.0.rest form.0.1 form.0.0 form.1 in
    let l = one_of-some (h.0.version + 2) LIMIT limit_in form.0.1 limit.0.1 limit.0.0 limit.1 in
    let p = line_due-some (h.0.version + 3) POLICY limit.0.1 policy.0.1 policy.0.0 policy.1 in
    let batch = limit-some l.0 limit.0.0 l.3 in
    let behind = three-lines o.0 l.0 policy.0.0 (form_line form.0.0) (limit_line limit.0.0) h.0.rest form.0.1 limit.0.1 o.2 (form-some o.0 form.0.0 o.3) l.2 batch.0 policy.0.1 p.1 in
    front-parts ps f h.0 form.0.0 limit.0.0 policy.0.0 policy.0.1 headed behind (batch.1, batch.2) policy.2

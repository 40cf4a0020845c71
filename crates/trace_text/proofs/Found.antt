-- The document that was read is the one whose text the bytes are.
use Rattle.std.proofs.Common.{◌≡◌, ℕ, ◌+◌, ◌<◌, ◌≤◌, List, [], ◌∷◌, ◌++◌, length, map, Result, Ok, Err, refl, sym, ap, ◌∙◌, subst, arith, append_assoc}
use Rattle.std.specs.Prelude.{codes}
use Rattle.std.specs.List.{flat_map, AllZip, AllByRecursion}
use Rattle.std.proofs.lemmas.List.{append-nil, map-append}
use Rattle.doc_text.specs.declared.fault.Fault.{Fault}
use Rattle.doc_text.specs.Text.{pieces, ended}
use Rattle.doc_text.proofs.Joining.{joined, joined-pieces}
use Rattle.doc_text.proofs.Due.{bind-some}
use Rattle.policy_text.specs.Attributes.{IsAttr}
use Rattle.policy_text.specs.Headings.{Heading, heading_lines}
use Rattle.policy_text.proofs.AttrSections.{attrs_in-found}
use Rattle.policy_text.proofs.Chains.{ok-same}
use Rattle.policy_text.proofs.HeadingLines.{Heads, heading_in-some}
use Rattle.policy_text.proofs.Parts.{joined-lines}
use Rattle.shfl_line.specs.declared.words.Attr.{Attr}
use Rattle.doc_text.specs.Faults.{Then}
use Rattle.trace_text.specs.declared.faults.TheConstants.{PROFILE}
use Rattle.trace_text.specs.Document.{PolicyLine, CallLine, Document}
use Rattle.trace_text.specs.Grammar.{Front, trace_heading, worker_lines, workers_in, front_in, policies_line, document_in, calls_in, ReadsPolicies, ReadsTrace}
use Rattle.trace_text.specs.Spelling.{worker_line, call_line, lines_with}
use Rattle.trace_text.specs.Texts.{IsPolicyText, IsText}
use Rattle.trace_text.specs.Limits.{Fits}
use Rattle.trace_text.proofs.PolicyLines.{PoliciesKept, policies-read}
use Rattle.trace_text.proofs.CallLines.{calls_in-found}

abbrev Policies : Type 0
Policies = Result (List PolicyLine × List (List ℕ)) Fault

-- lines behind lines
in_two : (a b : List (List ℕ)) (ps qs rs : List (List ℕ)) → ps ≡ map ended a ++ qs → qs ≡ map ended b ++ rs → ps ≡ map ended (a ++ b) ++ rs
in_two a b ps qs rs e f =
    e ∙ ap (λ (l : List (List ℕ)). map ended a ++ l) f ∙ sym (append_assoc (map ended a) (map ended b) rs)
    ∙ ap (λ (l : List (List ℕ)). l ++ rs) (sym (map-append ended a b))

in_parts : (a b c d : List (List ℕ)) (ps qs rs us : List (List ℕ)) → ps ≡ map ended a ++ qs → qs ≡ map ended b ++ rs → rs ≡ map ended c ++ us → us ≡ map ended d → ps ≡ map ended (((a ++ b) ++ c) ++ d)
in_parts a b c d ps qs rs us e f g h =
    in_two (a ++ b) c ps rs us (in_two a b ps qs rs e f) g ∙ ap (λ (l : List (List ℕ)). map ended ((a ++ b) ++ c) ++ l) h ∙ sym (map-append ended ((a ++ b) ++ c) d)

-- the bytes of lines
bytes-lines : (bytes : List ℕ) (ts : List (List ℕ)) → pieces bytes ≡ map ended ts → bytes ≡ flat_map ended ts
bytes-lines bytes ts h = sym (joined-pieces bytes) ∙ ap joined (h ∙ sym (append-nil (map ended ts))) ∙ joined-lines ts [] ∙ append-nil (flat_map ended ts)

start : (f : Front) → PoliciesKept f.profile []
start f = record { few = omega arith; each = tt; apart = tt }

-- what stands before the policies, of a heading and of workers and the pieces behind them
abbrev front : Heading → List Attr × List (List ℕ) → Front
front h w = record { version = h.version; profile = h.profile; workers = w.0; rest = w.1 }

front_in-some : (ps : List (List ℕ)) (f : Front) → front_in ps ≡ Ok f → (h : Heading) × (w : List Attr × List (List ℕ)) × (trace_heading ps ≡ Ok h) × (workers_in (h.version + 1) h.rest ≡ Ok w) × (front h w ≡ f)
unfolding front_in
front_in-some ps f e =
    let h = bind-some (trace_heading ps) _ f e in
    let w = bind-some (workers_in (h.0.version + 1) h.0.rest) _ f h.2 in
    (h.0, w.0, h.1, w.1, ok-same (front h.0 w.0) f w.2)

trace_heading-some : (ps : List (List ℕ)) (h : Heading) → trace_heading ps ≡ Ok h → Heads (codes "syncord-trace") ps h
unfolding trace_heading
trace_heading-some ps h e = heading_in-some (codes "syncord-trace") PROFILE ps h e

workers_in-found : (line : ℕ) (ps : List (List ℕ)) (ws : List Attr) (qs : List (List ℕ)) → workers_in line ps ≡ Ok (ws, qs)
    → (ps ≡ map ended (map worker_line ws) ++ qs) × (0 < length ws) × (length ws ≤ 16) × AllByRecursion IsAttr ws
unfolding workers_in
workers_in-found line ps ws qs h = attrs_in-found worker_lines line ps ws qs h

-- the document of its parts
abbrev document : Front → List PolicyLine → List CallLine → Document
document f policies calls = record { version = f.version; profile = f.profile; workers = f.workers; policies = policies; calls = calls }

document_in-some : (f : Front) (r : Policies) (d : Document) → document_in f r ≡ Ok d
    → (p : List PolicyLine × List (List ℕ)) × (calls : List CallLine) × (r ≡ Ok p) × (calls_in (length f.workers) p.0 (policies_line f + length p.0) p.1 ≡ Ok calls) × (document f p.0 calls ≡ d)
unfolding document_in
document_in-some f r d h =
    let p = bind-some r _ d h in
    let c = bind-some (calls_in (length f.workers) p.0.0 (policies_line f + length p.0.0) p.0.1) _ d p.2 in
    (p.0, c.0, p.1, c.1, ok-same (document f p.0.0 c.0) d c.2)

-- what is read behind the front
abbrev Behind : Document → Front → Type 0
Behind d f = (policies : Policies) × ReadsPolicies f.profile [] (policies_line f) f.rest policies × (◌≡◌ {A = Result Document Fault} (Ok d) (document_in f policies))

-- all parts stand there
whole : (bytes : List ℕ) (h : Heading) (w : List Attr × List (List ℕ)) (p : List PolicyLine × List (List ℕ)) (calls : List CallLine) → trace_heading (pieces bytes) ≡ Ok h → workers_in (h.version + 1) h.rest ≡ Ok w
    → ReadsPolicies h.profile [] (policies_line (front h w)) w.1 (Ok p) → calls_in (length w.0) p.0 (policies_line (front h w) + length p.0) p.1 ≡ Ok calls → IsText bytes (document (front h w) p.0 calls) × Fits (document (front h w) p.0 calls)
whole bytes h w p calls first second third last =
    let hd = trace_heading-some (pieces bytes) h first in
    let wk = workers_in-found (h.version + 1) h.rest w.0 w.1 second in
    let pr = policies-read h.profile w.1 [] (policies_line (front h w)) p.0 p.1 (start (front h w)) third in
    let cl = calls_in-found (length w.0) p.0 (policies_line (front h w) + length p.0) p.1 calls wk.2 last in
    let lines = in_parts (heading_lines (codes "syncord-trace") h.version h.profile) (map worker_line w.0) pr.1 (codes "calls" ∷ map call_line calls) (pieces bytes) h.rest w.1 p.1 hd.0 wk.0 pr.3 cl.0 in
    let texts = subst (λ (xs : List PolicyLine). AllZip IsPolicyText xs pr.1) (sym pr.2) pr.4 in (
      (pr.1, texts, bytes-lines bytes (lines_with (document (front h w) p.0 calls) pr.1) lines),
      record {
        version = hd.1;
        workers = (wk.1, wk.2, wk.3);
        policies = (pr.6, pr.5.few, pr.5.each);
        apart = pr.5.apart;
        calls = (cl.1.few, cl.1.attaches, cl.1.each);
      },
    )

behind-found : (bytes : List ℕ) (d : Document) (h : Heading) (w : List Attr × List (List ℕ)) → trace_heading (pieces bytes) ≡ Ok h → workers_in (h.version + 1) h.rest ≡ Ok w → Behind d (front h w) → IsText bytes d × Fits d
behind-found bytes d h w first second k =
    let r = document_in-some (front h w) k.0 d (sym k.2) in
    let third = subst (ReadsPolicies h.profile [] (policies_line (front h w)) w.1) r.2 k.1 in
    subst (λ (x : Document). IsText bytes x × Fits x) r.4 (whole bytes h w r.0 r.1 first second third r.3)

pub found : (bytes : List ℕ) (d : Document) → ReadsTrace bytes (Ok d) → IsText bytes d × Fits d
found bytes d h = by_front (front_in (pieces bytes)) refl h
  where
    by_front : (r : Result Front Fault) → front_in (pieces bytes) ≡ r → Then r (λ f read. (policies : Policies) × ReadsPolicies f.profile [] (policies_line f) f.rest policies × (read ≡ document_in f policies)) (Ok d) → IsText bytes d × Fits d
    by_front (Ok f) e k =
        let r = front_in-some (pieces bytes) f e in
        behind-found bytes d r.0 r.1 r.2 r.3 (subst (Behind d) (sym r.4) k)
    by_front (Err x) e k = cc

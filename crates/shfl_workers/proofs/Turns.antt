-- One call of the trace more lies behind a worker.
use Rattle.std.proofs.Common.{◌≡◌, ◌≢◌, ℕ, suc, ◌+◌, ◌<◌, ◌≤◌, take, drop, get_or, Bool, true, false, cond, eqb, List, [], ◌∷◌, ◌++◌, map, length, Option, IsSomeAnd, sym, refl, ap, ◌∙◌, subst, arith, append-nil, length-append}
use Rattle.std.specs.List.{filter}
use Rattle.std.proofs.lemmas.List.{map-append, take_more}
use Rattle.std.proofs.Math.Seq.{drop-cons}
use Rattle.std.proofs.lemmas.List.Elements.{filter-append}
use Rattle.std.proofs.lemmas.Grind.{flat_map-append}
use Rattle.std.proofs.lemmas.Bool.Decides.{nat_tests}
use Rattle.dir_table.specs.declared.calls.DirCall.{DirCall}
use Rattle.trace_text.specs.declared.trace.TraceAct.{TraceAct}
use Rattle.trace_text.specs.declared.trace.TraceAct.TheVariants as does
use Rattle.trace_text.specs.declared.trace.TraceCall.{TraceCall}
use Rattle.trace_text.specs.Histories.{Made, made_by, made_in, of_worker}
use Rattle.trace_text.specs.Attachments.{attached_by, attached_in}
use Rattle.trace_text.specs.Traces.{IsActOf}
use Rattle.policy_versions.specs.Places.{RegistryId}
use Rattle.shfl_workers.specs.declared.attaching.Attaching.{Attaching}
use Rattle.shfl_workers.specs.Attaching.{Attached}
use Rattle.shfl_workers.specs.Shares.{share_of}
use Rattle.shfl_workers.specs.Progress.{Progress}
use Rattle.shfl_workers.proofs.Attachments.{attached_more}

pub of_worker-append : (worker : ℕ) (a b : List Made) → of_worker worker (a ++ b) ≡ of_worker worker a ++ of_worker worker b
of_worker-append worker a b =
    let mine : Made → Bool = λ m. eqb m.worker worker in
    ap (map (λ (m : Made). m.call)) (filter-append mine a b) ∙ map-append (λ (m : Made). m.call) (filter mine a) (filter mine b)

-- what a worker makes by one call of the trace
abbrev pub made_one : ℕ → TraceCall → List DirCall
made_one worker c = of_worker worker (made_by c.worker c.act)

-- the calls of a worker with one call of the trace more
pub made_more : (worker : ℕ) (calls : List TraceCall) (c : TraceCall) → of_worker worker (made_in (calls ++ c ∷ [])) ≡ of_worker worker (made_in calls) ++ made_one worker c
made_more worker calls c =
    ap (of_worker worker) (flat_map-append (λ (d : TraceCall). made_by d.worker d.act) calls (c ∷ []) ∙ ap (λ l. made_in calls ++ l) (append-nil (made_by c.worker c.act)))
    ∙ of_worker-append worker (made_in calls) (made_by c.worker c.act)

pub share_first : (worker : ℕ) (c : TraceCall) (ahead : List TraceCall) → share_of (c ∷ ahead) worker ≡ length (made_one worker c) + share_of ahead worker
share_first worker c ahead = ap length (of_worker-append worker (made_by c.worker c.act) (made_in ahead)) ∙ length-append (made_one worker c) (of_worker worker (made_in ahead))

-- another worker's call
pub none_of_other : (worker by : ℕ) (act : TraceAct) → by ≢ worker → of_worker worker (made_by by act) ≡ []
none_of_other worker by (does.Dir call) other =
    let not : eqb by worker ≡ false = grind (arith, nat_tests, other) in
    ap (λ b. map (λ (m : Made). m.call) (cond b (record { worker = by; call = call } ∷ []) [])) not
none_of_other worker by (does.Attach policy) other = refl

pub one_of_own : (worker by : ℕ) (call : DirCall) → by ≡ worker → of_worker worker (made_by by (does.Dir call)) ≡ call ∷ []
one_of_own worker by call same =
    let yes : eqb by worker ≡ true = grind (arith, nat_tests, same) in
    ap (λ b. map (λ (m : Made). m.call) (cond b (record { worker = by; call = call } ∷ []) [])) yes

-- nobody but worker 0 attaches
pub none_attached : (names policies worker by : ℕ) (act : TraceAct) → IsActOf names policies by act → by ≢ worker → worker ≡ 0 → attached_by act ≡ []
none_attached names policies worker by (does.Dir call) may other first = refl
none_attached names policies worker by (does.Attach policy) may other first = absurd (other (may.1 ∙ sym first))

module _ {Pass : Type 0} (made : Pass → List DirCall → Type 0) (left : Pass → ℕ) (registry : RegistryId) (worker : ℕ) where
  -- worker 0 has published the policies up to here
  abbrev pub Publishes : List ℕ → List ℕ → Option Attaching → Type 0
  Publishes done ahead attaching = IsSomeAnd attaching (λ a. Attached registry done ahead a.publisher a.copies.items)

  pub one_call : (done ahead : List TraceCall) (c : TraceCall) (pass pass' : Pass) (attaching attaching' : Option Attaching)
      → Progress made left registry worker done (c ∷ ahead) pass attaching
      → ((calls : List DirCall) → made pass calls → made pass' (calls ++ made_one worker c))
      → length (made_one worker c) + left pass' ≡ left pass
      → (worker ≡ 0 → (d l : List ℕ) → Publishes d (attached_by c.act ++ l) attaching → Publishes (d ++ attached_by c.act) l attaching')
      → Progress made left registry worker (done ++ c ∷ []) ahead pass' attaching'
  one_call done ahead c pass pass' attaching attaching' p makes counts publishes = record {
    has_made = subst (made pass') (sym (made_more worker done c)) (makes (of_worker worker (made_in done)) p.has_made);
    enough = (let e = share_first worker c ahead in let enough = p.enough in omega (arith, e, enough, counts));
    attached = λ first. subst (λ d. Publishes d (attached_in ahead) attaching') (sym (attached_more done c)) (publishes first (attached_in done) (attached_in ahead) (p.attached first));
  }

  -- the pass and the attachments stay as they are
  pub other_call : (names policies : ℕ) (done ahead : List TraceCall) (c : TraceCall) (pass : Pass) (attaching : Option Attaching)
      → IsActOf names policies c.worker c.act → c.worker ≢ worker → Progress made left registry worker done (c ∷ ahead) pass attaching
      → Progress made left registry worker (done ++ c ∷ []) ahead pass attaching
  other_call names policies done ahead c pass attaching may other p =
      let none : made_one worker c ≡ [] = none_of_other worker c.worker c.act other in
      one_call done ahead c pass pass attaching attaching p
      (λ calls h. subst (made pass) (sym (append-nil calls) ∙ ap (λ l. calls ++ l) (sym none)) h)
      (let e = ap length none in omega (arith, e))
      (λ first d l h. let nothing = none_attached names policies worker c.worker c.act may other first in
      subst (λ x. Publishes x l attaching) (sym (append-nil d) ∙ ap (λ m. d ++ m) (sym nothing)) (subst (λ m. Publishes d (m ++ l) attaching) nothing h))

  -- a call on the directory was made
  pub own_call : (done ahead : List TraceCall) (c : TraceCall) (call : DirCall) (pass pass' : Pass) (attaching : Option Attaching)
      → c.act ≡ does.Dir call → c.worker ≡ worker → Progress made left registry worker done (c ∷ ahead) pass attaching
      → ((calls : List DirCall) → made pass calls → made pass' (calls ++ call ∷ [])) → left pass' + 1 ≡ left pass
      → Progress made left registry worker (done ++ c ∷ []) ahead pass' attaching
  own_call done ahead c call pass pass' attaching is mine p makes counts =
      let one : made_one worker c ≡ call ∷ [] = ap (λ a. of_worker worker (made_by c.worker a)) is ∙ one_of_own worker c.worker call mine in
      let nothing : attached_by c.act ≡ [] = ap attached_by is in
      one_call done ahead c pass pass' attaching attaching p
      (λ calls h. subst (λ l. made pass' (calls ++ l)) (sym one) (makes calls h))
      (let e = ap length one in omega (arith, e, counts))
      (λ first d l h. subst (λ x. Publishes x l attaching) (sym (append-nil d) ∙ ap (λ m. d ++ m) (sym nothing)) (subst (λ m. Publishes d (m ++ l) attaching) nothing h))

  -- the next policy was published
  pub own_attach : (done ahead : List TraceCall) (c : TraceCall) (policy : ℕ) (pass : Pass) (attaching attaching' : Option Attaching)
      → c.act ≡ does.Attach policy → Progress made left registry worker done (c ∷ ahead) pass attaching
      → ((d l : List ℕ) → Publishes d (policy ∷ l) attaching → Publishes (d ++ policy ∷ []) l attaching')
      → Progress made left registry worker (done ++ c ∷ []) ahead pass attaching'
  own_attach done ahead c policy pass attaching attaching' is p publishes =
      let none : made_one worker c ≡ [] = ap (λ a. of_worker worker (made_by c.worker a)) is in
      let one : attached_by c.act ≡ policy ∷ [] = ap attached_by is in
      one_call done ahead c pass pass attaching attaching' p
      (λ calls h. subst (made pass) (sym (append-nil calls) ∙ ap (λ l. calls ++ l) (sym none)) h)
      (let e = ap length none in omega (arith, e))
      (λ first d l h. subst (λ m. Publishes (d ++ m) l attaching') (sym one) (publishes d l (subst (λ m. Publishes d (m ++ l) attaching) one h)))

  -- a call may be made where one is ahead
  pub may_call : (done ahead : List TraceCall) (c : TraceCall) (call : DirCall) (pass : Pass) (attaching : Option Attaching)
      → c.act ≡ does.Dir call → c.worker ≡ worker → Progress made left registry worker done (c ∷ ahead) pass attaching → 1 ≤ left pass
  may_call done ahead c call pass attaching is mine p =
      let one : length (made_one worker c) ≡ 1 = ap (λ a. length (of_worker worker (made_by c.worker a))) is ∙ ap length (one_of_own worker c.worker call mine) in
      let e = share_first worker c ahead in let enough = p.enough in omega (arith, e, enough, one)

  -- the call at a place is the first one ahead
  pub at_place : (calls : List TraceCall) (i : ℕ) (d : TraceCall) (pass : Pass) (attaching : Option Attaching) → i < length calls
      → Progress made left registry worker (take i calls) (drop i calls) pass attaching
      → Progress made left registry worker (take i calls) (get_or calls i d ∷ drop (suc i) calls) pass attaching
  at_place calls i d pass attaching within p = subst (λ l. Progress made left registry worker (take i calls) l pass attaching) (drop-cons calls i d within) p

  pub past_place : (calls : List TraceCall) (i : ℕ) (d : TraceCall) (pass : Pass) (attaching : Option Attaching) → i < length calls
      → Progress made left registry worker (take i calls ++ get_or calls i d ∷ []) (drop (suc i) calls) pass attaching
      → Progress made left registry worker (take (i + 1) calls) (drop (i + 1) calls) pass attaching
  past_place calls i d pass attaching within p =
      subst (λ n. Progress made left registry worker (take (i + 1) calls) (drop n calls) pass attaching) (let n : suc i ≡ i + 1 = omega arith in n)
      (subst (λ l. Progress made left registry worker l (drop (suc i) calls) pass attaching) (sym (take_more calls i d within)) p)

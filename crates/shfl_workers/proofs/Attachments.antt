-- Copies of the policies that a trace attaches, and the rows of those that were published.
use Rattle.std.proofs.Common.{◌≡◌, ℕ, ◌+◌, List, [], ◌∷◌, ◌++◌, length, ◌<◌, sym, refl, ap, ◌∙◌, subst, arith, append-nil, length-append}
use Rattle.std.proofs.lemmas.Grind.{flat_map-append}
use Rattle.trace_text.specs.declared.trace.TraceCall.{TraceCall}
use Rattle.trace_text.specs.Attachments.{attached_by, attached_in, versions_from}
use Rattle.policy_versions.specs.declared.instance.Instance.{Instance}
use Rattle.policy_versions.specs.Places.{RegistryId}
use Rattle.policy_versions.specs.Models.{PublisherModel, IsOf, with_row, next_version}
use Rattle.shfl_workers.specs.Attaching.{AreCopies, Attached}

-- one copy more
pub copies_more : (registry : RegistryId) (ps : List ℕ) (xs : List Instance) (p : ℕ) (x : Instance) → AreCopies registry ps xs → x.which ≡ p → IsOf registry x
    → AreCopies registry (ps ++ p ∷ []) (xs ++ x ∷ [])
copies_more registry [] [] p x all which is = (which, is, tt)
copies_more registry [] (y ∷ ys) p x all which is = absurd all
copies_more registry (q ∷ ps) [] p x all which is = absurd all
copies_more registry (q ∷ ps) (y ∷ ys) p x all which is = (all.0, all.1, copies_more registry ps ys p x all.2 which is)

-- the policies of one call more
pub attached_more : (calls : List TraceCall) (c : TraceCall) → attached_in (calls ++ c ∷ []) ≡ attached_in calls ++ attached_by c.act
attached_more calls c = flat_map-append (λ (d : TraceCall). attached_by d.act) calls (c ∷ []) ∙ ap (λ l. attached_in calls ++ l) (append-nil (attached_by c.act))

pub versions_more : (version : ℕ) (ps : List ℕ) (p : ℕ) → versions_from version (ps ++ p ∷ []) ≡ versions_from version ps ++ (version + length ps, p) ∷ []
versions_more version [] p = ap (λ n. (n, p) ∷ []) (let e : version ≡ version + 0 = omega arith in e)
versions_more version (q ∷ ps) p =
    ap (λ l. (version, q) ∷ l)
    (versions_more (version + 1) ps p ∙ ap (λ n. versions_from (version + 1) ps ++ (n, p) ∷ []) (let e : version + 1 + length ps ≡ version + length (q ∷ ps) = omega arith in e))

versions_long : (version : ℕ) (ps : List ℕ) → length (versions_from version ps) ≡ length ps
versions_long version [] = refl
versions_long version (p ∷ ps) = let e = versions_long (version + 1) ps in omega (arith, e)

-- there is room for one row more
pub rows_few : (registry : RegistryId) (done left : List ℕ) (p : ℕ) (publisher : PublisherModel) (copies : List Instance) → Attached registry done (p ∷ left) publisher copies
    → length publisher.rows < 4096
rows_few registry done left p publisher copies a = let e : length publisher.rows ≡ length done = ap length a.rows ∙ versions_long 1 done in let few = a.few in omega (arith, e, few)

-- the first copy was published
pub attached_one : (registry : RegistryId) (done left : List ℕ) (p : ℕ) (old new : PublisherModel) (x : Instance) (copies rest : List Instance)
    → Attached registry done (p ∷ left) old copies → copies ≡ x ∷ rest → new ≡ with_row old (next_version old) x.which
    → Attached registry (done ++ p ∷ []) left new rest
attached_one registry done left p old new x copies rest a is row =
    let first : AreCopies registry (p ∷ left) (x ∷ rest) = subst (AreCopies registry (p ∷ left)) is a.copied in
    let long : next_version old ≡ 1 + length done = (let e : length old.rows ≡ length done = ap length a.rows ∙ versions_long 1 done in omega (arith, e)) in
    record {
      of_registry = ap (λ (m : PublisherModel). m.registry) row ∙ a.of_registry;
      rows = ap (λ (m : PublisherModel). m.rows) row ∙ ap (λ l. l ++ (next_version old, x.which) ∷ []) a.rows
          ∙ ap (λ n. versions_from 1 done ++ (n, x.which) ∷ []) long ∙ ap (λ n. versions_from 1 done ++ (1 + length done, n) ∷ []) first.0
          ∙ sym (versions_more 1 done p);
      copied = first.2;
      few = (let e = length-append done (p ∷ []) in let few = a.few in omega (arith, e, few));
    }

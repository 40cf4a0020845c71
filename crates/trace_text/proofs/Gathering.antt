-- Calls by the places of their names, while these are gathered.
use Rattle.std.proofs.Common.{◌≡◌, ℕ, ◌+◌, ◌<◌, List, [], ◌∷◌, ◌++◌, length, map, get_or, Bool, cond, Some, None, refl, sym, ap, ◌∙◌, subst, arith, length-append}
use Rattle.std.specs.Prelude.{Contains}
use Rattle.std.specs.List.{AllByRecursion}
use Rattle.std.proofs.lemmas.Grind.{flat_map-append}
use Rattle.std.proofs.lemmas.List.{get_or_default, append-nil, length-map, map-append}
use Rattle.std.proofs.lemmas.List.Elements.{All-contains, All-from_recursion, Contains-append_left, Contains-append_right}
use Rattle.std.proofs.Math.ListN.{get_or-append}
use Rattle.dir_table.specs.declared.calls.DirCall.{DirCall}
use Rattle.dir_table.specs.declared.calls.DirCall.TheVariants as call
use Rattle.dir_table.specs.Directory.{IsInRange}
use Rattle.dir_table.specs.Meanings.{IsAdmitted}
use Rattle.trace_text.specs.declared.trace.TraceAct.{TraceAct}
use Rattle.trace_text.specs.declared.trace.TraceAct.TheVariants as does
use Rattle.trace_text.specs.declared.trace.TraceCall.{TraceCall}
use Rattle.trace_text.specs.declared.trace.NamedSource.{NamedSource}
use Rattle.trace_text.specs.declared.spelled.SpelledCall.{SpelledCall}
use Rattle.trace_text.specs.declared.call_list.CallList.{CallList}
use Rattle.trace_text.specs.declared.call_list.Numbered.{Numbered}
use Rattle.trace_text.specs.Document.{make, drop_name, rename, find, next, CallLine}
use Rattle.trace_text.specs.CallLists.{list_said, IsListOf, numbered_said}
use Rattle.trace_text.specs.Lines.{is_attach, attach_count}
use Rattle.name_order.specs.Names.{SameMembers}
use Rattle.trace_text.specs.Spelled.{act_said, call_said, act_names, call_names}
use Rattle.trace_text.specs.Traces.{dir_act, act_of, call_of, IsActOf, IsCallOf}
use Rattle.name_order.specs.Names.{name_at}
use Rattle.name_order.specs.Places.{ArePutBehind}
use Rattle.name_order.proofs.Placing.{all-behind, all-push, among-more}
use Rattle.trace_text.proofs.CallLoop.{attach_count-push, small}

-- ---- calls whose names stay

dir-more : (names more : List (List ℕ)) (c : DirCall) → IsAdmitted (length names) c → dir_act (names ++ more) c ≡ dir_act names c
dir-more names more (call.Make dir name) h = ap (make dir) (get_or-append names more [] name h.within)
dir-more names more (call.Drop dir name) h = ap (drop_name dir) (get_or-append names more [] name h.within)
dir-more names more (call.Rename dir name to_dir to_name) h = λ j. rename dir (get_or-append names more [] name h.0.within j) to_dir (get_or-append names more [] to_name h.1.within j)
dir-more names more (call.Find dir name) h = ap (find dir) (get_or-append names more [] name h.within)
dir-more names more (call.Count dir) h = refl
dir-more names more (call.Next dir None) h = refl
dir-more names more (call.Next dir (Some name)) h = λ j. next dir (Some (get_or-append names more [] name h.within j))

in-more : (names more : List (List ℕ)) (dir name : ℕ) → IsInRange (length names) dir name → IsInRange (length (names ++ more)) dir name
in-more names more dir name h = record { known = h.known; within = omega (arith, h.within, length-append names more) }

range-more : (names more : List (List ℕ)) (c : DirCall) → IsAdmitted (length names) c → IsAdmitted (length (names ++ more)) c
range-more names more (call.Make dir name) h = in-more names more dir name h
range-more names more (call.Drop dir name) h = in-more names more dir name h
range-more names more (call.Rename dir name to_dir to_name) h = (in-more names more dir name h.0, in-more names more to_dir to_name h.1)
range-more names more (call.Find dir name) h = in-more names more dir name h
range-more names more (call.Count dir) h = h
range-more names more (call.Next dir None) h = h
range-more names more (call.Next dir (Some name)) h = in-more names more dir name h

module _ (policies : List (List ℕ)) (names more : List (List ℕ)) where
  act-more : (many worker : ℕ) (a : TraceAct) → IsActOf (length names) many worker a → act_of (names ++ more) policies a ≡ act_of names policies a
  act-more many worker (does.Dir c) h = dir-more names more c h
  act-more many worker (does.Attach k) h = refl

  named-more : (many worker : ℕ) (a : TraceAct) → IsActOf (length names) many worker a → IsActOf (length (names ++ more)) many worker a
  named-more many worker (does.Dir c) h = range-more names more c h
  named-more many worker (does.Attach k) h = h

  calls-more : (workers many : ℕ) (cs : List TraceCall) → AllByRecursion (IsCallOf workers (length names) many) cs → map (call_of (names ++ more) policies) cs ≡ map (call_of names policies) cs
  calls-more workers many [] h = refl
  calls-more workers many (c ∷ cs) h = λ j. record { worker = c.worker; act = act-more many c.worker c.act h.0.act j } ∷ calls-more workers many cs h.1 j

  each-more : (workers many : ℕ) (cs : List TraceCall) → AllByRecursion (IsCallOf workers (length names) many) cs → AllByRecursion (IsCallOf workers (length (names ++ more)) many) cs
  each-more workers many [] h = tt
  each-more workers many (c ∷ cs) h = (record { worker = h.0.worker; act = named-more many c.worker c.act h.0.act }, each-more workers many cs h.1)

-- ---- the names of calls

at-place : (names : List (List ℕ)) (k : ℕ) → k < length names → Contains names (name_at names k)
at-place names k lt = (k, lt, get_or_default names k (get_or names k []) [] lt)

-- the names of a call are among those that its places are of
dir-names : (names : List (List ℕ)) (c : DirCall) → IsAdmitted (length names) c → AllByRecursion (Contains names) (act_names (dir_act names c))
dir-names names (call.Make dir name) h = (at-place names name h.within, tt)
dir-names names (call.Drop dir name) h = (at-place names name h.within, tt)
dir-names names (call.Rename dir name to_dir to_name) h = (at-place names name h.0.within, (at-place names to_name h.1.within, tt))
dir-names names (call.Find dir name) h = (at-place names name h.within, tt)
dir-names names (call.Count dir) h = tt
dir-names names (call.Next dir None) h = tt
dir-names names (call.Next dir (Some name)) h = (at-place names name h.within, tt)

all-names : (names policies : List (List ℕ)) (workers many : ℕ) (cs : List TraceCall) → AllByRecursion (IsCallOf workers (length names) many) cs → AllByRecursion (Contains names) (call_names (map (call_of names policies) cs))
all-names names policies workers many [] h = tt
all-names names policies workers many (c ∷ cs) h = all-behind (Contains names) (act_names (act_of names policies c.act)) (call_names (map (call_of names policies) cs)) (by_act c.act h.0.act) (all-names names policies workers many cs h.1)
  where
    by_act : (a : TraceAct) → IsActOf (length names) many c.worker a → AllByRecursion (Contains names) (act_names (act_of names policies a))
    by_act (does.Dir k) g = dir-names names k g
    by_act (does.Attach k) g = tt

-- ---- a list of calls

pub length-said : (policies : List NamedSource) (l : CallList) → length (list_said policies l) ≡ length l.calls.items
length-said policies l = length-map l.calls.items (call_of l.names (map (λ p. p.name.items) policies))

pub length-numbered : (policies : List NamedSource) (n : Numbered) → length (numbered_said policies n) ≡ length n.calls.items
length-numbered policies n = length-map n.calls.items (call_of (map (λ n. n.items) n.names.items) (map (λ p. p.name.items) policies))

-- where it says one more
pub length-more : (policies : List NamedSource) (old new : CallList) (c : CallLine) → list_said policies new ≡ list_said policies old ++ c ∷ [] → length new.calls.items ≡ length old.calls.items + 1
length-more policies old new c said = omega (arith, length-said policies new, length-said policies old, ap length said, length-append (list_said policies old) (c ∷ []))

pub none-said : (policies : List NamedSource) (l : CallList) → l.calls.items ≡ [] → list_said policies l ≡ []
none-said policies l e = ap (λ (cs : List TraceCall). map (call_of l.names (map (λ p. p.name.items) policies)) cs) e

pub none_listed : (workers : ℕ) (policies : List NamedSource) (l : CallList) → l.names ≡ [] → l.calls.items ≡ [] → l.attaches ≡ 0 → IsListOf workers policies l
none_listed workers policies l names calls attaches = record {
  named = subst (AllByRecursion (IsCallOf workers (length l.names) (length policies))) (sym calls) tt;
  among = subst (AllByRecursion (Contains (call_names (list_said policies l)))) (sym names) tt;
  few = let none : length l.names ≡ 0 = ap length names in omega arith;
  attaches = attaches ∙ sym (ap attach_count (none-said policies l calls));
  counted = omega arith;
}

module _ (workers : ℕ) (policies : List NamedSource) (old new : CallList) (call : SpelledCall) (a : TraceAct) (b : Bool) where
  abbrev of : List (List ℕ)
  of = map (λ p. p.name.items) policies

  abbrev last : TraceCall
  last = record { worker = call.worker; act = a }

  -- how the list has one more
  pub record OneMore : Type 0 where
    pub said : act_of new.names of a ≡ act_said call.act
    pub named : IsActOf (length new.names) (length policies) call.worker a
    pub put : ArePutBehind old.names (act_names (act_said call.act)) new.names
    pub pushed : new.calls.items ≡ old.calls.items ++ last ∷ []
    pub attach : b ≡ is_attach (act_said call.act)
    pub counted : new.attaches ≡ old.attaches + cond b 1 0

  module _ (known : call.worker < workers) (more : OneMore) (before : IsListOf workers policies old) where
    pub said_more : list_said policies new ≡ list_said policies old ++ call_said call ∷ []
    said_more =
        ap (map (call_of new.names of)) more.pushed
        ∙ map-append (call_of new.names of) old.calls.items (last ∷ [])
        ∙ (λ j. (ap (λ (l : List (List ℕ)). map (call_of l of) old.calls.items) more.put.is ∙ calls-more of old.names more.put.more workers (length policies) old.calls.items before.named) j ++ record { worker = call.worker; act = more.said j } ∷ [])

    names_more : call_names (list_said policies new) ≡ call_names (list_said policies old) ++ act_names (act_said call.act)
    names_more =
        ap call_names said_more
        ∙ flat_map-append (λ c. act_names c.act) (list_said policies old) (call_said call ∷ [])
        ∙ ap (λ (l : List (List ℕ)). call_names (list_said policies old) ++ l) (append-nil (act_names (act_said call.act)))

    pub listed_more : IsListOf workers policies new
    listed_more = record {
      named = rw (more.pushed, more.put.is) (all-push (IsCallOf workers (length (old.names ++ more.put.more)) (length policies)) old.calls.items last
          (each-more of old.names more.put.more workers (length policies) old.calls.items before.named)
          (record { worker = known; act = subst (λ (l : List (List ℕ)). IsActOf (length l) (length policies) call.worker a) more.put.is more.named }));
      among = subst (AllByRecursion (Contains (call_names (list_said policies new)))) (sym more.put.is)
          (subst (λ (l : List (List ℕ)). AllByRecursion (Contains l) (old.names ++ more.put.more)) (sym names_more)
          (all-behind (Contains (call_names (list_said policies old) ++ act_names (act_said call.act))) old.names more.put.more
          (among-more (call_names (list_said policies old)) (call_names (list_said policies old) ++ act_names (act_said call.act)) old.names (λ n h. Contains-append_left (call_names (list_said policies old)) (act_names (act_said call.act)) n h) before.among)
          (among-more (act_names (act_said call.act)) (call_names (list_said policies old) ++ act_names (act_said call.act)) more.put.more (λ n h. Contains-append_right (call_names (list_said policies old)) (act_names (act_said call.act)) n h) more.put.among)));
      few =
          let long : length new.names ≡ length old.names + length more.put.more = ap length more.put.is ∙ length-append old.names more.put.more in
          let calls : length new.calls.items ≡ length old.calls.items + 1 = ap length more.pushed ∙ length-append old.calls.items (last ∷ []) in
          omega (arith, long, calls, more.put.few, before.few);
      attaches =
          more.counted ∙ (λ j. before.attaches j + cond (more.attach j) 1 0)
          ∙ sym (ap attach_count said_more ∙ attach_count-push (list_said policies old) (call_said call));
      counted =
          let calls : length new.calls.items ≡ length old.calls.items + 1 = ap length more.pushed ∙ length-append old.calls.items (last ∷ []) in
          omega (arith, calls, more.counted, small b, before.counted);
    }

pub same_listed : (workers : ℕ) (policies : List NamedSource) (l : CallList) → IsListOf workers policies l → SameMembers (call_names (list_said policies l)) l.names
same_listed workers policies l h n = (
  All-contains (Contains l.names) (call_names (list_said policies l)) n (All-from_recursion (Contains l.names) (call_names (list_said policies l)) (all-names l.names (map (λ p. p.name.items) policies) workers (length policies) l.calls.items h.named)),
  All-contains (Contains (call_names (list_said policies l))) l.names n (All-from_recursion (Contains (call_names (list_said policies l))) l.names h.among),
)

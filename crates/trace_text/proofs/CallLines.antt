-- The calls that were read stand there as lines.
use Rattle.std.proofs.Common.{◌≡◌, ◌<◌, ◌≤◌, ℕ, ◌+◌, List, [], ◌∷◌, ◌++◌, length, map, Bool, true, false, cond, not, leb, ◌&&◌, Some, Ok, refl, sym, ap, ◌∙◌, subst, arith, length-append}
use Rattle.std.specs.Prelude.{codes}
use Rattle.std.specs.List.{AllByRecursion}
use Rattle.std.specs.Fmt.{decimal}
use Rattle.std.proofs.lemmas.Bool.{or_parts, leb-false, not-false}
use Rattle.doc_text.specs.Text.{IsPlain, ended}
use Rattle.doc_text.specs.Words.{words}
use Rattle.doc_text.specs.Numbers.{capped_in}
use Rattle.doc_text.specs.Faults.{or_fault, fixed_due}
use Rattle.doc_text.proofs.Due.{bind-some, or_fault-some, fixed_due-some}
use Rattle.policy_text.proofs.Chains.{then-some, unless-ok, ok-same, some-same}
use Rattle.policy_text.proofs.Parts.{IsPart, text-spaced, words-parts}
use Rattle.trace_text.specs.declared.faults.TheConstants.{POLICY, CALL, STRANGER, RANGE, ATTACH, OVER}
use Rattle.trace_text.specs.Document.{CallLine, PolicyLine}
use Rattle.trace_text.specs.Lines.{act_in, call_in, is_in_range, may_do, is_attach, attach_count, is_full}
use Rattle.trace_text.specs.Grammar.{call_says, calls_in}
use Rattle.trace_text.specs.Spelling.{act_words, call_line}
use Rattle.trace_text.specs.Limits.{IsName, spelled_names, IsCall}
use Rattle.name_order.proofs.Placing.{all-push}
use Rattle.trace_text.proofs.CallLoop.{attach_count-push}
use Rattle.policy_text.proofs.LinesRead.{lines_from-read}
use Rattle.trace_text.proofs.CallWords.{capped-some, act-some}

-- the words of a call line
call_in-some : (ws : List (List ℕ)) (c : CallLine) → call_in ws ≡ Some c → AllByRecursion IsPart ws → c.worker < 16 → is_in_range c.act ≡ true → (ws ≡ decimal c.worker ∷ act_words c.act) × AllByRecursion IsName (spelled_names c.act)
call_in-some [] c h parts under ranged = cc
call_in-some (w ∷ []) c h parts under ranged = cc
call_in-some (w ∷ v ∷ ws) c h parts under ranged =
    let n = then-some (capped_in 16 w) _ c h in
    let a = then-some (act_in v ws) _ c n.2 in
    let made : CallLine = record { worker = n.0; act = a.0 } in
    let is : made ≡ c = some-same made c a.2 in
    subst (λ (d : CallLine). d.worker < 16 → is_in_range d.act ≡ true → (w ∷ v ∷ ws ≡ decimal d.worker ∷ act_words d.act) × AllByRecursion IsName (spelled_names d.act)) is
    (λ u r. (let s = act-some v ws a.0 a.1 parts.1.1 r in
    let number = capped-some 16 w n.0 (omega arith) n.1 u in
    (joined w (decimal n.0) (v ∷ ws) (act_words a.0) number s.0, s.1))) under ranged
  where
    joined : (a b : List ℕ) (vs us : List (List ℕ)) → a ≡ b → vs ≡ us → a ∷ vs ≡ b ∷ us
    joined a b vs us e f = rw (e, f) refl

-- what a call line says, and that it may stand behind those before
record CallRead (workers : ℕ) (policies : List PolicyLine) (before : List CallLine) (t : List ℕ) (c : CallLine) : Type 0 where
  text : t ≡ call_line c
  call : IsCall workers policies c
  room : is_full before c.act ≡ false

call_says-some : (workers : ℕ) (policies : List PolicyLine) (before : List CallLine) (line : ℕ) (t : List ℕ) (c : CallLine) → workers ≤ 16 → IsPlain t → call_says workers policies before line t ≡ Ok c → CallRead workers policies before t c
unfolding call_says
call_says-some workers policies before line t c few plain h =
    let x = bind-some (or_fault line CALL (call_in (words t))) _ c h in
    let known = unless-ok (leb workers x.0.worker) line STRANGER _ c x.2 in
    let ranged = unless-ok (not (is_in_range x.0.act)) line RANGE _ c known.1 in
    let may = unless-ok (not (may_do policies x.0.worker x.0.act)) line ATTACH _ c ranged.1 in
    let room = unless-ok (is_full before x.0.act) line OVER _ c may.1 in
    let is : x.0 ≡ c = ok-same x.0 c room.1 in
    let worker = leb-false workers x.0.worker known.0 in
    let range = not-false (is_in_range x.0.act) ranged.0 in
    let s = call_in-some (words t) x.0 (or_fault-some line CALL (call_in (words t)) x.0 x.1) (words-parts t plain) (omega (arith, worker, few)) range in
    subst (CallRead workers policies before t) is (record {
      text = text-spaced t (decimal x.0.worker ∷ act_words x.0.act) s.0;
      call = record { worker = worker; ranged = range; may = not-false (may_do policies x.0.worker x.0.act) may.0; names = s.1 };
      room = room.0;
    })

-- what holds of the calls read so far
pub record CallsKept (workers : ℕ) (policies : List PolicyLine) (calls : List CallLine) : Type 0 where
  pub few : length calls ≤ 65536
  pub attaches : attach_count calls ≤ 4096
  pub each : AllByRecursion (IsCall workers policies) calls

attaches-more : (before : List CallLine) (c : CallLine) → attach_count before ≤ 4096 → (is_attach c.act && leb 4096 (attach_count before)) ≡ false → attach_count (before ++ c ∷ []) ≤ 4096
attaches-more before c few h = by_test (is_attach c.act) (attach_count-push before c) h
  where
    by_test : (v : Bool) → attach_count (before ++ c ∷ []) ≡ attach_count before + cond v 1 0 → (v && leb 4096 (attach_count before)) ≡ false → attach_count (before ++ c ∷ []) ≤ 4096
    by_test true e k = omega (arith, e, leb-false 4096 (attach_count before) k)
    by_test false e k = omega (arith, e, few)

call-step : (workers : ℕ) (policies : List PolicyLine) → workers ≤ 16 → (before : List CallLine) (line : ℕ) (t : List ℕ) (c : CallLine) → IsPlain t → call_says workers policies before line t ≡ Ok c → CallsKept workers policies before → (t ≡ call_line c) × CallsKept workers policies (before ++ c ∷ [])
call-step workers policies few before line t c plain h kept =
    let r = call_says-some workers policies before line t c few plain h in
    let room = or_parts (leb 65536 (length before)) (is_attach c.act && leb 4096 (attach_count before)) r.room in (
      r.text,
      record {
        few = omega (arith, length-append before (c ∷ []), leb-false 65536 (length before) room.0);
        attaches = attaches-more before c kept.attaches room.1;
        each = all-push (IsCall workers policies) before c kept.each r.call;
      },
    )

pub calls_in-found : (workers : ℕ) (policies : List PolicyLine) (line : ℕ) (ps : List (List ℕ)) (calls : List CallLine) → workers ≤ 16 → calls_in workers policies line ps ≡ Ok calls
    → (ps ≡ ended (codes "calls") ∷ map ended (map call_line calls)) × CallsKept workers policies calls
unfolding calls_in
calls_in-found workers policies line ps calls few h =
    let r = bind-some (fixed_due line POLICY (codes "calls") ps) _ calls h in
    let f = fixed_due-some line POLICY (codes "calls") ps r.0 r.1 in
    let start : CallsKept workers policies [] = record { few = omega arith; attaches = omega arith; each = tt } in
    let l = lines_from-read (call_says workers policies) call_line (CallsKept workers policies) (call-step workers policies few) r.0 [] (line + 1) calls start r.2 in
    (subst (λ (xs : List CallLine). ps ≡ ended (codes "calls") ∷ map ended (map call_line xs)) (sym l.1) (f ∙ ap (λ (qs : List (List ℕ)). ended (codes "calls") ∷ qs) l.2), l.3)

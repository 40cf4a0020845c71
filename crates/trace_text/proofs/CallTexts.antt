-- Lines of calls are read as them.
use Rattle.std.proofs.Common.{◌≡◌, ◌<◌, ◌≤◌, ℕ, ◌+◌, List, [], ◌∷◌, ◌++◌, length, map, Bool, true, false, cond, not, leb, ltb, ◌&&◌, Option, Some, None, Result, Ok, refl, ap, ◌∙◌, subst, arith, length-append}
use Rattle.std.specs.Prelude.{codes}
use Rattle.std.specs.List.{flat_map, AllByRecursion}
use Rattle.std.specs.Fmt.{decimal}
use Rattle.std.proofs.lemmas.Bool.{and_parts, or_from, lt-leb, ltb-true}
use Rattle.doc_text.specs.declared.fault.Fault.{Fault}
use Rattle.doc_text.specs.Text.{pieces, IsPlain, ended}
use Rattle.doc_text.specs.Words.{words, ◌>>?◌}
use Rattle.doc_text.specs.Numbers.{capped_in}
use Rattle.doc_text.specs.Faults.{fault, ◌>>=◌, or_fault, lines_from}
use Rattle.doc_text.proofs.Joining.{decimal-word}
use Rattle.doc_text.proofs.Due.{fixed_due-ended}
use Rattle.doc_text.proofs.Loops.{lines_from-joined}
use Rattle.policy_text.proofs.Parts.{IsPart, line-plain, line-words}
use Rattle.trace_text.specs.declared.faults.TheConstants.{POLICY, CALL, STRANGER, RANGE, ATTACH, OVER}
use Rattle.trace_text.specs.Document.{Act, make, drop_name, rename, find, count, next, attach, CallLine, PolicyLine}
use Rattle.trace_text.specs.Lines.{entry_in, act_in, call_in, is_entry, is_in_range, may_do, is_attach, attach_count, is_full}
use Rattle.trace_text.specs.Grammar.{call_says, calls_in}
use Rattle.trace_text.specs.Spelling.{act_words, call_line}
use Rattle.trace_text.specs.Limits.{IsName, spelled_names, IsCall}
use Rattle.trace_text.proofs.CallLoop.{attach_count-at}
use Rattle.policy_text.proofs.LinesRead.{all-at}
use Rattle.trace_text.proofs.CallWords.{capped-decimal, small, entry-range}

-- ---- the words of a call

entry-parts : (word : List ℕ) (dir : ℕ) (name : List ℕ) (others : List (List ℕ)) → IsPart word → is_entry dir name ≡ true → IsName name → AllByRecursion IsPart others → AllByRecursion IsPart (word ∷ decimal dir ∷ name ∷ others)
entry-parts word dir name others part ranged n h = (part, (decimal-word dir (omega (arith, entry-range dir name ranged)), ((n.1, n.2), h)))

dir-part : (dir : ℕ) → ltb dir 64 ≡ true → IsPart (decimal dir)
dir-part dir h = decimal-word dir (omega (arith, ltb-true dir 64 h))

act-parts : (act : Act) → is_in_range act ≡ true → AllByRecursion IsName (spelled_names act) → AllByRecursion IsPart (act_words act)
act-parts (make dir name) r n = entry-parts (codes "make") dir name [] (refl, refl) r n.0 tt
act-parts (drop_name dir name) r n = entry-parts (codes "drop") dir name [] (refl, refl) r n.0 tt
act-parts (rename dir name to_dir to_name) r n =
    let range = and_parts (is_entry dir name) (is_entry to_dir to_name) r in
    entry-parts (codes "rename") dir name (decimal to_dir ∷ to_name ∷ []) (refl, refl) range.0 n.0 (decimal-word to_dir (omega (arith, entry-range to_dir to_name range.1)), ((n.1.0.1, n.1.0.2), tt))
act-parts (find dir name) r n = entry-parts (codes "find") dir name [] (refl, refl) r n.0 tt
act-parts (count dir) r n = ((refl, refl), (dir-part dir r, tt))
act-parts (next dir None) r n = ((refl, refl), (dir-part dir r, tt))
act-parts (next dir (Some name)) r n = entry-parts (codes "next") dir name [] (refl, refl) r n.0 tt
act-parts (attach name) r n = ((refl, refl), ((n.0.1, n.0.2), tt))

-- a verb and what follows it
abbrev act_of : List (List ℕ) → Option Act
act_of [] = None
act_of (v ∷ ws) = act_in v ws

entry_in-known : (dir : ℕ) (name : List ℕ) → is_entry dir name ≡ true → IsName name → entry_in (decimal dir ∷ name ∷ []) ≡ Some (dir, name)
entry_in-known dir name r n = rw (capped-decimal 64 dir small (entry-range dir name r), n.0) refl

act_of-words : (act : Act) → is_in_range act ≡ true → AllByRecursion IsName (spelled_names act) → act_of (act_words act) ≡ Some act
act_of-words (make dir name) r n = ap (λ (o : Option (ℕ × List ℕ)). o >>? λ e. Some (make e.0 e.1)) (entry_in-known dir name r n.0)
act_of-words (drop_name dir name) r n = ap (λ (o : Option (ℕ × List ℕ)). o >>? λ e. Some (drop_name e.0 e.1)) (entry_in-known dir name r n.0)
act_of-words (rename dir name to_dir to_name) r n =
    let range = and_parts (is_entry dir name) (is_entry to_dir to_name) r in
    rw (capped-decimal 64 dir small (entry-range dir name range.0), n.0.0, capped-decimal 64 to_dir small (entry-range to_dir to_name range.1), n.1.0.0) refl
act_of-words (find dir name) r n = ap (λ (o : Option (ℕ × List ℕ)). o >>? λ e. Some (find e.0 e.1)) (entry_in-known dir name r n.0)
act_of-words (count dir) r n = rw (capped-decimal 64 dir small (ltb-true dir 64 r)) refl
act_of-words (next dir None) r n = rw (capped-decimal 64 dir small (ltb-true dir 64 r)) refl
act_of-words (next dir (Some name)) r n = rw (capped-decimal 64 dir small (entry-range dir name r), n.0.0) refl
act_of-words (attach name) r n = rw n.0.0 refl

call_in-front : (w : List ℕ) (ws : List (List ℕ)) (n : ℕ) (act : Act) → capped_in 16 w ≡ Some n → act_of ws ≡ Some act → call_in (w ∷ ws) ≡ Some (record { worker = n; act = act })
call_in-front w [] n act h k = cc
call_in-front w (v ∷ vs) n act h k = rw (h, k) refl

-- ---- one line

module _ (workers : ℕ) (policies : List PolicyLine) (few : workers ≤ 16) where
  call-parts : (c : CallLine) → IsCall workers policies c → AllByRecursion IsPart (decimal c.worker ∷ act_words c.act)
  call-parts c h = (decimal-word c.worker (omega (arith, h.worker, few)), act-parts c.act h.ranged h.names)

  pub call-plain : (c : CallLine) → IsCall workers policies c → IsPlain (call_line c)
  call-plain c h = line-plain (decimal c.worker ∷ act_words c.act) (call-parts c h)

  call_in-line : (c : CallLine) → IsCall workers policies c → call_in (words (call_line c)) ≡ Some c
  call_in-line c h =
      ap call_in (line-words (decimal c.worker) (act_words c.act) (call-parts c h))
      ∙ call_in-front (decimal c.worker) (act_words c.act) c.worker c.act (capped-decimal 16 c.worker (omega arith) (omega (arith, h.worker, few))) (act_of-words c.act h.ranged h.names)

  -- words that say a call where there is room for it
  says-call : (before : List CallLine) (line : ℕ) (ws : List (List ℕ)) (c : CallLine) → call_in ws ≡ Some c → IsCall workers policies c → is_full before c.act ≡ false
      → ◌≡◌ {A = Result CallLine Fault} (or_fault line CALL (call_in ws) >>= λ call. cond (leb workers call.worker) (fault line STRANGER) (cond (not (is_in_range call.act)) (fault line RANGE) (cond (not (may_do policies call.worker call.act)) (fault line ATTACH) (cond (is_full before call.act) (fault line OVER) (Ok call))))) (Ok c)
  says-call before line ws c read h room = rw (read, lt-leb workers c.worker h.worker, h.ranged, h.may, room) refl

  call_says-line : (before : List CallLine) (line : ℕ) (c : CallLine) → IsCall workers policies c → is_full before c.act ≡ false → call_says workers policies before line (call_line c) ≡ Ok c
  unfolding call_says
  call_says-line before line c h room = says-call before line (words (call_line c)) c (call_in-line c h) h room

  -- ---- all lines

  room-at : (done more : List CallLine) (c : CallLine) → length (done ++ c ∷ more) ≤ 65536 → attach_count (done ++ c ∷ more) ≤ 4096 → is_full done c.act ≡ false
  room-at done more c short most =
      let shorter : length done < 65536 = omega (arith, short, length-append done (c ∷ more)) in
      or_from (leb 65536 (length done)) (is_attach c.act && leb 4096 (attach_count done)) (lt-leb 65536 (length done) shorter) (by_test (is_attach c.act) (attach_count-at done more c))
    where
      by_test : (v : Bool) → attach_count done + cond v 1 0 ≤ attach_count (done ++ c ∷ more) → (v && leb 4096 (attach_count done)) ≡ false
      by_test true e = lt-leb 4096 (attach_count done) (omega (arith, e, most))
      by_test false e = refl

  pub calls_in-only : (line : ℕ) (calls : List CallLine) → length calls ≤ 65536 → attach_count calls ≤ 4096 → AllByRecursion (IsCall workers policies) calls
      → calls_in workers policies line (ended (codes "calls") ∷ pieces (flat_map ended (map call_line calls))) ≡ Ok calls
  unfolding calls_in
  calls_in-only line calls short most all =
      ap (λ (r : Result (List (List ℕ)) Fault). r >>= λ ps. lines_from (call_says workers policies) [] (line + 1) ps) (fixed_due-ended line POLICY (codes "calls") (pieces (flat_map ended (map call_line calls))) refl)
      ∙ lines_from-joined (call_says workers policies) call_line [] calls (line + 1) each
    where
      each : (done more : List CallLine) (x : CallLine) (l : ℕ) → calls ≡ done ++ x ∷ more → IsPlain (call_line x) × (call_says workers policies done l (call_line x) ≡ Ok x)
      each done more x l e =
          let here = all-at (IsCall workers policies) done more x (subst (AllByRecursion (IsCall workers policies)) e all) in
          let room = room-at done more x (subst (λ (cs : List CallLine). length cs ≤ 65536) e short) (subst (λ (cs : List CallLine). attach_count cs ≤ 4096) e most) in
          (call-plain x here, call_says-line done l x here room)

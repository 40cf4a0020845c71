-- A history whose numbers are legal is answered by the directory.
use Rattle.std.proofs.Common.{◌≡◌, ℕ, zero, suc, Bool, true, false, cond, List, [], ◌∷◌, map, refl, sym, ap, ◌∙◌, subst}
use Rattle.std.specs.Prelude.{◌==◌, ◌&&◌}
use Rattle.std.specs.FinMap.{contains_key}
use Rattle.dir_table.specs.declared.calls.DirCall.{DirCall}
use Rattle.dir_table.specs.declared.calls.DirCall.TheVariants.{Make, Drop, Rename, Find, Count, Next}
use Rattle.dir_table.specs.declared.calls.DirReply.{DirReply}
use Rattle.dir_table.specs.declared.calls.DirReply.TheVariants.{Ino, Done as Finished, Exists, Absent, Number, Name, End}
use Rattle.dir_table.specs.Directory.{Directory}
use Rattle.dir_table.specs.Numbers.{call_numbers, reply_numbers, state_numbers, directory_from}
use Rattle.dir_table.specs.Meanings.{reply_at, state_after}
use Rattle.dir_table.specs.Answers.{reply_to, after}
use Rattle.dir_table.specs.ObjectLaws.{reply_as, state_as, directory_again}
use Rattle.hist_log.specs.declared.entry.Entry.{Entry}
use Rattle.hist_log.specs.History.{Operation, operations, IsLegal, state_left}
use Rattle.trace_text.specs.Report.{Done, done_of}
use Rattle.trace_text.specs.Histories.{AreAnswered, after_all}

-- an entry by the numbers that stand for its call and its reply
abbrev pub operation_of : Done → Operation
operation_of e = record { worker = e.worker; call = call_numbers e.call; reply = reply_numbers e.reply }

-- the reply of which these are the numbers
abbrev reply_from : List ℕ → DirReply
reply_from (zero ∷ n ∷ []) = Ino n
reply_from (suc zero ∷ []) = Finished
reply_from (suc (suc zero) ∷ []) = Exists
reply_from (suc (suc (suc zero)) ∷ []) = Absent
reply_from (suc (suc (suc (suc zero))) ∷ n ∷ []) = Number n
reply_from (suc (suc (suc (suc (suc zero)))) ∷ n ∷ []) = Name n
reply_from _ = End

reply_again : (r : DirReply) → reply_from (reply_numbers r) ≡ r
reply_again (Ino n) = refl
reply_again Finished = refl
reply_again Exists = refl
reply_again Absent = refl
reply_again (Number n) = refl
reply_again (Name n) = refl
reply_again End = refl

same_reply : (a b : DirReply) → reply_numbers a ≡ reply_numbers b → a ≡ b
same_reply a b same = sym (reply_again a) ∙ ap reply_from same ∙ reply_again b

pub answered : (d : Directory) (es : List Done) → IsLegal reply_at state_after (state_numbers d) (map operation_of es) → AreAnswered d es
answered d [] legal = tt
answered d (e ∷ es) legal = (
  same_reply e.reply (reply_to d e.call) (legal.0 ∙ sym (reply_as d e.call)),
  answered (after d e.call) es (subst (λ s. IsLegal reply_at state_after s (map operation_of es)) (sym (state_as d e.call)) legal.1),
)

left_numbers : (d : Directory) (es : List Done) → state_left state_after (state_numbers d) (map operation_of es) ≡ state_numbers (after_all d es)
left_numbers d [] = refl
left_numbers d (e ∷ es) = ap (λ s. state_left state_after s (map operation_of es)) (sym (state_as d e.call)) ∙ left_numbers (after d e.call) es

either_spare : (b : Bool) (c d : Directory) (spare : ℕ) → c.spare ≡ spare → d.spare ≡ spare → (cond b c d).spare ≡ spare
either_spare true c d spare first second = first
either_spare false c d spare first second = second

-- no call by itself changes how many are left
spare_stays : (d : Directory) (call : DirCall) → (after d call).spare ≡ d.spare
spare_stays d (Make dir name) = either_spare (contains_key d.names (dir, name)) _ _ d.spare refl refl
spare_stays d (Drop dir name) = refl
spare_stays d (Rename dir name to_dir to_name) = either_spare ((dir == to_dir) && (name == to_name)) _ _ d.spare refl refl
spare_stays d (Find dir name) = refl
spare_stays d (Count dir) = refl
spare_stays d (Next dir bound) = refl

after_spare : (d : Directory) (es : List Done) → (after_all d es).spare ≡ d.spare
after_spare d [] = refl
after_spare d (e ∷ es) = after_spare (after d e.call) es ∙ spare_stays d e.call

without_spare : (d : Directory) → d.spare ≡ 0 → record d { spare = 0 } ≡ d
without_spare d none = λ i. record d { spare = sym none i }

pub left : (d final : Directory) (es : List Done) → d.spare ≡ 0 → state_numbers final ≡ state_left state_after (state_numbers d) (map operation_of es)
    → record final { spare = 0 } ≡ after_all d es
left d final es none same = sym (directory_again final) ∙ ap directory_from (same ∙ left_numbers d es) ∙ directory_again (after_all d es)
    ∙ without_spare (after_all d es) (after_spare d es ∙ none)

-- entries by their numbers
pub operations_of : {O : Type 0} (es : List (Entry O DirCall DirReply)) → operations call_numbers reply_numbers es ≡ map operation_of (map done_of es)
operations_of [] = refl
operations_of (e ∷ es) = ap (λ l. operation_of (done_of e) ∷ l) (operations_of es)

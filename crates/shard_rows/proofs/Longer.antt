-- One entry more.
use Rattle.std.proofs.Common.{◌≡◌, ◌≢◌, ℕ, zero, suc, ◌+◌, ◌<◌, ◌≤◌, List, [], ◌∷◌, ◌++◌, length, take, get_or, slice_index, Some, None, sym, refl, ap, ◌∙◌, subst, inl, inr, arith}
use Rattle.std.specs.Prelude.{slice_get}
use Rattle.std.proofs.lemmas.Bool.{cases_lt}
use Rattle.std.proofs.lemmas.List.{length-append}
use Rattle.std.proofs.lemmas.Option.{same_Some, slice_get_within}
use Rattle.dir_table.specs.declared.calls.DirCall.{DirCall}
use Rattle.dir_table.specs.declared.calls.DirCall.TheVariants.{Make, Drop, Rename, Find, Count, Next}
use Rattle.dir_table.specs.Directory.{Directory}
use Rattle.dir_table.specs.Answers.{reply_to, after}
use Rattle.shard_rows.specs.Replay.{DirEntry, opening, left_by, IsLegal, number_of, numbers_of}
use Rattle.shard_rows.specs.Shares.{IsNumbered, next_after}
use Rattle.shard_rows.proofs.Numbered.{numbered_after, next_is}

pub left_by-append : (d : Directory) (xs ys : List DirEntry) → left_by d (xs ++ ys) ≡ left_by (left_by d xs) ys
left_by-append d [] ys = refl
left_by-append d (x ∷ xs) ys = left_by-append (after d x.call) xs ys

pub legal-push : (d : Directory) (xs : List DirEntry) (e : DirEntry) → IsLegal d xs → e.reply ≡ reply_to (left_by d xs) e.call → IsLegal d (xs ++ e ∷ [])
legal-push d [] e legal reply = (reply, tt)
legal-push d (x ∷ xs) e legal reply = (legal.0, legal-push (after d x.call) xs e legal.1 reply)

pub numbers-push : (d : Directory) (xs : List DirEntry) (e : DirEntry) → numbers_of d (xs ++ e ∷ []) ≡ numbers_of d xs ++ number_of (left_by d xs) e.call ∷ []
numbers-push d [] e = refl
numbers-push d (x ∷ xs) e = ap (λ l. number_of d x.call ∷ l) (numbers-push (after d x.call) xs e)

pub numbers-length : (d : Directory) (xs : List DirEntry) → length (numbers_of d xs) ≡ length xs
numbers-length d [] = refl
numbers-length d (x ∷ xs) = ap suc (numbers-length (after d x.call) xs)

-- the number beside an entry
pub number_at : (d : Directory) (xs : List DirEntry) (i : ℕ) (e : DirEntry) → slice_get xs i ≡ Some e → slice_index (numbers_of d xs) i ≡ number_of (left_by d (take i xs)) e.call
number_at d [] i e is = absurd (nothing i is)
  where
    nothing : (i : ℕ) → slice_get [] i ≡ Some e → ⊥
    nothing zero is = cc
    nothing (suc i) is = cc
number_at d (x ∷ xs) zero e is = let same : x ≡ e = cc in ap (λ y. number_of d y.call) same
number_at d (x ∷ xs) (suc i) e is = number_at (after d x.call) xs i e is

-- no call gives more than one number
next_step : (call : DirCall) (number next : ℕ) → next_after call number next ≤ next + 1
next_step (Make dir name) zero next = omega arith
next_step (Make dir name) (suc n) next = omega arith
next_step (Drop dir name) number next = omega arith
next_step (Rename dir name to_dir to_name) number next = omega arith
next_step (Find dir name) number next = omega arith
next_step (Count dir) number next = omega arith
next_step (Next dir bound) number next = omega arith

pub next_most : (d : Directory) (xs : List DirEntry) → IsNumbered d → (left_by d xs).next_number ≤ d.next_number + length xs
next_most d [] numbered = omega arith
next_most d (x ∷ xs) numbered =
    let rest = next_most (after d x.call) xs (numbered_after d numbered x.call) in
    let one = next_step x.call (number_of d x.call) d.next_number in
    let is = next_is d numbered x.call in
    omega arith

-- receipts are places, also with one more
pub placed-push : (xs : List DirEntry) (e : DirEntry) → ((i : ℕ) (x : DirEntry) → slice_get xs i ≡ Some x → x.receipt ≡ i) → e.receipt ≡ length xs
    → (i : ℕ) (x : DirEntry) → slice_get (xs ++ e ∷ []) i ≡ Some x → x.receipt ≡ i
placed-push xs e placed last i x is = elim (cases_lt i (length xs)) [
  | inl inside ↦ placed i x (sym (slice_get_append_left xs (e ∷ []) i inside) ∙ is)
  | inr behind ↦
      let k : i ≡ length xs = (let within = slice_get_within (xs ++ e ∷ []) i x is in omega (arith, length-append xs (e ∷ []))) in
      let same : e ≡ x = same_Some e x (sym (at_end xs) ∙ ap (slice_get (xs ++ e ∷ [])) (sym k) ∙ is) in
      ap (λ y. y.receipt) (sym same) ∙ last ∙ sym k
]
  where
    at_end : (xs : List DirEntry) → slice_get (xs ++ e ∷ []) (length xs) ≡ Some e
    at_end [] = refl
    at_end (y ∷ ys) = at_end ys

    slice_get_append_left : (xs ys : List DirEntry) (i : ℕ) → i < length xs → slice_get (xs ++ ys) i ≡ slice_get xs i
    slice_get_append_left [] ys i inside = absurd (omega arith)
    slice_get_append_left (x ∷ xs) ys zero inside = refl
    slice_get_append_left (x ∷ xs) ys (suc i) inside = slice_get_append_left xs ys i (omega arith)

-- Counting attachments call by call.
use Rattle.std.proofs.Common.{◌≡◌, ℕ, ◌+◌, ◌≤◌, List, [], ◌∷◌, ◌++◌, Bool, true, false, cond, refl, arith}
use Rattle.std.specs.List.{fold}
use Rattle.trace_text.specs.Document.{CallLine}
use Rattle.trace_text.specs.Lines.{is_attach, attach_count}

abbrev counts : ℕ → CallLine → ℕ
counts n c = n + cond (is_attach c.act) 1 0

fold-push : (n : ℕ) (calls : List CallLine) (c : CallLine) → fold counts n (calls ++ c ∷ []) ≡ fold counts n calls + cond (is_attach c.act) 1 0
fold-push n [] c = refl
fold-push n (d ∷ ds) c = fold-push (n + cond (is_attach d.act) 1 0) ds c

pub attach_count-push : (calls : List CallLine) (c : CallLine) → attach_count (calls ++ c ∷ []) ≡ attach_count calls + cond (is_attach c.act) 1 0
attach_count-push calls c = fold-push 0 calls c

fold-grows : (n : ℕ) (calls : List CallLine) → n ≤ fold counts n calls
fold-grows n [] = omega arith
fold-grows n (d ∷ ds) = omega (arith, fold-grows (n + cond (is_attach d.act) 1 0) ds)

fold-at : (n : ℕ) (done more : List CallLine) (c : CallLine) → fold counts n done + cond (is_attach c.act) 1 0 ≤ fold counts n (done ++ c ∷ more)
fold-at n [] more c = fold-grows (n + cond (is_attach c.act) 1 0) more
fold-at n (d ∷ ds) more c = fold-at (n + cond (is_attach d.act) 1 0) ds more c

-- with one among them
pub attach_count-at : (done more : List CallLine) (c : CallLine) → attach_count done + cond (is_attach c.act) 1 0 ≤ attach_count (done ++ c ∷ more)
attach_count-at done more c = fold-at 0 done more c

pub small : (b : Bool) → cond b 1 0 ≤ 1
small true = omega arith
small false = omega arith

-- Reading line after line, as a loop does, and as the lines were joined.
use Rattle.std.proofs.Common.{◌≡◌, ℕ, ◌+◌, List, [], ◌∷◌, ◌++◌, map, Option, Some, None, Result, Ok, Err, refl, sym, ap, ◌∙◌, append_assoc}
use Rattle.std.specs.List.{flat_map}
use Rattle.std.proofs.lemmas.List.{append-nil}
use Rattle.doc_text.specs.declared.fault.Fault.{Fault}
use Rattle.doc_text.specs.Text.{pieces, IsPlain, ended, BeginsOddly, BeginsWith}
use Rattle.doc_text.specs.Faults.{fault, lines_from, section_from}
use Rattle.doc_text.proofs.Joining.{pieces-ended, text_in-ended}

module _ {A : Type 0} (says : List A → ℕ → List ℕ → Result A Fault) where
  -- one more line was read
  pub lines_from-more : (before : List A) (line : ℕ) (ps qs : List (List ℕ)) (t : List ℕ) (a : A) (total : Result (List A) Fault)
      → BeginsWith t qs ps → says before line t ≡ Ok a → lines_from says before line ps ≡ total → lines_from says (before ++ a ∷ []) (line + 1) qs ≡ total
  unfolding lines_from
  lines_from-more before line ps qs t a total e g so_far = sym (rw (e.1, text_in-ended t e.0, g) refl) ∙ so_far

  -- a line was no text
  pub lines_from-odd : (before : List A) (line : ℕ) (ps : List (List ℕ)) (total : Result (List A) Fault)
      → BeginsOddly ps → lines_from says before line ps ≡ total → total ≡ fault line 1
  unfolding lines_from
  lines_from-odd before line [] total odd so_far = absurd odd
  lines_from-odd before line (p ∷ ps) total odd so_far = sym so_far ∙ rw odd refl

  -- a line had a fault
  pub lines_from-bad : (before : List A) (line : ℕ) (ps qs : List (List ℕ)) (t : List ℕ) (x : Fault) (total : Result (List A) Fault)
      → BeginsWith t qs ps → says before line t ≡ Err x → lines_from says before line ps ≡ total → total ≡ Err x
  unfolding lines_from
  lines_from-bad before line ps qs t x total e g so_far = sym so_far ∙ rw (e.1, text_in-ended t e.0, g) refl

  -- no line is left
  pub lines_from-done : (before : List A) (line : ℕ) (ps : List (List ℕ)) (total : Result (List A) Fault)
      → ps ≡ [] → lines_from says before line ps ≡ total → total ≡ Ok before
  unfolding lines_from
  lines_from-done before line ps total e so_far = sym so_far ∙ rw e refl

  -- lines that each say their item are read back
  pub lines_from-joined : (write : A → List ℕ) (before xs : List A) (line : ℕ)
      → ((done more : List A) (x : A) (line : ℕ) → before ++ xs ≡ done ++ x ∷ more → IsPlain (write x) × (says done line (write x) ≡ Ok x))
      → lines_from says before line (pieces (flat_map ended (map write xs))) ≡ Ok (before ++ xs)
  unfolding lines_from
  lines_from-joined write before [] line each = ap (λ (v : List A). Ok v) (sym (append-nil before))
  lines_from-joined write before (x ∷ xs) line each =
      let here = each before xs x line refl in
      let split : (before ++ x ∷ []) ++ xs ≡ before ++ x ∷ xs = append_assoc before (x ∷ []) xs in
      let again = lines_from-joined write (before ++ x ∷ []) xs (line + 1) (λ done more y l e. each done more y l (sym split ∙ e)) in
      rw (pieces-ended (write x) (flat_map ended (map write xs)) here.0, text_in-ended (write x) here.0, here.1, again) (ap (λ (v : List A). Ok v) split)

module _ {A : Type 0} (says : List A → ℕ → List ℕ → Result (Option A) Fault) (due : List A → ℕ) where
  pub section_from-more : (before : List A) (line : ℕ) (ps qs : List (List ℕ)) (t : List ℕ) (a : A) (total : Result (List A × List (List ℕ)) Fault)
      → BeginsWith t qs ps → says before line t ≡ Ok (Some a) → section_from says due before line ps ≡ total → section_from says due (before ++ a ∷ []) (line + 1) qs ≡ total
  unfolding section_from
  section_from-more before line ps qs t a total e g so_far = sym (rw (e.1, text_in-ended t e.0, g) refl) ∙ so_far

  pub section_from-odd : (before : List A) (line : ℕ) (ps : List (List ℕ)) (total : Result (List A × List (List ℕ)) Fault)
      → BeginsOddly ps → section_from says due before line ps ≡ total → total ≡ fault line 1
  unfolding section_from
  section_from-odd before line [] total odd so_far = absurd odd
  section_from-odd before line (p ∷ ps) total odd so_far = sym so_far ∙ rw odd refl

  pub section_from-bad : (before : List A) (line : ℕ) (ps qs : List (List ℕ)) (t : List ℕ) (x : Fault) (total : Result (List A × List (List ℕ)) Fault)
      → BeginsWith t qs ps → says before line t ≡ Err x → section_from says due before line ps ≡ total → total ≡ Err x
  unfolding section_from
  section_from-bad before line ps qs t x total e g so_far = sym so_far ∙ rw (e.1, text_in-ended t e.0, g) refl

  -- the line that ends the section
  pub section_from-end : (before : List A) (line : ℕ) (ps qs : List (List ℕ)) (t : List ℕ) (total : Result (List A × List (List ℕ)) Fault)
      → BeginsWith t qs ps → says before line t ≡ Ok None → section_from says due before line ps ≡ total → total ≡ Ok (before, ps)
  unfolding section_from
  section_from-end before line ps qs t total e g so_far = sym so_far ∙ rw (e.1, text_in-ended t e.0, g) refl

  -- the document ends before
  pub section_from-none : (before : List A) (line : ℕ) (ps : List (List ℕ)) (total : Result (List A × List (List ℕ)) Fault)
      → ps ≡ [] → section_from says due before line ps ≡ total → total ≡ fault line (due before)
  unfolding section_from
  section_from-none before line ps total e so_far = sym so_far ∙ rw e refl

  -- lines that each say their item are read back, up to the line that ends them
  pub section_from-joined : (write : A → List ℕ) (before xs : List A) (line : ℕ) (last rest : List ℕ)
      → ((done more : List A) (x : A) (line : ℕ) → before ++ xs ≡ done ++ x ∷ more → IsPlain (write x) × (says done line (write x) ≡ Ok (Some x)))
      → IsPlain last → ((line : ℕ) → says (before ++ xs) line last ≡ Ok None)
      → section_from says due before line (pieces (flat_map ended (map write xs) ++ (ended last ++ rest))) ≡ Ok (before ++ xs, ended last ∷ pieces rest)
  unfolding section_from
  section_from-joined write before [] line last rest each plain stops =
      let nil = append-nil before in
      rw (pieces-ended last rest plain, text_in-ended last plain, rw nil at (stops line), nil) refl
  section_from-joined write before (x ∷ xs) line last rest each plain stops =
      let here = each before xs x line refl in
      let split : (before ++ x ∷ []) ++ xs ≡ before ++ x ∷ xs = append_assoc before (x ∷ []) xs in
      let again = section_from-joined write (before ++ x ∷ []) xs (line + 1) last rest (λ done more y l e. each done more y l (sym split ∙ e)) plain (λ l. rw split (stops l)) in
      let front : pieces (flat_map ended (map write (x ∷ xs)) ++ (ended last ++ rest)) ≡ ended (write x) ∷ pieces (flat_map ended (map write xs) ++ (ended last ++ rest)) =
      ap pieces (append_assoc (ended (write x)) (flat_map ended (map write xs)) (ended last ++ rest)) ∙ pieces-ended (write x) (flat_map ended (map write xs) ++ (ended last ++ rest)) here.0 in
      rw (front, text_in-ended (write x) here.0, here.1, again, split) refl

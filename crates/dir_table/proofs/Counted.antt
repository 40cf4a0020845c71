-- How many rows each directory has, after an edit of the rows.
use Rattle.std.proofs.Common.{◌≡◌, ℕ, ◌+◌, ◌-◌, ◌<◌, true, false, cond, eqb, List, set, length, get_or, sym, refl, ap, ◌∙◌, subst, inl, inr, arith}
use Rattle.std.specs.List.{insert, remove, filter}
use Rattle.std.proofs.lemmas.Bool.{cases_eq}
use Rattle.std.proofs.lemmas.Bool.Decides.{nat_tests}
use Rattle.std.proofs.lemmas.List.{get_or-set_same, get_or-set_other}
use Rattle.std.proofs.lemmas.List.Folds.{fold-map}
use Rattle.std.proofs.lemmas.List.Sums.{length-filter, sum_by-set, sum_by-insert, sum_by-remove}
use Rattle.dir_table.specs.declared.calls.DirRow.{DirRow}
use Rattle.dir_table.specs.Names.{entry_of, entries_of}
use Rattle.dir_table.specs.Buffers.{rows_in}

-- there is a count for each number of a directory, and it is right
abbrev pub AreCounted : List ℕ → List DirRow → Type 0
AreCounted counts rows = (dir d : ℕ) → dir < 256 → get_or counts dir d ≡ rows_in dir rows

-- one where the row is of the directory, and none else
abbrev one_in : ℕ → DirRow → ℕ
one_in dir row = cond (eqb row.dir dir) 1 0

in_own : (dir : ℕ) (row : DirRow) → row.dir ≡ dir → one_in dir row ≡ 1
in_own dir row same = ap (λ b. cond b 1 0) {x = eqb row.dir dir} {y = true} (grind (arith, nat_tests))

in_other : (dir : ℕ) (row : DirRow) → (row.dir ≡ dir → ⊥) → one_in dir row ≡ 0
in_other dir row other = ap (λ b. cond b 1 0) {x = eqb row.dir dir} {y = false} (grind (arith, nat_tests))

-- a directory has as many rows as it has names
pub named_rows : (dir : ℕ) (rows : List DirRow) → rows_in dir rows ≡ length (filter (λ e. eqb e.0.0 dir) (entries_of rows))
named_rows dir rows = sym (length-filter (λ e. eqb e.0.0 dir) (entries_of rows) ∙ fold-map (λ a e. a + cond (eqb e.0.0 dir) 1 0) entry_of 0 rows)

-- the count of one directory is another one, and those of the others stay
module _ (counts : List ℕ) (rows : List DirRow) (counted : AreCounted counts rows) (long : length counts ≡ 256) where
  counted_at : (new : List DirRow) (at n : ℕ) → at < 256 → n ≡ rows_in at new → ((dir : ℕ) → (at ≡ dir → ⊥) → rows_in dir new ≡ rows_in dir rows) → AreCounted (set counts at n) new
  counted_at new at n known here others dir d within = elim (cases_eq dir at) [
    | inl is ↦ ap (λ k. get_or (set counts at n) k d) is ∙ get_or-set_same counts at n d (omega (arith, long)) ∙ here ∙ ap (λ k. rows_in k new) (sym is)
    | inr other ↦ get_or-set_other counts at dir n d other ∙ counted dir d within ∙ sym (others dir (λ is. other (sym is)))
  ]

  -- a row is put in
  pub counted_more : (i : ℕ) (row : DirRow) (new : List DirRow) (d : ℕ) → row.dir < 256 → new ≡ insert rows i row
      → AreCounted (set counts row.dir (get_or counts row.dir d + 1)) new
  counted_more i row new d known put =
      subst (AreCounted (set counts row.dir (get_or counts row.dir d + 1))) (sym put)
      (counted_at (insert rows i row) row.dir (get_or counts row.dir d + 1) known
      (omega (arith, counted row.dir d known, sum_by-insert (one_in row.dir) rows i row, in_own row.dir row refl))
      (λ dir other. omega (arith, sum_by-insert (one_in dir) rows i row, in_other dir row other)))

  -- a row is taken away
  module _ (i : ℕ) (row : DirRow) (there : i < length rows) (known : row.dir < 256) (is : row ≡ get_or rows i row) where
    less : (dir : ℕ) → rows_in dir (remove rows i) + one_in dir row ≡ rows_in dir rows
    less dir = ap (λ r. rows_in dir (remove rows i) + one_in dir r) is ∙ sum_by-remove (one_in dir) rows i row there

    pub counted_some : (d : ℕ) → 0 < get_or counts row.dir d
    counted_some d = omega (arith, counted row.dir d known, less row.dir, in_own row.dir row refl)

    pub counted_fewer : (new : List DirRow) (d : ℕ) → new ≡ remove rows i → AreCounted (set counts row.dir (get_or counts row.dir d - 1)) new
    counted_fewer new d removed =
        subst (AreCounted (set counts row.dir (get_or counts row.dir d - 1))) (sym removed)
        (counted_at (remove rows i) row.dir (get_or counts row.dir d - 1) known
        (omega (arith, counted row.dir d known, less row.dir, in_own row.dir row refl))
        (λ dir other. omega (arith, less dir, in_other dir row other)))

  -- a row comes in the place of one of its directory
  pub counted_same : (i : ℕ) (row : DirRow) (new : List DirRow) → i < length rows → (get_or rows i row).dir ≡ row.dir → new ≡ set rows i row → AreCounted counts new
  counted_same i row new there same put dir d within =
      let one : one_in dir (get_or rows i row) ≡ one_in dir row = ap (λ k. cond (eqb k dir) 1 0) same in
      counted dir d within ∙ omega (arith, sum_by-set (one_in dir) rows i row row there, one) ∙ ap (rows_in dir) (sym put)

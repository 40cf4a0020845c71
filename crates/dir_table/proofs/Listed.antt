-- A list of blocks after an edit of one of them.
use Rattle.std.proofs.Common.{◌≡◌, ℕ, List, get_or, sym, ap, ◌∙◌, subst, arith, Vec, Global}
use Rattle.std.specs.Vec.{with_item}
use Rattle.std.proofs.lemmas.List.{length-set}
use Rattle.dir_table.specs.declared.calls.DirRow.{DirRow}
use Rattle.dir_table.specs.Blocks.{first_row}
use Rattle.dir_table.specs.Slots.{blocks_in, AreApart, AreListed}
use Rattle.dir_table.proofs.Firsts.{begun_there, begun_at}
use Rattle.dir_table.proofs.Slots.{IsFound, found_here, changed_here}

module _ (slots : Vec (List DirRow) Global) (order free : Vec ℕ Global) (firsts : Vec DirRow Global) (listed : AreListed slots order free firsts)
    (k slot : ℕ) (found : List DirRow) (is : IsFound slots.items order.items k slot found) where
  -- its first row as it is kept
  pub first_found : (first : DirRow) → first ≡ get_or firsts.items k first → first ≡ first_row found
  first_found first kept =
      begun_at firsts.items (blocks_in slots.items order.items) k first listed.begun is.in_range kept
      ∙ ap first_row (sym (found_here slots.items order.items free.items listed.held.apart k slot found is))

  -- the block has other rows, and their first one is kept
  pub listed_with : (rows : List DirRow) (first : DirRow) → first ≡ first_row rows → AreListed (with_item slots slot rows) order free (with_item firsts k first)
  listed_with rows first begins =
      let held = listed.held in
      let count = length-set slots.items slot rows in
      record {
        held = record {
          apart = subst (λ n. AreApart n order.items free.items) (sym count) held.apart;
          within = omega (arith, count, held.within);
          numbered = held.numbered;
          listed = held.listed;
          returned = held.returned;
        };
        begun = begun_there firsts.items (blocks_in slots.items order.items) _ k first rows listed.begun
            (changed_here slots.items order.items free.items held.apart k slot found is rows) begins;
        noted = listed.noted;
      }

use Rattle.std.proofs.Common.{rules, arith, ◌≡◌, ◌+◌, ◌≤◌, ◌<◌, ℕ, vec_len, vec_capacity, sym, refl, ap, ◌∙◌, subst, List, [], ◌∷◌, ◌++◌, length, All, option_to_list}
use Rattle.std.proofs.lemmas.List.Elements.{All-append}
use Rattle.hist_log.specs.History.{IsLegal, operations, state_left}
use Rattle.shfl_table.specs.declared.kept.Action.{Action}
use Rattle.shfl_table.specs.Places.{Every}
use Rattle.shfl_table.specs.Books.{BookModel, actions, pack, opening_of, operations_of}
use Rattle.rw_cell.proofs.Copies.{every-last, every-front, one-element}
use Rattle.rw_cell.proofs.GivenCopies.{book-state, book-opening}
use Rattle.rw_cell.proofs.closing.parts_of.Goals as goal

pub loop-book-init : goal.loop-book-init
loop-book-init g c = let O = g.O.Object in
    let items : c.args.books.items ≡ c.pop.new.self.items ++ c.in-Some.last ∷ [] = c.pop.ensures.items ∙ ap (λ o. c.pop.new.self.items ++ option_to_list o) c.in-Some.is in
    let p = c.into_parts-object.ensures in
    let held : c.push_reserved.new.self.items ≡ c.into_parts-object.result.0 ∷ [] = c.push_reserved.ensures.items ∙ ap (λ l. l ++ c.into_parts-object.result.0 ∷ []) c.requires.room.0 in (
      search rules,
      search rules,
      λ packed total e.
          let Q : BookModel → Type 0 = λ b. (pack b.opening b.allowed ≡ packed) × (b.history ≡ total) in
          let P : g.row.O.Denot → Type 0 = λ o. O.state_numbers o ≡ state_left O.state_after (opening_of packed) (operations_of total) in
          let all = subst (Every Q) items e in
          let q = every-last Q c.pop.new.self.items c.in-Some.last all in (
            every-front Q c.pop.new.self.items c.in-Some.last all,
            subst (All P) (sym held) (one-element P c.into_parts-object.result.0 (book-state O.call_numbers O.reply_numbers O.state_after (O.state_numbers c.into_parts-object.result.0) c.in-Some.last c.into_parts-object.result.1.items packed total p.state p.history q.0 q.1)),
          ),
    )

pub loop-book-preserved : goal.loop-book-preserved
loop-book-preserved g c = let O = g.O.Object in let i = c.loop-book.invariant in
    let items : c.loop-book.books.items ≡ c.pop-in-loop-book.new.self.items ++ c.in-Some-pop.book ∷ [] = c.pop-in-loop-book.ensures.items ∙ ap (λ o. c.pop-in-loop-book.new.self.items ++ option_to_list o) c.in-Some-pop.is in
    let f = c.into_parts-object-in-Some-pop in let p = f.ensures in (
      search rules,
      search rules,
      λ packed total e.
          let Q : BookModel → Type 0 = λ b. (pack b.opening b.allowed ≡ packed) × (b.history ≡ total) in
          let P : g.row.O.Denot → Type 0 = λ o. O.state_numbers o ≡ state_left O.state_after (opening_of packed) (operations_of total) in
          let before = i.2 packed total e in
          let all = subst (Every Q) items before.0 in
          let q = every-last Q c.pop-in-loop-book.new.self.items c.in-Some-pop.book all in (
            every-front Q c.pop-in-loop-book.new.self.items c.in-Some-pop.book all,
            subst (All P) (sym c.push_reserved-in-Some-pop.ensures.items)
                (All-append P c.loop-book.copies.items (f.result.0 ∷ []) before.1
                (one-element P f.result.0 (book-state O.call_numbers O.reply_numbers O.state_after (O.state_numbers f.result.0) c.in-Some-pop.book f.result.1.items packed total p.state p.history q.0 q.1))),
          ),
    )

pub returns-clause-parts : goal.returns-clause-parts
returns-clause-parts g c packed total e = let O = g.O.Object in
    let items : c.args.books.items ≡ c.pop.new.self.items ++ c.in-Some.last ∷ [] = c.pop.ensures.items ∙ ap (λ o. c.pop.new.self.items ++ option_to_list o) c.in-Some.is in
    let Q : BookModel → Type 0 = λ b. (pack b.opening b.allowed ≡ packed) × (b.history ≡ total) in
    let q = every-last Q c.pop.new.self.items c.in-Some.last (subst (Every Q) items e) in
    let p = c.into_parts-object.ensures in
    let writes = c.into_parts-object.result.1.items in (
      p.history ∙ q.1,
      subst (λ (s : List ℕ). IsLegal O.reply_at O.state_after s (operations O.call_numbers O.reply_numbers writes)) (book-opening c.in-Some.last packed q.0) p.legal,
      (c.loop-book.invariant.2 packed total e).1,
    )

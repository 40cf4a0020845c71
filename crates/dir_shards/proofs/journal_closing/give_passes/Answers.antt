use Rattle.std.proofs.Common.{◌≡◌, ℕ, ◌+◌, ◌∷◌, ◌++◌, [], List, All, length, Some, sym, refl, ap, ◌∙◌, subst, arith, append_assoc, option_to_list, vec_len}
use Rattle.std.proofs.lemmas.List.Elements.{All-pop}
use Rattle.shared_journal.specs.Models.{ClosingModel, as_own}
use Rattle.shard_rows.specs.Replay.{DirEntry}
use Rattle.dir_shards.specs.ShardPasses.{ShardPassModel}
use Rattle.dir_shards.specs.Closings.{GaveBack}
use Rattle.dir_shards.proofs.JournalEnds.{gave_own, gave_more, one_gave, none_gave}
use Rattle.dir_shards.proofs.journal_closing.give_passes.Goals as goal

pub loop-pass-init : goal.loop-pass-init
loop-pass-init c = let P : ShardPassModel → Type 0 = λ p. p.journal ≡ c.args.table.id in let rest = c.pop.new.self.items in let first = c.in-Some.first in
    let items : c.args.passes.items ≡ rest ++ first ∷ [] = c.pop.ensures.items ∙ ap (λ o. rest ++ option_to_list o) c.in-Some.is in
    let n = c.new-closing.ensures in let e = c.into_journal.ensures in
    record {
      table = ap (λ (z : ClosingModel DirEntry). z.table) n;
      left = (All-pop P c.args.passes.items rest c.pop.result c.pop.ensures.items c.requires.table).0;
      given = (
        first ∷ [],
        items,
        subst (λ (z : ClosingModel DirEntry). All (GaveBack z.lists z.numbers) (first ∷ [])) (sym n)
            (one_gave _ _ first [] (gave_own [] [] first c.into_journal.result e.number e.seen) (none_gave _ _)),
      );
    }

pub loop-pass-preserved : goal.loop-pass-preserved
loop-pass-preserved c = let P : ShardPassModel → Type 0 = λ p. p.journal ≡ c.args.table.id in let v = c.loop-pass.invariant in
    let rest = c.pop-in-loop-pass.new.self.items in let pass = c.in-Some-pop.pass in let given = v.given.0 in
    let items : c.loop-pass.passes.items ≡ rest ++ pass ∷ [] = c.pop-in-loop-pass.ensures.items ∙ ap (λ o. rest ++ option_to_list o) c.in-Some-pop.is in
    let n = c.give.ensures in let e = c.into_journal-in-Some-pop.ensures in let journal = c.into_journal-in-Some-pop.result in let old = c.loop-pass.closing in
    record {
      table = ap (λ (z : ClosingModel DirEntry). z.table) n ∙ v.table;
      left = (All-pop P c.loop-pass.passes.items rest c.pop-in-loop-pass.result c.pop-in-loop-pass.ensures.items v.left).0;
      given = (
        pass ∷ given,
        v.given.1 ∙ ap (λ l. l ++ given) items ∙ append_assoc rest (pass ∷ []) given,
        subst (λ (z : ClosingModel DirEntry). All (GaveBack z.lists z.numbers) (pass ∷ given)) (sym n)
            (one_gave _ _ pass given (gave_own old.lists old.numbers pass journal e.number e.seen) (gave_more old.lists old.numbers journal.seen (as_own (λ e. e.worker) journal) given v.given.2)),
      );
    }

none_left : {A : Type 0} (xs ys : List A) → length xs ≡ 0 → xs ++ ys ≡ ys
none_left [] ys none = refl
none_left (x ∷ xs) ys none = absurd (omega arith)

pub returns-clause-passes : goal.returns-clause-passes
returns-clause-passes c = let v = c.loop-pass.invariant in let n = c.in_default-pop.ensures.cases.0 in let ok = c.loop-pass.passes.ok.0 in
    subst (All (GaveBack c.loop-pass.closing.lists c.loop-pass.closing.numbers)) (sym (v.given.1 ∙ none_left c.loop-pass.passes.items v.given.0 (omega arith))) v.given.2

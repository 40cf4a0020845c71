-- What is given back to the journal's table.
use Rattle.std.proofs.Common.{◌≡◌, ◌⊎◌, inl, inr, ℕ, ◌<◌, List, [], ◌∷◌, ◌++◌, map, zero, suc, length, Some, slice_get, refl, sym, ap, ◌∙◌, subst, arith}
use Rattle.std.specs.List.{All}
use Rattle.std.proofs.lemmas.List.Elements.{All-cons, All-nil}
use Rattle.std.proofs.lemmas.Option.{same_Some, slice_get_within}
use Rattle.shared_journal.specs.Entries.{IsAmong, StartsWith}
use Rattle.shared_journal.specs.declared.view.Own.{Own}
use Rattle.shared_journal.specs.Models.{PassModel, as_own}
use Rattle.shard_rows.specs.Replay.{DirEntry}
use Rattle.dir_shards.specs.Commits.{calls_by}
use Rattle.dir_shards.specs.ShardPasses.{ShardPassModel, AreAll}
use Rattle.dir_shards.specs.Closings.{GaveBack}
use Rattle.dir_shards.proofs.Places.{all_at}
use Rattle.dir_shards.proofs.LockEnds.{of_number}

-- a pass gave back its own
pub gave_own : (lists : List (List DirEntry)) (numbers : List (Own DirEntry)) (p : ShardPassModel) (journal : PassModel DirEntry) → journal.number ≡ p.number → journal.seen ≡ p.seen
    → GaveBack (journal.seen ∷ lists) (as_own (λ e. e.worker) journal ∷ numbers) p
gave_own lists numbers p journal number seen = record {
  seen = inl (sym seen);
  own = (as_own (λ e. e.worker) journal, inl refl, number, λ i. calls_by (number i) (seen i));
}

pub gave_more : (lists : List (List DirEntry)) (numbers : List (Own DirEntry)) (l : List DirEntry) (o : Own DirEntry) (ps : List ShardPassModel) → All (GaveBack lists numbers) ps
    → All (GaveBack (l ∷ lists) (o ∷ numbers)) ps
gave_more lists numbers l o ps all k d within = let g = all k d within in record { seen = inr g.seen; own = (g.own.0, inr g.own.1, g.own.2, g.own.3) }

pub one_gave : (lists : List (List DirEntry)) (numbers : List (Own DirEntry)) (p : ShardPassModel) (ps : List ShardPassModel) → GaveBack lists numbers p → All (GaveBack lists numbers) ps
    → All (GaveBack lists numbers) (p ∷ ps)
one_gave lists numbers p ps here rest = All-cons (GaveBack lists numbers) p ps here rest

pub none_gave : (lists : List (List DirEntry)) (numbers : List (Own DirEntry)) → All (GaveBack lists numbers) []
none_gave lists numbers = All-nil (GaveBack lists numbers)

-- each number is back where all passes are
pub numbers_back : (count : ℕ) (lists : List (List DirEntry)) (numbers : List (Own DirEntry)) (ps : List ShardPassModel) → AreAll count ps → All (GaveBack lists numbers) ps
    → (k : ℕ) → k < count → (o : Own DirEntry) × IsAmong o numbers × (o.number ≡ k)
numbers_back count lists numbers ps all gave k below =
    let found = of_number ps k (all k below) in let g = all_at (GaveBack lists numbers) ps found.0 found.1 gave found.2 in
    (g.own.0, g.own.1, g.own.2 ∙ found.3)

pub among_right : {A : Type 0} (xs ys : List A) (y : A) → IsAmong y ys → IsAmong y (xs ++ ys)
among_right [] ys y is = is
among_right (x ∷ xs) ys y is = inr (among_right xs ys y is)

pub among_map : {A B : Type 0} (f : A → B) (xs : List A) (ys : List B) (k : ℕ) (x : A) → slice_get xs k ≡ Some x → IsAmong (f x) (map f xs ++ ys)
among_map f [] ys k x at = absurd (let within = slice_get_within [] k x at in omega arith)
among_map f (z ∷ zs) ys zero x at = inl (ap f (same_Some x z (sym at)))
among_map f (z ∷ zs) ys (suc k) x at = inr (among_map f zs ys k x at)

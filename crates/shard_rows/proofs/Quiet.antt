-- Entries that don't name a directory leave its names as they are.
use Rattle.std.proofs.Common.{◌≡◌, ℕ, zero, suc, ◌+◌, ◌<◌, ◌≤◌, cond, eqb, List, [], ◌∷◌, ◌++◌, ⊎_elim, inl, inr, length, take, Some, None, slice_index, sym, refl, ap, ◌∙◌, subst, arith, ne_eqb}
use Rattle.std.specs.Prelude.{◌⊎◌, slice_get, slice_set}
use Rattle.std.specs.FinMap.{insert, remove}
use Rattle.std.proofs.lemmas.List.{get_or-set_same, get_or-set_other, length-append, length-set}
use Rattle.std.proofs.lemmas.Option.{slice_get_within, same_Some}
use mathlib.Core.Logic.{dite}
use native.Mathlib.Decide.{ℕ_discrete}
use Rattle.dir_table.specs.declared.calls.DirCall.{DirCall}
use Rattle.dir_table.specs.declared.calls.DirCall.TheVariants.{Make, Drop, Rename, Find, Count, Next}
use Rattle.dir_table.specs.Names.{Names}
use Rattle.dir_table.specs.Directory.{Directory}
use Rattle.dir_table.specs.Answers.{after}
use Rattle.shard_rows.specs.Replay.{DirEntry, opening, left_by, number_of}
use Rattle.shard_rows.specs.Shares.{names_in, IsNumbered, NamesDir, advanced, first_named, last_named}
use Rattle.shard_rows.specs.Values.{ShardValue, NamedBelow, IsUpTo, caught_up}
use Rattle.shard_rows.proofs.Shared.{advanced_after}
use Rattle.shard_rows.proofs.Numbered.{numbered_opening, numbered_after}

quiet : (k : ℕ) (names : Names) (call : DirCall) (number : ℕ) → ¬ NamesDir call k → advanced k names call number ≡ names
quiet k names (Make dir name) zero away = refl
quiet k names (Make dir name) (suc n) away = ap (λ b. cond b (insert names (dir, name) (suc n)) names) (ne_eqb dir k (λ e. away (inl e)))
quiet k names (Drop dir name) number away = ap (λ b. cond b (remove names (dir, name)) names) (ne_eqb dir k (λ e. away (inl e)))
quiet k names (Rename dir name to_dir to_name) zero away = refl
quiet k names (Rename dir name to_dir to_name) (suc n) away =
    let m = cond (eqb dir k) (remove names (dir, name)) names in
    ap (λ b. cond b (insert m (to_dir, to_name) (suc n)) m) (ne_eqb to_dir k (λ e. away (inr e)))
    ∙ ap (λ b. cond b (remove names (dir, name)) names) (ne_eqb dir k (λ e. away (inl e)))
quiet k names (Find dir name) number away = refl
quiet k names (Count dir) number away = refl
quiet k names (Next dir bound) number away = refl

-- so do all entries from a place on
quiet_all : (k : ℕ) (d : Directory) → IsNumbered d → (es : List DirEntry) (known : ℕ) → ((i : ℕ) (e : DirEntry) → slice_get es i ≡ Some e → known ≤ i → ¬ NamesDir e.call k)
    → names_in (left_by d es).names k ≡ names_in (left_by d (take known es)).names k
quiet_all k d numbered [] zero far = refl
quiet_all k d numbered [] (suc known) far = refl
quiet_all k d numbered (e ∷ es) zero far =
    quiet_all k (after d e.call) (numbered_after d numbered e.call) es 0 (λ i x at _. far (suc i) x at (omega arith))
    ∙ advanced_after d numbered k e.call ∙ quiet k (names_in d.names k) e.call (number_of d e.call) (far 0 e refl (omega arith))
quiet_all k d numbered (e ∷ es) (suc known) far =
    quiet_all k (after d e.call) (numbered_after d numbered e.call) es known (λ i x at past. far (suc i) x at (omega arith))

-- a shard goes on to the end where no entry from its place on names it
pub skips : (entries : List DirEntry) (shard : ShardValue) (place : ℕ) → NamedBelow entries shard.dir place → place ≤ shard.known → IsUpTo entries shard
    → record shard { known = length entries } ≡ caught_up entries shard
skips entries shard place below past up =
    let same = quiet_all shard.dir (opening shard.room) (numbered_opening shard.room) entries shard.known (λ i e at late named. let early = below i e at named in absurd (omega arith)) in
    ap (λ names. record shard { names = names; known = length entries }) (up.names ∙ sym same)

none_is : (x : DirEntry) → None ≡ Some x → ⊥
none_is x e = cc

old_or_last : (xs : List DirEntry) (e x : DirEntry) (i : ℕ) → slice_get (xs ++ e ∷ []) i ≡ Some x → (slice_get xs i ≡ Some x) ⊎ (e ≡ x)
old_or_last [] e x zero is = inr (same_Some e x is)
old_or_last [] e x (suc i) is = absurd (none_is x is)
old_or_last (y ∷ ys) e x zero is = inl is
old_or_last (y ∷ ys) e x (suc i) is = old_or_last ys e x i is

-- the places with an entry more
pub named_push : (entries : List DirEntry) (newest : List ℕ) (e : DirEntry) (behind : ℕ) → behind ≡ length entries + 1
    → first_named e.call < length newest → last_named e.call < length newest
    → ((dir : ℕ) → NamedBelow entries dir (slice_index newest dir))
    → (dir : ℕ) → NamedBelow (entries ++ e ∷ []) dir (slice_index (slice_set (slice_set newest (first_named e.call) behind) (last_named e.call) behind) dir)
named_push entries newest e behind is first last old dir i x at named =
    let f = first_named e.call in let l = last_named e.call in let once = slice_set newest f behind in
    let within : i < behind = (let w = slice_get_within (entries ++ e ∷ []) i x at in let n = length-append entries (e ∷ []) in omega arith) in
    let shown : slice_index (slice_set once l behind) dir ≡ behind → i < slice_index (slice_set once l behind) dir = λ p. subst (λ n. i < n) (sym p) within in
    dite (ℕ_discrete dir l)
    (λ same. shown (ap (slice_index (slice_set once l behind)) same ∙ get_or-set_same once l behind 0 (let n = length-set newest f behind in omega arith)))
    (λ not_last. let plain : slice_index (slice_set once l behind) dir ≡ slice_index once dir = get_or-set_other once l dir behind 0 not_last in
    dite (ℕ_discrete dir f)
    (λ same. shown (plain ∙ ap (slice_index once) same ∙ get_or-set_same newest f behind 0 first))
    (λ not_first. subst (λ n. i < n) (sym (plain ∙ get_or-set_other newest f dir behind 0 not_first))
    (⊎_elim (λ there. old dir i x there named)
    (λ it. absurd (⊎_elim (λ p. not_first (sym p)) (λ p. not_last (sym p)) (subst (λ (y : DirEntry). NamesDir y.call dir) (sym it) named)))
    (old_or_last entries e x i at))))

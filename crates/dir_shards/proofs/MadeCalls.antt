-- A call that was made, by a pass that took one lock or two and freed them.
use Rattle.std.proofs.Common.{◌≡◌, ◌≢◌, inl, inr, ℕ, ◌+◌, ◌<◌, List, [], ◌∷◌, ◌++◌, map, take, length, zero, suc, get_or, Option, slice_get, slice_index, Some, refl, sym, ap, ◌∙◌, subst, arith}
use Rattle.std.proofs.lemmas.List.{take-append-le, length-map}
use Rattle.std.proofs.Math.Seq.{take-length}
use Rattle.atomic_table.specs.Seated.{TableId}
use Rattle.dir_table.specs.declared.calls.DirCall.{DirCall}
use Rattle.dir_table.specs.declared.calls.DirReply.{DirReply}
use Rattle.shfl_line.specs.declared.words.Attr.{Attr}
use Rattle.shfl_line.specs.declared.choosers.Told.{Told}
use Rattle.shfl_table.specs.declared.view.Decision.{Decision}
use Rattle.shfl_table.specs.Waits.{AsksInRounds}
use Rattle.shared_journal.specs.Models.{PassModel}
use Rattle.shard_rows.specs.Replay.{DirEntry, entry_by}
use Rattle.dir_shards.specs.KeptShards.{KeptShardModel, state_of, lock_state}
use Rattle.dir_shards.specs.Commits.{GoesOn, SpendsCall}
use Rattle.dir_shards.specs.Locks.{LockPass, IsFree, TakesAt, FreesAt, decisions_at, AreOfLocks}
use Rattle.dir_shards.specs.ShardPasses.{ShardPassModel, ShardPassInvariant, IsLockPass, MakesCall, Asks, asked_at}
use Rattle.dir_shards.proofs.LockPasses.{Stand, none_held, is_free, kept_is, kept_state, stand_takes, and_also, decisions-takes, all_decisions-frees}

-- a pass with these parts
abbrev pub pass_on : List LockPass → PassModel DirEntry → Attr → ShardPassModel
pass_on passes journal attr = record {
  locks = map (λ p. p.board) passes;
  decisions = map (λ p. p.decisions) passes;
  journal = journal.table;
  room = slice_index journal.opening 0;
  number = journal.number;
  seen = journal.seen;
  left = journal.left;
  attr = attr;
}

pub makes_call : (passes passes' : List LockPass) (journal journal' : PassModel DirEntry) (attr : Attr) (old : ShardPassModel) (room : ℕ) (call : DirCall) (reply : DirReply) (place : ℕ)
    → pass_on passes journal attr ≡ old → AreOfLocks passes' (map (λ p. p.board) passes) → SpendsCall journal journal' → slice_index journal.opening 0 ≡ room
    → GoesOn room journal.seen (entry_by journal.number call reply place) journal'.seen → MakesCall old call reply place (pass_on passes' journal' attr)
makes_call passes passes' journal journal' attr old room call reply place same of_locks spends room_is goes_on =
    subst (λ (p : ShardPassModel). MakesCall p call reply place (pass_on passes' journal' attr)) same
    (record {
      goes_on = subst (λ r. GoesOn r journal.seen (entry_by journal.number call reply place) journal'.seen) (sym room_is) goes_on;
      left = spends.left;
      stays = λ i. record {
        locks = of_locks i;
        decisions = map (λ (p : LockPass). p.decisions) passes';
        journal = (spends.stays i).table;
        room = slice_index (spends.stays i).opening 0;
        number = (spends.stays i).number;
        seen = journal'.seen;
        left = journal'.left;
        attr = attr;
      };
    })

-- what is always true of a pass is true again
pub kept_again : (passes' : List LockPass) (journal journal' : PassModel DirEntry) → SpendsCall journal journal' → ShardPassInvariant [] journal
    → ((dir : ℕ) (p : LockPass) → slice_get passes' dir ≡ Some p → IsLockPass journal.table (slice_index journal.opening 0) journal.number dir p)
    → ShardPassInvariant passes' journal'
kept_again passes' journal journal' spends kept each =
    subst (ShardPassInvariant passes') (sym spends.stays) (record { home = kept.home; each = each })

pub alone : (passes : List LockPass) (journal : PassModel DirEntry) → ShardPassInvariant passes journal → ShardPassInvariant [] journal
alone passes journal kept = record { home = kept.home; each = λ dir p is. absurd (nothing dir p is) }
  where
    nothing : (dir : ℕ) (p : LockPass) → slice_get [] dir ≡ Some p → ⊥
    nothing zero p is = cc
    nothing (suc dir) p is = cc

module _ (passes passes1 passes2 : List LockPass) (journal journal' : PassModel DirEntry) (attr : Attr) (old : ShardPassModel) (dir : ℕ) (kept : KeptShardModel)
    (told told' : Option (List Told)) where
  -- the one lock asked the policy, and no other
  pub asks_one : pass_on passes journal attr ≡ old → TakesAt dir passes kept passes1 → FreesAt dir passes1 passes2
      → AsksInRounds attr (decisions_at passes dir) (decisions_at passes1 dir) told told' → Asks old (pass_on passes2 journal' attr) (dir ∷ []) told told'
  asks_one same t f asked =
      let freed = all_decisions-frees dir passes1 passes2 f in
      subst (λ (p : ShardPassModel). Asks p (pass_on passes2 journal' attr) (dir ∷ []) told told') same
      (record {
        in_turn = (told', subst (λ ds. AsksInRounds attr (decisions_at passes dir) (get_or ds dir []) told told') (sym freed) asked, refl);
        elsewhere = λ d not. ap (λ ds. get_or ds d []) freed ∙ decisions-takes dir d passes passes1 kept t (λ is. not (inl is));
      })

module _ (passes passes1 passes2 passes3 passes4 : List LockPass) (journal journal' : PassModel DirEntry) (attr : Attr) (old : ShardPassModel) (low high : ℕ) (lower higher : KeptShardModel)
    (told between told' : Option (List Told)) where
  -- the two locks asked the policy, one after another, and no other
  pub asks_two : pass_on passes journal attr ≡ old → low ≢ high → TakesAt low passes lower passes1 → TakesAt high passes1 higher passes2 → FreesAt high passes2 passes3
      → FreesAt low passes3 passes4 → AsksInRounds attr (decisions_at passes low) (decisions_at passes1 low) told between → AsksInRounds attr (decisions_at passes1 high) (decisions_at passes2 high) between told'
      → Asks old (pass_on passes4 journal' attr) (low ∷ high ∷ []) told told'
  asks_two same apart t t' f f' asked asked' =
      let freed = all_decisions-frees low passes3 passes4 f' ∙ all_decisions-frees high passes2 passes3 f in
      let back = λ (is : high ≡ low). apart (sym is) in
      subst (λ (p : ShardPassModel). Asks p (pass_on passes4 journal' attr) (low ∷ high ∷ []) told told') same
      (record {
        in_turn = (
          between,
          subst (λ ds. AsksInRounds attr (decisions_at passes low) ds told between) (sym (ap (λ ds. get_or ds low []) freed ∙ decisions-takes high low passes1 passes2 higher t' apart)) asked,
          (
            told',
            subst (λ (z : List Decision × List (List Decision)). AsksInRounds attr z.0 (get_or z.1 high []) between told')
                (λ i. (decisions-takes low high passes passes1 lower t back i, sym freed i)) asked',
            refl,
          ),
        );
        elsewhere = λ d not. ap (λ ds. get_or ds d []) freed
            ∙ (decisions-takes high d passes1 passes2 higher t' (λ is. not (inr (inl is))) ∙ decisions-takes low d passes passes1 lower t (λ is. not (inl is)));
      })

abbrev pub none : ℕ → Type 0
none _ = ⊥

abbrev pub room_of : PassModel DirEntry → ℕ
room_of journal = slice_index journal.opening 0

-- a pass's locks, of which these are held
abbrev pub StandOf : PassModel DirEntry → (ℕ → Type 0) → List LockPass → Type 0
StandOf journal = Stand journal.table (room_of journal) journal.number

-- a pass that took the lock of a place, while these were held
pub record TookLock (journal : PassModel DirEntry) (out : ℕ → Type 0) (place : ℕ) (kept : KeptShardModel) (passes passes1 : List LockPass) : Type 0 where
  pub takes : TakesAt place passes kept passes1
  pub before : StandOf journal out passes
  pub stand : StandOf journal (and_also place out) passes1
  pub table : kept.table ≡ journal.table
  pub room : kept.room ≡ room_of journal
  pub dir : kept.dir ≡ place
  pub state : state_of kept ≡ lock_state journal.table (room_of journal) place

pub took_lock : (journal : PassModel DirEntry) (out : ℕ → Type 0) (place : ℕ) (kept : KeptShardModel) (passes passes1 : List LockPass) → StandOf journal out passes → TakesAt place passes kept passes1
    → TookLock journal out place kept passes passes1
took_lock journal out place kept passes passes1 before t =
    let is = kept_is journal.table (room_of journal) journal.number out place passes passes1 kept before t in record {
      takes = t;
      before = before;
      stand = stand_takes journal.table (room_of journal) journal.number out place passes passes1 kept before t;
      table = is.0;
      room = is.1;
      dir = is.2;
      state = kept_state journal.table (room_of journal) journal.number out place passes passes1 kept before t;
    }

-- the first lock that a call takes
pub took_first : (journal : PassModel DirEntry) (place : ℕ) (kept : KeptShardModel) (passes passes' passes1 : List LockPass) → ShardPassInvariant passes journal → passes' ≡ passes
    → TakesAt place passes' kept passes1 → TookLock journal none place kept passes passes1
took_first journal place kept passes passes' passes1 inv same t =
    took_lock journal none place kept passes passes1 (none_held journal.table (room_of journal) journal.number passes inv.each) (subst (λ l. TakesAt place l kept passes1) same t)

pub free_first : (journal : PassModel DirEntry) (place : ℕ) (passes passes' : List LockPass) → ShardPassInvariant passes journal → passes' ≡ passes
    → (p : LockPass) → slice_get passes' place ≡ Some p → IsFree p
free_first journal place passes passes' inv same p is =
    is_free journal.table (room_of journal) journal.number none passes place (none_held journal.table (room_of journal) journal.number passes inv.each) (λ h. h) p
    (sym (ap (λ l. slice_get l place) same) ∙ is)

-- The passes of a directory's locks, while some of them are held.
use Rattle.std.proofs.Common.{◌≡◌, ◌≢◌, ◌⊎◌, inl, inr, ℕ, zero, suc, ◌+◌, ◌<◌, true, List, [], ◌∷◌, map, set, drop, length, Some, None, slice_get, slice_index, get_or, refl, sym, ap, ◌∙◌, subst, arith}
use Rattle.std.proofs.lemmas.Option.{same_Some, get_or_from_slice_get, slice_get-map, slice_get_within, slice_get_read, slice_get-get_or}
use Rattle.std.proofs.lemmas.List.{length-map, length-set, map-set, get_or-set_other}
use Rattle.std.specs.Option.{option_map}
use Rattle.std.proofs.Math.Seq.{map-set_same}
use Rattle.atomic_table.specs.Seated.{TableId}
use Rattle.shfl_line.specs.declared.events.Mode.TheVariants.{Write}
use Rattle.shfl_core.specs.Plan.{is_idle, is_resting}
use Rattle.shfl_table.specs.declared.view.Decision.{Decision}
use Rattle.shfl_table.specs.PassModel.{BoardId, BoardModel}
use Rattle.shfl_table.specs.PassSteps.{SeesValues}
use Rattle.shfl_table.specs.Histories.{IsCurrent}
use Rattle.shfl_table.specs.Places.{Every}
use Rattle.dir_shards.specs.KeptShards.{KeptShardModel, lock_state, state_of}
use Rattle.dir_shards.specs.Locks.{LockPass, IsFree, HasOut, IsSamePass, TakesAt, FreesAt, as_free, decisions_at, AreOfLocks}
use Rattle.dir_shards.specs.ShardPasses.{IsLockPass}
use Rattle.dir_shards.proofs.Places.{got_set}

-- the state behind a lock tells the journal's table, the room and the directory
pub state_tells : (t t' : TableId) (r r' d d' : ℕ) → lock_state t r d ≡ lock_state t' r' d' → (t ≡ t') × (r ≡ r') × (d ≡ d')
state_tells t t' r r' d d' same =
    let at : (k : ℕ) → slice_index (lock_state t r d) k ≡ slice_index (lock_state t' r' d') k = λ k. ap (λ l. slice_index l k) same in (
      (λ i. record {
        words = at 2 i;
        slots = at 3 i;
        views_name = at 4 i;
        atom = at 5 i;
        block = at 6 i;
        offset = at 7 i;
        slot_names = ap (drop 8) same i;
      }),
      at 1,
      at 0,
    )

-- the lock of this directory too
abbrev pub and_also : ℕ → (ℕ → Type 0) → ℕ → Type 0
and_also place out dir = (dir ≡ place) ⊎ out dir

module _ (table : TableId) (room number : ℕ) where
  -- a directory's pass of its lock, which is out or not
  pub record Stands (out : Type 0) (dir : ℕ) (p : LockPass) : Type 0 where
    pub unseen : p.history ≡ []
    pub one : p.board.table.slots ≡ 1
    pub number_is : p.own.reg.me ≡ number
    pub state : p.initial_state ≡ lock_state table room dir
    pub free : ¬ out → (is_idle p.own.phase ≡ true) × (p.values ≡ [])
    pub held : out → (is_resting p.own ≡ true) × (p.own.reg.mode ≡ Write) × (p.values ≡ None ∷ [])

  -- the locks of these directories are held, and the others are not
  abbrev pub Stand : (ℕ → Type 0) → List LockPass → Type 0
  Stand out passes = (dir : ℕ) (p : LockPass) → slice_get passes dir ≡ Some p → Stands (out dir) dir p

  pub none_held : (passes : List LockPass) → ((dir : ℕ) (p : LockPass) → slice_get passes dir ≡ Some p → IsLockPass table room number dir p) → Stand (λ _. ⊥) passes
  none_held passes each dir p is = let e = each dir p is in record {
    unseen = e.free.unseen;
    one = e.free.one;
    number_is = e.number_is;
    state = e.state;
    free = λ _. (e.free.idle, e.free.empty);
    held = λ h. absurd h;
  }

  pub all_free : (passes : List LockPass) → Stand (λ _. ⊥) passes → (dir : ℕ) (p : LockPass) → slice_get passes dir ≡ Some p → IsLockPass table room number dir p
  all_free passes stand dir p is = let s = stand dir p is in let f = s.free (λ h. h) in record {
    free = record { idle = f.0; empty = f.1; unseen = s.unseen; one = s.one };
    number_is = s.number_is;
    state = s.state;
  }

  pub is_free : (out : ℕ → Type 0) (passes : List LockPass) (dir : ℕ) → Stand out passes → ¬ out dir → (p : LockPass) → slice_get passes dir ≡ Some p → IsFree p
  is_free out passes dir stand not p is = let s = stand dir p is in let f = s.free not in record { idle = f.0; empty = f.1; unseen = s.unseen; one = s.one }

  pub has_out : (out : ℕ → Type 0) (passes : List LockPass) (dir : ℕ) → Stand out passes → out dir → (p : LockPass) → slice_get passes dir ≡ Some p → HasOut p
  has_out out passes dir stand held p is = let s = stand dir p is in let h = s.held held in record { holds = h.0; mode = h.1; out = h.2; unseen = s.unseen; one = s.one }

  -- one lock more is held
  pub stand_takes : (out : ℕ → Type 0) (place : ℕ) (old new : List LockPass) (kept : KeptShardModel) → Stand out old → TakesAt place old kept new → Stand (and_also place out) new
  stand_takes out place old new kept stand t dir p is = elim (got_set old place dir t.after p (sym (ap (λ l. slice_get l dir) t.others) ∙ is)) [
    | inl here ↦
        let was = stand place t.before t.was in
        let at : Stands (and_also place out dir) dir t.after = record {
          unseen = t.out.unseen;
          one = t.out.one;
          number_is = t.same.number ∙ was.number_is;
          state = t.same.state ∙ (was.state ∙ ap (lock_state table room) (sym here.0));
          free = λ not. absurd (not (inl here.0));
          held = λ _. (t.out.holds, t.out.mode, t.out.out);
        } in subst (Stands (and_also place out dir) dir) (sym here.1) at
    | inr there ↦
        let s = stand dir p there.1 in record {
          unseen = s.unseen;
          one = s.one;
          number_is = s.number_is;
          state = s.state;
          free = λ not. s.free (λ h. not (inr h));
          held = elim [
            | inl same ↦ absurd (there.0 same)
            | inr h ↦ s.held h
          ];
        }
  ]

  -- and it is free again
  pub stand_frees : (out : ℕ → Type 0) (place : ℕ) (old new : List LockPass) → ¬ out place → Stand (and_also place out) old → FreesAt place old new → Stand out new
  stand_frees out place old new free stand f dir p is = elim (got_set old place dir (as_free f.word f.before) p (sym (ap (λ l. slice_get l dir) f.others) ∙ is)) [
    | inl here ↦
        let was = stand place f.before f.was in
        let at : Stands (out dir) dir (as_free f.word f.before) = record {
          unseen = was.unseen;
          one = was.one;
          number_is = was.number_is;
          state = was.state ∙ ap (lock_state table room) (sym here.0);
          free = λ _. (refl, refl);
          held = λ h. absurd (free (subst out here.0 h));
        } in subst (Stands (out dir) dir) (sym here.1) at
    | inr there ↦
        let s = stand dir p there.1 in record {
          unseen = s.unseen;
          one = s.one;
          number_is = s.number_is;
          state = s.state;
          free = λ not. s.free (elim [
            | inl same ↦ absurd (there.0 same)
            | inr h ↦ absurd (not h)
          ]);
          held = λ h. s.held (inr h);
        }
  ]

  -- what lies behind a lock is of its directory
  pub kept_is : (out : ℕ → Type 0) (place : ℕ) (old new : List LockPass) (kept : KeptShardModel) → Stand out old → TakesAt place old kept new
      → (kept.table ≡ table) × (kept.room ≡ room) × (kept.dir ≡ place)
  kept_is out place old new kept stand t = state_tells kept.table table kept.room room kept.dir place (t.state ∙ (stand place t.before t.was).state)

  pub kept_state : (out : ℕ → Type 0) (place : ℕ) (old new : List LockPass) (kept : KeptShardModel) → Stand out old → TakesAt place old kept new → state_of kept ≡ lock_state table room place
  kept_state out place old new kept stand t = t.state ∙ (stand place t.before t.was).state

  -- it may be put back
  pub may_free : (out : ℕ → Type 0) (place : ℕ) (passes : List LockPass) (kept : KeptShardModel) → Stand out passes → out place → state_of kept ≡ lock_state table room place
      → (p : LockPass) → slice_get passes place ≡ Some p → HasOut p × (state_of kept ≡ p.initial_state)
  may_free out place passes kept stand held state p is = (has_out out passes place stand held p is, state ∙ sym (stand place p is).state)

-- the passes stay passes of these locks
taken_from : (place : ℕ) (old new : List LockPass) (locks : List BoardId) (before after : LockPass) → slice_get old place ≡ Some before → after.board ≡ before.board
    → new ≡ set old place after → AreOfLocks old locks → AreOfLocks new locks
taken_from place old new locks before after was same is of_locks =
    ap (map (λ (p : LockPass). p.board)) is
    ∙ (map-set_same (λ (p : LockPass). p.board) old place after after (same ∙ ap (λ (p : LockPass). p.board) (sym (get_or_from_slice_get old place before after was))) ∙ of_locks)

pub of_locks-takes : (place : ℕ) (old new : List LockPass) (kept : KeptShardModel) (locks : List BoardId) → TakesAt place old kept new → AreOfLocks old locks → AreOfLocks new locks
of_locks-takes place old new kept locks t of_locks = taken_from place old new locks t.before t.after t.was t.same.board t.others of_locks

pub of_locks-frees : (place : ℕ) (old new : List LockPass) (locks : List BoardId) → FreesAt place old new → AreOfLocks old locks → AreOfLocks new locks
of_locks-frees place old new locks f of_locks = taken_from place old new locks f.before (as_free f.word f.before) f.was refl f.others of_locks

-- the pass of a place is of the lock of that place
pub board_at : (passes : List LockPass) (boards : List BoardModel) (place : ℕ) (p : LockPass) (b : BoardModel) → place < length passes → AreOfLocks passes (map (λ b. b.id) boards)
    → b ≡ get_or boards place b → (get_or passes place p).board ≡ b.id
board_at passes boards place p b within of_locks is =
    let long = length-map passes (λ (p : LockPass). p.board) in let long' = length-map boards (λ (b : BoardModel). b.id) in let same = ap length of_locks in
    let there = slice_get_read boards (length boards) place b refl (omega arith) is in
    same_Some _ _
    (sym (slice_get-map (λ (p : LockPass). p.board) passes place ∙ ap (option_map (λ (p : LockPass). p.board)) (slice_get-get_or passes place p within))
    ∙ ap (λ l. slice_get l place) of_locks
    ∙ (slice_get-map (λ (b : BoardModel). b.id) boards place ∙ ap (option_map (λ (b : BoardModel). b.id)) there))

pub decisions_of : (passes : List LockPass) (place : ℕ) (p : LockPass) → slice_get passes place ≡ Some p → decisions_at passes place ≡ p.decisions
decisions_of passes place p was =
    get_or_from_slice_get (map (λ (p : LockPass). p.decisions) passes) place p.decisions []
    (slice_get-map (λ (p : LockPass). p.decisions) passes place ∙ ap (option_map (λ (p : LockPass). p.decisions)) was)

-- a pass that gains the lock finds the one value behind it
pub sees_one : (old new : LockPass) → SeesValues state_of (λ _. []) Write old new → old.board.table.slots ≡ 1 → (x : KeptShardModel) × (new.values ≡ Some x ∷ []) × (new.history ≡ [])
sees_one old new s one = by s.1.0 s.1.1 (s.1.2 ∙ one) s.1.3
  where
    by : (xs : List KeptShardModel) → new.values ≡ map Some xs → length xs ≡ 1 → Every (IsCurrent state_of (λ _. []) old.initial_state new.history) xs
        → (x : KeptShardModel) × (new.values ≡ Some x ∷ []) × (new.history ≡ [])
    by [] v l e = absurd (omega arith)
    by (x ∷ []) v l e = (x, v, sym e.0.1)
    by (x ∷ y ∷ ys) v l e = absurd (omega arith)

pub passes-takes : (place : ℕ) (old new : List LockPass) (kept : KeptShardModel) → TakesAt place old kept new → length new ≡ length old
passes-takes place old new kept t = ap length t.others ∙ length-set old place t.after

pub passes-frees : (place : ℕ) (old new : List LockPass) → FreesAt place old new → length new ≡ length old
passes-frees place old new f = ap length f.others ∙ length-set old place (as_free f.word f.before)

-- no other lock asks anything while one is taken, and none while one is freed
pub decisions-takes : (place dir : ℕ) (old new : List LockPass) (kept : KeptShardModel) → TakesAt place old kept new → dir ≢ place → decisions_at new dir ≡ decisions_at old dir
decisions-takes place dir old new kept t other =
    ap (λ l. get_or l dir []) (ap (map (λ (p : LockPass). p.decisions)) t.others ∙ map-set (λ (p : LockPass). p.decisions) old place t.after)
    ∙ get_or-set_other (map (λ (p : LockPass). p.decisions) old) place dir t.after.decisions [] other

pub all_decisions-frees : (place : ℕ) (old new : List LockPass) → FreesAt place old new → map (λ (p : LockPass). p.decisions) new ≡ map (λ (p : LockPass). p.decisions) old
all_decisions-frees place old new f =
    ap (map (λ (p : LockPass). p.decisions)) f.others
    ∙ map-set_same (λ (p : LockPass). p.decisions) old place (as_free f.word f.before) (as_free f.word f.before)
    (ap (λ (p : LockPass). p.decisions) (sym (get_or_from_slice_get old place f.before (as_free f.word f.before) f.was)))

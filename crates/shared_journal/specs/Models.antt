-- The table and its seats, as clauses see them.
use Rattle.std.specs.Prelude.{◌≡◌, ℕ, ◌+◌, ◌<◌, Bool, true, false, List, [], ◌∷◌, ◌++◌, length, drop, Option, Some, None, IfSome}
use Rattle.atomic_table.specs.Table.{Me}
use Rattle.atomic_table.specs.Seated.{TableId}
use Rattle.shared_journal.specs.declared.view.Own.{Own}
use Rattle.shared_journal.specs.declared.view.View.{View}
use Rattle.shared_journal.specs.Entries.{IsAmong, StartsWith, entries_by}
use Rattle.shared_journal.specs.Rule.{fresh_numbers}

-- a table: which it is, how many entries each number may make, and what of the journal never changes
pub record TableModel : Type 0 where
  pub id : TableId
  pub allowed : List ℕ
  pub opening : List ℕ
  pub limit : ℕ

-- a pass: its table and number, how many entries it may still add, what of the journal never changes, the beginning of the journal that
-- it knows, and whether it has the journal out
pub record PassModel (E : Type 0) : Type 0 where
  pub table : TableId
  pub number : ℕ
  pub left : ℕ
  pub opening : List ℕ
  pub limit : ℕ
  pub seen : List E
  pub is_out : Bool

-- a seat that adds nothing: its table, and the beginning of the journal that it knows
pub record PrefixModel (E : Type 0) : Type 0 where
  pub table : TableId
  pub list : List E

module _ {E : Type 0} where
  -- the view, with a list that was joined into it
  abbrev pub with_list : List E → View E → View E
  with_list l v = record v { joined = l ∷ v.joined }

  abbrev pub and_second : Option (PrefixModel E) → List (List E) → List (List E)
  and_second None lists = lists
  and_second (Some p) lists = p.list ∷ lists

  -- the view, with the list of a second one, if there is one
  abbrev pub with_second : Option (PrefixModel E) → View E → View E
  with_second p v = record v { joined = and_second p v.joined }

  abbrev pub first_opening : List (Own E) → List ℕ
  first_opening [] = []
  first_opening (o ∷ os) = o.opening

  abbrev pub first_limit : List (Own E) → ℕ
  first_limit [] = 0
  first_limit (o ∷ os) = o.limit

  -- what of the journal never changes, as the view's first number has it
  abbrev pub opening_of : View E → List ℕ
  opening_of v = first_opening v.own

  abbrev pub limit_of : View E → ℕ
  limit_of v = first_limit v.own

  -- the one number of a pass that knows these entries and may add so many more
  abbrev pub own_of : (E → ℕ) → ℕ → ℕ → List ℕ → ℕ → List E → Own E
  own_of worker number left opening limit seen = record {
    number = number;
    allowed = length (entries_by worker number seen) + left;
    opening = opening;
    limit = limit;
    entries = entries_by worker number seen;
  }

  -- what a pass's type keeps of its seat: one number, and the journal's place exactly while the journal is out
  pub record PassInvariant {J : Type 0} (worker : E → ℕ) (number left : ℕ) (me : Me (Option J) (View E)) : Type 0 where
    pub own : me.0.own ≡ own_of worker number left (opening_of me.0) (limit_of me.0) me.0.list ∷ []
    pub joined : me.0.joined ≡ []
    pub home : me.0.out ≡ false → me.1 ≡ []
    pub out : me.0.out ≡ true → me.1 ≡ (0, None) ∷ []

  -- a number with its entries, as its pass knows them
  abbrev pub as_own : (E → ℕ) → PassModel E → Own E
  as_own worker p = own_of worker p.number p.left p.opening p.limit p.seen

  -- a pass that added no entry
  abbrev pub fresh_pass : TableId → List ℕ → ℕ → ℕ → ℕ → PassModel E
  fresh_pass table opening limit number left = record { table = table; number = number; left = left; opening = opening; limit = limit; seen = []; is_out = false }

  -- one that knows of no entry
  abbrev pub nothing_known : TableId → PrefixModel E
  nothing_known table = record { table = table; list = [] }

  -- the view that has the numbers from this one on
  abbrev pub dealt_view : List ℕ → List ℕ → ℕ → ℕ → View E
  dealt_view allowed opening limit k = record { list = []; joined = []; own = fresh_numbers opening limit k (drop k allowed); out = false }

-- the pass put an entry of its own at this place of the journal: what it has seen goes on from what it saw before, ends with this
-- entry, and has just this one more of its own
pub record CommitsEntry {E : Type 0} (worker : E → ℕ) (old : PassModel E) (place : ℕ) (new : PassModel E) : Type 0 where
  pub before : List E
  pub entry : E
  pub goes_on : StartsWith before old.seen
  pub seen : new.seen ≡ before ++ entry ∷ []
  pub place_is : place ≡ length before
  pub made_by : worker entry ≡ old.number
  pub own : entries_by worker old.number new.seen ≡ entries_by worker old.number old.seen ++ entry ∷ []
  pub left : new.left + 1 ≡ old.left
  pub stays : new ≡ record old { seen = new.seen; left = new.left }

-- a table that takes its seats back: the lists and the numbers that it was given
pub record ClosingModel (E : Type 0) : Type 0 where
  pub table : TableModel
  pub lists : List (List E)
  pub numbers : List (Own E)

module _ {J E : Type 0} (entries : J → List E) (limit : J → ℕ) (opening : J → List ℕ) (legal : List ℕ → List E → Type 0) (worker : E → ℕ) where
  -- the journal has one entry more than the view's list, of a number of this view that may make one
  pub record AddsOwn (v : View E) (x : J) : Type 0 where
    pub entry : E
    pub number : Own E
    pub grew : entries x ≡ v.list ++ entry ∷ []
    pub among : IsAmong number v.own
    pub made_by : worker entry ≡ number.number
    pub left : length number.entries < number.allowed
    pub opening_is : opening x ≡ number.opening
    pub limit_is : limit x ≡ number.limit
    pub lawful : legal number.opening (entries x)

  -- the journal has one entry more than the pass has seen, of this pass
  pub record AddsEntry (p : PassModel E) (x : J) : Type 0 where
    pub entry : E
    pub grew : entries x ≡ p.seen ++ entry ∷ []
    pub made_by : worker entry ≡ p.number
    pub opening_is : opening x ≡ p.opening
    pub limit_is : limit x ≡ p.limit
    pub lawful : legal p.opening (entries x)

  -- what a pass that takes the journal out, with what one or two others know, is told of it
  pub record MayTake (p : PassModel E) (first : PrefixModel E) (second : Option (PrefixModel E)) (x : J) : Type 0 where
    pub seen : StartsWith (entries x) p.seen
    pub first_begins : StartsWith (entries x) first.list
    pub second_begins : IfSome second (λ q. StartsWith (entries x) q.list)
    pub own : entries_by worker p.number (entries x) ≡ entries_by worker p.number p.seen
    pub room : length (entries x) < limit x
    pub opening_is : opening x ≡ p.opening
    pub limit_is : limit x ≡ p.limit
    pub lawful : legal p.opening (entries x)

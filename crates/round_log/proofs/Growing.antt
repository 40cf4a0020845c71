-- A log has a note more.
use Rattle.std.proofs.Common.{◌≡◌, ◌≤◌, List, [], ◌∷◌, ◌++◌, inl}
use Rattle.std.specs.List.{AllByRecursion}
use Rattle.shfl_line.specs.declared.choosers.Told.TheVariants.{Begun}
use Rattle.round_log.specs.declared.log.Note.{Note}
use Rattle.round_log.specs.Logs.{NeverFall, GoesOn, GoOnBehind, KeepVersions}

pub all-more : {X : Type 0} (P : X → Type 0) (xs : List X) (x : X) → AllByRecursion P xs → P x → AllByRecursion P (xs ++ x ∷ [])
all-more P [] x h p = (p, tt)
all-more P (y ∷ ys) x h p = (h.0, all-more P ys x h.1 p)

pub falls-more : (notes : List Note) (n : Note) → NeverFall notes → AllByRecursion (λ m. m.version ≤ n.version) notes → NeverFall (notes ++ n ∷ [])
falls-more [] n h below = (tt, tt)
falls-more (x ∷ xs) n h below = (all-more (λ (m : Note). x.version ≤ m.version) xs n h.0 below.0, falls-more xs n h.1 below.1)

-- the note goes on behind the last one of these
abbrev pub FollowsBehind : Note → List Note → Note → Type 0
FollowsBehind before [] n = GoesOn before n
FollowsBehind before (m ∷ rest) n = FollowsBehind m rest n

abbrev pub Follows : List Note → Note → Type 0
Follows [] n = Unit {0}
Follows (m ∷ rest) n = FollowsBehind m rest n

go_on-more : (before : Note) (rest : List Note) (n : Note) → GoOnBehind before rest → FollowsBehind before rest n → GoOnBehind before (rest ++ n ∷ [])
go_on-more before [] n h f = (f, tt)
go_on-more before (m ∷ rest) n h f = (h.0, go_on-more m rest n h.1 f)

pub keeps-more : (notes : List Note) (n : Note) → KeepVersions notes → Follows notes n → KeepVersions (notes ++ n ∷ [])
keeps-more [] n h f = tt
keeps-more (m ∷ rest) n h f = go_on-more m rest n h f

begun-behind : (before : Note) (rest : List Note) (n : Note) → n.told ≡ Begun → FollowsBehind before rest n
begun-behind before [] n is = inl is
begun-behind before (m ∷ rest) n is = begun-behind m rest n is

-- a round may begin behind any note
pub begun-follows : (notes : List Note) (n : Note) → n.told ≡ Begun → Follows notes n
begun-follows [] n is = tt
begun-follows (m ∷ rest) n is = begun-behind m rest n is

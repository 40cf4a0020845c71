-- A log of rounds goes on.
use Rattle.std.proofs.Common.{◌≡◌, ℕ, ◌≤◌, List, [], ◌∷◌, ◌++◌, map, Option, Some, None, slice_get, inl, inr, ⊎_elim, sym, refl, ap, ◌∙◌, subst, arith}
use Rattle.std.specs.List.{AllByRecursion}
use Rattle.shfl_line.specs.declared.choosers.Told.{Told}
use Rattle.shfl_line.specs.declared.choosers.Told.TheVariants.{Begun}
use Rattle.shfl_line.specs.Policies.{Adds}
use Rattle.round_log.specs.declared.log.Note.{Note}
use Rattle.round_log.specs.Logs.{AddsNote, told_in}
use Rattle.round_log.proofs.Growing.{Follows, FollowsBehind, all-more, begun-follows, falls-more, keeps-more}
use Rattle.shfl_policy.specs.Policies.{PolicyModel}
use Rattle.policy_versions.specs.Rule.{IsAmong, version_of, which_of, word_of}
use Rattle.policy_versions.specs.Places.{RegistryId}
use Rattle.policy_versions.specs.Models.{IsNewest, IsRow, UsingModel}
use Rattle.policy_versions.specs.Choosing.{IsUseBy}
use Rattle.policy_versions.specs.Noting.{IsAnswerOf, IsNoted, IsLogOf, IsPublishedNote, AreRoundsOf, EndsUnder, AreLastUnder, IsNotedLast, note_of}
use Rattle.policy_versions.proofs.Indexed.{has_longer}

-- what is told once more
map-more : (notes : List Note) (n : Note) → map (λ (x : Note). x.told) (notes ++ n ∷ []) ≡ map (λ (x : Note). x.told) notes ++ n.told ∷ []
map-more [] n = refl
map-more (x ∷ xs) n = ap (λ l. x.told ∷ l) (map-more xs n)

pub adds_told : (old new : Option (List Note)) (n : Note) → AddsNote old new n → Adds (told_in old) (told_in new) (n.told ∷ [])
adds_told None new n h = ap told_in h
adds_told (Some notes) new n h = ⊎_elim (λ e. inl (ap told_in e ∙ ap Some (map-more notes n))) (λ e. inr (ap told_in e)) h

-- nothing is kept any more
pub adds_none : (old : Option (List Note)) (new : Option (List Note)) (more : List Told) → new ≡ None → Adds (told_in old) (told_in new) more
adds_none None new more e = ap told_in e
adds_none (Some notes) new more e = inr (ap told_in e)

all-each : {X : Type 0} (P Q : X → Type 0) (xs : List X) → ((x : X) → P x → Q x) → AllByRecursion P xs → AllByRecursion Q xs
all-each P Q [] f h = tt
all-each P Q (x ∷ xs) f h = (f x h.0, all-each P Q xs f h.1)

-- a log that keeps anything goes on with this note
abbrev pub FollowsIn : Option (List Note) → Note → Type 0
FollowsIn None n = Unit {0}
FollowsIn (Some notes) n = Follows notes n

module _ (declared : List PolicyModel) (seen : List ℕ) where
  below : (v : ℕ) → IsNewest seen v → (m : Note) → IsNoted declared seen m → m.version ≤ v
  below v newest m noted =
      let le = newest (word_of m.version m.which) noted.loaded in let fits = noted.version in
      let same : version_of (word_of m.version m.which) ≡ m.version = omega (arith, fits) in omega (arith, le, same)

  -- a note of the newest version
  pub log_more : (old new : Option (List Note)) (n : Note) → IsLogOf declared seen old → FollowsIn old n → AddsNote old new n → IsNoted declared seen n
      → IsNewest seen n.version → IsLogOf declared seen new
  log_more None new n log follows adds noted newest = subst (IsLogOf declared seen) (sym adds) tt
  log_more (Some notes) new n log follows adds noted newest = ⊎_elim
      (λ e. subst (IsLogOf declared seen) (sym e) (
        all-more (IsNoted declared seen) notes n log.0 noted,
        falls-more notes n log.1 (all-each (IsNoted declared seen) (λ (m : Note). m.version ≤ n.version) notes (below n.version newest) log.0),
        keeps-more notes n log.2 follows,
      ))
      (λ e. subst (IsLogOf declared seen) (sym e) tt) adds

  -- the pass loads more
  pub log_later : (more : List ℕ) (log : Option (List Note)) → IsLogOf declared seen log → IsLogOf declared (more ++ seen) log
  log_later more None log = tt
  log_later more (Some notes) log = (
    all-each (IsNoted declared seen) (IsNoted declared (more ++ seen)) notes
        (λ m h. record { answered = h.answered; loaded = has_longer (word_of m.version m.which) more seen h.loaded; version = h.version }) log.0,
    log.1,
    log.2,
  )

  -- what was loaded was published
  pub log_published : (rows : List (ℕ × ℕ)) → ((k : ℕ) → IsAmong k seen → IsRow rows (version_of k) (which_of k)) → (log : Option (List Note)) → IsLogOf declared seen log
      → AreRoundsOf declared rows log
  log_published rows loaded None log = tt
  log_published rows loaded (Some notes) log = (
    all-each (IsNoted declared seen) (IsPublishedNote declared rows) notes
        (λ m h.
        let word = word_of m.version m.which in let fits = h.version in
        let version : version_of word ≡ m.version = omega (arith, fits) in
        let which : which_of word ≡ m.which = omega (arith, fits) in
        record {
          answered = h.answered;
          published = subst (λ (r : ℕ × ℕ). IsRow rows r.0 r.1) (λ i. (version i, which i)) (loaded word h.loaded);
        }) log.0,
    log.1,
    log.2,
  )

module _ (registry : RegistryId) (user : ℕ) (seen : List ℕ) (u : UsingModel) (here : IsUseBy registry user seen u) (told : Told) (answer : IsAnswerOf (slice_get registry.declared u.which) told) where
  -- what is told under the use that a round has
  pub log_under : (old new : Option (List Note)) (n : Note) → IsLogOf registry.declared seen old → FollowsIn old (note_of u told) → n ≡ note_of u told
      → AddsNote old new n → IsLogOf registry.declared seen new
  log_under old new n log follows is adds = log_more registry.declared seen old new (note_of u told) log follows (subst (AddsNote old new) is adds)
      (record { answered = answer; loaded = here.loaded; version = here.version }) here.newest

module _ (u : UsingModel) (told : Told) where
  ends-behind : (before : Note) (rest : List Note) → EndsUnder u before rest → FollowsBehind before rest (note_of u told)
  ends-behind before [] h = inr (sym h.0, sym h.1)
  ends-behind before (m ∷ rest) h = ends-behind m rest h

  ends-more : (before : Note) (rest : List Note) → EndsUnder u before (rest ++ note_of u told ∷ [])
  ends-more before [] = (refl, refl)
  ends-more before (m ∷ rest) = ends-more m rest

  are-last : (notes : List Note) → AreLastUnder u (notes ++ note_of u told ∷ [])
  are-last [] = (refl, refl)
  are-last (n ∷ rest) = ends-more n rest

  -- in a round that is open
  pub follows_last : (old : Option (List Note)) → IsNotedLast (Some u) old → FollowsIn old (note_of u told)
  follows_last None last = tt
  follows_last (Some []) last = tt
  follows_last (Some (n ∷ rest)) last = ends-behind n rest last

  pub is_noted_last : (old new : Option (List Note)) (n : Note) → n ≡ note_of u told → AddsNote old new n → IsNotedLast (Some u) new
  is_noted_last None new n is adds = subst (IsNotedLast (Some u)) (sym adds) tt
  is_noted_last (Some notes) new n is adds = ⊎_elim
      (λ e. subst (IsNotedLast (Some u)) (sym (e ∙ ap (λ (m : Note). Some (notes ++ m ∷ [])) is)) (are-last notes))
      (λ e. subst (IsNotedLast (Some u)) (sym e) tt) adds

-- a round begins
pub follows_begun : (u : UsingModel) (old : Option (List Note)) → FollowsIn old (note_of u Begun)
follows_begun u None = tt
follows_begun u (Some notes) = begun-follows notes (note_of u Begun) refl

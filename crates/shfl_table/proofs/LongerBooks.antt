-- A book with one call more.
use Rattle.std.proofs.Common.{◌≡◌, ℕ, ◌+◌, ◌<◌, List, [], ◌∷◌, ◌++◌, length, slice_index, sym, ap, ◌∙◌, subst, arith, length-append}
use Rattle.std.proofs.lemmas.List.{map-append, length-map}
use Rattle.hist_log.specs.declared.entry.Entry.{Entry}
use Rattle.hist_log.specs.History.{IsLegal, state_left}
use Rattle.shfl_table.specs.declared.kept.Action.{Action}
use Rattle.shfl_table.specs.Histories.{actions_by}
use Rattle.shfl_table.specs.Books.{BookInvariant, HavePlaces, IsWithin, operations_of, action, actions}
use Rattle.shfl_table.proofs.CallRoom.{has_room, one_more_is_within}
use Rattle.shfl_table.proofs.Entries.{have_places-more, state_left-more, legal-more}

module _ {O C R : Type 0} (call : C → List ℕ) (reply : R → List ℕ) (reply_at state_after : List ℕ → List ℕ → List ℕ) (opening allowed : List ℕ) (entries : List (Entry O C R)) where
  abbrev done : List Action
  done = actions call reply entries

  -- there is room for a call that a worker has left, and one is left for it
  pub room-for : (worker state_spare capacity : ℕ) (state : List ℕ) → BookInvariant call reply reply_at state_after opening allowed entries state state_spare capacity
      → length (actions_by worker done) < slice_index allowed worker → (length entries < capacity) × (0 < state_spare)
  room-for worker spare capacity state inv more =
      let r = has_room done allowed worker inv.within more in let l = length-map entries (action call reply) in let k = inv.room in let s = inv.enough in (omega arith, omega arith)

  module _ (e : Entry O C R) (replied : reply e.reply ≡ reply_at (state_left state_after opening (operations_of done)) (call e.call)) where
    longer : actions call reply (entries ++ e ∷ []) ≡ done ++ action call reply e ∷ []
    longer = map-append (action call reply) entries (e ∷ [])

    pub legal-longer : IsLegal reply_at state_after opening (operations_of done) → IsLegal reply_at state_after opening (operations_of (actions call reply (entries ++ e ∷ [])))
    legal-longer legal = subst (λ (l : List Action). IsLegal reply_at state_after opening (operations_of l)) (sym longer)
        (legal-more reply_at state_after opening done (action call reply e) legal replied)

    pub invariant-longer : (state left : List ℕ) (spare spare_left capacity : ℕ) → BookInvariant call reply reply_at state_after opening allowed entries state spare capacity
        → length (actions_by e.worker done) < slice_index allowed e.worker → e.receipt ≡ length entries
        → left ≡ state_after state (call e.call) → spare_left + 1 ≡ spare
        → BookInvariant call reply reply_at state_after opening allowed (entries ++ e ∷ []) left spare_left capacity
    invariant-longer state left spare spare_left capacity inv more place is spent = record {
      legal = legal-longer inv.legal;
      state_is = is ∙ (ap (λ s. state_after s (call e.call)) inv.state_is
          ∙ (sym (state_left-more reply_at state_after opening done (action call reply e)) ∙ ap (λ (l : List Action). state_left state_after opening (operations_of l)) (sym longer)));
      within = subst (IsWithin allowed) (sym longer) (one_more_is_within done allowed (action call reply e) inv.within more);
      places = have_places-more entries e place inv.places;
      room = inv.room;
      enough = let k = inv.enough in let n = length-append entries (e ∷ []) in omega arith;
    }

    -- the same, where the list and its room are found again
    pub invariant-kept : (state left : List ℕ) (spare spare_left capacity room : ℕ) (kept : List (Entry O C R)) → kept ≡ entries ++ e ∷ [] → room ≡ capacity
        → BookInvariant call reply reply_at state_after opening allowed entries state spare capacity
        → length (actions_by e.worker done) < slice_index allowed e.worker → e.receipt ≡ length entries
        → left ≡ state_after state (call e.call) → spare_left + 1 ≡ spare
        → BookInvariant call reply reply_at state_after opening allowed kept left spare_left room
    invariant-kept state left spare spare_left capacity room kept is same inv more place after spent =
        subst (λ (l : List (Entry O C R)). BookInvariant call reply reply_at state_after opening allowed l left spare_left room) (sym is)
        (subst (λ (n : ℕ). BookInvariant call reply reply_at state_after opening allowed (entries ++ e ∷ []) left spare_left n) (sym same)
        (invariant-longer state left spare spare_left capacity inv more place after spent))

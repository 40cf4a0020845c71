-- What a commit tells of its pass.
use Rattle.std.proofs.Common.{◌≡◌, ℕ, ◌-◌, ◌<◌, true, false, List, [], ◌∷◌, ◌++◌, length, sym, ap, ◌∙◌, arith}
use Rattle.shared_journal.specs.Entries.{StartsWith, entries_by}
use Rattle.shared_journal.specs.Models.{CommitsEntry, PassModel}
use Rattle.shared_journal.proofs.EntryRoom.{entries_by-own}

module _ {E : Type 0} (worker : E → ℕ) where
  pub commits : (old out back now : PassModel E) (before after : List E) (e : E) (place number : ℕ)
      → out ≡ record old { seen = before; is_out = true } → StartsWith before old.seen → entries_by worker old.number before ≡ entries_by worker old.number old.seen
      → place ≡ length before → number ≡ old.number → after ≡ before ++ e ∷ [] → worker e ≡ number
      → back ≡ record out { seen = after; left = out.left - 1; is_out = false } → now ≡ back → 0 < old.left → old.is_out ≡ false
      → CommitsEntry worker old place now
  commits old out back now before after e place number taken begins own place_is number_is grew by put same left home =
      let is : now ≡ record old { seen = after; left = old.left - 1; is_out = false } = same ∙ (put ∙ ap (λ (p : PassModel E). record p { seen = after; left = p.left - 1; is_out = false }) taken) in
      let seen : now.seen ≡ before ++ e ∷ [] = ap (λ (p : PassModel E). p.seen) is ∙ grew in
      let mine : worker e ≡ old.number = by ∙ number_is in
      let fewer : now.left ≡ old.left - 1 = ap (λ (p : PassModel E). p.left) is in record {
        before = before;
        entry = e;
        goes_on = begins;
        seen = seen;
        place_is = place_is;
        made_by = mine;
        own = ap (entries_by worker old.number) seen ∙ (entries_by-own worker old.number before e mine ∙ ap (λ l. l ++ e ∷ []) own);
        left = omega arith;
        stays = is ∙ (λ i. record old { seen = ap (λ (p : PassModel E). p.seen) (sym is) i; left = ap (λ (p : PassModel E). p.left) (sym is) i; is_out = sym home i });
      }

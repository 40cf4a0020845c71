-- The order of the wait queue, as the next words, the tail word and the passes at their phases give it.
use Rattle.std.specs.Prelude.{◌≡◌, ◌≢◌, ◌⊎◌, ℕ, suc, ◌+◌, ◌<◌, List, [], ◌∷◌, None, Bool, true, false, cond, ◌==◌, ◌||◌}
use Rattle.shfl_line.specs.Line.{Line, mark_of, active_shuffler}
use Rattle.shfl_line.specs.Words.{link_word}
use Rattle.shfl_line.specs.Passes.{times, first, Chain, end}
use Rattle.shfl_core.specs.declared.phase.Phase.TheVariants.{Swap, Pick, Place, Mark, Ready}
use Rattle.shfl_core.specs.declared.phase.PassState.{PassState}
use Rattle.shfl_core.specs.Phases.{is_round, is_queued, is_fore, is_linking, has_hand, tail_to_pick, attr_to_pick, next_to_place, tail_to_decide, after_to_place}
use Rattle.shfl_core.specs.View.{View}

-- b stands directly behind a: a's next word names it, or b has joined and has yet to write that word
pub record Follows (w : View) (a b : ℕ) : Type 0 where
  pub word : w.next a ≡ cond (is_linking (w.pass b).phase) 0 (suc b)
  pub late : is_linking (w.pass b).phase ≡ true → (w.pass b).reg.before ≡ a

-- the line goes from its first pass to the one that the tail word names, behind whom nobody stands
abbrev pub Walks : View → List ℕ → Type 0
Walks w [] = w.tail ≡ 0
Walks w (x ∷ xs) = Chain (Follows w) x xs × (w.next (end x xs) ≡ 0) × (w.tail ≡ suc (end x xs))

-- the pass counts as the queue's head, by its phase or by its state word
abbrev pub is_head : View → ℕ → Bool
is_head w p = is_fore (w.pass p) || (w.node p).ready

-- exactly one pass is the queue's head; `giver` is 0, or the pass at Ready plus 1
pub record Fronted (w : View) (line : List ℕ) (giver : ℕ) : Type 0 where
  -- at most one pass is at Ready
  pub who : (q : ℕ) → (w.pass q).phase ≡ Ready → giver ≡ suc q
  pub is : (q : ℕ) → giver ≡ suc q → (w.pass q).phase ≡ Ready
  -- who counts as the head is the line's first, and nobody is at Ready then
  pub only : (q : ℕ) → is_queued (w.pass q) ≡ true → is_head w q ≡ true → (first line ≡ suc q) × (giver ≡ 0)
  pub front : (q : ℕ) → giver ≡ 0 → first line ≡ suc q → is_head w q ≡ true
  -- the successor that is about to be made ready is the line's first, and has written its predecessor's next word
  pub heir : (q : ℕ) → giver ≡ suc q → (first line ≡ suc (w.pass q).reg.heir) × (is_linking (w.pass (w.pass q).reg.heir).phase ≡ false)
  pub linking : (q : ℕ) → is_linking (w.pass q).phase ≡ true → (w.node q).ready ≡ false

-- the queued passes stand in the line once each, but for the detached one
abbrev pub Stands : View → Line → Type 0
Stands w s = (q : ℕ) → times q s.line + cond (link_word s.hand == suc q) 1 0 ≡ cond (is_queued (w.pass q)) 1 0

-- the words of a pass that isn't queued
pub record Clean (w : View) (q : ℕ) : Type 0 where
  pub next : is_queued (w.pass q) ≡ false → w.next q ≡ 0
  pub init : (w.pass q).phase ≡ Swap → ((w.node q).batch ≡ 0) × ((w.node q).shuffler ≡ false) × ((w.node q).ready ≡ false)
      × ((w.pass q).reg.batch ≡ 0) × ((w.pass q).reg.flag ≡ false)

-- what the registers of a pass in a round say of the order
pub record Round (next : ℕ → ℕ) (mark : ℕ → ℕ) (tail : ℕ) (line : List ℕ) (hand : ℕ) (p : PassState) : Type 0 where
  -- the round has come to a pass of the line, the batch's last or behind it
  pub prev_in : 0 < times p.reg.prev line
  pub prev_free : (p.reg.prev ≡ p.reg.last) ⊎ (mark p.reg.prev ≡ 0)
  -- the candidate stands behind that pass, and isn't the line's last
  pub cand_next : tail_to_pick p.phase ≡ true → next p.reg.prev ≡ suc p.reg.cand
  pub cand_inner : attr_to_pick p.phase ≡ true → tail ≢ suc p.reg.cand
  pub first_next : next_to_place p.phase ≡ true → p.reg.prev ≢ p.reg.last → next p.reg.last ≡ suc p.reg.first
  pub first_cand : tail_to_decide p.phase ≡ true → p.reg.prev ≡ p.reg.last → p.reg.cand ≡ p.reg.first
  pub apart : after_to_place p.phase ≡ true → p.reg.prev ≢ p.reg.last
  -- the three stores of a relink, each with what the ones before it left
  pub after_next : p.phase ≡ Pick → next p.reg.cand ≡ suc p.reg.after
  pub gap : has_hand p.phase ≡ true → next p.reg.prev ≡ suc p.reg.after
  pub aimed : p.phase ≡ Place → next p.reg.cand ≡ suc p.reg.first
  pub hand_is : hand ≡ cond (has_hand p.phase) (suc p.reg.cand) 0
  pub marking : p.phase ≡ Mark → (next p.reg.last ≡ suc p.reg.cand) × (mark p.reg.cand ≡ 0)
      × (p.reg.prev ≢ p.reg.last → (next p.reg.cand ≡ suc p.reg.first) × (p.reg.prev ≢ p.reg.cand))

pub record Order (w : View) (s : Line) (giver : ℕ) : Type 0 where
  pub walks : Walks w s.line
  pub fronted : Fronted w s.line giver
  pub stands : Stands w s
  pub clean : (q : ℕ) → Clean w q
  pub links : (q : ℕ) → is_linking (w.pass q).phase ≡ true → 0 < times q s.line
  pub round : (q : ℕ) → is_round (w.pass q).phase ≡ true → Round w.next (mark_of s) w.tail s.line (link_word s.hand) (w.pass q)
  pub still : active_shuffler s.role ≡ 0 → s.hand ≡ None

-- A world that is lawful as its passes stand is lawful as they are seen, and the other way round.
use Rattle.std.proofs.Common.{◌≡◌, ℕ, ◌<◌, true, false, cond, List, [], ◌∷◌, ◌++◌, length, set, refl, sym, ap, ◌∙◌, subst, append_assoc, arith}
use mathlib.Core.Option.{some}
use lib.ListN.{get_elem?}
use Rattle.shfl_line.specs.declared.events.Form.{Form}
use Rattle.shfl_line.specs.declared.events.Mode.{Mode}
use Rattle.shfl_line.specs.declared.events.Mode.TheVariants.{Write, Read}
use Rattle.shfl_line.specs.declared.events.LineEvent.TheVariants.{Nothing}
use Rattle.shfl_line.specs.Line.{Line}
use Rattle.shfl_core.specs.declared.phase.Phase.TheVariants.{Idle}
use Rattle.shfl_core.specs.declared.phase.Nap.{Nap}
use Rattle.shfl_core.specs.declared.phase.Nap.TheVariants.{Awake, Doze, Hear, Rouse, Ring}
use Rattle.shfl_core.specs.declared.phase.PassState.{PassState}
use Rattle.shfl_core.specs.Take.{entry, exit}
use Rattle.shfl_core.specs.Plan.{is_resting}
use Rattle.shfl_core.specs.Phases.{is_holding, is_backing, is_writing, is_reading}
use Rattle.shfl_core.specs.Waiting.{idle}
use Rattle.shfl_core.specs.Worlds.{World, known, placed_at}
use Rattle.shfl_core.specs.View.{view}
use Rattle.shfl_core.specs.Owed.{fits}
use Rattle.shfl_core.specs.Holding.{backs}
use Rattle.shfl_core.specs.Lawful.{Terms, count, Lawful, Advances}
use Rattle.shfl_core.proofs.Lists.{seen-at, set-again}
use Rattle.shfl_laws.specs.Seen.{SeenAs, Alike, Enters, Leaves}
use Rattle.shfl_laws.specs.SeenAlike.{EachSeenAs, with_passes, SeenAlike}
use Rattle.shfl_laws.specs.Plain.{PlainLawful}
use Rattle.shfl_laws.proofs.words.Advance.{below-count}
use Rattle.shfl_laws.proofs.rows.Holding.{stay}
use Rattle.shfl_laws.proofs.laws.MoveLaws.{resting-is}
use Rattle.shfl_laws.proofs.laws.MoveRows.{stay-out, advance-still}
use Rattle.shfl_laws.proofs.laws.OutsideRows.{outside, goes-outside}
use Rattle.shfl_laws.proofs.plain.Plain.{plain-law, lawful-law}
use Rattle.shfl_laws.proofs.kept.QuietAgrees.{quiet-agrees}
use Rattle.shfl_laws.proofs.laws.SeenAs.{seen-law}

-- the phases of a pass that has entered and made no step, and of one that leaves and has made none
entered : (m : Mode) → (outside (entry m) ≡ true) × (is_holding (entry m) ≡ false) × (is_backing (entry m) ≡ false)
entered Write = (refl, refl, refl)
entered Read = (refl, refl, refl)

leaving : (m : Mode) → (outside (exit m) ≡ true) × (is_holding (exit m) ≡ true) × (is_backing (exit m) ≡ false)
leaving Write = (refl, refl, refl)
leaving Read = (refl, refl, refl)

-- nobody parks there
entry-awake : (n : Nap) (m : Mode) → fits n (entry m) ≡ true → n ≡ Awake
entry-awake Awake m e = refl
entry-awake Doze Write e = absurd (cc)
entry-awake Doze Read e = absurd (cc)
entry-awake Hear Write e = absurd (cc)
entry-awake Hear Read e = absurd (cc)
entry-awake Rouse Write e = absurd (cc)
entry-awake Rouse Read e = absurd (cc)
entry-awake (Ring whom) Write e = absurd (cc)
entry-awake (Ring whom) Read e = absurd (cc)

module _ (t : Terms) (w : World) (ok : Lawful t w) (p : ℕ) (below : p < length w.passes) where
  abbrev q : PassState
  q = known w.passes p

  -- as it is seen the pass is idle still
  seen-idle : (v : PassState) (m : Mode) → q ≡ record v { phase = entry m; reg = record v.reg { mode = m } } → v.phase ≡ Idle → Advances t w ok Nothing (placed_at w p v)
  seen-idle v m e f = let k = entered m in
      let was : q.phase ≡ entry m = ap (λ (z : PassState). z.phase) e in
      let nap : q.nap ≡ Awake = entry-awake q.nap m (sym (ap (fits q.nap) was) ∙ ok.agrees.owed.places p) in
      let here : v.nap ≡ Awake = sym (ap (λ (z : PassState). z.nap) e) ∙ nap in
      let a : backs q ≡ 0 = ap (λ b. cond b 1 0) (ap is_backing was ∙ k.2) in
      let b : backs v ≡ 0 = ap (λ b. cond b 1 0) (ap is_backing f) in
      advance-still t w ok p below v (sym (ap (λ (z : PassState). z.reg.me) e))
      (quiet-agrees t (view w) ok.shown ok.giver p v ok.agrees nap
      (goes-outside t (view w) ok.shown p v (ap outside was ∙ k.0) (ap outside f) here
      (λ i. absurd (let z : is_writing v.phase ≡ false = ap is_writing f in cc)) (λ i. absurd (let z : is_reading v.phase ≡ false = ap is_reading f in cc)) (λ s i. absurd (i f)))
      (view w).held (view w).closed (view w).readers ok.shown.hold
      (stay-out (count t) (view w).held (view w).readers (known w.passes) ok.shown.hold ok.agrees.holding p v (below-count t w ok p below) (view w).readers (ap is_holding f) (ap is_holding was ∙ k.1) (omega arith)))

  -- as it is seen the pass is a holder still
  seen-held : (v : PassState) → q ≡ record v { phase = exit v.reg.mode } → is_resting v ≡ true → Advances t w ok Nothing (placed_at w p v)
  seen-held v e rest = let k = leaving v.reg.mode in let r = resting-is v rest in
      let was : q.phase ≡ exit v.reg.mode = ap (λ (z : PassState). z.phase) e in
      let mode : v.reg.mode ≡ q.reg.mode = sym (ap (λ (z : PassState). z.reg.mode) e) in
      let nap : q.nap ≡ Awake = ap (λ (z : PassState). z.nap) e ∙ r.1 in
      let a : backs q ≡ 0 = ap (λ b. cond b 1 0) (ap is_backing was ∙ k.2) in
      let b : backs v ≡ 0 = ap (λ b. cond b 1 0) (ap is_backing r.0) in
      advance-still t w ok p below v (sym (ap (λ (z : PassState). z.reg.me) e))
      (quiet-agrees t (view w) ok.shown ok.giver p v ok.agrees nap
      (goes-outside t (view w) ok.shown p v (ap outside was ∙ k.0) (ap outside r.0) r.1
      (λ i. absurd (let z : is_writing v.phase ≡ false = ap is_writing r.0 in cc)) (λ i. absurd (let z : is_reading v.phase ≡ false = ap is_reading r.0 in cc))
      (λ s i. mode ∙ ok.agrees.registered.writers s p (λ j. (let z : is_holding q.phase ≡ true = ap is_holding was ∙ k.1 in let y : is_holding q.phase ≡ false = ap is_holding j in cc))))
      (view w).held (view w).closed (view w).readers ok.shown.hold
      (stay (count t) (view w).held (view w).readers (known w.passes) ok.shown.hold ok.agrees.holding p v (below-count t w ok p below) (view w).readers (ap is_holding r.0 ∙ sym (ap is_holding was ∙ k.1)) mode (omega arith)))

-- a world that is lawful as the pass stands is lawful as it is seen, and shows the same
own-law : (t : Terms) (w : World) (p : ℕ) (own seen : PassState) (ok : Lawful t w) → get_elem? w.passes p ≡ some own → SeenAs t.rules.form own seen → Advances t w ok Nothing (placed_at w p seen)
own-law t w p own seen ok at seen_as = by seen_as
  where
    e : (known w.passes p ≡ own) × (p < length w.passes)
    e = seen-at w.passes p own (idle p) at

    by : SeenAs t.rules.form own seen → Advances t w ok Nothing (placed_at w p seen)
    by (Alike same) = subst (λ (l : List PassState). Advances t w ok Nothing (record { words = w.words; passes = l })) (sym (set-again w.passes p seen (at ∙ ap some same))) (record { lawful = ok; admitted = tt; shown = refl })
    by (Enters m may f same) = seen-idle t w ok p e.1 seen m (e.0 ∙ same) f
    by (Leaves rest same) = seen-held t w ok p e.1 seen (e.0 ∙ same) rest

-- one pass after another
abbrev Each : (PassState → PassState → Type 0) → List PassState → List PassState → Type 0
Each R [] [] = Unit {0}
Each R (a ∷ xs) (b ∷ ys) = R a b × Each R xs ys
Each R _ _ = ⊥

at-middle : (pre : List PassState) (a : PassState) (xs : List PassState) → get_elem? (pre ++ a ∷ xs) (length pre) ≡ some a
at-middle [] a xs = refl
at-middle (x ∷ pre) a xs = at-middle pre a xs

set-middle : (pre : List PassState) (a b : PassState) (xs : List PassState) → set (pre ++ a ∷ xs) (length pre) b ≡ pre ++ b ∷ xs
set-middle [] a b xs = refl
set-middle (x ∷ pre) a b xs = ap (λ l. x ∷ l) (set-middle pre a b xs)

module _ (t : Terms) (words : List ℕ) (s : Line) where
  abbrev Shows : List PassState → Type 0
  Shows l = (ok : Lawful t (with_passes words l)) × (ok.shown ≡ s)

  each-in-turn : (R : PassState → PassState → Type 0)
      → ((w : World) (p : ℕ) (a b : PassState) (ok : Lawful t w) → get_elem? w.passes p ≡ some a → R a b → Advances t w ok Nothing (placed_at w p b))
      → (xs ys pre : List PassState) → Each R xs ys → Shows (pre ++ xs) → Shows (pre ++ ys)
  each-in-turn R law [] [] pre e h = h
  each-in-turn R law [] (b ∷ ys) pre e h = absurd e
  each-in-turn R law (a ∷ xs) [] pre e h = absurd e
  each-in-turn R law (a ∷ xs) (b ∷ ys) pre e h = let k = law (with_passes words (pre ++ a ∷ xs)) (length pre) a b h.0 (at-middle pre a xs) e.0 in
      let moved : Shows (pre ++ b ∷ xs) = subst Shows (set-middle pre a b xs) (k.lawful, k.shown ∙ h.1) in
      subst Shows (append_assoc pre (b ∷ []) ys) (each-in-turn R law xs ys (pre ++ b ∷ []) e.1 (subst Shows (sym (append_assoc pre (b ∷ []) xs)) moved))

  plainly : (l : List PassState) → Shows l → PlainLawful t (with_passes words l) s
  plainly l h = subst (λ z. PlainLawful t (with_passes words l) z) h.1 (plain-law t (with_passes words l) h.0)

each-own : (form : Form) (owns seens : List PassState) → EachSeenAs form owns seens → Each (SeenAs form) owns seens
each-own form [] [] e = tt
each-own form [] (b ∷ ys) e = absurd e
each-own form (a ∷ xs) [] e = absurd e
each-own form (a ∷ xs) (b ∷ ys) e = (e.0, each-own form xs ys e.1)

each-seen : (form : Form) (owns seens : List PassState) → EachSeenAs form owns seens → Each (λ a b. SeenAs form b a) seens owns
each-seen form [] [] e = tt
each-seen form [] (b ∷ ys) e = absurd e
each-seen form (a ∷ xs) [] e = absurd e
each-seen form (a ∷ xs) (b ∷ ys) e = (e.0, each-seen form xs ys e.1)

pub seen-alike : (t : Terms) → SeenAlike t
seen-alike t words owns seens s e = (
  (λ h. plainly t words s seens (each-in-turn t words s (SeenAs t.rules.form) (own-law t) owns seens [] (each-own t.rules.form owns seens e) (lawful-law t (with_passes words owns) s h))),
  (λ h. plainly t words s owns (each-in-turn t words s (λ a b. SeenAs t.rules.form b a) (λ w p a b ok at r. seen-law t w p b a ok at r) seens owns [] (each-seen t.rules.form owns seens e) (lawful-law t (with_passes words seens) s h))),
)

-- Sections of attributes are read as they are written.
use Rattle.std.proofs.Common.{◌≡◌, ◌<◌, ◌≤◌, ℕ, List, [], ◌∷◌, ◌++◌, length, map, Bool, true, false, cond, eqb, leb, Option, Some, None, Result, Ok, refl, sym, ap, ◌∙◌, subst, arith, length-append}
use Rattle.std.specs.List.{flat_map, AllByRecursion}
use Rattle.std.proofs.ByRecursion.{All-push}
use Rattle.std.proofs.lemmas.Bool.{leb-false, lt-leb, eqb-false, ne_eqb}
use Rattle.shfl_line.specs.declared.words.Attr.{Attr}
use Rattle.doc_text.specs.declared.fault.Fault.{Fault}
use Rattle.doc_text.specs.Text.{pieces, IsPlain, ended}
use Rattle.doc_text.specs.Words.{words}
use Rattle.doc_text.specs.Faults.{fault, ◌>>=◌, or_fault}
use Rattle.doc_text.proofs.Due.{bind-some, or_fault-some}
use Rattle.doc_text.proofs.Loops.{section_from-joined}
use Rattle.policy_text.specs.Attributes.{attr_in, attr_line, IsAttr}
use Rattle.policy_text.specs.Sections.{SectionModel, ends, attr_says, short_of, attrs_in}
use Rattle.policy_text.proofs.Chains.{unless-ok, ok-same, some-same}
use Rattle.policy_text.proofs.Parts.{IsPart}
use Rattle.policy_text.proofs.AttrLines.{attr-text, attr-plain, attr_in-line}
use Rattle.policy_text.proofs.LinesRead.{section_from-read, all-at}

module _ (s : SectionModel) where
  abbrev or_over : List Attr → ℕ → Attr → Result (Option Attr) Fault
  or_over before line attr = cond (leb s.most (length before)) (fault line s.over) (Ok (Some attr))

  -- what a line says: that it ends them, or more
  abbrev says : List Attr → ℕ → List ℕ → Bool → Result (Option Attr) Fault
  says before line t v = cond v (cond (eqb (length before) 0) (fault line s.bad) (Ok None)) (or_fault line s.bad (attr_in s.word (words t)) >>= or_over before line)

  attr_says-some : (before : List Attr) (line : ℕ) (t : List ℕ) (a : Attr) → attr_says s before line t ≡ Ok (Some a) → (t ≡ attr_line s.word a) × IsAttr a × (length before < s.most)
  unfolding attr_says
  attr_says-some before line t a h = by_test (ends s.word s.last t) h
    where
      by_test : (v : Bool) → says before line t v ≡ Ok (Some a) → (t ≡ attr_line s.word a) × IsAttr a × (length before < s.most)
      by_test true k = let none = (unless-ok (eqb (length before) 0) line s.bad _ (Some a) k).1 in cc
      by_test false k =
          let x = bind-some (or_fault line s.bad (attr_in s.word (words t))) (or_over before line) (Some a) k in
          let room = unless-ok (leb s.most (length before)) line s.over _ (Some a) x.2 in
          let is : x.0 ≡ a = some-same x.0 a (ok-same (Some x.0) (Some a) room.1) in
          let read = attr-text s.word t a (or_fault-some line s.bad (attr_in s.word (words t)) x.0 x.1 ∙ ap (λ (b : Attr). Some b) is) in
          (read.0, read.1, leb-false s.most (length before) room.0)

  attr_says-none : (before : List Attr) (line : ℕ) (t : List ℕ) → attr_says s before line t ≡ Ok None → 0 < length before
  unfolding attr_says
  attr_says-none before line t h = by_test (ends s.word s.last t) h
    where
      by_test : (v : Bool) → says before line t v ≡ Ok None → 0 < length before
      by_test true k =
          let some = eqb-false (length before) 0 (unless-ok (eqb (length before) 0) line s.bad _ None k).0 in
          omega (arith, some)
      by_test false k =
          let x = bind-some (or_fault line s.bad (attr_in s.word (words t))) (or_over before line) None k in
          let some = (unless-ok (leb s.most (length before)) line s.over _ None x.2).1 in
          cc

  -- what holds of those read so far
  abbrev Kept : List Attr → Type 0
  Kept attrs = (length attrs ≤ s.most) × AllByRecursion IsAttr attrs

  step : (before : List Attr) (line : ℕ) (t : List ℕ) (a : Attr) → IsPlain t → attr_says s before line t ≡ Ok (Some a) → Kept before → (t ≡ attr_line s.word a) × Kept (before ++ a ∷ [])
  step before line t a plain h kept =
      let r = attr_says-some before line t a h in
      (r.0, (omega (arith, length-append before (a ∷ []), r.2), All-push IsAttr before a kept.1 r.1))

  pub attrs_in-found : (line : ℕ) (ps : List (List ℕ)) (attrs : List Attr) (qs : List (List ℕ)) → attrs_in s line ps ≡ Ok (attrs, qs)
      → (ps ≡ map ended (map (attr_line s.word) attrs) ++ qs) × (0 < length attrs) × (length attrs ≤ s.most) × AllByRecursion IsAttr attrs
  unfolding attrs_in
  attrs_in-found line ps attrs qs h =
      let r = section_from-read (attr_says s) (short_of s) (attr_line s.word) Kept step ps [] line attrs qs (omega arith, tt) h in
      (subst (λ (xs : List Attr). ps ≡ map ended (map (attr_line s.word) xs) ++ qs) (sym r.1) r.2, attr_says-none attrs r.4.0 r.4.1 r.4.2, r.3.0, r.3.1)

  module _ (part : IsPart s.word) (goes_on : (a : Attr) → IsAttr a → ends s.word s.last (attr_line s.word a) ≡ false) where
    attr_says-line : (before : List Attr) (line : ℕ) (a : Attr) → length before < s.most → IsAttr a → attr_says s before line (attr_line s.word a) ≡ Ok (Some a)
    unfolding attr_says
    attr_says-line before line a room h = rw (goes_on a h, attr_in-line s.word a part h, lt-leb s.most (length before) room) refl

    attr_says-last : (before : List Attr) (line : ℕ) (t : List ℕ) → 0 < length before → ends s.word s.last t ≡ true → attr_says s before line t ≡ Ok None
    unfolding attr_says
    attr_says-last before line t some stops = rw (stops, ne_eqb (length before) 0 (λ e. omega (arith, some, e))) refl

    pub attrs_in-only : (line : ℕ) (attrs : List Attr) (last rest : List ℕ) → 0 < length attrs → length attrs ≤ s.most → AllByRecursion IsAttr attrs → IsPlain last → ends s.word s.last last ≡ true
        → attrs_in s line (pieces (flat_map ended (map (attr_line s.word) attrs) ++ (ended last ++ rest))) ≡ Ok (attrs, ended last ∷ pieces rest)
    unfolding attrs_in
    attrs_in-only line attrs last rest some few all plain stops =
        section_from-joined (attr_says s) (short_of s) (attr_line s.word) [] attrs line last rest each plain (λ l. attr_says-last attrs l last some stops)
      where
        each : (done more : List Attr) (x : Attr) (line : ℕ) → attrs ≡ done ++ x ∷ more → IsPlain (attr_line s.word x) × (attr_says s done line (attr_line s.word x) ≡ Ok (Some x))
        each done more x l e =
            let attr = all-at IsAttr done more x (subst (AllByRecursion IsAttr) e all) in
            let room : length done < s.most = omega (arith, few, ap length e, length-append done (x ∷ more)) in
            (attr-plain s.word x part attr, attr_says-line done l x room attr)

-- Escaped text is read back as it was, and begins no tag.
use Rattle.std.proofs.Common.{◌≡◌, ℕ, List, [], ◌∷◌, ◌++◌, None, not, ◌==◌, inl, inr, refl, ap, ◌∙◌}
use Rattle.std.proofs.lemmas.Bool.Decides.{eqb_tells}
use Rattle.std.proofs.lemmas.List.Folds.{list_all-append}
use Rattle.markup_text.specs.Escaping.{escaped_byte, escaped}
use Rattle.markup_text.specs.Reading.{said_behind, said, HasNoTag}

said-byte : (b : ℕ) (rest : List ℕ) → said_behind None (escaped_byte b ++ rest) ≡ b ∷ said_behind None rest
said-byte b rest = elim (eqb_tells b 38) [
  | inl amp ↦ rw amp.1 refl
  | inr plain ↦ elim (eqb_tells b 60) [
    | inl less ↦ rw less.1 refl
    | inr more ↦ elim (eqb_tells b 62) [ inl greater ↦ rw greater.1 refl | inr other ↦ rw (plain.0, more.0, other.0, plain.0) refl ]
  ]
]

pub said-escaped : (text : List ℕ) → said (escaped text) ≡ text
said-escaped [] = refl
said-escaped (b ∷ bs) = said-byte b (escaped bs) ∙ ap (λ (l : List ℕ). b ∷ l) (said-escaped bs)

byte_has_no_tag : (b : ℕ) → HasNoTag (escaped_byte b)
byte_has_no_tag b = elim (eqb_tells b 38) [
  | inl amp ↦ rw amp.1 refl
  | inr plain ↦ elim (eqb_tells b 60) [
    | inl less ↦ rw less.1 refl
    | inr more ↦ elim (eqb_tells b 62) [ inl greater ↦ rw greater.1 refl | inr other ↦ rw (plain.0, more.0, other.0, more.0) refl ]
  ]
]

pub escaped_has_no_tag : (text : List ℕ) → HasNoTag (escaped text)
escaped_has_no_tag [] = refl
escaped_has_no_tag (b ∷ bs) = list_all-append (λ x. not (x == 60)) (escaped_byte b) (escaped bs)
    ∙ rw (byte_has_no_tag b, escaped_has_no_tag bs) refl

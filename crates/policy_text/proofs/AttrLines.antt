-- A line of attributes is read as it is written.
use Rattle.std.proofs.Common.{◌≡◌, ◌<◌, ◌^◌, ℕ, List, [], ◌∷◌, Some, refl, ap, ◌∙◌, subst, arith}
use Rattle.std.specs.List.{AllByRecursion}
use Rattle.std.specs.Fmt.{decimal}
use Rattle.shfl_line.specs.declared.words.Attr.{Attr}
use Rattle.doc_text.specs.Text.{IsPlain}
use Rattle.doc_text.specs.Words.{words, same, five}
use Rattle.doc_text.specs.Numbers.{number_in}
use Rattle.doc_text.proofs.Counting.{number_in-some, number_in-decimal}
use Rattle.doc_text.proofs.Joining.{decimal-word, same-true, same-self}
use Rattle.policy_text.specs.Attributes.{attr_in, attr_line, IsAttr}
use Rattle.policy_text.proofs.Chains.{then-some, test-some, some-same, five-some}
use Rattle.policy_text.proofs.Parts.{IsPart, line-plain, line-words, text-spaced}

-- five words, each known
five-known : (ws : List (List ℕ)) (word a b c d e f g h i : List ℕ) → ws ≡ a ∷ b ∷ c ∷ d ∷ e ∷ [] → a ≡ word → b ≡ f → c ≡ g → d ≡ h → e ≡ i → ws ≡ word ∷ f ∷ g ∷ h ∷ i ∷ []
five-known ws word a b c d e f g h i all p q r s t = all ∙ rw (p, q, r, s, t) refl

pub attr_in-some : (word : List ℕ) (ws : List (List ℕ)) (a : Attr) → attr_in word ws ≡ Some a
    → (ws ≡ word ∷ decimal a.socket ∷ decimal a.prio ∷ decimal a.class ∷ decimal a.kind ∷ []) × IsAttr a
attr_in-some word ws a h =
    let w = then-some (five ws) _ a h in
    let t = test-some (same w.0.0 word) _ a w.2 in
    let s = then-some (number_in 65535 w.0.1) _ a t.1 in
    let p = then-some (number_in 65535 w.0.2) _ a s.2 in
    let c = then-some (number_in 65535 w.0.3) _ a p.2 in
    let k = then-some (number_in 65535 w.0.4) _ a c.2 in
    let made : Attr = record { socket = s.0; prio = p.0; class = c.0; kind = k.0 } in
    let is : made ≡ a = some-same made a k.2 in
    let small : 65535 < 2 ^ 64 = omega arith in
    let ns = number_in-some 65535 w.0.1 s.0 small s.1 in
    let np = number_in-some 65535 w.0.2 p.0 small p.1 in
    let nc = number_in-some 65535 w.0.3 c.0 small c.1 in
    let nk = number_in-some 65535 w.0.4 k.0 small k.1 in
    let all = five-known ws word w.0.0 w.0.1 w.0.2 w.0.3 w.0.4 (decimal s.0) (decimal p.0) (decimal c.0) (decimal k.0) (five-some ws w.0 w.1) (same-true w.0.0 word t.0) ns.0 np.0 nc.0 nk.0 in
    subst (λ (b : Attr). (ws ≡ word ∷ decimal b.socket ∷ decimal b.prio ∷ decimal b.class ∷ decimal b.kind ∷ []) × IsAttr b) is
    (all, record { socket = ns.1; prio = np.1; class = nc.1; kind = nk.1 })

-- the text of such a line
pub attr-text : (word t : List ℕ) (a : Attr) → attr_in word (words t) ≡ Some a → (t ≡ attr_line word a) × IsAttr a
attr-text word t a h = let r = attr_in-some word (words t) a h in (text-spaced t (word ∷ decimal a.socket ∷ decimal a.prio ∷ decimal a.class ∷ decimal a.kind ∷ []) r.0, r.1)

attr-parts : (word : List ℕ) (a : Attr) → IsPart word → IsAttr a → AllByRecursion IsPart (word ∷ decimal a.socket ∷ decimal a.prio ∷ decimal a.class ∷ decimal a.kind ∷ [])
attr-parts word a part h = (
  part,
  (decimal-word a.socket (omega (arith, h.socket)), (decimal-word a.prio (omega (arith, h.prio)), (decimal-word a.class (omega (arith, h.class)), (decimal-word a.kind (omega (arith, h.kind)), tt)))),
)

pub attr-plain : (word : List ℕ) (a : Attr) → IsPart word → IsAttr a → IsPlain (attr_line word a)
attr-plain word a part h = line-plain (word ∷ decimal a.socket ∷ decimal a.prio ∷ decimal a.class ∷ decimal a.kind ∷ []) (attr-parts word a part h)

pub attr-words : (word : List ℕ) (a : Attr) → IsPart word → IsAttr a → words (attr_line word a) ≡ word ∷ decimal a.socket ∷ decimal a.prio ∷ decimal a.class ∷ decimal a.kind ∷ []
attr-words word a part h = line-words word (decimal a.socket ∷ decimal a.prio ∷ decimal a.class ∷ decimal a.kind ∷ []) (attr-parts word a part h)

attr_in-known : (word : List ℕ) (a : Attr) → IsAttr a → attr_in word (word ∷ decimal a.socket ∷ decimal a.prio ∷ decimal a.class ∷ decimal a.kind ∷ []) ≡ Some a
attr_in-known word a h =
    let small : 65535 < 2 ^ 64 = omega arith in
    rw (same-self word, number_in-decimal 65535 a.socket small h.socket, number_in-decimal 65535 a.prio small h.prio, number_in-decimal 65535 a.class small h.class, number_in-decimal 65535 a.kind small h.kind) refl

-- the line is read as the attributes that it was written of
pub attr_in-line : (word : List ℕ) (a : Attr) → IsPart word → IsAttr a → attr_in word (words (attr_line word a)) ≡ Some a
attr_in-line word a part h = ap (attr_in word) (attr-words word a part h) ∙ attr_in-known word a h

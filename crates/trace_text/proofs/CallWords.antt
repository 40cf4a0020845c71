-- The words of a call are those of the act that is read of them.
use Rattle.std.proofs.Common.{◌≡◌, ◌<◌, ◌^◌, ◌⊎◌, inl, inr, ℕ, List, [], ◌∷◌, length, Bool, true, false, cond, leb, ltb, Option, Some, None, refl, sym, ap, ◌∙◌, subst, arith}
use Rattle.std.specs.Prelude.{codes, min}
use Rattle.std.specs.List.{AllByRecursion}
use Rattle.std.specs.Fmt.{decimal}
use Rattle.std.proofs.lemmas.Bool.{and_parts, ltb-true}
use Rattle.doc_text.specs.Words.{same, is_word, one, two, four, ◌>>?◌}
use Rattle.doc_text.specs.Numbers.{capped_in, is_decimal, value_on}
use Rattle.doc_text.proofs.Counting.{decimal-value, is_decimal-decimal}
use Rattle.doc_text.proofs.Joining.{same-true}
use Rattle.policy_text.proofs.Chains.{then-some, test-some, some-same, one-some, two-some, four-some}
use Rattle.policy_text.proofs.Parts.{IsPart}
use Rattle.trace_text.specs.Document.{Act, make, drop_name, rename, find, count, next, attach}
use Rattle.trace_text.specs.Lines.{dir_in, name_in, entry_in, rename_in, count_in, after_in, next_in, attach_in, act_in, is_entry, is_in_range}
use Rattle.trace_text.specs.Spelling.{act_words}
use Rattle.trace_text.specs.Limits.{IsName, spelled_names}

-- ---- directories and names

below : (cap v n : ℕ) → min cap v ≡ n → n < cap → v ≡ n
below cap v n h k = omega (arith, h, k)

above : (cap n : ℕ) → n < cap → min cap n ≡ n
above cap n h = omega (arith, h)

pub capped-some : (cap : ℕ) (w : List ℕ) (n : ℕ) → cap < 2 ^ 64 → capped_in cap w ≡ Some n → n < cap → w ≡ decimal n
capped-some cap w n small h under =
    let t = test-some (is_decimal w) _ n h in
    let value : value_on 0 w ≡ n = below cap (value_on 0 w) n (some-same (min cap (value_on 0 w)) n t.1) under in
    decimal-value w t.0 (omega (arith, value, under, small)) ∙ ap decimal value

pub capped-decimal : (cap n : ℕ) → cap < 2 ^ 64 → n < cap → capped_in cap (decimal n) ≡ Some n
capped-decimal cap n small under =
    let d = is_decimal-decimal n (omega (arith, small, under)) in
    rw (d.0, d.1, above cap n under) refl

name_in-some : (w name : List ℕ) → name_in w ≡ Some name → (is_word w ≡ true) × (w ≡ name)
name_in-some w name h = let t = test-some (is_word w) (Some w) name h in (t.0, some-same w name t.1)

name-of : (w name : List ℕ) → IsPart w → is_word w ≡ true → w ≡ name → IsName name
name-of w name part some same_name = subst IsName same_name (some, part.0, part.1)

pub small : 64 < 2 ^ 64
small = omega arith

-- ---- what follows a verb

-- the words are those of the act, and its names can stand in a line
abbrev pub Says : List (List ℕ) → Act → Type 0
Says ws act = (ws ≡ act_words act) × AllByRecursion IsName (spelled_names act)

entry-known : (ws : List (List ℕ)) (a b : List ℕ) (dir : ℕ) (name : List ℕ) → ws ≡ a ∷ b ∷ [] → AllByRecursion IsPart ws → capped_in 64 a ≡ Some dir → is_word b ≡ true → b ≡ name → dir < 64 → (ws ≡ decimal dir ∷ name ∷ []) × IsName name
entry-known ws a b dir name e parts d some same_name under =
    let number = capped-some 64 a dir small d under in
    let both : AllByRecursion IsPart (a ∷ b ∷ []) = subst (AllByRecursion IsPart) e parts in
    (e ∙ rw (number, same_name) refl, name-of b name both.1.0 some same_name)

entry-some : (ws : List (List ℕ)) (e : ℕ × List ℕ) → entry_in ws ≡ Some e → AllByRecursion IsPart ws → e.0 < 64 → (ws ≡ decimal e.0 ∷ e.1 ∷ []) × IsName e.1
entry-some ws e h parts under =
    let w = then-some (two ws) _ e h in
    let d = then-some (dir_in w.0.0) _ e w.2 in
    let n = then-some (name_in w.0.1) _ e d.2 in
    let name = name_in-some w.0.1 n.0 n.1 in
    let made : (d.0, n.0) ≡ e = some-same (d.0, n.0) e n.2 in
    subst (λ (x : ℕ × List ℕ). x.0 < 64 → (ws ≡ decimal x.0 ∷ x.1 ∷ []) × IsName x.1) made (λ u. entry-known ws w.0.0 w.0.1 d.0 n.0 (two-some ws w.0 w.1) parts d.1 name.0 name.1 u) under

front : (verb word : List ℕ) (ws vs : List (List ℕ)) → verb ≡ word → ws ≡ vs → verb ∷ ws ≡ word ∷ vs
front verb word ws vs e f = rw (e, f) refl

pub entry-range : (dir : ℕ) (name : List ℕ) → is_entry dir name ≡ true → dir < 64
entry-range dir name h = ltb-true dir 64 (and_parts (ltb dir 64) (leb (length name) 255) h).0

-- a verb with a directory and a name
entry-act : (build : ℕ → List ℕ → Act) (word verb : List ℕ) (ws : List (List ℕ)) (act : Act) → ((d : ℕ) (n : List ℕ) → act_words (build d n) ≡ word ∷ decimal d ∷ n ∷ []) → ((d : ℕ) (n : List ℕ) → spelled_names (build d n) ≡ n ∷ [])
    → ((d : ℕ) (n : List ℕ) → is_in_range (build d n) ≡ is_entry d n) → verb ≡ word → (entry_in ws >>? λ e. Some (build e.0 e.1)) ≡ Some act → AllByRecursion IsPart ws → is_in_range act ≡ true → Says (verb ∷ ws) act
entry-act build word verb ws act spelled names ranges is_verb h parts ranged =
    let e = then-some (entry_in ws) _ act h in
    let is : build e.0.0 e.0.1 ≡ act = some-same (build e.0.0 e.0.1) act e.2 in
    subst (λ (a : Act). is_in_range a ≡ true → Says (verb ∷ ws) a) is
    (λ r. (let s = entry-some ws e.0 e.1 parts (entry-range e.0.0 e.0.1 (sym (ranges e.0.0 e.0.1) ∙ r)) in
    (front verb word ws (decimal e.0.0 ∷ e.0.1 ∷ []) is_verb s.0 ∙ sym (spelled e.0.0 e.0.1), subst (AllByRecursion IsName) (sym (names e.0.0 e.0.1)) (s.1, tt)))) ranged

rename-known : (ws : List (List ℕ)) (a b c d : List ℕ) (dir : ℕ) (name : List ℕ) (to_dir : ℕ) (to_name : List ℕ) → ws ≡ a ∷ b ∷ c ∷ d ∷ [] → AllByRecursion IsPart ws
    → capped_in 64 a ≡ Some dir → (is_word b ≡ true) × (b ≡ name) → capped_in 64 c ≡ Some to_dir → (is_word d ≡ true) × (d ≡ to_name) → is_in_range (rename dir name to_dir to_name) ≡ true
    → (ws ≡ decimal dir ∷ name ∷ decimal to_dir ∷ to_name ∷ []) × AllByRecursion IsName (name ∷ to_name ∷ [])
rename-known ws a b c d dir name to_dir to_name e parts p q r s ranged =
    let range = and_parts (is_entry dir name) (is_entry to_dir to_name) ranged in
    let number = capped-some 64 a dir small p (entry-range dir name range.0) in
    let to_number = capped-some 64 c to_dir small r (entry-range to_dir to_name range.1) in
    let all : AllByRecursion IsPart (a ∷ b ∷ c ∷ d ∷ []) = subst (AllByRecursion IsPart) e parts in
    (e ∙ rw (number, q.1, to_number, s.1) refl, (name-of b name all.1.0 q.0 q.1, (name-of d to_name all.1.1.1.0 s.0 s.1, tt)))

rename-act : (verb : List ℕ) (ws : List (List ℕ)) (act : Act) → verb ≡ codes "rename" → rename_in ws ≡ Some act → AllByRecursion IsPart ws → is_in_range act ≡ true → Says (verb ∷ ws) act
rename-act verb ws act is_verb h parts ranged =
    let w = then-some (four ws) _ act h in
    let d = then-some (dir_in w.0.0) _ act w.2 in
    let n = then-some (name_in w.0.1) _ act d.2 in
    let td = then-some (dir_in w.0.2) _ act n.2 in
    let tn = then-some (name_in w.0.3) _ act td.2 in
    let is : rename d.0 n.0 td.0 tn.0 ≡ act = some-same (rename d.0 n.0 td.0 tn.0) act tn.2 in
    subst (λ (a : Act). is_in_range a ≡ true → Says (verb ∷ ws) a) is
    (λ r. (let s = rename-known ws w.0.0 w.0.1 w.0.2 w.0.3 d.0 n.0 td.0 tn.0 (four-some ws w.0 w.1) parts d.1 (name_in-some w.0.1 n.0 n.1) td.1 (name_in-some w.0.3 tn.0 tn.1) r in
    (front verb (codes "rename") ws (decimal d.0 ∷ n.0 ∷ decimal td.0 ∷ tn.0 ∷ []) is_verb s.0, s.1))) ranged

one-known : (ws : List (List ℕ)) (a b : List ℕ) → ws ≡ a ∷ [] → a ≡ b → ws ≡ b ∷ []
one-known ws a b e f = e ∙ rw f refl

count-act : (verb : List ℕ) (ws : List (List ℕ)) (act : Act) → verb ≡ codes "count" → count_in ws ≡ Some act → is_in_range act ≡ true → Says (verb ∷ ws) act
count-act verb ws act is_verb h ranged =
    let w = then-some (one ws) _ act h in
    let d = then-some (dir_in w.0) _ act w.2 in
    let is : count d.0 ≡ act = some-same (count d.0) act d.2 in
    subst (λ (a : Act). is_in_range a ≡ true → Says (verb ∷ ws) a) is
    (λ r. (let number = capped-some 64 w.0 d.0 small d.1 (ltb-true d.0 64 r) in
    (front verb (codes "count") ws (decimal d.0 ∷ []) is_verb (one-known ws w.0 (decimal d.0) (one-some ws w.0 w.1) number), tt))) ranged

attach-act : (verb : List ℕ) (ws : List (List ℕ)) (act : Act) → verb ≡ codes "attach" → attach_in ws ≡ Some act → AllByRecursion IsPart ws → Says (verb ∷ ws) act
attach-act verb ws act is_verb h parts =
    let w = then-some (one ws) _ act h in
    let n = then-some (name_in w.0) _ act w.2 in
    let is : attach n.0 ≡ act = some-same (attach n.0) act n.2 in
    let name = name_in-some w.0 n.0 n.1 in
    let all : AllByRecursion IsPart (w.0 ∷ []) = subst (AllByRecursion IsPart) (one-some ws w.0 w.1) parts in
    subst (Says (verb ∷ ws)) is (front verb (codes "attach") ws (n.0 ∷ []) is_verb (one-known ws w.0 n.0 (one-some ws w.0 w.1) name.1), (name-of w.0 n.0 all.0 name.0 name.1, tt))

-- the words behind the directory of `next`
abbrev After : List (List ℕ) → Option (List ℕ) → Type 0
After ns None = ns ≡ []
After ns (Some name) = (ns ≡ name ∷ []) × IsName name

after-some : (ns : List (List ℕ)) (after : Option (List ℕ)) → after_in ns ≡ Some after → AllByRecursion IsPart ns → After ns after
after-some [] after h parts = let is : None ≡ after = some-same None after h in subst (After []) is refl
after-some (n ∷ ns) after h parts =
    let w = then-some (one (n ∷ ns)) _ after h in
    let m = then-some (name_in w.0) _ after w.2 in
    let is : Some m.0 ≡ after = some-same (Some m.0) after m.2 in
    let name = name_in-some w.0 m.0 m.1 in
    let only = one-some (n ∷ ns) w.0 w.1 in
    let all : AllByRecursion IsPart (w.0 ∷ []) = subst (AllByRecursion IsPart) only parts in
    subst (After (n ∷ ns)) is (one-known (n ∷ ns) w.0 m.0 only name.1, name-of w.0 m.0 all.0 name.0 name.1)

next-known : (verb d : List ℕ) (ns : List (List ℕ)) (dir : ℕ) (after : Option (List ℕ)) → verb ≡ codes "next" → capped_in 64 d ≡ Some dir → After ns after → is_in_range (next dir after) ≡ true → Says (verb ∷ d ∷ ns) (next dir after)
next-known verb d ns dir None is_verb h behind r =
    let number = capped-some 64 d dir small h (ltb-true dir 64 r) in
    (front verb (codes "next") (d ∷ ns) (decimal dir ∷ []) is_verb (front d (decimal dir) ns [] number behind), tt)
next-known verb d ns dir (Some name) is_verb h behind r =
    let number = capped-some 64 d dir small h (entry-range dir name r) in
    (front verb (codes "next") (d ∷ ns) (decimal dir ∷ name ∷ []) is_verb (front d (decimal dir) ns (name ∷ []) number behind.0), (behind.1, tt))

next-act : (verb : List ℕ) (ws : List (List ℕ)) (act : Act) → verb ≡ codes "next" → next_in ws ≡ Some act → AllByRecursion IsPart ws → is_in_range act ≡ true → Says (verb ∷ ws) act
next-act verb [] act is_verb h parts ranged = cc
next-act verb (d ∷ ns) act is_verb h parts ranged =
    let n = then-some (dir_in d) _ act h in
    let a = then-some (after_in ns) _ act n.2 in
    let is : next n.0 a.0 ≡ act = some-same (next n.0 a.0) act a.2 in
    subst (λ (x : Act). is_in_range x ≡ true → Says (verb ∷ d ∷ ns) x) is (λ r. next-known verb d ns n.0 a.0 is_verb n.1 (after-some ns a.0 a.1 parts.1) r) ranged

-- ---- the act of a verb and what follows it

either-some : (b : Bool) (x y : Option Act) (a : Act) → cond b x y ≡ Some a → ((b ≡ true) × (x ≡ Some a)) ⊎ (y ≡ Some a)
either-some true x y a h = inl (refl, h)
either-some false x y a h = inr h

pub act-some : (verb : List ℕ) (ws : List (List ℕ)) (act : Act) → act_in verb ws ≡ Some act → AllByRecursion IsPart ws → is_in_range act ≡ true → Says (verb ∷ ws) act
act-some verb ws act h parts r = elim (either-some (same verb (codes "make")) _ _ act h) [
  | inl a ↦ entry-act make (codes "make") verb ws act (λ d n. refl) (λ d n. refl) (λ d n. refl) (same-true verb (codes "make") a.0) a.1 parts r
  | inr h ↦ elim (either-some (same verb (codes "drop")) _ _ act h) [
    | inl a ↦ entry-act drop_name (codes "drop") verb ws act (λ d n. refl) (λ d n. refl) (λ d n. refl) (same-true verb (codes "drop") a.0) a.1 parts r
    | inr h ↦ elim (either-some (same verb (codes "rename")) _ _ act h) [
      | inl a ↦ rename-act verb ws act (same-true verb (codes "rename") a.0) a.1 parts r
      | inr h ↦ elim (either-some (same verb (codes "find")) _ _ act h) [
        | inl a ↦ entry-act find (codes "find") verb ws act (λ d n. refl) (λ d n. refl) (λ d n. refl) (same-true verb (codes "find") a.0) a.1 parts r
        | inr h ↦ elim (either-some (same verb (codes "count")) _ _ act h) [
          | inl a ↦ count-act verb ws act (same-true verb (codes "count") a.0) a.1 r
          | inr h ↦ elim (either-some (same verb (codes "next")) _ _ act h) [
            | inl a ↦ next-act verb ws act (same-true verb (codes "next") a.0) a.1 parts r
            | inr h ↦ elim (either-some (same verb (codes "attach")) _ _ act h) [
              | inl a ↦ attach-act verb ws act (same-true verb (codes "attach") a.0) a.1 parts
              | inr h ↦ cc
            ]
          ]
        ]
      ]
    ]
  ]
]

-- The words of programs are read as they are written.
use Rattle.std.proofs.Common.{◌≡◌, ◌<◌, ℕ, List, [], ◌∷◌, length, Bool, true, false, cond, not, eqb, Option, Some, None, Result, Ok, Err, refl, ap, subst, arith}
use Rattle.std.specs.Prelude.{codes}
use Rattle.std.specs.List.{list_all}
use Rattle.std.specs.Result.{result_ok}
use Rattle.std.proofs.lemmas.Bool.{and_parts}
use Rattle.std.proofs.lemmas.Bool.Decides.{nat_tests}
use Rattle.std.proofs.lemmas.List.Sums.{list_all-from_AllPass}
use Rattle.hex.specs.Hex.{decode_of, is_hex_digit}
use Rattle.hex.specs.declared.error.FromHexError.{FromHexError}
use Rattle.hex.proofs.HexLemmas.{decode_of-ok, decode_of-encode_lower}
use Rattle.bpf_isa.specs.declared.insn.Profile.{Profile}
use Rattle.policy_source.specs.Source.{SourceModel}
use Rattle.doc_text.specs.Text.{is_plain}
use Rattle.doc_text.specs.Words.{same, is_word, ◌>>?◌}
use Rattle.doc_text.specs.Digits.{bytes_in}
use Rattle.doc_text.proofs.Joining.{same-true}
use Rattle.policy_text.specs.Programs.{program_in, source_in, program_word, IsProgramWord, IsBytesOf}
use Rattle.policy_text.specs.Accepted.{AcceptsProgram}
use Rattle.policy_text.proofs.Chains.{then-some, some-same}
use Rattle.policy_text.proofs.Parts.{IsPart}

result_ok-some : (r : Result (List ℕ) FromHexError) (bytes : List ℕ) → result_ok r ≡ Some bytes → r ≡ Ok bytes
result_ok-some (Ok x) bytes h = let e : x ≡ bytes = cc in ap (λ (v : List ℕ). Ok v) e
result_ok-some (Err e) bytes h = cc

-- what is read stands there
pub program_in-some : (word : List ℕ) (o : Option (List ℕ)) → program_in word ≡ Some o → IsProgramWord o word
program_in-some word o h = by_test (same word (codes "-")) refl h
  where
    by_test : (v : Bool) → same word (codes "-") ≡ v → ◌≡◌ {A = Option (Option (List ℕ))} (cond v (Some None) (bytes_in word >>? λ bytes. Some (Some bytes))) (Some o) → IsProgramWord o word
    by_test true e k =
        let is : None ≡ o = some-same None o k in
        subst (λ (p : Option (List ℕ)). IsProgramWord p word) is (same-true word (codes "-") e)
    by_test false e k =
        let b = then-some (bytes_in word) _ o k in
        let is : Some b.0 ≡ o = some-same (Some b.0) o b.2 in
        subst (λ (p : Option (List ℕ)). IsProgramWord p word) is (result_ok-some (decode_of word) b.0 b.1)

-- what stands there is read
pub program_in-word : (o : Option (List ℕ)) (word : List ℕ) → IsProgramWord o word → program_in word ≡ Some o
program_in-word None word h = rw h refl
program_in-word (Some bytes) word h = by_test (same word (codes "-")) refl
  where
    by_test : (v : Bool) → same word (codes "-") ≡ v → program_in word ≡ Some (Some bytes)
    by_test true e = let dash = same-true word (codes "-") e in let odd = rw dash at h in cc
    by_test false e = rw (e, h) refl

pub source_in-some : (should skip : List ℕ) (s : SourceModel) → source_in should skip ≡ Some s → IsProgramWord s.should should × IsProgramWord s.skip skip
source_in-some should skip s h =
    let a = then-some (program_in should) _ s h in
    let b = then-some (program_in skip) _ s a.2 in
    let made : SourceModel = record { should = a.0; skip = b.0 } in
    let is : made ≡ s = some-same made s b.2 in
    subst (λ (t : SourceModel). IsProgramWord t.should should × IsProgramWord t.skip skip) is (program_in-some should a.0 a.1, program_in-some skip b.0 b.1)

pub source_in-words : (should skip : List ℕ) (s : SourceModel) → IsProgramWord s.should should → IsProgramWord s.skip skip → source_in should skip ≡ Some s
source_in-words should skip s a b = rw (program_in-word s.should should a, program_in-word s.skip skip b) refl

-- the word that is written
pub program_word-is : (o : Option (List ℕ)) → IsBytesOf o → IsProgramWord o (program_word o)
program_word-is None h = refl
program_word-is (Some bytes) h = decode_of-encode_lower bytes h

pub program-bytes : (o : Option (List ℕ)) (word : List ℕ) → IsProgramWord o word → IsBytesOf o
program-bytes None word h = tt
program-bytes (Some bytes) word h = (decode_of-ok word bytes h).3

-- ---- as words of a line

digit-plain : (b : ℕ) → is_hex_digit b ≡ true → is_plain b ≡ true
digit-plain b h = grind (arith, nat_tests)

digit-no_blank : (b : ℕ) → is_hex_digit b ≡ true → not (eqb b 32) ≡ true
digit-no_blank b h = grind (arith, nat_tests)

digits-part : (w : List ℕ) → list_all is_hex_digit w ≡ true → IsPart w
digits-part [] h = (refl, refl)
digits-part (b ∷ bs) h =
    let w = and_parts (is_hex_digit b) (list_all is_hex_digit bs) h in
    let others = digits-part bs w.1 in
    (rw (digit-plain b w.0, others.0) refl, rw (digit-no_blank b w.0, others.1) refl)

pub program-part : (o : Option (List ℕ)) (word : List ℕ) → IsProgramWord o word → IsPart word
program-part None word h = rw h (refl, refl)
program-part (Some bytes) word h = digits-part word (list_all-from_AllPass is_hex_digit word (decode_of-ok word bytes h).1)

-- bytes that a profile accepts are some
accepted-some : (profile : Profile) (bytes : List ℕ) → AcceptsProgram profile (Some bytes) → 0 < length bytes
accepted-some profile [] h = let none = h.1 in cc
accepted-some profile (b ∷ bs) h = omega arith

word-long : (w : List ℕ) → 0 < length w → is_word w ≡ true
word-long [] h = absurd (omega (arith, h))
word-long (b ∷ bs) h = refl

pub program-is_word : (profile : Profile) (o : Option (List ℕ)) (word : List ℕ) → AcceptsProgram profile o → IsProgramWord o word → is_word word ≡ true
program-is_word profile None word a h = rw h refl
program-is_word profile (Some bytes) word a h =
    let long = (decode_of-ok word bytes h).2 in
    let some = accepted-some profile bytes a in
    word-long word (omega (arith, long, some))

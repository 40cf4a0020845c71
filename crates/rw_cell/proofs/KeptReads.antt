-- The reads that a pass keeps, as it sees more and reads more.
use Rattle.std.proofs.Common.{◌≡◌, ℕ, ◌+◌, ◌-◌, ◌<◌, ◌≤◌, List, [], ◌∷◌, ◌++◌, take, length, get_or, sym, ap, ◌∙◌, subst, arith, length-append}
use Rattle.std.specs.List.{All}
use Rattle.std.proofs.Math.Seq.{take-length}
use Rattle.std.proofs.lemmas.List.{take-append-le}
use Rattle.std.proofs.lemmas.List.Elements.{All-nil, All-cons, All-append}
use Rattle.std.proofs.lemmas.List.Sorted.{IsNonDecreasingBy-push}
use Rattle.shfl_table.specs.declared.kept.Action.{Action}
use Rattle.rw_cell.specs.KeptReads.{KeepsReads}

module _ {E : Type 0} (action : E → Action) (point : E → ℕ) (fits : List ℕ → List Action → E → Type 0) (opening : List ℕ) (number : ℕ) where
  -- more writes are seen
  pub keeps-seen : (seen more now : List Action) (reads : List E) → now ≡ seen ++ more → KeepsReads action point fits opening number seen reads → KeepsReads action point fits opening number now reads
  keeps-seen seen more now reads is keeps = record {
    own = keeps.own;
    within = λ k d h. let w = keeps.within k d h in let n = ap length is ∙ length-append seen more in omega arith;
    in_order = keeps.in_order;
    answered = λ k d h.
        let e : E = get_or reads k d in
        let same : take (point e) now ≡ take (point e) seen = ap (take (point e)) is ∙ take-append-le (point e) seen more (keeps.within k d h) in
        subst (λ (l : List Action). fits opening l e) (sym same) (keeps.answered k d h);
  }

  one : (P : E → Type 0) (e : E) → P e → All P (e ∷ [])
  one P e p = All-cons P e [] p (All-nil P)

  -- a read more, after all writes that are seen
  pub keeps-read : (seen : List Action) (reads : List E) (e : E) → (action e).worker ≡ number → point e ≡ length seen → fits opening seen e
      → KeepsReads action point fits opening number seen reads → KeepsReads action point fits opening number seen (reads ++ e ∷ [])
  keeps-read seen reads e mine here answer keeps = record {
    own = All-append (λ x. (action x).worker ≡ number) reads (e ∷ []) keeps.own (one (λ x. (action x).worker ≡ number) e mine);
    within = All-append (λ x. point x ≤ length seen) reads (e ∷ []) keeps.within (one (λ x. point x ≤ length seen) e (omega arith));
    in_order = IsNonDecreasingBy-push point reads e keeps.in_order (λ d some. let w = keeps.within (length reads - 1) d (omega arith) in omega arith);
    answered = All-append (λ x. fits opening (take (point x) seen) x) reads (e ∷ []) keeps.answered
        (one (λ x. fits opening (take (point x) seen) x) e (subst (λ (l : List Action). fits opening l e) (sym (ap (λ n. take n seen) here ∙ take-length seen)) answer));
  }

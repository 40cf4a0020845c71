use Rattle.std.proofs.Common.{◌≡◌, ℕ, ◌≤◌, ◌<◌, ◌^◌, List, Option, Some, None, IfSome, decimal, ap, ◌∙◌, arith}
use Rattle.doc_text.specs.Numbers.{number_in}
use Rattle.doc_text.proofs.Counting.{number_in-some, number_in-decimal}
use Rattle.doc_text.proofs.numbers.number.Goals as goal

spelled : (most : ℕ) (w : List ℕ) (r : Option ℕ) → most < 2 ^ 64 → r ≡ number_in most w → IfSome r (λ n. w ≡ decimal n)
spelled most w (Some n) small e = (number_in-some most w n small (cc)).0
spelled most w None small e = tt

bound : (most : ℕ) (w : List ℕ) (r : Option ℕ) → most < 2 ^ 64 → r ≡ number_in most w → IfSome r (λ n. n ≤ most)
bound most w (Some n) small e = (number_in-some most w n small (cc)).1
bound most w None small e = tt

pub returns-clause-within : goal.returns-clause-within
returns-clause-within c = bound c.args.most c.args.word.now c.bounded.result (omega arith) c.bounded.ensures

pub returns-clause-found : goal.returns-clause-found
returns-clause-found c = spelled c.args.most c.args.word.now c.bounded.result (omega arith) c.bounded.ensures

pub returns-clause-only : goal.returns-clause-only
returns-clause-only c = λ n le e. c.bounded.ensures ∙ ap (number_in c.args.most) e ∙ number_in-decimal c.args.most n (omega arith) le

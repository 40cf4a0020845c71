use Rattle.std.proofs.Common.{◌-◌, ◌+◌, drop, length, arith, sym, refl}
use Rattle.std.proofs.lemmas.List.{take_all, length-drop}
use Rattle.line_picture.proofs.pieces.around_colon.Goals as goal

pub returns-in-Some-clause-behind : goal.returns-in-Some-clause-behind
returns-in-Some-clause-behind c =
    let word = c.args.word.now in
    let rest = drop (c.in-Some.i + 1) word in
    let all = take_all (length word - (c.in-Some.i + 1)) rest (omega (arith, length-drop (c.in-Some.i + 1) word)) in
    rw (all, sym c.colon_in.ensures.exact, c.in-Some.is) refl

use Rattle.std.proofs.Common.{◌≡◌, ◌∙◌, ◌+◌, ◌*◌, ◌<◌, length, get_or, set, refl, ap, arith}
use Rattle.std.proofs.lemmas.List.{get_or_default}
use Rattle.shfl_line.specs.declared.words.Attr.{Attr}
use Rattle.shfl_core.proofs.Opening.{opened-none, one-more-word}
use Rattle.shfl_core.proofs.words.opening_words.Goals as goal

pub loop-attr-init : goal.loop-attr-init
loop-attr-init c = record {
  number = refl;
  words = c.in_ok-list.ensures.items_if_clones_equal (λ y e. e) ∙ opened-none c.args.attrs.now;
  long = let n = c.in_ok-list.ensures.len in omega arith;
}

pub loop-attr-preserved : goal.loop-attr-preserved
loop-attr-preserved c = let i = c.loop-attr.invariant in let h : c.loop-attr.attr-index < length c.args.attrs.now = c.loop-attr-test.true in
    let none : Attr = record { socket = 0; prio = 0; class = 0; kind = 0 } in
    let a : Attr = get_or c.args.attrs.now c.loop-attr.attr-index none in
    let here : a ≡ get_or c.args.attrs.now c.loop-attr.attr-index a = get_or_default c.args.attrs.now c.loop-attr.attr-index none a h in record {
      number = ap (λ n. n + 1) i.number;
      words = (λ j. set c.loop-attr.list.items ((c.index.ensures ∙ ap (λ n. 10 * n + 22) i.number) j) (c.pack.ensures.word j))
          ∙ one-more-word c.args.attrs.now c.loop-attr.attr-index a c.loop-attr.list.items h here i.words;
      long = i.long;
    }

use Rattle.std.proofs.Common.{◌≡◌, ◌<◌, ◌≤◌, ℕ, ◌+◌, ◌∷◌, ◌++◌, [], length, set, vec_len, Some, slice_get, refl, sym, ap, ◌∙◌, subst, arith, slice_index_or, option_to_list}
use Rattle.std.proofs.lemmas.Option.{slice_get-get_or}
use Rattle.dir_shards.specs.Locks.{LockPass}
use Rattle.dir_shards.specs.ShardPasses.{ShardPassModel, MayAdd, with_lock}
use Rattle.dir_shards.proofs.Places.{got_last, got_front}
use Rattle.dir_shards.proofs.Dealing.{AreDealt, dealt_more, all_dealt, next_may}
use Rattle.dir_shards.proofs.locks.deal.Goals as goal

pub add_lock-requires : goal.add_lock-requires
add_lock-requires c =
    let v = c.loop-pass.invariant in let n = c.len.result in let rest = c.pop.new.self.items in let all = c.loop-pass.all in let pass = c.in-Some.pass in
    let items : c.loop-pass.passes.items ≡ rest ++ pass ∷ [] = c.pop.ensures.items ∙ ap (λ o. rest ++ option_to_list o) c.in-Some.is in
    let ok = c.pop.new.self.ok.0 in let ok' = c.loop-pass.passes.ok.0 in let is = c.len.ensures in let shorter = c.in-Some.ensures.cases in
    let long : n ≡ length rest = omega arith in
    let place : vec_len c.loop-pass.passes ≡ n + 1 = omega arith in
    let last : slice_get c.args.passes.items n ≡ Some pass = v.left n pass (ap (slice_get c.loop-pass.passes.items) long ∙ (ap (λ l. slice_get l (length rest)) items ∙ got_last rest pass)) in
    let within : n < length c.args.all.now = (let w = v.within in omega arith) in
    let within' : n < length all = (let l = v.dealt.long in omega arith) in
    let dealt : AreDealt c.args.board.now.id (n + 1) c.args.all.now all = subst (λ k. AreDealt c.args.board.now.id k c.args.all.now all) place v.dealt in
    (next_may c.args.board.now.id n c.args.all.now all (slice_index_or all n c.index-all-len.result) pass dealt (slice_get-get_or all n c.index-all-len.result within') within (λ old was. (c.requires.may n old pass was last).0)).1

pub loop-pass-preserved : goal.loop-pass-preserved
loop-pass-preserved c =
    let v = c.loop-pass.invariant in let n = c.len.result in let rest = c.pop.new.self.items in let all = c.loop-pass.all in let pass = c.in-Some.pass in
    let items : c.loop-pass.passes.items ≡ rest ++ pass ∷ [] = c.pop.ensures.items ∙ ap (λ o. rest ++ option_to_list o) c.in-Some.is in
    let ok = c.pop.new.self.ok.0 in let ok' = c.loop-pass.passes.ok.0 in let is = c.len.ensures in let shorter = c.in-Some.ensures.cases in
    let long : n ≡ length rest = omega arith in
    let place : vec_len c.loop-pass.passes ≡ n + 1 = omega arith in
    let last : slice_get c.args.passes.items n ≡ Some pass = v.left n pass (ap (slice_get c.loop-pass.passes.items) long ∙ (ap (λ l. slice_get l (length rest)) items ∙ got_last rest pass)) in
    let within : n < length c.args.all.now = (let w = v.within in omega arith) in
    let within' : n < length all = (let l = v.dealt.long in omega arith) in
    let dealt : AreDealt c.args.board.now.id (n + 1) c.args.all.now all = subst (λ k. AreDealt c.args.board.now.id k c.args.all.now all) place v.dealt in
    let may = next_may c.args.board.now.id n c.args.all.now all (slice_index_or all n c.index-all-len.result) pass dealt (slice_get-get_or all n c.index-all-len.result within') within (λ old was. (c.requires.may n old pass was last).0) in
    let old = slice_index_or all n c.index-all-len.result in
    let board : pass.board ≡ c.args.board.now.id = (c.requires.may n old pass may.0 last).1 in
    record {
      left = λ k q at. v.left k q (ap (λ l. slice_get l k) items ∙ got_front rest (pass ∷ []) k q at);
      within = omega arith;
      dealt = subst (λ k. AreDealt c.args.board.now.id k c.args.all.now (set all n c.add_lock.new.self)) is
          (dealt_more c.args.board.now.id n c.args.all.now all old c.add_lock.new.self dealt may.0 (c.in_ok-add_lock.ensures ∙ ap (λ b. with_lock b old) board));
    }

pub returns : goal.returns
returns c = let v = c.loop-pass.invariant in let n = c.in_default.ensures.cases.0 in
    all_dealt c.args.board.now.id c.args.all.now c.loop-pass.all (subst (λ k. AreDealt c.args.board.now.id k c.args.all.now c.loop-pass.all) n v.dealt)

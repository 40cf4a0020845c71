use Rattle.std.proofs.Common.{◌≡◌, ◌≤◌, ◌+◌, length, arith}
use Rattle.std.proofs.lemmas.Grind.{common_steps}
use Rattle.std.proofs.lemmas.List.{drop_all}
use Rattle.syn_outer.proofs.TakenBytes.{front_of}
use Rattle.syn_outer.proofs.memory_sources.MemSourceSource.read.Goals as goal

pub returns-clause-bytes : goal.returns-clause-bytes
returns-clause-bytes c =
    let at = c.args.self.now.at in
    let bytes = c.args.self.now.bytes.items in
    let len : length c.copy_from_slice.new.self ≡ c.min-count.result = grind (arith, common_steps) in (
      front_of at c.min-count.result bytes c.copy_from_slice.new.self _ (grind (arith, common_steps)) len,
      λ zero some. let all : length bytes ≤ at + c.min-count.result = grind (arith, common_steps) in drop_all (at + c.min-count.result) bytes all,
    )

-- What is answered by the number that a name has, or by 0.
use Rattle.std.proofs.Common.{◌≡◌, ℕ, zero, suc, ◌<◌, Bool, true, false, cond, eqb, Option, Some, None, slice_index, sym, refl, ap, ◌∙◌, subst, arith}
use Rattle.std.specs.Prelude.{◌&&◌, is_some}
use Rattle.std.specs.FinMap.{get}
use Rattle.dir_table.specs.Rows.{names_of}
use Rattle.dir_table.specs.Answers.{number_reply}
use Rattle.dir_table.specs.declared.calls.DirReply.{DirReply}
use Rattle.dir_table.specs.declared.calls.DirReply.TheVariants.{Ino, Absent}
use Rattle.shard_rows.specs.Tables.{Table, rows_of}
use Rattle.shard_rows.specs.Values.{ShardValue}
use Rattle.shard_rows.proofs.Listed.{answer_of, get_row}

pub by_there : {X : Type 0} (n : ℕ) (o : Option ℕ) (r a b : X) → o ≡ answer_of n → (0 < n → r ≡ a) → (n ≡ 0 → r ≡ b) → r ≡ cond (is_some o) a b
by_there zero o r a b is there absent = absent refl ∙ ap (λ x. cond (is_some x) a b) (sym is)
by_there (suc n) o r a b is there absent = there (omega arith) ∙ ap (λ x. cond (is_some x) a b) (sym is)

pub by_found : (n : ℕ) (o : Option ℕ) (r : DirReply) → o ≡ answer_of n → (0 < n → r ≡ Ino n) → (n ≡ 0 → r ≡ Absent) → r ≡ number_reply o
by_found zero o r is there absent = absent refl ∙ ap number_reply (sym is)
by_found (suc n) o r is there absent = there (omega arith) ∙ ap number_reply (sym is)

-- the shard's map has the table's number
pub shard_get : (dir known : ℕ) (table : Table) (shard : ShardValue) (d name n : ℕ)
    → record { dir = dir; names = names_of (rows_of dir table.numbers); known = known; room = table.room } ≡ shard
    → d ≡ shard.dir → n ≡ slice_index table.numbers name → get shard.names (d, name) ≡ answer_of n
shard_get dir known table shard d name n view same is =
    ap (λ x. get shard.names (x, name)) same
    ∙ subst (λ (s : ShardValue). get s.names (s.dir, name) ≡ answer_of (slice_index table.numbers name)) view (get_row dir table.numbers name)
    ∙ ap answer_of (sym is)

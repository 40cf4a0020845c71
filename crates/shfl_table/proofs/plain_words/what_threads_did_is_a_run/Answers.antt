use Rattle.shfl_table.proofs.plain_words.what_threads_did_is_a_run.Goals as goal

pub returns : goal.returns
returns g c = record { run = λ t r s rule. rule.run }

-- What the line of the work says: what a pass does, and how often it tries before it queues.
use Rattle.std.specs.Prelude.{ℕ, List, Option, Some, None, nat_lt, ◌||◌, if◌then◌else◌, codes}
use Rattle.doc_text.specs.Words.{same, two, five, ◌>>?◌}
use Rattle.doc_text.specs.Numbers.{number_in}
use Rattle.sim_setup.specs.declared.setup.Work.{Work}
use Rattle.sim_text.specs.declared.setup.Queueing.{Queueing}
use Rattle.sim_text.specs.declared.setup.Queueing.TheVariants.{AtOnce, After, ByPolicy}
use Rattle.policy_text.specs.Rules.{otherwise}
use Rattle.sim_text.specs.Words.{number_next, name_next}

-- `work HOLD LINES THINK READS`: at most 64 lines, and at most 1000 reads of a thousand calls; the passes queue at once
abbrev pub work_alone : List (List ℕ) → Option (Work × Queueing)
work_alone ws = five ws >>? λ w. if same w.0 (codes "work") then
    (number_in 4294967295 w.1 >>? λ hold. number_in 64 w.2 >>? λ lines. number_in 4294967295 w.3 >>? λ think. number_in 1000 w.4 >>? λ reads.
    Some (record { hold = hold; lines = lines; think = think; reads = reads }, AtOnce)) else None

-- the same four numbers behind the name, and what is left
unfoldable pub work_next : List (List ℕ) → Option (Work × List (List ℕ))
work_next ws = number_next ws >>? λ hold. number_next hold.1 >>? λ lines. number_next lines.1 >>? λ think. number_next think.1 >>? λ reads.
    if nat_lt 64 lines.0 || nat_lt 1000 reads.0 then None
    else Some (record { hold = hold.0; lines = lines.0; think = think.0; reads = reads.0 }, reads.1)

-- `N PAUSE`: at most 1000 attempts, and the ticks after the first; or `by-policy PAUSE`
abbrev pub queueing_named : List (List ℕ) → Option Queueing
queueing_named ws = two ws >>? λ w. number_in 4294967295 w.1 >>? λ pause. if same w.0 (codes "by-policy") then Some (ByPolicy pause) else
    (number_in 1000 w.0 >>? λ most. Some (After (record { most = most; pause = pause })))

-- `tries N PAUSE`, or `tries by-policy PAUSE`
abbrev pub tries_named : List (List ℕ) → Option Queueing
tries_named ws = name_next (codes "tries") ws >>? queueing_named

-- `work HOLD LINES THINK READS tries N PAUSE`, or `work HOLD LINES THINK READS tries by-policy PAUSE`
unfoldable pub work_tries : List (List ℕ) → Option (Work × Queueing)
work_tries ws = name_next (codes "work") ws >>? λ left. work_next left >>? λ w. tries_named w.1 >>? λ queueing. Some (w.0, queueing)

abbrev pub work_in : List (List ℕ) → Option (Work × Queueing)
work_in ws = otherwise (work_alone ws) (work_tries ws)

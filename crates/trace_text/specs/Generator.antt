-- The trace that a seed makes, by a linear congruential generator.
use Rattle.std.specs.Prelude.{ℕ, zero, suc, ◌+◌, ◌*◌, ◌/◌, ◌%◌, List, [], ◌∷◌, ◌++◌, Some, None, nat_lt, ◌==◌, if◌then◌else◌, codes}
use Rattle.shfl_line.specs.declared.words.Attr.{Attr}
use Rattle.bpf_isa.specs.declared.insn.Profile.TheVariants as profile
use Rattle.trace_text.specs.Document.{Act, make, drop_name, rename, find, count, next, attach, CallLine, PolicyLine, Document}

-- how many states the generator has
abbrev pub states : ℕ
states = 2147483648

-- the state after a draw
abbrev pub drawn : ℕ → ℕ
drawn x = (x * 1103515245 + 12345) % states

-- the number that a draw gives, from the state after it
abbrev pub number_of : ℕ → ℕ
number_of x = x / 65536

-- `n` and a number below 100 in decimal
abbrev pub name_of : ℕ → List ℕ
name_of k = if nat_lt k 10 then 110 ∷ (48 + k) ∷ [] else 110 ∷ (48 + k / 10) ∷ (48 + k % 10) ∷ []

-- a worker has every so-manieth directory, from its own number on
abbrev pub dir_of : ℕ → ℕ → ℕ → ℕ
dir_of workers worker number = worker + workers * (number % 4)

-- the name that a number stands for, one of 64
abbrev pub drawn_name : ℕ → List ℕ
drawn_name number = name_of ((number / 4) % 64)

-- the call that three numbers make: three of eight are a make, and one each of the other calls
abbrev pub act_drawn : ℕ → ℕ → ℕ → ℕ → ℕ → Act
act_drawn workers worker a b c =
    if nat_lt (a % 8) 3 then make (dir_of workers worker b) (drawn_name b)
    else if a % 8 == 3 then drop_name (dir_of workers worker b) (drawn_name b)
    else if a % 8 == 4 then rename (dir_of workers worker b) (drawn_name b) (dir_of workers worker c) (drawn_name c)
    else if a % 8 == 5 then find (dir_of workers worker b) (drawn_name b)
    else if a % 8 == 6 then count (dir_of workers worker b)
    else next (dir_of workers worker b) (Some (drawn_name b))

-- the attachment before call i, where there is one: of `none` at the first, third and further odd ones
abbrev pub attached : ℕ → List CallLine
attached i =
    if i % 1000 == 500 then record { worker = 0; act = attach (if (i / 1000) % 2 == 0 then codes "none" else codes "socket") } ∷ []
    else []

-- call i, from the states after its three draws
abbrev pub call_drawn : ℕ → ℕ → ℕ → ℕ → ℕ → CallLine
call_drawn workers i first second third =
    record { worker = i % workers; act = act_drawn workers (i % workers) (number_of first) (number_of second) (number_of third) }

-- so many calls from call i and the state x on, with the attachments between them
unfoldable pub calls_from : ℕ → ℕ → ℕ → ℕ → List CallLine
calls_from workers i x zero = []
calls_from workers i x (suc n) =
    attached i ++ call_drawn workers i (drawn x) (drawn (drawn x)) (drawn (drawn (drawn x))) ∷ calls_from workers (suc i) (drawn (drawn (drawn x))) n

-- worker w is on socket 0 or 1
abbrev pub attr_of : ℕ → Attr
attr_of w = record { socket = w % 2; prio = 0; class = 0; kind = 0 }

unfoldable pub workers_from : ℕ → ℕ → List Attr
workers_from w zero = []
workers_from w (suc n) = attr_of w ∷ workers_from (suc w) n

-- the program that prefers waiters of the anchor's socket: 1 where the two sockets are equal, else 0
abbrev pub same_socket : List ℕ
same_socket =
    97 ∷ 18 ∷ 0 ∷ 0 ∷ 0 ∷ 0 ∷ 0 ∷ 0
    ∷ 97 ∷ 17 ∷ 4 ∷ 0 ∷ 0 ∷ 0 ∷ 0 ∷ 0
    ∷ 183 ∷ 0 ∷ 0 ∷ 0 ∷ 1 ∷ 0 ∷ 0 ∷ 0
    ∷ 29 ∷ 33 ∷ 1 ∷ 0 ∷ 0 ∷ 0 ∷ 0 ∷ 0
    ∷ 183 ∷ 0 ∷ 0 ∷ 0 ∷ 0 ∷ 0 ∷ 0 ∷ 0
    ∷ 149 ∷ 0 ∷ 0 ∷ 0 ∷ 0 ∷ 0 ∷ 0 ∷ 0 ∷ []

abbrev pub generated_policies : List PolicyLine
generated_policies =
    record { name = codes "socket"; source = record { should = Some same_socket; skip = None } }
    ∷ record { name = codes "none"; source = record { should = None; skip = None } } ∷ []

abbrev pub generated : ℕ → ℕ → ℕ → Document
generated seed workers calls = record {
  version = 1;
  profile = profile.One;
  workers = workers_from 0 workers;
  policies = generated_policies;
  calls = calls_from workers 0 (seed % states) calls;
}

-- The first words of lines, and which instruction each begins.
use Rattle.std.specs.Prelude.{ℕ, ◌-◌, List, length, take, drop, Option, Some, None, nat_lt, codes, if◌then◌else◌}
use Rattle.bpf_isa.specs.declared.insn.AluOp.{AluOp}
use Rattle.bpf_isa.specs.declared.insn.AluOp.TheVariants as alu
use Rattle.bpf_isa.specs.declared.insn.Cond.{Cond}
use Rattle.bpf_isa.specs.declared.insn.Cond.TheVariants as condition
use Rattle.bpf_isa.specs.declared.insn.Order.TheVariants as order
use Rattle.bpf_isa.specs.declared.insn.Profile.{Profile}
use Rattle.bpf_isa.specs.declared.insn.Profile.TheVariants as profile
use Rattle.bpf_isa.specs.declared.insn.Size.TheVariants as size
use Rattle.bpf_isa.specs.declared.insn.Width.{Width}
use Rattle.bpf_isa.specs.declared.insn.Width.TheVariants as width
use Rattle.bpf_asm.specs.declared.form.Form.{Form}
use Rattle.bpf_asm.specs.declared.form.Form.TheVariants as form
use Rattle.doc_text.specs.Words.{same, ◌>>?◌}

-- the operation of this name
abbrev pub operation_named : List ℕ → Option AluOp
operation_named name =
    if same name (codes "add") then Some alu.Add else
    if same name (codes "sub") then Some alu.Sub else
    if same name (codes "mul") then Some alu.Mul else
    if same name (codes "div") then Some alu.Div else
    if same name (codes "or") then Some alu.Or else
    if same name (codes "and") then Some alu.And else
    if same name (codes "lsh") then Some alu.Lsh else
    if same name (codes "rsh") then Some alu.Rsh else
    if same name (codes "mod") then Some alu.Mod else
    if same name (codes "xor") then Some alu.Xor else
    if same name (codes "mov") then Some alu.Mov else
    if same name (codes "arsh") then Some alu.Arsh else None

-- the condition of this name
abbrev pub condition_named : List ℕ → Option Cond
condition_named name =
    if same name (codes "jeq") then Some condition.Eq else
    if same name (codes "jgt") then Some condition.Gt else
    if same name (codes "jge") then Some condition.Ge else
    if same name (codes "jset") then Some condition.Set else
    if same name (codes "jne") then Some condition.Ne else
    if same name (codes "jsgt") then Some condition.Sgt else
    if same name (codes "jsge") then Some condition.Sge else
    if same name (codes "jlt") then Some condition.Lt else
    if same name (codes "jle") then Some condition.Le else
    if same name (codes "jslt") then Some condition.Slt else
    if same name (codes "jsle") then Some condition.Sle else None

-- the first of the two that there is
abbrev pub or_else : {A : Type 0} → Option A → Option A → Option A
or_else (Some x) other = Some x
or_else None other = other

abbrev pub in_profile_two : {A : Type 0} → Profile → Option A → Option A
in_profile_two profile.One x = None
in_profile_two profile.Two x = x

-- the words without a width
abbrev pub plain_form : List ℕ → Option Form
plain_form word =
    if same word (codes "exit") then Some form.Exit else
    if same word (codes "ja") then Some form.Goto else
    if same word (codes "jal") then Some form.GotoLong else
    if same word (codes "wide") then Some form.Wide else
    if same word (codes "ldb") then Some (form.Load size.B) else
    if same word (codes "ldh") then Some (form.Load size.H) else
    if same word (codes "ldw") then Some (form.Load size.W) else
    if same word (codes "lddw") then Some (form.Load size.DW) else None

-- the words that profile 2 has besides
abbrev pub further_form : List ℕ → Option Form
further_form word =
    if same word (codes "ldsb") then Some (form.LoadSigned size.B) else
    if same word (codes "ldsh") then Some (form.LoadSigned size.H) else
    if same word (codes "ldsw") then Some (form.LoadSigned size.W) else
    if same word (codes "le") then Some (form.Swap order.Little) else
    if same word (codes "be") then Some (form.Swap order.Big) else
    if same word (codes "swap") then Some (form.Swap order.Swap) else None

abbrev pub neg_form : List ℕ → Width → Option Form
neg_form name w = if same name (codes "neg") then Some (form.Neg w) else None

abbrev pub extension_form : List ℕ → Width → Option Form
extension_form name w = if same name (codes "movsx") then Some (form.MovSigned w) else None

-- the words that end with a width
abbrev pub sized_form : Profile → List ℕ → Width → Option Form
sized_form p name w =
    or_else (operation_named name >>? λ op. Some (form.Alu w op))
    (or_else (condition_named name >>? λ c. Some (form.Jump w c))
    (or_else (neg_form name w) (in_profile_two p (extension_form name w))))

-- the width that the last two bytes tell
abbrev pub width_named : List ℕ → Option Width
width_named digits = if same digits (codes "64") then Some width.W64 else if same digits (codes "32") then Some width.W32 else None

abbrev pub with_width : Profile → List ℕ → Option Form
with_width p word =
    if nat_lt (length word) 2 then None
    else width_named (drop (length word - 2) word) >>? λ w. sized_form p (take (length word - 2) word) w

-- the form that a word begins
unfoldable pub form_of : Profile → List ℕ → Option Form
form_of p word = or_else (plain_form word) (or_else (with_width p word) (in_profile_two p (further_form word)))

-- Spelled lines are read back.
use Rattle.std.proofs.Common.{◌≡◌, ℕ, ◌<◌, ◌≤◌, ◌^◌, List, [], ◌∷◌, Option, Some, refl, arith}
use Rattle.std.specs.Prelude.{codes}
use Rattle.std.specs.Fmt.{decimal}
use Rattle.std.proofs.lemmas.Bool.{ne_eqb, lt-ltb}
use Rattle.shfl_line.specs.declared.events.Form.{Form}
use Rattle.shfl_line.specs.declared.events.Form.TheVariants as forms
use Rattle.doc_text.specs.Text.{IsPlain}
use Rattle.doc_text.specs.Words.{words, spaced}
use Rattle.doc_text.proofs.Joining.{decimal-word, same-self}
use Rattle.doc_text.proofs.Counting.{number_in-decimal}
use Rattle.policy_text.proofs.Parts.{IsPart, line-plain, line-words}
use Rattle.shfl_sched.specs.declared.schedule.Act.{Act}
use Rattle.shfl_sched.specs.declared.schedule.Act.TheVariants as acts
use Rattle.shfl_sched.specs.declared.schedule.Event.{Event}
use Rattle.shfl_sched.specs.Schedules.{IsEventOf}
use Rattle.lock_words.specs.Forms.{form_text, form_named, batch_in}
use Rattle.lock_words.specs.Lines.{form_in, limit_in}
use Rattle.shfl_sched.specs.Lines.{act_named, event_in}
use Rattle.shfl_sched.specs.Spelling.{form_line, limit_line, act_word, event_line}
use Rattle.shfl_sched.proofs.Wording.{keyed}

pub keyed-read : {A : Type 0} (word u : List ℕ) (find : List ℕ → Option A) (x : A) → IsPart word → IsPart u → find u ≡ Some x → keyed word find (words (spaced (word ∷ u ∷ []))) ≡ Some x
keyed-read word u find x h k e = rw (line-words word (u ∷ []) (h, (k, tt)), same-self word) e

number-part : (most n : ℕ) → most < 2 ^ 64 → n ≤ most → IsPart (decimal n)
number-part most n small le = decimal-word n (omega (arith, small, le))

-- ---- the form

form_text-part : (f : Form) → IsPart (form_text f)
form_text-part forms.Spin = (refl, refl)
form_text-part forms.Rw = (refl, refl)
form_text-part forms.Park = (refl, refl)
form_text-part forms.RwPark = (refl, refl)

form_named-word : (f : Form) → form_named (form_text f) ≡ Some f
form_named-word forms.Spin = refl
form_named-word forms.Rw = refl
form_named-word forms.Park = refl
form_named-word forms.RwPark = refl

pub form-read : (f : Form) → IsPlain (form_line f) × (form_in (words (form_line f)) ≡ Some f)
form-read f = (line-plain (codes "form" ∷ form_text f ∷ []) ((refl, refl), (form_text-part f, tt)), keyed-read (codes "form") (form_text f) form_named f (refl, refl) (form_text-part f) (form_named-word f))

-- ---- the limit

batch-read : (n : ℕ) → 0 < n → n ≤ 1024 → batch_in (decimal n) ≡ Some n
batch-read n some le = rw (number_in-decimal 1024 n (omega arith) le, ne_eqb n 0 (λ e. omega (arith, e, some))) refl

pub limit-read : (n : ℕ) → 0 < n → n ≤ 1024 → IsPlain (limit_line n) × (limit_in (words (limit_line n)) ≡ Some n)
limit-read n some le =
    let w = number-part 1024 n (omega arith) le in
    (line-plain (codes "limit" ∷ decimal n ∷ []) ((refl, refl), (w, tt)), keyed-read (codes "limit") (decimal n) batch_in n (refl, refl) w (batch-read n some le))

-- ---- the events

act_word-part : (a : Act) → IsPart (act_word a)
act_word-part acts.Write = (refl, refl)
act_word-part acts.Read = (refl, refl)
act_word-part acts.Free = (refl, refl)
act_word-part acts.Step = (refl, refl)

act_named-word : (a : Act) → act_named (act_word a) ≡ Some a
act_named-word acts.Write = refl
act_named-word acts.Read = refl
act_named-word acts.Free = refl
act_named-word acts.Step = refl

pub event-read : (form : Form) (passes : ℕ) (e : Event) → passes ≤ 64 → IsEventOf form passes e → IsPlain (event_line e) × (event_in form passes (words (event_line e)) ≡ Some e)
event-read form passes e few h =
    let below : e.pass ≤ 63 = omega (arith, h.pass, few) in
    let w = number-part 63 e.pass (omega arith) below in (
      line-plain (act_word e.act ∷ decimal e.pass ∷ []) (act_word-part e.act, (w, tt)),
      rw (line-words (act_word e.act) (decimal e.pass ∷ []) (act_word-part e.act, (w, tt)), act_named-word e.act, number_in-decimal 63 e.pass (omega arith) below, lt-ltb e.pass passes h.pass, h.act) refl,
    )

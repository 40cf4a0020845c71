-- The line of an event: `K EVENT P yes|no word W hold H line L hand D role R`, and ` asleep A` behind it where waiters sleep.
use Rattle.std.specs.Prelude.{ℕ, List, [], ◌∷◌, Bool, ◌&&◌, Option, Some, None, if◌then◌else◌, codes}
use Rattle.shfl_line.specs.declared.events.Form.{Form}
use Rattle.doc_text.specs.Words.{words, ◌>>?◌}
use Rattle.line_picture.specs.Columns.{next_in, labelled_in, last_in}
use Rattle.line_picture.specs.Lists.{has_sleepers, is_number, is_pass, is_list, is_waiter, is_holder, is_detached, is_shuffler, is_act, answer_in, lock_in}
use Rattle.line_picture.specs.Reports.{Event, State, Row}

-- a line's first word
abbrev pub head_of : List (List ℕ) → List ℕ
head_of [] = []
head_of (w ∷ ws) = w

abbrev pub first_word : List ℕ → List ℕ
first_word text = head_of (words text)

-- `K EVENT P yes|no`: the event of this number, and the words behind it
unfoldable pub event_in : Form → ℕ → ℕ → List (List ℕ) → Option (Event × List (List ℕ))
event_in form passes number ws =
    next_in ws >>? λ k. next_in k.1 >>? λ e. next_in e.1 >>? λ p. next_in p.1 >>? λ a. answer_in a.0 >>? λ admitted.
    if is_number number k.0 && is_act form e.0 && is_pass passes p.0
    then Some (record { number = k.0; act = e.0; pass = p.0; admitted = admitted }, a.1) else None

-- `role R`, and ` asleep A` where waiters sleep: the shuffler and the sleepers, of which there are none in the other forms
unfoldable pub end_in : Form → List (List ℕ) → Option (List ℕ × List ℕ)
end_in form ws =
    if has_sleepers form then (labelled_in (codes "role") ws >>? λ r. last_in (codes "asleep") r.1 >>? λ a. Some (r.0, a))
    else (last_in (codes "role") ws >>? λ r. Some (r, codes "-"))

-- `word W hold H line L hand D role R`, and ` asleep A` where waiters sleep, with nothing asked of the columns but W
unfoldable pub columns_in : Form → List (List ℕ) → Option State
columns_in form ws =
    labelled_in (codes "word") ws >>? λ w. labelled_in (codes "hold") w.1 >>? λ h. labelled_in (codes "line") h.1 >>? λ q.
    labelled_in (codes "hand") q.1 >>? λ d. end_in form d.1 >>? λ r. lock_in w.0 >>? λ lock.
    Some (record { lock = lock; holders = h.0; queue = q.0; detached = d.0; shuffler = r.0; asleep = r.1 })

-- each column is well written
unfoldable pub is_sound : Form → ℕ → State → Bool
is_sound form passes s = is_list (is_holder form passes) s.holders && is_list (is_waiter passes) s.queue
    && is_detached passes s.detached && is_shuffler passes s.shuffler && is_list (is_pass passes) s.asleep

-- the line of the event of this number, in a lock of this form with so many passes
unfoldable pub row_in : Form → ℕ → ℕ → List ℕ → Option Row
row_in form passes number text =
    event_in form passes number (words text) >>? λ e. columns_in form e.1 >>? λ s.
    if is_sound form passes s then Some (record { line = text; event = e.0; state = s }) else None

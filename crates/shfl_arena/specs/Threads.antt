-- What is known of a thread: at which lock it has a step to make, and which locks it holds at rest.
use Rattle.std.specs.Prelude.{◌≡◌, ◌⊎◌, ℕ, suc, ◌==◌, Bool, false, cond, List, [], ◌∷◌, Option, Some, None, slice_index_or}
use Rattle.shfl_line.specs.declared.events.Mode.{Mode}
use Rattle.shfl_core.specs.declared.phase.Phase.TheVariants.{Held}
use Rattle.shfl_core.specs.declared.phase.Nap.TheVariants.{Awake}
use Rattle.shfl_core.specs.declared.phase.PassState.{PassState}
use Rattle.shfl_core.specs.Plan.{moving, is_held}
use Rattle.shfl_core.specs.Waiting.{idle, blank}
use Rattle.shfl_arena.specs.declared.view.ThreadView.{ThreadView}
use Rattle.shfl_arena.specs.Nodes.{uses_node}

-- a thread that did nothing; one that isn't there counts as such
abbrev pub new_thread : ThreadView
new_thread = record { at = None; pass = idle 0; holds = [] }

abbrev pub thread_at : List ThreadView → ℕ → ThreadView
thread_at threads k = slice_index_or threads k new_thread

-- this is the lock where the thread has a step to make
abbrev pub is_at : ℕ → Option ℕ → Bool
is_at l None = false
is_at l (Some m) = m == l

-- the thread may make a step at the lock l: it has one to make there, or none anywhere
abbrev pub MayStepAt : ℕ → ThreadView → Type 0
MayStepAt l v = (v.at ≡ None) ⊎ (v.at ≡ Some l)

-- a node is in use by a thread that is there, with this pass
abbrev pub node_in_use : Option ℕ → PassState → Bool
node_in_use None q = false
node_in_use (Some l) q = uses_node q

abbrev pub uses_own_node : ThreadView → Bool
uses_own_node v = node_in_use v.at v.pass

-- a holder that has no step to make: of its registers only the number and the mode count
abbrev pub resting : ℕ → Mode → PassState
resting k m = record { phase = Held; reg = record (blank k) { mode = m }; nap = Awake }

-- the mode in which the lock l is held, by the list of the locks that are
abbrev pub mode_held : ℕ → List (ℕ × Mode) → Option Mode
mode_held l [] = None
mode_held l (x ∷ xs) = cond (x.0 == l) (Some x.1) (mode_held l xs)

abbrev pub without_lock : ℕ → List (ℕ × Mode) → List (ℕ × Mode)
without_lock l [] = []
without_lock l (x ∷ xs) = cond (x.0 == l) (without_lock l xs) (x ∷ without_lock l xs)

-- the pass of the thread k at a lock where it has no step to make: it holds the lock, or does nothing there
abbrev pub pass_at_rest : ℕ → Option Mode → PassState
pass_at_rest k None = idle k
pass_at_rest k (Some m) = resting k m

-- the pass of the thread k at the lock l
abbrev pub pass_at : ℕ → ℕ → ThreadView → PassState
pass_at l k v = cond (is_at l v.at) v.pass (pass_at_rest k (mode_held l v.holds))

-- the passes at the lock l of these threads, the first of which has the number k
abbrev pub passes_from : ℕ → ℕ → List ThreadView → List PassState
passes_from l k [] = []
passes_from l k (v ∷ vs) = pass_at l k v ∷ passes_from l (suc k) vs

-- the locks that are held once a pass at the lock l has come to rest
abbrev pub holds_after : ℕ → PassState → List (ℕ × Mode) → List (ℕ × Mode)
holds_after l q holds = cond (is_held q.phase) ((l, q.reg.mode) ∷ without_lock l holds) (without_lock l holds)

-- the thread after an operation at the lock l that led its pass to q: it is there while it has a step to make
abbrev pub thread_after : ℕ → PassState → ThreadView → ThreadView
thread_after l q v = cond (moving q) (record v { at = Some l; pass = q }) (record v { at = None; holds = holds_after l q v.holds })

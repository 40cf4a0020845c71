-- `ticket_of` lends what the handle owns, and the handle follows it.
use Rattle.std.proofs.Common.{◌≡◌, ℕ, List, [], ◌∷◌, ◌++◌, refl, sym, subst, ap}
use seplogic.Ra.Ura.{Ura}
use base.Fraction.{full_share}
use mir.Syntax.{Fn, Body, named, seq, assign, return, place, copy, rv_opd}
use mir.Raw.{raw as bare}
use mir.Val.{Val, vptr, vstruct, vcons, vnil, of_list}
use base.Logic.{SProp, ent, sep, never, fst∗, id⊢}
use base.Fml.{Lft, Share, GName, Fml, ftrue, fsep, flft}
use prog.Wp.{Env, WpFn}
use types.Logic.{Logic, sem}
use types.Kit.{‵, raw, ◌⊛◌, some, later, at_ret, ◌$◌, ◌∵◌, !, qed, by, move, keep, drop, use1, join, split, group, pick, rewrite, fsplit, fsplit3, fjoin, fpick, fpack, feq_l, feq_i, suffices, frame, await, done}
use types.Part.{whole, sub, look_in}
use types.Run.{stop, fld, addr, load, of_opd, first, blocks, exec, returns, enter}
use types.ByLocal.{alloc_all, pass_all, free_all, look_at, get, through, sets, sets_last, env}
use contract.Monad.{fact}
use contract.Running.{tables}
use denote.RattleType.{RattleType, owns, Valss}
use denote.Builtin.{RawPtr, RefMutOf}
use denote.Exit.{no}
use denote.Follow.{follows, Part, lends_Part}
use denote.Memory.{part_at, part_of, lone, mem, cell_at}
use denote.RawPtr.{Ptr, block_ptr, null_ptr, ptr_val, in_a_block}
use denote.Ref.{MutRef, mut_vals, mut_Tells}
use denote.Signature.{plain, types_at}
use denote.Steps.{opens, heard, nothing}
use denote.Struct.Struct.{within}
use denote.Struct.Owning.{shape}
use denote.Triple.Walked.{says, Stays, stay_dropped, walk_of, ends_at, Goes-spent_ref}
use Rattle.std.proofs.alloc.Calls.{handle_tells}
use Rattle.std.proofs.raw_atomic.Walks.{proved}
use Rattle.std_alloc.specs.Box.Ownership.{box_owns}
use Rattle.std_heap.specs.contracts.GlobalAllocator.TheImpl.{ghosts}
use Rattle.boxed_handle.proofs.AtGlobal.{at_global}
use Rattle.boxed_handle.proofs.Words.{Of}
use Rattle.boxed_handle.specs.contracts.Handle as handle
use Rattle.shfl_seats.specs.Tickets.{TicketModel}
use Rattle.shfl_seats.specs.contracts.ticket.SeatTicket as ticket
use Rattle.shfl_seats_c.specs.declared.handle.ShflSeat.{ShflSeat}
use Rattle.shfl_seats_c.specs.Lent.{with_ticket}
use Rattle.shfl_seats_c.specs.contracts.handle.ShflSeat as sealed
use Rattle.shfl_seats_c.specs.contracts.lent.ticket_of as F
use Rattle.shfl_seats_c.specs.contracts.lent.ticket_of.Key.{name as #self}
use Rattle.shfl_seats_c.proofs.lent.ticket_of.Statement.{statement}
use Rattle.shfl_seats_c.proofs.lent.ticket_of.Code as code

abbrev R : RattleType
R = ticket.the_row

abbrev B : RattleType
B = sealed.the_row

abbrev rest : Body
rest = seq (assign (place 0 []) (rv_opd (copy (place 2 [])))) return

abbrev word : ℕ → ℕ → Val → Val
word b o hv = vstruct (vcons (vptr b o) (vcons hv vnil))

module _ {M : Type 1} {𝓤 : Ura M} (𝓛 : Logic 𝓤) (d : ShflSeat) (rb ro b o : ℕ) (hv : Val) where
  -- all of the handle but its ticket
  abbrev Rest : Fml
  Rest = fsep (fsep (ghosts.dealloc_token d.alloc (bare (lone R.mir)) (block_ptr b o)) (at_global.row.own_val d.alloc (hv ∷ []))) (cell_at full_share B.mir (word b o hv ∷ []) rb ro)

  back : d.at ≡ block_ptr b o → (w : TicketModel) → ent 𝓤 (sep 𝓤 (sem 𝓛 ((mem R).own_at w b o)) (sem 𝓛 Rest)) (sem 𝓛 ((mem B).own_at (with_ticket d w) rb ro))
  unfolding part_of
  back e w =
      qed 𝓛 (‵ (part_at R full_share w b o) ∷ ‵ Rest ∷ []) ∵ move ! (1 ∷ []) $ fsplit ! $ fsplit ! $ move ! (3 ∷ 0 ∷ []) $ fjoin ! $
      rewrite ! 0 (λ (p : Ptr). ‵ (box_owns (ghosts.dealloc_token d.alloc) R p w)) (sym e) refl $ nothing ! $ move ! (2 ∷ 0 ∷ []) $ fjoin ! $
      feq_i ! (List Val) (vptr b o ∷ []) (ptr_val d.at ∷ []) (ap (λ (p : Ptr). ptr_val p ∷ []) (sym e)) $ fjoin ! $ feq_i ! (List Val) (word b o hv ∷ []) (word b o hv ∷ []) refl $ fjoin ! $
      fpack ! (Valss (RawPtr ∷ at_global.row ∷ [])) (within (shape (handle.the_type R at_global.row at_global.g)) (d.at, (d.alloc, tt)) (word b o hv ∷ [])) (vptr b o ∷ [], (hv ∷ [], tt)) $ fjoin ! $
      use1 𝓛 (‵ (B.own_val (with_ticket d w) (word b o hv ∷ []))) (id⊢ 𝓤 _) $ move ! (1 ∷ 0 ∷ []) $ fjoin ! $
      fpack ! (List Val) (λ us. fsep (cell_at full_share B.mir us rb ro) (B.own_val (with_ticket d w) us)) (word b o hv ∷ []) $ done !

pub ticket_of_spec : {M : Type 1} → statement M
ticket_of_spec 𝓤 𝓛 𝓜 𝓡 wired =
    let H = 𝓛.H in let A = 𝓛.A in let 𝓣 = tables 𝓤 H 𝓜 𝓡 𝓡.env in let En = F.ended in let fn : Fn = code.function in let c = F.clauses 𝓛 𝓜.mem 𝓡.returns in
    let hs : Stays En.signature.params En.kept = (stay_dropped (RefMutOf (0 ∷ []) tt (plain (λ _. B)) (λ _. tt)) no, tt) in
    proved 𝓛 En hs c 𝓜 𝓡 (Goes-spent_ref 𝓛 1 (0 ∷ []) tt (plain (λ _. B)), tt) #self fn (code.unfolded 𝓤 H 𝓜 𝓡 wired)
    (λ κs. (mut_vals, tt)) (λ κs. (mut_Tells (named 0) κs.0 B, tt)) (λ κs qs bounds a gh are.
    let κ : Lft = κs.0 in let q : Share = qs.0 in let rb : ℕ = a.0.ref_ptr.0 in let ro : ℕ = a.0.ref_ptr.1 in let γ : ℕ = a.0.ghost_name in let d : ShflSeat = a.0.now in
    let y : (walk_of 𝓛 En hs c).Ghost = ((κs, qs, bounds, a, (vptr rb ro ∷ [], tt)), gh) in let Post : Val → SProp 𝓤 = (walk_of 𝓛 En hs c).post y in
    let Full : Type 0 = (x : TicketModel) × (d.tickets ≡ x ∷ []) in
    qed 𝓛 (((‵ (flft κ q) ⊛ ‵ ftrue) ⊛ ‵ (owns (types_at En.signature.params κs) a y.0.4)) ∷ raw (fact 𝓤 Full) ∷ []) ∵ move ! (1 ∷ []) $ heard ! Full (λ f. let x : TicketModel = f.0 in split ! $
    enter ! 𝓣.C 𝓣.Λ fn (vptr rb ro ∷ []) Post $ alloc_all ! (λ l. pass_all ! refl ((tt, tt), tt) $ let Ev : Env 𝓤 H = env fn.locals l in
    move ! (1 ∷ []) $ fsplit ! $ fsplit3 ! $ drop ! $ move ! (3 ∷ []) $ split ! $ move ! (2 ∷ 3 ∷ 0 ∷ []) $
    opens ! tt B {h = d} rb ro (λ vs. move ! (1 ∷ []) $ rewrite ! 0 (λ (xs : List TicketModel). ‵ (B.own_val (record { at = d.at; alloc = d.alloc; tickets = xs }) vs)) f.1 refl $
    use1 𝓛 (‵ ((Of R at_global).own_val (record { at = d.at; alloc = d.alloc; owned = x ∷ [] }) vs)) (id⊢ 𝓤 _) $ fsplit ! $ fpick ! (λ vss. fsplit ! $ feq_l ! (λ ev. fsplit ! $ feq_l ! (λ ep. fsplit ! $ handle_tells at_global ! d.alloc vss.1.0 (λ hv ea fits. move ! (1 ∷ []) $ drop ! $ move ! (1 ∷ []) $
    in_a_block ! d.at (λ (p : Ptr). box_owns (ghosts.dealloc_token d.alloc) R p x) (fst∗ 𝓤 (never 𝓤) (sem 𝓛 (ghosts.dealloc_token d.alloc (bare (lone R.mir)) null_ptr))) (λ b o e. fsplit ! $
    let ws : vs ≡ word b o hv ∷ [] = subst (λ (p : Ptr). vs ≡ vstruct (of_list (ptr_val p ∷ hv ∷ [])) ∷ []) e
    (subst (λ (us : List Val). vs ≡ vstruct (of_list (ptr_val d.at ∷ (us ++ []))) ∷ []) ea (subst (λ (ps : List Val). vs ≡ vstruct (of_list (ps ++ (vss.1.0 ++ []))) ∷ []) ep ev)) in
    -- [the ticket; the right to free it, with the allocator; the word; the open borrow; obs; auth]
    move ! (1 ∷ 2 ∷ []) $ fjoin ! $ move ! (1 ∷ 0 ∷ []) $ rewrite ! 2 (λ (us : List Val). ‵ (cell_at full_share B.mir us rb ro)) ws refl $
    first ! $ blocks ! $ sets ! (of_opd ! (load ! (through ! refl (fld ! refl (stop !))) (look_in ! 2 (sub ! 0 refl (whole !))))) refl (tt, tt) $
    sets ! (of_opd ! (get ! refl)) refl (tt, tt) $ sets_last ! (addr ! (through ! refl (stop !))) refl (tt, tt) $ exec ! 𝓣.C 𝓣.Λ Ev rest (at_ret Ev Post) $ sets ! (of_opd ! (get ! refl)) refl (tt, tt) $
    move ! (1 ∷ 2 ∷ []) $ fjoin ! $ move ! (2 ∷ 3 ∷ 4 ∷ 1 ∷ 0 ∷ []) $ group ! 5 $ let S : SProp 𝓤 = sem 𝓛 (Rest 𝓛 d rb ro b o hv) in
    use1 𝓛 (later (some (λ (γ' : GName). raw (Part 𝓛 B R (with_ticket d) (named 0) κ q rb ro b o γ S (back 𝓛 d rb ro b o hv e) x γ'))))
    (lends_Part 𝓛 B R (with_ticket d) (named 0) κ q rb ro b o γ S (back 𝓛 d rb ro b o hv e) (B.coded.code d) (B.coded.code d) x) $ await ! tt $ pick ! (λ γ'.
    returns ! (look_at ! 0 refl) $ free_all ! refl $ keep ! (0 ∷ []) $ by !
    (qed 𝓛 (‵ ((MutRef (named 0) κ R).own_val (record { ref_ptr = (b, o); ghost_name = γ'; now = x }) (vptr b o ∷ [])) ∷ ‵ (flft κ q) ∷ ‵ (follows B R γ γ' (with_ticket d)) ∷ []) ∵
    suffices ! _ (ends_at 𝓛 En hs c y (vptr b o) (record { ref_ptr = (b, o); ghost_name = γ'; now = x }) (tt, tt) (tt, tt)) $
    nothing ! $ nothing ! $ fjoin ! $ join ! $ nothing ! $ move ! (2 ∷ 0 ∷ []) $ join ! $ join ! $ frame ! $ says ! f.1 $ done !)))))))))))
